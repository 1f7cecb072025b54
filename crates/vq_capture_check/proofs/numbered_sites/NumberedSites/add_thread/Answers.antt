use Rattle.std.proofs.Common.{◌≡◌, ◌∙◌, ◌+◌, ◌++◌, ◌∷◌, [], ℕ, List, ap, sym, subst, rules}
use Rattle.std.specs.declared.snapshot.Snapshot.{Snapshot}
use Rattle.vq_capture_check.specs.declared.past_sites.PastSites.{PastSites}
use Rattle.vq_capture_check.specs.declared.sites.Site.{Site}
use Rattle.vq_capture_check.specs.declared.sites.Site.TheVariants.{OnThread}
use Rattle.vq_capture_check.specs.PastSites.{AreNumbered, sites_before}
use Rattle.vq_capture_check.proofs.SitesAdded.{thread_added}
use Rattle.vq_capture_check.proofs.numbered_sites.NumberedSites.add_thread.Goals as goal

pub invariant_of-self-2 : goal.invariant_of-self-2
invariant_of-self-2 c = record {
  told =
      let more : c.args.self.now.thread_count + 1 ≡ c.in-Some.count = search rules in
      let past : sites_before c.args.self.now.past.value ++ OnThread c.args.thread ∷ [] ≡ sites_before c.sites_with.result.value =
      ap (λ (x : Snapshot PastSites). sites_before x.value ++ OnThread c.args.thread ∷ []) (sym c.replace-before.ensures.value) ∙ sym c.sites_with.ensures in
      subst (λ (ts : List Site). AreNumbered ts c.args.self.now.queues c.insert.new.self c.args.self.now.queue_count c.in-Some.count) past
      (subst (λ (n : ℕ). AreNumbered (sites_before c.args.self.now.past.value ++ OnThread c.args.thread ∷ []) c.args.self.now.queues c.insert.new.self c.args.self.now.queue_count n) more
      (thread_added (sites_before c.args.self.now.past.value) c.args.self.now.queues c.args.self.now.threads c.args.self.now.queue_count c.args.self.now.thread_count c.args.self.now.told
      c.args.thread c.insert.new.self c.requires c.in_ok-insert.ensures.updates.0));
}
