use Rattle.std.proofs.Common.{◌≡◌, sym, None, rules, subst}
use Rattle.vq_capture_check.specs.SiteMaps.{sites_of}
use Rattle.vq_capture_check.specs.declared.sites.Site.{Site}
use Rattle.vq_capture_check.specs.declared.sites.Site.TheVariants.{OnQueue, OnThread}
use Rattle.vq_capture_check.specs.PastSites.{numbered}
use Rattle.vq_capture_check.specs.Sites.{site_number, with_site}
use Rattle.vq_capture_check.proofs.SitesAdded.{number_new, not_found}
use Rattle.vq_capture_check.proofs.numbered_sites.NumberedSites.number.Goals as goal

pub returns-in_ok-add_queue-in-OnQueue : goal.returns-in_ok-add_queue-in-OnQueue
returns-in_ok-add_queue-in-OnQueue c =
    let none : None ≡ numbered (sites_of c.args.self.now) (OnQueue c.in-OnQueue.queue) = search rules in
    subst (λ (t : Site). (sites_of c.add_queue.new.self ≡ with_site (sites_of c.args.self.now) t) × (c.in_ok-add_queue-in-OnQueue.field-0 ≡ site_number (sites_of c.add_queue.new.self) t)) (sym c.in-OnQueue.is)
    (number_new (sites_of c.args.self.now) (sites_of c.add_queue.new.self) (OnQueue c.in-OnQueue.queue) c.in_ok-add_queue-in-OnQueue.field-0
    (not_found (sites_of c.args.self.now) (OnQueue c.in-OnQueue.queue) none) c.in_ok-add_queue-in-OnQueue.ensures.0 c.in_ok-add_queue-in-OnQueue.ensures.1)

pub returns-in_ok-add_thread-in-OnThread : goal.returns-in_ok-add_thread-in-OnThread
returns-in_ok-add_thread-in-OnThread c =
    let none : None ≡ numbered (sites_of c.args.self.now) (OnThread c.in-OnThread.thread) = search rules in
    subst (λ (t : Site). (sites_of c.add_thread.new.self ≡ with_site (sites_of c.args.self.now) t) × (c.in_ok-add_thread-in-OnThread.field-0 ≡ site_number (sites_of c.add_thread.new.self) t)) (sym c.in-OnThread.is)
    (number_new (sites_of c.args.self.now) (sites_of c.add_thread.new.self) (OnThread c.in-OnThread.thread) c.in_ok-add_thread-in-OnThread.field-0
    (not_found (sites_of c.args.self.now) (OnThread c.in-OnThread.thread) none) c.in_ok-add_thread-in-OnThread.ensures.0 c.in_ok-add_thread-in-OnThread.ensures.1)
