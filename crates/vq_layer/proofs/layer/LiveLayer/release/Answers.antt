use Rattle.std.proofs.Common.{◌≡◌, List, length, drop, sym, ◌∙◌, ap, subst, arith}
use Rattle.std.proofs.lemmas.List.{length-set}
use Rattle.vq_ground.proofs.Gets.{whole_new}
use Rattle.vq_live.specs.Live.{Live}
use Rattle.vq_layer.specs.Layer.{AreBare}
use Rattle.vq_layer.specs.Queues.{next_batch, timelines_released}
use Rattle.vq_layer.proofs.Bare.{bare_released, count_released}
use Rattle.vq_layer.proofs.layer.LiveLayer.release.Goals as goal

pub invariant_of-self : goal.invariant_of-self
invariant_of-self c =
    let ts = c.self.inside.timelines.items in
    let b = next_batch c.index_mut.result.now in
    let now : c.release.new.timelines ≡ timelines_released ts b =
    c.release.ensures.released ∙ ap (λ (us : List Live). timelines_released us b) c.deref_mut.ensures.value in
    let count = ap length now ∙ count_released ts b in
    let size = c.self.inside.timelines.ok.0 in
    let written = whole_new c.self.inside.timelines.len c.release.new.timelines (drop (length c.release.new.timelines) ts) (omega arith) in
    let items = written ∙ now in
    let total = ap length items ∙ count_released ts b in
    let same = c.self.invariant.same in
    let few = c.self.invariant.few in
    let few_queues = c.self.invariant.few_queues in
    let queues = length-set c.self.inside.queues.items c.args.queue c.release.new.self in
    record {
      bare = subst AreBare (sym items) (bare_released ts b c.self.invariant.bare);
      same = same ∙ sym total;
      few = omega arith;
      few_queues = omega arith;
      few_waits = c.self.invariant.few_waits;
    }
