use Rattle.std.proofs.Common.{◌≡◌, List, length, drop, sym, ◌∙◌, ap, subst, arith}
use Rattle.std.proofs.lemmas.List.{length-set}
use Rattle.vq_ground.proofs.Gets.{whole_new}
use Rattle.vq_live.specs.Live.{Live}
use Rattle.vq_layer.specs.Layer.{AreBare}
use Rattle.vq_layer.specs.Queues.{oldest, timelines_finished}
use Rattle.vq_layer.proofs.Bare.{bare_finished, count_finished}
use Rattle.vq_layer.proofs.layer.LiveLayer.finish.Goals as goal

pub invariant_of-self-in-Some : goal.invariant_of-self-in-Some
invariant_of-self-in-Some c =
    let ts = c.self.inside.timelines.items in
    let o = oldest c.index_mut.result.now in
    let now : c.finish.new.timelines ≡ timelines_finished ts o =
    c.finish.ensures.returned ∙ ap (λ (us : List Live). timelines_finished us o) c.deref_mut.ensures.value in
    let count = ap length now ∙ count_finished ts o in
    let size = c.self.inside.timelines.ok.0 in
    let written = whole_new c.self.inside.timelines.len c.finish.new.timelines (drop (length c.finish.new.timelines) ts) (omega arith) in
    let items = written ∙ now in
    let total = ap length items ∙ count_finished ts o in
    let same = c.self.invariant.same in
    let few = c.self.invariant.few in
    let few_queues = c.self.invariant.few_queues in
    let few_waits = c.self.invariant.few_waits in
    let less = c.saturating_sub-self-inside.ensures in
    let queues = length-set c.self.inside.queues.items c.args.queue c.finish.new.self in
    record {
      bare = subst AreBare (sym items) (bare_finished ts o c.self.invariant.bare);
      same = same ∙ sym total;
      few = omega arith;
      few_queues = omega arith;
      few_waits = omega arith;
    }
