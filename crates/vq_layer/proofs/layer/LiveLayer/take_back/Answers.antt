use Rattle.std.proofs.Common.{◌≡◌, List, length, drop, take, ◌++◌, sym, ◌∙◌, ap, subst, arith}
use Rattle.std.proofs.lemmas.List.{length-set}
use Rattle.vq_ground.proofs.Gets.{whole_new}
use Rattle.vq_live.specs.Live.{Live}
use Rattle.vq_layer.specs.Layer.{AreBare}
use Rattle.vq_layer.specs.Queues.{newest}
use Rattle.vq_layer.specs.Installs.{cancelled_all}
use Rattle.vq_layer.proofs.Bare.{bare_cancelled, count_cancelled}
use Rattle.vq_layer.proofs.layer.LiveLayer.take_back.Goals as goal

pub invariant_of-self : goal.invariant_of-self
invariant_of-self c =
    let ts = c.self.inside.timelines.items in
    let ss = (newest c.index_mut.result.now).signals in
    let now : c.take_back-batch.new.timelines ≡ cancelled_all ts ss =
    c.take_back-batch.ensures.cancelled ∙ ap (λ (us : List Live). cancelled_all us ss) c.deref_mut.ensures.value in
    let count = ap length now ∙ count_cancelled ts ss in
    let size = c.self.inside.timelines.ok.0 in
    let items = whole_new c.self.inside.timelines.len c.take_back-batch.new.timelines (drop (length c.take_back-batch.new.timelines) ts) (omega arith) ∙ now in
    let total = ap length items ∙ count_cancelled ts ss in
    let ks = c.self.inside.kinds in
    let size_k = ks.ok.0 in
    let first = c.uncount_signals.auto.kinds in
    let first_was = ap length c.deref_mut-2.ensures.value in
    let first_now = whole_new ks.len c.uncount_signals.new.kinds (drop (length c.uncount_signals.new.kinds) ks.items) (omega arith) in
    let first_size = ap length first_now in
    let second = c.uncount_waits.auto.kinds in
    let second_was = ap length c.deref_mut-3.ensures.value in
    let second_now = whole_new ks.len c.uncount_waits.new.kinds (drop (length c.uncount_waits.new.kinds) (take ks.len (c.uncount_signals.new.kinds ++ drop (length c.uncount_signals.new.kinds) ks.items))) (omega arith) in
    let second_size = ap length second_now in
    let same = c.self.invariant.same in
    let few = c.self.invariant.few in
    let few_queues = c.self.invariant.few_queues in
    let few_waits = c.self.invariant.few_waits in
    let less = c.saturating_sub-self-inside.ensures in
    let queues = length-set c.self.inside.queues.items c.args.queue c.take_back-batch.new.self in
    record {
      bare = subst AreBare (sym items) (bare_cancelled ts ss c.self.invariant.bare);
      same = omega arith;
      few = omega arith;
      few_queues = omega arith;
      few_waits = omega arith;
    }
