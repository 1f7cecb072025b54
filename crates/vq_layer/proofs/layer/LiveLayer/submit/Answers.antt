use Rattle.std.proofs.Common.{◌≡◌, List, length, drop, take, ◌++◌, None, sym, ◌∙◌, ap, subst, arith}
use Rattle.std.proofs.lemmas.List.{length-set}
use Rattle.vq_ground.proofs.Gets.{whole_new}
use Rattle.vq_live.specs.Live.{Live}
use Rattle.vq_layer.specs.declared.answers.Kind.{Kind}
use Rattle.vq_layer.specs.Layer.{AreBare}
use Rattle.vq_layer.specs.Names.{first_signal_fault, signals_named}
use Rattle.vq_layer.specs.Takes.{AreApart, AreKnown, taken_all}
use Rattle.vq_layer.proofs.Apart.{apart_named, known_named}
use Rattle.vq_layer.proofs.Bare.{bare_taken, count_taken}
use Rattle.vq_layer.proofs.layer.LiveLayer.submit.Goals as goal

pub first_take_fault-requires : goal.first_take_fault-requires
first_take_fault-requires c =
    let ks = c.self.inside.kinds.items in
    let none : first_signal_fault ks c.args.waits.now c.args.signals.now ≡ None =
    ap (λ (kinds : List Kind). first_signal_fault kinds c.args.waits.now c.args.signals.now) (sym c.deref-2.ensures.value) ∙ sym c.first_signal_fault.ensures ∙ c.in_default-first_signal_fault.is in
    let list : c.deref-5.result.now ≡ signals_named ks c.args.signals.now =
    c.deref-5.ensures.value ∙ c.in-Ok.ensures ∙ ap (λ (kinds : List Kind). signals_named kinds c.args.signals.now) c.deref-3.ensures.value in
    record {
      known = subst (AreKnown c.deref-4.result.now) (sym list)
          (known_named c.deref-4.result.now ks c.args.waits.now c.args.signals.now (c.self.invariant.same ∙ ap length (sym c.deref-4.ensures.value)) none);
    }

pub submit-requires-clause-apart : goal.submit-requires-clause-apart
submit-requires-clause-apart c =
    let list : c.deref-7.result.now ≡ signals_named c.deref-3.result.now c.args.signals.now = c.deref-7.ensures.value ∙ c.in-Ok.ensures in
    subst AreApart (sym list) (apart_named c.deref-3.result.now c.args.signals.now)

pub submit-requires-clause-known : goal.submit-requires-clause-known
submit-requires-clause-known c =
    let ks = c.self.inside.kinds.items in
    let none : first_signal_fault ks c.args.waits.now c.args.signals.now ≡ None =
    ap (λ (kinds : List Kind). first_signal_fault kinds c.args.waits.now c.args.signals.now) (sym c.deref-2.ensures.value) ∙ sym c.first_signal_fault.ensures ∙ c.in_default-first_signal_fault.is in
    let list : c.deref-7.result.now ≡ signals_named ks c.args.signals.now =
    c.deref-7.ensures.value ∙ c.in-Ok.ensures ∙ ap (λ (kinds : List Kind). signals_named kinds c.args.signals.now) c.deref-3.ensures.value in
    subst (AreKnown c.deref_mut.result.now) (sym list)
    (known_named c.deref_mut.result.now ks c.args.waits.now c.args.signals.now (c.self.invariant.same ∙ ap length (sym c.deref_mut.ensures.value)) none)

pub invariant_of-self-2 : goal.invariant_of-self-2
invariant_of-self-2 c =
    let ts = c.self.inside.timelines.items in
    let ws = c.deref-7.result.now in
    let now : c.submit.new.timelines ≡ taken_all ts ws =
    c.in_ok-submit.ensures.taken ∙ ap (λ (us : List Live). taken_all us ws) c.deref_mut.ensures.value in
    let count = ap length now ∙ count_taken ts ws in
    let size = c.self.inside.timelines.ok.0 in
    let items = whole_new c.self.inside.timelines.len c.submit.new.timelines (drop (length c.submit.new.timelines) ts) (omega arith) ∙ now in
    let total = ap length items ∙ count_taken ts ws in
    let ks = c.self.inside.kinds in
    let size_k = ks.ok.0 in
    let first = c.count_waits.auto.kinds in
    let first_was = ap length c.deref_mut-2.ensures.value in
    let first_now = whole_new ks.len c.count_waits.new.kinds (drop (length c.count_waits.new.kinds) ks.items) (omega arith) in
    let first_size = ap length first_now in
    let second = c.count_signals.auto.kinds in
    let second_was = ap length c.deref_mut-3.ensures.value in
    let second_now = whole_new ks.len c.count_signals.new.kinds (drop (length c.count_signals.new.kinds) (take ks.len (c.count_waits.new.kinds ++ drop (length c.count_waits.new.kinds) ks.items))) (omega arith) in
    let second_size = ap length second_now in
    let same = c.self.invariant.same in
    let few = c.self.invariant.few in
    let few_queues = c.self.invariant.few_queues in
    let few_waits = c.self.invariant.few_waits in
    let most = c.if-waits-self.false in
    let queues = length-set c.self.inside.queues.items c.args.queue c.submit.new.self in
    record {
      bare = subst AreBare (sym items) (bare_taken ts ws c.self.invariant.bare);
      same = omega arith;
      few = omega arith;
      few_queues = omega arith;
      few_waits = omega arith;
    }
