use Rattle.std.proofs.Common.{◌≡◌, ◌∙◌, Some, ap, get_or, refl, sym, arith, subst, true, take, List, ℕ}
use Rattle.std.specs.Option.{option_map}
use Rattle.std.proofs.lemmas.Bool.{false≢true}
use Rattle.std.proofs.lemmas.List.{take_all}
use Rattle.vq_model.specs.Plan.{Plan, signals_of}
use Rattle.vq_ground.specs.Lists.{has}
use Rattle.vq_order.proofs.BusyLaws.{of_signal, signal_exists, signal_here}
use Rattle.vq_order.proofs.busy.is_in_use.Goals as goal

pub op-requires : goal.op-requires
op-requires c =
    signal_exists c.args.order.now c.plan.ensures.complete.plan c.args.naming c.signals_of-op-items.result.now
    (c.signals_of-op-items.ensures ∙ ap (λ (q : Plan). signals_of q c.args.naming) c.plan.ensures.value)
    c.loop-op.op-index c.loop-op-test.true

pub is_sure-requires-clause-first : goal.is_sure-requires-clause-first
is_sure-requires-clause-first c =
    signal_exists c.args.order.now c.plan.ensures.complete.plan c.args.naming c.signals_of-op-items.result.now
    (c.signals_of-op-items.ensures ∙ ap (λ (q : Plan). signals_of q c.args.naming) c.plan.ensures.value)
    c.loop-op.op-index c.loop-op-test.true

pub returns-then-not-is_sure : goal.returns-then-not-is_sure
returns-then-not-is_sure c = (
  λ t. record {
    op = get_or c.signals_of-op-items.result.now c.loop-op.op-index 0;
    in_chain = ap (option_map (λ o. o.chain)) c.op.ensures.value ∙ ap Some c.if-op-fence.true;
    of_job = of_signal c.args.order.now c.plan.ensures.complete.plan c.args.naming c.signals_of-op-items.result.now
        (c.signals_of-op-items.ensures ∙ ap (λ (q : Plan). signals_of q c.args.naming) c.plan.ensures.value)
        c.loop-op.op-index c.loop-op-test.true;
    unsure = λ s. false≢true (c.if-not-is_sure.ensures.1 s);
  },
  λ x. refl,
)

pub returns : goal.returns
returns c = (
  λ t. absurd (false≢true t),
  λ x.
      let items = c.signals_of-op-items.result.now in
      let here = signal_here c.args.order.now c.plan.ensures.complete.plan c.args.naming items
      (c.signals_of-op-items.ensures ∙ ap (λ (q : Plan). signals_of q c.args.naming) c.plan.ensures.value) x.op x.of_job in
      let n = c.loop-op-test.false in
      let whole : take c.loop-op.op-index items ≡ items = take_all c.loop-op.op-index items (omega arith) in
      absurd
      (x.unsure
      (c.loop-op.invariant x.op
      (subst (λ (xs : List ℕ). has xs x.op ≡ true) (sym whole) here) x.in_chain)),
)
