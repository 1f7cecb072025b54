-- What the parts of a check give is what the check gives.
use Rattle.std.proofs.Common.{◌≡◌, ℕ, Err, Option, Some, None, subst}
use Rattle.vq_model.specs.declared.plan.OrderFault.{OrderFault}
use Rattle.vq_model.specs.declared.plan.OrderFault.TheVariants.{Unreachable, Unordered, FenceBusy, NotPending, Race, Memory}
use Rattle.vq_model.specs.OrderAnswers.{Checks}
use Rattle.vq_model.specs.Checks.{IsFenceBusyAt, IsFirstPlanFault, IsLawful, IsLeast, IsNotPendingAt, IsRaceAt, IsUnordered, NoLine, NoLines}
use Rattle.vq_model.specs.Plan.{Plan}
use Rattle.vq_order.specs.declared.lines.Lines.{Lines}
use Rattle.vq_order.specs.Checked.{KeepsPlanOr}
use Rattle.vq_order.specs.LeastLines.{AreLeastOrNone}
use Rattle.vq_clocks.specs.VectorClocks.{IsComplete}

pub fault_is : (p : Plan) (f : OrderFault) → KeepsPlanOr p (Err f) → Checks p (Err f)
fault_is p (Unreachable n) h = h
fault_is p (Unordered a b) h = h
fault_is p (FenceBusy n) h = h
fault_is p (NotPending n) h = h
fault_is p (Race a b) h = h
fault_is p Memory h = h

module _ (p o : Plan) (same : o ≡ p) (complete : IsComplete p) (unordered : NoLines (IsUnordered o)) where
  pub busy_first : (n : ℕ) → IsLeast (IsFenceBusyAt o) n → IsFirstPlanFault p (FenceBusy n)
  busy_first n busy = (
    complete.reachable,
    subst (λ (q : Plan). NoLines (IsUnordered q)) same unordered,
    subst (λ (q : Plan). IsLeast (IsFenceBusyAt q) n) same busy,
  )

  module _ (busy : NoLine (IsFenceBusyAt o)) where
    pub pending_first : (n : ℕ) → IsLeast (IsNotPendingAt o) n → IsFirstPlanFault p (NotPending n)
    pending_first n pending = (
      complete.reachable,
      subst (λ (q : Plan). NoLines (IsUnordered q)) same unordered,
      subst (λ (q : Plan). NoLine (IsFenceBusyAt q)) same busy,
      subst (λ (q : Plan). IsLeast (IsNotPendingAt q) n) same pending,
    )

    module _ (pending : NoLine (IsNotPendingAt o)) (x : Option Lines) (race : AreLeastOrNone (IsRaceAt o) x) where
      -- A plan of which the slow run leaves no job, with no signals in no sure order, no reset of a busy
      -- fence, no immediate batch that waits for what may come late and no race, is lawful.
      pub lawful_plan : x ≡ None → IsLawful p
      lawful_plan none =
          record {
            reachable = complete.reachable;
            ordered = subst (λ (q : Plan). NoLines (IsUnordered q)) same unordered;
            resettable = subst (λ (q : Plan). NoLine (IsFenceBusyAt q)) same busy;
            pending = subst (λ (q : Plan). NoLine (IsNotPendingAt q)) same pending;
            race_free = subst (λ (z : Plan × Option Lines). AreLeastOrNone (IsRaceAt z.0) z.1) (λ i. (same i, none i)) race;
          }

      pub race_first : (l : Lines) → x ≡ Some l → IsFirstPlanFault p (Race l.first l.second)
      race_first l some = (
        complete.reachable,
        subst (λ (q : Plan). NoLines (IsUnordered q)) same unordered,
        subst (λ (q : Plan). NoLine (IsFenceBusyAt q)) same busy,
        subst (λ (q : Plan). NoLine (IsNotPendingAt q)) same pending,
        subst (λ (z : Plan × Option Lines). AreLeastOrNone (IsRaceAt z.0) z.1) (λ i. (same i, some i)) race,
      )
