-- What the definitions refuse: plans that are not lawful, commands that do not fit, a look at an old operation.
use Rattle.std.proofs.Common.{ℕ, [], ◌∷◌, List, Option, false, None, ◌≡◌, refl, Some, zero, suc, ◌<◌, ◌≤◌, arith, sym, inl, inr, subst, true}
use Rattle.std.proofs.lemmas.Option.{same_Some}
use Rattle.vq_model.specs.declared.script.Queue.{Queue}
use Rattle.vq_model.specs.declared.script.Mode.{Mode}
use Rattle.vq_model.specs.declared.script.Mark.{Mark}
use Rattle.vq_model.specs.declared.script.Job.{Job}
use Rattle.vq_model.specs.declared.script.Job.TheVariants.{Batch, Host}
use Rattle.vq_model.specs.declared.script.Script.{Script}
use Rattle.vq_model.specs.declared.script.Mode.TheVariants.{Threaded, Immediate}
use Rattle.vq_model.specs.declared.script.SemaphoreKind.TheVariants.{Binary, Fence, Timeline}
use Rattle.vq_model.specs.LoweringFaults.{lowering_fault}
use Rattle.vq_model.specs.Plan.{chain_of, line_of_op}
use Rattle.vq_model.specs.Lowering.{plan_of}
use Rattle.vq_model.specs.Checks.{IsNextSignal, IsUnordered, unawaited, IsLawful, IsFenceBusyAt, IsNotPendingAt}
use Rattle.std.proofs.lemmas.Bool.{false≢true}
use Rattle.vq_model.specs.HappensBefore.{one, more, HappensBefore}
use Rattle.vq_ground.proofs.Lists.{has_cases}
use Rattle.vq_model.specs.declared.script.HostStep.TheVariants.{FenceReset}
use Rattle.vq_model.specs.Sure.{IsSure, finished_first, waited_for, passed_on}
use Rattle.vq_model.specs.declared.script.Command.TheVariants.{Fill, Copy}
use Rattle.vq_model.specs.declared.script.FillSize.TheVariants.{Count}
use Rattle.vq_model.specs.FittingCommands.{Fits}
use Rattle.vq_model.specs.declared.script.ActorName.TheVariants.{Ring}
use Rattle.vq_model.specs.declared.plan.Event.{Event}
use Rattle.vq_model.specs.declared.plan.Event.TheVariants.{Take, Bind, Refer, Look, Unref, Complete, Free, Signal}
use Rattle.vq_point_laws.specs.HistoryLaws.{LooksTruly}

abbrev queue : ℕ → ℕ → Mode → Queue
queue line letter mode = record { line = line; name = letter ∷ []; mode = mode }

abbrev mark : ℕ → ℕ → Mark
mark line value = record { line = line; semaphore = 0; value = value; from = 1 }

abbrev batch : ℕ → ℕ → List Mark → List Mark → Option Mark → Job
batch line q waits signals fence = Batch (record { line = line; queue = q; waits = waits; commands = []; signals = signals; fence = fence })

-- A binary semaphore is signaled, waited for and signaled again, and the wait may come after the second signal.

abbrev waited_late : Script
waited_late =
    record {
      version = 1;
      buffers = [];
      semaphores = record { line = 1; name = 83 ∷ []; kind = Binary } ∷ [];
      queues = queue 2 80 Threaded ∷ queue 3 81 Threaded ∷ [];
      jobs = batch 4 0 [] (mark 5 0 ∷ []) None ∷ batch 7 1 (mark 8 0 ∷ []) [] None ∷ batch 10 0 [] (mark 11 0 ∷ []) None ∷ [];
      scheduled = false;
      turns = [];
    }

waited_late_lowers : lowering_fault waited_late ≡ None
waited_late_lowers = refl

no_op : {t : ℕ} → None ≡ Some t → ⊥
no_op c = cc

next_signal : IsNextSignal (plan_of waited_late) 0 8 1
next_signal = record { in_chain = refl; later = omega arith; first = first }
  where
    first : (f : ℕ) → chain_of (plan_of waited_late) f ≡ Some 0 → 8 < line_of_op (plan_of waited_late) f → 11 ≤ line_of_op (plan_of waited_late) f
    first zero c l = absurd (omega arith)
    first (suc zero) c l = omega arith
    first (suc (suc f)) c l = absurd (no_op c)

wait_unordered : ¬ HappensBefore (plan_of waited_late) 1 2
wait_unordered (one h) = elim (has_cases 0 [] 1 h.edge) [ inl e ↦ absurd (omega arith) | inr n ↦ false≢true n ]
wait_unordered (more {h = q} b h) = elim (has_cases 0 [] q h.edge) [ inl e ↦ nothing_before (subst (λ z. HappensBefore (plan_of waited_late) 1 z) (sym e) b) | inr n ↦ false≢true n ]
  where
    nothing_before : ¬ HappensBefore (plan_of waited_late) 1 0
    nothing_before (one h) = false≢true h.edge
    nothing_before (more b h) = false≢true h.edge

waited_late_fault : IsUnordered (plan_of waited_late) 8 11
waited_late_fault = unawaited (record { line = 8; chain = 0; value = 1; from = 1 }) 1 1 2 0 refl refl next_signal refl (λ e. absurd (omega arith)) wait_unordered

waited_late_unlawful : ¬ IsLawful (plan_of waited_late)
waited_late_unlawful l = l.ordered 8 11 waited_late_fault

-- A fence is reset while the batch that names it may still run.

abbrev reset_early : Script
reset_early =
    record {
      version = 1;
      buffers = [];
      semaphores = record { line = 1; name = 70 ∷ []; kind = Fence } ∷ [];
      queues = queue 2 81 Threaded ∷ [];
      jobs = batch 3 0 [] [] (Some (mark 4 0)) ∷ Host (record { line = 6; step = FenceReset 0 }) ∷ [];
      scheduled = false;
      turns = [];
    }

reset_unsure : ¬ IsSure (plan_of reset_early) 0 1
reset_unsure (finished_first f) = false≢true f.first
reset_unsure (waited_for f) = false≢true f.waits
reset_unsure (passed_on s h) = false≢true h.edge

reset_early_fault : IsFenceBusyAt (plan_of reset_early) 6
reset_early_fault =
    record {
      job = 1;
      fence = 0;
      naming = 0;
      effective = record { earlier = omega arith; names = refl; resets = refl; between = λ k a b. absurd (omega arith) };
      op = 0;
      in_chain = refl;
      of_job = refl;
      unsure = reset_unsure;
      named = refl;
    }

reset_early_unlawful : ¬ IsLawful (plan_of reset_early)
reset_early_unlawful l = l.resettable 6 reset_early_fault

-- A batch of an immediate queue waits for a signal that is submitted after it.

abbrev waits_ahead : Script
waits_ahead =
    record {
      version = 1;
      buffers = [];
      semaphores = record { line = 1; name = 65 ∷ []; kind = Timeline 0 } ∷ [];
      queues = queue 2 80 Immediate ∷ queue 3 81 Threaded ∷ [];
      jobs = batch 4 0 (mark 5 1 ∷ []) [] None ∷ batch 7 1 [] (mark 8 1 ∷ []) None ∷ [];
      scheduled = false;
      turns = [];
    }

waits_ahead_fault : IsNotPendingAt (plan_of waits_ahead) 5
waits_ahead_fault =
    record {
      job = 0;
      immediate = refl;
      need = record { line = 5; chain = 0; value = 1; from = 1 };
      place = 0;
      of_job = refl;
      above = omega arith;
      op = 0;
      resolver = refl;
      signaler = 1;
      of_op = refl;
      late = λ q. (let l = q.0 in absurd (omega arith));
      unsure = λ h l s. absurd (omega arith);
      named = refl;
    }

waits_ahead_unlawful : ¬ IsLawful (plan_of waits_ahead)
waits_ahead_unlawful l = l.pending 5 waits_ahead_fault

-- Commands that don't fit a buffer of four bytes

crooked_fill : ¬ Fits (4 ∷ []) (Fill 0 1 (Count 2) 7)
crooked_fill f = false≢true f.aligned

copy_over_itself : ¬ Fits (4 ∷ []) (Copy 0 0 0 1 3)
copy_over_itself f = false≢true (sym f.apart)

-- A point was given back and taken for another operation, to which the actor referred. A look for the first one isn't true.

abbrev before_look : List Event
before_look =
    Refer (Ring 0) 0 1 ∷ Bind 1 0 ∷ Take 1 0 false ∷ Free 0 ∷ Complete 0 ∷ Unref (Ring 0) 0 0 ∷ Look (Ring 0) 0 0 ∷ Signal 0 ∷ Refer (Ring 0) 0 0 ∷ Bind 0 0
    ∷ Take 0 0 true ∷ []

old_look : ¬ LooksTruly before_look (Ring 0) 0 0
old_look l = let e = same_Some 1 0 l.carried in absurd (omega arith)

new_reference : ¬ LooksTruly before_look (Ring 0) 0 1
new_reference l = false≢true l.signaled
