-- A host step that reads a timeline beside the batch that signals it: between which values it looks, and
-- what it may be answered.
use Rattle.std.proofs.Common.{ℕ, [], ◌∷◌, ◌++◌, false, None, ◌≡◌, refl, zero, suc, arith, inl, inr, ap, sym, ◌∙◌, ◌≤◌, Some}
use Rattle.std.proofs.lemmas.Bool.{false≢true}
use Rattle.vq_model.specs.declared.script.Mode.TheVariants.{Threaded}
use Rattle.vq_model.specs.declared.script.SemaphoreKind.TheVariants.{Timeline}
use Rattle.vq_model.specs.declared.script.Job.TheVariants.{Host, Batch}
use Rattle.vq_model.specs.declared.script.HostStep.TheVariants.{Read}
use Rattle.vq_model.specs.declared.plan.Answer.TheVariants.{Value}
use Rattle.vq_model.specs.Plan.{Plan, chain_of, value}
use Rattle.vq_ground.specs.Lists.{has}
use Rattle.vq_model.specs.Edges.{Stage, AtEnd, edges_at}
use Rattle.vq_model.specs.Lowering.{plan_of}
use Rattle.vq_model.specs.HappensBefore.{HappensBeforeAt, one, more}
use Rattle.vq_model.specs.Sure.{IsSure, finished_first, waited_for, passed_on}
use Rattle.vq_model.specs.Windows.{IsSurelyReached, at_first as first_sure, sure, IsPossiblyReached, at_first as first_possible, possible, IsPossible}
use Rattle.vq_model.specs.OrderAnswers.{IsGreatest}
use Rattle.vq_model.specs.Outputs.{IsOutput, Answered, Allowed, IsShownReached, from_floor, carried, answer_lines}
use Rattle.vq_model.specs.OutputText.{answer_text, buffers_text}
use Rattle.vq_model.specs.SlowRun.{final}

-- timeline A 0 / queue Q threaded / submit Q / signal A 1 / end / host read A
abbrev plan : Plan
plan =
    plan_of (record {
      version = 1;
      buffers = [];
      semaphores = record { line = 1; name = 65 ∷ []; kind = Timeline 0 } ∷ [];
      queues = record { line = 2; name = 81 ∷ []; mode = Threaded } ∷ [];
      jobs = Batch (record {
        line = 3;
        queue = 0;
        waits = [];
        commands = [];
        signals = record { line = 4; semaphore = 0; value = 1; from = 1 } ∷ [];
        fence = None;
      })
          ∷ Host (record { line = 6; step = Read 0 })
          ∷ [];
      scheduled = false;
      turns = [];
    })

-- nothing is sure for the read
nothing_sure : (e : ℕ) → IsSure plan e 1 → ⊥
nothing_sure e (finished_first f) = false≢true f.first
nothing_sure e (waited_for f) = false≢true f.waits
nothing_sure e (passed_on s h) = false≢true h.edge

-- so it looks at 0 or more
floor : IsGreatest (IsSurelyReached plan 1 0) 0
floor = record { holds = first_sure; greatest = most }
  where
    most : (m : ℕ) → IsSurelyReached plan 1 0 m → m ≤ 0
    most m first_sure = omega arith
    most m (sure {e = e} c s) = absurd (nothing_sure e s)

no_path : (i : ℕ) (k : Stage) → edges_at plan 0 k ≡ [] → ¬ HappensBeforeAt plan i 0 k
no_path i k none (one h) = false≢true (ap (λ zs. has zs i) (sym none) ∙ h.edge)
no_path i k none (more {h = q} b h) = false≢true (ap (λ zs. has zs q) (sym none) ∙ h.edge)

-- and at 1 or less, since the batch may run beside it
may_be_made : IsPossible plan 1 0 0
may_be_made =
    record {
      in_chain = refl;
      job = 0;
      of_job = refl;
      other = λ e. absurd (omega arith);
      not_after = no_path 1 AtEnd refl;
    }

ceiling : IsGreatest (IsPossiblyReached plan 1 0) 1
ceiling = record { holds = possible may_be_made; greatest = most }
  where
    of_chain : (e : ℕ) → chain_of plan e ≡ Some 0 → value plan e ≤ 1
    of_chain zero c = omega arith
    of_chain (suc e) c = absurd (cc)

    most : (m : ℕ) → IsPossiblyReached plan 1 0 m → m ≤ 1
    most m first_possible = omega arith
    most m (possible {e = e} x) = of_chain e x.in_chain

-- nothing was shown before
low_end : (m : ℕ) → IsShownReached plan [] 1 0 m → m ≤ 0
low_end m (from_floor s) = floor.greatest m s
low_end m (carried told e i shows made c) = absurd (elim i [ ])

abbrev answered : ℕ → Answered
answered n = record { job = 1; answer = Value n; pick = None }

reads_zero : Allowed plan [] (answered 0)
reads_zero = record { known = inl refl; low = low_end; high = (1, ceiling.holds, omega arith) }

reads_one : Allowed plan [] (answered 1)
reads_one =
    record {
      known = inr (0, refl, refl);
      low = λ m s. (let l = low_end m s in omega arith);
      high = (1, ceiling.holds, omega arith);
    }

never_two : ¬ Allowed plan [] (answered 2)
never_two a = elim a.known [ inl e ↦ absurd (omega arith) | inr k ↦ of_op k.0 k.1 k.2 ]
  where
    of_op : (e : ℕ) → chain_of plan e ≡ Some 0 → value plan e ≡ 2 → ⊥
    of_op zero c v = absurd (omega arith)
    of_op (suc e) c v = cc

-- so both texts are outputs
output : (n : ℕ) → Allowed plan [] (answered n) →
    IsOutput plan (answer_text (answer_lines plan (answered n ∷ [])) ++ buffers_text [] (final plan))
output n a = record { answers = answered n ∷ []; in_order = refl; allowed = (a, tt); spelled = refl }
