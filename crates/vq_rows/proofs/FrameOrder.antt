-- The frame loop with its host steps has a sure order: so what the laws on runs ask for is met, and each of its runs leaves
-- the bytes that are worked out beside it.
use Rattle.std.proofs.Common.{ℕ, List, [], ◌∷◌, Some, None, ◌≡◌, refl, zero, suc, arith, ap, ◌∙◌, subst, Option, true, ◌<◌, ◌≤◌, inl, inr, IfSome}
use Rattle.std.specs.Prelude.{◌==◌}
use Rattle.std.specs.List.{slice_get, list_all, range_with_len}
use Rattle.std.specs.Option.{option_map_or}
use Rattle.std.proofs.lemmas.Option.{slice_get_past}
use Rattle.vq_model.specs.declared.script.Job.{Job}
use Rattle.vq_model.specs.declared.script.CommandLine.{CommandLine}
use Rattle.vq_model.specs.Plan.{Plan}
use Rattle.vq_model.specs.Lowering.{plan_of, batch_commands}
use Rattle.vq_model.specs.EdgeReasons.{waits_at_start, HasNoHeldWait}
use Rattle.vq_model.specs.SureOrder.{KeepsChains}
use Rattle.vq_model.specs.Sure.{finished_first, waited_for}
use Rattle.vq_model.specs.SureOrder.{HasNoRace, HasSureOrder}
use Rattle.vq_model.specs.FittingCommands.{Fits}
use Rattle.vq_model.specs.Signals.{Signaling, all_signals}
use Rattle.vq_model.specs.ValidScripts.{IsValid, KeepsLimits}
use Rattle.vq_model.specs.WellFormed.{IsWellFormed, KeepsHostOrder}
use Rattle.vq_model.specs.ProgressRuns.{HasOneResult}
use Rattle.vq_ground.proofs.Lists.{list_all_has}
use Rattle.vq_ground.proofs.Numbers.{has_range}
use Rattle.vq_plan_laws.proofs.Cited.{well_formed, host_order}
use Rattle.vq_run_laws.proofs.Cited.{one_result}
use Rattle.vq_rows.proofs.FrameRows.{frames}
use Rattle.vq_rows.proofs.OrderTests.{are_hops, all_ordered, no_race_by_paths, sure_along, below_or_past}

abbrev plan : Plan
plan = plan_of frames

-- Jobs 0, 3, 6 and 11 upload, 1, 4, 7 and 12 work, and 2, 5, 8 and 13 read back. Job 9 waits for the fence of the first
-- frame, and job 10 resets it. The work on one buffer goes from frame to frame, and the first upload's buffer is written
-- again behind the reset.
abbrev paths : List (List ℕ)
paths =
    (0 ∷ 1 ∷ 2 ∷ 4 ∷ 5 ∷ 7 ∷ 8 ∷ 12 ∷ 13 ∷ [])
    ∷ (3 ∷ 4 ∷ [])
    ∷ (6 ∷ 7 ∷ [])
    ∷ (0 ∷ 1 ∷ 2 ∷ 9 ∷ 10 ∷ 11 ∷ 12 ∷ [])
    ∷ []

no_held : HasNoHeldWait plan
no_held j = elim (below_or_past 16 j) [
  | inl l ↦ list_all_has (waits_at_start plan) (range_with_len 0 16) j refl (has_range 16 0 j (omega arith) l)
  | inr l ↦ past l
]
  where
    past : 16 ≤ j → waits_at_start plan j ≡ true
    past l = ap (λ o. list_all (λ n. n.from == 1) (option_map_or (λ x. x.needs) o [])) (slice_get_past plan.jobs j l)

hops : list_all (are_hops plan) paths ≡ true
hops = refl

ordered : all_ordered plan paths ≡ true
ordered = refl

no_race : HasNoRace plan
no_race = no_race_by_paths plan paths no_held hops ordered

chains : KeepsChains plan
chains zero = (
  omega arith,
  (
    omega arith,
    (3, refl, finished_first (record { job = 0; of_job = refl; first = refl; earlier = refl })),
    (
      omega arith,
      (6, refl, finished_first (record { job = 3; of_job = refl; first = refl; earlier = refl })),
      (
        omega arith,
        (11, refl, finished_first (record { job = 6; of_job = refl; first = refl; earlier = refl })),
        tt,
      ),
    ),
  ),
)
chains (suc zero) = (
  omega arith,
  (
    omega arith,
    (4, refl, finished_first (record { job = 1; of_job = refl; first = refl; earlier = refl })),
    (
      omega arith,
      (7, refl, finished_first (record { job = 4; of_job = refl; first = refl; earlier = refl })),
      (
        omega arith,
        (12, refl, finished_first (record { job = 7; of_job = refl; first = refl; earlier = refl })),
        tt,
      ),
    ),
  ),
)
chains (suc (suc zero)) = (
  omega arith,
  (
    omega arith,
    (5, refl, finished_first (record { job = 2; of_job = refl; first = refl; earlier = refl })),
    (
      omega arith,
      (8, refl, finished_first (record { job = 5; of_job = refl; first = refl; earlier = refl })),
      (
        omega arith,
        (13, refl, finished_first (record { job = 8; of_job = refl; first = refl; earlier = refl })),
        tt,
      ),
    ),
  ),
)
-- the host waits for the fence before it is reset and named again
chains (suc (suc (suc zero))) = (
  omega arith,
  (
    omega arith,
    (
      13,
      refl,
      sure_along plan 3 9 13 (10 ∷ 13 ∷ []) (waited_for (record {
        job = 2;
        of_job = refl;
        by_op = 3;
        same_job = refl;
        at_or_later = omega arith;
        waits = refl;
        earlier = refl;
      })) refl refl,
    ),
    tt,
  ),
)
chains (suc (suc (suc (suc zero)))) = (omega arith, tt)
chains (suc (suc (suc (suc (suc zero))))) = (omega arith, tt)
chains (suc (suc (suc (suc (suc (suc t)))))) = tt

pub sure_order : HasSureOrder plan
sure_order = record { reachable = refl; chains = chains; no_race = no_race }

-- what a script keeps that fits its limits

valid : IsValid frames
valid = record { version = inl refl; signals = signals; commands = commands; limits = limits }
  where
    signals : (e : ℕ) (x : Signaling) → slice_get (all_signals frames) e ≡ Some x → x.semaphore < 6
    signals e x h = of_option (slice_get (all_signals frames) e) x h (within e)
      where
        of_option : (o : Option Signaling) (x : Signaling) → o ≡ Some x → IfSome o (λ y. y.semaphore < 6) → x.semaphore < 6
        of_option o x h f = let P : Option Signaling → Type 0 = λ z. IfSome z (λ y. y.semaphore < 6) in subst P h f

        within : (e : ℕ) → IfSome (slice_get (all_signals frames) e) (λ y. y.semaphore < 6)
        within zero = omega arith
        within (suc zero) = omega arith
        within (suc (suc zero)) = omega arith
        within (suc (suc (suc zero))) = omega arith
        within (suc (suc (suc (suc zero)))) = omega arith
        within (suc (suc (suc (suc (suc zero))))) = omega arith
        within (suc (suc (suc (suc (suc (suc zero)))))) = omega arith
        within (suc (suc (suc (suc (suc (suc (suc zero))))))) = omega arith
        within (suc (suc (suc (suc (suc (suc (suc (suc zero)))))))) = omega arith
        within (suc (suc (suc (suc (suc (suc (suc (suc (suc zero))))))))) = omega arith
        within (suc (suc (suc (suc (suc (suc (suc (suc (suc (suc zero)))))))))) = omega arith
        within (suc (suc (suc (suc (suc (suc (suc (suc (suc (suc (suc zero))))))))))) = omega arith
        within (suc (suc (suc (suc (suc (suc (suc (suc (suc (suc (suc (suc zero)))))))))))) = omega arith
        within (suc (suc (suc (suc (suc (suc (suc (suc (suc (suc (suc (suc (suc zero))))))))))))) = omega arith
        within (suc (suc (suc (suc (suc (suc (suc (suc (suc (suc (suc (suc (suc (suc zero)))))))))))))) = omega arith
        within (suc (suc (suc (suc (suc (suc (suc (suc (suc (suc (suc (suc (suc (suc (suc zero))))))))))))))) = omega arith
        within (suc (suc (suc (suc (suc (suc (suc (suc (suc (suc (suc (suc (suc (suc (suc (suc e)))))))))))))))) = tt

    limits : KeepsLimits frames
    limits = record { buffers = omega arith; bytes = omega arith; semaphores = omega arith; queues = omega arith; jobs = omega arith; commands = omega arith }

    sizes : List ℕ
    sizes = 16 ∷ 16 ∷ 16 ∷ 16 ∷ 16 ∷ 16 ∷ 16 ∷ []

    fits : (j k : ℕ) → IfSome (option_map_or (λ job. slice_get (batch_commands job) k) (slice_get frames.jobs j) None) (λ y. Fits sizes y.command)
    fits zero zero = record { written = record { exists = omega arith; ends = omega arith }; read = tt; aligned = refl; apart = refl }
    fits zero (suc k) = tt
    fits (suc zero) zero = record { written = record { exists = omega arith; ends = omega arith }; read = record { exists = omega arith; ends = omega arith }; aligned = refl; apart = refl }
    fits (suc zero) (suc zero) = record { written = record { exists = omega arith; ends = omega arith }; read = tt; aligned = refl; apart = refl }
    fits (suc zero) (suc (suc k)) = tt
    fits (suc (suc zero)) zero = record { written = record { exists = omega arith; ends = omega arith }; read = record { exists = omega arith; ends = omega arith }; aligned = refl; apart = refl }
    fits (suc (suc zero)) (suc k) = tt
    fits (suc (suc (suc zero))) zero = record { written = record { exists = omega arith; ends = omega arith }; read = tt; aligned = refl; apart = refl }
    fits (suc (suc (suc zero))) (suc k) = tt
    fits (suc (suc (suc (suc zero)))) zero = record { written = record { exists = omega arith; ends = omega arith }; read = record { exists = omega arith; ends = omega arith }; aligned = refl; apart = refl }
    fits (suc (suc (suc (suc zero)))) (suc zero) = record { written = record { exists = omega arith; ends = omega arith }; read = tt; aligned = refl; apart = refl }
    fits (suc (suc (suc (suc zero)))) (suc (suc k)) = tt
    fits (suc (suc (suc (suc (suc zero))))) zero = record { written = record { exists = omega arith; ends = omega arith }; read = record { exists = omega arith; ends = omega arith }; aligned = refl; apart = refl }
    fits (suc (suc (suc (suc (suc zero))))) (suc k) = tt
    fits (suc (suc (suc (suc (suc (suc zero)))))) zero = record { written = record { exists = omega arith; ends = omega arith }; read = tt; aligned = refl; apart = refl }
    fits (suc (suc (suc (suc (suc (suc zero)))))) (suc k) = tt
    fits (suc (suc (suc (suc (suc (suc (suc zero))))))) zero = record { written = record { exists = omega arith; ends = omega arith }; read = record { exists = omega arith; ends = omega arith }; aligned = refl; apart = refl }
    fits (suc (suc (suc (suc (suc (suc (suc zero))))))) (suc zero) = record { written = record { exists = omega arith; ends = omega arith }; read = tt; aligned = refl; apart = refl }
    fits (suc (suc (suc (suc (suc (suc (suc zero))))))) (suc (suc k)) = tt
    fits (suc (suc (suc (suc (suc (suc (suc (suc zero)))))))) zero = record { written = record { exists = omega arith; ends = omega arith }; read = record { exists = omega arith; ends = omega arith }; aligned = refl; apart = refl }
    fits (suc (suc (suc (suc (suc (suc (suc (suc zero)))))))) (suc k) = tt
    fits (suc (suc (suc (suc (suc (suc (suc (suc (suc zero))))))))) k = tt
    fits (suc (suc (suc (suc (suc (suc (suc (suc (suc (suc zero)))))))))) k = tt
    fits (suc (suc (suc (suc (suc (suc (suc (suc (suc (suc (suc zero))))))))))) zero = record { written = record { exists = omega arith; ends = omega arith }; read = tt; aligned = refl; apart = refl }
    fits (suc (suc (suc (suc (suc (suc (suc (suc (suc (suc (suc zero))))))))))) (suc k) = tt
    fits (suc (suc (suc (suc (suc (suc (suc (suc (suc (suc (suc (suc zero)))))))))))) zero = record { written = record { exists = omega arith; ends = omega arith }; read = record { exists = omega arith; ends = omega arith }; aligned = refl; apart = refl }
    fits (suc (suc (suc (suc (suc (suc (suc (suc (suc (suc (suc (suc zero)))))))))))) (suc zero) = record { written = record { exists = omega arith; ends = omega arith }; read = tt; aligned = refl; apart = refl }
    fits (suc (suc (suc (suc (suc (suc (suc (suc (suc (suc (suc (suc zero)))))))))))) (suc (suc k)) = tt
    fits (suc (suc (suc (suc (suc (suc (suc (suc (suc (suc (suc (suc (suc zero))))))))))))) zero = record { written = record { exists = omega arith; ends = omega arith }; read = record { exists = omega arith; ends = omega arith }; aligned = refl; apart = refl }
    fits (suc (suc (suc (suc (suc (suc (suc (suc (suc (suc (suc (suc (suc zero))))))))))))) (suc k) = tt
    fits (suc (suc (suc (suc (suc (suc (suc (suc (suc (suc (suc (suc (suc (suc zero)))))))))))))) k = tt
    fits (suc (suc (suc (suc (suc (suc (suc (suc (suc (suc (suc (suc (suc (suc (suc zero))))))))))))))) k = tt
    fits (suc (suc (suc (suc (suc (suc (suc (suc (suc (suc (suc (suc (suc (suc (suc (suc j)))))))))))))))) k = tt

    of_command : (o : Option CommandLine) (x : CommandLine) → o ≡ Some x → IfSome o (λ y. Fits sizes y.command) → Fits sizes x.command
    of_command o x h f = let P : Option CommandLine → Type 0 = λ z. IfSome z (λ y. Fits sizes y.command) in subst P h f

    commands : (j k : ℕ) (job : Job) (x : CommandLine) → slice_get frames.jobs j ≡ Some job → slice_get (batch_commands job) k ≡ Some x → Fits sizes x.command
    commands j k job x hj hk =
        of_command (option_map_or (λ z. slice_get (batch_commands z) k) (slice_get frames.jobs j) None) x (ap (λ o. option_map_or (λ z. slice_get (batch_commands z) k) o None) hj ∙ hk) (fits j k)

pub in_host_order : KeepsHostOrder plan
in_host_order = host_order frames valid

pub is_well_formed : IsWellFormed plan
is_well_formed = well_formed frames valid

result : HasOneResult plan
result = one_result plan is_well_formed sure_order
