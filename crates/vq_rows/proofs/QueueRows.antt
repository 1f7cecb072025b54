-- A text with two queues: its plan is one of a script that was read, and it is lawful. So the premises of
-- the laws on plans of scripts are met, and their conclusions hold of it.
use Rattle.std.proofs.Common.{ℕ, List, [], ◌∷◌, ◌++◌, false, true, None, ◌≡◌, ◌≢◌, refl, zero, suc, arith, inl, ap, ◌∙◌, subst, sym, ◌+◌, ◌≤◌, length, Some}
use Rattle.std.specs.Prelude.{codes}
use Rattle.std.specs.List.{slice_get}
use Rattle.std.specs.Option.{option_map_or}
use Rattle.std.proofs.lemmas.Bool.{false≢true}
use Rattle.std.proofs.lemmas.Option.{slice_get_past}
use Rattle.vq_model.specs.declared.script.Script.{Script}
use Rattle.vq_model.specs.declared.script.Mode.TheVariants.{Threaded}
use Rattle.vq_model.specs.declared.script.SemaphoreKind.TheVariants.{Timeline, Binary}
use Rattle.vq_model.specs.declared.script.Job.TheVariants.{Batch}
use Rattle.vq_model.specs.declared.script.Command.TheVariants.{Fill, Copy}
use Rattle.vq_model.specs.declared.script.FillSize.TheVariants.{Count}
use Rattle.vq_model.specs.declared.statement.Form.TheVariants.{Plain}
use Rattle.vq_model.specs.declared.plan.Need.{Need}
use Rattle.vq_model.specs.Plan.{Plan, chain, chain_of, initial, value, needs, commands_of}
use Rattle.vq_ground.specs.Lists.{has}
use Rattle.vq_model.specs.Signals.{kind_of}
use Rattle.vq_model.specs.SameScript.{IsRead}
use Rattle.vq_model.specs.Lowering.{plan_of, resets_fence}
use Rattle.vq_model.specs.LoweredPlans.{IsPlan}
use Rattle.vq_model.specs.ProgressRuns.{HasOneResult}
use Rattle.vq_model.specs.SlowRun.{final}
use Rattle.vq_model.specs.HappensBefore.{HappensBefore, HappensBeforeCommand, one}
use Rattle.vq_model.specs.Checks.{IsLawful, IsUnordered, AreNeighbours, IsRaceAt, NoLines, too_low, equal, unsure, unsure_back, unawaited, is_immediate_batch}
use Rattle.vq_plan_laws.proofs.Cited.{plan_well_formed, first_version_unheld}
use Rattle.vq_order_laws.proofs.Cited.{plan_has_sure_order, command_order}
use Rattle.vq_run_laws.proofs.Cited.{one_result}

-- Q writes X, and P copies it once that is done
abbrev text : List ℕ
text =
    codes "buffer X 8\nbuffer Y 8\ntimeline A 0\nqueue P threaded\nqueue Q threaded\nsubmit P\nwait A 1\n"
    ++ codes "copy X 0 Y 0 8\nend\nsubmit Q\nfill X 0 8 0x0a0b0c0d\nsignal A 1\nend\n"

abbrev script : Script
script =
    record {
      version = 1;
      buffers = record { line = 1; name = 88 ∷ []; size = 8 } ∷ record { line = 2; name = 89 ∷ []; size = 8 } ∷ [];
      semaphores = record { line = 3; name = 65 ∷ []; kind = Timeline 0 } ∷ [];
      queues = record { line = 4; name = 80 ∷ []; mode = Threaded } ∷ record { line = 5; name = 81 ∷ []; mode = Threaded } ∷ [];
      jobs = Batch (record {
        line = 6;
        queue = 0;
        waits = record { line = 7; semaphore = 0; value = 1; from = 1 } ∷ [];
        commands = record { line = 8; command = Copy 0 0 1 0 8 } ∷ [];
        signals = [];
        fence = None;
      })
          ∷ Batch (record {
            line = 10;
            queue = 1;
            waits = [];
            commands = record { line = 11; command = Fill 0 0 (Count 8) 168496141 } ∷ [];
            signals = record { line = 12; semaphore = 0; value = 1; from = 1 } ∷ [];
            fence = None;
          })
          ∷ [];
      scheduled = false;
      turns = [];
    }

abbrev plan : Plan
plan = plan_of script

is_read : IsRead script
is_read = record { text = text; form = Plain; turns = []; stands = refl; kept_or_moved = inl refl }

pub is_plan : IsPlan plan
is_plan = record { of_script = is_read; faultless = refl; lowered = refl }

-- the copy comes after the fill
copy_after_fill : HappensBefore plan 1 0
copy_after_fill = one (record { edge = refl; earlier = refl })

-- the chain of A has one operation, so no two are neighbours
no_neighbours : (t e f : ℕ) → AreNeighbours plan t e f → ⊥
no_neighbours t e f n = past (chain plan t) n.place (short t) n.first n.second
  where
    short : (t : ℕ) → length (chain plan t) ≤ 1
    short zero = omega arith
    short (suc t) = omega arith

    past : (xs : List ℕ) (place : ℕ) → length xs ≤ 1 → slice_get xs place ≡ Some e →
        slice_get xs (place + 1) ≡ Some f → ⊥
    past xs place l a b = none_some (slice_get_past xs (place + 1) (omega arith)) b
      where
        none_some : slice_get xs (place + 1) ≡ None → slice_get xs (place + 1) ≡ Some f → ⊥
        none_some n s = cc

above_initial : (t e : ℕ) → chain_of plan e ≡ Some t → value plan e ≤ initial plan t → ⊥
above_initial t zero c l =
    let i : 0 ≡ t = cc in
    let m : value plan 0 ≤ initial plan 0 = subst (λ z. value plan 0 ≤ initial plan z) (sym i) l in
    absurd (omega arith)
above_initial t (suc e) c l = cc

no_binary : (i place : ℕ) (n : Need) → slice_get (needs plan i) place ≡ Some n →
    kind_of script n.chain ≡ Some Binary → ⊥
no_binary zero zero n s b =
    timeline_binary (ap (λ o. option_map_or (λ m. kind_of script m.chain) o (Some Binary)) s ∙ b)
  where
    timeline_binary : Some (Timeline 0) ≡ Some Binary → ⊥
    timeline_binary e = cc
no_binary zero (suc place) n s b = cc
no_binary (suc zero) place n s b = cc
no_binary (suc (suc i)) place n s b = cc

ordered : NoLines (IsUnordered plan)
ordered a b (too_low t e i c l) = above_initial t e c l
ordered a b (equal t e f i n v) = no_neighbours t e f n
ordered a b (unsure t e f j i n o u l) = no_neighbours t e f n
ordered a b (unsure_back t e f j i n o u l) = no_neighbours t e f n
ordered a b (unawaited n e i j place s q x o d u) = no_binary i place n s q

no_reset : (j f : ℕ) → option_map_or (resets_fence f) (slice_get script.jobs j) false ≡ true → ⊥
no_reset zero f h = false≢true h
no_reset (suc zero) f h = false≢true h
no_reset (suc (suc j)) f h = false≢true h

none_immediate : (j : ℕ) → is_immediate_batch plan j ≡ true → ⊥
none_immediate zero h = false≢true h
none_immediate (suc zero) h = false≢true h
none_immediate (suc (suc j)) h = false≢true h

-- the commands of the two jobs
fill_first : (d : ℕ) → HappensBeforeCommand plan 1 0 d
fill_first d = command_order plan (first_version_unheld plan is_plan refl) 1 0 d copy_after_fill

race_free : NoLines (IsRaceAt plan)
race_free a b r =
    by_jobs r.race.first_job r.race.second_job r.race.first r.race.second r.race.two_jobs
    r.race.unordered r.race.unordered_back
  where
    by_jobs : (i j : ℕ) → has (commands_of plan i) r.first ≡ true →
        has (commands_of plan j) r.second ≡ true → i ≢ j →
        ¬ HappensBeforeCommand plan i j r.second → ¬ HappensBeforeCommand plan j i r.first → ⊥
    by_jobs zero zero hc hd n u v = n refl
    by_jobs zero (suc zero) hc hd n u v = v (fill_first r.first)
    by_jobs (suc zero) zero hc hd n u v = u (fill_first r.second)
    by_jobs (suc zero) (suc zero) hc hd n u v = n refl
    by_jobs (suc (suc i)) j hc hd n u v = false≢true hc
    by_jobs zero (suc (suc j)) hc hd n u v = false≢true hd
    by_jobs (suc zero) (suc (suc j)) hc hd n u v = false≢true hd

pub is_lawful : IsLawful plan
is_lawful =
    record {
      reachable = refl;
      ordered = ordered;
      resettable = λ line b. no_reset b.job b.fence b.effective.resets;
      pending = λ line b. none_immediate b.job b.immediate;
      race_free = race_free;
    }

-- so each of its runs leaves the bytes of the slow run, which are these
result : HasOneResult plan
result = one_result plan (plan_well_formed plan is_plan) (plan_has_sure_order plan is_plan is_lawful)

bytes : final plan ≡ (13 ∷ 12 ∷ 11 ∷ 10 ∷ 13 ∷ 12 ∷ 11 ∷ 10 ∷ []) ∷ (13 ∷ 12 ∷ 11 ∷ 10 ∷ 13 ∷ 12 ∷ 11 ∷ 10 ∷ []) ∷ []
bytes = refl
