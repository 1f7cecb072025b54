-- A small script in which a fence is named, waited for, reset and named again: it has all that is
-- asked of a script whose fences rise.
use Rattle.std.proofs.Common.{ℕ, suc, [], Some, false, ◌∷◌, ◌≡◌, refl, None, zero, subst, arith, ◌<◌, Bool, true, ◌&&◌, ltb, inl, inr, List, length, Option, sym, ap, ◌∙◌}
use Rattle.vq_model.specs.declared.script.Mark.{Mark}
use Rattle.vq_model.specs.declared.script.Batch.{Batch}
use Rattle.vq_model.specs.declared.script.Script.{Script}
use Rattle.vq_model.specs.declared.script.HostStep.TheVariants.{FenceWait, FenceReset}
use Rattle.vq_model.specs.declared.script.SemaphoreKind.TheVariants.{Fence, Binary}
use Rattle.vq_model.specs.declared.script.Mode.TheVariants.{Threaded}
use Rattle.vq_model.specs.declared.script.Job.TheVariants.{Host, Batch as BatchJob}
use Rattle.vq_model.specs.Plan.{chain, job_of}
use Rattle.vq_ground.specs.Lists.{has, AreRising}
use Rattle.vq_model.specs.Lowering.{plan_of, batch_commands}
use Rattle.vq_model.specs.LoweringFaults.{lowering_fault}
use Rattle.vq_model.specs.SlowRun.{left_over}
use Rattle.vq_model.specs.declared.script.HostLine.{HostLine}
use Rattle.vq_model.specs.ValidScripts.{IsValidStep, HasValidSteps, IsValidFence, IsValidBatch, HasValidBatches, HasRisingLines, IsValid}
use Rattle.std.proofs.lemmas.Bool.{false≢true, and_parts, ltb-true}
use Rattle.vq_ground.proofs.Lists.{has_cases}
use Rattle.std.specs.List.{slice_get}
use Rattle.std.specs.Option.{option_map_or}
use Rattle.vq_model.specs.declared.script.Job.{Job}
use Rattle.vq_model.specs.declared.script.CommandLine.{CommandLine}
use Rattle.vq_model.specs.Signals.{Signaling, all_signals, is_timeline_at, kind_of}
use Rattle.vq_model.specs.Sure.{IsSure, waited_for, passed_on}
use Rattle.vq_model.specs.SureOrder.{RisesFrom}
use Rattle.vq_model.specs.Checks.{names_at, resets_at, IsFenceBusyAt, NoLine, unsure, IsUnordered, NoLines, too_low, equal, unsure_back, unawaited}
use Rattle.vq_order_laws.proofs.Cited.{counted_rises}

abbrev fence_at : ℕ → Mark
fence_at line = record { line = line; semaphore = 0; value = 0; from = 1 }

abbrev naming : ℕ → Batch
naming line =
    record { line = line; queue = 0; waits = []; commands = []; signals = []; fence = Some (fence_at (suc line)) }

abbrev two_namings : Script
two_namings =
    record {
      version = 1;
      buffers = [];
      semaphores = record { line = 1; name = 70 ∷ []; kind = Fence } ∷ [];
      queues = record { line = 2; name = 80 ∷ []; mode = Threaded } ∷ [];
      jobs =
          BatchJob (naming 3)
          ∷ Host (record { line = 6; step = FenceWait 0 })
          ∷ Host (record { line = 7; step = FenceReset 0 })
          ∷ BatchJob (naming 8)
          ∷ [];
      scheduled = false;
      turns = [];
    }

chain_of_two : chain (plan_of two_namings) 0 ≡ 0 ∷ 1 ∷ []
chain_of_two = refl

two_faultless : lowering_fault two_namings ≡ None
two_faultless = refl

two_reachable : left_over (plan_of two_namings) ≡ []
two_reachable = refl

two_steps : HasValidSteps two_namings
two_steps zero h e = absurd (let c : Some (BatchJob (naming 3)) ≡ Some (Host h) = e in cc)
two_steps (suc zero) h e =
    let same : record { line = 6; step = FenceWait 0 } ≡ h = cc in
    subst (λ (x : HostLine). IsValidStep two_namings x.step) same refl
two_steps (suc (suc zero)) h e =
    let same : record { line = 7; step = FenceReset 0 } ≡ h = cc in
    subst (λ (x : HostLine). IsValidStep two_namings x.step) same refl
two_steps (suc (suc (suc zero))) h e =
    absurd (let c : Some (BatchJob (naming 8)) ≡ Some (Host h) = e in cc)
two_steps (suc (suc (suc (suc j)))) h e = absurd (let c : None ≡ Some (Host h) = e in cc)

naming_valid : (line : ℕ) → IsValidBatch two_namings (naming line)
naming_valid line =
    record {
      queue = omega arith;
      waits = λ k d l. absurd (omega arith);
      held = λ k d l. absurd (omega arith);
      signals = λ k d l. absurd (omega arith);
      fence = λ m e. (let same : fence_at (suc line) ≡ m = cc in subst (IsValidFence two_namings) same (record { exists = omega arith; kind = refl; valueless = refl }));
      few_waits = omega arith;
      few_signals = omega arith;
    }

two_batches : HasValidBatches two_namings
two_batches zero b e =
    let same : naming 3 ≡ b = cc in subst (IsValidBatch two_namings) same (naming_valid 3)
two_batches (suc zero) b e =
    absurd (let c : Some (Host (record { line = 6; step = FenceWait 0 })) ≡ Some (BatchJob b) = e in cc)
two_batches (suc (suc zero)) b e =
    absurd (let c : Some (Host (record { line = 7; step = FenceReset 0 })) ≡ Some (BatchJob b) = e in cc)
two_batches (suc (suc (suc zero))) b e =
    let same : naming 8 ≡ b = cc in subst (IsValidBatch two_namings) same (naming_valid 8)
two_batches (suc (suc (suc (suc j)))) b e = absurd (let c : None ≡ Some (BatchJob b) = e in cc)

two_lines : HasRisingLines two_namings
two_lines = rising (3 ∷ 4 ∷ 6 ∷ 7 ∷ 8 ∷ 9 ∷ []) refl
  where
    are_rising : List ℕ → Bool
    are_rising [] = true
    are_rising (x ∷ []) = true
    are_rising (x ∷ y ∷ xs) = ltb x y && are_rising (y ∷ xs)

    above : (x y : ℕ) (xs : List ℕ) → x < y → AreRising (y ∷ xs) → (z : ℕ) → has (y ∷ xs) z ≡ true → x < z
    above x y xs l r z h = elim (has_cases y xs z h) [
      | inl q ↦ subst (λ (k : ℕ). x < k) q l
      | inr m ↦ (let n = r.0 z m in omega arith)
    ]

    rising : (xs : List ℕ) → are_rising xs ≡ true → AreRising xs
    rising [] h = tt
    rising (x ∷ []) h = ((λ y m. absurd (false≢true m)), tt)
    rising (x ∷ y ∷ xs) h =
        let parts = and_parts (ltb x y) (are_rising (y ∷ xs)) h in
        let rest = rising (y ∷ xs) parts.1 in
        ((λ z m. above x y xs (ltb-true x y parts.0) rest z m), rest)

two_valid : IsValid two_namings
two_valid =
    record {
      version = inl refl;
      signals = λ e x h. signal e x h;
      commands = λ j k job x h g. absurd (none j k job x h g);
      limits =
          record {
            buffers = omega arith;
            bytes = omega arith;
            semaphores = omega arith;
            queues = omega arith;
            jobs = omega arith;
            commands = omega arith;
          };
    }
  where
    signal : (e : ℕ) (x : Signaling) → slice_get (all_signals two_namings) e ≡ Some x →
        x.semaphore < length two_namings.semaphores
    signal zero x h =
        let same : 0 ≡ x.semaphore = ap (λ (o : Option Signaling). option_map_or (λ y. y.semaphore) o 0) h in
        omega arith
    signal (suc zero) x h =
        let same : 0 ≡ x.semaphore = ap (λ (o : Option Signaling). option_map_or (λ y. y.semaphore) o 0) h in
        omega arith
    signal (suc (suc e)) x h = absurd (let c : None ≡ Some x = h in cc)

    by_job : (here : Job) (k : ℕ) (job : Job) (x : CommandLine) → Some here ≡ Some job →
        batch_commands here ≡ [] → slice_get (batch_commands job) k ≡ Some x → ⊥
    by_job here k job x h e g =
        let same : here ≡ job = cc in
        let c : None ≡ Some x =
        ap (λ (cs : List CommandLine). slice_get cs k) (sym e)
        ∙ (ap (λ (z : Job). slice_get (batch_commands z) k) same ∙ g) in
        cc

    none : (j k : ℕ) (job : Job) (x : CommandLine) → slice_get two_namings.jobs j ≡ Some job →
        slice_get (batch_commands job) k ≡ Some x → ⊥
    none zero k job x h g = by_job (BatchJob (naming 3)) k job x h refl g
    none (suc zero) k job x h g = by_job (Host (record { line = 6; step = FenceWait 0 })) k job x h refl g
    none (suc (suc zero)) k job x h g =
        by_job (Host (record { line = 7; step = FenceReset 0 })) k job x h refl g
    none (suc (suc (suc zero))) k job x h g = by_job (BatchJob (naming 8)) k job x h refl g
    none (suc (suc (suc (suc j)))) k job x h g = absurd (let c : None ≡ Some job = h in cc)

-- the first naming's signal is sure for the reset, since the step before it waits for the fence
two_sure : IsSure (plan_of two_namings) 0 2
two_sure =
    passed_on {i = 1} (waited_for (record {
      job = 0;
      of_job = refl;
      by_op = 0;
      same_job = refl;
      at_or_later = omega arith;
      waits = refl;
      earlier = refl;
    })) (record { edge = refl; earlier = refl })

two_resettable : NoLine (IsFenceBusyAt (plan_of two_namings))
two_resettable n busy =
    let reset = reset_at busy.fence busy.job busy.effective.resets in
    let named = naming_at busy.fence busy.naming busy.effective.names busy.effective.earlier reset in
    let op = op_at busy.op (busy.of_job ∙ ap Some named) in
    busy.unsure (subst (λ (x : ℕ × ℕ). IsSure (plan_of two_namings) x.0 x.1) (λ i. (sym op i, sym reset i)) two_sure)
  where
    reset_at : (t j : ℕ) → resets_at two_namings t j ≡ true → j ≡ 2
    reset_at t zero h = absurd (false≢true h)
    reset_at t (suc zero) h = absurd (false≢true h)
    reset_at t (suc (suc zero)) h = refl
    reset_at t (suc (suc (suc zero))) h = absurd (false≢true h)
    reset_at t (suc (suc (suc (suc j)))) h = absurd (false≢true h)

    naming_at : (t i : ℕ) → names_at two_namings t i ≡ true → {j : ℕ} → i < j → j ≡ 2 → i ≡ 0
    naming_at t zero h l q = refl
    naming_at t (suc zero) h l q = absurd (false≢true h)
    naming_at t (suc (suc i)) h l q = absurd (omega arith)

    op_at : (e : ℕ) → job_of (plan_of two_namings) e ≡ Some 0 → e ≡ 0
    op_at zero h = refl
    op_at (suc zero) h =
        let of : ℕ → Option ℕ → ℕ = λ n o. option_map_or (λ k. k) o n in
        let d : of 0 (Some 3) ≡ of 0 (Some 0) = ap (of 0) h in
        absurd (omega arith)
    op_at (suc (suc e)) h = absurd (let c : None ≡ Some 0 = h in cc)

no_timeline : (t : ℕ) → is_timeline_at two_namings t ≡ false
no_timeline zero = refl
no_timeline (suc t) = refl

no_binary : (t : ℕ) → kind_of two_namings t ≡ Some Binary → ⊥
no_binary zero h = let c : Some Fence ≡ Some Binary = h in cc
no_binary (suc t) h = let c : None ≡ Some Binary = h in cc

two_ordered : NoLines (IsUnordered (plan_of two_namings))
two_ordered a b (too_low t e k c l) = false≢true (sym (no_timeline t) ∙ k)
two_ordered a b (equal t e f k m q) = false≢true (sym (no_timeline t) ∙ k)
two_ordered a b (unsure t e f j k m o n l) = false≢true (sym (no_timeline t) ∙ k)
two_ordered a b (unsure_back t e f j k m o n l) = false≢true (sym (no_timeline t) ∙ k)
two_ordered a b (unawaited n e i j place at k next o d h) = no_binary n.chain k

-- So its fence's chain rises in a sure order.
two_rise : RisesFrom (plan_of two_namings) 0 (0 ∷ 1 ∷ [])
two_rise =
    counted_rises two_namings two_valid two_batches two_steps two_lines two_faultless two_reachable
    two_ordered two_resettable 0 refl
