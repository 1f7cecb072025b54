-- The plan of a script that was read has few acts, and so rounds have few turns: they can be counted in 32 bits.
use Rattle.std.proofs.Common.{◌≡◌, ℕ, zero, suc, ◌+◌, ◌*◌, ◌≤◌, ◌<◌, ◌^◌, List, [], ◌∷◌, ◌++◌, length, map, sum, filter}
use Rattle.std.proofs.Common.{Option, Some, None, refl, sym, subst, ap, ◌∙◌, arith}
use Rattle.std.specs.List.{slice_get, flat_map, enumerate_from, range_with_len}
use Rattle.std.specs.Option.{option_to_list}
use Rattle.std.proofs.lemmas.List.{length-append, length-map}
use Rattle.std.proofs.lemmas.List.FromFn.{length-map-range_with_len}
use Rattle.std.proofs.lemmas.List.Sums.{count_by-le-length, length-filter, sum_by-cons}
use Rattle.vq_model.specs.declared.plan.PlanJob.{PlanJob}
use Rattle.vq_model.specs.declared.script.ActorName.{ActorName}
use Rattle.vq_model.specs.declared.script.ActorName.TheVariants.{Submit as SubmitActor, Ring as RingActor}
use Rattle.vq_model.specs.declared.script.Mark.{Mark}
use Rattle.vq_model.specs.declared.script.HostStep.{HostStep}
use Rattle.vq_model.specs.declared.script.HostStep.TheVariants.{Signal, WaitAll, WaitAny, FenceWait}
use Rattle.vq_model.specs.declared.script.Job.{Job}
use Rattle.vq_model.specs.declared.script.Job.TheVariants.{Host, Batch}
use Rattle.vq_model.specs.declared.script.Script.{Script}
use Rattle.vq_model.specs.Limits.{limits_of}
use Rattle.vq_model.specs.LineFaults.{pairs_of}
use Rattle.vq_model.specs.Lowering.{of_pair, of_wait, plan_job, plan_of, step_needs}
use Rattle.vq_model.specs.LoweredPlans.{IsPlan}
use Rattle.vq_model.specs.Plan.{Plan}
use Rattle.vq_model.specs.SameScript.{IsRead}
use Rattle.vq_model.specs.Signals.{job_signals, of_mark, step_signals}
use Rattle.vq_model.specs.ValidScripts.{is_threaded_queue}
use Rattle.vq_history_laws.specs.Histories.{acts}
use Rattle.vq_plan_laws.proofs.Cited.{count_jobs, count_ops, all_commands}
use Rattle.vq_reading_laws.proofs.Cited.{most_jobs, most_queues, read_batches, read_valid}
use Rattle.vq_progress_laws.specs.Movers.{all_queues, round, rounds_of}
use Rattle.vq_progress_laws.proofs.ShortSteps.{few_pairs, most_pairs}

-- Sums over the jobs of a script

-- Each job has at most so many parts.
few_parts : {A : Type 0} (part : ℕ × Job → List A) (most : ℕ) (jobs : List Job) (a : ℕ) →
    ((j : ℕ) (job : Job) → slice_get jobs j ≡ Some job → (m : ℕ) → length (part (m, job)) ≤ most) →
    length (flat_map part (enumerate_from a jobs)) ≤ most * length jobs
few_parts part most [] a f = omega arith
few_parts part most (job ∷ jobs) a f =
    let rest = few_parts part most jobs (a + 1) (λ j y e m. f (suc j) y e m) in
    let here = f 0 job refl a in
    let both = length-append (part (a, job)) (flat_map part (enumerate_from (a + 1) jobs)) in
    let more : most * suc (length jobs) ≡ most + most * length jobs = grind arith in
    omega arith

-- .. and so has its part of a plan.
few_needs : (s : Script) (most : ℕ) (jobs : List Job) (a : ℕ) →
    ((j : ℕ) (job : Job) → slice_get jobs j ≡ Some job → (m : ℕ) → length (plan_job s (m, job)).needs ≤ most) →
    sum (map (λ x. length x.needs) (map (plan_job s) (enumerate_from a jobs))) ≤ most * length jobs
few_needs s most [] a f = omega arith
few_needs s most (job ∷ jobs) a f =
    let rest = few_needs s most jobs (a + 1) (λ j y e m. f (suc j) y e m) in
    let here = f 0 job refl a in
    let more : most * suc (length jobs) ≡ most + most * length jobs = grind arith in
    let others : List ℕ = map (λ x. length x.needs) (map (plan_job s) (enumerate_from (a + 1) jobs)) in
    let both = sum_by-cons (λ (n : ℕ). n) (length (plan_job s (a, job)).needs) others in
    omega arith

module _ (s : Script) (i : IsRead s) where
  -- the signals of a job are those of a batch and its fence at most
  few_signals : (j : ℕ) (job : Job) → slice_get s.jobs j ≡ Some job → (m : ℕ) →
      length (job_signals (m, job)) ≤ (limits_of 2).signals + 1
  few_signals j (Host h) e m = by_step h.step
    where
      by_step : (t : HostStep) → length (step_signals m h.line t) ≤ (limits_of 2).signals + 1
      by_step (Signal pair) = omega arith
      by_step other = omega arith
  few_signals j (Batch b) e m =
      let few = (read_batches s i j b e).few_signals in
      let marks = length-map (b.signals ++ option_to_list b.fence) (of_mark m) in
      let both = length-append b.signals (option_to_list b.fence) in
      let one = few_fences b.fence in
      omega arith
    where
      few_fences : (f : Option Mark) → length (option_to_list f) ≤ 1
      few_fences None = omega arith
      few_fences (Some f) = omega arith

  -- the needs of a job are the waits of a batch or the pairs of a host step
  few_of_job : (j : ℕ) (job : Job) → slice_get s.jobs j ≡ Some job → (m : ℕ) →
      length (plan_job s (m, job)).needs ≤ (limits_of 2).waits + most_pairs
  few_of_job j (Host h) e m = by_step h.step (few_pairs i.text i.form (record s { turns = i.turns }) i.stands j h e)
    where
      by_step : (t : HostStep) → length (pairs_of t) ≤ most_pairs →
          length (step_needs s m h.line t) ≤ (limits_of 2).waits + most_pairs
      by_step (WaitAll pairs) few = let same = length-map pairs (of_pair h.line) in omega arith
      by_step (WaitAny pairs) few = let same = length-map pairs (of_pair h.line) in omega arith
      by_step (FenceWait f) few = omega arith
      by_step other few = omega arith
  few_of_job j (Batch b) e m =
      let few = (read_batches s i j b e).few_waits in
      let same = length-map b.waits (of_wait s m) in
      omega arith

  few_in_script : acts (plan_of s) < 2 ^ 21
  few_in_script =
      let limits = (read_valid s i).limits in
      let jobs = limits.jobs in
      let most = most_jobs s.version in
      let commands = limits.commands in
      let all = all_commands s.jobs in
      let count = count_jobs s in
      let ops = count_ops s in
      let signals = few_parts job_signals ((limits_of 2).signals + 1) s.jobs 0 few_signals in
      let needs = few_needs s ((limits_of 2).waits + most_pairs) s.jobs 0 few_of_job in
      omega arith

-- Turns

-- the turns of a round are at most so many
abbrev most_turns : ℕ
most_turns = 1 + 2 * (limits_of 2).queues

module _ (p : Plan) (i : IsPlan p) where
  -- A plan has few acts.
  pub few_acts : acts p < 2 ^ 21
  few_acts = subst (λ (q : Plan). acts q < 2 ^ 21) (sym i.lowered) (few_in_script p.script i.of_script)

  few_queues : length p.script.queues ≤ (limits_of 2).queues
  few_queues =
      let queues = (read_valid p.script i.of_script).limits.queues in
      let most = most_queues p.script.version in
      omega arith

  one_round : length (round p) ≤ most_turns
  one_round =
      let queues = few_queues in
      let threaded = filter (is_threaded_queue p.script) (all_queues p) in
      let both = length-append (map SubmitActor threaded) (map RingActor (all_queues p)) in
      let submits = length-map threaded SubmitActor in
      let some = length-filter (is_threaded_queue p.script) (all_queues p) in
      let fewer = count_by-le-length (is_threaded_queue p.script) (all_queues p) in
      let all = length-map (all_queues p) RingActor in
      let rings : length (map RingActor (all_queues p)) ≡ length p.script.queues =
      length-map-range_with_len RingActor 0 (length p.script.queues) in
      omega arith

  some_rounds : (n : ℕ) → length (rounds_of n p) ≤ most_turns * n
  some_rounds zero = omega arith
  some_rounds (suc n) =
      let rest = some_rounds n in
      let one = one_round in
      let both = length-append (round p) (rounds_of n p) in
      omega arith

  -- As many rounds as there are acts have few turns.
  pub few_turns : (n : ℕ) → n ≤ acts p → length (rounds_of n p) < 2 ^ 32
  few_turns n within =
      let few = few_acts in
      let some = some_rounds n in
      omega arith
