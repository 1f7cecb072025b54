-- The jobs of a script that was read, and their commands.
use Rattle.std.proofs.Common.{◌^◌, ◌≡◌, ℕ, zero, suc, ◌+◌, ◌<◌, ◌≤◌, get_or, List, [], ◌∷◌, ◌++◌, length, take, drop, Some, None, refl, sym, ap, ◌∙◌, arith, append_assoc}
use Rattle.std.specs.List.{slice_get, flat_map, enumerate_from}
use Rattle.std.proofs.lemmas.Option.{slice_get_read}
use Rattle.std.proofs.lemmas.List.{append-nil, length-append, length-map, take-append-drop}
use Rattle.std.proofs.lemmas.List.FromFn.{length-enumerate_from}
use Rattle.std.proofs.lemmas.Grind.{flat_map-append}
use Rattle.vq_model.specs.declared.script.Script.{Script}
use Rattle.vq_model.specs.declared.script.Job.{Job}
use Rattle.vq_model.specs.Lowering.{batch_commands, plan_of, plan_job}
use Rattle.vq_model.specs.SameScript.{IsRead}
use Rattle.vq_plan_laws.proofs.Cited.{all_commands}
use Rattle.vq_model.specs.Limits.{limits_of}
use Rattle.vq_reading_laws.proofs.Cited.{read_valid, jobs_fit}

-- Numbers

-- one more job's commands
pub commands_push : (jobs : List Job) (j : ℕ) (job : Job) → slice_get jobs j ≡ Some job →
    flat_map batch_commands (take (j + 1) jobs) ≡ flat_map batch_commands (take j jobs)
    ++ batch_commands job
commands_push jobs j job e = let n : j + 1 ≡ suc j = omega arith in ap
    (λ k. flat_map batch_commands (take k jobs)) n ∙ push jobs j e
  where
    push : (jobs : List Job) (j : ℕ) → slice_get jobs j ≡ Some job →
        flat_map batch_commands (take (suc j) jobs) ≡ flat_map batch_commands (take j jobs)
        ++ batch_commands job
    push [] j e = absurd (let c : None ≡ Some job = e in cc)
    push (x ∷ jobs) zero e = let same : x ≡ job = cc in append-nil (batch_commands x)
        ∙ ap batch_commands same
    push (x ∷ jobs) (suc j) e = ap (λ cs. batch_commands x ++ cs) (push jobs j e)
        ∙ sym (append_assoc (batch_commands x) (flat_map batch_commands (take j jobs))
        (batch_commands job))

module _ (s : Script) (i : IsRead s) where
  pub few_jobs : length s.jobs < 2 ^ 16
  few_jobs = let few = (read_valid s i).limits.jobs in let fit = jobs_fit s.version in omega arith

  pub few_commands : length (flat_map batch_commands s.jobs) ≤ (limits_of s.version).commands
  few_commands =
      let most = (read_valid s i).limits.commands in
      omega (arith, all_commands s.jobs)

  -- the commands up to a job and its own
  pub few_up_to : (j : ℕ) (job : Job) → slice_get s.jobs j ≡ Some job →
      length (flat_map batch_commands (take j s.jobs)) + length (batch_commands job)
      ≤ (limits_of s.version).commands
  few_up_to j job e =
      let whole = flat_map-append batch_commands (take (j + 1) s.jobs) (drop (j + 1) s.jobs) in
      let cut = ap (λ jobs. length (flat_map batch_commands jobs))
      (take-append-drop (j + 1) s.jobs) in
      let here = ap length (commands_push s.jobs j job e) in
      let a = length-append (flat_map batch_commands (take (j + 1) s.jobs))
      (flat_map batch_commands (drop (j + 1) s.jobs)) in
      let b = length-append (flat_map batch_commands (take j s.jobs)) (batch_commands job) in
      omega (arith, few_commands, ap length whole)

  pub plan_length : length (plan_of s).jobs ≡ length s.jobs
  plan_length = length-map (enumerate_from 0 s.jobs) (plan_job s) ∙ length-enumerate_from 0 s.jobs

-- Jobs

-- a job that was read
pub read_job : (jobs seen : List Job) (j : ℕ) (r job : Job) → seen ≡ jobs → j < length jobs →
    r ≡ get_or seen j r → r ≡ job → slice_get jobs j ≡ Some job
read_job jobs seen j r job e l read is =
    slice_get_read jobs (length jobs) j r refl l (read ∙ ap (λ xs. get_or xs j r) e) ∙ ap Some is

-- a job of the script, by its place
pub few_in : (s : Script) → IsRead s → (j : ℕ) (job : Job) → slice_get s.jobs j ≡ Some job →
    length (batch_commands job) ≤ (limits_of s.version).commands
few_in s i j job e = omega (arith, few_up_to s i j job e)
