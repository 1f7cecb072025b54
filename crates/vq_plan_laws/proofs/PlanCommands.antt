-- The commands of a plan by their numbers.
use Rattle.std.proofs.Common.{ℕ, ◌+◌, List, [], ◌∷◌, ◌≡◌, fold, arith, zero, suc, ◌<◌, ◌≤◌, take, Some, None, ap, length, refl, ◌++◌, ◌∙◌, map, sum}
use Rattle.std.proofs.lemmas.List.{length-append}
use Rattle.std.proofs.lemmas.List.Sums.{sum_by-cons}
use Rattle.vq_model.specs.declared.script.Job.{Job}
use Rattle.vq_model.specs.Lowering.{commands_in, batch_commands}
use Rattle.std.specs.List.{slice_get, flat_map}
use Rattle.std.specs.Option.{option_map_or}
use Rattle.vq_model.specs.declared.script.Job.TheVariants.{Host, Batch}
use Rattle.vq_ground.proofs.Gets.{get-append, get-append_left}

-- Commands

pub total : List Job → ℕ
total [] = 0
total (job ∷ jobs) = commands_in job + total jobs

pub fold_total : (jobs : List Job) (m : ℕ) → fold (λ n x. n + commands_in x) m jobs ≡ m + total jobs
unfolding total
fold_total [] m = omega arith
fold_total (job ∷ jobs) m = let r = fold_total jobs (m + commands_in job) in omega arith

pub total_take : (jobs : List Job) (i j : ℕ) (job : Job) → slice_get jobs i ≡ Some job → i < j → total (take i jobs) + commands_in job ≤ total (take j jobs)
unfolding total
total_take [] i j job e l = absurd (let c : None ≡ Some job = e in cc)
total_take (x ∷ jobs) i zero job e l = absurd (omega arith)
total_take (x ∷ jobs) zero (suc j) job e l = let c = ap (λ o. option_map_or commands_in o 0) e in omega arith
total_take (x ∷ jobs) (suc i) (suc j) job e l = let r = total_take jobs i j job e (omega arith) in omega arith

pub length-batch_commands : (job : Job) → length (batch_commands job) ≡ commands_in job
length-batch_commands (Host h) = refl
length-batch_commands (Batch b) = refl

pub command_from : (jobs : List Job) (j k : ℕ) (job : Job) → slice_get jobs j ≡ Some job → k < commands_in job → slice_get (flat_map batch_commands jobs) (total (take j jobs) + k) ≡ slice_get (batch_commands job) k
unfolding total
command_from [] j k job e l = absurd (let c : None ≡ Some job = e in cc)
command_from (x ∷ jobs) zero k job e l =
    let same : x ≡ job = cc in
    let n = length-batch_commands job in
    let z : 0 + k ≡ k = omega arith in
    ap (slice_get (batch_commands x ++ flat_map batch_commands jobs)) z
    ∙ (ap (λ y. slice_get (batch_commands y ++ flat_map batch_commands jobs) k) same ∙ get-append_left (batch_commands job) (flat_map batch_commands jobs) k (omega arith))
command_from (x ∷ jobs) (suc j) k job e l =
    let n = length-batch_commands x in
    let q : (commands_in x + total (take j jobs)) + k ≡ length (batch_commands x) + (total (take j jobs) + k) = omega arith in
    ap (slice_get (batch_commands x ++ flat_map batch_commands jobs)) q
    ∙ (get-append (batch_commands x) (flat_map batch_commands jobs) (total (take j jobs) + k) ∙ command_from jobs j k job e l)

-- the commands of all jobs
pub all_commands : (jobs : List Job) → length (flat_map batch_commands jobs) ≡ sum (map commands_in jobs)
all_commands [] = refl
all_commands (job ∷ jobs) =
    let rest = all_commands jobs in
    let here = length-batch_commands job in
    let both = length-append (batch_commands job) (flat_map batch_commands jobs) in
    let sums = sum_by-cons (λ (n : ℕ). n) (commands_in job) (map commands_in jobs) in
    omega arith
