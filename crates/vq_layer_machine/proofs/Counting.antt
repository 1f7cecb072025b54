-- The commands of a script's jobs stand one behind another: each is of one job.
use Rattle.std.proofs.Common.{◌≡◌, ℕ, zero, suc, ◌+◌, ◌<◌, ◌≤◌, true, List, [], ◌∷◌, take, Option, Some, None, inl, inr, refl, sym, ap, ◌∙◌, arith}
use Rattle.std.specs.List.{slice_get}
use Rattle.std.specs.Option.{option_map_or}
use Rattle.std.proofs.lemmas.Bool.{cases_eq, cases_lt, false≢true}
use Rattle.vq_model.specs.declared.script.Script.{Script}
use Rattle.vq_model.specs.declared.script.Job.{Job}
use Rattle.vq_model.specs.declared.script.Job.TheVariants.{Host, Batch}
use Rattle.vq_model.specs.Plan.{commands_of}
use Rattle.vq_model.specs.Lowering.{plan_of, plan_job, commands_in}
use Rattle.vq_ground.specs.Lists.{has}
use Rattle.vq_ground.proofs.Numbers.{has-range_cases}
use Rattle.vq_plan_laws.proofs.Cited.{part_is, counted}
use Rattle.vq_layer_machine.proofs.Ties.{HasOneJob}

pub counted_more : (a : ℕ) (jobs : List Job) (j : ℕ) (job : Job) → slice_get jobs j ≡ Some job → counted a (take (suc j) jobs) ≡ counted a (take j jobs) + commands_in job
counted_more a [] j job e = absurd (cc)
counted_more a (x ∷ jobs) zero job e = let same : x ≡ job = cc in ap (λ (y : Job). a + commands_in y) same
counted_more a (x ∷ jobs) (suc j) job e = counted_more (a + commands_in x) jobs j job e

counted_least : (n a : ℕ) (jobs : List Job) → n ≤ a → n ≤ counted a jobs
counted_least n a [] l = l
counted_least n a (x ∷ jobs) l = counted_least n (a + commands_in x) jobs (omega arith)

counted_apart : (a : ℕ) (jobs : List Job) (i j : ℕ) (job : Job) → slice_get jobs i ≡ Some job → i < j → counted a (take i jobs) + commands_in job ≤ counted a (take j jobs)
counted_apart a [] i j job e l = absurd (cc)
counted_apart a (x ∷ jobs) i zero job e l = absurd (omega arith)
counted_apart a (x ∷ jobs) zero (suc j) job e l =
    let same : x ≡ job = cc in
    let count = ap commands_in same in
    let least = counted_least (a + commands_in x) (a + commands_in x) (take j jobs) (omega arith) in
    omega arith
counted_apart a (x ∷ jobs) (suc i) (suc j) job e l = counted_apart (a + commands_in x) jobs i j job e (omega arith)

-- where a command stands
record IsCounted (s : Script) (j c : ℕ) : Type 0 where
  job : Job
  is : slice_get s.jobs j ≡ Some job
  from : counted 0 (take j s.jobs) ≤ c
  upto : c < counted 0 (take j s.jobs) + commands_in job

is_counted : (s : Script) (j c : ℕ) → has (commands_of (plan_of s) j) c ≡ true → IsCounted s j c
is_counted s j c h = by_job (slice_get s.jobs j) refl
  where
    own : (o : Option Job) → slice_get s.jobs j ≡ o → has (option_map_or (λ job. (plan_job s (j, job)).commands) o []) c ≡ true
    own o i = ap (λ y. has (option_map_or (λ job. (plan_job s (j, job)).commands) y []) c) (sym i) ∙ ap (λ cs. has cs c) (sym (part_is (λ x. x.commands) [] s j)) ∙ h

    by_job : (o : Option Job) → slice_get s.jobs j ≡ o → IsCounted s j c
    by_job None i = absurd (false≢true (own None i))
    by_job (Some (Host x)) i = absurd (false≢true (own (Some (Host x)) i))
    by_job (Some (Batch b)) i =
        let r = has-range_cases (commands_in (Batch b)) (counted 0 (take j s.jobs)) c (own (Some (Batch b)) i) in
        record { job = Batch b; is = i; from = r.0; upto = r.1 }

pub has_one_job : (s : Script) → HasOneJob (plan_of s)
has_one_job s c i j h k =
    let a = is_counted s i c h in
    let b = is_counted s j c k in
    let from = a.from in let upto = a.upto in let later = b.from in let below = b.upto in
    elim (cases_lt i j) [
      | inl l ↦ (let less = counted_apart 0 s.jobs i j a.job a.is l in absurd (omega arith))
      | inr l ↦ elim (cases_eq i j) [
        | inl e ↦ e
        | inr n ↦ (let less = counted_apart 0 s.jobs j i b.job b.is (grind arith) in absurd (omega arith))
      ]
    ]
