-- Each command of a plan is of a job, and stands in its batch where its number says.
use Rattle.std.proofs.Common.{◌≡◌, ℕ, suc, ◌+◌, ◌<◌, ◌≤◌, true, List, [], ◌∷◌, length, fold, take, Option, Some, None}
use Rattle.std.proofs.Common.{◌-◌, refl, sym, ap, ◌∙◌, ◌⊎◌, inl, inr, subst, arith}
use Rattle.std.specs.List.{slice_get, flat_map, range_with_len}
use Rattle.std.specs.Option.{option_map_or}
use Rattle.std.proofs.lemmas.Bool.{cases_lt, false≢true}
use Rattle.std.proofs.lemmas.Option.{slice_get_past}
use Rattle.std.proofs.lemmas.List.{length-append}
use Rattle.vq_model.specs.declared.script.Script.{Script}
use Rattle.vq_model.specs.declared.script.Job.{Job}
use Rattle.vq_model.specs.declared.script.Job.TheVariants.{Host, Batch}
use Rattle.vq_model.specs.declared.script.Batch.{Batch as BatchOf}
use Rattle.vq_model.specs.Plan.{Plan, commands_of}
use Rattle.vq_ground.specs.Lists.{has}
use Rattle.vq_model.specs.Lowering.{commands_in, batch_commands, plan_job, plan_of}
use Rattle.vq_model.specs.LoweredPlans.{IsPlan}
use Rattle.vq_ground.proofs.Numbers.{range-has, has-range_cases}
use Rattle.vq_plan_laws.proofs.PlanCommands.{total, fold_total, command_from, length-batch_commands}
use Rattle.vq_plan_laws.proofs.PlanParts.{part_is}

-- the commands of jobs, counted from a number on
abbrev pub counted : ℕ → List Job → ℕ
counted a jobs = fold (λ n x. n + commands_in x) a jobs

pub record HasOwner (jobs : List Job) (a c : ℕ) : Type 0 where
  pub job : ℕ
  pub item : Job
  pub is : slice_get jobs job ≡ Some item
  pub from : counted a (take job jobs) ≤ c
  pub upto : c < counted a (take job jobs) + commands_in item

find_owner : (jobs : List Job) (a c : ℕ) → a ≤ c → c < a + length (flat_map batch_commands jobs) →
    HasOwner jobs a c
find_owner [] a c l u = absurd (omega arith)
find_owner (x ∷ jobs) a c l u = by_place (cases_lt c (a + commands_in x)) (find_owner jobs (a + commands_in x) c)
  where
    by_place : ((c < a + commands_in x) ⊎ (a + commands_in x ≤ c)) →
        (a + commands_in x ≤ c → c < (a + commands_in x) + length (flat_map batch_commands jobs) →
        HasOwner jobs (a + commands_in x) c) →
        HasOwner (x ∷ jobs) a c
    by_place (inl h) f = record { job = 0; item = x; is = refl; from = l; upto = h }
    by_place (inr h) f =
        let n = length-batch_commands x in
        let m = length-append (batch_commands x) (flat_map batch_commands jobs) in
        let r = f h (omega arith) in
        record { job = suc r.job; item = r.item; is = r.is; from = r.from; upto = r.upto }

pub command_owner : (s : Script) (c : ℕ) → c < length (plan_of s).commands → HasOwner s.jobs 0 c
command_owner s c l = find_owner s.jobs 0 c (omega arith) (omega arith)

pub owner_has : (s : Script) (c : ℕ) (o : HasOwner s.jobs 0 c) → has (commands_of (plan_of s) o.job) c ≡ true
owner_has s c o =
    ap (λ (xs : List ℕ). has xs c) (part_is (λ x. x.commands) [] s o.job
    ∙ ap (λ y. option_map_or (λ job. (plan_job s (o.job, job)).commands) y []) o.is)
    ∙ by_job o.job o.item o.from o.upto
  where
    by_job : (j : ℕ) (item : Job) → counted 0 (take j s.jobs) ≤ c → c < counted 0 (take j s.jobs) + commands_in item →
        has (plan_job s (j, item)).commands c ≡ true
    by_job j (Host h) f u = absurd (omega arith)
    by_job j (Batch b) f u = range-has (length b.commands) (counted 0 (take j s.jobs)) c f u

owned : (s : Script) (c : ℕ) → c < length (plan_of s).commands →
    (j : ℕ) × (has (commands_of (plan_of s) j) c ≡ true)
owned s c l = let o = command_owner s c l in (o.job, owner_has s c o)

pub command_has_job : (p : Plan) → IsPlan p → (c : ℕ) → c < length p.commands →
    (j : ℕ) × (has (commands_of p j) c ≡ true)
command_has_job p i =
    subst (λ (q : Plan). (c : ℕ) → c < length q.commands → (j : ℕ) × (has (commands_of q j) c ≡ true))
    (sym i.lowered) (owned p.script)

-- a job with commands is one of the plan
pub owner_exists : (p : Plan) (j c : ℕ) → has (commands_of p j) c ≡ true → j < length p.jobs
owner_exists p j c h = elim (cases_lt j (length p.jobs)) [
  | inl l ↦ l
  | inr g ↦ absurd (false≢true (sym (ap (λ o. has (option_map_or (λ x. x.commands) o []) c) (slice_get_past p.jobs j g)) ∙ h))
]

-- where a command of a job stands: so many commands behind the job's first
pub record StandsAt (s : Script) (j c : ℕ) : Type 0 where
  pub batch : BatchOf
  pub is : slice_get s.jobs j ≡ Some (Batch batch)
  pub first : ℕ
  pub own : commands_of (plan_of s) j ≡ range_with_len first (length batch.commands)
  pub from : first ≤ c
  pub upto : c < first + length batch.commands
  pub same : slice_get (plan_of s).commands c ≡ slice_get batch.commands (c - first)

pub stands_at : (s : Script) (j c : ℕ) → has (commands_of (plan_of s) j) c ≡ true → StandsAt s j c
stands_at s j c h = by_job (slice_get s.jobs j) refl
  where
    parts : (o : Option Job) → slice_get s.jobs j ≡ o →
        commands_of (plan_of s) j ≡ option_map_or (λ job. (plan_job s (j, job)).commands) o []
    parts o i = part_is (λ x. x.commands) [] s j
        ∙ ap (λ y. option_map_or (λ job. (plan_job s (j, job)).commands) y []) i

    by_job : (o : Option Job) → slice_get s.jobs j ≡ o → StandsAt s j c
    by_job None i = absurd (false≢true (sym (ap (λ (xs : List ℕ). has xs c) (parts None i)) ∙ h))
    by_job (Some (Host x)) i =
        absurd (false≢true (sym (ap (λ (xs : List ℕ). has xs c) (parts (Some (Host x)) i)) ∙ h))
    by_job (Some (Batch b)) i =
        let first = counted 0 (take j s.jobs) in
        let n = length b.commands in
        let within = has-range_cases n first c (sym (ap (λ (xs : List ℕ). has xs c) (parts (Some (Batch b)) i)) ∙ h) in
        let a = within.0 in
        let z = within.1 in
        let t = fold_total (take j s.jobs) 0 in
        let q : total (take j s.jobs) + (c - first) ≡ c = omega arith in
        record {
          batch = b;
          is = i;
          first = first;
          own = parts (Some (Batch b)) i;
          from = omega arith;
          upto = omega arith;
          same = ap (slice_get (flat_map batch_commands s.jobs)) (sym q)
              ∙ command_from s.jobs j (c - first) (Batch b) i (omega arith);
        }
