-- The jobs of commands, as they are gathered job by job.
use Rattle.std.proofs.Common.{◌≡◌, ℕ, zero, suc, ◌+◌, ◌-◌, ◌<◌, ◌≤◌, true, List, [], ◌∷◌, ◌++◌, length, get_or, take}
use Rattle.std.proofs.Common.{Some, None, refl, sym, ap, ◌∙◌, subst, arith}
use Rattle.std.specs.Prelude.{replicate}
use Rattle.std.specs.List.{slice_get, flat_map, enumerate_from, range_with_len}
use Rattle.std.specs.Option.{option_map_or}
use Rattle.std.proofs.lemmas.Grind.{flat_map-append}
use Rattle.std.proofs.lemmas.List.{append-nil, length-append, length-replicate, get_or-replicate, get_or_append_left}
use Rattle.std.proofs.lemmas.List.{get_or-append_right, length-take-le}
use Rattle.std.proofs.lemmas.List.FromFn.{length-range_with_len, get_or-range_with_len}
use Rattle.vq_model.specs.declared.script.Script.{Script}
use Rattle.vq_model.specs.declared.script.Job.{Job}
use Rattle.vq_model.specs.declared.script.Job.TheVariants.{Host, Batch}
use Rattle.vq_model.specs.declared.script.Batch.{Batch as BatchOf}
use Rattle.vq_model.specs.declared.script.HostLine.{HostLine}
use Rattle.vq_model.specs.declared.plan.PlanJob.{PlanJob}
use Rattle.vq_model.specs.Lowering.{batch_commands, commands_in, plan_of}
use Rattle.vq_model.specs.Plan.{Plan, commands_of}
use Rattle.vq_ground.specs.Lists.{has}
use Rattle.vq_ground.proofs.Gets.{get_within}
use Rattle.vq_ground.proofs.Lists.{has_some}
use Rattle.vq_plan_laws.proofs.Cited.{HasOwner, StandsAt, stands_at, command_owner, counted, length-batch_commands}
use Rattle.vq_plan_laws.proofs.Cited.{owner_has}
use Rattle.vq_spec.specs.Owners.{HasOwners}
use Rattle.vq_spec.proofs.Ranges.{take_push, enumerate-append}

-- a job once for each of its commands
abbrev pub owner_of : ℕ × Job → List ℕ
owner_of (j, job) = replicate (length (batch_commands job)) j

abbrev pub owners_of : List Job → List ℕ
owners_of jobs = flat_map owner_of (enumerate_from 0 jobs)

pub owners_push : (jobs : List Job) (j : ℕ) (job : Job) → slice_get jobs j ≡ Some job →
    owners_of (take (j + 1) jobs) ≡ owners_of (take j jobs) ++ owner_of (j, job)
owners_push jobs j job at =
    let inside = get_within jobs j job at in
    let n : 0 + length (take j jobs) ≡ j = omega (arith, length-take-le j jobs (omega arith)) in
    ap owners_of (take_push jobs j job at)
    ∙ (ap (flat_map owner_of) (enumerate-append 0 (take j jobs) (job ∷ []))
    ∙ (flat_map-append owner_of (enumerate_from 0 (take j jobs))
    (enumerate_from (0 + length (take j jobs)) (job ∷ []))
    ∙ (ap (λ k. owners_of (take j jobs) ++ (owner_of (k, job) ++ [])) n
    ∙ ap (λ xs. owners_of (take j jobs) ++ xs) (append-nil (owner_of (j, job))))))

-- as many as there are commands
owners_count : (a : ℕ) (jobs : List Job) →
    length (flat_map owner_of (enumerate_from a jobs)) ≡ length (flat_map batch_commands jobs)
owners_count a [] = refl
owners_count a (x ∷ jobs) =
    let here = length-replicate (length (batch_commands x)) a in
    let rest = owners_count (a + 1) jobs in
    let one = length-append (owner_of (a, x)) (flat_map owner_of (enumerate_from (a + 1) jobs)) in
    let two = length-append (batch_commands x) (flat_map batch_commands jobs) in
    omega arith

counted_more : (m : ℕ) (jobs : List Job) → m ≤ counted m jobs
counted_more m [] = omega arith
counted_more m (x ∷ jobs) = let r = counted_more (m + commands_in x) jobs in omega arith

-- a command of a job has the job's number
owner_there : (jobs : List Job) (a b c j : ℕ) (item : Job) → slice_get jobs j ≡ Some item →
    counted b (take j jobs) ≤ b + c → b + c < counted b (take j jobs) + commands_in item →
    get_or (flat_map owner_of (enumerate_from a jobs)) c 0 ≡ a + j
owner_there [] a b c j item e f u = absurd (let n : None ≡ Some item = e in cc)
owner_there (x ∷ jobs) a b c zero item e f u =
    let own = ap (λ o. option_map_or commands_in o 0) e in
    let n = length-batch_commands x in
    let all = length-replicate (length (batch_commands x)) a in
    let z : a ≡ a + 0 = omega arith in
    get_or_append_left (owner_of (a, x)) (flat_map owner_of (enumerate_from (a + 1) jobs)) 0 c (omega arith)
    ∙ (get_or-replicate (length (batch_commands x)) c a 0 (omega arith) ∙ z)
owner_there (x ∷ jobs) a b c (suc j) item e f u =
    let n = length-batch_commands x in
    let all = length-replicate (length (batch_commands x)) a in
    let more = counted_more (b + commands_in x) (take j jobs) in
    let past : length (owner_of (a, x)) ≤ c = omega arith in
    let size : length (owner_of (a, x)) ≡ commands_in x = omega arith in
    let q : (b + commands_in x) + (c - commands_in x) ≡ b + c = omega arith in
    let z : (a + 1) + j ≡ a + suc j = omega arith in
    get_or-append_right (owner_of (a, x)) (flat_map owner_of (enumerate_from (a + 1) jobs)) (commands_in x) c 0 size
    (omega arith)
    ∙ (owner_there jobs (a + 1) (b + commands_in x) (c - commands_in x) j item e (omega arith) (omega arith) ∙ z)

pub owners_are : (s : Script) (owners : List ℕ) → owners ≡ owners_of s.jobs → HasOwners (plan_of s) owners
owners_are s owners e =
    subst (HasOwners (plan_of s)) (sym e) (record {
      count = owners_count 0 s.jobs;
      each = λ c l. by_owner c (command_owner s c l);
    })
  where
    by_owner : (c : ℕ) → HasOwner s.jobs 0 c → has (commands_of (plan_of s) (get_or (owners_of s.jobs) c 0)) c ≡ true
    by_owner c o =
        let z : 0 + o.job ≡ o.job = omega arith in
        let from = o.from in
        let upto = o.upto in
        let j : get_or (owners_of s.jobs) c 0 ≡ o.job =
        owner_there s.jobs 0 0 c o.job o.item o.is (omega arith) (omega arith) ∙ z in
        subst (λ k. has (commands_of (plan_of s) k) c ≡ true) (sym j) (owner_has s c o)

-- a range begins where another does that is the same, if there is something in it
pub same_first : (a b m n : ℕ) → range_with_len a m ≡ range_with_len b n → 0 < n → a ≡ b
same_first a b m n e l =
    let o = ap length e in
    let p = length-range_with_len a m in
    let q = length-range_with_len b n in
    let u = get_or-range_with_len a m 0 0 (omega arith) in
    let w = get_or-range_with_len b n 0 0 l in
    omega (arith, ap (λ xs. get_or xs 0 0) e)

-- a job of a command has some
pub some_there : (p : Plan) (c j : ℕ) → has (commands_of p j) c ≡ true → (job : PlanJob) →
    slice_get p.jobs j ≡ Some job → 0 < length job.commands
some_there p c j own job at =
    has_some job.commands c (ap (λ o. has (option_map_or (λ y. y.commands) o []) c) (sym at) ∙ own)

-- a command of a job stands in its batch, as far behind the first as its number says
module _ (s : Script) (p : Plan) (is : plan_of s ≡ p) (c j : ℕ) (own : has (commands_of p j) c ≡ true)
    (job : PlanJob) (at : slice_get p.jobs j ≡ Some job) (first : ℕ)
    (begins : job.commands ≡ range_with_len first (length job.commands)) where
  pub there : StandsAt s j c
  there = stands_at s j c (subst (λ (q : Plan). has (commands_of q j) c ≡ true) (sym is) own)

  pub first_is : first ≡ there.first
  first_is =
      let from = there.from in
      let upto = there.upto in
      let same : job.commands ≡ commands_of p j = sym (ap (λ o. option_map_or (λ y. y.commands) o []) at) in
      same_first first there.first (length job.commands) (length there.batch.commands)
      (sym begins ∙ (same ∙ (ap (λ (q : Plan). commands_of q j) (sym is) ∙ there.own))) (omega arith)

  pub command_is : (batch : BatchOf) → slice_get s.jobs j ≡ Some (Batch batch) →
      (slice_get p.commands c ≡ slice_get batch.commands (c - first)) × (c - first < length batch.commands)
  command_is batch e =
      let same : Some (Batch batch) ≡ Some (Batch there.batch) = sym e ∙ there.is in
      let it : batch ≡ there.batch = cc in
      let from = there.from in
      let upto = there.upto in
      let first = first_is in (
        ap (λ (q : Plan). slice_get q.commands c) (sym is)
            ∙ (there.same
            ∙ ((λ i. slice_get (sym it i).commands (c - sym first i)))),
        omega (arith, ap (λ (b : BatchOf). length b.commands) it),
      )

  pub no_step : (x : HostLine) → slice_get s.jobs j ≡ Some (Host x) → ⊥
  no_step x e =
      let same : Some (Host x) ≡ Some (Batch there.batch) = sym e ∙ there.is in
      cc
