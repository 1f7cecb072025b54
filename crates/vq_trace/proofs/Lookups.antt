-- What is looked up of a plan, by what its index has.
use Rattle.std.proofs.Common.{ℕ, ◌≡◌, ◌<◌, ◌⊎◌, inl, inr, Bool, true, false, cond, List, [], ◌∷◌, length, find, Some, None, arith, refl, sym, ap, subst, ◌∙◌}
use Rattle.std.specs.Prelude.{◌==◌, nat_le}
use Rattle.std.specs.List.{slice_get}
use Rattle.std.specs.Str.{bytes_eq}
use Rattle.std.specs.Option.{option_and_then, option_map, option_map_or}
use Rattle.std.proofs.lemmas.Bool.Decides.{nat_tests}
use Rattle.vq_model.specs.declared.plan.Event.TheVariants.{Apply as Applies}
use Rattle.vq_model.specs.declared.plan.PlanJob.{PlanJob}
use Rattle.vq_model.specs.declared.script.CommandLine.{CommandLine}
use Rattle.vq_model.specs.Naming.{semaphore_name}
use Rattle.vq_model.specs.Text.{numeral}
use Rattle.vq_model.specs.LoweredPlans.{IsPlan}
use Rattle.vq_model.specs.Plan.{Plan, chain, commands_of, line_of_command, line_of_job, resolver, value}
use Rattle.vq_ground.specs.Lists.{has}
use Rattle.vq_model.specs.WellFormed.{AreInOrder}
use Rattle.vq_ground.proofs.Gets.{get_within}
use Rattle.vq_ground.proofs.Options.{some_of}
use Rattle.vq_ground.proofs.Searches.{find_member, find_none}
use Rattle.vq_plan_laws.proofs.Cited.{plan_semaphores, plan_well_formed, owner_exists}
use Rattle.vq_given.specs.Words.{apply_said, command_at, command_said, job_with, semaphore_named}
use Rattle.vq_trace.proofs.FirstInRange.{first_in_range, found_below}

-- The job of a command

pub owner_is : (p : Plan) → IsPlan p → (c owner : ℕ) → has (commands_of p owner) c ≡ true → job_with p c ≡ Some owner
owner_is p is c owner own =
    first_in_range (λ j. has (commands_of p j) c) (length p.jobs) owner (owner_exists p owner c own) own
    (λ j less. by_test (has (commands_of p j) c) j refl less)
  where
    by_test : (b : Bool) (j : ℕ) → has (commands_of p j) c ≡ b → j < owner → b ≡ false
    by_test true j e less =
        let same = (plan_well_formed p is).one_job c j owner e own in absurd (omega (arith, same, less))
    by_test false j e less = refl

-- The operation with a value, by the one that resolves a wait for it

not_some : {A B : Type 0} (x : A) → None ≡ Some x → B
not_some x e = absurd (cc)

not_none : {A B : Type 0} (x : A) → Some x ≡ None → B
not_none x e = absurd (cc)

module _ (p : Plan) (v : ℕ) where
  abbrev reaches : ℕ → Bool
  reaches e = nat_le v (value p e)

  abbrev sets : ℕ → Bool
  sets e = value p e == v

  below : (x : ℕ) → reaches x ≡ false → sets x ≡ false
  below x h = grind (arith, nat_tests)

  pub none_reaches : (xs : List ℕ) → find reaches xs ≡ None → find sets xs ≡ None
  none_reaches [] e = refl
  none_reaches (x ∷ xs) e = by_test (reaches x) refl (none_reaches xs)
    where
      by_test : (b : Bool) → reaches x ≡ b → (find reaches xs ≡ None → find sets xs ≡ None) → find sets (x ∷ xs) ≡ None
      by_test true h more = not_none x (sym (ap (λ t. cond t (Some x) (find reaches xs)) h) ∙ e)
      by_test false h more =
          ap (λ t. cond t (Some x) (find sets xs)) (below x h)
          ∙ more (sym (ap (λ t. cond t (Some x) (find reaches xs)) h) ∙ e)

  pub first_sets : (xs : List ℕ) (e : ℕ) → find reaches xs ≡ Some e → value p e ≡ v → find sets xs ≡ Some e
  first_sets [] e f is = not_some e f
  first_sets (x ∷ xs) e f is = by_test (reaches x) refl (first_sets xs e)
    where
      by_test : (b : Bool) → reaches x ≡ b → (find reaches xs ≡ Some e → value p e ≡ v → find sets xs ≡ Some e) →
          find sets (x ∷ xs) ≡ Some e
      by_test true h more =
          let found : Some x ≡ Some e = sym (ap (λ t. cond t (Some x) (find reaches xs)) h) ∙ f in
          let same : x ≡ e = cc in
          let passes : sets x ≡ true = subst (λ y. sets y ≡ true) (sym same) (grind (arith, nat_tests)) in
          ap (λ t. cond t (Some x) (find sets xs)) passes ∙ found
      by_test false h more =
          ap (λ t. cond t (Some x) (find sets xs)) (below x h)
          ∙ more (sym (ap (λ t. cond t (Some x) (find reaches xs)) h) ∙ f) is

  pub none_sets : (xs : List ℕ) (e : ℕ) → AreInOrder p xs → find reaches xs ≡ Some e → (value p e ≡ v → ⊥) →
      find sets xs ≡ None
  none_sets [] e r f not = refl
  none_sets (x ∷ xs) e r f not = by_test (reaches x) refl (none_sets xs e r.1)
    where
      above : (y : ℕ) → reaches y ≡ true → (value p y ≡ v → ⊥) → v < value p y
      above y h n = grind (arith, nat_tests)

      later : (g : ℕ) → v < value p x → (value p x < value p g) ⊎ ((value p x ≡ value p g) × (x < g)) → sets g ≡ false
      later g l (inl m) = grind (arith, nat_tests)
      later g l (inr m) = let same = m.0 in grind (arith, nat_tests)

      by_test : (b : Bool) → reaches x ≡ b →
          (find reaches xs ≡ Some e → (value p e ≡ v → ⊥) → find sets xs ≡ None) → find sets (x ∷ xs) ≡ None
      by_test true h more =
          let found : Some x ≡ Some e = sym (ap (λ t. cond t (Some x) (find reaches xs)) h) ∙ f in
          let same : x ≡ e = cc in
          let far : v < value p x = above x h (subst (λ y. value p y ≡ v → ⊥) (sym same) not) in
          let none : sets x ≡ false = grind (arith, nat_tests) in
          ap (λ t. cond t (Some x) (find sets xs)) none
          ∙ find_none sets xs (λ g m. later g far (r.0 g m))
      by_test false h more =
          ap (λ t. cond t (Some x) (find sets xs)) (below x h)
          ∙ more (sym (ap (λ t. cond t (Some x) (find reaches xs)) h) ∙ f) not

-- a resolver is an operation of the plan
pub resolver_exists : (p : Plan) → IsPlan p → (t v e : ℕ) → Some e ≡ resolver p t v → e < length p.ops
resolver_exists p is t v e f =
    let chained = (plan_well_formed p is).of_chain e t (find_member (λ x. nat_le v (value p x)) (chain p t) e (sym f)) in
    let op = some_of (λ o. o.chain) (slice_get p.ops e) t chained in
    get_within p.ops e op.0 op.1

-- a name that is found is of a chain
pub semaphore_exists : (p : Plan) → IsPlan p → (name : List ℕ) (t : ℕ) → Some t ≡ semaphore_named p name → t < length p.chains
semaphore_exists p is name t f =
    let below = found_below (λ u. bytes_eq name (semaphore_name p.script u)) (length p.script.semaphores) t (sym f) in
    let same = (plan_semaphores p is).chains in
    omega (arith, below, same)

-- a line that is found is of a command
pub command_found : (p : Plan) (line c : ℕ) → Some c ≡ command_at p line → c < length p.commands
command_found p line c f = found_below (λ d. line_of_command p d == line) (length p.commands) c (sym f)

-- the start of a command
pub applied : (p : Plan) → IsPlan p → (word : List ℕ) (n c owner : ℕ) → has (commands_of p owner) c ≡ true →
    Some n ≡ numeral word → Some c ≡ command_at p n → Some (Applies owner c) ≡ apply_said p word
applied p is word n c owner own num found =
    let said : command_said p word ≡ Some c = ap (option_and_then (command_at p)) (sym num) ∙ sym found in
    sym (ap (option_and_then (λ d. option_map (λ j. Applies j d) (job_with p d))) said
    ∙ ap (option_map (λ j. Applies j c)) (owner_is p is c owner own))

-- the line of a job, and of a command
pub job_line_is : (p : Plan) (j : ℕ) (job : PlanJob) → slice_get p.jobs j ≡ Some job → job.line ≡ line_of_job p j
job_line_is p j job e = sym (ap (λ o. option_map_or (λ x. x.line) o 0) e)

pub command_line_is : (p : Plan) (c : ℕ) (x : CommandLine) → slice_get p.commands c ≡ Some x → x.line ≡ line_of_command p c
command_line_is p c x e = sym (ap (λ o. option_map_or (λ y. y.line) o 0) e)
