-- The commands of a job stand one after another, so what happens before one of them happens before the later ones.
use Rattle.std.proofs.Common.{◌≡◌, ℕ, zero, suc, ◌+◌, ◌-◌, ◌<◌, ◌≤◌, true, List, [], ◌∷◌, length, get_or, fold, take, Option, Some, None, sym, ap, inl, inr, subst, arith}
use Rattle.std.specs.List.{range_with_len, slice_get}
use Rattle.std.specs.Option.{option_map_or}
use Rattle.std.proofs.lemmas.Bool.{cases_eq, false≢true, ne_eqb}
use Rattle.vq_model.specs.declared.script.Job.{Job}
use Rattle.vq_model.specs.declared.script.Job.TheVariants.{Host, Batch}
use Rattle.vq_model.specs.declared.script.Script.{Script}
use Rattle.vq_model.specs.HappensBefore.{HappensBeforeCommand}
use Rattle.vq_model.specs.Lowering.{commands_in, plan_job, plan_of}
use Rattle.vq_model.specs.LoweredPlans.{IsPlan}
use Rattle.vq_model.specs.Plan.{Plan, commands_of}
use Rattle.vq_ground.specs.Lists.{has, AreRising}
use Rattle.vq_ground.proofs.Lists.{has_cases}
use Rattle.vq_ground.proofs.Numbers.{has-range_cases}
use Rattle.vq_ground.proofs.Positions.{place, place_head, place_tail}
use Rattle.vq_order_laws.proofs.Cited.{before_later}
use Rattle.vq_plan_laws.proofs.Cited.{part_is, plan_well_formed}

-- Places in lists that rise

rising_place : (xs : List ℕ) → AreRising xs → (c d : ℕ) → has xs c ≡ true → c ≤ d → place xs c ≤ place xs d
rising_place [] r c d h l = absurd (false≢true h)
rising_place (x ∷ xs) r c d h l = elim (has_cases x xs c h) [
  | inl e ↦ (let first = subst (λ z. place (x ∷ xs) z ≡ 0) e (place_head x xs) in omega arith)
  | inr m ↦ (
      let low = r.0 c m in
      let a = place_tail x xs c (ne_eqb x c (λ q. omega arith)) in
      let b = place_tail x xs d (ne_eqb x d (λ q. omega arith)) in
      let s = rising_place xs r.1 c d m l in
      omega arith)
]

-- what happens before a command happens before each later one of its job
pub later_command : (p : Plan) → IsPlan p → (i j c d : ℕ) → has (commands_of p j) c ≡ true → c ≤ d → HappensBeforeCommand p i j c → HappensBeforeCommand p i j d
later_command p plan i j c d h l b =
    let e = rising_place (commands_of p j) ((plan_well_formed p plan).commands j) c d h l in
    before_later p i j (suc (place (commands_of p j) c)) (suc (place (commands_of p j) d)) (omega arith) b

-- Commands by number

range_place : (n a x : ℕ) → a ≤ x → x < a + n → place (range_with_len a n) x ≡ x - a
range_place zero a x l u = absurd (omega arith)
range_place (suc n) a x l u = elim (cases_eq a x) [
  | inl e ↦ (let first = subst (λ z. place (a ∷ range_with_len (a + 1) n) z ≡ 0) e (place_head a (range_with_len (a + 1) n)) in omega arith)
  | inr d ↦ (
      let t = place_tail a (range_with_len (a + 1) n) x (ne_eqb a x d) in
      let r = range_place n (a + 1) x (grind arith) (omega arith) in
      grind arith)
]

-- how a command stands among those of its job
pub record StandsAt (xs : List ℕ) (d : ℕ) : Type 0 where
  pub some : 0 < length xs
  pub first : get_or xs 0 0 ≤ d
  pub place_is : place xs d ≡ d - get_or xs 0 0

range_stands : (n a d : ℕ) → has (range_with_len a n) d ≡ true → StandsAt (range_with_len a n) d
range_stands zero a d h = absurd (false≢true h)
range_stands (suc n) a d h =
    let r = has-range_cases (suc n) a d h in
    record { some = omega arith; first = r.0; place_is = range_place (suc n) a d r.0 r.1 }

job_stands : (s : Script) (j d : ℕ) → has (commands_of (plan_of s) j) d ≡ true → StandsAt (commands_of (plan_of s) j) d
job_stands s j d h =
    subst (λ (xs : List ℕ). StandsAt xs d) (sym is) (by_job (slice_get s.jobs j) (subst (λ (xs : List ℕ). has xs d ≡ true) is h))
  where
    is : commands_of (plan_of s) j ≡ option_map_or (λ job. (plan_job s (j, job)).commands) (slice_get s.jobs j) []
    is = part_is (λ x. x.commands) [] s j

    by_job : (o : Option Job) → has (option_map_or (λ job. (plan_job s (j, job)).commands) o []) d ≡ true → StandsAt (option_map_or (λ job. (plan_job s (j, job)).commands) o []) d
    by_job None m = absurd (false≢true m)
    by_job (Some (Host x)) m = absurd (false≢true m)
    by_job (Some (Batch b)) m = range_stands (length b.commands) (fold (λ n x. n + commands_in x) 0 (take j s.jobs)) d m

pub command_stands : (p : Plan) → IsPlan p → (j d : ℕ) → has (commands_of p j) d ≡ true → StandsAt (commands_of p j) d
command_stands p plan = subst (λ (q : Plan). (j d : ℕ) → has (commands_of q j) d ≡ true → StandsAt (commands_of q j) d) (sym plan.lowered) (job_stands p.script)

-- the first number of a range that isn't empty
pub first_of_range : (xs : List ℕ) (first x : ℕ) → xs ≡ range_with_len first (length xs) → has xs x ≡ true →
    get_or xs 0 0 ≡ first
first_of_range [] first x e h = absurd (false≢true h)
first_of_range (y ∷ ys) first x e h = ap (λ zs. get_or zs 0 0) e
