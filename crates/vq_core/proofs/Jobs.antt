-- The parts of a job, and what is done of them.
use Rattle.std.proofs.Common.{if◌then◌else◌, ◌≡◌, ◌+◌, ◌-◌, ℕ, ◌<◌, ◌||◌, ◌&&◌, Bool, true, false, List, [], ◌∷◌, length, get_or, filter, Some, refl, sym, ap, ◌∙◌, arith, inl, inr, subst}
use Rattle.std.specs.Prelude.{nat_lt, nat_le, nat_eq, All}
use Rattle.std.specs.List.{slice_get, list_all, list_any}
use Rattle.std.specs.Option.{option_map_or}
use Rattle.std.proofs.lemmas.Bool.{cases_eq, eq-eqb, ne_eqb, cond-true, cond-false, cases_lt, lt-ltb, le-ltb, le-leb, lt-leb}
use Rattle.vq_ground.proofs.Gets.{has_at}
use Rattle.vq_model.specs.declared.plan.PlanJob.{PlanJob}
use Rattle.vq_model.specs.declared.plan.Need.{Need}
use Rattle.vq_model.specs.Edges.{Stage, At, needs_at}
use Rattle.vq_model.specs.Machine.{are_reached, is_reached}
use Rattle.vq_model.specs.Plan.{Plan, commands_of, signals_of, needs, asked, waits_for_any, chain, value, resolver}
use Rattle.vq_ground.specs.Lists.{has}
use Rattle.vq_ground.proofs.Searches.{find_member}
use Rattle.std.proofs.lemmas.List.{get_or_default}
use Rattle.vq_model.proofs.Plans.{op_within, op_exists}
use Rattle.vq_spec.specs.SlowProgress.{payload_in}
use Rattle.vq_core_laws.specs.Firsts.{AreFirst}
use Rattle.vq_core_laws.proofs.Cited.{Facts, all_done, done_all}
use Rattle.vq_tables.specs.Tables.{ArePayloads}

-- whether all of a list are done
pub all_test : (done : ℕ → Bool) (xs : List ℕ) (n : ℕ) → AreFirst done xs n → nat_eq n (length xs) ≡ list_all done xs
all_test done xs n f = elim (cases_eq n (length xs)) [
  | inl e ↦ eq-eqb n (length xs) e ∙ sym (all_done done xs n f e)
  | inr d ↦ ne_eqb n (length xs) d ∙ sym (by_test d (list_all done xs) refl)
]
  where
    by_test : (n ≡ length xs → ⊥) → (b : Bool) → list_all done xs ≡ b → list_all done xs ≡ false
    by_test d false e = e
    by_test d true e = absurd (d (done_all done xs n f e))

filtered_any : (now test : Need → Bool) (ns : List Need) →
    list_any (λ n. now n && test n) ns ≡ list_any test (filter now ns)
filtered_any now test [] = refl
filtered_any now test (n ∷ ns) = by_test (now n) refl (filtered_any now test ns)
  where
    by_test : (b : Bool) → now n ≡ b → list_any (λ n. now n && test n) ns ≡ list_any test (filter now ns) →
        list_any (λ n. now n && test n) (n ∷ ns) ≡ list_any test (filter now (n ∷ ns))
    by_test true e r =
        ap (λ b. (b && test n) || list_any (λ n. now n && test n) ns) e
        ∙ (ap (λ b. test n || b) r ∙ sym (ap (list_any test) (cond-true (now n) (n ∷ filter now ns) (filter now ns) e)))
    by_test false e r =
        ap (λ b. (b && test n) || list_any (λ n. now n && test n) ns) e
        ∙ (r ∙ sym (ap (list_any test) (cond-false (now n) (n ∷ filter now ns) (filter now ns) e)))

module _ (p : Plan) (j : ℕ) (x : PlanJob) (at : slice_get p.jobs j ≡ Some x) where
  pub commands_are : commands_of p j ≡ x.commands
  commands_are = ap (λ o. option_map_or (λ (y : PlanJob). y.commands) o []) at

  pub signals_are : signals_of p j ≡ x.signals
  signals_are = ap (λ o. option_map_or (λ (y : PlanJob). y.signals) o []) at

  pub needs_are : needs p j ≡ x.needs
  needs_are = ap (λ o. option_map_or (λ (y : PlanJob). y.needs) o []) at

  pub asked_are : asked p j ≡ x.asked
  asked_are = ap (λ o. option_map_or (λ (y : PlanJob). y.asked) o []) at

  -- all needs that pass a test pass another one where each of all needs fails the first or passes the second
  pub filtered_all : (k : ℕ) (test : Need → Bool) (xs : List Need) →
      list_all test (filter (λ n. nat_le n.from (k + 1)) xs) ≡ list_all (λ n. nat_lt k (n.from - 1) || test n) xs
  filtered_all k test [] = refl
  filtered_all k test (n ∷ xs) = elim (cases_lt (k + 1) n.from) [
    | inl l ↦
        ap (list_all test) (cond-false (nat_le n.from (k + 1)) (n ∷ filter (λ n. nat_le n.from (k + 1)) xs) (filter
        (λ n. nat_le n.from (k + 1)) xs) (lt-leb n.from (k + 1) l))
        ∙ (filtered_all k test xs ∙ sym (ap (λ b. (b || test n) && list_all (λ n. nat_lt k (n.from - 1) || test n)
        xs) (lt-ltb k (n.from - 1) (omega arith))))
    | inr l ↦
        ap (list_all test) (cond-true (nat_le n.from (k + 1)) (n ∷ filter (λ n. nat_le n.from (k + 1)) xs) (filter (λ
        n. nat_le n.from (k + 1)) xs) (le-leb n.from (k + 1) l))
        ∙ (ap (λ b. test n && b) (filtered_all k test xs)
        ∙ sym (ap (λ b. (b || test n) && list_all (λ n. nat_lt k (n.from - 1) || test n) xs) (le-ltb k (n.from -
        1) (omega arith))))
  ]

  module _ (f : Facts p) (payload : ℕ → ℕ) (ps : List ℕ) (are : ArePayloads (length p.script.semaphores) payload ps)
    where
      pub chains_there : All (λ (n : Need). n.chain < length ps) x.needs
      chains_there = λ k d l.
          let below = subst (λ (ns : List Need). All (λ (n : Need). n.chain < length p.script.semaphores) ns) needs_are
          (f.semaphores.needs_chain j) k d l in
          let count = are.count in
          omega arith

      same_payloads : payload_in ps ≡ payload
      same_payloads = λ i t. are.each t i

      pub asked_there : All (λ (n : Need). n.chain < length ps) x.asked
      asked_there = λ k d l.
          let below = subst (λ (ns : List Need). All (λ (n : Need). n.chain < length p.script.semaphores) ns) asked_are
          (f.asked_chain j) k d l in
          let count = are.count in
          omega arith

      pub all_reached : list_all (is_reached (payload_in ps)) x.needs ≡ list_all (is_reached payload) (needs p j)
      all_reached = λ i. list_all (is_reached (same_payloads i)) (sym needs_are i)

      pub any_reached : list_any (is_reached (payload_in ps)) x.needs ≡ list_any (is_reached payload) (needs p j)
      any_reached = λ i. list_any (is_reached (same_payloads i)) (sym needs_are i)

      pub all_asked : list_all (is_reached (payload_in ps)) x.asked ≡ list_all (is_reached payload) (asked p j)
      all_asked = λ i. list_all (is_reached (same_payloads i)) (sym asked_are i)

      pub any_asked : list_any (is_reached (payload_in ps)) x.asked ≡ list_any (is_reached payload) (asked p j)
      any_asked = λ i. list_any (is_reached (same_payloads i)) (sym asked_are i)

      pub all_after : (k : ℕ) → list_all (λ n. nat_lt k (n.from - 1) || is_reached (payload_in ps) n) x.needs ≡
          list_all (is_reached payload) (needs_at p j (At (k + 1)))
      all_after k =
          ap (λ (g : ℕ → ℕ). list_all (λ n. nat_lt k (n.from - 1) || is_reached g n) x.needs) same_payloads
          ∙ (sym (filtered_all k (is_reached payload) x.needs)
          ∙ ap (λ (ns : List Need). list_all (is_reached payload) (filter (λ n. nat_le n.from (k + 1)) ns)) (sym
          needs_are))

      pub any_after : (k : ℕ) → list_any (λ n. nat_le n.from (k + 1) && is_reached (payload_in ps) n) x.needs ≡
          list_any (is_reached payload) (needs_at p j (At (k + 1)))
      any_after k =
          ap (λ (g : ℕ → ℕ). list_any (λ n. nat_le n.from (k + 1) && is_reached g n) x.needs) same_payloads
          ∙ (filtered_any (λ n. nat_le n.from (k + 1)) (is_reached payload) x.needs
          ∙ ap (λ (ns : List Need). list_any (is_reached payload) (filter (λ n. nat_le n.from (k + 1)) ns)) (sym
          needs_are))

-- the needs of a job are reached where all are, or one where it waits for any
module _ (p : Plan) (payload : ℕ → ℕ) (j : ℕ) (k : Stage) where
  pub for_any : waits_for_any p j ≡ true → are_reached p payload j k ≡ list_any (is_reached payload) (needs_at p j k)
  for_any h = cond-true (waits_for_any p j) (list_any (is_reached payload) (needs_at p j k)) (list_all (is_reached
      payload) (needs_at p j k)) h

  pub for_all : waits_for_any p j ≡ false → are_reached p payload j k ≡ list_all (is_reached payload) (needs_at p j k)
  for_all h = cond-false (waits_for_any p j) (list_any (is_reached payload) (needs_at p j k)) (list_all (is_reached
      payload) (needs_at p j k)) h

-- operations and chains that a plan names exist

pub needs_exist : (p : Plan) → Facts p → (j : ℕ) → All (λ (n : Need). n.chain < length p.chains) (needs p j)
needs_exist p f j = λ k d l.
    let below = f.semaphores.needs_chain j k d l in
    let count = f.semaphores.chains in
    omega arith

pub signal_exists : (p : Plan) → Facts p → (j e : ℕ) → has (signals_of p j) e ≡ true → e < length p.ops
signal_exists p f j e h = op_exists p e j (f.formed.of_job e j h)

pub signals_exist : (p : Plan) → Facts p → (j : ℕ) → All (λ (e : ℕ). e < length p.ops) (signals_of p j)
signals_exist p f j = λ k d l.
    subst (λ (e : ℕ). e < length p.ops) (get_or_default (signals_of p j) k 0 d l) (signal_exists p f j (get_or
    (signals_of p j) k 0) (has_at (signals_of p j) k l))

pub resolver_exists : (p : Plan) → Facts p → (t v e : ℕ) → resolver p t v ≡ Some e → e < length p.ops
resolver_exists p f t v e h = op_within p e t (f.formed.of_chain e t (find_member (λ x. nat_le v (value p x)) (chain
    p t) e h))

-- what a batch waits for now
pub needed_now : (p : Plan) (started : Bool) (test : Need → Bool) (ns : List Need) →
    list_any (λ n. (if started then nat_lt 1 n.from else nat_le n.from 1) && test n) ns ≡ list_any test (if started
    then filter (λ n. nat_lt 1 n.from) ns else filter (λ n. nat_le n.from 1) ns)
needed_now p true test ns = filtered_any (λ n. nat_lt 1 n.from) test ns
needed_now p false test ns = filtered_any (λ n. nat_le n.from 1) test ns
