-- Numbers that are out of range.
use Rattle.std.proofs.Common.{◌≡◌, ℕ, zero, suc, ◌<◌, ◌≤◌, Bool, true, false, List, [], ◌∷◌, length, Option, Some, None, is_some}
use Rattle.std.proofs.Common.{refl, sym, ap, ap₂, ◌∙◌, arith, subst, map, filter}
use Rattle.std.specs.List.{slice_get}
use Rattle.std.specs.Option.{option_map_or}
use Rattle.std.proofs.lemmas.List.{length-map}
use Rattle.std.proofs.lemmas.List.FromFn.{length-map-range_with_len}
use Rattle.std.proofs.lemmas.Bool.{false≢true}
use Rattle.std.proofs.lemmas.Option.{slice_get_past}
use Rattle.vq_model.specs.Plan.{Plan, chain, chain_of, initial, value}
use Rattle.vq_ground.specs.Lists.{has}
use Rattle.vq_model.specs.Signals.{chain_ops, initial_value}
use Rattle.vq_model.specs.SlowRun.{greatest}
use Rattle.vq_turns.specs.Turns.{past_value}
use Rattle.vq_model.specs.LoweredPlans.{IsPlan}
use Rattle.vq_plan_laws.proofs.Cited.{plan_well_formed}
use Rattle.vq_turn_laws.proofs.Cited.{plan_orderly, reached}
use Rattle.vq_core.specs.CoreState.{Course, IsCourse, world}

-- an operation that isn't there has no point, and isn't bound
module _ (c : Course) (i : IsCourse c) (e : ℕ) (beyond : length c.plan.ops ≤ e) where
  pub pointless : (world c).point_of e ≡ None
  pointless = by_point ((world c).point_of e) refl
    where
      by_point : (o : Option ℕ) → (world c).point_of e ≡ o → (world c).point_of e ≡ None
      by_point None h = h
      by_point (Some q) h =
          let r = reached c.plan (plan_orderly c.plan i.read i.lawful) c.history i.history_from in
          let within = r.facts.ops.exists e (ap is_some h) in
          absurd (omega arith)

  pub unbound : (world c).bound e ≡ false
  unbound = by_test ((world c).bound e) refl
    where
      by_test : (b : Bool) → (world c).bound e ≡ b → (world c).bound e ≡ false
      by_test false h = h
      by_test true h =
          let r = reached c.plan (plan_orderly c.plan i.read i.lawful) c.history i.history_from in
          let taken = r.facts.ops.bound_taken e h in
          absurd (false≢true (sym (ap is_some pointless) ∙ taken))

-- the chain of an operation is there
pub chain_there : (p : Plan) → IsPlan p → (e t : ℕ) → chain_of p e ≡ Some t → t < length p.chains
chain_there p i e t is = by_get p.chains t ((plan_well_formed p i).in_chain e t is)
  where
    by_get : (xs : List (List ℕ)) (k : ℕ) → has (option_map_or (λ x. x) (slice_get xs k) []) e ≡ true → k < length xs
    by_get [] k h = absurd (false≢true h)
    by_get (x ∷ xs) zero h = omega arith
    by_get (x ∷ xs) (suc k) h = let m = by_get xs k h in omega arith

-- a chain that isn't there has the past value 0
same_count : (p : Plan) → IsPlan p → length p.initials ≡ length p.chains
same_count p i = subst (λ (q : Plan). length q.initials ≡ length q.chains) (sym i.lowered)
    (length-map p.script.semaphores (λ x. initial_value x.kind)
    ∙ sym (length-map-range_with_len (chain_ops p.script) 0 (length p.script.semaphores)))

pub past_beyond : (c : Course) → IsCourse c → (t : ℕ) → length c.plan.chains ≤ t →
    0 ≡ past_value c.plan (world c) t
past_beyond c i t beyond =
    let count = same_count c.plan i.read in
    let none : chain c.plan t ≡ [] = ap (λ (o : Option (List ℕ)). option_map_or (λ x. x) o []) (slice_get_past
    c.plan.chains t beyond) in
    let first : initial c.plan t ≡ 0 = ap (λ (o : Option ℕ). option_map_or (λ x. x) o 0) (slice_get_past
    c.plan.initials t (omega arith)) in
    sym (ap₂ (λ (n : ℕ) (es : List ℕ). greatest n (map (value c.plan) (filter (world c).past es))) first none)
