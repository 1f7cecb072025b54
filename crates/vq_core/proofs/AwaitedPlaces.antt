-- Where each need of a job is awaited, the operations that resolve the needs stand at the places of these.
use Rattle.std.proofs.Common.{◌≡◌, ℕ, ◌==◌, ◌≤◌, ◌+◌, Bool, true, false, not, cond, List, [], ◌∷◌, length, Option, Some, None, refl, ap, arith}
use Rattle.std.specs.Prelude.{nat_lt}
use Rattle.std.specs.List.{cons_option, filter, filter_map, position_or_len}
use Rattle.std.specs.Option.{option_map_or}
use Rattle.vq_model.specs.declared.plan.Need.{Need}
use Rattle.vq_model.specs.Edges.{AtEnd, awaited_at}
use Rattle.vq_model.specs.Plan.{Plan, initial, needs, resolver, waits_for_any}
use Rattle.vq_tables.specs.Notes.{place_in}

module _ {X : Type 0} (f : X → Option ℕ) (q : X → Bool) where
  abbrev kept : List X → List ℕ
  kept xs = filter_map f (filter q xs)

  few : (xs : List X) → length (kept xs) ≤ length xs
  few [] = omega arith
  few (x ∷ xs) = by_test (few xs) (q x)
    where
      by_option : length (kept xs) ≤ length xs → (r : Option ℕ) → length (cons_option r (kept xs)) ≤ length (x ∷ xs)
      by_option h None = omega arith
      by_option h (Some r) = omega arith

      by_test : length (kept xs) ≤ length xs → (b : Bool) →
          length (filter_map f (cond b (x ∷ filter q xs) (filter q xs))) ≤ length (x ∷ xs)
      by_test h true = by_option h (f x)
      by_test h false = omega arith

  abbrev place : ℕ → List X → ℕ
  place e xs = position_or_len (λ x. option_map_or (λ r. r == e) (f x) false) xs

  -- where nothing is left out, what f gives stands at the places of the items
  same_place : (e : ℕ) (xs : List X) → length (kept xs) ≡ length xs → position_or_len (λ r. r == e) (kept xs) ≡ place e xs
  same_place e [] all = refl
  same_place e (x ∷ xs) all = by_test (few xs) (λ less. same_place e xs less) (q x) all
    where
      by_option : length (kept xs) ≤ length xs → (length (kept xs) ≡ length xs → position_or_len (λ r. r == e) (kept xs) ≡ place e xs) →
          (r : Option ℕ) → length (cons_option r (kept xs)) ≡ length (x ∷ xs) →
          position_or_len (λ r. r == e) (cons_option r (kept xs)) ≡ cond (not (option_map_or (λ r. r == e) r false)) (1 + place e xs) 0
      by_option h same None all = absurd (omega arith)
      by_option h same (Some r) all =
          let less : length (kept xs) ≡ length xs = omega arith in
          ap (λ (n : ℕ). cond (not (r == e)) (1 + n) 0) (same less)

      by_test : length (kept xs) ≤ length xs → (length (kept xs) ≡ length xs → position_or_len (λ r. r == e) (kept xs) ≡ place e xs) →
          (b : Bool) → length (filter_map f (cond b (x ∷ filter q xs) (filter q xs))) ≡ length (x ∷ xs) →
          position_or_len (λ r. r == e) (filter_map f (cond b (x ∷ filter q xs) (filter q xs)))
          ≡ cond (not (option_map_or (λ r. r == e) (f x) false)) (1 + place e xs) 0
      by_test h same true all = by_option h same (f x) all
      by_test h same false all = absurd (omega arith)

abbrev found : Plan → Need → Option ℕ
found p n = resolver p n.chain n.value

abbrev above : Plan → Need → Bool
above p n = nat_lt (initial p n.chain) n.value

pub awaited_place : (p : Plan) (j e : ℕ) → length (awaited_at p j AtEnd) ≡ length (needs p j) →
    position_or_len (λ r. r == e) (awaited_at p j AtEnd) ≡ place_in p j e
awaited_place p j e = by_any (waits_for_any p j) (needs p j)
  where
    by_any : (any : Bool) (ns : List Need) → length (cond any [] (kept (found p) (above p) ns)) ≡ length ns →
        position_or_len (λ r. r == e) (cond any [] (kept (found p) (above p) ns))
        ≡ position_or_len (λ n. option_map_or (λ r. r == e) (found p n) false) ns
    by_any true [] all = refl
    by_any true (n ∷ ns) all = absurd (omega arith)
    by_any false ns all = same_place (found p) (above p) e ns all
