-- Places in lists.
use Rattle.std.proofs.Common.{◌≡◌, ◌<◌, ◌≤◌, ◌∙◌, Bool, true, false, ℕ, List, [], ◌∷◌, cond, map, filter, refl, sym, ap, inl, inr, arith, Option, Some, None}
use Rattle.std.specs.Prelude.{◌==◌, ◌&&◌, ◌||◌, nat_le}
use Rattle.std.specs.Ordering.{is_eq, match_ordering}
use Rattle.std.specs.declared.cmp.Ordering.{Ordering}
use Rattle.std.specs.declared.cmp.Ordering.TheVariants.{Less, Equal, Greater}
use Rattle.std.specs.declared.ops.Bound.{Bound}
use Rattle.std.specs.declared.ops.Bound.TheVariants.{Included, Excluded, Unbounded}
use Rattle.std.specs.BTreeMap.{is_at}
use Rattle.std.specs.BTreeMap.Range.{range_contains}
use Rattle.std.specs.BTreeSet.{insert_key}
use Rattle.std.specs.Set.{remove_key}
use Rattle.std.proofs.lemmas.Bool.{or_cases, or_left, or_right, and_from, eqb-true, eq-eqb, and_parts}
use Rattle.std.proofs.lemmas.Bool.Decides.{nat_tests}
use Rattle.vq_ground.specs.Lists.{has}
use Rattle.vq_ground.proofs.Bools.{never}
use Rattle.vq_capture_touched.specs.Kinds.{has_place}
use Rattle.vq_capture_touched.specs.Places.{pair_cmp, stamps_from, stamps_within, stamps_up_to}

-- How pairs compare

equal_parts : (o s : ℕ) (p : ℕ × ℕ) → is_eq (pair_cmp (o, s) p) ≡ ((o == p.0) && (s == p.1))
equal_parts o s p = parts p.0 p.1
  where
    parts : (a b : ℕ) → is_eq (pair_cmp (o, s) (a, b)) ≡ ((o == a) && (s == b))
    parts a b = grind (arith, nat_tests)

abbrev is_place : ℕ → ℕ → ℕ × ℕ → Bool
is_place o s p = (p.0 == o) && (p.1 == s)

equal_place : (o s : ℕ) (p : ℕ × ℕ) → pair_cmp (o, s) p ≡ Equal → is_place o s p ≡ true
equal_place o s p e =
    let f : ((o == p.0) && (s == p.1)) ≡ true = sym (equal_parts o s p) ∙ ap (λ (r : Ordering). is_eq r) e in
    and_from (p.0 == o) (p.1 == s)
    (eq-eqb p.0 o (sym (eqb-true o p.0 ((and_parts (o == p.0) (s == p.1) f).0))))
    (eq-eqb p.1 s (sym (eqb-true s p.1 ((and_parts (o == p.0) (s == p.1) f).1))))

-- A place more

module _ (k : ℕ × ℕ) (o s : ℕ) where
  pub place_kept : (ps : List (ℕ × ℕ)) → has_place ps o s ≡ true → has_place (insert_key pair_cmp ps k) o s ≡ true
  place_kept [] e = never e
  place_kept (p ∷ ps) e = by (pair_cmp k p) (place_kept ps)
    where
      by : (r : Ordering) → (has_place ps o s ≡ true → has_place (insert_key pair_cmp ps k) o s ≡ true) →
          has_place (match_ordering r (k ∷ p ∷ ps) (p ∷ ps) (p ∷ insert_key pair_cmp ps k)) o s ≡ true
      by Less f = or_right (is_place o s k) (has_place (p ∷ ps) o s) e
      by Equal f = e
      by Greater f = elim (or_cases (is_place o s p) (has_place ps o s) e) [
        | inl h ↦ or_left (is_place o s p) (has_place (insert_key pair_cmp ps k) o s) h
        | inr h ↦ or_right (is_place o s p) (has_place (insert_key pair_cmp ps k) o s) (f h)
      ]

own_place : (o s : ℕ) → is_place o s (o, s) ≡ true
own_place o s = and_from (o == o) (s == s) (eq-eqb o o refl) (eq-eqb s s refl)

pub place_put : (o s : ℕ) (ps : List (ℕ × ℕ)) → has_place (insert_key pair_cmp ps (o, s)) o s ≡ true
place_put o s [] = or_left (is_place o s (o, s)) false (own_place o s)
place_put o s (p ∷ ps) = by (pair_cmp (o, s) p) refl (place_put o s ps)
  where
    by : (r : Ordering) → pair_cmp (o, s) p ≡ r → has_place (insert_key pair_cmp ps (o, s)) o s ≡ true →
        has_place (match_ordering r ((o, s) ∷ p ∷ ps) (p ∷ ps) (p ∷ insert_key pair_cmp ps (o, s))) o s ≡ true
    by Less e f = or_left (is_place o s (o, s)) (has_place (p ∷ ps) o s) (own_place o s)
    by Equal e f = or_left (is_place o s p) (has_place ps o s) (equal_place o s p e)
    by Greater e f = or_right (is_place o s p) (has_place (insert_key pair_cmp ps (o, s)) o s) f

-- A place less

module _ (a b o s : ℕ) (apart : (s == b) ≡ false) where
  other_place : (p : ℕ × ℕ) → is_eq (pair_cmp (a, b) p) ≡ true → is_place o s p ≡ false
  other_place p e = by (is_place o s p) refl
    where
      by : (t : Bool) → is_place o s p ≡ t → t ≡ false
      by false h = refl
      by true h =
          let f : ((a == p.0) && (b == p.1)) ≡ true = sym (equal_parts a b p) ∙ e in
          let first : b ≡ p.1 = eqb-true b p.1 ((and_parts (a == p.0) (b == p.1) f).1) in
          let second : p.1 ≡ s = eqb-true p.1 s ((and_parts (p.0 == o) (p.1 == s) h).1) in
          never (sym apart ∙ eq-eqb s b (sym (first ∙ second)))

  pub place_left : (ps : List (ℕ × ℕ)) → has_place ps o s ≡ true → has_place (remove_key (is_at (pair_cmp (a, b))) ps) o s ≡ true
  place_left [] e = never e
  place_left (p ∷ ps) e = by (is_eq (pair_cmp (a, b) p)) refl (place_left ps)
    where
      by : (t : Bool) → is_eq (pair_cmp (a, b) p) ≡ t →
          (has_place ps o s ≡ true → has_place (remove_key (is_at (pair_cmp (a, b))) ps) o s ≡ true) →
          has_place (cond t ps (p ∷ remove_key (is_at (pair_cmp (a, b))) ps)) o s ≡ true
      by true h f = sym (ap (λ (u : Bool). u || has_place ps o s) (other_place p h)) ∙ e
      by false h f = elim (or_cases (is_place o s p) (has_place ps o s) e) [
        | inl i ↦ or_left (is_place o s p) (has_place (remove_key (is_at (pair_cmp (a, b))) ps) o s) i
        | inr i ↦ or_right (is_place o s p) (has_place (remove_key (is_at (pair_cmp (a, b))) ps) o s) (f i)
      ]

-- Places in a range

from_unit : (first o s : ℕ) → first ≤ o → range_contains pair_cmp (Included (first, 0)) Unbounded (o, s) ≡ true
from_unit first o s l = grind (arith, nat_tests)

within_units : (first end o s : ℕ) → first ≤ o → o < end → range_contains pair_cmp (Included (first, 0)) (Excluded (end, 0)) (o, s) ≡ true
within_units first end o s l m = grind (arith, nat_tests)

module _ (low high : Bound (ℕ × ℕ)) (o s : ℕ) (inside : range_contains pair_cmp low high (o, s) ≡ true) where
  abbrev inside_of : ℕ × ℕ → Bool
  inside_of = range_contains pair_cmp low high

  stamp_found : (ps : List (ℕ × ℕ)) → has_place ps o s ≡ true → has (map (λ p. p.1) (filter inside_of ps)) s ≡ true
  stamp_found [] e = never e
  stamp_found (p ∷ ps) e = by (inside_of p) refl (stamp_found ps)
    where
      here : is_place o s p ≡ true → p ≡ (o, s)
      here h = λ i. (eqb-true p.0 o ((and_parts (p.0 == o) (p.1 == s) h).0) i, eqb-true p.1 s ((and_parts (p.0 == o) (p.1 == s) h).1) i)

      by : (t : Bool) → inside_of p ≡ t → (has_place ps o s ≡ true → has (map (λ p. p.1) (filter inside_of ps)) s ≡ true) →
          has (map (λ p. p.1) (cond t (p ∷ filter inside_of ps) (filter inside_of ps))) s ≡ true
      by true h f = elim (or_cases (is_place o s p) (has_place ps o s) e) [
        | inl i ↦ or_left (p.1 == s) (has (map (λ p. p.1) (filter inside_of ps)) s) ((and_parts (p.0 == o) (p.1 == s) i).1)
        | inr i ↦ or_right (p.1 == s) (has (map (λ p. p.1) (filter inside_of ps)) s) (f i)
      ]
      by false h f = elim (or_cases (is_place o s p) (has_place ps o s) e) [
        | inl i ↦ never (sym h ∙ (ap (λ (x : ℕ × ℕ). inside_of x) (here i) ∙ inside))
        | inr i ↦ f i
      ]

-- a place of which the first unit isn't behind the end, if there is one
abbrev pub IsUpTo : ℕ → Option ℕ → Type 0
IsUpTo o None = Unit {0}
IsUpTo o (Some end) = o < end

pub stamp_up_to : (first : ℕ) (end : Option ℕ) (ps : List (ℕ × ℕ)) (o s : ℕ) → first ≤ o → IsUpTo o end → has_place ps o s ≡ true → has (stamps_up_to first end ps) s ≡ true
stamp_up_to first None ps o s l m e = stamp_found (Included (first, 0)) Unbounded o s (from_unit first o s l) ps e
stamp_up_to first (Some end) ps o s l m e = by (nat_le first end)
  where
    by : (t : Bool) → has (cond t (stamps_within first end ps) (stamps_from first ps)) s ≡ true
    by true = stamp_found (Included (first, 0)) (Excluded (end, 0)) o s (within_units first end o s l m) ps e
    by false = stamp_found (Included (first, 0)) Unbounded o s (from_unit first o s l) ps e
