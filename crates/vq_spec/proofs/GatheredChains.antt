-- Lists of lists of pairs, as operations are gathered and sorted.
use Rattle.std.proofs.Common.{◌≡◌, ◌≢◌, ℕ, ◌+◌, ◌<◌, ◌≤◌, cond, ltb, List, [], ◌∷◌, ◌++◌, length, get_or, map, take, drop, Some, None, option_map, refl, sym, ap, ◌∙◌, ◌⊎◌, inl, inr, subst, arith, zero-add}
use Rattle.std.proofs.Math.ListN.{set}
use Rattle.std.specs.List.{slice_get, filter_map, cons_option, enumerate_from, range_with_len, prefix_len}
use Rattle.std.proofs.lemmas.Bool.{cases_lt, eq-eqb, ne_eqb}
use Rattle.std.proofs.lemmas.List.{length-append, length-map, length-take-le, map-append, map-set, append-nil, get_or-map}
use Rattle.std.proofs.lemmas.List.Elements.{filter_map-append}
use Rattle.std.proofs.lemmas.List.FromFn.{length-map-range_with_len, get_or-map-range_with_len, map-range_with_len_more}
use Rattle.std.proofs.lemmas.Option.{slice_get_past, slice_get-get_or}
use Rattle.vq_model.specs.declared.plan.Op.{Op}
use Rattle.vq_ground.proofs.Gets.{get_within, get-append, get-append_left}
use Rattle.vq_spec.specs.declared.chains.Chain.{Chain}
use Rattle.vq_spec.specs.ChainParts.{member, members, Sorts, first_with}
use Rattle.vq_spec.proofs.Ranges.{take_push, enumerate-append, map_range-set}

-- one operation more
members-push : (ops : List Op) (e : ℕ) (o : Op) → slice_get ops e ≡ Some o → (t : ℕ) →
    members (take (e + 1) ops) t ≡ members (take e ops) t ++ cons_option (member t (e, o)) []
members-push ops e o at t =
    let inside = get_within ops e o at in
    let n : 0 + length (take e ops) ≡ e = omega (arith, length-take-le e ops (omega arith)) in
    ap (λ xs. members xs t) (take_push ops e o at)
    ∙ (ap (filter_map (member t)) (enumerate-append 0 (take e ops) (o ∷ [])
    ∙ ap (λ k. enumerate_from 0 (take e ops) ++ (k, o) ∷ []) n)
    ∙ filter_map-append (member t) (enumerate_from 0 (take e ops)) ((e, o) ∷ []))

module _ {V : Type 0} (items : V → List (ℕ × ℕ)) where
  pub empty_push : (lists new : List V) (v : V) (n : ℕ) → items v ≡ [] →
      map items lists ≡ map (λ t. []) (range_with_len 0 n) → new ≡ lists ++ v ∷ [] →
      map items new ≡ map (λ t. []) (range_with_len 0 (n + 1))
  empty_push lists new v n e h a =
      ap (map items) a
      ∙ (map-append items lists (v ∷ [])
      ∙ ((λ i. h i ++ e i ∷ [])
      ∙ sym (map-range_with_len_more {X = List (ℕ × ℕ)} (λ t. []) 0 n n (zero-add n))))

  pub lists_length : (ops : List Op) (lists : List V) (n : ℕ) →
      map items lists ≡ map (members ops) (range_with_len 0 n) → length lists ≡ n
  lists_length ops lists n h = sym (length-map lists items)
      ∙ (ap length h ∙ length-map-range_with_len (members ops) 0 n)

  -- the lists from a chain on: the first of them, and those behind it
  pub lists_left : (ops : List Op) (lists rest : List V) (v : V) (n : ℕ) → lists ≡ v ∷ rest →
      map items lists ≡ map (members ops) (range_with_len n (length lists)) →
      (items v ≡ members ops n) × (map items rest ≡ map (members ops) (range_with_len (n + 1) (length rest)))
  lists_left ops lists rest v n is h =
      let both : items v ∷ map items rest
      ≡ members ops n ∷ map (members ops) (range_with_len (n + 1) (length rest)) =
      sym (ap (map items) is) ∙ (h ∙ ap (λ (xs : List V). map (members ops) (range_with_len n (length xs))) is) in
      (ap (λ xs. get_or xs 0 []) both, ap (drop 1) both)

  pub list_at : (ops : List Op) (lists : List V) (n t : ℕ) (v : V) →
      map items lists ≡ map (members ops) (range_with_len 0 n) → t < length lists →
      v ≡ get_or lists t v → items v ≡ members ops t
  list_at ops lists n t v h l e =
      let m = lists_length ops lists n h in
      ap items e
      ∙ (sym (get_or-map items lists t v (items v) l)
      ∙ (ap (λ xs. get_or xs t (items v)) h
      ∙ get_or-map-range_with_len (members ops) 0 n t t (items v) (omega arith) (zero-add t)))

  pub gathered_push : (ops : List Op) (lists : List V) (n e : ℕ) (o : Op) (was new : V) →
      slice_get ops e ≡ Some o → o.chain < n →
      map items lists ≡ map (members (take e ops)) (range_with_len 0 n) →
      was ≡ get_or lists o.chain was → items new ≡ items was ++ (o.value, e) ∷ [] →
      map items (set lists o.chain new) ≡ map (members (take (e + 1) ops)) (range_with_len 0 n)
  gathered_push ops lists n e o was new at l h w a =
      let m = lists_length (take e ops) lists n h in
      map-set items lists o.chain new
      ∙ (ap (λ xs. set xs o.chain (items new)) h
      ∙ sym (map_range-set (members (take e ops)) (members (take (e + 1) ops)) n o.chain (items new)
      (here m) there))
    where
      here : length lists ≡ n → members (take (e + 1) ops) o.chain ≡ items new
      here m =
          members-push ops e o at o.chain
          ∙ (ap (λ b. members (take e ops) o.chain
          ++ cons_option (cond b (Some (o.value, e)) None) []) (eq-eqb o.chain o.chain refl)
          ∙ (ap (λ xs. xs ++ (o.value, e) ∷ [])
          (sym (list_at (take e ops) lists n o.chain was h (omega arith) w)) ∙ sym a))

      there : (q : ℕ) → q ≢ o.chain → members (take (e + 1) ops) q ≡ members (take e ops) q
      there q ne =
          members-push ops e o at q
          ∙ (ap (λ b. members (take e ops) q
          ++ cons_option (cond b (Some (o.value, e)) None) [])
          (ne_eqb o.chain q (λ h. ne (sym h))) ∙ append-nil (members (take e ops) q))

-- one chain more
pub sorted_push : (ops : List Op) (chains new : List Chain) (n : ℕ) (c : Chain) →
    length chains ≡ n →
    ((t : ℕ) (d : Chain) → slice_get chains t ≡ Some d → Sorts (members ops t) d) →
    Sorts (members ops n) c → new ≡ chains ++ c ∷ [] →
    (length new ≡ n + 1)
    × ((t : ℕ) (d : Chain) → slice_get new t ≡ Some d → Sorts (members ops t) d)
sorted_push ops chains new n c k h own a = (
  (let u = ap length a in let w = length-append chains (c ∷ []) in omega arith),
  λ t d e. at t d (ap (λ xs. slice_get xs t) (sym a) ∙ e) (cases_lt t n),
)
  where
    at : (t : ℕ) (d : Chain) → slice_get (chains ++ c ∷ []) t ≡ Some d → (t < n) ⊎ (n ≤ t) →
        Sorts (members ops t) d
    at t d e (inl l) = h t d (sym (get-append_left chains (c ∷ []) t (omega arith)) ∙ e)
    at t d e (inr l) =
        let inside = get_within (chains ++ c ∷ []) t d e in
        let w = length-append chains (c ∷ []) in
        let z : t ≡ length chains + 0 = omega arith in
        let q : t ≡ n = omega arith in
        let f : Some c ≡ Some d = sym (ap (slice_get (chains ++ c ∷ [])) z
        ∙ get-append chains (c ∷ []) 0) ∙ e in
        let same : c ≡ d = cc in
        subst (λ (z : ℕ × Chain). Sorts (members ops z.0) z.1) (λ i. (sym q i, same i)) own

-- a search that ends inside, and one that doesn't
pub found_there : (pairs : List (ℕ × ℕ)) (v i : ℕ) (p : ℕ × ℕ) →
    i ≡ prefix_len (λ p. ltb p.0 v) pairs → i < length pairs →
    p ≡ get_or pairs i p → Some p.1 ≡ first_with pairs v
found_there pairs v i p e l r =
    sym (ap (λ n. option_map (λ (q : ℕ × ℕ). q.1) (slice_get pairs n)) (sym e)
    ∙ (ap (option_map (λ (q : ℕ × ℕ). q.1)) (slice_get-get_or pairs i p l)
    ∙ ap (λ (q : ℕ × ℕ). Some q.1) (sym r)))

pub found_none : (pairs : List (ℕ × ℕ)) (v i : ℕ) →
    i ≡ prefix_len (λ p. ltb p.0 v) pairs → length pairs ≤ i →
    None ≡ first_with pairs v
found_none pairs v i e l =
    sym (ap (λ n. option_map (λ (q : ℕ × ℕ). q.1) (slice_get pairs n)) (sym e)
    ∙ ap (option_map (λ (q : ℕ × ℕ). q.1)) (slice_get_past pairs i l))
