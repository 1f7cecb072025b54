-- In the slow run what must be finished before a job stands earlier.
use Rattle.std.proofs.Common.{◌≡◌, ℕ, zero, suc, ◌+◌, ◌<◌, ◌≤◌, Bool, true, false, not, ◌&&◌, ◌||◌, eqb, List, [], ◌∷◌, ◌++◌, length, get_or, Option, Some, None, refl, sym, ap, ◌∙◌, ◌⊎◌, inl, inr, subst, arith}
use Rattle.std.specs.List.{list_all, range_with_len}
use Rattle.std.specs.Option.{option_map_or}
use Rattle.std.proofs.lemmas.Bool.{and_parts, false≢true, not-true, eqb-true, cond-false, lt-ltb, cases_lt, ne_eqb}
use Rattle.std.proofs.lemmas.List.{length-append}
use Rattle.vq_ground.proofs.Gets.{has_at}
use Rattle.vq_ground.proofs.Numbers.{in_range}
use Rattle.vq_model.specs.Plan.{Plan}
use Rattle.vq_ground.specs.Lists.{has}
use Rattle.vq_model.specs.Edges.{AtEnd, must_finish}
use Rattle.vq_model.specs.Machine.{can_start, are_reached}
use Rattle.vq_model.specs.SlowRun.{is_ready, payload_after, lowest_ready, slow_from, slow_order, left_over}
use Rattle.vq_model.specs.HappensBefore.{comes_earlier}
use Rattle.vq_ground.proofs.Lists.{AreDistinct, has-append_cases, has_cases, list_all_has}
use Rattle.vq_ground.proofs.Searches.{find_passes, find_member}
use Rattle.vq_order_laws.proofs.Cited.{slow_has}
use Rattle.vq_ground.proofs.Positions.{place, place_head, place_tail, place-append}

-- where an element of the front stands
pub place_front : (front back : List ℕ) (x : ℕ) → has front x ≡ true → (place (front ++ back) x ≡ place front x) × (place front x < length front)
place_front [] back x h = absurd (false≢true h)
place_front (y ∷ front) back x h = by_test (eqb y x) refl (place_front front back x)
  where
    by_test : (b : Bool) → eqb y x ≡ b → (has front x ≡ true → (place (front ++ back) x ≡ place front x) × (place front x < length front)) → (place (y ∷ front ++ back) x ≡ place (y ∷ front) x) × (place (y ∷ front) x < length (y ∷ front))
    by_test true e f =
        let a = cond-false (not (eqb y x)) (1 + place (front ++ back) x) 0 (ap not e) in
        let b = cond-false (not (eqb y x)) (1 + place front x) 0 (ap not e) in
        (a ∙ sym b, omega arith)
    by_test false e f =
        let m = elim (has_cases y front x h) as (λ o. has front x ≡ true) [ inl q ↦ absurd (false≢true (sym e ∙ subst (λ z. eqb y z ≡ true) q (same y))) | inr t ↦ t ] in
        let r = f m in
        let a = place_tail y (front ++ back) x e in
        let b = place_tail y front x e in
        (omega arith, omega arith)
      where
        same : (z : ℕ) → eqb z z ≡ true
        same z = grind arith

module _ (p : Plan) where
  abbrev Kept : List ℕ → Type 0
  Kept done = (i j : ℕ) → has done j ≡ true → has (must_finish p j) i ≡ true → place done i < place done j

  kept_push : (done : List ℕ) (j : ℕ) → has done j ≡ false → list_all (has done) (must_finish p j) ≡ true → Kept done → Kept (done ++ j ∷ [])
  kept_push done j new all k i q h m =
      elim (has-append_cases done (j ∷ []) q h) [
        | inl old ↦ old_case old (cases_lt (place done i) (length done))
        | inr n ↦ elim (has_cases j [] q n) [ inl e ↦ new_case e | inr t ↦ absurd (false≢true t) ]
      ]
    where
      last : place (done ++ j ∷ []) j ≡ length done
      last = let a = place-append done (j ∷ []) j new in let b = place_head j [] in omega arith

      old_case : has done q ≡ true → ((place done i < length done) ⊎ (length done ≤ place done i)) → place (done ++ j ∷ []) i < place (done ++ j ∷ []) q
      old_case old c =
          let l = k i q old m in
          let a = place_front done (j ∷ []) q old in
          let b = place_front done (j ∷ []) i (within done i (omega arith)) in
          omega arith
        where
          within : (xs : List ℕ) (x : ℕ) → place xs x < length xs → has xs x ≡ true
          within [] x l = absurd (omega arith)
          within (y ∷ xs) x l = by_test (eqb y x) refl (within xs x)
            where
              by_test : (b : Bool) → eqb y x ≡ b → (place xs x < length xs → has xs x ≡ true) → (eqb y x || has xs x) ≡ true
              by_test true e f = ap (λ z. z || has xs x) e
              by_test false e f = ap (λ z. z || has xs x) e ∙ f (let a = place_tail y xs x e in omega arith)

      new_case : j ≡ q → place (done ++ j ∷ []) i < place (done ++ j ∷ []) q
      new_case e =
          let first = list_all_has (has done) (must_finish p j) i all (subst (λ z. has (must_finish p z) i ≡ true) (sym e) m) in
          let a = place_front done (j ∷ []) i first in
          let b = last in
          subst (λ z. place (done ++ j ∷ []) i < place (done ++ j ∷ []) z) e (omega arith)

  slow_keeps : (n : ℕ) (done : List ℕ) → Kept done → Kept (slow_from n p done)
  slow_keeps zero done k = k
  slow_keeps (suc n) done k = by_case (lowest_ready p done) refl (slow_keeps n)
    where
      by_case : (o : Option ℕ) → lowest_ready p done ≡ o → ((more : List ℕ) → Kept more → Kept (slow_from n p more)) → Kept (option_map_or (λ j. slow_from n p (done ++ j ∷ [])) o done)
      by_case None e f = k
      by_case (Some j) e f =
          let pass = find_passes (is_ready p done) (range_with_len 0 (length p.jobs)) j e in
          let both = and_parts (not (has done j) && can_start p (has done) (payload_after p done) j) (are_reached p (payload_after p done) j AtEnd) pass in
          let parts = and_parts (not (has done j)) (can_start p (has done) (payload_after p done) j) both.0 in
          f (done ++ j ∷ []) (kept_push done j (not-true (has done j) parts.0) (and_parts (list_all (has done) (must_finish p j)) _ parts.1).0 k)

  -- what must be finished before a job stands earlier in the slow run
  pub must_earlier : left_over p ≡ [] → (i j : ℕ) → j < length p.jobs → has (must_finish p j) i ≡ true → comes_earlier p i j ≡ true
  must_earlier reach i j l m =
      lt-ltb (place (slow_order p) i) (place (slow_order p) j) (slow_keeps (length p.jobs) [] (λ a b h q. absurd (false≢true h)) i j (slow_has p reach j l) m)

-- Places in a list of different elements

pub place_at : (xs : List ℕ) (i : ℕ) → AreDistinct xs → i < length xs → place xs (get_or xs i 0) ≡ i
place_at [] i d l = absurd (omega arith)
place_at (x ∷ xs) zero d l = place_head x xs
place_at (x ∷ xs) (suc i) d l =
    let m = has_at xs i (omega arith) in
    let apart : eqb x (get_or xs i 0) ≡ false = ne_eqb x (get_or xs i 0) (λ q. false≢true (sym d.0 ∙ subst (λ z. has xs z ≡ true) (sym q) m)) in
    let t = place_tail x xs (get_or xs i 0) apart in
    let r = place_at xs i d.1 (omega arith) in
    omega arith

pub at_place : (xs : List ℕ) (x : ℕ) → place xs x < length xs → get_or xs (place xs x) 0 ≡ x
at_place [] x l = absurd (omega arith)
at_place (y ∷ xs) x l = by_test (eqb y x) refl (at_place xs x)
  where
    by_test : (b : Bool) → eqb y x ≡ b → (place xs x < length xs → get_or xs (place xs x) 0 ≡ x) → get_or (y ∷ xs) (place (y ∷ xs) x) 0 ≡ x
    by_test true e f =
        let z = cond-false (not (eqb y x)) (1 + place xs x) 0 (ap not e) in
        subst (λ n. get_or (y ∷ xs) n 0 ≡ x) (sym z) (eqb-true y x e)
    by_test false e f =
        let t = place_tail y xs x e in
        let s : place (y ∷ xs) x ≡ suc (place xs x) = omega arith in
        subst (λ n. get_or (y ∷ xs) n 0 ≡ x) (sym s) (f (omega arith))

pub place_within : (xs : List ℕ) (x : ℕ) → has xs x ≡ true → place xs x < length xs
place_within xs x h = (place_front xs [] x h).1

module _ (p : Plan) where
  slow_within : (n : ℕ) (done : List ℕ) → ((j : ℕ) → has done j ≡ true → j < length p.jobs) → (j : ℕ) → has (slow_from n p done) j ≡ true → j < length p.jobs
  slow_within zero done k = k
  slow_within (suc n) done k = by_case (lowest_ready p done) refl (slow_within n)
    where
      by_case : (o : Option ℕ) → lowest_ready p done ≡ o → ((more : List ℕ) → ((j : ℕ) → has more j ≡ true → j < length p.jobs) → (j : ℕ) → has (slow_from n p more) j ≡ true → j < length p.jobs) → (j : ℕ) → has (option_map_or (λ i. slow_from n p (done ++ i ∷ [])) o done) j ≡ true → j < length p.jobs
      by_case None e f = k
      by_case (Some i) e f =
          let m = find_member (is_ready p done) (range_with_len 0 (length p.jobs)) i e in
          let l = in_range (length p.jobs) 0 i m in
          f (done ++ i ∷ []) (λ j h. elim (has-append_cases done (i ∷ []) j h) [
            | inl a ↦ k j a
            | inr a ↦ elim (has_cases i [] j a) [ inl q ↦ subst (λ z. z < length p.jobs) q (omega arith) | inr t ↦ absurd (false≢true t) ]
          ])

  -- the slow run does jobs that exist
  pub slow_exists : (j : ℕ) → has (slow_order p) j ≡ true → j < length p.jobs
  slow_exists = slow_within (length p.jobs) [] (λ j h. absurd (false≢true h))

  slow_length : (n : ℕ) (done : List ℕ) → length (slow_from n p done) ≤ n + length done
  slow_length zero done = omega arith
  slow_length (suc n) done = by_case (lowest_ready p done) (slow_length n)
    where
      by_case : (o : Option ℕ) → ((more : List ℕ) → length (slow_from n p more) ≤ n + length more) → length (option_map_or (λ i. slow_from n p (done ++ i ∷ [])) o done) ≤ suc n + length done
      by_case None f = omega arith
      by_case (Some i) f = let l = f (done ++ i ∷ []) in let e = length-append done (i ∷ []) in omega arith

  pub slow_short : length (slow_order p) ≤ length p.jobs
  slow_short = let l = slow_length (length p.jobs) [] in omega arith
