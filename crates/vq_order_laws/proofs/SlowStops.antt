-- A slow run does each job at most once, and a job that it leaves can't be done. Where it leaves one, a need is unreachable.
use Rattle.std.proofs.Common.{◌≡◌, ℕ, zero, suc, ◌<◌, ◌≤◌, Bool, true, false, not, ◌&&◌, List, [], ◌∷◌, ◌++◌, length, map, filter, Option, Some, None, refl, sym, ap, ◌∙◌, ◌⊎◌, inl, inr, subst, arith, ◌+◌}
use Rattle.std.specs.List.{range_with_len, list_all, slice_get, list_any}
use Rattle.std.specs.Option.{option_map_or}
use Rattle.std.proofs.lemmas.Bool.{or_parts, and_parts, cases_eq, not-true, false≢true, and_from, cond-true, cond-false}
use Rattle.std.proofs.lemmas.List.{length-map}
use Rattle.std.proofs.lemmas.List.FromFn.{length-map-range_with_len}
use Rattle.vq_model.specs.Plan.{Plan, needs, waits_for_any}
use Rattle.vq_ground.specs.Lists.{has}
use Rattle.vq_model.specs.Edges.{AtEnd, must_finish}
use Rattle.vq_model.specs.Machine.{are_reached, can_start, is_reached}
use Rattle.vq_model.specs.SlowRun.{is_ready, payload_after, lowest_ready, slow_from, slow_order, left_over}
use Rattle.vq_ground.proofs.Lists.{AreDistinct, has-append, has-append_right, has_here, distinct_front, has_there, has_cases, list_all_from}
use Rattle.vq_ground.proofs.Searches.{find_passes, find_member, find_fails}
use Rattle.vq_order_laws.proofs.SlowOrder.{slow_distinct}
use Rattle.vq_ground.proofs.Filters.{filter_fewer, filter_less, filter_all, filter-has_cases}
use Rattle.vq_model.specs.declared.plan.Need.{Need}
use Rattle.vq_model.specs.WellFormed.{IsWellFormed}
use Rattle.vq_model.specs.Checks.{IsUnreachableAt}
use Rattle.vq_ground.proofs.Numbers.{has_range}
use Rattle.vq_plan_laws.proofs.Cited.{ready_whole}

module _ (p : Plan) where
  -- each job stands once in the order
  pub slow_once : (front back : List ℕ) (j : ℕ) → slow_order p ≡ front ++ j ∷ back → has front j ≡ false
  slow_once front back j e = distinct_front front (j ∷ back) j (subst AreDistinct e (slow_distinct p)) (has_here j back)

  abbrev all_jobs : List ℕ
  all_jobs = range_with_len 0 (length p.jobs)

  abbrev undone : List ℕ → ℕ → Bool
  undone done i = not (has done i)

  undone_job : (done : List ℕ) (j : ℕ) → lowest_ready p done ≡ Some j → undone done j ≡ true
  undone_job done j e =
      let pass = find_passes (is_ready p done) all_jobs j e in
      let both = and_parts (not (has done j) && can_start p (has done) (payload_after p done) j) (are_reached p (payload_after p done) j AtEnd) pass in
      (and_parts (not (has done j)) (can_start p (has done) (payload_after p done) j) both.0).0

  fewer_undone : (done : List ℕ) (j : ℕ) → lowest_ready p done ≡ Some j → length (filter (undone (done ++ j ∷ [])) all_jobs) < length (filter (undone done) all_jobs)
  fewer_undone done j e = filter_less (undone done) (undone (done ++ j ∷ [])) all_jobs j still (find_member (is_ready p done) all_jobs j e) (undone_job done j e) (ap not (has-append_right done (j ∷ []) j (has_here j [])))
    where
      still : (x : ℕ) → undone (done ++ j ∷ []) x ≡ true → undone done x ≡ true
      still x u = ap not (or_parts (has done x) (has (j ∷ []) x) (sym (has-append done (j ∷ []) x) ∙ not-true (has (done ++ j ∷ []) x) u)).0

  -- a slow run that may do as many jobs as are left goes on until none can be done
  stops : (n : ℕ) (done : List ℕ) → length (filter (undone done) all_jobs) ≤ n → lowest_ready p (slow_from n p done) ≡ None
  stops zero done l = by_case (lowest_ready p done) refl
    where
      by_case : (o : Option ℕ) → lowest_ready p done ≡ o → lowest_ready p done ≡ None
      by_case None e = e
      by_case (Some j) e = let f = fewer_undone done j e in absurd (omega arith)
  stops (suc n) done l = by_case (lowest_ready p done) refl (stops n)
    where
      by_case : (o : Option ℕ) → lowest_ready p done ≡ o → ((more : List ℕ) → length (filter (undone more) all_jobs) ≤ n → lowest_ready p (slow_from n p more) ≡ None) → lowest_ready p (option_map_or (λ j. slow_from n p (done ++ j ∷ [])) o done) ≡ None
      by_case None e f = e
      by_case (Some j) e f = let d = fewer_undone done j e in f (done ++ j ∷ []) (omega arith)

  pub slow_stops : lowest_ready p (slow_order p) ≡ None
  slow_stops =
      let a = filter_fewer (λ i. true) (undone []) all_jobs (λ x u. refl) in
      let b = filter_all all_jobs in
      let c : length (map (λ (k : ℕ). k) all_jobs) ≡ length p.jobs = length-map-range_with_len (λ k. k) 0 (length p.jobs) in
      let d : length (map (λ (k : ℕ). k) all_jobs) ≡ length all_jobs = length-map all_jobs (λ k. k) in
      stops (length p.jobs) [] (omega arith)

  -- a job that is left over can't be done whole
  pub left_waits : (j : ℕ) → has (left_over p) j ≡ true → is_ready p (slow_order p) j ≡ false
  left_waits j m = find_fails (is_ready p (slow_order p)) all_jobs j slow_stops (filter-has_cases (undone (slow_order p)) all_jobs j m).0

  -- the lowest job that isn't done
  record IsLowest (j : ℕ) : Type 0 where
    isnt_done : has (slow_order p) j ≡ false
    below : (i : ℕ) → i < j → has (slow_order p) i ≡ true

  lowest : (n : ℕ) → ((i : ℕ) → i < n → has (slow_order p) i ≡ true) ⊎ ((j : ℕ) × (j < n) × IsLowest j)
  lowest zero = inl (λ i l. absurd (omega arith))
  lowest (suc n) = elim (lowest n) [
    | inl f ↦ by_test f (has (slow_order p) n) refl
    | inr r ↦ let l = r.1 in inr (r.0, omega arith, r.2)
  ]
    where
      by_test : ((i : ℕ) → i < n → has (slow_order p) i ≡ true) → (b : Bool) → has (slow_order p) n ≡ b → ((i : ℕ) → i < suc n → has (slow_order p) i ≡ true) ⊎ ((j : ℕ) × (j < suc n) × IsLowest j)
      by_test f false e = inr (n, omega arith, record { isnt_done = e; below = f })
      by_test f true e = inl (λ i l. elim (cases_eq i n) [ inl q ↦ ap (has (slow_order p)) q ∙ e | inr q ↦ f i (grind arith) ])

first_fails : (test : Need → Bool) (ns : List Need) → list_all test ns ≡ false → (place : ℕ) × (n : Need) × (slice_get ns place ≡ Some n) × (test n ≡ false)
first_fails test [] h = absurd (false≢true (sym h))
first_fails test (n ∷ ns) h = by_test (test n) refl (first_fails test ns)
  where
    by_test : (b : Bool) → test n ≡ b → (list_all test ns ≡ false → (place : ℕ) × (m : Need) × (slice_get ns place ≡ Some m) × (test m ≡ false)) → (place : ℕ) × (m : Need) × (slice_get (n ∷ ns) place ≡ Some m) × (test m ≡ false)
    by_test false e f = (0, n, refl, e)
    by_test true e f = let r = f (ap (λ b. b && list_all test ns) (sym e) ∙ h) in (suc r.0, r.1, r.2, r.3)

some_first : (ns : List Need) → 0 < length ns → (n : Need) × (slice_get ns 0 ≡ Some n)
some_first [] l = absurd (omega arith)
some_first (n ∷ ns) l = (n, refl)

-- where a job is left over, some line is unreachable
pub left_unreachable : (p : Plan) → IsWellFormed p → (j : ℕ) → has (left_over p) j ≡ true → (n : ℕ) × IsUnreachableAt p n
left_unreachable p w j m = elim (lowest p (length p.jobs)) [ inl f ↦ absurd (all_done f) | inr r ↦ at_lowest r.0 r.1 r.2 ]
  where
    member : (has (range_with_len 0 (length p.jobs)) j ≡ true) × (not (has (slow_order p) j) ≡ true)
    member = filter-has_cases (λ i. not (has (slow_order p) i)) (range_with_len 0 (length p.jobs)) j m

    in_range : (n a i : ℕ) → has (range_with_len a n) i ≡ true → i < a + n
    in_range zero a i h = absurd (false≢true h)
    in_range (suc n) a i h = elim (has_cases a (range_with_len (a + 1) n) i h) [
      | inl e ↦ (let l : i < a + suc n = omega arith in l)
      | inr t ↦ (let l = in_range n (a + 1) i t in omega arith)
    ]

    all_done : ((i : ℕ) → i < length p.jobs → has (slow_order p) i ≡ true) → ⊥
    all_done f =
        let l = in_range (length p.jobs) 0 j member.0 in
        false≢true (sym (not-true (has (slow_order p) j) member.1) ∙ f j (omega arith))

    at_lowest : (i : ℕ) → i < length p.jobs → IsLowest p i → (n : ℕ) × IsUnreachableAt p n
    at_lowest i l s = by_any (waits_for_any p i) refl
      where
        left : has (left_over p) i ≡ true
        left = filter_keeps (range_with_len 0 (length p.jobs)) (has_range (length p.jobs) 0 i (omega arith) (omega arith))
          where
            filter_keeps : (xs : List ℕ) → has xs i ≡ true → has (filter (λ k. not (has (slow_order p) k)) xs) i ≡ true
            filter_keeps [] h = absurd (false≢true h)
            filter_keeps (x ∷ xs) h = by_test (has (slow_order p) x) refl (filter_keeps xs)
              where
                by_test : (b : Bool) → has (slow_order p) x ≡ b → (has xs i ≡ true → has (filter (λ k. not (has (slow_order p) k)) xs) i ≡ true) → has (filter (λ k. not (has (slow_order p) k)) (x ∷ xs)) i ≡ true
                by_test true e f =
                    ap (λ zs. has zs i) (cond-false (not (has (slow_order p) x)) (x ∷ filter (λ k. not (has (slow_order p) k)) xs) (filter (λ k. not (has (slow_order p) k)) xs) (ap not e))
                    ∙ f (elim (has_cases x xs i h) [ inl q ↦ absurd (false≢true (sym s.isnt_done ∙ (ap (has (slow_order p)) (sym q) ∙ e))) | inr t ↦ t ])
                by_test false e f =
                    ap (λ zs. has zs i) (cond-true (not (has (slow_order p) x)) (x ∷ filter (λ k. not (has (slow_order p) k)) xs) (filter (λ k. not (has (slow_order p) k)) xs) (ap not e))
                    ∙ elim (has_cases x xs i h) [
                      | inl q ↦ subst (λ z. has (x ∷ filter (λ k. not (has (slow_order p) k)) xs) z ≡ true) q (has_here x (filter (λ k. not (has (slow_order p) k)) xs))
                      | inr t ↦ has_there x (filter (λ k. not (has (slow_order p) k)) xs) i (f t)
                    ]

        -- all that must be finished before it is done, so a need is unreached
        unreached : are_reached p (payload_after p (slow_order p)) i AtEnd ≡ false
        unreached = by_reached (are_reached p (payload_after p (slow_order p)) i AtEnd) refl
          where
            by_reached : (b : Bool) → are_reached p (payload_after p (slow_order p)) i AtEnd ≡ b → are_reached p (payload_after p (slow_order p)) i AtEnd ≡ false
            by_reached false e = e
            by_reached true e =
                let done = list_all_from (has (slow_order p)) (must_finish p i) (λ k h. s.below k (w.finished_first k i h)) in
                let ready = ready_whole p w (slow_order p) i ∙ and_from (not (has (slow_order p) i) && list_all (has (slow_order p)) (must_finish p i)) (are_reached p (payload_after p (slow_order p)) i AtEnd) (and_from (not (has (slow_order p) i)) (list_all (has (slow_order p)) (must_finish p i)) (ap not s.isnt_done) done) e in
                absurd (false≢true (sym (left_waits p i left) ∙ ready))

        by_any : (b : Bool) → waits_for_any p i ≡ b → (n : ℕ) × IsUnreachableAt p n
        by_any true e =
            let f = some_first (needs p i) (w.any_needs i e) in
            let u = sym (cond-true (waits_for_any p i) (list_any (is_reached (payload_after p (slow_order p))) (needs p i)) (list_all (is_reached (payload_after p (slow_order p))) (needs p i)) e) ∙ unreached in (
              f.0.line,
              record {
                job = i;
                left = left;
                need = f.0;
                place = 0;
                of_job = f.1;
                unreached = cond-true (waits_for_any p i) (not (list_any (is_reached (payload_after p (slow_order p))) (needs p i))) (not (is_reached (payload_after p (slow_order p)) f.0)) e ∙ ap not u;
                named = refl;
              },
            )
        by_any false e =
            let u = sym (cond-false (waits_for_any p i) (list_any (is_reached (payload_after p (slow_order p))) (needs p i)) (list_all (is_reached (payload_after p (slow_order p))) (needs p i)) e) ∙ unreached in
            let f = first_fails (is_reached (payload_after p (slow_order p))) (needs p i) u in (
              f.1.line,
              record {
                job = i;
                left = left;
                need = f.1;
                place = f.0;
                of_job = f.2;
                unreached = cond-false (waits_for_any p i) (not (list_any (is_reached (payload_after p (slow_order p))) (needs p i))) (not (is_reached (payload_after p (slow_order p)) f.1)) e ∙ ap not f.3;
                named = refl;
              },
            )
