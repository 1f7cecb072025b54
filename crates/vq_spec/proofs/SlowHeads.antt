-- The lowest job that is ready stands first among those of its lane that aren't done.
use Rattle.std.proofs.Common.{◌≡◌, ℕ, zero, suc, ◌<◌, ◌≤◌, max, min, Bool, true, false, not, ◌&&◌, ◌++◌, List, [], ◌∷◌, length, get_or, filter, map, fold, Option, Some, None, refl, sym, ap, ◌∙◌, ◌⊎◌, inl, inr, subst, arith}
use Rattle.std.specs.List.{list_all}
use Rattle.std.specs.Option.{option_to_list}
use Rattle.std.proofs.lemmas.Bool.{and_parts, false≢true, leb-true, not-true, cases_eq, cases_lt, cond-true, cond-false}
use Rattle.vq_ground.proofs.Gets.{has_at}
use Rattle.vq_ground.proofs.Searches.{find_least, find_none_from}
use Rattle.vq_model.specs.Plan.{Plan, chain, initial, value, previous, host_before, idle_after}
use Rattle.vq_ground.specs.Lists.{has}
use Rattle.vq_model.specs.Edges.{AtEnd, must_finish}
use Rattle.vq_model.specs.Lanes.{lane_at, KeepsLanes, IsJustBefore}
use Rattle.vq_model.specs.Machine.{can_start, are_reached}
use Rattle.vq_model.specs.SlowRun.{is_ready, payload_after, lowest_ready, is_of}
use Rattle.vq_model.specs.WellFormed.{IsWellFormed}
use Rattle.vq_ground.proofs.Lists.{has-append_cases, has-append_left, has_here, has_there, has_cases, list_all_has}
use Rattle.vq_plan_laws.proofs.Cited.{ready_whole}
use Rattle.vq_spec.specs.SlowProgress.{IsClosed, IsHead, AreHeads, IsLeastOf, is_passed, lower}

pub previous_first : (p : Plan) (k j : ℕ) → previous p j ≡ Some k → has (must_finish p j) k ≡ true
previous_first p k j e =
    has-append_left (option_to_list (previous p j) ++ option_to_list (host_before p j)) (idle_after p j) k
    (has-append_left (option_to_list (previous p j)) (option_to_list (host_before p j)) k (ap (λ o. has (option_to_list o) k) e ∙ has_here k []))

-- Finding the least number that passes a test

module _ (p : Plan) (lanes : KeepsLanes p) (done : List ℕ) (closed : IsClosed p done) where
  pub ready_first : (j : ℕ) → is_ready p done j ≡ true → (has done j ≡ false) × (list_all (has done) (must_finish p j) ≡ true)
  ready_first j r =
      let both = and_parts (not (has done j) && can_start p (has done) (payload_after p done) j) (are_reached p (payload_after p done) j AtEnd) r in
      let parts = and_parts (not (has done j)) (can_start p (has done) (payload_after p done) j) both.0 in
      (not-true (has done j) parts.0, (and_parts (list_all (has done) (must_finish p j)) _ parts.1).0)

  -- all earlier jobs of a lane are done, where what must be finished before a job is
  pub lane_done : (n i j : ℕ) → j ≤ n → j < length p.jobs → ((k : ℕ) → has (must_finish p j) k ≡ true → has done k ≡ true) → i < j → lane_at p i ≡ lane_at p j → has done i ≡ true
  lane_done zero i j b h f l e = absurd (omega arith)
  lane_done (suc n) i j b h f l e = by_case (lanes.lane i j l h e) (lane_done n i)
    where
      by_case : IsJustBefore p i j → ((q : ℕ) → q ≤ n → q < length p.jobs → ((k : ℕ) → has (must_finish p q) k ≡ true → has done k ≡ true) → i < q → lane_at p i ≡ lane_at p q → has done i ≡ true) → has done i ≡ true
      by_case q g =
          let low = q.below in
          let up = q.at_or_later in
          let d = f q.job (previous_first p q.job j q.is_previous) in
          elim (cases_eq i q.job) [
            | inl s ↦ subst (λ z. has done z ≡ true) (sym s) d
            | inr s ↦ g q.job (omega arith) (omega arith) (λ k m. closed k q.job d m) (grind arith) (e ∙ sym q.same_lane)
          ]

  -- a job that is ready is the head of its lane
  pub ready_is_head : (j head : ℕ) → j < length p.jobs → is_ready p done j ≡ true → IsHead p done (lane_at p j) head → head ≡ j
  ready_is_head j head l r h =
      let parts = ready_first j r in
      elim (cases_lt j head) [
        | inl a ↦ absurd (false≢true (sym parts.0 ∙ h.before j a refl))
        | inr a ↦ elim (cases_eq head j) [
          | inl e ↦ e
          | inr e ↦
              let less : head < j = grind arith in
              let d = lane_done j head j (omega arith) l (λ k m. list_all_has (has done) (must_finish p j) k parts.1 m) less (h.in_lane (omega arith)) in
              absurd (false≢true (sym (h.waits (omega arith)) ∙ d))
        ]
      ]

  -- the least head that is ready is the lowest job that is
  pub least_head : (j : ℕ) (heads : List ℕ) → AreHeads p done heads → j < length p.jobs → is_ready p done j ≡ true → ((l : ℕ) → l ≤ length p.script.queues → get_or heads l 0 < length p.jobs → is_ready p done (get_or heads l 0) ≡ true → j ≤ get_or heads l 0) → lowest_ready p done ≡ Some j
  least_head j heads hs l r f = find_least (is_ready p done) (length p.jobs) 0 j (omega arith) (omega arith) r (λ i a b. low i b (is_ready p done i) refl)
    where
      low : (i : ℕ) → i < j → (b : Bool) → is_ready p done i ≡ b → is_ready p done i ≡ false
      low i b false e = e
      low i b true e =
          let h = ready_is_head i (get_or heads (lane_at p i) 0) (omega arith) e (hs.each (lane_at p i) (lanes.lane_exists i)) in
          let g = f (lane_at p i) (lanes.lane_exists i) (omega arith) (subst (λ z. is_ready p done z ≡ true) (sym h) e) in
          absurd (omega arith)

  pub no_head : (heads : List ℕ) → AreHeads p done heads → ((l : ℕ) → l ≤ length p.script.queues → get_or heads l 0 < length p.jobs → is_ready p done (get_or heads l 0) ≡ false) → lowest_ready p done ≡ None
  no_head heads hs f = find_none_from (is_ready p done) (length p.jobs) 0 (λ i a b. low i (omega arith) (is_ready p done i) refl)
    where
      low : (i : ℕ) → i < length p.jobs → (b : Bool) → is_ready p done i ≡ b → is_ready p done i ≡ false
      low i b false e = e
      low i b true e =
          let h = ready_is_head i (get_or heads (lane_at p i) 0) b e (hs.each (lane_at p i) (lanes.lane_exists i)) in
          let g = f (lane_at p i) (lanes.lane_exists i) (omega arith) in
          absurd (false≢true (sym g ∙ subst (λ z. is_ready p done z ≡ true) (sym h) e))

-- The payload of a chain: the greatest of the initial value and the values that are signaled

pub record IsPayload (p : Plan) (done : List ℕ) (t n : ℕ) : Type 0 where
  pub from : (n ≡ initial p t) ⊎ ((e : ℕ) × (has (chain p t) e ≡ true) × (is_of p done e ≡ true) × (value p e ≡ n))
  pub above_initial : initial p t ≤ n
  pub above : (e : ℕ) → has (chain p t) e ≡ true → is_of p done e ≡ true → value p e ≤ n

fold_above : (test : ℕ → Bool) (f : ℕ → ℕ) (xs : List ℕ) (n : ℕ) → n ≤ fold max n (map f (filter test xs))
fold_above test f [] n = omega arith
fold_above test f (x ∷ xs) n = by_test (test x) refl (fold_above test f xs)
  where
    by_test : (b : Bool) → test x ≡ b → ((m : ℕ) → m ≤ fold max m (map f (filter test xs))) → n ≤ fold max n (map f (filter test (x ∷ xs)))
    by_test true e g = let a = g (max n (f x)) in subst (λ (zs : List ℕ). n ≤ fold max n (map f zs)) (sym (cond-true (test x) (x ∷ filter test xs) (filter test xs) e)) (omega arith)
    by_test false e g = let a = g n in subst (λ (zs : List ℕ). n ≤ fold max n (map f zs)) (sym (cond-false (test x) (x ∷ filter test xs) (filter test xs) e)) a

fold_each : (test : ℕ → Bool) (f : ℕ → ℕ) (xs : List ℕ) (n e : ℕ) → has xs e ≡ true → test e ≡ true → f e ≤ fold max n (map f (filter test xs))
fold_each test f [] n e h t = absurd (false≢true h)
fold_each test f (x ∷ xs) n e h t = by_test (test x) refl (λ m i. fold_each test f xs m e i t)
  where
    by_test : (b : Bool) → test x ≡ b → ((m : ℕ) → has xs e ≡ true → f e ≤ fold max m (map f (filter test xs))) → f e ≤ fold max n (map f (filter test (x ∷ xs)))
    by_test true q r = subst (λ (zs : List ℕ). f e ≤ fold max n (map f zs)) (sym (cond-true (test x) (x ∷ filter test xs) (filter test xs) q)) (elim (has_cases x xs e h) [
      | inl s ↦ (let a = fold_above test f xs (max n (f x)) in let g = ap f s in omega arith)
      | inr m ↦ r (max n (f x)) m
    ])
    by_test false q r = subst (λ (zs : List ℕ). f e ≤ fold max n (map f zs)) (sym (cond-false (test x) (x ∷ filter test xs) (filter test xs) q)) (elim (has_cases x xs e h) [
      | inl s ↦ absurd (false≢true (sym q ∙ (ap test s ∙ t)))
      | inr m ↦ r n m
    ])

abbrev FoldFrom : (ℕ → Bool) → (ℕ → ℕ) → List ℕ → ℕ → ℕ → Type 0
FoldFrom test f xs n m = (m ≡ n) ⊎ ((e : ℕ) × (has xs e ≡ true) × (test e ≡ true) × (f e ≡ m))

fold_from : (test : ℕ → Bool) (f : ℕ → ℕ) (xs : List ℕ) (n : ℕ) → FoldFrom test f xs n (fold max n (map f (filter test xs)))
fold_from test f [] n = inl refl
fold_from test f (x ∷ xs) n = by_test (test x) refl (fold_from test f xs)
  where
    by_test : (b : Bool) → test x ≡ b → ((m : ℕ) → FoldFrom test f xs m (fold max m (map f (filter test xs)))) → FoldFrom test f (x ∷ xs) n (fold max n (map f (filter test (x ∷ xs))))
    by_test true q r = subst (λ (zs : List ℕ). FoldFrom test f (x ∷ xs) n (fold max n (map f zs))) (sym (cond-true (test x) (x ∷ filter test xs) (filter test xs) q)) (go (r (max n (f x))))
      where
        go : FoldFrom test f xs (max n (f x)) (fold max (max n (f x)) (map f (filter test xs))) → FoldFrom test f (x ∷ xs) n (fold max (max n (f x)) (map f (filter test xs)))
        go (inl s) = elim (cases_lt n (f x)) [
          | inl l ↦ inr (x, has_here x xs, q, (let d : f x ≡ max n (f x) = omega arith in d ∙ sym s))
          | inr l ↦ inl (s ∙ (let d : max n (f x) ≡ n = omega arith in d))
        ]
        go (inr s) = inr (s.0, has_there x xs s.0 s.1, s.2, s.3)
    by_test false q r = subst (λ (zs : List ℕ). FoldFrom test f (x ∷ xs) n (fold max n (map f zs))) (sym (cond-false (test x) (x ∷ filter test xs) (filter test xs) q)) (go (r n))
      where
        go : FoldFrom test f xs n (fold max n (map f (filter test xs))) → FoldFrom test f (x ∷ xs) n (fold max n (map f (filter test xs)))
        go (inl s) = inl s
        go (inr s) = inr (s.0, has_there x xs s.0 s.1, s.2, s.3)

pub payload_is : (p : Plan) (done : List ℕ) (t : ℕ) → IsPayload p done t (payload_after p done t)
payload_is p done t =
    record {
      from = fold_from (is_of p done) (value p) (chain p t) (initial p t);
      above_initial = fold_above (is_of p done) (value p) (chain p t) (initial p t);
      above = λ e h o. fold_each (is_of p done) (value p) (chain p t) (initial p t) e h o;
    }

-- a chain has one payload
pub one_payload : (p : Plan) (done : List ℕ) (t n m : ℕ) → IsPayload p done t n → IsPayload p done t m → n ≡ m
one_payload p done t n m a b =
    let low : (n m : ℕ) → IsPayload p done t n → IsPayload p done t m → n ≤ m = λ n m a b. elim a.from [
      | inl e ↦ (let l = b.above_initial in omega arith)
      | inr e ↦ (let l = b.above e.0 e.1 e.2 in let q = e.3 in omega arith)
    ] in
    let x = low n m a b in
    let y = low m n b a in
    omega arith

-- One more number into the search for the least

module _ (test : ℕ → Bool) (bound : ℕ) where
  last : (hs : List ℕ) (h x : ℕ) → has (hs ++ h ∷ []) x ≡ true → (has hs x ≡ true) ⊎ (h ≡ x)
  last hs h x m = elim (has-append_cases hs (h ∷ []) x m) [ inl a ↦ inl a | inr b ↦ elim (has_cases h [] x b) [ inl e ↦ inr e | inr t ↦ absurd (false≢true t) ] ]

  pub least_take : (hs : List ℕ) (h : ℕ) (o : Option ℕ) → h < bound → test h ≡ true → IsLeastOf test bound hs o → IsLeastOf test bound (hs ++ h ∷ []) (Some (lower o h))
  least_take hs h None l t k = (l, t, λ x m b u. elim (last hs h x m) [ inl a ↦ absurd (false≢true (sym (k x a b) ∙ u)) | inr e ↦ (omega arith) ])
  least_take hs h (Some j) l t k = elim (cases_lt h j) [
    | inl less ↦
        let e : min j h ≡ h = omega arith in
        subst (λ m. IsLeastOf test bound (hs ++ h ∷ []) (Some m)) (sym e) (l, t, λ x m b u. elim (last hs h x m) [ inl a ↦ (let g = k.2 x a b u in omega arith) | inr q ↦ (omega arith) ])
    | inr more ↦
        let e : min j h ≡ j = omega arith in
        subst (λ m. IsLeastOf test bound (hs ++ h ∷ []) (Some m)) (sym e) (k.0, k.1, λ x m b u. elim (last hs h x m) [ inl a ↦ k.2 x a b u | inr q ↦ (omega arith) ])
  ]

  pub least_leave : (hs : List ℕ) (h : ℕ) (o : Option ℕ) → (h < bound → test h ≡ false) → IsLeastOf test bound hs o → IsLeastOf test bound (hs ++ h ∷ []) o
  least_leave hs h None f k = λ x m b. elim (last hs h x m) [ inl a ↦ k x a b | inr e ↦ subst (λ z. test z ≡ false) e (f (omega arith)) ]
  least_leave hs h (Some j) f k = (k.0, k.1, λ x m b u. elim (last hs h x m) [ inl a ↦ k.2 x a b u | inr e ↦ (let d = f (omega arith) in absurd (false≢true (sym d ∙ (ap test e ∙ u)))) ])

  pub least_kept : (hs : List ℕ) (h : ℕ) (o : Option ℕ) → is_passed o h ≡ true → IsLeastOf test bound hs o → IsLeastOf test bound (hs ++ h ∷ []) o
  least_kept hs h None t k = absurd (false≢true t)
  least_kept hs h (Some j) t k =
      let low = leb-true j h t in
      (k.0, k.1, λ x m b u. elim (last hs h x m) [ inl a ↦ k.2 x a b u | inr e ↦ (omega arith) ])

pub lowest_is : (p : Plan) → KeepsLanes p → (done : List ℕ) → IsClosed p done → (heads : List ℕ) → AreHeads p done heads → (o : Option ℕ) → IsLeastOf (is_ready p done) (length p.jobs) heads o → o ≡ lowest_ready p done
lowest_is p lanes done closed heads hs None k =
    sym (no_head p lanes done closed heads hs (λ l e b. k (get_or heads l 0) (has_at heads l (let n = hs.count in omega arith)) b))
lowest_is p lanes done closed heads hs (Some j) k =
    sym (least_head p lanes done closed j heads hs k.0 k.1 (λ l e b r. k.2 (get_or heads l 0) (has_at heads l (let n = hs.count in omega arith)) b r))

-- a test that fails for one fails for all
pub not_all : (test : ℕ → Bool) (xs : List ℕ) (i : ℕ) → i < length xs → test (get_or xs i 0) ≡ false → list_all test xs ≡ false
not_all test xs i l f = by_bool (list_all test xs) refl
  where
    by_bool : (b : Bool) → list_all test xs ≡ b → list_all test xs ≡ false
    by_bool false e = e
    by_bool true e = absurd (false≢true (sym f ∙ list_all_has test xs (get_or xs i 0) e (has_at xs i l)))

-- A job is ready where it isn't done, what must be finished before it is done, and its needs are reached.

module _ (p : Plan) (w : IsWellFormed p) (done : List ℕ) (j : ℕ) where
  pub done_not_ready : has done j ≡ true → is_ready p done j ≡ false
  done_not_ready e = ready_whole p w done j ∙ ap (λ b. not b && list_all (has done) (must_finish p j) && are_reached p (payload_after p done) j AtEnd) e

  pub first_not_ready : has done j ≡ false → list_all (has done) (must_finish p j) ≡ false → is_ready p done j ≡ false
  first_not_ready e f = ready_whole p w done j ∙ (ap (λ b. not b && list_all (has done) (must_finish p j) && are_reached p (payload_after p done) j AtEnd) e ∙ ap (λ b. b && are_reached p (payload_after p done) j AtEnd) f)

  pub ready_needs : has done j ≡ false → list_all (has done) (must_finish p j) ≡ true → is_ready p done j ≡ are_reached p (payload_after p done) j AtEnd
  ready_needs e f = ready_whole p w done j ∙ (ap (λ b. not b && list_all (has done) (must_finish p j) && are_reached p (payload_after p done) j AtEnd) e ∙ ap (λ b. b && are_reached p (payload_after p done) j AtEnd) f)
