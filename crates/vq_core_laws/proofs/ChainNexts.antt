-- The first operations of a chain that are pending or not bound, by the counts of its timeline.
use Rattle.std.proofs.Common.{◌≡◌, ℕ, zero, suc, ◌<◌, ◌≤◌, ◌&&◌, Bool, true, false, not, cond, List, [], ◌∷◌, filter}
use Rattle.std.proofs.Common.{find, Option, Some, None, refl, sym, ap, ◌∙◌, inl, inr, arith}
use Rattle.std.specs.Prelude.{nat_lt}
use Rattle.std.specs.List.{slice_get}
use Rattle.std.specs.Option.{option_map_or}
use Rattle.std.proofs.lemmas.Bool.{cases_eq, cases_lt, and_from, cond-true, cond-false, lt-ltb, le-ltb, and_right}
use Rattle.vq_model.specs.Plan.{Plan, chain, chain_of, initial, value}
use Rattle.vq_point_laws.specs.Points.{PointState, is_pending, smaller_ops}
use Rattle.vq_point_laws.specs.Timeline.{Timeline}
use Rattle.vq_turns.specs.Turns.{unbound_before}
use Rattle.vq_core_laws.specs.TimelineOf.{IsTimelineOf}
use Rattle.vq_core_laws.proofs.PlanFacts.{Facts, chain_places}

-- What is found in a list

find_at : (test : ℕ → Bool) (xs : List ℕ) (n x : ℕ) → slice_get xs n ≡ Some x → test x ≡ true →
    ((j y : ℕ) → slice_get xs j ≡ Some y → j < n → test y ≡ false) → find test xs ≡ Some x
find_at test [] n x e h f = absurd (let z : None ≡ Some x = e in cc)
find_at test (y ∷ ys) zero x e h f =
    let same : y ≡ x = cc in
    cond-true (test y) (Some y) (find test ys) (ap test same ∙ h) ∙ ap Some same
find_at test (y ∷ ys) (suc n) x e h f =
    cond-false (test y) (Some y) (find test ys) (f 0 y refl (omega arith))
    ∙ find_at test ys n x e h (λ j z a l. f (suc j) z a (omega arith))

find_none : (test : ℕ → Bool) (xs : List ℕ) → ((j y : ℕ) → slice_get xs j ≡ Some y → test y ≡ false) →
    find test xs ≡ None
find_none test [] f = refl
find_none test (y ∷ ys) f =
    cond-false (test y) (Some y) (find test ys) (f 0 y refl) ∙ find_none test ys (λ j z a. f (suc j) z a)

find-filter : (test kept : ℕ → Bool) (xs : List ℕ) → find test (filter kept xs) ≡ find (λ x. kept x && test x) xs
find-filter test kept [] = refl
find-filter test kept (x ∷ xs) = by_test (kept x) (find-filter test kept xs)
  where
    by_test : (b : Bool) → find test (filter kept xs) ≡ find (λ x. kept x && test x) xs →
        find test (cond b (x ∷ filter kept xs) (filter kept xs)) ≡ cond (b && test x) (Some x)
        (find (λ x. kept x && test x) xs)
    by_test true h = ap (cond (test x) (Some x)) h
    by_test false h = h

module _ (p : Plan) (w : PointState) (t : ℕ) (l : Timeline) (is : IsTimelineOf p w t l) where
  -- The least pending operation

  pub pending_at : (e : ℕ) → l.completed < l.bound → slice_get (chain p t) l.completed ≡ Some e →
      find (is_pending w) (chain p t) ≡ Some e
  pending_at e less here =
      find_at (is_pending w) (chain p t) l.completed e here
      (and_from (w.bound e) (not (w.past e)) (is.bound.before l.completed e here less)
      (ap not (is.completed.after l.completed e here (omega arith))))
      (λ j y a m. and_right (w.bound y) (not (w.past y)) (ap not (is.completed.before j y a m)))

  pub none_pending : l.bound ≤ l.completed → find (is_pending w) (chain p t) ≡ None
  none_pending most = find_none (is_pending w) (chain p t) each
    where
      each : (j y : ℕ) → slice_get (chain p t) j ≡ Some y → is_pending w y ≡ false
      each j y a = elim (cases_lt j l.completed) [
        | inl m ↦ and_right (w.bound y) (not (w.past y)) (ap not (is.completed.before j y a m))
        | inr m ↦ ap (λ b. b && not (w.past y)) (is.bound.after j y a (omega arith))
      ]

  -- The least operation before another one that isn't bound

  module _ (f : Facts p) (i e : ℕ) (of : chain_of p e ≡ Some t) (here : slice_get (chain p t) i ≡ Some e) where
    by_chain : {o : Option ℕ} → find (λ x. not (w.bound x)) (smaller_ops p t e) ≡ o → unbound_before p w e ≡ o
    by_chain h = ap (λ c. option_map_or (λ t. find (λ x. not (w.bound x)) (smaller_ops p t e)) c None) of ∙ h

    pub unbound_at : (x : ℕ) → l.bound < i → slice_get (chain p t) l.bound ≡ Some x → unbound_before p w e ≡ Some x
    unbound_at x less at =
        by_chain
        (find-filter (λ y. not (w.bound y)) (λ y. nat_lt (value p y) (value p e)) (chain p t)
        ∙ find_at (λ y. nat_lt (value p y) (value p e) && not (w.bound y)) (chain p t) l.bound x at
        (and_from (nat_lt (value p x) (value p e)) (not (w.bound x))
        (lt-ltb (value p x) (value p e)
        (chain_places p (initial p t) (chain p t) (f.order.chains t) l.bound i x e at here less))
        (ap not (is.bound.after l.bound x at (omega arith))))
        (λ j y a m. and_right (nat_lt (value p y) (value p e)) (not (w.bound y)) (ap not (is.bound.before j y a m))))

    pub none_unbound : i ≤ l.bound → unbound_before p w e ≡ None
    none_unbound most =
        by_chain
        (find-filter (λ y. not (w.bound y)) (λ y. nat_lt (value p y) (value p e)) (chain p t)
        ∙ find_none (λ y. nat_lt (value p y) (value p e) && not (w.bound y)) (chain p t) each)
      where
        not_less : (j y : ℕ) → slice_get (chain p t) j ≡ Some y → i ≤ j → value p e ≤ value p y
        not_less j y a m = elim (cases_eq i j) [
          | inl s ↦
              let same : e ≡ y = let z = sym here ∙ (ap (slice_get (chain p t)) s ∙ a) in cc in
              let v = ap (value p) same in
              omega arith
          | inr d ↦
              let less = chain_places p (initial p t) (chain p t) (f.order.chains t) i j e y here a (grind arith) in
              omega arith
        ]

        each : (j y : ℕ) → slice_get (chain p t) j ≡ Some y →
            (nat_lt (value p y) (value p e) && not (w.bound y)) ≡ false
        each j y a = elim (cases_lt j i) [
          | inl m ↦ and_right (nat_lt (value p y) (value p e)) (not (w.bound y))
              (ap not (is.bound.before j y a (omega arith)))
          | inr m ↦ ap (λ b. b && not (w.bound y)) (le-ltb (value p y) (value p e) (not_less j y a m))
        ]
