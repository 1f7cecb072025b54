-- Takes of fresh points and of points that are used again.
use Rattle.std.proofs.Common.{◌≡◌, ℕ, Bool, true, false, not, eqb, List, [], ◌∷◌, filter, refl, sym, ap, ◌∙◌, inl, inr, subst, Some, ◌+◌, ◌≤◌, Option, None, arith}
use Rattle.std.proofs.lemmas.Bool.{eqb-false, false≢true, cond-true, cond-false, eqb-true, eq-eqb, or_left, or_right, cases_eq}
use Rattle.std.proofs.lemmas.Option.{same_Some}
use Rattle.vq_model.specs.Plan.{Plan, chain_of}
use Rattle.vq_ground.specs.Lists.{has}
use Rattle.vq_ground.proofs.Lists.{has_here, has_there, has_cases}
use Rattle.vq_model.specs.declared.plan.Event.{Event}
use Rattle.vq_point_laws.proofs.PointFacts.{Latest, none_some, Links}
use Rattle.vq_model.specs.declared.plan.Event.TheVariants.{Take}
use Rattle.vq_model.specs.Machine.{put}
use Rattle.vq_point_laws.specs.Points.{PointState, at_option, CanTake, after_event}
use Rattle.vq_point_laws.specs.HistoryLaws.{last_take, stands_free, is_on_chain, IsFreedLast, TakesInTurn}
use Rattle.vq_model.proofs.Puts.{put_here, put_there}
use Rattle.vq_ground.proofs.Gets.{first_is}
use Rattle.vq_point_laws.proofs.PointEvents.{after_take}

-- Takes

filter_has : (q : ℕ) (xs : List ℕ) (x : ℕ) → has (filter (λ r. not (eqb r q)) xs) x ≡ true → (has xs x ≡ true) × (x ≡ q → ⊥)
filter_has q [] x m = absurd (false≢true m)
filter_has q (y ∷ xs) x m = by_test (eqb y q) refl (filter_has q xs x)
  where
    by_test : (b : Bool) → eqb y q ≡ b → (has (filter (λ r. not (eqb r q)) xs) x ≡ true → (has xs x ≡ true) × (x ≡ q → ⊥)) → (has (y ∷ xs) x ≡ true) × (x ≡ q → ⊥)
    by_test true e f =
        let r = f (sym (ap (λ zs. has zs x) (cond-false (not (eqb y q)) (y ∷ filter (λ r. not (eqb r q)) xs) (filter (λ r. not (eqb r q)) xs) (ap not e))) ∙ m) in
        (has_there y xs x r.0, r.1)
    by_test false e f =
        elim (has_cases y (filter (λ r. not (eqb r q)) xs) x (sym (ap (λ zs. has zs x) (cond-true (not (eqb y q)) (y ∷ filter (λ r. not (eqb r q)) xs) (filter (λ r. not (eqb r q)) xs) (ap not e))) ∙ m)) [
          | inl i ↦ (subst (λ z. has (y ∷ xs) z ≡ true) i (has_here y xs), λ j. eqb-false y q e (i ∙ j))
          | inr i ↦ let r = f i in (has_there y xs x r.0, r.1)
        ]

filter_keeps : (q : ℕ) (xs : List ℕ) (x : ℕ) → has xs x ≡ true → (x ≡ q → ⊥) → has (filter (λ r. not (eqb r q)) xs) x ≡ true
filter_keeps q [] x m n = m
filter_keeps q (y ∷ xs) x m n = by_test (eqb y q) refl (filter_keeps q xs x)
  where
    by_test : (b : Bool) → eqb y q ≡ b → (has xs x ≡ true → (x ≡ q → ⊥) → has (filter (λ r. not (eqb r q)) xs) x ≡ true) → has (filter (λ r. not (eqb r q)) (y ∷ xs)) x ≡ true
    by_test true e f =
        ap (λ zs. has zs x) (cond-false (not (eqb y q)) (y ∷ filter (λ r. not (eqb r q)) xs) (filter (λ r. not (eqb r q)) xs) (ap not e))
        ∙ f (elim (has_cases y xs x m) [ inl i ↦ absurd (n (sym i ∙ eqb-true y q e)) | inr i ↦ i ]) n
    by_test false e f =
        ap (λ zs. has zs x) (cond-true (not (eqb y q)) (y ∷ filter (λ r. not (eqb r q)) xs) (filter (λ r. not (eqb r q)) xs) (ap not e))
        ∙ elim (has_cases y xs x m) [
          | inl i ↦ or_left (eqb y x) (has (filter (λ r. not (eqb r q)) xs) x) (eq-eqb y x i)
          | inr i ↦ or_right (eqb y x) (has (filter (λ r. not (eqb r q)) xs) x) (f i n)
        ]

latest_filter : (h : List Event) (q : ℕ) (xs : List ℕ) → Latest h xs → Latest h (filter (λ r. not (eqb r q)) xs)
latest_filter h q [] l = tt
latest_filter h q (y ∷ xs) l = by_test (eqb y q) refl (latest_filter h q xs l.2)
  where
    absent : (b : Bool) → has (filter (λ r. not (eqb r q)) xs) y ≡ b → has (filter (λ r. not (eqb r q)) xs) y ≡ false
    absent false e = e
    absent true e = absurd (false≢true (sym l.1 ∙ (filter_has q xs y e).0))

    by_test : (b : Bool) → eqb y q ≡ b → Latest h (filter (λ r. not (eqb r q)) xs) → Latest h (filter (λ r. not (eqb r q)) (y ∷ xs))
    by_test true e f = subst (Latest h) (sym (cond-false (not (eqb y q)) (y ∷ filter (λ r. not (eqb r q)) xs) (filter (λ r. not (eqb r q)) xs) (ap not e))) f
    by_test false e f =
        subst (Latest h) (sym (cond-true (not (eqb y q)) (y ∷ filter (λ r. not (eqb r q)) xs) (filter (λ r. not (eqb r q)) xs) (ap not e)))
        ((λ r m. l.0 r (filter_has q xs r m).0), absent (has (filter (λ r. not (eqb r q)) xs) y) refl, f)

module _ (p : Plan) (h : List Event) (w : PointState) (k : Links p h w) (e q : ℕ) where
  module _ (g : CanTake p w e q true) where
    at_end : w.points ≤ q
    at_end = let i = g.point.1 in omega arith

    pub fresh_law : TakesInTurn p h e q true
    fresh_law =
        record {
          given_up = λ f l. none_some (k.beyond q at_end).1 l;
          reused = λ f. absurd (false≢true (sym f));
          number = λ f. g.point.1 ∙ k.points;
          chain = g.chain;
          in_chain = g.in_chain;
          none_free = λ f r s o. false≢true (sym (ap (λ zs. has zs r) g.point.0) ∙ k.free_out g.chain r s o);
        }

    pub after_fresh : Links p (Take e q true ∷ h) (after_event p w (Take e q true))
    after_fresh =
        after_take p h w k e q true (k.beyond q at_end).0 g.without (ap (λ n. n + 1) k.points)
        (λ x l. let i = g.point.1 in (omega arith, λ j. absurd (omega arith)))
        (λ t x m. (m, λ j. none_some (k.beyond x (let i = g.point.1 in omega arith)).1 (k.free_in t x m).1.1))
        (λ t x m n. m) k.free_order

  module _ (g : CanTake p w e q false) where
    list_is : (rest : List ℕ) × (w.free g.chain ≡ q ∷ rest)
    list_is = first_is (w.free g.chain) q g.point

    is_free : has (w.free g.chain) q ≡ true
    is_free = ap (λ zs. has zs q) list_is.1 ∙ has_here q list_is.0

    known : (w.carried q ≡ None) × is_on_chain p g.chain q h × (stands_free q h ≡ true)
    known = k.free_in g.chain q is_free

    pub reused_law : TakesInTurn p h e q false
    reused_law =
        record {
          given_up = λ f l. known.2;
          chain = g.chain;
          in_chain = g.in_chain;
          reused = λ f. last g.chain refl;
          number = λ f. absurd (false≢true f);
          none_free = λ f. absurd (false≢true f);
        }
      where
        last : (t : ℕ) → t ≡ g.chain → IsFreedLast p t h q
        last t i =
            record {
              free = known.2;
              on_chain = subst (λ z. is_on_chain p z q h) (sym i) known.1;
              last = λ r n s o.
                  let m = subst (λ zs. has zs r ≡ true) list_is.1 (subst (λ z. has (w.free z) r ≡ true) i (k.free_out t r s o)) in
                  (subst (Latest h) list_is.1 (k.free_order g.chain)).0 r (elim (has_cases q list_is.0 r m) [ inl j ↦ absurd (n (sym j)) | inr j ↦ j ]);
            }

    abbrev shorter : Option ℕ → ℕ → List ℕ
    shorter o = at_option {A = ℕ → List ℕ} (λ t f. put f t (filter (λ r. not (eqb r q)) (f t))) o w.free

    elsewhere : (t x : ℕ) → (t ≡ g.chain → ⊥) → has (w.free t) x ≡ true → x ≡ q → ⊥
    elsewhere t x n m i =
        let here = known.1 in
        let there = (k.free_in t x m).1 in
        let same = same_Some there.0 here.0 (sym there.1 ∙ (ap (λ z. last_take z h) i ∙ here.1)) in
        n (same_Some t g.chain (sym there.2 ∙ (ap (chain_of p) same ∙ here.2)))

    kept_by : (t x : ℕ) → has (shorter (Some g.chain) t) x ≡ true → (has (w.free t) x ≡ true) × (x ≡ q → ⊥)
    kept_by t x m =
        elim (cases_eq t g.chain) [
          | inl i ↦
              let f = filter_has q (w.free g.chain) x (sym (ap (λ (zs : List ℕ). has zs x) (ap (shorter (Some g.chain)) i ∙ put_here w.free g.chain (filter (λ r. not (eqb r q)) (w.free g.chain)))) ∙ m) in
              (subst (λ z. has (w.free z) x ≡ true) (sym i) f.0, f.1)
          | inr n ↦
              let f = sym (ap (λ (zs : List ℕ). has zs x) (put_there w.free g.chain (filter (λ r. not (eqb r q)) (w.free g.chain)) t n)) ∙ m in
              (f, elsewhere t x n f)
        ]

    still_in : (t x : ℕ) → has (w.free t) x ≡ true → (x ≡ q → ⊥) → has (shorter (Some g.chain) t) x ≡ true
    still_in t x m n =
        elim (cases_eq t g.chain) [
          | inl i ↦
              ap (λ (zs : List ℕ). has zs x) (ap (shorter (Some g.chain)) i ∙ put_here w.free g.chain (filter (λ r. not (eqb r q)) (w.free g.chain)))
              ∙ filter_keeps q (w.free g.chain) x (subst (λ z. has (w.free z) x ≡ true) i m) n
          | inr j ↦ ap (λ (zs : List ℕ). has zs x) (put_there w.free g.chain (filter (λ r. not (eqb r q)) (w.free g.chain)) t j) ∙ m
        ]

    in_order : (t : ℕ) → Latest h (shorter (Some g.chain) t)
    in_order t =
        elim (cases_eq t g.chain) [
          | inl i ↦ subst (Latest h) (sym (ap (shorter (Some g.chain)) i ∙ put_here w.free g.chain (filter (λ r. not (eqb r q)) (w.free g.chain)))) (latest_filter h q (w.free g.chain) (k.free_order g.chain))
          | inr j ↦ subst (Latest h) (sym (put_there w.free g.chain (filter (λ r. not (eqb r q)) (w.free g.chain)) t j)) (k.free_order t)
        ]

    pub after_reused : Links p (Take e q false ∷ h) (after_event p w (Take e q false))
    after_reused =
        after_take p h w k e q false known.0 g.without k.points
        (λ x l. (l, λ j. none_some (k.beyond x l).1 (ap (λ z. last_take z h) j ∙ known.1.1)))
        (λ t x m. kept_by t x (subst (λ o. has (shorter o t) x ≡ true) g.in_chain m))
        (λ t x m n. subst (λ o. has (shorter o t) x ≡ true) (sym g.in_chain) (still_in t x m n))
        (λ t. subst (λ o. Latest h (shorter o t)) (sym g.in_chain) (in_order t))
