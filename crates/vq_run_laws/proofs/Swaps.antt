-- Two orders of the same actions leave the same, where each pair that doesn't commute stands in one order in both.
use Rattle.std.proofs.Common.{◌≡◌, ℕ, true, List, [], ◌∷◌, ◌++◌, inl, inr, subst, false, eqb, refl, sym, ◌∙◌, ◌||◌, ap, ◌⊎◌, Bool}
use Rattle.vq_ground.specs.Lists.{has}
use Rattle.std.proofs.lemmas.Bool.{false≢true, eq-eqb, ne_eqb, or_parts, or_from, cases_eq, cases_Bool}
use Rattle.vq_ground.proofs.Lists.{has_here, has_there, has_cases, has-append_cases, has-append_right, has-append_left, AreDistinct, has-append, HaveSame, split_at}

-- No element comes, by R, before one that stands in front of it.
abbrev pub Extends : (ℕ → ℕ → Type 0) → List ℕ → Type 0
Extends R [] = Unit {0}
Extends R (x ∷ xs) = ((y : ℕ) → has xs y ≡ true → ¬ R y x) × Extends R xs

pub extends_push : (R : ℕ → ℕ → Type 0) (xs : List ℕ) (c : ℕ) → Extends R xs → ((x : ℕ) → has xs x ≡ true → ¬ R c x) → Extends R (xs ++ c ∷ [])
extends_push R [] c e f = (λ y h. absurd (false≢true h), tt)
extends_push R (x ∷ xs) c e f = (
  (λ y h. elim (has-append_cases xs (c ∷ []) y h) [
    | inl m ↦ e.0 y m
    | inr m ↦ elim (has_cases c [] y m) [ inl i ↦ subst (λ z. ¬ R z x) i (f x (has_here x xs)) | inr i ↦ absurd (false≢true i) ]
  ]),
  extends_push R xs c e.1 (λ z m. f z (has_there x xs z m)),
)

-- in a list that extends R, what stands in front of x doesn't come after it
Extends-front : (R : ℕ → ℕ → Type 0) (front back : List ℕ) (x y : ℕ) → Extends R (front ++ x ∷ back) → has front y ≡ true → ¬ R x y
Extends-front R [] back x y e h = absurd (false≢true h)
Extends-front R (z ∷ front) back x y e h =
    elim (has_cases z front y h) [
      | inl i ↦ subst (λ w. ¬ R x w) i (e.0 x (has-append_right front (x ∷ back) x (has_here x back)))
      | inr i ↦ Extends-front R front back x y e.1 i
    ]

-- such a list without one of its elements
Extends-without : (R : ℕ → ℕ → Type 0) (front back : List ℕ) (x : ℕ) → Extends R (front ++ x ∷ back) → Extends R (front ++ back)
Extends-without R [] back x e = e.1
Extends-without R (z ∷ front) back x e = (
  (λ y h. e.0 y (elim (has-append_cases front back y h) [
    | inl i ↦ has-append_left front (x ∷ back) y i
    | inr i ↦ has-append_right front (x ∷ back) y (has_there x back y i)
  ])),
  Extends-without R front back x e.1,
)

distinct_tail : (front back : List ℕ) (x : ℕ) → AreDistinct (front ++ x ∷ back) → (has front x ≡ false) × (has back x ≡ false) × AreDistinct (front ++ back)
distinct_tail [] back x d = (refl, d.0, d.1)
distinct_tail (z ∷ front) back x d =
    let rest = distinct_tail front back x d.1 in
    let apart = or_parts (has front z) (has (x ∷ back) z) (sym (has-append front (x ∷ back) z) ∙ d.0) in
    let beside = or_parts (eqb x z) (has back z) apart.1 in
    (or_from (eqb z x) (has front x) (flip beside.0) rest.0, rest.1, (has-append front back z ∙ or_from (has front z) (has back z) apart.0 beside.1, rest.2))
  where
    flip : eqb x z ≡ false → eqb z x ≡ false
    flip e = ne_eqb z x (λ i. false≢true (sym e ∙ eq-eqb x z (sym i)))

-- two lists with the same elements, without one element that each has once
same_without : (xs front back : List ℕ) (x : ℕ) → HaveSame (x ∷ xs) (front ++ x ∷ back) → has xs x ≡ false → has front x ≡ false → has back x ≡ false → HaveSame xs (front ++ back)
same_without xs front back x same a b c z = by_case (cases_eq x z)
  where
    by_case : ((x ≡ z) ⊎ (x ≡ z → ⊥)) → has xs z ≡ has (front ++ back) z
    by_case (inl e) =
        subst (λ w. has xs w ≡ has (front ++ back) w) e (a ∙ sym (has-append front back x ∙ or_from (has front x) (has back x) b c))
    by_case (inr n) =
        let e = ne_eqb x z n in
        let left : has (x ∷ xs) z ≡ has xs z = ap (λ t. t || has xs z) e in
        let right : has (front ++ x ∷ back) z ≡ has (front ++ back) z = has-append front (x ∷ back) z ∙ ap (λ t. has front z || (t || has back z)) e ∙ sym (has-append front back z) in
        sym left ∙ (same z ∙ right)

-- what a list of actions leaves
abbrev pub acts : {M : Type 0} → (ℕ → M → M) → List ℕ → M → M
acts act [] m = m
acts act (c ∷ cs) m = acts act cs (act c m)

module _ (M : Type 0) (act : ℕ → M → M) (Good : M → Type 0) (R : ℕ → ℕ → Type 0) (clash : ℕ → ℕ → Bool) (known : ℕ → Type 0)
    (keeps : (c : ℕ) (m : M) → known c → Good m → Good (act c m))
    (commutes : (c d : ℕ) (m : M) → known c → known d → clash c d ≡ false → Good m → act c (act d m) ≡ act d (act c m))
    (compares : (c d : ℕ) → known c → known d → (c ≡ d → ⊥) → clash c d ≡ true → R c d ⊎ R d c) where
  -- an action that clashes with nothing in front of it may come first
  comes_first : (front back : List ℕ) (x : ℕ) (m : M) → known x → ((y : ℕ) → has front y ≡ true → known y × (clash x y ≡ false)) → Good m → acts act (front ++ x ∷ back) m ≡ acts act (front ++ back) (act x m)
  comes_first [] back x m k f g = refl
  comes_first (y ∷ front) back x m k f g =
      let here = f y (has_here y front) in
      comes_first front back x (act y m) k (λ z h. f z (has_there y front z h)) (keeps y m here.0 g)
      ∙ ap (acts act (front ++ back)) (commutes x y m k here.0 here.1 g)

  -- what stands in front of the first element of the other list doesn't clash with it
  no_clash : (xs front back : List ℕ) (x y : ℕ) → HaveSame (x ∷ xs) (front ++ x ∷ back) → has front x ≡ false → ((z : ℕ) → has (x ∷ xs) z ≡ true → known z) → Extends R (x ∷ xs) → Extends R (front ++ x ∷ back) → has front y ≡ true → known y × (clash x y ≡ false)
  no_clash xs front back x y same out k ex ey h =
      let member : has (x ∷ xs) y ≡ true = same y ∙ has-append_left front (x ∷ back) y h in
      let apart : x ≡ y → ⊥ = λ e. false≢true (sym out ∙ subst (λ z. has front z ≡ true) (sym e) h) in
      let behind : has xs y ≡ true = elim (has_cases x xs y member) [ inl e ↦ absurd (apart e) | inr t ↦ t ] in (
        k y member,
        elim (cases_Bool (clash x y)) [
          | inl t ↦ absurd (elim (compares x y (k x (has_here x xs)) (k y member) apart t) [
            | inl r ↦ Extends-front R front back x y ey h r
            | inr r ↦ ex.0 y behind r
          ])
          | inr f ↦ f
        ],
      )

  -- Both lists leave the same.
  pub same_result : (xs ys : List ℕ) (m : M) → AreDistinct xs → AreDistinct ys → HaveSame xs ys → ((x : ℕ) → has xs x ≡ true → known x) → Extends R xs → Extends R ys → Good m → acts act xs m ≡ acts act ys m
  same_result [] [] m dx dy same k ex ey g = refl
  same_result [] (y ∷ ys) m dx dy same k ex ey g = absurd (false≢true (same y ∙ has_here y ys))
  same_result (x ∷ xs) ys m dx dy same k ex ey g =
      let s = split_at ys x (sym (same x) ∙ has_here x xs) in
      let dy' = subst AreDistinct s.whole dy in
      let ey' = subst (Extends R) s.whole ey in
      let apart = distinct_tail s.front s.back x dy' in
      let same' = same_without xs s.front s.back x (λ z. same z ∙ ap (λ zs. has zs z) s.whole) dx.0 apart.0 apart.1 in
      let here = k x (has_here x xs) in
      sym (ap (λ zs. acts act zs m) s.whole
      ∙ (comes_first s.front s.back x m here (λ y h. no_clash xs s.front s.back x y (λ z. same z ∙ ap (λ zs. has zs z) s.whole) apart.0 k ex ey' h) g
      ∙ sym (same_result xs (s.front ++ s.back) (act x m) dx.1 apart.2 same' (λ z h. k z (has_there x xs z h)) ex.1 (Extends-without R s.front s.back x ey') (keeps x m here g))))
