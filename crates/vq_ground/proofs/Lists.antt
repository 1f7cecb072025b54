-- Facts on what stands in a list, by the test `has`.
use Rattle.std.proofs.Common.{◌≡◌, ℕ, false, List, [], ◌∷◌, Bool, true, ◌||◌, refl, eqb, ◌++◌, sym, ap, ◌∙◌, ◌⊎◌, inl, inr, subst, arith, ◌<◌, length, Option, Some, None, map, ◌≢◌}
use Rattle.vq_ground.specs.Lists.{has, AreRising}
use Rattle.std.proofs.lemmas.Bool.{eq-eqb, or_left, or_right, eqb-true, or_cases, or_from, false≢true, cases_Bool, and_parts, and_from, ne_eqb, eqb-false, or_parts, false_from_ne_true}
use Rattle.std.specs.List.{list_all, list_any}
use Rattle.std.specs.Option.{option_to_list}

-- the elements of a list are different
abbrev pub AreDistinct : List ℕ → Type 0
AreDistinct [] = Unit {0}
AreDistinct (x ∷ xs) = (has xs x ≡ false) × AreDistinct xs

-- two lists have the same elements
abbrev pub HaveSame : List ℕ → List ℕ → Type 0
HaveSame xs ys = (x : ℕ) → has xs x ≡ has ys x

pub or_assoc : (a b c : Bool) → ((a || b) || c) ≡ (a || (b || c))
or_assoc true b c = refl
or_assoc false b c = refl

pub has-append : (xs ys : List ℕ) (x : ℕ) → has (xs ++ ys) x ≡ (has xs x || has ys x)
has-append [] ys x = refl
has-append (y ∷ xs) ys x = ap (λ b. eqb y x || b) (has-append xs ys x) ∙ sym (or_assoc (eqb y x) (has xs x) (has ys x))

pub has_here : (x : ℕ) (xs : List ℕ) → has (x ∷ xs) x ≡ true
has_here x xs = or_left (eqb x x) (has xs x) (eq-eqb x x refl)

pub has_there : (y : ℕ) (xs : List ℕ) (x : ℕ) → has xs x ≡ true → has (y ∷ xs) x ≡ true
has_there y xs x h = or_right (eqb y x) (has xs x) h

pub has_cases : (y : ℕ) (xs : List ℕ) (x : ℕ) → has (y ∷ xs) x ≡ true → (y ≡ x) ⊎ (has xs x ≡ true)
has_cases y xs x h = elim (or_cases (eqb y x) (has xs x) h) [ inl e ↦ inl (eqb-true y x e) | inr e ↦ inr e ]

pub has-append_cases : (xs ys : List ℕ) (x : ℕ) → has (xs ++ ys) x ≡ true → (has xs x ≡ true) ⊎ (has ys x ≡ true)
has-append_cases xs ys x h = or_cases (has xs x) (has ys x) (sym (has-append xs ys x) ∙ h)

pub has-append_left : (xs ys : List ℕ) (x : ℕ) → has xs x ≡ true → has (xs ++ ys) x ≡ true
has-append_left xs ys x h = has-append xs ys x ∙ or_left (has xs x) (has ys x) h

pub has-append_right : (xs ys : List ℕ) (x : ℕ) → has ys x ≡ true → has (xs ++ ys) x ≡ true
has-append_right xs ys x h = has-append xs ys x ∙ or_right (has xs x) (has ys x) h

-- where an element stands
pub record Splits (xs : List ℕ) (x : ℕ) : Type 0 where
  pub front : List ℕ
  pub back : List ℕ
  pub whole : xs ≡ front ++ x ∷ back
  pub first : has front x ≡ false

pub split_at : (xs : List ℕ) (x : ℕ) → has xs x ≡ true → Splits xs x
split_at [] x h = absurd (false≢true h)
split_at (y ∷ xs) x h = by_test (cases_Bool (eqb y x)) (split_at xs x)
  where
    found : eqb y x ≡ true → Splits (y ∷ xs) x
    found e = record { front = []; back = xs; whole = ap (λ z. z ∷ xs) (eqb-true y x e); first = refl }

    deeper : eqb y x ≡ false → Splits xs x → Splits (y ∷ xs) x
    deeper e s = record { front = y ∷ s.front; back = s.back; whole = ap (λ zs. y ∷ zs) s.whole; first = or_from (eqb y x) (has s.front x) e s.first }

    by_test : ((eqb y x ≡ true) ⊎ (eqb y x ≡ false)) → (has xs x ≡ true → Splits xs x) → Splits (y ∷ xs) x
    by_test (inl e) f = found e
    by_test (inr e) f = deeper e (f (elim (or_cases (eqb y x) (has xs x) h) [ inl t ↦ absurd (false≢true (sym e ∙ t)) | inr t ↦ t ]))

-- a test that all pass is passed by each
pub list_all_has : (p : ℕ → Bool) (xs : List ℕ) (x : ℕ) → list_all p xs ≡ true → has xs x ≡ true → p x ≡ true
list_all_has p [] x h i = absurd (false≢true i)
list_all_has p (y ∷ xs) x h i =
    let parts = and_parts (p y) (list_all p xs) h in
    elim (has_cases y xs x i) [ inl e ↦ subst (λ z. p z ≡ true) e parts.0 | inr t ↦ list_all_has p xs x parts.1 t ]

-- all pass a test where each does
pub list_all_from : (p : ℕ → Bool) (xs : List ℕ) → ((x : ℕ) → has xs x ≡ true → p x ≡ true) → list_all p xs ≡ true
list_all_from p [] f = refl
list_all_from p (y ∷ xs) f = and_from (p y) (list_all p xs) (f y (has_here y xs)) (list_all_from p xs (λ x h. f x (has_there y xs x h)))

pub rising_distinct : (xs : List ℕ) → AreRising xs → AreDistinct xs
rising_distinct [] r = tt
rising_distinct (x ∷ xs) r = (absent (has xs x) refl, rising_distinct xs r.1)
  where
    absent : (b : Bool) → has xs x ≡ b → has xs x ≡ false
    absent true e = let l = r.0 x e in absurd (omega arith)
    absent false e = e

pub distinct_append : (xs ys : List ℕ) → AreDistinct xs → AreDistinct ys → ((x : ℕ) → has xs x ≡ true → has ys x ≡ false) → AreDistinct (xs ++ ys)
distinct_append [] ys dx dy f = dy
distinct_append (x ∷ xs) ys dx dy f =
    (has-append xs ys x ∙ or_from (has xs x) (has ys x) dx.0 (f x (has_here x xs)), distinct_append xs ys dx.1 dy (λ z h. f z (has_there x xs z h)))

pub distinct_front : (front back : List ℕ) (y : ℕ) → AreDistinct (front ++ back) → has back y ≡ true → has front y ≡ false
distinct_front [] back y d h = refl
distinct_front (x ∷ front) back y d h =
    or_from (eqb x y) (has front y) (ne_eqb x y (λ e. false≢true (sym d.0 ∙ subst (λ z. has (front ++ back) z ≡ true) (sym e) (has-append_right front back y h)))) (distinct_front front back y d.1 h)

-- one more element at the end
pub distinct_push : (xs : List ℕ) (c : ℕ) → AreDistinct xs → has xs c ≡ false → AreDistinct (xs ++ c ∷ [])
distinct_push [] c d n = (refl, tt)
distinct_push (x ∷ xs) c d n =
    let parts = or_parts (eqb x c) (has xs c) n in
    (has-append xs (c ∷ []) x ∙ or_from (has xs x) (eqb c x || false) d.0 (or_from (eqb c x) false (ne_eqb c x (λ e. eqb-false x c parts.0 (sym e))) refl), distinct_push xs c d.1 parts.1)

pub pushed : (xs : List ℕ) (c y : ℕ) → has (xs ++ c ∷ []) y ≡ true → (has xs y ≡ true) ⊎ (c ≡ y)
pushed xs c y h =
    elim (has-append_cases xs (c ∷ []) y h) [
      | inl m ↦ inl m
      | inr m ↦ elim (has_cases c [] y m) [ inl i ↦ inr i | inr i ↦ absurd (false≢true i) ]
    ]

pub any_has : (test : ℕ → Bool) (xs : List ℕ) (x : ℕ) → has xs x ≡ true → test x ≡ true → list_any test xs ≡ true
any_has test [] x h t = absurd (false≢true h)
any_has test (y ∷ xs) x h t = elim (has_cases y xs x h) [
  | inl is ↦ or_left (test y) (list_any test xs) (ap test is ∙ t)
  | inr m ↦ or_right (test y) (list_any test xs) (any_has test xs x m t)
]

pub in_option : (o : Option ℕ) (i : ℕ) → has (option_to_list o) i ≡ true → o ≡ Some i
in_option None i h = absurd (false≢true h)
in_option (Some x) i h = elim (has_cases x [] i h) [ inl e ↦ ap Some e | inr m ↦ absurd (false≢true m) ]

-- a list of something isn't empty
pub has_some : (xs : List ℕ) (x : ℕ) → has xs x ≡ true → 0 < length xs
has_some [] x h = absurd (false≢true h)
has_some (y ∷ xs) x h = omega arith

-- a test that some pass is passed by one
pub any_at : (f : ℕ → Bool) (xs : List ℕ) → list_any f xs ≡ true → (x : ℕ) × (has xs x ≡ true) × (f x ≡ true)
any_at f [] h = absurd (false≢true h)
any_at f (x ∷ xs) h = elim (or_cases (f x) (list_any f xs) h) [
  | inl t ↦ (x, has_here x xs, t)
  | inr t ↦ let r = any_at f xs t in (r.0, has_there x xs r.0 r.1, r.2)
]

-- a weaker test is passed by all, too
pub all_weaker : {A : Type 0} (f g : A → Bool) (xs : List A) → ((x : A) → f x ≡ true → g x ≡ true) →
    list_all f xs ≡ true → list_all g xs ≡ true
all_weaker f g [] up h = h
all_weaker f g (x ∷ xs) up h =
    let q = and_parts (f x) (list_all f xs) h in
    and_from (g x) (list_all g xs) (up x q.0) (all_weaker f g xs up q.1)

pub any_map : {A : Type 0} (test : List ℕ → Bool) (name : A → List ℕ) (xs : List A) →
    list_any test (map name xs) ≡ list_any (λ x. test (name x)) xs
any_map test name [] = refl
any_map test name (x ∷ xs) = ap (λ (b : Bool). test (name x) || b) (any_map test name xs)

-- what isn't c and isn't in the list isn't in the list with c
pub not_pushed : (log : List ℕ) (c y : ℕ) → has log y ≡ false → c ≢ y → has (log ++ c ∷ []) y ≡ false
not_pushed log c y absent ne = false_from_ne_true (has (log ++ c ∷ []) y) (λ h. elim (pushed log c y h) [ inl m ↦ false≢true (sym absent ∙ m) | inr e ↦ ne e ])

-- the only element
pub only_one : (x y : ℕ) → has (x ∷ []) y ≡ true → x ≡ y
only_one x y h = elim (has_cases x [] y h) [ inl e ↦ e | inr e ↦ absurd (false≢true e) ]
