-- What lines say with one line more.
use Rattle.std.proofs.Common.{◌≡◌, ℕ, ◌+◌, ◌-◌, ◌≤◌, Bool, true, false, not, cond, ◌||◌, List, [], ◌∷◌, ◌++◌, length, reverse, drop, take, Option, Some, None, arith, refl, ap, ◌∙◌, suc, nat_lt}
use Rattle.std.specs.List.{after_last, before_first, prefix_len, filter_map}
use Rattle.std.proofs.lemmas.List.{reverse-append, drop-append-le, drop_all, length-append, length-reverse, append-nil}
use Rattle.std.proofs.lemmas.List.Sums.{fold-append, prefix_len-le-length}
use Rattle.std.proofs.lemmas.List.Folds.{list_any-append}
use Rattle.std.proofs.lemmas.List.Elements.{filter_map-append}
use Rattle.std.proofs.lemmas.Bool.Decides.{nat_tests}
use Rattle.vq_model.specs.declared.statement.Line.{Line}
use Rattle.vq_model.specs.declared.statement.Statement.{Statement}
use Rattle.vq_model.specs.Context.{count, some, version_of}
use Rattle.vq_ground.proofs.Bools.{or_false}

abbrev pub numbered : ℕ → Statement → Line
numbered n s = record { number = n; statement = s }

-- what stands after the last element that passes, with one more: nothing where it passes
pub after_last_cut : {X : Type 0} (p : X → Bool) (xs : List X) (x : X) → p x ≡ true →
    after_last p (xs ++ x ∷ []) ≡ []
after_last_cut {X} p xs x h =
    let none : prefix_len (λ z. not (p z)) (reverse (xs ++ x ∷ [])) ≡ 0 =
    rw (reverse-append xs (x ∷ []), h) refl in
    drop_all _ (xs ++ x ∷ []) (omega arith)

-- .. and it as well where it doesn't
pub after_last_more : {X : Type 0} (p : X → Bool) (xs : List X) (x : X) → p x ≡ false →
    after_last p (xs ++ x ∷ []) ≡ after_last p xs ++ x ∷ []
after_last_more {X} p xs x h =
    let one : prefix_len (λ z. not (p z)) (reverse (xs ++ x ∷ []))
    ≡ 1 + prefix_len (λ z. not (p z)) (reverse xs) = rw (reverse-append xs (x ∷ []), h) refl in
    let long = length-append xs (x ∷ []) in
    let few = prefix_len-le-length (λ z. not (p z)) (reverse xs) in
    let same = length-reverse xs in
    let place : length (xs ++ x ∷ []) - prefix_len (λ z. not (p z)) (reverse (xs ++ x ∷ []))
    ≡ length xs - prefix_len (λ z. not (p z)) (reverse xs) = omega arith in
    ap (λ (n : ℕ). drop n (xs ++ x ∷ [])) place ∙ drop-append-le _ xs (x ∷ []) (omega arith)

-- what stands before the first element that passes goes on past one that doesn't
pub before_first_more : {X : Type 0} (p : X → Bool) (x : X) (xs : List X) → p x ≡ false →
    before_first p (x ∷ xs) ≡ x ∷ before_first p xs
before_first_more {X} p x xs h =
    let next : prefix_len (λ z. not (p z)) (x ∷ xs) ≡ suc (prefix_len (λ z. not (p z)) xs) =
    rw h (omega arith) in
    ap (λ (n : ℕ). take n (x ∷ xs)) next

-- a count, with one line more
pub count_more : (test : Statement → Bool) (lines : List Line) (l : Line) →
    count test (lines ++ l ∷ []) ≡ count test lines + cond (test l.statement) 1 0
count_more test lines l =
    fold-append (λ a (x : Line). a + cond (test x.statement) 1 0) 0 lines (l ∷ [])

-- whether some line passes, with one line more
pub some_more : (test : Statement → Bool) (lines : List Line) (l : Line) →
    some test (lines ++ l ∷ []) ≡ (some test lines || test l.statement)
some_more test lines l =
    list_any-append (λ (x : Line). test x.statement) lines (l ∷ [])
    ∙ ap (λ b. some test lines || b) (or_false (test l.statement))

-- a line more that names no version leaves it
pub version_more : (lines : List Line) (l : Line) (v : ℕ) → version_of lines ≡ v →
    version_of (l ∷ []) ≡ 1 → version_of (lines ++ l ∷ []) ≡ v
version_more [] l v h i = i ∙ h
version_more (x ∷ lines) l v h i = h

-- what lines give, where one line more gives nothing, or one thing
pub given_none : {X : Type 0} (gives : Line → Option X) (lines : List Line) (l : Line) (xs : List X) →
    gives l ≡ None → filter_map gives lines ≡ xs → filter_map gives (lines ++ l ∷ []) ≡ xs
given_none gives lines l xs none h =
    filter_map-append gives lines (l ∷ []) ∙ rw none (append-nil (filter_map gives lines)) ∙ h

pub given_one : {X : Type 0} (gives : Line → Option X) (lines : List Line) (l : Line) (xs : List X)
    (x : X) → gives l ≡ Some x → filter_map gives lines ≡ xs →
    filter_map gives (lines ++ l ∷ []) ≡ xs ++ x ∷ []
given_one {X} gives lines l xs x one h =
    filter_map-append gives lines (l ∷ []) ∙ rw one (ap (λ (ys : List X). ys ++ x ∷ []) h)

-- a part of a batch that is no earlier than the last one is the last one
pub later_part : (n old new : ℕ) → old ≤ new → nat_lt n new ≡ (nat_lt n old || nat_lt n new)
later_part n old new h = by_tests (nat_lt n old) (nat_lt n new) refl refl
  where
    by_tests : (a b : Bool) → nat_lt n old ≡ a → nat_lt n new ≡ b → b ≡ (a || b)
    by_tests true true e f = refl
    by_tests false b e f = refl
    by_tests true false e f = absurd (grind (arith, nat_tests))
