-- A value is known by numbers that no other value of its type has.
use Rattle.std.proofs.Common.{◌≡◌, ℕ, List, [], ◌∷◌, ◌++◌, refl, sym, ap, ◌∙◌}
use base.Stored.{Gv, gnil, gnum, gcons}
use Rattle.vq_access.specs.Seatings.{Seating}
use Rattle.atomic_table.specs.Seated.{TableId}
use Rattle.vq_model.specs.declared.script.ActorName.{ActorName}
use Rattle.vq_model.specs.contracts.script.ActorName as actor_row
use Rattle.vq_access_laws.specs.AccessMeanings.{names_of}
use Rattle.vq_access_laws.proofs.Cited.{names_same}
use Rattle.vq_access.specs.Pinned.{actor_code, numbers_of, pins, seats_code}
use Rattle.vq_access.specs.contracts.seats.Seats as seats_row

append_assoc : (xs ys zs : List ℕ) → (xs ++ ys) ++ zs ≡ xs ++ (ys ++ zs)
append_assoc [] ys zs = refl
append_assoc (x ∷ xs) ys zs = ap (λ (us : List ℕ). x ∷ us) (append_assoc xs ys zs)

first_same : (x y : ℕ) (xs ys : List ℕ) → x ∷ xs ≡ y ∷ ys → (x ≡ y) × (xs ≡ ys)
first_same x y xs ys e = (cc, cc)

-- numbers with others behind them are those of one value
pub numbers_same : (g h : Gv) (xs ys : List ℕ) → numbers_of g ++ xs ≡ numbers_of h ++ ys → (g ≡ h) × (xs ≡ ys)
numbers_same gnil gnil xs ys e = (refl, (first_same 0 0 xs ys e).1)
numbers_same gnil (gnum n) xs ys e = absurd (cc)
numbers_same gnil (gcons c d) xs ys e = absurd (cc)
numbers_same (gnum m) gnil xs ys e = absurd (cc)
numbers_same (gnum m) (gnum n) xs ys e =
    let tail = first_same 1 1 (m ∷ xs) (n ∷ ys) e in
    let two = first_same m n xs ys tail.1 in
    (ap gnum two.0, two.1)
numbers_same (gnum m) (gcons c d) xs ys e = absurd (cc)
numbers_same (gcons a b) gnil xs ys e = absurd (cc)
numbers_same (gcons a b) (gnum n) xs ys e = absurd (cc)
numbers_same (gcons a b) (gcons c d) xs ys e =
    let tail = (first_same 2 2 ((numbers_of a ++ numbers_of b) ++ xs) ((numbers_of c ++ numbers_of d) ++ ys) e).1 in
    let one = numbers_same a c (numbers_of b ++ xs) (numbers_of d ++ ys)
    (sym (append_assoc (numbers_of a) (numbers_of b) xs)
    ∙ (tail ∙ append_assoc (numbers_of c) (numbers_of d) ys)) in
    let two = numbers_same b d xs ys one.1 in
    (λ k. gcons (one.0 k) (two.0 k), two.1)

pub pins_same : (a b : ActorName) (s t : Seating) (y z : TableId) → pins a s y ≡ pins b t z →
    (a ≡ b) × (s ≡ t) × (y ≡ z)
pins_same a b s t y z e =
    let one = numbers_same (actor_code a) (actor_code b) (numbers_of (seats_code s) ++ names_of y)
    (numbers_of (seats_code t) ++ names_of z) e in
    let two = numbers_same (seats_code s) (seats_code t) (names_of y) (names_of z) one.1 in
    (actor_row.the_row.coded.inj a b one.0, seats_row.the_row.coded.inj s t two.0, names_same y z two.1)
