-- Looks at the points of operations, one after another.
use Rattle.std.proofs.Common.{◌≡◌, ◌<◌, ◌+◌, ◌⊎◌, ◌==◌, ℕ, Bool, true, false, List, [], ◌∷◌, ◌++◌, Some, length, refl, sym, ap, ◌∙◌, subst, arith, inl, inr, eq-eqb, if◌then◌else◌, zero, suc}
use Rattle.std.specs.List.{slice_get, list_all}
use Rattle.std.proofs.lemmas.Option.{same_Some}
use Rattle.vq_board_laws.proofs.Cited.{learns_on, learns_look}
use native.Mathlib.Decide.{dec_le}
use Rattle.std.proofs.lemmas.Bool.{or_left, and_from}
use Rattle.vq_point_laws.specs.PointWord.{parts}
use Rattle.vq_board_laws.specs.declared.view.Fact.{Fact}
use Rattle.vq_board_laws.specs.declared.view.Fact.TheVariants.{Taken, Made}
use Rattle.vq_board_laws.specs.declared.view.View.{View}
use Rattle.vq_board_laws.specs.PointSteps.{sees, moved_on}
use Rattle.vq_board_laws.specs.Words.{Carries}
use Rattle.vq_board_laws.specs.Learning.{Learns}
use Rattle.vq_access_laws.specs.Tests.{knows_taken}
use Rattle.vq_access_laws.proofs.Cited.{taken_more}
use Rattle.vq_access.specs.Taken.{AreTaken}

abbrev facts : Bool → Bool → ℕ → List Fact
facts b s e = if b then (if s then Made e ∷ Taken e ∷ [] else Taken e ∷ []) else []

-- the word of a point shows the operation taken that it carries
pub carried_taken : (v : View) (q n e : ℕ) → Carries n e → knows_taken (sees v q n).known e ≡ true
carried_taken v q n e c =
    subst (λ (b : Bool). knows_taken (facts b (parts n).signaled (parts n).op ++ moved_on q n v.known ++ v.known) e
    ≡ true) (sym c.held)
    (subst (λ (f : ℕ). knows_taken (facts true (parts n).signaled f ++ moved_on q n v.known ++ v.known) e ≡ true)
    (sym c.op) (by_sync (parts n).signaled))
  where
    by_sync : (s : Bool) → knows_taken (facts true s e ++ moved_on q n v.known ++ v.known) e ≡ true
    by_sync true = or_left (e == e) (knows_taken (moved_on q n v.known ++ v.known) e) (eq-eqb e e refl)
    by_sync false = or_left (e == e) (knows_taken (moved_on q n v.known ++ v.known) e) (eq-eqb e e refl)

pub looked_on : (u v w : View) (q n : ℕ) → Learns u v → w ≡ sees v q n → Learns u w
looked_on u v w q n k e =
    subst (λ (z : View). Learns u z) (sym e) (learns_on u v (sees v q n) k (learns_look v q n))

-- one operation more is known taken
pub taken_on : (v w : View) (es : List ℕ) (k e q n : ℕ) → AreTaken v es k → slice_get es k ≡ Some e → Carries n e →
    w ≡ sees v q n → AreTaken w es (k + 1)
taken_on v w es k e q n before at c same i f low is =
    subst (λ (z : View). knows_taken z.known f ≡ true) (sym same) (by_place (below_or_at i k low))
  where
    below_or_at : (i k : ℕ) → i < k + 1 → (i < k) ⊎ (i ≡ k)
    below_or_at i k l = elim (dec_le k i) [ yes above ↦ inr (omega arith) | no below ↦ inl (omega arith) ]

    by_place : (i < k) ⊎ (i ≡ k) → knows_taken (sees v q n).known f ≡ true
    by_place (inl l) =
        let front = learns_look v q n in
        subst (λ (fs : List Fact). knows_taken fs f ≡ true) (sym front.known.1)
        (taken_more front.known.0 v.known f (before i f l is))
    by_place (inr here) =
        let one : e ≡ f = same_Some e f (sym at ∙ (ap (slice_get es) (sym here) ∙ is)) in
        subst (λ (g : ℕ). knows_taken (sees v q n).known g ≡ true) one (carried_taken v q n e c)

-- all of them
pub all_taken : (v : View) (es : List ℕ) → AreTaken v es (length es) → list_all (knows_taken v.known) es ≡ true
all_taken v es h = from_all es (λ k e at. h k e (within es k e at) at)
  where
    within : (xs : List ℕ) (k e : ℕ) → slice_get xs k ≡ Some e → k < length xs
    within [] k e at = absurd (let z = at in cc)
    within (x ∷ xs) zero e at = omega arith
    within (x ∷ xs) (suc k) e at = let low = within xs k e at in omega arith

    from_all : (xs : List ℕ) → ((k e : ℕ) → slice_get xs k ≡ Some e → knows_taken v.known e ≡ true) →
        list_all (knows_taken v.known) xs ≡ true
    from_all [] h = refl
    from_all (x ∷ xs) h =
        and_from (knows_taken v.known x) (list_all (knows_taken v.known) xs) (h 0 x refl)
        (from_all xs (λ k e at. h (suc k) e at))
