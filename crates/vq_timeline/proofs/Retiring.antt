-- Trying to retire points one after another.
use Rattle.std.proofs.Common.{◌≡◌, ℕ, zero, suc, ◌<◌, ◌≤◌, List, [], ◌∷◌, ◌++◌, length, take, drop}
use Rattle.std.proofs.Common.{get_or, refl, ap, ◌∙◌, arith, inl, inr}
use Rattle.vq_board_laws.specs.declared.view.View.{View}
use Rattle.vq_board.specs.declared.parts.Board.{Board}
use Rattle.vq_board.specs.declared.parts.Pass.{Pass}
use Rattle.vq_board.specs.Answers.{IsInUse}
use Rattle.vq_board.specs.Named.{view, IsOf, Turns}
use Rattle.vq_timeline_laws.specs.Waiting.{FindsInUse, FindsAllInUse}
use Rattle.vq_timeline_laws.proofs.Cited.{all_looked, found_more}

-- the pass found these points in use, and made no other step
pub record Tried (x y : Pass) (qs : List ℕ) : Type 0 where
  pub in_use : FindsAllInUse qs (view x) (view y)
  pub same : Turns x y (view y)

pub tried_none : (x : Pass) → Tried x x []
tried_none x = record { in_use = refl; same = (refl, refl, refl, refl) }

pub found_in_use : (x y : Pass) (q found : ℕ) → IsInUse x y q found → FindsInUse (view x) (view y) q
found_in_use x y q found (inl (used, turns)) = inl (found, used, turns.2)
found_in_use x y q found (inr (n, changed, turns)) = inr (n, found, changed, turns.2)

turned : (x y : Pass) (q found : ℕ) → IsInUse x y q found → Turns x y (view y)
turned x y q found (inl (used, turns)) = (turns.0, turns.1, refl, turns.3)
turned x y q found (inr (n, changed, turns)) = (turns.0, turns.1, refl, turns.3)

pub tried_more : (x y z : Pass) (qs : List ℕ) (q found : ℕ) → Tried x y qs → IsInUse y z q found →
    Tried x z (qs ++ q ∷ [])
tried_more x y z qs q found tried used =
    let a = tried.same in
    let b = turned y z q found used in
    record {
      in_use = found_more qs q (view x) (view y) (view z) tried.in_use (found_in_use y z q found used);
      same = (b.0 ∙ a.0, b.1 ∙ a.1, refl, b.3 ∙ a.3);
    }

pub tried_of : (b : Board) (x y : Pass) (qs : List ℕ) → IsOf b x → Tried x y qs → IsOf b y
tried_of b x y qs of tried = (
  tried.same.0 ∙ of.0,
  ap (λ (v : View). v.plan) (all_looked qs (view x) (view y) tried.in_use) ∙ of.1,
)

-- Lists

pub split_at : (xs : List ℕ) (k : ℕ) → k < length xs → xs ≡ take k xs ++ get_or xs k 0 ∷ drop (suc k) xs
split_at [] k l = absurd (omega arith)
split_at (x ∷ xs) zero l = refl
split_at (x ∷ xs) (suc k) l = ap (λ (ys : List ℕ). x ∷ ys) (split_at xs k (omega arith))

pub take_whole : (xs : List ℕ) (n : ℕ) → length xs ≤ n → take n xs ≡ xs
take_whole [] zero l = refl
take_whole [] (suc n) l = refl
take_whole (x ∷ xs) zero l = absurd (omega arith)
take_whole (x ∷ xs) (suc n) l = ap (λ (ys : List ℕ). x ∷ ys) (take_whole xs n (omega arith))
