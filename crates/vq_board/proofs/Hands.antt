-- What a pass has in hand.
use Rattle.std.proofs.Common.{◌≡◌, ℕ, ◌≤◌, List, [], ◌∷◌, length, map, subst, Option, Some, sym, ap, ◌∙◌}
use Rattle.atomic_table.specs.Table.{rest}
use Rattle.vq_model.specs.Memory.{Memory}
use Rattle.vq_model.specs.Plan.{Plan}
use Rattle.vq_board_laws.specs.declared.view.LoggedBuffers.{LoggedBuffers}
use Rattle.vq_board.specs.Hands.{Hand}

some_hand : (n : ℕ) (bytes : Memory) (p : Plan) (ts : List (ℕ × LoggedBuffers)) → Hand (Some n) bytes p ts
    → (x : LoggedBuffers) × (ts ≡ (0, x) ∷ []) × (x.filled ≡ n) × (x.buffers ≡ bytes) × (x.filled ≤ length p.commands) × (map length x.buffers ≡ p.sizes)
some_hand n bytes p [] h = absurd h
some_hand n bytes p (t ∷ []) h = (t.1, (λ i. (h.0 i, t.1) ∷ []), h.1, h.2, h.3, h.4)
some_hand n bytes p (t ∷ u ∷ ts) h = absurd h

pub holds_memory : (o : Option ℕ) (n : ℕ) (bytes : Memory) (p : Plan) (ts : List (ℕ × LoggedBuffers)) → o ≡ Some n → Hand o bytes p ts
    → (x : LoggedBuffers) × (ts ≡ (0, x) ∷ []) × (x.filled ≡ n) × (x.buffers ≡ bytes) × (x.filled ≤ length p.commands) × (map length x.buffers ≡ p.sizes)
holds_memory o n bytes p ts is h = some_hand n bytes p ts (subst (λ (z : Option ℕ). Hand z bytes p ts) is h)

abbrev in_hand : LoggedBuffers → List (ℕ × LoggedBuffers) → LoggedBuffers
in_hand other [] = other
in_hand other (t ∷ ts) = t.1

-- what lies in the one hand is one thing
pub hand_is : (x y : LoggedBuffers) (ts : List (ℕ × LoggedBuffers)) → ts ≡ (0, x) ∷ [] → ts ≡ (0, y) ∷ rest ts → (x ≡ y) × (rest ts ≡ [])
hand_is x y ts e f = (ap (in_hand x) (sym e ∙ f), ap rest e)
