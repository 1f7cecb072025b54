-- What a pass has in hand: the buffers, as its view says, while it has the turn. This project's own.
use Rattle.std.specs.Prelude.{ℕ, List, [], ◌∷◌, ◌≡◌, ◌≤◌, Option, Some, None, length, map}
use base.Stored.{Coded-set, coded_list, coded_ℕ}
use native.Mathlib.Nat.{ℕ_set}
use native.Mathlib.Bridge.{le_prop}
use Rattle.atomic_table.specs.Table.{Me}
use Rattle.vq_model.specs.Memory.{Memory}
use Rattle.vq_model.specs.Plan.{Plan}
use Rattle.vq_board_laws.specs.declared.view.View.{View}
use Rattle.vq_board_laws.specs.declared.view.LoggedBuffers.{LoggedBuffers}

-- nothing without the turn; with it the buffers, of the plan's sizes, and room in the log for all
-- that is in it
abbrev pub Hand : Option ℕ → Memory → Plan → List (ℕ × LoggedBuffers) → Type 0
Hand None bytes p [] = Unit {0}
Hand None bytes p (t ∷ ts) = ⊥
Hand (Some n) bytes p [] = ⊥
Hand (Some n) bytes p (t ∷ []) =
    (t.0 ≡ 0) × (t.1.filled ≡ n) × (t.1.buffers ≡ bytes) × (t.1.filled ≤ length p.commands)
    × (map length t.1.buffers ≡ p.sizes)
Hand (Some n) bytes p (t ∷ u ∷ ts) = ⊥

numbers_set : IsSet (List ℕ)
numbers_set = Coded-set (coded_list coded_ℕ)

bytes_set : IsSet (List (List ℕ))
bytes_set = Coded-set (coded_list (coded_list coded_ℕ))

-- any two proofs of it are equal
pub Hand-prop : (o : Option ℕ) (bytes : Memory) (p : Plan) (ts : List (ℕ × LoggedBuffers)) →
    IsProp (Hand o bytes p ts)
Hand-prop None bytes p [] = Prim.hlevel
Hand-prop None bytes p (t ∷ ts) = Prim.hlevel
Hand-prop (Some n) bytes p [] = Prim.hlevel
Hand-prop (Some n) bytes p (t ∷ []) = Prim.hlevel (ℕ_set, numbers_set, bytes_set, le_prop)
Hand-prop (Some n) bytes p (t ∷ u ∷ ts) = Prim.hlevel

abbrev pub InHand : Me LoggedBuffers View → Type 0
InHand m = Hand m.0.held m.0.bytes m.0.plan m.1
