-- The words of a plan's signal operations and queues, spelled once for all lines. This project's own.
use Rattle.std.specs.Prelude.{ℕ, ◌≡◌, List, Some, length, true}
use Rattle.std.specs.List.{slice_get}
use Rattle.vq_model.specs.Naming.{queue_name}
use Rattle.vq_model.specs.Plan.{Plan}
use Rattle.vq_replay.specs.declared.pieces.Piece.{Piece}
use Rattle.vq_replay.specs.declared.spelled.Spelled.{Spelled}
use Rattle.vq_replay.specs.Pieces.{IsPiece, Spell}
use Rattle.vq_replay.specs.SpacedWords.{spaced}
use Rattle.vq_replay.specs.Traces.{op_words}

-- so many pieces have the words of the first numbers
pub record AreFirst (f : ℕ → List ℕ) (n : ℕ) (pieces : List Piece) : Type 0 where
  pub count : length pieces ≡ n
  pub each : (k : ℕ) → (x : Piece) → slice_get pieces k ≡ Some x → IsPiece (f k) x

abbrev pub words_of_op : Plan → ℕ → List ℕ
words_of_op p e = spaced (op_words p e)

pub record AreSpelled (p : Plan) (words : Spelled) : Type 0 where
  pub ops : Spell (words_of_op p) words.ops.items
  pub queues : Spell (queue_name p.script) words.queues.items

abbrev pub Spells : Plan → Spelled → Type 0
Spells p words = words.whole ≡ true → AreSpelled p words
