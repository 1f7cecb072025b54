-- What an actor at a board means. This project's own.
use Rattle.std.specs.Prelude.{ℕ, List, ◌∷◌}
use Rattle.std.specs.Borrow.{GName}
use Rattle.vq_turns.specs.declared.outcome.Outcome.{Outcome}
use Rattle.vq_actor.specs.Meanings.{Meaning}
use Rattle.vq_board.specs.Named.{view, id_of}
use Rattle.vq_access_laws.specs.AccessMeanings.{meaning_of}
use Rattle.vq_access.specs.declared.post.Post.{Post}
use Rattle.vq_access.specs.Lasts.{recent_of}
use Rattle.vq_access.specs.Pinned.{pins}
use Rattle.vq_access.specs.Shown.{IsShownBy}

-- the references through which it writes, and numbers of whose pass it is, of the places before the turn, and of the
-- board's table
abbrev pub lenders_of : Post → List GName
lenders_of x =
    x.pass.ghost_name ∷ x.seat.ghost_name ∷ x.refused.ghost_name
    ∷ pins x.owner x.seats.now.value (id_of x.board.now)

abbrev pub meaning : Post → Meaning
meaning x =
    meaning_of (lenders_of x) x.ordered.now x.actor x.seat.now.place (recent_of x.last) (view x.pass.now) x.refused.now

abbrev pub shows : Post → Outcome → ℕ × ℕ → Type 0
shows x = IsShownBy x.pass.now x.refused.now

-- what it means for an access that holds one more reference, to the actor itself
abbrev pub held_by : GName → Meaning → Meaning
held_by name m = record m { lenders = name ∷ m.lenders }
