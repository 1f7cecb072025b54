-- What a pass does that only looks. This project's own.
use Rattle.std.specs.Prelude.{◌≡◌}
use Rattle.vq_board_laws.specs.Learning.{Learns}
use Rattle.vq_board.specs.declared.parts.Pass.{Pass}
use Rattle.vq_board.specs.Named.{view, role_of, board_of}

abbrev pub HasLearned : Pass → Pass → Type 0
HasLearned x y =
    (board_of y ≡ board_of x) × (role_of y ≡ role_of x) × Learns (view x) (view y)
