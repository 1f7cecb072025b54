use Rattle.vq_board.specs.Named.{id_of}
use Rattle.vq_board_run.proofs.room.AccessRoom.take_turn.Given as goal

-- whose room it is, and the board's table
abbrev pub ghosts-turn_named : goal.ghosts-turn_named
ghosts-turn_named g a =
    record { owner = a.room.owner; table = id_of a.grounds.now.board.now }
