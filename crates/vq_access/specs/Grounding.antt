-- What turns go over, as contracts name it. This project's own.
use Rattle.vq_model.specs.Plan.{Plan}
use Rattle.vq_board.specs.declared.parts.Board.{Board}
use Rattle.vq_access.specs.declared.asking.Waiting.{Waiting}
use Rattle.vq_access.specs.declared.grounds.Grounds.{Grounds}

abbrev pub plan_at : {L : Type 0} → Grounds L → Plan
plan_at g = g.ordered.now

abbrev pub board_at : {L : Type 0} → Grounds L → Board
board_at g = g.board.now

abbrev pub lists_at : {L : Type 0} → Grounds L → L
lists_at g = g.lists.now

-- who can wait for lists
abbrev pub waiter_of : {R : Type 0} → Waiting R → R
waiter_of w = w.rt.now
