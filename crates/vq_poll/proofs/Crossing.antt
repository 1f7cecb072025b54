-- What is lent to a wait may be sent to another thread: the board, its timelines and its bells may be shared.
use denote.Param.Send.{IsSend, sendable}
use Rattle.std.proofs.Crossing.{crosses}
use Rattle.vq_board.proofs.Cited.{board_sync}
use Rattle.vq_timeline.proofs.Cited.{timeline_sync}
use denote.Ref.{NamedLft}
use Rattle.vq_poll.proofs.bell.Bell.TheSendSync as bell
use Rattle.vq_poll.specs.contracts.watched.WatchedBoard as watched

pub watched_send : (a : NamedLft) → IsSend (watched.the_row a)
watched_send a = search (sendable, crosses, board_sync, timeline_sync, bell.the_sync) depth 20
