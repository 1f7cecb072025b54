use Rattle.vq_timeline.proofs.Locking.{of_board}
use Rattle.vq_timeline.proofs.timeline.LockedTimeline.try_lock.Goals as goal

pub returns : goal.returns
returns c =
    let t = c.in_ok-guard.ensures in
    (t.0, t.1, t.2.0, of_board c.args.board.now c.args.self.now t.0 c.requires t.2)
