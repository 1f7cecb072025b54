use Rattle.vq_timeline.proofs.Locking.{at_home_of}
use Rattle.vq_timeline.proofs.timeline.LockedTimeline.unlock_quietly.Goals as goal

pub unlock_quietly-requires : goal.unlock_quietly-requires
unlock_quietly-requires c =
    let t = c.requires.held in
    (t.0, t.1, at_home_of c.args.board.now c.args.self.now t.0 c.requires.timeline t.2 t.3)
