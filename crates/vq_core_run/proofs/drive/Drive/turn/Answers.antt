use Rattle.std.proofs.Common.{◌≡◌}
use Rattle.vq_core_run.specs.Driven.{actor_numbered}
use Rattle.vq_core_run.proofs.Played.{played_so}
use Rattle.vq_core_run.proofs.drive.Drive.turn.Goals as goal

pub returns-then-has-clause-turn : goal.returns-then-has-clause-turn
returns-then-has-clause-turn c =
    let e : c.actor_numbered-actor.result ≡ actor_numbered c.args.number = c.actor_numbered-actor.ensures in
    let v = c.self.view_is in
    let t = c.if-has.true in
    let h = c.has.ensures in
    ((cc), played_so _ _ _ _ _ _ (cc) e c.play.ensures.turn)
