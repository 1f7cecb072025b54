use Rattle.std.proofs.Common.{subst}
use Rattle.vq_turns.specs.Wants.{IsNotSo}
use Rattle.vq_core.specs.CoreState.{world}
use Rattle.vq_core_run.specs.Casts.{Cast, Plays}
use Rattle.vq_core_run.proofs.Troupes.{whole_play, whole_blocked}
use Rattle.vq_core_run.proofs.troupe.Troupe.play.Goals as goal

pub returns-clause-turn : goal.returns-clause-turn
returns-clause-turn c =
    let new = c.turn.new.stage in
    subst (λ (x : Cast). Plays x new c.args.actor c.turn.result) c.self.view_is
    (whole_play c.self.inside.stage new c.args.actor c.turn.result c.turn.ensures.play)

pub returns-clause-blocked : goal.returns-clause-blocked
returns-clause-blocked c want is =
    subst (λ (x : Cast). IsNotSo (world x.course) want) c.self.view_is
    (whole_blocked c.self.inside.stage c.turn.new.stage c.args.actor c.turn.result c.turn.ensures.play want is)
