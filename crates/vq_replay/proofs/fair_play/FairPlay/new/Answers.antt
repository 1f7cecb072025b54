use Rattle.std.proofs.Common.{◌∙◌, subst, sym}
use Rattle.vq_core_run.specs.Casts.{scene}
use Rattle.vq_replay.specs.Resting.{AreKnown}
use Rattle.vq_replay.proofs.Known.{none_known_first}
use Rattle.vq_replay.proofs.RoundsPlayed.{under_way_first}
use Rattle.vq_replay.proofs.fair_play.FairPlay.new.Goals as goal

pub returns-clause-under_way : goal.returns-clause-under_way
returns-clause-under_way c =
    let x = c.in_ok-troupe.troupe in
    let told = c.in_ok-troupe.ensures {u = tt} in
    let round = c.in_ok-round.round.items in
    under_way_first c.args.ordered x c.in_ok-rests.rests round told.course told.first
    (subst (AreKnown x.course.plan (scene x) round) (sym (c.in_ok-rests.ensures {u = tt}))
    (none_known_first x.course.plan (scene x) round c.len.result
    (c.len.ensures ∙ c.in_ok-round.round.ok.0))) (c.in_ok-round.ensures {u = tt})
