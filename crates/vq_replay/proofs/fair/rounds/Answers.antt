use Rattle.std.proofs.Common.{◌+◌, ◌∙◌, ℕ, [], ap, subst, sym}
use Rattle.vq_core.specs.CoreState.{Course}
use Rattle.vq_replay.specs.Rounds.{HaveFinished}
use Rattle.vq_replay.proofs.RoundsPlayed.{all_finished, kept_on, not_past, told_end, told_left}
use Rattle.vq_replay.proofs.fair.rounds.Goals as goal

pub returns-then-finished : goal.returns-then-finished
returns-then-finished c =
    let x = c.loop-count.fair in
    let so = c.loop-count.invariant in
    let lawful = c.plan-lawful.ensures in
    let done = told_end x.troupe c.core.result.now c.core.ensures c.finished.result c.finished.ensures
    c.if-finished.true in
    subst (λ (d : Course). HaveFinished c.args.ordered c.loop-count.played.items d) (sym c.into_core-core.ensures)
    (all_finished c.args.ordered x.rounds c.loop-count._count x.turns x.troupe x.rests x.round.items so.1.1.0 so.0 so.1.0
    lawful.read lawful.lawful done c.loop-count.played.items so.1.1.1)

pub play_round-requires-clause-left : goal.play_round-requires-clause-left
play_round-requires-clause-left c =
    told_left c.loop-count.fair.troupe c.core.result.now c.core.ensures c.finished.result c.finished.ensures
    c.if-finished.false

pub loop-count-preserved : goal.loop-count-preserved
loop-count-preserved c =
    let x = c.loop-count.fair in
    let so = c.loop-count.invariant in
    let more = c.in_ok-play_round.ensures {u = tt} in (
      more.plan ∙ so.0,
      (
        more.rounds ∙ ap (λ (n : ℕ). n + 1) so.1.0,
        (
          more.under_way,
          kept_on c.args.ordered x.troupe.course.plan x.rounds c.loop-count._count so.0 so.1.0 c.loop-count.played.items
              c.play_round.new.played.items more.played [] so.1.1.1,
        ),
      ),
    )

pub unreachable-requires : goal.unreachable-requires
unreachable-requires c =
    let x = c.loop-count.fair in
    let so = c.loop-count.invariant in
    let lawful = c.plan-lawful.ensures in
    not_past c.args.ordered x.rounds c.loop-count._count x.turns x.troupe x.rests x.round.items so.1.1.0 so.0 so.1.0
    lawful.read lawful.lawful c.loop-count-test.false
