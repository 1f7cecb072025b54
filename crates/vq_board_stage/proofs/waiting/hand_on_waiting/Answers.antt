use Rattle.std.proofs.Common.{rules}
use Rattle.vq_board.specs.Named.{plan_of, view}
use Rattle.vq_board_stage.proofs.Waits.{may_submit, may_release}
use Rattle.vq_board_stage.proofs.waiting.hand_on_waiting.Goals as goal

pub submit-requires-clause-may : goal.submit-requires-clause-may
submit-requires-clause-may c =
    let h = c.requires.host in
    may_submit (plan_of c.args.board.now) c.requires.plan (view c.args.host.now) h.role h.unsubmitted h.finished

pub release-requires-clause-may : goal.release-requires-clause-may
release-requires-clause-may c =
    may_release (plan_of c.args.board.now) c.requires.plan (view c.recall-2.new.pass) (search rules) (search rules) (search rules) (search rules) (search rules)
