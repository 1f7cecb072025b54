use Rattle.std.proofs.Common.{sym, ◌∙◌, rules}
use Rattle.vq_board_laws.specs.declared.view.Fact.{Fact}
use Rattle.vq_board_laws.specs.declared.view.Fact.TheVariants.{Made}
use Rattle.vq_board_laws.specs.Knowledge.{Knows}
use Rattle.vq_board.specs.Named.{plan_of, view}
use Rattle.vq_board_stage.proofs.Waits.{given, unrefer_keeps, may_finish}
use Rattle.vq_board_stage.proofs.waiting.finish_waiting.Goals as goal

pub finish-requires-clause-may : goal.finish-requires-clause-may
finish-requires-clause-may c =
    let first = given c.unrefer.result _ c.unrefer.ensures.given (sym c.is_err.ensures.value ∙ c.if-is_err.false) in
    let second = given c.unrefer-else-is_err.result _ c.unrefer-else-is_err.ensures.given (sym c.is_err-else-is_err.ensures.value ∙ c.if-is_err-2.false) in
    let before = view c.args.ring.now in
    let between = view c.unrefer.new.pass in
    let after = view c.unrefer-else-is_err.new.pass in
    let keeps = λ (f : Fact) (h : Knows before.known f). unrefer_keeps between after 1 second.0 1 f second.1.2 (unrefer_keeps before between 0 first.0 0 f first.1.2 h) in
    may_finish (plan_of c.args.board.now) c.requires.plan after (search rules) (search rules) (search rules) (search rules) (search rules) (keeps (Made 0) c.requires.ring.first_made) (keeps (Made 1) c.requires.ring.second_made)
