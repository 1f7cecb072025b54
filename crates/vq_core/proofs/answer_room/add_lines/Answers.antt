use Rattle.std.proofs.Common.{◌<◌, ◌∙◌, ℕ, ◌++◌, List, [], Option, option_map, length, ap, arith, get_or, None}
use Rattle.std.specs.List.{cons_option}
use Rattle.vq_model.specs.declared.plan.Answer.{Answer}
use Rattle.vq_model.specs.declared.plan.AnswerLine.{AnswerLine}
use Rattle.vq_model.specs.OutputText.{answer_at}
use Rattle.vq_model.specs.Plan.{Plan}
use Rattle.vq_core.specs.CoreState.{world}
use Rattle.vq_core.proofs.AnswersKept.{each_given, given_at, line_more}
use Rattle.vq_core.proofs.answer_room.add_lines.Goals as goal

pub bounds-given-job : goal.bounds-given-job
bounds-given-job c =
    let d = c.args.core.now in
    let plan = c.plan-plan.ensures.value ∙ c.ordered.ensures.value in
    let jobs = c.jobs-job-end.ensures ∙ ap (λ (p : Plan). length p.jobs) plan in
    let count = each_given (world d) (length d.plan.jobs) c.args.given.now c.requires.given in
    let test = c.loop-job-test.true in
    omega arith

pub loop-job-preserved : goal.loop-job-preserved
loop-job-preserved c =
    let d = c.args.core.now in
    let j = c.loop-job.job in
    let plan = c.plan-plan.ensures.value ∙ c.ordered.ensures.value in
    let jobs = c.jobs-job-end.ensures ∙ ap (λ (p : Plan). length p.jobs) plan in
    let test = c.loop-job-test.true in
    let within : j < length d.plan.jobs = omega arith in
    let answer = get_or c.args.given.now j None in (
      line_more d.plan (world d) j c.loop-job.lines.items c.add_line.new.lines.items answer c.loop-job.invariant.0
          (given_at (world d) (length d.plan.jobs) c.args.given.now j None c.requires.given within)
          (c.add_line.ensures.items ∙ ap (λ (p : Plan). added p j c.loop-job.lines.items answer) plan),
      (let n = c.add_line.ensures.count in let m = c.loop-job.invariant.1 in omega arith),
      (let n = c.add_line.ensures.room in let m = c.loop-job.invariant.2 in omega arith),
    )
  where
    added : Plan → ℕ → List AnswerLine → Option Answer → List AnswerLine
    added p j lines given = lines ++ cons_option (option_map (answer_at p j) given) []
