use Rattle.std.proofs.Common.{arith, sym, subst}
use Rattle.std.specs.Prelude.{Ok, Err}
use Rattle.vq_reading_laws.proofs.Cited.{few_lines}
use Rattle.vq_run.specs.declared.outcome.Reply.{Reply}
use Rattle.vq_run.specs.Traced.{AnswersTrace}
use Rattle.vq_run.proofs.TraceParts.{lines_fit_behind, read_behind, trace_read, was_read}
use Rattle.vq_run.proofs.auditing.trace_outcome.Goals as goal

pub cut-requires : goal.cut-requires
cut-requires c = let few = few_lines c.args.input.now in let short = c.requires.short in omega arith

pub read_trace-requires-clause-counted : goal.read_trace-requires-clause-counted
read_trace-requires-clause-counted c =
    lines_fit_behind c.args.input.now c.in-Some.field-0 c.in-Some.ensures.cut c.requires.short

pub audit-requires : goal.audit-requires
audit-requires c =
    was_read c.args.input.now c.in-Some.field-0 c.in-Some.ensures.cut c.args.ordered c.in-Ok.given c.requires.short
    (read_behind c.args.input.now c.in-Some.field-0 c.in-Some.ensures.cut c.args.ordered c.plan.result.now (Ok c.in-Ok.given)
    c.plan.ensures.value c.in-Ok.ensures)

pub returns-in-Ok : goal.returns-in-Ok
returns-in-Ok c =
    subst (λ (o : Reply). AnswersTrace c.args.input.now c.args.ordered o.status o.text.items) (sym c.done.ensures)
    (record {
      given = c.in-Ok.given;
      read = trace_read c.args.input.now c.in-Some.field-0 c.in-Some.ensures.cut c.args.ordered (Ok c.in-Ok.given)
          (read_behind c.args.input.now c.in-Some.field-0 c.in-Some.ensures.cut c.args.ordered c.plan.result.now
          (Ok c.in-Ok.given) c.plan.ensures.value c.in-Ok.ensures);
      verdict = c.in_ok-verdict-in-Ok.verdict;
      right = c.in_ok-verdict-in-Ok.ensures.verdict;
      laws = c.in_ok-verdict-in-Ok.ensures.laws;
      spelled = c.in_ok-verdict_text-in-Ok.ensures;
    })

pub returns-in-Err-At : goal.returns-in-Err-At
returns-in-Err-At c =
    let faulty = rw c.in-Err-At.field-0-is at c.in-Err-At.ensures in
    subst (λ (o : Reply). AnswersTrace c.args.input.now c.args.ordered o.status o.text.items) (sym c.refused.ensures) (
      c.in-Err-At.line,
      trace_read c.args.input.now c.in-Some.field-0 c.in-Some.ensures.cut c.args.ordered (Err c.in-Err-At.line)
          (read_behind c.args.input.now c.in-Some.field-0 c.in-Some.ensures.cut c.args.ordered c.plan.result.now
          (Err c.in-Err-At.line) c.plan.ensures.value faulty),
      c.in_ok-trace_refusal-in-Err-At.ensures,
    )
