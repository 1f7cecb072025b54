use Rattle.std.proofs.Common.{◌≡◌, ◌∙◌, ◌+◌, ◌-◌, ℕ, take, drop, refl, sym, ap, arith}
use Rattle.std.proofs.lemmas.List.{length-drop}
use Rattle.vq_model.specs.Text.{lines_of}
use Rattle.vq_trace.proofs.LineCuts.{cut_here, few_passed, fewer_lines, line_at, one_passed, trace_lines, within_at}
use Rattle.vq_trace.proofs.cutting.cut.Goals as goal

pub overflow_add-result : goal.overflow_add-result
overflow_add-result c =
    let text = c.args.bytes.now in
    let start = c.loop-start.start in
    let m = c.line_len.result in
    let passed = c.loop-start.invariant in
    let within = within_at text start m c.line_len.ensures.within in
    let first = line_at text start m c.loop-start-test.true c.line_len.ensures.ends in
    let few = few_passed text start c.loop-start.number m c.loop-start-test.true passed within first in
    let lines = c.requires in
    omega (arith, few, lines)

pub overflow_add-number : goal.overflow_add-number
overflow_add-number c =
    let text = c.args.bytes.now in
    let start = c.loop-start.start in
    let m = c.line_len.result in
    let passed = c.loop-start.invariant in
    let within = within_at text start m c.line_len.ensures.within in
    let first = line_at text start m c.loop-start-test.true c.line_len.ensures.ends in
    let few = few_passed text start c.loop-start.number m c.loop-start-test.true passed within first in
    let lines = c.requires in
    omega (arith, few, lines)

pub returns-then-cuts-clause-cut : goal.returns-then-cuts-clause-cut
returns-then-cuts-clause-cut c =
    let text = c.args.bytes.now in
    let start = c.loop-start.start in
    let m = c.line_len.result in
    let passed = c.loop-start.invariant in
    let within = within_at text start m c.line_len.ensures.within in
    let first = line_at text start m c.loop-start-test.true c.line_len.ensures.ends in
    let same : (start + m) - start ≡ m = omega arith in
    let one = ap (λ (n : ℕ). lines_of (take n (drop start text))) same ∙ first.one in
    cut_here text start c.loop-start.number m c.loop-start-test.true passed within first
    (sym (c.if-cuts.ensures first.line one)) _ refl refl refl

pub returns-then-cuts-clause-script_lines : goal.returns-then-cuts-clause-script_lines
returns-then-cuts-clause-script_lines c = fewer_lines c.args.bytes.now _ (returns-then-cuts-clause-cut c)

pub returns-then-cuts-clause-trace_lines : goal.returns-then-cuts-clause-trace_lines
returns-then-cuts-clause-trace_lines c = trace_lines c.args.bytes.now _ (returns-then-cuts-clause-cut c)

pub returns-then-cuts-clause-places : goal.returns-then-cuts-clause-places
returns-then-cuts-clause-places c =
    let text = c.args.bytes.now in
    let start = c.loop-start.start in
    let m = c.line_len.result in
    let within = within_at text start m c.line_len.ensures.within in
    let long = length-drop start text in
    let less = c.loop-start-test.true in
    (omega arith, omega (arith, within, long, less))

pub loop-start-preserved : goal.loop-start-preserved
loop-start-preserved c =
    let text = c.args.bytes.now in
    let start = c.loop-start.start in
    let m = c.line_len.result in
    let passed = c.loop-start.invariant in
    let within = within_at text start m c.line_len.ensures.within in
    let first = line_at text start m c.loop-start-test.true c.line_len.ensures.ends in
    let same : (start + m) - start ≡ m = omega arith in
    let one = ap (λ (n : ℕ). lines_of (take n (drop start text))) same ∙ first.one in
    one_passed text start c.loop-start.number m c.loop-start-test.true passed within first
    (sym (c.if-cuts.ensures first.line one))
