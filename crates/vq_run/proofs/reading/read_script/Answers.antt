use Rattle.std.proofs.Common.{arith}
use Rattle.vq_reading_laws.proofs.Cited.{few_lines}
use Rattle.vq_run.proofs.Endings.{faulty_outcome}
use Rattle.vq_run.proofs.reading.read_script.Goals as goal

pub parse_for-requires : goal.parse_for-requires
parse_for-requires c = let few = few_lines c.in-Some.text.now in let short = c.in-Some.ensures.1 in omega arith

pub returns-in_ok-line_refusal-in-Err-At : goal.returns-in_ok-line_refusal-in-Err-At
returns-in_ok-line_refusal-in-Err-At c =
    let fault = rw c.in-Err-At.field-0-is at c.in-Err-At.ensures.fault in
    let text_is = rw c.in-Err-At.field-0-is at c.in_ok-line_refusal-in-Err-At.ensures in
    faulty_outcome _ _ c.in-Some.text.now _ _ _ c.requires c.in-Some.ensures.0 fault text_is
