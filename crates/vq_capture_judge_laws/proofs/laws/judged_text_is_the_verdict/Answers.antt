use Rattle.vq_capture_judge_laws.proofs.JudgedLines.{judges, only}
use Rattle.vq_capture_judge_laws.proofs.laws.judged_text_is_the_verdict.Goals as goal

pub returns-clause-given : goal.returns-clause-given
returns-clause-given c text = judges text

pub returns-clause-only : goal.returns-clause-only
returns-clause-only c text verdict v = only text verdict v
