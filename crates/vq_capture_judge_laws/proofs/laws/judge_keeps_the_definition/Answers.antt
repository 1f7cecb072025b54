use Rattle.vq_capture_judge_laws.proofs.SaidVerdicts.{kept}
use Rattle.vq_capture_judge_laws.proofs.laws.judge_keeps_the_definition.Goals as goal

pub returns : goal.returns
returns c status before now j = kept status before now j
