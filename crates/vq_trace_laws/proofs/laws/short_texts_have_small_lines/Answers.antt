use Rattle.vq_trace_laws.proofs.SmallLines.{small_lines}
use Rattle.vq_trace_laws.proofs.laws.short_texts_have_small_lines.Goals as goal

pub returns : goal.returns
returns c = small_lines
