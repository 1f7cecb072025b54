use Rattle.std.proofs.Common.{sym, ◌∙◌}
use Rattle.vq_script.proofs.LineTold.{begun_by}
use Rattle.vq_script.proofs.line_reader.LineReader.has_begun.Goals as goal

pub returns : goal.returns
returns c = λ form lines h. c.has_begun.ensures ∙ sym (begun_by lines _ _ h.1.holds)
