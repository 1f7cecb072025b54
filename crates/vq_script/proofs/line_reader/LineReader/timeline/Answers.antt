use Rattle.std.proofs.Common.{◌∙◌, sym}
use Rattle.vq_model.specs.Forms.{TimelineName}
use Rattle.vq_script.proofs.LineTold.{number_by}
use Rattle.vq_script.proofs.line_reader.LineReader.timeline.Goals as goal

pub returns : goal.returns
returns c = λ form lines h.
    c.number_of.ensures ∙ (λ i. sym (number_by lines _ h.1.holds.declares) i TimelineName c.args.name.now)
