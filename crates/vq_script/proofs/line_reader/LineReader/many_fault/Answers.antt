use Rattle.std.proofs.Common.{◌≡◌, Err, subst}
use Rattle.vq_model.specs.declared.statement.Form.{Form}
use Rattle.vq_model.specs.Reading.{read_statement}
use Rattle.vq_model.specs.Text.{words_in}
use Rattle.vq_script.proofs.line_reader.LineReader.many_fault.Goals as goal

pub returns : goal.returns
returns c = λ form lines n h.
    subst (λ (f : Form). read_statement f lines n (words_in c.args.part.now) ≡ Err c.many_fault.result) h.0
    (c.many_fault.ensures lines n h.1)
