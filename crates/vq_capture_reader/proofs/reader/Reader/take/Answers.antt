use Rattle.std.proofs.Common.{◌∙◌, ap, rules}
use Rattle.vq_lexer.specs.Words.{texts}
use Rattle.vq_capture.specs.Context.{Above}
use Rattle.vq_capture.specs.Statements.{with_line}
use Rattle.vq_capture_reader.specs.Lines.{above_of}
use Rattle.vq_capture_reader.proofs.FirstFaults.{faulty, faultless, some_words}
use Rattle.vq_capture_reader.proofs.reader.Reader.take.Goals as goal

pub returns-in-Some-fault-clause-takes : goal.returns-in-Some-fault-clause-takes
returns-in-Some-fault-clause-takes c =
    faulty (above_of c.args.self.now) c.args.line (texts c.args.words.now) c.in-Some.form c.in-Some-fault.kind (some_words c.args.words.now c.is_empty.result c.is_empty.ensures c.if-is_empty.false) (search rules) (search rules) (search rules)

pub returns-clause-takes : goal.returns-clause-takes
returns-clause-takes c =
    faultless (above_of c.args.self.now) (above_of c.add.new.self) c.args.line (texts c.args.words.now) c.in-Some.form (some_words c.args.words.now c.is_empty.result c.is_empty.ensures c.if-is_empty.false) (search rules) (search rules) (search rules)
    (c.in_ok-add.ensures.line ∙ ap (λ (a : Above). with_line a c.args.line c.in-Some.form (texts c.args.words.now)) c.read_line.ensures.same)
