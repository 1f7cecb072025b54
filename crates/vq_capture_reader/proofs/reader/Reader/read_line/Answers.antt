use Rattle.vq_lexer.specs.Words.{texts}
use Rattle.vq_capture_reader.specs.Lines.{above_of}
use Rattle.vq_capture_reader.proofs.LinesRead.{fault_read, said_read}
use Rattle.vq_capture_reader.proofs.reader.Reader.read_line.Goals as goal

pub returns-clause-said : goal.returns-clause-said
returns-clause-said c =
    said_read (above_of c.args.self.now) c.args.line (texts c.args.words.now) c.args.form _ _ c.slots.ensures c.behind_first-behind.ensures
    _ _ _ c.requires c.in_ok-tests.ensures.said c.as_slice.ensures.value c.statement-said.ensures

pub returns-clause-fault : goal.returns-clause-fault
returns-clause-fault c =
    fault_read (above_of c.args.self.now) c.args.line (texts c.args.words.now) c.args.form _ _ c.slots.ensures c.behind_first-behind.ensures
    _ _ _ _ _ _ c.first_fault.ensures c.in_ok-tests.ensures.tests c.is_disordered-disordered.ensures c.is_out_of_range-far.ensures c.is_unreleased-unreleased.ensures
    (said_read (above_of c.args.self.now) c.args.line (texts c.args.words.now) c.args.form _ _ c.slots.ensures c.behind_first-behind.ensures
    _ _ _ c.requires c.in_ok-tests.ensures.said c.as_slice.ensures.value c.statement-said.ensures)
