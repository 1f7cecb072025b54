use Rattle.vq_order.proofs.SweepLaws.{read_keeps, read_kept}
use Rattle.vq_order.proofs.races.cells.Cell.read.Goals as goal

pub returns-clause-touches : goal.returns-clause-touches
returns-clause-touches c =
    let p = c.args.order.now in
    let old = c.args.self.now in
    let new = c.keep_reader.new.self in
    record {
      kept = read_kept p old new c.args.by c.in_ok-keep_reader.ensures.writer c.requires.may.kept c.requires.may.own c.in_ok-keep_reader.ensures.kept;
      keeps = read_keeps p c.requires.may.plan old new c.requires.may.kept c.args.by c.in_ok-keep_reader.ensures.writer (c.follows_writer.ensures.after c.if-not-follows_writer.false) c.in_ok-keep_reader.ensures.kept;
    }
