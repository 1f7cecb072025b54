use Rattle.std.proofs.Common.{Some, refl}
use Rattle.vq_order.proofs.SweepLaws.{write_keeps, write_kept}
use Rattle.vq_order.proofs.races.cells.Cell.write.Goals as goal

pub returns-clause-touches : goal.returns-clause-touches
returns-clause-touches c =
    let p = c.args.order.now in
    let old = c.args.self.now in
    record {
      kept = write_kept p (record { writer = Some c.args.by; readers = c.clear.new.self }) c.args.by refl c.clear.ensures.items c.requires.may.own;
      keeps = write_keeps p c.requires.may.plan old (record { writer = Some c.args.by; readers = c.clear.new.self }) c.requires.may.kept c.args.by refl (c.follows_writer.ensures.after c.if-not-follows_writer.false) (c.follows_readers.ensures.after c.if-not-follows_readers.false);
    }
