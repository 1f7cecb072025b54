use Rattle.std.proofs.Common.{◌/◌, arith}
use Rattle.vq_capture_touched.proofs.Listings.{kept_put, kept_same, listed_put}
use Rattle.vq_capture_touched.proofs.PartLines.{bound_marked, own_marked}
use Rattle.vq_capture_touched.proofs.kind.Kind.put.Goals as goal

pub returns-in_err-insert-clause-kept : goal.returns-in_err-insert-clause-kept
returns-in_err-insert-clause-kept c = λ s t h.
    kept_same c.args.self.now (record c.args.self.now { places = c.insert.new.self }) s t (λ e. e) (omega arith) (omega arith) (λ n u l m. m) h
    c.in_err-insert.ensures.err

pub returns-clause-listed : goal.returns-clause-listed
returns-clause-listed c =
    listed_put c.args.self.now
    (record { latest = record c.args.self.now.latest { step = record c.args.self.now.latest.step { line = c.greater-self.result } }; widest = c.greater-self-2.result; places = c.insert.new.self; width = c.args.self.now.width; lines = c.mark.new.lines })
    c.args.stamp c.args.touch.now c.range_of-range.result c.range_of-range.ensures c.requires
    c.greater-self.ensures.second c.greater-self-2.ensures.second
    (own_marked c.args.self.now.lines.items c.mark.new.lines.items c.part_of-part.result _ c.greater-self.result c.args.touch.now.step.line
    c.part_of-part.ensures c.mark.ensures c.greater-self.ensures.second)
    c.in_ok-insert.ensures.keys

pub returns-clause-kept : goal.returns-clause-kept
returns-clause-kept c = λ s t h.
    kept_put c.args.self.now
    (record { latest = record c.args.self.now.latest { step = record c.args.self.now.latest.step { line = c.greater-self.result } }; widest = c.greater-self-2.result; places = c.insert.new.self; width = c.args.self.now.width; lines = c.mark.new.lines })
    s t (λ e. e) c.greater-self.ensures.first c.greater-self-2.ensures.first
    (λ n u l m. bound_marked c.args.self.now.lines.items c.mark.new.lines.items c.part_of-part.result (u / c.args.self.now.width) c.args.self.now.latest.step.line c.greater-self.result n
    c.mark.ensures c.greater-self.ensures.first l m) h
    (c.range_of-range.result.offset, c.args.stamp) c.in_ok-insert.ensures.keys
