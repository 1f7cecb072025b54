use Rattle.std.proofs.Common.{arith}
use Rattle.vq_capture_touched.proofs.Listings.{kept_left}
use Rattle.vq_capture_touched.proofs.kind.Kind.unlist.Goals as goal

pub returns : goal.returns
returns c = λ s t f h.
    kept_left c.args.self.now (record c.args.self.now { places = c.remove.new.self }) s t (λ e. e) (omega arith) (omega arith) (λ n u l m. m) h
    c.range_of-range.result.offset c.args.stamp f c.remove.ensures.keys
