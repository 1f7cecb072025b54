use Rattle.std.proofs.Common.{◌≡◌, ◌+◌, ◌/◌, arith, refl, replicate, rules}
use Rattle.vq_capture_touched.proofs.Listings.{kept_same}
use Rattle.vq_capture_touched.proofs.PartLines.{bound_alike}
use Rattle.vq_capture_touched.proofs.kind.Kind.part.Goals as goal

pub returns-clause-kept : goal.returns-clause-kept
returns-clause-kept c = λ s t h.
    let line = c.args.self.now.latest.step.line in
    let all : c.in_ok-self.field-0.items ≡ replicate 256 c.args.self.now.latest.step.line = search rules in
    kept_same c.args.self.now (record c.args.self.now { width = c.args.unit / 128 + 1; lines = c.in_ok-self.field-0 }) s t (λ e. e) (omega arith) (omega arith)
    (λ n u l m. bound_alike c.in_ok-self.field-0.items 256 (u / (c.args.unit / 128 + 1)) n line all l) h refl
