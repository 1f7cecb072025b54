use Rattle.std.proofs.Common.{◌∙◌, not, sym, ap}
use Rattle.std.proofs.lemmas.Bool.{false≢true, not-true, not-false}
use Rattle.vq_point_laws.specs.PointWord.{PointWord as PointParts}
use Rattle.vq_point.specs.Word.{bits_of}
use Rattle.vq_access.proofs.Giving.{freed_behind}
use Rattle.vq_access.proofs.behind.sees_freed.Goals as goal

pub returns : goal.returns
returns c =
    let set = c.look.result.signaled in
    let same = ap (λ (w : PointParts). w.signaled) c.look.ensures.parts in
    freed_behind c.args.pass.now c.look.new.pass c.look.ensures.pass.0 (not set) c.args.point (bits_of c.look.result)
    c.look.ensures.pass.2 (λ t. same ∙ not-true set t) (λ t clear. false≢true (sym clear ∙ (same ∙ not-false set t)))
