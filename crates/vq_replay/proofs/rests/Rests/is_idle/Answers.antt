use Rattle.std.proofs.Common.{◌≡◌, ◌∙◌, List, ap, get_or, subst, sym}
use Rattle.vq_point_laws.specs.Points.{PointState}
use Rattle.vq_replay.specs.declared.rests.Rest.{Rest}
use Rattle.vq_replay.specs.declared.rests.Rest.TheVariants.{Unknown}
use Rattle.vq_replay.specs.Resting.{IsIdleIn, Knows}
use Rattle.vq_replay.proofs.Known.{any_default, changes_nothing}
use Rattle.vq_replay.proofs.rests.Rests.is_idle.Goals as goal

pub returns : goal.returns
returns c = λ is s same a k.
    let p = c.args.core.now.plan in
    let rest = c.index.result.now in
    let there : rest ≡ get_or c.args.self.now c.args.place Unknown =
    c.index.ensures
    ∙ (ap (λ (xs : List Rest). get_or xs c.args.place rest) c.self.view_is
    ∙ any_default c.args.self.now c.args.place rest Unknown c.requires) in
    changes_nothing p s a
    (subst (λ (w : PointState). IsIdleIn p s a w) (sym same)
    (c.is_still.ensures is s a (subst (Knows p s a) (sym there) k)))
