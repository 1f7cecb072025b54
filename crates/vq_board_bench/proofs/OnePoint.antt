use Rattle.std.proofs.Common.{◌≡◌, subst, sym, ap, ◌∙◌}
use Rattle.vq_model.specs.Plan.{Plan}
use Rattle.vq_board_laws.specs.declared.view.View.{View}
use Rattle.vq_board_laws.specs.declared.view.Role.{Role}
use Rattle.vq_board_laws.specs.declared.view.Role.TheVariants.{Shelf}
use Rattle.vq_board_laws.specs.MayPoints.{MayMake}
use Rattle.vq_board_laws.specs.Roles.{role_number}
use Rattle.vq_board_laws.specs.Rule.{fresh}
use Rattle.vq_board_bench.specs.Making.{HasShare}

-- the fresh pass of the first chain's shelf may make a point, where the chain has an operation
pub may_make : (p : Plan) (v : View) (r : Role) → v ≡ fresh p (role_number p r) → r ≡ Shelf 0 → HasShare p 0 1 → MayMake p v
may_make p v r is shelf share =
    subst (λ (w : View). MayMake p w) (sym (is ∙ ap (λ (x : Role). fresh p (role_number p x)) shelf)) share
