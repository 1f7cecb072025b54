-- What the passes of rings may do in the tests.
use Rattle.std.proofs.Common.{◌≡◌, ℕ, List, [], length, ap, sym, arith}
use Rattle.vq_model.specs.Plan.{Plan}
use Rattle.vq_model.specs.declared.plan.Lane.TheVariants.{Queue}
use Rattle.vq_board_laws.specs.declared.view.Reference.{Reference}
use Rattle.vq_board_laws.specs.declared.view.Role.TheVariants.{Ring}
use Rattle.vq_board_laws.specs.declared.view.View.{View}
use Rattle.vq_board_laws.specs.MayPoints.{MayRefer}
use Rattle.vq_board_laws.specs.Roles.{role_number}

-- a ring's pass without references may take one
pub may_refer : (p : Plan) (v : View) (q : ℕ) → v.role ≡ role_number p (Ring q) → v.refs ≡ [] → MayRefer p v
may_refer p v q role none = record {
  lane = Queue q;
  runner = sym role;
  room = let e = ap (λ (xs : List Reference). length xs) none in omega arith;
}
