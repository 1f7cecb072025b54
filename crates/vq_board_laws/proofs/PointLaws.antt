-- What the rule says of a point to a pass that has a reference to it, or that owns it.
use Rattle.std.proofs.Common.{◌≡◌, ℕ, true, false, ap}
use mathlib.Core.Option.{some}
use lib.ListN.{get_elem?}
use Rattle.atomic_table.specs.Table.{State}
use Rattle.vq_model.specs.Plan.{Plan}
use Rattle.vq_point_laws.specs.PointWord.{parts}
use Rattle.vq_board_laws.specs.declared.view.View.{View}
use Rattle.vq_board_laws.specs.declared.view.LoggedBuffers.{LoggedBuffers}
use Rattle.vq_board_laws.specs.Words.{words_of, Carries, made_of}
use Rattle.vq_board_laws.specs.Points.{Lists, reference}
use Rattle.vq_board_laws.specs.Rule.{Kept}
use Rattle.vq_board_laws.specs.MayPoints.{MayAssign, MayRetire}
use Rattle.vq_board_laws.proofs.MadeWords.{shows, not_shown}
use Rattle.vq_board_laws.proofs.PointParts.{none_refers}
use Rattle.vq_board_laws.proofs.PointSteps.{assigned_zero, assigned_none, retired_past as past_of_retired, retired_carries}

-- a point that a pass may give to an operation carries nothing, and no pass has a reference to it
pub assigned_free : (p : Plan) (s : State LoggedBuffers View) → Kept p s → (i : ℕ) (v : View) → get_elem? s.views i ≡ some v → (q e : ℕ) → MayAssign p v q e
    → ((words_of s.words).point q ≡ 0) × ((f : ℕ) → ¬ Carries ((words_of s.words).point q) f) × ((a : ℕ) (u : View) (f : ℕ) → get_elem? s.views a ≡ some u → ¬ Lists u.refs (reference q f))
assigned_free p s k i v at q e may =
    let zero = assigned_zero p s i q v k at e may in
    (zero, assigned_none p s i q v k at e may, none_refers (words_of s.words).point s.views k.rule.references q (ap (λ (n : ℕ). (parts n).refs) zero))

-- a point that a pass may free carries its operation, which is past
pub retired_past : (p : Plan) (s : State LoggedBuffers View) → Kept p s → (i : ℕ) (v : View) → get_elem? s.views i ≡ some v → (q e : ℕ) → MayRetire p v q e
    → Carries ((words_of s.words).point q) e × ((words_of s.words).op e ≡ 1)
retired_past p s k i v at q e may = (retired_carries p s i q v k at e may, past_of_retired p s i q v k at e may)

-- the operation of a reference whose point is signaled is made
pub signaled_made : (p : Plan) (s : State LoggedBuffers View) → Kept p s → (i : ℕ) (v : View) → get_elem? s.views i ≡ some v → (q e : ℕ) → Lists v.refs (reference q e)
    → (parts ((words_of s.words).point q)).signaled ≡ true → made_of (words_of s.words) e ≡ true
signaled_made p s k i v at q e listed bit = let d = words_of s.words in let r = k.rule in shows p d.op d.point d.count s.views q e r.points (r.references.carried i v at q e listed) bit

-- and that of one whose point isn't signaled isn't
pub unsignaled_unmade : (p : Plan) (s : State LoggedBuffers View) → Kept p s → (i : ℕ) (v : View) → get_elem? s.views i ≡ some v → (q e : ℕ) → Lists v.refs (reference q e)
    → (parts ((words_of s.words).point q)).signaled ≡ false → made_of (words_of s.words) e ≡ false
unsignaled_unmade p s k i v at q e listed bit = let d = words_of s.words in let r = k.rule in not_shown p d.op d.point d.count s.views q e r.points (r.references.carried i v at q e listed) bit
