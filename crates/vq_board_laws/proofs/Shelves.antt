-- An operation is of one shelf, and one of the plan's.
use Rattle.std.proofs.Common.{◌≡◌, ℕ, ◌<◌, length, ap, sym, ◌∙◌}
use Rattle.std.specs.List.{slice_get}
use Rattle.std.proofs.lemmas.Option.{same_Some}
use Rattle.vq_model.specs.declared.plan.Op.{Op}
use Rattle.vq_model.specs.Plan.{Plan}
use Rattle.vq_ground.proofs.Gets.{get_within}
use Rattle.vq_ground.proofs.Options.{some_of}
use Rattle.vq_board_laws.specs.declared.view.Role.TheVariants.{Shelf}
use Rattle.vq_board_laws.specs.Points.{IsOfShelf}
use Rattle.vq_board_laws.specs.Roles.{role_number}

pub one_shelf : (p : Plan) (e a b : ℕ) → IsOfShelf p e a → IsOfShelf p e b → a ≡ b
one_shelf p e a b h g = sym h.shelf ∙ (ap (λ (t : ℕ). role_number p (Shelf t)) (same_Some h.chain g.chain (sym h.in_chain ∙ g.in_chain)) ∙ g.shelf)

pub shelf_below : (p : Plan) (e role : ℕ) → IsOfShelf p e role → e < length p.ops
shelf_below p e role shelf = let o = some_of (λ (x : Op). x.chain) (slice_get p.ops e) shelf.chain shelf.in_chain in get_within p.ops e o.0 o.1
