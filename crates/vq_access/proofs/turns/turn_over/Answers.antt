use Rattle.std.proofs.Common.{ℕ, List, ap, sym, ◌∙◌}
use Rattle.std.specs.Prelude.{slice_index}
use Rattle.vq_access.specs.declared.post.Post.{Post}
use Rattle.vq_access.proofs.turns.turn_over.Goals as goal

pub returns-clause-keeps_pass : goal.returns-clause-keeps_pass
returns-clause-keeps_pass g c =
    ap (λ (y : Post). y.pass.ghost_name) (c.post-1.given.1 (sym c.turn_through.ensures.keeps))
    ∙ ap (λ (xs : List ℕ). slice_index xs 0) c.turn_through.ensures.turn.kept.lenders

pub returns-clause-keeps_seat : goal.returns-clause-keeps_seat
returns-clause-keeps_seat g c =
    ap (λ (y : Post). y.seat.ghost_name) (c.post-1.given.1 (sym c.turn_through.ensures.keeps))
    ∙ ap (λ (xs : List ℕ). slice_index xs 1) c.turn_through.ensures.turn.kept.lenders

pub returns-clause-keeps_refused : goal.returns-clause-keeps_refused
returns-clause-keeps_refused g c =
    ap (λ (y : Post). y.refused.ghost_name) (c.post-1.given.1 (sym c.turn_through.ensures.keeps))
    ∙ ap (λ (xs : List ℕ). slice_index xs 2) c.turn_through.ensures.turn.kept.lenders
