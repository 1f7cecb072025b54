use Rattle.std.proofs.Common.{ℕ, List, ap}
use Rattle.std.specs.Prelude.{slice_index}
use Rattle.vq_access.specs.Posts.{meaning, shows}
use Rattle.vq_access.proofs.Holds.{free_turn}
use Rattle.vq_access.proofs.turns.turn_through.Goals as goal

pub returns-clause-turn : goal.returns-clause-turn
returns-clause-turn g c =
    free_turn c.args.access.now.post.ghost_name (meaning c.args.access.now.post.now)
    (meaning c.turn.new.access.post.now) c.turn.new.access.post.ghost_name (shows c.turn.new.access.post.now)
    c.turn.result c.turn.ensures.turn

pub returns-clause-keeps : goal.returns-clause-keeps
returns-clause-keeps g c = ap (λ (xs : List ℕ). slice_index xs 0) c.turn.ensures.turn.kept.lenders
