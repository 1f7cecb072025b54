use Rattle.std.proofs.Common.{◌≡◌}
use Rattle.vq_board.specs.Named.{plan_of}
use Rattle.vq_timeline.specs.declared.parts.Shelf.{Shelf}
use Rattle.vq_timeline.specs.Named.{state_of}
use Rattle.vq_timeline.proofs.Cited.{asked_under}
use Rattle.vq_timeline_laws.specs.Calls.{place_in}
use Rattle.vq_access.proofs.guarded.place_by.Goals as goal

pub returns-clause-asked : goal.returns-clause-asked
returns-clause-asked c =
    let b = c.args.board.now in
    asked_under b c.args.timeline.now c.args.guard.now c.place_of.new.self
    (λ (x y : Shelf). (c.place_of.result ≡ place_in (plan_of b) (state_of x) c.args.op) × (y ≡ x))
    c.requires.timeline c.requires.held c.place_of.ensures.held c.place_of.ensures.place
