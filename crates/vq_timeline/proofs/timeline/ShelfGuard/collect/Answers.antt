use Rattle.std.proofs.Common.{ℕ, subst}
use Rattle.vq_lock.proofs.Cited.{wrote}
use Rattle.vq_board.specs.Named.{plan_of}
use Rattle.vq_timeline.specs.Answers.{Collects}
use Rattle.vq_timeline.specs.Named.{state_of}
use Rattle.vq_timeline.proofs.Locking.{held_shelf, still_held}
use Rattle.vq_timeline.proofs.timeline.ShelfGuard.collect.Goals as goal

pub returns-clause-held : goal.returns-clause-held
returns-clause-held c =
    still_held c.args.board.now c.args.of.now c.args.self.now c.content.result.now c.collect.new.self c.requires
    c.content.ensures.value c.collect.ensures.chain c.collect.ensures.shelf

pub returns-clause-collected : goal.returns-clause-collected
returns-clause-collected c =
    let b = c.args.board.now in
    let t = c.args.of.now in
    let g = c.args.self.now in
    let x = c.content.result.now in
    let y = c.collect.new.self in
    let has = c.content.ensures.value in
    let answer = subst (λ (n : ℕ). Collects (plan_of b) n (state_of x) (state_of y) c.collect.result)
    (held_shelf b t g x c.requires has).0 c.collect.ensures.collected in
    (x, y, has, wrote t.lock g.guard x y has, answer)
