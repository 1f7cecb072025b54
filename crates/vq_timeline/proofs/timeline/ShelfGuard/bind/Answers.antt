use Rattle.vq_lock.proofs.Cited.{wrote}
use Rattle.vq_board.specs.Named.{plan_of}
use Rattle.vq_timeline_laws.specs.Calls.{HasBound}
use Rattle.vq_timeline.specs.Answers.{IsBindRefused}
use Rattle.vq_timeline.specs.Named.{AskedBy, state_of}
use Rattle.vq_timeline.proofs.Locking.{if_ok, if_err, still_held, with_shelf}
use Rattle.vq_timeline.proofs.timeline.ShelfGuard.bind.Goals as goal

pub returns-clause-held : goal.returns-clause-held
returns-clause-held c =
    still_held c.args.board.now c.args.of.now c.args.self.now c.content.result.now c.bind.new.self c.requires.held
    c.content.ensures.value c.bind.ensures.chain c.bind.ensures.shelf

pub returns-clause-bound : goal.returns-clause-bound
returns-clause-bound c =
    let t = c.args.of.now in
    let g = c.args.self.now in
    let p = plan_of c.args.board.now in
    let x = c.content.result.now in
    let y = c.bind.new.self in
    let has = c.content.ensures.value in
    if_ok c.bind.result (HasBound p (state_of x) (state_of y) c.args.op)
    (λ a. AskedBy t g (with_shelf g y) (λ x y. HasBound p (state_of x) (state_of y) c.args.op a))
    (λ a h. (x, y, has, wrote t.lock g.guard x y has, h)) c.bind.ensures.bound

pub returns-clause-refused : goal.returns-clause-refused
returns-clause-refused c =
    let t = c.args.of.now in
    let g = c.args.self.now in
    let p = plan_of c.args.board.now in
    let x = c.content.result.now in
    let y = c.bind.new.self in
    let has = c.content.ensures.value in
    if_err c.bind.result (IsBindRefused p (state_of x) (state_of y) c.args.op)
    (λ e. AskedBy t g (with_shelf g y) (λ x y. IsBindRefused p (state_of x) (state_of y) c.args.op e))
    (λ e h. (x, y, has, wrote t.lock g.guard x y has, h)) c.bind.ensures.refused
