use Rattle.vq_lock.proofs.Cited.{wrote}
use Rattle.vq_board.specs.Named.{plan_of}
use Rattle.vq_timeline_laws.specs.Calls.{HasTaken, IsTakeRefused}
use Rattle.vq_timeline.specs.Named.{AskedBy, state_of}
use Rattle.vq_timeline.proofs.Locking.{if_ok, if_err, still_held, with_shelf}
use Rattle.vq_timeline.proofs.timeline.ShelfGuard.take_for.Goals as goal

pub returns-clause-held : goal.returns-clause-held
returns-clause-held c =
    still_held c.args.board.now c.args.of.now c.args.self.now c.content.result.now c.take_for.new.self c.requires.held
    c.content.ensures.value c.take_for.ensures.chain c.take_for.ensures.shelf

pub returns-clause-taken : goal.returns-clause-taken
returns-clause-taken c =
    let t = c.args.of.now in
    let g = c.args.self.now in
    let p = plan_of c.args.board.now in
    let x = c.content.result.now in
    let y = c.take_for.new.self in
    let has = c.content.ensures.value in
    if_ok c.take_for.result (HasTaken p (state_of x) (state_of y) c.args.op)
    (λ a. AskedBy t g (with_shelf g y) (λ x y. HasTaken p (state_of x) (state_of y) c.args.op a))
    (λ a h. (x, y, has, wrote t.lock g.guard x y has, h)) c.take_for.ensures.taken

pub returns-clause-refused : goal.returns-clause-refused
returns-clause-refused c =
    let t = c.args.of.now in
    let g = c.args.self.now in
    let p = plan_of c.args.board.now in
    let x = c.content.result.now in
    let y = c.take_for.new.self in
    let has = c.content.ensures.value in
    if_err c.take_for.result (IsTakeRefused p (state_of x) (state_of y) c.args.op)
    (λ e. AskedBy t g (with_shelf g y) (λ x y. IsTakeRefused p (state_of x) (state_of y) c.args.op e))
    (λ e h. (x, y, has, wrote t.lock g.guard x y has, h)) c.take_for.ensures.refused
