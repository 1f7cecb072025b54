use Rattle.std.proofs.Common.{refl}
use Rattle.vq_lock.proofs.Cited.{wrote}
use Rattle.vq_timeline.proofs.Locking.{held_shelf, still_held}
use Rattle.vq_timeline.proofs.timeline.ShelfGuard.place_of.Goals as goal

pub returns-clause-held : goal.returns-clause-held
returns-clause-held c =
    let b = c.args.board.now in
    let t = c.args.of.now in
    let g = c.args.self.now in
    let x = c.content.result.now in
    let has = c.content.ensures.value in
    still_held b t g x x c.requires.held has refl (held_shelf b t g x c.requires.held has).1

pub returns-clause-place : goal.returns-clause-place
returns-clause-place c =
    let x = c.content.result.now in
    let has = c.content.ensures.value in
    (x, x, has, wrote c.args.of.now.lock c.args.self.now.guard x x has, (c.place_of.ensures, refl))
