use Rattle.std.proofs.Common.{refl}
use Rattle.vq_turns.specs.declared.task.Task.TheVariants.{AwaitNeeds}
use Rattle.vq_turns.specs.Programs.{program}
use Rattle.vq_actor.specs.Waits.{met_at}
use Rattle.vq_actor.proofs.Cited.{fits_pass}
use Rattle.vq_board.specs.Named.{view}
use Rattle.vq_access.proofs.Finds.{found_learned, found_past, found_pending, finds_now}
use Rattle.vq_access.proofs.Looking.{learned}
use Rattle.vq_access.proofs.Posting.{counts, here, learned_of, other_finds, true_at}
use Rattle.vq_access.proofs.Waits.{passes_truly}
use Rattle.vq_access.proofs.post.Post.find.Goals as goal

pub pass-requires : goal.pass-requires
pass-requires c = counts c.args.self.now (AwaitNeeds c.requires.needs) c.requires.is_next

pub invariant_of-self : goal.invariant_of-self
invariant_of-self c =
    let x = c.args.self.now in
    let m = c.requires in
    let p = x.ordered.now in
    let y = c.found-found.new.pass in
    let k = found_learned p x.pass.now y c.args.chain c.args.value c.found-found.result c.found-found.ensures in
    let reached = found_past p x.pass.now y c.args.chain c.args.value c.found-found.result c.found-found.ensures
    c.in-Past.is m.needs c.args.need m.need m.at m.chain m.value in
    record {
      planned = x.planned;
      of_board = learned_of x y k;
      locks = x.locks;
      serves = x.serves;
      places = true_at x (view y) (view y) c.pass.new.self (met_at (here x) (here x).holding) refl c.pass.ensures
          (passes_truly x c.plan-lawful.ensures.read c.plan-lawful.ensures.lawful m.needs m.is_next (view y) k.1 m.waiting reached);
      fits = fits_pass (program p x.actor) x.seat.now (AwaitNeeds m.needs) m.is_next x.fits c.pass.new.self
          c.pass.ensures;
      few = x.few;
      finds = other_finds p x.actor c.pass.new.self.place;
    }

pub invariant_of-self-in-Pending : goal.invariant_of-self-in-Pending
invariant_of-self-in-Pending c =
    let x = c.args.self.now in
    let m = c.requires in
    let p = x.ordered.now in
    let y = c.found-found.new.pass in
    let k = found_learned p x.pass.now y c.args.chain c.args.value c.found-found.result c.found-found.ensures in
    let is = found_pending p x.pass.now y c.args.chain c.args.value c.found-found.result c.found-found.ensures
    c.in-Pending.op c.in-Pending.point c.in-Pending.is in
    record {
      planned = x.planned;
      of_board = learned_of x y k;
      locks = x.locks;
      serves = x.serves;
      places = learned x c.plan-lawful.ensures.read c.plan-lawful.ensures.lawful (view y) (view y) refl k.1;
      fits = x.fits;
      few = x.few;
      finds = finds_now p x.actor (here x) m.needs c.args.need c.in-Pending.op c.in-Pending.point c.args.chain
          c.args.value m.need m.is_next m.at m.chain m.value is;
    }

pub invariant_of-self-in-NotYet : goal.invariant_of-self-in-NotYet
invariant_of-self-in-NotYet c =
    let x = c.args.self.now in
    let p = x.ordered.now in
    let y = c.found-found.new.pass in
    let k = found_learned p x.pass.now y c.args.chain c.args.value c.found-found.result c.found-found.ensures in
    record {
      planned = x.planned;
      of_board = learned_of x y k;
      locks = x.locks;
      serves = x.serves;
      places = learned x c.plan-lawful.ensures.read c.plan-lawful.ensures.lawful (view y) (view y) refl k.1;
      fits = x.fits;
      few = x.few;
      finds = other_finds p x.actor (here x);
    }
