use Rattle.std.proofs.Common.{◌≡◌, ℕ, ◌+◌, ◌<◌, ◌≤◌, Some, sym, ap, ◌∙◌, subst, arith}
use Rattle.std.specs.List.{slice_get}
use Rattle.futures.specs.declared.task.Poll.{Poll}
use Rattle.vq_board.specs.Named.{view}
use Rattle.vq_payload.specs.Reading.{HasRead}
use Rattle.vq_poll.specs.declared.awaited.Awaited.{Awaited}
use Rattle.vq_poll.specs.declared.pairs.Met.{Met}
use Rattle.vq_poll.specs.declared.pairs.WaitMode.TheVariants.{All}
use Rattle.vq_poll.specs.declared.wait.Wait.{Wait}
use Rattle.vq_poll.specs.Hearing.{HearsBell}
use Rattle.vq_poll.specs.Missing.{AreMissed}
use Rattle.vq_poll.specs.Waiting.{CanWait, HasPolled, plan_in, pairs_in}
use Rattle.vq_poll.specs.Watching.{plan_at}
use Rattle.vq_poll.proofs.Waited.{Looking, looking_more, wait_still, advanced, waits_all, ends_all, missed_all}
use Rattle.vq_poll.proofs.wait.Wait.go_all.Goals as goal

pub returns-then-value-pair-clause-can : goal.returns-then-value-pair-clause-can
returns-then-value-pair-clause-can c =
    let inv = c.loop.invariant in
    let see = c.see-value.ensures in
    wait_still c.loop.self c.loop.pass c.see-value.new.pass inv.none inv.can see.pass see.learned

pub returns-then-value-pair-clause-polled : goal.returns-then-value-pair-clause-polled
returns-then-value-pair-clause-polled c =
    let w0 = c.args.self.now in
    let w = c.loop.self in
    let v = view c.args.pass.now in
    let u = view c.loop.pass in
    let y = c.see-value.new.pass in
    let z = view y in
    let cx = c.loop.cx in
    let cy = c.see-value.new.cx in
    let n = c.see-value.result in
    let inv = c.loop.invariant in
    let see = c.see-value.ensures in
    let x = c.pair.result in
    let at = c.pair.ensures in
    let read = see.payload x at in
    let read0 : HasRead (plan_in w0) x.chain u z n = subst (λ (a : Awaited). HasRead (plan_at a.watched) x.chain u z n) inv.stays.0 read in
    let hears0 : HearsBell cy w0.awaited.watched.bells.now x.chain = subst (λ (a : Awaited). HearsBell cy a.watched.bells.now x.chain) inv.stays.0 (see.heard x at) in
    let at0 : slice_get (pairs_in w0) w.next ≡ Some x = subst (λ (a : Awaited). slice_get a.pairs.items w.next ≡ Some x) inv.stays.0 at in
    let looking = looking_more (plan_in w0) v u z cx cy w0.awaited.watched.bells.now x.chain n inv.looking see.learned.2 read0 hears0 see.kept in
    waits_all w0 v z cy c.requires.all c.requires.none looking

pub returns-then-value-pair-clause-missed : goal.returns-then-value-pair-clause-missed
returns-then-value-pair-clause-missed c =
    let w0 = c.args.self.now in
    let w = c.loop.self in
    let v = view c.args.pass.now in
    let u = view c.loop.pass in
    let y = c.see-value.new.pass in
    let z = view y in
    let cx = c.loop.cx in
    let cy = c.see-value.new.cx in
    let n = c.see-value.result in
    let inv = c.loop.invariant in
    let see = c.see-value.ensures in
    let x = c.pair.result in
    let at = c.pair.ensures in
    let read = see.payload x at in
    let read0 : HasRead (plan_in w0) x.chain u z n = subst (λ (a : Awaited). HasRead (plan_at a.watched) x.chain u z n) inv.stays.0 read in
    let hears0 : HearsBell cy w0.awaited.watched.bells.now x.chain = subst (λ (a : Awaited). HearsBell cy a.watched.bells.now x.chain) inv.stays.0 (see.heard x at) in
    let at0 : slice_get (pairs_in w0) w.next ≡ Some x = subst (λ (a : Awaited). slice_get a.pairs.items w.next ≡ Some x) inv.stays.0 at in
    let low : n < x.value = c.if-value-pair.true in
    let looking : Looking (plan_in w) v u cx w.awaited.watched.bells.now = subst (λ (a : Awaited). Looking (plan_at a.watched) v u cx a.watched.bells.now) (sym inv.stays.0) inv.looking in
    subst (λ (a : Awaited). AreMissed (plan_at a.watched) All a.pairs.items w.next v z) inv.stays.0
    (missed_all w v u z cx n x inv.can.can_read.board_is at looking see.learned.2 read low)

pub returns-in-Some-clause-can : goal.returns-in-Some-clause-can
returns-in-Some-clause-can c =
    let w0 = c.args.self.now in
    let w = c.loop.self in
    let v = view c.args.pass.now in
    let u = view c.loop.pass in
    let y = c.see-value.new.pass in
    let z = view y in
    let cx = c.loop.cx in
    let cy = c.see-value.new.cx in
    let n = c.see-value.result in
    let inv = c.loop.invariant in
    let see = c.see-value.ensures in
    let x = c.pair.result in
    let at = c.pair.ensures in
    let read = see.payload x at in
    let read0 : HasRead (plan_in w0) x.chain u z n = subst (λ (a : Awaited). HasRead (plan_at a.watched) x.chain u z n) inv.stays.0 read in
    let hears0 : HearsBell cy w0.awaited.watched.bells.now x.chain = subst (λ (a : Awaited). HearsBell cy a.watched.bells.now x.chain) inv.stays.0 (see.heard x at) in
    let at0 : slice_get (pairs_in w0) w.next ≡ Some x = subst (λ (a : Awaited). slice_get a.pairs.items w.next ≡ Some x) inv.stays.0 at in
    let low = c.if-value-pair.false in
    let reached : x.value ≤ n = omega arith in
    let still = wait_still w c.loop.pass y inv.none inv.can see.pass see.learned in
    let can = subst (λ (q : Wait). CanWait q y) (sym c.advance.ensures.after) (advanced w y c.advance.result n x inv.all still at read.known.holds reached c.advance.ensures.answer) in
    can

pub returns-in-Some-clause-polled : goal.returns-in-Some-clause-polled
returns-in-Some-clause-polled c =
    let w0 = c.args.self.now in
    let w = c.loop.self in
    let v = view c.args.pass.now in
    let u = view c.loop.pass in
    let y = c.see-value.new.pass in
    let z = view y in
    let cx = c.loop.cx in
    let cy = c.see-value.new.cx in
    let n = c.see-value.result in
    let inv = c.loop.invariant in
    let see = c.see-value.ensures in
    let x = c.pair.result in
    let at = c.pair.ensures in
    let read = see.payload x at in
    let read0 : HasRead (plan_in w0) x.chain u z n = subst (λ (a : Awaited). HasRead (plan_at a.watched) x.chain u z n) inv.stays.0 read in
    let hears0 : HearsBell cy w0.awaited.watched.bells.now x.chain = subst (λ (a : Awaited). HearsBell cy a.watched.bells.now x.chain) inv.stays.0 (see.heard x at) in
    let at0 : slice_get (pairs_in w0) w.next ≡ Some x = subst (λ (a : Awaited). slice_get a.pairs.items w.next ≡ Some x) inv.stays.0 at in
    subst (λ (m : Met). HasPolled w0 v z cy (Poll.Ready m)) (sym c.in-Some.ensures.answer.1)
    (ends_all w0 v u z cx cy w.next n x c.requires.all c.requires.none at0 inv.looking see.learned.2 read0 hears0 see.kept)

pub loop-preserved : goal.loop-preserved
loop-preserved c =
    let w0 = c.args.self.now in
    let w = c.loop.self in
    let v = view c.args.pass.now in
    let u = view c.loop.pass in
    let y = c.see-value.new.pass in
    let z = view y in
    let cx = c.loop.cx in
    let cy = c.see-value.new.cx in
    let n = c.see-value.result in
    let inv = c.loop.invariant in
    let see = c.see-value.ensures in
    let x = c.pair.result in
    let at = c.pair.ensures in
    let read = see.payload x at in
    let read0 : HasRead (plan_in w0) x.chain u z n = subst (λ (a : Awaited). HasRead (plan_at a.watched) x.chain u z n) inv.stays.0 read in
    let hears0 : HearsBell cy w0.awaited.watched.bells.now x.chain = subst (λ (a : Awaited). HearsBell cy a.watched.bells.now x.chain) inv.stays.0 (see.heard x at) in
    let at0 : slice_get (pairs_in w0) w.next ≡ Some x = subst (λ (a : Awaited). slice_get a.pairs.items w.next ≡ Some x) inv.stays.0 at in
    let looking = looking_more (plan_in w0) v u z cx cy w0.awaited.watched.bells.now x.chain n inv.looking see.learned.2 read0 hears0 see.kept in
    let low = c.if-value-pair.false in
    let reached : x.value ≤ n = omega arith in
    let still = wait_still w c.loop.pass y inv.none inv.can see.pass see.learned in
    let can = subst (λ (q : Wait). CanWait q y) (sym c.advance.ensures.after) (advanced w y c.advance.result n x inv.all still at read.known.holds reached c.advance.ensures.answer) in
    let after = c.advance.ensures.after in record {
      can = can;
      stays = (ap (λ (q : Wait). q.awaited) after ∙ inv.stays.0, ap (λ (q : Wait). q.mode) after ∙ inv.stays.1);
      all = ap (λ (q : Wait). q.mode) after ∙ inv.all;
      none = ap (λ (q : Wait). q.met) after ∙ c.in_default.is;
      place = ap (λ (q : Wait). q.next) after ∙ ap (λ (k : ℕ). k + 1) inv.place;
      looking = looking;
      kept = λ fact h. see.kept fact (inv.kept fact h);
    }
