use Rattle.std.proofs.Common.{◌≡◌, ℕ, length, Some, None, subst, arith}
use Rattle.vq_actor.proofs.Slots.{AreNone, slot_at, first_is, nothing_held, one_none_more}
use Rattle.vq_actor.proofs.held.first_held.Goals as goal

pub returns-in-Some : goal.returns-in-Some
returns-in-Some c =
    let xs = c.args.held.now in
    first_is xs c.loop-k.k c.in-Some.reference c.loop-k.invariant
    (slot_at xs c.loop-k.k (Some c.in-Some.reference) c.loop-k-test.true c.in-Some.is)

pub loop-k-preserved : goal.loop-k-preserved
loop-k-preserved c =
    let xs = c.args.held.now in
    one_none_more xs c.loop-k.k c.loop-k.invariant (slot_at xs c.loop-k.k None c.loop-k-test.true c.in-None.is)

pub returns : goal.returns
returns c =
    let xs = c.args.held.now in
    let at_end : c.loop-k.k ≡ length xs = omega (arith, c.loop-k.auto.k-end, c.loop-k-test.false) in
    nothing_held xs (subst (λ (k : ℕ). AreNone k xs) at_end c.loop-k.invariant)
