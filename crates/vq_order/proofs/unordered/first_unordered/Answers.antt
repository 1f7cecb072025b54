use Rattle.std.proofs.Common.{◌≡◌, ℕ, ◌+◌, length, Option, sym, subst, arith}
use Rattle.vq_order.specs.declared.lines.Lines.{Lines}
use Rattle.vq_order.specs.LeastLines.{IsOfFirst, AreLeastOrNone}
use Rattle.vq_order.specs.UnorderedLines.{IsUnorderedIn, IsOvertakenIn}
use Rattle.vq_order.proofs.LineSearches.{Either, first_more, first_more_beside, none_beside}
use Rattle.vq_order.proofs.UnorderedSteps.{all_searched}
use Rattle.vq_order.proofs.unordered.first_unordered.Goals as goal

pub loop-t-preserved : goal.loop-t-preserved
loop-t-preserved c =
    let R = IsUnorderedIn c.args.order.now in
    subst (λ (o : Option Lines). AreLeastOrNone (IsOfFirst R (c.loop-t.t + 1)) o) (sym c.lower-lowest.ensures)
    (first_more R c.loop-t.t c.loop-t.lowest c.unordered_in.result c.loop-t.invariant c.unordered_in.ensures)

pub loop-i-init : goal.loop-i-init
loop-i-init c =
    let p = c.args.order.now in
    let all : c.loop-t.t ≡ length p.chains = (let a = c.loop-t-test.false in let b = c.chains-t-end.ensures.value in let l = c.loop-t.auto.t-end in omega arith) in
    none_beside (IsOfFirst (IsUnorderedIn p) (length p.chains)) (IsOvertakenIn p) c.loop-t.lowest (subst (λ (n : ℕ). AreLeastOrNone (IsOfFirst (IsUnorderedIn p) n) c.loop-t.lowest) all c.loop-t.invariant)

pub loop-i-preserved : goal.loop-i-preserved
loop-i-preserved c =
    let p = c.args.order.now in
    let T = IsOfFirst (IsUnorderedIn p) (length p.chains) in
    let R = IsOvertakenIn p in
    subst (λ (o : Option Lines). AreLeastOrNone (Either T (IsOfFirst R (c.loop-i.i + 1))) o) (sym c.lower-lowest-in-loop-i.ensures)
    (first_more_beside T R c.loop-i.i c.loop-i.lowest c.overtaken_in.result c.loop-i.invariant c.overtaken_in.ensures)

pub returns : goal.returns
returns c =
    let p = c.args.order.now in
    let all : c.loop-i.i ≡ length p.jobs = (let a = c.loop-i-test.false in let b = c.jobs-i-end.ensures in let l = c.loop-i.auto.i-end in omega arith) in
    all_searched p c.chains-t-end.ensures.complete.plan c.loop-i.lowest
    (subst (λ (n : ℕ). AreLeastOrNone (Either (IsOfFirst (IsUnorderedIn p) (length p.chains)) (IsOfFirst (IsOvertakenIn p) n)) c.loop-i.lowest) all c.loop-i.invariant)
