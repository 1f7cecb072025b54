use Rattle.std.proofs.Common.{◌+◌, ℕ, List, eqb, length, sym, ap, subst, arith}
use Rattle.std.proofs.lemmas.List.Filters.{dedup_is}
use Rattle.vq_model.specs.Plan.{Plan}
use Rattle.vq_order.specs.CellRanges.{later_starts, HasBuffers}
use Rattle.vq_order.specs.CommandCells.{HaveStarts}
use Rattle.vq_order.proofs.CutLaws.{buffers_stay, cuts_from, more_starts}
use Rattle.vq_order.proofs.races.cuts.make_cuts.Goals as goal

pub loop-c-init : goal.loop-c-init
loop-c-init c = (c.in_ok-cuts.ensures, λ i a l u. absurd (omega arith))

pub command_access-requires : goal.command_access-requires
command_access-requires c =
    let n = ap (λ (q : Plan). length q.commands) c.plan.ensures.value in
    let k = c.commands-c-end.ensures in
    let t = c.loop-c-test.true in
    omega arith

pub loop-c-preserved : goal.loop-c-preserved
loop-c-preserved c =
    let p = c.args.order.now in
    let plan = c.plan.ensures.complete.plan in
    let xs = c.loop-c.cuts.items in
    let a = c.command_access.result in
    let more = later_starts c.args.buffers a in
    subst (λ (ys : List ℕ). HasBuffers c.args.buffers ys × HaveStarts p (c.loop-c.c + 1) ys) (sym c.in_ok-push_starts.ensures)
    (buffers_stay c.args.buffers xs more c.loop-c.invariant.0, more_starts p plan c.args.buffers c.loop-c.c xs a c.loop-c.invariant.0 c.command_access.ensures c.loop-c.invariant.1)

pub returns : goal.returns
returns c =
    let p = c.args.order.now in
    let n = ap (λ (q : Plan). length q.commands) c.plan.ensures.value in
    let k = c.commands-c-end.ensures in
    let t = c.loop-c-test.false in
    cuts_from p c.plan.ensures.complete.plan c.loop-c.cuts.items c.sort_unstable.new.self.items c.dedup.new.self.items
    (λ i a l u. c.loop-c.invariant.1 i a (omega arith) u) c.sort_unstable.ensures.permutation c.sort_unstable.ensures.sorted (dedup_is eqb c.sort_unstable.new.self.items c.dedup.new.self.items c.dedup.ensures.filtered)
