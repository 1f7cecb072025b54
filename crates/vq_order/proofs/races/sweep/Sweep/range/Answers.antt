use Rattle.std.proofs.Common.{◌≡◌, ◌+◌, get_or, set, inl, inr, arith}
use Rattle.std.proofs.lemmas.Bool.{cases_eq}
use Rattle.std.proofs.lemmas.Option.{slice_get-get_or}
use Rattle.vq_order.specs.Swept.{is_write, TouchesEach, TouchesSpan}
use Rattle.vq_order.proofs.SweepLaws.{itself_known}
use Rattle.vq_order.proofs.SweptCells.{sweeps_none, sweeps_one, sweeps_own, sweeps_then}
use Rattle.vq_order.proofs.races.sweep.Sweep.range.Goals as goal

pub loop-k-init : goal.loop-k-init
loop-k-init c =
    let p = c.args.self.now.order.now in
    let first = c.reach_of-first.result.first in
    let known = itself_known p c.args.by in (
      sweeps_none p c.args.cells.now (TouchesEach first first c.args.by (is_write c.args.touch)) c.requires.fits.kept (λ k j w t. let a = t.from in let b = t.below in omega arith),
      (known, known),
    )

pub loop-k-preserved : goal.loop-k-preserved
loop-k-preserved c =
    let p = c.args.self.now.order.now in
    let cells = c.loop-k.cells in
    let k = c.loop-k.k in
    let l = c.loop-k-test.true in
    let m = c.reach_of-first.ensures.ends in
    let n = c.loop-k.invariant.0.count in
    let f = c.requires.fits.count in
    let first = c.reach_of-first.result.first in
    let by = c.args.by in
    let writes = is_write c.args.touch in
    let here = slice_get-get_or cells k c.index-cells-k.result (omega arith) in
    let one = sweeps_one p cells k by writes (get_or cells k c.index-cells-k.result) c.touch.new.self here c.loop-k.invariant.0.kept c.in_ok-touch.ensures.touches in
    let more = sweeps_then p c.args.cells.now cells (set cells k c.touch.new.self) (TouchesEach first k by writes) (λ i j w. (i ≡ k) × (j ≡ by) × (w ≡ writes)) (TouchesEach first (k + 1) by writes) c.loop-k.invariant.0 one (λ i j w t. elim (cases_eq i k) [
      | inl e ↦ inr (e, t.same_command, t.same_kind)
      | inr d ↦ (let b = t.below in inl (record { from = t.from; below = grind arith; same_command = t.same_command; same_kind = t.same_kind }))
    ]) in
    (more, c.touch.ensures.known)

pub returns : goal.returns
returns c =
    let writes = is_write c.args.touch in
    let e = c.loop-k-test.false in
    sweeps_own c.args.self.now.order.now c.args.cells.now c.loop-k.cells (TouchesEach c.reach_of-first.result.first c.loop-k.k c.args.by writes) (TouchesSpan c.args.self.now.cuts.now c.args.span c.args.by writes) c.loop-k.invariant.0 (λ k j w t.
    let b = c.reach_of-first.ensures.last k t.cell in
    record { from = c.reach_of-first.ensures.first k t.cell; below = omega arith; same_command = t.same_command; same_kind = t.same_kind })
