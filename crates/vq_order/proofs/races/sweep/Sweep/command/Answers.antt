use Rattle.std.proofs.Common.{true, inl, inr}
use Rattle.std.proofs.lemmas.Result.{on_ok_weaker}
use Rattle.vq_order.specs.Swept.{ReadsCell, TouchesBy, TouchesSpan}
use Rattle.vq_order.proofs.SweptCells.{sweeps_then}
use Rattle.vq_order.proofs.races.sweep.Sweep.command.Goals as goal

pub returns : goal.returns
returns c =
    let cuts = c.args.self.now.cuts.now in
    let a = c.args.access.now in
    on_ok_weaker c.range.result (λ s. sweeps_then c.args.self.now.order.now c.args.cells.now c.read.new.cells c.range.new.cells (ReadsCell cuts a) (TouchesSpan cuts a.written a.by true) (TouchesBy cuts a) c.in_ok-read.ensures s (λ k j w m. elim m [ inl v ↦ inr v | inr v ↦ inl v ])) c.range.ensures
