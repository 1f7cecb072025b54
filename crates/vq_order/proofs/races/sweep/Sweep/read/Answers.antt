use Rattle.std.proofs.Common.{◌≡◌, false, Some, None, sym, ◌∙◌, subst}
use Rattle.std.proofs.lemmas.Result.{on_ok_weaker}
use Rattle.vq_order.specs.Swept.{ReadsCell, TouchesSpan}
use Rattle.vq_order.proofs.SweptCells.{sweeps_own, sweeps_none}
use Rattle.vq_order.proofs.races.sweep.Sweep.read.Goals as goal

pub returns-in-Some : goal.returns-in-Some
returns-in-Some c =
    let cuts = c.args.self.now.cuts.now in
    let a = c.args.access.now in
    on_ok_weaker c.range.result (λ s. sweeps_own c.args.self.now.order.now c.args.cells.now c.range.new.cells (TouchesSpan cuts c.in-Some.read a.by false) (ReadsCell cuts a) s (λ k j w m.
    let e : Some m.span ≡ Some c.in-Some.read = sym m.is_read ∙ c.in-Some.is in
    let q : m.span ≡ c.in-Some.read = cc in
    subst (λ s. TouchesSpan cuts s a.by false k j w) q m.touch)) c.range.ensures

pub returns-in-None : goal.returns-in-None
returns-in-None c =
    sweeps_none c.args.self.now.order.now c.args.cells.now (ReadsCell c.args.self.now.cuts.now c.args.access.now) c.requires.fits.kept (λ k j w m. let e : None ≡ Some m.span = sym c.in-None.is ∙ m.is_read in cc)
