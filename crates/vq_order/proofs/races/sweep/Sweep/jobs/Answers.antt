use Rattle.std.proofs.Common.{◌≡◌, ◌+◌, [], ℕ, List, take, get_or, subst, ◌∙◌}
use Rattle.std.proofs.lemmas.Bool.{false≢true}
use Rattle.std.proofs.lemmas.List.{take_all}
use Rattle.vq_model.specs.Plan.{commands_of}
use Rattle.vq_model.specs.SlowRun.{slow_order}
use Rattle.vq_order.specs.CommandCells.{TouchesAmong, TouchesIn}
use Rattle.vq_order.specs.Swept.{Sweeps}
use Rattle.vq_clocks.proofs.Cited.{slow_at}
use Rattle.vq_order.proofs.SweptCells.{sweeps_none, sweeps_then}
use Rattle.vq_order.proofs.SweptRaces.{in_more}
use Rattle.vq_order.proofs.races.sweep.Sweep.jobs.Goals as goal

pub loop-j-init : goal.loop-j-init
loop-j-init c = sweeps_none c.args.self.now.order.now c.args.cells.now (TouchesIn c.args.self.now.order.now c.args.self.now.cuts.now c.args.self.now.count []) c.requires.fits.kept (λ k j w t. false≢true t.in_list)

pub job-requires-clause-exists : goal.job-requires-clause-exists
job-requires-clause-exists c = (slow_at c.args.self.now.order.now c.slow_order-j-items.result.now c.slow_order-j-items.ensures.value c.loop-j.j-index c.loop-j-test.true).0

pub loop-j-preserved : goal.loop-j-preserved
loop-j-preserved c =
    let p = c.args.self.now.order.now in
    let cuts = c.args.self.now.cuts.now in
    let count = c.args.self.now.count in
    let xs = c.slow_order-j-items.result.now in
    let i = c.loop-j.j-index in
    sweeps_then p c.args.cells.now c.loop-j.cells c.job.new.cells (TouchesIn p cuts count (take i xs)) (TouchesAmong p cuts count (commands_of p (get_or xs i 0))) (TouchesIn p cuts count (take (i + 1) xs)) c.loop-j.invariant c.in_ok-job.ensures (in_more p cuts count xs i c.loop-j-test.true)

pub returns-clause-swept : goal.returns-clause-swept
returns-clause-swept c =
    let p = c.args.self.now.order.now in
    let items = c.slow_order-j-items.result.now in
    let all : take c.loop-j.j-index items ≡ slow_order p = take_all c.loop-j.j-index items c.loop-j-test.false ∙ c.slow_order-j-items.ensures.value in
    subst (λ (xs : List ℕ). Sweeps p c.args.cells.now c.loop-j.cells (TouchesIn p c.args.self.now.cuts.now c.args.self.now.count xs)) all c.loop-j.invariant
