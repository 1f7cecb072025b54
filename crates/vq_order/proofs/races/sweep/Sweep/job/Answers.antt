use Rattle.std.proofs.Common.{◌≡◌, ◌+◌, [], ℕ, List, true, take, get_or, sym, subst, ap, ◌∙◌}
use Rattle.std.proofs.lemmas.Bool.{false≢true}
use Rattle.std.proofs.lemmas.List.{take_all}
use Rattle.vq_ground.proofs.Gets.{has_at}
use Rattle.vq_model.specs.Plan.{Plan, commands_of}
use Rattle.vq_ground.specs.Lists.{has}
use Rattle.vq_order.specs.Accessed.{IsAccess}
use Rattle.vq_order.specs.CommandCells.{TouchesAmong}
use Rattle.vq_order.specs.declared.races.cells.Cell.{Cell}
use Rattle.vq_order.specs.Swept.{Sweeps, TouchesBy}
use Rattle.vq_order.proofs.SweptCells.{sweeps_none, sweeps_own, sweeps_then}
use Rattle.vq_order.proofs.SweptRaces.{among_more, among_none}
use Rattle.vq_order.proofs.races.sweep.Sweep.job.Goals.{then-c-self+in_ok-command, else-c-self}
use Rattle.vq_order.proofs.races.sweep.Sweep.job.Goals as goal

pub loop-c-init : goal.loop-c-init
loop-c-init c = sweeps_none c.args.self.now.order.now c.args.cells.now (TouchesAmong c.args.self.now.order.now c.args.self.now.cuts.now c.args.self.now.count []) c.requires.fits.kept (λ k j w t. false≢true t.listed)

pub access_of-requires-clause-own : goal.access_of-requires-clause-own
access_of-requires-clause-own c =
    let items = c.commands_of-c-items.result.now in
    let e = get_or items c.loop-c.c-index 0 in
    subst (λ (xs : List ℕ). has xs e ≡ true) c.commands_of-c-items.ensures (has_at items c.loop-c.c-index c.loop-c-test.true)

pub loop-c-preserved : goal.loop-c-preserved
loop-c-preserved c =
    let p = c.args.self.now.order.now in
    let plan = c.plan-plan.ensures.complete.plan in
    let cuts = c.args.self.now.cuts.now in
    let count = c.args.self.now.count in
    let xs = c.commands_of-c-items.result.now in
    let i = c.loop-c.c-index in
    let more = TouchesAmong p cuts count (take (i + 1) xs) in
    elim c.if-c-self.branch [
      | then-c-self+in_ok-command w ↦
          let a = w.access_of.result in
          let is = subst (λ (q : Plan). IsAccess q (get_or xs i 0) a) c.plan-plan.ensures.value w.access_of.ensures in
          subst (λ (cs : List Cell). Sweeps p c.args.cells.now cs more) (sym w.cells-is)
          (sweeps_then p c.args.cells.now c.loop-c.cells w.command.new.cells (TouchesAmong p cuts count (take i xs)) (TouchesBy cuts a) more c.loop-c.invariant w.in_ok-command.ensures (among_more p plan cuts count xs i a c.loop-c-test.true is))
      | else-c-self w ↦
          let past = w.if-c-self.false in
          subst (λ (cs : List Cell). Sweeps p c.args.cells.now cs more) (sym w.cells-is)
          (sweeps_own p c.args.cells.now c.loop-c.cells (TouchesAmong p cuts count (take i xs)) more c.loop-c.invariant (among_none p cuts count xs i c.loop-c-test.true past))
    ]

pub returns : goal.returns
returns c =
    let p = c.args.self.now.order.now in
    let items = c.commands_of-c-items.result.now in
    let all : take c.loop-c.c-index items ≡ commands_of p c.args.j = take_all c.loop-c.c-index items c.loop-c-test.false ∙ (c.commands_of-c-items.ensures ∙ ap (λ (q : Plan). commands_of q c.args.j) c.plan-plan.ensures.value) in
    subst (λ (xs : List ℕ). Sweeps p c.args.cells.now c.loop-c.cells (TouchesAmong p c.args.self.now.cuts.now c.args.self.now.count xs)) all c.loop-c.invariant
