use Rattle.std.proofs.Common.{◌≡◌, ◌∙◌, Some, None, false, rules, sym}
use Rattle.vq_capture_check.specs.Clocks.{says, cells_of}
use Rattle.vq_capture_check.specs.Watching.{clock_of, is_command_access}
use Rattle.vq_capture_check.specs.Watches.{kept_of, signals_of, watched_of}
use Rattle.vq_capture_check.specs.SiteMaps.{sites_of}
use Rattle.vq_capture_check.proofs.Passes.{race_of_pass, left_by_pass}
use Rattle.vq_capture_check.proofs.watch.Watch.take.Goals as goal

pub returns-in-Some-clause-race : goal.returns-in-Some-clause-race
returns-in-Some-clause-race c =
    let clock : is_command_access c.args.b.now.step.statement ≡ false →
    says c.in_ok-clock.clock.items ≡ clock_of (cells_of c.args.self.now.cells) (kept_of c.args.self.now.lines.items) (signals_of c.args.self.now.signals.items) c.in_ok-at.at c.args.b.now = search rules in
    race_of_pass (watched_of c.args.self.now) c.args.b.now c.as_step-step.result.now c.in_ok-at.at c.deref-4.result.now c.in_ok-clock.clock.items (Some c.in-Some.first)
    c.as_step-step.ensures c.in_ok-at.ensures.1 c.deref-4.ensures.value clock
    (sym c.in-Some.is ∙ c.in_ok-first.ensures)

pub returns-clause-race : goal.returns-clause-race
returns-clause-race c =
    let clock : is_command_access c.args.b.now.step.statement ≡ false →
    says c.in_ok-clock.clock.items ≡ clock_of (cells_of c.args.self.now.cells) (kept_of c.args.self.now.lines.items) (signals_of c.args.self.now.signals.items) c.in_ok-at.at c.args.b.now = search rules in
    let none : None ≡ c.in_ok-first.field-0 = search rules in
    race_of_pass (watched_of c.args.self.now) c.args.b.now c.as_step-step.result.now c.in_ok-at.at c.deref-4.result.now c.in_ok-clock.clock.items None
    c.as_step-step.ensures c.in_ok-at.ensures.1 c.deref-4.ensures.value clock (none ∙ c.in_ok-first.ensures)

pub returns-clause-next : goal.returns-clause-next
returns-clause-next c e =
    let clock : is_command_access c.args.b.now.step.statement ≡ false →
    says c.in_ok-clock.clock.items ≡ clock_of (cells_of c.args.self.now.cells) (kept_of c.args.self.now.lines.items) (signals_of c.args.self.now.signals.items) c.in_ok-at.at c.args.b.now = search rules in
    left_by_pass (watched_of c.args.self.now) (watched_of c.add.new.self) c.args.b.now c.as_step-step.result.now c.in_ok-at.at c.deref-5.result.now c.in_ok-clock.clock.items (sites_of c.lanes_of.new.sites)
    c.as_step-step.ensures c.in_ok-at.ensures.1 c.deref-5.ensures.value clock c.in_ok-at.ensures.0 c.in_ok-add.ensures.added
