use Rattle.std.proofs.Common.{List, ℕ, sym, ap, ◌∙◌, subst}
use Rattle.vq_model.specs.FittingCommands.{HasSizes}
use Rattle.vq_model.specs.Plan.{Plan}
use Rattle.vq_model.specs.SlowRun.{final}
use Rattle.vq_model.specs.ValidScripts.{sizes_of}
use Rattle.vq_transfer.proofs.Cited.{has_own_sizes}
use Rattle.vq_board_laws.specs.declared.view.Told.{Told}
use Rattle.vq_board_laws.specs.Ends.{IsFoldOfRun, IsToldOutput}
use Rattle.vq_board.specs.declared.parts.Pass.{Pass}
use Rattle.vq_board.specs.Named.{view}
use Rattle.vq_board.proofs.ClosedEnds.{closed_ends}
use Rattle.vq_board.proofs.parts.Board.close.Goals as goal

pub returns-clause-folded : goal.returns-clause-folded
returns-clause-folded c =
    let whole = closed_ends c.one_result.ensures.lawful c.run_gives_output.ensures.lawful c.args.self.table.shared.key _ c.args.host.seat.id _ c.args.host.seat.me.0 _ _ _ _ (ap (λ t. t.shared.key) c.take_apart-table.ensures.table) (ap (λ s. s.id) c.into_seat-seat.ensures) (ap (λ s. s.me.0) c.into_seat-seat.ensures) c.requires.host c.requires.all c.close_with-closed.ensures.values.2 c.take-buffers.ensures.value in
    subst (λ (told : List Told). IsFoldOfRun c.args.self.table.shared.key told c.take-buffers.result.buffers) (sym (ap (λ (x : Pass). (view x).told) c.of-host_now.ensures)) whole.0

pub returns-clause-whole : goal.returns-clause-whole
returns-clause-whole c = (closed_ends c.one_result.ensures.lawful c.run_gives_output.ensures.lawful c.args.self.table.shared.key _ c.args.host.seat.id _ c.args.host.seat.me.0 _ _ _ _ (ap (λ t. t.shared.key) c.take_apart-table.ensures.table) (ap (λ s. s.id) c.into_seat-seat.ensures) (ap (λ s. s.me.0) c.into_seat-seat.ensures) c.requires.host c.requires.all c.close_with-closed.ensures.values.2 c.take-buffers.ensures.value).1

pub returns-clause-output : goal.returns-clause-output
returns-clause-output c =
    let whole = closed_ends c.one_result.ensures.lawful c.run_gives_output.ensures.lawful c.args.self.table.shared.key _ c.args.host.seat.id _ c.args.host.seat.me.0 _ _ _ _ (ap (λ t. t.shared.key) c.take_apart-table.ensures.table) (ap (λ s. s.id) c.into_seat-seat.ensures) (ap (λ s. s.me.0) c.into_seat-seat.ensures) c.requires.host c.requires.all c.close_with-closed.ensures.values.2 c.take-buffers.ensures.value in
    subst (λ (told : List Told). IsToldOutput c.args.self.table.shared.key told c.take-buffers.result.buffers) (sym (ap (λ (x : Pass). (view x).told) c.of-host_now.ensures)) whole.2

pub returns-clause-sizes : goal.returns-clause-sizes
returns-clause-sizes c =
    let whole = closed_ends c.one_result.ensures.lawful c.run_gives_output.ensures.lawful c.args.self.table.shared.key _ c.args.host.seat.id _ c.args.host.seat.me.0 _ _ _ _ (ap (λ t. t.shared.key) c.take_apart-table.ensures.table) (ap (λ s. s.id) c.into_seat-seat.ensures) (ap (λ s. s.me.0) c.into_seat-seat.ensures) c.requires.host c.requires.all c.close_with-closed.ensures.values.2 c.take-buffers.ensures.value in
    subst (λ (sizes : List ℕ). HasSizes sizes c.take-buffers.result.buffers) whole.3 (has_own_sizes c.take-buffers.result.buffers)

pub invariant_of-result : goal.invariant_of-result
invariant_of-result c =
    let whole = closed_ends c.one_result.ensures.lawful c.run_gives_output.ensures.lawful c.args.self.table.shared.key _ c.args.host.seat.id _ c.args.host.seat.me.0 _ _ _ _ (ap (λ t. t.shared.key) c.take_apart-table.ensures.table) (ap (λ s. s.id) c.into_seat-seat.ensures) (ap (λ s. s.me.0) c.into_seat-seat.ensures) c.requires.host c.requires.all c.close_with-closed.ensures.values.2 c.take-buffers.ensures.value in
    let plan = ap (λ s. s.value) c.take_apart-table.ensures.plan ∙ c.args.self.planned in
    record { whole = whole.1 ∙ sym (ap final plan); sized = whole.3 ∙ sym (ap (λ (p : Plan). sizes_of p.script) plan) }
