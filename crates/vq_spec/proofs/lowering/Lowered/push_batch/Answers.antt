use Rattle.std.proofs.Common.{rules, drop, ◌≡◌, ◌+◌, ◌<◌, ◌∙◌, ap, sym, arith, length, refl, map, All, List, subst, ◌++◌, ◌∷◌, []}
use Rattle.std.specs.List.{range_with_len}
use Rattle.vq_ground.proofs.Gets.{whole_new}
use Rattle.vq_model.specs.declared.script.Mark.{Mark}
use Rattle.vq_spec.specs.Counts.{need_by, signals_before}
use Rattle.vq_spec.specs.Fences.{after_batch}
use Rattle.vq_spec.proofs.FenceStates.{states_length}
use Rattle.vq_spec.proofs.LoweredJobs.{is_valid, waits_exist, last_length, commands_fit, signal_count, lowered_push}
use Rattle.vq_spec.proofs.SignalOrder.{counts_length, few_signals, batch_count}
use Rattle.vq_spec.proofs.lowering.Lowered.push_batch.Goals as goal

pub lower_needs-requires-clause-exist : goal.lower_needs-requires-clause-exist
lower_needs-requires-clause-exist c =
    let s = c.args.script.now in
    subst (λ (ms : List Mark). All (λ m. m.semaphore < length s.semaphores) ms)
    (sym c.as_slice.ensures)
    (waits_exist s c.requires.read c.args.j c.args.batch.now c.requires.at c.args.self.now c.requires.kept)

pub lower_needs-requires-clause-counted : goal.lower_needs-requires-clause-counted
lower_needs-requires-clause-counted c =
    ap length c.as_slice-counts.ensures.value
    ∙ counts_length c.args.script.now c.args.self.now.signals c.requires.kept.signals

pub overflow_cast-first : goal.overflow_cast-first
overflow_cast-first c =
    let s = c.args.script.now in
    let within = c.requires.kept.signals.within in
    omega (arith, few_signals s c.requires.read, c.len-first.ensures, c.args.self.now.signals.ops.ok.0)

pub overflow_cast-len : goal.overflow_cast-len
overflow_cast-len c =
    let s = c.args.script.now in
    let within = c.in_ok-push_batch.ensures.kept.within in
    omega (arith, few_signals s c.requires.read, c.len.ensures, c.push_batch.new.self.ops.ok.0)

pub overflow_sub-len : goal.overflow_sub-len
overflow_sub-len c =
    let s = c.args.script.now in
    let more = c.in_ok-push_batch.ensures.more in
    let was = c.requires.kept.operations in
    omega (
      arith,
      batch_count s c.args.j c.args.batch.now c.requires.at,
      c.len-first.ensures,
      c.args.self.now.signals.ops.ok.0,
      c.len.ensures,
      c.push_batch.new.self.ops.ok.0,
    )

pub from-signals-requires : goal.from-signals-requires
from-signals-requires c =
    let s = c.args.script.now in
    let within = c.in_ok-push_batch.ensures.kept.within in
    let was = c.requires.kept.signals.within in
    omega (
      arith,
      few_signals s c.requires.read,
      c.len-first.ensures,
      c.args.self.now.signals.ops.ok.0,
      c.len.ensures,
      c.push_batch.new.self.ops.ok.0,
    )

pub overflow_cast-count : goal.overflow_cast-count
overflow_cast-count c =
    let s = c.args.script.now in
    let fit = commands_fit s c.requires.read c.args.j c.args.batch.now c.requires.at c.args.self.now
    c.requires.kept in
    omega (arith, ap length c.as_slice-2.ensures)

pub index-previous-requires : goal.index-previous-requires
index-previous-requires c =
    let s = c.args.script.now in
    let queue = (is_valid s c.requires.read c.args.j c.args.batch.now c.requires.at c.args.self.now
    c.requires.kept).queue in
    let n = last_length s c.requires.read c.args.j c.args.batch.now c.requires.at c.args.self.now
    c.requires.kept in
    omega (arith, c.args.self.now.last.ok.0)

pub from-commands-requires : goal.from-commands-requires
from-commands-requires c =
    let s = c.args.script.now in
    let fit = commands_fit s c.requires.read c.args.j c.args.batch.now c.requires.at c.args.self.now
    c.requires.kept in
    omega (arith, ap length c.as_slice-2.ensures)

pub index_mut-requires : goal.index_mut-requires
index_mut-requires c =
    let s = c.args.script.now in
    let queue = (is_valid s c.requires.read c.args.j c.args.batch.now c.requires.at c.args.self.now
    c.requires.kept).queue in
    let n = last_length s c.requires.read c.args.j c.args.batch.now c.requires.at c.args.self.now
    c.requires.kept in
    omega (arith, c.args.self.now.last.ok.0)

pub overflow_add-self : goal.overflow_add-self
overflow_add-self c =
    let s = c.args.script.now in
    let fit = commands_fit s c.requires.read c.args.j c.args.batch.now c.requires.at c.args.self.now
    c.requires.kept in
    omega (arith, ap length c.as_slice-2.ensures)

pub take_batch-requires : goal.take_batch-requires
take_batch-requires c = λ m e.
    let s = c.args.script.now in
    let valid = is_valid s c.requires.read c.args.j c.args.batch.now c.requires.at c.args.self.now
    c.requires.kept in
    let inside = (valid.fence m e).exists in
    let n = states_length s c.args.j c.args.self.now.fences.items c.requires.kept.fences in
    omega arith

pub returns : goal.returns
returns c =
    let s = c.args.script.now in
    let x = c.args.self.now in
    let b = c.args.batch.now in
    let at = c.requires.at in
    let first : c.len-first.result ≡ length (signals_before s c.args.j) = c.len-first.ensures
    ∙ (c.args.self.now.signals.ops.ok.0 ∙ c.requires.kept.operations) in
    let last : c.len.result ≡ length (signals_before s (c.args.j + 1)) = c.len.ensures
    ∙ (c.push_batch.new.self.ops.ok.0 ∙ c.in_ok-push_batch.ensures.more) in
    let count = signal_count s c.requires.read c.args.j b at x c.requires.kept c.len-first.result
    c.len.result first last in
    let n = ap length c.as_slice-2.ensures in
    let states = c.take_batch.new.states in
    let size : length states ≡ x.fences.len = search rules in
    let whole = whole_new x.fences.len states (drop (length states) x.fences.items) size in
    lowered_push s c.requires.read c.args.j b at x c.requires.kept _ c.index-previous.result.now
    c.index-previous.result.now c.in_ok-needs.needs c.from-commands.result c.from-signals.result
    c.index-previous.ensures
    (c.in_ok-needs.ensures {u = tt}
    ∙ (λ i. map (need_by s (c.as_slice-counts.ensures.value i)) (c.as_slice.ensures i)))
    (c.from-commands.ensures ∙ ap (range_with_len x.commands) n)
    (c.from-signals.ensures ∙ (λ i. range_with_len (first i) (count i)))
    ((c.in_ok-push.ensures {u = tt}).items ∙ ap (λ job. x.jobs.items ++ job ∷ []) c.batch_job-job.ensures)
    (ap (λ k. x.commands + k) n) refl refl
    (whole ∙ (c.take_batch.ensures ∙ ap (λ ys. after_batch ys b) c.deref_mut.ensures.value))
    c.in_ok-push_batch.ensures.kept (c.in_ok-push_batch.ensures.more)
