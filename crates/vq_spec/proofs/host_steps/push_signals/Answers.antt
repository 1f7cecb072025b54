use Rattle.std.proofs.Common.{◌≡◌, ◌+◌, ◌∙◌, arith, length}
use Rattle.vq_spec.specs.Counts.{signals_before}
use Rattle.vq_spec.proofs.SignalOrder.{few_signals, step_count, step_ops_are}
use Rattle.vq_spec.proofs.host_steps.push_signals.Goals as goal

pub overflow_cast-first : goal.overflow_cast-first
overflow_cast-first c =
    let s = c.args.script.now in
    let within = c.requires.kept.within in
    omega (arith, few_signals s c.requires.read, c.len-first.ensures, c.args.signals.now.ops.ok.0)

pub overflow_cast-len : goal.overflow_cast-len
overflow_cast-len c =
    let s = c.args.script.now in
    let within = c.in_ok-push_step.ensures.kept.within in
    omega (arith, few_signals s c.requires.read, c.len.ensures, c.push_step.new.self.ops.ok.0)

pub overflow_sub-len : goal.overflow_sub-len
overflow_sub-len c =
    let s = c.args.script.now in
    let more = c.in_ok-push_step.ensures.more in
    let was = c.requires.first in
    omega (
      arith,
      step_count s c.args.j c.args.host.now c.requires.at,
      c.len-first.ensures,
      c.args.signals.now.ops.ok.0,
      c.len.ensures,
      c.push_step.new.self.ops.ok.0,
    )

pub from-requires : goal.from-requires
from-requires c =
    let s = c.args.script.now in
    let within = c.in_ok-push_step.ensures.kept.within in
    let was = c.requires.kept.within in
    omega (
      arith,
      few_signals s c.requires.read,
      c.len-first.ensures,
      c.args.signals.now.ops.ok.0,
      c.len.ensures,
      c.push_step.new.self.ops.ok.0,
    )

pub returns-clause-own : goal.returns-clause-own
returns-clause-own c =
    let s = c.args.script.now in
    let first : c.len-first.result ≡ length (signals_before s c.args.j) = c.len-first.ensures
    ∙ (c.args.signals.now.ops.ok.0 ∙ c.requires.first) in
    let last : c.len.result ≡ length (signals_before s (c.args.j + 1)) = c.len.ensures
    ∙ (c.push_step.new.self.ops.ok.0 ∙ c.in_ok-push_step.ensures.more) in
    c.from.ensures
    ∙ step_ops_are s c.args.j c.args.host.now c.requires.at c.len-first.result c.len.result first last
