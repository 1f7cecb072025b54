use Rattle.std.proofs.Common.{refl, sym, ap, subst, ◌∙◌}
use Rattle.vq_model.specs.declared.script.Pair.{Pair}
use Rattle.vq_model.specs.declared.statement.Form.TheVariants.{Plain}
use Rattle.vq_blocks.specs.declared.block.ThreadStep.TheVariants.{Signal}
use Rattle.vq_blocks.specs.Blocks.{Told}
use Rattle.vq_hosts.specs.HasThreads.{HasThreads}
use Rattle.vq_hosts.proofs.StepKinds.{signal_tested, signal_told}
use Rattle.vq_hosts.proofs.block_lines.take_signal.Goals as goal

pub returns-in-Some : goal.returns-in-Some
returns-in-Some c = λ told first hr ht of_block p form. (
  refl,
  signal_tested told c.args.threads.now first c.args.timeline.now c.args.value.now c.args.plain c.is_name.result
      c.timeline-semaphore.result c.numeral-payload.result c.is_none.result c.is_none-2.result c.len.result ht
      of_block form p c.is_name.ensures (c.timeline-semaphore.ensures Plain told.rest hr) c.numeral-payload.ensures
      c.is_none.ensures c.is_none-2.ensures (c.len.ensures ∙ c.args.threads.now.batches.ok.0)
      ∙ sym c.in-Some.ensures,
)

pub returns : goal.returns
returns c = λ told first hr ht of_block p form.
    let semaphore = c.in-Some-semaphore.semaphore in
    let payload = c.in-Some-payload.value in
    let pair : Pair = record { semaphore = semaphore; value = payload } in
    let after = signal_told told c.args.number first c.args.timeline.now c.args.value.now semaphore payload of_block
    form (sym (c.timeline-semaphore.ensures Plain told.rest hr) ∙ c.in-Some-semaphore.is)
    (sym c.numeral-payload.ensures ∙ c.in-Some-payload.is) in (
      signal_tested told c.args.threads.now first c.args.timeline.now c.args.value.now c.args.plain c.is_name.result
          c.timeline-semaphore.result c.numeral-payload.result c.is_none.result c.is_none-2.result c.len.result ht
          of_block form p c.is_name.ensures (c.timeline-semaphore.ensures Plain told.rest hr) c.numeral-payload.ensures
          c.is_none.ensures c.is_none-2.ensures (c.len.ensures ∙ c.args.threads.now.batches.ok.0)
          ∙ sym c.in_default.ensures,
      subst (λ (t : Told). HasThreads t c.take.new.self) (sym after)
          (c.in_ok-take.ensures told (Signal pair) ht c.new.ensures.items c.in_ok-signals.ensures),
      ap (λ (t : Told). t.rest) after,
    )
