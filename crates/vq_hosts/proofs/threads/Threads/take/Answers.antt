use Rattle.std.proofs.Common.{◌≡◌, ◌<◌, ◌+◌, ◌-◌, [], ◌∷◌, ◌++◌, None, length, arith, sym, ap, ◌∙◌}
use Rattle.std.proofs.lemmas.List.{length-map}
use Rattle.vq_blocks.specs.declared.block.ThreadLine.{ThreadLine}
use Rattle.vq_blocks.specs.Compiled.{queue_of_thread}
use Rattle.vq_hosts.proofs.GrownThreads.{batches_with_step, queues_with_step}
use Rattle.vq_hosts.proofs.threads.Threads.take.Goals as goal

pub returns : goal.returns
returns c = λ told step h w g.
    let line : ThreadLine = record { line = c.args.number; step = step } in
    let many = length-map told.threads queue_of_thread in
    let same : length c.args.self.now.queues.items ≡ length told.threads = ap length h.all_queues ∙ many in
    let within = c.args.self.now.some c.requires.inside in
    let some : 0 < length told.threads = omega arith in
    let long = c.len.ensures in
    let last : c.len.result - 1 ≡ 0 + (length told.threads - 1) = omega arith in
    record {
      all_queues = h.all_queues ∙ sym (queues_with_step told.threads line);
      all_batches = c.in_ok-push.ensures.items
          ∙ (λ i. h.all_batches i
          ++ record {
            line = c.args.number;
            queue = last i;
            waits = (c.of.ensures ∙ w) i;
            commands = (c.of-2.ensures ∙ c.new.ensures.items) i;
            signals = (c.of-3.ensures ∙ g) i;
            fence = None;
          } ∷ [])
          ∙ sym (batches_with_step 0 told.threads line some);
      is_inside = h.is_inside;
    }
