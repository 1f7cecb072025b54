use Rattle.std.proofs.Common.{◌≡◌, ◌++◌, take}
use Rattle.std.specs.List.{flat_map}
use Rattle.vq_model.specs.Canonical.{queue_words, line_text}
use Rattle.vq_text.proofs.declarations.push_queues.Given as goal

abbrev pub invariant-loop-queue : goal.invariant-loop-queue
invariant-loop-queue l = l.out.items ≡ l.fn.out.items
    ++ flat_map (λ q. line_text (queue_words q)) (take l.queue-index l.queues)
