use Rattle.vq_replay.specs.SpelledWords.{AreFirst}
use Rattle.vq_model.specs.Naming.{queue_name}
use Rattle.vq_replay.proofs.spelled.name_pieces.Given as goal

abbrev pub invariant-loop-queue : goal.invariant-loop-queue
invariant-loop-queue l = AreFirst (queue_name l.script) l.queue l.pieces.items
