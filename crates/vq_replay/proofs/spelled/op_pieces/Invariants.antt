use Rattle.vq_replay.specs.SpelledWords.{AreFirst, words_of_op}
use Rattle.vq_replay.proofs.spelled.op_pieces.Given as goal

abbrev pub invariant-loop-op : goal.invariant-loop-op
invariant-loop-op l = AreFirst (words_of_op l.plan) l.op l.pieces.items
