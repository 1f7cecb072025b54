use Rattle.std.proofs.Common.{arith}
use Rattle.vq_replay.specs.SpelledWords.{words_of_op}
use Rattle.vq_replay.proofs.PieceLists.{all_there, first_none, no_words, one_more}
use Rattle.vq_replay.proofs.spelled.op_pieces.Goals as goal

pub loop-op-init : goal.loop-op-init
loop-op-init c =
    first_none (words_of_op c.args.plan.now) c.in_ok-pieces.pieces.items (c.in_ok-pieces.ensures {u = tt}).items

pub loop-op-preserved : goal.loop-op-preserved
loop-op-preserved c =
    one_more (words_of_op c.args.plan.now) c.loop-op.op c.loop-op.pieces.items c.push.new.self.items c.in-Some.piece c.loop-op.invariant
    (c.in-Some.ensures {u = tt}) (c.in_ok-push.ensures {u = tt}).items

pub returns : goal.returns
returns c =
    all_there (words_of_op c.args.plan.now) c.loop-op.op c.loop-op.pieces.items c.loop-op.invariant
    (λ k past. no_words c.args.plan.now k
    (let past_all = c.loop-op-test.false in let count = c.ops-op-end.ensures in omega arith))
