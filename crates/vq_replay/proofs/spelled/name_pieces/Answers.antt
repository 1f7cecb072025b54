use Rattle.std.proofs.Common.{List, ap, arith, length}
use Rattle.vq_model.specs.declared.script.Queue.{Queue}
use Rattle.vq_model.specs.Naming.{queue_name}
use Rattle.vq_replay.proofs.PieceLists.{all_there, first_none, no_name, one_more}
use Rattle.vq_replay.proofs.spelled.name_pieces.Goals as goal

pub loop-queue-init : goal.loop-queue-init
loop-queue-init c =
    first_none (queue_name c.args.script.now) c.in_ok-pieces.pieces.items (c.in_ok-pieces.ensures {u = tt}).items

pub loop-queue-preserved : goal.loop-queue-preserved
loop-queue-preserved c =
    one_more (queue_name c.args.script.now) c.loop-queue.queue c.loop-queue.pieces.items c.push.new.self.items c.in-Some.piece c.loop-queue.invariant
    (c.in-Some.ensures {u = tt}) (c.in_ok-push.ensures {u = tt}).items

pub returns : goal.returns
returns c =
    all_there (queue_name c.args.script.now) c.loop-queue.queue c.loop-queue.pieces.items c.loop-queue.invariant
    (λ k past. no_name c.args.script.now k
    (let past_all = c.loop-queue-test.false in
    let count = ap (λ (xs : List Queue). length xs) c.as_slice-queues.ensures in omega arith))
