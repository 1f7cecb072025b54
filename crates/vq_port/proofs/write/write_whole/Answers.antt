use Rattle.std.proofs.Common.{◌+◌, arith}
use Rattle.vq_port.proofs.Appending.{tells_more, appends_rest, rest_behind, rest_length}
use Rattle.vq_port.proofs.write.write_whole.Goals as goal

pub loop-rest-preserved : goal.loop-rest-preserved
loop-rest-preserved g c =
    let before = c.loop-rest.invariant in
    let count = c.in_ok-count.count in record {
      counted = omega (arith, c.write.ensures.counted);
      done = before.done + count;
      within = rest_length c.args.bytes.now c.loop-rest.rest.now before.done count before.within before.behind c.in_ok-count.ensures.at_most;
      behind = rest_behind c.args.bytes.now c.loop-rest.rest.now before.done count before.behind;
      written = appends_rest c.args.bytes.now c.loop-rest.rest.now before.done count _ _ _ before.behind before.written c.in_ok-count.ensures.appends;
      tells = tells_more before.done count _ _ _ _ _ _ before.tells c.in_ok-count.ensures.tells;
    }
