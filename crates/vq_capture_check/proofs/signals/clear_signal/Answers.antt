use Rattle.vq_capture_check.proofs.PrunedClocks.{told_set}
use Rattle.vq_capture_check.proofs.signals.clear_signal.Goals as goal

pub returns-clause-same : goal.returns-clause-same
returns-clause-same c line lane l =
    told_set line lane c.args.signals.now.items c.args.place c.index_mut.result.now
    (record { line = c.index_mut.result.now.line; signal = c.index_mut.result.now.signal; clock = c.clear.new.clock }) c.requires c.index_mut.ensures.value
    (λ i. record {
      line = c.index_mut.result.now.line;
      signal = c.index_mut.result.now.signal;
      telling = c.clear.ensures line lane l i;
    })
