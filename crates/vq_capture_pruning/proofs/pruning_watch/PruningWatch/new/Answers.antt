use Rattle.std.proofs.Common.{◌∙◌, sym}
use Rattle.vq_capture_check.specs.Watches.{gone_in, watched_of}
use Rattle.vq_capture_pruning.specs.PastWatches.{past_watched}
use Rattle.vq_capture_pruning.proofs.AlikeSteps.{alike_same}
use Rattle.vq_capture_pruning.proofs.pruning_watch.PruningWatch.new.Goals as goal

pub invariant_of-result : goal.invariant_of-result
invariant_of-result c = record {
  alike = λ e. alike_same 0 (gone_in c.new.result) (past_watched c.no_past.result.value) (watched_of c.new.result) (c.no_past.ensures ∙ sym c.new.ensures);
}
