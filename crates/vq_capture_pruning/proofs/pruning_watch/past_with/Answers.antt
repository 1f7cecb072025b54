use Rattle.std.proofs.Common.{◌∙◌, ap}
use Rattle.vq_capture_check.specs.Watching.{ToldStep, watch_with}
use Rattle.vq_capture_pruning.specs.declared.past_told.PastTold.{PastTold}
use Rattle.vq_capture_pruning.specs.PastWatches.{past_watched}
use Rattle.vq_capture_pruning.proofs.pruning_watch.past_with.Goals as goal

pub returns : goal.returns
returns c =
    ap (λ (p : PastTold). past_watched p) c.of.ensures
    ∙ ap (λ (b : ToldStep). watch_with (past_watched c.args.before.value) b) c.of-told.ensures
