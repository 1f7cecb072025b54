-- What the steps of a watch left.
use Rattle.vq_capture_check.specs.Watching.{Watched}
use Rattle.vq_capture_pruning.specs.PastWatches.{past_watched}
use Rattle.vq_capture_pruning.specs.declared.pruning_watch.PruningWatch.{PruningWatch}

abbrev pub watched_of : PruningWatch → Watched
watched_of w = past_watched w.past.value
