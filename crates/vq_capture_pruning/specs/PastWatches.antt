-- What steps left, of which nothing was left out.
use Rattle.vq_capture_check.specs.Watching.{Watched, nothing_watched, watch_with}
use Rattle.vq_capture_pruning.specs.declared.past_told.PastTold.{PastTold, NothingTold, More'}

abbrev pub past_watched : PastTold → Watched
past_watched NothingTold = nothing_watched
past_watched (More' shape before told) = watch_with (past_watched before) told.value
