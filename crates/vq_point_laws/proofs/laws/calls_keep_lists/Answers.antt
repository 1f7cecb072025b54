use Rattle.vq_point_laws.proofs.NewTimelines.{new_keeps}
use Rattle.vq_point_laws.proofs.Takes.{take_keeps}
use Rattle.vq_point_laws.proofs.Binds.{bind_keeps}
use Rattle.vq_point_laws.proofs.Completions.{complete_keeps}
use Rattle.vq_point_laws.proofs.Freeings.{free_keeps}
use Rattle.vq_point_laws.proofs.laws.calls_keep_lists.Goals as goal

pub returns : goal.returns
returns c = record { opened = new_keeps; take = take_keeps; bind = bind_keeps; complete = complete_keeps; free = free_keeps }
