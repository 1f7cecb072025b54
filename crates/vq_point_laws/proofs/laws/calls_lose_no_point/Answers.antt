use Rattle.vq_point_laws.proofs.Takes.{take_same}
use Rattle.vq_point_laws.proofs.Binds.{bind_same}
use Rattle.vq_point_laws.proofs.Completions.{complete_same}
use Rattle.vq_point_laws.proofs.Freeings.{free_same}
use Rattle.vq_point_laws.proofs.laws.calls_lose_no_point.Goals as goal

pub returns : goal.returns
returns c = record { take = take_same; bind = bind_same; complete = complete_same; free = free_same }
