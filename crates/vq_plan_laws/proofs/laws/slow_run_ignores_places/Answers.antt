use Rattle.vq_plan_laws.proofs.PlacesAlike.{ready_whole}
use Rattle.vq_plan_laws.proofs.laws.slow_run_ignores_places.Goals as goal

pub returns : goal.returns
returns c p w done j = ready_whole p w done j
