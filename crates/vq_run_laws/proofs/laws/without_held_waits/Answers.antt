use Rattle.vq_order_laws.proofs.Cited.{command_order, job_order}
use Rattle.vq_run_laws.proofs.PlacesReached.{started_reached}
use Rattle.vq_run_laws.proofs.laws.without_held_waits.Goals as goal

pub returns-clause-order : goal.returns-clause-order
returns-clause-order c p n i j d = (job_order p i j d, command_order p n i j d)

pub returns-clause-reached : goal.returns-clause-reached
returns-clause-reached c p n steps run j h = started_reached p n steps run j h
