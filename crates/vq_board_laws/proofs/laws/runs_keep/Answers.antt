use Rattle.vq_plan_laws.proofs.Cited.{plan_well_formed}
use Rattle.vq_board_laws.proofs.RunLaws.{run_laws}
use Rattle.vq_board_laws.proofs.laws.runs_keep.Goals as goal

pub returns : goal.returns
returns c p plan lawful = run_laws p (plan_well_formed p plan) (c.made_as_payloads_say.ensures.lawful p plan lawful) (c.sure_in_time.ensures.lawful p plan lawful)
