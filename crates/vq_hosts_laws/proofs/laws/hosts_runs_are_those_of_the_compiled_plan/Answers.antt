use Rattle.vq_hosts_laws.proofs.SameHostsRuns.{hosts_run_comes, comes_as_hosts_run}
use Rattle.vq_hosts_laws.proofs.laws.hosts_runs_are_those_of_the_compiled_plan.Goals as goal

pub returns : goal.returns
returns c text told script steps tells same = (
  hosts_run_comes text told script tells same steps,
  comes_as_hosts_run text told script tells same steps,
)
