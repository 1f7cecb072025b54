-- What other crates may cite of this one. All other files of proofs are private to it.
pub use Rattle.vq_hosts_laws.proofs.SameHostsRuns.{hosts_run_comes, comes_as_hosts_run}
pub use Rattle.vq_hosts_laws.proofs.SameRuns.{same_runs}
