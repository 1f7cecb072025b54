use Rattle.std.proofs.Common.{◌≡◌, ◌++◌, take, option_map}
use Rattle.std.specs.List.{filter_map, slice_get}
use Rattle.vq_spec.proofs.edges.push_jobs_of.Given as goal

abbrev pub invariant-loop-op : goal.invariant-loop-op
invariant-loop-op l = l.jobs.items ≡ l.fn.jobs.items
    ++ filter_map (λ e. option_map (λ o. o.job) (slice_get l.ops e)) (take l.op-index l.awaited)
