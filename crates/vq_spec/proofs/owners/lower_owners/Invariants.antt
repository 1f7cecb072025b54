use Rattle.std.proofs.Common.{◌≡◌, take}
use Rattle.vq_spec.proofs.CommandOwners.{owners_of}
use Rattle.vq_spec.proofs.owners.lower_owners.Given as goal

abbrev pub invariant-loop-j : goal.invariant-loop-j
invariant-loop-j l = l.owners.items ≡ owners_of (take l.j l.fn.script.jobs)
