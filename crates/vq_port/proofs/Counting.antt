-- Counts of faults over several calls.
use Rattle.std.proofs.Common.{ℕ, ◌≤◌, inl, inr, arith}
use Rattle.vq_port.specs.Faults.{Rose}

-- a count that never fell, and then rose
pub rose_later : (a b c : ℕ) → a ≤ b → Rose b c → Rose a c
rose_later a b c l (inl r) = inl (omega arith)
rose_later a b c l (inr e) = inr e
