-- What compiling a text gives: what it tells, or its first fault, or that memory ran out.
use Rattle.std.specs.Prelude.{ℕ, List}
use Rattle.vq_blocks.specs.BlockReading.{IsFirstHostsFault}
use Rattle.vq_hosts.specs.declared.fault.HostsFault.{HostsFault}
use Rattle.vq_hosts.specs.declared.fault.HostsFault.TheVariants.{At, Memory}

-- A fault is the first one of the text. Want of memory says nothing.
abbrev pub IsFirst : List ℕ → HostsFault → Type 0
IsFirst text (At n kind) = IsFirstHostsFault text n kind
IsFirst text Memory = Unit {0}
