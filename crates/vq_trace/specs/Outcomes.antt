-- What reading a trace gives: what the definition gives, or that memory ran out.
use Rattle.std.specs.Prelude.{ℕ, ◌≡◌, Result, Ok, Err}
use Rattle.vq_given.specs.declared.given.GivenTrace.{GivenTrace}
use Rattle.vq_given.specs.declared.given.TraceFault.{TraceFault}
use Rattle.vq_given.specs.declared.given.TraceFault.TheVariants.{At, Memory}

-- A call gives what reading gives: the trace, or its first faulty line. Want of memory says nothing.
abbrev pub Gives : Result GivenTrace TraceFault → Result GivenTrace ℕ → Type 0
Gives (Ok trace) read = read ≡ Ok trace
Gives (Err (At n)) read = read ≡ Err n
Gives (Err Memory) read = Unit {0}
