-- What a name stands for, and lines above of which the names alone are asked.
use Rattle.std.specs.Prelude.{ℕ, List}
use Rattle.vq_capture.specs.Context.{Above, Named, nothing_above}
use Rattle.vq_capture_reader.specs.declared.past_names.Thing.{Thing}

abbrev pub thing_of : Named → Thing
thing_of named = record { kind = named.kind; line = named.line }

abbrev pub names_only : List Named → Above
names_only names = record nothing_above { names = names }

-- the same, with the thread that goes on
abbrev pub names_and_thread : List Named → ℕ → Above
names_and_thread names thread = record nothing_above { names = names; thread = thread }
