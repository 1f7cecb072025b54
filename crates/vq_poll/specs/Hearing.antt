-- What a context hears. This project's own.
use Rattle.std.specs.Prelude.{◌≡◌, ℕ, List, Some}
use Rattle.std.specs.List.{slice_get}
use Rattle.futures.specs.declared.task.context.Context.{Context}
use Rattle.futures.specs.Task.{Hears}
use Rattle.vq_poll.specs.declared.bell.Bell.{Bell}

-- the context hears the bell of the chain
abbrev pub HearsBell : Context → List Bell → ℕ → Type 0
HearsBell cx bells t = (b : Bell) → slice_get bells t ≡ Some b → Hears cx b.source.id
