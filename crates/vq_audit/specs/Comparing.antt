-- How given lines are compared with the true ones: steps of the proof. This project's own.
use Rattle.std.specs.Prelude.{ℕ, List, [], ◌∷◌, ◌+◌, Option, Some, None, if◌then◌else◌}
use Rattle.std.specs.Str.{bytes_eq}
use Rattle.vq_given.specs.declared.given.GivenLine.{GivenLine}

-- the first given line that isn't the true one at its place; behind the last one where one is missing
abbrev pub first_difference : List (List ℕ) → List GivenLine → ℕ → Option ℕ
first_difference [] [] last = None
first_difference [] (given ∷ rest) last = Some given.line
first_difference (line ∷ lines) [] last = Some (last + 1)
first_difference (line ∷ lines) (given ∷ rest) last =
    if bytes_eq given.text line then first_difference lines rest given.line else Some given.line
