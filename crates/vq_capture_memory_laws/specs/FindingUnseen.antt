-- What is to be found above a step: the greatest line of a write that it doesn't see.
use Rattle.std.specs.Prelude.{ℕ, List, [], ◌∷◌, ◌++◌, ◌≡◌, ◌≤◌, true, Option, Some, None}
use Rattle.vq_capture.specs.declared.capture.Step.{Step}
use Rattle.vq_capture.specs.Releases.{releases}
use Rattle.vq_capture.specs.Races.{Conflicts}
use Rattle.vq_capture_memory.specs.UnseenWrites.{asks_memory, Sees}
use Rattle.vq_capture_seen.specs.Ways.{ToldPoint, told_points, unseen_line}

-- a write that a step has to see, and doesn't, be it ordered before that or not
pub record IsLacking (steps : List Step) (a b : Step) : Type 0 where
  pub pair : Conflicts steps a b
  pub asked : asks_memory a b ≡ true
  pub unseen : Sees steps a b → ⊥

-- The greatest line of a write that a step of a capture has to see, and doesn't; or it sees all.
abbrev pub FindsUnseen : List Step → Step → Option ℕ → Type 0
FindsUnseen steps b None = (a : Step) → Conflicts steps a b → asks_memory a b ≡ true → Sees steps a b
FindsUnseen steps b (Some line) =
    (a : Step) × IsLacking steps a b × (a.line ≡ line) × ((c : Step) → IsLacking steps c b → c.line ≤ a.line)

-- the lines that release a step behind some
abbrev pub released_by : List Step → Step → List ℕ
released_by above b = releases above b.queue b.statement

-- the points of steps below some
abbrev pub points_on : List Step → List Step → List ToldPoint
points_on above [] = []
points_on above (s ∷ steps) = told_points s (released_by above s) ++ points_on (above ++ s ∷ []) steps

-- What the search finds above a step.
abbrev pub found_unseen : List Step → Step → Option ℕ
found_unseen above b = unseen_line (points_on [] above) b (released_by above b)
