-- What is left of a word that is read part by part.
use Rattle.std.specs.Prelude.{ℕ, Bool, true, false, List, [], Option, Some, None, ◌+◌, length}
use Rattle.std.specs.Borrow.{Bor}
use Rattle.std.specs.List.{slice_split}
use Rattle.vq_capture.specs.declared.stage.StageMask.{StageMask}
use Rattle.vq_capture.specs.Masks.{all_stages, no_stage}

abbrev pub parts_left : (ℕ → Bool) → Option (Bor (List ℕ)) → List (List ℕ)
parts_left is_mark None = []
parts_left is_mark (Some rest) = slice_split is_mark rest.now

-- how much is left to read
abbrev pub size_left : Option (Bor (List ℕ)) → ℕ
size_left None = 0
size_left (Some rest) = length rest.now + 1

-- a set of all stages, or of none
abbrev pub uniform_stages : Bool → StageMask
uniform_stages true = all_stages
uniform_stages false = no_stage
