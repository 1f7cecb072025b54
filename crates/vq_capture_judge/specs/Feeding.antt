-- What comes of feeding bytes, whatever follows them.
use Rattle.std.specs.Prelude.{ℕ, Bool, true, false, List, [], ◌++◌, ◌≡◌, Option, IfSome, IsSomeAnd}
use Rattle.vq_port.specs.Reading.{Takes, IsAtEnd}
use Rattle.vq_capture.specs.declared.capture.Verdict.{Verdict}
use Rattle.vq_capture.specs.Reading.{ended_lines}
use Rattle.vq_capture_judge.specs.declared.feed.Fed.{Fed}
use Rattle.vq_capture_judge.specs.declared.feed.Fed.TheVariants.{Says, Left}
use Rattle.vq_capture_judge.specs.Judging.{Judging, judged, judged_text}

-- A verdict is that on these bytes and any that follow; or what is left is no line yet, and the verdict is that on it
-- and any that follow.
abbrev pub FedBy : Judging → List ℕ → Judging → Fed → Type 0
FedBy before text now (Says verdict) = (more : List ℕ) → judged before (ended_lines (text ++ more)) ≡ verdict
FedBy before text now (Left rest) =
    (ended_lines rest.now ≡ [])
    × ((more : List ℕ) → judged before (ended_lines (text ++ more)) ≡ judged now (ended_lines (rest.now ++ more)))

-- The verdict on what was fed to a judge, on what is left of it, and on what a source has left, is that on all it had.
abbrev pub GoesOn : Judging → List ℕ → Option (List ℕ) → Option (List ℕ) → Type 0
GoesOn judging left start now =
    IfSome start (λ all. IsSomeAnd now (λ rest. judged judging (ended_lines (left ++ rest)) ≡ judged_text all))

-- a verdict is that on all that a source had
abbrev pub SaysOf : Option (List ℕ) → Verdict → Type 0
SaysOf start verdict = IfSome start (λ all. judged_text all ≡ verdict)

-- Bytes were read and stand behind others; or none came, as a source is at its end.
abbrev pub CameBehind : Bool → List ℕ → List ℕ → Option (List ℕ) → Option (List ℕ) → Type 0
CameBehind true before now start rest = (bytes : List ℕ) × (now ≡ before ++ bytes) × Takes bytes start rest
CameBehind false before now start rest = (now ≡ before) × Takes [] start rest × IsAtEnd rest
