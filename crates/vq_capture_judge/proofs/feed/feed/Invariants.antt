use Rattle.std.proofs.Common.{◌≡◌, ◌++◌, ℕ, List, length}
use Rattle.vq_capture.specs.Reading.{ended_lines}
use Rattle.vq_capture_judge.specs.Judging.{judged}
use Rattle.vq_capture_judge.specs.Judges.{judging_of}
use Rattle.vq_capture_judge.proofs.feed.feed.Given as goal

-- the verdict is that on what is left, and any bytes that follow
abbrev pub invariant-loop-line : goal.invariant-loop-line
invariant-loop-line l =
    (more : List ℕ) → judged (judging_of l.judge) (ended_lines (l.rest ++ more)) ≡ judged (judging_of l.fn.judge) (ended_lines (l.text ++ more))

abbrev pub decreases-loop-line : goal.decreases-loop-line
decreases-loop-line l = length l.rest
