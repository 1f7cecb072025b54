use Rattle.std.proofs.Common.{◌≡◌, ◌≤◌, ◌<◌, [], length}
use Rattle.vq_capture.specs.Reading.{ended_lines}
use Rattle.vq_capture_judge.specs.Feeding.{GoesOn}
use Rattle.vq_capture_judge.specs.Judges.{judging_of}
use Rattle.vq_capture_judge.proofs.top.read_verdict.Given as goal

-- what is left and what comes decide; no line of what is left has ended
abbrev pub invariant-loop : goal.invariant-loop
invariant-loop g l =
    GoesOn (judging_of l.judge) l.left.items (g.S.Source.left l.fn.source) (g.S.Source.left l.source)
    × (ended_lines l.left.items ≡ [])
    × (g.S.Source.faults l.fn.source ≤ g.S.Source.faults l.source)
    × (0 < length l.piece)
