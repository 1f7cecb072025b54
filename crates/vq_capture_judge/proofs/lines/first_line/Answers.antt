use Rattle.std.proofs.Common.{◌+◌, ◌-◌, ◌++◌, ◌∷◌, ◌∙◌, ℕ, List, sym, ap, arith, length, take, drop, length-take}
use Rattle.std.proofs.lemmas.List.{length-drop}
use Rattle.vq_capture.specs.Reading.{ended_lines}
use Rattle.vq_capture_judge.proofs.EndedLines.{first_ended, none_ended}
use Rattle.vq_capture_judge.proofs.lines.first_line.Goals as goal

pub returns-then-end-text : goal.returns-then-end-text
returns-then-end-text c =
    let text = c.args.text.now in
    let end = c.feed_place-end.result in
    let within = c.if-end-text.true in (
      λ more. first_ended text more end (omega arith) c.feed_place-end.ensures.before (c.feed_place-end.ensures.found (omega arith))
          ∙ ap (λ (line : List ℕ). line ∷ ended_lines (take (length text - (end + 1)) (drop (end + 1) text) ++ more)) (sym c.without_return.ensures),
      omega (arith, length-take (length text - (end + 1)) (drop (end + 1) text), length-drop (end + 1) text),
    )

pub returns-else-end-text : goal.returns-else-end-text
returns-else-end-text c =
    none_ended c.args.text.now (λ k l. c.feed_place-end.ensures.before k (omega arith))
