use Rattle.std.proofs.Common.{◌∙◌, ◌++◌, List, ℕ, sym, ap, arith}
use Rattle.std.specs.Borrow.{Bor}
use Rattle.std.proofs.lemmas.List.{take_all}
use Rattle.vq_trace.proofs.Joined.{joined, spaced}
use Rattle.vq_trace.proofs.reader.joined.Goals as goal

pub returns : goal.returns
returns c =
    let first = c.args.first.now in
    let later = c.args.later.now in
    c.loop-word.invariant
    ∙ ap (λ (ws : List (Bor (List ℕ))). first ++ spaced ws) (take_all c.loop-word.word-index later (omega arith))
    ∙ sym (joined first later)
