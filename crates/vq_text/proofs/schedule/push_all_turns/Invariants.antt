use Rattle.std.proofs.Common.{◌≡◌, ◌++◌, length}
use Rattle.std.specs.List.{flat_map}
use Rattle.vq_model.specs.Canonical.{turns_words, joined_turns, line_text}
use Rattle.vq_text.proofs.schedule.push_all_turns.Given as goal

abbrev pub invariant-loop-rest : goal.invariant-loop-rest
invariant-loop-rest l =
    l.out.items ++ flat_map (λ t. line_text (turns_words l.script t)) (joined_turns l.rest)
    ≡ l.fn.out.items ++ flat_map (λ t. line_text (turns_words l.script t)) (joined_turns l.fn.turns)

abbrev pub decreases-loop-rest : goal.decreases-loop-rest
decreases-loop-rest l = length l.rest
