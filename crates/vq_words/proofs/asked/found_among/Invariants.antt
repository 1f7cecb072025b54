use Rattle.std.proofs.Common.{◌≡◌, drop, map}
use Rattle.clap.specs.Words.{first_value, found_of}
use Rattle.vq_words.specs.Options.{Nothing, choice_of, found_among, given_by}
use Rattle.vq_words.proofs.asked.found_among.Given as goal

abbrev pub invariant-loop-row : goal.invariant-loop-row
invariant-loop-row l =
    found_among (given_by l.found) (map choice_of (drop l.row-index l.rows)) (first_value (found_of l.fn.matches))
    ≡ found_among Nothing (map choice_of l.rows) (first_value (found_of l.fn.matches))
