use Rattle.std.proofs.Common.{◌≡◌, find, drop}
use Rattle.std.specs.Str.{bytes_eq}
use Rattle.vq_given.specs.Words.{verb_word}
use Rattle.vq_trace.proofs.verbs.first_verb.Given as goal

abbrev pub invariant-loop-verb : goal.invariant-loop-verb
invariant-loop-verb l =
    find (λ v. bytes_eq l.word (verb_word v)) (drop l.verb-index l.verbs)
    ≡ find (λ v. bytes_eq l.word (verb_word v)) l.verbs
