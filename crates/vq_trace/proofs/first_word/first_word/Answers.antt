use Rattle.std.proofs.Common.{◌≡◌, ◌∷◌, ◌<◌, ◌∙◌, ℕ, take, drop, sym, subst, arith}
use Rattle.std.specs.List.{position_or_len}
use Rattle.std.proofs.lemmas.List.{take_rest}
use Rattle.vq_model.specs.Text.{words_of}
use Rattle.vq_trace.specs.Words.{ends_word}
use Rattle.vq_trace.proofs.FirstWord.{first_is}
use Rattle.vq_trace.proofs.first_word.first_word.Goals as goal

pub returns-else-end-eq0 : goal.returns-else-end-eq0
returns-else-end-eq0 c =
    let rest = c.without_blanks-rest.result.now in
    let end = c.word_len-end.result in
    let place : end ≡ position_or_len ends_word rest = c.word_len-end.ensures.place in
    let some : 0 < position_or_len ends_word rest = omega (arith, place) in
    rw (take_rest rest end)
    (sym c.without_blanks-rest.ensures.same
    ∙ subst (λ (n : ℕ). words_of rest ≡ take n rest ∷ words_of (drop n rest)) (sym place) (first_is rest some))
