-- How the words of a part follow from its first blank.
use Rattle.std.proofs.Common.{◌≡◌, ℕ, ◌+◌, ◌<◌, false, List, [], ◌++◌, length, take, drop, filter, ap, ◌∙◌}
use Rattle.std.specs.List.{slice_split, position_or_len, All}
use Rattle.std.proofs.lemmas.List.Splits.{slice_split_first, slice_split_none}
use Rattle.vq_lexer.proofs.Cited.{kept}
use Rattle.vq_model.specs.Text.{words_in, is_blank, is_some_word}
use Rattle.vq_lexer.specs.Words.{some_word}

-- the first word ends at a blank
pub words_next : (part : List ℕ) → position_or_len is_blank part < length part →
    words_in part ≡ some_word (take (position_or_len is_blank part) part)
    ++ words_in (drop (position_or_len is_blank part + 1) part)
words_next part h =
    ap (filter is_some_word) (slice_split_first is_blank part 0 h)
    ∙ kept (take (position_or_len is_blank part) part) (slice_split is_blank (drop (position_or_len is_blank part + 1) part))

-- a part without blanks is one word
pub words_last : (part : List ℕ) → All (λ b. is_blank b ≡ false) part →
    words_in part ≡ some_word part ++ words_in []
words_last part none = ap (filter is_some_word) (slice_split_none is_blank part none) ∙ kept part []
