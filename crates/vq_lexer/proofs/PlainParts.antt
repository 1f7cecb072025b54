-- All bytes of the words of a part are plain where those of the part are, since blanks are plain.
use Rattle.std.proofs.Common.{◌≡◌, ℕ, Bool, true, false, cond, List, [], ◌∷◌, filter, refl, sym, ap, ◌∙◌, arith}
use Rattle.std.specs.Prelude.{◌&&◌}
use Rattle.std.specs.List.{list_all, slice_split, onto_first}
use Rattle.std.proofs.lemmas.Bool.Decides.{nat_tests}
use Rattle.vq_model.specs.Text.{is_blank, is_plain, is_some_word, words_in}
use Rattle.vq_lexer.proofs.FirstLine.{split_has_first}

pub blank_plain : (b : ℕ) → is_blank b ≡ true → is_plain b ≡ true
blank_plain b h = grind (arith, nat_tests)

abbrev all_plain : List (List ℕ) → Bool
all_plain parts = list_all (list_all is_plain) parts

-- parts without a byte say nothing
some_plain : (parts : List (List ℕ)) → all_plain (filter is_some_word parts) ≡ all_plain parts
some_plain [] = refl
some_plain ([] ∷ parts) = some_plain parts
some_plain ((b ∷ bs) ∷ parts) = ap (λ t. list_all is_plain (b ∷ bs) && t) (some_plain parts)

pub and_again : (a b c : Bool) → ((a && b) && c) ≡ (a && (b && c))
and_again true b c = refl
and_again false b c = refl

split_plain : (part : List ℕ) → all_plain (slice_split is_blank part) ≡ list_all is_plain part
split_plain [] = refl
split_plain (b ∷ bs) = by_test (is_blank b) refl (split_plain bs)
  where
    by_test : (t : Bool) → is_blank b ≡ t → all_plain (slice_split is_blank bs) ≡ list_all is_plain bs →
        all_plain (cond t ([] ∷ slice_split is_blank bs) (onto_first b (slice_split is_blank bs)))
        ≡ (is_plain b && list_all is_plain bs)
    by_test true e more = more ∙ sym (ap (λ t. t && list_all is_plain bs) (blank_plain b e))
    by_test false e more =
        let first = split_has_first is_blank bs in
        ap (λ (parts : List (List ℕ)). all_plain (onto_first b parts)) first.2
        ∙ and_again (is_plain b) (list_all is_plain first.0) (all_plain first.1)
        ∙ ap (λ (parts : List (List ℕ)). is_plain b && all_plain parts) (sym first.2)
        ∙ ap (λ t. is_plain b && t) more

pub words_plain : (part : List ℕ) → all_plain (words_in part) ≡ list_all is_plain part
words_plain part = some_plain (slice_split is_blank part) ∙ split_plain part
