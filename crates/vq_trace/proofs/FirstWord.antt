-- The first word of a line, and the words after it.
use Rattle.std.proofs.Common.{◌≡◌, ℕ, Bool, true, false, cond, List, [], ◌∷◌, filter, take, drop, suc, ◌<◌, refl, sym, ap, subst, ◌∙◌, arith}
use Rattle.std.specs.Prelude.{◌==◌, ◌||◌}
use Rattle.std.specs.List.{slice_split, onto_first, position_or_len}
use Rattle.std.proofs.lemmas.Bool.Decides.{nat_tests}
use Rattle.vq_lexer.proofs.Cited.{comment_here, comment_later}
use Rattle.vq_model.specs.Text.{is_blank, is_some_word, words_in, words_of, without_comment}
use Rattle.vq_trace.specs.Words.{ends_word, starts_blank}

abbrev is_hash : ℕ → Bool
is_hash b = b == 35

blank_no_hash : (b : ℕ) → is_blank b ≡ true → is_hash b ≡ false
blank_no_hash b h = grind (arith, nat_tests)

-- a blank in front says nothing
pub words_blank : (b : ℕ) (bs : List ℕ) → is_blank b ≡ true → words_of (b ∷ bs) ≡ words_of bs
words_blank b bs h =
    ap words_in (comment_later b bs (blank_no_hash b h))
    ∙ ap (λ t. filter is_some_word (cond t ([] ∷ slice_split is_blank (without_comment bs)) (onto_first b (slice_split is_blank (without_comment bs))))) h

-- The bytes before place n are one part, and what follows them is cut by itself.
abbrev Parted : List ℕ → ℕ → Type 0
Parted line n =
    (parts : List (List ℕ)) × (slice_split is_blank (without_comment line) ≡ take n line ∷ parts)
    × (filter is_some_word parts ≡ words_of (drop n line))

-- one byte more in front
parted_more : (b : ℕ) (bs : List ℕ) → is_hash b ≡ false → is_blank b ≡ false →
    Parted bs (position_or_len ends_word bs) → Parted (b ∷ bs) (suc (position_or_len ends_word bs))
parted_more b bs h e more = (
  more.0,
  ap (slice_split is_blank) (comment_later b bs h)
      ∙ ap (λ t. cond t ([] ∷ slice_split is_blank (without_comment bs)) (onto_first b (slice_split is_blank (without_comment bs)))) e
      ∙ ap (onto_first b) more.1,
  more.2,
)

next_place : (b : ℕ) (bs : List ℕ) → ends_word b ≡ false →
    position_or_len ends_word (b ∷ bs) ≡ suc (position_or_len ends_word bs)
next_place b bs h = rw h (omega arith)

no_place : (b : ℕ) (bs : List ℕ) → ends_word b ≡ true → position_or_len ends_word (b ∷ bs) ≡ 0
no_place b bs h = rw h refl

-- at the first byte that ends a word
parted : (line : List ℕ) → Parted line (position_or_len ends_word line)
parted [] = ([], refl, refl)
parted (b ∷ bs) = by_test (is_blank b) refl (is_hash b) refl (parted bs)
  where
    by_test : (blank : Bool) → is_blank b ≡ blank → (hash : Bool) → is_hash b ≡ hash →
        Parted bs (position_or_len ends_word bs) → Parted (b ∷ bs) (position_or_len ends_word (b ∷ bs))
    by_test true e hash h more =
        subst (Parted (b ∷ bs)) (sym (no_place b bs (λ i. e i || is_hash b))) (
          slice_split is_blank (without_comment bs),
          ap (slice_split is_blank) (comment_later b bs (blank_no_hash b e))
              ∙ ap (λ t. cond t ([] ∷ slice_split is_blank (without_comment bs)) (onto_first b (slice_split is_blank (without_comment bs)))) e,
          sym (words_blank b bs e),
        )
    by_test false e true h more =
        subst (Parted (b ∷ bs)) (sym (no_place b bs (λ i. e i || h i))) (
          [],
          ap (slice_split is_blank) (comment_here b bs h),
          sym (ap words_in (comment_here b bs h)),
        )
    by_test false e false h more =
        subst (Parted (b ∷ bs)) (sym (next_place b bs (λ i. e i || h i))) (parted_more b bs h e more)

-- a word with a byte is the first word
pub first_is : (line : List ℕ) → 0 < position_or_len ends_word line →
    words_of line ≡ take (position_or_len ends_word line) line ∷ words_of (drop (position_or_len ends_word line) line)
first_is [] h = absurd (omega arith)
first_is (b ∷ bs) some = by_test (is_blank b) refl (is_hash b) refl
  where
    by_test : (blank : Bool) → is_blank b ≡ blank → (hash : Bool) → is_hash b ≡ hash →
        words_of (b ∷ bs) ≡ take (position_or_len ends_word (b ∷ bs)) (b ∷ bs)
        ∷ words_of (drop (position_or_len ends_word (b ∷ bs)) (b ∷ bs))
    by_test true e hash h = let none = no_place b bs (λ i. e i || is_hash b) in absurd (omega (arith, none, some))
    by_test false e true h = let none = no_place b bs (λ i. e i || h i) in absurd (omega (arith, none, some))
    by_test false e false h =
        let more = parted_more b bs h e (parted bs) in
        subst (λ (n : ℕ). words_of (b ∷ bs) ≡ take n (b ∷ bs) ∷ words_of (drop n (b ∷ bs)))
        (sym (next_place b bs (λ i. e i || h i)))
        (ap (filter is_some_word) more.1
        ∙ ap (λ (ws : List (List ℕ)). (b ∷ take (position_or_len ends_word bs) bs) ∷ ws) more.2)

-- a line that begins with the end of a word has none
pub none_is : (line : List ℕ) → starts_blank line ≡ false → position_or_len ends_word line ≡ 0 → words_of line ≡ []
none_is [] e n = refl
none_is (b ∷ bs) e n = by_test (is_hash b) refl
  where
    by_test : (hash : Bool) → is_hash b ≡ hash → words_of (b ∷ bs) ≡ []
    by_test true h = ap words_in (comment_here b bs h)
    by_test false h = let more = next_place b bs (λ i. e i || h i) in absurd (omega (arith, more, n))
