-- The words of a line, cut byte by byte: from the word so far, and from what follows it.
use Rattle.std.proofs.Common.{◌≡◌, ℕ, Bool, true, false, not, cond, eqb, List, [], ◌∷◌, ◌++◌, filter, take, drop, get_or, length, suc, ◌+◌, ◌<◌, ◌≤◌, refl, sym, ap, ◌∙◌, arith}
use Rattle.std.specs.Prelude.{◌==◌, ◌&&◌, nat_le}
use Rattle.std.specs.List.{list_all, slice_split, onto_first, position_or_len}
use Rattle.std.proofs.lemmas.Bool.{and_parts, not-true}
use Rattle.std.proofs.lemmas.Bool.Decides.{nat_tests}
use Rattle.std.proofs.lemmas.List.{append_assoc, append-nil, drop_all}
use Rattle.std.proofs.Math.Seq.{drop-cons, take-suc}
use Rattle.std.proofs.lemmas.List.Folds.{list_all-append}
use Rattle.std.specs.Borrow.{Bor}
use Rattle.vq_model.specs.Text.{is_blank, is_plain, is_some_word, words_in, without_comment}
use Rattle.vq_lexer.specs.Words.{some_word, texts}

abbrev pub is_hash : ℕ → Bool
is_hash b = b == 35

-- a comment begins, a blank ends the word so far, and any other byte is one more of it
abbrev pub cut : List ℕ → List ℕ → List (List ℕ)
cut word [] = some_word word
cut word (b ∷ bs) =
    cond (is_hash b) (some_word word)
    (cond (is_blank b) (some_word word ++ cut [] bs) (cut (word ++ b ∷ []) bs))

abbrev pub is_solid : ℕ → Bool
is_solid b = not (is_blank b)

pub no_hash : (b : ℕ) → (b ≡ 35 → ⊥) → is_hash b ≡ false
no_hash b h = by_test (is_hash b) refl
  where
    by_test : (t : Bool) → is_hash b ≡ t → t ≡ false
    by_test true e = absurd (h (grind (arith, nat_tests)))
    by_test false e = refl

-- what a line holds up to its comment, byte by byte
pub comment_here : (b : ℕ) (bs : List ℕ) → is_hash b ≡ true → without_comment (b ∷ bs) ≡ []
comment_here b bs h = rw h refl

pub comment_later : (b : ℕ) (bs : List ℕ) → is_hash b ≡ false → without_comment (b ∷ bs) ≡ b ∷ without_comment bs
comment_later b bs h =
    let next : position_or_len is_hash (b ∷ bs) ≡ suc (position_or_len is_hash bs) = rw h (omega arith) in
    ap (λ (n : ℕ). take n (b ∷ bs)) next

-- a word without blanks is one part, alone or before a blank
whole : (word : List ℕ) → list_all is_solid word ≡ true → slice_split is_blank word ≡ word ∷ []
whole [] h = refl
whole (b ∷ bs) h =
    let parts = and_parts (is_solid b) (list_all is_solid bs) h in
    ap (λ t. cond t ([] ∷ slice_split is_blank bs) (onto_first b (slice_split is_blank bs))) (not-true (is_blank b) parts.0)
    ∙ ap (onto_first b) (whole bs parts.1)

before_blank : (word : List ℕ) (b : ℕ) (rest : List ℕ) → list_all is_solid word ≡ true → is_blank b ≡ true →
    slice_split is_blank (word ++ b ∷ rest) ≡ word ∷ slice_split is_blank rest
before_blank [] b rest h e = ap (λ t. cond t ([] ∷ slice_split is_blank rest) (onto_first b (slice_split is_blank rest))) e
before_blank (x ∷ word) b rest h e =
    let parts = and_parts (is_solid x) (list_all is_solid word) h in
    ap (λ t. cond t ([] ∷ slice_split is_blank (word ++ b ∷ rest)) (onto_first x (slice_split is_blank (word ++ b ∷ rest))))
    (not-true (is_blank x) parts.0)
    ∙ ap (onto_first x) (before_blank word b rest parts.1 e)

-- a part is kept if it has a byte
pub kept : (word : List ℕ) (parts : List (List ℕ)) →
    filter is_some_word (word ∷ parts) ≡ some_word word ++ filter is_some_word parts
kept [] parts = refl
kept (b ∷ bs) parts = refl

last_word : (word : List ℕ) → list_all is_solid word ≡ true → some_word word ≡ words_in (word ++ [])
last_word word h =
    sym (append-nil (some_word word)) ∙ sym (kept word []) ∙ ap (filter is_some_word) (sym (whole word h))
    ∙ ap words_in (sym (append-nil word))

pub cut_is : (word rest : List ℕ) → list_all is_solid word ≡ true →
    cut word rest ≡ words_in (word ++ without_comment rest)
cut_is word [] h = last_word word h
cut_is word (b ∷ bs) h =
    by_hash (is_hash b) refl (is_blank b) refl (cut_is [] bs refl)
    (λ e. cut_is (word ++ b ∷ []) bs (one_more e))
  where
    next : List (List ℕ)
    next = cond (is_blank b) (some_word word ++ cut [] bs) (cut (word ++ b ∷ []) bs)

    one_more : is_blank b ≡ false → list_all is_solid (word ++ b ∷ []) ≡ true
    one_more e = list_all-append is_solid word (b ∷ []) ∙ (λ i. h i && (not (e i) && true))

    by_hash : (hash : Bool) → is_hash b ≡ hash → (blank : Bool) → is_blank b ≡ blank →
        cut [] bs ≡ words_in (without_comment bs) →
        (is_blank b ≡ false → cut (word ++ b ∷ []) bs ≡ words_in ((word ++ b ∷ []) ++ without_comment bs)) →
        cut word (b ∷ bs) ≡ words_in (word ++ without_comment (b ∷ bs))
    by_hash true e blank f fresh more =
        ap (λ t. cond t (some_word word) next) e ∙ last_word word h
        ∙ ap (λ (part : List ℕ). words_in (word ++ part)) (sym (comment_here b bs e))
    by_hash false e true f fresh more =
        ap (λ t. cond t (some_word word) next) e
        ∙ ap (λ t. cond t (some_word word ++ cut [] bs) (cut (word ++ b ∷ []) bs)) f
        ∙ ap (λ (more : List (List ℕ)). some_word word ++ more) fresh
        ∙ sym (kept word (slice_split is_blank (without_comment bs)))
        ∙ ap (filter is_some_word) (sym (before_blank word b (without_comment bs) h f))
        ∙ ap (λ (part : List ℕ). words_in (word ++ part)) (sym (comment_later b bs e))
    by_hash false e false f fresh more =
        ap (λ t. cond t (some_word word) next) e
        ∙ ap (λ t. cond t (some_word word ++ cut [] bs) (cut (word ++ b ∷ []) bs)) f
        ∙ more f
        ∙ ap words_in (append_assoc word (b ∷ []) (without_comment bs))
        ∙ ap (λ (part : List ℕ). words_in (word ++ part)) (sym (comment_later b bs e))

-- a byte that is plain, and neither a blank nor the hash sign
abbrev pub is_common : ℕ → Bool
is_common b = nat_le 36 b && nat_le b 126

common_hash : (b : ℕ) → is_common b ≡ true → is_hash b ≡ false
common_hash b h = grind (arith, nat_tests)

common_blank : (b : ℕ) → is_common b ≡ true → is_blank b ≡ false
common_blank b h = grind (arith, nat_tests)

common_plain : (b : ℕ) → is_common b ≡ true → is_plain b ≡ true
common_plain b h = grind (arith, nat_tests)

-- The steps of a search that goes through a part byte by byte: n bytes of it are one word so far.
module _ (part : List ℕ) (n : ℕ) (within : n < length part) where
  abbrev byte : ℕ
  byte = get_or part n 0

  cut_next : drop n part ≡ byte ∷ drop (n + 1) part
  cut_next =
      let more : n + 1 ≡ suc n = omega arith in
      drop-cons part n 0 within ∙ ap (λ (m : ℕ). byte ∷ drop m part) (sym more)

  word_next : take (n + 1) part ≡ take n part ++ byte ∷ []
  word_next =
      let more : n + 1 ≡ suc n = omega arith in
      ap (λ (m : ℕ). take m part) more ∙ take-suc part n 0 within

  -- a blank
  pub cut_blank : is_hash byte ≡ false → is_blank byte ≡ true →
      cut (take n part) (drop n part) ≡ some_word (take n part) ++ cut [] (drop (n + 1) part)
  cut_blank h e =
      ap (cut (take n part)) cut_next
      ∙ (λ i. cond (h i) (some_word (take n part))
      (cond (e i) (some_word (take n part) ++ cut [] (drop (n + 1) part))
      (cut (take n part ++ byte ∷ []) (drop (n + 1) part))))

  -- one byte more of the word
  pub cut_more : is_hash byte ≡ false → is_blank byte ≡ false →
      cut (take n part) (drop n part) ≡ cut (take (n + 1) part) (drop (n + 1) part)
  cut_more h e =
      ap (cut (take n part)) cut_next
      ∙ (λ i. cond (h i) (some_word (take n part))
      (cond (e i) (some_word (take n part) ++ cut [] (drop (n + 1) part))
      (cut (take n part ++ byte ∷ []) (drop (n + 1) part))))
      ∙ ap (λ (word : List ℕ). cut word (drop (n + 1) part)) (sym word_next)

  -- a byte after blanks and the hash sign in ASCII is one byte more of the word, and plain
  pub cut_common : is_common byte ≡ true →
      cut (take n part) (drop n part) ≡ cut (take (n + 1) part) (drop (n + 1) part)
  cut_common h = cut_more (common_hash byte h) (common_blank byte h)

  -- a comment
  pub cut_hash : is_hash byte ≡ true → cut (take n part) (drop n part) ≡ some_word (take n part)
  cut_hash h =
      ap (cut (take n part)) cut_next
      ∙ ap (λ t. cond t (some_word (take n part))
      (cond (is_blank byte) (some_word (take n part) ++ cut [] (drop (n + 1) part))
      (cut (take n part ++ byte ∷ []) (drop (n + 1) part)))) h

  pub plain_more : is_hash byte ≡ false → list_all is_plain (without_comment (drop n part))
      ≡ (is_plain byte && list_all is_plain (without_comment (drop (n + 1) part)))
  plain_more h =
      ap (λ (bs : List ℕ). list_all is_plain (without_comment bs)) cut_next
      ∙ ap (list_all is_plain) (comment_later byte (drop (n + 1) part) h)

  pub plain_common : is_common byte ≡ true → list_all is_plain (without_comment (drop n part))
      ≡ list_all is_plain (without_comment (drop (n + 1) part))
  plain_common h =
      plain_more (common_hash byte h)
      ∙ ap (λ t. t && list_all is_plain (without_comment (drop (n + 1) part))) (common_plain byte h)

  pub plain_hash : is_hash byte ≡ true → list_all is_plain (without_comment (drop n part)) ≡ true
  plain_hash h =
      ap (λ (bs : List ℕ). list_all is_plain (without_comment bs)) cut_next
      ∙ ap (list_all is_plain) (comment_here byte (drop (n + 1) part) h)

-- at the end of a part
pub cut_end : (part : List ℕ) (n : ℕ) → length part ≤ n → cut (take n part) (drop n part) ≡ some_word (take n part)
cut_end part n h = ap (cut (take n part)) (drop_all n part h)

pub plain_end : (part : List ℕ) (n : ℕ) → length part ≤ n → list_all is_plain (without_comment (drop n part)) ≡ true
plain_end part n h = ap (λ (bs : List ℕ). list_all is_plain (without_comment bs)) (drop_all n part h)

-- some word is there
pub some_texts : (words : List (Bor (List ℕ))) → eqb (length words) 0 ≡ false → 0 < length (texts words)
some_texts [] h = absurd (cc)
some_texts (w ∷ words) h = omega arith
