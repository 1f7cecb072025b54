-- A text that is written line by line: its lines, and the words of each line.
use Rattle.std.proofs.Common.{ℕ, ◌==◌, Bool, not, ◌&&◌, List, length, ◌≡◌, true, [], ◌∷◌, refl, ◌≤◌, false, ap, arith, cond, ◌++◌, suc, ◌+◌, take, ◌∙◌, zero, ◌-◌, append_assoc, map, ne_eqb}
use Rattle.std.specs.Prelude.{nat_le, nat_lt, filter}
use Rattle.std.specs.List.{list_all, slice_split, onto_first, before_first, position_or_len, join_with_byte, slice_index, flat_map}
use Rattle.std.proofs.lemmas.Bool.{and_parts, and_from, leb-true, false≢true, le-leb, or_left, or_from, not_from_false}
use Rattle.vq_model.specs.Text.{is_plain, is_blank, is_line_feed, is_some_word, words_in, words_of, without_empty_end, lines_of}
use Rattle.std.proofs.lemmas.List.Folds.{list_all-append}
use Rattle.std.specs.Str.Lines.{strip_carriage_return}
use Rattle.vq_model.specs.Canonical.{line_text}

-- Words

-- a byte of a word: printable ASCII but a space and a hash sign
abbrev pub is_word_byte : ℕ → Bool
is_word_byte b = nat_le 33 b && nat_le b 126 && not (b == 35)

-- one such byte or more
abbrev pub is_text_word : List ℕ → Bool
is_text_word word = nat_lt 0 (length word) && list_all is_word_byte word

-- such words
abbrev pub are_text_words : List (List ℕ) → Bool
are_text_words words = list_all is_text_word words

-- A byte that stays in its word where a text is cut into lines and words: it is above all blanks and ends of
-- lines, and no hash sign.
abbrev pub is_kept_byte : ℕ → Bool
is_kept_byte b = nat_le 33 b && not (b == 35)

-- one such byte or more
abbrev pub is_kept_word : List ℕ → Bool
is_kept_word word = nat_lt 0 (length word) && list_all is_kept_byte word

-- such words
abbrev pub are_kept_words : List (List ℕ) → Bool
are_kept_words words = list_all is_kept_word words

-- a byte of a line of such words
abbrev is_line_byte : ℕ → Bool
is_line_byte b = nat_le 32 b

-- what all pass that pass another test
pub all_weaker : {A : Type 0} (p q : A → Bool) → ((x : A) → p x ≡ true → q x ≡ true) →
    (xs : List A) → list_all p xs ≡ true → list_all q xs ≡ true
all_weaker p q f [] h = refl
all_weaker p q f (x ∷ xs) h =
    let parts = and_parts (p x) (list_all p xs) h in
    and_from (q x) (list_all q xs) (f x parts.0) (all_weaker p q f xs parts.1)

-- what a byte of a word is
pub word_byte : (b : ℕ) → is_word_byte b ≡ true → (33 ≤ b) × (b ≤ 126) × ((b == 35) ≡ false)
word_byte b h =
    let parts = and_parts (nat_le 33 b && nat_le b 126) (not (b == 35)) h in
    let ends = and_parts (nat_le 33 b) (nat_le b 126) parts.0 in
    (leb-true 33 b ends.0, leb-true b 126 ends.1, not_true (b == 35) parts.1)
  where
    not_true : (x : Bool) → not x ≡ true → x ≡ false
    not_true true e = absurd (false≢true e)
    not_true false e = refl

-- a byte of a word is plain
pub word_to_plain : (b : ℕ) → is_word_byte b ≡ true → is_plain b ≡ true
word_to_plain b h =
    let w = word_byte b h in
    let l = w.0 in
    let m = w.1 in
    or_left (nat_le 32 b && nat_le b 126) (b == 9)
    (and_from (nat_le 32 b) (nat_le b 126) (le-leb 32 b (omega arith)) (le-leb b 126 m))

-- it stays in its word
word_to_kept : (b : ℕ) → is_word_byte b ≡ true → is_kept_byte b ≡ true
word_to_kept b h =
    let w = word_byte b h in
    let l = w.0 in
    and_from (nat_le 33 b) (not (b == 35)) (le-leb 33 b (omega arith)) (not_from_false (b == 35) w.2)

-- such words are kept
pub text_to_kept : (word : List ℕ) → is_text_word word ≡ true → is_kept_word word ≡ true
text_to_kept word h =
    let parts = and_parts (nat_lt 0 (length word)) (list_all is_word_byte word) h in
    and_from (nat_lt 0 (length word)) (list_all is_kept_byte word) parts.0
    (all_weaker is_word_byte is_kept_byte word_to_kept word parts.1)

-- a byte that is kept is one of a line ..
kept_to_line : (b : ℕ) → is_kept_byte b ≡ true → is_line_byte b ≡ true
kept_to_line b h =
    let l = leb-true 33 b (and_parts (nat_le 33 b) (not (b == 35)) h).0 in
    le-leb 32 b (omega arith)

-- .. and no blank ..
kept_to_not_blank : (b : ℕ) → is_kept_byte b ≡ true → not (is_blank b) ≡ true
kept_to_not_blank b h =
    let l = leb-true 33 b (and_parts (nat_le 33 b) (not (b == 35)) h).0 in
    not_from_false (is_blank b)
    (or_from (b == 32) (b == 9) (ne_eqb b 32 (λ e. omega arith)) (ne_eqb b 9 (λ e. omega arith)))

-- .. and no hash sign
kept_to_not_hash : (b : ℕ) → is_kept_byte b ≡ true → not (b == 35) ≡ true
kept_to_not_hash b h = (and_parts (nat_le 33 b) (not (b == 35)) h).1

-- a byte of a line is no line feed ..
line_to_not_feed : (b : ℕ) → is_line_byte b ≡ true → not (is_line_feed b) ≡ true
line_to_not_feed b h =
    let l = leb-true 32 b h in
    not_from_false (b == 10) (ne_eqb b 10 (λ e. omega arith))

-- .. and no carriage return
line_to_not_return : (b : ℕ) → is_line_byte b ≡ true → not (b == 13) ≡ true
line_to_not_return b h =
    let l = leb-true 32 b h in
    not_from_false (b == 13) (ne_eqb b 13 (λ e. omega arith))

-- Splitting

-- a part without cuts, and what follows the cut after it
pub split_part : {X : Type 0} (p : X → Bool) (part rest : List X) (c : X) →
    list_all (λ x. not (p x)) part ≡ true → p c ≡ true →
    slice_split p (part ++ c ∷ rest) ≡ part ∷ slice_split p rest
split_part p [] rest c h e =
    ap (λ b. cond b ([] ∷ slice_split p rest) (onto_first c (slice_split p rest))) e
split_part {X} p (x ∷ part) rest c h e =
    let parts = and_parts (not (p x)) (list_all (λ y. not (p y)) part) h in
    by_test (p x) parts.0 (split_part p part rest c parts.1 e)
  where
    by_test : (b : Bool) → not b ≡ true → slice_split p (part ++ c ∷ rest)
        ≡ part ∷ slice_split p rest →
        cond b ([] ∷ slice_split p (part ++ c ∷ rest))
        (onto_first x (slice_split p (part ++ c ∷ rest)))
        ≡ (x ∷ part) ∷ slice_split p rest
    by_test true n i = absurd (false≢true n)
    by_test false n i = ap (onto_first x) i

-- a list without cuts is one part
split_none : {X : Type 0} (p : X → Bool) (part : List X) → list_all (λ x. not (p x)) part ≡ true →
    slice_split p part ≡ part ∷ []
split_none p [] h = refl
split_none {X} p (x ∷ part) h =
    let parts = and_parts (not (p x)) (list_all (λ y. not (p y)) part) h in
    by_test (p x) parts.0 (split_none p part parts.1)
  where
    by_test : (b : Bool) → not b ≡ true → slice_split p part ≡ part ∷ [] →
        cond b ([] ∷ slice_split p part) (onto_first x (slice_split p part)) ≡ (x ∷ part) ∷ []
    by_test true n i = absurd (false≢true n)
    by_test false n i = ap (onto_first x) i

-- nothing is cut off where no element passes
before_none : {X : Type 0} (p : X → Bool) (xs : List X) → list_all (λ x. not (p x)) xs ≡ true →
    before_first p xs ≡ xs
before_none p [] h = refl
before_none {X} p (x ∷ xs) h =
    let parts = and_parts (not (p x)) (list_all (λ y. not (p y)) xs) h in
    by_test (p x) parts.0 (before_none p xs parts.1)
  where
    by_test : (b : Bool) → not b ≡ true → take (position_or_len p xs) xs ≡ xs →
        take (cond (not b) (1 + position_or_len p xs) 0) (x ∷ xs) ≡ x ∷ xs
    by_test true n i = absurd (false≢true n)
    by_test false n i =
        let e : 1 + position_or_len p xs ≡ suc (position_or_len p xs) = omega arith in
        ap (λ (k : ℕ). take k (x ∷ xs)) e ∙ ap (λ (ys : List X). x ∷ ys) i

-- The bytes of a line

-- words joined by one space hold bytes of lines alone ..
join_bytes : (words : List (List ℕ)) → are_kept_words words ≡ true →
    list_all is_line_byte (join_with_byte 32 words) ≡ true
join_bytes [] h = refl
join_bytes (w ∷ []) h =
    let word = (and_parts (is_kept_word w) true h).0 in
    all_weaker is_kept_byte is_line_byte kept_to_line w
    (and_parts (nat_lt 0 (length w)) (list_all is_kept_byte w) word).1
join_bytes (w ∷ v ∷ words) h =
    let parts = and_parts (is_kept_word w) (are_kept_words (v ∷ words)) h in
    list_all-append is_line_byte w (32 ∷ join_with_byte 32 (v ∷ words))
    ∙ and_from (list_all is_line_byte w) (list_all is_line_byte (join_with_byte 32 (v ∷ words)))
    (all_weaker is_kept_byte is_line_byte kept_to_line w
    (and_parts (nat_lt 0 (length w)) (list_all is_kept_byte w) parts.0).1)
    (join_bytes (v ∷ words) parts.1)

-- .. and no hash sign
join_no_hash : (words : List (List ℕ)) → are_kept_words words ≡ true →
    list_all (λ b. not (b == 35)) (join_with_byte 32 words) ≡ true
join_no_hash [] h = refl
join_no_hash (w ∷ []) h =
    let word = (and_parts (is_kept_word w) true h).0 in
    all_weaker is_kept_byte (λ b. not (b == 35)) kept_to_not_hash w
    (and_parts (nat_lt 0 (length w)) (list_all is_kept_byte w) word).1
join_no_hash (w ∷ v ∷ words) h =
    let parts = and_parts (is_kept_word w) (are_kept_words (v ∷ words)) h in
    list_all-append (λ b. not (b == 35)) w (32 ∷ join_with_byte 32 (v ∷ words))
    ∙ and_from (list_all (λ b. not (b == 35)) w)
    (list_all (λ b. not (b == 35)) (join_with_byte 32 (v ∷ words)))
    (all_weaker is_kept_byte (λ b. not (b == 35)) kept_to_not_hash w
    (and_parts (nat_lt 0 (length w)) (list_all is_kept_byte w) parts.0).1)
    (join_no_hash (v ∷ words) parts.1)

-- The words of a line

-- a word is kept among the parts between blanks
word_kept : (w : List ℕ) (rest : List (List ℕ)) → is_kept_word w ≡ true →
    filter is_some_word (w ∷ rest) ≡ w ∷ filter is_some_word rest
word_kept [] rest h = absurd (false≢true h)
word_kept (b ∷ w) rest h = refl

-- the parts of joined words, without empty ones
words_joined : (words : List (List ℕ)) → are_kept_words words ≡ true →
    words_in (join_with_byte 32 words) ≡ words
words_joined [] h = refl
words_joined (w ∷ []) h =
    let word = (and_parts (is_kept_word w) true h).0 in
    ap (filter is_some_word)
    (split_none is_blank w
    (all_weaker is_kept_byte (λ b. not (is_blank b)) kept_to_not_blank w
    (and_parts (nat_lt 0 (length w)) (list_all is_kept_byte w) word).1))
    ∙ word_kept w [] word
words_joined (w ∷ v ∷ words) h =
    let parts = and_parts (is_kept_word w) (are_kept_words (v ∷ words)) h in
    ap (filter is_some_word)
    (split_part is_blank w (join_with_byte 32 (v ∷ words)) 32
    (all_weaker is_kept_byte (λ b. not (is_blank b)) kept_to_not_blank w
    (and_parts (nat_lt 0 (length w)) (list_all is_kept_byte w) parts.0).1) refl)
    ∙ (word_kept w (slice_split is_blank (join_with_byte 32 (v ∷ words))) parts.0
    ∙ ap (λ (ws : List (List ℕ)). w ∷ ws) (words_joined (v ∷ words) parts.1))

-- The words of words joined by one space are these words.
pub kept_words_back : (words : List (List ℕ)) → are_kept_words words ≡ true →
    words_of (join_with_byte 32 words) ≡ words
kept_words_back words h =
    ap words_in (before_none (λ b. b == 35) (join_with_byte 32 words) (join_no_hash words h))
    ∙ words_joined words h

-- .. also where the words are printable
pub words_back : (words : List (List ℕ)) → are_text_words words ≡ true →
    words_of (join_with_byte 32 words) ≡ words
words_back words h = kept_words_back words (all_weaker is_text_word is_kept_word text_to_kept words h)

-- The lines of a text

-- a byte of a list in which no byte is a carriage return
no_return : (bs : List ℕ) (i : ℕ) → list_all (λ b. not (b == 13)) bs ≡ true →
    (slice_index bs i == 13) ≡ false
no_return [] i h = refl
no_return (b ∷ bs) zero h =
    not_true (b == 13) (and_parts (not (b == 13)) (list_all (λ x. not (x == 13)) bs) h).0
  where
    not_true : (x : Bool) → not x ≡ true → x ≡ false
    not_true true e = absurd (false≢true e)
    not_true false e = refl
no_return (b ∷ bs) (suc i) h =
    no_return bs i (and_parts (not (b == 13)) (list_all (λ x. not (x == 13)) bs) h).1

-- nothing is cut off a line's end
return_kept : (bs : List ℕ) → list_all is_line_byte bs ≡ true → strip_carriage_return bs ≡ bs
return_kept bs h =
    ap (λ (b : Bool). cond b (take (length bs - 1) bs) bs)
    (no_return bs (length bs - 1) (all_weaker is_line_byte (λ b. not (b == 13)) line_to_not_return
    bs h))

-- the part after the last line feed is empty and no line
pub empty_end : (lines : List (List ℕ)) → without_empty_end (lines ++ [] ∷ []) ≡ lines
empty_end [] = refl
empty_end (line ∷ []) = refl
empty_end (line ∷ next ∷ lines) = ap (λ (ls : List (List ℕ)). line ∷ ls) (empty_end (next ∷ lines))

-- the parts of a text that is written line by line, and an empty one after the last line feed
split_lines : (lines : List (List (List ℕ))) → list_all are_kept_words lines ≡ true →
    slice_split is_line_feed (flat_map line_text lines) ≡ map (join_with_byte 32) lines ++ [] ∷ []
split_lines [] h = refl
split_lines (words ∷ lines) h =
    let parts = and_parts (are_kept_words words) (list_all are_kept_words lines) h in
    ap (slice_split is_line_feed)
    (append_assoc (join_with_byte 32 words) (10 ∷ []) (flat_map line_text lines))
    ∙ (split_part is_line_feed (join_with_byte 32 words) (flat_map line_text lines) 10
    (all_weaker is_line_byte (λ b. not (is_line_feed b)) line_to_not_feed (join_with_byte 32 words)
    (join_bytes words parts.0)) refl
    ∙ ap (λ (ls : List (List ℕ)). join_with_byte 32 words ∷ ls) (split_lines lines parts.1))

-- nothing is cut off the ends of lines
returns_kept : (lines : List (List (List ℕ))) → list_all are_kept_words lines ≡ true →
    map strip_carriage_return (map (join_with_byte 32) lines) ≡ map (join_with_byte 32) lines
returns_kept [] h = refl
returns_kept (words ∷ lines) h =
    let parts = and_parts (are_kept_words words) (list_all are_kept_words lines) h in
    λ i. return_kept (join_with_byte 32 words) (join_bytes words parts.0) i ∷ returns_kept lines
    parts.1 i

-- The lines of a text that is written line by line are these lines.
pub kept_lines_back : (lines : List (List (List ℕ))) → list_all are_kept_words lines ≡ true →
    lines_of (flat_map line_text lines) ≡ map (join_with_byte 32) lines
kept_lines_back lines h =
    ap (λ (ls : List (List ℕ)). map strip_carriage_return (without_empty_end ls))
    (split_lines lines h)
    ∙ (ap (map strip_carriage_return) (empty_end (map (join_with_byte 32) lines))
    ∙ returns_kept lines h)

-- .. also where the words are printable
pub lines_back : (lines : List (List (List ℕ))) → list_all are_text_words lines ≡ true →
    lines_of (flat_map line_text lines) ≡ map (join_with_byte 32) lines
lines_back lines h =
    kept_lines_back lines
    (all_weaker are_text_words are_kept_words (λ ws. all_weaker is_text_word is_kept_word text_to_kept ws) lines h)
