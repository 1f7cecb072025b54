-- Bytes that are simple, from the masks of three tests of them.
use Rattle.std.proofs.Common.{◌≡◌, ℕ, zero, suc, ◌+◌, ◌-◌, ◌*◌, ◌/◌, ◌^◌, ◌<◌, ◌≤◌, Bool, true, false, cond, List, [], ◌∷◌, ◌++◌, drop, filter, length, map, refl, sym, take, subst, ap, ◌∙◌, arith}
use Rattle.std.specs.Prelude.{◌==◌, ◌&&◌, nat_lt}
use Rattle.std.specs.List.{All, list_all, position_or_len, slice_split}
use Rattle.std.specs.Int.Count.{count_trailing_zeros}
use Rattle.std.proofs.lemmas.List.Splits.{slice_split_first, slice_split_none}
use Rattle.std.specs.Simd.Lanes.{chunk, mask_l}
use Rattle.std.proofs.lemmas.Bool.Decides.{nat_tests}
use Rattle.std.proofs.Math.Nat.{pow-suc, pow-le-pow_right, pow-succ', zero-div, mul_assoc, div-div-eq-div-mul}
use Rattle.std.proofs.lemmas.Bool.{and_parts}
use Rattle.std.proofs.lemmas.List.{take_all, append-nil, drop-drop, length-drop, length-map, take-append-drop}
use Rattle.std.proofs.lemmas.Simd.{length-chunk, mask_l-lt, none_from_empty_mask}
use Rattle.vq_model.specs.Text.{is_blank, is_plain, is_some_word, without_comment, words_in, words_of}
use Rattle.vq_lexer.specs.Words.{AreBlanks, is_simple, some_word}
use Rattle.vq_lexer.proofs.Marks.{first_marked}
use Rattle.vq_lexer.proofs.PlainParts.{words_plain}
use Rattle.vq_lexer.proofs.WordsCut.{comment_later, kept}

-- equal masks have equal bits
equal_bits : (s t : Bool) (m n : ℕ) → cond s 1 0 + 2 * m ≡ cond t 1 0 + 2 * n → (s ≡ t) × (m ≡ n)
equal_bits true true m n h = (refl, omega arith)
equal_bits true false m n h = absurd (omega arith)
equal_bits false true m n h = absurd (omega arith)
equal_bits false false m n h = (refl, omega arith)

-- all bits of a mask are set
set_bits : (s : Bool) (m n : ℕ) → (cond s 1 0 + 2 * m) + 1 ≡ n * 2 → (s ≡ true) × (m + 1 ≡ n)
set_bits true m n h = (refl, omega arith)
set_bits false m n h = absurd (omega arith)

simple_byte : (b : ℕ) → nat_lt b 36 ≡ (b == 32) → nat_lt b 127 ≡ true → is_simple b ≡ true
simple_byte b h e = grind (arith, nat_tests)

blank_byte : (b : ℕ) → nat_lt b 36 ≡ (b == 32) → (b == 32) ≡ is_blank b
blank_byte b h = grind (arith, nat_tests)

pub blanks_from_tests : (bytes : List ℕ) → mask_l (map (λ b. nat_lt b 36) bytes) ≡ mask_l (map (λ b. b == 32) bytes) →
    mask_l (map (λ b. nat_lt b 127) bytes) + 1 ≡ 2 ^ length bytes →
    AreBlanks bytes (mask_l (map (λ b. b == 32) bytes))
blanks_from_tests [] h e = record { simple = refl; bits = refl }
blanks_from_tests (b ∷ bytes) h e =
    let low = equal_bits (nat_lt b 36) (b == 32) (mask_l (map (λ b. nat_lt b 36) bytes))
    (mask_l (map (λ b. b == 32) bytes)) h in
    let plain = set_bits (nat_lt b 127) (mask_l (map (λ b. nat_lt b 127) bytes)) (2 ^ length bytes) (rw pow-suc at e) in
    let more = blanks_from_tests bytes low.1 plain.1 in
    record {
      simple = λ i. simple_byte b low.0 plain.0 i && more.simple i;
      bits = λ i. cond (blank_byte b low.0 i) 1 0 + 2 * more.bits i;
    }

-- the blanks of a part without its first bytes
later_bits : (t : Bool) (n : ℕ) → (cond t 1 0 + 2 * n) / 2 ≡ n
later_bits true n = omega arith
later_bits false n = omega arith

pub drop_blanks : (n : ℕ) (bytes : List ℕ) (mask : ℕ) → AreBlanks bytes mask → AreBlanks (drop n bytes) (mask / 2 ^ n)
drop_blanks zero bytes mask h = subst (λ (m : ℕ). AreBlanks bytes m) (omega arith) h
drop_blanks (suc n) [] mask h =
    record { simple = refl; bits = ap (λ (m : ℕ). m / 2 ^ suc n) h.bits ∙ zero-div (2 ^ suc n) }
drop_blanks (suc n) (b ∷ bytes) mask h =
    let parts = and_parts (is_simple b) (list_all is_simple bytes) h.simple in
    let later : mask / 2 ≡ mask_l (map is_blank bytes)
    = ap (λ (m : ℕ). m / 2) h.bits ∙ later_bits (is_blank b) (mask_l (map is_blank bytes)) in
    let twice : 2 ^ suc n ≡ 2 * 2 ^ n = pow-succ' 2 n in
    let same : mask / 2 / 2 ^ n ≡ mask / 2 ^ suc n = rw twice (div-div-eq-div-mul mask 2 (2 ^ n)) in
    subst (λ (m : ℕ). AreBlanks (drop n bytes) m) same
    (drop_blanks n bytes (mask / 2) (record { simple = parts.1; bits = later }))

-- the blanks of two parts, one after the other
pub append_blanks : (xs ys : List ℕ) (m n : ℕ) → AreBlanks xs m → AreBlanks ys n →
    AreBlanks (xs ++ ys) (m + 2 ^ length xs * n)
append_blanks [] ys m n h k =
    let none : m ≡ 0 = h.bits in
    subst (λ (mask : ℕ). AreBlanks ys mask) (omega arith) k
append_blanks (x ∷ xs) ys m n h k =
    let parts = and_parts (is_simple x) (list_all is_simple xs) h.simple in
    let more = append_blanks xs ys (mask_l (map is_blank xs)) n (record { simple = parts.1; bits = refl }) k in
    let twice : 2 ^ suc (length xs) * n ≡ 2 * (2 ^ length xs * n)
    = rw (pow-succ' 2 (length xs)) (mul_assoc 2 (2 ^ length xs) n) in
    let bits = more.bits in
    let all = h.bits in
    record {
      simple = λ i. parts.0 i && more.simple i;
      bits = rw twice (omega (arith, all, bits));
    }

-- The blanks of so many bytes, from those of the first n and of the last n.
module _ (n : ℕ) (bytes : List ℕ) (first last : ℕ) (some : n ≤ length bytes) (most : length bytes ≤ 2 * n) where
  pub joined_blanks : AreBlanks (chunk 0 n bytes) first → AreBlanks (chunk (length bytes - n) n bytes) last →
      AreBlanks bytes (first + 2 ^ n * (last / 2 ^ (2 * n - length bytes)))
  joined_blanks h k =
      let left = 2 * n - length bytes in
      let from = length bytes - n in
      let long0 : 0 + n ≤ length bytes = omega arith in
      let long : length (chunk 0 n bytes) ≡ n = length-chunk 0 n bytes long0 in
      let behind : length (drop from bytes) ≤ n = omega (arith, length-drop from bytes) in
      let tail : chunk from n bytes ≡ drop from bytes = take_all n (drop from bytes) behind in
      let places : from + left ≡ n = omega arith in
      let end : drop left (chunk from n bytes) ≡ drop n bytes
      = ap (drop left) tail ∙ drop-drop left from bytes ∙ ap (λ (i : ℕ). drop i bytes) places in
      let later = subst (λ (part : List ℕ). AreBlanks part (last / 2 ^ left)) end
      (drop_blanks left (chunk from n bytes) last k) in
      let both = append_blanks (chunk 0 n bytes) (drop n bytes) first (last / 2 ^ left) h later in
      subst (λ (x : List ℕ × ℕ). AreBlanks x.0 (first + 2 ^ x.1 * (last / 2 ^ left)))
      (λ i. (take-append-drop n bytes i, long i)) both

-- they fit so many bits
pub blanks_fit : (bytes : List ℕ) (mask : ℕ) → AreBlanks bytes mask → length bytes ≤ 32 → mask < 2 ^ 32
blanks_fit bytes mask h short =
    let below : mask_l (map is_blank bytes) < 2 ^ length bytes = rw length-map at (mask_l-lt (map is_blank bytes)) in
    let most : 2 ^ length bytes ≤ 2 ^ 32 = pow-le-pow_right (omega arith) short in
    let bits = h.bits in
    omega arith

-- The first blank of a part that has one, and what follows it.
pub first_blank : (bytes : List ℕ) (mask : ℕ) → AreBlanks bytes mask → length bytes ≤ 32 → 0 < mask →
    (count_trailing_zeros 64 mask < length bytes) × (position_or_len is_blank bytes ≡ count_trailing_zeros 64 mask)
first_blank bytes mask h short some =
    let whole : chunk 0 (length bytes) bytes ≡ bytes = take_all (length bytes) bytes (omega arith) in
    let same : mask_l (map is_blank (chunk 0 (length bytes) bytes)) ≡ mask
    = ap (λ (part : List ℕ). mask_l (map is_blank part)) whole ∙ sym h.bits in
    subst (λ (m : ℕ). (count_trailing_zeros 64 m < length bytes)
    × (position_or_len is_blank bytes ≡ count_trailing_zeros 64 m)) same
    (first_marked is_blank bytes (length bytes) (omega arith) (omega arith) (rw same some))

-- the words of a part with a blank
pub words_next : (bytes : List ℕ) (n : ℕ) → n < length bytes → position_or_len is_blank bytes ≡ n →
    words_in bytes ≡ some_word (take n bytes) ++ words_in (drop (n + 1) bytes)
words_next bytes n within is =
    let place = position_or_len is_blank bytes in
    subst (λ (k : ℕ). words_in bytes ≡ some_word (take k bytes) ++ words_in (drop (k + 1) bytes)) is
    (ap (filter is_some_word) (slice_split_first is_blank bytes 0 (rw is within))
    ∙ kept (take place bytes) (slice_split is_blank (drop (place + 1) bytes)))

-- .. and of one without
no_blank : (bytes : List ℕ) → mask_l (map is_blank bytes) ≡ 0 → All (λ b. is_blank b ≡ false) bytes
no_blank bytes none =
    let long : 0 + length bytes ≤ length bytes = omega arith in
    let whole : chunk 0 (length bytes) bytes ≡ bytes = take_all (length bytes) bytes (omega arith) in
    let empty = ap (λ (part : List ℕ). mask_l (map is_blank part)) whole ∙ none in
    λ k d l. none_from_empty_mask is_blank bytes 0 (length bytes) d long empty k (omega arith) (omega arith)

pub words_last : (bytes : List ℕ) (mask : ℕ) → AreBlanks bytes mask → mask ≡ 0 → words_in bytes ≡ some_word bytes
words_last bytes mask h none =
    ap (filter is_some_word) (slice_split_none is_blank bytes (no_blank bytes (sym h.bits ∙ none)))
    ∙ kept bytes [] ∙ append-nil (some_word bytes)

-- simple bytes have no comment, and are plain
not_hash : (b : ℕ) → is_simple b ≡ true → (b == 35) ≡ false
not_hash b h = grind (arith, nat_tests)

simple_plain : (b : ℕ) → is_simple b ≡ true → is_plain b ≡ true
simple_plain b h = grind (arith, nat_tests)

no_comment : (bytes : List ℕ) → list_all is_simple bytes ≡ true → without_comment bytes ≡ bytes
no_comment [] h = refl
no_comment (b ∷ bytes) h =
    let parts = and_parts (is_simple b) (list_all is_simple bytes) h in
    comment_later b bytes (not_hash b parts.0) ∙ ap (λ (bs : List ℕ). b ∷ bs) (no_comment bytes parts.1)

pub words_of_simple : (bytes : List ℕ) (mask : ℕ) → AreBlanks bytes mask → words_in bytes ≡ words_of bytes
words_of_simple bytes mask h = ap words_in (sym (no_comment bytes h.simple))

all_plain : (bytes : List ℕ) → list_all is_simple bytes ≡ true → list_all is_plain bytes ≡ true
all_plain [] h = refl
all_plain (b ∷ bytes) h =
    let parts = and_parts (is_simple b) (list_all is_simple bytes) h in
    (λ i. simple_plain b parts.0 i && all_plain bytes parts.1 i)

pub plain_of_simple : (bytes : List ℕ) (mask : ℕ) → AreBlanks bytes mask →
    true ≡ list_all (list_all is_plain) (words_of bytes)
plain_of_simple bytes mask h =
    sym (words_plain (without_comment bytes) ∙ ap (list_all is_plain) (no_comment bytes h.simple)
    ∙ all_plain bytes h.simple)
