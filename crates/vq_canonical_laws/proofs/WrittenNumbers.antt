-- Numbers that are written, read again.
use Rattle.std.proofs.Common.{◌≡◌, ℕ, true, List, [], ◌∷◌, refl, ◌^◌, ◌<◌, ◌≤◌, Bool, cond, ◌&&◌, length, Some, None, ap, ◌∙◌, arith, false, Option, ◌==◌, not, subst, ◌+◌, ◌*◌, ◌/◌, ◌%◌, ne_eqb}
use Rattle.std.specs.Prelude.{nat_lt, nat_le, drop, codes}
use Rattle.std.specs.List.{list_all, flat_map}
use Rattle.std.specs.Char.{digit_value, digit_char}
use Rattle.std.specs.Str.Parse.{AllDigits, digits_value}
use Rattle.std.proofs.lemmas.Bool.{lt-ltb, and_from, le-leb, ltb-true, and_parts, and_right, false_from_ne_true, eq-eqb}
use Rattle.vq_model.specs.Text.{numeral_in, is_numeral_in, numeral, is_marked_hex}
use Rattle.std.specs.Option.{option_and_then}
use Rattle.vq_model.specs.Meaning.{small_numeral, is_hex, hex_bytes}
use Rattle.vq_canonical_laws.proofs.WrittenTexts.{is_word_byte, is_text_word}
use Rattle.std.specs.Fmt.{decimal}
use Rattle.std.proofs.lemmas.Fmt.{decimal_is_IsNumeral, length-decimal-le}
use Rattle.std.proofs.lemmas.Str.Parse.{digit_from_value}
use Rattle.std.specs.Str.{bytes_eq}
use Rattle.std.proofs.lemmas.Slice.Eq.{bytes_eq-Decides}
use Rattle.std.proofs.lemmas.Str.{digit_value-digit_char}
use Rattle.vq_model.specs.Canonical.{fill_word, hex_digits}
pub use Rattle.vq_canonical_laws.specs.FormatRules.{AllBytes}

-- Digits

-- digits pass the test of each
digit_tests : (base : ℕ) (ds : List ℕ) → AllDigits base ds →
    list_all (λ b. nat_lt (digit_value b) base) ds ≡ true
digit_tests base [] h = refl
digit_tests base (d ∷ ds) h =
    and_from (nat_lt (digit_value d) base) (list_all (λ b. nat_lt (digit_value b) base) ds)
    (lt-ltb (digit_value d) base h.0) (digit_tests base ds h.1)

-- a numeral of a base, read
numeral_is : (base most : ℕ) (ds : List ℕ) (n : ℕ) → 0 < length ds → length ds ≤ most →
    AllDigits base ds → digits_value base ds ≡ n → n < 2 ^ 64 → numeral_in base most ds ≡ Some n
numeral_is base most ds n some few all same small =
    let l : digits_value base ds < 2 ^ 64 = omega arith in
    let t : is_numeral_in base most ds ≡ true =
    and_from (nat_lt 0 (length ds) && nat_le (length ds) most && list_all
    (λ b. nat_lt (digit_value b) base) ds)
    (nat_lt (digits_value base ds) (2 ^ 64))
    (and_from (nat_lt 0 (length ds) && nat_le (length ds) most)
    (list_all (λ b. nat_lt (digit_value b) base) ds)
    (and_from (nat_lt 0 (length ds)) (nat_le (length ds) most) (lt-ltb 0 (length ds) some)
    (le-leb (length ds) most few))
    (digit_tests base ds all)) (lt-ltb (digits_value base ds) (2 ^ 64) l) in
    ap (λ (b : Bool). cond b (Some (digits_value base ds)) None) t ∙ ap (λ (k : ℕ). Some k) same

-- what is read is small
numeral_small : (base most : ℕ) (ds : List ℕ) (n : ℕ) → numeral_in base most ds ≡ Some n →
    n < 2 ^ 64
numeral_small base most ds n h = by_test (is_numeral_in base most ds) refl h
  where
    by_test : (b : Bool) → is_numeral_in base most ds ≡ b →
        cond b (Some (digits_value base ds)) None ≡ Some n → n < 2 ^ 64
    by_test true e i =
        let l = ltb-true (digits_value base ds) (2 ^ 64)
        (and_parts (nat_lt 0 (length ds) && nat_le (length ds) most && list_all
        (λ b. nat_lt (digit_value b) base) ds)
        (nat_lt (digits_value base ds) (2 ^ 64)) e).1 in
        let same : digits_value base ds ≡ n = cc in
        omega arith
    by_test false e i = absurd (cc)

-- A numeral is below 2 ^ 64.
pub numeral_below : (word : List ℕ) (n : ℕ) → numeral word ≡ Some n → n < 2 ^ 64
numeral_below word n h = by_test (is_marked_hex word) h
  where
    by_test : (b : Bool) → cond b (numeral_in 16 16 (drop 2 word)) (numeral_in 10 20 word)
        ≡ Some n → n < 2 ^ 64
    by_test true i = numeral_small 16 16 (drop 2 word) n i
    by_test false i = numeral_small 10 20 word n i

-- a numeral of 32 bits is below 2 ^ 32, and a numeral
pub small_numeral_below : (word : List ℕ) (n : ℕ) → small_numeral word ≡ Some n → n < 2 ^ 32
small_numeral_below word n h = by_number (numeral word) h
  where
    by_number : (o : Option ℕ) → option_and_then (λ k. cond (nat_lt k (2 ^ 32)) (Some k) None) o
        ≡ Some n → n < 2 ^ 32
    by_number None i = absurd (cc)
    by_number (Some k) i = by_test (nat_lt k (2 ^ 32)) refl i
      where
        by_test : (b : Bool) → nat_lt k (2 ^ 32) ≡ b → cond b (Some k) None ≡ Some n → n < 2 ^ 32
        by_test true e j = let l = ltb-true k (2 ^ 32) e in let same : k ≡ n = cc in omega arith
        by_test false e j = absurd (cc)

-- Decimal numerals

-- digits aren't marked as hexadecimal ones
digits_unmarked : (ds : List ℕ) → AllDigits 10 ds → is_marked_hex ds ≡ false
digits_unmarked [] h = refl
digits_unmarked (a ∷ []) h = refl
digits_unmarked (a ∷ b ∷ ds) h =
    and_right (a == 48) (b == 120)
    (ne_eqb b 120 (λ e. let l = h.1.0 in
    let m : digit_value b ≡ digit_value 120 = ap digit_value e in
    let k : digit_value 120 ≡ 33 = refl in omega arith))

-- The decimal numeral of a number is read as this number.
pub decimal_back : (n : ℕ) → n < 2 ^ 64 → numeral (decimal n) ≡ Some n
decimal_back n small =
    let is = decimal_is_IsNumeral n small in
    ap (λ (b : Bool). cond b (numeral_in 16 16 (drop 2 (decimal n))) (numeral_in 10 20 (decimal n)))
    (digits_unmarked (decimal n) is.0.1)
    ∙ numeral_is 10 20 (decimal n) n is.0.0
    (length-decimal-le 20 n (omega arith) (omega arith) small) is.0.1 is.1 small

-- a decimal digit is a byte of a word ..
digit_is_word_byte : (b : ℕ) → digit_value b < 10 → is_word_byte b ≡ true
digit_is_word_byte b h =
    let r = digit_from_value b h in
    let l = r.0 in
    let m = r.1 in
    and_from (nat_le 33 b && nat_le b 126) (not (b == 35))
    (and_from (nat_le 33 b) (nat_le b 126) (le-leb 33 b (omega arith)) (le-leb b 126 (omega arith)))
    (ap not (ne_eqb b 35 (λ e. omega arith)))

-- .. and digits are such bytes
digits_are_word : (ds : List ℕ) → AllDigits 10 ds → list_all is_word_byte ds ≡ true
digits_are_word [] h = refl
digits_are_word (d ∷ ds) h =
    and_from (is_word_byte d) (list_all is_word_byte ds) (digit_is_word_byte d h.0)
    (digits_are_word ds h.1)

-- It is a word ..
pub decimal_word : (n : ℕ) → n < 2 ^ 64 → is_text_word (decimal n) ≡ true
decimal_word n small =
    let is = decimal_is_IsNumeral n small in
    and_from (nat_lt 0 (length (decimal n))) (list_all is_word_byte (decimal n))
    (lt-ltb 0 (length (decimal n)) is.0.0)
    (digits_are_word (decimal n) is.0.1)

-- .. and not the word for the whole size.
pub decimal_not_whole : (n : ℕ) → n < 2 ^ 64 → bytes_eq (decimal n) (codes "whole") ≡ false
decimal_not_whole n small =
    false_from_ne_true (bytes_eq (decimal n) (codes "whole"))
    (λ e. let same = (bytes_eq-Decides (decimal n) (codes "whole")).0 e in
    let all : AllDigits 10 (codes "whole") =
    subst (AllDigits 10) same (decimal_is_IsNumeral n small).0.1 in
    let l : digit_value 119 < 10 = all.0 in
    let k : digit_value 119 ≡ 32 = refl in
    omega arith)

-- Hexadecimal words

-- a hexadecimal digit is a byte of a word
hex_char_is_word_byte : (d : ℕ) → d < 16 → is_word_byte (digit_char d) ≡ true
hex_char_is_word_byte d h = by_test (nat_lt d 10) refl
  where
    byte : (b : ℕ) → 48 ≤ b → b ≤ 102 → is_word_byte b ≡ true
    byte b l m =
        and_from (nat_le 33 b && nat_le b 126) (not (b == 35))
        (and_from (nat_le 33 b) (nat_le b 126) (le-leb 33 b (omega arith))
        (le-leb b 126 (omega arith)))
        (ap not (ne_eqb b 35 (λ e. omega arith)))

    by_test : (t : Bool) → nat_lt d 10 ≡ t → is_word_byte (cond t (48 + d) (87 + d)) ≡ true
    by_test true e = byte (48 + d) (omega arith) (omega arith)
    by_test false e = byte (87 + d) (omega arith) (omega arith)

-- the value of eight digits
eight_value : (a b c d e f g h : ℕ) → a < 16 → b < 16 → c < 16 → d < 16 → e < 16 → f < 16 → g < 16 →
    h < 16 →
    digits_value 16 (digit_char a ∷ digit_char b ∷ digit_char c ∷ digit_char d ∷ digit_char e
    ∷ digit_char f ∷ digit_char g ∷ digit_char h ∷ [])
    ≡ ((((((a * 16 + b) * 16 + c) * 16 + d) * 16 + e) * 16 + f) * 16 + g) * 16 + h
eight_value a b c d e f g h la lb lc ld le lf lg lh =
    let va = digit_value-digit_char a (omega arith) in
    let vb = digit_value-digit_char b (omega arith) in
    let vc = digit_value-digit_char c (omega arith) in
    let vd = digit_value-digit_char d (omega arith) in
    let ve = digit_value-digit_char e (omega arith) in
    let vf = digit_value-digit_char f (omega arith) in
    let vg = digit_value-digit_char g (omega arith) in
    let vh = digit_value-digit_char h (omega arith) in
    omega arith

-- its value is below 16
hex_digit_fits : (d : ℕ) → d < 16 → digit_value (digit_char d) < 16
hex_digit_fits d l = let e = digit_value-digit_char d (omega arith) in omega arith

-- eight hexadecimal digits of a word
module _ (w : ℕ) (small : w < 2 ^ 32) where
  -- they are digits
  hex_all : AllDigits 16 (hex_digits 8 w)
  hex_all = (
    hex_digit_fits (w / 16 / 16 / 16 / 16 / 16 / 16 / 16 % 16) (omega arith),
    (
      hex_digit_fits (w / 16 / 16 / 16 / 16 / 16 / 16 % 16) (omega arith),
      (
        hex_digit_fits (w / 16 / 16 / 16 / 16 / 16 % 16) (omega arith),
        (
          hex_digit_fits (w / 16 / 16 / 16 / 16 % 16) (omega arith),
          (
            hex_digit_fits (w / 16 / 16 / 16 % 16) (omega arith),
            (
              hex_digit_fits (w / 16 / 16 % 16) (omega arith),
              (
                hex_digit_fits (w / 16 % 16) (omega arith),
                (hex_digit_fits (w % 16) (omega arith), tt),
              ),
            ),
          ),
        ),
      ),
    ),
  )

  -- their value
  hex_value : digits_value 16 (hex_digits 8 w) ≡ w
  hex_value =
      eight_value (w / 16 / 16 / 16 / 16 / 16 / 16 / 16 % 16) (w / 16 / 16 / 16 / 16 / 16 / 16 % 16)
      (w / 16 / 16 / 16 / 16 / 16 % 16) (w / 16 / 16 / 16 / 16 % 16) (w / 16 / 16 / 16 % 16)
      (w / 16 / 16 % 16) (w / 16 % 16) (w % 16)
      (omega arith) (omega arith) (omega arith) (omega arith) (omega arith) (omega arith)
      (omega arith) (omega arith)
      ∙ omega arith

  -- as a numeral
  fill_numeral : numeral (fill_word w) ≡ Some w
  fill_numeral =
      numeral_is 16 16 (hex_digits 8 w) w (omega arith) (omega arith) hex_all hex_value
      (omega arith)

  -- The word of a fill is read as this number.
  pub fill_word_back : small_numeral (fill_word w) ≡ Some w
  fill_word_back =
      ap (λ (o : Option ℕ). option_and_then (λ n. cond (nat_lt n (2 ^ 32)) (Some n) None) o)
      fill_numeral
      ∙ ap (λ (b : Bool). cond b (Some w) None) (lt-ltb w (2 ^ 32) small)

  -- It is a word.
  pub fill_word_word : is_text_word (fill_word w) ≡ true
  fill_word_word =
      and_from (is_word_byte (digit_char (w / 16 / 16 / 16 / 16 / 16 / 16 / 16 % 16))) _
      (hex_char_is_word_byte (w / 16 / 16 / 16 / 16 / 16 / 16 / 16 % 16) (omega arith))
      (and_from (is_word_byte (digit_char (w / 16 / 16 / 16 / 16 / 16 / 16 % 16))) _
      (hex_char_is_word_byte (w / 16 / 16 / 16 / 16 / 16 / 16 % 16) (omega arith))
      (and_from (is_word_byte (digit_char (w / 16 / 16 / 16 / 16 / 16 % 16))) _
      (hex_char_is_word_byte (w / 16 / 16 / 16 / 16 / 16 % 16) (omega arith))
      (and_from (is_word_byte (digit_char (w / 16 / 16 / 16 / 16 % 16))) _
      (hex_char_is_word_byte (w / 16 / 16 / 16 / 16 % 16) (omega arith))
      (and_from (is_word_byte (digit_char (w / 16 / 16 / 16 % 16))) _
      (hex_char_is_word_byte (w / 16 / 16 / 16 % 16) (omega arith))
      (and_from (is_word_byte (digit_char (w / 16 / 16 % 16))) _
      (hex_char_is_word_byte (w / 16 / 16 % 16) (omega arith))
      (and_from (is_word_byte (digit_char (w / 16 % 16))) _
      (hex_char_is_word_byte (w / 16 % 16) (omega arith))
      (and_from (is_word_byte (digit_char (w % 16))) true
      (hex_char_is_word_byte (w % 16) (omega arith)) refl)))))))

-- Bytes of two digits each

-- What hexadecimal digits stand for are bytes.
pub hex_bytes_below : (digits : List ℕ) → is_hex digits ≡ true → AllBytes (hex_bytes digits)
hex_bytes_below digits h =
    by_digits digits
    (and_parts (length digits % 2 == 0) (list_all (λ b. nat_lt (digit_value b) 16) digits) h).1
  where
    by_digits : (ds : List ℕ) → list_all (λ b. nat_lt (digit_value b) 16) ds ≡ true →
        AllBytes (hex_bytes ds)
    by_digits [] e = tt
    by_digits (high ∷ []) e = tt
    by_digits (high ∷ low ∷ ds) e =
        let first =
        and_parts (nat_lt (digit_value high) 16)
        (list_all (λ b. nat_lt (digit_value b) 16) (low ∷ ds)) e in
        let second =
        and_parts (nat_lt (digit_value low) 16) (list_all (λ b. nat_lt (digit_value b) 16) ds)
        first.1 in
        let l = ltb-true (digit_value high) 16 first.0 in
        let m = ltb-true (digit_value low) 16 second.0 in
        (omega arith, by_digits ds second.1)

-- The digits of bytes are read as these bytes.
pub byte_digits_back : (bytes : List ℕ) → AllBytes bytes →
    hex_bytes (flat_map (hex_digits 2) bytes) ≡ bytes
byte_digits_back [] h = refl
byte_digits_back (b ∷ bytes) h =
    let l = h.0 in
    let high = digit_value-digit_char (b / 16 % 16) (omega arith) in
    let low = digit_value-digit_char (b % 16) (omega arith) in
    let same : 16 * digit_value (digit_char (b / 16 % 16)) + digit_value (digit_char (b % 16))
    ≡ b = omega arith in
    λ i. same i ∷ byte_digits_back bytes h.1 i

-- what holds of each hexadecimal digit holds of all
all_byte_digits : (test : ℕ → Bool) → ((d : ℕ) → d < 16 → test (digit_char d) ≡ true) →
    (bytes : List ℕ) → list_all test (flat_map (hex_digits 2) bytes) ≡ true
all_byte_digits test f [] = refl
all_byte_digits test f (b ∷ bytes) =
    and_from (test (digit_char (b / 16 % 16)))
    (list_all test (digit_char (b % 16) ∷ flat_map (hex_digits 2) bytes))
    (f (b / 16 % 16) (omega arith))
    (and_from (test (digit_char (b % 16))) (list_all test (flat_map (hex_digits 2) bytes))
    (f (b % 16) (omega arith)) (all_byte_digits test f bytes))

-- two digits for each byte
count_byte_digits : (bytes : List ℕ) → length (flat_map (hex_digits 2) bytes) ≡ 2 * length bytes
count_byte_digits [] = refl
count_byte_digits (b ∷ bytes) = let rest = count_byte_digits bytes in omega arith

-- They are hexadecimal digits, two for each byte ..
pub byte_digits_hex : (bytes : List ℕ) → is_hex (flat_map (hex_digits 2) bytes) ≡ true
byte_digits_hex bytes =
    let count = count_byte_digits bytes in
    and_from (length (flat_map (hex_digits 2) bytes) % 2 == 0)
    (list_all (λ b. nat_lt (digit_value b) 16) (flat_map (hex_digits 2) bytes))
    (eq-eqb (length (flat_map (hex_digits 2) bytes) % 2) 0 (omega arith))
    (all_byte_digits (λ b. nat_lt (digit_value b) 16)
    (λ d l. lt-ltb (digit_value (digit_char d)) 16 (hex_digit_fits d l)) bytes)

-- .. and a word, where there is a byte.
pub byte_digits_word : (bytes : List ℕ) → 0 < length bytes →
    is_text_word (flat_map (hex_digits 2) bytes) ≡ true
byte_digits_word bytes some =
    let count = count_byte_digits bytes in
    and_from (nat_lt 0 (length (flat_map (hex_digits 2) bytes)))
    (list_all is_word_byte (flat_map (hex_digits 2) bytes))
    (lt-ltb 0 (length (flat_map (hex_digits 2) bytes)) (omega arith))
    (all_byte_digits is_word_byte hex_char_is_word_byte bytes)
