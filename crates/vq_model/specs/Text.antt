-- The text of a script: its lines, the words of a line, names and numerals.
-- The format is this project's own.
use Rattle.std.specs.Prelude.{ℕ, ◌==◌, Bool, if◌then◌else◌, List, [], ◌∷◌, length, map, ◌||◌}
use Rattle.std.specs.Prelude.{nat_le, ◌&&◌, true, false}
use Rattle.std.specs.Prelude.{filter, nat_lt, not, slice_index, ◌^◌, Option, Some, None, drop}
use Rattle.std.specs.List.{slice_split, before_first, list_all}
use Rattle.std.specs.Str.Lines.{strip_carriage_return}
use Rattle.std.specs.Char.{digit_value}
use Rattle.std.specs.Str.Parse.{digits_value}

-- a line feed cuts lines
abbrev pub is_line_feed : ℕ → Bool
is_line_feed b = b == 10

-- the parts, without a last one that is empty: what follows the last line feed is a line only
-- where it isn't empty
abbrev pub without_empty_end : List (List ℕ) → List (List ℕ)
without_empty_end [] = []
without_empty_end (part ∷ []) = if length part == 0 then [] else part ∷ []
without_empty_end (part ∷ next ∷ parts) = part ∷ without_empty_end (next ∷ parts)

-- The lines of a text, without the one carriage return that belongs to a line's end.
abbrev pub lines_of : List ℕ → List (List ℕ)
lines_of text = map strip_carriage_return (without_empty_end (slice_split is_line_feed text))

-- from a hash sign on, a line is a comment
abbrev pub without_comment : List ℕ → List ℕ
without_comment line = before_first (λ b. b == 35) line

abbrev pub is_blank : ℕ → Bool
is_blank b = (b == 32) || (b == 9)

-- a byte that a line may hold outside its comment: printable ASCII, or a tab
abbrev pub is_plain : ℕ → Bool
is_plain b = (nat_le 32 b && nat_le b 126) || (b == 9)

abbrev pub is_some_word : List ℕ → Bool
is_some_word [] = false
is_some_word (b ∷ bs) = true

-- the words of a part without comments stand between runs of blanks
abbrev pub words_in : List ℕ → List (List ℕ)
words_in part = filter is_some_word (slice_split is_blank part)

-- the words of a line
abbrev pub words_of : List ℕ → List (List ℕ)
words_of line = words_in (without_comment line)

abbrev pub is_letter : ℕ → Bool
is_letter b = (nat_le 65 b && nat_le b 90) || (nat_le 97 b && nat_le b 122) || (b == 95)

abbrev pub is_digit : ℕ → Bool
is_digit b = nat_le 48 b && nat_le b 57

-- one to sixteen letters, digits and low lines, of which the first is no digit
abbrev pub is_name : List ℕ → Bool
is_name word =
    nat_lt 0 (length word) && nat_le (length word) 16 && not (is_digit (slice_index word 0))
    && list_all (λ b. is_letter b || is_digit b) word

-- so many digits of a base, one at least, that write no number above 2^64 - 1
abbrev pub is_numeral_in : ℕ → ℕ → List ℕ → Bool
is_numeral_in base most digits =
    nat_lt 0 (length digits) && nat_le (length digits) most
    && list_all (λ b. nat_lt (digit_value b) base) digits
    && nat_lt (digits_value base digits) (2 ^ 64)

abbrev pub numeral_in : ℕ → ℕ → List ℕ → Option ℕ
numeral_in base most digits =
    if is_numeral_in base most digits then Some (digits_value base digits) else None

-- whether a word begins with 0x
abbrev pub is_marked_hex : List ℕ → Bool
is_marked_hex (a ∷ b ∷ digits) = (a == 48) && (b == 120)
is_marked_hex word = false

-- one to twenty decimal digits, or 0x and one to sixteen hexadecimal digits
abbrev pub numeral : List ℕ → Option ℕ
numeral word = if is_marked_hex word then numeral_in 16 16 (drop 2 word) else numeral_in 10 20 word
