-- Numbers in texts that the system makes.
use Rattle.std.specs.Prelude.{◌≡◌, ℕ, ◌<◌, List, ◌++◌, drop, length, Some}
use Rattle.std.specs.Char.{is_whitespace, is_not_whitespace}
use Rattle.std.specs.Str.{NoCharPasses, EmptyOrStartsWithPassing}
use Rattle.std.specs.Str.Parse.{IsNumeral, digits_value, without_leading_plus}
use Rattle.std.specs.Str.Pattern.{FindsText}

-- The first word of a text, between white space.
abbrev pub IsFirstWord : List ℕ → List ℕ → Type 0
IsFirstWord text word = (gap : List ℕ) × (rest : List ℕ) × (text ≡ gap ++ (word ++ rest)) × (0 < length word)
    × NoCharPasses is_not_whitespace gap × NoCharPasses is_whitespace word
    × ((more : List ℕ) × EmptyOrStartsWithPassing is_whitespace rest more)

-- The first word behind the first place where a label stands in a text.
abbrev pub IsWordBehind : List ℕ → List ℕ → List ℕ → Type 0
IsWordBehind text label word = (start : ℕ) × (end : ℕ) × FindsText label text (Some (start, end))
    × IsFirstWord (drop end text) word

-- That word writes this number in this base; a plus may stand before it.
abbrev pub IsNumberBehind : List ℕ → List ℕ → ℕ → ℕ → Type 0
IsNumberBehind text label base number = (word : List ℕ) × IsWordBehind text label word
    × IsNumeral base (without_leading_plus word) × (number ≡ digits_value base (without_leading_plus word))
