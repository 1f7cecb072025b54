-- Names are text.
use Rattle.std.proofs.Common.{◌≡◌, ℕ, ◌<◌, true, ◌||◌, List, [], ◌∷◌, get_or, arith, zero, suc}
use Rattle.std.specs.List.{list_all}
use Rattle.std.specs.Str.{IsUtf8}
use Rattle.std.proofs.lemmas.Bool.{and_parts}
use Rattle.std.proofs.lemmas.Bool.Decides.{nat_tests}
use Rattle.std.proofs.lemmas.Str.{IsUtf8-from_ascii}
use Rattle.vq_model.specs.Text.{is_letter, is_digit, is_name}

byte_ascii : (b : ℕ) → (is_letter b || is_digit b) ≡ true → b < 128
byte_ascii b h = grind (arith, nat_tests)

letters_ascii : (word : List ℕ) → list_all (λ b. is_letter b || is_digit b) word ≡ true → (i : ℕ) → get_or word i 0 < 128
letters_ascii [] h i = omega arith
letters_ascii (b ∷ word) h zero = byte_ascii b (and_parts (is_letter b || is_digit b) (list_all (λ b. is_letter b || is_digit b) word) h).0
letters_ascii (b ∷ word) h (suc i) = letters_ascii word (and_parts (is_letter b || is_digit b) (list_all (λ b. is_letter b || is_digit b) word) h).1 i

-- a name is text
pub name_is_text : (word : List ℕ) → is_name word ≡ true → IsUtf8 word
name_is_text word h = IsUtf8-from_ascii word (letters_ascii word (and_parts _ (list_all (λ b. is_letter b || is_digit b) word) h).1)
