-- The text of a number below 1,000, digit by digit.
use Rattle.std.proofs.Common.{◌≡◌, ℕ, ◌+◌, ◌/◌, ◌%◌, ◌<◌, ◌≤◌, List, [], ◌∷◌, ◌++◌, length, ap, ◌∙◌, sym, arith, append_assoc, length-append}
use Rattle.std.proofs.lemmas.Fmt.{decimal_digit, decimal_step}
use Rattle.std.specs.Fmt.{decimal}

pub one_digit : (n : ℕ) → n < 10 → length (decimal n) ≡ 1
one_digit n few = ap length (decimal_digit n few)

pub one_more : (n : ℕ) → 10 ≤ n → n < 1000 → length (decimal n) ≡ length (decimal (n / 10)) + 1
one_more n some few = ap length (decimal_step n some (omega arith)) ∙ length-append (decimal (n / 10)) ((48 + n % 10) ∷ [])

-- a last digit behind the others
pub digit_behind : (text : List ℕ) (n : ℕ) → 10 ≤ n → n < 1000 → (text ++ decimal (n / 10)) ++ (48 + n % 10) ∷ [] ≡ text ++ decimal n
digit_behind text n some few =
    append_assoc text (decimal (n / 10)) ((48 + n % 10) ∷ [])
    ∙ ap (λ (xs : List ℕ). text ++ xs) (sym (decimal_step n some (omega arith)))

-- two digits, one behind the other
pub two_behind : (text : List ℕ) (n : ℕ) → 10 ≤ n → n < 100 → (text ++ (48 + n / 10) ∷ []) ++ (48 + n % 10) ∷ [] ≡ text ++ decimal n
two_behind text n some few =
    ap (λ (xs : List ℕ). (text ++ xs) ++ (48 + n % 10) ∷ []) (sym (decimal_digit (n / 10) (omega arith)))
    ∙ digit_behind text n some (omega arith)
