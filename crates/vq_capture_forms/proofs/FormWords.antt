-- The form of words asks, beside their number, for the first of them alone.
use Rattle.std.proofs.Common.{◌≡◌, ◌<◌, ◌≤◌, ℕ, List, [], ◌∷◌, refl, arith, length, get_or, Bor}
use Rattle.vq_lexer.specs.Words.{texts}
use Rattle.vq_capture.specs.LineForms.{form_inside, form_outside}

pub inside_2 : (xs : List (Bor (List ℕ))) (z : Bor (List ℕ)) → 2 ≤ length xs → length xs < 3 → form_inside ((get_or xs 0 z).now ∷ [] ∷ []) ≡ form_inside (texts xs)
inside_2 [] z l m = absurd (omega arith)
inside_2 (a ∷ []) z l m = absurd (omega arith)
inside_2 (a ∷ b ∷ []) z l m = refl
inside_2 (a ∷ b ∷ c ∷ rest) z l m = absurd (omega arith)

pub inside_3 : (xs : List (Bor (List ℕ))) (z : Bor (List ℕ)) → 3 ≤ length xs → length xs < 4 → form_inside ((get_or xs 0 z).now ∷ [] ∷ [] ∷ []) ≡ form_inside (texts xs)
inside_3 [] z l m = absurd (omega arith)
inside_3 (a ∷ []) z l m = absurd (omega arith)
inside_3 (a ∷ b ∷ []) z l m = absurd (omega arith)
inside_3 (a ∷ b ∷ c ∷ []) z l m = refl
inside_3 (a ∷ b ∷ c ∷ d ∷ rest) z l m = absurd (omega arith)

pub inside_4 : (xs : List (Bor (List ℕ))) (z : Bor (List ℕ)) → 4 ≤ length xs → length xs < 5 → form_inside ((get_or xs 0 z).now ∷ [] ∷ [] ∷ [] ∷ []) ≡ form_inside (texts xs)
inside_4 [] z l m = absurd (omega arith)
inside_4 (a ∷ []) z l m = absurd (omega arith)
inside_4 (a ∷ b ∷ []) z l m = absurd (omega arith)
inside_4 (a ∷ b ∷ c ∷ []) z l m = absurd (omega arith)
inside_4 (a ∷ b ∷ c ∷ d ∷ []) z l m = refl
inside_4 (a ∷ b ∷ c ∷ d ∷ e ∷ rest) z l m = absurd (omega arith)

pub inside_5 : (xs : List (Bor (List ℕ))) (z : Bor (List ℕ)) → 5 ≤ length xs → length xs < 6 → form_inside ((get_or xs 0 z).now ∷ [] ∷ [] ∷ [] ∷ [] ∷ []) ≡ form_inside (texts xs)
inside_5 [] z l m = absurd (omega arith)
inside_5 (a ∷ []) z l m = absurd (omega arith)
inside_5 (a ∷ b ∷ []) z l m = absurd (omega arith)
inside_5 (a ∷ b ∷ c ∷ []) z l m = absurd (omega arith)
inside_5 (a ∷ b ∷ c ∷ d ∷ []) z l m = absurd (omega arith)
inside_5 (a ∷ b ∷ c ∷ d ∷ e ∷ []) z l m = refl
inside_5 (a ∷ b ∷ c ∷ d ∷ e ∷ f ∷ rest) z l m = absurd (omega arith)

pub inside_6 : (xs : List (Bor (List ℕ))) (z : Bor (List ℕ)) → 6 ≤ length xs → length xs < 7 → form_inside ((get_or xs 0 z).now ∷ [] ∷ [] ∷ [] ∷ [] ∷ [] ∷ []) ≡ form_inside (texts xs)
inside_6 [] z l m = absurd (omega arith)
inside_6 (a ∷ []) z l m = absurd (omega arith)
inside_6 (a ∷ b ∷ []) z l m = absurd (omega arith)
inside_6 (a ∷ b ∷ c ∷ []) z l m = absurd (omega arith)
inside_6 (a ∷ b ∷ c ∷ d ∷ []) z l m = absurd (omega arith)
inside_6 (a ∷ b ∷ c ∷ d ∷ e ∷ []) z l m = absurd (omega arith)
inside_6 (a ∷ b ∷ c ∷ d ∷ e ∷ f ∷ []) z l m = refl
inside_6 (a ∷ b ∷ c ∷ d ∷ e ∷ f ∷ g ∷ rest) z l m = absurd (omega arith)

pub outside_2 : (xs : List (Bor (List ℕ))) (z : Bor (List ℕ)) → 2 ≤ length xs → length xs < 3 → form_outside ((get_or xs 0 z).now ∷ [] ∷ []) ≡ form_outside (texts xs)
outside_2 [] z l m = absurd (omega arith)
outside_2 (a ∷ []) z l m = absurd (omega arith)
outside_2 (a ∷ b ∷ []) z l m = refl
outside_2 (a ∷ b ∷ c ∷ rest) z l m = absurd (omega arith)

pub outside_3 : (xs : List (Bor (List ℕ))) (z : Bor (List ℕ)) → 3 ≤ length xs → length xs < 4 → form_outside ((get_or xs 0 z).now ∷ [] ∷ [] ∷ []) ≡ form_outside (texts xs)
outside_3 [] z l m = absurd (omega arith)
outside_3 (a ∷ []) z l m = absurd (omega arith)
outside_3 (a ∷ b ∷ []) z l m = absurd (omega arith)
outside_3 (a ∷ b ∷ c ∷ []) z l m = refl
outside_3 (a ∷ b ∷ c ∷ d ∷ rest) z l m = absurd (omega arith)

pub outside_4 : (xs : List (Bor (List ℕ))) (z : Bor (List ℕ)) → 4 ≤ length xs → length xs < 5 → form_outside ((get_or xs 0 z).now ∷ [] ∷ [] ∷ [] ∷ []) ≡ form_outside (texts xs)
outside_4 [] z l m = absurd (omega arith)
outside_4 (a ∷ []) z l m = absurd (omega arith)
outside_4 (a ∷ b ∷ []) z l m = absurd (omega arith)
outside_4 (a ∷ b ∷ c ∷ []) z l m = absurd (omega arith)
outside_4 (a ∷ b ∷ c ∷ d ∷ []) z l m = refl
outside_4 (a ∷ b ∷ c ∷ d ∷ e ∷ rest) z l m = absurd (omega arith)
