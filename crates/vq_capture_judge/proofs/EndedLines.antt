-- The first of the lines that have ended, whatever follows.
use Rattle.std.proofs.Common.{◌≡◌, ◌<◌, ◌+◌, ◌-◌, ◌∙◌, ℕ, List, [], ◌∷◌, ◌++◌, length, take, drop, map, get_or, refl, sym, ap, arith, length-append}
use Rattle.std.specs.List.{slice_split, position_or_len}
use Rattle.std.specs.Str.Lines.{strip_carriage_return}
use Rattle.std.proofs.lemmas.List.Splits.{slice_split_first, slice_split_none, length-slice_split}
use Rattle.std.proofs.lemmas.List.Sums.{position_or_len_is}
use Rattle.std.proofs.lemmas.Grind.{common_steps}
use Rattle.std.proofs.lemmas.Bool.{ne_eqb, eq-eqb}
use Rattle.vq_model.specs.Text.{is_line_feed}
use Rattle.vq_capture.specs.Reading.{ended_lines, without_last}

front_byte : (text more : List ℕ) (k : ℕ) → k < length text → get_or (text ++ more) k 0 ≡ get_or text k 0
front_byte text more k l = grind (arith, common_steps)

front_taken : (text more : List ℕ) (i : ℕ) → i < length text → take i (text ++ more) ≡ take i text
front_taken text more i l = grind (arith, common_steps)

rest_left : (text more : List ℕ) (i : ℕ) → i < length text → drop (i + 1) (text ++ more) ≡ take (length text - (i + 1)) (drop (i + 1) text) ++ more
rest_left text more i l = grind (arith, common_steps)

-- a part before others is kept
kept : (part : List ℕ) (parts : List (List ℕ)) → 0 < length parts → without_last (part ∷ parts) ≡ part ∷ without_last parts
kept part [] l = absurd (omega arith)
kept part (p ∷ ps) l = refl

pub first_ended : (text more : List ℕ) (i : ℕ) → i < length text → ((k : ℕ) → k < i → get_or text k 0 ≡ 10 → ⊥) → get_or text i 0 ≡ 10 → ended_lines (text ++ more) ≡ strip_carriage_return (take i text) ∷ ended_lines (take (length text - (i + 1)) (drop (i + 1) text) ++ more)
first_ended text more i l n e =
    let xs : List ℕ = text ++ more in
    let long : i < length xs = omega (arith, length-append text more) in
    let at : position_or_len is_line_feed xs ≡ i =
    position_or_len_is is_line_feed xs i 0 (omega arith)
    (λ k m. ne_eqb (get_or xs k 0) 10 (λ q. n k m (sym (front_byte text more k (omega arith)) ∙ q)))
    (λ m. eq-eqb (get_or xs i 0) 10 (front_byte text more i l ∙ e)) in
    let within : position_or_len is_line_feed xs < length xs = omega arith in
    let split = slice_split_first is_line_feed xs 0 within ∙ ap (λ (j : ℕ). take j xs ∷ slice_split is_line_feed (drop (j + 1) xs)) at in
    let parts : List (List ℕ) = slice_split is_line_feed (drop (i + 1) xs) in
    ap (λ (ps : List (List ℕ)). map strip_carriage_return (without_last ps)) split
    ∙ (ap (λ (ps : List (List ℕ)). map strip_carriage_return ps) (kept (take i xs) parts (omega (arith, length-slice_split is_line_feed (drop (i + 1) xs))))
    ∙ (ap (λ (t : List ℕ). strip_carriage_return t ∷ ended_lines (drop (i + 1) xs)) (front_taken text more i l)
    ∙ ap (λ (ys : List ℕ). strip_carriage_return (take i text) ∷ ended_lines ys) (rest_left text more i l)))

pub none_ended : (text : List ℕ) → ((k : ℕ) → k < length text → get_or text k 0 ≡ 10 → ⊥) → ended_lines text ≡ []
none_ended text n =
    ap (λ (ps : List (List ℕ)). map strip_carriage_return (without_last ps))
    (slice_split_none is_line_feed text (λ k d l. ne_eqb (get_or text k d) 10 (λ e. n k l (same k d l ∙ e))))
  where
    same : (k d : ℕ) → k < length text → get_or text k 0 ≡ get_or text k d
    same k d l = grind (arith, common_steps)
