-- What holds of a list of numbers that is cut in rows.
use Rattle.std.proofs.Common.{◌≡◌, ◌<◌, ◌≤◌, ◌+◌, ◌-◌, ◌++◌, ◌∷◌, [], ℕ, zero, suc, List, length, take, drop, refl, sym, ap, ◌∙◌, arith, subst}
use Rattle.std.specs.Prelude.{get_or}
use Rattle.std.specs.List.{slice_range, slice_index_or}
use Rattle.std.proofs.lemmas.List.{length-drop, drop-append-le, take-append-le}
use Rattle.std.proofs.Math.Seq.{drop-append_seam, take-length}
use Rattle.vq_lists.specs.Cut.{AreEnds, rows_from, start_of}

pub as_many : (xs : List ℕ) (s : ℕ) (es : List ℕ) → length (rows_from xs s es) ≡ length es
as_many xs s [] = refl
as_many xs s (e ∷ es) = ap suc (as_many xs e es)

-- the ends are within the list
within : (s : ℕ) (es : List ℕ) (w : ℕ) → AreEnds s es w → s ≤ w
within s [] w h = omega arith
within s (e ∷ es) w h = let more = within e es w h.1 in let at = h.0 in omega arith

pub ends_pushed : (s : ℕ) (es : List ℕ) (w more : ℕ) → AreEnds s es w → w ≤ more → AreEnds s (es ++ more ∷ []) more
ends_pushed s [] w more h k = (omega arith, refl)
ends_pushed s (e ∷ es) w more h k = (h.0, ends_pushed e es w more h.1 k)

-- a part of a list is the same where the list is longer
same_part : (xs ys : List ℕ) (s e : ℕ) → s ≤ e → e ≤ length xs → slice_range (xs ++ ys) s e ≡ slice_range xs s e
same_part xs ys s e o h =
    let rest : length (drop s xs) ≡ length xs - s = length-drop s xs in
    ap (take (e - s)) (drop-append-le s xs ys (omega arith)) ∙ take-append-le (e - s) (drop s xs) ys (omega arith)

last_part : (xs ys : List ℕ) → slice_range (xs ++ ys) (length xs) (length xs + length ys) ≡ ys
last_part xs ys =
    let many : length xs + length ys - length xs ≡ length ys = omega arith in
    ap (λ l. take (length xs + length ys - length xs) l) (drop-append_seam xs ys)
    ∙ ap (λ n. take n ys) many ∙ take-length ys

pub row_pushed : (xs row : List ℕ) (s : ℕ) (es : List ℕ) → AreEnds s es (length xs) →
    rows_from (xs ++ row) s (es ++ (length xs + length row) ∷ []) ≡ rows_from xs s es ++ row ∷ []
row_pushed xs row s [] h =
    ap (λ n. slice_range (xs ++ row) n (length xs + length row) ∷ []) h ∙ ap (λ r. r ∷ []) (last_part xs row)
row_pushed xs row s (e ∷ es) h =
    let more = row_pushed xs row e es h.1 in
    ap (λ r. r ∷ rows_from (xs ++ row) e (es ++ (length xs + length row) ∷ [])) (same_part xs row s e h.0 (within e es (length xs) h.1))
    ∙ ap (λ rs. slice_range xs s e ∷ rs) more

pub row_at : (xs : List ℕ) (s : ℕ) (es : List ℕ) (n : ℕ) → n < length es →
    slice_index_or (rows_from xs s es) n [] ≡ slice_range xs (start_of s es n) (get_or es n 0)
row_at xs s [] n h = absurd (omega arith)
row_at xs s (e ∷ es) zero h = refl
row_at xs s (e ∷ es) (suc zero) h = row_at xs e es zero (omega arith)
row_at xs s (e ∷ es) (suc (suc n)) h = row_at xs e es (suc n) (omega arith)

pub bounds_at : (s : ℕ) (es : List ℕ) (n w : ℕ) → AreEnds s es w → n < length es →
    (start_of s es n ≤ get_or es n 0) × (get_or es n 0 ≤ w)
bounds_at s [] n w h k = absurd (omega arith)
bounds_at s (e ∷ es) zero w h k = (h.0, within e es w h.1)
bounds_at s (e ∷ es) (suc zero) w h k = bounds_at e es zero w h.1 (omega arith)
bounds_at s (e ∷ es) (suc (suc n)) w h k = bounds_at e es (suc n) w h.1 (omega arith)

-- within a list nothing stands in for its numbers
there : (es : List ℕ) (n a b : ℕ) → n < length es → get_or es n a ≡ get_or es n b
there [] n a b h = absurd (omega arith)
there (e ∷ es) zero a b h = refl
there (e ∷ es) (suc n) a b h = there es n a b (omega arith)

-- a row begins before its end
pub in_order : (l : List (List ℕ)) (xs es : List ℕ) (n s e : ℕ) → l ≡ rows_from xs 0 es → AreEnds 0 es (length xs) → n < length l →
    s ≡ start_of 0 es n → e ≡ get_or es n e → s ≤ e
in_order l xs es n s e is h few starts ends =
    let inside : n < length es = subst (λ k. n < k) (ap length is ∙ as_many xs 0 es) few in
    let bound = (bounds_at 0 es n (length xs) h inside).0 in
    subst (λ a. a ≤ e) (sym starts) (subst (λ b. start_of 0 es n ≤ b) (there es n 0 e inside ∙ sym ends) bound)
