-- Lines of hexadecimal digits.
use Rattle.std.proofs.Common.{◌≡◌, ℕ, zero, suc, ◌+◌, ◌*◌, ◌-◌, ◌/◌, ◌<◌, ◌≤◌, min, List, [], ◌∷◌, ◌++◌, length, take, drop, get_or, refl, sym, ap, ◌∙◌, arith, append_assoc, add-one, zero-add}
use Rattle.std.specs.List.{flat_map, range_with_len, slice_range}
use Rattle.std.proofs.lemmas.List.{take_min, length-drop, append-nil, take_at, drop_more, length-append, length-take}
use Rattle.std.proofs.lemmas.Grind.{flat_map-append}
use Rattle.vq_model.specs.OutputText.{hex_line, hex_lines, hex_byte, line_feed}
use Rattle.vq_ground.proofs.Numbers.{range_push}

-- One line

-- digits at the front of a line, and the byte behind them
pub front_and_end : (line digits : List ℕ) (n : ℕ) (end : ℕ) → length digits ≡ n → n < length line →
    get_or line n 0 ≡ end → take (n + 1) (digits ++ drop n line) ≡ digits ++ end ∷ []
front_and_end line digits n end l h e =
    let m : length (digits ++ end ∷ []) ≡ n + 1 = omega (arith, length-append digits (end ∷ [])) in
    ap (λ xs. take (n + 1) (digits ++ xs))
    (drop_more line n 0 h ∙ ap (λ x. x ∷ drop (n + 1) line) e)
    ∙ (ap (take (n + 1)) (sym (append_assoc digits (end ∷ []) (drop (n + 1) line)))
    ∙ take_at (digits ++ end ∷ []) (drop (n + 1) line) (n + 1) m)

pub length-digits : (bytes : List ℕ) → length (flat_map hex_byte bytes) ≡ 2 * length bytes
length-digits [] = refl
length-digits (b ∷ bytes) = omega
    (arith, length-digits bytes, length-append (hex_byte b) (flat_map hex_byte bytes))

-- Lines

-- what a function gives for one number more
pub flat_map-range_push : {X : Type 0} (f : ℕ → List X) (n : ℕ) →
    flat_map f (range_with_len 0 (n + 1)) ≡ flat_map f (range_with_len 0 n) ++ f n
flat_map-range_push f n =
    ap (λ k. flat_map f (range_with_len 0 k)) (add-one n)
    ∙ (ap (flat_map f) (range_push 0 n) ∙
    (flat_map-append f (range_with_len 0 n) ((0 + n) ∷ [])
    ∙ ap (λ part. flat_map f (range_with_len 0 n) ++ part)
    (append-nil (f (0 + n)) ∙ ap f (zero-add n))))

-- a part that ends past the list ends with it
part_end : (bytes : List ℕ) (a b : ℕ) →
    slice_range bytes a (min (length bytes) b) ≡ slice_range bytes a b
part_end bytes a b =
    ap (λ n. take n (drop a bytes)) same ∙ take_min (b - a) (drop a bytes)
  where
    same : min (length bytes) b - a ≡ min (b - a) (length (drop a bytes))
    same = simp length-drop (omega arith)

-- one more line of bytes
pub hex_lines_more : (old bytes now new : List ℕ) (row end : ℕ) →
    now ≡ old ++ flat_map (hex_line bytes) (range_with_len 0 row) →
    end ≡ min (length bytes) (16 * row + 16) →
    new ≡ now ++ (flat_map hex_byte (slice_range bytes (16 * row) end) ++ line_feed) →
    new ≡ old ++ flat_map (hex_line bytes) (range_with_len 0 (row + 1))
hex_lines_more old bytes now new row end a b c =
    let f = hex_line bytes in
    let line : flat_map hex_byte (slice_range bytes (16 * row) end) ++ line_feed
    ≡ f row = ap (λ part. flat_map hex_byte part ++ line_feed)
    (ap (slice_range bytes (16 * row)) b ∙ part_end bytes (16 * row) (16 * row + 16)) in
    c ∙ (ap (λ part. now ++ part) line ∙
    (ap (λ part. part ++ f row) a ∙
    (append_assoc old (flat_map f (range_with_len 0 row)) (f row)
    ∙ ap (λ part. old ++ part) (sym (flat_map-range_push f row)))))

-- How long lines are

-- line number `row` of so many bytes
length-line : (bytes : List ℕ) (row : ℕ) → 16 * row < length bytes →
    length (hex_line bytes row) ≡ 2 * (min (length bytes) (16 * row + 16) - 16 * row) + 1
length-line bytes row h =
    let part = slice_range bytes (16 * row) (16 * row + 16) in
    let digits = length-digits part in
    let all = length-drop (16 * row) bytes in
    let size : length part ≡ min (length bytes) (16 * row + 16) - 16 * row =
    omega (arith, length-take (16 * row + 16 - 16 * row) (drop (16 * row) bytes)) in
    omega (arith, length-append (flat_map hex_byte part) line_feed)

-- the first lines
pub length-first_lines : (bytes : List ℕ) (rows : ℕ) → 16 * rows < length bytes + 16 →
    length (flat_map (hex_line bytes) (range_with_len 0 rows)) ≡ 2 * min (length bytes) (16 * rows) + rows
length-first_lines bytes zero h = omega arith
length-first_lines bytes (suc rows) h =
    let before = length-first_lines bytes rows (omega arith) in
    let line = length-line bytes rows (omega arith) in
    let more : length (flat_map (hex_line bytes) (range_with_len 0 (rows + 1)))
    ≡ length (flat_map (hex_line bytes) (range_with_len 0 rows)) + length (hex_line bytes rows) =
    ap length (flat_map-range_push (hex_line bytes) rows)
    ∙ length-append (flat_map (hex_line bytes) (range_with_len 0 rows)) (hex_line bytes rows) in
    let next : suc rows ≡ rows + 1 = omega arith in
    ap (λ n. length (flat_map (hex_line bytes) (range_with_len 0 n))) next ∙ omega arith

pub length-lines : (bytes : List ℕ) →
    length (hex_lines bytes) ≡ 2 * length bytes + (length bytes + 15) / 16
length-lines bytes =
    let rows = (length bytes + 15) / 16 in
    let all = length-first_lines bytes rows (omega arith) in
    omega arith

-- there is room for one more line
pub line_room : (bytes old now : List ℕ) (row end capacity : ℕ) →
    now ≡ old ++ flat_map (hex_line bytes) (range_with_len 0 row) → row < (length bytes + 15) / 16 →
    end ≡ min (length bytes) (16 * row + 16) → length old + length (hex_lines bytes) ≤ capacity →
    length now + 2 * length (slice_range bytes (16 * row) end) + 1 ≤ capacity
line_room bytes old now row end capacity is within at room =
    let before = length-first_lines bytes row (omega arith) in
    let all = length-lines bytes in
    let so_far : length now ≡ length old + length (flat_map (hex_line bytes) (range_with_len 0 row)) =
    ap length is ∙ length-append old (flat_map (hex_line bytes) (range_with_len 0 row)) in
    let rest = length-drop (16 * row) bytes in
    let part = length-take (end - 16 * row) (drop (16 * row) bytes) in
    omega arith

-- there is room for one more whole line
pub row_room : (bytes old now : List ℕ) (row capacity : ℕ) →
    now ≡ old ++ flat_map (hex_line bytes) (range_with_len 0 row) → row < length bytes / 16 →
    length old + length (hex_lines bytes) ≤ capacity → length now + 33 ≤ capacity
row_room bytes old now row capacity is within room =
    let before = length-first_lines bytes row (omega arith) in
    let all = length-lines bytes in
    let so_far : length now ≡ length old + length (flat_map (hex_line bytes) (range_with_len 0 row)) =
    ap length is ∙ length-append old (flat_map (hex_line bytes) (range_with_len 0 row)) in
    omega arith
