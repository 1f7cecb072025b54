-- How long the text of buffers is.
use Rattle.std.proofs.Common.{◌≡◌, ℕ, zero, suc, ◌+◌, ◌-◌, ◌^◌, ◌<◌, ◌≤◌, List, [], ◌∷◌, ◌++◌, length, map, min, sum_by, drop, get_or, codes, decimal, refl, sym, ap, ap₂, ◌∙◌, arith, length-append, subst, take}
use Rattle.std.proofs.lemmas.List.FromFn.{length-map-range_with_len}
use Rattle.std.proofs.lemmas.List.Sums.{sum_by_more, sum_by-cons}
use Rattle.std.specs.List.{range_with_len, slice_index_or}
use Rattle.vq_model.specs.declared.script.Buffer.{Buffer}
use Rattle.vq_model.specs.FittingCommands.{HasSizes}
use Rattle.vq_model.specs.Memory.{Memory}
use Rattle.vq_model.specs.OutputText.{all_buffers, buffer_text, buffers_text, hex_lines, line_feed}
use Rattle.vq_text.proofs.HexLines.{length-lines}

-- the length of the text of a buffer with zero bytes
abbrev pub size_of : Buffer → ℕ
size_of b = length (buffer_text b (map (λ (k : ℕ). 0) (range_with_len 0 b.size)))

-- the length of the text of a buffer with other bytes
pub same_text_size : (b : Buffer) (bytes other : List ℕ) → length bytes ≡ length other →
    length (buffer_text b bytes) ≡ length (buffer_text b other)
same_text_size b bytes other same =
    let front : List ℕ = codes "buffer " ++ b.name ++ codes " " ++ decimal b.size ++ line_feed in
    let lines : length (hex_lines bytes) ≡ length (hex_lines other) =
    omega (arith, length-lines bytes, length-lines other) in
    length-append front (hex_lines bytes)
    ∙ (ap (λ (n : ℕ). length front + n) lines ∙ sym (length-append front (hex_lines other)))

text_size : (b : Buffer) (bytes : List ℕ) → length bytes ≡ b.size → length (buffer_text b bytes) ≡ size_of b
text_size b bytes same =
    same_text_size b bytes (map (λ (k : ℕ). 0) (range_with_len 0 b.size))
    (same ∙ sym (length-map-range_with_len (λ (k : ℕ). 0) 0 b.size))

all_sizes : (bs : List Buffer) (m : Memory) → HasSizes (map (λ b. b.size) bs) m →
    length (all_buffers bs m) ≡ sum_by size_of bs
all_sizes [] [] h = refl
all_sizes [] (bytes ∷ m) h = refl
all_sizes (b ∷ bs) [] h = absurd (let none = h.count in omega arith)
all_sizes (b ∷ bs) (bytes ∷ m) h =
    let count : suc (length m) ≡ suc (length (map (λ (x : Buffer). x.size) bs)) = h.count in
    let rest = all_sizes bs m (record { count = omega arith; each = λ k. h.each (suc k) }) in
    let first = text_size b bytes (h.each 0) in
    length-append (buffer_text b bytes) (all_buffers bs m)
    ∙ (ap₂ (λ x y. x + y) first rest ∙ sym (sum_by-cons size_of b bs))

-- .. with the last line
with_end : (bs : List Buffer) (m : Memory) → length (buffers_text bs m) ≡ length (all_buffers bs m) + 4
with_end bs m =
    let word = length-append (all_buffers bs m) (codes "end") in
    let whole : length (buffers_text bs m) ≡ length (all_buffers bs m ++ codes "end") + 1 =
    length-append (all_buffers bs m ++ codes "end") line_feed in
    omega arith

pub whole_size : (bs : List Buffer) (m : Memory) → HasSizes (map (λ b. b.size) bs) m →
    length (buffers_text bs m) ≡ 4 + sum_by size_of bs
whole_size bs m h =
    let all = all_sizes bs m h in
    let whole = with_end bs m in
    omega arith

-- the room so far, and for one buffer more
pub room_more : (bs : List Buffer) (k : ℕ) (d : Buffer) (room one more : ℕ) → k < length bs →
    room ≡ min (4 + sum_by size_of (take k bs)) (2 ^ 64 - 1) →
    ((bytes : List ℕ) → length bytes ≡ (get_or bs k d).size → one ≡ length (buffer_text (get_or bs k d) bytes)) →
    more ≡ min (room + one) (2 ^ 64 - 1) →
    more ≡ min (4 + sum_by size_of (take (k + 1) bs)) (2 ^ 64 - 1)
room_more bs k d room one more l so_far exact is =
    let b = get_or bs k d in
    let size : one ≡ size_of b = exact (map (λ (n : ℕ). 0) (range_with_len 0 b.size))
    (length-map-range_with_len (λ (n : ℕ). 0) 0 b.size) in
    let next : sum_by size_of (take (k + 1) bs) ≡ sum_by size_of (take k bs) + size_of b =
    sum_by_more size_of bs k d l in
    omega arith

-- bytes of the same sizes have a text of the same length
pub same_size : (bs : List Buffer) (m other : Memory) → HasSizes (map (λ b. b.size) bs) m →
    HasSizes (map (λ b. b.size) bs) other → length (buffers_text bs m) ≡ length (buffers_text bs other)
same_size bs m other h k = whole_size bs m h ∙ sym (whole_size bs other k)

-- Room for the text of buffers, as far as it is written

-- the text of the next buffer, and of those after it
pub next_text : (bs : List Buffer) (m : Memory) (k : ℕ) (d : Buffer) → k < length bs → length m ≡ length bs →
    all_buffers (drop k bs) (drop k m)
    ≡ buffer_text (get_or bs k d) (slice_index_or m k []) ++ all_buffers (drop (suc k) bs) (drop (suc k) m)
next_text [] m k d l e = absurd (omega arith)
next_text (b ∷ bs) [] k d l e = absurd (omega arith)
next_text (b ∷ bs) (bytes ∷ m) zero d l e = refl
next_text (b ∷ bs) (bytes ∷ m) (suc k) d l e = next_text bs m k d (omega arith) (omega arith)

no_text : (bs : List Buffer) (m : Memory) (k : ℕ) → length bs ≤ k → all_buffers (drop k bs) (drop k m) ≡ []
no_text [] m zero l = refl
no_text [] m (suc k) l = refl
no_text (b ∷ bs) m zero l = absurd (omega arith)
no_text (b ∷ bs) [] (suc k) l =
    subst (λ (n : Memory). all_buffers (drop k bs) n ≡ []) (drop_none k) (no_text bs [] k (omega arith))
  where
    drop_none : (n : ℕ) → drop {A = List ℕ} n [] ≡ []
    drop_none zero = refl
    drop_none (suc n) = refl
no_text (b ∷ bs) (bytes ∷ m) (suc k) l = no_text bs m k (omega arith)

module _ (bs : List Buffer) (m : Memory) (k : ℕ) (old now : List ℕ) (capacity : ℕ)
    (is : now ++ all_buffers (drop k bs) (drop k m) ≡ old ++ all_buffers bs m)
    (room : length old + length (buffers_text bs m) ≤ capacity) where
  lengths : length now + length (all_buffers (drop k bs) (drop k m)) ≡ length old + length (all_buffers bs m)
  lengths =
      sym (length-append now (all_buffers (drop k bs) (drop k m)))
      ∙ (ap length is ∙ length-append old (all_buffers bs m))

  -- the text of the next buffer fits
  pub next_fits : (d : Buffer) → k < length bs → length m ≡ length bs →
      length now + length (buffer_text (get_or bs k d) (slice_index_or m k [])) ≤ capacity
  next_fits d l e =
      let here : List ℕ = buffer_text (get_or bs k d) (slice_index_or m k []) in
      let rest : List ℕ = all_buffers (drop (suc k) bs) (drop (suc k) m) in
      let parts : length (all_buffers (drop k bs) (drop k m)) ≡ length here + length rest =
      ap length (next_text bs m k d l e) ∙ length-append here rest in
      let whole = with_end bs m in
      let all = lengths in
      omega arith

  -- the last line fits
  pub end_fits : length bs ≤ k → length now + 4 ≤ capacity
  end_fits l =
      let none : length (all_buffers (drop k bs) (drop k m)) ≡ 0 = ap length (no_text bs m k l) in
      let whole = with_end bs m in
      let all = lengths in
      omega arith
