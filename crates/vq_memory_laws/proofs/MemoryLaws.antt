-- What commands do byte by byte, and that commands without a conflict commute.
use Rattle.std.proofs.Common.{◌≡◌, ℕ, ◌+◌, ◌≤◌, List, length, arith, ◌-◌, ◌<◌, get_or, rules, ◌⊎◌, inl, inr, sym, ◌∙◌, refl, [], ap, subst, false, eqb, ltb, min, max, drop, ◌||◌}
use Rattle.std.proofs.lemmas.List.{length-append, length-take, length-drop, places, same_lists, get_or-set_same, get_or-set_other, length-set, get_or-take, get_or-drop, set-set, set_comm}
use Rattle.vq_model.specs.Memory.{with_bytes, Memory, buffer, word_bytes, effect, word_byte}
use Rattle.vq_model.specs.FittingCommands.{HasSizes, written_byte}
use Rattle.std.proofs.lemmas.Bool.{cases_lt, cases_eq, ltb-false, and_cases, eqb-false, or_parts}
use Rattle.std.proofs.Math.ListN.{set}
use Rattle.vq_model.specs.declared.ranges.Range.{Range}
use Rattle.vq_model.specs.Ranges.{fill_size, written_range, share, read_range, conflict}
use Rattle.vq_model.specs.FittingCommands.{Fits, IsWithin}
use Rattle.std.specs.List.{slice_range, slice_index_or}
use Rattle.vq_model.specs.declared.script.Command.{Command}
use Rattle.vq_model.specs.declared.script.Command.TheVariants.{Fill, Update, Copy}
use Rattle.std.proofs.lemmas.List.FromFn.{length-map-range_with_len, get_or-map-range_with_len}
use Rattle.std.specs.Option.{option_map_or}

pub length-with_bytes : (old : List ℕ) (o : ℕ) (bytes : List ℕ) → o + length bytes ≤ length old → length (with_bytes old o bytes) ≡ length old
length-with_bytes old o bytes h = simp (length-append, length-take, length-drop) (omega arith)

-- a byte in the range
with_bytes-in : (old : List ℕ) (o : ℕ) (bytes : List ℕ) (k d : ℕ) → o + length bytes ≤ length old → o ≤ k → k < o + length bytes → get_or (with_bytes old o bytes) k d ≡ get_or bytes (k - o) d
with_bytes-in old o bytes k d h a b = search (rules, places)

-- a byte outside
with_bytes-out : (old : List ℕ) (o : ℕ) (bytes : List ℕ) (k d : ℕ) → o + length bytes ≤ length old → (k < o) ⊎ (o + length bytes ≤ k) → get_or (with_bytes old o bytes) k d ≡ get_or old k d
with_bytes-out old o bytes k d h (inl a) = search (rules, places)
with_bytes-out old o bytes k d h (inr b) = search (rules, places)

-- where a place lies, seen from a range
side : (o n k : ℕ) → ((o ≤ k) × (k < o + n)) ⊎ ((k < o) ⊎ (o + n ≤ k))
side o n k = elim (cases_lt k o) [ inl a ↦ inr (inl a) | inr a ↦ elim (cases_lt k (o + n)) [ inl b ↦ inl (a, b) | inr b ↦ inr (inr b) ] ]

-- two ranges have no place in common
abbrev pub AreApart : ℕ → ℕ → ℕ → ℕ → Type 0
AreApart o n o' n' = (k : ℕ) → o ≤ k → k < o + n → o' ≤ k → k < o' + n' → ⊥

-- writes to ranges that lie apart commute
pub with_bytes_comm : (old : List ℕ) (o o' : ℕ) (new new' : List ℕ) → o + length new ≤ length old → o' + length new' ≤ length old → AreApart o (length new) o' (length new') → with_bytes (with_bytes old o' new') o new ≡ with_bytes (with_bytes old o new) o' new'
with_bytes_comm old o o' new new' h h' apart =
    let l = length-with_bytes old o new h in
    let l' = length-with_bytes old o' new' h' in
    let i : o + length new ≤ length (with_bytes old o' new') = omega arith in
    let i' : o' + length new' ≤ length (with_bytes old o new) = omega arith in
    let m = length-with_bytes (with_bytes old o' new') o new i in
    let m' = length-with_bytes (with_bytes old o new) o' new' i' in
    same_lists _ _ (m ∙ (l' ∙ sym (m' ∙ l))) (λ k d b. at_place k d i i' (side o (length new) k) (side o' (length new') k))
  where
    at_place : (k d : ℕ) → o + length new ≤ length (with_bytes old o' new') → o' + length new' ≤ length (with_bytes old o new) → ((o ≤ k) × (k < o + length new)) ⊎ ((k < o) ⊎ (o + length new ≤ k)) → ((o' ≤ k) × (k < o' + length new')) ⊎ ((k < o') ⊎ (o' + length new' ≤ k)) → get_or (with_bytes (with_bytes old o' new') o new) k d ≡ get_or (with_bytes (with_bytes old o new) o' new') k d
    at_place k d i i' (inl a) (inl a') = absurd (apart k a.0 a.1 a'.0 a'.1)
    at_place k d i i' (inl a) (inr b') =
        with_bytes-in (with_bytes old o' new') o new k d i a.0 a.1 ∙ sym (with_bytes-out (with_bytes old o new) o' new' k d i' b' ∙ with_bytes-in old o new k d h a.0 a.1)
    at_place k d i i' (inr b) (inl a') =
        with_bytes-out (with_bytes old o' new') o new k d i b ∙ (with_bytes-in old o' new' k d h' a'.0 a'.1 ∙ sym (with_bytes-in (with_bytes old o new) o' new' k d i' a'.0 a'.1))
    at_place k d i i' (inr b) (inr b') =
        with_bytes-out (with_bytes old o' new') o new k d i b ∙ (with_bytes-out old o' new' k d h' b' ∙ sym (with_bytes-out (with_bytes old o new) o' new' k d i' b' ∙ with_bytes-out old o new k d h b))

-- the buffers with these bytes in a range
abbrev pub put_bytes : Memory → Range → List ℕ → Memory
put_bytes m r new = set m r.buffer (with_bytes (buffer m r.buffer) r.start new)

-- the bytes of a range
abbrev pub bytes_in : Memory → Range → List ℕ
bytes_in m r = slice_range (buffer m r.buffer) r.start (r.start + r.size)

-- what a command puts into its range
abbrev pub new_bytes : List ℕ → Command → Memory → List ℕ
new_bytes sizes (Fill b o size w) m = word_bytes w (fill_size size o (slice_index_or sizes b 0))
new_bytes sizes (Update b o bytes) m = bytes
new_bytes sizes (Copy s so t to n) m = bytes_in m (record { buffer = s; start = so; size = n })

pub effect_puts : (sizes : List ℕ) (c : Command) (m : Memory) → HasSizes sizes m → effect c m ≡ put_bytes m (written_range sizes c) (new_bytes sizes c m)
effect_puts sizes (Fill b o size w) m h = rw (h.each b) refl
effect_puts sizes (Update b o bytes) m h = refl
effect_puts sizes (Copy s so t to n) m h = refl

length-new_bytes : (sizes : List ℕ) (c : Command) (m : Memory) → HasSizes sizes m → Fits sizes c → length (new_bytes sizes c m) ≡ (written_range sizes c).size
length-new_bytes sizes (Fill b o size w) m h f = length-map-range_with_len (word_byte w) 0 (fill_size size o (slice_index_or sizes b 0))
length-new_bytes sizes (Update b o bytes) m h f = refl
length-new_bytes sizes (Copy s so t to n) m h f =
    let l = h.each s in
    let i = f.read.ends in
    simp (length-take, length-drop) (omega arith)

-- the buffers after a write
buffer-put_same : (m : Memory) (r : Range) (new : List ℕ) → r.buffer < length m → buffer (put_bytes m r new) r.buffer ≡ with_bytes (buffer m r.buffer) r.start new
buffer-put_same m r new h = get_or-set_same m r.buffer (with_bytes (buffer m r.buffer) r.start new) [] h

buffer-put_other : (m : Memory) (r : Range) (new : List ℕ) (b : ℕ) → (b ≡ r.buffer → ⊥) → buffer (put_bytes m r new) b ≡ buffer m b
buffer-put_other m r new b n = get_or-set_other m r.buffer b (with_bytes (buffer m r.buffer) r.start new) [] n

pub put_bytes_sizes : (sizes : List ℕ) (m : Memory) (r : Range) (new : List ℕ) → HasSizes sizes m → IsWithin sizes r → length new ≡ r.size → HasSizes sizes (put_bytes m r new)
put_bytes_sizes sizes m r new h w e =
    record {
      count = length-set m r.buffer (with_bytes (buffer m r.buffer) r.start new) ∙ h.count;
      each = λ b. at_buffer b (cases_eq b r.buffer);
    }
  where
    at_buffer : (b : ℕ) → ((b ≡ r.buffer) ⊎ (b ≡ r.buffer → ⊥)) → length (buffer (put_bytes m r new) b) ≡ slice_index_or sizes b 0
    at_buffer b (inl i) =
        let count = h.count in
        let size = h.each r.buffer in
        let exists = w.exists in
        let ends = w.ends in
        let here : length (buffer (put_bytes m r new) r.buffer) ≡ slice_index_or sizes r.buffer 0 =
        ap length (buffer-put_same m r new (omega arith)) ∙ (length-with_bytes (buffer m r.buffer) r.start new (omega arith) ∙ size) in
        subst (λ a. length (buffer (put_bytes m r new) a) ≡ slice_index_or sizes a 0) (sym i) here
    at_buffer b (inr n) = ap length (buffer-put_other m r new b n) ∙ h.each b

-- ranges of one buffer that share no byte lie apart
apart_from_share : (r q : Range) → r.buffer ≡ q.buffer → share r q ≡ false → AreApart r.start r.size q.start q.size
apart_from_share r q e f k a b c d =
    let t : ltb (max r.start q.start) (min (r.start + r.size) (q.start + q.size)) ≡ false = elim (and_cases (eqb r.buffer q.buffer) (ltb (max r.start q.start) (min (r.start + r.size) (q.start + q.size))) f) [ inl n ↦ absurd (eqb-false r.buffer q.buffer n e) | inr t ↦ t ] in
    let l = ltb-false (max r.start q.start) (min (r.start + r.size) (q.start + q.size)) t in
    omega arith

-- a part that lies apart from what is written stays
slice_apart : (old : List ℕ) (o : ℕ) (new : List ℕ) (s n : ℕ) → o + length new ≤ length old → s + n ≤ length old → AreApart o (length new) s n → slice_range (with_bytes old o new) s (s + n) ≡ slice_range old s (s + n)
slice_apart old o new s n h i apart =
    let l = length-with_bytes old o new h in
    let a : length (slice_range (with_bytes old o new) s (s + n)) ≡ n = simp (length-take, length-drop) (omega arith) in
    let b : length (slice_range old s (s + n)) ≡ n = simp (length-take, length-drop) (omega arith) in
    same_lists _ _ (a ∙ sym b) (λ k d c. at_place k d (omega arith))
  where
    outside : (k : ℕ) → k < n → ((o ≤ s + k) × (s + k < o + length new)) ⊎ ((s + k < o) ⊎ (o + length new ≤ s + k)) → (s + k < o) ⊎ (o + length new ≤ s + k)
    outside k c (inl t) = absurd (apart (s + k) t.0 t.1 (omega arith) (omega arith))
    outside k c (inr t) = t

    part_at : (xs : List ℕ) (k d : ℕ) → k < n → get_or (slice_range xs s (s + n)) k d ≡ get_or xs (s + k) d
    part_at xs k d c = get_or-take (s + n - s) (drop s xs) k d (omega arith) ∙ get_or-drop s xs k d

    at_place : (k d : ℕ) → k < n → get_or (slice_range (with_bytes old o new) s (s + n)) k d ≡ get_or (slice_range old s (s + n)) k d
    at_place k d c =
        part_at (with_bytes old o new) k d c ∙ (with_bytes-out old o new (s + k) d h (outside k c (side o (length new) (s + k))) ∙ sym (part_at old k d c))

-- a range that shares no byte with what is written stays
bytes_in-put : (sizes : List ℕ) (m : Memory) (q r : Range) (new : List ℕ) → HasSizes sizes m → IsWithin sizes q → IsWithin sizes r → length new ≡ r.size → share r q ≡ false → bytes_in (put_bytes m r new) q ≡ bytes_in m q
bytes_in-put sizes m q r new h wq wr e apart = by_case (cases_eq q.buffer r.buffer)
  where
    by_case : ((q.buffer ≡ r.buffer) ⊎ (q.buffer ≡ r.buffer → ⊥)) → bytes_in (put_bytes m r new) q ≡ bytes_in m q
    by_case (inr n) = ap (λ (b : List ℕ). slice_range b q.start (q.start + q.size)) (buffer-put_other m r new q.buffer n)
    by_case (inl i) =
        let count = h.count in
        let exists = wr.exists in
        let size = h.each r.buffer in
        let ends = wr.ends in
        let ends' : q.start + q.size ≤ slice_index_or sizes r.buffer 0 = subst (λ b. q.start + q.size ≤ slice_index_or sizes b 0) i wq.ends in
        let there : buffer (put_bytes m r new) q.buffer ≡ with_bytes (buffer m r.buffer) r.start new = ap (buffer (put_bytes m r new)) i ∙ buffer-put_same m r new (omega arith) in
        let away = subst (λ z. AreApart r.start z q.start q.size) (sym e) (apart_from_share r q (sym i) apart) in
        ap (λ (b : List ℕ). slice_range b q.start (q.start + q.size)) there
        ∙ (slice_apart (buffer m r.buffer) r.start new q.start q.size (omega arith) (omega arith) away
        ∙ ap (λ b. slice_range (buffer m b) q.start (q.start + q.size)) (sym i))

-- the same of two writes to one buffer
puts_commute_here : (m : Memory) (b s s' : ℕ) (new new' : List ℕ) → b < length m → s + length new ≤ length (buffer m b) → s' + length new' ≤ length (buffer m b) → AreApart s (length new) s' (length new') →
    set (set m b (with_bytes (buffer m b) s' new')) b (with_bytes (buffer (set m b (with_bytes (buffer m b) s' new')) b) s new)
    ≡ set (set m b (with_bytes (buffer m b) s new)) b (with_bytes (buffer (set m b (with_bytes (buffer m b) s new)) b) s' new')
puts_commute_here m b s s' new new' l h h' apart =
    let x : List ℕ = with_bytes (buffer m b) s new in
    let x' : List ℕ = with_bytes (buffer m b) s' new' in
    ap (λ (y : List ℕ). set (set m b x') b (with_bytes y s new)) (get_or-set_same m b x' [] l)
    ∙ (set-set m b x' (with_bytes x' s new)
    ∙ (ap (set m b) (with_bytes_comm (buffer m b) s s' new new' h h' apart)
    ∙ (sym (set-set m b x (with_bytes x s' new'))
    ∙ sym (ap (λ (y : List ℕ). set (set m b x) b (with_bytes y s' new')) (get_or-set_same m b x [] l)))))

-- writes to ranges that share no byte commute
puts_commute : (sizes : List ℕ) (m : Memory) (q r : Range) (new new' : List ℕ) → HasSizes sizes m → IsWithin sizes q → IsWithin sizes r → length new ≡ q.size → length new' ≡ r.size → share q r ≡ false → put_bytes (put_bytes m r new') q new ≡ put_bytes (put_bytes m q new) r new'
puts_commute sizes m q r new new' h wq wr e e' apart = by_case (cases_eq q.buffer r.buffer)
  where
    by_case : ((q.buffer ≡ r.buffer) ⊎ (q.buffer ≡ r.buffer → ⊥)) → put_bytes (put_bytes m r new') q new ≡ put_bytes (put_bytes m q new) r new'
    by_case (inr n) =
        ap (λ (b : List ℕ). set (put_bytes m r new') q.buffer (with_bytes b q.start new)) (buffer-put_other m r new' q.buffer n)
        ∙ (sym (set_comm m q.buffer r.buffer (with_bytes (buffer m q.buffer) q.start new) (with_bytes (buffer m r.buffer) r.start new') n)
        ∙ sym (ap (λ (b : List ℕ). set (put_bytes m q new) r.buffer (with_bytes b r.start new')) (buffer-put_other m q new r.buffer (λ i. n (sym i)))))
    by_case (inl i) =
        let count = h.count in
        let exists = wr.exists in
        let size = h.each r.buffer in
        let ends = wr.ends in
        let ends' : q.start + q.size ≤ slice_index_or sizes r.buffer 0 = subst (λ b. q.start + q.size ≤ slice_index_or sizes b 0) i wq.ends in
        let near = apart_from_share q r i apart in
        let away : AreApart q.start (length new) r.start (length new') = λ k a b c d. near k a (omega arith) c (omega arith) in
        let here = puts_commute_here m r.buffer q.start r.start new new' (omega arith) (omega arith) (omega arith) away in
        subst (λ a. set (put_bytes m r new') a (with_bytes (buffer (put_bytes m r new') a) q.start new) ≡ put_bytes (set m a (with_bytes (buffer m a) q.start new)) r new') (sym i) here

-- what a command puts stays, where another writes nothing that it reads
new_bytes-stay : (sizes : List ℕ) (c : Command) (m : Memory) (r : Range) (new : List ℕ) → HasSizes sizes m → Fits sizes c → IsWithin sizes r → length new ≡ r.size → option_map_or (share r) (read_range c) false ≡ false → new_bytes sizes c (put_bytes m r new) ≡ new_bytes sizes c m
new_bytes-stay sizes (Fill b o size w) m r new h f wr e apart = refl
new_bytes-stay sizes (Update b o bytes) m r new h f wr e apart = refl
new_bytes-stay sizes (Copy s so t to n) m r new h f wr e apart = bytes_in-put sizes m (record { buffer = s; start = so; size = n }) r new h f.read wr e apart

pub effect_sizes : (sizes : List ℕ) (c : Command) (m : Memory) → HasSizes sizes m → Fits sizes c → HasSizes sizes (effect c m)
effect_sizes sizes c m h f =
    subst (HasSizes sizes) (sym (effect_puts sizes c m h)) (put_bytes_sizes sizes m (written_range sizes c) (new_bytes sizes c m) h f.written (length-new_bytes sizes c m h f))

-- one command after another, as two writes
two_effects : (sizes : List ℕ) (c d : Command) (m : Memory) → HasSizes sizes m → Fits sizes c → Fits sizes d → option_map_or (share (written_range sizes d)) (read_range c) false ≡ false → effect c (effect d m) ≡ put_bytes (put_bytes m (written_range sizes d) (new_bytes sizes d m)) (written_range sizes c) (new_bytes sizes c m)
two_effects sizes c d m h fc fd apart =
    effect_puts sizes c (effect d m) (effect_sizes sizes d m h fd)
    ∙ (ap (λ n. put_bytes n (written_range sizes c) (new_bytes sizes c n)) (effect_puts sizes d m h)
    ∙ ap (put_bytes (put_bytes m (written_range sizes d) (new_bytes sizes d m)) (written_range sizes c)) (new_bytes-stay sizes c m (written_range sizes d) (new_bytes sizes d m) h fc fd.written (length-new_bytes sizes d m h fd) apart))

-- commands without a conflict commute
pub effects_commute : (sizes : List ℕ) (c d : Command) (m : Memory) → HasSizes sizes m → Fits sizes c → Fits sizes d → conflict sizes c d ≡ false → effect c (effect d m) ≡ effect d (effect c m)
effects_commute sizes c d m h fc fd apart =
    let a = or_parts (share (written_range sizes c) (written_range sizes d) || option_map_or (share (written_range sizes c)) (read_range d) false) (option_map_or (share (written_range sizes d)) (read_range c) false) apart in
    let b = or_parts (share (written_range sizes c) (written_range sizes d)) (option_map_or (share (written_range sizes c)) (read_range d) false) a.0 in
    two_effects sizes c d m h fc fd a.1
    ∙ (puts_commute sizes m (written_range sizes c) (written_range sizes d) (new_bytes sizes c m) (new_bytes sizes d m) h fc.written fd.written (length-new_bytes sizes c m h fc) (length-new_bytes sizes d m h fd) b.0
    ∙ sym (two_effects sizes d c m h fd fc b.1))

-- Byte by byte

-- the k-th byte that a command puts
new_byte : (sizes : List ℕ) (c : Command) (m : Memory) (k : ℕ) → k < (written_range sizes c).size → get_or (new_bytes sizes c m) k 0 ≡ written_byte c m k
new_byte sizes (Fill b o size w) m k l = get_or-map-range_with_len (word_byte w) 0 (fill_size size o (slice_index_or sizes b 0)) k k 0 l (omega arith)
new_byte sizes (Update b o bytes) m k l = refl
new_byte sizes (Copy s so t to n) m k l = get_or-take (so + n - so) (drop so (buffer m s)) k 0 (omega arith) ∙ get_or-drop so (buffer m s) k 0

module _ (sizes : List ℕ) (c : Command) (m : Memory) (h : HasSizes sizes m) (f : Fits sizes c) where
  abbrev target : ℕ
  target = (written_range sizes c).buffer

  there : target < length m
  there = let a = f.written.exists in let b = h.count in omega arith

  fits_there : (written_range sizes c).start + length (new_bytes sizes c m) ≤ length (buffer m target)
  fits_there = let a = f.written.ends in let b = h.each target in let d = length-new_bytes sizes c m h f in omega arith

  -- a byte of what is written
  pub effect_inside : (k : ℕ) → k < (written_range sizes c).size → slice_index_or (buffer (effect c m) target) ((written_range sizes c).start + k) 0 ≡ written_byte c m k
  effect_inside k l =
      let d = length-new_bytes sizes c m h f in
      let z : (written_range sizes c).start + k - (written_range sizes c).start ≡ k = omega arith in
      ap (λ n. slice_index_or (buffer n target) ((written_range sizes c).start + k) 0) (effect_puts sizes c m h)
      ∙ (ap (λ (b : List ℕ). slice_index_or b ((written_range sizes c).start + k) 0) (get_or-set_same m target (with_bytes (buffer m target) (written_range sizes c).start (new_bytes sizes c m)) [] there)
      ∙ (with_bytes-in (buffer m target) (written_range sizes c).start (new_bytes sizes c m) ((written_range sizes c).start + k) 0 fits_there (omega arith) (omega arith)
      ∙ (ap (λ i. get_or (new_bytes sizes c m) i 0) z ∙ new_byte sizes c m k l)))

  -- every other byte of the buffer
  pub effect_beside : (k : ℕ) → (k < (written_range sizes c).start) ⊎ ((written_range sizes c).start + (written_range sizes c).size ≤ k) → slice_index_or (buffer (effect c m) target) k 0 ≡ slice_index_or (buffer m target) k 0
  effect_beside k l =
      let d = length-new_bytes sizes c m h f in
      ap (λ n. slice_index_or (buffer n target) k 0) (effect_puts sizes c m h)
      ∙ (ap (λ (b : List ℕ). slice_index_or b k 0) (get_or-set_same m target (with_bytes (buffer m target) (written_range sizes c).start (new_bytes sizes c m)) [] there)
      ∙ with_bytes-out (buffer m target) (written_range sizes c).start (new_bytes sizes c m) k 0 fits_there (elim l [ inl a ↦ inl a | inr a ↦ (let i : (written_range sizes c).start + length (new_bytes sizes c m) ≤ k = omega arith in inr i) ]))

  -- every other buffer
  pub effect_elsewhere : (b : ℕ) → (b ≡ target → ⊥) → buffer (effect c m) b ≡ buffer m b
  effect_elsewhere b n = ap (λ x. buffer x b) (effect_puts sizes c m h) ∙ get_or-set_other m target b (with_bytes (buffer m target) (written_range sizes c).start (new_bytes sizes c m)) [] n
