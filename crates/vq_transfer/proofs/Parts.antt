-- Buffers that are stored as vectors, seen as lists of bytes.
use Rattle.std.proofs.Common.{◌≡◌, ℕ, ◌++◌, add-zero, ◌+◌, ◌<◌, ◌≤◌, List, [], ◌∷◌, length, map, zero-add, sym, ◌∙◌, ap, Vec, Global, get_or, arith, replicate}
use Rattle.std.proofs.Math.ListN.{set}
use Rattle.std.proofs.lemmas.List.{map-set, with_items_is, get_or-map, length-map, same_lists, length-replicate, get_or-replicate, get_or_append_left, set-append_left, get_or-append-add, set_at, length-take, length-drop, length-set}
use Rattle.std.proofs.lemmas.List.FromFn.{length-map-range_with_len, get_or-map-range_with_len}
use Rattle.std.specs.Vec.{with_items}
use Rattle.std.specs.List.{range_with_len, slice_index_or, slice_range}
use Rattle.vq_model.specs.Memory.{Memory, buffer, with_bytes}
use Rattle.vq_memory_laws.proofs.Cited.{length-with_bytes}
use Rattle.vq_transfer.specs.Stored.{bytes_of}

-- a vector with other items, seen from outside
bytes_of-set : (vs : List (Vec ℕ Global)) (t : ℕ) (v : Vec ℕ Global) (ws : List ℕ) →
    length ws ≡ v.len → bytes_of (set vs t (with_items v ws)) ≡ set (bytes_of vs) t ws
bytes_of-set vs t v ws h = map-set (λ v. v.items) vs t (with_items v ws)
    ∙ ap (set (bytes_of vs) t) (with_items_is v ws h)

-- a buffer of those seen is stored
pub stored : (vs : List (Vec ℕ Global)) (m : Memory) (t : ℕ) → bytes_of vs ≡ m →
    t < length (map length m) → t < length vs
stored vs m t seen exists = omega
    (arith, ap length seen, length-map vs (λ v. v.items), length-map m length)

-- One buffer that was read as a vector.
module _ (vs : List (Vec ℕ Global)) (m : Memory) (t : ℕ) (v : Vec ℕ Global) (seen : bytes_of vs ≡ m)
    (exists : t < length (map length m)) (read : v ≡ get_or vs t v) where
  -- its bytes
  pub bytes_at : buffer m t ≡ v.items
  bytes_at = ap (λ n. buffer n t) (sym seen) ∙
      (get_or-map (λ v. v.items) vs t v [] (stored vs m t seen exists)
      ∙ ap (λ v. v.items) (sym read))

  -- its size
  pub size_at : slice_index_or (map length m) t 0 ≡ length v.items
  size_at = let there : t < length m = omega (arith, length-map m length) in get_or-map length m t
      [] 0 there ∙ ap length bytes_at

  -- the buffers after a write into it
  pub bytes_of-write : (ws : List ℕ) (o : ℕ) (new : List ℕ) → ws ≡ with_bytes v.items o new →
      o + length new ≤ length v.items →
      bytes_of (set vs t (with_items v ws)) ≡ set m t (with_bytes (buffer m t) o new)
  bytes_of-write ws o new wrote within =
      let size : length ws ≡ v.len = ap length wrote
      ∙ (length-with_bytes v.items o new within ∙ sym v.ok.0) in
      bytes_of-set vs t v ws size ∙ λ i. set (seen i) t
      ((wrote ∙ ap (λ old. with_bytes old o new) (sym bytes_at)) i)

-- so many zero bytes
pub replicate_is : (n : ℕ) → replicate {A = ℕ} n 0 ≡ map (λ k. 0) (range_with_len 0 n)
replicate_is n = same_lists _ _
    (length-replicate {A = ℕ} n 0 ∙ sym (length-map-range_with_len {X = ℕ} (λ k. 0) 0 n))
    (λ k d h. at_place k d h)
  where
    at_place : (k d : ℕ) → k < length (replicate {A = ℕ} n 0) →
        get_or (replicate {A = ℕ} n 0) k d ≡ get_or (map (λ k. 0) (range_with_len 0 n)) k d
    at_place k d h =
        let l : k < n = omega (arith, length-replicate {A = ℕ} n 0) in
        get_or-replicate {A = ℕ} n k 0 d l ∙ sym
        (get_or-map-range_with_len {X = ℕ} (λ k. 0) 0 n k k d l (zero-add k))

-- Two buffers at once

-- what stands in the front part of a list, and a change of it
pub read_front : (vs front back : List (Vec ℕ Global)) (s : ℕ) (w : Vec ℕ Global) →
    vs ≡ front ++ back → s < length front → get_or front s w ≡ get_or vs s w
read_front vs front back s w e l = sym (get_or_append_left front back w s l)
    ∙ ap (λ xs. get_or xs s w) (sym e)

pub set_front : (vs front back : List (Vec ℕ Global)) (t : ℕ) (x : Vec ℕ Global) →
    vs ≡ front ++ back → t < length front → set front t x ++ back ≡ set vs t x
set_front vs front back t x e l = sym (set-append_left front back t x l)
    ∙ ap (λ xs. set xs t x) (sym e)

-- the same of the first of the back part
pub read_back : (vs front back : List (Vec ℕ Global)) (s : ℕ) (w : Vec ℕ Global) →
    vs ≡ front ++ back → length front ≡ s → get_or back 0 w ≡ get_or vs s w
read_back vs front back s w e l =
    sym (get_or-append-add front back 0 w) ∙ λ i. get_or (sym e i) ((add-zero (length front) ∙ l) i)
    w

pub set_back : (vs front back : List (Vec ℕ Global)) (t : ℕ) (x : Vec ℕ Global) →
    vs ≡ front ++ back → length front ≡ t → 0 < length back → front ++ set back 0 x ≡ set vs t x
set_back vs front [] t x e l h = absurd (omega arith)
set_back vs front (y ∷ back) t x e l h = sym (set_at front y back x t l)
    ∙ ap (λ xs. set xs t x) (sym e)

-- a copy from one buffer to another
module _ (vs : List (Vec ℕ Global)) (m : Memory) (s t : ℕ) (w v : Vec ℕ Global)
    (seen : bytes_of vs ≡ m) (reads : s < length (map length m))
    (writes : t < length (map length m)) (read : w ≡ get_or vs s w) (there : v ≡ get_or vs t v)
  where
    pub bytes_of-copy : (from to size : ℕ) (source old ws : List ℕ) → source ≡ w.items →
        old ≡ v.items → ws ≡ with_bytes old to (slice_range source from (from + size)) →
        from + size ≤ slice_index_or (map length m) s 0 →
        to + size ≤ slice_index_or (map length m) t 0 →
        bytes_of (set vs t (with_items v ws)) ≡ set m t
        (with_bytes (buffer m t) to (slice_range (buffer m s) from (from + size)))
    bytes_of-copy from to size source old ws a b wrote inside within =
        let new = slice_range w.items from (from + size) in
        let from_size = size_at vs m s w seen reads read in
        let to_size = size_at vs m t v seen writes there in
        let long : length new ≡ size = simp (length-take, length-drop) (omega arith) in
        bytes_of-write vs m t v seen writes there ws to new
        (wrote ∙ λ i. with_bytes (b i) to (slice_range (a i) from (from + size))) (omega arith)
        ∙ ap (λ (bytes : List ℕ). set m t
        (with_bytes (buffer m t) to (slice_range bytes from (from + size))))
        (sym (bytes_at vs m s w seen reads read))

-- the buffers that a changed vector of vectors holds
pub bytes_of-changed : (all : Vec (Vec ℕ Global) Global) (xs : List (Vec ℕ Global)) (t : ℕ)
    (v : Vec ℕ Global) (ws : List ℕ) (y : Vec ℕ Global) → y ≡ v →
    xs ≡ set all.items t (with_items y ws) →
    bytes_of (with_items all xs).items ≡ bytes_of (set all.items t (with_items v ws))
bytes_of-changed all xs t v ws y e h =
    let same : xs ≡ set all.items t (with_items v ws) = h
    ∙ ap (λ z. set all.items t (with_items z ws)) e in
    ap bytes_of (with_items_is all xs
    (ap length same ∙ (length-set all.items t (with_items v ws) ∙ sym all.ok.0)) ∙ same)
