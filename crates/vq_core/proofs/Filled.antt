-- So many of one value.
use Rattle.std.proofs.Common.{◌≡◌, ◌<◌, ◌∙◌, ℕ, length, map, sym, get_or, replicate, zero-add, arith}
use Rattle.std.proofs.lemmas.List.{same_lists, length-replicate, get_or-replicate}
use Rattle.std.proofs.lemmas.List.FromFn.{length-map-range_with_len, get_or-map-range_with_len}
use Rattle.std.specs.List.{range_with_len}

pub filled : (X : Type 0) (x : X) (n : ℕ) → replicate {A = X} n x ≡ map (λ k. x) (range_with_len 0 n)
filled X x n = same_lists _ _
    (length-replicate {A = X} n x ∙ sym (length-map-range_with_len {X = X} (λ k. x) 0 n))
    (λ k d h. at_place k d h)
  where
    at_place : (k : ℕ) (d : X) → k < length (replicate {A = X} n x) →
        get_or (replicate {A = X} n x) k d ≡ get_or (map (λ k. x) (range_with_len 0 n)) k d
    at_place k d h =
        let l : k < n = omega (arith, length-replicate {A = X} n x) in
        get_or-replicate {A = X} n k x d l ∙ sym
        (get_or-map-range_with_len {X = X} (λ k. x) 0 n k k d l (zero-add k))
