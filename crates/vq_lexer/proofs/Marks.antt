-- Masks of bytes, a bit each: the lowest bit stands for the first byte that passes.
use Rattle.std.proofs.Common.{◌≡◌, ℕ, suc, ◌+◌, ◌*◌, ◌<◌, ◌≤◌, Bool, true, false, not, cond, List, [], ◌∷◌, length, map, get_or, subst, arith}
use Rattle.std.specs.List.{prefix_len, position_or_len}
use Rattle.std.specs.Simd.Lanes.{chunk, mask_l}
use Rattle.std.specs.Int.Count.{count_trailing_zeros}
use Rattle.std.proofs.lemmas.Simd.{length-chunk, trailing_mask_l, run_in_chunk_fails, run_in_chunk_stops}
use Rattle.std.proofs.lemmas.List.Sums.{position_or_len_is}

module _ (p : ℕ → Bool) where
  -- some bit is set, so some byte passes
  before_end : (xs : List ℕ) → 0 < mask_l (map p xs) → prefix_len (λ x. not (p x)) xs < length xs
  before_end [] h = absurd (omega arith)
  before_end (x ∷ xs) h = by_test (p x) h (before_end xs)
    where
      by_test : (t : Bool) → 0 < cond t 1 0 + 2 * mask_l (map p xs) →
          (0 < mask_l (map p xs) → prefix_len (λ x. not (p x)) xs < length xs) →
          cond (not t) (1 + prefix_len (λ x. not (p x)) xs) 0 < suc (length xs)
      by_test true h more = omega arith
      by_test false h more = let less = more (omega arith) in omega arith

  -- the first byte that passes, of the first n of a text
  pub first_marked : (text : List ℕ) (n : ℕ) → n ≤ length text → n ≤ 64 → 0 < mask_l (map p (chunk 0 n text)) →
      (count_trailing_zeros 64 (mask_l (map p (chunk 0 n text))) < n)
      × (position_or_len p text ≡ count_trailing_zeros 64 (mask_l (map p (chunk 0 n text))))
  first_marked text n long small some =
      let long0 : 0 + n ≤ length text = omega arith in
      let room = length-chunk 0 n text long0 in
      let end = count_trailing_zeros 64 (mask_l (map p (chunk 0 n text))) in
      let counted = trailing_mask_l p 64 (chunk 0 n text) (omega arith) some in
      let within = before_end (chunk 0 n text) some in
      let below : end < n = omega arith in (
        below,
        position_or_len_is p text end 0 (omega arith)
            (λ k l. run_in_chunk_fails p text 0 n end 0 long0 counted k (omega arith) (omega arith))
            (λ _. let same : 0 + end ≡ end = omega arith in
            subst (λ (k : ℕ). p (get_or text k 0) ≡ true) same (run_in_chunk_stops p text 0 n end 0 long0 counted below)),
      )
