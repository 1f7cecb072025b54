-- The sizes of buffers.
use Rattle.std.proofs.Common.{◌≡◌, ℕ, ◌<◌, List, [], ◌∷◌, length, map, refl, ◌∙◌, get_or, arith}
use Rattle.std.proofs.lemmas.List.{get_or-map, length-map, same_lists, get_or_default}
use Rattle.std.proofs.lemmas.List.FromFn.{length-map-range_with_len}
use Rattle.vq_model.specs.Memory.{Memory, zeros_of}
use Rattle.vq_model.specs.FittingCommands.{HasSizes}

-- buffers that have these sizes have no others
pub sizes_are : (sizes : List ℕ) (m : Memory) → HasSizes sizes m → map length m ≡ sizes
sizes_are sizes m h =
    same_lists _ _ (length-map m length ∙ h.count) (λ k d l. at_place k d l)
  where
    at_place : (k d : ℕ) → k < length (map length m) → get_or (map length m) k d ≡ get_or sizes k d
    at_place k d l =
        let inside : k < length m = omega (arith, length-map m length) in
        let count = h.count in
        get_or-map length m k [] d inside ∙ (h.each k ∙ get_or_default sizes k 0 d (omega arith))

-- buffers of zeros have the sizes that were asked for
pub sizes-zeros_of : (sizes : List ℕ) → map length (zeros_of sizes) ≡ sizes
sizes-zeros_of [] = refl
sizes-zeros_of (n ∷ sizes) = λ i. length-map-range_with_len {X = ℕ} (λ k. 0) 0 n i ∷ sizes-zeros_of sizes i
