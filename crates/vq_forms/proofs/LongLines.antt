-- A line whose words were cut off has many.
use Rattle.std.proofs.Common.{◌<◌, ℕ, List, length, ap, arith}
use Rattle.std.proofs.lemmas.List.{length-append}
use Rattle.vq_forms.specs.Few.{AreCutOff}

-- more words follow the first 63 of them
pub cut_long : (first words : List (List ℕ)) → AreCutOff first words → 63 < length words
cut_long first words cut =
    let counted = ap (λ (ws : List (List ℕ)). length ws) cut.parts in
    let both = length-append first cut.more in
    let many = cut.many in
    let some = cut.some in
    omega (arith, counted, both, many, some)
