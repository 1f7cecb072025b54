-- Buffers are small.
use Rattle.std.proofs.Common.{ℕ, ◌≤◌, List, length, get_or, sum, ap, inl, inr, arith}
use Rattle.std.proofs.lemmas.Bool.{cases_lt}
use Rattle.std.proofs.lemmas.List.{get_or_past}
use Rattle.std.proofs.lemmas.List.Sums.{get_or-le-sum_by}
use Rattle.vq_model.specs.LoweredPlans.{IsPlan}
use Rattle.vq_model.specs.Plan.{Plan}
use Rattle.vq_reading_laws.proofs.Cited.{read_valid}

item_small : (xs : List ℕ) (i : ℕ) → get_or xs i 0 ≤ sum xs
item_small xs i = elim (cases_lt i (length xs)) [
  | inl l ↦ get_or-le-sum_by (λ x. x) xs i 0 l
  | inr l ↦ (let e = get_or_past xs i 0 l in omega arith)
]

pub size_small : (p : Plan) → IsPlan p → (b : ℕ) → get_or p.sizes b 0 ≤ 1048576
size_small p i b =
    let v = (read_valid p.script i.of_script).limits.bytes in
    let h = item_small p.sizes b in
    let e = ap (λ (q : Plan). sum q.sizes) i.lowered in
    omega arith
