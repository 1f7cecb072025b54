-- Pairs that are met, one after another.
use Rattle.std.proofs.Common.{◌≡◌, ◌<◌, ◌+◌, ◌∷◌, ◌++◌, ℕ, zero, suc, List, [], length, take, get_or, subst, arith}
use Rattle.vq_live_lock.specs.declared.gauge.Reached.{Reached}
use Rattle.vq_live_lock.specs.declared.waiting.Wanted.{Wanted}
use Rattle.vq_live_lock.specs.Waits.{IsMet, AreMet}

one_more : (ws : List Wanted) (rs : List Reached) (i : ℕ) (w : Wanted) (r : Reached) → i < length ws →
    w ≡ get_or ws i w → AreMet (take i ws) rs → IsMet w r → AreMet (take (suc i) ws) (rs ++ r ∷ [])
one_more [] rs i w r h e met is = absurd (omega arith)
one_more (x ∷ xs) [] zero w r h e met is = (subst (λ (z : Wanted). IsMet z r) e is, tt)
one_more (x ∷ xs) (s ∷ rs) zero w r h e met is = absurd met
one_more (x ∷ xs) [] (suc i) w r h e met is = absurd met
one_more (x ∷ xs) (s ∷ rs) (suc i) w r h e met is = (met.0, one_more xs rs i w r (omega arith) e met.1 is)

pub met_more : (ws : List Wanted) (rs : List Reached) (i : ℕ) (w : Wanted) (r : Reached) → i < length ws →
    w ≡ get_or ws i w → AreMet (take i ws) rs → IsMet w r → AreMet (take (i + 1) ws) (rs ++ r ∷ [])
met_more ws rs i w r h e met is =
    let next : suc i ≡ i + 1 = omega arith in
    subst (λ (n : ℕ). AreMet (take n ws) (rs ++ r ∷ [])) next (one_more ws rs i w r h e met is)
