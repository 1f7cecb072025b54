-- What waits answer. This project's own.
use Rattle.std.specs.Prelude.{ℕ, List, [], ◌∷◌, ◌≡◌, Some}
use Rattle.std.specs.List.{slice_get}
use Rattle.vq_live_lock.specs.declared.gauge.Reached.{Reached}
use Rattle.vq_live_lock.specs.declared.waiting.Wanted.{Wanted}
use Rattle.vq_live_lock.specs.Locked.{HasReached}

-- it shows that this pair's value is reached by its timeline
abbrev pub IsMet : Wanted → Reached → Type 0
IsMet w r = HasReached w.timeline.now r w.value

-- each is met, in order
abbrev pub AreMet : List Wanted → List Reached → Type 0
AreMet [] [] = Unit {0}
AreMet [] (r ∷ rs) = ⊥
AreMet (w ∷ ws) [] = ⊥
AreMet (w ∷ ws) (r ∷ rs) = IsMet w r × AreMet ws rs

-- the pair with this number is met
abbrev pub IsMetAt : List Wanted → ℕ → Reached → Type 0
IsMetAt ws i r = (w : Wanted) × (slice_get ws i ≡ Some w) × IsMet w r
