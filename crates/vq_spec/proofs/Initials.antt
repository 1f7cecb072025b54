-- The initial values of the chains of a plan.
use Rattle.std.proofs.Common.{◌≡◌, ℕ, zero, suc, ◌<◌, List, [], ◌∷◌, length, map, slice_index_or, refl, arith}
use Rattle.std.specs.List.{slice_get}
use Rattle.std.specs.Option.{option_map_or}
use Rattle.vq_model.specs.declared.script.Script.{Script}
use Rattle.vq_model.specs.declared.script.Semaphore.{Semaphore}
use Rattle.vq_model.specs.Plan.{initial}
use Rattle.vq_model.specs.Signals.{initial_value}
use Rattle.vq_model.specs.Lowering.{plan_of}

initial_at : (xs : List Semaphore) (t : ℕ) (d : Semaphore) → t < length xs →
    option_map_or (λ n. n) (slice_get (map (λ x. initial_value x.kind) xs) t) 0
    ≡ initial_value (slice_index_or xs t d).kind
initial_at [] t d l = absurd (omega arith)
initial_at (x ∷ xs) zero d l = refl
initial_at (x ∷ xs) (suc t) d l = initial_at xs t d (omega arith)

pub initial_is : (s : Script) (t : ℕ) (d : Semaphore) → t < length s.semaphores →
    initial (plan_of s) t ≡ initial_value (slice_index_or s.semaphores t d).kind
initial_is s t d l = initial_at s.semaphores t d l
