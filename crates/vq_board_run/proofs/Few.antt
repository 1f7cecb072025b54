-- The waits of a plan's programs are for few needs.
use Rattle.std.proofs.Common.{◌≡◌, ◌<◌, ◌≤◌, ℕ, zero, suc, List, [], ◌∷◌, Some, All, length, refl, arith}
use Rattle.std.specs.List.{slice_get, slice_index_or}
use Rattle.vq_model.specs.declared.script.ActorName.{ActorName}
use Rattle.vq_model.specs.LoweredPlans.{IsPlan}
use Rattle.vq_model.specs.Plan.{Plan}
use Rattle.vq_actor.specs.Positions.{needs_of}
use Rattle.vq_turns.specs.declared.task.Task.{Task}
use Rattle.vq_turns.specs.declared.task.Task.TheVariants.{AwaitSubmitted, AwaitReleased, AwaitFinished, AwaitBound, AwaitNeeds, Submit, Take, Release, Bind, Start, Apply, Signal, Compare, Answer, Finish}
use Rattle.vq_turns.specs.Programs.{program}
use Rattle.vq_access_laws.proofs.Cited.{few_needs}
use Rattle.vq_access.specs.Lasts.{IsFew}

get_at : (xs : List Task) (k : ℕ) (d : Task) → k < length xs → slice_get xs k ≡ Some (slice_index_or xs k d)
get_at [] k d l = absurd (omega arith)
get_at (x ∷ xs) zero d l = refl
get_at (x ∷ xs) (suc k) d l = get_at xs k d (omega arith)

pub program_few : (p : Plan) → IsPlan p → (a : ActorName) → All IsFew (program p a)
program_few p read a k d l = by_task (slice_index_or (program p a) k d) (get_at (program p a) k d l)
  where
    by_task : (t : Task) → slice_get (program p a) k ≡ Some t → needs_of t ≤ 16
    by_task (AwaitNeeds ns) e = few_needs p read a k ns e
    by_task (AwaitSubmitted j) e = omega arith
    by_task (AwaitReleased j) e = omega arith
    by_task (AwaitFinished j) e = omega arith
    by_task (AwaitBound f) e = omega arith
    by_task (Submit j) e = omega arith
    by_task (Take f c) e = omega arith
    by_task (Release j) e = omega arith
    by_task (Bind f) e = omega arith
    by_task (Start j) e = omega arith
    by_task (Apply j c) e = omega arith
    by_task (Signal f) e = omega arith
    by_task (Compare c w) e = omega arith
    by_task (Answer j asks) e = omega arith
    by_task (Finish j) e = omega arith
