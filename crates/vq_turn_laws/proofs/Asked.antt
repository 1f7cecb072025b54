-- What a task of a program asks of its plan.
use Rattle.std.proofs.Common.{◌≡◌, ℕ, List, Some, subst}
use Rattle.std.specs.List.{slice_get}
use Rattle.vq_model.specs.declared.script.ActorName.{ActorName}
use Rattle.vq_model.specs.Plan.{Plan, chain_of}
use Rattle.vq_turns.specs.declared.task.Task.{Task}
use Rattle.vq_turns.specs.declared.task.Task.TheVariants.{Take}
use Rattle.vq_turns.specs.Programs.{program}
use Rattle.vq_turn_laws.specs.Orders.{InOrder}
use Rattle.vq_turn_laws.specs.PlanParts.{IsOrderly}
use Rattle.vq_turn_laws.proofs.CutFacts.{cut_at}
use Rattle.vq_turn_laws.proofs.Cuts.{done_of, next_left}

-- an operation is taken on its own chain
pub take_chain : (p : Plan) → IsOrderly p → (a : ActorName) (n e t : ℕ) →
    slice_get (program p a) n ≡ Some (Take e t) → chain_of p e ≡ Some t
take_chain p o a n e t h =
    (subst (λ (ts : List Task). InOrder p a (done_of n (program p a)) ts) (next_left n (program p a) (Take e t) h)
    (cut_at p o a n).order).0.in_chain
