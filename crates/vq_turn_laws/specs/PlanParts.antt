-- What the programs of the actors ask of a plan: each lawful plan of a script that was read keeps it.
-- This project's own.
use Rattle.std.specs.Prelude.{ℕ, ◌≡◌, ◌<◌, ◌≤◌, true, false, List, [], ◌∷◌, Some, is_some}
use Rattle.vq_model.specs.declared.script.ActorName.{ActorName}
use Rattle.vq_model.specs.declared.script.ActorName.TheVariants.{Submit as SubmitActor}
use Rattle.vq_model.specs.declared.plan.Lane.{Lane}
use Rattle.vq_model.specs.declared.plan.Lane.TheVariants.{Host as HostLane}
use Rattle.vq_model.specs.declared.plan.Need.{Need}
use Rattle.vq_model.specs.declared.plan.Question.TheVariants.{Value}
use Rattle.vq_model.specs.Plan.{Plan, of_job, needs, initial, resolver, is_host_step, previous, idle_after, commands_of}
use Rattle.vq_model.specs.Plan.{waits_for_any, asked, question, is_silent}
use Rattle.vq_model.specs.WellFormed.{IsWellFormed, KeepsHostOrder}
use Rattle.vq_model.specs.SureOrder.{KeepsChains}
use Rattle.vq_model.specs.ValidScripts.{is_immediate_queue}
use Rattle.vq_turn_laws.specs.Orders.{Within}

-- the lane of a job
abbrev pub lane_of_job : Plan → ℕ → Lane
lane_of_job p j = of_job (λ x. x.lane) HostLane p j

-- Only idle steps wait for other jobs, host steps have no commands, places of waits count from 1, the job before
-- another one in its lane is of that lane, what asks for values has a question, and a question for the payload
-- of a chain asks for that chain first.
pub record KeepsParts (p : Plan) : Type 0 where
  pub idle : (j : ℕ) → is_host_step p j ≡ false → idle_after p j ≡ []
  pub commands : (j : ℕ) → is_host_step p j ≡ true → commands_of p j ≡ []
  pub places : (j : ℕ) (n : Need) → Within n (needs p j) → 1 ≤ n.from
  pub lane : (i j : ℕ) → previous p j ≡ Some i → lane_of_job p i ≡ lane_of_job p j
  pub loud : (j : ℕ) (n : Need) → Within n (asked p j) → is_silent (question p j) ≡ false
  pub value : (j t : ℕ) → question p j ≡ Value t →
      (n : Need) × (ns : List Need) × (asked p j ≡ n ∷ ns) × (n.chain ≡ t)

-- Each wait above its initial value has a resolver.
abbrev pub HasResolvers : Plan → Type 0
HasResolvers p =
    (j : ℕ) (n : Need) → waits_for_any p j ≡ false → Within n (needs p j) → initial p n.chain < n.value →
    is_some (resolver p n.chain n.value) ≡ true

-- A submit actor plays where the host doesn't move the batches of its queue itself.
abbrev pub HasOwnProgram : Plan → ActorName → Type 0
HasOwnProgram p (SubmitActor q) = is_immediate_queue p.script q ≡ false
HasOwnProgram p other = Unit {0}

-- what each lawful plan of a script that was read keeps, as far as programs and places ask it
pub record IsOrderly (p : Plan) : Type 0 where
  pub well_formed : IsWellFormed p
  pub hosts : KeepsHostOrder p
  pub parts : KeepsParts p
  pub chains : KeepsChains p
  pub resolvers : HasResolvers p
