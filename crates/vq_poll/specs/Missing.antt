-- When a pair is reached, and when it is missed. v is what the pass knew and had done before, w what after.
-- This project's own, over Vulkan 1.3, vkWaitSemaphores.
use Rattle.std.specs.Prelude.{ℕ, List, ◌≡◌, ◌<◌, ◌≤◌, ◌+◌, ◌⊎◌, Some, None, length}
use Rattle.std.specs.List.{slice_get}
use Rattle.vq_model.specs.Plan.{Plan, initial, chain_of, value, resolver}
use Rattle.vq_board_laws.specs.declared.view.Fact.{Fact}
use Rattle.vq_board_laws.specs.declared.view.View.{View}
use Rattle.vq_board_laws.specs.Knowledge.{IsKnownValue}
use Rattle.vq_board_laws.specs.OwnSteps.{HasStep, IsUnmadeStep}
use Rattle.vq_board_laws.specs.Reached.{IsPayload}
use Rattle.vq_poll.specs.declared.pairs.Pair.{Pair}
use Rattle.vq_poll.specs.declared.pairs.Met.{Met}
use Rattle.vq_poll.specs.declared.pairs.WaitMode.{WaitMode}
use Rattle.vq_poll.specs.declared.pairs.WaitMode.TheVariants.{All, Any}

-- the pass knows that the pair's chain has come to its value
abbrev pub KnowsPair : Plan → List Fact → Pair → Type 0
KnowsPair p known x = (n : ℕ) × IsKnownValue p known x.chain n × (x.value ≤ n)

-- an operation of the chain, not above the resolver, that a step in between showed unmade
pub record IsHeldUp (p : Plan) (v w : View) (x : Pair) : Type 0 where
  pub reaching : ℕ
  pub resolves : resolver p x.chain x.value ≡ Some reaching
  pub op : ℕ
  pub in_chain : chain_of p op ≡ Some x.chain
  pub within : value p op ≤ value p reaching
  pub unmade : HasStep (length v.steps) (λ s _. IsUnmadeStep op s) w.steps

-- The pair is missed: it is above its initial value, and nothing resolves it or it was held up.
pub record IsMissed (p : Plan) (v w : View) (x : Pair) : Type 0 where
  pub above : initial p x.chain < x.value
  pub unreached : (resolver p x.chain x.value ≡ None) ⊎ IsHeldUp p v w x

-- The pair of this index was found reached: the value, at least the wanted one, is the initial one or
-- that of an operation of the chain.
pub record IsReached (p : Plan) (ps : List Pair) (m : Met) : Type 0 where
  pub pair : Pair
  pub is : slice_get ps m.index ≡ Some pair
  pub reached : pair.value ≤ m.value
  pub payload : IsPayload p pair.chain m.value

-- the pass knows that the chain has come to the value found
abbrev pub KnowsMet : Plan → List Fact → List Pair → Met → Type 0
KnowsMet p known ps m =
    (x : Pair) → slice_get ps m.index ≡ Some x → IsKnownValue p known x.chain m.value

-- what a wait answers: a pair that was found reached, for all of them the last one
pub record IsMet (p : Plan) (mode : WaitMode) (ps : List Pair) (m : Met) : Type 0 where
  pub reached : IsReached p ps m
  pub last : mode ≡ All → m.index + 1 ≡ length ps

-- the first n pairs are known reached
abbrev pub KnowsFirst : Plan → List Fact → List Pair → ℕ → Type 0
KnowsFirst p known ps n =
    (i : ℕ) (x : Pair) → i < n → slice_get ps i ≡ Some x → KnowsPair p known x

-- what is missed where a wait goes on: for all the pair at which it stands, for any each of them
abbrev pub AreMissed : Plan → WaitMode → List Pair → ℕ → View → View → Type 0
AreMissed p All ps next v w = (x : Pair) × (slice_get ps next ≡ Some x) × IsMissed p v w x
AreMissed p Any ps next v w = (i : ℕ) (x : Pair) → slice_get ps i ≡ Some x → IsMissed p v w x
