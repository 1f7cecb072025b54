-- What a read of a chain's payload shows. This project's own, over Vulkan 1.3,
-- vkGetSemaphoreCounterValue.
use Rattle.std.specs.Prelude.{ℕ, ◌≡◌, ◌<◌, ◌≤◌, ◌⊎◌, Some, true, length}
use Rattle.vq_model.specs.Plan.{Plan, chain_of, initial, value}
use Rattle.vq_board_laws.specs.declared.view.View.{View}
use Rattle.vq_board_laws.specs.Knowledge.{IsKnownPayload}
use Rattle.vq_board_laws.specs.OwnSteps.{ShowsUnmade}
use Rattle.vq_board.specs.Firsts.{shows_made}
use Rattle.vq_payload.specs.Tests.{saw_payload}

-- the least operation of the chain above a value
pub record IsNextAbove (p : Plan) (t n e : ℕ) : Type 0 where
  pub in_chain : chain_of p e ≡ Some t
  pub above : n < value p e
  pub least : (g : ℕ) → chain_of p g ≡ Some t → n < value p g → value p e ≤ value p g

-- the last step of the call showed the operation unmade, and it is noted
pub record ShowsNext (v w : View) (e : ℕ) : Type 0 where
  pub new : length v.steps < length w.steps
  pub unmade : ShowsUnmade w e

-- the initial value, or that of an operation of the chain that the pass's own steps showed made
abbrev pub IsShownValue : Plan → View → ℕ → ℕ → Type 0
IsShownValue p v t n =
    (n ≡ initial p t)
    ⊎ ((e : ℕ) × (chain_of p e ≡ Some t) × (value p e ≡ n) × (shows_made v.known e ≡ true))

-- A read answers what the pass knows of the chain's payload at its end, which its own steps showed, and
-- which is at least what it knew before. Where the chain has an operation above that, the last step
-- of the call showed the least such one unmade.
pub record HasRead (p : Plan) (t : ℕ) (v w : View) (n : ℕ) : Type 0 where
  pub known : IsKnownPayload p w.known t n
  pub shown : IsShownValue p w t n
  pub at_least : (m : ℕ) → IsKnownPayload p v.known t m → m ≤ n
  pub next : (e : ℕ) → IsNextAbove p t n e → ShowsNext v w e
  pub tests : saw_payload p w t n ≡ true
