-- The reads that one poll made. This project's own.
use Rattle.std.specs.Prelude.{ℕ, List, [], ◌∷◌, ◌≡◌, ◌⊎◌}
use Rattle.futures.specs.declared.task.context.Context.{Context}
use Rattle.vq_model.specs.Plan.{Plan}
use Rattle.vq_board_laws.specs.declared.view.View.{View}
use Rattle.vq_board_laws.specs.Learning.{Learns}
use Rattle.vq_payload.specs.Reading.{HasRead}
use Rattle.vq_poll.specs.declared.bell.Bell.{Bell}
use Rattle.vq_poll.specs.Hearing.{HearsBell}

-- a read of a chain, and the value that it answered
pub record Look : Type 0 where
  pub chain : ℕ
  pub value : ℕ

-- From the one view to the other the pass made these reads, of which the last stands first, and did
-- nothing else.
abbrev pub Reads : Plan → View → List Look → View → Type 0
Reads p v [] z = z ≡ v
Reads p v (l ∷ ls) z = (w : View) × Reads p v ls w × Learns w z × HasRead p l.chain w z l.value

-- the chain was read, and this was its value
abbrev pub WasRead : List Look → ℕ → ℕ → Type 0
WasRead [] t n = ⊥
WasRead (l ∷ ls) t n = ((l.chain ≡ t) × (l.value ≡ n)) ⊎ WasRead ls t n

-- no chain was read twice
abbrev pub AreOnce : List Look → Type 0
AreOnce [] = Unit {0}
AreOnce (l ∷ ls) = ((n : ℕ) → ¬ WasRead ls l.chain n) × AreOnce ls

-- the context hears the bell of each chain that was read
abbrev pub AreHeard : Context → List Bell → List Look → Type 0
AreHeard cx bells [] = Unit {0}
AreHeard cx bells (l ∷ ls) = HearsBell cx bells l.chain × AreHeard cx bells ls
