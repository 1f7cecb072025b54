-- What a pass knows: facts that stay so. This project's own.
use Rattle.std.specs.Prelude.{ℕ, zero, suc, List, [], ◌∷◌}
use Rattle.std.specs.Prelude.{◌≡◌, ◌≢◌, ◌≤◌, ◌+◌, ◌⊎◌, true, Some}
use mathlib.Core.Option.{some}
use lib.ListN.{get_elem?}
use Rattle.vq_model.specs.Plan.{Plan, job_of, chain_of, initial, value}
use Rattle.vq_model.specs.Sure.{IsSure}
use Rattle.vq_model.specs.Windows.{IsMadeWith}
use Rattle.vq_model.specs.OrderAnswers.{IsGreatest}
use Rattle.vq_board_laws.specs.declared.view.View.{View}
use Rattle.vq_board_laws.specs.declared.view.JobState.{JobState}
use Rattle.vq_board_laws.specs.declared.view.JobState.TheVariants.{Waiting, Submitted, Released, Started, Finished}
use Rattle.vq_board_laws.specs.declared.view.Fact.{Fact}
use Rattle.vq_board_laws.specs.declared.view.Fact.TheVariants.{Job, Taken, Bound, BoundTo, Made, Past}
use Rattle.vq_board_laws.specs.Words.{Words, Carries, made_of}

-- the word of a job in this state, and the state of a job with this word
abbrev pub state_number : JobState → ℕ
state_number Waiting = 0
state_number Submitted = 1
state_number Released = 2
state_number Started = 3
state_number Finished = 4

abbrev pub state_at : ℕ → JobState
state_at zero = Waiting
state_at (suc zero) = Submitted
state_at (suc (suc zero)) = Released
state_at (suc (suc (suc zero))) = Started
state_at (suc (suc (suc (suc n)))) = Finished

-- a fact, said of the words
abbrev pub IsSo : Words → Fact → Type 0
IsSo d (Job j s) = state_number s ≤ d.job j
IsSo d (Taken e) = (d.op e ≢ 0) ⊎ ((q : ℕ) × Carries (d.point q) e)
IsSo d (Bound e) = d.op e ≢ 0
IsSo d (BoundTo e q) = (d.op e ≡ q + 2) ⊎ (d.op e ≡ 1)
IsSo d (Made e) = made_of d e ≡ true
IsSo d (Past e) = d.op e ≡ 1

abbrev pub AreSo : Words → List Fact → Type 0
AreSo d [] = Unit {0}
AreSo d (f ∷ fs) = IsSo d f × AreSo d fs

-- the fact is on the list of those known
abbrev pub Knows : List Fact → Fact → Type 0
Knows [] f = ⊥
Knows (g ∷ fs) f = (g ≡ f) ⊎ Knows fs f

-- the job is known at least so far
abbrev pub KnowsSoFar : List Fact → ℕ → JobState → Type 0
KnowsSoFar known j least =
    (s : JobState) × (state_number least ≤ state_number s) × Knows known (Job j s)

-- The operation is known made: a step showed it made or completed, it is made with one that is known
-- made, or its job, or one for which it is sure, is known finished.
pub data KnowsMade (p : Plan) (known : List Fact) : ℕ → Type 0 where
  shown : {e : ℕ} → Knows known (Made e) → KnowsMade p known e
  completed : {e : ℕ} → Knows known (Past e) → KnowsMade p known e
  made_with : {e f : ℕ} → KnowsMade p known e → IsMadeWith p e f → KnowsMade p known f
  of_finished : {e j : ℕ} → Knows known (Job j Finished) → job_of p e ≡ Some j →
      KnowsMade p known e
  before_finished : {e j : ℕ} → Knows known (Job j Finished) → IsSure p e j → KnowsMade p known e

-- what a chain's payload has come to, as far as is known: its initial value, or what an operation of
-- it that is known made sets
abbrev pub IsKnownValue : Plan → List Fact → ℕ → ℕ → Type 0
IsKnownValue p known t n =
    (n ≡ initial p t)
    ⊎ ((e : ℕ) × (chain_of p e ≡ Some t) × (value p e ≡ n) × KnowsMade p known e)

-- the payload that is known: the greatest of these
abbrev pub IsKnownPayload : Plan → List Fact → ℕ → ℕ → Type 0
IsKnownPayload p known t n = IsGreatest (IsKnownValue p known t) n

-- what holds of each pass, at its place in the list
abbrev pub Each : (ℕ → View → Type 0) → List View → Type 0
Each Q views = (i : ℕ) (v : View) → get_elem? views i ≡ some v → Q i v

-- what each pass knows is so
abbrev pub Knowledge : Words → List View → Type 0
Knowledge d views = Each (λ i v. AreSo d v.known) views
