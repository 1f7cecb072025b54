-- The run of the machine that the words show, with the answers that the host gave. This project's
-- own.
use Rattle.std.specs.Prelude.{ℕ, List, [], ◌∷◌, find, map, reverse, Option, Some, is_some}
use Rattle.std.specs.Prelude.{◌≡◌, ◌<◌, ◌≤◌, ◌⊎◌, ◌==◌, true, false}
use Rattle.std.specs.Option.{option_map}
use Rattle.vq_model.specs.declared.plan.Answer.{Answer}
use Rattle.vq_model.specs.declared.plan.AnswerLine.{AnswerLine}
use Rattle.vq_model.specs.Machine.{Progress, State, Step, Run, state_after}
use Rattle.vq_model.specs.OutputText.{answer_at}
use Rattle.vq_model.specs.Plan.{Plan, value, initial, chain_of, question, is_silent}
use Rattle.vq_ground.specs.Lists.{has}
use Rattle.vq_board_laws.specs.declared.view.View.{View}
use Rattle.vq_board_laws.specs.declared.view.Told.{Told}
use Rattle.vq_board_laws.specs.Knowledge.{Each}

-- what the host answered a job, if anything
abbrev pub answer_told : List Told → ℕ → Option Answer
answer_told told j = option_map (λ x. x.answer) (find (λ x. x.job == j) told)

-- the answers with the lines of their steps, in the order in which they were given
abbrev pub lines_told : Plan → List Told → List AnswerLine
lines_told p told = map (λ x. answer_at p x.job x.answer) (reverse told)

-- jobs that fall from the first to the last
abbrev pub AreFalling : List Told → Type 0
AreFalling [] = Unit {0}
AreFalling (x ∷ xs) =
    ((j : ℕ) → is_some (answer_told xs j) ≡ true → j < x.job) × AreFalling xs

-- a payload that a chain may have: its initial value, or what one of its operations sets
abbrev pub IsPayload : Plan → ℕ → ℕ → Type 0
IsPayload p t n = (n ≡ initial p t) ⊎ ((e : ℕ) × (chain_of p e ≡ Some t) × (value p e ≡ n))

-- Since the job that a pass runs was started the payloads have only risen, and what the pass noted
-- unmade wasn't made then.
pub record SinceStart (p : Plan) (s : State) (runs : Option ℕ) (unmade : List ℕ) : Type 0 where
  pub payload : (j t : ℕ) → runs ≡ Some j → IsPayload p t (s.at_start j t)
  pub rises : (j t : ℕ) → runs ≡ Some j → s.at_start j t ≤ s.progress.payload t
  pub noted : (j e t : ℕ) → runs ≡ Some j → has unmade e ≡ true → chain_of p e ≡ Some t →
      s.at_start j t < value p e

-- The host answers steps that ask and have begun, one after another, and a finished one is answered.
pub record InOrder (p : Plan) (job : ℕ → ℕ) (told : List Told) : Type 0 where
  pub falling : AreFalling told
  pub asks : (j : ℕ) → is_some (answer_told told j) ≡ true → is_silent (question p j) ≡ false
  pub begun : (j : ℕ) → is_some (answer_told told j) ≡ true → 2 < job j
  pub finished : (j : ℕ) → 3 < job j → is_silent (question p j) ≡ false →
      is_some (answer_told told j) ≡ true

-- A run of the machine leads to this progress, and its answers are those that the host told.
pub record IsReached (p : Plan) (s : Progress) (job : ℕ → ℕ) (views : List View) : Type 0 where
  pub steps : List Step
  pub run : Run p steps
  pub leads : (state_after p steps).progress ≡ s
  pub answers : Each (λ i v. i ≡ 0 → (j : ℕ) →
      (state_after p steps).answer j ≡ answer_told v.told j) views
  pub since : Each (λ i v. SinceStart p (state_after p steps) v.runs v.unmade) views
  pub told : Each (λ i v. i ≡ 0 → InOrder p job v.told) views
