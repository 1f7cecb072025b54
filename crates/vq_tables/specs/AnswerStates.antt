-- What may be answered of a job by what was reached at its start, and what the world says of it. This
-- project's own.
use Rattle.std.specs.Prelude.{ℕ, Bool, List, length, ◌≡◌, true, false, Option, is_some}
use Rattle.std.specs.List.{slice_index_or, list_all, list_any}
use Rattle.vq_model.specs.declared.plan.Answer.{Answer}
use Rattle.vq_model.specs.declared.plan.Need.{Need}
use Rattle.vq_model.specs.declared.plan.Question.{Question}
use Rattle.vq_model.specs.declared.plan.Question.TheVariants.{PollAny, Value}
use Rattle.vq_model.specs.Machine.{is_reached}
use Rattle.vq_model.specs.Plan.{Plan, question, asked}
use Rattle.vq_tables.specs.declared.answer_state.AnswerState.{AnswerState}

-- a job that isn't started
abbrev pub not_asked : AnswerState
not_asked = record { answered = false; reached = false; payload = 0 }

-- whether what is asked for is reached: one pair where a poll asks for any, and else all of them
abbrev pub is_asked_reached : Question → (ℕ → ℕ) → List Need → Bool
is_asked_reached PollAny payload pairs = list_any (is_reached payload) pairs
is_asked_reached other payload pairs = list_all (is_reached payload) pairs

-- the payload that is read; 0 where none is
abbrev pub payload_read : Question → (ℕ → ℕ) → ℕ
payload_read (Value t) payload = payload t
payload_read other payload = 0

-- Whether a job is answered; and of a started one, whether what it asks for was reached at its start, and
-- the payload that it read there.
pub record IsAnswerState (p : Plan) (started : ℕ → Bool) (answer : ℕ → Option Answer) (at_start : ℕ → ℕ → ℕ) (j : ℕ)
    (s : AnswerState) : Type 0 where
  pub is_answered : s.answered ≡ is_some (answer j)
  pub was_reached : started j ≡ true → s.reached ≡ is_asked_reached (question p j) (at_start j) (asked p j)
  pub was_payload : started j ≡ true → s.payload ≡ payload_read (question p j) (at_start j)

pub record AreAnswerStates (p : Plan) (started : ℕ → Bool) (answer : ℕ → Option Answer) (at_start : ℕ → ℕ → ℕ)
    (xs : List AnswerState) : Type 0 where
  pub count : length xs ≡ length p.jobs
  pub each : (j : ℕ) → IsAnswerState p started answer at_start j (slice_index_or xs j not_asked)
