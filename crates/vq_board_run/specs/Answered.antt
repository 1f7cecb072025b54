-- The answers that a run keeps, and what its host's pass knows. This project's own.
use Rattle.std.specs.Prelude.{ℕ, ◌≡◌, ◌<◌, ◌≤◌, List, [], ◌∷◌, Option, Some, None, length}
use Rattle.vq_model.specs.declared.plan.Answer.{Answer}
use Rattle.vq_model.specs.declared.plan.AnswerLine.{AnswerLine}
use Rattle.vq_model.specs.declared.plan.Event.TheVariants.{Answer as AnswersAs}
use Rattle.vq_model.specs.declared.script.ActorName.TheVariants.{Host as HostActor}
use Rattle.vq_model.specs.Outputs.{asking}
use Rattle.vq_model.specs.OutputText.{answer_at}
use Rattle.vq_model.specs.Plan.{Plan}
use Rattle.vq_turns.specs.declared.outcome.Outcome.{Outcome}
use Rattle.vq_turns.specs.declared.outcome.Outcome.TheVariants.{Moved}
use Rattle.vq_board_laws.specs.declared.view.Fact.TheVariants.{Job}
use Rattle.vq_board_laws.specs.declared.view.JobState.{JobState}
use Rattle.vq_board_laws.specs.declared.view.JobState.TheVariants.{Finished}
use Rattle.vq_board_laws.specs.Ends.{KnowsAllFinished}
use Rattle.vq_board_laws.specs.Knowledge.{Knows}
use Rattle.vq_board_laws.specs.Reached.{lines_told}
use Rattle.vq_board_laws.specs.Steps.{looks}
use Rattle.vq_board.specs.declared.parts.Board.{Board}
use Rattle.vq_board.specs.declared.parts.Pass.{Pass}
use Rattle.vq_board.specs.Named.{plan_of, view, IsOf, Turns}
use Rattle.vq_board_run.specs.Rooming.{Room, IsRoomOf}

-- the answer that a turn gave, if any, with its job
abbrev pub answer_by : Outcome → Option (ℕ × Answer)
answer_by (Moved (AnswersAs j a)) = Some (j, a)
answer_by other = None

-- the lines that a turn adds: that of the answer that it gave, if any
abbrev pub lines_of : Plan → Option (ℕ × Answer) → List AnswerLine
lines_of p None = []
lines_of p (Some x) = answer_at p x.0 x.1 ∷ []

-- the lines are those of the answers that the pass told, in the order in which they were given
abbrev pub AreToldBy : Board → Pass → List AnswerLine → Type 0
AreToldBy b x lines = lines ≡ lines_told (plan_of b) (view x).told

-- the host's room, and the answers so far: at most one to each step that asks something
pub record IsLead (b : Board) (r : Room) (kept : List AnswerLine) : Type 0 where
  pub board : IsRoomOf b r
  pub host : r.owner ≡ HostActor
  pub lines : AreToldBy b r.pass kept
  pub few : length kept ≤ length (asking (plan_of b))

-- the host's pass knows the first n jobs finished
pub record HasSeen (b : Board) (x : Pass) (n : ℕ) : Type 0 where
  pub board : IsOf b x
  pub role : (view x).role ≡ 0
  pub finished : (j : ℕ) → j < n → Knows (view x).known (Job j Finished)

-- the pass looked at a job, and found it in another state than finished
abbrev pub FindsUnfinished : Pass → Pass → ℕ → Type 0
FindsUnfinished x y j = (s : JobState) × (s ≡ Finished → ⊥) × Turns x y (looks (view x) j s)

-- it knows all jobs finished, and these are the answers that it told
pub record IsDone (b : Board) (x : Pass) (kept : List AnswerLine) : Type 0 where
  pub board : IsOf b x
  pub role : (view x).role ≡ 0
  pub all : KnowsAllFinished (plan_of b) (view x)
  pub lines : AreToldBy b x kept
  pub few : length kept ≤ length (asking (plan_of b))
