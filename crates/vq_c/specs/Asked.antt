-- What is asked of the object that a handle holds, if it holds one. This project's own.
use Rattle.std.specs.Prelude.{ℕ, ◌≡◌, Option, Some, None}
use Rattle.vq_face.specs.declared.reply.Reply.{Reply}
use Rattle.vq_face.specs.declared.reply.Reply.TheVariants.{NoHandle}
use Rattle.vq_face.specs.declared.rows.OpRow.{OpRow}
use Rattle.vq_face.specs.Kinds.{reply_code}
use Rattle.vq_face.specs.Rows.{HasOp}
use Rattle.vq_model.specs.Plan.{line_of_job}
use Rattle.vq_c.specs.declared.object.Object.{Object}
use Rattle.vq_c.specs.Looks.{HasLooked}
use Rattle.vq_c.specs.Objects.{plan_of}
use Rattle.vq_c.specs.Opened.{count_of}

-- No object is held, nothing is done, and there is no answer; or the object, what becomes of it and the answer are so.
abbrev pub HasAsked : {A : Type 0} → (Object → Object → A → Type 0) → Option Object → Option Object → Option A → Type 0
HasAsked IsSo None after None = after ≡ None
HasAsked IsSo None after (Some answer) = ⊥
HasAsked IsSo (Some o) after None = ⊥
HasAsked IsSo (Some o) after (Some answer) = (p : Object) × (after ≡ Some p) × IsSo o p answer

-- No object is held, nothing is done, what can be told stays, and the code says so; or the object and what becomes of it
-- are so.
abbrev pub HasAnswered : (Object → Object → Type 0) → Type 0 → Option Object → Option Object → ℕ → Type 0
HasAnswered IsSo Stays None after code = (after ≡ None) × (code ≡ reply_code NoHandle) × Stays
HasAnswered IsSo Stays (Some o) after code = (p : Object) × (after ≡ Some p) × IsSo o p

-- how many numbers the actors have; none where no object is held
abbrev pub count_in : Option Object → ℕ
count_in None = 0
count_in (Some o) = count_of (plan_of o)

-- the line of a job; 0 where there is none, or no object is held
abbrev pub line_in : Option Object → ℕ → ℕ
line_in None job = 0
line_in (Some o) job = line_of_job (plan_of o) job

-- A signal operation of the plan was told, if it is there.
abbrev pub HasToldOp : Object → ℕ → Object → OpRow → OpRow → ℕ → Type 0
HasToldOp o e p old new code = (p ≡ o) × HasOp (plan_of o).ops e old new code

-- A look for the end of the run was answered.
abbrev pub HasReplied : Object → Object → ℕ → Type 0
HasReplied o p code = (r : Reply) × HasLooked o p r × (code ≡ reply_code r)
