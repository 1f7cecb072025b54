-- What an input comes to before its task is done. This project's own.
use Rattle.std.specs.Prelude.{ℕ, ◌≡◌, ◌<◌, ◌≤◌, ◌^◌, All, List, length, Option, Ok}
use Rattle.vq_model.specs.declared.script.Script.{Script}
use Rattle.vq_model.specs.declared.script.Turn.{Turn}
use Rattle.vq_model.specs.Plan.{Plan}
use Rattle.vq_model.specs.Lowering.{plan_of}
use Rattle.vq_model.specs.LoweredPlans.{Lowers}
use Rattle.vq_model.specs.Checks.{IsLawful}
use Rattle.vq_model.specs.SameScript.{IsRead}
use Rattle.vq_model.specs.ValidScripts.{IsActor}
use Rattle.vq_messages.specs.Refused.{input_limit}
use Rattle.vq_run.specs.Tasks.{planned, turns_for}
use Rattle.vq_words.specs.declared.task.Task.{Task}
use Rattle.vq_run.specs.declared.reading.Reading.{Reading}
use Rattle.vq_run.specs.declared.reading.Reading.TheVariants.{Lawful, Refused as RefusedReading}
use Rattle.vq_run.specs.declared.reading.Scripted.{Scripted}
use Rattle.vq_run.specs.declared.reading.Scripted.TheVariants.{Read, Refused as RefusedScript}
use Rattle.vq_run.specs.declared.status.Status.TheVariants.{Refused}
use Rattle.vq_run.specs.Inputs.{IsScriptText, ReadsAs}
use Rattle.vq_run.specs.Traced.{HasReadableTrace}
use Rattle.vq_run.specs.Outcomes.{HasLawfulPlan, IsOutcome}

-- turns that can be played over a plan of a script: they are few, and each actor is one of the script
pub record ArePlayable (s : Script) (turns : List Turn) : Type 0 where
  pub few : length turns < 2 ^ 32
  pub actors : All (λ t. IsActor s t.actor) turns

-- A script was read from an input for a task, and its turns were moved out where the task plays them; its lines come
-- from these.
pub record IsReadFor (task : Task) (input : List ℕ) (s : Script) (turns : List Turn) (from : Option (List ℕ)) : Type 0 where
  pub text : List ℕ
  pub part : IsScriptText task input text
  pub script : Script
  pub reads : ReadsAs task text script from
  pub made : s ≡ planned task script
  pub moved : turns ≡ turns_for task script

-- A lawful plan of a script that was read from an input for a task, the turns that the task plays, and the lines from
-- which the script's come.
pub record IsLawfulPlan (task : Task) (input : List ℕ) (p : Plan) (turns : List Turn) (from : Option (List ℕ)) :
    Type 0 where
  pub short : length input ≤ input_limit
  pub read : IsReadFor task input p.script turns from
  pub lowers : Lowers p.script (Ok p)
  pub lawful : IsLawful p

-- the script was read, if it is here
abbrev pub HoldsRead : Scripted → Type 0
HoldsRead (Read script turns from) = IsRead script
HoldsRead (RefusedScript text) = Unit {0}

-- what comes of reading the script of an input: the script, or the text that refuses the input
abbrev pub IsScripted : Task → List ℕ → Scripted → Type 0
IsScripted task input (Read script turns from) = IsReadFor task input script turns from
IsScripted task input (RefusedScript text) = IsOutcome task input Refused text.items

-- what an input comes to before its task is done: such a plan, or the text that refuses the input
abbrev pub IsReading : Task → List ℕ → Reading → Type 0
IsReading task input (Lawful ordered turns from) = IsLawfulPlan task input ordered turns from
IsReading task input (RefusedReading text) = IsOutcome task input Refused text.items

-- An input is read as a lawful script in the form that a task reads, and has the trace that a task reads.
pub record IsLawfulInput (task : Task) (input : List ℕ) : Type 0 where
  pub short : length input ≤ input_limit
  pub script : Script
  pub from : Option (List ℕ)
  pub plan : HasLawfulPlan task input script from
  pub trace : HasReadableTrace task input (plan_of (planned task script))
