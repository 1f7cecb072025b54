-- A script of another version, and what its plan is. This project's own.
use Rattle.std.specs.Prelude.{ℕ}
use Rattle.vq_model.specs.declared.script.Script.{Script}
use Rattle.vq_model.specs.Plan.{Plan}

-- the script, of this version
abbrev pub of_version : ℕ → Script → Script
of_version version s = record s { version = version }

-- the plan, of the script of this version
abbrev pub plan_of_version : ℕ → Plan → Plan
plan_of_version version p = record p { script = of_version version p.script }
