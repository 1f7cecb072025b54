-- A script with queues behind its own and jobs before its own, in the second version of the format.
-- The format is this project's own.
use Rattle.std.specs.Prelude.{◌≡◌, ◌+◌, ◌≤◌, true, List, ◌++◌, length, map}
use Rattle.std.specs.List.{AllByRecursion as Every}
use Rattle.vq_model.specs.declared.script.Job.{Job}
use Rattle.vq_model.specs.declared.script.Queue.{Queue}
use Rattle.vq_model.specs.declared.script.Script.{Script}
use Rattle.vq_model.specs.Limits.{limits_of}
use Rattle.vq_model.specs.Lowering.{commands_in}
use Rattle.vq_model.specs.SameScript.{without_lines}
use Rattle.vq_canonical_laws.specs.FormatRules.{are_new, names_of, JobFits}

-- the script with more queues and jobs, in the second version
abbrev pub with_more : Script → List Queue → List Job → Script
with_more s qs jobs = record s { version = 2; queues = s.queues ++ qs; jobs = jobs ++ s.jobs }

-- They may be added: the queues have new names, the jobs fit and have no commands, and the limits are kept.
pub record MayBeAdded (s : Script) (qs : List Queue) (jobs : List Job) : Type 0 where
  pub names : are_new (names_of s) (map (λ q. q.name) qs) ≡ true
  pub fit : Every (JobFits (without_lines (with_more s qs jobs))) jobs
  pub bare : Every (λ job. commands_in job ≡ 0) jobs
  pub few_queues : length s.queues + length qs ≤ (limits_of 2).queues
  pub few_jobs : length jobs + length s.jobs ≤ (limits_of 2).jobs
