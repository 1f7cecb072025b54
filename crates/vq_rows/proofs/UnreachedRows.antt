-- A text whose one wait is reached by no signal: its plan is one of a script that was read, and the wait is named
-- unreachable. So the premises of the law that no run reaches such a wait are met.
use Rattle.std.proofs.Common.{ℕ, List, [], ◌∷◌, false, None, refl, inl}
use Rattle.std.specs.Prelude.{codes}
use Rattle.vq_model.specs.declared.script.Script.{Script}
use Rattle.vq_model.specs.declared.script.Mode.TheVariants.{Threaded}
use Rattle.vq_model.specs.declared.script.SemaphoreKind.TheVariants.{Timeline}
use Rattle.vq_model.specs.declared.script.Job.TheVariants.{Batch}
use Rattle.vq_model.specs.declared.statement.Form.TheVariants.{Plain}
use Rattle.vq_model.specs.Plan.{Plan}
use Rattle.vq_model.specs.SameScript.{IsRead}
use Rattle.vq_model.specs.Lowering.{plan_of}
use Rattle.vq_model.specs.LoweredPlans.{IsPlan}
use Rattle.vq_model.specs.Checks.{IsUnreachableAt}
use Rattle.vq_model.specs.WellFormed.{IsWellFormed}
use Rattle.vq_plan_laws.proofs.Cited.{plan_well_formed}

-- P waits for A's value 2 before it signals it
abbrev text : List ℕ
text = codes "timeline A 0\nqueue P threaded\nsubmit P\nwait A 2\nsignal A 2\nend\n"

abbrev script : Script
script =
    record {
      version = 1;
      buffers = [];
      semaphores = record { line = 1; name = 65 ∷ []; kind = Timeline 0 } ∷ [];
      queues = record { line = 2; name = 80 ∷ []; mode = Threaded } ∷ [];
      jobs = Batch (record {
        line = 3;
        queue = 0;
        waits = record { line = 4; semaphore = 0; value = 2; from = 1 } ∷ [];
        commands = [];
        signals = record { line = 5; semaphore = 0; value = 2; from = 1 } ∷ [];
        fence = None;
      })
          ∷ [];
      scheduled = false;
      turns = [];
    }

abbrev plan : Plan
plan = plan_of script

is_read : IsRead script
is_read = record { text = text; form = Plain; turns = []; stands = refl; kept_or_moved = inl refl }

is_plan : IsPlan plan
is_plan = record { of_script = is_read; faultless = refl; lowered = refl }

well_formed : IsWellFormed plan
well_formed = plan_well_formed plan is_plan

unreachable : IsUnreachableAt plan 4
unreachable =
    record {
      job = 0;
      left = refl;
      need = record { line = 4; chain = 0; value = 2; from = 1 };
      place = 0;
      of_job = refl;
      unreached = refl;
      named = refl;
    }
