-- A text, its script and its plan: the premises of the laws on plans of scripts are met.
use Rattle.std.proofs.Common.{List, [], ◌∷◌, refl, inl, Ok, ◌≡◌, ℕ, zero, suc, ◌<◌, Option, Some, None, IfSome, ap, ◌∙◌, subst, arith}
use Rattle.vq_model.specs.declared.statement.Line.{Line}
use Rattle.vq_model.specs.declared.statement.Statement.TheVariants.{DeclareBuffer, DeclareQueue, BeginBatch, AddCommand, EndBatch}
use Rattle.vq_model.specs.declared.script.Mode.TheVariants.{Immediate}
use Rattle.vq_model.specs.declared.script.Command.TheVariants.{Fill}
use Rattle.vq_model.specs.declared.script.FillSize.TheVariants.{Count}
use Rattle.vq_model.specs.declared.script.Script.{Script}
use Rattle.vq_model.specs.ScriptOfLines.{script_of}
use Rattle.std.specs.Prelude.{codes}
use Rattle.vq_model.specs.declared.statement.Form.TheVariants.{Plain}
use Rattle.vq_model.specs.SameScript.{IsRead}
use Rattle.vq_model.specs.Lowering.{plan_of, batch_commands}
use Rattle.vq_model.specs.LoweredPlans.{Lowers, IsPlan}
use Rattle.std.specs.List.{slice_get}
use Rattle.std.specs.Option.{option_map_or}
use Rattle.vq_model.specs.declared.script.Job.{Job}
use Rattle.vq_model.specs.declared.script.CommandLine.{CommandLine}
use Rattle.vq_model.specs.FittingCommands.{Fits}
use Rattle.vq_model.specs.Signals.{Signaling, all_signals}
use Rattle.vq_model.specs.ValidScripts.{IsValid, KeepsLimits}

abbrev lines : List Line
lines =
    record { number = 1; statement = DeclareBuffer (88 ∷ []) 8 }
    ∷ record { number = 2; statement = DeclareQueue (81 ∷ []) Immediate }
    ∷ record { number = 3; statement = BeginBatch 0 }
    ∷ record { number = 4; statement = AddCommand (Fill 0 0 (Count 8) 16909060) }
    ∷ record { number = 5; statement = EndBatch }
    ∷ []

abbrev script : Script
script = script_of lines

is_read : IsRead script
is_read =
    record { text = codes "buffer X 8\nqueue Q immediate\nsubmit Q\nfill X 0 8 0x01020304\nend\n"; form = Plain; turns = []; stands = refl; kept_or_moved = inl refl }

lowers : Lowers script (Ok (plan_of script))
lowers = (refl, refl)

is_valid : IsValid script
is_valid = record { version = inl refl; signals = signals; commands = commands; limits = limits }
  where
    signals : (e : ℕ) (x : Signaling) → slice_get (all_signals script) e ≡ Some x → x.semaphore < 0
    signals e x h = cc

    limits : KeepsLimits (script)
    limits = record { buffers = omega arith; bytes = omega arith; semaphores = omega arith; queues = omega arith; jobs = omega arith; commands = omega arith }

    of_command : (o : Option CommandLine) (x : CommandLine) → o ≡ Some x → IfSome o (λ y. Fits (8 ∷ []) y.command) → Fits (8 ∷ []) x.command
    of_command o x h f = let P : Option CommandLine → Type 0 = λ z. IfSome z (λ y. Fits (8 ∷ []) y.command) in subst P h f

    fits : (j k : ℕ) → IfSome (option_map_or (λ job. slice_get (batch_commands job) k) (slice_get script.jobs j) None) (λ y. Fits (8 ∷ []) y.command)
    fits zero zero = record { written = record { exists = omega arith; ends = omega arith }; read = tt; aligned = refl; apart = refl }
    fits zero (suc k) = tt
    fits (suc j) k = tt

    commands : (j k : ℕ) (job : Job) (x : CommandLine) → slice_get script.jobs j ≡ Some job → slice_get (batch_commands job) k ≡ Some x → Fits (8 ∷ []) x.command
    commands j k job x hj hk =
        of_command (option_map_or (λ z. slice_get (batch_commands z) k) (slice_get script.jobs j) None) x (ap (λ o. option_map_or (λ z. slice_get (batch_commands z) k) o None) hj ∙ hk) (fits j k)

is_plan : IsPlan (plan_of script)
is_plan = record { of_script = is_read; faultless = refl; lowered = refl }
