-- In the plan of a script that was read the lines of commands and of operations rise with their numbers.
use Rattle.std.proofs.Common.{ℕ, List, [], ◌∷◌, ◌++◌, map, sym, ◌∙◌, subst, ◌+◌, ◌≡◌, Option, Some, None, option_map, refl, ap, arith}
use Rattle.std.specs.Option.{option_to_list, option_map_or}
use Rattle.std.proofs.lemmas.List.{map-append}
use Rattle.vq_model.specs.declared.script.Job.{Job}
use Rattle.vq_model.specs.declared.script.Job.TheVariants.{Host, Batch}
use Rattle.vq_model.specs.Lowering.{batch_commands, plan_of}
use Rattle.vq_model.specs.ValidScripts.{job_lines, HasRisingLines}
use Rattle.vq_ground.proofs.Rising.{IsPart, part_none, part_same, part_left, part_right, part_join, map-map, rises_at}
use Rattle.vq_model.specs.declared.script.HostStep.{HostStep}
use Rattle.vq_model.specs.declared.script.HostStep.TheVariants.{Signal}
use Rattle.vq_model.specs.Signals.{job_signals, of_mark, step_signals, Signaling, all_signals, op_at}
use Rattle.std.specs.List.{flat_map, enumerate_from, slice_get}
use Rattle.vq_model.specs.declared.script.Script.{Script}
use Rattle.vq_model.specs.Plan.{line_of_op}
use Rattle.vq_plan_laws.proofs.PlanParts.{op_is}
use Rattle.vq_model.specs.Lanes.{HasLinesInOrder}
use Rattle.vq_plan_laws.proofs.PlanLanes.{count_ops}

-- Lines of jobs

command_lines : (job : Job) → IsPart (map (λ c. c.line) (batch_commands job)) (job_lines job)
command_lines (Host h) = part_none (h.line ∷ [])
command_lines (Batch b) =
    part_right commands (b.line ∷ []) (waits ++ commands ++ signals ++ fence)
    (part_left commands (waits ++ commands ++ signals) fence (part_left commands (waits ++ commands) signals (part_right commands waits commands (part_same commands))))
  where
    waits : List ℕ
    waits = map (λ m. m.line) b.waits

    commands : List ℕ
    commands = map (λ c. c.line) b.commands

    signals : List ℕ
    signals = map (λ m. m.line) b.signals

    fence : List ℕ
    fence = map (λ m. m.line) (option_to_list b.fence)

signal_lines : (a : ℕ) (job : Job) → IsPart (map (λ x. x.line) (job_signals (a, job))) (job_lines job)
signal_lines a (Host h) = by_step h.step
  where
    by_step : (t : HostStep) → IsPart (map (λ x. x.line) (step_signals a h.line t)) (h.line ∷ [])
    by_step (Signal pair) = part_same (h.line ∷ [])
    by_step other = part_none (h.line ∷ [])
signal_lines a (Batch b) =
    subst (λ (zs : List ℕ). IsPart zs (job_lines (Batch b))) (sym (map-map (λ x. x.line) (of_mark a) (b.signals ++ option_to_list b.fence) ∙ map-append (λ m. m.line) b.signals (option_to_list b.fence)))
    (part_right (signals ++ fence) (b.line ∷ []) (waits ++ commands ++ signals ++ fence)
    (part_join signals fence (waits ++ commands ++ signals) fence (part_right signals (waits ++ commands) signals (part_same signals)) (part_same fence)))
  where
    waits : List ℕ
    waits = map (λ m. m.line) b.waits

    commands : List ℕ
    commands = map (λ c. c.line) b.commands

    signals : List ℕ
    signals = map (λ m. m.line) b.signals

    fence : List ℕ
    fence = map (λ m. m.line) (option_to_list b.fence)

commands_part : (jobs : List Job) → IsPart (map (λ c. c.line) (flat_map batch_commands jobs)) (flat_map job_lines jobs)
commands_part [] = part_same []
commands_part (job ∷ jobs) =
    subst (λ (zs : List ℕ). IsPart zs (job_lines job ++ flat_map job_lines jobs)) (sym (map-append (λ c. c.line) (batch_commands job) (flat_map batch_commands jobs)))
    (part_join (map (λ c. c.line) (batch_commands job)) (map (λ c. c.line) (flat_map batch_commands jobs)) (job_lines job) (flat_map job_lines jobs) (command_lines job) (commands_part jobs))

signals_part : (a : ℕ) (jobs : List Job) → IsPart (map (λ x. x.line) (flat_map job_signals (enumerate_from a jobs))) (flat_map job_lines jobs)
signals_part a [] = part_same []
signals_part a (job ∷ jobs) =
    subst (λ (zs : List ℕ). IsPart zs (job_lines job ++ flat_map job_lines jobs)) (sym (map-append (λ x. x.line) (job_signals (a, job)) (flat_map job_signals (enumerate_from (a + 1) jobs))))
    (part_join (map (λ x. x.line) (job_signals (a, job))) (map (λ x. x.line) (flat_map job_signals (enumerate_from (a + 1) jobs))) (job_lines job) (flat_map job_lines jobs) (signal_lines a job) (signals_part (a + 1) jobs))

pub op_line_is : (s : Script) (e : ℕ) → line_of_op (plan_of s) e ≡ option_map_or (λ x. x.line) (slice_get (all_signals s) e) 0
op_line_is s e = ap (λ o. option_map_or (λ x. x.line) o 0) (op_is s e) ∙ by_op (slice_get (all_signals s) e)
  where
    by_op : (o : Option Signaling) → option_map_or (λ x. x.line) (option_map (λ x. op_at s (e, x)) o) 0 ≡ option_map_or (λ x. x.line) o 0
    by_op None = refl
    by_op (Some x) = refl

pub lines_in_order : (s : Script) → HasRisingLines s → HasLinesInOrder (plan_of s)
lines_in_order s r =
    record {
      commands = λ c d l h. rises_at (λ x. x.line) (flat_map batch_commands s.jobs) c d ((commands_part s.jobs).rise r) l h;
      ops = λ e f l h. (
          let a = rises_at (λ x. x.line) (all_signals s) e f ((signals_part 0 s.jobs).rise r) l (let n = count_ops s in omega arith) in
          let b = op_line_is s e in
          let c = op_line_is s f in
          omega arith
          );
    }
