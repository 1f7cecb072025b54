use Rattle.std.proofs.Common.{◌≡◌, ◌++◌, map, take}
use Rattle.std.specs.Option.{option_map_or}
use Rattle.vq_model.specs.Plan.{chain_of}
use Rattle.vq_turns.specs.declared.task.Task.TheVariants.{Take}
use Rattle.vq_actor.proofs.programs.signals.push_takes.Given as goal

abbrev pub invariant-loop-op : goal.invariant-loop-op
invariant-loop-op l =
    l.tasks.items ≡ l.fn.tasks.items
    ++ map (λ e. Take e (option_map_or (λ t. t) (chain_of l.plan e) 0)) (take l.op-index l.ops)
