use Rattle.std.proofs.Common.{◌≡◌, ◌++◌, take}
use Rattle.std.specs.List.{flat_map}
use Rattle.vq_model.specs.Canonical.{command_words, line_text}
use Rattle.vq_text.proofs.commands.push_commands.Given as goal

abbrev pub invariant-loop-line : goal.invariant-loop-line
invariant-loop-line l = l.out.items ≡ l.fn.out.items
    ++ flat_map (λ c. line_text (command_words l.script c.command)) (take l.line-index l.commands)
