use Rattle.std.proofs.Common.{◌++◌, ◌∷◌, [], List, map, take, sym, ap, ◌∙◌}
use Rattle.vq_ground.proofs.Gets.{take_push}
use Rattle.vq_model.specs.declared.script.CommandLine.{CommandLine}
use Rattle.vq_board.specs.Copied.{command_of}
use Rattle.vq_board.proofs.Copied.{map_push}
use Rattle.vq_board.proofs.copies.commands_of.Goals as goal

pub loop-c-preserved : goal.loop-c-preserved
loop-c-preserved c =
    let all : List CommandLine = c.args.plan.now.commands in
    let line : CommandLine = c.command.result.now in
    let before : List CommandLine = take c.loop-c.c all in
    c.in_ok-push.ensures.items
    ∙ ((λ i. c.loop-c.invariant i ++ c.in_ok-copied.ensures i ∷ [])
    ∙ sym (ap (map command_of) (take_push all c.loop-c.c line c.command.ensures) ∙ map_push command_of before line))
