use Rattle.std.proofs.Common.{◌≡◌, ℕ, ◌<◌, length, Some}
use Rattle.std.specs.List.{slice_get}
use Rattle.vq_board_stage.proofs.alone.all_exist.Given as goal

abbrev pub invariant-loop-command : goal.invariant-loop-command
invariant-loop-command l =
    (i c : ℕ) → i < l.command-index → slice_get l.commands i ≡ Some c → c < length l.plan.commands
