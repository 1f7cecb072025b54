use Rattle.std.proofs.Common.{◌≡◌, ◌+◌, drop}
use Rattle.std.specs.List.{prefix_len}
use Rattle.vq_model.specs.Naming.{same_actor}
use Rattle.vq_text.proofs.schedule.neighbours.Given as goal

abbrev pub invariant-loop-place : goal.invariant-loop-place
invariant-loop-place l =
    l.place + prefix_len (λ t. same_actor l.actor t.actor) (drop l.place l.turns)
    ≡ prefix_len (λ t. same_actor l.actor t.actor) l.turns
