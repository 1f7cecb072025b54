use Rattle.std.proofs.Common.{◌≡◌, ◌≤◌, ◌∙◌, ℕ, All, take, length, nat_cmp, ap, subst, arith}
use Rattle.std.specs.Ordering.{ord_max}
use Rattle.std.proofs.Math.Seq.{take-length}
use Rattle.std.proofs.lemmas.List.Elements.{All-more, All-weaker}
use Rattle.vq_actor.specs.Positions.{HasRoom}
use Rattle.vq_actor.proofs.Fitting.{more_room}
use Rattle.vq_actor.proofs.tracker.most_needs.Goals as goal

pub loop-task-preserved : goal.loop-task-preserved
loop-task-preserved c =
    let tasks = c.args.tasks.now in
    let i = c.loop-task.task-index in
    let t = c.task-item.result in
    let room = c.max-most.result in
    let most : room ≡ ord_max nat_cmp c.loop-task.most c.needs_of.result = c.max-most.ensures in
    let first : c.loop-task.most ≤ room = grind (arith, most) in
    let second : c.needs_of.result ≤ room = grind (arith, most) in
    All-more (HasRoom room) tasks i t c.loop-task-test.true
    (All-weaker (HasRoom c.loop-task.most) (HasRoom room) (λ u. more_room u c.loop-task.most room first)
    (take i tasks) c.loop-task.invariant)
    (subst (HasRoom room) c.task-item.is (subst (λ (n : ℕ). n ≤ room) c.needs_of.ensures second))

pub returns : goal.returns
returns c =
    let tasks = c.args.tasks.now in
    let at_end : c.loop-task.task-index ≡ length tasks =
    omega (arith, c.loop-task.auto.task-index-end, c.loop-task-test.false) in
    subst (All (HasRoom c.loop-task.most)) (ap (λ (i : ℕ). take i tasks) at_end
    ∙ take-length tasks) c.loop-task.invariant
