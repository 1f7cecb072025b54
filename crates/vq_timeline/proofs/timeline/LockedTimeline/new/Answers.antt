use Rattle.std.proofs.Common.{map, sym, subst, refl, ap, ◌∙◌}
use Rattle.vq_model.specs.Plan.{Plan, chain, initial, value}
use Rattle.vq_point_laws.specs.Timeline.{new_timeline}
use Rattle.vq_board.specs.declared.parts.Board.{Board}
use Rattle.vq_payload.specs.Chains.{PlanChain}
use Rattle.vq_timeline_laws.specs.ChainOps.{of_host}
use Rattle.vq_timeline.specs.declared.parts.Shelf.{Shelf}
use Rattle.vq_timeline.specs.Named.{IsShelfOf}
use Rattle.vq_timeline.proofs.Opened.{IsNewShelf, new_shelf}
use Rattle.vq_timeline.proofs.timeline.LockedTimeline.new.Goals as goal

pub new-requires-3 : goal.new-requires-3
new-requires-3 c =
    let p = c.args.ordered.now in
    let t = c.args.chain in
    let x : Shelf = record {
      core = c.in_ok-core.core;
      pass = c.args.shelf;
      chain = c.args.chain;
      ops = c.in_ok-ops.ops;
      of_hosts = c.in_ok-of_hosts.of_hosts;
    } in
    let outside = c.in_ok-outside.ensures in
    let first = c.initial.ensures ∙ ap (λ (z : PlanChain). initial z.plan z.number) outside in
    let values = c.values.ensures.values ∙ ap (λ (z : PlanChain). map (value z.plan) (chain z.plan z.number)) outside in
    let new : IsNewShelf p x = record {
      plan = c.plan-plan.ensures.read;
      lawful = c.plan-plan.ensures.lawful;
      exists = c.requires.exists;
      lists = c.in_ok-core.ensures.made ∙ (λ i. new_timeline (first i) (values i));
      kept = c.in_ok-core.ensures.kept;
      operations = c.in_ok-ops.ensures.items
          ∙ (c.chain.ensures ∙ ap (λ (z : Plan). chain z t) c.plan-plan.ensures.value);
      hosts = c.in_ok-of_hosts.ensures ∙ ap (λ (z : Plan). map (of_host z) (chain z t)) c.plan-plan.ensures.value;
    } in (
      refl,
      subst (λ (z : Board). IsShelfOf z x) (sym c.of.ensures)
          (new_shelf c.args.board.now x p c.requires.fresh c.requires.role c.requires.plan new),
    )
