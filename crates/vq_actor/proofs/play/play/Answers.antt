use Rattle.std.proofs.Common.{◌≡◌, ◌∙◌, Some, refl, sym, ap, subst, inl, inr}
use Rattle.vq_ground.proofs.Gets.{at_index}
use Rattle.vq_turns.specs.Programs.{program}
use Rattle.vq_turns.specs.Turns.{Place}
use Rattle.vq_actor.proofs.LastTasks.{none_went_on}
use Rattle.vq_actor.proofs.TurnSteps.{begins, goes_on, ends, is_over}
use Rattle.vq_actor.proofs.play.play.Goals as goal

pub loop-k-init : goal.loop-k-init
loop-k-init g c =
    let a = g.A.Access.meaning c.args.access.now in
    record {
      going = begins a c.args.tasks.now c.done-first.result
          (subst (λ b. c.args.tasks.now ≡ program a.plan b) c.requires.actor c.requires.program)
          (sym (c.done-first.ensures ∙ ap (λ (x : Place). x.done) c.place.ensures));
      still = inl refl;
    }

pub loop-k-preserved : goal.loop-k-preserved
loop-k-preserved g c =
    let a = g.A.Access.meaning c.args.access.now in
    let m = g.A.Access.meaning c.loop-k.access in
    let n = g.A.Access.meaning c.do_task.new.access in
    let tasks = c.args.tasks.now in
    let k = c.loop-k.k in
    let t = c.index-tasks-k.result in
    let at = at_index tasks k t c.loop-k-test.true c.index-tasks-k.is in
    record {
      going = goes_on a m tasks k t c.loop-k.invariant.going at n (g.A.Access.shows c.do_task.new.access)
          c.in-GoesOn.ensures;
      still = inr (record { before = k; task = t; behind = refl; at = at; quiet = c.in-GoesOn.ensures.quiet });
    }

pub returns-in-Ends-clause-turn : goal.returns-in-Ends-clause-turn
returns-in-Ends-clause-turn g c =
    let a = g.A.Access.meaning c.args.access.now in
    let m = g.A.Access.meaning c.loop-k.access in
    let n = g.A.Access.meaning c.do_task.new.access in
    let tasks = c.args.tasks.now in
    let k = c.loop-k.k in
    let t = c.index-tasks-k.result in
    let at = at_index tasks k t c.loop-k-test.true c.index-tasks-k.is in
    ends a m tasks k t c.loop-k.invariant.going at n (g.A.Access.shows c.do_task.new.access) c.in-Ends.outcome
    c.in-Ends.ensures

pub returns-in-Ends-clause-untouched : goal.returns-in-Ends-clause-untouched
returns-in-Ends-clause-untouched g c e = absurd (c.in-Ends.ensures.unended (ap Some e))

pub returns-clause-turn : goal.returns-clause-turn
returns-clause-turn g c =
    let a = g.A.Access.meaning c.args.access.now in
    let m = g.A.Access.meaning c.loop-k.access in
    let tasks = c.args.tasks.now in
    is_over a m tasks (g.A.Access.shows c.loop-k.access) c.loop-k.k c.loop-k-test.false
    (subst (λ b. tasks ≡ program a.plan b) c.requires.actor c.requires.program) c.loop-k.invariant.going

pub returns-clause-untouched : goal.returns-clause-untouched
returns-clause-untouched g c e =
    let a = g.A.Access.meaning c.args.access.now in
    elim c.loop-k.invariant.still [
      | inl same ↦ same
      | inr went ↦ absurd (none_went_on a.plan c.args.actor c.args.tasks.now c.loop-k.k c.requires.program
          c.loop-k-test.false went)
    ]
