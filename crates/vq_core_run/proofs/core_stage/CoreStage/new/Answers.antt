use Rattle.std.proofs.Common.{length, sym, subst, List}
use Rattle.vq_actor.specs.Actors.{Acting}
use Rattle.vq_actor.specs.Trackers.{FitsIn}
use Rattle.vq_core.specs.CoreState.{Course}
use Rattle.vq_core_run.specs.Casts.{AreFirst, AreSeated}
use Rattle.vq_core_run.proofs.Openings.{first_are, opens}
use Rattle.vq_core_run.proofs.core_stage.CoreStage.new.Goals as goal

pub invariant_of-result : goal.invariant_of-result
invariant_of-result c =
    let h = c.in_ok-host.host in
    let s = c.in_ok-submits.submits.items in
    let r = c.in_ok-rings.rings.items in
    let first = c.in_ok-host.ensures {u = tt} in
    subst (λ (d : Course). AreSeated d h s r) (sym (c.in_ok-core.ensures {u = tt}))
    (opens c.args.ordered c.args.company.now c.requires h s r first.place
    (subst (λ (a : Acting). FitsIn a.tasks h) c.host.ensures first.fits)
    (subst (λ (xs : List Acting). AreFirst xs (length xs) s) c.submits.ensures (c.in_ok-submits.ensures {u = tt}))
    (subst (λ (xs : List Acting). AreFirst xs (length xs) r) c.rings.ensures (c.in_ok-rings.ensures {u = tt})))

pub returns-clause-first : goal.returns-clause-first
returns-clause-first c =
    let h = c.in_ok-host.host in
    let s = c.in_ok-submits.submits.items in
    let r = c.in_ok-rings.rings.items in
    let first = c.in_ok-host.ensures {u = tt} in
    first_are c.args.ordered c.args.company.now c.requires h s r first.place
    (subst (λ (a : Acting). FitsIn a.tasks h) c.host.ensures first.fits)
    (subst (λ (xs : List Acting). AreFirst xs (length xs) s) c.submits.ensures (c.in_ok-submits.ensures {u = tt}))
    (subst (λ (xs : List Acting). AreFirst xs (length xs) r) c.rings.ensures (c.in_ok-rings.ensures {u = tt}))
