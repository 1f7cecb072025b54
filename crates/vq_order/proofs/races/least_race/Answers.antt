use Rattle.std.proofs.Common.{◌≡◌, ◌<◌, ◌≤◌, ◌+◌, ℕ, Some, None, length, refl, ap, sym, ◌∙◌, subst, arith}
use Rattle.std.specs.Option.{option_map_or}
use Rattle.vq_model.specs.Checks.{IsLeastPair, IsRaceAt}
use Rattle.vq_model.specs.Plan.{Plan, line_of_command}
use Rattle.vq_order.specs.Accessed.{access_in, IsQuiet}
use Rattle.vq_order.proofs.AccessLaws.{races_at, none_races_next, quiet_races_none, stays_quiet, turns_quiet}
use Rattle.vq_order.proofs.RacingPairs.{first_is_least, no_pair_races}
use Rattle.vq_order.proofs.races.least_race.Goals as goal

pub first_racing-requires-clause-exists : goal.first_racing-requires-clause-exists
first_racing-requires-clause-exists c =
    let n = ap (λ (q : Plan). length q.commands) c.plan-plan.ensures.value in
    let k = c.commands-d-end.ensures in
    let t = c.loop-d-test.true in
    let a = c.requires.all in
    omega arith

pub returns-in-Some : goal.returns-in-Some
returns-in-Some c =
    let p = c.args.order.now in
    let f = c.in-Some.ensures in
    let n = ap (λ (q : Plan). length q.commands) c.plan-plan.ensures.value in
    let k = c.commands-d-end.ensures in
    let t = c.loop-d-test.true in
    let all = c.requires.all in
    let l = f.0 in
    let d : c.loop-d.d < length c.args.accesses.now = omega arith in
    let plan = c.plan-plan.ensures.complete.plan in
    let xs = c.args.accesses.now in
    let a : line_of_command p c.in-Some.c ≡ c.command.result.now.line = ap (λ (q : Plan). line_of_command q c.in-Some.c) (sym c.plan-plan.ensures.value) ∙ ap (λ o. option_map_or (λ x. x.line) o 0) c.command.ensures in
    let b : line_of_command p c.loop-d.d ≡ c.command-in-Some.result.now.line = ap (λ (q : Plan). line_of_command q c.loop-d.d) (sym c.plan-plan.ensures.value) ∙ ap (λ o. option_map_or (λ x. x.line) o 0) c.command-in-Some.ensures in
    subst (λ (z : ℕ × ℕ). IsLeastPair (IsRaceAt p) z.0 z.1) (λ i. (a i, b i))
    (first_is_least p plan c.in-Some.c c.loop-d.d l ((races_at p plan xs c.requires.accesses c.in-Some.c c.loop-d.d (omega arith) d).0 f.1) (λ x m r. f.2 x m ((races_at p plan xs c.requires.accesses x c.loop-d.d (omega arith) d).1 r)) c.loop-d.invariant.0)

pub loop-d-preserved-then-is_remembered : goal.loop-d-preserved-then-is_remembered
loop-d-preserved-then-is_remembered c =
    let p = c.args.order.now in
    let xs = c.args.accesses.now in
    let plan = c.plan-plan.ensures.complete.plan in
    let n = ap (λ (q : Plan). length q.commands) c.plan-plan.ensures.value in
    let k = c.commands-d-end.ensures in
    let t = c.loop-d-test.true in
    let all = c.requires.all in
    let d : c.loop-d.d < length xs = omega arith in
    let e = c.is_remembered.ensures c.if-is_remembered.true in
    let f = c.loop-d.invariant.1 (access_in xs c.loop-d.d).by.job e in
    let low : c.loop-d.d ≤ c.loop-d.d = omega arith in (
      none_races_next p c.loop-d.d c.loop-d.invariant.0 (quiet_races_none p plan xs c.requires.accesses c.loop-d.d d (f c.loop-d.d low d refl)),
      (λ q h. let same : (access_in xs c.loop-d.d).by.job ≡ q = let s = sym e ∙ h in cc in stays_quiet p xs c.loop-d.d q same (c.loop-d.invariant.1 q h)),
    )

pub loop-d-preserved-then-are_all_in_order : goal.loop-d-preserved-then-are_all_in_order
loop-d-preserved-then-are_all_in_order c =
    let p = c.args.order.now in
    let xs = c.args.accesses.now in
    let plan = c.plan-plan.ensures.complete.plan in
    let n = ap (λ (q : Plan). length q.commands) c.plan-plan.ensures.value in
    let k = c.commands-d-end.ensures in
    let t = c.loop-d-test.true in
    let all = c.requires.all in
    let d : c.loop-d.d < length xs = omega arith in
    let f = c.are_all_in_order.ensures c.if-are_all_in_order.true in (
      none_races_next p c.loop-d.d c.loop-d.invariant.0 (quiet_races_none p plan xs c.requires.accesses c.loop-d.d d f),
      (λ q h. let same : (access_in xs c.loop-d.d).by.job ≡ q = cc in subst (IsQuiet p xs (c.loop-d.d + 1)) same (turns_quiet p plan xs c.requires.accesses c.loop-d.d d f)),
    )

pub loop-d-preserved : goal.loop-d-preserved
loop-d-preserved c =
    let p = c.args.order.now in
    let xs = c.args.accesses.now in
    let plan = c.plan-plan.ensures.complete.plan in
    let n = ap (λ (q : Plan). length q.commands) c.plan-plan.ensures.value in
    let k = c.commands-d-end.ensures in
    let t = c.loop-d-test.true in
    let all = c.requires.all in
    let d : c.loop-d.d < length xs = omega arith in (
      none_races_next p c.loop-d.d c.loop-d.invariant.0 (λ a l r. c.in_default.ensures a l ((races_at p plan xs c.requires.accesses a c.loop-d.d (omega arith) d).1 r)),
      (λ q h. absurd (let s : None ≡ Some q = h in cc)),
    )

pub returns : goal.returns
returns c =
    let n = ap (λ (q : Plan). length q.commands) c.plan-plan.ensures.value in
    let t = c.loop-d-test.false in
    let k = c.commands-d-end.ensures in
    no_pair_races c.args.order.now c.plan-plan.ensures.complete.plan (λ a b l m r. c.loop-d.invariant.0 a b l (omega arith) r)
