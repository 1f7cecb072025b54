use Rattle.std.proofs.Common.{◌≡◌, ◌∙◌, ◌+◌, ap, arith, drop, length, rules, subst, sym}
use Rattle.vq_ground.proofs.Gets.{whole_new}
use Rattle.vq_order.specs.Busy.{AreLastNamings}
use Rattle.vq_order.proofs.BusyLaws.{found_least, jobs_count, none_at_all, none_found}
use Rattle.vq_order.proofs.busy.first_busy.Goals as goal

pub returns-then-is_some : goal.returns-then-is_some
returns-then-is_some c =
    found_least c.args.order.now c.plan.ensures.complete.plan c.loop-j.j c.loop-j.invariant.1 c.busy_at-busy.result
    c.busy_at-busy.ensures (sym c.is_some.ensures ∙ c.if-is_some.true)

pub note_use-requires-clause-exists : goal.note_use-requires-clause-exists
note_use-requires-clause-exists c =
    let n = jobs_count c.args.order.now c.plan.ensures.complete.plan in
    let s = ap (λ x. length x.jobs) c.script-script.ensures.script in
    let v = ap (λ x. length x.script.jobs) c.plan.ensures.value in
    let l = c.loop-j-test.true in
    let e = c.jobs-j-end.ensures in
    omega arith

pub loop-j-preserved : goal.loop-j-preserved
loop-j-preserved c =
    let old = c.loop-j.named.items in
    let new = c.note_use.new.named in
    let w : length new ≡ c.loop-j.named.len = search rules in
    let same = whole_new c.loop-j.named.len new (drop (length new) old) w in
    let s = c.script-script.ensures.script ∙ ap (λ x. x.script) c.plan.ensures.value in (
      subst (AreLastNamings c.args.order.now.script (c.loop-j.j + 1)) (sym same)
          (subst (λ x. AreLastNamings x (c.loop-j.j + 1) new) s c.note_use.ensures),
      none_found c.args.order.now c.plan.ensures.complete.plan c.loop-j.j c.loop-j.invariant.1 c.busy_at-busy.result
          c.busy_at-busy.ensures (sym c.is_some.ensures ∙ c.if-is_some.false),
    )

pub returns : goal.returns
returns c =
    let n = jobs_count c.args.order.now c.plan.ensures.complete.plan in
    let l = c.loop-j-test.false in
    let e = c.jobs-j-end.ensures in
    let a = c.loop-j.auto.j-end in
    none_at_all c.args.order.now c.plan.ensures.complete.plan c.loop-j.j (omega arith) c.loop-j.invariant.1
