use Rattle.std.proofs.Common.{◌∙◌, ap, refl, sym, arith, length, Option, ℕ, subst}
use Rattle.std.specs.Option.{option_map_or}
use Rattle.std.proofs.lemmas.Bool.{false≢true}
use Rattle.vq_order.specs.Busy.{IsBusyOrNone, IsLastOrNone}
use Rattle.vq_order.proofs.BusyLaws.{busy_here, busy_none, busy_sure, busy_unnamed, job_read, jobs_count, reset_exists}
use Rattle.vq_order.proofs.busy.busy_at.Goals as goal

pub bounds-as_slice-j : goal.bounds-as_slice-j
bounds-as_slice-j c =
    let n = jobs_count c.args.order.now c.plan.ensures.complete.plan in
    let jobs = ap length c.as_slice.ensures in
    let s = ap (λ x. length x.jobs) c.script.ensures.script in
    let v = ap (λ x. length x.script.jobs) c.plan.ensures.value in
    let l = c.requires.exists in
    omega arith

pub returns-in_err-fence : goal.returns-in_err-fence
returns-in_err-fence c =
    let p = c.args.order.now in
    let i = c.plan.ensures.complete.plan in
    let job = c.index-as_slice-j.result in
    let at = job_read p i c.as_slice.result.now (c.as_slice.ensures ∙ (ap (λ x. x.jobs) c.script.ensures.script ∙ ap (λ x. x.script.jobs) c.plan.ensures.value)) c.args.j c.requires.exists job c.index-as_slice-j.is in
    subst (λ (o : Option ℕ). IsBusyOrNone p c.args.j o) (sym c.from_residual.ensures)
    (busy_none p i c.args.j job at (sym c.reset_by.ensures ∙ c.in_err-fence.was))

pub bounds-named-fence : goal.bounds-named-fence
bounds-named-fence c =
    let p = c.args.order.now in
    let i = c.plan.ensures.complete.plan in
    let job = c.index-as_slice-j.result in
    let at = job_read p i c.as_slice.result.now (c.as_slice.ensures ∙ (ap (λ x. x.jobs) c.script.ensures.script ∙ ap (λ x. x.script.jobs) c.plan.ensures.value)) c.args.j c.requires.exists job c.index-as_slice-j.is in
    let l = reset_exists p.script i.of_script c.args.j job at c.in_ok-fence.fence (sym c.reset_by.ensures ∙ c.in_ok-fence.was) in
    let n = c.requires.named.count in
    omega arith

pub returns-in_err-naming : goal.returns-in_err-naming
returns-in_err-naming c =
    let p = c.args.order.now in
    let i = c.plan.ensures.complete.plan in
    let job = c.index-as_slice-j.result in
    let at = job_read p i c.as_slice.result.now (c.as_slice.ensures ∙ (ap (λ x. x.jobs) c.script.ensures.script ∙ ap (λ x. x.script.jobs) c.plan.ensures.value)) c.args.j c.requires.exists job c.index-as_slice-j.is in
    let e = sym c.reset_by.ensures ∙ c.in_ok-fence.was in
    let l = reset_exists p.script i.of_script c.args.j job at c.in_ok-fence.fence e in
    let last = subst (IsLastOrNone p.script c.in_ok-fence.fence c.args.j) c.in_err-naming.was (c.requires.named.each c.in_ok-fence.fence l) in
    subst (λ (o : Option ℕ). IsBusyOrNone p c.args.j o) (sym c.from_residual-in_err-naming.ensures)
    (busy_unnamed p i c.args.j job at c.in_ok-fence.fence e last)

pub returns-then-is_in_use : goal.returns-then-is_in_use
returns-then-is_in_use c =
    let p = c.args.order.now in
    let i = c.plan.ensures.complete.plan in
    let job = c.index-as_slice-j.result in
    let at = job_read p i c.as_slice.result.now (c.as_slice.ensures ∙ (ap (λ x. x.jobs) c.script.ensures.script ∙ ap (λ x. x.script.jobs) c.plan.ensures.value)) c.args.j c.requires.exists job c.index-as_slice-j.is in
    let e = sym c.reset_by.ensures ∙ c.in_ok-fence.was in
    let l = reset_exists p.script i.of_script c.args.j job at c.in_ok-fence.fence e in
    let last = subst (IsLastOrNone p.script c.in_ok-fence.fence c.args.j) c.in_ok-naming.was (c.requires.named.each c.in_ok-fence.fence l) in
    busy_here p i c.args.j job at c.in_ok-fence.fence c.in_ok-naming.naming e last (c.if-is_in_use.ensures.0 refl) c.job.result.now.line
    (sym (ap (λ o. option_map_or (λ x. x.line) o 0) c.job.ensures.value))

pub returns-else-is_in_use : goal.returns-else-is_in_use
returns-else-is_in_use c =
    let p = c.args.order.now in
    let i = c.plan.ensures.complete.plan in
    let job = c.index-as_slice-j.result in
    let at = job_read p i c.as_slice.result.now (c.as_slice.ensures ∙ (ap (λ x. x.jobs) c.script.ensures.script ∙ ap (λ x. x.script.jobs) c.plan.ensures.value)) c.args.j c.requires.exists job c.index-as_slice-j.is in
    let e = sym c.reset_by.ensures ∙ c.in_ok-fence.was in
    let l = reset_exists p.script i.of_script c.args.j job at c.in_ok-fence.fence e in
    let last = subst (IsLastOrNone p.script c.in_ok-fence.fence c.args.j) c.in_ok-naming.was (c.requires.named.each c.in_ok-fence.fence l) in
    busy_sure p i c.args.j job at c.in_ok-fence.fence c.in_ok-naming.naming e last (λ x. false≢true (c.if-is_in_use.ensures.1 x))
