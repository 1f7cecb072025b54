use Rattle.std.proofs.Common.{◌≡◌, ◌<◌, ◌∙◌, List, ℕ, All, not, length, ap, sym, subst}
use Rattle.std.specs.List.{list_any}
use Rattle.vq_model.specs.declared.plan.Need.{Need}
use Rattle.vq_model.specs.Machine.{is_reached}
use Rattle.vq_spec.specs.SlowProgress.{payload_in}
use Rattle.vq_spec.proofs.Cited.{chains_exist}
use Rattle.vq_order.proofs.UnreachedLaws.{any_unreached}
use Rattle.vq_order.proofs.unreachable.is_unreached.Goals as goal

pub any_reached-requires : goal.any_reached-requires
any_reached-requires c =
    let p = c.args.plan.now in
    let run = c.requires.run in
    let count : length p.script.semaphores ≡ length c.as_slice-payloads.result.now =
    sym (ap length c.as_slice-payloads.ensures ∙ run.payloads.count) in
    let own = chains_exist p run.plan c.args.j c.job-job.result.now c.job-job.ensures in
    subst (λ (m : ℕ). All (λ n. n.chain < m) c.as_slice.result.now) count
    (subst (λ (ns : List Need). All (λ n. n.chain < length p.script.semaphores) ns) (sym c.as_slice.ensures) own)

pub returns-then-job : goal.returns-then-job
returns-then-job c =
    let run = c.requires.run in
    let job = c.job-job.result.now in
    ap not c.any_reached.ensures
    ∙ (ap (λ ns. not (list_any (is_reached (payload_in c.as_slice-payloads.result.now)) ns)) c.as_slice.ensures
    ∙ (ap (λ payloads. not (list_any (is_reached (payload_in payloads)) job.needs)) c.as_slice-payloads.ensures
    ∙ any_unreached c.args.plan.now run.plan c.args.j job c.job-job.ensures c.if-job.true c.args.run.now.payloads run.payloads c.args.need))
