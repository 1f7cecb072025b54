use Rattle.std.proofs.Common.{◌<◌, ◌≤◌, ◌++◌, ◌∙◌, sym, ap, length, arith, refl, take}
use Rattle.std.specs.Prelude.{replicate}
use Rattle.std.proofs.lemmas.List.{take_all}
use Rattle.vq_spec.proofs.Lowered.{few_jobs, read_job}
use Rattle.vq_spec.proofs.CommandOwners.{owners_of, owners_push, owners_are}
use Rattle.vq_spec.proofs.owners.lower_owners.Goals as goal

pub overflow_cast-j-end : goal.overflow_cast-j-end
overflow_cast-j-end c = omega
    (arith, few_jobs c.args.script.now c.requires, ap length c.as_slice-jobs.ensures)

pub loop-j-preserved : goal.loop-j-preserved
loop-j-preserved c =
    let s = c.args.script.now in
    let j = c.loop-j.j in
    let job = c.index-jobs-j.result in
    let exists : j < length s.jobs = omega (arith, ap length c.as_slice-jobs.ensures) in
    let at = read_job s.jobs c.as_slice-jobs.result.now j job _ c.as_slice-jobs.ensures exists
    c.index-jobs-j.is refl in
    c.in_ok-push_owner.ensures {u = tt}
    ∙ (ap (λ xs. xs ++ replicate c.commands_in.result j) c.loop-j.invariant
    ∙ (ap (λ n. owners_of (take j s.jobs) ++ replicate n j) c.commands_in.ensures
    ∙ sym (owners_push s.jobs j job at)))

pub returns : goal.returns
returns c =
    let s = c.args.script.now in
    let all : length s.jobs ≤ c.loop-j.j = omega (arith, ap length c.as_slice-jobs.ensures) in
    owners_are s _ (c.loop-j.invariant ∙ ap owners_of (take_all c.loop-j.j s.jobs all))
