-- The lines of the jobs of a plan rise.
use Rattle.std.proofs.Common.{◌≡◌, ℕ, ◌<◌, ◌==◌, true, [], length, Option, Some, refl, sym, subst, ap, ◌∙◌, arith}
use Rattle.std.specs.List.{slice_get}
use Rattle.std.specs.Option.{option_map_or}
use Rattle.std.proofs.lemmas.Bool.{or_left, eq-eqb}
use Rattle.vq_ground.specs.Lists.{has}
use Rattle.vq_ground.proofs.Gets.{get_some}
use Rattle.vq_ground.proofs.Lists.{has_here}
use Rattle.vq_model.specs.declared.script.Script.{Script}
use Rattle.vq_model.specs.declared.script.Job.{Job}
use Rattle.vq_model.specs.declared.script.Job.TheVariants.{Host as HostJob, Batch as BatchJob}
use Rattle.vq_model.specs.Plan.{Plan, line_of_job}
use Rattle.vq_model.specs.Lowering.{plan_of, plan_job}
use Rattle.vq_model.specs.LoweredPlans.{IsPlan}
use Rattle.vq_model.specs.ValidScripts.{job_lines}
use Rattle.vq_reading_laws.proofs.Cited.{read_lines_rise}
use Rattle.vq_plan_laws.proofs.Cited.{count_jobs, part_is}
use Rattle.vq_order_laws.proofs.JobLines.{lines_across}

pub job_lines_rise : (p : Plan) → IsPlan p → (i j : ℕ) → i < j → j < length p.jobs → line_of_job p i < line_of_job p j
job_lines_rise p is i j l h =
    subst (λ (q : Plan). j < length q.jobs → line_of_job q i < line_of_job q j) (sym is.lowered) of_script h
  where
    s : Script
    s = p.script

    line_is : (k : ℕ) (job : Job) → slice_get s.jobs k ≡ Some job → line_of_job (plan_of s) k ≡ (plan_job s (k, job)).line
    line_is k job at =
        part_is (λ x. x.line) 0 s k ∙ ap (λ (o : Option Job). option_map_or (λ x. (plan_job s (k, x)).line) o 0) at

    first_line : (k : ℕ) (job : Job) → has (job_lines job) (plan_job s (k, job)).line ≡ true
    first_line k (HostJob x) = has_here x.line []
    first_line k (BatchJob b) = or_left (b.line == b.line) _ (eq-eqb b.line b.line refl)

    of_script : j < length (plan_of s).jobs → line_of_job (plan_of s) i < line_of_job (plan_of s) j
    of_script m =
        let count = count_jobs s in
        let x = get_some s.jobs i (omega arith) in
        let y = get_some s.jobs j (omega arith) in
        let a = line_is i x.0 x.1 in
        let b = line_is j y.0 y.1 in
        let c = lines_across s.jobs i j x.0 y.0 (plan_job s (i, x.0)).line (plan_job s (j, y.0)).line
        (read_lines_rise s is.of_script) x.1 y.1 l (first_line i x.0) (first_line j y.0) in
        omega arith
