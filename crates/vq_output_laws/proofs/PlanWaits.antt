-- In a plan of a script only a wait of the host waits for any of several.
use Rattle.std.proofs.Common.{false, true, Option, Some, None, ◌≡◌, refl, sym, ap, ◌∙◌, subst}
use Rattle.std.specs.List.{slice_get}
use Rattle.std.specs.Option.{option_map_or}
use Rattle.std.proofs.lemmas.Bool.{false≢true}
use Rattle.vq_model.specs.declared.plan.Question.TheVariants.{Silent, Reached as AsksReached}
use Rattle.vq_model.specs.declared.script.HostStep.{HostStep}
use Rattle.vq_model.specs.declared.script.HostStep.TheVariants.{WaitAny}
use Rattle.vq_model.specs.declared.script.Job.{Job}
use Rattle.vq_model.specs.declared.script.Job.TheVariants.{Host, Batch}
use Rattle.vq_model.specs.declared.script.Script.{Script}
use Rattle.vq_model.specs.Lowering.{asks_any, plan_job, plan_of, step_question}
use Rattle.vq_model.specs.LoweredPlans.{IsPlan}
use Rattle.vq_model.specs.Plan.{Plan, question}
use Rattle.vq_plan_laws.proofs.Cited.{part_is}
use Rattle.vq_output_laws.specs.ToldOutputs.{AnswersWaitsForAny}

step_waits : (x : HostStep) → asks_any x ≡ true → step_question x ≡ AsksReached
step_waits (WaitAny pairs) e = refl
step_waits x e = absurd (false≢true e)

script_answers : (s : Script) → AnswersWaitsForAny (plan_of s)
script_answers s j h = by_job (slice_get s.jobs j) refl (sym (part_is (λ x. x.any) false s j) ∙ h)
  where
    by_job : (o : Option Job) → slice_get s.jobs j ≡ o → option_map_or (λ job. (plan_job s (j, job)).any) o false ≡ true → question (plan_of s) j ≡ AsksReached
    by_job None e g = absurd (false≢true g)
    by_job (Some (Host x)) e g =
        part_is (λ y. y.question) Silent s j
        ∙ (ap (λ (o : Option Job). option_map_or (λ job. (plan_job s (j, job)).question) o Silent) e ∙ step_waits x.step g)
    by_job (Some (Batch b)) e g = absurd (false≢true g)

pub plan_answers_waits : (p : Plan) → IsPlan p → AnswersWaitsForAny p
plan_answers_waits p i = subst AnswersWaitsForAny (sym i.lowered) (script_answers p.script)
