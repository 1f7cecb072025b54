-- In each plan what a host step asks for is of chains that exist.
use Rattle.std.proofs.Common.{◌≡◌, ℕ, ◌<◌, List, [], length, map, get_or, All, Option, Some, None, refl, sym, ◌∙◌, subst}
use Rattle.std.specs.List.{slice_get}
use Rattle.std.specs.Option.{option_map_or}
use Rattle.std.proofs.lemmas.List.Elements.{All-map, All-cons, All-nil}
use Rattle.vq_model.specs.declared.script.Script.{Script}
use Rattle.vq_model.specs.declared.script.Pair.{Pair}
use Rattle.vq_model.specs.declared.script.HostLine.{HostLine}
use Rattle.vq_model.specs.declared.script.HostStep.{HostStep}
use Rattle.vq_model.specs.declared.script.HostStep.TheVariants.{Signal, WaitAll, WaitAny, PollAll, PollAny, Read, FenceWait, FencePoll, FenceReset, Idle}
use Rattle.vq_model.specs.declared.script.Job.{Job}
use Rattle.vq_model.specs.declared.script.Job.TheVariants.{Host, Batch}
use Rattle.vq_model.specs.declared.plan.Need.{Need}
use Rattle.vq_model.specs.declared.plan.Question.TheVariants.{Silent, Value as AsksValue}
use Rattle.vq_model.specs.Context.{is_timeline, is_fence}
use Rattle.vq_model.specs.Plan.{Plan, asked, question}
use Rattle.vq_model.specs.Lowering.{plan_of, plan_job, of_pair, step_asked, step_question, fence_value}
use Rattle.vq_model.specs.LoweredPlans.{IsPlan}
use Rattle.vq_model.specs.ValidScripts.{HasValidSteps, IsTimelinePair, IsValidStep}
use Rattle.vq_reading_laws.proofs.Cited.{kind_exists, read_steps}
use Rattle.vq_plan_laws.proofs.PlanParts.{part_is}

module _ (s : Script) (w : HasValidSteps s) where
  abbrev Exists : Need → Type 0
  Exists n = n.chain < length s.semaphores

  step_asked_exist : (j : ℕ) (h : HostLine) → IsValidStep s h.step → All Exists (step_asked s j h.line h.step)
  step_asked_exist j h valid = of_step h.step valid
    where
      of_pairs : (pairs : List Pair) → All (IsTimelinePair s) pairs → All Exists (map (of_pair h.line) pairs)
      of_pairs pairs a =
          All-map Exists (of_pair h.line) pairs
          (λ i d l. kind_exists s is_timeline (get_or pairs i d).semaphore (a i d l))

      of_step : (t : HostStep) → IsValidStep s t → All Exists (step_asked s j h.line t)
      of_step (PollAll pairs) a = of_pairs pairs a
      of_step (PollAny pairs) a = of_pairs pairs a
      of_step (FencePoll f) a =
          All-cons Exists (record { line = h.line; chain = f; value = fence_value s j f; from = 1 }) []
          (kind_exists s is_fence f a) (All-nil Exists)
      of_step (Read t) a =
          All-cons Exists (record { line = h.line; chain = t; value = 0; from = 1 }) []
          (kind_exists s is_timeline t a) (All-nil Exists)
      of_step other a = All-nil Exists

  asked_exist : (j : ℕ) → All Exists (asked (plan_of s) j)
  asked_exist j = subst (All Exists) (sym (part_is (λ x. x.asked) [] s j)) (by_job (slice_get s.jobs j) refl)
    where
      by_job : (o : Option Job) → slice_get s.jobs j ≡ o →
          All Exists (option_map_or (λ job. (plan_job s (j, job)).asked) o [])
      by_job None e = All-nil Exists
      by_job (Some (Host h)) e = step_asked_exist j h (w j h e)
      by_job (Some (Batch b)) e = All-nil Exists

  read_exists : (j t : ℕ) → question (plan_of s) j ≡ AsksValue t → t < length s.semaphores
  read_exists j t is =
      by_job (slice_get s.jobs j) refl (sym (part_is (λ x. x.question) Silent s j) ∙ is)
    where
      of_step : (x : HostStep) → IsValidStep s x → step_question x ≡ AsksValue t → t < length s.semaphores
      of_step (Read u) valid e =
          let same : u ≡ t = cc in
          subst (λ (z : ℕ). z < length s.semaphores) same (kind_exists s is_timeline u valid)
      of_step (Signal pair) valid e = absurd (let z = e in cc)
      of_step (WaitAll pairs) valid e = absurd (let z = e in cc)
      of_step (WaitAny pairs) valid e = absurd (let z = e in cc)
      of_step (PollAll pairs) valid e = absurd (let z = e in cc)
      of_step (PollAny pairs) valid e = absurd (let z = e in cc)
      of_step (FenceWait f) valid e = absurd (let z = e in cc)
      of_step (FencePoll f) valid e = absurd (let z = e in cc)
      of_step (FenceReset f) valid e = absurd (let z = e in cc)
      of_step Idle valid e = absurd (let z = e in cc)

      by_job : (o : Option Job) → slice_get s.jobs j ≡ o →
          option_map_or (λ job. (plan_job s (j, job)).question) o Silent ≡ AsksValue t → t < length s.semaphores
      by_job None e h = absurd (let z : Silent ≡ AsksValue t = h in cc)
      by_job (Some (Host x)) e h = of_step x.step (w j x e) h
      by_job (Some (Batch b)) e h = absurd (let z : Silent ≡ AsksValue t = h in cc)

module _ (p : Plan) (i : IsPlan p) where
  pub plan_asked : (j : ℕ) → All (λ n. n.chain < length p.script.semaphores) (asked p j)
  plan_asked =
      subst (λ (q : Plan). (j : ℕ) → All (λ n. n.chain < length p.script.semaphores) (asked q j)) (sym i.lowered)
      (asked_exist p.script (read_steps p.script i.of_script))

  pub plan_reads : (j t : ℕ) → question p j ≡ AsksValue t → t < length p.script.semaphores
  plan_reads =
      subst (λ (q : Plan). (j t : ℕ) → question q j ≡ AsksValue t → t < length p.script.semaphores) (sym i.lowered)
      (read_exists p.script (read_steps p.script i.of_script))
