-- Whom a pass serves: its own actor, and the host's pass the submit actors of deferred queues, whose role is the host's.
use Rattle.std.proofs.Common.{◌≡◌, ℕ, true, false, Option, Some, None, refl, sym, ap, ◌∙◌, subst}
use Rattle.std.specs.List.{slice_get}
use Rattle.std.specs.Option.{option_map_or}
use Rattle.std.proofs.lemmas.Bool.{false≢true, cond-false}
use Rattle.vq_model.specs.declared.plan.Lane.{Lane}
use Rattle.vq_model.specs.declared.plan.Lane.TheVariants.{Host as HostLane, Queue as QueueLane}
use Rattle.vq_model.specs.declared.plan.PlanJob.{PlanJob}
use Rattle.vq_model.specs.declared.script.ActorName.{ActorName}
use Rattle.vq_model.specs.declared.script.ActorName.TheVariants.{Host as HostActor, Submit as SubmitActor}
use Rattle.vq_model.specs.declared.script.ActorName.TheVariants.{Ring as RingActor}
use Rattle.vq_model.specs.declared.script.Mode.{Mode}
use Rattle.vq_model.specs.declared.script.Mode.TheVariants.{Immediate, Deferred, Threaded}
use Rattle.vq_model.specs.declared.script.Queue.{Queue}
use Rattle.vq_model.specs.Checks.{is_immediate_batch, is_immediate_lane}
use Rattle.vq_model.specs.Context.{is_deferred, is_immediate, is_threaded}
use Rattle.vq_model.specs.Plan.{Plan, of_job, same_lane}
use Rattle.vq_model.proofs.Actors.{same_lane_is}
use Rattle.vq_turns.specs.Programs.{is_deferred_queue}
use Rattle.vq_actor.specs.Stages.{Serves}
use Rattle.vq_board_laws.specs.declared.view.Role.TheVariants.{Host, Submit}
use Rattle.vq_board_laws.specs.Roles.{role_number, submitter, submitter_of, is_threaded as is_threaded_in}
use Rattle.vq_access_laws.specs.TruePasses.{role_of_actor}

-- an actor that is served is the pass's own, or the submit actor of a deferred queue, with the host's pass
pub data IsServed (p : Plan) (a : ActorName) : ActorName → Type 0 where
  itself : IsServed p a a
  deferred : (q : ℕ) → a ≡ HostActor → is_deferred_queue p q ≡ true → IsServed p a (SubmitActor q)

pub served_cases : (p : Plan) (a b : ActorName) → Serves p a b → IsServed p a b
served_cases p HostActor (SubmitActor q) s = deferred q refl s
served_cases p HostActor HostActor s = itself
served_cases p HostActor (RingActor q) s = absurd (let z = s in cc)
served_cases p (SubmitActor q) b s = subst (IsServed p (SubmitActor q)) (sym s) itself
served_cases p (RingActor q) b s = subst (IsServed p (RingActor q)) (sym s) itself

pub serves_itself : (p : Plan) (a : ActorName) → Serves p a a
serves_itself p HostActor = refl
serves_itself p (SubmitActor q) = refl
serves_itself p (RingActor q) = refl

-- Queues by mode

deferred_unthreaded : (o : Option Queue) → option_map_or (λ x. is_deferred x.mode) o false ≡ true →
    option_map_or (λ x. is_threaded x.mode) o false ≡ false
deferred_unthreaded None h = refl
deferred_unthreaded (Some x) h = by_mode x.mode h
  where
    by_mode : (m : Mode) → is_deferred m ≡ true → is_threaded m ≡ false
    by_mode Immediate h = refl
    by_mode Deferred h = refl
    by_mode Threaded h = absurd (false≢true h)

immediate_unthreaded : (o : Option Queue) → option_map_or (λ x. is_immediate x.mode) o false ≡ true →
    option_map_or (λ x. is_threaded x.mode) o false ≡ false
immediate_unthreaded None h = refl
immediate_unthreaded (Some x) h = by_mode x.mode h
  where
    by_mode : (m : Mode) → is_immediate m ≡ true → is_threaded m ≡ false
    by_mode Immediate h = refl
    by_mode Deferred h = absurd (false≢true h)
    by_mode Threaded h = absurd (false≢true h)

deferred_not_immediate : (o : Option Queue) → option_map_or (λ x. is_deferred x.mode) o false ≡ true →
    option_map_or (λ x. is_immediate x.mode) o false ≡ false
deferred_not_immediate None h = refl
deferred_not_immediate (Some x) h = by_mode x.mode h
  where
    by_mode : (m : Mode) → is_deferred m ≡ true → is_immediate m ≡ false
    by_mode Immediate h = absurd (false≢true h)
    by_mode Deferred h = refl
    by_mode Threaded h = refl

module _ (p : Plan) where
  -- whose pass serves an actor has the role that the actor steps with
  pub role_served : (a b : ActorName) → Serves p a b →
      role_number p (role_of_actor p a) ≡ role_number p (role_of_actor p b)
  role_served a b s = by_case (served_cases p a b s)
    where
      by_case : {c : ActorName} → IsServed p a c →
          role_number p (role_of_actor p a) ≡ role_number p (role_of_actor p c)
      by_case itself = refl
      by_case (deferred q host is) =
          ap (λ (x : ActorName). role_number p (role_of_actor p x)) host
          ∙ sym (ap (role_number p) (cond-false (is_threaded_in p q) (Submit q) Host
          (deferred_unthreaded (slice_get p.script.queues q) is)))

  -- the submitter of a batch of a lane
  submitter_in : (j : ℕ) (l : Lane) (o : Option PlanJob) → option_map_or (λ x. same_lane l x.lane) o false ≡ true →
      option_map_or (λ x. role_number p (submitter_of p x.lane)) o 0 ≡ role_number p (submitter_of p l)
  submitter_in j l None h = absurd (false≢true h)
  submitter_in j l (Some x) h = ap (λ (m : Lane). role_number p (submitter_of p m)) (sym (same_lane_is l x.lane h))

  pub queue_submitter : (q j : ℕ) → of_job (λ x. same_lane (QueueLane q) x.lane) false p j ≡ true →
      submitter p j ≡ role_number p (role_of_actor p (SubmitActor q))
  queue_submitter q j h = submitter_in j (QueueLane q) (slice_get p.jobs j) h

  -- .. and of an immediate one
  pub host_submitter : (j : ℕ) → is_immediate_batch p j ≡ true → submitter p j ≡ 0
  host_submitter j h = by_job (slice_get p.jobs j) h
    where
      by_lane : (l : Lane) → is_immediate_lane p l ≡ true → role_number p (submitter_of p l) ≡ 0
      by_lane HostLane i = refl
      by_lane (QueueLane q) i = ap (role_number p) (cond-false (is_threaded_in p q) (Submit q) Host
          (immediate_unthreaded (slice_get p.script.queues q) i))

      by_job : (o : Option PlanJob) → option_map_or (λ x. is_immediate_lane p x.lane) o false ≡ true →
          option_map_or (λ x. role_number p (submitter_of p x.lane)) o 0 ≡ 0
      by_job None i = refl
      by_job (Some x) i = by_lane x.lane i

  -- no batch is both of a deferred queue and immediate
  pub not_both : (q j : ℕ) → is_deferred_queue p q ≡ true →
      of_job (λ x. same_lane (QueueLane q) x.lane) false p j ≡ true → is_immediate_batch p j ≡ true → ⊥
  not_both q j is mine now = by_job (slice_get p.jobs j) mine now
    where
      by_job : (o : Option PlanJob) → option_map_or (λ x. same_lane (QueueLane q) x.lane) o false ≡ true →
          option_map_or (λ x. is_immediate_lane p x.lane) o false ≡ true → ⊥
      by_job None m n = false≢true m
      by_job (Some x) m n =
          false≢true (sym (deferred_not_immediate (slice_get p.script.queues q) is)
          ∙ (ap (is_immediate_lane p) (same_lane_is (QueueLane q) x.lane m) ∙ n))

  -- no batch is of two queues
  pub one_queue : (q r j : ℕ) → of_job (λ x. same_lane (QueueLane q) x.lane) false p j ≡ true →
      of_job (λ x. same_lane (QueueLane r) x.lane) false p j ≡ true → q ≡ r
  one_queue q r j m n = by_job (slice_get p.jobs j) m n
    where
      queues : QueueLane q ≡ QueueLane r → q ≡ r
      queues e = cc

      by_job : (o : Option PlanJob) → option_map_or (λ x. same_lane (QueueLane q) x.lane) o false ≡ true →
          option_map_or (λ x. same_lane (QueueLane r) x.lane) o false ≡ true → q ≡ r
      by_job None m n = absurd (false≢true m)
      by_job (Some x) m n = queues (same_lane_is (QueueLane q) x.lane m ∙ sym (same_lane_is (QueueLane r) x.lane n))
