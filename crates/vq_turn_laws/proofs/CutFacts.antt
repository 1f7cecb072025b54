-- What is known of a program that is cut at a place, and whose job is the actor's next one.
use Rattle.std.proofs.Common.{◌≡◌, ℕ, true, false, List, [], ◌∷◌, ◌++◌, take, drop, Some, None, refl, sym, subst, ap}
use Rattle.std.proofs.Common.{◌∙◌}
use Rattle.std.specs.List.{range_with_len}
use Rattle.std.specs.Option.{option_map_or}
use Rattle.std.proofs.lemmas.List.{take-append-drop}
use Rattle.vq_run_laws.proofs.Cited.{next_at}
use Rattle.vq_ground.proofs.Filters.{filter-has_cases}
use Rattle.vq_model.specs.declared.script.ActorName.{ActorName}
use Rattle.vq_model.specs.declared.script.ActorName.TheVariants.{Host as HostActor, Submit as SubmitActor}
use Rattle.vq_model.specs.declared.script.ActorName.TheVariants.{Ring as RingActor}
use Rattle.vq_model.specs.declared.plan.Lane.{Lane}
use Rattle.vq_model.specs.declared.plan.Lane.TheVariants.{Host as HostLane, Queue as QueueLane}
use Rattle.vq_model.specs.Plan.{Plan, of_job, same_lane}
use Rattle.vq_ground.specs.Lists.{has}
use Rattle.vq_model.specs.Machine.{next}
use Rattle.vq_model.specs.WellFormed.{IsWellFormed}
use Rattle.vq_ground.proofs.Lists.{has_here, has-append_right}
use Rattle.vq_point_laws.specs.Points.{PointState, jobs_of_lane, lane_of_actor, actor_of_lane, next_job}
use Rattle.vq_turns.specs.declared.task.Task.{Task}
use Rattle.vq_turns.specs.declared.task.Task.TheVariants.{Finish}
use Rattle.vq_turns.specs.Programs.{program}
use Rattle.vq_turn_laws.specs.Orders.{InOrder}
use Rattle.vq_turn_laws.specs.Places.{IsDone, IsLeft}
use Rattle.vq_turn_laws.specs.PlanParts.{lane_of_job, IsOrderly}
use Rattle.vq_turn_laws.specs.Tasks.{AreApart, Each, Among, finishes}
use Rattle.vq_turn_laws.proofs.Apart.{program_apart, in_queue, host_lane}
use Rattle.vq_turn_laws.proofs.Cuts.{done_of, order_cut, apart_cut, among_cut}
use Rattle.vq_turn_laws.proofs.Finishes.{finishes_append, program_finishes, submit_finishes, finish_among}
use Rattle.vq_turn_laws.proofs.HostOrder.{host_same}
use Rattle.vq_turn_laws.proofs.PlaceLaws.{each_among}
use Rattle.vq_turn_laws.proofs.ProgramLaws.{among_turned}
use Rattle.vq_turn_laws.proofs.ProgramsOrder.{in_order}

-- what is known of a program, cut at a place
pub record IsCut (p : Plan) (a : ActorName) (before after : List Task) : Type 0 where
  pub order : InOrder p a before after
  pub apart : AreApart after
  pub own : (t : Task) → Among t after → Among t (program p a)
  -- the jobs of the actor's lane: those that are finished, and those that are left
  pub front : List ℕ
  pub whole : (lane : Lane) → lane_of_actor a ≡ Some lane → jobs_of_lane p lane ≡ front ++ finishes after
  pub earlier : (i : ℕ) → has front i ≡ true → Among (Finish i) before
  pub in_lane : (j : ℕ) (js : List ℕ) → finishes after ≡ j ∷ js → (lane : Lane) × (lane_of_actor a ≡ Some lane)

pub cut_at : (p : Plan) → IsOrderly p → (a : ActorName) (n : ℕ) →
    IsCut p a (done_of n (program p a)) (drop n (program p a))
cut_at p o a n =
    record {
      order = order_cut p a n (program p a) (in_order p o.well_formed o.hosts o.parts a);
      apart = apart_cut n (program p a) (program_apart p o.well_formed a);
      own = among_cut n (program p a);
      front = finishes (take n (program p a));
      whole = λ lane s. sym (program_finishes p a lane s) ∙ parts;
      earlier = λ i m. among_turned (Finish i) (take n (program p a)) [] (finish_among (take n (program p a)) i m);
      in_lane = λ j js s. lane_for a (finishes (take n (program p a))) (finishes (drop n (program p a))) parts j js s;
    }
  where
    parts : finishes (program p a) ≡ finishes (take n (program p a)) ++ finishes (drop n (program p a))
    parts = ap finishes (sym (take-append-drop n (program p a))) ∙ finishes_append (take n (program p a))
        (drop n (program p a))

    none_behind : (front back : List ℕ) → [] ≡ front ++ back → (j : ℕ) (js : List ℕ) → back ≡ j ∷ js → ⊥
    none_behind [] back e j js s = let z = e ∙ s in cc
    none_behind (x ∷ xs) back e j js s = let z = e in cc

    lane_for : (b : ActorName) (front back : List ℕ) → finishes (program p b) ≡ front ++ back → (j : ℕ) (js : List ℕ) →
        back ≡ j ∷ js → (lane : Lane) × (lane_of_actor b ≡ Some lane)
    lane_for HostActor front back e j js s = (HostLane, refl)
    lane_for (SubmitActor q) front back e j js s = absurd
        (none_behind front back (sym (submit_finishes p q) ∙ e) j js s)
    lane_for (RingActor q) front back e j js s = (QueueLane q, refl)

module _ (p : Plan) (a : ActorName) (w : PointState) (before after : List Task) (c : IsCut p a before after)
    (d : Each (IsDone w) before) (l : Each (IsLeft w) after) where
  -- the first job that is left is the actor's next one
  pub job_is_next : (j : ℕ) (js : List ℕ) → finishes after ≡ j ∷ js → next_job p w a ≡ Some j
  job_is_next j js s =
      let lane = c.in_lane j js s in
      ap (λ o. option_map_or (λ lane. next w.machine.progress.finished (jobs_of_lane p lane)) o None) lane.1
      ∙ (ap (next w.machine.progress.finished) (c.whole lane.0 lane.1 ∙ ap (λ us. c.front ++ us) s)
      ∙ next_at w.machine.progress.finished c.front j js
      (λ y m. each_among (IsDone w) before (Finish y) d (c.earlier y m))
      (each_among (IsLeft w) after (Finish j) l
      (finish_among after j (subst (λ us. has us j ≡ true) (sym s) (has_here j js)))))

-- the actor of a lane's jobs
module _ (p : Plan) (wf : IsWellFormed p) where
  own_lane : (a : ActorName) (lane : Lane) (j : ℕ) → lane_of_actor a ≡ Some lane → has (jobs_of_lane p lane) j ≡ true →
      actor_of_lane (lane_of_job p j) ≡ a
  own_lane HostActor lane j s m =
      let same : HostLane ≡ lane = let z = s in cc in
      let here : has (jobs_of_lane p HostLane) j ≡ true = subst (λ (z : Lane). has (jobs_of_lane p z) j ≡ true)
      (sym same) m in
      ap actor_of_lane (host_lane p wf j
      (sym (host_same p j) ∙
      (filter-has_cases (λ i. of_job (λ x. same_lane HostLane x.lane) false p i) (range_with_len 0 _) j here).1))
  own_lane (SubmitActor q) lane j s m = absurd (let z = s in cc)
  own_lane (RingActor q) lane j s m =
      let same : QueueLane q ≡ lane = let z = s in cc in
      ap actor_of_lane (in_queue p wf q j (subst (λ (z : Lane). has (jobs_of_lane p z) j ≡ true) (sym same) m))

  pub job_of_actor : (a : ActorName) (before after : List Task) → IsCut p a before after → (j : ℕ) (js : List ℕ) →
      finishes after ≡ j ∷ js → actor_of_lane (lane_of_job p j) ≡ a
  job_of_actor a before after c j js s =
      let lane = c.in_lane j js s in
      own_lane a lane.0 j lane.1
      (subst (λ us. has us j ≡ true) (sym (c.whole lane.0 lane.1 ∙ ap (λ us. c.front ++ us) s))
      (has-append_right c.front (j ∷ js) j (has_here j js)))
