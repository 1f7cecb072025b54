-- A true place stays true through the events of other actors.
use Rattle.std.proofs.Common.{◌≡◌, ℕ, Bool, true, false, List, ◌∷◌, Option, Some, None, refl, sym, subst, ap, ◌∙◌}
use Rattle.std.specs.Option.{option_map_or}
use Rattle.std.proofs.lemmas.Bool.{false≢true}
use Rattle.vq_model.specs.declared.script.ActorName.{ActorName}
use Rattle.vq_model.specs.declared.script.ActorName.TheVariants.{Host as HostActor, Submit as SubmitActor}
use Rattle.vq_model.specs.declared.script.ActorName.TheVariants.{Ring as RingActor}
use Rattle.vq_model.specs.declared.plan.Lane.{Lane}
use Rattle.vq_model.specs.declared.plan.Event.{Event}
use Rattle.vq_model.specs.declared.plan.Event.TheVariants.{Refer, Look, Unref, Complete, Free}
use Rattle.vq_model.specs.Plan.{Plan}
use Rattle.vq_ground.specs.Lists.{has}
use Rattle.vq_model.specs.Machine.{next}
use Rattle.vq_model.specs.Naming.{same_actor}
use Rattle.vq_model.proofs.Actors.{same_actor_is}
use Rattle.vq_point_laws.specs.Points.{PointState, CanCome, after_event, jobs_of_lane, lane_of_actor, next_job}
use Rattle.vq_run_laws.proofs.Cited.{next_in}
use Rattle.vq_turns.specs.declared.task.Task.{Task}
use Rattle.vq_turns.specs.declared.look.Holding.{Holding}
use Rattle.vq_turns.specs.Programs.{program}
use Rattle.vq_turn_laws.specs.PlanParts.{HasOwnProgram, IsOrderly}
use Rattle.vq_turn_laws.specs.Tasks.{Among, IsOf, IsEventOf, finishes, waited_now}
use Rattle.vq_turn_laws.specs.TruePlaces.{Stands}
use Rattle.vq_turn_laws.proofs.Apart.{programs_apart}
use Rattle.vq_turn_laws.proofs.CutFacts.{IsCut, job_is_next}
use Rattle.vq_turn_laws.proofs.HoldingLaws.{other_refers, other_looks, other_unrefers}
use Rattle.vq_turn_laws.proofs.NextJobs.{one_lane}
use Rattle.vq_turn_laws.proofs.Reached.{Reached}
use Rattle.vq_turn_laws.proofs.StandLaws.{SameReferences, stands_still, stands_with}

other_name : (a b : ActorName) → (a ≡ b → ⊥) → same_actor a b ≡ false
other_name a b n = by_test (same_actor a b) refl
  where
    by_test : (c : Bool) → same_actor a b ≡ c → c ≡ false
    by_test false e = refl
    by_test true e = absurd (n (same_actor_is a b e))

one_actor : (a b : ActorName) (l : Lane) → lane_of_actor a ≡ Some l → lane_of_actor b ≡ Some l → a ≡ b
one_actor HostActor HostActor l x y = refl
one_actor HostActor (SubmitActor r) l x y = absurd (let z = y in cc)
one_actor HostActor (RingActor r) l x y = absurd (let z = x ∙ sym y in cc)
one_actor (SubmitActor q) b l x y = absurd (let z = x in cc)
one_actor (RingActor q) HostActor l x y = absurd (let z = x ∙ sym y in cc)
one_actor (RingActor q) (SubmitActor r) l x y = absurd (let z = y in cc)
one_actor (RingActor q) (RingActor r) l x y = let same : q ≡ r = let z = x ∙ sym y in cc in ap
    (λ (z : ℕ). RingActor z) same

-- events that leave all references as they are
abbrev is_of_references : Event → Bool
is_of_references (Refer a q e) = true
is_of_references (Look a q e) = true
is_of_references (Unref a q e) = true
is_of_references other = false

leaves_references : (p : Plan) (w : PointState) (x : Event) → is_of_references x ≡ false →
    SameReferences w (after_event p w x)
leaves_references p w (Refer a q e) h = absurd (false≢true (sym h))
leaves_references p w (Look a q e) h = absurd (false≢true (sym h))
leaves_references p w (Unref a q e) h = absurd (false≢true (sym h))
leaves_references p w other h = record { held = refl; referred = refl; looked = refl }

module _ (p : Plan) (o : IsOrderly p) (w : PointState) (r : Reached p w) (a b : ActorName) (first : HasOwnProgram p a)
    (second : HasOwnProgram p b) (two : a ≡ b → ⊥) where
  -- two actors have two next jobs
  other_next : (j : ℕ) → next_job p w a ≡ Some j → next_job p w b ≡ Some j → ⊥
  other_next j x y = by_lanes (lane_of_actor a) refl (lane_of_actor b) refl x y
    where
      in_lane : (l : Lane) → next w.machine.progress.finished (jobs_of_lane p l) ≡ Some j →
          has (jobs_of_lane p l) j ≡ true
      in_lane l e = (next_in w.machine.progress.finished (jobs_of_lane p l) j e).0

      by_lanes : (l : Option Lane) → lane_of_actor a ≡ l → (m : Option Lane) → lane_of_actor b ≡ m →
          option_map_or (λ z. next w.machine.progress.finished (jobs_of_lane p z)) l None ≡ Some j →
          option_map_or (λ z. next w.machine.progress.finished (jobs_of_lane p z)) m None ≡ Some j → ⊥
      by_lanes None f m g u v = let z = u in cc
      by_lanes (Some l) f None g u v = let z = v in cc
      by_lanes (Some l) f (Some m) g u v =
          let same : l ≡ m = one_lane p o.well_formed l m j (in_lane l u) (in_lane m v) in
          two (one_actor a b l f (g ∙ ap Some (sym same)))

  module _ (before after : List Task) (holding : List Holding) (met : Bool) (c : IsCut p a before after)
      (s : Stands p w a before after holding met) where
    not_next : (j : ℕ) (js : List ℕ) → finishes after ≡ j ∷ js → next_job p w b ≡ Some j → ⊥
    not_next j js f = other_next j (job_is_next p a w before after c s.done s.left j js f)

    other_refer : (q e : ℕ) → CanCome p w (Refer b q e) →
        Stands p (after_event p w (Refer b q e)) a before after holding met
    other_refer q e can =
        stands_with p o w r a before after holding met (Refer b q e) can (λ t m own. own) s
        (λ j js f. other_refers p w a b before j (waited_now after) holding met (s.holds j js f)
        (other_name a b two) q e (not_next j js f))

    other_look : (q e : ℕ) → CanCome p w (Look b q e) →
        Stands p (after_event p w (Look b q e)) a before after holding met
    other_look q e can =
        stands_with p o w r a before after holding met (Look b q e) can (λ t m own. own) s
        (λ j js f. other_looks p w a b before j (waited_now after) holding met (s.holds j js f) (other_name a b two) q e
        (not_next j js f))

    other_unref : (q e : ℕ) → CanCome p w (Unref b q e) →
        Stands p (after_event p w (Unref b q e)) a before after holding met
    other_unref q e can =
        stands_with p o w r a before after holding met (Unref b q e) can (λ t m own. own) s
        (λ j js f. other_unrefers p w a b before j (waited_now after) holding met (s.holds j js f)
        (other_name a b two) q e can)

    other_task : (x : Event) → is_of_references x ≡ false → CanCome p w x →
        (t : Task) × Among t (program p b) × IsOf x t → Stands p (after_event p w x) a before after holding met
    other_task x plain can u =
        stands_still p o w r a before after holding met x can
        (λ t m own. two (programs_apart p o.well_formed a b first second t u.0 (c.own t m) u.1 x own u.2))
        (leaves_references p w x plain) s

    other_collects : (x : Event) → is_of_references x ≡ false → CanCome p w x → ((t : Task) → IsOf x t → ⊥) →
        Stands p (after_event p w x) a before after holding met
    other_collects x plain can none = stands_still p o w r a before after holding met x can (λ t m own. none t own)
        (leaves_references p w x plain) s

    -- Another actor's event leaves a true place true.
    pub stands_for_others : (x : Event) → CanCome p w x → IsEventOf p b x →
        Stands p (after_event p w x) a before after holding met
    stands_for_others (Refer d q e) can u = subst
        (λ (z : ActorName). CanCome p w (Refer z q e) → Stands p
        (after_event p w (Refer z q e)) a before after holding met) (sym u) (other_refer q e) can
    stands_for_others (Look d q e) can u = subst
        (λ (z : ActorName). CanCome p w (Look z q e) → Stands p
        (after_event p w (Look z q e)) a before after holding met) (sym u) (other_look q e) can
    stands_for_others (Unref d q e) can u = subst
        (λ (z : ActorName). CanCome p w (Unref z q e) → Stands p
        (after_event p w (Unref z q e)) a before after holding met) (sym u) (other_unref q e) can
    stands_for_others (Complete e) can u = other_collects (Complete e) refl can (λ t own. own)
    stands_for_others (Free q) can u = other_collects (Free q) refl can (λ t own. own)
    stands_for_others other can u = other_task other refl can u
