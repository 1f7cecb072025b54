-- For a job nothing is referred to before the jobs before it in its lane are finished.
use Rattle.std.proofs.Common.{◌≡◌, ℕ, zero, suc, ◌<◌, Bool, true, false, not, List, [], ◌∷◌, ◌++◌, length, Option, Some}
use Rattle.std.proofs.Common.{None, refl, sym, subst, ap, ◌∙◌, inl, inr, arith}
use Rattle.std.specs.List.{range_with_len, slice_get}
use Rattle.std.specs.Option.{option_map_or}
use Rattle.std.proofs.lemmas.Bool.{false≢true, eqb-true, cases_eq}
use Rattle.std.proofs.lemmas.Option.{same_Some}
use Rattle.vq_ground.proofs.Filters.{filter-has_cases}
use Rattle.vq_model.specs.declared.script.ActorName.{ActorName}
use Rattle.vq_model.specs.declared.plan.Lane.{Lane}
use Rattle.vq_model.specs.declared.plan.Lane.TheVariants.{Host as HostLane, Queue as QueueLane}
use Rattle.vq_model.specs.declared.plan.PlanJob.{PlanJob}
use Rattle.vq_model.specs.declared.plan.Event.{Event}
use Rattle.vq_model.specs.declared.plan.Event.TheVariants.{Refer}
use Rattle.vq_model.specs.Plan.{Plan, of_job, same_lane}
use Rattle.vq_ground.specs.Lists.{has, AreRising}
use Rattle.vq_model.specs.WellFormed.{IsWellFormed}
use Rattle.vq_model.specs.Machine.{next}
use Rattle.vq_ground.proofs.Lists.{has_here, has_cases, has-append_left, has-append_right, has-append_cases}
use Rattle.vq_ground.proofs.Searches.{find_splits}
use Rattle.vq_point_laws.specs.Points.{PointState, opening_points, jobs_of_lane, lane_of_actor, next_job, count_of, CanCome}
use Rattle.vq_point_laws.specs.Points.{after_event}
use Rattle.vq_turn_laws.specs.Worlds.{RefersInTurn}
use Rattle.vq_turn_laws.proofs.Apart.{lane_rises}
use Rattle.vq_turn_laws.proofs.HoldingLaws.{noted_away}
use Rattle.vq_turn_laws.proofs.PlaceLaws.{finished_stays}

pub turn_opening : (p : Plan) → RefersInTurn p (opening_points p)
turn_opening p = λ i e l. absurd (omega arith)

before_it : (front : List ℕ) (j : ℕ) (back : List ℕ) → AreRising (front ++ j ∷ back) → (y : ℕ) → has front y ≡ true →
    y < j
before_it [] j back r y m = absurd (false≢true m)
before_it (x ∷ xs) j back r y m =
    elim (has_cases x xs y m) [
      | inl e ↦ subst (λ (z : ℕ). z < j) e (r.0 j (has-append_right xs (j ∷ back) j (has_here j back)))
      | inr o ↦ before_it xs j back r.1 y o
    ]

behind_it : (front : List ℕ) (j : ℕ) (back : List ℕ) → AreRising (front ++ j ∷ back) → (y : ℕ) → has back y ≡ true →
    j < y
behind_it [] j back r y m = r.0 y m
behind_it (x ∷ xs) j back r y m = behind_it xs j back r.1 y m

module _ (p : Plan) (wf : IsWellFormed p) where
  lane_is : (lane : Lane) (j : ℕ) → has (jobs_of_lane p lane) j ≡ true →
      (x : PlanJob) × (slice_get p.jobs j ≡ Some x) × (same_lane lane x.lane ≡ true)
  lane_is lane j m = by_job (slice_get p.jobs j) refl
      (filter-has_cases (λ i. of_job (λ x. same_lane lane x.lane) false p i) (range_with_len 0 (length p.jobs)) j m).1
    where
      by_job : (o : Option PlanJob) → slice_get p.jobs j ≡ o →
          option_map_or (λ x. same_lane lane x.lane) o false ≡ true →
          (x : PlanJob) × (slice_get p.jobs j ≡ Some x) × (same_lane lane x.lane ≡ true)
      by_job None is h = absurd (false≢true h)
      by_job (Some x) is h = (x, is, h)

  same_name : (l m n : Lane) → same_lane l n ≡ true → same_lane m n ≡ true → l ≡ m
  same_name HostLane HostLane n a b = refl
  same_name HostLane (QueueLane r) HostLane a b = absurd (false≢true b)
  same_name HostLane (QueueLane r) (QueueLane s) a b = absurd (false≢true a)
  same_name (QueueLane q) HostLane HostLane a b = absurd (false≢true a)
  same_name (QueueLane q) HostLane (QueueLane s) a b = absurd (false≢true b)
  same_name (QueueLane q) (QueueLane r) HostLane a b = absurd (false≢true a)
  same_name (QueueLane q) (QueueLane r) (QueueLane s) a b = ap (λ (z : ℕ). QueueLane z)
      (eqb-true q s a ∙ sym (eqb-true r s b))

  pub one_lane : (l m : Lane) (j : ℕ) → has (jobs_of_lane p l) j ≡ true → has (jobs_of_lane p m) j ≡ true → l ≡ m
  one_lane l m j a b =
      let x = lane_is l j a in
      let y = lane_is m j b in
      let same : x.0 ≡ y.0 = let u = sym x.1 ∙ y.1 in cc in
      same_name l m x.0.lane x.2 (subst (λ (z : PlanJob). same_lane m z.lane ≡ true) (sym same) y.2)

  -- the jobs before an actor's next one are finished
  earlier_finished : (w : PointState) (a : ActorName) (j : ℕ) → next_job p w a ≡ Some j →
      (lane : Lane) (front back : List ℕ) → jobs_of_lane p lane ≡ front ++ j ∷ back → (y : ℕ) → has front y ≡ true →
      w.machine.progress.finished y ≡ true
  earlier_finished w a j h lane front back whole y m = by_lane (lane_of_actor a) h
    where
      rises : AreRising (front ++ j ∷ back)
      rises = subst AreRising whole (lane_rises p wf lane)

      by_lane : (o : Option Lane) →
          option_map_or (λ l. next w.machine.progress.finished (jobs_of_lane p l)) o None ≡ Some j →
          w.machine.progress.finished y ≡ true
      by_lane None e = absurd (let z = e in cc)
      by_lane (Some l) e =
          let f = find_splits (λ x. not (w.machine.progress.finished x)) (jobs_of_lane p l) j e in
          let here : has (jobs_of_lane p l) j ≡ true = subst (λ us. has us j ≡ true) (sym f.whole)
          (has-append_right f.front (j ∷ f.back) j (has_here j f.back)) in
          let there : has (jobs_of_lane p lane) j ≡ true = subst (λ us. has us j ≡ true) (sym whole)
          (has-append_right front (j ∷ back) j (has_here j back)) in
          let same : l ≡ lane = one_lane l lane j here there in
          let in_list : has (f.front ++ j ∷ f.back) y ≡ true = subst (λ us. has us y ≡ true)
          (sym whole ∙ (ap (jobs_of_lane p) (sym same) ∙ f.whole)) (has-append_left front (j ∷ back) y m) in
          let less = before_it front j back rises y m in
          elim (has-append_cases f.front (j ∷ f.back) y in_list) [
            | inl t ↦ unless (w.machine.progress.finished y) (f.fail y t)
            | inr t ↦ elim (has_cases j f.back y t) [
              | inl s ↦ absurd (omega arith)
              | inr r ↦ let more = behind_it f.front j f.back
                  (subst AreRising f.whole (lane_rises p wf l)) y r in absurd (omega arith)
            ]
          ]
        where
          unless : (b : Bool) → not b ≡ false → b ≡ true
          unless true n = refl
          unless false n = absurd (false≢true (sym n))

  pub turn_stays : (w : PointState) → RefersInTurn p w → (x : Event) → CanCome p w x →
      RefersInTurn p (after_event p w x)
  turn_stays w k (Refer a q e) g i f l lane front back whole y m =
      elim (cases_eq i g.job) [
        | inl s ↦ earlier_finished w a i (g.is_next ∙ ap Some (sym s)) lane front back whole y m
        | inr n ↦
            let c = noted_away p w w.referred a e i f (λ h. n (same_Some i g.job (sym h ∙ g.is_next))) in
            k i f (omega arith) lane front back whole y m
      ]
  turn_stays w k other g i f l lane front back whole y m = finished_stays p w other y
      (k i f l lane front back whole y m)

-- For a job behind one that isn't finished nothing was referred to.
pub not_referred : (p : Plan) (w : PointState) → RefersInTurn p w → (lane : Lane) (front back : List ℕ) (i j e : ℕ) →
    jobs_of_lane p lane ≡ front ++ i ∷ back → has front j ≡ true → w.machine.progress.finished j ≡ false →
    count_of (w.referred i) e ≡ 0
not_referred p w k lane front back i j e whole m n = by_count (count_of (w.referred i) e) refl
  where
    by_count : (c : ℕ) → count_of (w.referred i) e ≡ c → c ≡ 0
    by_count zero s = refl
    by_count (suc c) s = absurd (false≢true (sym n ∙ k i e (omega arith) lane front back whole j m))
