-- A step of one actor keeps what each program of the pass says of it.
use Rattle.std.proofs.Common.{◌≡◌, ℕ, ◌+◌, Bool, true, false, ◌==◌, List, [], ◌∷◌, Option, Some, None, take, drop, refl, sym, ap, ◌∙◌, subst, ◌⊎◌, inl, inr}
use Rattle.std.specs.List.{slice_get, list_all}
use Rattle.std.proofs.lemmas.Bool.{false≢true, and_parts, and_from, eqb-true, false_from_ne_true}
use Rattle.vq_ground.proofs.Lists.{all_weaker}
use Rattle.vq_model.specs.Checks.{IsLawful, is_immediate_batch}
use Rattle.vq_model.specs.LoweredPlans.{IsPlan}
use Rattle.vq_model.specs.Naming.{same_actor}
use Rattle.vq_model.specs.declared.plan.Lane.TheVariants.{Queue as QueueLane}
use Rattle.vq_model.specs.declared.script.ActorName.{ActorName}
use Rattle.vq_model.specs.declared.script.ActorName.TheVariants.{Host as HostActor, Submit as SubmitActor}
use Rattle.vq_model.specs.Outputs.{asking}
use Rattle.vq_model.specs.Plan.{Plan, of_job, same_lane}
use Rattle.vq_model.proofs.Actors.{same_actor_is, same_actor_self}
use Rattle.vq_turns.specs.declared.task.Task.{Task}
use Rattle.vq_turns.specs.declared.task.Task.TheVariants.{AwaitSubmitted, AwaitReleased, AwaitFinished, AwaitBound, AwaitNeeds, Submit, Take, Release, Bind, Start, Apply, Signal, Compare, Answer, Finish}
use Rattle.vq_turns.specs.Programs.{program, is_deferred_queue}
use Rattle.vq_turns.specs.Turns.{Place}
use Rattle.vq_turn_laws.specs.Tasks.{Among, AreApart, onto}
use Rattle.vq_turn_laws.proofs.Cited.{cut_at, next_cut, next_left, plan_orderly}
use Rattle.vq_actor.specs.Stages.{Serves}
use Rattle.vq_board_laws.specs.declared.view.View.{View}
use Rattle.vq_access_laws.specs.TrueTasks.{is_done, is_left}
use Rattle.vq_access_laws.specs.TruePasses.{AreTrue, HasDone, IsOwn, Moves, are_told_once, tasks_before, tasks_left}
use Rattle.vq_access_laws.proofs.Guards.{among_program}
use Rattle.vq_access_laws.proofs.ServedActors.{IsServed, itself, deferred, served_cases, not_both, one_queue}
use Rattle.vq_access_laws.proofs.StepRules.{mark, clash, differ_marks, KeepsLists, done_still, left_still, clash_none}
use Rattle.vq_access_laws.proofs.TaskKinds.{is_task_of, kind_of}

-- Marks of tasks of different actors

-- a submit actor's task has no mark, or releases a batch of its queue
data Submitters (p : Plan) (q : ℕ) : Task → Type 0 where
  unmarked : (t : Task) → mark t ≡ None → Submitters p q t
  releases : (j : ℕ) → of_job (λ x. same_lane (QueueLane q) x.lane) false p j ≡ true → Submitters p q (Release j)

submitters : (p : Plan) (q : ℕ) (t : Task) → is_task_of p (SubmitActor q) t ≡ true → Submitters p q t
submitters p q (AwaitSubmitted j) h = unmarked (AwaitSubmitted j) refl
submitters p q (AwaitReleased j) h = absurd (false≢true h)
submitters p q (AwaitFinished j) h = absurd (false≢true h)
submitters p q (AwaitBound e) h = unmarked (AwaitBound e) refl
submitters p q (AwaitNeeds ns) h = absurd (false≢true h)
submitters p q (Submit j) h = absurd (false≢true h)
submitters p q (Take e t) h = unmarked (Take e t) refl
submitters p q (Release j) h = releases j h
submitters p q (Bind e) h = unmarked (Bind e) refl
submitters p q (Start j) h = absurd (false≢true h)
submitters p q (Apply j c) h = absurd (false≢true h)
submitters p q (Signal e) h = absurd (false≢true h)
submitters p q (Compare t w) h = absurd (false≢true h)
submitters p q (Answer j asks) h = absurd (false≢true h)
submitters p q (Finish j) h = absurd (false≢true h)

-- a task of the host has no mark of a batch of a deferred queue
host_marks : (p : Plan) (q j : ℕ) (t : Task) → is_deferred_queue p q ≡ true →
    of_job (λ x. same_lane (QueueLane q) x.lane) false p j ≡ true → is_task_of p HostActor t ≡ true →
    (clash (mark t) (Some (1, j)) ≡ false) × (clash (Some (1, j)) (mark t) ≡ false)
host_marks p q j (AwaitSubmitted i) d m h = (refl, refl)
host_marks p q j (AwaitReleased i) d m h = (refl, refl)
host_marks p q j (AwaitFinished i) d m h = (refl, refl)
host_marks p q j (AwaitBound e) d m h = (refl, refl)
host_marks p q j (AwaitNeeds ns) d m h = (refl, refl)
host_marks p q j (Submit i) d m h = (refl, refl)
host_marks p q j (Take e t) d m h = (refl, refl)
host_marks p q j (Release i) d m h = (
  false_from_ne_true (i == j) (λ e. not_both p q j d m (subst (λ (z : ℕ). is_immediate_batch p z ≡ true) (eqb-true i j e) h)),
  false_from_ne_true (j == i) (λ e. not_both p q j d m (subst (λ (z : ℕ). is_immediate_batch p z ≡ true) (sym (eqb-true j i e)) h)),
)
host_marks p q j (Bind e) d m h = (refl, refl)
host_marks p q j (Start i) d m h = (refl, refl)
host_marks p q j (Apply i c) d m h = (refl, refl)
host_marks p q j (Signal e) d m h = (refl, refl)
host_marks p q j (Compare t w) d m h = (refl, refl)
host_marks p q j (Answer i asks) d m h = (refl, refl)
host_marks p q j (Finish i) d m h = (refl, refl)

-- Tasks of two actors that a pass serves have different marks.
module _ (p : Plan) where
  host_then : (q : ℕ) (t u : Task) → is_deferred_queue p q ≡ true → is_task_of p HostActor t ≡ true →
      Submitters p q u → clash (mark t) (mark u) ≡ false
  host_then q t u d h (unmarked x none) = ap (clash (mark t)) none ∙ clash_none (mark t)
  host_then q t u d h (releases j m) = (host_marks p q j t d m h).0

  then_host : (q : ℕ) (t u : Task) → is_deferred_queue p q ≡ true → Submitters p q t →
      is_task_of p HostActor u ≡ true → clash (mark t) (mark u) ≡ false
  then_host q t u d (unmarked x none) h = ap (λ (m : Option (ℕ × ℕ)). clash m (mark u)) none
  then_host q t u d (releases j m) h = (host_marks p q j u d m h).1

  two_queues : (q r : ℕ) (t u : Task) → (q ≡ r → ⊥) → Submitters p q t → Submitters p r u →
      clash (mark t) (mark u) ≡ false
  two_queues q r t u apart (unmarked x none) y = ap (λ (m : Option (ℕ × ℕ)). clash m (mark u)) none
  two_queues q r t u apart (releases j m) (unmarked x none) = ap (clash (Some (1, j))) none
  two_queues q r t u apart (releases j m) (releases i n) = false_from_ne_true (j == i) (λ e. apart (one_queue p q r j m
      (subst (λ (z : ℕ). of_job (λ x. same_lane (QueueLane r) x.lane) false p z ≡ true) (sym (eqb-true j i e)) n)))

  pub other_marks : (a b c : ActorName) → Serves p a b → Serves p a c → (b ≡ c → ⊥) → (t u : Task) →
      is_task_of p b t ≡ true → is_task_of p c u ≡ true → clash (mark t) (mark u) ≡ false
  other_marks a b c s r apart t u h g = by_cases (served_cases p a b s) (served_cases p a c r) apart h g
    where
      by_cases : {b c : ActorName} → IsServed p a b → IsServed p a c → (b ≡ c → ⊥) → is_task_of p b t ≡ true →
          is_task_of p c u ≡ true → clash (mark t) (mark u) ≡ false
      by_cases itself itself n h g = absurd (n refl)
      by_cases itself (deferred q host d) n h g =
          host_then q t u d (subst (λ (z : ActorName). is_task_of p z t ≡ true) host h) (submitters p q u g)
      by_cases (deferred q host d) itself n h g =
          then_host q t u d (submitters p q t h) (subst (λ (z : ActorName). is_task_of p z u ≡ true) host g)
      by_cases (deferred q host d) (deferred r host2 d2) n h g =
          two_queues q r t u (λ e. n (ap (λ (z : ℕ). SubmitActor z) e)) (submitters p q t h) (submitters p r u g)

-- Steps

pub is_same : (b c : ActorName) → (b ≡ c) ⊎ (b ≡ c → ⊥)
is_same b c = by_test (same_actor b c) refl
  where
    by_test : (x : Bool) → same_actor b c ≡ x → (b ≡ c) ⊎ (b ≡ c → ⊥)
    by_test true e = inl (same_actor_is b c e)
    by_test false e = inr (λ same. false≢true (sym e ∙ (ap (same_actor b) (sym same) ∙ same_actor_self b)))

left_all : (v w : View) (ts : List Task) → ((u : Task) → Among u ts → is_left v u ≡ true → is_left w u ≡ true) →
    list_all (is_left v) ts ≡ true → list_all (is_left w) ts ≡ true
left_all v w [] up h = refl
left_all v w (t ∷ ts) up h =
    let q = and_parts (is_left v t) (list_all (is_left v) ts) h in
    and_from (is_left w t) (list_all (is_left w) ts) (up t (inl refl) q.0) (left_all v w ts (λ u m. up u (inr m)) q.1)

module _ (p : Plan) (i : IsPlan p) (l : IsLawful p) (a : ActorName) (v w : View) (places after : ActorName → Place)
    (k : AreTrue p a v places) (b : ActorName) (s : Serves p a b) (y : Place) (moves : Moves places b y after)
    (same_role : w.role ≡ v.role) (told : are_told_once (asking p) w.told ≡ true) where
  same_place : (c : ActorName) (x : Place) → x.done ≡ (after c).done → HasDone p w (tasks_before p c x) (tasks_left p c x) →
      HasDone p w (tasks_before p c (after c)) (tasks_left p c (after c))
  same_place c x e h = subst (λ (n : ℕ). HasDone p w (onto (take n (program p c)) []) (drop n (program p c))) e h

  -- A step that does the next task of an actor keeps the truth of all programs, and with it that of the places.
  module _ (t : Task) (next : slice_get (program p b) (places b).done ≡ Some t) (on : y.done ≡ (places b).done + 1)
      (keeps : KeepsLists (mark t) v w) (now : is_done p w t ≡ true) where
    abbrev before : List Task
    before = tasks_before p b (places b)

    left_is : tasks_left p b (places b) ≡ t ∷ drop ((places b).done + 1) (program p b)
    left_is = next_left (places b).done (program p b) t next

    mover : HasDone p w (tasks_before p b y) (tasks_left p b y)
    mover =
        let old = k.served b s in
        let cut = next_cut (places b).done (program p b) t (drop ((places b).done + 1) (program p b)) left_is in
        let apart = subst AreApart left_is (cut_at p (plan_orderly p i l) b (places b).done).apart in
        let left = subst (λ (ts : List Task). list_all (is_left v) ts ≡ true) left_is old.left in
        let rest = and_parts (is_left v t) (list_all (is_left v) (drop ((places b).done + 1) (program p b))) left in
        let done : list_all (is_done p w) (t ∷ before) ≡ true =
        and_from (is_done p w t) (list_all (is_done p w) before) now
        (all_weaker (is_done p v) (is_done p w) before (done_still p (mark t) v w keeps) old.done) in
        let still : list_all (is_left w) (drop ((places b).done + 1) (program p b)) ≡ true =
        left_all v w (drop ((places b).done + 1) (program p b))
        (λ u m h. left_still p (mark t) v w keeps u (differ_marks t u (apart.0 u m)) h) rest.1 in
        subst (λ (n : ℕ). HasDone p w (onto (take n (program p b)) []) (drop n (program p b))) (sym on)
        record { done = subst (λ (ts : List Task). list_all (is_done p w) ts ≡ true) (sym cut.1) done; left = still }

    other : (c : ActorName) → Serves p a c → (c ≡ b → ⊥) → HasDone p w (tasks_before p c (places c)) (tasks_left p c (places c))
    other c r apart =
        let old = k.served c r in
        record {
          done = all_weaker (is_done p v) (is_done p w) (tasks_before p c (places c)) (done_still p (mark t) v w keeps) old.done;
          left = left_all v w (tasks_left p c (places c)) (λ u m h. left_still p (mark t) v w keeps u
              (other_marks p a b c s r (λ e. apart (sym e)) t u
              (kind_of p b t (among_program (places b).done (program p b) t next))
              (kind_of p c u ((cut_at p (plan_orderly p i l) c (places c).done).own u m))) h) old.left;
        }

    pub task_step : IsOwn p w (tasks_before p a (after a)) (tasks_left p a (after a)) (after a) → AreTrue p a w after
    task_step own = record {
      role = same_role ∙ k.role;
      told = told;
      own = own;
      served = λ c r. elim (is_same c b) [
        | inl e ↦ same_place c y (ap (λ (x : Place). x.done) (sym moves.here ∙ ap after (sym e)))
            (subst (λ (z : ActorName). HasDone p w (tasks_before p z y) (tasks_left p z y)) (sym e) mover)
        | inr n ↦ same_place c (places c) (ap (λ (x : Place). x.done) (sym (moves.others c n))) (other c r n)
      ];
    }

  -- A step that does no task keeps it too.
  module _ (on : y.done ≡ (places b).done) (keeps : KeepsLists None v w) where
    all_still : (c : ActorName) → Serves p a c → HasDone p w (tasks_before p c (places c)) (tasks_left p c (places c))
    all_still c r =
        let old = k.served c r in
        record {
          done = all_weaker (is_done p v) (is_done p w) (tasks_before p c (places c)) (done_still p None v w keeps) old.done;
          left = left_all v w (tasks_left p c (places c)) (λ u m h. left_still p None v w keeps u refl h) old.left;
        }

    pub stay_step : IsOwn p w (tasks_before p a (after a)) (tasks_left p a (after a)) (after a) → AreTrue p a w after
    stay_step own = record {
      role = same_role ∙ k.role;
      told = told;
      own = own;
      served = λ c r. elim (is_same c b) [
        | inl e ↦ same_place c (places c) (ap (λ (x : ActorName). (places x).done) e ∙ (sym on
            ∙ ap (λ (x : Place). x.done) (sym moves.here ∙ ap after (sym e)))) (all_still c r)
        | inr n ↦ same_place c (places c) (ap (λ (x : Place). x.done) (sym (moves.others c n))) (all_still c r)
      ];
    }
