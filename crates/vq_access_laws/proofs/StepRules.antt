-- What steps leave of the tasks that are done and of those that are left.
use Rattle.std.proofs.Common.{◌≡◌, ℕ, Bool, true, false, ◌&&◌, ◌||◌, ◌==◌, List, ◌∷◌, ◌++◌, Option, Some, None, refl, sym, ap, ◌∙◌, subst, is_some, option_map, find, if◌then◌else◌}
use Rattle.std.specs.List.{list_any}
use Rattle.std.proofs.lemmas.Bool.{and_parts, and_from, eq-eqb, eqb-true, or_from, or_right, not-true, not_from_false, false_from_ne_true}
use Rattle.vq_model.specs.declared.plan.Need.{Need}
use Rattle.vq_model.specs.declared.plan.Event.TheVariants.{Submit as Submits, Release as Releases, Start as Starts, Answer as AnswersAs}
use Rattle.vq_board_laws.specs.declared.view.Told.{Told}
use Rattle.vq_model.specs.declared.plan.Answer.{Answer as GivenAnswer}
use Rattle.vq_model.specs.declared.plan.Answer.TheVariants.{Reached as ReachedAnswer}
use Rattle.vq_model.specs.Plan.{Plan}
use Rattle.vq_ground.specs.Lists.{has}
use Rattle.vq_turns.specs.declared.task.Task.{Task}
use Rattle.vq_turns.specs.declared.task.Task.TheVariants.{AwaitSubmitted, AwaitReleased, AwaitFinished, AwaitBound, AwaitNeeds, Submit, Take, Release, Bind, Start, Apply, Signal, Compare, Answer, Finish}
use Rattle.vq_turn_laws.specs.Tasks.{Differ}
use Rattle.vq_board_laws.specs.declared.view.Fact.{Fact}
use Rattle.vq_board_laws.specs.declared.view.JobState.{JobState}
use Rattle.vq_board_laws.specs.declared.view.JobState.TheVariants.{Submitted, Released, Finished}
use Rattle.vq_board_laws.specs.declared.view.View.{View}
use Rattle.vq_board_laws.specs.Reached.{answer_told}
use Rattle.vq_board_laws.specs.Learning.{Grows}
use Rattle.vq_access_laws.specs.Tests.{knows_far, knows_bound, shows_reached}
use Rattle.vq_access_laws.specs.TrueTasks.{is_done, is_left}
use Rattle.vq_access_laws.proofs.TestLaws.{far_more, bound_more, any_more, reached_more}

-- A task that puts a job on one of the pass's own lists, by the list and the job.
abbrev pub mark : Task → Option (ℕ × ℕ)
mark (Submit j) = Some (0, j)
mark (Release j) = Some (1, j)
mark (Start j) = Some (2, j)
mark (Answer j asks) = Some (3, j)
mark other = None

abbrev pub clash : Option (ℕ × ℕ) → Option (ℕ × ℕ) → Bool
clash None m = false
clash (Some x) None = false
clash (Some x) (Some y) = (x.0 == y.0) && (x.1 == y.1)

pub clash_none : (m : Option (ℕ × ℕ)) → clash m None ≡ false
clash_none None = refl
clash_none (Some x) = refl

-- tasks without a common event have no common mark
pub differ_marks : (t u : Task) → Differ t u → clash (mark t) (mark u) ≡ false
differ_marks (AwaitSubmitted i) u d = refl
differ_marks (AwaitReleased i) u d = refl
differ_marks (AwaitFinished i) u d = refl
differ_marks (AwaitBound e) u d = refl
differ_marks (AwaitNeeds ns) u d = refl
differ_marks (Submit i) (AwaitSubmitted i2) d = refl
differ_marks (Submit i) (AwaitReleased i2) d = refl
differ_marks (Submit i) (AwaitFinished i2) d = refl
differ_marks (Submit i) (AwaitBound e2) d = refl
differ_marks (Submit i) (AwaitNeeds ns2) d = refl
differ_marks (Submit i) (Submit i2) d = false_from_ne_true (i == i2) (λ h. d (Submits i) refl (eqb-true i i2 h))
differ_marks (Submit i) (Take e2 t2) d = refl
differ_marks (Submit i) (Release i2) d = refl
differ_marks (Submit i) (Bind e2) d = refl
differ_marks (Submit i) (Start i2) d = refl
differ_marks (Submit i) (Apply i2 c2) d = refl
differ_marks (Submit i) (Signal e2) d = refl
differ_marks (Submit i) (Compare t2 w2) d = refl
differ_marks (Submit i) (Answer i2 asks2) d = refl
differ_marks (Submit i) (Finish i2) d = refl
differ_marks (Take e t) u d = refl
differ_marks (Release i) (AwaitSubmitted i2) d = refl
differ_marks (Release i) (AwaitReleased i2) d = refl
differ_marks (Release i) (AwaitFinished i2) d = refl
differ_marks (Release i) (AwaitBound e2) d = refl
differ_marks (Release i) (AwaitNeeds ns2) d = refl
differ_marks (Release i) (Submit i2) d = refl
differ_marks (Release i) (Take e2 t2) d = refl
differ_marks (Release i) (Release i2) d = false_from_ne_true (i == i2) (λ h. d (Releases i) refl (eqb-true i i2 h))
differ_marks (Release i) (Bind e2) d = refl
differ_marks (Release i) (Start i2) d = refl
differ_marks (Release i) (Apply i2 c2) d = refl
differ_marks (Release i) (Signal e2) d = refl
differ_marks (Release i) (Compare t2 w2) d = refl
differ_marks (Release i) (Answer i2 asks2) d = refl
differ_marks (Release i) (Finish i2) d = refl
differ_marks (Bind e) u d = refl
differ_marks (Start i) (AwaitSubmitted i2) d = refl
differ_marks (Start i) (AwaitReleased i2) d = refl
differ_marks (Start i) (AwaitFinished i2) d = refl
differ_marks (Start i) (AwaitBound e2) d = refl
differ_marks (Start i) (AwaitNeeds ns2) d = refl
differ_marks (Start i) (Submit i2) d = refl
differ_marks (Start i) (Take e2 t2) d = refl
differ_marks (Start i) (Release i2) d = refl
differ_marks (Start i) (Bind e2) d = refl
differ_marks (Start i) (Start i2) d = false_from_ne_true (i == i2) (λ h. d (Starts i) refl (eqb-true i i2 h))
differ_marks (Start i) (Apply i2 c2) d = refl
differ_marks (Start i) (Signal e2) d = refl
differ_marks (Start i) (Compare t2 w2) d = refl
differ_marks (Start i) (Answer i2 asks2) d = refl
differ_marks (Start i) (Finish i2) d = refl
differ_marks (Apply i c) u d = refl
differ_marks (Signal e) u d = refl
differ_marks (Compare t w) u d = refl
differ_marks (Answer i asks) (AwaitSubmitted i2) d = refl
differ_marks (Answer i asks) (AwaitReleased i2) d = refl
differ_marks (Answer i asks) (AwaitFinished i2) d = refl
differ_marks (Answer i asks) (AwaitBound e2) d = refl
differ_marks (Answer i asks) (AwaitNeeds ns2) d = refl
differ_marks (Answer i asks) (Submit i2) d = refl
differ_marks (Answer i asks) (Take e2 t2) d = refl
differ_marks (Answer i asks) (Release i2) d = refl
differ_marks (Answer i asks) (Bind e2) d = refl
differ_marks (Answer i asks) (Start i2) d = refl
differ_marks (Answer i asks) (Apply i2 c2) d = refl
differ_marks (Answer i asks) (Signal e2) d = refl
differ_marks (Answer i asks) (Compare t2 w2) d = refl
differ_marks (Answer i asks) (Answer i2 asks2) d = false_from_ne_true (i == i2) (λ h. d (AnswersAs i ReachedAnswer) refl (eqb-true i i2 h))
differ_marks (Answer i asks) (Finish i2) d = refl
differ_marks (Finish i) u d = refl

-- What a step leaves of each list: the jobs on it stay, and others come to it only by the task's mark.
pub record KeepsList (n : ℕ) (m : Option (ℕ × ℕ)) (old new : ℕ → Bool) : Type 0 where
  pub stay : (j : ℕ) → old j ≡ true → new j ≡ true
  pub come : (j : ℕ) → clash m (Some (n, j)) ≡ false → old j ≡ false → new j ≡ false

pub list_same : (n : ℕ) (m : Option (ℕ × ℕ)) (old : ℕ → Bool) → KeepsList n m old old
list_same n m old = record { stay = λ j h. h; come = λ j c h. h }

pub list_push : (n i : ℕ) (xs : List ℕ) → KeepsList n (Some (n, i)) (has xs) (has (i ∷ xs))
list_push n i xs = record {
  stay = λ j h. or_right (i == j) (has xs j) h;
  come = λ j c h. or_from (i == j) (has xs j) (other j c) h;
}
  where
    other : (j : ℕ) → ((n == n) && (i == j)) ≡ false → (i == j) ≡ false
    other j c = sym (ap (λ (b : Bool). b && (i == j)) (eq-eqb n n refl)) ∙ c

-- an answer more
pub told_push : (i : ℕ) (a : GivenAnswer) (xs : List Told) →
    KeepsList 3 (Some (3, i)) (λ j. is_some (answer_told xs j)) (λ j. is_some (answer_told (record { job = i; answer = a } ∷ xs) j))
told_push i a xs = record {
  stay = λ j h. one j ∙ or_right (i == j) (is_some (answer_told xs j)) h;
  come = λ j c h. one j ∙ or_from (i == j) (is_some (answer_told xs j)) (other j c) h;
}
  where
    other : (j : ℕ) → ((3 == 3) && (i == j)) ≡ false → (i == j) ≡ false
    other j c = c

    one : (j : ℕ) → is_some (answer_told (record { job = i; answer = a } ∷ xs) j) ≡ ((i == j) || is_some (answer_told xs j))
    one j = by_test (i == j)
      where
        by_test : (b : Bool) →
            is_some (option_map (λ x. x.answer) (if b then Some (record { job = i; answer = a }) else find (λ x. x.job == j) xs))
            ≡ (b || is_some (answer_told xs j))
        by_test true = refl
        by_test false = refl

-- the pass after a step knows more, and its lists are kept so
pub record KeepsLists (m : Option (ℕ × ℕ)) (v w : View) : Type 0 where
  pub known : Grows v.known w.known
  pub submitted : KeepsList 0 m (has v.submitted) (has w.submitted)
  pub released : KeepsList 1 m (has v.released) (has w.released)
  pub begun : KeepsList 2 m (has v.begun) (has w.begun)
  pub told : KeepsList 3 m (λ j. is_some (answer_told v.told j)) (λ j. is_some (answer_told w.told j))

module _ (p : Plan) (m : Option (ℕ × ℕ)) (v w : View) (k : KeepsLists m v w) where
  far : (j : ℕ) (s : JobState) → knows_far v.known j s ≡ true → knows_far w.known j s ≡ true
  far j s h = subst (λ (fs : List Fact). knows_far fs j s ≡ true) (sym k.known.1) (far_more k.known.0 v.known j s h)

  bounds : (e : ℕ) → knows_bound v.known e ≡ true → knows_bound w.known e ≡ true
  bounds e h = subst (λ (fs : List Fact). knows_bound fs e ≡ true) (sym k.known.1) (bound_more k.known.0 v.known e h)

  pub reaches : (ns : List Need) → list_any (shows_reached p v.known) ns ≡ true → list_any (shows_reached p w.known) ns ≡ true
  reaches ns h = subst (λ (fs : List Fact). list_any (shows_reached p fs) ns ≡ true) (sym k.known.1)
      (any_more (shows_reached p v.known) (shows_reached p (k.known.0 ++ v.known)) ns
      (λ n t. reached_more p k.known.0 v.known n t) h)

  -- what is done stays done
  pub done_still : (t : Task) → is_done p v t ≡ true → is_done p w t ≡ true
  done_still (AwaitSubmitted i) h = far i Submitted h
  done_still (AwaitReleased i) h = far i Released h
  done_still (AwaitFinished i) h = far i Finished h
  done_still (AwaitBound e) h = bounds e h
  done_still (AwaitNeeds ns) h = reaches ns h
  done_still (Submit i) h =
      let q = and_parts (has v.submitted i) (knows_far v.known i Submitted) h in
      and_from (has w.submitted i) (knows_far w.known i Submitted) (k.submitted.stay i q.0) (far i Submitted q.1)
  done_still (Take e t) h = h
  done_still (Release i) h = k.released.stay i h
  done_still (Bind e) h = h
  done_still (Start i) h = k.begun.stay i h
  done_still (Apply i c) h = h
  done_still (Signal e) h = h
  done_still (Compare t w) h = h
  done_still (Answer i asks) h = k.told.stay i h
  done_still (Finish i) h = far i Finished h

  -- what is left stays left, where it has not the step's mark
  pub left_still : (u : Task) → clash m (mark u) ≡ false → is_left v u ≡ true → is_left w u ≡ true
  left_still (AwaitSubmitted i) c h = h
  left_still (AwaitReleased i) c h = h
  left_still (AwaitFinished i) c h = h
  left_still (AwaitBound e) c h = h
  left_still (AwaitNeeds ns) c h = h
  left_still (Submit i) c h = not_from_false (has w.submitted i) (k.submitted.come i c (not-true (has v.submitted i) h))
  left_still (Take e t) c h = h
  left_still (Release i) c h = not_from_false (has w.released i) (k.released.come i c (not-true (has v.released i) h))
  left_still (Bind e) c h = h
  left_still (Start i) c h = not_from_false (has w.begun i) (k.begun.come i c (not-true (has v.begun i) h))
  left_still (Apply i d) c h = h
  left_still (Signal e) c h = h
  left_still (Compare t w) c h = h
  left_still (Answer i asks) c h = not_from_false (is_some (answer_told w.told i)) (k.told.come i c (not-true (is_some (answer_told v.told i)) h))
  left_still (Finish i) c h = h
