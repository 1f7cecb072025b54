-- The places stay true of the pass as its own actor starts, applies, signals, compares, answers and finishes.
use Rattle.std.proofs.Common.{◌≡◌, ℕ, suc, ◌+◌, Bool, true, List, [], ◌∷◌, ◌++◌, Option, Some, None, refl, sym, ap, ◌∙◌, subst, arith, drop, is_some, option_map, find, if◌then◌else◌, ◌==◌}
use Rattle.std.specs.List.{slice_get}
use Rattle.std.proofs.lemmas.Bool.{false≢true, and_parts, and_from, eq-eqb}
use Rattle.std.proofs.lemmas.Option.{same_Some}
use Rattle.vq_board_laws.proofs.Cited.{learns_recall}
use Rattle.vq_model.specs.Checks.{IsLawful}
use Rattle.vq_model.specs.LoweredPlans.{IsPlan}
use Rattle.vq_model.specs.Memory.{Memory}
use Rattle.vq_model.specs.declared.plan.Answer.{Answer as GivenAnswer}
use Rattle.vq_model.specs.declared.plan.Question.{Question}
use Rattle.vq_model.specs.declared.script.ActorName.{ActorName}
use Rattle.vq_model.specs.Outputs.{asking}
use Rattle.vq_model.specs.Plan.{Plan}
use Rattle.vq_ground.specs.Lists.{has}
use Rattle.vq_ground.proofs.Lists.{has_here}
use Rattle.vq_turns.specs.declared.look.Seen.{Seen}
use Rattle.vq_turns.specs.declared.task.Task.{Task}
use Rattle.vq_turns.specs.declared.task.Task.TheVariants.{Start, Apply, Signal, Compare, Answer, Finish}
use Rattle.vq_turns.specs.Programs.{program}
use Rattle.vq_turns.specs.Turns.{Place, forward, seeing}
use Rattle.vq_turn_laws.specs.Orders.{AsksCompare}
use Rattle.vq_turn_laws.specs.Running.{Running, runs_after, runs_on, InTurn, IsRunnerOf}
use Rattle.vq_turn_laws.specs.Tasks.{waited_now, compared_now}
use Rattle.vq_actor.specs.Answers.{answered}
use Rattle.vq_actor.specs.Stages.{Serves}
use Rattle.vq_board_laws.specs.declared.view.Fact.TheVariants.{Job, Made}
use Rattle.vq_board_laws.specs.declared.view.JobState.TheVariants.{Started, Finished}
use Rattle.vq_board_laws.specs.declared.view.OpState.{OpState}
use Rattle.vq_board_laws.specs.declared.view.Told.{Told}
use Rattle.vq_board_laws.specs.declared.view.View.{View}
use Rattle.vq_board_laws.specs.PointSteps.{answers, signals, recalls}
use Rattle.vq_board_laws.specs.Reached.{answer_told}
use Rattle.vq_board_laws.specs.Steps.{starts, finishes, takes_turn, enters, gives_turn}
use Rattle.vq_board_laws.specs.Learning.{Learns}
use Rattle.vq_access_laws.specs.Tests.{saw_value, saw_values}
use Rattle.vq_access_laws.specs.TrueTasks.{is_done}
use Rattle.vq_access_laws.specs.TruePasses.{AreTrue, RunsAs, Moves, are_told_once, tasks_before}
use Rattle.vq_access_laws.proofs.Guards.{answered_asks, asks, none_held, not_done, runner_own, turn}
use Rattle.vq_access_laws.proofs.OwnRules.{IsUnasked, holds_nothing, own_here, own_moved, own_on, own_kept, rest_unseen, learned_own, learned_lists, learned_role, learned_told}
use Rattle.vq_access_laws.proofs.PlainSteps.{true_learned}
use Rattle.vq_access_laws.proofs.ServedActors.{serves_itself}
use Rattle.vq_access_laws.proofs.ServedSteps.{task_step}
use Rattle.vq_access_laws.proofs.StepRules.{KeepsLists, mark, list_push, list_same, told_push}
use Rattle.vq_access_laws.proofs.TestLaws.{far_here}
use Rattle.vq_access_laws.proofs.ToldLaws.{told_more}

-- What is run

runs_started : (v : View) (j : ℕ) (r : Option Running) → RunsAs (starts v j) (runs_on (Start j) r)
runs_started v j r = record {
  job = refl;
  counts = λ y is.
      let same : (record { job = j; commands = 0; signals = 0 }) ≡ y = same_Some (record { job = j; commands = 0; signals = 0 }) y is in
      (ap (λ (z : Running). z.commands) same, ap (λ (z : Running). z.signals) same);
}

runs_finished : (v : View) (j : ℕ) (r : Option Running) → RunsAs (finishes v j) (runs_on (Finish j) r)
runs_finished v j r = record { job = refl; counts = λ y is. absurd (let z = is in cc) }

module _ (p : Plan) (R : ℕ → Type 0) where
  runs_applied : (v : View) (j c n m : ℕ) (bytes more : Memory) (r : Option Running) → InTurn p R (Apply j c) r → RunsAs v r →
      RunsAs (gives_turn (enters (takes_turn v n bytes) c m more)) (runs_on (Apply j c) r)
  runs_applied v j c n m bytes more None t h = absurd t
  runs_applied v j c n m bytes more (Some x) t h = record {
    job = h.job;
    counts = λ y is.
        let same : (record x { commands = suc x.commands }) ≡ y = same_Some (record x { commands = suc x.commands }) y is in
        let old = h.counts x refl in
        (ap suc old.0 ∙ ap (λ (z : Running). z.commands) same, old.1 ∙ ap (λ (z : Running). z.signals) same);
  }

  runs_signaled : (v : View) (e q n : ℕ) (r : Option Running) → InTurn p R (Signal e) r → RunsAs v r →
      RunsAs (signals v e q n) (runs_on (Signal e) r)
  runs_signaled v e q n None t h = absurd t
  runs_signaled v e q n (Some x) t h = record {
    job = h.job;
    counts = λ y is.
        let same : (record x { signals = suc x.signals }) ≡ y = same_Some (record x { signals = suc x.signals }) y is in
        let old = h.counts x refl in
        (old.0 ∙ ap (λ (z : Running). z.commands) same, ap suc old.1 ∙ ap (λ (z : Running). z.signals) same);
  }

-- what was seen, with a value more
saw_push : (p : Plan) (v : View) (qs : List (ℕ × ℕ)) (xs : List Seen) (a : ℕ × ℕ) (x : Seen) → saw_values p v qs xs ≡ true →
    saw_value p v a x ≡ true → saw_values p v (qs ++ a ∷ []) (xs ++ x ∷ []) ≡ true
saw_push p v [] [] a x h k = and_from (saw_value p v a x) true k refl
saw_push p v [] (y ∷ ys) a x h k = absurd (false≢true h)
saw_push p v (b ∷ qs) [] a x h k = absurd (false≢true h)
saw_push p v (b ∷ qs) (y ∷ ys) a x h k =
    let q = and_parts (saw_value p v b y) (saw_values p v qs ys) h in
    and_from (saw_value p v b y) (saw_values p v (qs ++ a ∷ []) (ys ++ x ∷ [])) q.0 (saw_push p v qs ys a x q.1 k)

told_here : (told : List Told) (j : ℕ) (r : GivenAnswer) → is_some (answer_told (record { job = j; answer = r } ∷ told) j) ≡ true
told_here told j r = ap (λ (b : Bool). is_some (option_map (λ (x : Told). x.answer)
    (if b then Some (record { job = j; answer = r }) else find (λ (x : Told). x.job == j) told))) (eq-eqb j j refl)

module _ (p : Plan) (i : IsPlan p) (l : IsLawful p) (a : ActorName) (v : View) (places : ActorName → Place)
    (k : AreTrue p a v places) (after : ActorName → Place) where
  abbrev x : Place
  x = places a

  abbrev before : List Task
  before = tasks_before p a (places a)

  abbrev behind : List Task
  behind = drop ((places a).done + 1) (program p a)

  abbrev self : Serves p a a
  self = serves_itself p a

  -- a task of the job that is run
  own_step : (w : View) (t : Task) → slice_get (program p a) (places a).done ≡ Some t → IsUnasked t →
      KeepsLists (mark t) v w → w.role ≡ v.role → are_told_once (asking p) w.told ≡ true → w.refs ≡ v.refs →
      w.held ≡ None → is_done p w t ≡ true →
      RunsAs w (runs_after (t ∷ before)) → Moves places a (forward (places a)) after → AreTrue p a w after
  own_step w t next u lists role told refs held now runs moves =
      task_step p i l a v w places after k a self (forward x) moves role told t next refl lists now
      (own_moved p a w x (forward x) (after a) t next refl moves.here
      (own_on p v w t before behind x u refs held runs (own_here p a v x t next k.own)))

  own_started : (j : ℕ) → slice_get (program p a) (places a).done ≡ Some (Start j) → Moves places a (forward (places a)) after →
      AreTrue p a (starts v j) after
  own_started j next moves = own_step (starts v j) (Start j) next
      record { waiting = λ _. refl; waited = λ _. refl; asking = λ _. refl; compared = λ _. refl }
      record {
        known = (Job j Started ∷ [], refl);
        submitted = list_same 0 _ (has v.submitted);
        released = list_same 1 _ (has v.released);
        begun = list_push 2 j v.begun;
        told = list_same 3 _ _;
      }
      refl k.told refl k.own.turnless (has_here j v.begun) (runs_started v j (runs_after before)) moves

  own_applied : (j c n m : ℕ) (bytes more : Memory) → slice_get (program p a) (places a).done ≡ Some (Apply j c) →
      Moves places a (forward (places a)) after → AreTrue p a (gives_turn (enters (takes_turn v n bytes) c m more)) after
  own_applied j c n m bytes more next moves =
      own_step (gives_turn (enters (takes_turn v n bytes) c m more)) (Apply j c) next
      record { waiting = λ _. refl; waited = λ _. refl; asking = λ _. refl; compared = λ _. refl }
      record {
        known = ([], refl);
        submitted = list_same 0 _ (has v.submitted);
        released = list_same 1 _ (has v.released);
        begun = list_same 2 _ (has v.begun);
        told = list_same 3 _ _;
      }
      refl k.told refl refl refl (runs_applied p (IsRunnerOf p a) v j c n m bytes more (runs_after before)
      (turn p i l a v places k a self (Apply j c) next) k.own.runs) moves

  own_signaled : (e q n : ℕ) → slice_get (program p a) (places a).done ≡ Some (Signal e) →
      Moves places a (forward (places a)) after → AreTrue p a (signals v e q n) after
  own_signaled e q n next moves = own_step (signals v e q n) (Signal e) next
      record { waiting = λ _. refl; waited = λ _. refl; asking = λ _. refl; compared = λ _. refl }
      record {
        known = (Made e ∷ [], refl);
        submitted = list_same 0 _ (has v.submitted);
        released = list_same 1 _ (has v.released);
        begun = list_same 2 _ (has v.begun);
        told = list_same 3 _ _;
      }
      refl k.told refl k.own.turnless refl (runs_signaled p (IsRunnerOf p a) v e q n (runs_after before)
      (turn p i l a v places k a self (Signal e) next) k.own.runs) moves

  own_finished : (j : ℕ) → slice_get (program p a) (places a).done ≡ Some (Finish j) →
      Moves places a (forward (places a)) after → AreTrue p a (finishes v j) after
  own_finished j next moves = own_step (finishes v j) (Finish j) next
      record { waiting = λ _. refl; waited = λ _. refl; asking = λ _. refl; compared = λ _. refl }
      record {
        known = (Job j Finished ∷ [], refl);
        submitted = list_same 0 _ (has v.submitted);
        released = list_same 1 _ (has v.released);
        begun = list_same 2 _ (has v.begun);
        told = list_same 3 _ _;
      }
      refl k.told refl k.own.turnless (far_here v.known j Finished Finished (omega arith)) (runs_finished v j (runs_after before)) moves

  own_answered : (j : ℕ) (question : Question) (r : GivenAnswer) →
      slice_get (program p a) (places a).done ≡ Some (Answer j question) → Moves places a (answered (places a)) after →
      AreTrue p a (answers v j r) after
  own_answered j question r next moves =
      task_step p i l a v (answers v j r) places after k a self (answered x) moves refl
      (told_more (asking p) v.told j r (answered_asks p i l a v places k a self j question next)
      (not_done p i l a v places k a self (Answer j question) next) k.told) (Answer j question) next refl
      record {
        known = ([], refl);
        submitted = list_same 0 _ (has v.submitted);
        released = list_same 1 _ (has v.released);
        begun = list_same 2 _ (has v.begun);
        told = told_push j r v.told;
      }
      (told_here v.told j r)
      (own_moved p a (answers v j r) x (answered x) (after a) (Answer j question) next refl moves.here
      (let h = own_kept p v (answers v j r) before (Answer j question ∷ behind) x
      record { runs = refl; entered = refl; signaled = refl; turn = refl; refs = refl; known = ([], refl); unmade = ([], refl) }
      (own_here p a v x (Answer j question) next k.own) in
      let none = none_held p x.holding h.holds.for_needs in
      let unmet = h.rest.met refl in
      record {
        runs = h.runs;
        turnless = h.turnless;
        holds = holds_nothing p (answers v j r) [] (waited_now behind) x (answered x) none none unmet h.holds;
        rest = rest_unseen p (answers v j r) (Answer j question ∷ before) behind (answered x) refl refl unmet;
      }))

  -- a value was read, and what the next comparison saw is so
  own_compared : (w : View) (t wanted past : ℕ) → slice_get (program p a) (places a).done ≡ Some (Compare t wanted) →
      Learns v w → saw_value p w (t, wanted) (record { wanted = wanted; past = past }) ≡ true →
      Moves places a (seeing (places a) wanted past) after → AreTrue p a w after
  own_compared w t wanted past next learned saw moves =
      task_step p i l a v w places after k a self (seeing x wanted past) moves (learned_role v w learned)
      (learned_told v w learned (asking p) k.told) (Compare t wanted) next refl
      (learned_lists v w learned None) refl
      (own_moved p a w x (seeing x wanted past) (after a) (Compare t wanted) next refl moves.here
      (let h = own_kept p v w before (Compare t wanted ∷ behind) x (learned_own v w learned) (own_here p a v x (Compare t wanted) next k.own) in
      let none = none_held p x.holding h.holds.for_needs in
      let unmet = h.rest.met refl in
      let order : AsksCompare before behind = asks p i l a v places k a self (Compare t wanted) next in
      record {
        runs = h.runs;
        turnless = h.turnless;
        holds = holds_nothing p w [] (waited_now behind) x (seeing x wanted past) none none unmet h.holds;
        rest = record {
          met = λ _. unmet;
          saw = λ _. saw_push p w (compared_now before) x.seen (t, wanted) (record { wanted = wanted; past = past }) (h.rest.saw refl) saw;
          unseen = λ is. absurd (false≢true (sym is ∙ order.asking));
        };
      }))

-- For whichever actor it is that the pass serves.
module _ (p : Plan) (i : IsPlan p) (l : IsLawful p) (a : ActorName) (v : View) (places : ActorName → Place)
    (k : AreTrue p a v places) (b : ActorName) (s : Serves p a b) (after : ActorName → Place) where
  -- what holds for the pass's own actor
  to_own : (y : Place → Place) (w : View) (t : Task) →
      (slice_get (program p a) (places a).done ≡ Some t → Moves places a (y (places a)) after → AreTrue p a w after) →
      slice_get (program p b) (places b).done ≡ Some t → b ≡ a → Moves places b (y (places b)) after → AreTrue p a w after
  to_own y w t f next e moves = f
      (subst (λ (c : ActorName). slice_get (program p c) (places c).done ≡ Some t) e next)
      (subst (λ (c : ActorName). Moves places c (y (places c)) after) e moves)

  pub true_started : (j : ℕ) → slice_get (program p b) (places b).done ≡ Some (Start j) →
      Moves places b (forward (places b)) after → AreTrue p a (starts v j) after
  true_started j next moves = to_own forward (starts v j) (Start j) (own_started p i l a v places k after j) next
      (runner_own p i l a v places k b s (Start j) next (λ q. refl)) moves

  -- the turn over the buffers was taken and given back, with the command entered between
  pub true_applied : (j c n m : ℕ) (bytes more : Memory) → slice_get (program p b) (places b).done ≡ Some (Apply j c) →
      Moves places b (forward (places b)) after → AreTrue p a (gives_turn (enters (takes_turn v n bytes) c m more)) after
  true_applied j c n m bytes more next moves = to_own forward (gives_turn (enters (takes_turn v n bytes) c m more)) (Apply j c)
      (own_applied p i l a v places k after j c n m bytes more) next
      (runner_own p i l a v places k b s (Apply j c) next (λ q. refl)) moves

  pub true_finished : (j : ℕ) → slice_get (program p b) (places b).done ≡ Some (Finish j) →
      Moves places b (forward (places b)) after → AreTrue p a (finishes v j) after
  true_finished j next moves = to_own forward (finishes v j) (Finish j) (own_finished p i l a v places k after j) next
      (runner_own p i l a v places k b s (Finish j) next (λ q. refl)) moves

  pub true_answered : (j : ℕ) (question : Question) (r : GivenAnswer) →
      slice_get (program p b) (places b).done ≡ Some (Answer j question) → Moves places b (answered (places b)) after →
      AreTrue p a (answers v j r) after
  true_answered j question r next moves = to_own answered (answers v j r) (Answer j question)
      (own_answered p i l a v places k after j question r) next
      (runner_own p i l a v places k b s (Answer j question) next (λ q. refl)) moves

  pub true_compared : (w : View) (t wanted past : ℕ) → slice_get (program p b) (places b).done ≡ Some (Compare t wanted) →
      Learns v w → saw_value p w (t, wanted) (record { wanted = wanted; past = past }) ≡ true →
      Moves places b (seeing (places b) wanted past) after → AreTrue p a w after
  true_compared w t wanted past next learned saw moves = to_own (λ x. seeing x wanted past) w (Compare t wanted)
      (λ next moves. own_compared p i l a v places k after w t wanted past next learned saw moves) next
      (runner_own p i l a v places k b s (Compare t wanted) next (λ q. refl)) moves

-- the operation was recalled before
module _ (p : Plan) (i : IsPlan p) (l : IsLawful p) (a : ActorName) (v : View) (places : ActorName → Place)
    (k : AreTrue p a v places) (b : ActorName) (s : Serves p a b) (after : ActorName → Place) where
  pub true_signaled : (e q n : ℕ) (r : OpState) → slice_get (program p b) (places b).done ≡ Some (Signal e) →
      Moves places b (forward (places b)) after → AreTrue p a (signals (recalls v e r) e q n) after
  true_signaled e q n r next moves =
      let k2 = true_learned p i l a v places k (recalls v e r) (learns_recall v e r) in
      to_own p i l a (recalls v e r) places k2 b s after forward (signals (recalls v e r) e q n) (Signal e)
      (own_signaled p i l a (recalls v e r) places k2 after e q n) next
      (runner_own p i l a v places k b s (Signal e) next (λ q. refl)) moves
