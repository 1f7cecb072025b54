-- The places stay true of the pass through looks, and through the steps of tasks that leave alone what is run and held.
use Rattle.std.proofs.Common.{◌≡◌, ℕ, ◌+◌, ◌≤◌, true, [], ◌∷◌, ◌++◌, Option, Some, None, refl, sym, ap, ◌∙◌, subst, arith, inl, inr, drop}
use Rattle.std.specs.List.{slice_get}
use Rattle.std.proofs.lemmas.Bool.{and_from}
use Rattle.vq_board_laws.proofs.Cited.{learns_recall}
use Rattle.vq_model.specs.Checks.{IsLawful}
use Rattle.vq_model.specs.LoweredPlans.{IsPlan}
use Rattle.vq_model.specs.declared.script.ActorName.{ActorName}
use Rattle.vq_model.specs.Outputs.{asking}
use Rattle.vq_model.specs.Plan.{Plan}
use Rattle.vq_ground.specs.Lists.{has}
use Rattle.vq_ground.proofs.Lists.{has_here}
use Rattle.vq_turns.specs.declared.task.Task.{Task}
use Rattle.vq_turns.specs.declared.task.Task.TheVariants.{AwaitSubmitted, AwaitReleased, AwaitFinished, AwaitBound, Submit, Take, Release, Bind}
use Rattle.vq_turns.specs.Programs.{program}
use Rattle.vq_turns.specs.Turns.{Place, forward}
use Rattle.vq_turn_laws.specs.Running.{Running, runs_after, runs_on}
use Rattle.vq_actor.specs.Stages.{Serves}
use Rattle.vq_board_laws.specs.declared.view.Fact.TheVariants.{Job}
use Rattle.vq_board_laws.specs.declared.view.JobState.{JobState}
use Rattle.vq_board_laws.specs.declared.view.JobState.TheVariants.{Submitted, Released, Finished}
use Rattle.vq_board_laws.specs.declared.view.OpState.{OpState}
use Rattle.vq_board_laws.specs.declared.view.OpState.TheVariants.{Unbound as UnboundOp, Bound as BoundOp, Past as PastOp}
use Rattle.vq_board_laws.specs.declared.view.View.{View}
use Rattle.vq_board_laws.specs.Knowledge.{state_number}
use Rattle.vq_board_laws.specs.PointSteps.{recalls, misses_point, op_facts}
use Rattle.vq_board_laws.specs.Steps.{looks, submits, releases, misses_turn, own_step}
use Rattle.vq_board_laws.specs.Words.{job_word, point_word, turn_word}
use Rattle.vq_board_laws.specs.Learning.{Learns}
use Rattle.vq_access_laws.specs.Tests.{knows_far, knows_bound}
use Rattle.vq_access_laws.specs.TrueTasks.{is_done}
use Rattle.vq_access_laws.specs.TruePasses.{AreTrue, IsOwn, RunsAs, Moves, are_told_once, tasks_before, tasks_left}
use Rattle.vq_access_laws.proofs.OwnRules.{KeepsOwn, IsUnasked, same_own, own_kept, own_on, own_here, own_moved, runs_kept, learned_own, learned_lists, learned_role, learned_told}
use Rattle.vq_access_laws.proofs.ServedActors.{serves_itself}
use Rattle.vq_access_laws.proofs.ServedSteps.{is_same, stay_step, task_step}
use Rattle.vq_access_laws.proofs.StepRules.{KeepsLists, mark, list_push, list_same}
use Rattle.vq_access_laws.proofs.TestLaws.{far_here, bound_here}

-- Looks

pub learns_job : (v : View) (j : ℕ) (s : JobState) → Learns v (looks v j s)
learns_job v j s = record {
  same = refl;
  known = (Job j s ∷ [], refl);
  unmade = ([], refl);
  steps = (own_step (job_word j) (state_number s) ∷ [], refl);
}

pub learns_miss : (v : View) (q n : ℕ) → Learns v (misses_point v q n)
learns_miss v q n = record {
  same = refl;
  known = ([], refl);
  unmade = ([], refl);
  steps = (own_step (point_word q) n ∷ [], refl);
}

pub learns_turn : (v : View) (n : ℕ) → Learns v (misses_turn v n)
learns_turn v n = record {
  same = refl;
  known = ([], refl);
  unmade = ([], refl);
  steps = (own_step turn_word n ∷ [], refl);
}

-- a task that leaves alone what is run and held
pub record IsPlainTask (t : Task) : Type 0 where
  pub unasked : IsUnasked t
  pub runs : (r : Option Running) → runs_on t r ≡ r

stays_put : (places : ActorName → Place) (a : ActorName) → Moves places a (places a) places
stays_put places a = record { here = refl; others = λ c n. refl }

module _ (p : Plan) (i : IsPlan p) (l : IsLawful p) (a : ActorName) (v : View) (places : ActorName → Place)
    (k : AreTrue p a v places) where
  -- a look adds knowledge
  pub true_learned : (w : View) → Learns v w → AreTrue p a w places
  true_learned w h = stay_step p i l a v w places places k a (serves_itself p a) (places a) (stays_put places a)
      (learned_role v w h) (learned_told v w h (asking p) k.told) refl (learned_lists v w h None)
      (own_kept p v w (tasks_before p a (places a)) (tasks_left p a (places a)) (places a) (learned_own v w h) k.own)

  module _ (b : ActorName) (s : Serves p a b) where
    pub true_plain : (w : View) (t : Task) → slice_get (program p b) (places b).done ≡ Some t → IsPlainTask t →
        KeepsLists (mark t) v w → KeepsOwn v w → w.role ≡ v.role →
        are_told_once (asking p) w.told ≡ true → is_done p w t ≡ true →
        (after : ActorName → Place) → Moves places b (forward (places b)) after → AreTrue p a w after
    true_plain w t next plain lists own role told now after moves =
        task_step p i l a v w places after k b s (forward (places b)) moves role told t next refl lists now
        (elim (is_same a b) [ inl e ↦ mine e | inr n ↦ others n ])
      where
        mine : a ≡ b → IsOwn p w (tasks_before p a (after a)) (tasks_left p a (after a)) (after a)
        mine e =
            let next2 = subst (λ (c : ActorName). slice_get (program p c) (places c).done ≡ Some t) (sym e) next in
            let here : after a ≡ forward (places a) = ap after e ∙ (moves.here ∙ ap (λ (c : ActorName). forward (places c)) (sym e)) in
            own_moved p a w (places a) (forward (places a)) (after a) t next2 refl here
            (own_on p v w t (tasks_before p a (places a)) (drop ((places a).done + 1) (program p a)) (places a) plain.unasked
            own.refs (own.turn ∙ k.own.turnless)
            (subst (RunsAs w) (sym (plain.runs (runs_after (tasks_before p a (places a)))))
            (runs_kept v w (runs_after (tasks_before p a (places a))) own k.own.runs))
            (own_here p a v (places a) t next2 k.own))

        others : (a ≡ b → ⊥) → IsOwn p w (tasks_before p a (after a)) (tasks_left p a (after a)) (after a)
        others n = subst (λ (x : Place). IsOwn p w (tasks_before p a x) (tasks_left p a x) x) (sym (moves.others a n))
            (own_kept p v w (tasks_before p a (places a)) (tasks_left p a (places a)) (places a) own k.own)

    -- a task whose thing the pass knows to be so, which changes nothing else of the pass
    pub true_known : (t : Task) → slice_get (program p b) (places b).done ≡ Some t → IsPlainTask t → mark t ≡ None →
        is_done p v t ≡ true → (after : ActorName → Place) → Moves places b (forward (places b)) after → AreTrue p a v after
    true_known t next plain none now after moves = true_plain v t next plain
        (subst (λ (m : Option (ℕ × ℕ)). KeepsLists m v v) (sym none) same_lists) (same_own v) refl k.told now after moves
      where
        same_lists : KeepsLists None v v
        same_lists = record {
          known = ([], refl);
          submitted = list_same 0 None (has v.submitted);
          released = list_same 1 None (has v.released);
          begun = list_same 2 None (has v.begun);
          told = list_same 3 None _;
        }

    pub true_submitted : (j : ℕ) → slice_get (program p b) (places b).done ≡ Some (Submit j) →
        (after : ActorName → Place) → Moves places b (forward (places b)) after → AreTrue p a (submits v j) after
    true_submitted j next after moves = true_plain (submits v j) (Submit j) next
        record { unasked = record { waiting = λ _. refl; waited = λ _. refl; asking = λ _. refl; compared = λ _. refl }; runs = λ r. refl }
        record {
          known = (Job j Submitted ∷ [], refl);
          submitted = list_push 0 j v.submitted;
          released = list_same 1 _ (has v.released);
          begun = list_same 2 _ (has v.begun);
          told = list_same 3 _ _;
        }
        record { runs = refl; entered = refl; signaled = refl; turn = refl; refs = refl; known = (Job j Submitted ∷ [], refl); unmade = ([], refl) }
        refl k.told (and_from (has (j ∷ v.submitted) j) (knows_far (Job j Submitted ∷ v.known) j Submitted) (has_here j v.submitted)
        (far_here v.known j Submitted Submitted (omega arith))) after moves

    pub true_released : (j : ℕ) → slice_get (program p b) (places b).done ≡ Some (Release j) →
        (after : ActorName → Place) → Moves places b (forward (places b)) after → AreTrue p a (releases v j) after
    true_released j next after moves = true_plain (releases v j) (Release j) next
        record { unasked = record { waiting = λ _. refl; waited = λ _. refl; asking = λ _. refl; compared = λ _. refl }; runs = λ r. refl }
        record {
          known = (Job j Released ∷ [], refl);
          submitted = list_same 0 _ (has v.submitted);
          released = list_push 1 j v.released;
          begun = list_same 2 _ (has v.begun);
          told = list_same 3 _ _;
        }
        record { runs = refl; entered = refl; signaled = refl; turn = refl; refs = refl; known = (Job j Released ∷ [], refl); unmade = ([], refl) }
        refl k.told (has_here j v.released) after moves

    -- an operation's point was taken, or it was bound: by the chain's lists, which are none of this pass
    pub true_taken : (e c : ℕ) → slice_get (program p b) (places b).done ≡ Some (Take e c) →
        (after : ActorName → Place) → Moves places b (forward (places b)) after → AreTrue p a v after
    true_taken e c next after moves = true_known (Take e c) next
        record { unasked = record { waiting = λ _. refl; waited = λ _. refl; asking = λ _. refl; compared = λ _. refl }; runs = λ r. refl }
        refl refl after moves

    pub true_bound : (e : ℕ) → slice_get (program p b) (places b).done ≡ Some (Bind e) →
        (after : ActorName → Place) → Moves places b (forward (places b)) after → AreTrue p a v after
    true_bound e next after moves = true_known (Bind e) next
        record { unasked = record { waiting = λ _. refl; waited = λ _. refl; asking = λ _. refl; compared = λ _. refl }; runs = λ r. refl }
        refl refl after moves

-- What was waited for was seen

module _ (p : Plan) (i : IsPlan p) (l : IsLawful p) (a : ActorName) (v : View) (places : ActorName → Place)
    (k : AreTrue p a v places) (b : ActorName) (s : Serves p a b) (after : ActorName → Place)
    (moves : Moves places b (forward (places b)) after) where
  pub true_seen_submitted : (j : ℕ) (r : JobState) → slice_get (program p b) (places b).done ≡ Some (AwaitSubmitted j) →
      1 ≤ state_number r → AreTrue p a (looks v j r) after
  true_seen_submitted j r next far = true_known p i l a (looks v j r) places (true_learned p i l a v places k (looks v j r) (learns_job v j r))
      b s (AwaitSubmitted j) next
      record { unasked = record { waiting = λ _. refl; waited = λ _. refl; asking = λ _. refl; compared = λ _. refl }; runs = λ r. refl }
      refl (far_here v.known j Submitted r far) after moves

  pub true_seen_released : (j : ℕ) (r : JobState) → slice_get (program p b) (places b).done ≡ Some (AwaitReleased j) →
      2 ≤ state_number r → AreTrue p a (looks v j r) after
  true_seen_released j r next far = true_known p i l a (looks v j r) places (true_learned p i l a v places k (looks v j r) (learns_job v j r))
      b s (AwaitReleased j) next
      record { unasked = record { waiting = λ _. refl; waited = λ _. refl; asking = λ _. refl; compared = λ _. refl }; runs = λ r. refl }
      refl (far_here v.known j Released r far) after moves

  pub true_seen_finished : (j : ℕ) (r : JobState) → slice_get (program p b) (places b).done ≡ Some (AwaitFinished j) →
      4 ≤ state_number r → AreTrue p a (looks v j r) after
  true_seen_finished j r next far = true_known p i l a (looks v j r) places (true_learned p i l a v places k (looks v j r) (learns_job v j r))
      b s (AwaitFinished j) next
      record { unasked = record { waiting = λ _. refl; waited = λ _. refl; asking = λ _. refl; compared = λ _. refl }; runs = λ r. refl }
      refl (far_here v.known j Finished r far) after moves

  pub true_seen_bound : (e : ℕ) (r : OpState) → slice_get (program p b) (places b).done ≡ Some (AwaitBound e) →
      (r ≡ UnboundOp → ⊥) → AreTrue p a (recalls v e r) after
  true_seen_bound e r next bound = true_known p i l a (recalls v e r) places (true_learned p i l a v places k (recalls v e r) (learns_recall v e r))
      b s (AwaitBound e) next
      record { unasked = record { waiting = λ _. refl; waited = λ _. refl; asking = λ _. refl; compared = λ _. refl }; runs = λ r. refl }
      refl (by_state r bound) after moves
    where
      by_state : (r : OpState) → (r ≡ UnboundOp → ⊥) → knows_bound (op_facts e r ++ v.known) e ≡ true
      by_state UnboundOp n = absurd (n refl)
      by_state (BoundOp q) n = bound_here v.known e
      by_state PastOp n = bound_here v.known e
