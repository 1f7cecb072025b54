-- What the last step of a pass shows of an event, which it made or found made.
use Rattle.std.proofs.Common.{◌≡◌, ◌≤◌, ◌==◌, ℕ, true, List, [], ◌∷◌, find, Some, length, refl, sym, ap, subst}
use Rattle.std.proofs.Common.{arith, inl, if◌then◌else◌, Bool}
use Rattle.std.specs.Option.{option_map}
use Rattle.std.proofs.lemmas.Bool.{eq-eqb}
use Rattle.vq_ground.proofs.Lists.{has_here}
use Rattle.vq_model.specs.Memory.{Memory}
use Rattle.vq_model.specs.declared.plan.Answer.{Answer as GivenAnswer}
use Rattle.vq_model.specs.declared.plan.Event.{Event}
use Rattle.vq_model.specs.declared.plan.Event.TheVariants.{Submit, Release, Start, Apply, Signal, Finish, Answer}
use Rattle.vq_model.specs.declared.plan.Event.TheVariants.{Refer, Look, Unref}
use Rattle.vq_model.specs.declared.script.ActorName.{ActorName}
use Rattle.vq_point_laws.specs.PointWord.{parts}
use Rattle.vq_turns.specs.declared.outcome.Outcome.TheVariants.{Moved}
use Rattle.vq_actor.specs.Meanings.{IsShownSince}
use Rattle.vq_board_laws.specs.declared.view.OpState.TheVariants.{Bound as BoundOp}
use Rattle.vq_board_laws.specs.declared.view.Told.{Told}
use Rattle.vq_board_laws.specs.declared.view.OwnStep.{OwnStep}
use Rattle.vq_board_laws.specs.declared.view.View.{View}
use Rattle.vq_board_laws.specs.PointSteps.{answers, recalls, refers, sees, signals, unrefers}
use Rattle.vq_board_laws.specs.Steps.{enters, finishes, gives_turn, releases, starts, submits, takes_turn}
use Rattle.vq_board_laws.specs.Words.{Carries}
use Rattle.vq_access_laws.specs.Causes.{IsLast, IsMade, IsStepOf, Refusals}
use Rattle.vq_access.specs.Shown.{IsShownAt}

-- the moment of a record, by its steps and its refusals
abbrev pub since : View → Refusals → ℕ × ℕ
since v f = (length v.steps, f.count)

at_most : (a b c : ℕ) → a ≤ b → b ≤ c → a ≤ c
at_most a b c g h = omega arith

-- the last step has a number above each smaller one
last_since : (P : OwnStep → List OwnStep → Type 0) (ss : List OwnStep) (n m : ℕ) → m ≤ n → IsLast n P ss → IsLast m P ss
last_since P [] n m le k = k
last_since P (s ∷ ss) n m le k = (at_most m n (length ss) le k.0, k.1)

told_here : (told : List Told) (j : ℕ) (a : GivenAnswer) →
    option_map (λ (x : Told). x.answer) (find (λ (x : Told). x.job == j) (record { job = j; answer = a } ∷ told)) ≡ Some a
told_here told j a =
    ap (λ (b : Bool). option_map (λ (x : Told). x.answer) (if b then Some (record { job = j; answer = a }) else find (λ
    (x : Told). x.job == j) told)) (eq-eqb j j refl)

-- The pass had the view v at the start, and w after the step of an event. What is shown of the step is so of w.
module _ (v w : View) (f g : Refusals) where
  abbrev ShowsMade : Event → Type 0
  ShowsMade event = IsShownSince (since v f) (λ t. IsShownAt w g (Moved event) t)

  by_last : (event : Event) (z : View) → w ≡ z → ((n : ℕ) → n ≤ length v.steps → IsMade z event n) → ShowsMade event
  by_last event z e k t le = subst (λ (u : View). IsMade u event t.0) (sym e) (k t.0 le.0)

  pub shows_submit : (j : ℕ) → w ≡ submits v j → ShowsMade (Submit j)
  shows_submit j e = by_last (Submit j) (submits v j) e (λ n le. (le, (refl, has_here j v.submitted)))

  -- after looks
  pub shows_release : (u : View) (j : ℕ) → length v.steps ≤ length u.steps → w ≡ releases u j → ShowsMade (Release j)
  shows_release u j more e =
      by_last (Release j) (releases u j) e (λ n le. (
        at_most n (length v.steps) (length u.steps) le more,
        (refl, has_here j u.released),
      ))

  pub shows_start : (j : ℕ) → w ≡ starts v j → ShowsMade (Start j)
  shows_start j e = by_last (Start j) (starts v j) e (λ n le. (le, (refl, refl, has_here j v.begun)))

  pub shows_finish : (j : ℕ) → w ≡ finishes v j → ShowsMade (Finish j)
  shows_finish j e = by_last (Finish j) (finishes v j) e (λ n le. (le, (refl, refl)))

  pub shows_answer : (j : ℕ) (a : GivenAnswer) → w ≡ answers v j a → ShowsMade (Answer j a)
  shows_answer j a e = by_last (Answer j a) (answers v j a) e (λ n le. (le, (refl, told_here v.told j a)))

  pub shows_apply : (j c n : ℕ) (bytes more : Memory) → v.runs ≡ Some j →
      w ≡ gives_turn (enters (takes_turn v n bytes) c n more) → ShowsMade (Apply j c)
  shows_apply j c n bytes more runs e =
      by_last (Apply j c) (gives_turn (enters (takes_turn v n bytes) c n more)) e
      (λ k le. (omega (arith, le), (refl, runs, (n, ((takes_turn v n bytes).steps, refl)))))

  pub shows_signal : (e q n : ℕ) → w ≡ signals (recalls v e (BoundOp q)) e q n → ShowsMade (Signal e)
  shows_signal e q n is =
      by_last (Signal e) (signals (recalls v e (BoundOp q)) e q n) is
      (λ k le. (omega (arith, le), (q, refl, inl refl, (v.steps, refl))))

  pub shows_refer : (a : ActorName) (q e n : ℕ) → Carries n e → w ≡ refers (sees v q n) q e n → ShowsMade (Refer a q e)
  shows_refer a q e n c is =
      by_last (Refer a q e) (refers (sees v q n) q e n) is (λ k le. (omega (arith, le), (refl, c, inl refl)))

  pub shows_look : (a : ActorName) (q e n : ℕ) → Carries n e → (parts n).signaled ≡ true → w ≡ sees v q n →
      ShowsMade (Look a q e)
  shows_look a q e n c set is = by_last (Look a q e) (sees v q n) is (λ k le. (le, (refl, c, set)))

  pub shows_unref : (a : ActorName) (q e n : ℕ) → w ≡ unrefers (sees v q n) q e n → ShowsMade (Unref a q e)
  shows_unref a q e n is =
      by_last (Unref a q e) (unrefers (sees v q n) q e n) is (λ k le. (omega (arith, le), (refl, (v.steps, refl))))

  -- what a look behind an event of lists showed
  pub shows_behind : (event : Event) → IsMade w event (length v.steps) → ShowsMade event
  shows_behind event made t le = last_since (IsStepOf w event) w.steps (length v.steps) t.0 le.0 made
