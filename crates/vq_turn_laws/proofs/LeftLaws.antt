-- What is left stays left but for the task whose event comes; so a true place stays true.
use Rattle.std.proofs.Common.{◌≡◌, ℕ, ◌||◌, true, false, eqb, List, [], ◌∷◌, Option, Some, None, refl, sym, subst, ap}
use Rattle.std.proofs.Common.{◌∙◌, inl, inr, ne_eqb}
use Rattle.vq_model.specs.declared.plan.Event.{Event}
use Rattle.vq_model.specs.declared.plan.Event.TheVariants.{Submit as Submits, Take as Takes, Release as Releases}
use Rattle.vq_model.specs.declared.plan.Event.TheVariants.{Bind as Binds, Start as Starts, Apply as Applies}
use Rattle.vq_model.specs.declared.plan.Event.TheVariants.{Signal as Signals, Finish as Finishes, Answer as AnswersAs}
use Rattle.vq_model.specs.Plan.{Plan, chain_of}
use Rattle.vq_ground.specs.Lists.{has}
use Rattle.vq_model.specs.Machine.{Progress, with_signal}
use Rattle.vq_ground.proofs.Lists.{has-append}
use Rattle.vq_model.proofs.Puts.{put_there}
use Rattle.vq_point_laws.specs.Points.{PointState, after_event}
use Rattle.vq_turns.specs.declared.task.Task.{Task}
use Rattle.vq_turns.specs.declared.task.Task.TheVariants.{AwaitSubmitted, AwaitReleased, AwaitFinished, AwaitBound}
use Rattle.vq_turns.specs.declared.task.Task.TheVariants.{AwaitNeeds, Submit, Take, Release, Bind, Start, Apply, Signal}
use Rattle.vq_turns.specs.declared.task.Task.TheVariants.{Compare, Answer, Finish}
use Rattle.vq_turn_laws.specs.Places.{IsDone, IsLeft, IsTrueAt}
use Rattle.vq_turn_laws.specs.Tasks.{IsOf, Each, Among}
use Rattle.vq_turn_laws.specs.Worlds.{RisesIn}
use Rattle.vq_turn_laws.proofs.PlaceLaws.{done_stays}

module _ (p : Plan) (w : PointState) where
  in_signal : (P : Progress → Type 0) (e : ℕ) (o : Option ℕ) → P w.machine.progress →
      ((t : ℕ) → P (with_signal p w.machine.progress e (Some t))) → P (with_signal p w.machine.progress e o)
  in_signal P e None h f = h
  in_signal P e (Some t) h f = f t

  submitted_left : (x : Event) (j : ℕ) → (IsOf x (Submit j) → ⊥) → w.submitted j ≡ false →
      (after_event p w x).submitted j ≡ false
  submitted_left (Submits i) j n h = put_there w.submitted i true j (λ e. n (sym e)) ∙ h
  submitted_left other j n h = h

  released_left : (x : Event) (j : ℕ) → (IsOf x (Release j) → ⊥) → w.released j ≡ false →
      (after_event p w x).released j ≡ false
  released_left (Releases i) j n h = put_there w.released i true j (λ e. n (sym e)) ∙ h
  released_left other j n h = h

  bound_left : (x : Event) (e : ℕ) → (IsOf x (Bind e) → ⊥) → w.bound e ≡ false → (after_event p w x).bound e ≡ false
  bound_left (Binds f q) e n h = put_there w.bound f true e (λ i. n (sym i)) ∙ h
  bound_left other e n h = h

  taken_left : (x : Event) (e t : ℕ) → (IsOf x (Take e t) → ⊥) → w.point_of e ≡ None →
      (after_event p w x).point_of e ≡ None
  taken_left (Takes f q fresh) e t n h = put_there w.point_of f (Some q) e (λ i. n (sym i)) ∙ h
  taken_left other e t n h = h

  started_left : (x : Event) (j : ℕ) → (IsOf x (Start j) → ⊥) → w.machine.progress.started j ≡ false →
      (after_event p w x).machine.progress.started j ≡ false
  started_left (Starts i) j n h = put_there w.machine.progress.started i true j (λ e. n (sym e)) ∙ h
  started_left (Signals e) j n h = in_signal (λ s. s.started j ≡ false) e (chain_of p e) h (λ t. h)
  started_left other j n h = h

  finished_left : (x : Event) (j : ℕ) → (IsOf x (Finish j) → ⊥) → w.machine.progress.finished j ≡ false →
      (after_event p w x).machine.progress.finished j ≡ false
  finished_left (Finishes i) j n h = put_there w.machine.progress.finished i true j (λ e. n (sym e)) ∙ h
  finished_left (Signals e) j n h = in_signal (λ s. s.finished j ≡ false) e (chain_of p e) h (λ t. h)
  finished_left other j n h = h

  made_left : (x : Event) (f : ℕ) → (IsOf x (Signal f) → ⊥) → w.machine.progress.made f ≡ false →
      (after_event p w x).machine.progress.made f ≡ false
  made_left (Signals e) f n h = in_signal (λ s. s.made f ≡ false) e (chain_of p e) h
      (λ t. put_there w.machine.progress.made e true f (λ i. n (sym i)) ∙ h)
  made_left other f n h = h

  applied_left : (x : Event) (j c : ℕ) → (IsOf x (Apply j c) → ⊥) → has w.machine.progress.applied c ≡ false →
      has (after_event p w x).machine.progress.applied c ≡ false
  applied_left (Applies i d) j c n h =
      has-append w.machine.progress.applied (d ∷ []) c
      ∙ (ap (λ b. b || (eqb d c || false)) h ∙ ap (λ b. b || false) (ne_eqb d c n))
  applied_left (Signals e) j c n h = in_signal (λ s. has s.applied c ≡ false) e (chain_of p e) h (λ t. h)
  applied_left other j c n h = h

  answer_left : (x : Event) (t : Task) (j : ℕ) → ((a : _) → x ≡ AnswersAs j a → ⊥) → w.machine.answer j ≡ None →
      (after_event p w x).machine.answer j ≡ None
  answer_left (AnswersAs i a) t j n h = put_there w.machine.answer i (Some a) j
      (λ e. n a (ap (λ (k : ℕ). AnswersAs k a) (sym e))) ∙ h
  answer_left (Signals e) t j n h = h
  answer_left other t j n h = h

  -- What is left stays left, but for the task whose event comes.
  pub stays_left : (x : Event) (t : Task) → (IsOf x t → ⊥) → IsLeft w t → IsLeft (after_event p w x) t
  stays_left x (AwaitSubmitted j) n h = tt
  stays_left x (AwaitReleased j) n h = tt
  stays_left x (AwaitFinished j) n h = tt
  stays_left x (AwaitBound e) n h = tt
  stays_left x (AwaitNeeds ns) n h = tt
  stays_left x (Submit j) n h = submitted_left x j n h
  stays_left x (Take e t) n h = taken_left x e t n h
  stays_left x (Release j) n h = released_left x j n h
  stays_left x (Bind e) n h = bound_left x e n h
  stays_left x (Start j) n h = started_left x j n h
  stays_left x (Apply j c) n h = applied_left x j c n h
  stays_left x (Signal e) n h = made_left x e n h
  stays_left x (Compare t v) n h = tt
  stays_left x (Answer j asks) n h = answer_left x (Answer j asks) j
      (λ a e. n (subst (λ y. IsOf y (Answer j asks)) (sym e) refl)) h
  stays_left x (Finish j) n h = finished_left x j n h

  each_left : (x : Event) (ts : List Task) → ((t : Task) → Among t ts → IsOf x t → ⊥) → Each (IsLeft w) ts →
      Each (IsLeft (after_event p w x)) ts
  each_left x [] n h = tt
  each_left x (t ∷ ts) n h = (stays_left x t (n t (inl refl)) h.0, each_left x ts (λ u m. n u (inr m)) h.1)

  -- Another actor's event leaves a place true.
  pub true_for_others : (x : Event) → RisesIn p w x → (before left : List Task) →
      ((t : Task) → Among t left → IsOf x t → ⊥) → IsTrueAt p w before left → IsTrueAt p (after_event p w x) before left
  true_for_others x c before left n h = record
      { done = done_stays p w x c before h.done; left = each_left x left n h.left }

  -- The event of the next task leaves the place behind it true.
  pub true_behind : (x : Event) → RisesIn p w x → (before : List Task) (t : Task) (left : List Task) →
      IsDone (after_event p w x) t → ((u : Task) → Among u left → IsOf x u → ⊥) → IsTrueAt p w before (t ∷ left) →
      IsTrueAt p (after_event p w x) (t ∷ before) left
  true_behind x c before t left d n h = record
      { done = (d, done_stays p w x c before h.done); left = each_left x left n h.left.1 }

  -- A look that finds its thing so does the same.
  pub true_after_look : (before : List Task) (t : Task) (left : List Task) → IsDone w t →
      IsTrueAt p w before (t ∷ left) → IsTrueAt p w (t ∷ before) left
  true_after_look before t left d h = record { done = (d, h.done); left = h.left.1 }
