-- What is kept after a step, by what the step says.
use Rattle.std.proofs.Common.{arith, ◌≡◌, ◌∙◌, ℕ, Bool, true, false, cond, List, [], ◌∷◌, ◌++◌, Option, Some, None, Ok, Err, Result, OnOk, OnErr, refl, sym, ap, subst, ◌==◌, ◌&&◌}
use Rattle.std.specs.Prelude.{nat_le}
use Rattle.std.specs.Option.{option_to_list}
use Rattle.std.proofs.lemmas.Bool.Decides.{nat_tests}
use Rattle.vq_ground.proofs.Bools.{and_false}
use Rattle.vq_capture.specs.declared.stage.Scope.{Scope}
use Rattle.vq_capture.specs.declared.statement.Statement.{Statement}
use Rattle.vq_capture.specs.declared.statement.Statement.TheVariants.{Declare, DeclareTimeline, DeclareResource, Forget, GoOn, After, Submit, HandOver, SubmitHanded, HostSignal, SawValue, SawFence, WaitIdle, HostAccess, Cut, WaitTimeline, WaitBinary, CommandAccess, Next, Barrier, Transition, SetEvent, AwaitEvent, SignalTimeline, SignalBinary, SignalFence, EndBatch}
use Rattle.vq_capture.specs.declared.capture.Step.{Step}
use Rattle.vq_capture.specs.Releases.{step_at, reaches, signals_binary, waits_binary, signals_fence, sets_event, event_releases}
use Rattle.vq_capture_things.specs.declared.rise.Rise.{Rise}
use Rattle.vq_capture_things.specs.Facts.{Describes, first_rise, with_rise, IsRising}
use Rattle.vq_capture_things.proofs.RisingValues.{rising_with}
use Rattle.vq_capture_things.proofs.MoreSteps.{initial_in, length_in, number_stays, number_new, value_stays, value_raised, last_stays, last_new, binary_stays, binary_new, binary_waited}

pub on_ok : {T E : Type 0} (r : Result T E) {P Q : Type 0} → (P → Q) → OnOk r P → OnOk r Q
on_ok (Ok x) f p = f p
on_ok (Err e) f p = tt

pub on_err : {T E : Type 0} (r : Result T E) {P Q : Type 0} → (P → Q) → OnErr r P → OnErr r Q
on_err (Ok x) f p = tt
on_err (Err e) f p = f p

-- what of a step nothing is kept of
record IsQuiet (s : Step) : Type 0 where
  pub initial : initial_in s ≡ 0
  pub units : length_in s ≡ 0
  pub value : (t v : ℕ) → reaches t v s ≡ false
  pub signal : (q : ℕ) → signals_binary q s ≡ false
  pub wait : (q : ℕ) → waits_binary q s ≡ false
  pub fence : (f : ℕ) → signals_fence f s ≡ false
  pub event : (e q : ℕ) → sets_event e (Some q) s ≡ false

module _ (i n : ℕ → Option ℕ) (r : ℕ → List Rise) (b : ℕ → List ℕ) (f : ℕ → Option ℕ) (v : ℕ → ℕ → Option ℕ) (xs : List Step) (d : Describes i n r b f v xs) (s : Step) where
  abbrev more : List Step
  more = xs ++ s ∷ []

  abbrev said : Statement → Step
  said what = record s { statement = what }

  quiet : IsQuiet s → Describes i n r b f v more
  quiet q = record {
    initial = λ t. d.initial t ∙ sym (number_stays xs s initial_in q.initial t);
    units = λ t. d.units t ∙ sym (number_stays xs s length_in q.units t);
    rising = d.rising;
    value = λ t w. d.value t w ∙ sym (value_stays xs s t w (q.value t w));
    binary = λ t. d.binary t ∙ sym (binary_stays xs s t (q.wait t) (q.signal t));
    fence = λ t. d.fence t ∙ sym (last_stays xs s (signals_fence t) (q.fence t));
    event = λ e t. d.event e t ∙ sym (last_stays xs s (sets_event e (Some t)) (q.event e t));
  }

  -- what is the same is kept
  pub rises_same : (r' : ℕ → List Rise) → ((q : ℕ) → r' q ≡ r q) → Describes i n r' b f v xs
  rises_same r' same = record {
    initial = d.initial;
    units = d.units;
    rising = λ t. subst (λ (rs : List Rise). IsRising rs) (sym (same t)) (d.rising t);
    value = λ t w. ap (λ (rs : List Rise). first_rise w rs) (same t) ∙ d.value t w;
    binary = d.binary;
    fence = d.fence;
    event = d.event;
  }

  pub initial_noted : (a : ℕ) → s.statement ≡ DeclareTimeline a → step_at xs s.line ≡ None → (i' : ℕ → Option ℕ) → ((q : ℕ) → i' q ≡ cond (s.line == q) (Some a) (i q)) → Describes i' n r b f v more
  initial_noted a is fresh i' put = record {
    initial = number_new xs s initial_in i i' fresh (λ q. put q ∙ ap (λ (m : ℕ). cond (s.line == q) (Some m) (i q)) (sym (ap (λ (w : Statement). initial_in (said w)) is))) d.initial;
    units = λ t. d.units t ∙ sym (number_stays xs s length_in (ap (λ (w : Statement). length_in (said w)) is) t);
    rising = d.rising;
    value = λ t w. d.value t w ∙ sym (value_stays xs s t w (ap (λ (x : Statement). reaches t w (said x)) is));
    binary = λ t. d.binary t ∙ sym (binary_stays xs s t (ap (λ (x : Statement). waits_binary t (said x)) is) (ap (λ (x : Statement). signals_binary t (said x)) is));
    fence = λ t. d.fence t ∙ sym (last_stays xs s (signals_fence t) (ap (λ (x : Statement). signals_fence t (said x)) is));
    event = λ e t. d.event e t ∙ sym (last_stays xs s (sets_event e (Some t)) (ap (λ (x : Statement). sets_event e (Some t) (said x)) is));
  }

  pub length_noted : (a : ℕ) → s.statement ≡ DeclareResource a → step_at xs s.line ≡ None → (n' : ℕ → Option ℕ) → ((q : ℕ) → n' q ≡ cond (s.line == q) (Some a) (n q)) → Describes i n' r b f v more
  length_noted a is fresh n' put = record {
    initial = λ t. d.initial t ∙ sym (number_stays xs s initial_in (ap (λ (w : Statement). initial_in (said w)) is) t);
    units = number_new xs s length_in n n' fresh (λ q. put q ∙ ap (λ (m : ℕ). cond (s.line == q) (Some m) (n q)) (sym (ap (λ (w : Statement). length_in (said w)) is))) d.units;
    rising = d.rising;
    value = λ t w. d.value t w ∙ sym (value_stays xs s t w (ap (λ (x : Statement). reaches t w (said x)) is));
    binary = λ t. d.binary t ∙ sym (binary_stays xs s t (ap (λ (x : Statement). waits_binary t (said x)) is) (ap (λ (x : Statement). signals_binary t (said x)) is));
    fence = λ t. d.fence t ∙ sym (last_stays xs s (signals_fence t) (ap (λ (x : Statement). signals_fence t (said x)) is));
    event = λ e t. d.event e t ∙ sym (last_stays xs s (sets_event e (Some t)) (ap (λ (x : Statement). sets_event e (Some t) (said x)) is));
  }

  -- a signal of a timeline, by the host or of a batch
  pub value_noted : (what : Statement) (u w : ℕ) → s.statement ≡ what → initial_in (said what) ≡ 0 → length_in (said what) ≡ 0 →
      ((t x : ℕ) → reaches t x (said what) ≡ ((u == t) && nat_le x w)) → ((q : ℕ) → signals_binary q (said what) ≡ false) → ((q : ℕ) → waits_binary q (said what) ≡ false) →
      ((q : ℕ) → signals_fence q (said what) ≡ false) → ((e q : ℕ) → sets_event e (Some q) (said what) ≡ false) →
      (r' : ℕ → List Rise) → ((q : ℕ) → r' q ≡ cond (u == q) (with_rise (r q) (record { value = w; line = s.line })) (r q)) → Describes i n r' b f v more
  value_noted what u w is ni nl test ns nw nf ne r' put = record {
    initial = λ t. d.initial t ∙ sym (number_stays xs s initial_in (ap (λ (x : Statement). initial_in (said x)) is ∙ ni) t);
    units = λ t. d.units t ∙ sym (number_stays xs s length_in (ap (λ (x : Statement). length_in (said x)) is ∙ nl) t);
    rising = λ t. subst (λ (rs : List Rise). IsRising rs) (sym (put t)) (raised_or t (u == t));
    value = value_raised xs s u w r r' (λ t y. ap (λ (x : Statement). reaches t y (said x)) is ∙ test t y) put d.value;
    binary = λ t. d.binary t ∙ sym (binary_stays xs s t (ap (λ (x : Statement). waits_binary t (said x)) is ∙ nw t) (ap (λ (x : Statement). signals_binary t (said x)) is ∙ ns t));
    fence = λ t. d.fence t ∙ sym (last_stays xs s (signals_fence t) (ap (λ (x : Statement). signals_fence t (said x)) is ∙ nf t));
    event = λ e t. d.event e t ∙ sym (last_stays xs s (sets_event e (Some t)) (ap (λ (x : Statement). sets_event e (Some t) (said x)) is ∙ ne e t));
  }
    where
      raised_or : (t : ℕ) (c : Bool) → IsRising (cond c (with_rise (r t) (record { value = w; line = s.line })) (r t))
      raised_or t true = rising_with (r t) (record { value = w; line = s.line }) (d.rising t)
      raised_or t false = d.rising t

  pub signal_noted : (u : ℕ) (scope : Scope) → s.statement ≡ SignalBinary u scope → (b' : ℕ → List ℕ) → ((q : ℕ) → b' q ≡ cond (u == q) (b q ++ s.line ∷ []) (b q)) → Describes i n r b' f v more
  signal_noted u scope is b' put = record {
    initial = λ t. d.initial t ∙ sym (number_stays xs s initial_in (ap (λ (x : Statement). initial_in (said x)) is) t);
    units = λ t. d.units t ∙ sym (number_stays xs s length_in (ap (λ (x : Statement). length_in (said x)) is) t);
    rising = d.rising;
    value = λ t w. d.value t w ∙ sym (value_stays xs s t w (ap (λ (x : Statement). reaches t w (said x)) is));
    binary = λ t. binary_new xs s t (b t) (b' t) (u == t) (ap (λ (x : Statement). waits_binary t (said x)) is) (ap (λ (x : Statement). signals_binary t (said x)) is) (put t) (d.binary t);
    fence = λ t. d.fence t ∙ sym (last_stays xs s (signals_fence t) (ap (λ (x : Statement). signals_fence t (said x)) is));
    event = λ e t. d.event e t ∙ sym (last_stays xs s (sets_event e (Some t)) (ap (λ (x : Statement). sets_event e (Some t) (said x)) is));
  }

  pub wait_noted : (u : ℕ) (scope : Scope) → s.statement ≡ WaitBinary u scope → (b' : ℕ → List ℕ) → ((q : ℕ) → b' q ≡ cond (u == q) [] (b q)) → Describes i n r b' f v more
  wait_noted u scope is b' put = record {
    initial = λ t. d.initial t ∙ sym (number_stays xs s initial_in (ap (λ (x : Statement). initial_in (said x)) is) t);
    units = λ t. d.units t ∙ sym (number_stays xs s length_in (ap (λ (x : Statement). length_in (said x)) is) t);
    rising = d.rising;
    value = λ t w. d.value t w ∙ sym (value_stays xs s t w (ap (λ (x : Statement). reaches t w (said x)) is));
    binary = λ t. binary_waited xs s t (b t) (b' t) (u == t) (ap (λ (x : Statement). waits_binary t (said x)) is) (ap (λ (x : Statement). signals_binary t (said x)) is) (put t) (d.binary t);
    fence = λ t. d.fence t ∙ sym (last_stays xs s (signals_fence t) (ap (λ (x : Statement). signals_fence t (said x)) is));
    event = λ e t. d.event e t ∙ sym (last_stays xs s (sets_event e (Some t)) (ap (λ (x : Statement). sets_event e (Some t) (said x)) is));
  }

  pub fence_noted : (u : ℕ) → s.statement ≡ SignalFence u → (f' : ℕ → Option ℕ) → ((q : ℕ) → f' q ≡ cond (u == q) (Some s.line) (f q)) → Describes i n r b f' v more
  fence_noted u is f' put = record {
    initial = λ t. d.initial t ∙ sym (number_stays xs s initial_in (ap (λ (x : Statement). initial_in (said x)) is) t);
    units = λ t. d.units t ∙ sym (number_stays xs s length_in (ap (λ (x : Statement). length_in (said x)) is) t);
    rising = d.rising;
    value = λ t w. d.value t w ∙ sym (value_stays xs s t w (ap (λ (x : Statement). reaches t w (said x)) is));
    binary = λ t. d.binary t ∙ sym (binary_stays xs s t (ap (λ (x : Statement). waits_binary t (said x)) is) (ap (λ (x : Statement). signals_binary t (said x)) is));
    fence = λ t. last_new xs s (signals_fence t) (f t) (f' t) (u == t) (ap (λ (x : Statement). signals_fence t (said x)) is) (put t) (d.fence t);
    event = λ e t. d.event e t ∙ sym (last_stays xs s (sets_event e (Some t)) (ap (λ (x : Statement). sets_event e (Some t) (said x)) is));
  }

  -- an event that is set on a queue, or on none
  module _ (u : ℕ) (scope : Scope) (is : s.statement ≡ SetEvent u scope) where
    event_noted : (v' : ℕ → ℕ → Option ℕ) → ((e t : ℕ) → option_to_list (v' e t) ≡ event_releases more e (Some t)) → Describes i n r b f v' more
    event_noted v' e' = record {
      initial = λ t. d.initial t ∙ sym (number_stays xs s initial_in (ap (λ (x : Statement). initial_in (said x)) is) t);
      units = λ t. d.units t ∙ sym (number_stays xs s length_in (ap (λ (x : Statement). length_in (said x)) is) t);
      rising = d.rising;
      value = λ t w. d.value t w ∙ sym (value_stays xs s t w (ap (λ (x : Statement). reaches t w (said x)) is));
      binary = λ t. d.binary t ∙ sym (binary_stays xs s t (ap (λ (x : Statement). waits_binary t (said x)) is) (ap (λ (x : Statement). signals_binary t (said x)) is));
      fence = λ t. d.fence t ∙ sym (last_stays xs s (signals_fence t) (ap (λ (x : Statement). signals_fence t (said x)) is));
      event = e';
    }

    swapped : (a c : ℕ) → (a == c) ≡ (c == a)
    swapped a c = grind (arith, nat_tests)

    pub event_put : (q : ℕ) → s.queue ≡ Some q → (v' : ℕ → ℕ → Option ℕ) → ((e t : ℕ) → v' e t ≡ cond ((u == e) && (q == t)) (Some s.line) (v e t)) → Describes i n r b f v' more
    event_put q on v' put =
        event_noted v'
        (λ e t. last_new xs s (sets_event e (Some t)) (v e t) (v' e t) ((u == e) && (q == t))
        (ap (λ (x : Step). sets_event e (Some t) x) (λ k. record s { queue = on k; statement = is k })
        ∙ ap (λ (x : Bool). (u == e) && x) (swapped t q))
        (put e t) (d.event e t))

    pub event_lost : s.queue ≡ None → Describes i n r b f v more
    event_lost on =
        event_noted v
        (λ e t. d.event e t ∙ sym (last_stays xs s (sets_event e (Some t))
        (ap (λ (x : Step). sets_event e (Some t) x) (λ k. record s { queue = on k; statement = is k }) ∙ and_false (u == e))))

  -- a step of another kind
  module _ (n1 : (a : ℕ) → s.statement ≡ DeclareTimeline a → ⊥) (n2 : (a : ℕ) → s.statement ≡ DeclareResource a → ⊥)
      (n3 : (a w : ℕ) → s.statement ≡ HostSignal a w → ⊥) (n4 : (a w : ℕ) (x : Scope) → s.statement ≡ SignalTimeline a w x → ⊥)
      (n5 : (a : ℕ) (x : Scope) → s.statement ≡ SignalBinary a x → ⊥) (n6 : (a : ℕ) (x : Scope) → s.statement ≡ WaitBinary a x → ⊥)
      (n7 : (a : ℕ) → s.statement ≡ SignalFence a → ⊥) (n8 : (a : ℕ) (x : Scope) → s.statement ≡ SetEvent a x → ⊥) where
    silent : (what : Statement) → initial_in (said what) ≡ 0 → length_in (said what) ≡ 0 → ((t v : ℕ) → reaches t v (said what) ≡ false) → ((q : ℕ) → signals_binary q (said what) ≡ false) → ((q : ℕ) → waits_binary q (said what) ≡ false) → ((f : ℕ) → signals_fence f (said what) ≡ false) → ((e q : ℕ) → sets_event e (Some q) (said what) ≡ false) → s.statement ≡ what → IsQuiet s
    silent what a1 a2 a3 a4 a5 a6 a7 is = record {
      initial = ap (λ (x : Statement). initial_in (said x)) is ∙ a1;
      units = ap (λ (x : Statement). length_in (said x)) is ∙ a2;
      value = λ t v. ap (λ (x : Statement). reaches t v (said x)) is ∙ a3 t v;
      signal = λ q. ap (λ (x : Statement). signals_binary q (said x)) is ∙ a4 q;
      wait = λ q. ap (λ (x : Statement). waits_binary q (said x)) is ∙ a5 q;
      fence = λ f. ap (λ (x : Statement). signals_fence f (said x)) is ∙ a6 f;
      event = λ e q. ap (λ (x : Statement). sets_event e (Some q) (said x)) is ∙ a7 e q;
    }

    at : (what : Statement) → s.statement ≡ what → IsQuiet s
    at (Declare a) e = silent (Declare a) refl refl (λ t v. refl) (λ q. refl) (λ q. refl) (λ q. refl) (λ x q. refl) e
    at (DeclareTimeline a) e = absurd (n1 a e)
    at (DeclareResource a) e = absurd (n2 a e)
    at (Forget a) e = silent (Forget a) refl refl (λ t v. refl) (λ q. refl) (λ q. refl) (λ q. refl) (λ x q. refl) e
    at (GoOn a) e = silent (GoOn a) refl refl (λ t v. refl) (λ q. refl) (λ q. refl) (λ q. refl) (λ x q. refl) e
    at (After a) e = silent (After a) refl refl (λ t v. refl) (λ q. refl) (λ q. refl) (λ q. refl) (λ x q. refl) e
    at (Submit a) e = silent (Submit a) refl refl (λ t v. refl) (λ q. refl) (λ q. refl) (λ q. refl) (λ x q. refl) e
    at HandOver e = silent HandOver refl refl (λ t v. refl) (λ q. refl) (λ q. refl) (λ q. refl) (λ x q. refl) e
    at (SubmitHanded a b) e = silent (SubmitHanded a b) refl refl (λ t v. refl) (λ q. refl) (λ q. refl) (λ q. refl) (λ x q. refl) e
    at (HostSignal a b) e = absurd (n3 a b e)
    at (SawValue a b) e = silent (SawValue a b) refl refl (λ t v. refl) (λ q. refl) (λ q. refl) (λ q. refl) (λ x q. refl) e
    at (SawFence a) e = silent (SawFence a) refl refl (λ t v. refl) (λ q. refl) (λ q. refl) (λ q. refl) (λ x q. refl) e
    at (WaitIdle a) e = silent (WaitIdle a) refl refl (λ t v. refl) (λ q. refl) (λ q. refl) (λ q. refl) (λ x q. refl) e
    at (HostAccess a) e = silent (HostAccess a) refl refl (λ t v. refl) (λ q. refl) (λ q. refl) (λ q. refl) (λ x q. refl) e
    at Cut e = silent Cut refl refl (λ t v. refl) (λ q. refl) (λ q. refl) (λ q. refl) (λ x q. refl) e
    at (WaitTimeline a b c) e = silent (WaitTimeline a b c) refl refl (λ t v. refl) (λ q. refl) (λ q. refl) (λ q. refl) (λ x q. refl) e
    at (WaitBinary a b) e = absurd (n6 a b e)
    at (CommandAccess a b) e = silent (CommandAccess a b) refl refl (λ t v. refl) (λ q. refl) (λ q. refl) (λ q. refl) (λ x q. refl) e
    at Next e = silent Next refl refl (λ t v. refl) (λ q. refl) (λ q. refl) (λ q. refl) (λ x q. refl) e
    at (Barrier a x) e = silent (Barrier a x) refl refl (λ t v. refl) (λ q. refl) (λ q. refl) (λ q. refl) (λ x q. refl) e
    at (Transition a b c) e = silent (Transition a b c) refl refl (λ t v. refl) (λ q. refl) (λ q. refl) (λ q. refl) (λ x q. refl) e
    at (SetEvent a b) e = absurd (n8 a b e)
    at (AwaitEvent a b) e = silent (AwaitEvent a b) refl refl (λ t v. refl) (λ q. refl) (λ q. refl) (λ q. refl) (λ x q. refl) e
    at (SignalTimeline a b c) e = absurd (n4 a b c e)
    at (SignalBinary a b) e = absurd (n5 a b e)
    at (SignalFence a) e = absurd (n7 a e)
    at EndBatch e = silent EndBatch refl refl (λ t v. refl) (λ q. refl) (λ q. refl) (λ q. refl) (λ x q. refl) e

    pub not_noted : Describes i n r b f v more
    not_noted = quiet (at s.statement refl)
