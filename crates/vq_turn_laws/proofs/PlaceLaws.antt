-- What was done stays so, whoever moves.
use Rattle.std.proofs.lemmas.Bool.{or_right, and_from, cases_eq, le-leb, leb-true, ltb-true, ltb-false}
use Rattle.std.proofs.Common.{◌≡◌, ℕ, ◌≤◌, ◌<◌, Bool, true, false, not, ◌&&◌, ◌||◌, if◌then◌else◌, List, [], ◌∷◌}
use Rattle.std.proofs.Common.{Option, Some, None, is_some, refl, sym, subst, ap, ◌∙◌, ◌⊎◌, inl, inr, arith, filter}
use Rattle.std.proofs.Common.{nat_lt, nat_le}
use Rattle.std.specs.List.{slice_get, list_any, list_all, filter_map, cons_option}
use Rattle.std.specs.Option.{option_map_or}
use Rattle.vq_model.specs.declared.plan.Need.{Need}
use Rattle.vq_model.specs.declared.plan.Event.{Event}
use Rattle.vq_model.specs.declared.plan.Event.TheVariants.{Submit as Submits, Take as Takes, Release as Releases}
use Rattle.vq_model.specs.declared.plan.Event.TheVariants.{Bind as Binds, Start as Starts, Apply as Applies}
use Rattle.vq_model.specs.declared.plan.Event.TheVariants.{Signal as Signals, Finish as Finishes, Answer as AnswersAs}
use Rattle.vq_model.specs.Plan.{Plan, needs, waits_for_any, initial, value, resolver, signals_of, chain_of}
use Rattle.vq_ground.specs.Lists.{has}
use Rattle.vq_model.specs.Plan.{is_host_step}
use Rattle.vq_model.specs.Edges.{AtEnd, awaited_at}
use Rattle.vq_model.specs.Machine.{is_reached, Progress, put, with_signal}
use Rattle.vq_ground.proofs.Lists.{has_here, has_there, has-append_left, list_all_from}
use Rattle.vq_model.proofs.Puts.{put_here, put_there, put_keeps}
use Rattle.vq_point_laws.specs.Points.{PointState, after_event, CanCome, CanRelease, earlier_in_queue, are_needs_pending}
use Rattle.vq_turns.specs.declared.task.Task.{Task}
use Rattle.vq_turns.specs.declared.task.Task.TheVariants.{AwaitSubmitted, AwaitReleased, AwaitFinished, AwaitBound}
use Rattle.vq_turns.specs.declared.task.Task.TheVariants.{AwaitNeeds, Submit, Take, Release, Bind, Start, Apply, Signal}
use Rattle.vq_turns.specs.declared.task.Task.TheVariants.{Compare, Answer, Finish}
use Rattle.vq_turns.specs.Turns.{taken, taken_of}
use Rattle.vq_turn_laws.specs.Orders.{AsksBatch, AsksTake, AsksRelease, Within}
use Rattle.vq_turn_laws.specs.Places.{IsDone, IsLeft}
use Rattle.vq_turn_laws.specs.PlanParts.{HasResolvers}
use Rattle.vq_turn_laws.specs.Tasks.{Each, Among}
use Rattle.vq_turn_laws.specs.Worlds.{RisesAt, RisesIn}

module _ (p : Plan) (w : PointState) where
  submitted_stays : (x : Event) (j : ℕ) → w.submitted j ≡ true → (after_event p w x).submitted j ≡ true
  submitted_stays (Submits i) j h = put_keeps w.submitted i j h
  submitted_stays other j h = h

  released_stays : (x : Event) (j : ℕ) → w.released j ≡ true → (after_event p w x).released j ≡ true
  released_stays (Releases i) j h = put_keeps w.released i j h
  released_stays other j h = h

  bound_stays : (x : Event) (e : ℕ) → w.bound e ≡ true → (after_event p w x).bound e ≡ true
  bound_stays (Binds f q) e h = put_keeps w.bound f e h
  bound_stays other e h = h

  taken_stays : (x : Event) (e : ℕ) → is_some (w.point_of e) ≡ true → is_some ((after_event p w x).point_of e) ≡ true
  taken_stays (Takes f q fresh) e h = elim (cases_eq e f) [
    | inl i ↦ subst (λ z. is_some (put w.point_of f (Some q) z) ≡ true) (sym i)
        (ap is_some (put_here w.point_of f (Some q)))
    | inr n ↦ ap is_some (put_there w.point_of f (Some q) e n) ∙ h
  ]
  taken_stays other e h = h

  in_signal : (P : Progress → Type 0) (e : ℕ) (o : Option ℕ) → P w.machine.progress →
      ((t : ℕ) → P (with_signal p w.machine.progress e (Some t))) → P (with_signal p w.machine.progress e o)
  in_signal P e None h f = h
  in_signal P e (Some t) h f = f t

  started_stays : (x : Event) (j : ℕ) → w.machine.progress.started j ≡ true →
      (after_event p w x).machine.progress.started j ≡ true
  started_stays (Starts i) j h = put_keeps w.machine.progress.started i j h
  started_stays (Signals e) j h = in_signal (λ s. s.started j ≡ true) e (chain_of p e) h (λ t. h)
  started_stays other j h = h

  pub finished_stays : (x : Event) (j : ℕ) → w.machine.progress.finished j ≡ true →
      (after_event p w x).machine.progress.finished j ≡ true
  finished_stays (Finishes i) j h = put_keeps w.machine.progress.finished i j h
  finished_stays (Signals e) j h = in_signal (λ s. s.finished j ≡ true) e (chain_of p e) h (λ t. h)
  finished_stays other j h = h

  pub made_stays : (x : Event) (f : ℕ) → w.machine.progress.made f ≡ true →
      (after_event p w x).machine.progress.made f ≡ true
  made_stays (Signals e) f h = in_signal (λ s. s.made f ≡ true) e (chain_of p e) h
      (λ t. put_keeps w.machine.progress.made e f h)
  made_stays other f h = h

  applied_stays : (x : Event) (c : ℕ) → has w.machine.progress.applied c ≡ true →
      has (after_event p w x).machine.progress.applied c ≡ true
  applied_stays (Applies j d) c h = has-append_left w.machine.progress.applied (d ∷ []) c h
  applied_stays (Signals e) c h = in_signal (λ s. has s.applied c ≡ true) e (chain_of p e) h (λ t. h)
  applied_stays other c h = h

  answered_stays : (x : Event) (j : ℕ) → is_some (w.machine.answer j) ≡ true →
      is_some ((after_event p w x).machine.answer j) ≡ true
  answered_stays (AnswersAs i a) j h = elim (cases_eq j i) [
    | inl e ↦ subst (λ z. is_some (put w.machine.answer i (Some a) z) ≡ true) (sym e)
        (ap is_some (put_here w.machine.answer i (Some a)))
    | inr n ↦ ap is_some (put_there w.machine.answer i (Some a) j n) ∙ h
  ]
  answered_stays (Signals e) j h = h
  answered_stays other j h = h

  -- a number only rises
  pub number_stays : (x : Event) → RisesIn p w x → (t v : ℕ) → v ≤ w.machine.progress.payload t →
      v ≤ (after_event p w x).machine.progress.payload t
  number_stays (Signals e) c t v h = at_chain (chain_of p e) c
    where
      at_chain : (o : Option ℕ) → RisesAt p w e o → v ≤ (with_signal p w.machine.progress e o).payload t
      at_chain None r = h
      at_chain (Some s) r =
          elim (cases_eq t s) [
            | inl i ↦
                let r' : w.machine.progress.payload t < value p e = subst
                (λ (z : ℕ). w.machine.progress.payload z < value p e) (sym i) r in
                let n : put w.machine.progress.payload s (value p e) t ≡ value p e = subst
                (λ (z : ℕ). put w.machine.progress.payload s (value p e) z ≡ value p e) (sym i)
                (put_here w.machine.progress.payload s (value p e)) in
                omega arith
            | inr i ↦ let n : put w.machine.progress.payload s
                (value p e) t ≡ w.machine.progress.payload t = put_there w.machine.progress.payload s
                (value p e) t i in omega arith
          ]
  number_stays other c t v h = h

  pub reached_stays : (x : Event) → RisesIn p w x → (ns : List Need) →
      list_any (is_reached w.machine.progress.payload) ns ≡ true →
      list_any (is_reached (after_event p w x).machine.progress.payload) ns ≡ true
  reached_stays x c [] h = h
  reached_stays x c (n ∷ ns) h = by_test (is_reached w.machine.progress.payload n) refl (reached_stays x c ns) h
    where
      by_test : (b : Bool) → is_reached w.machine.progress.payload n ≡ b →
          (list_any (is_reached w.machine.progress.payload) ns ≡ true →
          list_any (is_reached (after_event p w x).machine.progress.payload) ns ≡ true) →
          list_any (is_reached w.machine.progress.payload) (n ∷ ns) ≡ true →
          list_any (is_reached (after_event p w x).machine.progress.payload) (n ∷ ns) ≡ true
      by_test true e f g =
          let up : n.value ≤ (after_event p w x).machine.progress.payload n.chain = number_stays x c n.chain n.value
          (leb-true n.value (w.machine.progress.payload n.chain) e) in
          ap (λ b. b || list_any (is_reached (after_event p w x).machine.progress.payload) ns)
          (le-leb n.value ((after_event p w x).machine.progress.payload n.chain) up)
      by_test false e f g =
          or_right (is_reached (after_event p w x).machine.progress.payload n)
          (list_any (is_reached (after_event p w x).machine.progress.payload) ns)
          (f (sym (ap (λ b. b || list_any (is_reached w.machine.progress.payload) ns) e) ∙ g))

  -- What was done stays so.
  pub stays_done : (x : Event) → RisesIn p w x → (t : Task) → IsDone w t → IsDone (after_event p w x) t
  stays_done x c (AwaitSubmitted j) h = submitted_stays x j h
  stays_done x c (AwaitReleased j) h = released_stays x j h
  stays_done x c (AwaitFinished j) h = finished_stays x j h
  stays_done x c (AwaitBound e) h = bound_stays x e h
  stays_done x c (AwaitNeeds ns) h = reached_stays x c ns h
  stays_done x c (Submit j) h = submitted_stays x j h
  stays_done x c (Take e t) h = taken_stays x e h
  stays_done x c (Release j) h = released_stays x j h
  stays_done x c (Bind e) h = bound_stays x e h
  stays_done x c (Start j) h = started_stays x j h
  stays_done x c (Apply j d) h = applied_stays x d h
  stays_done x c (Signal e) h = made_stays x e h
  stays_done x c (Compare t v) h = h
  stays_done x c (Answer j asks) h = answered_stays x j h
  stays_done x c (Finish j) h = finished_stays x j h

-- Tasks before and after a place

pub each_among : (P : Task → Type 0) (ts : List Task) (t : Task) → Each P ts → Among t ts → P t
each_among P [] t h m = absurd m
each_among P (x ∷ xs) t h (inl e) = subst P e h.0
each_among P (x ∷ xs) t h (inr m) = each_among P xs t h.1 m

each_along : (P Q : Task → Type 0) (ts : List Task) → ((t : Task) → P t → Q t) → Each P ts → Each Q ts
each_along P Q [] f h = tt
each_along P Q (x ∷ xs) f h = (f x h.0, each_along P Q xs f h.1)

pub done_stays : (p : Plan) (w : PointState) (x : Event) → RisesIn p w x → (before : List Task) →
    Each (IsDone w) before → Each (IsDone (after_event p w x)) before
done_stays p w x c before h = each_along (IsDone w) (IsDone (after_event p w x)) before (stays_done p w x c) h

module _ (p : Plan) (w : PointState) where
  abbrev resolving : Need → Option ℕ
  resolving n = resolver p n.chain n.value

  abbrev above : List Need → List Need
  above ns = filter (λ n. nat_lt (initial p n.chain) n.value) ns

  abbrev is_pending_need : Need → Bool
  is_pending_need n = nat_le n.value (initial p n.chain) || option_map_or w.bound (resolver p n.chain n.value) false

  all_pending : (ns : List Need) →
      ((n : Need) → Within n ns → initial p n.chain < n.value → is_some (resolver p n.chain n.value) ≡ true) →
      ((f : ℕ) → has (filter_map resolving (above ns)) f ≡ true → w.bound f ≡ true) → list_all is_pending_need ns ≡ true
  all_pending [] r g = refl
  all_pending (n ∷ ns) r g = by_value (nat_lt (initial p n.chain) n.value) refl (all_pending ns (λ m i. r m (inr i))) g
    where
      by_resolver : (o : Option ℕ) → resolver p n.chain n.value ≡ o → is_some o ≡ true →
          (((f : ℕ) → has (filter_map resolving (above ns)) f ≡ true → w.bound f ≡ true) →
          list_all is_pending_need ns ≡ true) → ((f : ℕ) →
          has (cons_option o (filter_map resolving (above ns))) f ≡ true →
          w.bound f ≡ true) → list_all is_pending_need (n ∷ ns) ≡ true
      by_resolver None is s ih h = absurd (cc)
      by_resolver (Some e) is s ih h =
          and_from
          (is_pending_need n)
          (list_all is_pending_need ns)
          (or_right (nat_le n.value (initial p n.chain)) (option_map_or w.bound (resolver p n.chain n.value) false)
          (ap (λ o. option_map_or w.bound o false) is ∙ h e (has_here e (filter_map resolving (above ns)))))
          (ih (λ f m. h f (has_there e (filter_map resolving (above ns)) f m)))

      by_value : (b : Bool) → nat_lt (initial p n.chain) n.value ≡ b →
          (((f : ℕ) → has (filter_map resolving (above ns)) f ≡ true → w.bound f ≡ true) →
          list_all is_pending_need ns ≡ true) → ((f : ℕ) →
          has (filter_map resolving (if b then n ∷ above ns else above ns)) f ≡ true →
          w.bound f ≡ true) → list_all is_pending_need (n ∷ ns) ≡ true
      by_value true e ih h = by_resolver (resolver p n.chain n.value) refl
          (r n (inl refl) (ltb-true (initial p n.chain) n.value e)) ih h
      by_value false e ih h =
          and_from
          (is_pending_need n)
          (list_all is_pending_need ns)
          (ap (λ b. b || option_map_or w.bound (resolver p n.chain n.value) false)
          (le-leb n.value (initial p n.chain) (ltb-false (initial p n.chain) n.value e)))
          (ih h)

  needs_pending : (j : ℕ) → HasResolvers p → ((f : ℕ) → has (awaited_at p j AtEnd) f ≡ true → w.bound f ≡ true) →
      are_needs_pending p w j ≡ true
  needs_pending j r h = by_any (waits_for_any p j) refl h
    where
      by_any : (b : Bool) → waits_for_any p j ≡ b →
          ((f : ℕ) → has (if b then [] else filter_map resolving (above (needs p j))) f ≡ true → w.bound f ≡ true) →
          (b || list_all is_pending_need (needs p j)) ≡ true
      by_any true e g = refl
      by_any false e g = all_pending (needs p j) (λ n i. r j n e i) g

  -- The event of the next task may come, where the place is true.

  module _ (before : List Task) (d : Each (IsDone w) before) where
    is_submitted : (j : ℕ) → Among (AwaitSubmitted j) before ⊎ Among (Submit j) before → w.submitted j ≡ true
    is_submitted j m = elim m [
      | inl x ↦ each_among (IsDone w) before (AwaitSubmitted j) d x
      | inr x ↦ each_among (IsDone w) before (Submit j) d x
    ]

    earlier_released : (j : ℕ) → AsksBatch p before j → list_all w.released (earlier_in_queue p j) ≡ true
    earlier_released j k = list_all_from w.released (earlier_in_queue p j)
        (λ i m. each_among (IsDone w) before (Release i) d (k.earlier i m))

    are_pending : (j : ℕ) → HasResolvers p → AsksBatch p before j → are_needs_pending p w j ≡ true
    are_pending j r k = needs_pending j r (λ f m. each_among (IsDone w) before (AwaitBound f) d (k.needs f m))

    pub can_release : (j : ℕ) → HasResolvers p → AsksRelease p before j → IsLeft w (Release j) → CanRelease p w j
    can_release j r k left =
        record {
          batch = k.moves.batch;
          submitted = is_submitted j k.moves.submitted;
          waiting = left;
          in_order = earlier_released j k.moves;
          needs = are_pending j r k.moves;
          taken = list_all_from (λ e. is_some (w.point_of e)) (signals_of p j)
              (λ e m. each_among (IsDone w) before (Take e (k.taken e m).0) d (k.taken e m).1);
        }

    pub can_take : (e t : ℕ) (after : List Task) → HasResolvers p → AsksTake p before e t after →
        Each (IsLeft w) (Take e t ∷ after) → CanCome p w (taken w e t)
    can_take e t after r k left = by_free (w.free t) refl
      where
        in_turn : (b : Bool) → is_host_step p k.job ≡ b →
            (if b then w.machine.progress.started k.job else w.submitted k.job && not (w.released k.job) && list_all
            w.released (earlier_in_queue p k.job) && are_needs_pending p w k.job) ≡ true
        in_turn true e' = each_among (IsDone w) before (Start k.job) d (k.started e')
        in_turn false e' =
            let m = k.moves e' in
            let sub = is_submitted k.job m.submitted in
            let rel : not (w.released k.job) ≡ true = ap not
            (each_among (IsLeft w) after (Release k.job) left.1 (k.release e')) in
            let s1 = and_from (w.submitted k.job) (not (w.released k.job)) sub rel in
            let s2 = and_from (w.submitted k.job && not (w.released k.job))
            (list_all w.released (earlier_in_queue p k.job)) s1 (earlier_released k.job m) in
            and_from (w.submitted k.job && not (w.released k.job) && list_all w.released (earlier_in_queue p k.job))
            (are_needs_pending p w k.job) s2 (are_pending k.job r m)

        by_free : (xs : List ℕ) → w.free t ≡ xs → CanCome p w (taken_of w e xs)
        by_free [] is = record {
          job = k.job;
          of_job = k.of_job;
          chain = t;
          in_chain = k.in_chain;
          without = left.0;
          in_turn = in_turn
              (is_host_step p k.job) refl;
          point = (is, refl);
        }
        by_free (q ∷ qs) is = record {
          job = k.job;
          of_job = k.of_job;
          chain = t;
          in_chain = k.in_chain;
          without = left.0;
          in_turn = in_turn
              (is_host_step p k.job) refl;
          point = ap (λ ys. slice_get ys 0) is;
        }
