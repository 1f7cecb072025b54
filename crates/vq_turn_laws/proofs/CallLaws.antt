-- What each call of an actor leaves: where its place is true and a task is next, the event of the call may come, and
-- the place that the call goes to is true after it.
use Rattle.std.proofs.Common.{◌≡◌, ℕ, ◌+◌, Bool, true, false, List, [], ◌∷◌, drop, Option, Some, None, refl, sym, subst}
use Rattle.std.proofs.Common.{inl}
use Rattle.std.specs.List.{slice_get}
use Rattle.std.specs.Option.{option_map_or}
use Rattle.vq_model.specs.declared.script.ActorName.{ActorName}
use Rattle.vq_model.specs.declared.plan.Need.{Need}
use Rattle.vq_model.specs.declared.plan.Question.{Question}
use Rattle.vq_model.specs.declared.plan.Event.{Event}
use Rattle.vq_model.specs.declared.plan.Event.TheVariants.{Submit as Submits, Release as Releases, Bind as Binds}
use Rattle.vq_model.specs.declared.plan.Event.TheVariants.{Start as Starts, Apply as Applies, Signal as Signals}
use Rattle.vq_model.specs.declared.plan.Event.TheVariants.{Finish as Finishes, Answer as AnswersAs, Complete, Free}
use Rattle.vq_model.specs.declared.plan.Event.TheVariants.{Refer, Look, Unref}
use Rattle.vq_model.specs.Plan.{Plan}
use Rattle.vq_point_laws.specs.Points.{PointState, CanCome, after_event}
use Rattle.vq_turns.specs.declared.task.Task.{Task}
use Rattle.vq_turns.specs.declared.task.Task.TheVariants.{AwaitNeeds, Submit, Take, Release, Bind, Start, Apply, Signal}
use Rattle.vq_turns.specs.declared.task.Task.TheVariants.{Compare, Answer, Finish}
use Rattle.vq_turns.specs.declared.look.Holding.{Holding}
use Rattle.vq_turns.specs.declared.look.Found.TheVariants.{Past, Pending}
use Rattle.vq_turns.specs.declared.outcome.Outcome.TheVariants.{Moved}
use Rattle.vq_turns.specs.Programs.{program}
use Rattle.vq_turns.specs.Turns.{Place, forward, held_for, holding_also, without_first, seeing, found, collected}
use Rattle.vq_turns.specs.Turns.{to_complete, to_free, taken, taken_of, unbound_before, point_of, past_value, answer_by}
use Rattle.vq_turn_laws.specs.Places.{IsDone}
use Rattle.vq_turn_laws.specs.PlanParts.{IsOrderly}
use Rattle.vq_turn_laws.specs.Tasks.{Among, IsOf, IsEventOf, is_waiting, is_asking}
use Rattle.vq_turn_laws.specs.TruePlaces.{Stands, SawTruly, IsTrueFor, IsTrueTurn}
use Rattle.vq_turn_laws.proofs.References.{at_index}
use Rattle.vq_turn_laws.proofs.CutFacts.{IsCut, cut_at}
use Rattle.vq_turn_laws.proofs.Cuts.{done_of, next_cut, next_left}
use Rattle.vq_turn_laws.proofs.Reached.{Reached}
use Rattle.vq_turn_laws.proofs.SawLaws.{saw_behind, saw_still, saw_answered, saw_compared, saw_asked}
use Rattle.vq_turn_laws.proofs.StandLaws.{is_plain, stands_looked}
use Rattle.vq_turn_laws.proofs.TaskLaws.{Does, does_submit, does_release, does_take, does_bind, does_start, does_apply}
use Rattle.vq_turn_laws.proofs.TaskLaws.{does_signal, does_finish, does_answer, collects_true}
use Rattle.vq_turn_laws.proofs.WaitLaws.{stands_referred, stands_seen, stands_met, stands_over, stands_returned}

event_of : (p : Plan) (a : ActorName) (x : Event) (t : Task) → Among t (program p a) → IsOf x t → IsEventOf p a x
event_of p a (Refer b q e) t m own = absurd own
event_of p a (Look b q e) t m own = absurd own
event_of p a (Unref b q e) t m own = absurd own
event_of p a (Complete e) t m own = absurd own
event_of p a (Free q) t m own = absurd own
event_of p a other t m own = (t, m, own)

taken_own : (w : PointState) (e t : ℕ) → IsOf (taken w e t) (Take e t)
taken_own w e t = by_free (w.free t)
  where
    by_free : (qs : List ℕ) → IsOf (taken_of w e qs) (Take e t)
    by_free [] = refl
    by_free (q ∷ qs) = refl

module _ (p : Plan) (o : IsOrderly p) (w : PointState) (r : Reached p w) (a : ActorName) (x : Place) (t : Task)
    (next : slice_get (program p a) x.done ≡ Some t) (true_here : IsTrueFor p w a x) where
  abbrev before : List Task
  before = done_of x.done (program p a)

  abbrev left : List Task
  left = drop (x.done + 1) (program p a)

  is_left : drop x.done (program p a) ≡ t ∷ left
  is_left = next_left x.done (program p a) t next

  cut : IsCut p a before (t ∷ left)
  cut = subst (IsCut p a before) is_left (cut_at p o a x.done)

  stands : Stands p w a before (t ∷ left) x.holding x.met
  stands = subst (λ us. Stands p w a before us x.holding x.met) is_left true_here.stands

  saw : SawTruly p w before (t ∷ left) x.seen
  saw = subst (λ us. SawTruly p w before us x.seen) is_left true_here.saw

  -- places before the task, and behind it
  stays_here : (v : PointState) (y : Place) → y.done ≡ x.done → Stands p v a before (t ∷ left) y.holding y.met →
      SawTruly p v before (t ∷ left) y.seen → IsTrueFor p v a y
  stays_here v y same s k =
      subst (λ (n : ℕ). Stands p v a (done_of n (program p a)) (drop n (program p a)) y.holding y.met → SawTruly p v
      (done_of n (program p a)) (drop n (program p a)) y.seen → IsTrueFor p v a y) same
      (λ u m. record { stands = u; saw = m })
      (subst (λ us. Stands p v a before us y.holding y.met) (sym is_left) s)
      (subst (λ us. SawTruly p v before us y.seen) (sym is_left) k)

  goes_behind : (v : PointState) (y : Place) → y.done ≡ x.done + 1 → Stands p v a (t ∷ before) left y.holding y.met →
      SawTruly p v (t ∷ before) left y.seen → IsTrueFor p v a y
  goes_behind v y same s k =
      let behind = (next_cut x.done (program p a) t left is_left).1 in
      subst (λ (n : ℕ). Stands p v a (done_of n (program p a)) (drop n (program p a)) y.holding y.met → SawTruly p v
      (done_of n (program p a)) (drop n (program p a)) y.seen → IsTrueFor p v a y) same
      (λ u m. record { stands = u; saw = m })
      (subst (λ us. Stands p v a us left y.holding y.met) (sym behind) s)
      (subst (λ us. SawTruly p v us left y.seen) (sym behind) k)

  -- between waits nothing is held
  held_same : (v : PointState) (ts us : List Task) → is_waiting (t ∷ left) ≡ false → Stands p v a ts us [] false →
      Stands p v a ts us x.holding x.met
  held_same v ts us h s =
      let b = stands.between h in
      subst (λ (m : Bool). Stands p v a ts us x.holding m) (sym b.1)
      (subst (λ (hs : List Holding). Stands p v a ts us hs false) (sym b.0) s)

  -- A look that finds its thing so.
  pub goes_on : is_plain t ≡ true → is_waiting (t ∷ left) ≡ false → is_asking (t ∷ left) ≡ false → IsDone w t →
      IsTrueFor p w a (forward x)
  goes_on plain h g done =
      goes_behind w (forward x) refl
      (held_same w (t ∷ before) left h (stands_looked p o w r a before t left x.holding x.met plain done stands))
      (saw_behind p w w before t left x.seen g saw)

  -- The event of a task.
  moves_on : (e : Event) → is_waiting (t ∷ left) ≡ false → is_asking (t ∷ left) ≡ false → IsOf e t →
      Does p w a before t left e → IsTrueTurn p w a (Moved e) (forward x)
  moves_on e h g own d = (
    d.0,
    event_of p a e t (cut.own t (inl refl)) own,
    goes_behind (after_event p w e) (forward x) refl (held_same (after_event p w e) (t ∷ before) left h d.1)
        (saw_behind p w (after_event p w e) before t left x.seen g saw),
  )

  -- Collection on a chain, before a task.
  pub collects : (chain : ℕ) (e : Event) → collected p w chain ≡ Some e → IsTrueTurn p w a (Moved e) x
  collects chain e is =
      let c = collects_true p o w r chain e is in (
        c.0,
        everybodys e is,
        stays_here (after_event p w e) x refl (c.1 a before (t ∷ left) x.holding x.met stands)
            (saw_still p o w r a before stands.done (t ∷ left) x.seen cut saw e c.0),
      )
    where
      everybodys : (e : Event) → collected p w chain ≡ Some e → IsEventOf p a e
      everybodys e is = by_complete (to_complete p w chain) is
        where
          by_free : (z : Option ℕ) → option_map_or (λ q. Some (Free q)) z None ≡ Some e → IsEventOf p a e
          by_free None s = absurd (let y = s in cc)
          by_free (Some q) s = let same : Free q ≡ e = let y = s in cc in subst (IsEventOf p a) same tt

          by_complete : (z : Option ℕ) →
              option_map_or (λ f. Some (Complete f)) z (option_map_or (λ q. Some (Free q)) (to_free p w chain) None) ≡
              Some e → IsEventOf p a e
          by_complete None s = by_free (to_free p w chain) s
          by_complete (Some f) s = let same : Complete f ≡ e = let y = s in cc in subst (IsEventOf p a) same tt

module _ (p : Plan) (o : IsOrderly p) (w : PointState) (r : Reached p w) (a : ActorName) (x : Place) where
  abbrev IsNext : Task → Type 0
  IsNext t = slice_get (program p a) x.done ≡ Some t

  abbrev Here : Type 0
  Here = IsTrueFor p w a x

  pub call_submit : (j : ℕ) → IsNext (Submit j) → Here → IsTrueTurn p w a (Moved (Submits j)) (forward x)
  call_submit j n h =
      moves_on p o w r a x (Submit j) n h (Submits j) refl refl refl
      (does_submit p o w r a (before p o w r a x (Submit j) n h) (left p o w r a x (Submit j) n h) x.holding x.met j
      (cut p o w r a x (Submit j) n h) (stands p o w r a x (Submit j) n h))

  pub call_release : (j : ℕ) → IsNext (Release j) → Here → IsTrueTurn p w a (Moved (Releases j)) (forward x)
  call_release j n h =
      moves_on p o w r a x (Release j) n h (Releases j) refl refl refl
      (does_release p o w r a (before p o w r a x (Release j) n h) (left p o w r a x (Release j) n h) x.holding x.met j
      (cut p o w r a x (Release j) n h) (stands p o w r a x (Release j) n h))

  pub call_take : (e c : ℕ) → IsNext (Take e c) → Here → IsTrueTurn p w a (Moved (taken w e c)) (forward x)
  call_take e c n h =
      moves_on p o w r a x (Take e c) n h (taken w e c) refl refl (taken_own w e c)
      (does_take p o w r a (before p o w r a x (Take e c) n h) (left p o w r a x (Take e c) n h) x.holding x.met e c
      (cut p o w r a x (Take e c) n h) (stands p o w r a x (Take e c) n h))

  pub call_bind : (e : ℕ) → unbound_before p w e ≡ None → IsNext (Bind e) → Here →
      IsTrueTurn p w a (Moved (Binds e (point_of w e))) (forward x)
  call_bind e none n h =
      moves_on p o w r a x (Bind e) n h (Binds e (point_of w e)) refl refl refl
      (does_bind p o w r a (before p o w r a x (Bind e) n h) (left p o w r a x (Bind e) n h) x.holding x.met e none
      (cut p o w r a x (Bind e) n h) (stands p o w r a x (Bind e) n h))

  pub call_start : (j : ℕ) → IsNext (Start j) → Here → IsTrueTurn p w a (Moved (Starts j)) (forward x)
  call_start j n h =
      moves_on p o w r a x (Start j) n h (Starts j) refl refl refl
      (does_start p o w r a (before p o w r a x (Start j) n h) (left p o w r a x (Start j) n h) x.holding x.met j
      (cut p o w r a x (Start j) n h) (stands p o w r a x (Start j) n h))

  pub call_apply : (j d : ℕ) → IsNext (Apply j d) → Here → IsTrueTurn p w a (Moved (Applies j d)) (forward x)
  call_apply j d n h =
      moves_on p o w r a x (Apply j d) n h (Applies j d) refl refl refl
      (does_apply p o w r a (before p o w r a x (Apply j d) n h) (left p o w r a x (Apply j d) n h) x.holding x.met j d
      (cut p o w r a x (Apply j d) n h) (stands p o w r a x (Apply j d) n h))

  pub call_signal : (e : ℕ) → w.bound e ≡ true → IsNext (Signal e) → Here →
      IsTrueTurn p w a (Moved (Signals e)) (forward x)
  call_signal e bound n h =
      moves_on p o w r a x (Signal e) n h (Signals e) refl refl refl
      (does_signal p o w r a (before p o w r a x (Signal e) n h)
      (left p o w r a x (Signal e) n h) x.holding x.met e bound (cut p o w r a x (Signal e) n h)
      (stands p o w r a x (Signal e) n h))

  pub call_finish : (j : ℕ) → IsNext (Finish j) → Here → IsTrueTurn p w a (Moved (Finishes j)) (forward x)
  call_finish j n h =
      moves_on p o w r a x (Finish j) n h (Finishes j) refl refl refl
      (does_finish p o w r a (before p o w r a x (Finish j) n h) (left p o w r a x (Finish j) n h) x.holding x.met j
      (cut p o w r a x (Finish j) n h) (stands p o w r a x (Finish j) n h))

  pub call_answer : (j : ℕ) (q : Question) → IsNext (Answer j q) → Here →
      IsTrueTurn p w a (Moved (AnswersAs j (answer_by q x.seen))) (record (forward x) { seen = [] })
  call_answer j q n h =
      let c = cut p o w r a x (Answer j q) n h in
      let s = stands p o w r a x (Answer j q) n h in
      let k = saw p o w r a x (Answer j q) n h in
      let ts = before p o w r a x (Answer j q) n h in
      let us = left p o w r a x (Answer j q) n h in
      let d = does_answer p o w r a ts us x.holding x.met j q x.seen (saw_asked p o w r a ts s.done j q us x.seen c k)
      (λ t e. o.parts.value j t e) c s in
      let v = after_event p w (AnswersAs j (answer_by q x.seen)) in (
        d.0,
        event_of p a (AnswersAs j (answer_by q x.seen)) (Answer j q) (c.own (Answer j q) (inl refl)) refl,
        goes_behind p o w r a x (Answer j q) n h v (record (forward x) { seen = [] }) refl
            (held_same p o w r a x (Answer j q) n h v (Answer j q ∷ ts) us refl d.1) (saw_answered p v ts j q us),
      )

  pub call_compare : (chain v : ℕ) → collected p w chain ≡ None → IsNext (Compare chain v) → Here →
      IsTrueFor p w a (seeing x v (past_value p w chain))
  call_compare chain v none n h =
      let c = cut p o w r a x (Compare chain v) n h in
      let s = stands p o w r a x (Compare chain v) n h in
      let ts = before p o w r a x (Compare chain v) n h in
      let us = left p o w r a x (Compare chain v) n h in
      goes_behind p o w r a x (Compare chain v) n h w (seeing x v (past_value p w chain)) refl
      (held_same p o w r a x (Compare chain v) n h w (Compare chain v ∷ ts) us refl
      (stands_looked p o w r a ts (Compare chain v) us x.holding x.met refl tt s))
      (saw_compared p o w r a ts s.done chain v us x.seen none c (saw p o w r a x (Compare chain v) n h))

  -- Waits

  module _ (ns : List Need) (n : IsNext (AwaitNeeds ns)) (h : Here) where
    abbrev ts : List Task
    ts = before p o w r a x (AwaitNeeds ns) n h

    abbrev us : List Task
    us = left p o w r a x (AwaitNeeds ns) n h

    c : IsCut p a ts (AwaitNeeds ns ∷ us)
    c = cut p o w r a x (AwaitNeeds ns) n h

    s : Stands p w a ts (AwaitNeeds ns ∷ us) x.holding x.met
    s = stands p o w r a x (AwaitNeeds ns) n h

    unmet : x.met ≡ false → Stands p w a ts (AwaitNeeds ns ∷ us) x.holding false
    unmet m = subst (λ (b : Bool). Stands p w a ts (AwaitNeeds ns ∷ us) x.holding b) m s

    saw_after : (e : Event) → CanCome p w e → SawTruly p (after_event p w e) ts (AwaitNeeds ns ∷ us) x.seen
    saw_after e can = saw_still p o w r a ts s.done (AwaitNeeds ns ∷ us) x.seen c
        (saw p o w r a x (AwaitNeeds ns) n h) e can

    -- A reference to a pending operation.
    pub call_refer : x.met ≡ false → (i : ℕ) (need : Need) (e q : ℕ) → slice_get ns i ≡ Some need →
        held_for i x.holding ≡ None → found p w need.chain need.value ≡ Some (Pending e q) →
        IsTrueTurn p w a (Moved (Refer a q e)) (holding_also x i e q)
    call_refer m i need e q at none f =
        let d = stands_referred p o w r a ts ns us c x.holding (unmet m) i need e q (at_index ns i need at) none f in (
          d.0,
          refl,
          stays_here p o w r a x (AwaitNeeds ns) n h (after_event p w (Refer a q e)) (holding_also x i e q) refl
              (subst (λ (b : Bool). Stands p (after_event p w (Refer a q e)) a ts (AwaitNeeds ns ∷ us)
              (holding_also x i e q).holding b) (sym m) d.1)
              (saw_after (Refer a q e) d.0),
        )

    -- A look that sees its signal.
    pub call_look : x.met ≡ false → (i : ℕ) (need : Need) (g : Holding) → slice_get ns i ≡ Some need →
        held_for i x.holding ≡ Some g → w.machine.progress.made g.op ≡ true →
        IsTrueTurn p w a (Moved (Look a g.point g.op)) (record x { met = true })
    call_look m i need g at is made =
        let d = stands_seen p o w r a ts ns us c x.holding (unmet m) i need g (at_index ns i need at) is made in (
          d.0,
          refl,
          stays_here p o w r a x (AwaitNeeds ns) n h (after_event p w (Look a g.point g.op))
              (record x { met = true }) refl d.1 (saw_after (Look a g.point g.op) d.0),
        )

    -- A value that is past ends the waiting.
    pub call_met : x.met ≡ false → (i : ℕ) (need : Need) → slice_get ns i ≡ Some need →
        found p w need.chain need.value ≡ Some Past → IsTrueFor p w a (record x { met = true })
    call_met m i need at f =
        stays_here p o w r a x (AwaitNeeds ns) n h w (record x { met = true }) refl
        (stands_met p o w r a ts ns us c x.holding (unmet m) i need (at_index ns i need at) f)
        (saw p o w r a x (AwaitNeeds ns) n h)

    -- Where the waiting has ended and nothing is held, the actor goes on.
    pub call_over : x.met ≡ true → x.holding ≡ [] → IsTrueFor p w a (record (forward x) { holding = []; met = false })
    call_over m e =
        goes_behind p o w r a x (AwaitNeeds ns) n h w (record (forward x) { holding = []; met = false }) refl
        (stands_over p w a ts ns us c
        (subst (λ (b : Bool). Stands p w a ts (AwaitNeeds ns ∷ us) [] b) m
        (subst (λ (hs : List Holding). Stands p w a ts (AwaitNeeds ns ∷ us) hs x.met) e s)))
        (saw_behind p w w ts (AwaitNeeds ns) us x.seen refl (saw p o w r a x (AwaitNeeds ns) n h))

    -- A reference is given back, and after the last one the actor goes on.
    pub call_unref : x.met ≡ true → (g : Holding) (hs : List Holding) → x.holding ≡ g ∷ hs →
        IsTrueTurn p w a (Moved (Unref a g.point g.op)) (without_first x hs)
    call_unref m g hs e =
        let held = subst (λ (b : Bool). Stands p w a ts (AwaitNeeds ns ∷ us) (g ∷ hs) b) m
        (subst (λ (ks : List Holding). Stands p w a ts (AwaitNeeds ns ∷ us) ks x.met) e s) in
        let d = stands_returned p o w r a ts ns us c g hs held in
        (d.0, refl, by_rest hs (saw_after (Unref a g.point g.op) d.0) d.1)
      where
        by_rest : (ks : List Holding) →
            SawTruly p (after_event p w (Unref a g.point g.op)) ts (AwaitNeeds ns ∷ us) x.seen →
            Stands p (after_event p w (Unref a g.point g.op)) a ts (AwaitNeeds ns ∷ us) ks true →
            IsTrueFor p (after_event p w (Unref a g.point g.op)) a (without_first x ks)
        by_rest [] k d =
            goes_behind p o w r a x (AwaitNeeds ns) n h (after_event p w (Unref a g.point g.op))
            (without_first x []) refl (stands_over p (after_event p w (Unref a g.point g.op)) a ts ns us c d)
            (saw_behind p (after_event p w (Unref a g.point g.op)) (after_event p w (Unref a g.point g.op)) ts
            (AwaitNeeds ns) us x.seen refl k)
        by_rest (f ∷ fs) k d = stays_here p o w r a x (AwaitNeeds ns) n h (after_event p w (Unref a g.point g.op))
            (without_first x (f ∷ fs)) refl d k
