-- A turn of an actor whose place is true: its event may come, and the place that it leads to is true.
use Rattle.std.proofs.Common.{◌≡◌, ℕ, ◌+◌, Bool, true, false, if◌then◌else◌, List, [], ◌∷◌, drop, Option, Some, None}
use Rattle.std.proofs.Common.{refl, sym, subst, ap, inl, inr}
use Rattle.std.specs.List.{slice_get, enumerate_from}
use Rattle.std.specs.Option.{option_map_or}
use Rattle.vq_model.specs.declared.script.ActorName.{ActorName}
use Rattle.vq_model.specs.declared.plan.Need.{Need}
use Rattle.vq_model.specs.declared.plan.Event.{Event}
use Rattle.vq_model.specs.declared.plan.Event.TheVariants.{Bind as Binds, Signal as Signals, Look}
use Rattle.vq_model.specs.Plan.{Plan}
use Rattle.vq_point_laws.specs.Points.{PointState}
use Rattle.vq_turns.specs.declared.task.Task.{Task}
use Rattle.vq_turns.specs.declared.task.Task.TheVariants.{AwaitSubmitted, AwaitReleased, AwaitFinished, AwaitBound}
use Rattle.vq_turns.specs.declared.task.Task.TheVariants.{AwaitNeeds, Submit, Take, Release, Bind, Start, Apply, Signal}
use Rattle.vq_turns.specs.declared.task.Task.TheVariants.{Compare, Answer, Finish}
use Rattle.vq_turns.specs.declared.look.Holding.{Holding}
use Rattle.vq_turns.specs.declared.look.Found.{Found}
use Rattle.vq_turns.specs.declared.look.Found.TheVariants.{Past, Pending, NotYet}
use Rattle.vq_turns.specs.declared.outcome.Want.{Want}
use Rattle.vq_turns.specs.declared.outcome.Want.TheVariants.{Bound, Next, Signaled}
use Rattle.vq_turns.specs.declared.outcome.Outcome.TheVariants.{Moved, Blocked}
use Rattle.vq_turns.specs.Programs.{program}
use Rattle.vq_turns.specs.Turns.{Place, Did, GoesOn, Ends, forward, waits, moves, collected, taken, unbound_before}
use Rattle.vq_turns.specs.Turns.{point_of, seeing, past_value, held_for, gives_back, by_found, one_need, awaits_needs}
use Rattle.vq_turns.specs.Turns.{found, does}
use Rattle.vq_turn_laws.specs.Places.{IsDone}
use Rattle.vq_turn_laws.specs.PlanParts.{IsOrderly}
use Rattle.vq_turn_laws.specs.Tasks.{is_waiting, is_asking}
use Rattle.vq_turn_laws.specs.TruePlaces.{IsTrueFor, IsTrueDid}
use Rattle.vq_turn_laws.proofs.References.{AtIndex, index_at}
use Rattle.vq_turn_laws.proofs.CallLaws.{goes_on, collects, call_submit, call_release, call_take, call_bind, call_start}
use Rattle.vq_turn_laws.proofs.CallLaws.{call_apply, call_signal, call_finish, call_answer, call_compare, call_refer}
use Rattle.vq_turn_laws.proofs.CallLaws.{call_look, call_met, call_over, call_unref}
use Rattle.vq_turn_laws.proofs.Reached.{Reached}
use Rattle.vq_turn_laws.proofs.StandLaws.{is_plain}

-- pairs of an index and the need there
abbrev AllAt : List Need → List (ℕ × Need) → Type 0
AllAt ns [] = Unit {0}
AllAt ns ((k, n) ∷ qs) = (slice_get ns k ≡ Some n) × AllAt ns qs

all_at : (ns : List Need) (k : ℕ) (ms : List Need) → ((i : ℕ) (n : Need) → AtIndex k ms i n → AtIndex 0 ns i n) →
    AllAt ns (enumerate_from k ms)
all_at ns k [] f = tt
all_at ns k (m ∷ ms) f = (index_at ns k m (f k m (inl (refl, refl))), all_at ns (k + 1) ms (λ i n at. f i n (inr at)))

module _ (p : Plan) (o : IsOrderly p) (w : PointState) (r : Reached p w) (a : ActorName) (x : Place)
    (h : IsTrueFor p w a x) where
  looks_true : (t : Task) → slice_get (program p a) x.done ≡ Some t → is_plain t ≡ true →
      is_waiting (t ∷ drop (x.done + 1) (program p a)) ≡ false →
      is_asking (t ∷ drop (x.done + 1) (program p a)) ≡ false → (b : Bool) (want : Want) → (b ≡ true → IsDone w t) →
      IsTrueDid p w a (waits b want x)
  looks_true t n plain g k true want f = goes_on p o w r a x t n h plain g k (f refl)
  looks_true t n plain g k false want f = h

  collects_true_first : (t : Task) → slice_get (program p a) x.done ≡ Some t → (chain : ℕ) (others : Did) →
      (collected p w chain ≡ None → IsTrueDid p w a others) → (z : Option Event) → collected p w chain ≡ z →
      IsTrueDid p w a (option_map_or (λ e. Ends (Moved e) x) z others)
  collects_true_first t n chain others f None s = f s
  collects_true_first t n chain others f (Some e) s = collects p o w r a x t n h chain e s

  module _ (ns : List Need) (n : slice_get (program p a) x.done ≡ Some (AwaitNeeds ns)) where
    over_true : (y : Place) → y ≡ record x { met = true } → IsTrueFor p w a y → (hs : List Holding) → x.holding ≡ hs →
        IsTrueDid p w a (gives_back a x hs)
    over_true y same k [] e =
        let here = subst (IsTrueFor p w a) same k in
        subst (λ (ks : List Holding). IsTrueFor p w a (record (forward x) { holding = ks; met = false })) (sym e)
        (call_over p o w r a (record x { met = true }) ns n here refl e)
    over_true y same k (g ∷ gs) e =
        let here = subst (IsTrueFor p w a) same k in
        call_unref p o w r a (record x { met = true }) ns n here refl g gs e

    met_true : x.met ≡ true → IsTrueDid p w a (gives_back a x x.holding)
    met_true m = over_true x (ap (λ (b : Bool). record x { met = b }) m) h x.holding refl

    module _ (m : x.met ≡ false) where
      looked_true : (g : Holding) (k : ℕ) (need : Need) → slice_get ns k ≡ Some need → held_for k x.holding ≡ Some g →
          (next_need : Option Want → Did) → ((v : Option Want) → IsTrueDid p w a (next_need v)) → (b : Bool) →
          w.machine.progress.made g.op ≡ b →
          IsTrueDid p w a (if b then Ends (Moved (Look a g.point g.op)) (record x { met = true }) else next_need
          (Some (Signaled g.op)))
      looked_true g k need at is next_need f true made = call_look p o w r a x ns n h m k need g at is made
      looked_true g k need at is next_need f false made = f (Some (Signaled g.op))

      found_true : (k : ℕ) (need : Need) → slice_get ns k ≡ Some need → held_for k x.holding ≡ None →
          (next_need : Option Want → Did) → ((v : Option Want) → IsTrueDid p w a (next_need v)) →
          (want : Option Want) (z : Option Found) → found p w need.chain need.value ≡ z →
          IsTrueDid p w a (by_found a x k next_need want z)
      found_true k need at none next_need f want None s = f want
      found_true k need at none next_need f want (Some Past) s = over_true (record x { met = true }) refl
          (call_met p o w r a x ns n h m k need at s) x.holding refl
      found_true k need at none next_need f want
          (Some (Pending e q)) s = call_refer p o w r a x ns n h m k need e q at none s
      found_true k need at none next_need f want (Some (NotYet e)) s = f (Some (Bound e))

      need_true : (k : ℕ) (need : Need) → slice_get ns k ≡ Some need → (next_need : Option Want → Did) →
          ((v : Option Want) → IsTrueDid p w a (next_need v)) → (want : Option Want) (z : Option Holding) →
          held_for k x.holding ≡ z → IsTrueDid p w a (one_need p w a x k need z next_need want)
      need_true k need at next_need f want None s = found_true k need at s next_need f want
          (found p w need.chain need.value) refl
      need_true k need at next_need f want (Some g) s = looked_true g k need at s next_need f
          (w.machine.progress.made g.op) refl

      needs_true : (qs : List (ℕ × Need)) → AllAt ns qs → (want : Option Want) →
          IsTrueDid p w a (awaits_needs p w a x qs want)
      needs_true [] f None = h
      needs_true [] f (Some v) = h
      needs_true ((k, need) ∷ qs) f want = need_true k need f.0 (awaits_needs p w a x qs) (needs_true qs f.1) want
          (held_for k x.holding) refl

    wait_true : (b : Bool) → x.met ≡ b →
        IsTrueDid p w a (if b then gives_back a x x.holding else awaits_needs p w a x (enumerate_from 0 ns) None)
    wait_true true m = met_true m
    wait_true false m = needs_true m (enumerate_from 0 ns) (all_at ns 0 ns (λ i need at. at)) None

  bind_true : (e : ℕ) → slice_get (program p a) x.done ≡ Some (Bind e) → (z : Option ℕ) → unbound_before p w e ≡ z →
      IsTrueDid p w a (option_map_or (λ f. Ends (Blocked (Next f)) x) z (moves (Binds e (point_of w e)) x))
  bind_true e n None s = call_bind p o w r a x e s n h
  bind_true e n (Some f) s = h

  signal_true : (e : ℕ) → slice_get (program p a) x.done ≡ Some (Signal e) → (b : Bool) → w.bound e ≡ b →
      IsTrueDid p w a (if b then moves (Signals e) x else Ends (Blocked (Bound e)) x)
  signal_true e n true s = call_signal p o w r a x e s n h
  signal_true e n false s = h

  -- What the next task comes to is so.
  pub does_true : (t : Task) → slice_get (program p a) x.done ≡ Some t → IsTrueDid p w a (does p w a x t)
  does_true (AwaitSubmitted j) n = looks_true (AwaitSubmitted j) n refl refl refl (w.submitted j) _ (λ e. e)
  does_true (AwaitReleased j) n = looks_true (AwaitReleased j) n refl refl refl (w.released j) _ (λ e. e)
  does_true (AwaitFinished j) n = looks_true (AwaitFinished j) n refl refl refl (w.machine.progress.finished j) _
      (λ e. e)
  does_true (AwaitBound e) n = looks_true (AwaitBound e) n refl refl refl (w.bound e) _ (λ e. e)
  does_true (AwaitNeeds ns) n = wait_true ns n x.met refl
  does_true (Submit j) n = call_submit p o w r a x j n h
  does_true (Take e c) n = collects_true_first (Take e c) n c (moves (taken w e c) x)
      (λ none. call_take p o w r a x e c n h) (collected p w c) refl
  does_true (Release j) n = call_release p o w r a x j n h
  does_true (Bind e) n = bind_true e n (unbound_before p w e) refl
  does_true (Start j) n = call_start p o w r a x j n h
  does_true (Apply j d) n = call_apply p o w r a x j d n h
  does_true (Signal e) n = signal_true e n (w.bound e) refl
  does_true (Compare c v) n = collects_true_first (Compare c v) n c (GoesOn (seeing x v (past_value p w c)))
      (λ none. call_compare p o w r a x c v none n h) (collected p w c) refl
  does_true (Answer j q) n = call_answer p o w r a x j q n h
  does_true (Finish j) n = call_finish p o w r a x j n h
