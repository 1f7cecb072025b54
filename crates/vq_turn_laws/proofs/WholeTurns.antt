-- A whole turn, the opening, and the turns of others.
use Rattle.std.proofs.Common.{◌≡◌, ℕ, suc, ◌+◌, Bool, true, false, if◌then◌else◌, List, [], ◌∷◌, drop, Option, Some}
use Rattle.std.proofs.Common.{None, refl, subst, arith}
use Rattle.std.specs.List.{enumerate_from}
use Rattle.std.specs.Option.{option_map_or}
use Rattle.std.proofs.lemmas.Bool.{false≢true}
use Rattle.vq_model.specs.declared.script.ActorName.{ActorName}
use Rattle.vq_model.specs.declared.plan.Need.{Need}
use Rattle.vq_model.specs.declared.plan.Event.{Event}
use Rattle.vq_model.specs.declared.plan.Event.TheVariants.{Look, Bind as Binds, Signal as Signals}
use Rattle.vq_model.specs.Plan.{Plan}
use Rattle.vq_point_laws.specs.Points.{PointState, CanCome, after_event, opening_points}
use Rattle.vq_turns.specs.declared.task.Task.{Task}
use Rattle.vq_turns.specs.declared.task.Task.TheVariants.{AwaitSubmitted, AwaitReleased, AwaitFinished, AwaitBound}
use Rattle.vq_turns.specs.declared.task.Task.TheVariants.{AwaitNeeds, Submit, Take, Release, Bind, Start, Apply, Signal}
use Rattle.vq_turns.specs.declared.task.Task.TheVariants.{Compare, Answer, Finish}
use Rattle.vq_turns.specs.declared.look.Holding.{Holding}
use Rattle.vq_turns.specs.declared.look.Found.{Found}
use Rattle.vq_turns.specs.declared.look.Found.TheVariants.{Past, Pending, NotYet}
use Rattle.vq_turns.specs.declared.outcome.Want.{Want}
use Rattle.vq_turns.specs.declared.outcome.Want.TheVariants.{Bound, Next, Signaled}
use Rattle.vq_turns.specs.declared.outcome.Outcome.TheVariants.{Moved, Blocked}
use Rattle.vq_turns.specs.Programs.{program}
use Rattle.vq_turns.specs.Turns.{Place, Did, GoesOn, Ends, first_place, waits, moves, collected, taken, unbound_before}
use Rattle.vq_turns.specs.Turns.{point_of, seeing, past_value, held_for, gives_back, by_found, one_need, awaits_needs}
use Rattle.vq_turns.specs.Turns.{found, does, and_then, turn_from, turn_of}
use Rattle.vq_turn_laws.specs.Holdings.{HoldsTruly}
use Rattle.vq_turn_laws.specs.Places.{IsLeft}
use Rattle.vq_turn_laws.specs.PlanParts.{HasOwnProgram, IsOrderly}
use Rattle.vq_turn_laws.specs.Tasks.{Each, IsEventOf, waited_now}
use Rattle.vq_turn_laws.specs.TruePlaces.{IsTrueFor, IsTrueTurn, IsTrueDid}
use Rattle.vq_turn_laws.proofs.CutFacts.{cut_at}
use Rattle.vq_turn_laws.proofs.Cuts.{done_of, next_at}
use Rattle.vq_turn_laws.proofs.HoldingLaws.{enters_wait}
use Rattle.vq_turn_laws.proofs.OtherLaws.{stands_for_others}
use Rattle.vq_turn_laws.proofs.Reached.{Reached}
use Rattle.vq_turn_laws.proofs.SawLaws.{saw_first, saw_still}
use Rattle.vq_turn_laws.proofs.TurnLaws.{does_true}

-- The opening

none_done : (p : Plan) (t : Task) → IsLeft (opening_points p) t
none_done p (AwaitSubmitted j) = tt
none_done p (AwaitReleased j) = tt
none_done p (AwaitFinished j) = tt
none_done p (AwaitBound e) = tt
none_done p (AwaitNeeds ns) = tt
none_done p (Submit j) = refl
none_done p (Take e c) = refl
none_done p (Release j) = refl
none_done p (Bind e) = refl
none_done p (Start j) = refl
none_done p (Apply j d) = refl
none_done p (Signal e) = refl
none_done p (Compare c v) = tt
none_done p (Answer j q) = refl
none_done p (Finish j) = refl

all_left : (p : Plan) (ts : List Task) → Each (IsLeft (opening_points p)) ts
all_left p [] = tt
all_left p (t ∷ ts) = (none_done p t, all_left p ts)

nothing_yet : (p : Plan) (a : ActorName) (j : ℕ) → HoldsTruly p (opening_points p) a [] j [] [] false
nothing_yet p a j =
    record {
      tie = λ q e. refl;
      of_need = λ m k h is n at. absurd (let z = at in cc);
      above = λ m k h is n at. absurd (let z = at in cc);
      referred = λ e. omega arith;
      looked = λ e. omega arith;
    }

-- At the opening each actor's first place is true.
pub opening_true : (p : Plan) (a : ActorName) → IsTrueFor p (opening_points p) a first_place
opening_true p a =
    record {
      stands = record {
        done = tt;
        left = all_left p (program p a);
        holds = λ j js f. enters_wait p (opening_points p) a [] j (waited_now (program p a)) (nothing_yet p a j);
        between = λ h. (refl, refl);
        reached = λ m. absurd (false≢true m);
      };
      saw = saw_first p (opening_points p) (program p a);
    }

-- Others

pub others_true : (p : Plan) → IsOrderly p → (w : PointState) → Reached p w → (a b : ActorName) → HasOwnProgram p a →
    HasOwnProgram p b → (a ≡ b → ⊥) → (x : Place) → IsTrueFor p w a x → (e : Event) → CanCome p w e → IsEventOf p b e →
    IsTrueFor p (after_event p w e) a x
others_true p o w r a b first second two x h e can of_other =
    let c = cut_at p o a x.done in
    record {
      stands = stands_for_others p o w r a b first second two (done_of x.done (program p a))
          (drop x.done (program p a)) x.holding x.met c h.stands e can of_other;
      saw = saw_still p o w r a (done_of x.done (program p a)) h.stands.done
          (drop x.done (program p a)) x.seen c h.saw e can;
    }

-- Whole turns

-- where a turn goes on it goes to the next task
abbrev pub GoesForward : Place → Did → Type 0
GoesForward x (GoesOn y) = y.done ≡ x.done + 1
GoesForward x (Ends outcome y) = Unit {0}

module _ (p : Plan) (w : PointState) (a : ActorName) (x : Place) where
  waits_forward : (b : Bool) (want : Want) → GoesForward x (waits b want x)
  waits_forward true want = refl
  waits_forward false want = tt

  collects_forward : (z : Option Event) (others : Did) → GoesForward x others →
      GoesForward x (option_map_or (λ e. Ends (Moved e) x) z others)
  collects_forward None others f = f
  collects_forward (Some e) others f = tt

  back_forward : (hs : List Holding) → GoesForward x (gives_back a x hs)
  back_forward [] = refl
  back_forward (g ∷ gs) = tt

  looked_forward : (b : Bool) (g : Holding) (others : Did) → GoesForward x others →
      GoesForward x (if b then Ends (Moved (Look a g.point g.op)) (record x { met = true }) else others)
  looked_forward true g others f = tt
  looked_forward false g others f = f

  found_forward : (k : ℕ) (next_need : Option Want → Did) → ((v : Option Want) → GoesForward x (next_need v)) →
      (want : Option Want) (z : Option Found) → GoesForward x (by_found a x k next_need want z)
  found_forward k next_need f want None = f want
  found_forward k next_need f want (Some Past) = back_forward x.holding
  found_forward k next_need f want (Some (Pending e q)) = tt
  found_forward k next_need f want (Some (NotYet e)) = f (Some (Bound e))

  need_forward : (k : ℕ) (need : Need) (next_need : Option Want → Did) →
      ((v : Option Want) → GoesForward x (next_need v)) → (want : Option Want) (z : Option Holding) →
      GoesForward x (one_need p w a x k need z next_need want)
  need_forward k need next_need f want None = found_forward k next_need f want (found p w need.chain need.value)
  need_forward k need next_need f want (Some g) = looked_forward (w.machine.progress.made g.op) g
      (next_need (Some (Signaled g.op))) (f (Some (Signaled g.op)))

  needs_forward : (qs : List (ℕ × Need)) (want : Option Want) → GoesForward x (awaits_needs p w a x qs want)
  needs_forward [] None = tt
  needs_forward [] (Some v) = tt
  needs_forward ((k, need) ∷ qs) want = need_forward k need (awaits_needs p w a x qs) (needs_forward qs) want
      (held_for k x.holding)

  wait_forward : (ns : List Need) (b : Bool) →
      GoesForward x (if b then gives_back a x x.holding else awaits_needs p w a x (enumerate_from 0 ns) None)
  wait_forward ns true = back_forward x.holding
  wait_forward ns false = needs_forward (enumerate_from 0 ns) None

  bind_forward : (e : ℕ) (z : Option ℕ) →
      GoesForward x (option_map_or (λ f. Ends (Blocked (Next f)) x) z (moves (Binds e (point_of w e)) x))
  bind_forward e None = tt
  bind_forward e (Some f) = tt

  signal_forward : (e : ℕ) (b : Bool) → GoesForward x (if b then moves (Signals e) x else Ends (Blocked (Bound e)) x)
  signal_forward e true = tt
  signal_forward e false = tt

  pub does_forward : (t : Task) → GoesForward x (does p w a x t)
  does_forward (AwaitSubmitted j) = waits_forward (w.submitted j) _
  does_forward (AwaitReleased j) = waits_forward (w.released j) _
  does_forward (AwaitFinished j) = waits_forward (w.machine.progress.finished j) _
  does_forward (AwaitBound e) = waits_forward (w.bound e) _
  does_forward (AwaitNeeds ns) = wait_forward ns x.met
  does_forward (Submit j) = tt
  does_forward (Take e c) = collects_forward (collected p w c) (moves (taken w e c) x) tt
  does_forward (Release j) = tt
  does_forward (Bind e) = bind_forward e (unbound_before p w e)
  does_forward (Start j) = tt
  does_forward (Apply j d) = tt
  does_forward (Signal e) = signal_forward e (w.bound e)
  does_forward (Compare c v) = collects_forward (collected p w c) (GoesOn (seeing x v (past_value p w c))) refl
  does_forward (Answer j q) = tt
  does_forward (Finish j) = tt

module _ (p : Plan) (o : IsOrderly p) (w : PointState) (r : Reached p w) (a : ActorName) where
  turns_true : (ts : List Task) (x : Place) → drop x.done (program p a) ≡ ts → IsTrueFor p w a x →
      IsTrueTurn p w a (turn_from p w a x ts).outcome (turn_from p w a x ts).place
  turns_true [] x s h = h
  turns_true (t ∷ ts) x s h =
      let n = next_at x.done (program p a) t ts s in
      by_did (does p w a x t) (does_true p o w r a x h t n.0) (does_forward p w a x t) n.1 (turns_true ts)
    where
      by_did : (d : Did) → IsTrueDid p w a d → GoesForward x d → drop (suc x.done) (program p a) ≡ ts →
          ((y : Place) → drop y.done (program p a) ≡ ts → IsTrueFor p w a y →
          IsTrueTurn p w a (turn_from p w a y ts).outcome (turn_from p w a y ts).place) →
          IsTrueTurn p w a (and_then d (λ y. turn_from p w a y ts)).outcome
          (and_then d (λ y. turn_from p w a y ts)).place
      by_did (GoesOn y) k f rest g =
          let same : suc x.done ≡ y.done = let z = f in omega arith in
          g y (subst (λ (m : ℕ). drop m (program p a) ≡ ts) same rest) k
      by_did (Ends outcome y) k f rest g = k

  -- What a whole turn comes to is so.
  pub turn_true : (x : Place) → IsTrueFor p w a x → IsTrueTurn p w a (turn_of p w a x).outcome (turn_of p w a x).place
  turn_true x h = turns_true (drop x.done (program p a)) x refl h
