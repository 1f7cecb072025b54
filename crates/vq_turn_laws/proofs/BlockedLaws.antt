-- A turn is blocked only where the thing that it names isn't so: a turn of one actor, and a turn in a scene.
use Rattle.std.proofs.Common.{◌≡◌, ℕ, Bool, true, false, not, if◌then◌else◌, List, [], ◌∷◌, find, Option, Some, None}
use Rattle.std.proofs.Common.{refl, subst}
use Rattle.std.proofs.Common.{drop}
use Rattle.std.specs.Prelude.{nat_le}
use Rattle.std.specs.Option.{option_map_or}
use Rattle.std.specs.List.{enumerate_from}
use Rattle.vq_model.specs.declared.script.ActorName.{ActorName}
use Rattle.vq_model.specs.declared.script.ActorName.TheVariants.{Host as HostActor, Submit as SubmitActor}
use Rattle.vq_model.specs.declared.script.ActorName.TheVariants.{Ring as RingActor}
use Rattle.vq_model.specs.declared.plan.Event.{Event}
use Rattle.vq_model.specs.declared.plan.Event.TheVariants.{Bind as Binds, Signal as Signals}
use Rattle.vq_model.specs.declared.plan.Need.{Need}
use Rattle.vq_model.specs.Plan.{Plan, chain_of, initial, resolver}
use Rattle.vq_point_laws.specs.Points.{PointState, smaller_ops}
use Rattle.vq_turns.specs.declared.task.Task.{Task}
use Rattle.vq_turns.specs.declared.task.Task.TheVariants.{AwaitSubmitted, AwaitReleased, AwaitFinished, AwaitBound}
use Rattle.vq_turns.specs.declared.task.Task.TheVariants.{AwaitNeeds, Submit, Take, Release, Bind, Start, Apply, Signal}
use Rattle.vq_turns.specs.declared.task.Task.TheVariants.{Compare, Answer, Finish}
use Rattle.vq_turns.specs.declared.look.Found.{Found}
use Rattle.vq_turns.specs.declared.look.Found.TheVariants.{Past, Pending, NotYet}
use Rattle.vq_turns.specs.declared.look.Holding.{Holding}
use Rattle.vq_turns.specs.declared.outcome.Want.{Want}
use Rattle.vq_turns.specs.declared.outcome.Want.TheVariants.{Submitted, Released, Bound, Next, Signaled, Finished}
use Rattle.vq_turns.specs.declared.outcome.Outcome.{Outcome}
use Rattle.vq_turns.specs.declared.outcome.Outcome.TheVariants.{Moved, Blocked, Ended}
use Rattle.vq_turns.specs.Programs.{program, deferred_queues}
use Rattle.vq_turns.specs.Turns.{Place, Did, Turned, GoesOn, Ends, waits, moves, does, turn_from, turn_of, collected}
use Rattle.vq_turns.specs.Turns.{taken, point_of, gives_back, awaits_needs, one_need, by_found, found, found_by}
use Rattle.vq_turns.specs.Turns.{held_for, unbound_before, and_then, seeing, past_value, HostPlace, HostTurned, Scene}
use Rattle.vq_turns.specs.Turns.{own_turn, after_served, host_turn_from, host_turn, plays}
use Rattle.vq_turns.specs.Wants.{IsNotSo}

module _ (p : Plan) (w : PointState) (a : ActorName) where
  abbrev FineOut : Outcome → Type 0
  FineOut (Blocked want) = IsNotSo w want
  FineOut (Moved e) = Unit {0}
  FineOut Ended = Unit {0}

  abbrev FineDid : Did → Type 0
  FineDid (GoesOn y) = Unit {0}
  FineDid (Ends o y) = FineOut o

  abbrev FineWant : Option Want → Type 0
  FineWant None = Unit {0}
  FineWant (Some v) = IsNotSo w v

  waits_fine : (b : Bool) (want : Want) (x : Place) → (b ≡ false → IsNotSo w want) → FineDid (waits b want x)
  waits_fine true want x h = tt
  waits_fine false want x h = h refl

  collect_fine : (o : Option Event) (x : Place) (d : Did) → FineDid d →
      FineDid (option_map_or (λ e. Ends (Moved e) x) o d)
  collect_fine None x d h = h
  collect_fine (Some e) x d h = tt

  back_fine : (x : Place) (hs : List Holding) → FineDid (gives_back a x hs)
  back_fine x [] = tt
  back_fine x (h ∷ hs) = tt

  pending_or : (d e : ℕ) (q : ℕ) (b c : Bool) → w.bound d ≡ c →
      (if b then Some Past else if c then Some (Pending d q) else Some (NotYet d)) ≡ Some (NotYet e) → w.bound e ≡ false
  pending_or d e q true c s h = absurd (cc)
  pending_or d e q false true s h = absurd (cc)
  pending_or d e q false false s h = cc

  by_resolver : (o : Option ℕ) (e : ℕ) → found_by w o ≡ Some (NotYet e) → w.bound e ≡ false
  by_resolver None e h = absurd (cc)
  by_resolver (Some d) e h = pending_or d e (point_of w d) (w.past d) (w.bound d) refl h

  above_or : (b : Bool) (o : Option ℕ) (e : ℕ) → (if b then Some Past else found_by w o) ≡ Some (NotYet e) →
      w.bound e ≡ false
  above_or true o e h = absurd (cc)
  above_or false o e h = by_resolver o e h

  found_fine : (x : Place) (k : ℕ) (f : Option Want → Did) (want : Option Want) (r : Option Found) →
      ((e : ℕ) → r ≡ Some (NotYet e) → w.bound e ≡ false) → FineWant want →
      ((v : Option Want) → FineWant v → FineDid (f v)) → FineDid (by_found a x k f want r)
  found_fine x k f want None n h g = g want h
  found_fine x k f want (Some Past) n h g = back_fine x x.holding
  found_fine x k f want (Some (Pending e q)) n h g = tt
  found_fine x k f want (Some (NotYet e)) n h g = g (Some (Bound e)) (n e refl)

  held_fine : (x : Place) (g : Holding) (f : Option Want → Did) → ((v : Option Want) → FineWant v → FineDid (f v)) →
      (b : Bool) → w.machine.progress.made g.op ≡ b → (looked : Did) → FineDid looked →
      FineDid (if b then looked else f (Some (Signaled g.op)))
  held_fine x g f h true s looked l = l
  held_fine x g f h false s looked l = h (Some (Signaled g.op)) s

  need_fine : (x : Place) (k : ℕ) (n : Need) (held : Option Holding) (f : Option Want → Did) (want : Option Want) →
      FineWant want → ((v : Option Want) → FineWant v → FineDid (f v)) → FineDid (one_need p w a x k n held f want)
  need_fine x k n (Some g) f want h r = held_fine x g f r (w.machine.progress.made g.op) refl _ tt
  need_fine x k n None f want h r = found_fine x k f want (found p w n.chain n.value)
      (λ e s. above_or (nat_le n.value (initial p n.chain)) (resolver p n.chain n.value) e s) h r

  needs_fine : (x : Place) (ns : List (ℕ × Need)) (want : Option Want) → FineWant want →
      FineDid (awaits_needs p w a x ns want)
  needs_fine x [] None h = tt
  needs_fine x [] (Some v) h = h
  needs_fine x ((k, n) ∷ ns) want h = need_fine x k n (held_for k x.holding) (awaits_needs p w a x ns) want h
      (λ v fine. needs_fine x ns v fine)

  wait_fine : (x : Place) (ns : List Need) (b : Bool) →
      FineDid (if b then gives_back a x x.holding else awaits_needs p w a x (enumerate_from 0 ns) None)
  wait_fine x ns true = back_fine x x.holding
  wait_fine x ns false = needs_fine x (enumerate_from 0 ns) None tt

  first_unbound : (x : ℕ) (xs : List ℕ) (e : ℕ) (b : Bool) → w.bound x ≡ b →
      ((find (λ f. not (w.bound f)) xs ≡ Some e) → w.bound e ≡ false) →
      (if not b then Some x else find (λ f. not (w.bound f)) xs) ≡ Some e → w.bound e ≡ false
  first_unbound x xs e true s r h = r h
  first_unbound x xs e false s r h = cc

  find_unbound : (xs : List ℕ) (e : ℕ) → find (λ f. not (w.bound f)) xs ≡ Some e → w.bound e ≡ false
  find_unbound [] e h = absurd (cc)
  find_unbound (x ∷ xs) e h = first_unbound x xs e (w.bound x) refl (find_unbound xs e) h

  before_unbound : (t : Option ℕ) (d e : ℕ) →
      option_map_or (λ t. find (λ f. not (w.bound f)) (smaller_ops p t d)) t None ≡ Some e → w.bound e ≡ false
  before_unbound None d e h = absurd (cc)
  before_unbound (Some t) d e h = find_unbound (smaller_ops p t d) e h

  bind_fine : (d : ℕ) (x : Place) (o : Option ℕ) → unbound_before p w d ≡ o →
      FineDid (option_map_or (λ f. Ends (Blocked (Next f)) x) o (moves (Binds d (point_of w d)) x))
  bind_fine d x None s = tt
  bind_fine d x (Some f) s = before_unbound (chain_of p d) d f s

  signal_fine : (e : ℕ) (x : Place) (b : Bool) → w.bound e ≡ b →
      FineDid (if b then moves (Signals e) x else Ends (Blocked (Bound e)) x)
  signal_fine e x true s = tt
  signal_fine e x false s = s

  does_fine : (x : Place) (t : Task) → FineDid (does p w a x t)
  does_fine x (AwaitSubmitted j) = waits_fine (w.submitted j) (Submitted j) x (λ s. s)
  does_fine x (AwaitReleased j) = waits_fine (w.released j) (Released j) x (λ s. s)
  does_fine x (AwaitFinished j) = waits_fine (w.machine.progress.finished j) (Finished j) x (λ s. s)
  does_fine x (AwaitBound e) = waits_fine (w.bound e) (Bound e) x (λ s. s)
  does_fine x (AwaitNeeds ns) = wait_fine x ns x.met
  does_fine x (Submit j) = tt
  does_fine x (Take e t) = collect_fine (collected p w t) x (moves (taken w e t) x) tt
  does_fine x (Release j) = tt
  does_fine x (Bind e) = bind_fine e x (unbound_before p w e) refl
  does_fine x (Start j) = tt
  does_fine x (Apply j c) = tt
  does_fine x (Signal e) = signal_fine e x (w.bound e) refl
  does_fine x (Compare t v) = collect_fine (collected p w t) x (GoesOn (seeing x v (past_value p w t))) tt
  does_fine x (Answer j asks) = tt
  does_fine x (Finish j) = tt

  then_fine : (d : Did) (f : Place → Turned) → FineDid d → ((y : Place) → FineOut (f y).outcome) →
      FineOut (and_then d f).outcome
  then_fine (GoesOn y) f h g = g y
  then_fine (Ends o y) f h g = h

  tasks_fine : (ts : List Task) (x : Place) → FineOut (turn_from p w a x ts).outcome
  tasks_fine [] x = tt
  tasks_fine (t ∷ ts) x = then_fine (does p w a x t) (λ y. turn_from p w a y ts) (does_fine x t) (tasks_fine ts)

  -- Where a turn is blocked, the thing that its want names isn't so.
  pub blocked_is_not_so : (x : Place) (want : Want) → (turn_of p w a x).outcome ≡ Blocked want → IsNotSo w want
  blocked_is_not_so x want h = subst FineOut h (tasks_fine (drop x.done (program p a)) x)

-- Turns in a scene

module _ (p : Plan) (w : PointState) where
  own_fine : (last : Outcome) → FineOut p w HostActor last → (x : HostPlace) (outcome : Outcome) (y : Place) →
      FineOut p w HostActor outcome →
      FineOut p w HostActor (own_turn last x (record { outcome = outcome; place = y })).outcome
  own_fine last l x (Moved e) y h = tt
  own_fine last l x (Blocked want) y h = h
  own_fine last l x Ended y h = l

  served_fine : (q : ℕ) (last : Outcome) → FineOut p w HostActor last → (x : HostPlace) (outcome : Outcome)
      (y : Place) → FineOut p w (SubmitActor q) outcome → (others : Outcome → HostPlace → HostTurned) →
      ((l : Outcome) (z : HostPlace) → FineOut p w HostActor l → FineOut p w HostActor (others l z).outcome) →
      FineOut p w HostActor (after_served x (record { outcome = outcome; place = y }) q last others).outcome
  served_fine q last l x (Moved e) y h others f = tt
  served_fine q last l x (Blocked want) y h others f = f (Blocked want) _ h
  served_fine q last l x Ended y h others f = f last _ l

  host_fine : (qs : List ℕ) (last : Outcome) → FineOut p w HostActor last → (x : HostPlace) →
      FineOut p w HostActor (host_turn_from p w qs last x).outcome
  host_fine [] last l x = own_fine last l x (turn_of p w HostActor x.own).outcome (turn_of p w HostActor x.own).place
      (tasks_fine p w HostActor (drop x.own.done (program p HostActor)) x.own)
  host_fine (q ∷ qs) last l x =
      let turned = turn_of p w (SubmitActor q) (x.served q) in
      served_fine q last l x turned.outcome turned.place
      (tasks_fine p w (SubmitActor q) (drop (x.served q).done (program p (SubmitActor q))) (x.served q))
      (host_turn_from p w qs) (λ k z fine. host_fine qs k fine z)

  host_blocked : (x : HostPlace) (want : Want) → (host_turn p w x).outcome ≡ Blocked want → IsNotSo w want
  host_blocked x want h = subst (FineOut p w HostActor) h (host_fine (deferred_queues p) Ended tt x)

-- A turn in a scene, the host's with the deferred queues among them.
pub blocked_play_is_not_so : (p : Plan) (s : Scene) (a : ActorName) (want : Want) → (plays p s a).0 ≡ Blocked want →
    IsNotSo s.world want
blocked_play_is_not_so p s HostActor want h = host_blocked p s.world s.host want h
blocked_play_is_not_so p s (SubmitActor q) want h = blocked_is_not_so p s.world (SubmitActor q) (s.submits q) want h
blocked_play_is_not_so p s (RingActor q) want h = blocked_is_not_so p s.world (RingActor q) (s.rings q) want h
