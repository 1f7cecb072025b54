-- A turn that ended: no later one makes an event, whatever others do. Of the host too.
use Rattle.std.proofs.Common.{◌≡◌, ℕ, suc, Bool, true, false, if◌then◌else◌, nat_le}
use Rattle.std.proofs.Common.{List, [], ◌∷◌, drop, Option, Some, None}
use Rattle.std.proofs.Common.{refl, sym, subst, ap, ◌∙◌, arith, inl, inr}
use Rattle.std.proofs.lemmas.Bool.{cases_eq}
use Rattle.std.specs.List.{enumerate_from}
use Rattle.std.specs.Option.{option_map_or}
use Rattle.vq_actor.proofs.Cited.{put_here, put_there}
use Rattle.vq_model.specs.declared.script.ActorName.{ActorName}
use Rattle.vq_model.specs.declared.script.ActorName.TheVariants.{Host, Submit as SubmitActor}
use Rattle.vq_model.specs.declared.plan.Event.{Event}
use Rattle.vq_model.specs.declared.plan.Event.TheVariants.{Look, Bind as Binds, Signal as Signals}
use Rattle.vq_model.specs.declared.plan.Need.{Need}
use Rattle.vq_model.specs.Plan.{Plan, initial, resolver}
use Rattle.vq_point_laws.specs.Points.{PointState}
use Rattle.vq_history_laws.specs.Histories.{points_after}
use Rattle.vq_turns.specs.declared.task.Task.{Task}
use Rattle.vq_turns.specs.declared.task.Task.TheVariants.{AwaitSubmitted, AwaitReleased, AwaitFinished, AwaitBound}
use Rattle.vq_turns.specs.declared.task.Task.TheVariants.{AwaitNeeds, Submit, Take, Release, Bind, Start, Apply, Signal}
use Rattle.vq_turns.specs.declared.task.Task.TheVariants.{Compare, Answer, Finish}
use Rattle.vq_turns.specs.declared.look.Found.TheVariants.{Past, Pending, NotYet}
use Rattle.vq_turns.specs.declared.look.Holding.{Holding}
use Rattle.vq_turns.specs.declared.outcome.Want.{Want}
use Rattle.vq_turns.specs.declared.outcome.Want.TheVariants.{Bound, Next, Signaled, Submitted, Released}
use Rattle.vq_turns.specs.declared.outcome.Want.TheVariants.{Finished as Finishes}
use Rattle.vq_turns.specs.declared.outcome.Outcome.{Outcome}
use Rattle.vq_turns.specs.declared.outcome.Outcome.TheVariants.{Moved, Blocked, Ended}
use Rattle.vq_turns.specs.Programs.{program, deferred_queues}
use Rattle.vq_turns.specs.Turns.{Place, Did, Turned, GoesOn, Ends, HostPlace, HostTurned}
use Rattle.vq_turns.specs.Turns.{waits, moves, does, turn_from, turn_of, collected, taken, point_of, gives_back}
use Rattle.vq_turns.specs.Turns.{awaits_needs, one_need, by_found, found, found_by, held_for, unbound_before, and_then}
use Rattle.vq_turns.specs.Turns.{seeing, past_value, after_served, host_turn, host_turn_from, own_turn, put_place}
use Rattle.vq_turns.specs.Turns.{serving}
use Rattle.vq_turn_laws.proofs.Cited.{GoesForward, does_forward, next_at}
use Rattle.vq_replay.specs.Rounds.{is_moved}
use Rattle.vq_replay.specs.Resting.{HoldsUntil, HostIsIdle, IsIdle, host_rest}
use Rattle.vq_replay.proofs.Idle.{IsStill, idle_by, still_idle}
use Rattle.vq_replay.proofs.Places.{put_again}

-- One task

module _ (p : Plan) (a : ActorName) (x : Place) where
  -- where a task ended a turn it ends each, in whatever world
  abbrev EndsSo : Task → Did → Type 0
  EndsSo t (Ends Ended y) = (y ≡ x) × ((v : PointState) → IsStill p a x v t)
  EndsSo t other = Unit {0}

  waits_so : (t : Task) (b : Bool) (want : Want) → EndsSo t (waits b want x)
  waits_so t true want = tt
  waits_so t false want = tt

  collects_so : (t : Task) (z : Option Event) (others : Did) → EndsSo t others →
      EndsSo t (option_map_or (λ e. Ends (Moved e) x) z others)
  collects_so t None others h = h
  collects_so t (Some e) others h = tt

  bind_so : (e : ℕ) (w : PointState) (z : Option ℕ) → EndsSo (Bind e)
      (option_map_or (λ f. Ends (Blocked (Next f)) x) z (moves (Binds e (point_of w e)) x))
  bind_so e w None = tt
  bind_so e w (Some f) = tt

  signal_so : (e : ℕ) (b : Bool) → EndsSo (Signal e) (if b then moves (Signals e) x else Ends (Blocked (Bound e)) x)
  signal_so e true = tt
  signal_so e false = tt

  -- Waits for needs: they end a turn where none was wanted before, and nothing will meet any.
  abbrev NeedsEnd : List (ℕ × Need) → Option Want → Did → Type 0
  NeedsEnd ns want (Ends Ended y) =
      (y ≡ x) × (want ≡ None) × ((v : PointState) → awaits_needs p v a x ns None ≡ Ends Ended x)
  NeedsEnd ns want other = Unit {0}

  back_end : (ns : List (ℕ × Need)) (want : Option Want) (hs : List Holding) → NeedsEnd ns want (gives_back a x hs)
  back_end ns want [] = tt
  back_end ns want (h ∷ hs) = tt

  -- where one need is wanted the others don't end the turn
  wanted_end : (ms ns : List (ℕ × Need)) (one : Want) (want : Option Want) (d : Did) → NeedsEnd ns (Some one) d →
      NeedsEnd ms want d
  wanted_end ms ns one want (GoesOn y) h = tt
  wanted_end ms ns one want (Ends (Moved e) y) h = tt
  wanted_end ms ns one want (Ends (Blocked w) y) h = tt
  wanted_end ms ns one want (Ends Ended y) h = absurd (let z = h.1 in cc)

  unmet_end : (k : ℕ) (n : Need) (ns : List (ℕ × Need)) (want : Option Want) → held_for k x.holding ≡ None →
      nat_le n.value (initial p n.chain) ≡ false → resolver p n.chain n.value ≡ None → (d : Did) →
      NeedsEnd ns want d → NeedsEnd ((k, n) ∷ ns) want d
  unmet_end k n ns want free above none (GoesOn y) h = tt
  unmet_end k n ns want free above none (Ends (Moved e) y) h = tt
  unmet_end k n ns want free above none (Ends (Blocked w) y) h = tt
  unmet_end k n ns want free above none (Ends Ended y) h = (
    h.0,
    h.1,
    λ v.
        let nothing : found p v n.chain n.value ≡ None =
        ap (λ (b : Bool). if b then Some Past else found_by v (resolver p n.chain n.value)) above
        ∙ ap (found_by v) none in
        ap (λ (z : Option Holding). one_need p v a x k n z (awaits_needs p v a x ns) None) free
        ∙ (ap (by_found a x k (awaits_needs p v a x ns) None) nothing ∙ h.2 v),
  )

  op_end : (k : ℕ) (n : Need) (ns : List (ℕ × Need)) (want : Option Want) (w : PointState) →
      ((other : Option Want) → NeedsEnd ns other (awaits_needs p w a x ns other)) → (e : ℕ) (b c : Bool) →
      NeedsEnd ((k, n) ∷ ns) want (by_found a x k (awaits_needs p w a x ns) want
      (if b then Some Past else if c then Some (Pending e (point_of w e)) else Some (NotYet e)))
  op_end k n ns want w h e true c = back_end ((k, n) ∷ ns) want x.holding
  op_end k n ns want w h e false true = tt
  op_end k n ns want w h e false false =
      wanted_end ((k, n) ∷ ns) ns (Bound e) want (awaits_needs p w a x ns (Some (Bound e))) (h (Some (Bound e)))

  found_end : (k : ℕ) (n : Need) (ns : List (ℕ × Need)) (want : Option Want) (w : PointState) →
      ((other : Option Want) → NeedsEnd ns other (awaits_needs p w a x ns other)) → held_for k x.holding ≡ None →
      (b : Bool) → nat_le n.value (initial p n.chain) ≡ b → (z : Option ℕ) → resolver p n.chain n.value ≡ z →
      NeedsEnd ((k, n) ∷ ns) want (by_found a x k (awaits_needs p w a x ns) want
      (if b then Some Past else found_by w z))
  found_end k n ns want w h free true above z r = back_end ((k, n) ∷ ns) want x.holding
  found_end k n ns want w h free false above (Some e) r = op_end k n ns want w h e (w.past e) (w.bound e)
  found_end k n ns want w h free false above None r =
      unmet_end k n ns want free above r (awaits_needs p w a x ns want) (h want)

  held_end : (k : ℕ) (n : Need) (ns : List (ℕ × Need)) (want : Option Want) (w : PointState) →
      ((other : Option Want) → NeedsEnd ns other (awaits_needs p w a x ns other)) → (h : Holding) (b : Bool) →
      NeedsEnd ((k, n) ∷ ns) want (if b then Ends (Moved (Look a h.point h.op)) (record x { met = true })
      else awaits_needs p w a x ns (Some (Signaled h.op)))
  held_end k n ns want w f h true = tt
  held_end k n ns want w f h false =
      wanted_end ((k, n) ∷ ns) ns (Signaled h.op) want (awaits_needs p w a x ns (Some (Signaled h.op)))
      (f (Some (Signaled h.op)))

  one_end : (k : ℕ) (n : Need) (ns : List (ℕ × Need)) (want : Option Want) (w : PointState) →
      ((other : Option Want) → NeedsEnd ns other (awaits_needs p w a x ns other)) → (z : Option Holding) →
      held_for k x.holding ≡ z →
      NeedsEnd ((k, n) ∷ ns) want (one_need p w a x k n z (awaits_needs p w a x ns) want)
  one_end k n ns want w f (Some h) s = held_end k n ns want w f h (w.machine.progress.made h.op)
  one_end k n ns want w f None s =
      found_end k n ns want w f s (nat_le n.value (initial p n.chain)) refl (resolver p n.chain n.value) refl

  needs_end : (w : PointState) (ns : List (ℕ × Need)) (want : Option Want) →
      NeedsEnd ns want (awaits_needs p w a x ns want)
  needs_end w [] None = (refl, refl, λ v. refl)
  needs_end w [] (Some one) = tt
  needs_end w ((k, n) ∷ ns) want = one_end k n ns want w (needs_end w ns) (held_for k x.holding) refl

  needs_so : (ns : List Need) (w : PointState) (b : Bool) → x.met ≡ b → EndsSo (AwaitNeeds ns)
      (if b then gives_back a x x.holding else awaits_needs p w a x (enumerate_from 0 ns) None)
  needs_so ns w true s = back x.holding
    where
      back : (hs : List Holding) → EndsSo (AwaitNeeds ns) (gives_back a x hs)
      back [] = tt
      back (h ∷ hs) = tt
  needs_so ns w false s =
      by_did (awaits_needs p w a x (enumerate_from 0 ns) None) (needs_end w (enumerate_from 0 ns) None)
    where
      by_did : (d : Did) → NeedsEnd (enumerate_from 0 ns) None d → EndsSo (AwaitNeeds ns) d
      by_did (GoesOn y) h = tt
      by_did (Ends (Moved e) y) h = tt
      by_did (Ends (Blocked want) y) h = tt
      by_did (Ends Ended y) h = (
        h.0,
        λ v. (
          Ended,
          refl,
          ap (λ (b : Bool). if b then gives_back a x x.holding else awaits_needs p v a x (enumerate_from 0 ns) None) s
              ∙ h.2 v,
        ),
      )

  does_so : (w : PointState) (t : Task) → EndsSo t (does p w a x t)
  does_so w (AwaitSubmitted j) = waits_so (AwaitSubmitted j) (w.submitted j) (Submitted j)
  does_so w (AwaitReleased j) = waits_so (AwaitReleased j) (w.released j) (Released j)
  does_so w (AwaitFinished j) = waits_so (AwaitFinished j) (w.machine.progress.finished j) (Finishes j)
  does_so w (AwaitBound e) = waits_so (AwaitBound e) (w.bound e) (Bound e)
  does_so w (AwaitNeeds ns) = needs_so ns w x.met refl
  does_so w (Submit j) = tt
  does_so w (Take e t) = collects_so (Take e t) (collected p w t) (moves (taken w e t) x) tt
  does_so w (Release j) = tt
  does_so w (Bind e) = bind_so e w (unbound_before p w e)
  does_so w (Start j) = tt
  does_so w (Apply j c) = tt
  does_so w (Signal e) = signal_so e (w.bound e)
  does_so w (Compare t v) =
      collects_so (Compare t v) (collected p w t) (GoesOn (seeing x v (past_value p w t))) tt
  does_so w (Answer j asks) = tt
  does_so w (Finish j) = tt

-- A turn

module _ (p : Plan) (a : ActorName) where
  -- no turn from a place makes an event
  abbrev pub IsOver : Place → Type 0
  IsOver y = (v : PointState) → IsIdle p v a y

  abbrev OverAt : Turned → Type 0
  OverAt t = t.outcome ≡ Ended → IsOver t.place

  turn_over : (w : PointState) (ts : List Task) (x : Place) → drop x.done (program p a) ≡ ts →
      OverAt (turn_from p w a x ts)
  turn_over w [] x s = λ e v. idle_by p a v x Ended refl (ap (turn_from p v a x) s)
  turn_over w (t ∷ ts) x s =
      by_did (does p w a x t) (does_so p a x w t) (does_forward p w a x t)
      (next_at x.done (program p a) t ts s).1 (λ y d. turn_over w ts y d)
    where
      by_did : (d : Did) → EndsSo p a x t d → GoesForward x d → drop (suc x.done) (program p a) ≡ ts →
          ((y : Place) → drop y.done (program p a) ≡ ts → OverAt (turn_from p w a y ts)) →
          OverAt (and_then d (λ y. turn_from p w a y ts))
      by_did (GoesOn y) k f rest g =
          let same : suc x.done ≡ y.done = let z = f in omega arith in
          g y (subst (λ (m : ℕ). drop m (program p a) ≡ ts) same rest)
      by_did (Ends (Moved event) y) k f rest g = λ e. absurd (let z = e in cc)
      by_did (Ends (Blocked want) y) k f rest g = λ e. absurd (let z = e in cc)
      by_did (Ends Ended y) k f rest g = λ e. subst IsOver (sym k.0) (λ v. still_idle p a v x t ts s (k.1 v))

  pub over_after : (w : PointState) (x : Place) → (turn_of p w a x).outcome ≡ Ended → IsOver (turn_of p w a x).place
  over_after w x e = turn_over w (drop x.done (program p a)) x refl e

-- The host

module _ (p : Plan) where
  -- the submit actor of a queue, which the host serves, is at its end
  abbrev ServedOver : HostPlace → ℕ → Type 0
  ServedOver y q = IsOver p (SubmitActor q) (y.served q)

  abbrev AllOver : HostPlace → List ℕ → Type 0
  AllOver y [] = IsOver p Host y.own
  AllOver y (q ∷ qs) = ServedOver y q × AllOver y qs

  -- what a turn of the host leaves at its end: those that it served are at theirs, and who was before still is
  record EndedSo (x : HostPlace) (qs : List ℕ) (last : Outcome) (t : HostTurned) : Type 0 where
    pub before : last ≡ Ended
    pub all : AllOver t.place qs
    pub still : (q : ℕ) → ServedOver x q → ServedOver t.place q

  abbrev EndsHost : HostPlace → List ℕ → Outcome → HostTurned → Type 0
  EndsHost x qs last t = t.outcome ≡ Ended → EndedSo x qs last t

  own_ends : (w : PointState) (x : HostPlace) (last : Outcome) (t : Turned) →
      (t.outcome ≡ Ended → IsOver p Host t.place) → EndsHost x [] last (own_turn last x t)
  own_ends w x last t over = by_own t.outcome refl
    where
      by_own : (o : Outcome) → t.outcome ≡ o → EndsHost x [] last (own_turn last x (record t { outcome = o }))
      by_own (Moved event) s = λ e. absurd (let z = e in cc)
      by_own (Blocked want) s = λ e. absurd (let z = e in cc)
      by_own Ended s = λ e. record { before = e; all = over s; still = λ q h. h }

  served_on : (x : HostPlace) (k : ℕ) (y : Place) → IsOver p (SubmitActor k) y → (q : ℕ) → ServedOver x q →
      ServedOver (serving x k y) q
  served_on x k y over q h =
      elim (cases_eq q k) [
        | inl same ↦
            subst (λ (m : ℕ). IsOver p (SubmitActor m) (put_place x.served k y m)) (sym same)
            (subst (IsOver p (SubmitActor k)) (sym (put_here x.served k k y refl)) over)
        | inr other ↦ subst (IsOver p (SubmitActor q)) (sym (put_there x.served k q y other)) h
      ]

  served_new : (x : HostPlace) (k : ℕ) (y : Place) → IsOver p (SubmitActor k) y → ServedOver (serving x k y) k
  served_new x k y over = subst (IsOver p (SubmitActor k)) (sym (put_here x.served k k y refl)) over

  host_ends : (w : PointState) (qs : List ℕ) (last : Outcome) (x : HostPlace) →
      EndsHost x qs last (host_turn_from p w qs last x)
  host_ends w [] last x = own_ends w x last (turn_of p w Host x.own) (over_after p Host w x.own)
  host_ends w (q ∷ qs) last x =
      by_served (turn_of p w (SubmitActor q) (x.served q)).outcome (turn_of p w (SubmitActor q) (x.served q)).place
      (over_after p (SubmitActor q) w (x.served q)) (host_ends w qs)
    where
      by_served : (o : Outcome) (y : Place) → (o ≡ Ended → IsOver p (SubmitActor q) y) →
          ((l : Outcome) (z : HostPlace) → EndsHost z qs l (host_turn_from p w qs l z)) →
          EndsHost x (q ∷ qs) last
          (after_served x (record { outcome = o; place = y }) q last (host_turn_from p w qs))
      by_served (Moved event) y over g = λ e. absurd (let z = e in cc)
      by_served (Blocked want) y over g = λ e.
          let h = (g (Blocked want) (serving x q y) e).before in
          absurd (let z = h in cc)
      by_served Ended y over g = λ e.
          let h = g last (serving x q y) e in
          record {
            before = h.before;
            all = (h.still q (served_new x q y (over refl)), h.all);
            still = λ k s. h.still k (served_on x q y (over refl) k s);
          }

  -- Where all of them are at their ends no turn of the host makes an event.
  abbrev IsStillFrom : HostPlace → HostTurned → Type 0
  IsStillFrom y t = (is_moved t.outcome ≡ false) × (t.place ≡ y)

  own_still : (y : HostPlace) (last : Outcome) → is_moved last ≡ false → (o : Outcome) (z : Place) →
      is_moved o ≡ false → z ≡ y.own → IsStillFrom y (own_turn last y (record { outcome = o; place = z }))
  own_still y last b (Moved event) z n s = absurd (let u = n in cc)
  own_still y last b (Blocked want) z n s = (refl, ap (λ (k : Place). record y { own = k }) s)
  own_still y last b Ended z n s = (b, ap (λ (k : Place). record y { own = k }) s)

  host_still : (v : PointState) (y : HostPlace) (qs : List ℕ) → AllOver y qs → (last : Outcome) →
      is_moved last ≡ false → IsStillFrom y (host_turn_from p v qs last y)
  host_still v y [] over last b =
      let t : Turned = turn_of p v Host y.own in
      own_still y last b t.outcome t.place (over v).no_event (over v).stays
  host_still v y (q ∷ qs) over last b =
      by_served (turn_of p v (SubmitActor q) (y.served q)).outcome (turn_of p v (SubmitActor q) (y.served q)).place
      (over.0 v).no_event (over.0 v).stays (host_still v y qs over.1)
    where
      by_served : (o : Outcome) (z : Place) → is_moved o ≡ false → z ≡ y.served q →
          ((l : Outcome) → is_moved l ≡ false → IsStillFrom y (host_turn_from p v qs l y)) →
          IsStillFrom y (after_served y (record { outcome = o; place = z }) q last (host_turn_from p v qs))
      by_served (Moved event) z n s g = absurd (let u = n in cc)
      by_served (Blocked want) z n s g =
          let same : serving y q z ≡ y = ap (λ (f : ℕ → Place). record y { served = f }) (put_again y.served q z s) in
          subst (λ (k : HostPlace). IsStillFrom y (host_turn_from p v qs (Blocked want) k)) (sym same)
          (g (Blocked want) refl)
      by_served Ended z n s g =
          let same : serving y q z ≡ y = ap (λ (f : ℕ → Place). record y { served = f }) (put_again y.served q z s) in
          subst (λ (k : HostPlace). IsStillFrom y (host_turn_from p v qs last k)) (sym same) (g last b)

  -- A turn of the host tells of its next ones.
  pub host_known : (w : PointState) (x : HostPlace) →
      HoldsUntil p (host_rest (host_turn p w x).outcome) (λ v. HostIsIdle p v (host_turn p w x).place)
  host_known w x = by_outcome (host_turn p w x).outcome (host_ends w (deferred_queues p) Ended x)
    where
      by_outcome : (o : Outcome) → (o ≡ Ended → EndedSo x (deferred_queues p) Ended (host_turn p w x)) →
          HoldsUntil p (host_rest o) (λ v. HostIsIdle p v (host_turn p w x).place)
      by_outcome (Moved event) h = tt
      by_outcome (Blocked want) h = tt
      by_outcome Ended h = λ events k.
          let still = host_still (points_after p events) (host_turn p w x).place (deferred_queues p) (h refl).all Ended
          refl in
          record { no_event = still.0; stays = still.1 }
