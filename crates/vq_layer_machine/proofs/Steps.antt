-- Starts, commands, signals and finishes of batches are steps of the machine, and keep the tie.
use Rattle.std.proofs.Common.{◌≡◌, ◌⊎◌, ℕ, ◌+◌, ◌<◌, ◌≤◌, Bool, true, false, ◌||◌, List, [], ◌∷◌, ◌++◌, length, map, drop, set, Option, Some, None, option_map, inl, inr, refl, sym, ap, ◌∙◌, subst, arith, get_or-set_same, get_or-set_other}
use Rattle.std.specs.Prelude.{nat_le, nat_lt, if◌then◌else◌}
use Rattle.std.specs.List.{list_all, slice_get, slice_index_or}
use Rattle.std.specs.Option.{option_map_or}
use Rattle.std.proofs.lemmas.Bool.{and_from, cases_eq, cases_lt, ne_eqb}
use Rattle.std.proofs.lemmas.Option.{same_Some}
use Rattle.std.proofs.lemmas.List.{length-map}
use Rattle.vq_model.specs.Plan.{Plan, needs, commands_of, chain_of, value, initial}
use Rattle.vq_model.specs.Edges.{must_finish}
use Rattle.vq_model.specs.Lanes.{lane_at}
use Rattle.vq_model.specs.Machine.{Progress, State, Step, StartStep, ApplyStep, SignalStep, FinishStep, is_reached, with_signal, CanStart, CanApply, CanSignal, CanFinish, put}
use Rattle.vq_model.proofs.Puts.{put_here, put_there, put_cases, put_keeps}
use Rattle.vq_ground.specs.Lists.{has}
use Rattle.vq_ground.proofs.Bools.{or_false}
use Rattle.vq_ground.proofs.Gets.{get-map}
use Rattle.vq_ground.proofs.Lists.{has-append, has-append_left, has-append_right, has_here, pushed, not_pushed}
use Rattle.vq_live.specs.declared.answers.Found.TheVariants as found_as
use Rattle.vq_live.specs.declared.answers.Given.{Given}
use Rattle.vq_live.specs.Live.{Live, opened, pending}
use Rattle.vq_live.specs.Calls.{found, found_of, first_at_least, after_complete}
use Rattle.vq_layer.specs.declared.answers.Wait.{Wait}
use Rattle.vq_layer.specs.Layer.{Batch, live_at, kind_at, queue_at}
use Rattle.vq_layer.specs.Waits.{returned_all}
use Rattle.vq_layer.specs.Calls.{oldest_in, finish_from, after_finish_of}
use Rattle.vq_layer_laws.specs.Stuck.{IsAmong}
use Rattle.vq_layer_laws.proofs.Cited.{lived_keeps}
use Rattle.vq_layer_machine.specs.Tales.{Work, Place, Running, Scene, count_commands, batch_starts, batch_applies, batch_signals, batch_ends, no_place, at_start, first_place, running_in, run_applied, run_signaled, ArePast, MayStart, MayApply, MaySignal, MayEnd, after_told, steps_told}
use Rattle.vq_layer_machine.proofs.Jobs.{Asked, need_for, rename_need, rename_asked}
use Rattle.vq_layer_machine.proofs.Moves.{Runs, IsFresh, AreLow, may_start, may_apply, its_command, may_signal, may_finish}
use Rattle.vq_layer_machine.proofs.Layers.{SamePayloads, payload_finished, pending_above, completed_payload, signal_for, asked_of, asked_in, asked_first, oldest_some, asked_finished, asked_unfinished, NeedsAt, AreNamed}
use Rattle.vq_layer_machine.proofs.Counted.{named_at_place}
use Rattle.vq_layer_machine.proofs.Standing.{all_named, exists_open}
use Rattle.vq_layer_machine.specs.Scripts.{renamed}
use Rattle.vq_layer.specs.declared.answers.Kind.{Kind}
use Rattle.vq_layer.specs.Names.{is_closed}
use Rattle.vq_layer_machine.proofs.Ties.{IsOpen, KeepsNames, ArePlaced, AreJobs, AreAt, AreFresh, IsPlaced, Ties, Goes, HasOneJob, Front, front_of, at_rest, put_each, Touches, reached_kept, at_kept, fresh_kept, apart, is_done, at_front, in_rest, placed_front, first_is, at_step}

-- what each leaves of progress
abbrev pub started_after : Progress → ℕ → Progress
started_after s j = record s { started = put s.started j true }

abbrev pub applied_after : Progress → ℕ → Progress
applied_after s c = record s { applied = s.applied ++ c ∷ [] }

abbrev pub signaled_after : Plan → Progress → ℕ → ℕ → Progress
signaled_after p s e n = record s { payload = put s.payload n (value p e); made = put s.made e true }

abbrev pub finished_after : Progress → ℕ → Progress
finished_after s j = record s { finished = put s.finished j true }

abbrev pub all_done : Work → Batch → Running
all_done work b = record { applied = count_commands work b.token; made = length b.signals }

-- a payload that is raised
pub raised : (f : ℕ → ℕ) (n v : ℕ) → f n ≤ v → (u : ℕ) → f u ≤ put f n v u
raised f n v l u = put_each (λ k x. f k ≤ x) f n v l (λ k ne. (let e : f k ≤ f k = omega arith in e)) u

-- .. as the layer's is
pub raised_payload : (work : Work) (sc : Scene) (n v : ℕ) (t : Live) (f : ℕ → ℕ) → KeepsNames work sc → IsOpen sc.layer n → t.payload ≡ v → ((u : ℕ) → IsOpen sc.layer u → f (sc.names u) ≡ (live_at sc.layer.timelines u).payload) → (u : ℕ) → IsOpen sc.layer u → put f (sc.names n) v (sc.names u) ≡ (live_at (set sc.layer.timelines n t) u).payload
raised_payload work sc n v t f keeps open_n e same u open_u =
    let exists = exists_open sc.layer.kinds n open_n in
    let sizes = keeps.same in
    elim (cases_eq u n) [
      | inl q ↦
          ap (λ (k : ℕ). put f (sc.names n) v (sc.names k)) q
          ∙ put_here f (sc.names n) v
          ∙ sym e
          ∙ sym (ap (λ (k : ℕ). (live_at (set sc.layer.timelines n t) k).payload) q ∙ ap (λ (y : Live). y.payload) (get_or-set_same sc.layer.timelines n t (opened 0) (omega arith)))
      | inr ne ↦
          put_there f (sc.names n) v (sc.names u) (λ q. ne (keeps.one_each u n open_u open_n q))
          ∙ same u open_u
          ∙ sym (ap (λ (y : Live). y.payload) (get_or-set_other sc.layer.timelines n u t (opened 0) ne))
    ]

pub raised_unopened : (work : Work) (sc : Scene) (n v : ℕ) (p : Plan) (f : ℕ → ℕ) → KeepsNames work sc → IsOpen sc.layer n → ((u : ℕ) → sc.opened ≤ u → f u ≡ initial p u) → (u : ℕ) → sc.opened ≤ u → put f (sc.names n) v u ≡ initial p u
raised_unopened work sc n v p f keeps open_n same u l =
    let under = keeps.known n open_n in
    put_there f (sc.names n) v u (λ e. let c : u ≡ sc.names n = e in absurd (omega arith)) ∙ same u l

pub low_kept : (p : Plan) (s : Progress) (e n : ℕ) → AreLow p s → chain_of p e ≡ Some n → s.payload n ≤ value p e → AreLow p (signaled_after p s e n)
low_kept p s e n low c l f u m d = elim (put_cases s.made e f m) [
  | inl q ↦
      let same : n ≡ u = same_Some n u (sym c ∙ ap (chain_of p) (sym q) ∙ d) in
      let here = ap (put s.payload n (value p e)) (sym same) ∙ put_here s.payload n (value p e) in
      let v = ap (value p) q in
      omega arith
  | inr q ↦
      let was = low f u q d in
      let more = raised s.payload n (value p e) l u in
      omega arith
]

module _ (work : Work) (p : Plan) (one : HasOneJob p) (sc : Scene) (keeps : KeepsNames work sc) (st : State) (ties : Ties work p sc st.progress) where
  -- waits that are past are reached
  past_reached : (ws : List Wait) → NeedsAt (IsOpen sc.layer) (map (λ x. need_for x.wanted) ws) → ArePast sc.layer.timelines ws → list_all (is_reached st.progress.payload) (map (rename_need sc.names) (map (λ x. need_for x.wanted) ws)) ≡ true
  past_reached [] o h = refl
  past_reached (w ∷ ws) o h =
      and_from (nat_le w.wanted.value (st.progress.payload (sc.names w.wanted.timeline))) (list_all (is_reached st.progress.payload) (map (rename_need sc.names) (map (λ x. need_for x.wanted) ws)))
      (by_test (nat_lt w.wanted.timeline (length sc.layer.timelines)) refl h.0 o.0) (past_reached ws o.1 h.1)
    where
      none : (o : Option Given) → found_of o ≡ found_as.Past → ⊥
      none None e = cc
      none (Some x) e = cc

      by_value : (b : Bool) → nat_le w.wanted.value (live_at sc.layer.timelines w.wanted.timeline).payload ≡ b → (if b then found_as.Past else found_of (first_at_least w.wanted.value (pending (live_at sc.layer.timelines w.wanted.timeline)))) ≡ found_as.Past → nat_le w.wanted.value (live_at sc.layer.timelines w.wanted.timeline).payload ≡ true
      by_value true e g = e
      by_value false e g = absurd (none (first_at_least w.wanted.value (pending (live_at sc.layer.timelines w.wanted.timeline))) g)

      by_test : (b : Bool) → nat_lt w.wanted.timeline (length sc.layer.timelines) ≡ b → (if b then found (live_at sc.layer.timelines w.wanted.timeline) w.wanted.value else found_as.NotYet) ≡ found_as.Past → IsOpen sc.layer w.wanted.timeline → nat_le w.wanted.value (st.progress.payload (sc.names w.wanted.timeline)) ≡ true
      by_test true e g o =
          ap (nat_le w.wanted.value) (ties.payload w.wanted.timeline o)
          ∙ by_value (nat_le w.wanted.value (live_at sc.layer.timelines w.wanted.timeline).payload) refl g
      by_test false e g o = absurd (cc)

  -- the oldest batch of a queue and its place
  abbrev rest_of : ℕ → List Asked
  rest_of q = map (asked_of work) (drop 1 (queue_at sc.layer.queues q).batches)

  front_at : (q : ℕ) (b : Batch) → oldest_in sc.layer q ≡ Some b → Front p (q + 1) (rename_asked sc.names (asked_of work b)) (map (rename_asked sc.names) (rest_of q)) (sc.places q)
  front_at q b o =
      let some = oldest_some (queue_at sc.layer.queues q).released (queue_at sc.layer.queues q).batches b o in
      let placed = keeps.released q in
      front_of p (q + 1) (rename_asked sc.names (asked_of work b)) (map (rename_asked sc.names) (rest_of q)) (sc.places q) (omega arith) (subst (λ (bs : List Asked). AreJobs p (q + 1) (map (rename_asked sc.names) bs) (sc.places q)) (asked_first work sc.layer q b o) (ties.jobs q))

  -- what it names is open
  front_named : (q : ℕ) (b : Batch) → oldest_in sc.layer q ≡ Some b → AreNamed (IsOpen sc.layer) (asked_of work b ∷ rest_of q)
  front_named q b o = subst (AreNamed (IsOpen sc.layer)) (asked_first work sc.layer q b o) (keeps.named q)

  place_is : (q : ℕ) (x : Place) (xs : List Place) → sc.places q ≡ x ∷ xs → first_place sc q ≡ x
  place_is q x xs e = ap (λ (zs : List Place). slice_index_or zs 0 no_place) e

  running_is : (q : ℕ) (r : Running) → sc.running q ≡ Some r → running_in sc q ≡ r
  running_is q r e = ap (λ (o : Option Running). option_map_or (λ x. x) o at_start) e

  pub start_told : (q : ℕ) → MayStart sc q → Goes work p st (steps_told sc (batch_starts q)) (after_told work sc (batch_starts q))
  start_told q m =
      subst (λ (z : Place). Goes work p st (StartStep z.job ∷ []) (after_told work sc (batch_starts q))) (sym (place_is q front.place front.rest front.is)) (record { run = (can, tt); ties = tied })
    where
      front : Front p (q + 1) (rename_asked sc.names (asked_of work m.batch)) (map (rename_asked sc.names) (rest_of q)) (sc.places q)
      front = front_at q m.batch m.oldest

      first : IsFresh p st.progress front.place × AreFresh p st.progress front.rest
      first = first_is work p sc st.progress ties q front.place front.rest front.is None m.waiting

      placed : ArePlaced sc.next.job (front.place ∷ front.rest)
      placed = placed_front work p sc st.progress ties q front.place front.rest front.is

      reached : list_all (is_reached st.progress.payload) (needs p front.place.job) ≡ true
      reached = ap (list_all (is_reached st.progress.payload)) front.job.needed ∙ past_reached m.batch.waits (front_named q m.batch m.oldest).0.0 m.past

      done : (i : ℕ) → has (must_finish p front.place.job) i ≡ true → st.progress.finished i ≡ true
      done i h = by_lane (front.job.first i h)
        where
          own : (y : Place) → IsAmong y (front.place ∷ front.rest) → i < front.place.job → y.job ≡ i → ⊥
          own y (inl e) l z = let c = ap (λ (k : Place). k.job) e in omega arith
          own y (inr j) l z = let c = placed.1.0 y j in omega arith

          by_lane : (i < front.place.job) × ((lane_at p i ≡ q + 1) ⊎ (lane_at p i ≡ 0)) → st.progress.finished i ≡ true
          by_lane (l, inl e) =
              let under = placed.0 in
              is_done work p sc st.progress ties i (q + 1) (omega arith) e (λ r y a k z. own y (subst (IsAmong y) (ap sc.places (let same : r ≡ q = omega arith in same) ∙ front.is) a) l z)
          by_lane (l, inr e) =
              let under = placed.0 in
              is_done work p sc st.progress ties i 0 (omega arith) e (λ r y a k z. (let none : 0 ≡ r + 1 = k in omega arith))

      can : CanStart p st.progress front.place.job
      can = may_start p (q + 1) (rename_asked sc.names (asked_of work m.batch)) front.place front.job st.progress first.0 done reached

      touches : Touches p st.progress (started_after st.progress front.place.job) front.place.job
      touches = record {
        started = λ i n. put_there st.progress.started front.place.job true i n;
        finished = λ i n. refl;
        applied = λ i c n h. refl;
        kept = λ c h. h;
        payload = λ n. omega arith;
        made = λ e h. h;
      }

      runs : Runs p (started_after st.progress front.place.job) front.place at_start
      runs = record {
        started = put_here st.progress.started front.place.job true;
        unfinished = first.0.unfinished;
        reached = reached;
        done = λ i l. absurd (omega arith);
        undone = λ c h l. first.0.undone c h;
        made_first = λ i l. absurd (omega arith);
      }

      tied : Ties work p (after_told work sc (batch_starts q)) (started_after st.progress front.place.job)
      tied = record {
        payload = ties.payload;
        unopened = ties.unopened;
        low = ties.low;
        jobs = ties.jobs;
        placed = ties.placed;
        at = at_step work p sc st.progress ties q front.place front.rest front.is (started_after st.progress front.place.job) (Some at_start) touches runs first.1;
        left = ties.left;
        new = λ i l. let under = placed.0 in (put_there st.progress.started front.place.job true i (λ e. let c : i ≡ front.place.job = e in omega arith) ∙ (ties.new i l).0, (ties.new i l).1);
        below = ties.below;
        applied = ties.applied;
      }

  pub apply_told : (q : ℕ) → MayApply work sc q → Goes work p st (steps_told sc (batch_applies q)) (after_told work sc (batch_applies q))
  apply_told q m =
      subst (λ (z : List Step). Goes work p st z (after_told work sc (batch_applies q))) (sym steps_are)
      (subst (λ (o : Option Running). Goes work p st (ApplyStep (front.place.command + m.run.applied) ∷ []) (record sc { running = put sc.running q (option_map run_applied o) })) (sym m.runs) (record { run = ((front.place.job, can), tt); ties = tied }))
    where
      front : Front p (q + 1) (rename_asked sc.names (asked_of work m.batch)) (map (rename_asked sc.names) (rest_of q)) (sc.places q)
      front = front_at q m.batch m.oldest

      steps_are : steps_told sc (batch_applies q) ≡ ApplyStep (front.place.command + m.run.applied) ∷ []
      steps_are = λ i. ApplyStep ((place_is q front.place front.rest front.is i).command + (running_is q m.run m.runs i).applied) ∷ []

      first : Runs p st.progress front.place m.run × AreFresh p st.progress front.rest
      first = first_is work p sc st.progress ties q front.place front.rest front.is (Some m.run) m.runs

      its : has (commands_of p front.place.job) (front.place.command + m.run.applied) ≡ true
      its = its_command p (q + 1) (rename_asked sc.names (asked_of work m.batch)) front.place front.job m.run.applied m.left

      can : CanApply p st.progress front.place.job (front.place.command + m.run.applied)
      can = may_apply p (q + 1) (rename_asked sc.names (asked_of work m.batch)) front.place front.job st.progress m.run first.0 m.left

      touches : Touches p st.progress (applied_after st.progress (front.place.command + m.run.applied)) front.place.job
      touches = record {
        started = λ i n. refl;
        finished = λ i n. refl;
        applied = λ i d n h. others i d n h;
        kept = λ d h. has-append_left st.progress.applied ((front.place.command + m.run.applied) ∷ []) d h;
        payload = λ n. omega arith;
        made = λ e h. h;
      }
        where
          others : (i d : ℕ) → (i ≡ front.place.job → ⊥) → has (commands_of p i) d ≡ true → has (st.progress.applied ++ (front.place.command + m.run.applied) ∷ []) d ≡ has st.progress.applied d
          others i d n h =
              has-append st.progress.applied ((front.place.command + m.run.applied) ∷ []) d
              ∙ ap (λ (b : Bool). has st.progress.applied d || (b || false)) (ne_eqb (front.place.command + m.run.applied) d (λ e. n (one d i front.place.job h (subst (λ (k : ℕ). has (commands_of p front.place.job) k ≡ true) e its))))
              ∙ or_false (has st.progress.applied d)

      runs : Runs p (applied_after st.progress (front.place.command + m.run.applied)) front.place (run_applied m.run)
      runs = record {
        started = first.0.started;
        unfinished = first.0.unfinished;
        reached = first.0.reached;
        done = λ i l. elim (cases_lt i m.run.applied) [
          | inl k ↦ has-append_left st.progress.applied ((front.place.command + m.run.applied) ∷ []) (front.place.command + i) (first.0.done i k)
          | inr k ↦
              let same : i ≡ m.run.applied = omega arith in
              ap (λ (n : ℕ). has (st.progress.applied ++ (front.place.command + m.run.applied) ∷ []) (front.place.command + n)) same
              ∙ has-append_right st.progress.applied ((front.place.command + m.run.applied) ∷ []) (front.place.command + m.run.applied) (has_here (front.place.command + m.run.applied) [])
        ];
        undone = λ d h l. not_pushed st.progress.applied (front.place.command + m.run.applied) d (first.0.undone d h (omega arith)) (λ e. let same : front.place.command + m.run.applied ≡ d = e in omega arith);
        made_first = first.0.made_first;
      }

      tied : Ties work p (record sc { running = put sc.running q (Some (run_applied m.run)) }) (applied_after st.progress (front.place.command + m.run.applied))
      tied = record {
        payload = ties.payload;
        unopened = ties.unopened;
        low = ties.low;
        jobs = ties.jobs;
        placed = ties.placed;
        at = at_step work p sc st.progress ties q front.place front.rest front.is (applied_after st.progress (front.place.command + m.run.applied)) (Some (run_applied m.run)) touches runs first.1;
        left = ties.left;
        new = ties.new;
        below = ties.below;
        applied = λ d h. elim (pushed st.progress.applied (front.place.command + m.run.applied) d h) [
          | inl k ↦ ties.applied d k
          | inr e ↦ subst (λ (n : ℕ). n < sc.next.command) e (ties.below q front.place (at_front work p sc st.progress ties q front.place front.rest front.is) (front.place.command + m.run.applied) its)
        ];
      }

  pub signal_told : (q n : ℕ) → MaySignal work sc q n → Goes work p st (steps_told sc (batch_signals q n)) (after_told work sc (batch_signals q n))
  signal_told q n m =
      subst (λ (z : List Step). Goes work p st z (after_told work sc (batch_signals q n))) (sym steps_are)
      (subst (λ (o : Option Running). Goes work p st (SignalStep (front.place.op + m.run.made) ∷ []) (record sc { layer = (after_told work sc (batch_signals q n)).layer; running = put sc.running q (option_map run_signaled o) })) (sym m.runs)
      (record { run = (can, tt); ties = subst (λ (o : Option ℕ). Ties work p (record sc { layer = (after_told work sc (batch_signals q n)).layer; running = put sc.running q (Some (run_signaled m.run)) }) (with_signal p st.progress (front.place.op + m.run.made) o)) (sym chain) tied }))
    where
      front : Front p (q + 1) (rename_asked sc.names (asked_of work m.batch)) (map (rename_asked sc.names) (rest_of q)) (sc.places q)
      front = front_at q m.batch m.oldest

      steps_are : steps_told sc (batch_signals q n) ≡ SignalStep (front.place.op + m.run.made) ∷ []
      steps_are = λ i. SignalStep ((place_is q front.place front.rest front.is i).op + (running_is q m.run m.runs i).made) ∷ []

      first : Runs p st.progress front.place m.run × AreFresh p st.progress front.rest
      first = first_is work p sc st.progress ties q front.place front.rest front.is (Some m.run) m.runs

      by_number : slice_get (map signal_for m.batch.signals) m.run.made ≡ Some (signal_for m.signal)
      by_number = get-map signal_for m.batch.signals m.run.made ∙ ap (option_map signal_for) m.next

      its : slice_get (map (renamed sc.names) (map signal_for m.batch.signals)) m.run.made ≡ Some (renamed sc.names (signal_for m.signal))
      its = get-map (renamed sc.names) (map signal_for m.batch.signals) m.run.made ∙ ap (option_map (renamed sc.names)) by_number

      is_open : IsOpen sc.layer n
      is_open =
          subst (IsOpen sc.layer) m.of_timeline
          (all_named (IsOpen sc.layer) (map signal_for m.batch.signals) m.signal.timeline (front_named q m.batch m.oldest).0.1 (named_at_place (map signal_for m.batch.signals) m.run.made (signal_for m.signal) by_number))

      on : (chain_of p (front.place.op + m.run.made) ≡ Some (sc.names m.signal.timeline)) × (value p (front.place.op + m.run.made) ≡ m.signal.given.value)
      on = front.job.signal m.run.made (renamed sc.names (signal_for m.signal)) its

      chain : chain_of p (front.place.op + m.run.made) ≡ Some (sc.names n)
      chain = on.0 ∙ ap (λ (k : ℕ). Some (sc.names k)) m.of_timeline

      above : st.progress.payload (sc.names n) < m.signal.given.value
      above =
          let l = pending_above (live_at sc.layer.timelines n) m.signal.given (lived_keeps (live_at sc.layer.timelines n) (keeps.lived n)) m.first in
          let same = ties.payload n is_open in
          omega arith

      can : CanSignal p st.progress (front.place.op + m.run.made)
      can = may_signal p (q + 1) (rename_asked sc.names (asked_of work m.batch)) front.place front.job st.progress m.run (renamed sc.names (signal_for m.signal)) first.0 ties.low m.applied its (subst (λ (k : ℕ). st.progress.payload (sc.names k) < m.signal.given.value) (sym m.of_timeline) above)

      low : st.progress.payload (sc.names n) ≤ value p (front.place.op + m.run.made)
      low = let a = above in let v = on.1 in omega arith

      touches : Touches p st.progress (signaled_after p st.progress (front.place.op + m.run.made) (sc.names n)) front.place.job
      touches = record {
        started = λ i k. refl;
        finished = λ i k. refl;
        applied = λ i c k h. refl;
        kept = λ c h. h;
        payload = λ k. raised st.progress.payload (sc.names n) (value p (front.place.op + m.run.made)) low k;
        made = λ f h. put_keeps st.progress.made (front.place.op + m.run.made) f h;
      }

      runs : Runs p (signaled_after p st.progress (front.place.op + m.run.made) (sc.names n)) front.place (run_signaled m.run)
      runs = record {
        started = first.0.started;
        unfinished = first.0.unfinished;
        reached = reached_kept st.progress.payload (put st.progress.payload (sc.names n) (value p (front.place.op + m.run.made))) (needs p front.place.job) (λ k. raised st.progress.payload (sc.names n) (value p (front.place.op + m.run.made)) low k) first.0.reached;
        done = first.0.done;
        undone = first.0.undone;
        made_first = λ i l. elim (cases_lt i m.run.made) [
          | inl k ↦ put_keeps st.progress.made (front.place.op + m.run.made) (front.place.op + i) (first.0.made_first i k)
          | inr k ↦
              let same : i ≡ m.run.made = omega arith in
              ap (λ (j : ℕ). put st.progress.made (front.place.op + m.run.made) true (front.place.op + j)) same
              ∙ put_here st.progress.made (front.place.op + m.run.made) true
        ];
      }

      completed : (after_complete (live_at sc.layer.timelines n)).payload ≡ value p (front.place.op + m.run.made)
      completed = completed_payload (live_at sc.layer.timelines n) m.signal.given m.first ∙ sym on.1

      tied : Ties work p (record sc { layer = (after_told work sc (batch_signals q n)).layer; running = put sc.running q (Some (run_signaled m.run)) }) (signaled_after p st.progress (front.place.op + m.run.made) (sc.names n))
      tied = record {
        payload = raised_payload work sc n (value p (front.place.op + m.run.made)) (after_complete (live_at sc.layer.timelines n)) st.progress.payload keeps is_open completed ties.payload;
        unopened = raised_unopened work sc n (value p (front.place.op + m.run.made)) p st.progress.payload keeps is_open ties.unopened;
        low = low_kept p st.progress (front.place.op + m.run.made) (sc.names n) ties.low chain low;
        jobs = ties.jobs;
        placed = ties.placed;
        at = at_step work p sc st.progress ties q front.place front.rest front.is (signaled_after p st.progress (front.place.op + m.run.made) (sc.names n)) (Some (run_signaled m.run)) touches runs first.1;
        left = ties.left;
        new = ties.new;
        below = ties.below;
        applied = ties.applied;
      }

  pub end_told : (q : ℕ) → MayEnd work sc q → Goes work p st (steps_told sc (batch_ends q)) (after_told work sc (batch_ends q))
  end_told q m =
      subst (λ (z : Place). Goes work p st (FinishStep z.job ∷ []) (after_told work sc (batch_ends q))) (sym (place_is q front.place front.rest front.is)) (record { run = (can, tt); ties = tied })
    where
      front : Front p (q + 1) (rename_asked sc.names (asked_of work m.batch)) (map (rename_asked sc.names) (rest_of q)) (sc.places q)
      front = front_at q m.batch m.oldest

      first : Runs p st.progress front.place (all_done work m.batch) × AreFresh p st.progress front.rest
      first = first_is work p sc st.progress ties q front.place front.rest front.is (Some (all_done work m.batch)) m.all

      placed : ArePlaced sc.next.job (front.place ∷ front.rest)
      placed = placed_front work p sc st.progress ties q front.place front.rest front.is

      can : CanFinish p st front.place.job
      can = may_finish p (q + 1) (rename_asked sc.names (asked_of work m.batch)) front.place front.job st (all_done work m.batch) first.0 refl (sym (length-map (map signal_for m.batch.signals) (renamed sc.names) ∙ length-map m.batch.signals signal_for))

      touches : Touches p st.progress (finished_after st.progress front.place.job) front.place.job
      touches = record {
        started = λ i n. refl;
        finished = λ i n. put_there st.progress.finished front.place.job true i n;
        applied = λ i c n h. refl;
        kept = λ c h. h;
        payload = λ n. omega arith;
        made = λ e h. h;
      }

      later : (y : Place) → IsAmong y front.rest → y.job ≡ front.place.job → ⊥
      later y i e = let l = placed.1.0 y i in omega arith

      shorter : drop 1 (sc.places q) ≡ front.rest
      shorter = ap (drop 1) front.is

      timelines_are : (after_finish_of sc.layer q).timelines ≡ returned_all sc.layer.timelines m.batch.waits
      timelines_are = ap (λ (o : Option Batch). (finish_from sc.layer q o).timelines) m.oldest

      kinds_are : (after_finish_of sc.layer q).kinds ≡ sc.layer.kinds
      kinds_are = ap (λ (o : Option Batch). (finish_from sc.layer q o).kinds) m.oldest

      same : SamePayloads sc.layer.timelines (after_finish_of sc.layer q).timelines
      same = subst (SamePayloads sc.layer.timelines) (sym timelines_are) (payload_finished sc.layer.timelines m.batch.waits)

      -- what is placed was placed
      was : (r : ℕ) (y : Place) → IsAmong y (put sc.places q (drop 1 (sc.places q)) r) → IsAmong y (sc.places r)
      was = put_each (λ r zs. (y : Place) → IsAmong y zs → IsAmong y (sc.places r)) sc.places q (drop 1 (sc.places q))
          (λ y i. in_rest work p sc st.progress ties q front.place front.rest front.is y (subst (IsAmong y) shorter i)) (λ r n y i. i)

      -- and what was placed is, but for the finished one
      still : (r : ℕ) (y : Place) → IsAmong y (sc.places r) → (y.job ≡ front.place.job → ⊥) → IsAmong y (put sc.places q (drop 1 (sc.places q)) r)
      still = put_each (λ r zs. (y : Place) → IsAmong y (sc.places r) → (y.job ≡ front.place.job → ⊥) → IsAmong y zs) sc.places q (drop 1 (sc.places q))
          (λ y i n. subst (IsAmong y) (sym shorter) (behind y (subst (IsAmong y) front.is i) n)) (λ r k y i n. i)
        where
          behind : (y : Place) → IsAmong y (front.place ∷ front.rest) → (y.job ≡ front.place.job → ⊥) → IsAmong y front.rest
          behind y (inl e) n = absurd (n (ap (λ (z : Place). z.job) (sym e)))
          behind y (inr i) n = i

      left : (i : ℕ) → i < sc.next.job → (put st.progress.finished front.place.job true i ≡ true) ⊎ IsPlaced (put sc.places q (drop 1 (sc.places q))) i
      left i l = elim (ties.left i l) [
        | inl f ↦ inl (put_keeps st.progress.finished front.place.job i f)
        | inr k ↦ elim (cases_eq i front.place.job) [
          | inl e ↦ inl (ap (put st.progress.finished front.place.job true) e ∙ put_here st.progress.finished front.place.job true)
          | inr n ↦ inr (record { queue = k.queue; place = k.place; among = still k.queue k.place k.among (λ e. n (sym k.is ∙ e)); is = k.is })
        ]
      ]

      tied : Ties work p (after_told work sc (batch_ends q)) (finished_after st.progress front.place.job)
      tied = record {
        payload = λ n o. ties.payload n (subst (λ (ks : List Kind). is_closed (kind_at ks n) ≡ false) kinds_are o) ∙ sym (same n);
        unopened = ties.unopened;
        low = ties.low;
        jobs = put_each (λ r zs. AreJobs p (r + 1) (map (rename_asked sc.names) (asked_in work r (after_finish_of sc.layer q))) zs) sc.places q (drop 1 (sc.places q))
            (subst (λ (bs : List Asked). AreJobs p (q + 1) (map (rename_asked sc.names) bs) (drop 1 (sc.places q))) (sym (asked_finished work sc.layer q m.batch m.oldest)) (subst (AreJobs p (q + 1) (map (rename_asked sc.names) (rest_of q))) (sym shorter) front.jobs))
            (λ r n. subst (λ (bs : List Asked). AreJobs p (r + 1) (map (rename_asked sc.names) bs) (sc.places r)) (sym (asked_unfinished work sc.layer q r m.batch m.oldest n)) (ties.jobs r));
        placed = put_each (λ r zs. ArePlaced sc.next.job zs) sc.places q (drop 1 (sc.places q)) (subst (ArePlaced sc.next.job) (sym shorter) placed.1.1) (λ r n. ties.placed r);
        at = put_each (λ r zs. AreAt p (finished_after st.progress front.place.job) zs (put sc.running q None r)) sc.places q (drop 1 (sc.places q))
            (subst (AreAt p (finished_after st.progress front.place.job) (drop 1 (sc.places q))) (sym (put_here sc.running q None)) (subst (λ (zs : List Place). AreAt p (finished_after st.progress front.place.job) zs None) (sym shorter) (at_rest p (finished_after st.progress front.place.job) front.rest (λ y i. fresh_kept p st.progress (finished_after st.progress front.place.job) front.place.job touches y (later y i) (first.1 y i)))))
            (λ r n. subst (AreAt p (finished_after st.progress front.place.job) (sc.places r)) (sym (put_there sc.running q None r n)) (at_kept p st.progress (finished_after st.progress front.place.job) front.place.job touches (sc.places r) (sc.running r) (λ y i. apart work p sc st.progress ties q r front.place y (at_front work p sc st.progress ties q front.place front.rest front.is) i n) (ties.at r)));
        left = left;
        new = λ i l. let under = placed.0 in ((ties.new i l).0, put_there st.progress.finished front.place.job true i (λ e. let c : i ≡ front.place.job = e in omega arith) ∙ (ties.new i l).1);
        below = λ r y i. ties.below r y (was r y i);
        applied = ties.applied;
      }
