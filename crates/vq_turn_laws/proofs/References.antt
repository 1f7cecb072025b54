-- The guards of references, from what an actor holds.
use Rattle.std.specs.List.{slice_get, list_any, count_by}
use Rattle.std.proofs.Common.{◌⊎◌, zero, suc, ◌≡◌, ℕ, ◌<◌, ◌≤◌, ◌+◌, ◌||◌, ◌&&◌, Bool, true, false, if◌then◌else◌, List}
use Rattle.std.proofs.Common.{[], ◌∷◌, Option, Some, None, is_some, refl, sym, subst, ap, ◌∙◌, inl, inr, arith, nat_le}
use Rattle.std.proofs.Common.{nat_lt, filter, ◌==◌}
use Rattle.std.specs.Option.{option_map_or}
use Rattle.std.proofs.lemmas.Bool.{and_from, or_from, false≢true, eq-eqb, leb-false}
use Rattle.vq_run_laws.proofs.Cited.{next_at}
use Rattle.vq_model.specs.declared.script.ActorName.{ActorName}
use Rattle.vq_model.specs.declared.plan.Need.{Need}
use Rattle.vq_model.specs.Plan.{Plan, is_host_step, needs, resolver, initial}
use Rattle.vq_model.specs.Edges.{At, needs_at}
use Rattle.vq_model.specs.Machine.{next}
use Rattle.vq_model.specs.Naming.{same_actor}
use Rattle.vq_point_laws.specs.Points.{PointState, Reference, jobs_of_lane, next_job, resolves, needs_now, is_reference}
use Rattle.vq_point_laws.specs.Points.{CanRefer, CanLook, CanUnrefer}
use Rattle.vq_turns.specs.declared.task.Task.{Task}
use Rattle.vq_turns.specs.declared.task.Task.TheVariants.{AwaitReleased, Start, Finish}
use Rattle.vq_turns.specs.declared.look.Found.TheVariants.{Past, Pending, NotYet}
use Rattle.vq_turns.specs.declared.look.Holding.{Holding}
use Rattle.vq_turns.specs.Turns.{point_of, found_by, found, held_for}
use Rattle.vq_turn_laws.specs.Holdings.{needs_held, bit, is_holding, HoldsTruly}
use Rattle.vq_turn_laws.specs.Orders.{Within, InJob, AsksWait}
use Rattle.vq_turn_laws.specs.Places.{IsDone, IsLeft}
use Rattle.vq_turn_laws.specs.Tasks.{Each}
use Rattle.vq_history_laws.specs.Measure.{one}
use Rattle.vq_turn_laws.proofs.PlaceLaws.{each_among}
use Rattle.vq_turn_laws.proofs.WaitParts.{within_any}
use Rattle.vq_history_laws.proofs.Cited.{count_cons, counted_any}

-- Counting

-- what a look found
pub record IsPendingAt (p : Plan) (w : PointState) (n : Need) (e q : ℕ) : Type 0 where
  pub resolves : resolver p n.chain n.value ≡ Some e
  pub unpast : w.past e ≡ false
  pub bound : w.bound e ≡ true
  pub point : point_of w e ≡ q

-- what is pending is above the initial value
pub found_above : (p : Plan) (w : PointState) (n : Need) (e q : ℕ) → found p w n.chain n.value ≡ Some (Pending e q) →
    initial p n.chain < n.value
found_above p w n e q h = by_value (nat_le n.value (initial p n.chain)) refl h
  where
    by_value : (b : Bool) → nat_le n.value (initial p n.chain) ≡ b →
        (if b then Some Past else found_by w (resolver p n.chain n.value)) ≡ Some (Pending e q) →
        initial p n.chain < n.value
    by_value true i h = absurd (let x = h in cc)
    by_value false i h = leb-false n.value (initial p n.chain) i

pub found_pending : (p : Plan) (w : PointState) (n : Need) (e q : ℕ) → found p w n.chain n.value ≡ Some (Pending e q) →
    IsPendingAt p w n e q
found_pending p w n e q h = by_value (nat_le n.value (initial p n.chain)) h
  where
    by_op : (f : ℕ) → resolver p n.chain n.value ≡ Some f → (b : Bool) → w.past f ≡ b → (c : Bool) → w.bound f ≡ c →
        (if b then Some Past else if c then Some (Pending f (point_of w f)) else Some (NotYet f)) ≡ Some (Pending e q) →
        IsPendingAt p w n e q
    by_op f r true s c t h = absurd (let x = h in cc)
    by_op f r false s false t h = absurd (let x = h in cc)
    by_op f r false s true t h =
        let same : f ≡ e = let x = h in cc in
        let at : point_of w f ≡ q = let x = h in cc in
        record {
          resolves = r ∙ ap Some same;
          unpast = subst (λ (z : ℕ). w.past z ≡ false) same s;
          bound = subst (λ (z : ℕ). w.bound z ≡ true) same t;
          point = subst (λ (z : ℕ). point_of w z ≡ q) same at;
        }

    by_resolver : (o : Option ℕ) → resolver p n.chain n.value ≡ o → found_by w o ≡ Some (Pending e q) →
        IsPendingAt p w n e q
    by_resolver None r h = absurd (let x = h in cc)
    by_resolver (Some f) r h = by_op f r (w.past f) refl (w.bound f) refl h

    by_value : (b : Bool) → (if b then Some Past else found_by w (resolver p n.chain n.value)) ≡ Some (Pending e q) →
        IsPendingAt p w n e q
    by_value true h = absurd (let x = h in cc)
    by_value false h = by_resolver (resolver p n.chain n.value) refl h

resolves_it : (p : Plan) (n : Need) (e : ℕ) → resolver p n.chain n.value ≡ Some e → resolves p e n ≡ true
resolves_it p n e r = ap (λ o. option_map_or (λ z. z == e) o false) r ∙ eq-eqb e e refl

-- a need stands in a list at an index, where the first one has this index
abbrev pub AtIndex : ℕ → List Need → ℕ → Need → Type 0
AtIndex k [] i n = ⊥
AtIndex k (m ∷ ms) i n = ((k ≡ i) × (m ≡ n)) ⊎ AtIndex (k + 1) ms i n

pub index_low : (k : ℕ) (ns : List Need) (i : ℕ) (n : Need) → AtIndex k ns i n → k ≤ i
index_low k [] i n m = absurd m
index_low k (x ∷ xs) i n (inl e) = let s = e.0 in omega arith
index_low k (x ∷ xs) i n (inr m) = let r = index_low (k + 1) xs i n m in omega arith

pub at_index : (ns : List Need) (i : ℕ) (n : Need) → slice_get ns i ≡ Some n → AtIndex 0 ns i n
at_index ns i n h = let none : 0 + i ≡ i = omega arith in subst (λ (z : ℕ). AtIndex 0 ns z n) none (from_index ns i 0 h)
  where
    from_index : (ms : List Need) (i k : ℕ) → slice_get ms i ≡ Some n → AtIndex k ms (k + i) n
    from_index [] i k h = absurd (let z = h in cc)
    from_index (m ∷ ms) zero k h = inl ((omega arith), (let z = h in cc))
    from_index (m ∷ ms) (suc i) k h = inr
        (subst (λ (z : ℕ). AtIndex (k + 1) ms z n) (omega arith) (from_index ms i (k + 1) h))

pub index_at : (ns : List Need) (i : ℕ) (n : Need) → AtIndex 0 ns i n → slice_get ns i ≡ Some n
index_at ns i n h =
    let none : i ≡ 0 + i = omega arith in from_index ns i 0 (subst (λ (z : ℕ). AtIndex 0 ns z n) none h)
  where
    from_index : (ms : List Need) (d k : ℕ) → AtIndex k ms (k + d) n → slice_get ms d ≡ Some n
    from_index [] d k h = absurd h
    from_index (m ∷ ms) zero k (inl e) = ap Some e.1
    from_index (m ∷ ms) zero k (inr r) = absurd (let low = index_low (k + 1) ms (k + 0) n r in omega arith)
    from_index (m ∷ ms) (suc d) k (inl e) = absurd (let same = e.0 in omega arith)
    from_index (m ∷ ms) (suc d) k (inr r) =
        from_index ms d (k + 1) (subst (λ (z : ℕ). AtIndex (k + 1) ms z n) (omega arith) r)

pub index_within : (k : ℕ) (ns : List Need) (i : ℕ) (n : Need) → AtIndex k ns i n → Within n ns
index_within k [] i n h = h
index_within k (m ∷ ms) i n (inl e) = inl e.1
index_within k (m ∷ ms) i n (inr r) = inr (index_within (k + 1) ms i n r)

module _ (p : Plan) (e : ℕ) (hs : List Holding) where
  pub held_few : (k : ℕ) (ns : List Need) → needs_held p e hs k ns ≤ count_by (resolves p e) ns
  held_few k [] = omega arith
  held_few k (n ∷ ns) =
      let u = count_cons (resolves p e) n ns in
      let r = held_few (k + 1) ns in
      let s : bit (is_some (held_for k hs) && resolves p e n) ≤ one (resolves p e n) = small (is_some (held_for k hs))
      (resolves p e n) in
      omega arith
    where
      small : (b c : Bool) → bit (b && c) ≤ one c
      small true true = omega arith
      small true false = omega arith
      small false true = omega arith
      small false false = omega arith

  -- a need without a reference is one more
  pub held_fewer : (k : ℕ) (ns : List Need) (i : ℕ) (n : Need) → AtIndex k ns i n → held_for i hs ≡ None →
      resolves p e n ≡ true → needs_held p e hs k ns < count_by (resolves p e) ns
  held_fewer k [] i n m f r = absurd m
  held_fewer k (x ∷ xs) i n (inl s) f r =
      let u = count_cons (resolves p e) x xs in
      let rest = held_few (k + 1) xs in
      let up : one (resolves p e x) ≡ 1 = ap one (ap (resolves p e) s.1 ∙ r) in
      let down : bit (is_some (held_for k hs) && resolves p e x) ≡ 0 = ap (λ (b : Bool). bit (b && resolves p e x))
      (ap (λ (z : ℕ). is_some (held_for z hs)) s.0 ∙ ap is_some f) in
      omega arith
  held_fewer k (x ∷ xs) i n (inr m) f r =
      let u = count_cons (resolves p e) x xs in
      let rest = held_fewer (k + 1) xs i n m f r in
      let s : bit (is_some (held_for k hs) && resolves p e x) ≤ one (resolves p e x) = small (is_some (held_for k hs))
      (resolves p e x) in
      omega arith
    where
      small : (b c : Bool) → bit (b && c) ≤ one c
      small true true = omega arith
      small true false = omega arith
      small false true = omega arith
      small false false = omega arith

  -- a need with a reference is counted
  pub held_counts : (k : ℕ) (ns : List Need) (i : ℕ) (n : Need) → AtIndex k ns i n → is_some (held_for i hs) ≡ true →
      resolves p e n ≡ true → 0 < needs_held p e hs k ns
  held_counts k [] i n m f r = absurd m
  held_counts k (x ∷ xs) i n (inl s) f r =
      let up : bit (is_some (held_for k hs) && resolves p e x) ≡ 1 = ap bit
      (and_from (is_some (held_for k hs)) (resolves p e x) (ap (λ (z : ℕ). is_some (held_for z hs)) s.0 ∙ f)
      (ap (resolves p e) s.1 ∙ r)) in
      omega arith
  held_counts k (x ∷ xs) i n (inr m) f r = let rest = held_counts (k + 1) xs i n m f r in omega arith

module _ (p : Plan) (a : ActorName) (w : PointState) (before after : List Task) (d : Each (IsDone w) before)
    (left : Each (IsLeft w) after) where
  -- the job of a wait is the actor's next one
  pub is_next : (j : ℕ) (source : List Need) → InJob p a before after j source → next_job p w a ≡ Some j
  is_next j source k =
      ap (λ o. option_map_or (λ lane. next w.machine.progress.finished (jobs_of_lane p lane)) o None) k.of_actor
      ∙ (ap (next w.machine.progress.finished) k.behind.whole
      ∙ next_at w.machine.progress.finished k.behind.front j k.behind.back
      (λ y m. each_among (IsDone w) before (Finish y) d (k.behind.earlier y m))
      (each_among (IsLeft w) after (Finish j) left k.unfinished))

  pub needs_are_now : (j : ℕ) (source : List Need) → InJob p a before after j source → source ≡ needs_now p w j
  needs_are_now j source k =
      elim k.stage [
        | inl x ↦ x.1 ∙ sym (ap
            (λ (b : Bool). if b then filter (λ n. nat_lt 1 n.from) (needs p j) else needs_at p j (At 1))
            (each_among (IsLeft w) after (Start j) left x.0))
        | inr x ↦ x.1 ∙ sym (ap
            (λ (b : Bool). if b then filter (λ n. nat_lt 1 n.from) (needs p j) else needs_at p j (At 1))
            (each_among (IsDone w) before (Start j) d x.0))
      ]

  module _ (ns : List Need) (holding : List Holding) (k : AsksWait p a before ns after) where
    pub can_unref : (met : Bool) (h : Holding) (hs : List Holding) → holding ≡ h ∷ hs →
        HoldsTruly p w a before k.job ns holding met → CanUnrefer w a h.point h.op
    can_unref met h hs is t =
        let u = t.tie h.point h.op in
        let c : count_by (is_holding h.point h.op) holding ≡ one (is_holding h.point h.op h) + count_by
        (is_holding h.point h.op) hs = ap (count_by (is_holding h.point h.op)) is ∙ count_cons
        (is_holding h.point h.op) h hs in
        let o : one (is_holding h.point h.op h) ≡ 1 = ap one
        (and_from (h.point == h.point) (h.op == h.op) (eq-eqb h.point h.point refl) (eq-eqb h.op h.op refl)) in
        counted_any (is_reference a h.point h.op) w.held (omega arith)

    pub can_look : (i : ℕ) (n : Need) (h : Holding) → AtIndex 0 ns i n → held_for i holding ≡ Some h →
        HoldsTruly p w a before k.job ns holding false → w.machine.progress.made h.op ≡ true →
        CanLook p w a h.point h.op
    can_look i n h at is t made =
        let u = t.tie h.point h.op in
        let c = holds_counted holding is in
        let few = t.looked h.op in
        let counts = held_counts p h.op holding 0 ns i n at (ap is_some is)
        (resolves_it p n h.op (t.of_need refl i h is n (index_at ns i n at))) in
        record {
          job = k.job;
          is_next = is_next k.job k.source k.in_job;
          holds = counted_any (is_reference a h.point h.op) w.held (omega arith);
          signaled = made;
          fewer = omega arith;
        }
      where
        holds_counted : (xs : List Holding) → held_for i xs ≡ Some h → 0 < count_by (is_holding h.point h.op) xs
        holds_counted [] s = absurd (let x = s in cc)
        holds_counted (x ∷ xs) s = by_test (x.need == i) refl (holds_counted xs) s
          where
            by_test : (b : Bool) → (x.need == i) ≡ b →
                (held_for i xs ≡ Some h → 0 < count_by (is_holding h.point h.op) xs) →
                (if b then Some x else held_for i xs) ≡ Some h → 0 < count_by (is_holding h.point h.op) (x ∷ xs)
            by_test true e f q =
                let same : x ≡ h = let z = q in cc in
                let c = count_cons (is_holding h.point h.op) x xs in
                let o : one (is_holding h.point h.op x) ≡ 1 = ap (λ (z : Holding). one (is_holding h.point h.op z)) same
                ∙ ap one (and_from (h.point == h.point) (h.op == h.op) (eq-eqb h.point h.point refl)
                (eq-eqb h.op h.op refl)) in
                omega arith
            by_test false e f q = let c = count_cons (is_holding h.point h.op) x xs in let r = f q in omega arith

    pub can_refer : (i : ℕ) (n : Need) (e q : ℕ) → AtIndex 0 ns i n → held_for i holding ≡ None →
        HoldsTruly p w a before k.job ns holding false →
        ((r : ℕ) → w.point_of e ≡ Some r → w.past e ≡ false → w.carried r ≡ Some e) →
        (w.bound e ≡ true → is_some (w.point_of e) ≡ true) → found p w n.chain n.value ≡ Some (Pending e q) →
        CanRefer p w a q e
    can_refer i n e q at is t pending taken f =
        let x = found_pending p w n e q f in
        let r = resolves_it p n e x.resolves in
        let room = k.room e in
        let some = t.referred e in
        let fewer = held_fewer p e holding 0 ns i n at is r in
        record {
          job = k.job;
          is_next = is_next k.job k.source k.in_job;
          carries = by_point (w.point_of e) refl (taken x.bound) x.point x.unpast;
          bound = x.bound;
          released = by_host (is_host_step p k.job) refl;
          needed = subst (λ us. list_any (resolves p e) us ≡ true) (needs_are_now k.job k.source k.in_job)
              (within_any (resolves p e) k.source n (k.inside n (index_within 0 ns i n at)) r);
          wanted = omega arith;
        }
      where
        by_point : (o : Option ℕ) → w.point_of e ≡ o → is_some o ≡ true → option_map_or (λ z. z) o 0 ≡ q →
            w.past e ≡ false → w.carried q ≡ Some e
        by_point None s g v u = absurd (false≢true g)
        by_point (Some y) s g v u = subst (λ (z : ℕ). w.carried z ≡ Some e) v (pending y s u)

        by_host : (b : Bool) → is_host_step p k.job ≡ b → (b || w.released k.job) ≡ true
        by_host true h = refl
        by_host false h = each_among (IsDone w) before (AwaitReleased k.job) d (k.in_job.released h)

  -- Between waits an actor holds nothing, so that its job may finish.
  pub none_referring : (j : ℕ) (ns : List Need) (met : Bool) → HoldsTruly p w a before j ns [] met →
      list_any (λ (r : Reference). same_actor a r.actor) w.held ≡ false
  none_referring j ns met t = none_of w.held (λ q e. t.tie q e)
    where
      none_of : (rs : List Reference) → ((q e : ℕ) → count_by (is_reference a q e) rs ≡ 0) →
          list_any (λ (r : Reference). same_actor a r.actor) rs ≡ false
      none_of [] f = refl
      none_of (r ∷ rs) f = or_from (same_actor a r.actor) (list_any (λ (x : Reference). same_actor a x.actor) rs)
          (by_same (same_actor a r.actor) refl)
          (none_of rs (λ q e. let u = count_cons (is_reference a q e) r rs in let v = f q e in omega arith))
        where
          by_same : (b : Bool) → same_actor a r.actor ≡ b → b ≡ false
          by_same false h = refl
          by_same true h =
              let u = count_cons (is_reference a r.point r.op) r rs in
              let v = f r.point r.op in
              let o : one (is_reference a r.point r.op r) ≡ 1 = ap one
              (and_from (same_actor a r.actor && (r.point == r.point)) (r.op == r.op)
              (and_from (same_actor a r.actor) (r.point == r.point) h (eq-eqb r.point r.point refl))
              (eq-eqb r.op r.op refl)) in
              absurd (omega arith)
