-- While an actor waits for needs: its references, looks and returns may come, and its place stays true.
use Rattle.std.proofs.Common.{◌≡◌, ℕ, ◌≤◌, Bool, true, false, if◌then◌else◌, nat_le, List, [], ◌∷◌, Option, Some, None}
use Rattle.std.proofs.Common.{refl, sym, subst, ap, ◌∙◌, inl, inr, arith}
use Rattle.std.specs.List.{list_any}
use Rattle.std.proofs.lemmas.Bool.{false≢true, leb-true, le-leb}
use Rattle.std.proofs.lemmas.Option.{same_Some}
use Rattle.vq_model.specs.declared.script.ActorName.{ActorName}
use Rattle.vq_model.specs.declared.plan.Need.{Need}
use Rattle.vq_model.specs.declared.plan.Event.{Event}
use Rattle.vq_model.specs.declared.plan.Event.TheVariants.{Refer, Look, Unref}
use Rattle.vq_model.specs.Plan.{Plan, chain, initial, value, resolver}
use Rattle.vq_ground.specs.Lists.{has}
use Rattle.vq_model.specs.Machine.{is_reached}
use Rattle.vq_ground.proofs.Lists.{has_here, has_there}
use Rattle.vq_ground.proofs.Searches.{find_passes, find_member}
use Rattle.vq_point_laws.specs.Points.{PointState, CanCome, after_event, next_job}
use Rattle.vq_turns.specs.declared.task.Task.{Task}
use Rattle.vq_turns.specs.declared.task.Task.TheVariants.{AwaitNeeds, Finish}
use Rattle.vq_turns.specs.declared.look.Holding.{Holding}
use Rattle.vq_turns.specs.declared.look.Found.TheVariants.{Past, Pending, NotYet}
use Rattle.vq_turns.specs.Turns.{held_for, with_holding, found, found_by, point_of}
use Rattle.vq_turn_laws.specs.Holdings.{HoldsTruly}
use Rattle.vq_turn_laws.specs.Orders.{AsksWait}
use Rattle.vq_turn_laws.specs.PlanParts.{IsOrderly}
use Rattle.vq_turn_laws.specs.Tasks.{Among, IsOf, finishes}
use Rattle.vq_turn_laws.specs.TruePlaces.{Stands}
use Rattle.vq_turn_laws.proofs.References.{AtIndex, index_at, is_next, can_look, can_unref, found_above, found_pending}
use Rattle.vq_turn_laws.proofs.References.{index_within}
use Rattle.vq_turn_laws.proofs.CutFacts.{IsCut, job_is_next}
use Rattle.vq_turn_laws.proofs.HoldingLaws.{after_refer, after_look, after_unref, meets, leaves_wait, enters_wait}
use Rattle.vq_turn_laws.proofs.KeptGuards.{refers_kept}
use Rattle.vq_turn_laws.proofs.LeftLaws.{true_for_others}
use Rattle.vq_turn_laws.proofs.PlaceLaws.{reached_stays}
use Rattle.vq_turn_laws.proofs.StartLaws.{from_initial}
use Rattle.vq_turn_laws.proofs.Reached.{Reached, reached_rises}
use Rattle.vq_turn_laws.proofs.WaitParts.{within_any}

among_finish : (ts : List Task) (j : ℕ) → Among (Finish j) ts → has (finishes ts) j ≡ true
among_finish [] j m = absurd m
among_finish (Finish i ∷ ts) j (inl e) = let same : i ≡ j = let z = e in cc in subst
    (λ (z : ℕ). has (i ∷ finishes ts) z ≡ true) same (has_here i (finishes ts))
among_finish (Finish i ∷ ts) j (inr m) = has_there i (finishes ts) j (among_finish ts j m)
among_finish (other ∷ ts) j (inl e) = absurd (let z = e in cc)
among_finish (other ∷ ts) j (inr m) = among_finish ts j m

module _ (p : Plan) (w : PointState) (a : ActorName) (before : List Task) (ns : List Need) (left : List Task)
    (c : IsCut p a before (AwaitNeeds ns ∷ left)) where
  abbrev asks : AsksWait p a before ns left
  asks = c.order.0

  -- the wait is of the actor's next job, the first that is left
  waits_next : (holding : List Holding) (met : Bool) → Stands p w a before (AwaitNeeds ns ∷ left) holding met →
      next_job p w a ≡ Some asks.job
  waits_next holding met s = is_next p a w before left s.done s.left.1 asks.job asks.source asks.in_job

  waits_first : (holding : List Holding) (met : Bool) → Stands p w a before (AwaitNeeds ns ∷ left) holding met →
      (j : ℕ) (js : List ℕ) → finishes left ≡ j ∷ js → j ≡ asks.job
  waits_first holding met s j js f =
      same_Some j asks.job (sym (job_is_next p a w before (AwaitNeeds ns ∷ left) c s.done s.left j js f)
      ∙ waits_next holding met s)

  at_job : (holding : List Holding) (met : Bool) → Stands p w a before (AwaitNeeds ns ∷ left) holding met →
      HoldsTruly p w a before asks.job ns holding met
  at_job holding met s = by_jobs (finishes left) refl
    where
      by_jobs : (js : List ℕ) → finishes left ≡ js → HoldsTruly p w a before asks.job ns holding met
      by_jobs [] f = absurd
          (false≢true (sym (ap (λ us. has us asks.job) f) ∙ among_finish left asks.job asks.in_job.unfinished))
      by_jobs (j ∷ js) f = subst (λ (z : ℕ). HoldsTruly p w a before z ns holding met)
          (waits_first holding met s j js f) (s.holds j js f)

  -- Where nothing is held any more, the actor goes on.
  pub stands_over : Stands p w a before (AwaitNeeds ns ∷ left) [] true →
      Stands p w a (AwaitNeeds ns ∷ before) left [] false
  stands_over s =
      let t = leaves_wait p w a before asks.job ns (at_job [] true s) in
      record {
        done = (s.reached refl, s.done);
        left = s.left.1;
        holds = λ j js g.
            enters_wait p w a (AwaitNeeds ns ∷ before) j _
            (subst (λ (z : ℕ). HoldsTruly p w a (AwaitNeeds ns ∷ before) z [] [] false)
            (sym (waits_first [] true s j js g)) t);
        between = λ h. (refl, refl);
        reached = λ m. absurd (false≢true m);
      }

module _ (p : Plan) (o : IsOrderly p) (w : PointState) (r : Reached p w) where
  need_reached : (n : Need) → n.value ≤ w.machine.progress.payload n.chain →
      is_reached w.machine.progress.payload n ≡ true
  need_reached n l = le-leb n.value (w.machine.progress.payload n.chain) l

  -- a need is reached where its resolver is made, ..
  made_reaches : (n : Need) (e : ℕ) → resolver p n.chain n.value ≡ Some e → w.machine.progress.made e ≡ true →
      is_reached w.machine.progress.payload n ≡ true
  made_reaches n e s made =
      let high = leb-true n.value (value p e) (find_passes (λ f. nat_le n.value (value p f)) (chain p n.chain) e s) in
      let up = r.raised e n.chain
      (o.well_formed.of_chain e n.chain (find_member (λ f. nat_le n.value (value p f)) (chain p n.chain) e s)) made
      in
      need_reached n (omega arith)

  -- .. and where a look finds its value past
  past_reaches : (n : Need) → found p w n.chain n.value ≡ Some Past → is_reached w.machine.progress.payload n ≡ true
  past_reaches n f = by_value (nat_le n.value (initial p n.chain)) refl f
    where
      by_op : (e : ℕ) → resolver p n.chain n.value ≡ Some e → (b : Bool) → w.past e ≡ b → (c : Bool) →
          (if b then Some Past else if c then Some (Pending e (point_of w e)) else Some (NotYet e)) ≡ Some Past →
          is_reached w.machine.progress.payload n ≡ true
      by_op e s true past c h = made_reaches n e s (r.made.past_made e past)
      by_op e s false past true h = absurd (let z = h in cc)
      by_op e s false past false h = absurd (let z = h in cc)

      by_resolver : (x : Option ℕ) → resolver p n.chain n.value ≡ x → found_by w x ≡ Some Past →
          is_reached w.machine.progress.payload n ≡ true
      by_resolver None s h = absurd (let z = h in cc)
      by_resolver (Some e) s h = by_op e s (w.past e) refl (w.bound e) h

      by_value : (b : Bool) → nat_le n.value (initial p n.chain) ≡ b →
          (if b then Some Past else found_by w (resolver p n.chain n.value)) ≡ Some Past →
          is_reached w.machine.progress.payload n ≡ true
      by_value true e h =
          let low = leb-true n.value (initial p n.chain) e in
          let up = from_initial p o.chains w r.follows n.chain in
          need_reached n (omega arith)
      by_value false e h = by_resolver (resolver p n.chain n.value) refl h

  module _ (a : ActorName) (before : List Task) (ns : List Need) (left : List Task)
      (c : IsCut p a before (AwaitNeeds ns ∷ left)) where
    abbrev own_asks : AsksWait p a before ns left
    own_asks = asks p w a before ns left c

    own_waits_next : (holding : List Holding) (met : Bool) → Stands p w a before (AwaitNeeds ns ∷ left) holding met →
        next_job p w a ≡ Some own_asks.job
    own_waits_next = waits_next p w a before ns left c

    own_waits_first : (holding : List Holding) (met : Bool) → Stands p w a before (AwaitNeeds ns ∷ left) holding met →
        (j : ℕ) (js : List ℕ) → finishes left ≡ j ∷ js → j ≡ own_asks.job
    own_waits_first = waits_first p w a before ns left c

    own_at_job : (holding : List Holding) (met : Bool) → Stands p w a before (AwaitNeeds ns ∷ left) holding met →
        HoldsTruly p w a before own_asks.job ns holding met
    own_at_job = at_job p w a before ns left c

    -- a place in the same wait, after an event of the actor's references
    still_waits : (holding : List Holding) (met : Bool) → Stands p w a before (AwaitNeeds ns ∷ left) holding met →
        (x : Event) → CanCome p w x → ((t : Task) → IsOf x t → ⊥) → (kept : List Holding) (over : Bool) →
        HoldsTruly p (after_event p w x) a before own_asks.job ns kept over →
        (over ≡ true → list_any (is_reached w.machine.progress.payload) ns ≡ true) →
        Stands p (after_event p w x) a before (AwaitNeeds ns ∷ left) kept over
    still_waits holding met s x can none kept over holds reach =
        let rise = reached_rises p o w r x can in
        let true_at = true_for_others p w x rise before (AwaitNeeds ns ∷ left) (λ t m own. none t own)
        (record { done = s.done; left = s.left }) in
        record {
          done = true_at.done;
          left = true_at.left;
          holds = λ j js f. subst (λ (z : ℕ). HoldsTruly p (after_event p w x) a before z ns kept over)
              (sym (own_waits_first holding met s j js f)) holds;
          between = λ h. absurd (false≢true (sym h));
          reached = λ m. reached_stays p w x rise ns (reach m);
        }

    -- A reference to the pending operation that resolves a need.
    pub stands_referred : (holding : List Holding) → Stands p w a before (AwaitNeeds ns ∷ left) holding false →
        (i : ℕ) (n : Need) (e q : ℕ) → AtIndex 0 ns i n → held_for i holding ≡ None →
        found p w n.chain n.value ≡ Some (Pending e q) →
        CanCome p w (Refer a q e) × Stands p (after_event p w (Refer a q e)) a before (AwaitNeeds ns ∷ left)
        (with_holding (record { need = i; point = q; op = e }) holding) false
    stands_referred holding s i n e q at none f =
        let t = own_at_job holding false s in
        let can = refers_kept p o.well_formed r.past w r.links r.facts a before left s.done s.left.1 ns holding own_asks
        i n e q at none t f in
        let held = after_refer p w a before own_asks.job ns holding t i q e n at none
        (found_pending p w n e q f).resolves (found_above p w n e q f) (own_waits_next holding false s) in (
          can,
          still_waits holding false s (Refer a q e) can (λ u own. own)
              (with_holding (record { need = i; point = q; op = e }) holding) false held (λ m. absurd (false≢true m)),
        )

    -- A look that sees its signal.
    pub stands_seen : (holding : List Holding) → Stands p w a before (AwaitNeeds ns ∷ left) holding false →
        (i : ℕ) (n : Need) (h : Holding) → AtIndex 0 ns i n → held_for i holding ≡ Some h →
        w.machine.progress.made h.op ≡ true →
        CanCome p w (Look a h.point h.op) × Stands p (after_event p w (Look a h.point h.op)) a before
        (AwaitNeeds ns ∷ left) holding true
    stands_seen holding s i n h at is made =
        let t = own_at_job holding false s in
        let can = can_look p a w before left s.done s.left.1 ns holding own_asks i n h at is t made in
        let held = after_look p w a before own_asks.job ns holding t i n h at is (own_waits_next holding false s) in
        let met = within_any (is_reached w.machine.progress.payload) ns n (index_within 0 ns i n at)
        (made_reaches n h.op (t.of_need refl i h is n (index_at ns i n at)) made) in
        (can, still_waits holding false s (Look a h.point h.op) can (λ u own. own) holding true held (λ m. met))

    -- A value that is past ends the waiting without an event.
    pub stands_met : (holding : List Holding) → Stands p w a before (AwaitNeeds ns ∷ left) holding false →
        (i : ℕ) (n : Need) → AtIndex 0 ns i n → found p w n.chain n.value ≡ Some Past →
        Stands p w a before (AwaitNeeds ns ∷ left) holding true
    stands_met holding s i n at f =
        let t = meets p w a before own_asks.job ns holding (own_at_job holding false s) in
        let met = within_any (is_reached w.machine.progress.payload) ns n (index_within 0 ns i n at)
        (past_reaches n f) in
        record {
          done = s.done;
          left = s.left;
          holds = λ j js g. subst (λ (z : ℕ). HoldsTruly p w a before z ns holding true)
              (sym (own_waits_first holding false s j js g)) t;
          between = λ h. absurd (false≢true (sym h));
          reached = λ m. met;
        }

    -- A reference is given back.
    pub stands_returned : (h : Holding) (hs : List Holding) → Stands p w a before (AwaitNeeds ns ∷ left) (h ∷ hs) true →
        CanCome p w (Unref a h.point h.op) × Stands p (after_event p w (Unref a h.point h.op)) a before
        (AwaitNeeds ns ∷ left) hs true
    stands_returned h hs s =
        let t = own_at_job (h ∷ hs) true s in
        let can = can_unref p a w before left s.done s.left.1 ns (h ∷ hs) own_asks true h hs refl t in
        let held = after_unref p w a before own_asks.job ns h hs t can in
        (can, still_waits (h ∷ hs) true s (Unref a h.point h.op) can (λ u own. own) hs true held s.reached)
