-- Waits for needs: what a pass may do with references while its own actor waits, and what keeps the places true.
use Rattle.std.proofs.Common.{◌≡◌, ℕ, suc, ◌+◌, ◌<◌, ◌≤◌, Bool, true, false, ◌==◌, List, [], ◌∷◌, ◌++◌, Option, Some, None, length, count_by, refl, sym, ap, ◌∙◌, subst, arith, take, drop, nat_le, is_some, if◌then◌else◌}
use Rattle.std.specs.Prelude.{nat_lt}
use Rattle.std.specs.List.{slice_get, list_all, list_any}
use Rattle.std.specs.Option.{option_map_or}
use Rattle.std.proofs.lemmas.Bool.{false≢true, and_parts, or_left, ltb-true, le-leb}
use Rattle.vq_model.specs.Checks.{IsLawful}
use Rattle.vq_model.specs.LoweredPlans.{IsPlan}
use Rattle.vq_model.specs.declared.plan.Need.{Need}
use Rattle.vq_model.specs.declared.script.ActorName.{ActorName}
use Rattle.vq_model.specs.Outputs.{asking}
use Rattle.vq_model.specs.Plan.{Plan, initial, resolver}
use Rattle.vq_ground.specs.Lists.{has}
use Rattle.vq_point_laws.specs.PointWord.{parts}
use Rattle.vq_turns.specs.declared.look.Holding.{Holding}
use Rattle.vq_turns.specs.declared.task.Task.{Task}
use Rattle.vq_turns.specs.declared.task.Task.TheVariants.{AwaitNeeds}
use Rattle.vq_turns.specs.Programs.{program}
use Rattle.vq_turns.specs.Turns.{Place, forward, held_for, holding_also, with_holding, without_first}
use Rattle.vq_turn_laws.specs.Tasks.{onto, waited_now}
use Rattle.vq_turn_laws.proofs.Cited.{next_left}
use Rattle.vq_actor.specs.Stages.{Serves}
use Rattle.vq_actor.specs.Waits.{met_at, looked_at}
use Rattle.vq_board_laws.specs.declared.view.Fact.{Fact}
use Rattle.vq_board_laws.specs.declared.view.Fact.TheVariants.{Made, Taken, Bound}
use Rattle.vq_board_laws.specs.declared.view.OpState.TheVariants.{Past as PastOp}
use Rattle.vq_board_laws.specs.declared.view.Reference.{Reference}
use Rattle.vq_board_laws.specs.declared.view.View.{View}
use Rattle.vq_board_laws.specs.Points.{reference, Lists}
use Rattle.vq_board_laws.specs.PointSteps.{sees, refers, unrefers, without, recalls, point_facts, moved_on}
use Rattle.vq_board_laws.specs.Reached.{answer_told}
use Rattle.vq_board_laws.specs.Words.{Carries}
use Rattle.vq_board.specs.Firsts.{shows_made}
use Rattle.vq_board_laws.specs.Learning.{Grows}
use Rattle.vq_access_laws.specs.Tests.{shows_reached, knows_taken}
use Rattle.vq_access_laws.specs.TruePasses.{AreTrue, IsOwn, Moves, are_told_once, is_for, is_to, holds_to, are_rising, tasks_before, tasks_left}
use Rattle.vq_access_laws.proofs.Guards.{role}
use Rattle.vq_access_laws.proofs.HeldLists.{bit, counts_with, length_with, all_with, rising_with, rising_less, few_held, for_need, held_one, lists_counted, counted_held, first_counted, counts_without, length_without, count_cons}
use Rattle.vq_access_laws.proofs.OwnRules.{KeepsOwn, own_here, own_kept, own_moved, rest_unseen}
use Rattle.vq_access_laws.proofs.ServedActors.{serves_itself}
use Rattle.vq_access_laws.proofs.ServedSteps.{task_step, stay_step}
use Rattle.vq_access_laws.proofs.StepRules.{KeepsList, KeepsLists, list_same}
use Rattle.vq_access_laws.proofs.TestLaws.{place_any, resolver_reached, past_here, made_here, taken_here}

-- Needs that are reached

pub need_reached : (p : Plan) (known : List Fact) (ns : List Need) (k : ℕ) (n : Need) → slice_get ns k ≡ Some n →
    shows_reached p known n ≡ true → list_any (shows_reached p known) ns ≡ true
need_reached p known ns k n at t = place_any (shows_reached p known) ns k n at t

-- a value that isn't above the initial one
pub initial_reached : (p : Plan) (known : List Fact) (ns : List Need) (k : ℕ) (n : Need) → slice_get ns k ≡ Some n →
    n.value ≤ initial p n.chain → list_any (shows_reached p known) ns ≡ true
initial_reached p known ns k n at low = need_reached p known ns k n at
    (or_left (nat_le n.value (initial p n.chain)) _ (le-leb n.value (initial p n.chain) low))

-- the operation that resolves the need was just found past
pub past_reached : (p : Plan) (v : View) (ns : List Need) (k e : ℕ) (n : Need) → slice_get ns k ≡ Some n →
    resolver p n.chain n.value ≡ Some e → list_any (shows_reached p (recalls v e PastOp).known) ns ≡ true
past_reached p v ns k e n at resolves = need_reached p (recalls v e PastOp).known ns k n at
    (resolver_reached p (recalls v e PastOp).known n e resolves (past_here (Bound e ∷ v.known) e))

-- the operation of a reference was shown made
pub held_reached : (p : Plan) (known : List Fact) (ns : List Need) (h : Holding) → is_for p ns h ≡ true →
    shows_made known h.op ≡ true → list_any (shows_reached p known) ns ≡ true
held_reached p known ns h t made = by_need (slice_get ns h.need) refl
    (and_parts (nat_lt h.point (length p.ops)) _ t).1
  where
    by_need : (o : Option Need) → slice_get ns h.need ≡ o →
        option_map_or (λ n. option_map_or (λ e. e == h.op) (resolver p n.chain n.value) false) o false ≡ true →
        list_any (shows_reached p known) ns ≡ true
    by_need None at z = absurd (false≢true z)
    by_need (Some n) at z = need_reached p known ns h.need n at
        (resolver_reached p known n h.op (for_need p ns h t n at) made)

-- What a look at a point shows

module _ (v : View) (q n e : ℕ) (c : Carries n e) where
  facts_held : {A : Type 0} (x y : A) → (if (parts n).held then x else y) ≡ x
  facts_held x y = ap (λ (b : Bool). if b then x else y) c.held

  pub seen_taken : knows_taken (sees v q n).known e ≡ true
  seen_taken = by_signal (parts n).signaled refl
    where
      by_signal : (b : Bool) → (parts n).signaled ≡ b → knows_taken ((point_facts n ++ moved_on q n v.known) ++ v.known) e ≡ true
      by_signal b s = subst (λ (fs : List Fact). knows_taken ((fs ++ moved_on q n v.known) ++ v.known) e ≡ true)
          (sym (facts_held (if (parts n).signaled then Made (parts n).op ∷ Taken (parts n).op ∷ [] else Taken (parts n).op ∷ []) []))
          (both (parts n).signaled)
        where
          both : (b : Bool) → knows_taken (((if b then Made (parts n).op ∷ Taken (parts n).op ∷ [] else Taken (parts n).op ∷ []) ++ moved_on q n v.known) ++ v.known) e ≡ true
          both true = subst (λ (f : ℕ). knows_taken (Taken f ∷ (moved_on q n v.known ++ v.known)) e ≡ true) (sym c.op) (taken_here (moved_on q n v.known ++ v.known) e)
          both false = subst (λ (f : ℕ). knows_taken (Taken f ∷ (moved_on q n v.known ++ v.known)) e ≡ true) (sym c.op) (taken_here (moved_on q n v.known ++ v.known) e)

  pub seen_made : (parts n).signaled ≡ true → shows_made (sees v q n).known e ≡ true
  seen_made s = subst (λ (fs : List Fact). shows_made ((fs ++ moved_on q n v.known) ++ v.known) e ≡ true)
      (sym (facts_held (if (parts n).signaled then Made (parts n).op ∷ Taken (parts n).op ∷ [] else Taken (parts n).op ∷ []) []))
      (subst (λ (b : Bool). shows_made (((if b then Made (parts n).op ∷ Taken (parts n).op ∷ [] else Taken (parts n).op ∷ []) ++ moved_on q n v.known) ++ v.known) e ≡ true) (sym s)
      (subst (λ (f : ℕ). shows_made (Made f ∷ Taken f ∷ (moved_on q n v.known ++ v.known)) e ≡ true) (sym c.op) (made_here (Taken e ∷ (moved_on q n v.known ++ v.known)) e)))

-- While needs are waited for

module _ (p : Plan) (i : IsPlan p) (l : IsLawful p) (a : ActorName) (v : View) (places : ActorName → Place)
    (k : AreTrue p a v places) (ns : List Need) (next : slice_get (program p a) (places a).done ≡ Some (AwaitNeeds ns)) where
  abbrev x : Place
  x = places a

  abbrev before : List Task
  before = tasks_before p a (places a)

  abbrev behind : List Task
  behind = drop ((places a).done + 1) (program p a)

  abbrev self : Serves p a a
  self = serves_itself p a

  pub here : IsOwn p v before (AwaitNeeds ns ∷ behind) x
  here = own_here p a v x (AwaitNeeds ns) next k.own

  -- references

  own_reference : (h : Holding) → 1 ≤ count_by (holds_to h.point h.op) x.holding → is_for p ns h ≡ true →
      Lists v.refs (reference h.point h.op) × (h.point < length p.ops)
  own_reference h some t = (
    lists_counted h.point h.op v.refs (let c = here.holds.refs h.point h.op in omega arith),
    ltb-true h.point (length p.ops) (and_parts (nat_lt h.point (length p.ops)) _ t).0,
  )

  pub own_held : (n : ℕ) (h : Holding) → held_for n x.holding ≡ Some h →
      Lists v.refs (reference h.point h.op) × (h.point < length p.ops)
  own_held n h at = own_reference h (counted_held n x.holding h at) (held_one (is_for p ns) n x.holding h at here.holds.for_needs).0

  pub own_first : (h : Holding) (hs : List Holding) → x.holding ≡ h ∷ hs →
      Lists v.refs (reference h.point h.op) × (h.point < length p.ops)
  own_first h hs is = own_reference h
      (subst (λ (us : List Holding). 1 ≤ count_by (holds_to h.point h.op) us) (sym is) (first_counted h hs))
      (and_parts (is_for p ns h) (list_all (is_for p ns) hs)
      (subst (λ (us : List Holding). list_all (is_for p ns) us ≡ true) is here.holds.for_needs)).0

  pub own_room : (h : Holding) → is_for p ns h ≡ true → held_for h.need x.holding ≡ None → length ns ≤ 16 → length v.refs < 16
  own_room h t none few =
      let r = rising_with 0 h x.holding here.holds.rising (omega arith) none in
      let f = all_with (is_for p ns) h x.holding t here.holds.for_needs in
      let n = few_held p ns 0 (with_holding h x.holding) r f (omega arith) in
      let m = length_with h x.holding in
      let c = here.holds.count in
      omega arith

  -- steps

  module _ (after : ActorName → Place) where
    kept : (w : View) → KeepsOwn v w → IsOwn p w before (AwaitNeeds ns ∷ behind) x
    kept w o = own_kept p v w before (AwaitNeeds ns ∷ behind) x o here

    no_lists : (w : View) → Grows v.known w.known → w.submitted ≡ v.submitted → w.released ≡ v.released → w.begun ≡ v.begun →
        w.told ≡ v.told → KeepsLists None v w
    no_lists w known s r b t = record {
      known = known;
      submitted = subst (λ js. KeepsList 0 None (has v.submitted) (has js)) (sym s) (list_same 0 None (has v.submitted));
      released = subst (λ js. KeepsList 1 None (has v.released) (has js)) (sym r) (list_same 1 None (has v.released));
      begun = subst (λ js. KeepsList 2 None (has v.begun) (has js)) (sym b) (list_same 2 None (has v.begun));
      told = subst (λ ts. KeepsList 3 None (λ j. is_some (answer_told v.told j)) (λ j. is_some (answer_told ts j))) (sym t) (list_same 3 None (λ j. is_some (answer_told v.told j)));
    }

    -- the wait goes on, at another place
    waits_on : (w : View) (y : Place) → y.done ≡ x.done → w.role ≡ v.role → are_told_once (asking p) w.told ≡ true →
        KeepsLists None v w → Moves places a y after →
        IsOwn p w before (AwaitNeeds ns ∷ behind) y → AreTrue p a w after
    waits_on w y on role told lists moves own = stay_step p i l a v w places after k a self y moves role told on lists
        (subst (λ (z : Place). IsOwn p w (tasks_before p a z) (tasks_left p a z) z) (sym moves.here)
        (subst (λ (n : ℕ). IsOwn p w (onto (take n (program p a)) []) (drop n (program p a)) y) (sym on)
        (subst (λ (ts : List Task). IsOwn p w before ts y) (sym (next_left x.done (program p a) (AwaitNeeds ns) next)) own)))

    -- it has ended, and nothing is held
    waited : (w : View) (y : Place) → y.done ≡ x.done + 1 → y.holding ≡ [] → y.met ≡ false → y.seen ≡ x.seen →
        w.role ≡ v.role → are_told_once (asking p) w.told ≡ true → KeepsLists None v w →
        list_any (shows_reached p w.known) ns ≡ true → Moves places a y after →
        w.runs ≡ v.runs → w.entered ≡ v.entered → w.signaled ≡ v.signaled → w.held ≡ v.held → w.refs ≡ [] → AreTrue p a w after
    waited w y on empty unmet unseen role told lists reached moves runs entered signaled turn none =
        task_step p i l a v w places after k a self y moves role told (AwaitNeeds ns) next on lists reached
        (own_moved p a w x y (after a) (AwaitNeeds ns) next on moves.here
        record {
          runs = record {
            job = runs ∙ here.runs.job;
            counts = λ z is. let c = here.runs.counts z is in (entered ∙ c.0, signaled ∙ c.1);
          };
          turnless = turn ∙ here.turnless;
          holds = record {
            refs = λ q e. ap (λ rs. count_by (is_to q e) rs) none ∙ sym (ap (λ hs. count_by (holds_to q e) hs) empty);
            count = ap length none ∙ sym (ap length empty);
            for_needs = subst (λ hs. list_all (is_for p (waited_now behind)) hs ≡ true) (sym empty) refl;
            rising = subst (λ hs. are_rising 0 hs ≡ true) (sym empty) refl;
            met = λ is. absurd (false≢true (sym unmet ∙ is));
          };
          rest = rest_unseen p w (AwaitNeeds ns ∷ before) behind y refl (unseen ∙ here.rest.unseen refl) unmet;
        })

    -- a need was found past
    pub own_past : (w : View) → KeepsOwn v w → w.role ≡ v.role → are_told_once (asking p) w.told ≡ true → KeepsLists None v w → x.met ≡ false →
        list_any (shows_reached p w.known) ns ≡ true → Moves places a (met_at (places a) (places a).holding) after →
        AreTrue p a w after
    own_past w o role told lists unmet reached moves = by_holding x.holding refl moves
      where
        by_holding : (hs : List Holding) → x.holding ≡ hs → Moves places a (met_at x hs) after → AreTrue p a w after
        by_holding [] is m = waited w (forward x) refl is unmet refl role told lists reached m o.runs o.entered o.signaled o.turn
            (no_refs v.refs w.refs o.refs (here.holds.count ∙ ap length is))
          where
            no_refs : (rs us : List Reference) → us ≡ rs → length rs ≡ 0 → us ≡ []
            no_refs [] us e z = e
            no_refs (r ∷ rs) us e z = absurd (omega arith)
        by_holding (h ∷ hs) is m =
            let z = kept w o in
            waits_on w (record x { met = true }) refl role told lists m record {
              runs = z.runs;
              turnless = z.turnless;
              holds = record { refs = z.holds.refs; count = z.holds.count; for_needs = z.holds.for_needs; rising = z.holds.rising; met = λ _. reached };
              rest = record { met = λ is. absurd (false≢true (sym is)); saw = λ is. absurd (false≢true is); unseen = z.rest.unseen };
            }

    -- a reference was looked at, and its operation is signaled
    pub own_met : (w : View) → KeepsOwn v w → w.role ≡ v.role → are_told_once (asking p) w.told ≡ true → KeepsLists None v w →
        list_any (shows_reached p w.known) ns ≡ true → Moves places a (looked_at (places a)) after → AreTrue p a w after
    own_met w o role told lists reached m =
        let z = kept w o in
        waits_on w (record x { met = true }) refl role told lists m record {
          runs = z.runs;
          turnless = z.turnless;
          holds = record { refs = z.holds.refs; count = z.holds.count; for_needs = z.holds.for_needs; rising = z.holds.rising; met = λ _. reached };
          rest = record { met = λ is. absurd (false≢true (sym is)); saw = λ is. absurd (false≢true is); unseen = z.rest.unseen };
        }

    -- a reference was taken
    pub own_referred : (n q e m : ℕ) → is_for p ns (record { need = n; point = q; op = e }) ≡ true →
        held_for n (places a).holding ≡ None → Moves places a (holding_also (places a) n e q) after →
        AreTrue p a (refers v q e m) after
    own_referred n q e m t none moves =
        let new : Holding = record { need = n; point = q; op = e } in
        let y : Place = holding_also x n e q in
        waits_on (refers v q e m) (holding_also x n e q) refl refl k.told
        (no_lists (refers v q e m) ([], refl) refl refl refl refl) moves record {
          runs = record { job = here.runs.job; counts = here.runs.counts };
          turnless = here.turnless;
          holds = record {
            refs = λ c f. count_cons (is_to c f) (reference q e) v.refs
                ∙ (ap (λ (z : ℕ). bit (is_to c f (reference q e)) + z) (here.holds.refs c f)
                ∙ (sym (count_cons (holds_to c f) (record { need = n; point = q; op = e }) x.holding)
                ∙ sym (counts_with (holds_to c f) (record { need = n; point = q; op = e }) x.holding)));
            count = ap suc here.holds.count ∙ sym (length_with (record { need = n; point = q; op = e }) x.holding);
            for_needs = all_with (is_for p ns) (record { need = n; point = q; op = e }) x.holding t here.holds.for_needs;
            rising = rising_with 0 (record { need = n; point = q; op = e }) x.holding here.holds.rising (omega arith) none;
            met = here.holds.met;
          };
          rest = record { met = λ is. absurd (false≢true (sym is)); saw = λ is. absurd (false≢true is); unseen = here.rest.unseen };
        }

    -- the first reference was given back
    pub own_given_back : (h : Holding) (hs : List Holding) (m : ℕ) → (places a).met ≡ true → (places a).holding ≡ h ∷ hs →
        Moves places a (without_first (places a) hs) after → AreTrue p a (unrefers v h.point h.op m) after
    own_given_back h hs m met is moves = by_rest hs is moves
      where
        w : View
        w = unrefers v h.point h.op m

        listed : (us : List Holding) → x.holding ≡ h ∷ us → Lists v.refs (reference h.point h.op)
        listed us e = (own_first h us e).0

        refs : (us : List Holding) → x.holding ≡ h ∷ us → (c f : ℕ) →
            count_by (is_to c f) (without (reference h.point h.op) v.refs) ≡ count_by (holds_to c f) us
        refs us e c f =
            let one = counts_without h.point h.op c f v.refs (listed us e) in
            let two = here.holds.refs c f ∙ (ap (λ (ys : List Holding). count_by (holds_to c f) ys) e ∙ count_cons (holds_to c f) h us) in
            let three : bit (is_to c f (reference h.point h.op)) ≡ bit (holds_to c f h) = refl in
            omega arith

        count : (us : List Holding) → x.holding ≡ h ∷ us → length (without (reference h.point h.op) v.refs) ≡ length us
        count us e =
            let one = length_without h.point h.op v.refs (listed us e) in
            let two = here.holds.count ∙ ap length e in
            omega arith

        reached : list_any (shows_reached p v.known) ns ≡ true
        reached = here.holds.met met

        lists : KeepsLists None v (unrefers v h.point h.op m)
        lists = no_lists (unrefers v h.point h.op m) ([], refl) refl refl refl refl

        none : (us : List Holding) → us ≡ [] → x.holding ≡ h ∷ us → without (reference h.point h.op) v.refs ≡ []
        none us empty e = by_length (without (reference h.point h.op) v.refs) (count us e ∙ ap length empty)
          where
            by_length : (rs : List Reference) → length rs ≡ 0 → rs ≡ []
            by_length [] z = refl
            by_length (r ∷ rs) z = absurd (omega arith)

        by_rest : (us : List Holding) → x.holding ≡ h ∷ us → Moves places a (without_first x us) after →
            AreTrue p a (unrefers v h.point h.op m) after
        by_rest [] e z = waited (unrefers v h.point h.op m) (record (forward x) { holding = []; met = false }) refl refl refl refl refl k.told lists
            reached z refl refl refl refl (none [] refl e)
        by_rest (u ∷ us) e z =
            let all = and_parts (is_for p ns h) (list_all (is_for p ns) (u ∷ us))
            (subst (λ (ys : List Holding). list_all (is_for p ns) ys ≡ true) e here.holds.for_needs) in
            let rise = and_parts (nat_le 0 h.need) (are_rising (suc h.need) (u ∷ us))
            (subst (λ (ys : List Holding). are_rising 0 ys ≡ true) e here.holds.rising) in
            waits_on (unrefers v h.point h.op m) (record x { holding = u ∷ us; met = true }) refl refl k.told lists z record {
              runs = record { job = here.runs.job; counts = here.runs.counts };
              turnless = here.turnless;
              holds = record {
                refs = refs (u ∷ us) e;
                count = count (u ∷ us) e;
                for_needs = all.1;
                rising = rising_less 0 (suc h.need) (u ∷ us) (omega arith) rise.1;
                met = λ _. reached;
              };
              rest = record { met = λ is. absurd (false≢true (sym is)); saw = λ is. absurd (false≢true is); unseen = here.rest.unseen };
            }
