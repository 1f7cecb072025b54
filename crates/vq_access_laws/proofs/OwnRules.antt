-- What steps leave of what the pass's own actor says of it.
use Rattle.std.proofs.Common.{◌≡◌, ℕ, ◌+◌, true, false, ◌&&◌, ◌==◌, List, [], ◌∷◌, ◌++◌, Option, Some, None, length, take, drop, refl, sym, ap, ◌∙◌, subst, count_by, find, nat_le, is_some, inl, inr}
use Rattle.std.specs.Prelude.{nat_lt}
use Rattle.std.specs.List.{slice_get, list_all, list_any}
use Rattle.std.specs.Option.{option_map_or}
use Rattle.std.proofs.lemmas.Bool.{false≢true, and_parts, and_from, or_cases, or_left, or_right}
use Rattle.vq_model.specs.declared.plan.Need.{Need}
use Rattle.vq_model.specs.declared.script.ActorName.{ActorName}
use Rattle.vq_model.specs.Plan.{Plan, chain, initial, value}
use Rattle.vq_ground.specs.Lists.{has}
use Rattle.vq_ground.proofs.Lists.{has-append_right}
use Rattle.vq_turns.specs.declared.look.Seen.{Seen}
use Rattle.vq_turns.specs.declared.task.Task.{Task}
use Rattle.vq_turns.specs.Programs.{program}
use Rattle.vq_turns.specs.Turns.{Place, forward}
use Rattle.vq_turn_laws.specs.Running.{Running, runs_after}
use Rattle.vq_turn_laws.specs.Tasks.{onto, waited_now, is_waiting, compared_now, is_asking}
use Rattle.vq_turn_laws.proofs.Cited.{next_cut, next_left}
use Rattle.vq_board_laws.specs.declared.view.Fact.{Fact}
use Rattle.vq_board_laws.specs.declared.view.Told.{Told}
use Rattle.vq_board_laws.specs.declared.view.View.{View}
use Rattle.vq_board_laws.specs.Reached.{answer_told}
use Rattle.vq_board.specs.Firsts.{shows_made}
use Rattle.vq_board.proofs.Cited.{shown_more}
use Rattle.vq_board_laws.specs.Learning.{Grows, Learns}
use Rattle.vq_access_laws.specs.Tests.{shows_reached, shows_value, notes_next, saw_value, saw_values}
use Rattle.vq_access_laws.specs.TruePasses.{RunsAs, HoldsAs, IsAtRest, IsOwn, are_told_once, is_to, holds_to, is_for, are_rising, tasks_before, tasks_left}
use Rattle.vq_access_laws.proofs.Guards.{none_held}
use Rattle.vq_access_laws.proofs.StepRules.{KeepsLists, KeepsList, list_same}
use Rattle.vq_access_laws.proofs.TestLaws.{any_more, reached_more}

-- the pass runs and holds the same, and knows more
pub record KeepsOwn (v w : View) : Type 0 where
  pub runs : w.runs ≡ v.runs
  pub entered : w.entered ≡ v.entered
  pub signaled : w.signaled ≡ v.signaled
  pub turn : w.held ≡ v.held
  pub refs : w.refs ≡ v.refs
  pub known : Grows v.known w.known
  pub unmade : Grows v.unmade w.unmade

pub same_own : (v : View) → KeepsOwn v v
same_own v = record { runs = refl; entered = refl; signaled = refl; turn = refl; refs = refl; known = ([], refl); unmade = ([], refl) }

-- More was learned

module _ (p : Plan) (v w : View) (known : Grows v.known w.known) (unmade : Grows v.unmade w.unmade) where
  made_more : (e : ℕ) → shows_made v.known e ≡ true → shows_made w.known e ≡ true
  made_more e h = subst (λ (fs : List Fact). shows_made fs e ≡ true) (sym known.1) (shown_more known.0 v.known e h)

  value_more : (t n : ℕ) → shows_value p v.known t n ≡ true → shows_value p w.known t n ≡ true
  value_more t n h =
      elim (or_cases (n == initial p t) (list_any (λ e. (value p e == n) && shows_made v.known e) (chain p t)) h) [
        | inl low ↦ or_left (n == initial p t) (list_any (λ e. (value p e == n) && shows_made w.known e) (chain p t)) low
        | inr some ↦ or_right (n == initial p t) (list_any (λ e. (value p e == n) && shows_made w.known e) (chain p t))
            (any_more (λ e. (value p e == n) && shows_made v.known e) (λ e. (value p e == n) && shows_made w.known e)
            (chain p t) (λ e z. let q = and_parts (value p e == n) (shows_made v.known e) z in
            and_from (value p e == n) (shows_made w.known e) q.0 (made_more e q.1)) some)
      ]

  next_more : (t n : ℕ) → notes_next p v.unmade t n ≡ true → notes_next p w.unmade t n ≡ true
  next_more t n h = by_found (find (λ e. nat_lt n (value p e)) (chain p t)) h
    where
      by_found : (o : Option ℕ) → option_map_or (has v.unmade) o true ≡ true → option_map_or (has w.unmade) o true ≡ true
      by_found None z = refl
      by_found (Some e) z = subst (λ (es : List ℕ). has es e ≡ true) (sym unmade.1)
          (has-append_right unmade.0 v.unmade e z)

  one_more : (a : ℕ × ℕ) (x : Seen) → saw_value p v a x ≡ true → saw_value p w a x ≡ true
  one_more (t, wanted) x h =
      let a = and_parts (x.wanted == wanted) (nat_le (initial p t) x.past && (shows_value p v.known t x.past && notes_next p v.unmade t x.past)) h in
      let b = and_parts (nat_le (initial p t) x.past) (shows_value p v.known t x.past && notes_next p v.unmade t x.past) a.1 in
      let c = and_parts (shows_value p v.known t x.past) (notes_next p v.unmade t x.past) b.1 in
      and_from (x.wanted == wanted) (nat_le (initial p t) x.past && (shows_value p w.known t x.past && notes_next p w.unmade t x.past)) a.0
      (and_from (nat_le (initial p t) x.past) (shows_value p w.known t x.past && notes_next p w.unmade t x.past) b.0
      (and_from (shows_value p w.known t x.past) (notes_next p w.unmade t x.past) (value_more t x.past c.0) (next_more t x.past c.1)))

  pub saw_more : (qs : List (ℕ × ℕ)) (xs : List Seen) → saw_values p v qs xs ≡ true → saw_values p w qs xs ≡ true
  saw_more [] [] h = refl
  saw_more [] (x ∷ xs) h = absurd (false≢true h)
  saw_more (a ∷ qs) [] h = absurd (false≢true h)
  saw_more (a ∷ qs) (x ∷ xs) h =
      let q = and_parts (saw_value p v a x) (saw_values p v qs xs) h in
      and_from (saw_value p w a x) (saw_values p w qs xs) (one_more a x q.0) (saw_more qs xs q.1)

  pub reached_on : (ns : List Need) → list_any (shows_reached p v.known) ns ≡ true → list_any (shows_reached p w.known) ns ≡ true
  reached_on ns h = subst (λ (fs : List Fact). list_any (shows_reached p fs) ns ≡ true) (sym known.1)
      (any_more (shows_reached p v.known) (shows_reached p (known.0 ++ v.known)) ns
      (λ n z. reached_more p known.0 v.known n z) h)

-- What the own actor says, part by part

pub runs_kept : (v w : View) (r : Option Running) → KeepsOwn v w → RunsAs v r → RunsAs w r
runs_kept v w r k h = record {
  job = k.runs ∙ h.job;
  counts = λ x is. let c = h.counts x is in (k.entered ∙ c.0, k.signaled ∙ c.1);
}

pub holds_kept : (p : Plan) (v w : View) (ns : List Need) (x : Place) → KeepsOwn v w → HoldsAs p v ns x → HoldsAs p w ns x
holds_kept p v w ns x k h = record {
  refs = λ q e. ap (λ rs. count_by (is_to q e) rs) k.refs ∙ h.refs q e;
  count = ap length k.refs ∙ h.count;
  for_needs = h.for_needs;
  rising = h.rising;
  met = λ is. reached_on p v w k.known k.unmade ns (h.met is);
}

pub rest_kept : (p : Plan) (v w : View) (before left : List Task) (x : Place) → KeepsOwn v w → IsAtRest p v before left x →
    IsAtRest p w before left x
rest_kept p v w before left x k h = record {
  met = h.met;
  saw = λ is. saw_more p v w k.known k.unmade (compared_now before) x.seen (h.saw is);
  unseen = h.unseen;
}

pub own_kept : (p : Plan) (v w : View) (before left : List Task) (x : Place) → KeepsOwn v w → IsOwn p v before left x →
    IsOwn p w before left x
own_kept p v w before left x k h = record {
  runs = runs_kept v w (runs_after before) k h.runs;
  turnless = k.turn ∙ h.turnless;
  holds = holds_kept p v w (waited_now left) x k h.holds;
  rest = rest_kept p v w before left x k h.rest;
}

-- Behind a task

-- a task that neither waits for needs, nor compares, nor answers
pub record IsUnasked (t : Task) : Type 0 where
  pub waiting : (ts : List Task) → is_waiting (t ∷ ts) ≡ false
  pub waited : (ts : List Task) → waited_now (t ∷ ts) ≡ []
  pub asking : (ts : List Task) → is_asking (t ∷ ts) ≡ false
  pub compared : (ts : List Task) → compared_now (t ∷ ts) ≡ []

-- where nothing is held and no need was met
pub holds_nothing : (p : Plan) (v : View) (ns ms : List Need) (x y : Place) → x.holding ≡ [] → y.holding ≡ [] → y.met ≡ false →
    HoldsAs p v ns x → HoldsAs p v ms y
holds_nothing p v ns ms x y none empty unmet h = record {
  refs = λ q e. h.refs q e ∙ ap (λ hs. count_by (holds_to q e) hs) (none ∙ sym empty);
  count = h.count ∙ ap length (none ∙ sym empty);
  for_needs = subst (λ hs. list_all (is_for p ms) hs ≡ true) (sym empty) refl;
  rising = subst (λ hs. are_rising 0 hs ≡ true) (sym empty) refl;
  met = λ is. absurd (false≢true (sym unmet ∙ is));
}

pub rest_unseen : (p : Plan) (v : View) (before left : List Task) (y : Place) → compared_now before ≡ [] → y.seen ≡ [] →
    y.met ≡ false → IsAtRest p v before left y
rest_unseen p v before left y none unseen unmet = record {
  met = λ _. unmet;
  saw = λ _. subst (λ qs. saw_values p v qs y.seen ≡ true) (sym none)
      (subst (λ xs. saw_values p v [] xs ≡ true) (sym unseen) refl);
  unseen = λ _. unseen;
}

-- the own part behind such a task, from what is run then
pub own_on : (p : Plan) (v w : View) (t : Task) (before behind : List Task) (x : Place) → IsUnasked t → w.refs ≡ v.refs →
    w.held ≡ None → RunsAs w (runs_after (t ∷ before)) → IsOwn p v before (t ∷ behind) x →
    IsOwn p w (t ∷ before) behind (forward x)
own_on p v w t before behind x u refs turnless runs h =
    let none = none_held p x.holding
    (subst (λ (ns : List Need). list_all (is_for p ns) x.holding ≡ true) (u.waited behind) h.holds.for_needs) in
    let unmet = h.rest.met (u.waiting behind) in
    let old = holds_nothing p v (waited_now (t ∷ behind)) (waited_now behind) x (forward x) none none unmet h.holds in
    record {
      runs = runs;
      turnless = turnless;
      holds = record {
        refs = λ q e. ap (λ rs. count_by (is_to q e) rs) refs ∙ old.refs q e;
        count = ap length refs ∙ old.count;
        for_needs = old.for_needs;
        rising = old.rising;
        met = λ is. absurd (false≢true (sym unmet ∙ is));
      };
      rest = rest_unseen p w (t ∷ before) behind (forward x) (u.compared before) (h.rest.unseen (u.asking behind)) unmet;
    }

-- at the place to which the actor goes
pub own_moved : (p : Plan) (a : ActorName) (w : View) (x y z : Place) (t : Task) → slice_get (program p a) x.done ≡ Some t →
    y.done ≡ x.done + 1 → z ≡ y → IsOwn p w (t ∷ tasks_before p a x) (drop (x.done + 1) (program p a)) y →
    IsOwn p w (tasks_before p a z) (tasks_left p a z) z
own_moved p a w x y z t next on here h =
    let left = next_left x.done (program p a) t next in
    let cut = next_cut x.done (program p a) t (drop (x.done + 1) (program p a)) left in
    subst (λ (c : Place). IsOwn p w (tasks_before p a c) (tasks_left p a c) c) (sym here)
    (subst (λ (n : ℕ). IsOwn p w (onto (take n (program p a)) []) (drop n (program p a)) y) (sym on)
    (subst (λ (bs : List Task). IsOwn p w bs (drop (x.done + 1) (program p a)) y) (sym cut.1) h))

-- the own part as it stands at its next task
pub own_here : (p : Plan) (a : ActorName) (v : View) (x : Place) (t : Task) → slice_get (program p a) x.done ≡ Some t →
    IsOwn p v (tasks_before p a x) (tasks_left p a x) x → IsOwn p v (tasks_before p a x) (t ∷ drop (x.done + 1) (program p a)) x
own_here p a v x t next h = subst (λ (ts : List Task). IsOwn p v (tasks_before p a x) ts x)
    (next_left x.done (program p a) t next) h

-- Looks

module _ (v w : View) (k : Learns v w) where
  part : {A : Type 0} (f : View → A) → f w ≡ f (record v { known = w.known; unmade = w.unmade; steps = w.steps })
  part f = ap f k.same

  pub learned_own : KeepsOwn v w
  learned_own = record {
    runs = part (λ x. x.runs);
    entered = part (λ x. x.entered);
    signaled = part (λ x. x.signaled);
    turn = part (λ x. x.held);
    refs = part (λ x. x.refs);
    known = k.known;
    unmade = k.unmade;
  }

  pub learned_lists : (m : Option (ℕ × ℕ)) → KeepsLists m v w
  learned_lists m = record {
    known = k.known;
    submitted = subst (λ (js : List ℕ). KeepsList 0 m (has v.submitted) (has js)) (sym (part (λ x. x.submitted))) (list_same 0 m (has v.submitted));
    released = subst (λ (js : List ℕ). KeepsList 1 m (has v.released) (has js)) (sym (part (λ x. x.released))) (list_same 1 m (has v.released));
    begun = subst (λ (js : List ℕ). KeepsList 2 m (has v.begun) (has js)) (sym (part (λ x. x.begun))) (list_same 2 m (has v.begun));
    told = subst (λ (ts : List Told). KeepsList 3 m (λ j. is_some (answer_told v.told j)) (λ j. is_some (answer_told ts j)))
        (sym (part (λ x. x.told))) (list_same 3 m (λ j. is_some (answer_told v.told j)));
  }

  pub learned_role : w.role ≡ v.role
  learned_role = part (λ x. x.role)

  pub learned_told : (jobs : List ℕ) → are_told_once jobs v.told ≡ true → are_told_once jobs w.told ≡ true
  learned_told jobs h = subst (λ (ts : List Told). are_told_once jobs ts ≡ true) (sym (part (λ x. x.told))) h
