-- A bind on the lists and on the board: the lists stay those of the pass.
use Rattle.std.proofs.Common.{◌≡◌, ℕ, ◌<◌, ◌≤◌, List, ◌∷◌, true, false, Bool, not, Option, Some, IsPermutation}
use Rattle.std.proofs.Common.{reverse, take, option_map, refl, sym, ap, ◌∙◌, subst, arith, inl}
use Rattle.std.specs.List.{slice_get}
use Rattle.std.specs.Option.{option_map_or}
use Rattle.std.proofs.lemmas.Bool.{false≢true}
use Rattle.std.proofs.lemmas.List.Sorted.{IsPermutation-trans}
use Rattle.std.proofs.lemmas.Option.{same_Some}
use Rattle.vq_model.specs.declared.plan.Op.{Op}
use Rattle.vq_model.specs.Plan.{Plan, chain, chain_of, job_of, is_host_step}
use Rattle.vq_ground.specs.Lists.{has}
use Rattle.vq_point_laws.specs.Timeline.{Timeline, point_at, all_points, after_bind}
use Rattle.vq_core_laws.proofs.Cited.{Facts, facts}
use Rattle.vq_board_laws.specs.declared.view.View.{View}
use Rattle.vq_board_laws.specs.declared.view.Fact.TheVariants.{Job}
use Rattle.vq_board_laws.specs.declared.view.JobState.{JobState}
use Rattle.vq_board_laws.specs.declared.view.JobState.TheVariants.{Waiting, Submitted, Released, Started, Finished}
use Rattle.vq_board_laws.specs.Knowledge.{KnowsSoFar, state_number}
use Rattle.vq_board_laws.specs.MayPoints.{MayBind, IsSmaller}
use Rattle.vq_board_laws.specs.Steps.{looks}
use Rattle.vq_board_laws.specs.PointSteps.{binds}
use Rattle.vq_timeline_laws.specs.Calls.{may_bind}
use Rattle.vq_timeline_laws.specs.ChainOps.{of_host}
use Rattle.vq_timeline_laws.specs.Shelves.{AreListsOf, IsKept}
use Rattle.vq_timeline_laws.proofs.ListParts.{one_more, has_reverse, taken_place, place_taken}
use Rattle.vq_timeline_laws.proofs.Places.{of_chain_at, place_at, place_once}

-- The first n operations of a chain, latest first: an operation behind them isn't among them,
pub not_among : (p : Plan) (f : Facts p) (t n i e : ℕ) (es : List ℕ) → es ≡ reverse (take n (chain p t)) →
    slice_get (chain p t) i ≡ Some e → n ≤ i → has es e ≡ false
not_among p f t n i e es are at behind = by_test (has es e) refl
  where
    by_test : (b : Bool) → has es e ≡ b → has es e ≡ false
    by_test false h = h
    by_test true h =
        let there = taken_place n (chain p t) e
        (sym (has_reverse (take n (chain p t)) e) ∙ (ap (λ (xs : List ℕ). has xs e) (sym are) ∙ h)) in
        let same = place_once p f t there.place i e there.is at in
        let low = there.before in absurd (omega arith)

-- one before them is,
pub among : (p : Plan) (t n i e : ℕ) (es : List ℕ) → es ≡ reverse (take n (chain p t)) →
    slice_get (chain p t) i ≡ Some e → i < n → has es e ≡ true
among p t n i e es are at low =
    ap (λ (xs : List ℕ). has xs e) are
    ∙ (has_reverse (take n (chain p t)) e ∙ place_taken n (chain p t) i e low at)

-- and so are all that are smaller than the next one.
pub smaller_among : (p : Plan) (f : Facts p) (t n e : ℕ) (es : List ℕ) → es ≡ reverse (take n (chain p t)) →
    slice_get (chain p t) n ≡ Some e → (g : ℕ) → IsSmaller p g e → has es g ≡ true
smaller_among p f t n e es are at g m =
    let here = of_chain_at p f m.of_chain m.second e m.greater in
    let same : m.of_chain ≡ t = same_Some m.of_chain t (sym here ∙ of_chain_at p f t n e at) in
    let second = place_once p f t m.second n e
    (subst (λ (u : ℕ). slice_get (chain p u) m.second ≡ Some e) same m.greater) at in
    let order = m.order in
    among p t n m.first g es are (subst (λ (u : ℕ). slice_get (chain p u) m.first ≡ Some g) same m.smaller)
    (omega arith)

module _ (p : Plan) (t : ℕ) (c : Timeline) (v : View) (x : IsKept p t c v) (o : Op) (e q : ℕ)
    (is : slice_get p.ops e ≡ Some o) (of_chain : chain_of p e ≡ Some t) (next : c.bound ≡ o.index)
    (point : point_at c o.index ≡ Some q) (s : JobState) where
  abbrev f : Facts p
  f = facts p x.plan x.lawful

  at : slice_get (chain p t) c.bound ≡ Some e
  at = subst (λ (n : ℕ). slice_get (chain p t) n ≡ Some e) (sym next) (place_at p f t e o is of_chain)

  point_next : point_at c c.bound ≡ Some q
  point_next = subst (λ (n : ℕ). point_at c n ≡ Some q) (sym next) point

  job_is : (j : ℕ) → job_of p e ≡ Some j → o.job ≡ j
  job_is j h = same_Some o.job j (sym (ap (option_map (λ (z : Op). z.job)) is) ∙ h)

  host_is : (j : ℕ) → job_of p e ≡ Some j → of_host p e ≡ is_host_step p j
  host_is j h =
      ap (λ (z : Option Op). option_map_or (λ (y : Op). is_host_step p y.job) z false) is
      ∙ ap (is_host_step p) (job_is j h)

  abbrev KnowsOf : ℕ → JobState → Type 0
  KnowsOf j least = KnowsSoFar (looks v o.job s).known j least

  knows : (j : ℕ) → job_of p e ≡ Some j → (least z : JobState) → z ≡ s → state_number least ≤ state_number z →
      KnowsOf j least
  knows j of_job least z same far =
      (s, (let n = ap state_number same in omega arith), inl (λ i. Job (job_is j of_job i) s))

  released : may_bind (of_host p e) s ≡ true → (j : ℕ) → job_of p e ≡ Some j → is_host_step p j ≡ false →
      KnowsOf j Released
  released may j of_job batch = by_state s may refl
    where
      by_state : (z : JobState) → may_bind (of_host p e) z ≡ true → z ≡ s → KnowsOf j Released
      by_state Waiting m same = absurd (false≢true m)
      by_state Submitted m same = absurd (false≢true m)
      by_state Released m same = knows j of_job Released Released same (omega arith)
      by_state Started m same = knows j of_job Released Started same (omega arith)
      by_state Finished m same = knows j of_job Released Finished same (omega arith)

  started : may_bind (of_host p e) s ≡ true → (j : ℕ) → job_of p e ≡ Some j → is_host_step p j ≡ true →
      KnowsOf j Started
  started may j of_job host = by_state s may refl
    where
      by_state : (z : JobState) → may_bind (of_host p e) z ≡ true → z ≡ s → KnowsOf j Started
      by_state Waiting m same = absurd (false≢true m)
      by_state Submitted m same = absurd (false≢true m)
      by_state Released m same = absurd (false≢true (ap not (sym (host_is j of_job ∙ host)) ∙ m))
      by_state Started m same = knows j of_job Started Started same (omega arith)
      by_state Finished m same = knows j of_job Started Finished same (omega arith)

  pub may_bind_op : may_bind (of_host p e) s ≡ true → MayBind p (looks v o.job s) e q
  may_bind_op m = record {
    carries = x.lists.carrying_all q c.bound e at (point_next, inl x.kept.in_order);
    unbound = not_among p f t c.bound c.bound e v.bound x.lists.bound_are at (omega arith);
    smaller = smaller_among p f t c.bound e v.bound x.lists.bound_are at;
    released = released m;
    started = started m;
  }

  pub lists_bound : IsPermutation (all_points c) (all_points (after_bind c)) →
      AreListsOf p t (after_bind c) (binds (looks v o.job s) e q)
  lists_bound same = record {
    exists = x.lists.exists;
    role_is = x.lists.role_is;
    first = x.lists.first;
    their_values = x.lists.their_values;
    bound_are = ap (λ (es : List ℕ). e ∷ es) x.lists.bound_are ∙ one_more (chain p t) c.bound e at;
    past_are = x.lists.past_are;
    points = IsPermutation-trans v.owned (all_points c) (all_points (after_bind c)) x.lists.points same;
    below = x.lists.below;
    carrying_only = x.lists.carrying_only;
    carrying_all = x.lists.carrying_all;
  }
