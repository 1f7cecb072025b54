-- In a plan of which the slow run does each job, each wait above its initial value has a resolver.
use Rattle.std.proofs.Common.{◌≡◌, ℕ, ◌<◌, ◌≤◌, ◌&&◌, max, Bool, true, false, not, cond, if◌then◌else◌, List, [], ◌∷◌}
use Rattle.std.proofs.Common.{◌++◌, length, map, filter, find, Option, Some, None, is_some, nat_le, refl, sym, subst}
use Rattle.std.proofs.Common.{ap, ◌∙◌, inl, inr, arith}
use Rattle.std.specs.List.{list_any, list_all, slice_get}
use Rattle.std.specs.Option.{option_map_or}
use Rattle.std.proofs.lemmas.Bool.{and_parts, leb-true, leb-false, cond-false, false≢true}
use Rattle.std.proofs.lemmas.Option.{slice_get_within}
use Rattle.vq_model.specs.declared.plan.Need.{Need}
use Rattle.vq_model.specs.declared.plan.PlanJob.{PlanJob}
use Rattle.vq_model.specs.Plan.{Plan, needs, chain, initial, value, waits_for_any}
use Rattle.vq_ground.specs.Lists.{has}
use Rattle.vq_model.specs.Edges.{AtEnd}
use Rattle.vq_model.specs.Machine.{is_reached, are_reached, can_start}
use Rattle.vq_model.specs.SlowRun.{greatest, is_of, is_ready, payload_after, left_over}
use Rattle.vq_ground.proofs.Lists.{has_cases}
use Rattle.vq_order_laws.proofs.Cited.{ReadyEach, slow_adds, slow_has}
use Rattle.vq_turn_laws.specs.Orders.{Within}
use Rattle.vq_turn_laws.specs.PlanParts.{HasResolvers}
use Rattle.vq_turn_laws.proofs.WaitParts.{all_of}

-- each job of a list that can be done in its order was ready
pub ready_of : (p : Plan) (done js : List ℕ) (j : ℕ) → ReadyEach p done js → has js j ≡ true →
    (more : List ℕ) × (is_ready p more j ≡ true)
ready_of p done [] j r m = absurd (false≢true m)
ready_of p done (i ∷ is) j r m =
    elim (has_cases i is j m) [
      | inl e ↦ (done, subst (λ (z : ℕ). is_ready p done z ≡ true) e r.0)
      | inr t ↦ ready_of p (done ++ i ∷ []) is j r.2 t
    ]

-- what is above a number and at most the greatest of it and others is at most one of the others
some_reaches : (p : Plan) (test : ℕ → Bool) (es : List ℕ) (n v : ℕ) → n < v →
    v ≤ greatest n (map (value p) (filter test es)) → is_some (find (λ e. nat_le v (value p e)) es) ≡ true
some_reaches p test [] n v l g = absurd (omega arith)
some_reaches p test (e ∷ es) n v l g = by_value (nat_le v (value p e)) refl (some_reaches p test es)
  where
    Rest : Type 0
    Rest = (m u : ℕ) → m < u → u ≤ greatest m (map (value p) (filter test es)) → is_some
        (find (λ f. nat_le u (value p f)) es) ≡ true

    by_test : (b : Bool) → value p e < v →
        v ≤ greatest n (map (value p) (if b then e ∷ filter test es else filter test es)) → Rest →
        is_some (find (λ f. nat_le v (value p f)) es) ≡ true
    by_test true s h r = r (max n (value p e)) v (omega arith) h
    by_test false s h r = r n v l h

    by_value : (b : Bool) → nat_le v (value p e) ≡ b → Rest → is_some (find (λ f. nat_le v (value p f)) (e ∷ es)) ≡ true
    by_value true i r = ap (λ b. is_some (cond b (Some e) (find (λ f. nat_le v (value p f)) es))) i
    by_value false i r =
        ap (λ b. is_some (cond b (Some e) (find (λ f. nat_le v (value p f)) es))) i
        ∙ by_test (test e) (leb-false v (value p e) i) g r

-- a job with a need exists
pub need_exists : (p : Plan) (j : ℕ) (n : Need) → Within n (needs p j) → j < length p.jobs
need_exists p j n w = by_job (slice_get p.jobs j) refl w
  where
    by_job : (o : Option PlanJob) → slice_get p.jobs j ≡ o → Within n (option_map_or (λ x. x.needs) o []) →
        j < length p.jobs
    by_job None is m = absurd m
    by_job (Some x) is m = slice_get_within p.jobs j x is

pub has_resolvers : (p : Plan) → left_over p ≡ [] → HasResolvers p
has_resolvers p none j n all w above =
    let added = slow_adds p (length p.jobs) [] in
    let stands : has added.rest j ≡ true = subst (λ us. has us j ≡ true) added.whole
    (slow_has p none j (need_exists p j n w)) in
    let r = ready_of p [] added.rest j added.each stands in
    let done = r.0 in
    let end = (and_parts (not (has done j) && can_start p (has done) (payload_after p done) j)
    (are_reached p (payload_after p done) j AtEnd) r.1).1 in
    let each : list_all (is_reached (payload_after p done)) (needs p j) ≡ true =
    sym (cond-false (waits_for_any p j) (list_any (is_reached (payload_after p done)) (needs p j))
    (list_all (is_reached (payload_after p done)) (needs p j)) all) ∙ end in
    let one = all_of (is_reached (payload_after p done)) (needs p j) n each w in
    some_reaches p (is_of p done) (chain p n.chain) (initial p n.chain) n.value above
    (leb-true n.value (payload_after p done n.chain) one)
