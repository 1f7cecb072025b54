-- Two places of a job with the same needs are alike; where all needs of a job are reached, those at
-- each place are.
use Rattle.std.proofs.Common.{◌≡◌, ℕ, if◌then◌else◌, ltb, List, [], ◌++◌, filter, sym, ap, ◌∙◌, suc, true, eqb, leb, ◌∷◌, refl, arith, Bool, false, ◌&&◌, not}
use Rattle.std.specs.List.{list_all, list_any, filter_map}
use Rattle.vq_ground.proofs.Bools.{and_false}
use Rattle.vq_model.specs.declared.plan.Need.{Need}
use Rattle.vq_model.specs.Plan.{Plan, waits_for_any, initial, job_of, resolver, needs, is_host_step}
use Rattle.vq_ground.specs.Lists.{has}
use Rattle.vq_model.specs.Edges.{Stage, must_finish, awaited_at, edges_at, needs_at, At, AtEnd}
use Rattle.vq_model.specs.EdgeReasons.{waits_at_start}
use Rattle.vq_model.specs.Machine.{is_reached, are_reached, can_start}
use Rattle.vq_model.specs.HappensBefore.{IsHop, HappensBeforeAt, one, more}
use Rattle.vq_model.specs.Sure.{IsSureAt, finished_first, waited_for, passed_on}
use Rattle.std.proofs.lemmas.Bool.{eqb-true, and_parts, cond-true, le-leb, and_from, cond-false}
use Rattle.vq_model.specs.WellFormed.{IsWellFormed}
use Rattle.vq_model.specs.SlowRun.{is_ready, payload_after}

-- Two places with the same needs are alike.

module _ (p : Plan) (j : ℕ) (a b : Stage) (e : needs_at p j a ≡ needs_at p j b) where
  same_awaited : awaited_at p j a ≡ awaited_at p j b
  same_awaited = ap (λ (ns : List Need). if waits_for_any p j then [] else filter_map (λ n. resolver p n.chain n.value) (filter (λ n. ltb (initial p n.chain) n.value) ns)) e

  same_edges : edges_at p j a ≡ edges_at p j b
  same_edges = ap (λ es. must_finish p j ++ filter_map (job_of p) es) same_awaited

  pub same_reached : (payload : ℕ → ℕ) → are_reached p payload j a ≡ are_reached p payload j b
  same_reached payload = ap (λ (ns : List Need). if waits_for_any p j then list_any (is_reached payload) ns else list_all (is_reached payload) ns) e

  same_hop : (i : ℕ) → IsHop p i j a → IsHop p i j b
  same_hop i h = record { edge = ap (λ zs. has zs i) (sym same_edges) ∙ h.edge; earlier = h.earlier }

pub same_before : (p : Plan) (i j : ℕ) (a b : Stage) → needs_at p j a ≡ needs_at p j b → HappensBeforeAt p i j a → HappensBeforeAt p i j b
same_before p i j a b e (one h) = one (same_hop p j a b e i h)
same_before p i j a b e (more {h = q} c h) = more c (same_hop p j a b e q h)

pub same_sure : (p : Plan) (e j : ℕ) (a b : Stage) → needs_at p j a ≡ needs_at p j b → IsSureAt p e j a → IsSureAt p e j b
same_sure p e j a b q (finished_first f) = finished_first f
same_sure p e j a b q (waited_for f) =
    waited_for (record { job = f.job; of_job = f.of_job; by_op = f.by_op; same_job = f.same_job; at_or_later = f.at_or_later; waits = ap (λ zs. has zs f.by_op) (sym (same_awaited p j a b q)) ∙ f.waits; earlier = f.earlier })
same_sure p e j a b q (passed_on {i = i} s h) = passed_on s (same_hop p j a b q i h)

-- Where all needs hold back the start, each place has all of them.

all_at_start : (ns : List Need) (k : ℕ) → list_all (λ n. eqb n.from 1) ns ≡ true → filter (λ n. leb n.from (suc k)) ns ≡ ns
all_at_start [] k h = refl
all_at_start (n ∷ ns) k h =
    let parts = and_parts (eqb n.from 1) (list_all (λ m. eqb m.from 1) ns) h in
    let e = eqb-true n.from 1 parts.0 in
    cond-true (leb n.from (suc k)) (n ∷ filter (λ m. leb m.from (suc k)) ns) (filter (λ m. leb m.from (suc k)) ns) (le-leb n.from (suc k) (omega arith))
    ∙ ap (λ ms. n ∷ ms) (all_at_start ns k parts.1)

pub needs_alike : (p : Plan) (j k : ℕ) → waits_at_start p j ≡ true → needs_at p j (At (suc k)) ≡ needs_at p j AtEnd
needs_alike p j k h = all_at_start (needs p j) k h

-- Where all needs of a job are reached, those at each place are.

and_true : (a b : Bool) → (a && (b && true)) ≡ (a && b)
and_true true true = refl
and_true true false = refl
and_true false b = refl

all_of_some : (test at : Need → Bool) (ns : List Need) → list_all test ns ≡ true → list_all test (filter at ns) ≡ true
all_of_some test at [] h = refl
all_of_some test at (n ∷ ns) h = by_at (at n) refl (all_of_some test at ns parts.1)
  where
    parts : (test n ≡ true) × (list_all test ns ≡ true)
    parts = and_parts (test n) (list_all test ns) h

    by_at : (b : Bool) → at n ≡ b → list_all test (filter at ns) ≡ true → list_all test (filter at (n ∷ ns)) ≡ true
    by_at true e r = ap (list_all test) (cond-true (at n) (n ∷ filter at ns) (filter at ns) e) ∙ and_from (test n) (list_all test (filter at ns)) parts.0 r
    by_at false e r = ap (list_all test) (cond-false (at n) (n ∷ filter at ns) (filter at ns) e) ∙ r

pub reached_earlier : (p : Plan) → IsWellFormed p → (payload : ℕ → ℕ) (j k : ℕ) → are_reached p payload j AtEnd ≡ true → are_reached p payload j (At (suc k)) ≡ true
reached_earlier p w payload j k h = by_lane (is_host_step p j) refl
  where
    by_lane : (b : Bool) → is_host_step p j ≡ b → are_reached p payload j (At (suc k)) ≡ true
    by_lane true e = same_reached p j (At (suc k)) AtEnd (needs_alike p j k (w.host_waits j e)) payload ∙ h
    by_lane false e =
        let any = w.waits_for_all j e in
        cond-false (waits_for_any p j) (list_any (is_reached payload) (needs_at p j (At (suc k)))) (list_all (is_reached payload) (needs_at p j (At (suc k)))) any
        ∙ all_of_some (is_reached payload) (λ n. leb n.from (suc k)) (needs p j) (sym (cond-false (waits_for_any p j) (list_any (is_reached payload) (needs p j)) (list_all (is_reached payload) (needs p j)) any) ∙ h)

-- so a slow run need ask for all needs of a job alone
pub ready_whole : (p : Plan) → IsWellFormed p → (done : List ℕ) (j : ℕ) → is_ready p done j ≡ (not (has done j) && list_all (has done) (must_finish p j) && are_reached p (payload_after p done) j AtEnd)
ready_whole p w done j = by_end (are_reached p (payload_after p done) j AtEnd) refl
  where
    by_end : (b : Bool) → are_reached p (payload_after p done) j AtEnd ≡ b → is_ready p done j ≡ (not (has done j) && list_all (has done) (must_finish p j) && are_reached p (payload_after p done) j AtEnd)
    by_end true e =
        let f = reached_earlier p w (payload_after p done) j 0 e in
        ap (λ c. not (has done j) && (list_all (has done) (must_finish p j) && c) && are_reached p (payload_after p done) j AtEnd) f
        ∙ ap (λ c. c && are_reached p (payload_after p done) j AtEnd) (and_true (not (has done j)) (list_all (has done) (must_finish p j)))
    by_end false e =
        ap (λ c. not (has done j) && can_start p (has done) (payload_after p done) j && c) e
        ∙ (and_false (not (has done j) && can_start p (has done) (payload_after p done) j) ∙ sym (ap (λ c. not (has done j) && list_all (has done) (must_finish p j) && c) e ∙ and_false (not (has done j) && list_all (has done) (must_finish p j))))
