-- The order of the slow run: each job once, each one ready after those before it.
use Rattle.std.proofs.Common.{◌≡◌, ℕ, zero, suc, ◌<◌, true, not, ◌&&◌, List, [], ◌∷◌, ◌++◌, length, Option, Some, None, refl, arith, sym, ◌∙◌, append-nil, false}
use Rattle.std.specs.List.{range_with_len}
use Rattle.std.specs.Option.{option_map_or}
use Rattle.std.proofs.lemmas.Bool.{and_parts, ltb-true, not-true, not-false, false≢true}
use Rattle.vq_model.specs.Plan.{Plan, job_of}
use Rattle.vq_ground.specs.Lists.{has}
use Rattle.vq_model.specs.Edges.{Stage, AtEnd}
use Rattle.vq_model.specs.Machine.{can_start, are_reached}
use Rattle.vq_model.specs.SlowRun.{is_ready, payload_after, lowest_ready, slow_from, slow_order, left_over, is_of}
use Rattle.vq_model.specs.HappensBefore.{HappensBeforeAt, one, more}
use Rattle.vq_ground.proofs.Lists.{AreDistinct, distinct_push}
use Rattle.vq_ground.proofs.Searches.{find_passes, find_member}
use Rattle.vq_ground.proofs.Filters.{filter_none}
use Rattle.vq_ground.proofs.Numbers.{has_range, in_range}
use Rattle.vq_ground.proofs.Positions.{place}
use Rattle.std.proofs.lemmas.List.{append_assoc}

module _ (p : Plan) where
  slow_from_distinct : (n : ℕ) (done : List ℕ) → AreDistinct done → AreDistinct (slow_from n p done)
  slow_from_distinct zero done d = d
  slow_from_distinct (suc n) done d = by_case (lowest_ready p done) refl (slow_from_distinct n)
    where
      by_case : (o : Option ℕ) → lowest_ready p done ≡ o → ((more : List ℕ) → AreDistinct more → AreDistinct (slow_from n p more)) → AreDistinct (option_map_or (λ j. slow_from n p (done ++ j ∷ [])) o done)
      by_case None e f = d
      by_case (Some j) e f =
          let pass = find_passes (is_ready p done) (range_with_len 0 (length p.jobs)) j e in
          let both = and_parts (not (has done j) && can_start p (has done) (payload_after p done) j) (are_reached p (payload_after p done) j AtEnd) pass in
          let parts = and_parts (not (has done j)) (can_start p (has done) (payload_after p done) j) both.0 in
          f (done ++ j ∷ []) (distinct_push done j d (not-true (has done j) parts.0))

  pub slow_distinct : AreDistinct (slow_order p)
  slow_distinct = slow_from_distinct (length p.jobs) [] tt

  pub slow_has : left_over p ≡ [] → (j : ℕ) → j < length p.jobs → has (slow_order p) j ≡ true
  slow_has h j l =
      not-false (has (slow_order p) j) (filter_none (λ i. not (has (slow_order p) i)) (range_with_len 0 (length p.jobs)) j h (has_range (length p.jobs) 0 j (omega arith) (omega arith)))

  -- one job stands earlier in the slow run than another
  abbrev pub Earlier : ℕ → ℕ → Type 0
  Earlier i j = place (slow_order p) i < place (slow_order p) j

  pub before_earlier : (i j : ℕ) (k : Stage) → HappensBeforeAt p i j k → Earlier i j
  before_earlier i j k (one h) = ltb-true (place (slow_order p) i) (place (slow_order p) j) h.earlier
  before_earlier i j k (more {h = q} b h) =
      let a = before_earlier i q AtEnd b in
      let c = ltb-true (place (slow_order p) q) (place (slow_order p) j) h.earlier in
      omega arith

-- each job can be done whole after those before it
abbrev pub ReadyEach : Plan → List ℕ → List ℕ → Type 0
ReadyEach p done [] = Unit {0}
ReadyEach p done (j ∷ js) = (is_ready p done j ≡ true) × (j < length p.jobs) × ReadyEach p (done ++ j ∷ []) js

-- what a slow run adds to the jobs that are done
pub record Adds (p : Plan) (done all : List ℕ) : Type 0 where
  pub rest : List ℕ
  pub whole : all ≡ done ++ rest
  pub each : ReadyEach p done rest

pub slow_adds : (p : Plan) (n : ℕ) (done : List ℕ) → Adds p done (slow_from n p done)
slow_adds p zero done = record { rest = []; whole = sym (append-nil done); each = tt }
slow_adds p (suc n) done = by_case (lowest_ready p done) refl (slow_adds p n)
  where
    by_case : (o : Option ℕ) → lowest_ready p done ≡ o → ((more : List ℕ) → Adds p more (slow_from n p more)) → Adds p done (option_map_or (λ j. slow_from n p (done ++ j ∷ [])) o done)
    by_case None e f = record { rest = []; whole = sym (append-nil done); each = tt }
    by_case (Some j) e f =
        let a = f (done ++ j ∷ []) in
        let l = in_range (length p.jobs) 0 j (find_member (is_ready p done) (range_with_len 0 (length p.jobs)) j e) in
        let l' : j < length p.jobs = omega arith in
        record {
          rest = j ∷ a.rest;
          whole = a.whole ∙ append_assoc done (j ∷ []) a.rest;
          each = (find_passes (is_ready p done) (range_with_len 0 (length p.jobs)) j e, l', a.each);
        }

pub is_of_job : (p : Plan) (done : List ℕ) (e : ℕ) → is_of p done e ≡ true → (i : ℕ) × (job_of p e ≡ Some i) × (has done i ≡ true)
is_of_job p done e h = by_option (job_of p e) refl h
  where
    by_option : (o : Option ℕ) → job_of p e ≡ o → option_map_or (has done) o false ≡ true → (i : ℕ) × (job_of p e ≡ Some i) × (has done i ≡ true)
    by_option None q g = absurd (false≢true g)
    by_option (Some i) q g = (i, q, g)
