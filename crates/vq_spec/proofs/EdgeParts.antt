-- Of the jobs with an edge to a job those that must be finished come first, and behind them one for each operation
-- that it waits for.
use Rattle.std.proofs.Common.{◌≡◌, ℕ, cond, ◌+◌, ◌-◌, Bool, true, false, ltb, leb, List, [], ◌∷◌, length, filter, take, Option, Some, None, option_map, refl, ap, ◌∙◌, arith}
use Rattle.std.specs.List.{slice_get, filter_map, cons_option}
use Rattle.std.proofs.Math.Seq.{take-append_seam}
use Rattle.std.proofs.lemmas.List.{length-append}
use Rattle.vq_model.specs.declared.plan.Need.{Need}
use Rattle.vq_model.specs.declared.plan.Op.{Op}
use Rattle.vq_model.specs.Edges.{AtEnd, awaited_at, must_finish}
use Rattle.vq_model.specs.EdgeReasons.{edges_to}
use Rattle.vq_model.specs.Plan.{Plan, value, chain, resolver, initial, needs, job_of, waits_for_any}
use Rattle.vq_model.specs.WellFormed.{IsWellFormed}
use Rattle.vq_ground.proofs.Options.{some_of}
use Rattle.vq_ground.proofs.Searches.{find_member}

module _ (p : Plan) (w : IsWellFormed p) where
  -- what resolves a need is the operation of a job
  has_job : (t v e : ℕ) → resolver p t v ≡ Some e → (j : ℕ) × (job_of p e ≡ Some j)
  has_job t v e r =
      let member = find_member (λ f. leb v (value p f)) (chain p t) e r in
      let op = some_of (λ (o : Op). o.chain) (slice_get p.ops e) t (w.of_chain e t member) in
      (op.0.job, ap (option_map (λ (o : Op). o.job)) op.1)

  abbrev resolvers : List Need → List ℕ
  resolvers ns = filter_map (λ n. resolver p n.chain n.value) ns

  one_each : (ns : List Need) → length (filter_map (job_of p) (resolvers ns)) ≡ length (resolvers ns)
  one_each [] = refl
  one_each (n ∷ ns) = by_resolver (resolver p n.chain n.value) refl (one_each ns)
    where
      by_job : (e : ℕ) (o : Option ℕ) (rest : List ℕ) → job_of p e ≡ o → (j : ℕ) × (o ≡ Some j) →
          length (filter_map (job_of p) rest) ≡ length rest →
          length (cons_option o (filter_map (job_of p) rest)) ≡ length (e ∷ rest)
      by_job e None rest same (j, is) h = absurd (cc)
      by_job e (Some i) rest same is h = omega (arith, h)

      by_resolver : (o : Option ℕ) → resolver p n.chain n.value ≡ o →
          length (filter_map (job_of p) (resolvers ns)) ≡ length (resolvers ns) →
          length (filter_map (job_of p) (cons_option o (resolvers ns))) ≡ length (cons_option o (resolvers ns))
      by_resolver None is h = h
      by_resolver (Some e) is h =
          by_job e (job_of p e) (resolvers ns) refl (has_job n.chain n.value e is) h

  one_each_at : (j : ℕ) → length (filter_map (job_of p) (awaited_at p j AtEnd)) ≡ length (awaited_at p j AtEnd)
  one_each_at j = by_any (waits_for_any p j)
    where
      by_any : (b : Bool) →
          length (filter_map (job_of p) (cond b [] (resolvers (filter (λ n. ltb (initial p n.chain) n.value) (needs p j)))))
          ≡ length (cond b [] (resolvers (filter (λ n. ltb (initial p n.chain) n.value) (needs p j))))
      by_any true = refl
      by_any false = one_each (filter (λ n. ltb (initial p n.chain) n.value) (needs p j))

  -- as many edges as jobs that must be finished and operations
  pub edges_count : (j : ℕ) →
      length (edges_to p j) ≡ length (must_finish p j) + length (awaited_at p j AtEnd)
  edges_count j =
      length-append (must_finish p j) (filter_map (job_of p) (awaited_at p j AtEnd))
      ∙ ap (λ (n : ℕ). length (must_finish p j) + n) (one_each_at j)

  pub firsts_are : (j : ℕ) →
      take (length (edges_to p j) - length (awaited_at p j AtEnd)) (edges_to p j) ≡ must_finish p j
  firsts_are j =
      let count = edges_count j in
      let n : length (edges_to p j) - length (awaited_at p j AtEnd) ≡ length (must_finish p j) = omega arith in
      ap (λ (k : ℕ). take k (edges_to p j)) n
      ∙ take-append_seam (must_finish p j) (filter_map (job_of p) (awaited_at p j AtEnd))
