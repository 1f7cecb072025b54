-- Parts of the numbers from 0 on.
use Rattle.std.proofs.Common.{◌≡◌, ℕ, ◌+◌, ◌-◌, ◌<◌, ◌≤◌, true, List, [], length, take, drop, get_or, Some, sym, ap}
use Rattle.std.proofs.Common.{subst, ◌∙◌, arith, zero-add}
use Rattle.std.specs.List.{range_with_len, slice_get}
use Rattle.std.specs.Option.{option_map_or}
use Rattle.std.proofs.lemmas.List.{same_lists, length-take-le, length-drop, get_or-take, get_or-drop}
use Rattle.std.proofs.lemmas.List.FromFn.{length-range_with_len, get_or-range_with_len}
use Rattle.vq_model.proofs.Plans.{op_exists}
use Rattle.vq_ground.proofs.Gets.{has_at}
use Rattle.vq_model.specs.declared.plan.PlanJob.{PlanJob}
use Rattle.vq_model.specs.declared.script.Script.{Script}
use Rattle.vq_model.specs.Lowering.{plan_of}
use Rattle.vq_model.specs.LoweredPlans.{IsPlan}
use Rattle.vq_model.specs.Plan.{Plan}
use Rattle.vq_ground.specs.Lists.{has}
use Rattle.vq_model.specs.WellFormed.{IsWellFormed}
use Rattle.vq_plan_laws.proofs.Cited.{plan_well_formed}
use Rattle.vq_spec.specs.declared.lowering.Tables.{Tables}
use Rattle.vq_spec.specs.PlanTables.{KeepsPlan}
use Rattle.vq_spec.proofs.KeptTables.{is_plan}
use Rattle.vq_spec.proofs.SlowRuns.{command_within}

-- some indices that follow one another, all of them among the numbers
module _ (numbers indices : List ℕ) (first count : ℕ)
    (all : numbers ≡ range_with_len 0 (length numbers)) (are : indices ≡ range_with_len first count)
    (some : 0 < count) (within : (n : ℕ) → has indices n ≡ true → n < length numbers) where
  last_is_one : has indices (first + (count - 1)) ≡ true
  last_is_one =
      let l : count - 1 < length (range_with_len first count) = omega (arith, length-range_with_len first count) in
      ap (λ xs. has xs (first + (count - 1))) are
      ∙ (ap (has (range_with_len first count)) (sym (get_or-range_with_len first count (count - 1) 0 (omega arith)))
      ∙ has_at (range_with_len first count) (count - 1) l)

  pub ends_within : first + count ≤ length numbers
  ends_within = let l = within (first + (count - 1)) last_is_one in omega arith

  pub part_is : take count (drop first numbers) ≡ indices
  part_is =
      let rest = length-drop first numbers in
      let own = length-range_with_len first count in
      let long : count ≤ length (drop first numbers) = omega (arith, ends_within) in
      let cut = length-take-le count (drop first numbers) long in
      same_lists _ _ (cut ∙ sym own) (λ k d l.
      let inside : k < count = omega arith in
      get_or-take count (drop first numbers) k d inside
      ∙ (get_or-drop first numbers k d
      ∙ (ap (λ xs. get_or xs (first + k) d) all
      ∙ (get_or-range_with_len 0 (length numbers) (first + k) d (omega (arith, ends_within))
      ∙ (zero-add (first + k)
      ∙ sym (get_or-range_with_len first count k d inside)))))) ∙ sym are

-- what a job has is among the numbers
module _ (s : Script) (t : Tables) (k : KeepsPlan s t) (p : Plan) (is : plan_of s ≡ p) (j : ℕ)
    (job : PlanJob) (at : slice_get p.jobs j ≡ Some job) where
  whole : IsWellFormed p
  whole = plan_well_formed p (subst IsPlan is (is_plan s t k))

  pub commands_within : (n : ℕ) → has job.commands n ≡ true → n < length t.numbers.items
  commands_within n h =
      let own = ap (λ o. option_map_or (λ y. y.commands) o []) at in
      let found = whole.fits n j (ap (λ cs. has cs n) own ∙ h) in
      let inside = command_within p.commands n found.0 found.1 in
      let many = k.numbered_commands in
      omega (arith, ap (λ (q : Plan). length q.commands) is)

  pub signals_within : (n : ℕ) → has job.signals n ≡ true → n < length t.numbers.items
  signals_within n h =
      let own = ap (λ o. option_map_or (λ y. y.signals) o []) at in
      let inside = op_exists p n j (whole.of_job n j (ap (λ es. has es n) own ∙ h)) in
      let many = k.numbered_ops in
      omega (arith, ap (λ (q : Plan). length q.ops) is)
