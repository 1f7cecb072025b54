use Rattle.std.proofs.Common.{rules, drop, ◌≡◌, ◌∙◌, ap, sym, length, map, subst, All, List, ℕ, ◌<◌, ◌^◌, arith}
use Rattle.std.specs.List.{enumerate_from}
use Rattle.vq_ground.proofs.Gets.{whole_new}
use Rattle.vq_model.specs.declared.plan.Op.{Op}
use Rattle.vq_model.specs.Lowering.{plan_of}
use Rattle.vq_spec.specs.declared.chains.Chain.{Chain}
use Rattle.vq_spec.specs.ChainParts.{placed, IsSearchable, AreSorted, AreChains}
use Rattle.vq_spec.specs.Waits.{AreWaits}
use Rattle.vq_spec.proofs.KeptTables.{lowered_jobs, lowered_commands, lowered_ops, lowered_counts, lowered_few, kept}
use Rattle.vq_spec.proofs.PlanChains.{unplaced_ops, are_chains, searchable, placed_ops, unplaced_exist}
use Rattle.vq_spec.proofs.lowering.Tables.of.Goals as goal

pub overflow_cast-len : goal.overflow_cast-len
overflow_cast-len c = omega (
  arith,
  lowered_few c.args.script.now c.in_ok-jobs.field-0 (c.in_ok-jobs.ensures {u = tt})
      c.requires.read,
  c.len.ensures,
  c.in_ok-jobs.signals.ops.ok.0,
)

pub lower_chains-requires-clause-few : goal.lower_chains-requires-clause-few
lower_chains-requires-clause-few c = omega (
  arith,
  lowered_few c.args.script.now c.in_ok-jobs.field-0 (c.in_ok-jobs.ensures {u = tt})
      c.requires.read,
  ap length c.as_slice.ensures.value,
)

pub lower_chains-requires-clause-exist : goal.lower_chains-requires-clause-exist
lower_chains-requires-clause-exist c =
    let s = c.args.script.now in
    let counts : length c.as_slice-2.result.now ≡ length s.semaphores =
    ap length c.as_slice-2.ensures.value
    ∙ lowered_counts s c.in_ok-jobs.field-0 (c.in_ok-jobs.ensures {u = tt}) in
    let ops : c.as_slice.result.now ≡ unplaced_ops s = c.as_slice.ensures.value
    ∙ lowered_ops s c.in_ok-jobs.field-0 (c.in_ok-jobs.ensures {u = tt}) in
    subst (λ (z : List Op × ℕ). All (λ o. o.chain < z.1) z.0)
    (λ i. (sym ops i, sym counts i)) (unplaced_exist s c.requires.read)

pub place_ops-requires-clause-few : goal.place_ops-requires-clause-few
place_ops-requires-clause-few c = omega (
  arith,
  lowered_few c.args.script.now c.in_ok-jobs.field-0 (c.in_ok-jobs.ensures {u = tt})
      c.requires.read,
  ap length c.as_mut_slice.ensures.value,
)

pub place_ops-requires-clause-exist : goal.place_ops-requires-clause-exist
place_ops-requires-clause-exist c =
    let s = c.args.script.now in
    let counts : length c.as_slice-2.result.now ≡ length s.semaphores =
    ap length c.as_slice-2.ensures.value
    ∙ lowered_counts s c.in_ok-jobs.field-0 (c.in_ok-jobs.ensures {u = tt}) in
    let ops : c.as_mut_slice.result.now ≡ unplaced_ops s = c.as_mut_slice.ensures.value
    ∙ lowered_ops s c.in_ok-jobs.field-0 (c.in_ok-jobs.ensures {u = tt}) in
    let sorted = c.in_ok-chains.ensures {u = tt} in
    let count : length c.as_slice-3.result.now ≡ length s.semaphores = ap length
    c.as_slice-3.ensures.value ∙ (sorted.number ∙ counts) in
    subst (λ (z : List Op × ℕ). All (λ o. o.chain < z.1) z.0) (λ i. (sym ops i, sym count i))
    (unplaced_exist s c.requires.read)

pub place_ops-requires-clause-searchable : goal.place_ops-requires-clause-searchable
place_ops-requires-clause-searchable c =
    let few : length c.as_slice.result.now < 2 ^ 32 = omega (
      arith,
      lowered_few c.args.script.now c.in_ok-jobs.field-0 (c.in_ok-jobs.ensures {u = tt})
          c.requires.read,
      ap length c.as_slice.ensures.value,
    ) in
    subst (λ (cs : List Chain). All IsSearchable cs) (sym c.as_slice-3.ensures.value)
    (searchable c.as_slice.result.now _ c.in_ok-chains.chains.items few
    (c.in_ok-chains.ensures {u = tt}))

pub lower_waits-requires-clause-parts : goal.lower_waits-requires-clause-parts
lower_waits-requires-clause-parts c =
    let s = c.args.script.now in
    let chains = c.in_ok-chains.chains.items in
    let counts : length c.as_slice-2.result.now ≡ length s.semaphores =
    ap length c.as_slice-2.ensures.value
    ∙ lowered_counts s c.in_ok-jobs.field-0 (c.in_ok-jobs.ensures {u = tt}) in
    let lowered = lowered_ops s c.in_ok-jobs.field-0 (c.in_ok-jobs.ensures {u = tt}) in
    let ops : c.as_slice.result.now ≡ unplaced_ops s = c.as_slice.ensures.value ∙ lowered in
    let now : c.as_mut_slice.result.now ≡ unplaced_ops s = c.as_mut_slice.ensures.value ∙ lowered in
    let are = are_chains s c.requires.read c.as_slice.result.now ops chains
    (subst (λ (n : ℕ). AreSorted c.as_slice.result.now n chains)
    counts (c.in_ok-chains.ensures {u = tt})) in
    let old = c.in_ok-jobs.field-0.signals.ops in
    let new = c.place_ops.new.ops in
    let size : length new ≡ old.len = search rules in
    let whole = whole_new old.len new (drop (length new) old.items) size in
    record {
      read = c.requires.read;
      ops = c.as_slice-4.ensures.value
          ∙ (whole ∙ (c.place_ops.ensures
          ∙ ((λ i. map (placed (c.as_slice-3.ensures.value i)) (enumerate_from 0 (now i)))
          ∙ placed_ops s c.requires.read chains are)));
      chains = subst (AreChains s) (sym c.as_slice-5.ensures.value) are;
    }

pub returns : goal.returns
returns c =
    let s = c.args.script.now in
    let chains = c.in_ok-chains.chains.items in
    let counts : length c.as_slice-2.result.now ≡ length s.semaphores =
    ap length c.as_slice-2.ensures.value
    ∙ lowered_counts s c.in_ok-jobs.field-0 (c.in_ok-jobs.ensures {u = tt}) in
    let lowered = lowered_ops s c.in_ok-jobs.field-0 (c.in_ok-jobs.ensures {u = tt}) in
    let ops : c.as_slice.result.now ≡ unplaced_ops s = c.as_slice.ensures.value ∙ lowered in
    let now : c.as_mut_slice.result.now ≡ unplaced_ops s = c.as_mut_slice.ensures.value ∙ lowered in
    let are = are_chains s c.requires.read c.as_slice.result.now ops chains
    (subst (λ (n : ℕ). AreSorted c.as_slice.result.now n chains)
    counts (c.in_ok-chains.ensures {u = tt})) in
    let jobs = lowered_jobs s c.in_ok-jobs.field-0 (c.in_ok-jobs.ensures {u = tt}) in
    let old = c.in_ok-jobs.field-0.signals.ops in
    let new = c.place_ops.new.ops in
    let size : length new ≡ old.len = search rules in
    let whole = whole_new old.len new (drop (length new) old.items) size in
    kept s c.requires.read c.requires.faultless _ jobs
    (subst (λ (n : ℕ). AreWaits (plan_of s) n c.in_ok-waits.waits) (ap length c.as_slice-6.ensures.value)
    (c.in_ok-waits.ensures {u = tt}))
    (c.in_ok-lower_owners.ensures {u = tt})
    _ (c.in_ok-numbers.ensures {u = tt})
    (omega (
      arith,
      lowered_commands s c.in_ok-jobs.field-0 (c.in_ok-jobs.ensures {u = tt}),
      c.in_ok-jobs.commands-is,
      c.max.ensures,
    ))
    (omega (arith, ap length whole, c.in_ok-jobs.signals.ops.ok.0, c.len.ensures, c.max.ensures))
    (whole ∙ (c.place_ops.ensures
    ∙ ((λ i. map (placed (c.as_slice-3.ensures.value i)) (enumerate_from 0 (now i)))
    ∙ placed_ops s c.requires.read chains are))) are
