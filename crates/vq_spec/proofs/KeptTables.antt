-- All that is kept of a plan.
use Rattle.std.proofs.Common.{◌≡◌, ℕ, ◌<◌, ◌≤◌, ◌^◌, length, map, get_or, zero-add, List, [], None, refl, sym, ap, ◌∙◌, arith, subst}
use Rattle.std.specs.List.{enumerate_from, range_with_len, flat_map}
use Rattle.std.proofs.lemmas.List.FromFn.{length-map-range_with_len, length-range_with_len, get_or-map-range_with_len}
use Rattle.vq_model.specs.declared.script.Script.{Script}
use Rattle.vq_model.specs.Edges.{AtEnd, awaited_at}
use Rattle.vq_model.specs.EdgeReasons.{edges_to}
use Rattle.vq_model.specs.Lowering.{batch_commands, plan_of, plan_job}
use Rattle.vq_model.specs.LoweringFaults.{lowering_fault}
use Rattle.vq_model.specs.LoweredPlans.{IsPlan}
use Rattle.vq_model.specs.Plan.{Plan}
use Rattle.vq_model.specs.SameScript.{IsRead}
use Rattle.vq_model.specs.Signals.{job_signals, all_signals, chain_ops}
use Rattle.vq_model.specs.Limits.{limits_of}
use Rattle.vq_reading_laws.proofs.Cited.{read_valid}
use Rattle.vq_spec.specs.declared.lowering.Lowered.{Lowered}
use Rattle.vq_spec.specs.declared.lowering.Tables.{Tables}
use Rattle.vq_spec.specs.ChainParts.{AreChains}
use Rattle.vq_spec.specs.Counts.{AreLowered, first_ops, unplaced}
use Rattle.vq_spec.specs.Waits.{AreWaits}
use Rattle.vq_spec.specs.PlanTables.{KeepsPlan}
use Rattle.vq_spec.specs.Owners.{HasOwners}
use Rattle.vq_spec.proofs.Lowered.{few_jobs, few_commands, plan_length}
use Rattle.vq_spec.proofs.PlanChains.{unplaced_ops}
use Rattle.vq_spec.proofs.Ranges.{take_all}
use Rattle.vq_spec.proofs.SignalOrder.{counts_length, few_signals}
use Rattle.vq_plan_laws.proofs.Cited.{count_ops}

-- Where all jobs are lowered

module _ (s : Script) (x : Lowered) (k : AreLowered s (length s.jobs) x) where
  pub lowered_jobs : x.jobs.items ≡ (plan_of s).jobs
  lowered_jobs = k.jobs ∙ ap (λ jobs. map (plan_job s) (enumerate_from 0 jobs)) (take_all s.jobs)

  pub lowered_commands : x.commands ≡ length (plan_of s).commands
  lowered_commands = k.commands ∙ ap (λ jobs. length (flat_map batch_commands jobs)) (take_all s.jobs)

  all_counted : length x.signals.ops.items ≡ length (all_signals s)
  all_counted = k.operations
      ∙ ap (λ jobs. length (flat_map job_signals
      (enumerate_from 0 jobs))) (take_all s.jobs)

  pub lowered_ops : x.signals.ops.items ≡ unplaced_ops s
  lowered_ops = k.signals.ops
      ∙ (ap (first_ops s) all_counted
      ∙ ap (λ xs. map (unplaced s) (enumerate_from 0 xs))
      (take_all (all_signals s)))

  pub lowered_counts : length x.signals.counts.items ≡ length s.semaphores
  lowered_counts = counts_length s x.signals k.signals

  pub lowered_few : IsRead s → length x.signals.ops.items < 2 ^ 32
  lowered_few i = let n = all_counted in let m = few_signals s i in omega arith

-- Tables

pub chain_count : (s : Script) → length (plan_of s).chains ≡ length s.semaphores
chain_count s = length-map-range_with_len (chain_ops s) 0 (length s.semaphores)

few_chains : (s : Script) → IsRead s → length s.semaphores ≤ (limits_of s.version).semaphores
few_chains s i = (read_valid s i).limits.semaphores

pub kept : (s : Script) → IsRead s → lowering_fault s ≡ None → (t : Tables) →
    t.jobs.items ≡ (plan_of s).jobs →
    AreWaits (plan_of s) (length t.jobs.items) t.waits →
    HasOwners (plan_of s) t.owners.items →
    (n : ℕ) → t.numbers.items ≡ range_with_len 0 n → length (plan_of s).commands ≤ n → length t.ops.items ≤ n →
    t.ops.items ≡ (plan_of s).ops → AreChains s t.chains.items → KeepsPlan s t
kept s i none t jobs waits owners n numbers more_commands more_ops ops chains =
    let numbered = ap length numbers ∙ length-range_with_len 0 n in
    let jobs_count = few_jobs s i in
    let commands_count = few_commands s i in
    let signals_count = few_signals s i in
    let chains_count = few_chains s i in
    let all_jobs = ap length jobs in
    let counted = plan_length s i in
    let all_owners = owners.count in
    let all_ops = ap length ops in
    let ops_counted = count_ops s in
    let all_chains = chains.number in
    record {
      script = i;
      faultless = none;
      jobs = jobs;
      waits = subst (λ n. AreWaits (plan_of s) n t.waits) (all_jobs ∙ counted) waits;
      owners = owners;
      numbers = numbers ∙ ap (range_with_len 0) (sym numbered);
      numbered_commands = omega arith;
      numbered_ops = omega arith;
      ops = ops;
      chains = chains;
      few_jobs = omega arith;
      few_commands = omega arith;
      few_ops = omega arith;
      few_chains = omega arith;
    }

-- what is kept is kept of a plan
pub is_plan : (s : Script) → (t : Tables) → KeepsPlan s t → IsPlan (plan_of s)
is_plan s t k = record { of_script = k.script; faultless = k.faultless; lowered = refl }

-- what is kept of one job
module _ (s : Script) (t : Tables) (k : KeepsPlan s t) (p : Plan) (is : plan_of s ≡ p) (j : ℕ)
    (exists : j < length p.jobs) where
  inside : j < length s.jobs
  inside = omega (arith, plan_length s k.script, ap (λ (x : Plan). length x.jobs) is, exists)

  -- a row of a table that has one for each job
  within : (f : ℕ → List ℕ) (rows : List (List ℕ)) → rows ≡ map f (range_with_len 0 (length s.jobs)) → j < length rows
  within f rows all = omega (arith, ap length all, length-map-range_with_len f 0 (length s.jobs), inside)

  read : (f : ℕ → List ℕ) (rows : List (List ℕ)) → rows ≡ map f (range_with_len 0 (length s.jobs)) →
      get_or rows j [] ≡ f j
  read f rows all = ap (λ xs. get_or xs j []) all
      ∙ get_or-map-range_with_len f 0 (length s.jobs) j j [] inside (zero-add j)

  pub awaited_within : j < length t.waits.awaited
  awaited_within = within (λ i. awaited_at (plan_of s) i AtEnd) t.waits.awaited k.waits.awaited

  pub edges_within : j < length t.waits.edges
  edges_within = within (edges_to (plan_of s)) t.waits.edges k.waits.edges

  pub awaited_read : get_or t.waits.awaited j [] ≡ awaited_at p j AtEnd
  awaited_read = read (λ i. awaited_at (plan_of s) i AtEnd) t.waits.awaited k.waits.awaited
      ∙ ap (λ x. awaited_at x j AtEnd) is

  pub edges_read : get_or t.waits.edges j [] ≡ edges_to p j
  edges_read = read (edges_to (plan_of s)) t.waits.edges k.waits.edges ∙ ap (λ x. edges_to x j) is
