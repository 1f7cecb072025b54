-- A lawful plan has a sure order: by the rows of faults its commands are ordered and its timelines
-- rise, and binary semaphores and fences rise by the refusals.
use Rattle.std.proofs.Common.{◌≡◌, ℕ, Bool, true, false, None, refl, [], sym, subst}
use Rattle.vq_model.specs.Plan.{chain, initial, Plan}
use Rattle.vq_model.specs.SureOrder.{RisesFrom}
use Rattle.vq_model.specs.SureOrder.{HasSureOrder}
use Rattle.vq_model.specs.declared.script.Script.{Script}
use Rattle.vq_model.specs.Signals.{is_timeline_at}
use Rattle.vq_model.specs.Lowering.{plan_of}
use Rattle.vq_model.specs.LoweringFaults.{lowering_fault}
use Rattle.vq_model.specs.LoweredPlans.{IsPlan}
use Rattle.vq_model.specs.ValidScripts.{IsValid, HasValidBatches, HasValidSteps, HasRisingLines}
use Rattle.vq_model.specs.Checks.{IsLawful, IsUnordered, IsFenceBusyAt, NoLine, NoLines, is_timeline_chain}
use Rattle.vq_plan_laws.proofs.Cited.{well_formed}
use Rattle.vq_order_laws.proofs.RowLaws.{rows_order_commands, rows_order_timelines}
use Rattle.vq_order_laws.proofs.ResetChains.{counted_rises}
use Rattle.vq_model.specs.SlowRun.{left_over}
use Rattle.vq_reading_laws.proofs.Cited.{read_valid, read_batches, read_steps, read_lines_rise}

module _ (s : Script) (v : IsValid s) (bs : HasValidBatches s) (hs : HasValidSteps s)
    (r : HasRisingLines s) (faultless : lowering_fault s ≡ None) where
  pub script_has_sure_order : IsLawful (plan_of s) → HasSureOrder (plan_of s)
  script_has_sure_order l =
      record {
        reachable = l.reachable;
        chains = λ t. by_kind t (is_timeline_at s t) refl;
        no_race = rows_order_commands (plan_of s) l.race_free;
      }
    where
      by_kind : (t : ℕ) (b : Bool) → is_timeline_at s t ≡ b →
          RisesFrom (plan_of s) (initial (plan_of s) t) (chain (plan_of s) t)
      by_kind t true e = rows_order_timelines (plan_of s) (well_formed s v) l.ordered t e
      by_kind t false e = counted_rises s v bs hs r faultless l.reachable l.ordered l.resettable t e

module _ (p : Plan) (i : IsPlan p) where
  pub plan_chains : left_over p ≡ [] → NoLines (IsUnordered p) → NoLine (IsFenceBusyAt p) → (t : ℕ) →
      is_timeline_chain p t ≡ false → RisesFrom p (initial p t) (chain p t)
  plan_chains =
      subst
      (λ (q : Plan). left_over q ≡ [] → NoLines (IsUnordered q) → NoLine (IsFenceBusyAt q) → (t : ℕ) →
      is_timeline_chain q t ≡ false → RisesFrom q (initial q t) (chain q t)) (sym i.lowered)
      (counted_rises p.script (read_valid p.script i.of_script) (read_batches p.script i.of_script)
      (read_steps p.script i.of_script) (read_lines_rise p.script i.of_script) i.faultless)

  pub plan_has_sure_order : IsLawful p → HasSureOrder p
  plan_has_sure_order =
      subst (λ (q : Plan). IsLawful q → HasSureOrder q) (sym i.lowered)
      (script_has_sure_order p.script (read_valid p.script i.of_script)
      (read_batches p.script i.of_script) (read_steps p.script i.of_script)
      (read_lines_rise p.script i.of_script) i.faultless)
