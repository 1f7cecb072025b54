-- The values of a plan's operations, and the initial values of its chains, are of 64 bits.
use Rattle.std.proofs.Common.{◌≡◌, ℕ, ◌<◌, ◌^◌, ◌+◌, Bool, true, false, if◌then◌else◌, length, take, Option, Some, None, option_map}
use Rattle.std.proofs.Common.{refl, sym, subst, ap, arith, count_by, []}
use Rattle.std.specs.List.{slice_get}
use Rattle.std.specs.Option.{option_map_or}
use Rattle.std.proofs.lemmas.List.Sums.{count_by-le-length}
use Rattle.std.proofs.lemmas.List.{length-take}
use Rattle.vq_model.specs.declared.script.Semaphore.{Semaphore}
use Rattle.vq_model.specs.declared.script.SemaphoreKind.{SemaphoreKind}
use Rattle.vq_model.specs.declared.script.SemaphoreKind.TheVariants.{Timeline, Binary, Fence}
use Rattle.vq_model.specs.Lowering.{plan_of}
use Rattle.vq_model.specs.LoweredPlans.{IsPlan}
use Rattle.vq_model.specs.Plan.{Plan, value, initial}
use Rattle.vq_model.specs.Signals.{Signaling, all_signals, initial_value, is_timeline_at, signals_semaphore, value_at}
use Rattle.vq_ground.proofs.Gets.{get-map}
use Rattle.vq_canonical_laws.specs.FormatRules.{HasValue}
use Rattle.vq_canonical_laws.proofs.Cited.{read_values}
use Rattle.vq_plan_laws.proofs.Cited.{count_ops, no_value, op_value_is, plan_lanes, value_is}
use Rattle.vq_trace_laws.proofs.SaidWords.{HasSmallValues}

kind_small : (kind : SemaphoreKind) → HasValue kind → initial_value kind < 2 ^ 64
kind_small (Timeline v) h = h
kind_small Binary h = omega arith
kind_small Fence h = omega arith

module _ (p : Plan) (is : IsPlan p) where
  few_signals : length (all_signals p.script) < 2 ^ 32
  few_signals =
      let few = (plan_lanes p is).few_ops in
      let same : length p.ops ≡ length (plan_of p.script).ops = ap (λ (q : Plan). length q.ops) is.lowered in
      let count = count_ops p.script in
      omega arith

  op_small : (e : ℕ) → value (plan_of p.script) e < 2 ^ 64
  op_small e =
      subst (λ (v : ℕ). v < 2 ^ 64) (sym (op_value_is p.script e)) (by_signal (slice_get (all_signals p.script) e) refl)
    where
      by_kind : (x : Signaling) → x.value < 2 ^ 64 → (b : Bool) →
          (if b then x.value else count_by (signals_semaphore x.semaphore) (take e (all_signals p.script)) + 1) < 2 ^ 64
      by_kind x l true = l
      by_kind x l false =
          let few = few_signals in
          let most = count_by-le-length (signals_semaphore x.semaphore) (take e (all_signals p.script)) in
          let part = length-take e (all_signals p.script) in
          omega arith

      by_signal : (o : Option Signaling) → slice_get (all_signals p.script) e ≡ o → value_at p.script e < 2 ^ 64
      by_signal None at =
          subst (λ (o : Option ℕ). option_map_or (λ v. v) o 0 < 2 ^ 64)
          (sym (no_value p.script [] (all_signals p.script) e at)) (omega arith)
      by_signal (Some x) at =
          subst (λ (v : ℕ). v < 2 ^ 64) (sym (value_is p.script e x at))
          (by_kind x ((read_values p.script is.of_script).signals e x at) (is_timeline_at p.script x.semaphore))

  initial_small : (t : ℕ) → initial (plan_of p.script) t < 2 ^ 64
  initial_small t =
      subst (λ (o : Option ℕ). option_map_or (λ v. v) o 0 < 2 ^ 64)
      (sym (get-map (λ (x : Semaphore). initial_value x.kind) p.script.semaphores t))
      (by_semaphore (slice_get p.script.semaphores t) refl)
    where
      by_semaphore : (o : Option Semaphore) → slice_get p.script.semaphores t ≡ o →
          option_map_or (λ v. v) (option_map (λ x. initial_value x.kind) o) 0 < 2 ^ 64
      by_semaphore None at = omega arith
      by_semaphore (Some x) at = kind_small x.kind ((read_values p.script is.of_script).kinds t x at)

  -- The values of a plan of a script that was read are of 64 bits.
  pub plan_values : HasSmallValues p
  plan_values =
      record {
        ops = λ e. subst (λ (q : Plan). value q e < 2 ^ 64) (sym is.lowered) (op_small e);
        initials = λ t. subst (λ (q : Plan). initial q t < 2 ^ 64) (sym is.lowered) (initial_small t);
      }
