-- What the laws say of a course.
use Rattle.std.proofs.Common.{◌≡◌, ℕ, zero, suc, ◌<◌, Bool, List, length, Some, refl, sym, ◌∙◌, arith}
use Rattle.std.specs.Prelude.{nat_lt, count_by}
use Rattle.std.specs.List.{list_any}
use Rattle.std.proofs.lemmas.Bool.{lt-ltb, le-ltb}
use Rattle.vq_model.proofs.Plans.{op_within}
use Rattle.vq_history_laws.proofs.Cited.{counted_any, none_counted}
use Rattle.vq_core_laws.proofs.Cited.{Facts, facts, Keeps, keeps}
use Rattle.vq_core.specs.CoreState.{Course, world, IsCourse}

pub plan_facts : (s : Course) → IsCourse s → Facts s.plan
plan_facts s k = facts s.plan k.read k.lawful

pub world_keeps : (s : Course) → IsCourse s → Keeps s.plan (world s)
world_keeps s k = keeps s.plan (plan_facts s k) s.history k.history_from

-- something passes a test where more than none are counted
pub counts_any : {A : Type 0} (test : A → Bool) (xs : List A) → nat_lt 0 (count_by test xs) ≡ list_any test xs
counts_any test xs = by_count (count_by test xs) refl
  where
    by_count : (n : ℕ) → count_by test xs ≡ n → nat_lt 0 n ≡ list_any test xs
    by_count zero e = le-ltb 0 0 (omega arith) ∙ sym (none_counted test xs e)
    by_count (suc n) e = lt-ltb 0 (suc n) (omega arith) ∙ sym (counted_any test xs (omega arith))

-- what a point carries is an operation
pub carried_exists : (s : Course) → IsCourse s → (q e : ℕ) → (world s).carried q ≡ Some e → e < length s.plan.ops
carried_exists s k q e c = let t = (world_keeps s k).points.chain q e c in op_within s.plan e t.0 t.1
