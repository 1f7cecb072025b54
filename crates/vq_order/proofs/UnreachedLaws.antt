-- The least line of an unreached need is that of the search.
use Rattle.std.proofs.Common.{◌≡◌, ℕ, ◌<◌, true, false, not, nat_le, List, [], ◌∷◌, length, get_or, All, Some, None, refl, sym, ap, ◌∙◌, inl, inr, subst, arith}
use Rattle.std.specs.List.{list_any, slice_get, range_with_len}
use Rattle.std.specs.Option.{option_map_or}
use Rattle.std.proofs.lemmas.Bool.{cond-true}
use Rattle.vq_model.specs.declared.plan.Need.{Need}
use Rattle.vq_model.specs.declared.plan.PlanJob.{PlanJob}
use Rattle.vq_model.specs.Checks.{IsLeast, NoLine, is_unreached, IsUnreachableAt}
use Rattle.vq_model.specs.LoweredPlans.{IsPlan}
use Rattle.vq_model.specs.Machine.{is_reached}
use Rattle.vq_model.specs.Plan.{Plan, needs, waits_for_any}
use Rattle.vq_ground.specs.Lists.{has}
use Rattle.vq_model.specs.SlowRun.{left_over, payload_after, slow_order}
use Rattle.vq_model.specs.WellFormed.{IsWellFormed}
use Rattle.vq_ground.proofs.Lists.{has_here}
use Rattle.vq_ground.proofs.Filters.{filter-has_cases}
use Rattle.vq_ground.proofs.Gets.{get_within, has_at}
use Rattle.vq_ground.proofs.Numbers.{has-range_cases}
use Rattle.vq_order_laws.proofs.Cited.{left_unreachable}
use Rattle.vq_spec.specs.SlowProgress.{payload_in, ArePayloads}
use Rattle.vq_spec.proofs.Cited.{same_any, own_needs, chains_exist}
use Rattle.vq_order.specs.declared.lines.Lines.{Lines}
use Rattle.vq_order.specs.LeastLines.{AreLeastOrNone, IsOfFirst}
use Rattle.vq_order.specs.Unreached.{IsUnreachedAt, IsUnreachedIn}
use Rattle.vq_clocks.proofs.Cited.{at_place, place_within}
use Rattle.vq_ground.proofs.Positions.{place}

to_unreachable : (p : Plan) (a b : ℕ) → IsOfFirst (IsUnreachedAt p) (length (left_over p)) a b → IsUnreachableAt p a × (a ≡ b)
to_unreachable p a b x =
    let at = x.holds.holds in (
      record {
        job = get_or (left_over p) x.number 0;
        left = has_at (left_over p) x.number x.below;
        need = at.need;
        place = x.holds.number;
        of_job = at.of_job;
        unreached = at.holds.unreached;
        named = at.holds.first;
      },
      at.holds.first ∙ sym at.holds.second,
    )

from_unreachable : (p : Plan) (n : ℕ) → IsUnreachableAt p n → IsOfFirst (IsUnreachedAt p) (length (left_over p)) n n
from_unreachable p n u =
    let l = place_within (left_over p) u.job u.left in
    record {
      number = place (left_over p) u.job;
      below = l;
      holds =
          subst (λ (j : ℕ). IsUnreachedIn p j n n) (sym (at_place (left_over p) u.job l)) (record {
            number = u.place;
            below = get_within (needs p u.job) u.place u.need u.of_job;
            holds = record { need = u.need; of_job = u.of_job; holds = record { unreached = u.unreached; first = u.named; second = u.named } };
          });
    }

pub least_line : (p : Plan) (x : Lines) → AreLeastOrNone (IsOfFirst (IsUnreachedAt p) (length (left_over p))) (Some x) → IsLeast (IsUnreachableAt p) x.first
least_line p x k =
    let here = to_unreachable p x.first x.second k.holds in
    let same = here.1 in
    record {
      holds = here.0;
      least = λ m u. elim (k.least m m (from_unreachable p m u)) [ inl l ↦ (omega arith) | inr e ↦ e.1 ];
    }

pub no_line : (p : Plan) → AreLeastOrNone (IsOfFirst (IsUnreachedAt p) (length (left_over p))) None → NoLine (IsUnreachableAt p)
no_line p k n u = k n n (from_unreachable p n u)

-- a job that is left exists
pub left_exists : (p : Plan) (j : ℕ) → has (left_over p) j ≡ true → j < length p.jobs
left_exists p j h = let l = (has-range_cases (length p.jobs) 0 j (filter-has_cases (λ i. not (has (slow_order p) i)) (range_with_len 0 (length p.jobs)) j h).0).1 in omega arith

-- where no line is unreachable no job is left
pub none_left : (p : Plan) → IsWellFormed p → NoLine (IsUnreachableAt p) → left_over p ≡ []
none_left p w none = by_list (left_over p) refl
  where
    by_list : (xs : List ℕ) → left_over p ≡ xs → left_over p ≡ []
    by_list [] e = e
    by_list (x ∷ xs) e =
        let u = left_unreachable p w x (ap (λ ys. has ys x) e ∙ has_here x xs) in
        absurd (none u.0 u.1)

-- The needs of a job by their places

pub chain_at : (bound : ℕ) (items ns : List Need) → items ≡ ns → All (λ n. n.chain < bound) ns → (i : ℕ) (d : Need) → i < length items → (get_or items i d).chain < bound
chain_at bound items ns e a i d l = subst (λ (xs : List Need). i < length xs → (get_or xs i d).chain < bound) (sym e) (λ h. a i d h) l

-- of a wait for any the whole step is unreached where no need is reached
pub any_unreached : (p : Plan) → IsPlan p → (j : ℕ) (job : PlanJob) → slice_get p.jobs j ≡ Some job → job.any ≡ true → (payloads : List ℕ) →
    ArePayloads p (slow_order p) payloads → (need : Need) → not (list_any (is_reached (payload_in payloads)) job.needs) ≡ is_unreached p j need
any_unreached p plan j job at any payloads m need =
    ap not (same_any (is_reached (payload_in payloads)) (is_reached (payload_after p (slow_order p))) (λ n. n.chain < length p.script.semaphores) job.needs (chains_exist p plan j job at) (λ n l. ap (λ v. nat_le n.value v) (m.each n.chain l)))
    ∙ (ap (λ ns. not (list_any (is_reached (payload_after p (slow_order p))) ns)) (sym (own_needs p plan j job at))
    ∙ sym (cond-true (waits_for_any p j) (not (list_any (is_reached (payload_after p (slow_order p))) (needs p j))) (not (is_reached (payload_after p (slow_order p)) need)) waits))
  where
    waits : waits_for_any p j ≡ true
    waits = ap (λ o. option_map_or (λ x. x.any) o false) at ∙ any
