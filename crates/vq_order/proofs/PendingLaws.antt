-- Waits of immediate batches whose signals may come late, found by the needs of each batch.
use Rattle.std.proofs.Common.{◌≡◌, ◌↔◌, IsTrue, ℕ, ◌<◌, Bool, true, false, length, Some, None, sym, ◌∙◌, inl, inr, subst, arith}
use Rattle.std.proofs.lemmas.Bool.{false≢true}
use Rattle.vq_model.specs.Checks.{IsLeast, IsNotPendingAt, NoLine, is_immediate_batch}
use Rattle.vq_model.specs.LoweredPlans.{IsPlan}
use Rattle.vq_model.specs.Plan.{Plan, host_before, needs}
use Rattle.vq_model.specs.Sure.{IsSure}
use Rattle.vq_ground.proofs.Gets.{get_within}
use Rattle.vq_model.proofs.Plans.{immediate_batch}
use Rattle.vq_order_laws.proofs.Cited.{sure_for_last}
use Rattle.vq_plan_laws.proofs.Cited.{plan_hosts}
use Rattle.vq_order.specs.declared.lines.Lines.{Lines}
use Rattle.vq_order.specs.LeastLines.{AreLeastOrNone, IsOfFirst}
use Rattle.vq_order.specs.Pending.{IsAheadIn, IsSureBefore}
use Rattle.vq_clocks.specs.VectorClocks.{IsComplete}
use Rattle.vq_order.proofs.UnorderedLaws.{waiter_exists}

module _ (p : Plan) (c : IsComplete p) (op j : ℕ) (exists : j < length p.jobs)
    (immediate : is_immediate_batch p j ≡ true) where
  -- what is sure for a host step before a batch is sure for the last one
  last_sure : IsSureBefore p op j → (h : ℕ) × (host_before p j ≡ Some h) × IsSure p op h
  last_sure x =
      sure_for_last p c.plan c.reachable op x.step j exists (immediate_batch p j immediate) x.before
      x.is_host x.sure

  pub sure_by_last : (h : ℕ) → host_before p j ≡ Some h → (b : Bool) → IsTrue b ↔ IsSure p op h →
      IsTrue b ↔ IsSureBefore p op j
  sure_by_last h e b is =
      let at = (plan_hosts p c.plan).before_batch h j e in (
        λ t. record { step = h; before = at.0; is_host = at.1; sure = is.0 t },
        λ x.
            let last = last_sure x in
            let same : last.0 ≡ h = (let d : Some last.0 ≡ Some h = sym last.1 ∙ e in cc) in
            is.1 (subst (IsSure p op) same last.2),
      )

  pub sure_of_none : host_before p j ≡ None → IsTrue false ↔ IsSureBefore p op j
  sure_of_none e = (
    λ t. absurd (false≢true t),
    λ x. let last = last_sure x in absurd (let d : None ≡ Some last.0 = sym e ∙ last.1 in cc),
  )

-- the last host step before a batch exists
pub step_here : (p : Plan) → IsPlan p → (j h : ℕ) → j < length p.jobs → host_before p j ≡ Some h →
    h < length p.jobs
step_here p i j h l e = let at = (plan_hosts p i).before_batch h j e in let m = at.0 in omega arith

-- The search over all jobs

module _ (p : Plan) where
  to_fault : (a b : ℕ) → IsOfFirst (IsAheadIn p) (length p.jobs) a b → IsNotPendingAt p a × (a ≡ b)
  to_fault a b x =
      let at = x.holds.1.holds in (
        record {
          job = x.number;
          immediate = x.holds.0;
          need = at.need;
          place = x.holds.1.number;
          of_job = at.of_job;
          above = at.holds.above;
          op = at.holds.op;
          resolver = at.holds.resolved_by;
          signaler = at.holds.late.signaler;
          of_op = at.holds.late.of_op;
          late = at.holds.late.late;
          unsure = λ h l s sure. at.holds.late.unsure
              (record { step = h; before = l; is_host = s; sure = sure });
          named = at.holds.first;
        },
        at.holds.first ∙ sym at.holds.second,
      )

  from_fault : (n : ℕ) → IsNotPendingAt p n → IsOfFirst (IsAheadIn p) (length p.jobs) n n
  from_fault n x =
      record {
        number = x.job;
        below = waiter_exists p x.job x.place x.need x.of_job;
        holds = (
          x.immediate,
          record {
            number = x.place;
            below = get_within (needs p x.job) x.place x.need x.of_job;
            holds = record {
              need = x.need;
              of_job = x.of_job;
              holds = record {
                above = x.above;
                op = x.op;
                resolved_by = x.resolver;
                late = record {
                  signaler = x.signaler;
                  of_op = x.of_op;
                  late = x.late;
                  unsure = λ s. x.unsure s.step s.before s.is_host s.sure;
                };
                first = x.named;
                second = x.named;
              };
            };
          },
        );
      }

  pub fault_least : (x : Lines) → AreLeastOrNone (IsOfFirst (IsAheadIn p) (length p.jobs)) (Some x) →
      IsLeast (IsNotPendingAt p) x.first
  fault_least x k =
      let here = to_fault x.first x.second k.holds in
      let same = here.1 in
      record {
        holds = here.0;
        least = λ m u. elim (k.least m m (from_fault m u)) [ inl l ↦ (omega arith) | inr e ↦ e.1 ];
      }

  pub fault_none : AreLeastOrNone (IsOfFirst (IsAheadIn p) (length p.jobs)) None →
      NoLine (IsNotPendingAt p)
  fault_none k n u = k n n (from_fault n u)
