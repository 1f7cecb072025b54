-- What happens before what, what is sure, and the faults of a plan, of one version and of another.
use Rattle.std.proofs.Common.{◌≡◌, ℕ, true, not, List, [], length, subst}
use Rattle.std.specs.Prelude.{filter, if◌then◌else◌}
use Rattle.std.specs.List.{list_any, range_with_len}
use Rattle.vq_model.specs.Checks.{IsLeast, IsLeastPair, IsUnreachableAt, AreNeighbours, IsNextSignal, IsUnordered, too_low, equal, unsure, unsure_back, unawaited, IsEffectiveReset, IsFenceBusyAt, IsNotPendingAt, IsRaceAt, NoLine, NoLines, IsLawful, IsFirstPlanFault}
use Rattle.vq_model.specs.declared.plan.OrderFault.{OrderFault}
use Rattle.vq_model.specs.declared.plan.OrderFault.TheVariants.{Unreachable, Unordered, FenceBusy, NotPending, Race, Memory}
use Rattle.vq_model.specs.declared.script.Script.{Script}
use Rattle.vq_model.specs.Edges.{Stage}
use Rattle.vq_model.specs.HappensBefore.{IsHop, HappensBeforeAt, one, more}
use Rattle.vq_model.specs.Machine.{is_reached}
use Rattle.vq_model.specs.Plan.{Plan, needs, waits_for_any}
use Rattle.vq_ground.specs.Lists.{has}
use Rattle.vq_model.specs.Races.{IsRace}
use Rattle.vq_model.specs.Sure.{IsSureAt, finished_first, waited_for, passed_on}
use Rattle.vq_model.specs.SlowRun.{left_over, payload_after}
use Rattle.vq_upgrade_laws.proofs.SameRuns.{same_earlier, same_slow}
use Rattle.vq_upgrade_laws.specs.Upgrades.{of_version, plan_of_version}

-- Order

same_hop : (v w : ℕ) (p : Plan) (i j : ℕ) (k : Stage) → IsHop (plan_of_version v p) i j k → IsHop (plan_of_version w p) i j k
same_hop v w p i j k h = record { edge = h.edge; earlier = same_earlier v w p i j h.earlier }

pub same_before : (v w : ℕ) (p : Plan) (i j : ℕ) (k : Stage) → HappensBeforeAt (plan_of_version v p) i j k → HappensBeforeAt (plan_of_version w p) i j k
same_before v w p i j k (one h) = one (same_hop v w p i j k h)
same_before v w p i j k (more {h = m} b h) = more (same_before v w p i m _ b) (same_hop v w p m j k h)

pub same_sure : (v w : ℕ) (p : Plan) (e j : ℕ) (k : Stage) → IsSureAt (plan_of_version v p) e j k → IsSureAt (plan_of_version w p) e j k
same_sure v w p e j k (finished_first f) = finished_first (record { job = f.job; of_job = f.of_job; first = f.first; earlier = same_earlier v w p f.job j f.earlier })
same_sure v w p e j k (waited_for f) =
    waited_for (record { job = f.job; of_job = f.of_job; by_op = f.by_op; same_job = f.same_job; at_or_later = f.at_or_later; waits = f.waits; earlier = same_earlier v w p f.job j f.earlier })
same_sure v w p e j k (passed_on {i = i} s h) = passed_on (same_sure v w p e i _ s) (same_hop v w p i j k h)

-- Rows of faults

same_left : (v w : ℕ) (p : Plan) (P : List ℕ → Type 0) → P (left_over (plan_of_version v p)) → P (left_over (plan_of_version w p))
same_left v w p P h =
    subst (λ (order : List ℕ). P (filter (λ j. not (has order j)) (range_with_len 0 (length p.jobs)))) (same_slow v w p) h

same_unreachable : (v w : ℕ) (p : Plan) (n : ℕ) → IsUnreachableAt (plan_of_version v p) n → IsUnreachableAt (plan_of_version w p) n
same_unreachable v w p n u =
    record {
      job = u.job;
      left = same_left v w p (λ js. has js u.job ≡ true) u.left;
      need = u.need;
      place = u.place;
      of_job = u.of_job;
      unreached =
          subst (λ (order : List ℕ). (if waits_for_any p u.job then not (list_any (is_reached (payload_after p order)) (needs p u.job))
          else not (is_reached (payload_after p order) u.need)) ≡ true) (same_slow v w p) u.unreached;
      named = u.named;
    }

same_neighbours : (v w : ℕ) (p : Plan) (t e f : ℕ) → AreNeighbours (plan_of_version v p) t e f → AreNeighbours (plan_of_version w p) t e f
same_neighbours v w p t e f n = record { place = n.place; first = n.first; second = n.second }

same_next : (v w : ℕ) (p : Plan) (t line e : ℕ) → IsNextSignal (plan_of_version v p) t line e → IsNextSignal (plan_of_version w p) t line e
same_next v w p t line e n = record { in_chain = n.in_chain; later = n.later; first = n.first }

same_unordered : (v w : ℕ) (p : Plan) (a b : ℕ) → IsUnordered (plan_of_version v p) a b → IsUnordered (plan_of_version w p) a b
same_unordered v w p a b (too_low t e timeline in_chain low) = too_low t e timeline in_chain low
same_unordered v w p a b (equal t e f timeline n same) = equal t e f timeline (same_neighbours v w p t e f n) same
same_unordered v w p a b (unsure t e f j timeline n of_job not order) =
    unsure t e f j timeline (same_neighbours v w p t e f n) of_job (λ s. not (same_sure w v p e j _ s)) order
same_unordered v w p a b (unsure_back t e f j timeline n of_job not order) =
    unsure_back t e f j timeline (same_neighbours v w p t e f n) of_job (λ s. not (same_sure w v p e j _ s)) order
same_unordered v w p a b (unawaited n e i j place of_job binary next of_op other not) =
    unawaited n e i j place of_job binary (same_next v w p n.chain n.line e next) of_op other (λ h. not (same_before w v p i j _ h))

same_effective : (v w : ℕ) (s : Script) (fence naming job : ℕ) → IsEffectiveReset (of_version v s) fence naming job → IsEffectiveReset (of_version w s) fence naming job
same_effective v w s fence naming job r = record { earlier = r.earlier; names = r.names; resets = r.resets; between = r.between }

same_busy : (v w : ℕ) (p : Plan) (n : ℕ) → IsFenceBusyAt (plan_of_version v p) n → IsFenceBusyAt (plan_of_version w p) n
same_busy v w p n b =
    record {
      job = b.job;
      fence = b.fence;
      naming = b.naming;
      effective = same_effective v w p.script b.fence b.naming b.job b.effective;
      op = b.op;
      in_chain = b.in_chain;
      of_job = b.of_job;
      unsure = λ s. b.unsure (same_sure w v p b.op b.job _ s);
      named = b.named;
    }

same_late : (v w : ℕ) (p : Plan) (n : ℕ) → IsNotPendingAt (plan_of_version v p) n → IsNotPendingAt (plan_of_version w p) n
same_late v w p n l =
    record {
      job = l.job;
      immediate = l.immediate;
      need = l.need;
      place = l.place;
      of_job = l.of_job;
      above = l.above;
      op = l.op;
      resolver = l.resolver;
      signaler = l.signaler;
      of_op = l.of_op;
      late = l.late;
      unsure = λ h m is s. l.unsure h m is (same_sure w v p l.op h _ s);
      named = l.named;
    }

same_race : (v w : ℕ) (p : Plan) (a b : ℕ) → IsRaceAt (plan_of_version v p) a b → IsRaceAt (plan_of_version w p) a b
same_race v w p a b r =
    record {
      first = r.first;
      second = r.second;
      race = race r.race;
      in_order = r.in_order;
      first_line = r.first_line;
      second_line = r.second_line;
    }
  where
    race : IsRace (plan_of_version v p) r.first r.second → IsRace (plan_of_version w p) r.first r.second
    race x =
        record {
          first_job = x.first_job;
          second_job = x.second_job;
          first = x.first;
          second = x.second;
          two_jobs = x.two_jobs;
          conflict = x.conflict;
          unordered = λ h. x.unordered (same_before w v p x.first_job x.second_job _ h);
          unordered_back = λ h. x.unordered_back (same_before w v p x.second_job x.first_job _ h);
        }

-- Lawful plans, and the first fault

same_lines : {P Q : ℕ → ℕ → Type 0} → ((a b : ℕ) → Q a b → P a b) → NoLines P → NoLines Q
same_lines back none a b q = none a b (back a b q)

same_line : {P Q : ℕ → Type 0} → ((n : ℕ) → Q n → P n) → NoLine P → NoLine Q
same_line back none n q = none n (back n q)

pub same_lawful : (v w : ℕ) (p : Plan) → IsLawful (plan_of_version v p) → IsLawful (plan_of_version w p)
same_lawful v w p l =
    record {
      reachable = same_left v w p (λ js. js ≡ []) l.reachable;
      ordered = same_lines (same_unordered w v p) l.ordered;
      resettable = same_line (same_busy w v p) l.resettable;
      pending = same_line (same_late w v p) l.pending;
      race_free = same_lines (same_race w v p) l.race_free;
    }

same_least : {P Q : ℕ → Type 0} → ((n : ℕ) → P n → Q n) → ((n : ℕ) → Q n → P n) → (n : ℕ) → IsLeast P n → IsLeast Q n
same_least on back n l = record { holds = on n l.holds; least = λ m q. l.least m (back m q) }

same_least_pair : {P Q : ℕ → ℕ → Type 0} → ((a b : ℕ) → P a b → Q a b) → ((a b : ℕ) → Q a b → P a b) → (a b : ℕ) → IsLeastPair P a b → IsLeastPair Q a b
same_least_pair on back a b l = record { holds = on a b l.holds; least = λ c d q. l.least c d (back c d q) }

pub same_fault : (v w : ℕ) (p : Plan) (fault : OrderFault) → IsFirstPlanFault (plan_of_version v p) fault → IsFirstPlanFault (plan_of_version w p) fault
same_fault v w p (Unreachable n) f = same_least (same_unreachable v w p) (same_unreachable w v p) n f
same_fault v w p (Unordered a b) f = (same_left v w p (λ js. js ≡ []) f.0, same_least_pair (same_unordered v w p) (same_unordered w v p) a b f.1)
same_fault v w p (FenceBusy n) f =
    (same_left v w p (λ js. js ≡ []) f.0, same_lines (same_unordered w v p) f.1, same_least (same_busy v w p) (same_busy w v p) n f.2)
same_fault v w p (NotPending n) f =
    (same_left v w p (λ js. js ≡ []) f.0, same_lines (same_unordered w v p) f.1, same_line (same_busy w v p) f.2, same_least (same_late v w p) (same_late w v p) n f.3)
same_fault v w p (Race a b) f = (
  same_left v w p (λ js. js ≡ []) f.0,
  same_lines (same_unordered w v p) f.1,
  same_line (same_busy w v p) f.2,
  same_line (same_late w v p) f.3,
  same_least_pair (same_race v w p) (same_race w v p) a b f.4,
)
same_fault v w p Memory f = absurd f
