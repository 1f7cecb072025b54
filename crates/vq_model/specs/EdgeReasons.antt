-- Edges of a plan by their reasons, and plans in which no wait is held. This project's own.
use Rattle.std.specs.Prelude.{ℕ, List, ◌==◌, nat_le, Bool, ◌≡◌, true, ◌<◌, false, Some}
use Rattle.std.specs.List.{list_all, slice_get}
use Rattle.vq_model.specs.declared.plan.Need.{Need}
use Rattle.vq_model.specs.Plan.{Plan, previous, host_before, idle_after, needs, waits_for_any, initial, resolver, job_of}
use Rattle.vq_ground.specs.Lists.{has}
use Rattle.vq_model.specs.Edges.{At, AtEnd, Stage, edges_at}

-- whether all needs of a job hold back its start
abbrev pub waits_at_start : Plan → ℕ → Bool
waits_at_start p j = list_all (λ n. n.from == 1) (needs p j)

-- a plan in which no wait holds back a part of a job only
abbrev pub HasNoHeldWait : Plan → Type 0
HasNoHeldWait p = (j : ℕ) → waits_at_start p j ≡ true

-- the jobs with an edge to a job
abbrev pub edges_to : Plan → ℕ → List ℕ
edges_to p j = edges_at p j AtEnd

-- whether a need holds back a place of its job
abbrev pub holds_back : Need → Stage → Bool
holds_back n (At k) = nat_le n.from k
holds_back n AtEnd = true

-- There is an edge from a job to a place of another for four reasons: it is the one before in the
-- lane; it is the last host step before a batch; it signals what resolves a need at the place,
-- above the initial value; an idle step waits for it.
pub data EdgeAt (p : Plan) (i j : ℕ) (k : Stage) : Type 0 where
  by_lane : previous p j ≡ Some i → EdgeAt p i j k
  by_host : host_before p j ≡ Some i → EdgeAt p i j k
  by_need : (n : Need) (place e : ℕ) → waits_for_any p j ≡ false →
      slice_get (needs p j) place ≡ Some n → holds_back n k ≡ true → initial p n.chain < n.value →
      resolver p n.chain n.value ≡ Some e → job_of p e ≡ Some i → EdgeAt p i j k
  by_idle : has (idle_after p j) i ≡ true → EdgeAt p i j k
