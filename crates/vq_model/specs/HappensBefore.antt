-- Happens-before, the order that a plan puts on its jobs and on places in them.
-- Vulkan 1.3, "Execution and Memory Dependencies", "Semaphores".
use Rattle.std.specs.Prelude.{ℕ, ◌==◌, nat_lt, Bool, ◌≡◌, true}
use Rattle.std.specs.List.{position_or_len}
use Rattle.vq_model.specs.Plan.{Plan}
use Rattle.vq_ground.specs.Lists.{has}
use Rattle.vq_model.specs.SlowRun.{slow_order}
use Rattle.vq_model.specs.Edges.{Stage, edges_at, AtEnd, stage_of}

-- Whether one job stands earlier in the slow run than another. It is asked only of plans in which
-- the slow run does each job: elsewhere a job that is left over stands behind all that are done.
abbrev pub comes_earlier : Plan → ℕ → ℕ → Bool
comes_earlier p i j =
    nat_lt (position_or_len (λ k. k == i) (slow_order p))
    (position_or_len (λ k. k == j) (slow_order p))

-- an edge to a place of a job that agrees with the slow run
pub record IsHop (p : Plan) (i j : ℕ) (k : Stage) : Type 0 where
  pub edge : has (edges_at p j k) i ≡ true
  pub earlier : comes_earlier p i j ≡ true

-- A job happens before a place of another: a path of such edges leads to it, the last one to that
-- place, the others to the ends of jobs. So what passes through a job has waited for all its needs.
pub data HappensBeforeAt (p : Plan) (i : ℕ) : ℕ → Stage → Type 0 where
  one : {j : ℕ} {k : Stage} → IsHop p i j k → HappensBeforeAt p i j k
  more : {h j : ℕ} {k : Stage} → HappensBeforeAt p i h AtEnd → IsHop p h j k →
      HappensBeforeAt p i j k

-- One job happens before another: before its end, and so before its signals and its finish. Its
-- first commands may come before.
abbrev pub HappensBefore : Plan → ℕ → ℕ → Type 0
HappensBefore p i j = HappensBeforeAt p i j AtEnd

-- the commands of a job happen before a command of another
abbrev pub HappensBeforeCommand : Plan → ℕ → ℕ → ℕ → Type 0
HappensBeforeCommand p i j d = HappensBeforeAt p i j (stage_of p j d)
