-- The version of lines, and its limits.
use Rattle.std.proofs.Common.{◌≡◌, ℕ, Bool, true, false, cond, List, [], ◌∷◌, ◌==◌, ◌≤◌, ◌<◌, ◌^◌, refl, arith}
use Rattle.vq_model.specs.declared.statement.Line.{Line}
use Rattle.vq_model.specs.declared.statement.Statement.{Statement}
use Rattle.vq_model.specs.declared.limits.Limits.{Limits}
use Rattle.vq_model.specs.Context.{version_of}
use Rattle.vq_model.specs.Limits.{limits_of}
use Rattle.vq_model.specs.Reading.{with_line}

-- the limits of the version of lines
abbrev pub most_before : List Line → Limits
most_before before = limits_of (version_of before)

-- A line behind a line leaves the version as it is.
pub version_push : (first : Line) (lines : List Line) (n : ℕ) (s : Statement) →
    version_of (with_line (first ∷ lines) n s) ≡ version_of (first ∷ lines)
version_push first lines n s = refl

-- So lines that are of the first version with a line more are so without it: no lines are of the first
-- version, and a first line alone may name another.
pub first_stays : (before : List Line) (n : ℕ) (s : Statement) →
    version_of (with_line before n s) ≡ 1 → version_of before ≡ 1
first_stays [] n s h = refl
first_stays (first ∷ lines) n s h = h

-- no version has fewer queues or jobs than the first
fewest_queues : (version : ℕ) → (limits_of 1).queues ≤ (limits_of version).queues
fewest_queues version = by_test (version == 2)
  where
    by_test : (b : Bool) → (limits_of 1).queues ≤ cond b (limits_of 2).queues (limits_of 1).queues
    by_test true = omega arith
    by_test false = omega arith

fewest_jobs : (version : ℕ) → (limits_of 1).jobs ≤ (limits_of version).jobs
fewest_jobs version = by_test (version == 2)
  where
    by_test : (b : Bool) → (limits_of 1).jobs ≤ cond b (limits_of 2).jobs (limits_of 1).jobs
    by_test true = omega arith
    by_test false = omega arith

-- With a line more the limits are no lesser: a first line may bring a version of greater ones.
pub queues_grow : (before : List Line) (n : ℕ) (s : Statement) →
    (most_before before).queues ≤ (most_before (with_line before n s)).queues
queues_grow [] n s = fewest_queues (version_of (with_line [] n s))
queues_grow (first ∷ lines) n s = omega arith

pub jobs_grow : (before : List Line) (n : ℕ) (s : Statement) →
    (most_before before).jobs ≤ (most_before (with_line before n s)).jobs
jobs_grow [] n s = fewest_jobs (version_of (with_line [] n s))
jobs_grow (first ∷ lines) n s = omega arith

-- No version has more queues or jobs than the second.
pub most_queues : (version : ℕ) → (limits_of version).queues ≤ (limits_of 2).queues
most_queues version = by_test (version == 2)
  where
    by_test : (b : Bool) → cond b (limits_of 2).queues (limits_of 1).queues ≤ (limits_of 2).queues
    by_test true = omega arith
    by_test false = omega arith

pub most_jobs : (version : ℕ) → (limits_of version).jobs ≤ (limits_of 2).jobs
most_jobs version = by_test (version == 2)
  where
    by_test : (b : Bool) → cond b (limits_of 2).jobs (limits_of 1).jobs ≤ (limits_of 2).jobs
    by_test true = omega arith
    by_test false = omega arith

-- So they can be counted in 16 bits.
pub queues_fit : (version : ℕ) → (limits_of version).queues < 2 ^ 16
queues_fit version = let most = most_queues version in omega arith

pub jobs_fit : (version : ℕ) → (limits_of version).jobs < 2 ^ 16
jobs_fit version = let most = most_jobs version in omega arith
