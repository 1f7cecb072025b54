-- Jobs on the board: what each pass knows exactly of its own. This project's own.
use Rattle.std.specs.Prelude.{ℕ, Bool, true, false, List, [], ◌≡◌, ◌<◌}
use Rattle.std.specs.Prelude.{◌≤◌, Option, Some, None, length, take, drop}
use Rattle.vq_model.specs.Plan.{Plan, commands_of, signals_of, job_of, is_batch, is_host_step}
use Rattle.vq_ground.specs.Lists.{has}
use Rattle.vq_model.specs.Edges.{At}
use Rattle.vq_model.specs.Machine.{are_reached}
use Rattle.vq_board_laws.specs.declared.view.View.{View}
use Rattle.vq_board_laws.specs.Roles.{runner, submitter}
use Rattle.vq_board_laws.specs.Words.{payload_of}
use Rattle.vq_board_laws.specs.Knowledge.{Each}

-- The jobs that a role runs: the pass of the role knows which have begun, and which commands and
-- signals of the job that it runs are made.
pub record OwnJobs (p : Plan) (job : ℕ → ℕ) (made : ℕ → Bool) (log : List ℕ) (role : ℕ)
    (begun : List ℕ) (runs : Option ℕ) (entered signaled : ℕ) : Type 0 where
  pub begun_all : (j : ℕ) → runner p j ≡ role → 2 < job j → has begun j ≡ true
  pub runs_one : (j : ℕ) → runs ≡ Some j → (runner p j ≡ role) × (job j ≡ 3) × (j < length p.jobs)
  pub entered_commands : (j c : ℕ) → runs ≡ Some j → has (take entered (commands_of p j)) c ≡ true →
      has log c ≡ true
  pub later_commands : (j c : ℕ) → runs ≡ Some j → has (drop entered (commands_of p j)) c ≡ true →
      has log c ≡ false
  pub made_signals : (j e : ℕ) → runs ≡ Some j → has (take signaled (signals_of p j)) e ≡ true →
      made e ≡ true
  pub later_signals : (j e : ℕ) → runs ≡ Some j → has (drop signaled (signals_of p j)) e ≡ true →
      made e ≡ false

-- The batches that the host submitted, and those that a role released.
pub record OwnPhases (p : Plan) (job : ℕ → ℕ) (role : ℕ) (submitted released : List ℕ) : Type 0 where
  pub submitted_all : role ≡ 0 → (j : ℕ) → is_batch p j ≡ true → 0 < job j →
      has submitted j ≡ true
  pub released_all : (j : ℕ) → is_batch p j ≡ true → submitter p j ≡ role → 1 < job j →
      has released j ≡ true

-- What a pass of the role has of jobs; nothing, where the role isn't given out yet.
abbrev pub OwnsJobs : Plan → (ℕ → ℕ) → (ℕ → Bool) → List ℕ → View → Type 0
OwnsJobs p job made log v =
    OwnJobs p job made log v.role v.begun v.runs v.entered v.signaled
    × OwnPhases p job v.role v.submitted v.released

abbrev pub OwnsNoJobs : Plan → (ℕ → ℕ) → (ℕ → Bool) → List ℕ → ℕ → Type 0
OwnsNoJobs p job made log role =
    OwnJobs p job made log role [] None 0 0 × OwnPhases p job role [] []

pub record Jobs (p : Plan) (job : ℕ → ℕ) (made : ℕ → Bool) (log : List ℕ) (views : List View)
    : Type 0 where
  pub own : Each (λ i v. OwnsJobs p job made log v) views
  pub absent : (role : ℕ) → length views ≤ role → OwnsNoJobs p job made log role
  -- the host steps before a submitted batch are finished
  pub waited : (i j : ℕ) → is_batch p j ≡ true → 0 < job j → i < j → is_host_step p i ≡ true →
      3 < job i
  -- the host's steps run one after another
  pub lane : (i j : ℕ) → is_host_step p i ≡ true → is_host_step p j ≡ true → i < j → 2 < job j →
      3 < job i
  pub ranged : (j : ℕ) → job j ≤ 4
  -- what is applied or made is of a job that has begun
  pub applied_begun : (c : ℕ) → has log c ≡ true →
      (j : ℕ) × (has (commands_of p j) c ≡ true) × (2 < job j)
  pub made_begun : (e j : ℕ) → made e ≡ true → job_of p e ≡ Some j → 2 < job j
  -- what holds back the start of a job that has begun is reached
  pub reached : (j : ℕ) → 2 < job j → are_reached p (payload_of p made) j (At 1) ≡ true
