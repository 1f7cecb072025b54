-- What a pass knows and has done where it may make a step on a point or an operation. This project's
-- own; what a signal comes after is in Vulkan 1.3, "Semaphore Signaling".
use Rattle.std.specs.Prelude.{ℕ, ◌≡◌, ◌<◌, Some, true, false, length}
use Rattle.std.specs.List.{slice_get}
use Rattle.vq_model.specs.declared.plan.Lane.{Lane}
use Rattle.vq_model.specs.Edges.{AtEnd}
use Rattle.vq_model.specs.Plan.{Plan, chain, job_of, commands_of, signals_of, is_host_step}
use Rattle.vq_ground.specs.Lists.{has}
use Rattle.vq_board_laws.specs.declared.view.View.{View}
use Rattle.vq_board_laws.specs.declared.view.JobState.TheVariants.{Released, Started}
use Rattle.vq_board_laws.specs.Knowledge.{KnowsMade, KnowsSoFar}
use Rattle.vq_board_laws.specs.May.{KnowsNeeds}
use Rattle.vq_board_laws.specs.Points.{reference, Lists, IsOfShelf}
use Rattle.vq_board_laws.specs.Roles.{role_number, runner_of, share_of}

-- an operation stands before another in its chain
pub record IsSmaller (p : Plan) (f e : ℕ) : Type 0 where
  pub of_chain : ℕ
  pub first : ℕ
  pub second : ℕ
  pub smaller : slice_get (chain p of_chain) first ≡ Some f
  pub greater : slice_get (chain p of_chain) second ≡ Some e
  pub order : first < second

-- the pass may make a point: it made fewer than its chain has operations
abbrev pub MayMake : Plan → View → Type 0
MayMake p v = length v.owned < share_of p v.role

-- the shelf's pass may give its point to the operation: the point carries none, and the operation has
-- had none
pub record MayAssign (p : Plan) (v : View) (q e : ℕ) : Type 0 where
  pub owned : has v.owned q ≡ true
  pub shelf : IsOfShelf p e v.role
  pub free : (f : ℕ) → ¬ Lists v.carrying (reference q f)
  pub pointless : (r : ℕ) → ¬ Lists v.carrying (reference r e)
  pub unbound : has v.bound e ≡ false

-- the shelf's pass may bind the operation to the point that carries it: all smaller ones of the chain
-- are bound, and its job is known released or further, or started if it is a host step
pub record MayBind (p : Plan) (v : View) (e q : ℕ) : Type 0 where
  pub carries : Lists v.carrying (reference q e)
  pub unbound : has v.bound e ≡ false
  pub smaller : (f : ℕ) → IsSmaller p f e → has v.bound f ≡ true
  pub released : (j : ℕ) → job_of p e ≡ Some j → is_host_step p j ≡ false →
      KnowsSoFar v.known j Released
  pub started : (j : ℕ) → job_of p e ≡ Some j → is_host_step p j ≡ true →
      KnowsSoFar v.known j Started

-- the pass may signal the operation: it runs its job, all commands of the job are made, this is the
-- job's next signal, and the job's needs are known reached
pub record MaySignal (p : Plan) (v : View) (e : ℕ) : Type 0 where
  pub job : ℕ
  pub runs : v.runs ≡ Some job
  pub commands : v.entered ≡ length (commands_of p job)
  pub next : slice_get (signals_of p job) v.signaled ≡ Some e
  pub reached : KnowsNeeds p v.known job AtEnd

-- the shelf's pass may complete the operation: it is the least pending one of the chain, and known
-- signaled
pub record MayComplete (p : Plan) (v : View) (e : ℕ) : Type 0 where
  pub shelf : IsOfShelf p e v.role
  pub bound : has v.bound e ≡ true
  pub pending : has v.past e ≡ false
  pub least : (f : ℕ) → IsSmaller p f e → has v.past f ≡ true
  pub signaled : KnowsMade p v.known e

-- the shelf's pass may free the point of the operation, which is past
pub record MayRetire (p : Plan) (v : View) (q e : ℕ) : Type 0 where
  pub carries : Lists v.carrying (reference q e)
  pub past : has v.past e ≡ true

-- the pass may take a reference more: it is one that runs jobs, and holds fewer than 16
pub record MayRefer (p : Plan) (v : View) : Type 0 where
  pub lane : Lane
  pub runner : role_number p (runner_of lane) ≡ v.role
  pub room : length v.refs < 16
