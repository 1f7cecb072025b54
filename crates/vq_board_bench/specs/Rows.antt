-- Batches in a row on one queue, and how far the passes are that take them all through one kind of step
-- after another. This project's own.
use Rattle.std.specs.Prelude.{ℕ, zero, suc, List, [], ◌∷◌, ◌+◌, ◌≡◌, ◌<◌, ◌≤◌}
use Rattle.std.specs.Prelude.{None, Some, true, false, length}
use Rattle.std.specs.List.{slice_get}
use Rattle.vq_model.specs.Plan.{Plan, previous, idle_after, needs, waits_for_any, commands_of, signals_of}
use Rattle.vq_model.specs.Plan.{is_batch, is_host_step, question, is_silent, chain, chain_of, job_of}
use Rattle.vq_model.specs.declared.plan.PlanJob.{PlanJob}
use Rattle.vq_model.specs.declared.plan.Lane.TheVariants.{Queue}
use Rattle.vq_board_laws.specs.declared.view.View.{View}
use Rattle.vq_board_laws.specs.declared.view.Fact.{Fact}
use Rattle.vq_board_laws.specs.declared.view.Fact.TheVariants.{Job, Taken}
use Rattle.vq_board_laws.specs.declared.view.JobState.TheVariants.{Submitted, Released, Finished}
use Rattle.vq_board_laws.specs.declared.view.Reference.{Reference}
use Rattle.vq_board_laws.specs.declared.view.Role.TheVariants.{Ring, Shelf}
use Rattle.vq_board_laws.specs.Knowledge.{Knows}
use Rattle.vq_board_laws.specs.Points.{reference, Lists}
use Rattle.vq_board_laws.specs.Roles.{runner, submitter, role_number}
use Rattle.vq_board.specs.declared.parts.Board.{Board}
use Rattle.vq_board.specs.declared.parts.Pass.{Pass}
use Rattle.vq_board.specs.Named.{plan_of, view, IsOf}
use Rattle.vq_board_bench.specs.Making.{HasShare}

-- The plan

-- the list is this number alone for one of the first n batches, and else empty
pub record IsOneOfFirst (list : List ℕ) (n j : ℕ) : Type 0 where
  pub one : j < n → list ≡ j ∷ []
  pub none : n ≤ j → list ≡ []

-- the job is a batch of the first queue behind the one before it; the first c batches have a command,
-- and the first s a signal, of their own number
pub record IsLink (x : PlanJob) (c s j : ℕ) : Type 0 where
  pub lane : x.lane ≡ Queue 0
  pub previous : (i : ℕ) → x.previous ≡ Some i → i + 1 ≡ j
  pub idle_after : x.idle_after ≡ []
  pub needs : x.needs ≡ []
  pub any : x.any ≡ false
  pub commands : IsOneOfFirst x.commands c j
  pub signals : IsOneOfFirst x.signals s j
  pub silent : is_silent x.question ≡ true

-- so is this job of the plan; the host releases it, and its signal is of the first chain
pub record IsLinked (p : Plan) (c s j : ℕ) : Type 0 where
  pub runner : runner p j ≡ role_number p (Ring 0)
  pub submitter : submitter p j ≡ 0
  pub batch : is_batch p j ≡ true
  pub step : is_host_step p j ≡ false
  pub previous : (i : ℕ) → previous p j ≡ Some i → i + 1 ≡ j
  pub idle_after : idle_after p j ≡ []
  pub needs : needs p j ≡ []
  pub any : waits_for_any p j ≡ false
  pub commands : IsOneOfFirst (commands_of p j) c j
  pub signals : IsOneOfFirst (signals_of p j) s j
  pub silent : is_silent (question p j) ≡ true
  pub chain : j < s → chain_of p j ≡ Some 0
  pub job : j < s → job_of p j ≡ Some j

-- so are the first n jobs
pub record IsRow (p : Plan) (n c s : ℕ) : Type 0 where
  pub jobs : n ≤ length p.jobs
  pub commands : c ≤ length p.commands
  pub ops : s ≤ length p.ops
  pub few : s ≤ n
  pub share : HasShare p 0 s
  pub linked : (j : ℕ) → j < n → IsLinked p c s j
  pub rising : (t i e : ℕ) → slice_get (chain p t) i ≡ Some e → e ≡ i

-- The passes

-- the numbers below this one, with the greatest first
abbrev pub below : ℕ → List ℕ
below zero = []
below (suc n) = n ∷ below n

-- point and operation of each of these numbers
abbrev pub pairs : ℕ → List Reference
pairs zero = []
pairs (suc n) = reference n n ∷ pairs n

-- the fact is known of each number below n
abbrev pub KnowsBelow : List Fact → (ℕ → Fact) → ℕ → Type 0
KnowsBelow known f n = (i : ℕ) → i < n → Knows known (f i)

abbrev pub is_submitted : ℕ → Fact
is_submitted j = Job j Submitted

abbrev pub is_released : ℕ → Fact
is_released j = Job j Released

abbrev pub is_finished : ℕ → Fact
is_finished j = Job j Finished

-- the host's pass has submitted the first n batches, found the first k operations taken, and released
-- the first m batches
pub record IsHost (v : View) (n k m : ℕ) : Type 0 where
  pub role : v.role ≡ 0
  pub submitted : v.submitted ≡ below n
  pub released : v.released ≡ below m
  pub knows : KnowsBelow v.known is_submitted n
  pub taken : KnowsBelow v.known Taken k

-- the shelf's pass has made the first n points, given the first k of them to the operations of the same
-- numbers, found the first l batches released, and bound the first m operations
pub record IsShelf (p : Plan) (v : View) (n k l m : ℕ) : Type 0 where
  pub role : v.role ≡ role_number p (Shelf 0)
  pub owned : v.owned ≡ below n
  pub carrying : v.carrying ≡ pairs k
  pub knows : KnowsBelow v.known is_released l
  pub bound : v.bound ≡ below m
  pub past : v.past ≡ []

-- it has bound the first n operations, found the first k batches finished, completed the first l
-- operations, and freed the first m points
pub record IsEnding (p : Plan) (v : View) (n k l m : ℕ) : Type 0 where
  pub role : v.role ≡ role_number p (Shelf 0)
  pub carrying : (i : ℕ) → m ≤ i → i < n → Lists v.carrying (reference i i)
  pub bound : v.bound ≡ below n
  pub knows : KnowsBelow v.known is_finished k
  pub past : v.past ≡ below l

-- the ring's pass has started the first n batches, and has neither the turn nor a reference
pub record IsRing (p : Plan) (v : View) (n : ℕ) : Type 0 where
  pub role : v.role ≡ role_number p (Ring 0)
  pub begun : v.begun ≡ below n
  pub turnless : v.held ≡ None
  pub without_reference : v.refs ≡ []

-- it runs none, and knows the last one finished
pub record IsBetween (p : Plan) (v : View) (n : ℕ) : Type 0 where
  pub ring : IsRing p v n
  pub idle : v.runs ≡ None
  pub last : (i : ℕ) → i + 1 ≡ n → Knows v.known (Job i Finished)

-- it runs this batch, with so many commands and signals made
pub record IsInside (p : Plan) (v : View) (j entered signaled : ℕ) : Type 0 where
  pub ring : IsRing p v (suc j)
  pub runs : v.runs ≡ Some j
  pub entered_all : v.entered ≡ entered
  pub signaled_all : v.signaled ≡ signaled

-- the passes of the host, the shelf and the ring before the first batch
pub record AreReady (b : Board) (host shelf ring : Pass) : Type 0 where
  pub host_of : IsOf b host
  pub shelf_of : IsOf b shelf
  pub ring_of : IsOf b ring
  pub hosting : IsHost (view host) 0 0 0
  pub shelving : IsShelf (plan_of b) (view shelf) 0 0 0 0
  pub between : IsBetween (plan_of b) (view ring) 0
