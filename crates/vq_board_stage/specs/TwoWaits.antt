-- The plan of the test of a batch with two waits: the host signals two timelines, and the batch waits
-- for both.
use Rattle.std.specs.Prelude.{ℕ, List, [], ◌∷◌, ◌≡◌, Some, None, length}
use Rattle.vq_model.specs.Plan.{Plan, previous, needs, resolver}
use Rattle.vq_model.specs.declared.plan.Need.{Need}
use Rattle.vq_board_laws.specs.declared.view.Fact.TheVariants.{Made}
use Rattle.vq_board_laws.specs.declared.view.Reference.{Reference}
use Rattle.vq_board_laws.specs.declared.view.Role.TheVariants.{Host}
use Rattle.vq_board_laws.specs.Knowledge.{Knows}
use Rattle.vq_board.specs.declared.parts.Board.{Board}
use Rattle.vq_board.specs.declared.parts.Pass.{Pass}
use Rattle.vq_board.specs.Named.{view, IsOf}
use Rattle.vq_board_stage.specs.Holders.{HasReferences}
use Rattle.vq_board_stage.specs.HostSteps.{HasSignal, AreSingle}
use Rattle.vq_board_stage.specs.ThreeSignals.{HasBatch}

-- the job has two waits, which the operations 0 and 1 resolve
pub record WaitsForBoth (p : Plan) (j : ℕ) : Type 0 where
  pub first : Need
  pub second : Need
  pub both : needs p j ≡ first ∷ second ∷ []
  pub by_first : resolver p first.chain first.value ≡ Some 0
  pub by_second : resolver p second.chain second.value ≡ Some 1

pub record IsOfTwoWaits (p : Plan) : Type 0 where
  pub count : length p.jobs ≡ 3
  pub first : HasSignal p 0 0
  pub second : HasSignal p 1 1
  pub batch : HasBatch p 2 0 Host [] []
  pub begins : previous p 2 ≡ None
  pub waits : WaitsForBoth p 2
  pub single : AreSingle p

-- the first queue's ring has started nothing, and holds these references
pub record IsToStart (b : Board) (x : Pass) (references : List Reference) : Type 0 where
  pub holds : HasReferences b x 0 references
  pub idle : (view x).runs ≡ None
  pub unbegun : (view x).begun ≡ []
  pub turnless : (view x).held ≡ None

-- the pass runs the batch, which has nothing to make, knows both signals made, and holds these
-- references
pub record RunsBatch (b : Board) (x : Pass) (references : List Reference) : Type 0 where
  pub board : IsOf b x
  pub runs : (view x).runs ≡ Some 2
  pub entered : (view x).entered ≡ 0
  pub signaled : (view x).signaled ≡ 0
  pub turnless : (view x).held ≡ None
  pub refs : (view x).refs ≡ references
  pub first_made : Knows (view x).known (Made 0)
  pub second_made : Knows (view x).known (Made 1)
