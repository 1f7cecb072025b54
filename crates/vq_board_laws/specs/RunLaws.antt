-- What the laws on runs say of a plan, as far as the board's steps need it. This project's own.
use Rattle.std.specs.Prelude.{ℕ, List, ◌≡◌, ◌⊎◌, Some, true}
use native.Mathlib.Bridge.{le_prop}
use Rattle.std.proofs.Math.Bool.{Bool-set}
use Rattle.vq_model.specs.Machine.{Step, Run, state_after}
use Rattle.vq_model.specs.Plan.{Plan, job_of}
use Rattle.vq_model.specs.Sure.{IsSure}
use Rattle.vq_model.specs.Windows.{IsMadeWith}
use Rattle.vq_run_laws.specs.RunFacts.{MakesAsPayloadsSay}

-- In each state of a run, what is made with a made operation is made.
abbrev pub MakesTogether : Plan → Type 0
MakesTogether p =
    (steps : List Step) → Run p steps → (e f : ℕ) →
    (state_after p steps).progress.made e ≡ true → IsMadeWith p e f →
    (state_after p steps).progress.made f ≡ true

-- In each state of a run, of a finished job its own operations and those that are sure for it are
-- made.
abbrev pub MakesBeforeFinish : Plan → Type 0
MakesBeforeFinish p =
    (steps : List Step) → Run p steps → (e j : ℕ) →
    (state_after p steps).progress.finished j ≡ true → (job_of p e ≡ Some j) ⊎ IsSure p e j →
    (state_after p steps).progress.made e ≡ true

abbrev pub RunLaws : Plan → Type 0
RunLaws p = MakesAsPayloadsSay p × MakesTogether p × MakesBeforeFinish p

-- any two proofs of them are equal
pub run_laws_prop : (p : Plan) → IsProp (RunLaws p)
run_laws_prop p = Prim.hlevel (le_prop, Bool-set)
