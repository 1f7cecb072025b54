-- What comes out of the table of a board that is closed.
use Rattle.std.proofs.Common.{◌≡◌, ℕ, List, length, map, subst}
use mathlib.Core.Option.{some}
use lib.ListN.{get_elem?}
use Rattle.atomic_table.specs.Table.{Final, Seen}
use Rattle.vq_model.specs.Checks.{IsLawful}
use Rattle.vq_model.specs.LoweredPlans.{IsPlan}
use Rattle.vq_model.specs.Plan.{Plan}
use Rattle.vq_model.specs.SlowRun.{final}
use Rattle.vq_model.specs.ProgressRuns.{HasOneResult}
use Rattle.vq_model.specs.ValidScripts.{sizes_of}
use Rattle.vq_run_laws.specs.RunFacts.{RunsGiveOutputs}
use Rattle.vq_board_laws.specs.declared.view.LoggedBuffers.{LoggedBuffers}
use Rattle.vq_board_laws.specs.declared.view.View.{View}
use Rattle.vq_board_laws.specs.Ends.{KnowsAllFinished, IsFoldOfRun, IsToldOutput}
use Rattle.vq_board_laws.specs.Rule.{Kept}
use Rattle.vq_board_laws.proofs.Cited.{ends_whole}

-- the table and the seat are those of the board and of the host's pass
pub closed_ends : ((p : Plan) → IsPlan p → IsLawful p → HasOneResult p) → ((p : Plan) → IsPlan p → IsLawful p → RunsGiveOutputs p) → (p q : Plan) (i j : ℕ) (v w : View) (ws : List ℕ) (xs : List LoggedBuffers) (y : LoggedBuffers)
    → q ≡ p → j ≡ i → w ≡ v → v.role ≡ 0 → KnowsAllFinished p v → Final (Seen (Kept q) j w) ws xs → get_elem? xs 0 ≡ some y
    → IsFoldOfRun p v.told y.buffers × (y.buffers ≡ final p) × IsToldOutput p v.told y.buffers × (map length y.buffers ≡ sizes_of p.script)
closed_ends one outputs p q i j v w ws xs y plan seat view host all values took =
    ends_whole one outputs p i v ws xs y host all (subst (λ (t : Plan × ℕ × View). Final (Seen (Kept t.0) t.1 t.2) ws xs) (λ k. (plan k, seat k, view k)) values) took
