-- What the rings know of the needs of their batches.
use Rattle.std.proofs.Common.{◌≡◌, ℕ, nat_le, List, [], ◌∷◌, Some, sym, subst, inr, leb-true}
use Rattle.std.specs.Prelude.{All}
use Rattle.std.proofs.lemmas.List.Elements.{All-cons, All-nil}
use Rattle.vq_ground.proofs.Searches.{find_member, find_passes}
use Rattle.vq_model.specs.Edges.{Stage}
use Rattle.vq_model.specs.Plan.{Plan, chain, value}
use Rattle.vq_model.specs.declared.plan.Need.{Need}
use Rattle.vq_board_laws.specs.declared.view.Fact.{Fact}
use Rattle.vq_board_laws.specs.declared.view.View.{View}
use Rattle.vq_board_laws.specs.Knowledge.{Knows, KnowsMade}
use Rattle.vq_board_laws.specs.May.{KnowsReached, KnowsNeeds}
use Rattle.vq_board_laws.proofs.Cited.{needs_each, needs_still}
use Rattle.vq_board_example.specs.FillAndCopy.{HasJobs}

-- where the signal is known made, the needs of the batch that waits for it are known reached
pub needed : (p : Plan) (known : List Fact) → HasJobs p → KnowsMade p known 0 → (k : Stage) → KnowsNeeds p known 1 k
needed p known jobs made k =
    let w = jobs.waits in
    let test = λ (f : ℕ). nat_le w.need.value (value p f) in
    let reached : KnowsReached p known w.need =
    inr record {
      op = 0;
      in_chain = find_member test (chain p w.need.chain) 0 w.resolves;
      reaches = leb-true w.need.value (value p 0) (find_passes test (chain p w.need.chain) 0 w.resolves);
      made = made;
    } in
    let P = KnowsReached p known in
    needs_each p known 1 k jobs.copy.any (subst (λ (ns : List Need). All P ns) (sym w.alone) (All-cons P w.need [] reached (All-nil P)))

-- and they are so after one fact more
pub still_needed : (p : Plan) (v w : View) (f : Fact) (j : ℕ) (k : Stage) → w.known ≡ f ∷ v.known → KnowsNeeds p v.known j k → KnowsNeeds p w.known j k
still_needed p v w f j k is h = needs_still p v.known w.known (λ g known. subst (λ (fs : List Fact). Knows fs g) (sym is) (inr known)) j k h
