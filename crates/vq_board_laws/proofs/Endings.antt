-- What the last state shows, where the pass knows every job finished.
use Rattle.std.proofs.Common.{◌≡◌, ℕ, ◌-◌, ◌<◌, ◌≤◌, ◌++◌, List, [], ◌∷◌, map, ap, sym, ◌∙◌, subst, arith, length}
use mathlib.Core.Option.{some, some-injective}
use mathlib.Core.Option as maybe
use mathlib.Core.Logic.{dite}
use native.Mathlib.Decide.{ℕ_discrete}
use lib.ListN.{get_elem?}
use Rattle.std.proofs.lemmas.Bool.{lt-ltb}
use Rattle.atomic_table.specs.Table.{State, Final, Seen}
use Rattle.vq_model.specs.Machine.{Progress, State as MachineState, AreFinished, IsFinished, state_after}
use Rattle.vq_model.specs.Memory.{Memory}
use Rattle.vq_model.specs.OutputText.{answer_text, buffers_text, lines_answered}
use Rattle.vq_model.specs.Outputs.{IsOutput}
use Rattle.vq_model.specs.Plan.{Plan}
use Rattle.vq_model.specs.SlowRun.{final, bytes_after}
use Rattle.vq_model.specs.ProgressRuns.{HasOneResult}
use Rattle.vq_model.specs.Checks.{IsLawful}
use Rattle.vq_model.specs.LoweredPlans.{IsPlan}
use Rattle.vq_model.specs.ValidScripts.{sizes_of}
use Rattle.vq_run_laws.specs.RunFacts.{RunsGiveOutputs}
use Rattle.vq_board_laws.specs.declared.view.View.{View}
use Rattle.vq_board_laws.specs.declared.view.LoggedBuffers.{LoggedBuffers}
use Rattle.vq_board_laws.specs.declared.view.Fact.TheVariants.{Job}
use Rattle.vq_board_laws.specs.declared.view.JobState.TheVariants.{Finished}
use Rattle.vq_board_laws.specs.Words.{Words, words_of, log_of}
use Rattle.vq_board_laws.specs.Rule.{Kept}
use Rattle.vq_board_laws.specs.Ends.{KnowsAllFinished, IsFoldOfRun, IsToldOutput}
use Rattle.vq_board_laws.specs.Reached.{answer_told, lines_told}
use Rattle.vq_board_laws.proofs.Frames.{so_of}
use Rattle.vq_board_laws.proofs.Sizes.{log_sizes}
use Rattle.vq_board_laws.proofs.ToldLists.{lines_are_told, asking_exists}

-- the value of the slot comes out
taken_value : (homes : List (maybe.Option LoggedBuffers)) (xs : List LoggedBuffers) (m y : LoggedBuffers) → ((k : ℕ) (z : LoggedBuffers) → get_elem? homes k ≡ some (some z) → get_elem? xs k ≡ some z) → homes ≡ some m ∷ [] → get_elem? xs 0 ≡ some y → m ≡ y
taken_value homes xs m y values home took = some-injective m y (sym (values 0 m (ap (λ (hs : List (maybe.Option LoggedBuffers)). get_elem? hs 0) home)) ∙ took)

-- where the pass knows all jobs finished, they are
all_finished : (p : Plan) (s : State LoggedBuffers View) (id : ℕ) (v : View) (k : Kept p s) → get_elem? s.views id ≡ some v → KnowsAllFinished p v → (j : ℕ) → j < length p.jobs → 4 ≤ (words_of s.words).job j
all_finished p s id v k at all j inside = so_of (words_of s.words) v.known (Job j Finished) (k.rule.knowledge id v at) (all j inside)

-- and the turn is free
turn_free : (p : Plan) (s : State LoggedBuffers View) (id : ℕ) (v : View) (k : Kept p s) → get_elem? s.views id ≡ some v → KnowsAllFinished p v → (words_of s.words).turn ≡ 0
turn_free p s id v k at all =
    let turn : ℕ = (words_of s.words).turn in
    dite (ℕ_discrete turn 0) (λ h. h) (λ ne.
    let t = k.rule.log.taken (turn - 1) (omega arith) in
    let four = all_finished p s id v k at all (turn - 1) t.1 in
    let three = t.0 in absurd (omega arith))

ends_at : ((p : Plan) → IsPlan p → IsLawful p → HasOneResult p) → ((p : Plan) → IsPlan p → IsLawful p → RunsGiveOutputs p) → (p : Plan) (s : State LoggedBuffers View) (id : ℕ) (v : View) (bytes : Memory) (k : Kept p s) → get_elem? s.views id ≡ some v → v.role ≡ 0 → KnowsAllFinished p v
    → bytes ≡ bytes_after p (log_of p (words_of s.words)) → IsFoldOfRun p v.told bytes × (bytes ≡ final p) × IsToldOutput p v.told bytes × (map length bytes ≡ sizes_of p.script)
ends_at one outputs p s id v bytes k at host all log =
    let d : Words = words_of s.words in
    let r = k.rule.run in
    let end : MachineState = state_after p r.steps in
    let first : id ≡ 0 = sym (k.rule.ownership.roles id v at) ∙ host in
    let done : IsFinished p end = subst (AreFinished p) (sym r.leads) (λ j h. let four = all_finished p s id v k at all j h in lt-ltb 3 (d.job j) (omega arith)) in
    let folded : bytes ≡ bytes_after p end.progress.applied = log ∙ ap (λ (z : Progress). bytes_after p z.applied) (sym r.leads) in
    let whole : bytes_after p end.progress.applied ≡ final p = one p k.plan k.lawful r.steps r.run done in
    let answers : (j : ℕ) → end.answer j ≡ answer_told v.told j = r.answers id v at first in
    let order = r.told id v at first in
    let lines : lines_answered p end ≡ lines_told p v.told = lines_are_told p end v.told order.falling (λ j h. asking_exists p j (order.asks j h)) answers in (
      record { steps = r.steps; run = r.run; finished = done; folded = folded; answers = answers; lines = lines },
      folded ∙ whole,
      subst (IsOutput p) (λ i. answer_text (lines i) ++ buffers_text p.script.buffers (sym folded i)) (outputs p k.plan k.lawful r.steps r.run done),
      ap (λ (m : Memory). map length m) log ∙ (log_sizes p s k ∙ ap (λ (q : Plan). q.sizes) k.plan.lowered),
    )

-- The buffers that come out are what the log of a finished run leaves, and so the bytes of the slow run; with the answers that the host told they are an output of the plan.
pub ends_whole : ((p : Plan) → IsPlan p → IsLawful p → HasOneResult p) → ((p : Plan) → IsPlan p → IsLawful p → RunsGiveOutputs p) → (p : Plan) (id : ℕ) (v : View) (ws : List ℕ) (xs : List LoggedBuffers) (y : LoggedBuffers) → v.role ≡ 0 → KnowsAllFinished p v → Final (Seen (Kept p) id v) ws xs → get_elem? xs 0 ≡ some y
    → IsFoldOfRun p v.told y.buffers × (y.buffers ≡ final p) × IsToldOutput p v.told y.buffers × (map length y.buffers ≡ sizes_of p.script)
ends_whole one outputs p id v ws xs y host all (s, seen, is, count, values) took =
    let home = seen.0.rule.log.free (turn_free p s id v seen.0 seen.1 all) in
    ends_at one outputs p s id v y.buffers seen.0 seen.1 host all (ap (λ (z : LoggedBuffers). z.buffers) (sym (taken_value s.homes xs home.value y values home.home took)) ∙ home.bytes)
