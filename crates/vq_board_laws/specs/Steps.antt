-- What a pass knows and has after each kind of step, and what the step tells its caller. This
-- project's own.
use Rattle.std.specs.Prelude.{ℕ, suc, [], ◌∷◌, ◌≡◌, ◌≢◌, ◌≤◌, Some, None, length, map}
use Rattle.atomic_table.specs.Table as Table
use Rattle.atomic_table.specs.Table.{Me}
use Rattle.vq_model.specs.Memory.{Memory}
use Rattle.vq_board_laws.specs.declared.view.View.{View}
use Rattle.vq_board_laws.specs.declared.view.OwnStep.{OwnStep}
use Rattle.vq_board_laws.specs.declared.view.LoggedBuffers.{LoggedBuffers}
use Rattle.vq_board_laws.specs.declared.view.JobState.{JobState}
use Rattle.vq_board_laws.specs.declared.view.JobState.TheVariants.{Submitted, Released, Started, Finished}
use Rattle.vq_board_laws.specs.declared.view.Fact.TheVariants.{Job}
use Rattle.vq_board_laws.specs.Knowledge.{state_number, Knows}
use Rattle.vq_board_laws.specs.Words.{turn_word, job_word, place_word}

abbrev pub own_step : ℕ → ℕ → OwnStep
own_step word found = record { word = word; found = found }

-- The pass after its step

-- it looked at a job
abbrev pub looks : View → ℕ → JobState → View
looks v j s =
    record v { known = Job j s ∷ v.known; steps = own_step (job_word j) (state_number s) ∷ v.steps }

abbrev pub submits : View → ℕ → View
submits v j =
    record v {
      known = Job j Submitted ∷ v.known;
      submitted = j ∷ v.submitted;
      steps = own_step (job_word j) 1 ∷ v.steps;
    }

abbrev pub releases : View → ℕ → View
releases v j =
    record v {
      known = Job j Released ∷ v.known;
      released = j ∷ v.released;
      steps = own_step (job_word j) 2 ∷ v.steps;
    }

abbrev pub starts : View → ℕ → View
starts v j =
    record v {
      known = Job j Started ∷ v.known;
      begun = j ∷ v.begun;
      runs = Some j;
      entered = 0;
      signaled = 0;
      unmade = [];
      steps = own_step (job_word j) 3 ∷ v.steps;
    }

abbrev pub finishes : View → ℕ → View
finishes v j =
    record v {
      known = Job j Finished ∷ v.known;
      runs = None;
      steps = own_step (job_word j) 4 ∷ v.steps;
    }

-- it took the turn over the buffers, with so many commands in the log and these bytes
abbrev pub takes_turn : View → ℕ → Memory → View
takes_turn v n bytes =
    record v { held = Some n; bytes = bytes; steps = own_step turn_word 0 ∷ v.steps }

-- it found the turn taken
abbrev pub misses_turn : View → ℕ → View
misses_turn v found = record v { steps = own_step turn_word found ∷ v.steps }

abbrev pub gives_turn : View → View
gives_turn v = record v { held = None; steps = own_step turn_word 0 ∷ v.steps }

-- it applied a command, which is at the place n of the log
abbrev pub enters : View → ℕ → ℕ → Memory → View
enters v c n bytes =
    record v {
      entered = suc v.entered;
      held = Some (suc n);
      bytes = bytes;
      steps = own_step (place_word n) (suc c) ∷ v.steps;
    }

-- What the step tells

abbrev pub Mine : Type 0
Mine = Me LoggedBuffers View

-- the job is at least as far as the pass knows
abbrev pub looked : Table.Step LoggedBuffers → Mine → ℕ → Mine → Type 0
looked st m n m' =
    (j : ℕ) → st.word ≡ job_word j →
    (s : JobState) × (n ≡ state_number s) × (m' ≡ (looks m.0 j s, m.1))
    × ((least : JobState) → Knows m.0.known (Job j least) → state_number least ≤ n)

abbrev pub submitted : Table.Step LoggedBuffers → Mine → ℕ → Mine → Type 0
submitted st m n m' = (j : ℕ) → st.word ≡ job_word j → m' ≡ (submits m.0 j, m.1)

abbrev pub released : Table.Step LoggedBuffers → Mine → ℕ → Mine → Type 0
released st m n m' = (j : ℕ) → st.word ≡ job_word j → m' ≡ (releases m.0 j, m.1)

abbrev pub started : Table.Step LoggedBuffers → Mine → ℕ → Mine → Type 0
started st m n m' = (j : ℕ) → st.word ≡ job_word j → m' ≡ (starts m.0 j, m.1)

abbrev pub finished : Table.Step LoggedBuffers → Mine → ℕ → Mine → Type 0
finished st m n m' = (j : ℕ) → st.word ≡ job_word j → m' ≡ (finishes m.0 j, m.1)

-- The turn was free, and the pass has it now, with buffers of the plan's sizes; or it was taken.
abbrev pub took_turn : Table.Step LoggedBuffers → Mine → ℕ → Mine → Type 0
took_turn st m n m' =
    (n ≡ 0 →
    (x : LoggedBuffers) × (m' ≡ (takes_turn m.0 x.filled x.buffers, (0, x) ∷ m.1))
    × (x.filled ≤ length m.0.plan.commands) × (map length x.buffers ≡ m.0.plan.sizes))
    × (n ≢ 0 → m' ≡ (misses_turn m.0 n, m.1))

abbrev pub gave_turn : Table.Step LoggedBuffers → Mine → ℕ → Mine → Type 0
gave_turn st m n m' = m' ≡ (gives_turn m.0, [])

-- the command is at a place of the log, which has room for all commands
abbrev pub entered : Table.Step LoggedBuffers → Mine → ℕ → Mine → Type 0
entered st m n m' =
    (i c : ℕ) (x : LoggedBuffers) → st.word ≡ place_word i → st.first ≡ suc c → m.1 ≡ (0, x) ∷ [] →
    (m' ≡ (enters m.0 c i x.buffers, m.1)) × (suc i ≤ length m.0.plan.commands)
