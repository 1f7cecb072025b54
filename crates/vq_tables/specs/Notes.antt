-- The notes on references, and what the world says of them. This project's own.
use Rattle.std.specs.Prelude.{ℕ, Bool, List, [], length, count_by, ◌≡◌, ◌<◌, ◌&&◌, ◌==◌, Option}
use Rattle.std.specs.Prelude.{Some, None}
use Rattle.std.specs.List.{slice_index_or, position_or_len}
use Rattle.std.specs.Option.{option_map_or}
use Rattle.vq_model.specs.declared.script.ActorName.{ActorName}
use Rattle.vq_model.specs.Machine.{next}
use Rattle.vq_model.specs.Plan.{Plan, needs}
use Rattle.vq_model.specs.Naming.{same_actor}
use Rattle.vq_point_laws.specs.Points.{Reference, jobs_of_lane, lane_of_actor, resolves, needs_resolved, count_of}
use Rattle.vq_tables.specs.declared.notes.Note.{Note}

-- no reference and no look
abbrev pub no_note : Note
no_note = record { referred = 0; looked = 0; held = 0 }

-- the place of the first need of a job that an operation resolves
abbrev pub place_in : Plan → ℕ → ℕ → ℕ
place_in p j e = position_or_len (resolves p e) (needs p j)

-- the first job of an actor's lane that isn't finished
abbrev pub next_by : Plan → (ℕ → Bool) → ActorName → Option ℕ
next_by p finished a = option_map_or (λ lane. next finished (jobs_of_lane p lane)) (lane_of_actor a) None

-- how many references to the point of an operation an actor holds
abbrev pub held_by : List Reference → ActorName → ℕ → ℕ
held_by held a e = count_by (λ r. same_actor a r.actor && (r.op == e)) held

-- The references and looks made for a job, and those references that are held: its actor holds them
-- while the job is the next one.
pub record IsNote (p : Plan) (finished : ℕ → Bool) (held : List Reference) (referred looked : ℕ → List ℕ) (j e : ℕ)
    (n : Note) : Type 0 where
  pub references : n.referred ≡ count_of (referred j) e
  pub looks : n.looked ≡ count_of (looked j) e
  pub next_held : (a : ActorName) → next_by p finished a ≡ Some j → n.held ≡ held_by held a e
  pub other_held : ((a : ActorName) → next_by p finished a ≡ Some j → ⊥) → n.held ≡ 0

pub record AreNotes (p : Plan) (finished : ℕ → Bool) (held : List Reference) (referred looked : ℕ → List ℕ)
    (rows : List (List Note)) : Type 0 where
  pub count : length rows ≡ length p.jobs
  pub one_each : (j : ℕ) → length (slice_index_or rows j []) ≡ length (needs p j)
  pub each : (j e : ℕ) → 0 < needs_resolved p j e →
      IsNote p finished held referred looked j e (slice_index_or (slice_index_or rows j []) (place_in p j e) no_note)
