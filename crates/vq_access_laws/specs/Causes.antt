-- What an access over the board shows of a turn: a want by a step of its pass, or by the last refusal of a chain's
-- lists; an event by the last steps of its pass. This project's own.
use Rattle.std.specs.Prelude.{ℕ, ◌≡◌, ◌≢◌, ◌<◌, ◌≤◌, ◌+◌, ◌⊎◌, suc, min, Bool, true, false, List, [], ◌∷◌, length}
use Rattle.std.specs.Prelude.{Option, Some, None}
use Rattle.vq_ground.specs.Lists.{has}
use Rattle.vq_model.specs.declared.plan.Event.{Event}
use Rattle.vq_model.specs.declared.plan.Event.TheVariants.{Submit, Release, Start, Apply, Signal, Finish, Answer}
use Rattle.vq_model.specs.declared.plan.Event.TheVariants.{Refer, Look, Unref, Take, Bind, Complete, Free}
use Rattle.vq_point_laws.specs.PointWord.{parts}
use Rattle.vq_turns.specs.declared.outcome.Want.{Want}
use Rattle.vq_turns.specs.declared.outcome.Want.TheVariants.{Submitted, Released, Bound, Next, Signaled, Finished}
use Rattle.vq_turns.specs.declared.outcome.Want.TheVariants.{MemoryTurn, Exchange, Listed}
use Rattle.vq_board_laws.specs.declared.view.Fact.TheVariants.{Made}
use Rattle.vq_board_laws.specs.declared.view.OwnStep.{OwnStep}
use Rattle.vq_board_laws.specs.declared.view.View.{View}
use Rattle.vq_board_laws.specs.Knowledge.{Knows}
use Rattle.vq_board_laws.specs.OwnSteps.{HasStep, HasBefore}
use Rattle.vq_board_laws.specs.Points.{reference, Lists}
use Rattle.vq_board_laws.specs.Reached.{answer_told}
use Rattle.vq_board_laws.specs.Steps.{own_step}
use Rattle.vq_board_laws.specs.Words.{turn_word, job_word, op_word, point_word, place_word, Carries}

-- the step read a number below this one
abbrev pub FoundBelow : ℕ → ℕ → OwnStep → Type 0
FoundBelow word n s = (s.word ≡ word) × (s.found < n)

-- What a step read, for a want: a job's word in an earlier state, an operation's word unbound, a point's word that
-- carries the operation unsignaled, the turn taken; or a point's word that doesn't carry the operation, or differs from
-- what the step before on it read, which has a number above n too.
abbrev pub IsStepFor : ℕ → Want → OwnStep → List OwnStep → Type 0
IsStepFor n (Submitted j) s ss = FoundBelow (job_word j) 1 s
IsStepFor n (Released j) s ss = FoundBelow (job_word j) 2 s
IsStepFor n (Finished j) s ss = FoundBelow (job_word j) 4 s
IsStepFor n (Bound e) s ss = FoundBelow (op_word e) 1 s
IsStepFor n (Next e) s ss = FoundBelow (op_word e) 1 s
IsStepFor n (Signaled e) s ss =
    (q : ℕ) × (s.word ≡ point_word q) × Carries s.found e × ((parts s.found).signaled ≡ false)
IsStepFor n MemoryTurn s ss = (s.word ≡ turn_word) × (s.found ≢ 0)
IsStepFor n (Exchange e found) s ss =
    (q : ℕ) × (s.word ≡ point_word q) × (s.found ≡ found)
    × ((¬ Carries found e) ⊎ HasBefore n (point_word q) (λ m. found ≢ m) ss)
IsStepFor n (Listed e) s ss = ⊥

-- the last want for which a chain's lists refused a call, and how many they refused, at which the count may stand still
pub record Refusals : Type 0 where
  pub count : ℕ
  pub last : Option Want

-- the wants for which lists refuse a call
abbrev pub is_of_lists : Want → Bool
is_of_lists (Listed e) = true
is_of_lists (Released j) = true
is_of_lists (Next e) = true
is_of_lists other = false

pub record IsRefused (r : Refusals) (want : Want) (n : ℕ) : Type 0 where
  pub of_lists : is_of_lists want ≡ true
  pub last : r.last ≡ Some want
  pub later : (n < r.count) ⊎ (r.count ≡ 18446744073709551615)

-- A want is shown since a moment of the record: by a step behind it, or by the last refusal.
abbrev pub IsShown : List OwnStep → Refusals → Want → ℕ × ℕ → Type 0
IsShown steps r want since = HasStep since.0 (IsStepFor since.0 want) steps ⊎ IsRefused r want since.1

-- the refusals after one more, which is counted as long as 64 bits count it
abbrev pub refused : Refusals → Want → Refusals
refused r want = record { count = min (r.count + 1) 18446744073709551615; last = Some want }

-- Events

-- the step stands right behind this one
abbrev pub IsBehind : OwnStep → List OwnStep → Type 0
IsBehind before ss = (earlier : List OwnStep) × (ss ≡ before ∷ earlier)

-- What the last step of a pass says of an event that it made: the store of a job's word, with the job on the pass's
-- lists; the step on the turn that gave it back, behind the one that wrote the command into the log; the step on the
-- word of the point to which the operation was found bound right before; or the step on a point's word that carries
-- the operation: signaled, or with a reference more that the pass has, or found so twice, as where one is given back.
-- Points are given, bound, completed and freed by their chain's lists. Of such an event the last step is a look behind
-- it, which found that it stands: that the point carries the operation; that the operation is bound to the point, or
-- past; that it is past; or that the point isn't signaled, as each is that waits to be freed.
abbrev pub IsStepOf : View → Event → OwnStep → List OwnStep → Type 0
IsStepOf v (Submit j) s ss = (s ≡ own_step (job_word j) 1) × (has v.submitted j ≡ true)
IsStepOf v (Release j) s ss = (s ≡ own_step (job_word j) 2) × (has v.released j ≡ true)
IsStepOf v (Start j) s ss = (s ≡ own_step (job_word j) 3) × (v.runs ≡ Some j) × (has v.begun j ≡ true)
IsStepOf v (Finish j) s ss = (s ≡ own_step (job_word j) 4) × (v.runs ≡ None)
IsStepOf v (Answer j a) s ss = (s ≡ own_step (job_word j) 3) × (answer_told v.told j ≡ Some a)
IsStepOf v (Apply j c) s ss =
    (s ≡ own_step turn_word 0) × (v.runs ≡ Some j) × ((n : ℕ) × IsBehind (own_step (place_word n) (suc c)) ss)
IsStepOf v (Signal e) s ss =
    (q : ℕ) × (s.word ≡ point_word q) × Knows v.known (Made e) × IsBehind (own_step (op_word e) (q + 2)) ss
IsStepOf v (Refer a q e) s ss = (s.word ≡ point_word q) × Carries s.found e × Lists v.refs (reference q e)
IsStepOf v (Look a q e) s ss =
    (s.word ≡ point_word q) × Carries s.found e × ((parts s.found).signaled ≡ true)
IsStepOf v (Unref a q e) s ss = (s.word ≡ point_word q) × IsBehind s ss
IsStepOf v (Take e q fresh) s ss = (s.word ≡ point_word q) × Carries s.found e
IsStepOf v (Bind e q) s ss = (s.word ≡ op_word e) × ((s.found ≡ q + 2) ⊎ (s.found ≡ 1))
IsStepOf v (Complete e) s ss = s ≡ own_step (op_word e) 1
IsStepOf v (Free q) s ss = (s.word ≡ point_word q) × ((parts s.found).signaled ≡ false)

-- a step stands behind so many others
abbrev pub IsLast : ℕ → (OwnStep → List OwnStep → Type 0) → List OwnStep → Type 0
IsLast n P [] = ⊥
IsLast n P (s ∷ ss) = (n ≤ length ss) × P s ss

-- the last step of the pass has a number above n, and made the event or found it made
abbrev pub IsMade : View → Event → ℕ → Type 0
IsMade v event n = IsLast n (IsStepOf v event) v.steps
