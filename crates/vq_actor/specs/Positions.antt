-- References that are held for needs, and tasks. Steps of proofs.
use Rattle.std.specs.Prelude.{ℕ, ◌≡◌, ◌+◌, ◌≤◌, ◌<◌, Bool, true, false, List, [], ◌∷◌, Option, Some, None, All}
use Rattle.std.specs.Prelude.{length, count_by, set}
use Rattle.std.specs.List.{slice_get}
use Rattle.vq_model.specs.declared.plan.Need.{Need}
use Rattle.vq_model.specs.Plan.{Plan}
use Rattle.vq_turns.specs.declared.look.Holding.{Holding}
use Rattle.vq_turns.specs.declared.task.Task.{Task}
use Rattle.vq_turns.specs.declared.task.Task.TheVariants.{AwaitNeeds, Compare}
use Rattle.vq_actor.specs.declared.held.Held.{Held}
use Rattle.vq_actor.specs.Waits.{is_resolved}

-- References

abbrev pub holding_of : ℕ → Held → Holding
holding_of k h = record { need = k; point = h.point; op = h.op }

-- the references that are held, in the order of the needs, which are numbered from here on
abbrev pub holding_from : ℕ → List (Option Held) → List Holding
holding_from k [] = []
holding_from k (None ∷ slots) = holding_from (k + 1) slots
holding_from k (Some h ∷ slots) = holding_of k h ∷ holding_from (k + 1) slots

-- the first reference that is held: what is held is this one, and what is left without it
pub record IsFirstHeld (slots : List (Option Held)) (k : ℕ) (h : Held) : Type 0 where
  pub at : slice_get slots k ≡ Some (Some h)
  pub first : holding_from 0 slots ≡ holding_of k h ∷ holding_from 0 (set slots k None)

abbrev pub FindsFirst : List (Option Held) → Option (ℕ × Held) → Type 0
FindsFirst slots None = holding_from 0 slots ≡ []
FindsFirst slots (Some (k, h)) = IsFirstHeld slots k h

-- the first of what is held, if anything is
abbrev pub IsFirstOf : List Holding → Option Held → Type 0
IsFirstOf xs None = xs ≡ []
IsFirstOf xs (Some h) = (k : ℕ) × (rest : List Holding) × (xs ≡ holding_of k h ∷ rest)

-- where the waiting has ended, a reference is still held
abbrev pub IsSound : Bool → List (Option Held) → Type 0
IsSound met slots = met ≡ true → holding_from 0 slots ≡ [] → ⊥

-- Tasks

-- a wait is for chains that exist, and one of its needs is resolved
pub record IsAwaitable (p : Plan) (ns : List Need) : Type 0 where
  pub chains : All (λ n. n.chain < length p.chains) ns
  pub place : ℕ
  pub need : Need
  pub at : slice_get ns place ≡ Some need
  pub resolved : is_resolved p need.chain need.value ≡ true

abbrev pub MayBeDone : Plan → Task → Type 0
MayBeDone p (AwaitNeeds ns) = IsAwaitable p ns
MayBeDone p other = Unit {0}

-- how many needs a task waits for
abbrev pub needs_of : Task → ℕ
needs_of (AwaitNeeds ns) = length ns
needs_of other = 0

-- there is room for a reference for each need
abbrev pub HasRoom : ℕ → Task → Type 0
HasRoom room t = needs_of t ≤ room

abbrev pub is_compare : Task → Bool
is_compare (Compare t v) = true
is_compare other = false

-- how many comparisons tasks may add
abbrev pub compares : List Task → ℕ
compares tasks = count_by is_compare tasks
