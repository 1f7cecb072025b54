-- Steps in the life of a board. Between any two steps the rule holds; so it holds right before a step
-- and right after it. This project's own.
use Rattle.std.specs.Prelude.{ℕ, List, ◌≡◌, slice_index, slice_set}
use mathlib.Core.Option.{some}
use mathlib.Core.Option as maybe
use lib.ListN.{get_elem?}
use Rattle.atomic_table.specs.Table.{State}
use Rattle.atomic_table.specs.Table as Table
use Rattle.vq_model.specs.Plan.{Plan}
use Rattle.vq_board_laws.specs.declared.view.LoggedBuffers.{LoggedBuffers}
use Rattle.vq_board_laws.specs.declared.view.View.{View}
use Rattle.vq_board_laws.specs.Rule.{Kept}
use Rattle.vq_board_laws.specs.Steps.{Mine}

-- What there is to a step of a pass on a word: what the board was right before it, and that the rule held
-- then and holds right after it. The pass stands at its place among all passes, with the one view and
-- then the other, and the step found the one number and left the other.
pub record StepFacts (p : Plan) (v w : View) (word found left : ℕ) : Type 0 where
  pub before : State LoggedBuffers View
  pub kept : Kept p before
  pub place : ℕ
  pub at : get_elem? before.views place ≡ some v
  pub finds : slice_index before.words word ≡ found
  pub homes : List (maybe.Option LoggedBuffers)
  pub after : Kept p record {
    words = slice_set before.words word left;
    homes = homes;
    views = slice_set before.views place w;
  }

-- Calls say it by this word, which is opened where a law is applied: proofs that need no law then see
-- nothing of the board's states.
unfoldable pub IsStep : Plan → View → View → ℕ → ℕ → ℕ → Type 0
IsStep p v w word found left = StepFacts p v w word found left

-- What a step tells, and that it is such a step: one that only looks, one that stores the number n
-- whatever it finds, and one that finds n and changes it.
abbrev pub in_load : (Table.Step LoggedBuffers → Mine → ℕ → Mine → Type 0) →
    Table.Step LoggedBuffers → Mine → ℕ → Mine → Type 0
in_load told st m n m' = told st m n m' × IsStep m.0.plan m.0 m'.0 st.word n n

abbrev pub in_store : (Table.Step LoggedBuffers → Mine → ℕ → Mine → Type 0) →
    Table.Step LoggedBuffers → Mine → ℕ → Mine → Type 0
in_store told st m n m' =
    told st m n m' × ((found : ℕ) × IsStep m.0.plan m.0 m'.0 st.word found n)

abbrev pub in_change : (Table.Step LoggedBuffers → Mine → ℕ → Mine → Type 0) →
    Table.Step LoggedBuffers → Mine → ℕ → Mine → Type 0
in_change told st m n m' =
    told st m n m' × ((left : ℕ) × IsStep m.0.plan m.0 m'.0 st.word n left)
