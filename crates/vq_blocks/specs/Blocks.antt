-- What the lines of a text with blocks say: those of the rest are a script's, the others make threads.
-- The format is this project's own.
use Rattle.std.specs.Prelude.{ℕ, Bool, true, false, List, [], ◌∷◌, ◌++◌, ◌&&◌, ◌||◌, find, length, map, sum}
use Rattle.std.specs.Prelude.{Option, if◌then◌else◌}
use Rattle.std.specs.List.{list_any}
use Rattle.std.specs.Option.{option_and_then, option_map_or}
use Rattle.std.specs.Str.{bytes_eq}
use Rattle.vq_model.specs.declared.script.Pair.{Pair}
use Rattle.vq_model.specs.declared.statement.Line.{Line}
use Rattle.vq_model.specs.declared.statement.Form.TheVariants.{Plain}
use Rattle.vq_model.specs.declared.statement.Section.{Section}
use Rattle.vq_model.specs.declared.statement.Section.TheVariants.{Outside}
use Rattle.vq_model.specs.Context.{section, number_at, is_declared}
use Rattle.vq_model.specs.Meaning.{open_places, meaning}
use Rattle.vq_model.specs.Reading.{with_line}
use Rattle.vq_blocks.specs.declared.block.BlockForm.{BlockForm}
use Rattle.vq_blocks.specs.declared.block.BlockForm.TheVariants.{ThreadForm}
use Rattle.vq_blocks.specs.declared.block.BlockStatement.{BlockStatement}
use Rattle.vq_blocks.specs.declared.block.BlockStatement.TheVariants.{BeginThread, TakeStep, EndThread}
use Rattle.vq_blocks.specs.declared.block.HostThread.{HostThread}
use Rattle.vq_blocks.specs.declared.block.ThreadLine.{ThreadLine}
use Rattle.vq_blocks.specs.declared.block.ThreadStep.{ThreadStep}
use Rattle.vq_blocks.specs.declared.block.ThreadStep.TheVariants.{Wait, Signal}
use Rattle.vq_blocks.specs.BlockForms.{block_places, block_statement, forms_inside, matches_block}

-- What lines say: the lines of the rest, the threads, and whether the block of the last thread is open.
pub record Told : Type 0 where
  pub rest : List Line
  pub threads : List HostThread
  pub inside : Bool

abbrev pub nothing_told : Told
nothing_told = record { rest = []; threads = []; inside = false }

-- Steps

-- the pairs that a step waits for
abbrev pub waited_by : ThreadStep → List Pair
waited_by (Wait pairs) = pairs
waited_by (Signal pair) = []

-- the pair that a step signals
abbrev pub signaled_by : ThreadStep → List Pair
signaled_by (Wait pairs) = []
signaled_by (Signal pair) = pair ∷ []

-- how many steps threads have together
abbrev pub step_count : List HostThread → ℕ
step_count threads = sum (map (λ t. length t.steps) threads)

-- Lines of blocks

abbrev pub is_outside : Section → Bool
is_outside Outside = true
is_outside other = false

-- A line belongs to a block where it stands inside one, or begins one: outside of batches, by the word `thread` and
-- one more.
abbrev pub is_of_block : Told → List (List ℕ) → Bool
is_of_block told words = told.inside || (is_outside (section told.rest) && matches_block words ThreadForm)

-- the form of a block's line
abbrev pub block_form : Told → List (List ℕ) → Option BlockForm
block_form told words = find (matches_block words) (if told.inside then forms_inside else ThreadForm ∷ [])

-- What a block's line says, where its words are read.
abbrev pub block_meaning : Told → List (List ℕ) → Option BlockStatement
block_meaning told words =
    option_and_then (λ f. block_statement (number_at told.rest) f (map (λ x. x.1) (open_places (block_places f) words)))
    (block_form told words)

-- a name is declared by the rest, or is that of a thread
abbrev pub is_named : Told → List ℕ → Bool
is_named told name = is_declared told.rest name || list_any (λ t. bytes_eq name t.name) told.threads

-- What a line leaves told

-- a step more of the last thread
abbrev pub with_step : List HostThread → ThreadLine → List HostThread
with_step [] line = []
with_step (t ∷ []) line = record t { steps = t.steps ++ line ∷ [] } ∷ []
with_step (t ∷ next ∷ threads) line = t ∷ with_step (next ∷ threads) line

abbrev pub with_block_line : Told → ℕ → BlockStatement → Told
with_block_line told n (BeginThread name) =
    record told {
      threads = told.threads ++ record { line = n; name = name; steps = [] } ∷ [];
      inside = true;
    }
with_block_line told n (TakeStep step) =
    record told { threads = with_step told.threads (record { line = n; step = step }) }
with_block_line told n EndThread = record told { inside = false }

-- what is told with line n, which has these words
abbrev pub told_with : Told → ℕ → List (List ℕ) → Told
told_with told n words =
    if is_of_block told words then option_map_or (with_block_line told n) (block_meaning told words) told
    else record told {
      rest = option_map_or (with_line told.rest n) (meaning Plain told.rest words) told.rest;
    }
