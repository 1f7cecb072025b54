-- The faults of lines in a text with blocks: one test for each kind, in the order of the kinds.
-- The kinds and limits are this project's own.
use Rattle.std.specs.Prelude.{ℕ, Bool, true, false, List, ◌+◌, ◌&&◌, ◌||◌, not, find, length, nat_lt}
use Rattle.std.specs.Prelude.{Option, if◌then◌else◌}
use Rattle.std.specs.List.{list_all}
use Rattle.std.specs.Option.{option_map_or}
use Rattle.vq_model.specs.declared.statement.FaultKind.{FaultKind}
use Rattle.vq_model.specs.declared.statement.FaultKind.TheVariants.{Syntax, Order, Number, Name, Twice, Limit}
use Rattle.vq_model.specs.declared.statement.Form.TheVariants.{Plain}
use Rattle.vq_model.specs.Context.{has_begun, number_at, queues, count, is_job}
use Rattle.vq_model.specs.Forms.{Slot}
use Rattle.vq_model.specs.LineFaults.{has_fault, kinds, is_declaration, is_shaped, is_numeric, is_known}
use Rattle.vq_model.specs.LineFaults.{is_new, ends_early}
use Rattle.vq_model.specs.Meaning.{open_places, form_of, meaning}
use Rattle.vq_model.specs.Text.{is_plain}
use Rattle.vq_blocks.specs.declared.block.BlockForm.{BlockForm}
use Rattle.vq_blocks.specs.declared.block.BlockForm.TheVariants.{ThreadForm}
use Rattle.vq_blocks.specs.declared.block.BlockStatement.{BlockStatement}
use Rattle.vq_blocks.specs.declared.block.BlockStatement.TheVariants.{BeginThread, TakeStep}
use Rattle.vq_blocks.specs.BlockForms.{block_places}
use Rattle.vq_blocks.specs.Blocks.{Told, waited_by, step_count, is_of_block, block_form, block_meaning, is_named}

-- Limits

-- the most queues and threads together, steps of all threads, pairs of a step, and jobs of the rest
abbrev pub most_lanes : ℕ
most_lanes = 16

abbrev pub most_steps : ℕ
most_steps = 1024

abbrev pub most_pairs : ℕ
most_pairs = 16

abbrev pub most_rest_jobs : ℕ
most_rest_jobs = 7168

-- Lines of blocks

-- some open place of a block's line fails a test
abbrev pub fails_block : (Slot × List ℕ → Bool) → List (List ℕ) → BlockForm → Bool
fails_block test words form = not (list_all test (open_places (block_places form) words))

abbrev pub begins_thread : BlockForm → Bool
begins_thread ThreadForm = true
begins_thread other = false

-- the line takes a quantity past its limit
abbrev pub passes_block_limit : Told → BlockStatement → Bool
passes_block_limit told (BeginThread name) =
    not (nat_lt (length (queues told.rest) + length told.threads) most_lanes)
passes_block_limit told (TakeStep step) =
    not (nat_lt (step_count told.threads) most_steps) || nat_lt most_pairs (length (waited_by step))
passes_block_limit told other = false

-- Whether a line of a block with these words has a fault of a kind. A thread begins before the first job.
abbrev pub has_block_fault : Told → List (List ℕ) → FaultKind → Bool
has_block_fault told words Syntax =
    not (list_all (list_all is_plain) words)
    || option_map_or (fails_block is_shaped words) (block_form told words) true
has_block_fault told words Order =
    option_map_or (λ f. begins_thread f && has_begun told.rest) (block_form told words) false
has_block_fault told words Number = option_map_or (fails_block is_numeric words) (block_form told words) false
has_block_fault told words Name =
    option_map_or (fails_block (is_known (number_at told.rest)) words) (block_form told words) false
has_block_fault told words Twice =
    option_map_or (fails_block (is_new (is_named told)) words) (block_form told words) false
has_block_fault told words Limit = option_map_or (passes_block_limit told) (block_meaning told words) false
has_block_fault told words other = false

-- Lines of the rest

-- a declaration that stands behind a thread
abbrev pub declares_late : Told → List (List ℕ) → Bool
declares_late told words =
    nat_lt 0 (length told.threads) && option_map_or is_declaration (form_of Plain told.rest words) false

-- a job more than the rest may have
abbrev pub passes_jobs : Told → List (List ℕ) → Bool
passes_jobs told words =
    option_map_or is_job (meaning Plain told.rest words) false
    && not (nat_lt (count is_job told.rest) most_rest_jobs)

-- Whether a line of the rest has a fault of a kind: one of the script's, or one that only blocks bring.
abbrev pub has_rest_fault : Told → List (List ℕ) → FaultKind → Bool
has_rest_fault told words Order = has_fault Plain told.rest words Order || declares_late told words
has_rest_fault told words Limit = has_fault Plain told.rest words Limit || passes_jobs told words
has_rest_fault told words other = has_fault Plain told.rest words other

-- All lines

-- The fault of a line: the first kind of which it has one.
abbrev pub hosts_fault : Told → List (List ℕ) → Option FaultKind
hosts_fault told words =
    find (if is_of_block told words then has_block_fault told words else has_rest_fault told words) kinds

-- the line after the last one is Syntax where the text ends inside a block or inside a batch
abbrev pub hosts_end_early : Told → Bool
hosts_end_early told = told.inside || ends_early Plain told.rest
