-- Texts with thread blocks: what they tell, the lines of the scripts that they are compiled to, and their faults. Each
-- line holds by evaluation.
use Rattle.std.proofs.Common.{ℕ, ◌≡◌, List, [], ◌∷◌, ◌++◌, length, Ok, Err, refl}
use Rattle.std.specs.Prelude.{Result, codes}
use Rattle.vq_model.specs.declared.script.Pair.{Pair}
use Rattle.vq_model.specs.declared.statement.FaultKind.{FaultKind}
use Rattle.vq_model.specs.declared.statement.FaultKind.TheVariants.{Syntax, Order, Number, Name, Twice, Limit}
use Rattle.vq_model.specs.Canonical.{canonical_lines}
use Rattle.vq_blocks.specs.declared.block.HostThread.{HostThread}
use Rattle.vq_blocks.specs.declared.block.ThreadLine.{ThreadLine}
use Rattle.vq_blocks.specs.declared.block.ThreadStep.{ThreadStep}
use Rattle.vq_blocks.specs.declared.block.ThreadStep.TheVariants.{Wait, Signal}
use Rattle.vq_blocks.specs.BlockReading.{read_hosts}
use Rattle.vq_blocks.specs.Blocks.{Told, nothing_told}
use Rattle.vq_blocks.specs.Compiled.{origins, script_by_input}

-- what is told, nothing where there is a fault
abbrev told_in : Result Told (ℕ × FaultKind) → Told
told_in (Ok told) = told
told_in (Err fault) = nothing_told

abbrev pair : ℕ → ℕ → Pair
pair semaphore value = record { semaphore = semaphore; value = value }

abbrev at : ℕ → ThreadStep → ThreadLine
at line step = record { line = line; step = step }

abbrev thread : ℕ → List ℕ → List ThreadLine → HostThread
thread line name steps = record { line = line; name = name; steps = steps }

-- A thread that answers the main one

abbrev declared : List ℕ
declared = codes "timeline A 0\ntimeline B 0\nbuffer X 4\nqueue Q threaded\n"

abbrev answers : List ℕ
answers =
    declared ++ codes "thread T\nwait B 1\nsignal A 1\nend\n"
    ++ codes "host signal B 1\nsubmit Q\nwait A 1\nfill X 0 4 6\nend\nhost wait all A 1"

abbrev answering : Told
answering = told_in (read_hosts answers)

it_is_read : read_hosts answers ≡ Ok answering
it_is_read = refl

one_thread : answering.threads
    ≡ thread 5 (codes "T") (at 6 (Wait (pair 1 1 ∷ [])) ∷ at 7 (Signal (pair 0 1)) ∷ []) ∷ []
one_thread = refl

-- the lines of the canonical text, by those of the input: the version's is new
where_from : origins answering
    ≡ 0 ∷ 3 ∷ 1 ∷ 2 ∷ 4 ∷ 5 ∷ 6 ∷ 6 ∷ 6 ∷ 7 ∷ 7 ∷ 7 ∷ 9 ∷ 10 ∷ 11 ∷ 12 ∷ 13 ∷ 14 ∷ []
where_from = refl

as_many_lines : length (canonical_lines (script_by_input answering)) ≡ 18
as_many_lines = refl

-- Remarks and blank lines may stand in a block, two threads may follow each other, one without steps, and a wait may
-- name more than one pair.
abbrev two_threads : Told
two_threads =
    told_in (read_hosts (codes "version 2\n" ++ declared
    ++ codes "thread T\n# waits\n\n wait A 1 B 2 # both\nend\nthread U\nend\nhost idle\n"))

they_are_told : two_threads.threads
    ≡ thread 6 (codes "T") (at 9 (Wait (pair 0 1 ∷ pair 1 2 ∷ [])) ∷ []) ∷ thread 11 (codes "U") [] ∷ []
they_are_told = refl

where_these_are_from : origins two_threads
    ≡ 1 ∷ 4 ∷ 2 ∷ 3 ∷ 5 ∷ 6 ∷ 11 ∷ 9 ∷ 9 ∷ 9 ∷ 9 ∷ 13 ∷ []
where_these_are_from = refl

-- Faults

a_late_declaration : read_hosts (codes "thread T\nend\ntimeline A 0\n") ≡ Err (3, Order)
a_late_declaration = refl

a_late_thread : read_hosts (codes "host idle\nthread T\nend\n") ≡ Err (2, Order)
a_late_thread = refl

half_a_pair : read_hosts (codes "thread T\nwait A\n") ≡ Err (2, Syntax)
half_a_pair = refl

an_open_block : read_hosts (codes "thread T\n") ≡ Err (2, Syntax)
an_open_block = refl

a_block_in_a_block : read_hosts (codes "thread T\nthread U\n") ≡ Err (2, Syntax)
a_block_in_a_block = refl

an_end_of_no_block : read_hosts (codes "thread T\nend\nend\n") ≡ Err (3, Syntax)
an_end_of_no_block = refl

a_block_in_a_batch : read_hosts (codes "queue Q threaded\nsubmit Q\nthread T\n") ≡ Err (3, Syntax)
a_block_in_a_batch = refl

a_buffer_signaled : read_hosts (declared ++ codes "thread T\nsignal X 1\n") ≡ Err (6, Name)
a_buffer_signaled = refl

a_value_that_is_none : read_hosts (declared ++ codes "thread T\nsignal A one\n") ≡ Err (6, Number)
a_value_that_is_none = refl

a_thread_named_twice : read_hosts (codes "thread T\nend\nthread T\n") ≡ Err (3, Twice)
a_thread_named_twice = refl

a_thread_named_as_a_queue : read_hosts (declared ++ codes "thread Q\n") ≡ Err (5, Twice)
a_thread_named_as_a_queue = refl

-- seventeen pairs
abbrev eight_pairs : List ℕ
eight_pairs = codes " A 1 B 1 A 2 B 2 A 3 B 3 A 4 B 4"

too_many_pairs : read_hosts (declared ++ codes "thread T\nwait" ++ eight_pairs ++ eight_pairs ++ codes " A 5\n")
    ≡ Err (6, Limit)
too_many_pairs = refl
