-- The kinds of the faults of signals and waits by what the code tests, and what they say without a fault.
use Rattle.std.proofs.Common.{◌≡◌, ℕ, Bool, true, false, ◌||◌, ◌&&◌, not, cond, List, [], ◌∷◌, length, Option, Some, None, refl, sym, ap, ◌∙◌, nat_lt}
use Rattle.std.specs.Prelude.{is_some, map, nat_le}
use Rattle.std.specs.Option.{option_map}
use Rattle.vq_model.specs.declared.script.Pair.{Pair}
use Rattle.vq_model.specs.Context.{number_at}
use Rattle.vq_model.specs.Forms.{Slot, TimelineName}
use Rattle.vq_model.specs.Meaning.{of_two, pair_places, pairs_at}
use Rattle.vq_model.specs.Text.{is_name, numeral}
use Rattle.vq_blocks.specs.declared.block.BlockForm.TheVariants.{WaitForm, SignalForm}
use Rattle.vq_blocks.specs.declared.block.BlockStatement.{BlockStatement}
use Rattle.vq_blocks.specs.declared.block.BlockStatement.TheVariants.{TakeStep}
use Rattle.vq_blocks.specs.declared.block.ThreadStep.TheVariants.{Wait, Signal}
use Rattle.vq_blocks.specs.BlockFaults.{most_pairs, most_steps, hosts_fault}
use Rattle.vq_blocks.specs.Blocks.{Told, block_form, is_of_block, step_count, told_with, with_block_line}
use Rattle.vq_hosts.specs.HasThreads.{HasThreads}
use Rattle.vq_hosts.specs.declared.pairs.PairWords.{PairWords}
use Rattle.vq_hosts.specs.declared.threads.Threads.{Threads}
use Rattle.vq_hosts.specs.Pairs.{AreRead}
use Rattle.vq_hosts.proofs.BlockFaultsFound.{block_told}
use Rattle.vq_hosts.proofs.BlockKinds.{kind_of, not_below, pairs_again, plain_words, signal_kind, wait_kind}
use Rattle.vq_hosts.proofs.ThreadBatches.{batches_counted}

-- a test for none is the contrary of one for some
none_tested : (some none : Bool) → some ≡ not none → not some ≡ none
none_tested some true e = ap not e
none_tested some false e = ap not e

-- the kept batches are as many as the steps
steps_counted : (told : Told) (kept : Threads) (many : ℕ) → HasThreads told kept → many ≡ length kept.batches.items →
    many ≡ step_count told.threads
steps_counted told kept many h e = e ∙ ap length h.all_batches ∙ batches_counted 0 told.threads

steps_full : (told : Told) (kept : Threads) (many : ℕ) → HasThreads told kept → many ≡ length kept.batches.items →
    not (nat_lt (step_count told.threads) most_steps) ≡ nat_le most_steps many
steps_full told kept many h e =
    ap (λ (n : ℕ). not (nat_lt n most_steps)) (sym (steps_counted told kept many h e)) ∙ not_below many most_steps

pub signal_tested : (told : Told) (kept : Threads) (first timeline value : List ℕ) (plain shaped : Bool)
    (semaphore payload : Option ℕ) (no_payload no_semaphore : Bool) (many : ℕ) → HasThreads told kept →
    is_of_block told (first ∷ timeline ∷ value ∷ []) ≡ true →
    block_form told (first ∷ timeline ∷ value ∷ []) ≡ Some SignalForm →
    plain ≡ plain_words (first ∷ timeline ∷ value ∷ []) → shaped ≡ is_name timeline →
    semaphore ≡ number_at told.rest TimelineName timeline → payload ≡ numeral value →
    is_some payload ≡ not no_payload → is_some semaphore ≡ not no_semaphore → many ≡ length kept.batches.items →
    hosts_fault told (first ∷ timeline ∷ value ∷ [])
    ≡ kind_of (not plain || not shaped) false no_payload no_semaphore false (nat_le most_steps many)
signal_tested told kept first timeline value plain shaped semaphore payload no_payload no_semaphore many
    h of_block form p s t v nv nt e =
    signal_kind told first timeline value of_block form
    ∙ (λ i. kind_of (not (sym p i) || not (sym s i)) false (not (is_some (sym v i))) (not (is_some (sym t i))) false
    (steps_full told kept many h e i))
    ∙ (λ i. kind_of (not plain || not shaped) false (none_tested (is_some payload) no_payload nv i)
    (none_tested (is_some semaphore) no_semaphore nt i) false (nat_le most_steps many))

-- what is told with a signal whose number and value are read
pub signal_told : (told : Told) (n : ℕ) (first timeline value : List ℕ) (semaphore payload : ℕ) →
    is_of_block told (first ∷ timeline ∷ value ∷ []) ≡ true →
    block_form told (first ∷ timeline ∷ value ∷ []) ≡ Some SignalForm →
    number_at told.rest TimelineName timeline ≡ Some semaphore → numeral value ≡ Some payload →
    told_with told n (first ∷ timeline ∷ value ∷ [])
    ≡ with_block_line told n (TakeStep (Signal (record { semaphore = semaphore; value = payload })))
signal_told told n first timeline value semaphore payload of_block form t v =
    let make : ℕ → ℕ → Pair = λ a b. record { semaphore = a; value = b } in
    let say : Pair → BlockStatement = λ p. TakeStep (Signal p) in
    block_told told (first ∷ timeline ∷ value ∷ []) of_block SignalForm n (say (make semaphore payload)) form
    (λ i. option_map say (of_two make (t i) (v i)))

pub wait_tested : (told : Told) (kept : Threads) (first : List ℕ) (words : List (List ℕ)) (found : PairWords)
    (plain : Bool) (many pairs : ℕ) → HasThreads told kept → AreRead (number_at told.rest) words found →
    is_of_block told (first ∷ words) ≡ true → block_form told (first ∷ words) ≡ Some WaitForm →
    plain ≡ plain_words (first ∷ words) → many ≡ length kept.batches.items → pairs ≡ length found.pairs.items →
    hosts_fault told (first ∷ words)
    ≡ kind_of (not plain || not found.shaped) false (not found.numeric) (not found.known) false
    (nat_le most_steps many || nat_lt most_pairs pairs)
wait_tested told kept first words found plain many pairs h read of_block form p e k =
    wait_kind told first words found read of_block form
    ∙ (λ i. kind_of (not (sym p i) || not found.shaped) false (not found.numeric) (not found.known) false
    (steps_full told kept many h e i || nat_lt most_pairs (sym k i)))

-- without a fault all numerals and names are read
all_read : (m numeric known full : Bool) → kind_of m false (not numeric) (not known) false full ≡ None →
    (numeric ≡ true) × (known ≡ true)
all_read true numeric known full e = absurd (cc)
all_read false true true full e = (refl, refl)
all_read false true false full e = absurd (cc)
all_read false false known full e = absurd (cc)

-- what is told with a wait without a fault
pub wait_told : (told : Told) (n : ℕ) (first : List ℕ) (words : List (List ℕ)) (found : PairWords) (m full : Bool) →
    AreRead (number_at told.rest) words found → is_of_block told (first ∷ words) ≡ true →
    block_form told (first ∷ words) ≡ Some WaitForm →
    kind_of m false (not found.numeric) (not found.known) false full ≡ None →
    told_with told n (first ∷ words) ≡ with_block_line told n (TakeStep (Wait found.pairs.items))
wait_told told n first words found m full read of_block form none =
    let say : List Pair → BlockStatement = λ ps. TakeStep (Wait ps) in
    let number : Slot → List ℕ → Option ℕ = number_at told.rest in
    let both = all_read m found.numeric found.known full none in
    let said : pairs_at number (map (λ x. x.1) (pair_places words)) ≡ Some found.pairs.items =
    pairs_again number words ∙ read.all_pairs
    ∙ (λ i. cond (both.0 i && both.1 i) (Some found.pairs.items) None) in
    block_told told (first ∷ words) of_block WaitForm n (say found.pairs.items) form
    (ap (λ (o : Option (List Pair)). option_map say o) said)
