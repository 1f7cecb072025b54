-- The kinds of the faults of blocks' lines, form by form.
use Rattle.std.proofs.Common.{◌≡◌, ℕ, ◌+◌, Bool, true, false, ◌||◌, ◌&&◌, not, cond, List, [], ◌∷◌, length, Option, Some, None, refl, sym, ap, ◌∙◌, nat_lt, arith}
use Rattle.std.proofs.lemmas.Bool.Decides.{nat_tests}
use Rattle.std.specs.Prelude.{is_some, map, nat_le}
use Rattle.std.specs.List.{list_all}
use Rattle.std.specs.Option.{option_map, option_map_or}
use Rattle.vq_script.proofs.Cited.{no_names}
use Rattle.vq_ground.proofs.Bools.{and_true, or_false}
use Rattle.vq_model.specs.declared.script.Pair.{Pair}
use Rattle.vq_model.specs.declared.statement.FaultKind.{FaultKind}
use Rattle.vq_model.specs.declared.statement.FaultKind.TheVariants.{Syntax, Order, Number, Name, Twice, Limit}
use Rattle.vq_model.specs.Context.{has_begun, number_at, queues}
use Rattle.vq_model.specs.Forms.{Slot, TimelineName}
use Rattle.vq_model.specs.LineFaults.{is_known, is_numeric, is_shaped}
use Rattle.vq_model.specs.Meaning.{of_two, pair_at, pair_places, pairs_at}
use Rattle.vq_model.specs.Text.{is_name, is_plain, numeral}
use Rattle.vq_blocks.specs.declared.block.BlockForm.TheVariants.{ThreadForm, WaitForm, SignalForm, EndForm}
use Rattle.vq_blocks.specs.declared.block.BlockStatement.{BlockStatement}
use Rattle.vq_blocks.specs.declared.block.BlockStatement.TheVariants.{TakeStep}
use Rattle.vq_blocks.specs.declared.block.ThreadStep.TheVariants.{Wait, Signal}
use Rattle.vq_blocks.specs.BlockFaults.{most_lanes, most_pairs, most_steps, hosts_fault, passes_block_limit}
use Rattle.vq_blocks.specs.Blocks.{Told, block_form, is_named, is_of_block, step_count}
use Rattle.vq_hosts.specs.declared.pairs.PairWords.{PairWords}
use Rattle.vq_hosts.specs.Pairs.{AreRead}
use Rattle.vq_hosts.proofs.BlockFaultsFound.{block_tested}

-- the kind of six tests
abbrev pub kind_of : (misshapen late unnumbered unknown named full : Bool) → Option FaultKind
kind_of m l n k t f =
    cond m (Some Syntax) (cond l (Some Order) (cond n (Some Number) (cond k (Some Name) (cond t (Some Twice)
    (cond f (Some Limit) None)))))

-- all bytes of words may stand outside a comment
abbrev pub plain_words : List (List ℕ) → Bool
plain_words words = list_all (list_all is_plain) words

not_not : (b : Bool) → not (not b && true) ≡ b
not_not true = refl
not_not false = refl

pub thread_kind : (told : Told) (first name : List ℕ) → is_of_block told (first ∷ name ∷ []) ≡ true →
    block_form told (first ∷ name ∷ []) ≡ Some ThreadForm →
    hosts_fault told (first ∷ name ∷ [])
    ≡ kind_of (not (plain_words (first ∷ name ∷ [])) || not (is_name name)) (has_begun told.rest) false false
    (is_named told name) (not (nat_lt (length (queues told.rest) + length told.threads) most_lanes))
thread_kind told first name of_block form =
    block_tested told (first ∷ name ∷ []) of_block ThreadForm form
    ∙ (λ i. kind_of (not (plain_words (first ∷ name ∷ [])) || not (and_true (is_name name) i)) (has_begun told.rest)
    false false (not_not (is_named told name) i)
    (not (nat_lt (length (queues told.rest) + length told.threads) most_lanes)))

-- a line of one pair, whose number and value may be read
one_pair : (m full : Bool) (t v : Option ℕ) (make : ℕ → ℕ → Pair) (passes : Pair → Bool) → ((p : Pair) → passes p ≡ full) →
    kind_of m false (not (true && (is_some v && true))) (not (is_some t && (true && true))) false
    (option_map_or passes (of_two make t v) false)
    ≡ kind_of m false (not (is_some v)) (not (is_some t)) false full
one_pair m full None None make passes h = refl
one_pair m full None (Some v) make passes h = refl
one_pair m full (Some t) None make passes h = refl
one_pair m full (Some t) (Some v) make passes h =
    ap (λ (b : Bool). kind_of m false false false false b) (h (make t v))

said_after : {A : Type 0} (f : A → BlockStatement) (test : BlockStatement → Bool) (o : Option A) →
    option_map_or test (option_map f o) false ≡ option_map_or (λ x. test (f x)) o false
said_after f test None = refl
said_after f test (Some a) = refl

shaped_pair : (b : Bool) → (b && (true && true)) ≡ b
shaped_pair true = refl
shaped_pair false = refl

pub signal_kind : (told : Told) (first timeline value : List ℕ) →
    is_of_block told (first ∷ timeline ∷ value ∷ []) ≡ true →
    block_form told (first ∷ timeline ∷ value ∷ []) ≡ Some SignalForm →
    hosts_fault told (first ∷ timeline ∷ value ∷ [])
    ≡ kind_of (not (plain_words (first ∷ timeline ∷ value ∷ [])) || not (is_name timeline)) false
    (not (is_some (numeral value))) (not (is_some (number_at told.rest TimelineName timeline))) false
    (not (nat_lt (step_count told.threads) most_steps))
signal_kind told first timeline value of_block form =
    let words = first ∷ timeline ∷ value ∷ [] in
    let number = number_at told.rest in
    let pair : Option Pair = pair_at number timeline value in
    block_tested told words of_block SignalForm form
    ∙ (λ i. kind_of (not (plain_words words) || not (shaped_pair (is_name timeline) i)) false
    (not (true && (is_some (numeral value) && true)))
    (not (is_some (number TimelineName timeline) && (true && true))) false
    (said_after (λ p. TakeStep (Signal p)) (passes_block_limit told) pair i))
    ∙ one_pair (not (plain_words words) || not (is_name timeline)) (not (nat_lt (step_count told.threads) most_steps))
    (number TimelineName timeline) (numeral value) (λ t v. record { semaphore = t; value = v })
    (λ p. passes_block_limit told (TakeStep (Signal p)))
    (λ p. or_false (not (nat_lt (step_count told.threads) most_steps)))

-- pairs, of which all may be read
all_pairs : (m numeric known : Bool) (o : Option (List Pair)) (items : List Pair) (passes : List Pair → Bool) →
    o ≡ cond (numeric && known) (Some items) None →
    kind_of m false (not numeric) (not known) false (option_map_or passes o false)
    ≡ kind_of m false (not numeric) (not known) false (passes items)
all_pairs m true true o items passes e = ap (λ (x : Option (List Pair)). kind_of m false false false false (option_map_or passes x false)) e
all_pairs m true false o items passes e = refl
all_pairs m false known o items passes e = refl

pub pairs_again : (number : Slot → List ℕ → Option ℕ) (words : List (List ℕ)) →
    pairs_at number (map (λ x. x.1) (pair_places words)) ≡ pairs_at number words
pairs_again number [] = refl
pairs_again number (w ∷ []) = refl
pairs_again number (t ∷ v ∷ words) =
    ap (λ (o : Option (List Pair)). of_two (λ p ps. p ∷ ps) (pair_at number t v) o) (pairs_again number words)

-- a wait, by the tests of its pairs
pub pairs_tested : (told : Told) (first : List ℕ) (words : List (List ℕ)) →
    is_of_block told (first ∷ words) ≡ true → block_form told (first ∷ words) ≡ Some WaitForm →
    hosts_fault told (first ∷ words)
    ≡ kind_of (not (plain_words (first ∷ words)) || not (list_all is_shaped (pair_places words))) false
    (not (list_all is_numeric (pair_places words))) (not (list_all (is_known (number_at told.rest)) (pair_places words)))
    false (option_map_or (λ ps. passes_block_limit told (TakeStep (Wait ps))) (pairs_at (number_at told.rest) words) false)
pairs_tested told first words of_block form =
    let number = number_at told.rest in
    let kind : Bool → Bool → Option FaultKind = λ named full. kind_of
    (not (plain_words (first ∷ words)) || not (list_all is_shaped (pair_places words))) false
    (not (list_all is_numeric (pair_places words))) (not (list_all (is_known number) (pair_places words))) named full in
    block_tested told (first ∷ words) of_block WaitForm form
    ∙ (λ i. kind (not (no_names (is_named told) words i))
    (option_map_or (passes_block_limit told) (option_map (λ ps. TakeStep (Wait ps)) (pairs_again number words i)) false))
    ∙ ap (kind false) (said_after (λ ps. TakeStep (Wait ps)) (passes_block_limit told) (pairs_at number words))

pub wait_kind : (told : Told) (first : List ℕ) (words : List (List ℕ)) (found : PairWords) →
    AreRead (number_at told.rest) words found → is_of_block told (first ∷ words) ≡ true →
    block_form told (first ∷ words) ≡ Some WaitForm →
    hosts_fault told (first ∷ words)
    ≡ kind_of (not (plain_words (first ∷ words)) || not found.shaped) false (not found.numeric) (not found.known) false
    (not (nat_lt (step_count told.threads) most_steps) || nat_lt most_pairs (length found.pairs.items))
wait_kind told first words found read of_block form =
    let number = number_at told.rest in
    let passes : List Pair → Bool = λ ps. passes_block_limit told (TakeStep (Wait ps)) in
    let plain = not (plain_words (first ∷ words)) in
    pairs_tested told first words of_block form
    ∙ (λ i. kind_of (plain || not (sym read.all_shaped i)) false (not (sym read.all_numeric i))
    (not (sym read.all_known i)) false (option_map_or passes (pairs_at number words) false))
    ∙ all_pairs (plain || not found.shaped) found.numeric found.known (pairs_at number words) found.pairs.items passes
    read.all_pairs

pub end_kind : (told : Told) (first : List ℕ) → is_of_block told (first ∷ []) ≡ true →
    block_form told (first ∷ []) ≡ Some EndForm →
    hosts_fault told (first ∷ []) ≡ kind_of (not (plain_words (first ∷ []))) false false false false false
end_kind told first of_block form =
    block_tested told (first ∷ []) of_block EndForm form
    ∙ ap (λ (b : Bool). kind_of b false false false false false) (or_false (not (plain_words (first ∷ []))))

-- a number isn't below another where that is at most it
pub not_below : (a b : ℕ) → not (nat_lt a b) ≡ nat_le b a
not_below a b = grind (arith, nat_tests)
