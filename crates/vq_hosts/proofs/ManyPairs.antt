-- The fault of a wait with more pairs than a step may have.
use Rattle.std.proofs.Common.{◌≡◌, ◌<◌, ℕ, suc, ◌/◌, Bool, true, false, ◌||◌, not, List, [], ◌∷◌, length, Option, Some, None, refl, ap, ◌∙◌, nat_lt, arith}
use Rattle.std.specs.Prelude.{is_some}
use Rattle.std.specs.List.{list_all}
use Rattle.std.specs.Option.{option_map, option_map_or}
use Rattle.std.proofs.lemmas.Bool.{and_parts, or_right}
use Rattle.std.proofs.lemmas.Bool.Decides.{nat_tests}
use Rattle.vq_model.specs.declared.script.Pair.{Pair}
use Rattle.vq_model.specs.Context.{number_at}
use Rattle.vq_model.specs.Forms.{Slot, TimelineName}
use Rattle.vq_model.specs.LineFaults.{is_known, is_numeric, is_shaped}
use Rattle.vq_model.specs.Meaning.{of_two, pair_places, pairs_at}
use Rattle.vq_model.specs.Text.{numeral}
use Rattle.vq_blocks.specs.declared.block.BlockForm.TheVariants.{WaitForm}
use Rattle.vq_blocks.specs.BlockFaults.{hosts_fault, most_pairs, most_steps}
use Rattle.vq_blocks.specs.Blocks.{Told, block_form, is_of_block, step_count}
use Rattle.vq_hosts.proofs.BlockKinds.{kind_of, plain_words, pairs_tested}

-- a pair more, whose name and value are read
with_pair : (t v : Option ℕ) (make : ℕ → ℕ → Pair) (rest : Option (List Pair)) → is_some t ≡ true → is_some v ≡ true →
    option_map (λ ps. length ps) (of_two (λ (p : Pair) (ps : List Pair). p ∷ ps) (of_two make t v) rest)
    ≡ option_map (λ n. suc n) (option_map (λ ps. length ps) rest)
with_pair None v make rest a b = absurd (cc)
with_pair (Some t) None make rest a b = absurd (cc)
with_pair (Some t) (Some v) make None a b = refl
with_pair (Some t) (Some v) make (Some ps) a b = refl

-- words of which all are read are half as many pairs
counted : (number : Slot → List ℕ → Option ℕ) (words : List (List ℕ)) →
    list_all is_numeric (pair_places words) ≡ true → list_all (is_known number) (pair_places words) ≡ true →
    option_map (λ ps. length ps) (pairs_at number words) ≡ Some (length words / 2)
counted number [] n k = refl
counted number (name ∷ []) n k = refl
counted number (name ∷ value ∷ words) n k =
    let ns = and_parts (is_some (numeral value)) (list_all is_numeric (pair_places words)) n in
    let ks = and_parts (is_some (number TimelineName name)) (list_all (is_known number) (pair_places words)) k in
    let half : suc (length words / 2) ≡ length (name ∷ value ∷ words) / 2 = omega arith in
    with_pair (number TimelineName name) (numeral value) (λ t v. record { semaphore = t; value = v })
    (pairs_at number words) ks.0 ns.0
    ∙ ap (λ (o : Option ℕ). option_map (λ n. suc n) o) (counted number words ns.1 ks.1)
    ∙ ap (λ (m : ℕ). Some m) half

-- so many pass the limit
past : (full : Bool) (pairs : Option (List Pair)) (many : ℕ) → option_map (λ ps. length ps) pairs ≡ Some many →
    16 < many → option_map_or (λ ps. full || nat_lt most_pairs (length ps)) pairs false ≡ true
past full None many e h = absurd (cc)
past full (Some ps) many e h =
    let same : length ps ≡ many = cc in
    let more : nat_lt most_pairs (length ps) ≡ true = grind (arith, nat_tests) in
    or_right full (nat_lt most_pairs (length ps)) more

-- the limit counts only where all are read
by_limit : (misshapen numeric known full : Bool) → (numeric ≡ true → known ≡ true → full ≡ true) →
    kind_of misshapen false (not numeric) (not known) false full
    ≡ kind_of misshapen false (not numeric) (not known) false true
by_limit m true true full h = ap (λ (b : Bool). kind_of m false false false false b) (h refl refl)
by_limit m true false full h = refl
by_limit m false known full h = refl

pub many_tested : (told : Told) (first : List ℕ) (words : List (List ℕ)) → is_of_block told (first ∷ words) ≡ true →
    block_form told (first ∷ words) ≡ Some WaitForm → 16 < length words / 2 →
    hosts_fault told (first ∷ words)
    ≡ kind_of (not (plain_words (first ∷ words)) || not (list_all is_shaped (pair_places words))) false
    (not (list_all is_numeric (pair_places words))) (not (list_all (is_known (number_at told.rest)) (pair_places words)))
    false true
many_tested told first words of_block form many =
    pairs_tested told first words of_block form
    ∙ by_limit _ (list_all is_numeric (pair_places words)) (list_all (is_known (number_at told.rest)) (pair_places words)) _
    (λ n k. past (not (nat_lt (step_count told.threads) most_steps)) (pairs_at (number_at told.rest) words)
    (length words / 2) (counted (number_at told.rest) words n k) many)
