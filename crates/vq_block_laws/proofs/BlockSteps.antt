-- What the lines of blocks say, where they have no fault.
use Rattle.std.proofs.Common.{ℕ, ◌≡◌, ◌<◌, ◌≤◌, ◌+◌, Bool, true, false, not, ◌&&◌, ◌||◌, cond, List, [], ◌∷◌, length, map, Option, Some, None, refl, sym, ap, ◌∙◌, subst}
use Rattle.std.specs.Prelude.{find, nat_lt}
use Rattle.std.specs.List.{AllByRecursion as Every, list_all}
use Rattle.std.specs.Option.{option_map_or, option_and_then}
use Rattle.std.specs.Str.{bytes_eq}
use Rattle.std.proofs.lemmas.Bool.{and_parts, or_parts, ltb-false, not-true, not-false}
use Rattle.vq_ground.proofs.Positions.{found_at}
use Rattle.vq_ground.proofs.Options.{some_of}
use Rattle.vq_model.specs.declared.script.Pair.{Pair}
use Rattle.vq_model.specs.declared.script.Semaphore.{Semaphore}
use Rattle.vq_model.specs.declared.statement.FaultKind.{FaultKind}
use Rattle.vq_model.specs.declared.statement.FaultKind.TheVariants.{Syntax, Order, Number, Name, Twice, Range, Overlap, Limit}
use Rattle.vq_model.specs.declared.statement.Line.{Line}
use Rattle.vq_model.specs.Context.{number_at, semaphores, queues, is_timeline}
use Rattle.vq_model.specs.Forms.{Slot, TimelineName}
use Rattle.vq_model.specs.LineFaults.{kinds, is_new, is_shaped}
use Rattle.vq_model.specs.Meaning.{of_two, open_places, pair_at, pairs_at}
use Rattle.vq_model.specs.Text.{is_name, is_plain, numeral}
use Rattle.vq_reading_laws.proofs.Cited.{below, first_fails}
use Rattle.vq_canonical_laws.specs.FormatRules.{IsOfKindIn, IsTimed}
use Rattle.vq_canonical_laws.proofs.Cited.{numeral_below}
use Rattle.vq_blocks.specs.declared.block.BlockForm.{BlockForm}
use Rattle.vq_blocks.specs.declared.block.BlockForm.TheVariants.{ThreadForm, WaitForm, SignalForm, EndForm}
use Rattle.vq_blocks.specs.declared.block.BlockStatement.{BlockStatement}
use Rattle.vq_blocks.specs.declared.block.BlockStatement.TheVariants.{BeginThread, TakeStep, EndThread}
use Rattle.vq_blocks.specs.declared.block.ThreadStep.{ThreadStep}
use Rattle.vq_blocks.specs.declared.block.ThreadStep.TheVariants.{Wait, Signal}
use Rattle.vq_blocks.specs.BlockForms.{block_places, block_statement}
use Rattle.vq_blocks.specs.BlockFaults.{begins_thread, fails_block, has_block_fault, most_lanes, most_pairs, most_steps, passes_block_limit}
use Rattle.vq_blocks.specs.Blocks.{Told, block_form, block_meaning, is_named, step_count, waited_by}

-- Kinds of faults

-- a line that has no fault of any kind
pub record IsClear (p : FaultKind → Bool) : Type 0 where
  pub shaped : p Syntax ≡ false
  pub ordered : p Order ≡ false
  pub numeric : p Number ≡ false
  pub known : p Name ≡ false
  pub fresh : p Twice ≡ false
  pub ranged : p Range ≡ false
  pub apart : p Overlap ≡ false
  pub limited : p Limit ≡ false

pub none_found : (p : FaultKind → Bool) → find p kinds ≡ None → IsClear p
none_found p h =
    let one = first_fails p Syntax (Order ∷ Number ∷ Name ∷ Twice ∷ Range ∷ Overlap ∷ Limit ∷ []) h in
    let two = first_fails p Order (Number ∷ Name ∷ Twice ∷ Range ∷ Overlap ∷ Limit ∷ []) one.1 in
    let three = first_fails p Number (Name ∷ Twice ∷ Range ∷ Overlap ∷ Limit ∷ []) two.1 in
    let four = first_fails p Name (Twice ∷ Range ∷ Overlap ∷ Limit ∷ []) three.1 in
    let five = first_fails p Twice (Range ∷ Overlap ∷ Limit ∷ []) four.1 in
    let six = first_fails p Range (Overlap ∷ Limit ∷ []) five.1 in
    let seven = first_fails p Overlap (Limit ∷ []) six.1 in
    let eight = first_fails p Limit [] seven.1 in
    record {
      shaped = one.0;
      ordered = two.0;
      numeric = three.0;
      known = four.0;
      fresh = five.0;
      ranged = six.0;
      apart = seven.0;
      limited = eight.0;
    }

pub clear_none : (p : FaultKind → Bool) → IsClear p → find p kinds ≡ None
clear_none p c = λ i.
    cond (c.shaped i) (Some Syntax)
    (cond (c.ordered i) (Some Order)
    (cond (c.numeric i) (Some Number)
    (cond (c.known i) (Some Name)
    (cond (c.fresh i) (Some Twice)
    (cond (c.ranged i) (Some Range) (cond (c.apart i) (Some Overlap) (cond (c.limited i) (Some Limit) None)))))))

-- Steps

-- the pairs of a step name timelines and hold values of 64 bits, and are few
abbrev pub IsTimedStep : List Semaphore → ThreadStep → Type 0
IsTimedStep ss (Wait pairs) = Every (IsTimed ss) pairs × (length pairs ≤ most_pairs)
IsTimedStep ss (Signal pair) = IsTimed ss pair

module _ (before : List Line) where
  timeline_there : (name : List ℕ) (t : ℕ) → number_at before TimelineName name ≡ Some t →
      IsOfKindIn is_timeline (semaphores before) t
  timeline_there name t e =
      let found =
      found_at (λ x. bytes_eq name x.name && is_timeline x.kind) (semaphores before) t e in
      record {
        semaphore = found.0;
        there = found.1;
        tested = (and_parts (bytes_eq name found.0.name) (is_timeline found.0.kind) found.2).1;
      }

  pair_timed : (name value : List ℕ) (t v : Option ℕ) (pair : Pair) → number_at before TimelineName name ≡ t →
      numeral value ≡ v → of_two (λ x y. record { semaphore = x; value = y }) t v ≡ Some pair →
      IsTimed (semaphores before) pair
  pair_timed name value None v pair e f i = absurd (let c : None ≡ Some pair = i in cc)
  pair_timed name value (Some t) None pair e f i = absurd (let c : None ≡ Some pair = i in cc)
  pair_timed name value (Some t) (Some v) pair e f i =
      let one : Pair = record { semaphore = t; value = v } in
      let same : one ≡ pair = cc in
      subst (IsTimed (semaphores before)) same (timeline_there name t e, numeral_below value v f)

  pairs_timed : (words : List (List ℕ)) (pairs : List Pair) → pairs_at (number_at before) words ≡ Some pairs →
      Every (IsTimed (semaphores before)) pairs
  pairs_timed [] pairs i =
      let same : [] ≡ pairs = cc in subst (Every (IsTimed (semaphores before))) same tt
  pairs_timed (name ∷ []) pairs i =
      let same : [] ≡ pairs = cc in subst (Every (IsTimed (semaphores before))) same tt
  pairs_timed (name ∷ value ∷ words) pairs i =
      by_parts (pair_at (number_at before) name value) (pairs_at (number_at before) words) refl refl i
      (pairs_timed words)
    where
      by_parts : (a : Option Pair) (b : Option (List Pair)) → pair_at (number_at before) name value ≡ a →
          pairs_at (number_at before) words ≡ b → of_two (λ (x : Pair) (xs : List Pair). x ∷ xs) a b ≡ Some pairs →
          ((qs : List Pair) → pairs_at (number_at before) words ≡ Some qs → Every (IsTimed (semaphores before)) qs) →
          Every (IsTimed (semaphores before)) pairs
      by_parts None b e f i more = absurd (let c : None ≡ Some pairs = i in cc)
      by_parts (Some a) None e f i more = absurd (let c : None ≡ Some pairs = i in cc)
      by_parts (Some a) (Some qs) e f i more =
          let same : a ∷ qs ≡ pairs = cc in
          subst (Every (IsTimed (semaphores before))) same (
            pair_timed name value (number_at before TimelineName name) (numeral value) a refl refl e,
            more qs f,
          )

  -- what the words of a step say
  step_timed : (f : BlockForm) (words : List (List ℕ)) (step : ThreadStep) →
      block_statement (number_at before) f words ≡ Some (TakeStep step) →
      length (waited_by step) ≤ most_pairs → IsTimedStep (semaphores before) step
  step_timed WaitForm words step e few =
      let found = some_of (λ ps. TakeStep (Wait ps)) (pairs_at (number_at before) words) (TakeStep step) e in
      let made : TakeStep (Wait found.0) ≡ TakeStep step = found.2 in
      let same : Wait found.0 ≡ step = cc in
      subst (λ (s : ThreadStep). length (waited_by s) ≤ most_pairs → IsTimedStep (semaphores before) s) same
      (λ l. (pairs_timed words found.0 found.1, l)) few
  step_timed SignalForm (name ∷ value ∷ []) step e few =
      let found =
      some_of (λ p. TakeStep (Signal p)) (pair_at (number_at before) name value) (TakeStep step) e in
      let made : TakeStep (Signal found.0) ≡ TakeStep step = found.2 in
      let same : Signal found.0 ≡ step = cc in
      subst (IsTimedStep (semaphores before)) same
      (pair_timed name value (number_at before TimelineName name) (numeral value) found.0 refl refl found.1)
  step_timed ThreadForm (name ∷ []) step e few =
      absurd (let c : Some (BeginThread name) ≡ Some (TakeStep step) = e in cc)
  step_timed EndForm [] step e few = absurd (let c : Some EndThread ≡ Some (TakeStep step) = e in cc)
  step_timed f words step e few = absurd (let c : None ≡ Some (TakeStep step) = e in cc)

-- Threads

-- no other form begins a thread
never_begins : (number : Slot → List ℕ → Option ℕ) (f : BlockForm) (words : List (List ℕ)) (name : List ℕ) →
    begins_thread f ≡ false → block_statement number f words ≡ Some (BeginThread name) → ⊥
never_begins number ThreadForm words name h e = let c : true ≡ false = h in cc
never_begins number WaitForm words name h e =
    let found = some_of (λ ps. TakeStep (Wait ps)) (pairs_at number words) (BeginThread name) e in
    let c : TakeStep (Wait found.0) ≡ BeginThread name = found.2 in
    cc
never_begins number SignalForm (a ∷ b ∷ []) name h e =
    let found = some_of (λ p. TakeStep (Signal p)) (pair_at number a b) (BeginThread name) e in
    let c : TakeStep (Signal found.0) ≡ BeginThread name = found.2 in
    cc
never_begins number EndForm [] name h e = let c : Some EndThread ≡ Some (BeginThread name) = e in cc
never_begins number f words name h e = let c : None ≡ Some (BeginThread name) = e in cc

-- a thread that a line begins has a new name
thread_named : (told : Told) (f : BlockForm) (words : List (List ℕ)) (name : List ℕ) →
    block_statement (number_at told.rest) f (map (λ x. x.1) (open_places (block_places f) words))
    ≡ Some (BeginThread name) → fails_block is_shaped words f ≡ false →
    fails_block (is_new (is_named told)) words f ≡ false →
    (is_name name ≡ true) × (is_named told name ≡ false)
thread_named told ThreadForm [] name e s n = absurd (let c : None ≡ Some (BeginThread name) = e in cc)
thread_named told ThreadForm (a ∷ []) name e s n = absurd (let c : None ≡ Some (BeginThread name) = e in cc)
thread_named told ThreadForm (a ∷ b ∷ words) name e s n =
    let said : Some (BeginThread b) ≡ Some (BeginThread name) = e in
    let same : b ≡ name = cc in
    subst (λ (w : List ℕ). (is_name w ≡ true) × (is_named told w ≡ false)) same (
      (and_parts (is_name b) true (not-false (is_name b && true) s)).0,
      not-true (is_named told b)
          (and_parts (not (is_named told b)) true (not-false (not (is_named told b) && true) n)).0,
    )
thread_named told WaitForm words name e s n =
    absurd (never_begins (number_at told.rest) WaitForm
    (map (λ x. x.1) (open_places (block_places WaitForm) words)) name refl e)
thread_named told SignalForm words name e s n =
    absurd (never_begins (number_at told.rest) SignalForm
    (map (λ x. x.1) (open_places (block_places SignalForm) words)) name refl e)
thread_named told EndForm words name e s n =
    absurd (never_begins (number_at told.rest) EndForm
    (map (λ x. x.1) (open_places (block_places EndForm) words)) name refl e)

-- Lines

-- What a line of a block says that has no fault.
abbrev pub BlockSays : Told → BlockStatement → Type 0
BlockSays told (BeginThread name) =
    (is_name name ≡ true) × (is_named told name ≡ false)
    × (length (queues told.rest) + length told.threads < most_lanes)
BlockSays told (TakeStep step) =
    IsTimedStep (semaphores told.rest) step × (step_count told.threads < most_steps)
BlockSays told EndThread = Unit {0}

pub block_says : (told : Told) (words : List (List ℕ)) (s : BlockStatement) →
    find (has_block_fault told words) kinds ≡ None → block_meaning told words ≡ Some s → BlockSays told s
block_says told words s h e =
    let c = none_found (has_block_fault told words) h in
    let limit : passes_block_limit told s ≡ false =
    sym (ap (λ (o : Option BlockStatement). option_map_or (passes_block_limit told) o false) e) ∙ c.limited in
    by_form (block_form told words) s c.shaped c.fresh limit e
  where
    by_form : (o : Option BlockForm) (s : BlockStatement) →
        (not (list_all (list_all is_plain) words) || option_map_or (fails_block is_shaped words) o true) ≡ false →
        option_map_or (fails_block (is_new (is_named told)) words) o false ≡ false →
        passes_block_limit told s ≡ false →
        option_and_then (λ f. block_statement (number_at told.rest) f
        (map (λ x. x.1) (open_places (block_places f) words))) o ≡ Some s → BlockSays told s
    by_form None s shaped fresh limit e = absurd (let c : None ≡ Some s = e in cc)
    by_form (Some f) (BeginThread name) shaped fresh limit e =
        let plain = or_parts (not (list_all (list_all is_plain) words)) (fails_block is_shaped words f) shaped in
        let named = thread_named told f words name e plain.1 fresh in
        (named.0, named.1, below (length (queues told.rest) + length told.threads) most_lanes limit)
    by_form (Some f) (TakeStep step) shaped fresh limit e =
        let limits =
        or_parts (not (nat_lt (step_count told.threads) most_steps)) (nat_lt most_pairs (length (waited_by step)))
        limit in (
          step_timed told.rest f (map (λ x. x.1) (open_places (block_places f) words)) step e
              (ltb-false most_pairs (length (waited_by step)) limits.1),
          below (step_count told.threads) most_steps limits.0,
        )
    by_form (Some f) EndThread shaped fresh limit e = tt
