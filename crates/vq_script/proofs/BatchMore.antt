-- The lines of the open batch, with one line more.
use Rattle.std.proofs.Common.{◌≡◌, ℕ, ◌+◌, ◌≤◌, Bool, true, false, cond, ◌||◌, List, [], ◌∷◌, ◌++◌, length, Option, Some, None, arith, refl, sym, ap, ◌∙◌, nat_lt}
use Rattle.std.specs.Prelude.{is_some}
use Rattle.std.proofs.lemmas.List.{length-append}
use Rattle.std.proofs.lemmas.Bool.{le-ltb}
use Rattle.std.proofs.lemmas.List.Folds.{list_any-append}
use Rattle.std.proofs.lemmas.Bool.Decides.{nat_tests}
use Rattle.vq_model.specs.declared.statement.Line.{Line}
use Rattle.vq_model.specs.declared.statement.Statement.TheVariants.{AddWait, AddCommand, AddSignal, AddFence}
use Rattle.vq_model.specs.declared.script.Pair.{Pair}
use Rattle.vq_model.specs.declared.script.Batch.{Batch}
use Rattle.vq_model.specs.declared.script.Mark.{Mark}
use Rattle.vq_model.specs.declared.script.Command.{Command}
use Rattle.vq_model.specs.declared.script.CommandLine.{CommandLine}
use Rattle.vq_model.specs.Context.{is_wait, is_command, is_signal, is_batch_fence}
use Rattle.vq_model.specs.Context.{part_of, held_from}
use Rattle.vq_model.specs.ScriptOfLines.{mark}
use Rattle.vq_ground.proofs.Bools.{or_false}
use Rattle.vq_script.specs.SaidLines.{waiting, commanding, signaling, fenced, started}
use Rattle.vq_script.specs.Holds.{FillBatch, waits_of, commands_of, signals_of, named_fence, last_part, last_part_by, waits_past}
use Rattle.vq_script.proofs.LineMore.{numbered, count_more, some_more, later_part}

-- no line of a batch
pub fill_nothing : FillBatch [] None
fill_nothing =
    record {
      all_waits = refl;
      all_commands = refl;
      all_signals = refl;
      fences = refl;
      in_order = λ n. sym (le-ltb n 0 (omega arith));
      held = λ n. refl;
    }

pub fill_started : (n queue : ℕ) → FillBatch [] (Some (started n queue))
fill_started n queue =
    record {
      all_waits = refl;
      all_commands = refl;
      all_signals = refl;
      fences = refl;
      in_order = λ n. sym (le-ltb n 0 (omega arith));
      held = λ n. refl;
    }

-- one line more, from what it adds to the batch
pub fill_more : (inside : List Line) (l : Line) (was now : Option Batch) → FillBatch inside was →
    length (waits_of now) ≡ length (waits_of was) + cond (is_wait l.statement) 1 0 →
    length (commands_of now) ≡ length (commands_of was) + cond (is_command l.statement) 1 0 →
    length (signals_of now) ≡ length (signals_of was) + cond (is_signal l.statement) 1 0 →
    is_some (named_fence now) ≡ (is_some (named_fence was) || is_batch_fence l.statement) →
    ((n : ℕ) → nat_lt n (last_part now) ≡ (nat_lt n (last_part was) || nat_lt n (part_of l.statement))) →
    ((n : ℕ) → waits_past n (waits_of now) ≡ (waits_past n (waits_of was) || nat_lt n (held_from l.statement))) →
    FillBatch (inside ++ l ∷ []) now
fill_more inside l was now h waits commands signals fences order held =
    record {
      all_waits = (
          let more = count_more is_wait inside l in
          let before = h.all_waits in omega arith
          );
      all_commands = (
          let more = count_more is_command inside l in
          let before = h.all_commands in omega arith
          );
      all_signals = (
          let more = count_more is_signal inside l in
          let before = h.all_signals in omega arith
          );
      fences = some_more is_batch_fence inside l
          ∙ ap (λ b. b || is_batch_fence l.statement) h.fences ∙ sym fences;
      in_order = λ n. some_more (λ s. nat_lt n (part_of s)) inside l
          ∙ ap (λ b. b || nat_lt n (part_of l.statement)) (h.in_order n) ∙ sym (order n);
      held = λ n. some_more (λ s. nat_lt n (held_from s)) inside l
          ∙ ap (λ b. b || nat_lt n (held_from l.statement)) (h.held n) ∙ sym (held n);
    }

-- a line that is no wait holds nothing back
pub none_held : (n : ℕ) (waits : List Mark) → waits_past n waits ≡ (waits_past n waits || nat_lt n 0)
none_held n waits =
    sym (or_false (waits_past n waits)) ∙ ap (λ b. waits_past n waits || b) (sym (le-ltb n 0 (omega arith)))

-- one thing more
some_length : {X : Type 0} (xs : List X) (x : X) → nat_lt 0 (length (xs ++ x ∷ [])) ≡ true
some_length xs x =
    let long = length-append xs (x ∷ []) in
    grind (arith, nat_tests)

-- the last part of a batch, after a wait, a command, a signal and a fence

after_wait : (w c s f : Bool) → nat_lt 1 (last_part_by w c s f) ≡ false →
    (last_part_by w c s f ≤ 1) × (last_part_by true c s f ≡ 1)
after_wait w c s true h = absurd (cc)
after_wait w c true false h = absurd (cc)
after_wait w true false false h = absurd (cc)
after_wait true false false false h = (omega arith, refl)
after_wait false false false false h = (omega arith, refl)

after_command : (w c s f : Bool) → nat_lt 2 (last_part_by w c s f) ≡ false →
    (last_part_by w c s f ≤ 2) × (last_part_by w true s f ≡ 2)
after_command w c s true h = absurd (cc)
after_command w c true false h = absurd (cc)
after_command w true false false h = (omega arith, refl)
after_command true false false false h = (omega arith, refl)
after_command false false false false h = (omega arith, refl)

after_signal : (w c s f : Bool) → nat_lt 3 (last_part_by w c s f) ≡ false →
    (last_part_by w c s f ≤ 3) × (last_part_by w c true f ≡ 3)
after_signal w c s true h = absurd (cc)
after_signal w c true false h = (omega arith, refl)
after_signal w true false false h = (omega arith, refl)
after_signal true false false false h = (omega arith, refl)
after_signal false false false false h = (omega arith, refl)

before_fence : (w c s f : Bool) → last_part_by w c s f ≤ 4
before_fence w c s true = omega arith
before_fence w c true false = omega arith
before_fence w true false false = omega arith
before_fence true false false false = omega arith
before_fence false false false false = omega arith

pub most_parts : (batch : Option Batch) → last_part batch ≤ 4
most_parts batch =
    before_fence (nat_lt 0 (length (waits_of batch))) (nat_lt 0 (length (commands_of batch)))
    (nat_lt 0 (length (signals_of batch))) (is_some (named_fence batch))

-- the lines of the batch with a line more

pub fill_wait : (inside : List Line) (n : ℕ) (pair : Pair) (from : ℕ) (b : Batch) →
    FillBatch inside (Some b) → nat_lt 1 (last_part (Some b)) ≡ false →
    FillBatch (inside ++ numbered n (AddWait pair from) ∷ []) (Some (waiting b n pair from))
fill_wait inside n pair from b h fits =
    let after = after_wait (nat_lt 0 (length b.waits)) (nat_lt 0 (length b.commands))
    (nat_lt 0 (length b.signals)) (is_some b.fence) fits in
    let part : last_part (Some (waiting b n pair from)) ≡ 1 =
    ap (λ w. last_part_by w (nat_lt 0 (length b.commands)) (nat_lt 0 (length b.signals))
    (is_some b.fence)) (some_length b.waits (mark n pair from)) ∙ after.1 in
    fill_more inside (numbered n (AddWait pair from)) (Some b) (Some (waiting b n pair from)) h
    (length-append b.waits (mark n pair from ∷ []))
    (omega arith)
    (omega arith)
    (sym (or_false (is_some b.fence)))
    (λ m. ap (nat_lt m) part ∙ later_part m (last_part (Some b)) 1 after.0)
    (λ m. list_any-append (λ (x : Mark). nat_lt m x.from) b.waits (mark n pair from ∷ [])
    ∙ ap (λ t. waits_past m b.waits || t) (or_false (nat_lt m from)))

pub fill_command : (inside : List Line) (n : ℕ) (command : Command) (b : Batch) →
    FillBatch inside (Some b) → nat_lt 2 (last_part (Some b)) ≡ false →
    FillBatch (inside ++ numbered n (AddCommand command) ∷ []) (Some (commanding b n command))
fill_command inside n command b h fits =
    let after = after_command (nat_lt 0 (length b.waits)) (nat_lt 0 (length b.commands))
    (nat_lt 0 (length b.signals)) (is_some b.fence) fits in
    let line : CommandLine = record { line = n; command = command } in
    let part : last_part (Some (commanding b n command)) ≡ 2 =
    ap (λ c. last_part_by (nat_lt 0 (length b.waits)) c (nat_lt 0 (length b.signals))
    (is_some b.fence)) (some_length b.commands line) ∙ after.1 in
    fill_more inside (numbered n (AddCommand command)) (Some b) (Some (commanding b n command)) h
    (omega arith)
    (length-append b.commands (line ∷ []))
    (omega arith)
    (sym (or_false (is_some b.fence)))
    (λ m. ap (nat_lt m) part ∙ later_part m (last_part (Some b)) 2 after.0)
    (λ m. none_held m b.waits)

pub fill_signal : (inside : List Line) (n : ℕ) (pair : Pair) (b : Batch) →
    FillBatch inside (Some b) → nat_lt 3 (last_part (Some b)) ≡ false →
    FillBatch (inside ++ numbered n (AddSignal pair) ∷ []) (Some (signaling b n pair))
fill_signal inside n pair b h fits =
    let after = after_signal (nat_lt 0 (length b.waits)) (nat_lt 0 (length b.commands))
    (nat_lt 0 (length b.signals)) (is_some b.fence) fits in
    let part : last_part (Some (signaling b n pair)) ≡ 3 =
    ap (λ s. last_part_by (nat_lt 0 (length b.waits)) (nat_lt 0 (length b.commands)) s
    (is_some b.fence)) (some_length b.signals (mark n pair 1)) ∙ after.1 in
    fill_more inside (numbered n (AddSignal pair)) (Some b) (Some (signaling b n pair)) h
    (omega arith)
    (omega arith)
    (length-append b.signals (mark n pair 1 ∷ []))
    (sym (or_false (is_some b.fence)))
    (λ m. ap (nat_lt m) part ∙ later_part m (last_part (Some b)) 3 after.0)
    (λ m. none_held m b.waits)

pub fill_fence : (inside : List Line) (n fence : ℕ) (b : Batch) → FillBatch inside (Some b) →
    FillBatch (inside ++ numbered n (AddFence fence) ∷ []) (Some (fenced b n fence))
fill_fence inside n fence b h =
    fill_more inside (numbered n (AddFence fence)) (Some b) (Some (fenced b n fence)) h
    (omega arith)
    (omega arith)
    (omega arith)
    (sym (or_true (is_some b.fence)))
    (λ m. later_part m (last_part (Some b)) 4 (most_parts (Some b)))
    (λ m. none_held m b.waits)
  where
    or_true : (x : Bool) → (x || true) ≡ true
    or_true true = refl
    or_true false = refl
