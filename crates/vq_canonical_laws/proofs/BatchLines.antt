-- The canonical lines of waits, signals and fences, and of the end of a batch, are read.
use Rattle.std.proofs.Common.{◌≡◌, ℕ, ◌+◌, ◌^◌, ◌<◌, true, false, not, ◌&&◌, ◌||◌, List, [], ◌∷◌, Option, Some, option_map, refl, sym, ap, ◌∙◌, subst, arith}
use Rattle.std.specs.Prelude.{nat_lt, is_some, codes}
use Rattle.std.specs.List.{slice_get, list_any}
use Rattle.std.specs.Option.{option_map_or}
use Rattle.std.specs.Str.{bytes_eq}
use Rattle.std.specs.Fmt.{decimal}
use Rattle.std.proofs.lemmas.Bool.{and_from, or_from, lt-ltb}
use Rattle.vq_model.specs.declared.statement.Form.{Form}
use Rattle.vq_model.specs.declared.statement.Section.TheVariants.{InBatch}
use Rattle.vq_model.specs.declared.statement.Statement.TheVariants.{AddWait, AddSignal, AddFence, EndBatch}
use Rattle.vq_model.specs.declared.statement.Line.{Line}
use Rattle.vq_model.specs.declared.statement.LineForm.TheVariants.{WaitTimelineLine, WaitBinaryLine, SignalTimelineLine, SignalBinaryLine, BatchFenceLine, EndLine}
use Rattle.vq_model.specs.declared.script.Semaphore.{Semaphore}
use Rattle.vq_model.specs.declared.script.SemaphoreKind.{SemaphoreKind}
use Rattle.vq_model.specs.declared.script.SemaphoreKind.TheVariants.{Timeline, Binary, Fence}
use Rattle.vq_model.specs.declared.script.Pair.{Pair}
use Rattle.vq_model.specs.Text.{is_name}
use Rattle.vq_model.specs.Context.{section, is_timeline, is_binary, is_fence, open_batch, is_wait, is_command, is_signal, is_batch_fence, count, some, held_from}
use Rattle.vq_model.specs.Meaning.{of_two, binary_pair}
use Rattle.vq_model.specs.ScriptOfLines.{mark}
use Rattle.vq_model.specs.Canonical.{signal_words, fence_words, marked_words}
use Rattle.vq_model.specs.declared.limits.Limits.{Limits}
use Rattle.vq_model.specs.Context.{number_at, part_of}
use Rattle.vq_model.specs.Forms.{TimelineName, BinaryName, FenceName}
use Rattle.vq_canonical_laws.proofs.LineTests.{PassesTests, read_tested}
use Rattle.vq_canonical_laws.proofs.SaidContext.{most_before, most_said, timeline_at_said, binary_at_said, fence_at_said, some_said, count_said}
use Rattle.vq_canonical_laws.proofs.WrittenTexts.{are_text_words}
use Rattle.vq_canonical_laws.proofs.WrittenNumbers.{decimal_back, decimal_word}
use Rattle.vq_canonical_laws.proofs.NamedParts.{AreNamed, name_word, position_of_both}
use Rattle.vq_canonical_laws.proofs.ScriptParts.{Parts, MayItem, MayEnd, TakesValue, Say, part_of_batch}
use Rattle.vq_canonical_laws.proofs.LineWords.{declared_script, ReadsAs, words_plain, words_of_three, words_of_two, not_over, form_inside, in_part}

module _ (form : Form) (before : List Line) (p : Parts) (h : Say before p) (named : AreNamed p) where
  -- the end of a batch
  pub end_reads : MayEnd p → ReadsAs form before (codes "end" ∷ []) EndBatch
  end_reads m =
      let tests : PassesTests form before (codes "end" ∷ []) EndLine EndBatch =
      record {
        found =
            form_inside form before (codes "end" ∷ []) (Some EndLine)
            (h.part ∙ ap part_of_batch m.inside) refl refl;
        plain = refl;
        shaped = refl;
        in_order = in_part before p h m.told m.inside 5 m.in_order;
        numeric = refl;
        known = refl;
        fresh = refl;
        said = refl;
        ranged =
            ap not (some_said before p h m.told m.inside
            (λ x. nat_lt (count is_command (open_batch before) + 1) (held_from x))
            ∙ (ap (λ (k : ℕ). list_any (λ x. nat_lt (k + 1) (held_from x)) m.told.1)
            (count_said before p h m.told m.inside is_command)
            ∙ m.near));
        apart = refl;
        limited = refl;
      } in
      record {
        are_words = refl;
        reads = λ n. read_tested form before n (codes "end") [] EndLine EndBatch tests;
      }

  -- Waits, signals and fences

  -- what a wait passes beside its semaphore
  pub record PassesAsWait (from : ℕ) : Type 0 where
    pub part : section before ≡ InBatch
    pub in_order : (some (λ s. nat_lt 1 (part_of s)) (open_batch before) || false) ≡ false
    pub ranged : (nat_lt 0 from && nat_lt from ((most_before before).batch_commands + 2)) ≡ true
    pub limited : not (nat_lt (count is_wait (open_batch before)) (most_before before).waits) ≡ false

  pub wait_passes : (pair : Pair) (from : ℕ) → MayItem p (AddWait pair from) → PassesAsWait from
  wait_passes pair from m =
      let few = m.fits.few in
      let near = m.fits.near in
      let most = ap (λ (l : Limits). l.waits) (most_said before p h) in
      let most_of_batch = ap (λ (l : Limits). l.batch_commands) (most_said before p h) in
      let counted = count_said before p h m.told m.inside is_wait in
      record {
        part = h.part ∙ ap part_of_batch m.inside;
        in_order = in_part before p h m.told m.inside 1 m.in_order;
        ranged =
            and_from (nat_lt 0 from) (nat_lt from ((most_before before).batch_commands + 2))
            (lt-ltb 0 from m.fits.counted)
            (lt-ltb from ((most_before before).batch_commands + 2) (omega arith));
        limited = not_over (count is_wait (open_batch before)) (most_before before).waits (omega arith);
      }

  pub wait_timeline_reads : (name : List ℕ) (t v : ℕ) → is_name name ≡ true →
      number_at before TimelineName name ≡ Some t → v < 2 ^ 64 → PassesAsWait 1 →
      ReadsAs form before (codes "wait" ∷ name ∷ decimal v ∷ [])
      (AddWait (record { semaphore = t; value = v }) 1)
  wait_timeline_reads name t v is known small passes =
      let words : are_text_words (codes "wait" ∷ name ∷ decimal v ∷ []) ≡ true =
      words_of_three (codes "wait") name (decimal v) refl (name_word name is)
      (decimal_word v small) in
      let tests : PassesTests form before (codes "wait" ∷ name ∷ decimal v ∷ [])
      WaitTimelineLine (AddWait (record { semaphore = t; value = v }) 1) =
      record {
        found =
            form_inside form before (codes "wait" ∷ name ∷ decimal v ∷ []) (Some WaitTimelineLine)
            passes.part refl refl;
        plain = words_plain (codes "wait" ∷ name ∷ decimal v ∷ []) words;
        shaped = and_from (is_name name) true is refl;
        in_order = passes.in_order;
        numeric = λ i. is_some (decimal_back v small i) && true;
        known = λ i. is_some (known i) && true;
        fresh = refl;
        said = λ i.
            option_map (λ x. AddWait x 1)
            (of_two (λ y z. record { semaphore = y; value = z }) (known i)
            (decimal_back v small i));
        ranged = passes.ranged;
        apart = refl;
        limited = passes.limited;
      } in
      record {
        are_words = words;
        reads =
            λ n. read_tested form before n (codes "wait") (name ∷ decimal v ∷ [])
            WaitTimelineLine (AddWait (record { semaphore = t; value = v }) 1) tests;
      }

  pub wait_binary_reads : (name : List ℕ) (t : ℕ) → is_name name ≡ true →
      number_at before BinaryName name ≡ Some t → PassesAsWait 1 →
      ReadsAs form before (codes "wait" ∷ name ∷ []) (AddWait (binary_pair t) 1)
  wait_binary_reads name t is known passes =
      let words : are_text_words (codes "wait" ∷ name ∷ []) ≡ true =
      words_of_two (codes "wait") name refl (name_word name is) in
      let tests : PassesTests form before (codes "wait" ∷ name ∷ []) WaitBinaryLine
      (AddWait (binary_pair t) 1) =
      record {
        found =
            form_inside form before (codes "wait" ∷ name ∷ []) (Some WaitBinaryLine) passes.part
            refl refl;
        plain = words_plain (codes "wait" ∷ name ∷ []) words;
        shaped = and_from (is_name name) true is refl;
        in_order = passes.in_order;
        numeric = refl;
        known = λ i. is_some (known i) && true;
        fresh = refl;
        said = λ i. option_map (λ x. AddWait (binary_pair x) 1) (known i);
        ranged = passes.ranged;
        apart = refl;
        limited = passes.limited;
      } in
      record {
        are_words = words;
        reads =
            λ n. read_tested form before n (codes "wait") (name ∷ []) WaitBinaryLine
            (AddWait (binary_pair t) 1) tests;
      }

  -- what a signal passes beside its semaphore
  record PassesAsSignal : Type 0 where
    part : section before ≡ InBatch
    in_order : (some (λ s. nat_lt 3 (part_of s)) (open_batch before) || false) ≡ false
    limited : not (nat_lt (count is_signal (open_batch before)) (most_before before).signals) ≡ false

  signal_passes : (pair : Pair) → MayItem p (AddSignal pair) → PassesAsSignal
  signal_passes pair m =
      let few = m.fits.few in
      let most = ap (λ (l : Limits). l.signals) (most_said before p h) in
      let counted = count_said before p h m.told m.inside is_signal in
      record {
        part = h.part ∙ ap part_of_batch m.inside;
        in_order = in_part before p h m.told m.inside 3 m.in_order;
        limited = not_over (count is_signal (open_batch before)) (most_before before).signals (omega arith);
      }

  signal_timeline_reads : (name : List ℕ) (t v : ℕ) → is_name name ≡ true →
      number_at before TimelineName name ≡ Some t → v < 2 ^ 64 → PassesAsSignal →
      ReadsAs form before (codes "signal" ∷ name ∷ decimal v ∷ [])
      (AddSignal (record { semaphore = t; value = v }))
  signal_timeline_reads name t v is known small passes =
      let words : are_text_words (codes "signal" ∷ name ∷ decimal v ∷ []) ≡ true =
      words_of_three (codes "signal") name (decimal v) refl (name_word name is)
      (decimal_word v small) in
      let tests : PassesTests form before (codes "signal" ∷ name ∷ decimal v ∷ [])
      SignalTimelineLine (AddSignal (record { semaphore = t; value = v })) =
      record {
        found =
            form_inside form before (codes "signal" ∷ name ∷ decimal v ∷ [])
            (Some SignalTimelineLine) passes.part refl refl;
        plain = words_plain (codes "signal" ∷ name ∷ decimal v ∷ []) words;
        shaped = and_from (is_name name) true is refl;
        in_order = passes.in_order;
        numeric = λ i. is_some (decimal_back v small i) && true;
        known = λ i. is_some (known i) && true;
        fresh = refl;
        said = λ i.
            option_map (λ x. AddSignal x)
            (of_two (λ y z. record { semaphore = y; value = z }) (known i)
            (decimal_back v small i));
        ranged = refl;
        apart = refl;
        limited = passes.limited;
      } in
      record {
        are_words = words;
        reads =
            λ n. read_tested form before n (codes "signal") (name ∷ decimal v ∷ [])
            SignalTimelineLine (AddSignal (record { semaphore = t; value = v })) tests;
      }

  signal_binary_reads : (name : List ℕ) (t : ℕ) → is_name name ≡ true →
      number_at before BinaryName name ≡ Some t → PassesAsSignal →
      ReadsAs form before (codes "signal" ∷ name ∷ []) (AddSignal (binary_pair t))
  signal_binary_reads name t is known passes =
      let words : are_text_words (codes "signal" ∷ name ∷ []) ≡ true =
      words_of_two (codes "signal") name refl (name_word name is) in
      let tests : PassesTests form before (codes "signal" ∷ name ∷ []) SignalBinaryLine
      (AddSignal (binary_pair t)) =
      record {
        found =
            form_inside form before (codes "signal" ∷ name ∷ []) (Some SignalBinaryLine) passes.part
            refl refl;
        plain = words_plain (codes "signal" ∷ name ∷ []) words;
        shaped = and_from (is_name name) true is refl;
        in_order = passes.in_order;
        numeric = refl;
        known = λ i. is_some (known i) && true;
        fresh = refl;
        said = λ i. option_map (λ x. AddSignal (binary_pair x)) (known i);
        ranged = refl;
        apart = refl;
        limited = passes.limited;
      } in
      record {
        are_words = words;
        reads =
            λ n. read_tested form before n (codes "signal") (name ∷ []) SignalBinaryLine
            (AddSignal (binary_pair t)) tests;
      }

  -- a semaphore's name finds it
  pub timeline_there : (t : ℕ) (x : Semaphore) → slice_get p.semaphores t ≡ Some x →
      is_timeline x.kind ≡ true → number_at before TimelineName x.name ≡ Some t
  timeline_there t x there is =
      timeline_at_said before p h x.name
      ∙ position_of_both (λ y. bytes_eq x.name y.name) (λ y. is_timeline y.kind) p.semaphores t x
      (named.semaphore_names t x there).1 there is

  pub binary_there : (t : ℕ) (x : Semaphore) → slice_get p.semaphores t ≡ Some x →
      is_binary x.kind ≡ true → number_at before BinaryName x.name ≡ Some t
  binary_there t x there is =
      binary_at_said before p h x.name
      ∙ position_of_both (λ y. bytes_eq x.name y.name) (λ y. is_binary y.kind) p.semaphores t x
      (named.semaphore_names t x there).1 there is

  pub fence_there : (t : ℕ) (x : Semaphore) → slice_get p.semaphores t ≡ Some x →
      is_fence x.kind ≡ true → number_at before FenceName x.name ≡ Some t
  fence_there t x there is =
      fence_at_said before p h x.name
      ∙ position_of_both (λ y. bytes_eq x.name y.name) (λ y. is_fence y.kind) p.semaphores t x
      (named.semaphore_names t x there).1 there is

  -- a signal
  pub signal_reads : (pair : Pair) → MayItem p (AddSignal pair) →
      ReadsAs form before (signal_words (declared_script p) (mark 0 pair 1)) (AddSignal pair)
  signal_reads pair m =
      let known = m.fits.known in
      let x = known.semaphore in
      let name = named.semaphore_names pair.semaphore x known.there in
      subst (λ (z : Option Semaphore). ReadsAs form before
      (codes "signal" ∷ marked_words (option_map_or (λ y. y.name) z []) pair.value
      (option_map_or (λ y. y.kind) z Binary)) (AddSignal pair)) (sym known.there)
      (by_kind x name.0 known.there (signal_passes pair m) x.kind refl known.takes)
    where
      by_kind : (x : Semaphore) → is_name x.name ≡ true →
          slice_get p.semaphores pair.semaphore ≡ Some x → PassesAsSignal →
          (kind : SemaphoreKind) → x.kind ≡ kind → TakesValue kind pair.value →
          ReadsAs form before (codes "signal" ∷ marked_words x.name pair.value kind) (AddSignal pair)
      by_kind x is there passes (Timeline initial) e takes =
          signal_timeline_reads x.name pair.semaphore pair.value is
          (timeline_there pair.semaphore x there (ap is_timeline e)) takes passes
      by_kind x is there passes Binary e takes =
          subst (λ (v : ℕ). ReadsAs form before (codes "signal" ∷ x.name ∷ [])
          (AddSignal (record { semaphore = pair.semaphore; value = v }))) (sym takes)
          (signal_binary_reads x.name pair.semaphore is
          (binary_there pair.semaphore x there (ap is_binary e)) passes)
      by_kind x is there passes Fence e takes = absurd takes

  -- a fence
  pub batch_fence_reads : (f : ℕ) → MayItem p (AddFence f) →
      ReadsAs form before
      (fence_words (declared_script p) (mark 0 (record { semaphore = f; value = 0 }) 1))
      (AddFence f)
  batch_fence_reads f m =
      let x = m.fits.semaphore in
      let name = named.semaphore_names f x m.fits.there in
      let known = fence_there f x m.fits.there (ap is_fence m.fits.fence) in
      let words : are_text_words (codes "fence" ∷ x.name ∷ []) ≡ true =
      words_of_two (codes "fence") x.name refl (name_word x.name name.0) in
      let tests : PassesTests form before (codes "fence" ∷ x.name ∷ []) BatchFenceLine
      (AddFence f) =
      record {
        found =
            form_inside form before (codes "fence" ∷ x.name ∷ []) (Some BatchFenceLine)
            (h.part ∙ ap part_of_batch m.inside) refl refl;
        plain = words_plain (codes "fence" ∷ x.name ∷ []) words;
        shaped = and_from (is_name x.name) true name.0 refl;
        in_order =
            or_from (some (λ s. nat_lt 4 (part_of s)) (open_batch before))
            (some is_batch_fence (open_batch before))
            (some_said before p h m.told m.inside (λ s. nat_lt 4 (part_of s)) ∙ m.in_order)
            (some_said before p h m.told m.inside is_batch_fence ∙ m.fits.only);
        numeric = refl;
        known = λ i. is_some (known i) && true;
        fresh = refl;
        said = λ i. option_map (λ z. AddFence z) (known i);
        ranged = refl;
        apart = refl;
        limited = refl;
      } in
      subst (λ (z : Option Semaphore). ReadsAs form before
      (codes "fence" ∷ option_map_or (λ y. y.name) z [] ∷ []) (AddFence f)) (sym m.fits.there)
      (record {
        are_words = words;
        reads =
            λ n. read_tested form before n (codes "fence") (x.name ∷ []) BatchFenceLine
            (AddFence f) tests;
      })
