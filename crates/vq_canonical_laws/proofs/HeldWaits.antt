-- The canonical lines of waits are read, those of waits that hold back a part of their batch too.
use Rattle.std.proofs.Common.{◌≡◌, ℕ, ◌^◌, ◌<◌, Bool, true, false, cond, ◌&&◌, List, [], ◌∷◌, ◌++◌, Option, Some, refl, sym, ap, ◌∙◌, subst, arith, inl, inr}
use Rattle.std.specs.Prelude.{nat_lt, is_some, codes}
use Rattle.std.specs.List.{slice_get}
use Rattle.std.specs.Option.{option_map_or}
use Rattle.std.specs.Fmt.{decimal}
use Rattle.std.proofs.lemmas.Bool.{and_from, ltb-true, ltb-false}
use Rattle.vq_model.specs.declared.statement.Form.{Form}
use Rattle.vq_model.specs.declared.statement.Statement.TheVariants.{AddWait}
use Rattle.vq_model.specs.declared.statement.Line.{Line}
use Rattle.vq_model.specs.declared.statement.LineForm.TheVariants.{HeldTimelineLine, HeldBinaryLine}
use Rattle.vq_model.specs.declared.script.Semaphore.{Semaphore}
use Rattle.vq_model.specs.declared.script.SemaphoreKind.{SemaphoreKind}
use Rattle.vq_model.specs.declared.script.SemaphoreKind.TheVariants.{Timeline, Binary, Fence}
use Rattle.vq_model.specs.declared.script.Pair.{Pair}
use Rattle.vq_model.specs.Text.{is_name}
use Rattle.vq_model.specs.Context.{is_timeline, is_binary, number_at}
use Rattle.vq_model.specs.Meaning.{of_two, binary_pair}
use Rattle.vq_model.specs.ScriptOfLines.{mark}
use Rattle.vq_model.specs.Canonical.{wait_words, marked_words, from_words}
use Rattle.vq_model.specs.Forms.{TimelineName, BinaryName}
use Rattle.vq_canonical_laws.proofs.BatchLines.{PassesAsWait, wait_passes, wait_timeline_reads, wait_binary_reads, timeline_there, binary_there}
use Rattle.vq_canonical_laws.proofs.LineTests.{PassesTests, read_tested}
use Rattle.vq_canonical_laws.proofs.WrittenTexts.{are_text_words, is_text_word}
use Rattle.vq_canonical_laws.proofs.WrittenNumbers.{decimal_back, decimal_word}
use Rattle.vq_canonical_laws.proofs.NamedParts.{AreNamed, name_word}
use Rattle.vq_canonical_laws.proofs.ScriptParts.{Parts, MayItem, TakesValue, Say}
use Rattle.vq_canonical_laws.proofs.LineWords.{declared_script, ReadsAs, words_plain, words_of_three, form_held}

module _ (form : Form) (before : List Line) (p : Parts) (h : Say before p) (named : AreNamed p) where
  -- what a wait passes beside its semaphore
  abbrev Passes : ℕ → Type 0
  Passes from = PassesAsWait form before p h named from

  -- a wait for a timeline, from a place within its batch
  held_timeline_reads : (name : List ℕ) (t v from : ℕ) → is_name name ≡ true →
      number_at before TimelineName name ≡ Some t → v < 2 ^ 64 → from < 2 ^ 64 →
      p.version ≡ 2 → Passes from →
      ReadsAs form before (codes "wait" ∷ name ∷ decimal v ∷ codes "from" ∷ decimal from ∷ [])
      (AddWait (record { semaphore = t; value = v }) from)
  held_timeline_reads name t v from is known small near second passes =
      let line : List (List ℕ) =
      codes "wait" ∷ name ∷ decimal v ∷ codes "from" ∷ decimal from ∷ [] in
      let words : are_text_words line ≡ true =
      and_from (is_text_word name) (are_text_words (decimal v ∷ codes "from" ∷ decimal from ∷ []))
      (name_word name is)
      (words_of_three (decimal v) (codes "from") (decimal from) (decimal_word v small) refl
      (decimal_word from near)) in
      let tests : PassesTests form before line HeldTimelineLine
      (AddWait (record { semaphore = t; value = v }) from) =
      record {
        found =
            form_held form before line (Some HeldTimelineLine) passes.part (h.version ∙ second) refl;
        plain = words_plain line words;
        shaped = and_from (is_name name) true is refl;
        in_order = passes.in_order;
        numeric = λ i.
            is_some (decimal_back v small i) && (is_some (decimal_back from near i) && true);
        known = λ i. is_some (known i) && true;
        fresh = refl;
        said = λ i.
            of_two (λ x k. AddWait x k)
            (of_two (λ y z. record { semaphore = y; value = z }) (known i)
            (decimal_back v small i)) (decimal_back from near i);
        ranged = passes.ranged;
        apart = refl;
        limited = passes.limited;
      } in
      record {
        are_words = words;
        reads =
            λ n. read_tested form before n (codes "wait")
            (name ∷ decimal v ∷ codes "from" ∷ decimal from ∷ []) HeldTimelineLine
            (AddWait (record { semaphore = t; value = v }) from) tests;
      }

  -- a wait for a binary semaphore, from a place within its batch
  held_binary_reads : (name : List ℕ) (t from : ℕ) → is_name name ≡ true →
      number_at before BinaryName name ≡ Some t → from < 2 ^ 64 → p.version ≡ 2 → Passes from →
      ReadsAs form before (codes "wait" ∷ name ∷ codes "from" ∷ decimal from ∷ [])
      (AddWait (binary_pair t) from)
  held_binary_reads name t from is known near second passes =
      let line : List (List ℕ) = codes "wait" ∷ name ∷ codes "from" ∷ decimal from ∷ [] in
      let words : are_text_words line ≡ true =
      words_of_three name (codes "from") (decimal from) (name_word name is) refl
      (decimal_word from near) in
      let tests : PassesTests form before line HeldBinaryLine (AddWait (binary_pair t) from) =
      record {
        found =
            form_held form before line (Some HeldBinaryLine) passes.part (h.version ∙ second) refl;
        plain = words_plain line words;
        shaped = and_from (is_name name) true is refl;
        in_order = passes.in_order;
        numeric = λ i. is_some (decimal_back from near i) && true;
        known = λ i. is_some (known i) && true;
        fresh = refl;
        said = λ i.
            of_two (λ x k. AddWait (binary_pair x) k) (known i) (decimal_back from near i);
        ranged = passes.ranged;
        apart = refl;
        limited = passes.limited;
      } in
      record {
        are_words = words;
        reads =
            λ n. read_tested form before n (codes "wait") (name ∷ codes "from" ∷ decimal from ∷ [])
            HeldBinaryLine (AddWait (binary_pair t) from) tests;
      }

  module _ (pair : Pair) (x : Semaphore) (is : is_name x.name ≡ true)
      (there : slice_get p.semaphores pair.semaphore ≡ Some x) where
    -- the wait of a semaphore of a kind: of the whole batch ..
    whole_by_kind : Passes 1 → (kind : SemaphoreKind) → x.kind ≡ kind →
        TakesValue kind pair.value →
        ReadsAs form before (codes "wait" ∷ marked_words x.name pair.value kind ++ [])
        (AddWait pair 1)
    whole_by_kind passes (Timeline initial) e takes =
        wait_timeline_reads form before p h named x.name pair.semaphore pair.value is
        (timeline_there form before p h named pair.semaphore x there (ap is_timeline e)) takes passes
    whole_by_kind passes Binary e takes =
        subst (λ (v : ℕ). ReadsAs form before (codes "wait" ∷ x.name ∷ [])
        (AddWait (record { semaphore = pair.semaphore; value = v }) 1)) (sym takes)
        (wait_binary_reads form before p h named x.name pair.semaphore is
        (binary_there form before p h named pair.semaphore x there (ap is_binary e)) passes)
    whole_by_kind passes Fence e takes = absurd takes

    -- .. and of a part of it
    held_by_kind : (from : ℕ) → from < 2 ^ 64 → p.version ≡ 2 → Passes from →
        (kind : SemaphoreKind) → x.kind ≡ kind → TakesValue kind pair.value →
        ReadsAs form before
        (codes "wait" ∷ marked_words x.name pair.value kind ++ codes "from" ∷ decimal from ∷ [])
        (AddWait pair from)
    held_by_kind from near second passes (Timeline initial) e takes =
        held_timeline_reads x.name pair.semaphore pair.value from is
        (timeline_there form before p h named pair.semaphore x there (ap is_timeline e)) takes near
        second passes
    held_by_kind from near second passes Binary e takes =
        subst (λ (v : ℕ). ReadsAs form before
        (codes "wait" ∷ x.name ∷ codes "from" ∷ decimal from ∷ [])
        (AddWait (record { semaphore = pair.semaphore; value = v }) from)) (sym takes)
        (held_binary_reads x.name pair.semaphore from is
        (binary_there form before p h named pair.semaphore x there (ap is_binary e)) near second
        passes)
    held_by_kind from near second passes Fence e takes = absurd takes

  -- A wait: its place is written where it is above 1.
  pub wait_reads : (pair : Pair) (from : ℕ) → MayItem p (AddWait pair from) →
      ReadsAs form before (wait_words (declared_script p) (mark 0 pair from)) (AddWait pair from)
  wait_reads pair from m =
      subst (λ (z : Option Semaphore). ReadsAs form before
      (codes "wait" ∷ marked_words (option_map_or (λ y. y.name) z []) pair.value
      (option_map_or (λ y. y.kind) z Binary) ++ from_words from) (AddWait pair from))
      (sym m.fits.known.there) (by_place (nat_lt 1 from) refl)
    where
      x : Semaphore
      x = m.fits.known.semaphore

      is : is_name x.name ≡ true
      is = (named.semaphore_names pair.semaphore x m.fits.known.there).0

      passes : Passes from
      passes = wait_passes form before p h named pair from m

      by_place : (b : Bool) → nat_lt 1 from ≡ b →
          ReadsAs form before
          (codes "wait" ∷ marked_words x.name pair.value x.kind
          ++ cond b (codes "from" ∷ decimal from ∷ []) [])
          (AddWait pair from)
      by_place false e =
          let counted = m.fits.counted in
          let l = ltb-false 1 from e in
          let one : 1 ≡ from = omega arith in
          subst (λ (k : ℕ). ReadsAs form before
          (codes "wait" ∷ marked_words x.name pair.value x.kind ++ []) (AddWait pair k)) one
          (whole_by_kind pair x is m.fits.known.there (subst Passes (sym one) passes) x.kind refl
          m.fits.known.takes)
      by_place true e =
          let near = m.fits.near in
          let l = ltb-true 1 from e in
          elim m.fits.held [
            | inl one ↦ absurd (omega arith)
            | inr second ↦ held_by_kind pair x is m.fits.known.there from (omega arith) second passes
                x.kind refl m.fits.known.takes
          ]
