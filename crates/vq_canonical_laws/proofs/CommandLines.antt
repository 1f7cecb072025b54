-- The canonical lines of commands are read.
use Rattle.std.proofs.Common.{◌≡◌, ℕ, ◌+◌, ◌<◌, Bool, true, false, cond, not, ◌&&◌, ◌||◌, List, [], ◌∷◌, length, Option, Some, None, refl, sym, ap, ◌∙◌, subst, arith}
use Rattle.std.specs.Prelude.{nat_lt, is_some, codes, count_by}
use Rattle.std.specs.List.{slice_get, flat_map}
use Rattle.std.specs.Option.{option_map_or}
use Rattle.std.specs.Fmt.{decimal}
use Rattle.std.proofs.lemmas.Bool.{and_parts, and_from, or_from, ltb-true}
use Rattle.vq_model.specs.LineFaults.{is_within}
use Rattle.vq_model.specs.Context.{size_in}
use Rattle.vq_model.specs.declared.statement.Form.{Form}
use Rattle.vq_model.specs.declared.statement.Section.TheVariants.{InBatch}
use Rattle.vq_model.specs.declared.statement.Statement.TheVariants.{AddCommand}
use Rattle.vq_model.specs.declared.statement.Line.{Line}
use Rattle.vq_model.specs.declared.statement.LineForm.TheVariants.{FillWholeLine, FillLine, UpdateLine, CopyLine}
use Rattle.vq_model.specs.declared.script.Buffer.{Buffer}
use Rattle.vq_model.specs.declared.script.Command.{Command}
use Rattle.vq_model.specs.declared.script.Command.TheVariants.{Fill, Update, Copy}
use Rattle.vq_model.specs.declared.script.FillSize.TheVariants.{Whole, Count}
use Rattle.vq_model.specs.Text.{is_name}
use Rattle.vq_model.specs.Context.{section, open_batch, is_command, count, some}
use Rattle.vq_model.specs.Limits.{update_bytes}
use Rattle.vq_model.specs.declared.limits.Limits.{Limits}
use Rattle.vq_model.specs.Meaning.{of_two, of_three, of_four, of_five}
use Rattle.vq_model.specs.LineFaults.{is_in_range, overlaps}
use Rattle.vq_model.specs.Ranges.{is_aligned}
use Rattle.vq_model.specs.Canonical.{command_words, fill_word, hex_digits}
use Rattle.vq_model.specs.Context.{number_at, buffers, part_of}
use Rattle.vq_model.specs.Earlier.{earlier}
use Rattle.vq_model.specs.LineFaults.{passes_limit}
use Rattle.vq_model.specs.Forms.{BufferName}
use Rattle.vq_model.specs.Naming.{buffer_name}
use Rattle.vq_canonical_laws.proofs.LineTests.{PassesTests, read_tested}
use Rattle.vq_canonical_laws.proofs.SaidContext.{most_before, most_said, buffer_at_said, range_said, overlap_said, count_said}
use Rattle.vq_canonical_laws.proofs.WrittenTexts.{is_text_word, are_text_words}
use Rattle.vq_canonical_laws.proofs.WrittenNumbers.{decimal_back, decimal_word, decimal_not_whole, fill_word_back, fill_word_word, byte_digits_back, byte_digits_hex, byte_digits_word}
use Rattle.vq_canonical_laws.proofs.NamedParts.{AreNamed, name_word}
use Rattle.vq_canonical_laws.proofs.ScriptParts.{Told, Parts, MayItem, Say, part_of_batch, count_commands, commands_of}
use Rattle.vq_canonical_laws.proofs.LineWords.{declared_script, ReadsAs, words_plain, words_of_three, not_over, form_inside, in_part}

module _ (form : Form) (before : List Line) (p : Parts) (h : Say before p) (named : AreNamed p) where
  -- a buffer that has bytes is there
  buffer_there : (bs : List Buffer) (b : ℕ) → 0 < size_in bs b →
      (x : Buffer) × (slice_get bs b ≡ Some x)
  buffer_there bs b l = by_item (slice_get bs b) refl l
    where
      by_item : (o : Option Buffer) → slice_get bs b ≡ o → 0 < option_map_or (λ x. x.size) o 0 →
          (x : Buffer) × (slice_get bs b ≡ Some x)
      by_item None e l = absurd (omega arith)
      by_item (Some x) e l = (x, e)

  -- the name of a buffer, in canonical lines
  abbrev name_of : ℕ → List ℕ
  name_of b = buffer_name (declared_script p) b

  -- the name of a buffer that has bytes
  has_name : (b : ℕ) → 0 < size_in p.buffers b →
      (is_name (name_of b) ≡ true) × (number_at before BufferName (name_of b) ≡ Some b)
  has_name b l =
      let x = buffer_there p.buffers b l in
      let known = named.buffer_names b x.0 x.1 in
      subst (λ (o : Option Buffer). (is_name (option_map_or (λ y. y.name) o []) ≡ true)
      × (number_at before BufferName (option_map_or (λ y. y.name) o []) ≡ Some b)) (sym x.1)
      (known.0, buffer_at_said before p h x.0.name ∙ known.1)

  -- bytes within a buffer that has bytes: at least one
  within_some : (b o n : ℕ) → is_within p.buffers b o n ≡ true →
      (0 < size_in p.buffers b) × (0 < n)
  within_some b o n r =
      let parts =
      and_parts (nat_lt o (size_in p.buffers b) && nat_lt 0 n)
      (not (nat_lt (size_in p.buffers b) (o + n))) r in
      let front = and_parts (nat_lt o (size_in p.buffers b)) (nat_lt 0 n) parts.0 in
      let l = ltb-true o (size_in p.buffers b) front.0 in
      (omega arith, ltb-true 0 n front.1)

  -- what each command passes: it belongs where it stands, in range, apart, within the limits
  record PassesAll (c : Command) : Type 0 where
    part : section before ≡ InBatch
    in_order : (some (λ s. nat_lt 2 (part_of s)) (open_batch before) || false) ≡ false
    ranged : is_in_range (earlier before) (AddCommand c) ≡ true
    apart : overlaps (buffers before) (AddCommand c) ≡ false
    limited : passes_limit (earlier before) (AddCommand c) ≡ false

  passes_all : (c : Command) → MayItem p (AddCommand c) → PassesAll c
  passes_all c m =
      let counted = count_said before p h m.told m.inside is_command in
      let counts : count is_command before ≡ commands_of p.jobs + count_by is_command m.told.1 =
      h.command_count ∙ ap (λ (z : Option Told). count_commands p.jobs z) m.inside in
      let most = ap (λ (l : Limits). l.commands) (most_said before p h) in
      let most_of_batch = ap (λ (l : Limits). l.batch_commands) (most_said before p h) in
      let few = m.fits.few in
      let total = m.fits.total in
      record {
        part = h.part ∙ ap part_of_batch m.inside;
        in_order = in_part before p h m.told m.inside 2 m.in_order;
        ranged = range_said before p h c ∙ m.fits.range;
        apart = overlap_said before p h c ∙ m.fits.apart;
        limited =
            or_from (not (nat_lt (count is_command before) (most_before before).commands))
            (not (nat_lt (count is_command (open_batch before))
            (most_before before).batch_commands))
            (not_over (count is_command before) (most_before before).commands (omega arith))
            (not_over (count is_command (open_batch before)) (most_before before).batch_commands
            (omega arith));
      }

  -- a fill of the rest of a buffer
  fill_whole_reads : (b o w : ℕ) → MayItem p (AddCommand (Fill b o Whole w)) →
      ReadsAs form before (command_words (declared_script p) (Fill b o Whole w))
      (AddCommand (Fill b o Whole w))
  fill_whole_reads b o w m =
      let l = ltb-true o (size_in p.buffers b)
      (and_parts (nat_lt o (size_in p.buffers b)) (is_aligned o) m.fits.range).0 in
      let name = has_name b (omega arith) in
      let all = passes_all (Fill b o Whole w) m in
      let so = m.fits.numerals.0 in
      let sw = m.fits.numerals.1 in
      let words : are_text_words (command_words (declared_script p) (Fill b o Whole w)) ≡ true =
      and_from (is_text_word (name_of b))
      (are_text_words (decimal o ∷ codes "whole" ∷ fill_word w ∷ []))
      (name_word (name_of b) name.0)
      (words_of_three (decimal o) (codes "whole") (fill_word w) (decimal_word o so) refl
      (fill_word_word w sw)) in
      let tests : PassesTests form before (command_words (declared_script p) (Fill b o Whole w))
      FillWholeLine (AddCommand (Fill b o Whole w)) =
      record {
        found =
            form_inside form before (command_words (declared_script p) (Fill b o Whole w))
            (Some FillWholeLine) all.part refl refl;
        plain = words_plain (command_words (declared_script p) (Fill b o Whole w)) words;
        shaped = and_from (is_name (name_of b)) true name.0 refl;
        in_order = all.in_order;
        numeric = λ i.
            is_some (decimal_back o so i) && (is_some (fill_word_back w sw i) && true);
        known = λ i. is_some (name.1 i) && true;
        fresh = refl;
        said = λ i.
            of_three (λ c d e. AddCommand (Fill c d Whole e)) (name.1 i) (decimal_back o so i)
            (fill_word_back w sw i);
        ranged = all.ranged;
        apart = all.apart;
        limited = all.limited;
      } in
      record {
        are_words = words;
        reads =
            λ k. read_tested form before k (codes "fill")
            (name_of b ∷ decimal o ∷ codes "whole" ∷ fill_word w ∷ []) FillWholeLine
            (AddCommand (Fill b o Whole w)) tests;
      }

  -- a fill
  fill_reads : (b o n w : ℕ) → MayItem p (AddCommand (Fill b o (Count n) w)) →
      ReadsAs form before (command_words (declared_script p) (Fill b o (Count n) w))
      (AddCommand (Fill b o (Count n) w))
  fill_reads b o n w m =
      let range =
      and_parts (is_within p.buffers b o n && is_aligned o) (is_aligned n) m.fits.range in
      let within = and_parts (is_within p.buffers b o n) (is_aligned o) range.0 in
      let name = has_name b (within_some b o n within.0).0 in
      let all = passes_all (Fill b o (Count n) w) m in
      let so = m.fits.numerals.0 in
      let sn = m.fits.numerals.1 in
      let sw = m.fits.numerals.2 in
      let words : are_text_words (command_words (declared_script p) (Fill b o (Count n) w))
      ≡ true =
      and_from (is_text_word (name_of b)) (are_text_words (decimal o ∷ decimal n ∷ fill_word w ∷ []))
      (name_word (name_of b) name.0)
      (words_of_three (decimal o) (decimal n) (fill_word w) (decimal_word o so) (decimal_word n sn)
      (fill_word_word w sw)) in
      let tests : PassesTests form before
      (command_words (declared_script p) (Fill b o (Count n) w)) FillLine
      (AddCommand (Fill b o (Count n) w)) =
      record {
        found =
            form_inside form before (command_words (declared_script p) (Fill b o (Count n) w))
            (Some FillLine) all.part refl
            (ap (λ (t : Bool). cond (t && true) (Some FillWholeLine) (Some FillLine))
            (decimal_not_whole n sn));
        plain = words_plain (command_words (declared_script p) (Fill b o (Count n) w)) words;
        shaped = and_from (is_name (name_of b)) true name.0 refl;
        in_order = all.in_order;
        numeric = λ i.
            is_some (decimal_back o so i) && (is_some (decimal_back n sn i)
            && (is_some (fill_word_back w sw i) && true));
        known = λ i. is_some (name.1 i) && true;
        fresh = refl;
        said = λ i.
            of_four (λ c d e f. AddCommand (Fill c d (Count e) f)) (name.1 i) (decimal_back o so i)
            (decimal_back n sn i) (fill_word_back w sw i);
        ranged = all.ranged;
        apart = all.apart;
        limited = all.limited;
      } in
      record {
        are_words = words;
        reads =
            λ k. read_tested form before k (codes "fill")
            (name_of b ∷ decimal o ∷ decimal n ∷ fill_word w ∷ []) FillLine
            (AddCommand (Fill b o (Count n) w)) tests;
      }

  -- an update
  update_reads : (b o : ℕ) (bytes : List ℕ) → MayItem p (AddCommand (Update b o bytes)) →
      ReadsAs form before (command_words (declared_script p) (Update b o bytes))
      (AddCommand (Update b o bytes))
  update_reads b o bytes m =
      let range =
      and_parts (is_within p.buffers b o (length bytes) && is_aligned o
      && is_aligned (length bytes)) (not (nat_lt update_bytes (length bytes))) m.fits.range in
      let even =
      and_parts (is_within p.buffers b o (length bytes) && is_aligned o)
      (is_aligned (length bytes)) range.0 in
      let within = and_parts (is_within p.buffers b o (length bytes)) (is_aligned o) even.0 in
      let some_bytes = within_some b o (length bytes) within.0 in
      let name = has_name b some_bytes.0 in
      let all = passes_all (Update b o bytes) m in
      let so = m.fits.numerals.0 in
      let words : are_text_words (command_words (declared_script p) (Update b o bytes)) ≡ true =
      words_of_three (name_of b) (decimal o) (flat_map (hex_digits 2) bytes)
      (name_word (name_of b) name.0) (decimal_word o so)
      (byte_digits_word bytes some_bytes.1) in
      let tests : PassesTests form before (command_words (declared_script p) (Update b o bytes))
      UpdateLine (AddCommand (Update b o bytes)) =
      record {
        found =
            form_inside form before (command_words (declared_script p) (Update b o bytes))
            (Some UpdateLine) all.part refl refl;
        plain = words_plain (command_words (declared_script p) (Update b o bytes)) words;
        shaped = and_from (is_name (name_of b)) true name.0 refl;
        in_order = all.in_order;
        numeric = λ i. is_some (decimal_back o so i) && (byte_digits_hex bytes i && true);
        known = λ i. is_some (name.1 i) && true;
        fresh = refl;
        said = λ i.
            of_two (λ c d. AddCommand (Update c d (byte_digits_back bytes m.fits.numerals.1 i)))
            (name.1 i) (decimal_back o so i);
        ranged = all.ranged;
        apart = all.apart;
        limited = all.limited;
      } in
      record {
        are_words = words;
        reads =
            λ k. read_tested form before k (codes "update")
            (name_of b ∷ decimal o ∷ flat_map (hex_digits 2) bytes ∷ []) UpdateLine
            (AddCommand (Update b o bytes)) tests;
      }

  -- a copy
  copy_reads : (s from t to n : ℕ) → MayItem p (AddCommand (Copy s from t to n)) →
      ReadsAs form before (command_words (declared_script p) (Copy s from t to n))
      (AddCommand (Copy s from t to n))
  copy_reads s from t to n m =
      let range =
      and_parts (is_within p.buffers s from n) (is_within p.buffers t to n) m.fits.range in
      let source = has_name s (within_some s from n range.0).0 in
      let target = has_name t (within_some t to n range.1).0 in
      let all = passes_all (Copy s from t to n) m in
      let sf = m.fits.numerals.0 in
      let st = m.fits.numerals.1 in
      let sn = m.fits.numerals.2 in
      let words : are_text_words (command_words (declared_script p) (Copy s from t to n)) ≡ true =
      and_from (is_text_word (name_of s))
      (are_text_words (decimal from ∷ name_of t ∷ decimal to ∷ decimal n ∷ []))
      (name_word (name_of s) source.0)
      (and_from (is_text_word (decimal from))
      (are_text_words (name_of t ∷ decimal to ∷ decimal n ∷ [])) (decimal_word from sf)
      (words_of_three (name_of t) (decimal to) (decimal n) (name_word (name_of t) target.0)
      (decimal_word to st) (decimal_word n sn))) in
      let tests : PassesTests form before (command_words (declared_script p) (Copy s from t to n))
      CopyLine (AddCommand (Copy s from t to n)) =
      record {
        found =
            form_inside form before (command_words (declared_script p) (Copy s from t to n))
            (Some CopyLine) all.part refl refl;
        plain = words_plain (command_words (declared_script p) (Copy s from t to n)) words;
        shaped =
            and_from (is_name (name_of s)) (is_name (name_of t) && true) source.0
            (and_from (is_name (name_of t)) true target.0 refl);
        in_order = all.in_order;
        numeric = λ i.
            is_some (decimal_back from sf i) && (is_some (decimal_back to st i)
            && (is_some (decimal_back n sn i) && true));
        known = λ i. is_some (source.1 i) && (is_some (target.1 i) && true);
        fresh = refl;
        said = λ i.
            of_five (λ a b c d e. AddCommand (Copy a b c d e)) (source.1 i) (decimal_back from sf i)
            (target.1 i) (decimal_back to st i) (decimal_back n sn i);
        ranged = all.ranged;
        apart = all.apart;
        limited = all.limited;
      } in
      record {
        are_words = words;
        reads =
            λ k. read_tested form before k (codes "copy")
            (name_of s ∷ decimal from ∷ name_of t ∷ decimal to ∷ decimal n ∷ []) CopyLine
            (AddCommand (Copy s from t to n)) tests;
      }

  -- a command
  pub command_reads : (c : Command) → MayItem p (AddCommand c) →
      ReadsAs form before (command_words (declared_script p) c) (AddCommand c)
  command_reads (Fill b o Whole w) m = fill_whole_reads b o w m
  command_reads (Fill b o (Count n) w) m = fill_reads b o n w m
  command_reads (Update b o bytes) m = update_reads b o bytes m
  command_reads (Copy s from t to n) m = copy_reads s from t to n m
