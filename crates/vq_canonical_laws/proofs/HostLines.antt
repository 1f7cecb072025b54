-- The canonical lines of steps of the host are read.
use Rattle.std.proofs.Common.{◌≡◌, ℕ, ◌+◌, ◌%◌, ◌≤◌, ◌==◌, Bool, true, false, cond, not, ◌&&◌, ◌||◌, List, [], ◌∷◌, length, map, Option, Some, option_map, refl, sym, ap, ◌∙◌, subst, arith}
use Rattle.std.specs.Prelude.{nat_lt, is_some, codes}
use Rattle.std.specs.List.{list_all, flat_map, AllByRecursion as Every}
use Rattle.std.specs.Option.{option_map_or}
use Rattle.std.specs.Fmt.{decimal}
use Rattle.std.proofs.lemmas.Bool.{and_from, or_from, lt-ltb, eq-eqb}
use Rattle.vq_ground.proofs.Tests.{not_below_test}
use Rattle.vq_model.specs.declared.statement.Form.{Form}
use Rattle.vq_model.specs.declared.statement.Line.{Line}
use Rattle.vq_model.specs.declared.statement.LineForm.{LineForm}
use Rattle.vq_model.specs.declared.statement.LineForm.TheVariants.{HostSignalLine, HostWaitAllLine, HostWaitAnyLine, HostPollAllLine, HostPollAnyLine, HostReadLine, HostFenceWaitLine, HostFencePollLine, HostFenceResetLine, HostIdleLine}
use Rattle.vq_model.specs.declared.statement.Section.TheVariants.{Outside}
use Rattle.vq_model.specs.declared.statement.Statement.TheVariants.{TakeHostStep}
use Rattle.vq_model.specs.declared.script.HostStep.{HostStep}
use Rattle.vq_model.specs.declared.script.HostStep.TheVariants.{Signal, WaitAll, WaitAny, PollAll, PollAny, Read, FenceWait, FencePoll, FenceReset, Idle}
use Rattle.vq_model.specs.declared.script.Pair.{Pair}
use Rattle.vq_model.specs.declared.script.Semaphore.{Semaphore}
use Rattle.vq_model.specs.Canonical.{pair_words, step_words}
use Rattle.vq_model.specs.Context.{is_timeline, is_fence, section, open_batch, some, count}
use Rattle.vq_model.specs.Limits.{limits_of}
use Rattle.vq_model.specs.declared.limits.Limits.{Limits}
use Rattle.vq_canonical_laws.proofs.SaidContext.{most_before, most_said}
use Rattle.vq_model.specs.Forms.{Slot, FenceName, places}
use Rattle.vq_model.specs.LineFaults.{is_shaped, is_numeric, is_known, is_new, is_out_of_order}
use Rattle.vq_model.specs.Meaning.{form_of, of_two, open_places, pair_places, pairs_at, statement_of}
use Rattle.vq_model.specs.Text.{is_name, numeral}
use Rattle.vq_model.specs.Context.{number_at, is_declared, is_job, part_of}
use Rattle.vq_model.specs.Earlier.{earlier}
use Rattle.vq_model.specs.LineFaults.{pairs_of, passes_limit}
use Rattle.vq_model.specs.Forms.{TimelineName}
use Rattle.vq_model.specs.Naming.{semaphore_name}
use Rattle.vq_canonical_laws.proofs.BatchLines.{timeline_there, fence_there}
use Rattle.vq_canonical_laws.proofs.LineTests.{PassesTests, read_tested}
use Rattle.vq_canonical_laws.proofs.LineWords.{declared_script, ReadsAs, words_plain, words_of_two, words_of_three, not_over, form_outside}
use Rattle.vq_canonical_laws.proofs.NamedParts.{AreNamed, name_word}
use Rattle.vq_canonical_laws.proofs.ScriptParts.{Told, Parts, Say, MayStep, IsOfKindIn, IsTimed, StepFits, OpenLines, count_jobs, part_of_batch}
use Rattle.vq_canonical_laws.proofs.WrittenNumbers.{decimal_back, decimal_word}
use Rattle.vq_canonical_laws.proofs.WrittenTexts.{is_text_word, are_text_words}

-- A form that passes, and one that doesn't, in a list of forms.
taken : (b : Bool) (f : LineForm) (rest : Option LineForm) → b ≡ true →
    cond (b && true) (Some f) rest ≡ Some f
taken true f rest e = refl
taken false f rest e = absurd (cc)

skipped : (b : Bool) (f : LineForm) (rest o : Option LineForm) → rest ≡ o →
    cond (b && false) (Some f) rest ≡ o
skipped true f rest o e = e
skipped false f rest o e = e

module _ (form : Form) (before : List Line) (p : Parts) (h : Say before p) (named : AreNamed p) where
  -- the name that is written
  abbrev name_at : ℕ → List ℕ
  name_at t = semaphore_name (declared_script p) t

  -- it is a name, and finds what it is written for
  timeline_named : (t : ℕ) → IsOfKindIn is_timeline p.semaphores t →
      (is_name (name_at t) ≡ true) × (number_at before TimelineName (name_at t) ≡ Some t)
  timeline_named t k =
      subst (λ (z : Option Semaphore). (is_name (option_map_or (λ y. y.name) z []) ≡ true)
      × (number_at before TimelineName (option_map_or (λ y. y.name) z []) ≡ Some t)) (sym k.there) (
        (named.semaphore_names t k.semaphore k.there).0,
        timeline_there form before p h named t k.semaphore k.there k.tested,
      )

  fence_named : (t : ℕ) → IsOfKindIn is_fence p.semaphores t →
      (is_name (name_at t) ≡ true) × (number_at before FenceName (name_at t) ≡ Some t)
  fence_named t k =
      subst (λ (z : Option Semaphore). (is_name (option_map_or (λ y. y.name) z []) ≡ true)
      × (number_at before FenceName (option_map_or (λ y. y.name) z []) ≡ Some t)) (sym k.there) (
        (named.semaphore_names t k.semaphore k.there).0,
        fence_there form before p h named t k.semaphore k.there k.tested,
      )

  -- what a step passes beside its names
  record PassesAsStep (step : HostStep) : Type 0 where
    part : section before ≡ Outside
    in_order : (some (λ s. nat_lt 0 (part_of s)) (open_batch before) || false) ≡ false
    limited : passes_limit (earlier before) (TakeHostStep step) ≡ false

  few_pairs : (step : HostStep) → StepFits p.version p.semaphores step →
      length (pairs_of step) ≤ (limits_of p.version).pairs
  few_pairs (WaitAll pairs) f = f.few
  few_pairs (WaitAny pairs) f = f.few
  few_pairs (PollAll pairs) f = f.few
  few_pairs (PollAny pairs) f = f.few
  few_pairs (Signal pair) f = omega arith
  few_pairs (Read t) f = omega arith
  few_pairs (FenceWait t) f = omega arith
  few_pairs (FencePoll t) f = omega arith
  few_pairs (FenceReset t) f = omega arith
  few_pairs Idle f = omega arith

  step_passes : (step : HostStep) → MayStep p step → PassesAsStep step
  step_passes step m =
      let few = m.few in
      let most = ap (λ (l : Limits). l.jobs) (most_said before p h) in
      let most_pairs = ap (λ (l : Limits). l.pairs) (most_said before p h) in
      let short = few_pairs step m.fits in
      let jobs : count is_job before ≡ length p.jobs =
      h.job_count ∙ ap (λ (b : Option Told). count_jobs p.jobs b) m.outside in
      let opened : some (λ s. nat_lt 0 (part_of s)) (open_batch before) ≡ false =
      subst (λ (b : Option Told). OpenLines b (open_batch before)) m.outside h.opened in
      record {
        part = h.part ∙ ap part_of_batch m.outside;
        in_order = or_from (some (λ s. nat_lt 0 (part_of s)) (open_batch before)) false opened refl;
        limited =
            or_from (not (nat_lt (count is_job before) (most_before before).jobs))
            (nat_lt (most_before before).pairs (length (pairs_of step)))
            (not_over (count is_job before) (most_before before).jobs (omega arith))
            (not_below_test (most_before before).pairs (length (pairs_of step)) (omega arith));
      }

  -- Steps of one name

  -- a signal
  signal_reads : (pair : Pair) → MayStep p (Signal pair) →
      ReadsAs form before
      (codes "host" ∷ codes "signal" ∷ name_at pair.semaphore ∷ decimal pair.value ∷ [])
      (TakeHostStep (Signal pair))
  signal_reads pair m =
      let passes = step_passes (Signal pair) m in
      let name : List ℕ = name_at pair.semaphore in
      let value : List ℕ = decimal pair.value in
      let known = timeline_named pair.semaphore m.fits.0 in
      let back = decimal_back pair.value m.fits.1 in
      let words : are_text_words (codes "host" ∷ codes "signal" ∷ name ∷ value ∷ []) ≡ true =
      words_of_three (codes "signal") name value refl (name_word name known.0)
      (decimal_word pair.value m.fits.1) in
      let tests : PassesTests form before (codes "host" ∷ codes "signal" ∷ name ∷ value ∷ [])
      HostSignalLine (TakeHostStep (Signal pair)) =
      record {
        found =
            form_outside form before (codes "host" ∷ codes "signal" ∷ name ∷ value ∷ [])
            (Some HostSignalLine) passes.part refl refl;
        plain = words_plain (codes "host" ∷ codes "signal" ∷ name ∷ value ∷ []) words;
        shaped = and_from (is_name name) true known.0 refl;
        in_order = passes.in_order;
        numeric = λ i. is_some (back i) && true;
        known = λ i. is_some (known.1 i) && true;
        fresh = refl;
        said = λ i.
            option_map (λ x. TakeHostStep (Signal x))
            (of_two (λ y z. record { semaphore = y; value = z }) (known.1 i) (back i));
        ranged = refl;
        apart = refl;
        limited = passes.limited;
      } in
      record {
        are_words = words;
        reads =
            λ n. read_tested form before n (codes "host") (codes "signal" ∷ name ∷ value ∷ [])
            HostSignalLine (TakeHostStep (Signal pair)) tests;
      }

  -- a read
  value_reads : (t : ℕ) → MayStep p (Read t) →
      ReadsAs form before (codes "host" ∷ codes "read" ∷ name_at t ∷ []) (TakeHostStep (Read t))
  value_reads t m =
      let passes = step_passes (Read t) m in
      let name : List ℕ = name_at t in
      let known = timeline_named t m.fits in
      let words : are_text_words (codes "host" ∷ codes "read" ∷ name ∷ []) ≡ true =
      words_of_two (codes "read") name refl (name_word name known.0) in
      let tests : PassesTests form before (codes "host" ∷ codes "read" ∷ name ∷ []) HostReadLine
      (TakeHostStep (Read t)) =
      record {
        found =
            form_outside form before (codes "host" ∷ codes "read" ∷ name ∷ []) (Some HostReadLine)
            passes.part refl refl;
        plain = words_plain (codes "host" ∷ codes "read" ∷ name ∷ []) words;
        shaped = and_from (is_name name) true known.0 refl;
        in_order = passes.in_order;
        numeric = refl;
        known = λ i. is_some (known.1 i) && true;
        fresh = refl;
        said = λ i. option_map (λ x. TakeHostStep (Read x)) (known.1 i);
        ranged = refl;
        apart = refl;
        limited = passes.limited;
      } in
      record {
        are_words = words;
        reads =
            λ n. read_tested form before n (codes "host") (codes "read" ∷ name ∷ []) HostReadLine
            (TakeHostStep (Read t)) tests;
      }

  -- a wait for a fence, a poll and a reset: `of` such a fence, in lines of the form `f`
  fence_reads : (f : LineForm) (of : ℕ → HostStep) (word : List ℕ) (t : ℕ) →
      is_text_word word ≡ true → MayStep p (of t) → IsOfKindIn is_fence p.semaphores t →
      (section before ≡ Outside →
      form_of form before (codes "host" ∷ codes "fence" ∷ word ∷ name_at t ∷ []) ≡ Some f) →
      open_places (places f) (codes "host" ∷ codes "fence" ∷ word ∷ name_at t ∷ [])
      ≡ (FenceName, name_at t) ∷ [] →
      is_out_of_order (earlier before) f
      ≡ (some (λ s. nat_lt 0 (part_of s)) (open_batch before) || false) →
      ((name : List ℕ) → statement_of (number_at before) f (name ∷ [])
      ≡ option_map (λ x. TakeHostStep (of x)) (number_at before FenceName name)) →
      ReadsAs form before (codes "host" ∷ codes "fence" ∷ word ∷ name_at t ∷ [])
      (TakeHostStep (of t))
  fence_reads f of word t is_word m kind found opened order says =
      let passes = step_passes (of t) m in
      let name : List ℕ = name_at t in
      let known = fence_named t kind in
      let words : are_text_words (codes "host" ∷ codes "fence" ∷ word ∷ name ∷ []) ≡ true =
      words_of_three (codes "fence") word name refl is_word (name_word name known.0) in
      let tests : PassesTests form before (codes "host" ∷ codes "fence" ∷ word ∷ name ∷ []) f
      (TakeHostStep (of t)) =
      record {
        found = found passes.part;
        plain = words_plain (codes "host" ∷ codes "fence" ∷ word ∷ name ∷ []) words;
        shaped = ap (list_all is_shaped) opened ∙ and_from (is_name name) true known.0 refl;
        in_order = order ∙ passes.in_order;
        numeric = ap (list_all is_numeric) opened;
        known = ap (list_all (is_known (number_at before))) opened ∙ (λ i. is_some (known.1 i) && true);
        fresh = ap (list_all (is_new (is_declared before))) opened;
        said = ap (λ (os : List (Slot × List ℕ)). statement_of (number_at before) f (map (λ x. x.1) os)) opened
            ∙ (says name ∙ (λ i. option_map (λ x. TakeHostStep (of x)) (known.1 i)));
        ranged = refl;
        apart = refl;
        limited = passes.limited;
      } in
      record {
        are_words = words;
        reads =
            λ n. read_tested form before n (codes "host") (codes "fence" ∷ word ∷ name ∷ []) f
            (TakeHostStep (of t)) tests;
      }

  -- idle
  idle_reads : MayStep p Idle →
      ReadsAs form before (codes "host" ∷ codes "idle" ∷ []) (TakeHostStep Idle)
  idle_reads m =
      let passes = step_passes Idle m in
      let tests : PassesTests form before (codes "host" ∷ codes "idle" ∷ []) HostIdleLine
      (TakeHostStep Idle) =
      record {
        found =
            form_outside form before (codes "host" ∷ codes "idle" ∷ []) (Some HostIdleLine)
            passes.part refl refl;
        plain = refl;
        shaped = refl;
        in_order = passes.in_order;
        numeric = refl;
        known = refl;
        fresh = refl;
        said = refl;
        ranged = refl;
        apart = refl;
        limited = passes.limited;
      } in
      record {
        are_words = refl;
        reads =
            λ n. read_tested form before n (codes "host") (codes "idle" ∷ []) HostIdleLine
            (TakeHostStep Idle) tests;
      }

  -- Steps of pairs

  -- the words of pairs
  abbrev words_of_pairs : List Pair → List (List ℕ)
  words_of_pairs pairs = flat_map (pair_words (declared_script p)) pairs

  -- what they pass
  record PassAsPairs (pairs : List Pair) : Type 0 where
    long : length (words_of_pairs pairs) ≡ length pairs + length pairs
    are_words : are_text_words (words_of_pairs pairs) ≡ true
    shaped : list_all is_shaped (pair_places (words_of_pairs pairs)) ≡ true
    numeric : list_all is_numeric (pair_places (words_of_pairs pairs)) ≡ true
    known : list_all (is_known (number_at before)) (pair_places (words_of_pairs pairs)) ≡ true
    fresh : list_all (is_new (is_declared before)) (pair_places (words_of_pairs pairs)) ≡ true
    said : pairs_at (number_at before) (map (λ x. x.1) (pair_places (words_of_pairs pairs))) ≡ Some pairs

  pairs_pass : (pairs : List Pair) → Every (IsTimed p.semaphores) pairs → PassAsPairs pairs
  pairs_pass [] a =
      record {
        long = refl;
        are_words = refl;
        shaped = refl;
        numeric = refl;
        known = refl;
        fresh = refl;
        said = refl;
      }
  pairs_pass (pair ∷ pairs) a =
      let one = timeline_named pair.semaphore a.0.0 in
      let name : List ℕ = name_at pair.semaphore in
      let value : List ℕ = decimal pair.value in
      let back = decimal_back pair.value a.0.1 in
      let more = pairs_pass pairs a.1 in
      let words : List (List ℕ) = words_of_pairs pairs in
      let long = more.long in
      record {
        long = omega arith;
        are_words =
            and_from (is_text_word name) (are_text_words (value ∷ words)) (name_word name one.0)
            (and_from (is_text_word value) (are_text_words words) (decimal_word pair.value a.0.1)
            more.are_words);
        shaped =
            and_from (is_name name) (list_all is_shaped (pair_places words)) one.0 more.shaped;
        numeric =
            and_from (is_some (numeral value)) (list_all is_numeric (pair_places words))
            (λ i. is_some (back i)) more.numeric;
        known =
            and_from (is_some (number_at before TimelineName name))
            (list_all (is_known (number_at before)) (pair_places words)) (λ i. is_some (one.1 i)) more.known;
        fresh = more.fresh;
        said = λ i.
            of_two (λ x xs. x ∷ xs)
            (of_two (λ y z. record { semaphore = y; value = z }) (one.1 i) (back i))
            (more.said i);
      }

  -- they are as many as a line of pairs asks for
  are_even : (pair : Pair) (pairs : List Pair) → PassAsPairs (pair ∷ pairs) →
      (nat_lt 0 (length (words_of_pairs (pair ∷ pairs)))
      && (length (words_of_pairs (pair ∷ pairs)) % 2 == 0)) ≡ true
  are_even pair pairs k =
      let long = k.long in
      and_from (nat_lt 0 (length (words_of_pairs (pair ∷ pairs))))
      (length (words_of_pairs (pair ∷ pairs)) % 2 == 0)
      (lt-ltb 0 (length (words_of_pairs (pair ∷ pairs))) (omega arith))
      (eq-eqb (length (words_of_pairs (pair ∷ pairs)) % 2) 0 (omega arith))

  -- a wait and a poll, for all pairs or for any: `of` such pairs, in lines of the form `f`
  pairs_read : (f : LineForm) (of : List Pair → HostStep) (word which : List ℕ) (pairs : List Pair) →
      is_text_word word ≡ true → is_text_word which ≡ true → MayStep p (of pairs) →
      PassAsPairs pairs →
      (section before ≡ Outside →
      form_of form before (codes "host" ∷ word ∷ which ∷ words_of_pairs pairs) ≡ Some f) →
      open_places (places f) (codes "host" ∷ word ∷ which ∷ words_of_pairs pairs)
      ≡ pair_places (words_of_pairs pairs) →
      is_out_of_order (earlier before) f
      ≡ (some (λ s. nat_lt 0 (part_of s)) (open_batch before) || false) →
      ((words : List (List ℕ)) → statement_of (number_at before) f words
      ≡ option_map (λ ps. TakeHostStep (of ps)) (pairs_at (number_at before) words)) →
      ReadsAs form before (codes "host" ∷ word ∷ which ∷ words_of_pairs pairs)
      (TakeHostStep (of pairs))
  pairs_read f of word which pairs is_word is_which m k found opened order says =
      let passes = step_passes (of pairs) m in
      let some_words : List (List ℕ) = words_of_pairs pairs in
      let words : are_text_words (codes "host" ∷ word ∷ which ∷ some_words) ≡ true =
      and_from (is_text_word word) (are_text_words (which ∷ some_words)) is_word
      (and_from (is_text_word which) (are_text_words some_words) is_which k.are_words) in
      let tests : PassesTests form before (codes "host" ∷ word ∷ which ∷ some_words) f
      (TakeHostStep (of pairs)) =
      record {
        found = found passes.part;
        plain = words_plain (codes "host" ∷ word ∷ which ∷ some_words) words;
        shaped = ap (list_all is_shaped) opened ∙ k.shaped;
        in_order = order ∙ passes.in_order;
        numeric = ap (list_all is_numeric) opened ∙ k.numeric;
        known = ap (list_all (is_known (number_at before))) opened ∙ k.known;
        fresh = ap (list_all (is_new (is_declared before))) opened ∙ k.fresh;
        said = ap (λ (os : List (Slot × List ℕ)). statement_of (number_at before) f (map (λ x. x.1) os)) opened
            ∙ (says (map (λ x. x.1) (pair_places some_words))
            ∙ (λ i. option_map (λ ps. TakeHostStep (of ps)) (k.said i)));
        ranged = refl;
        apart = refl;
        limited = passes.limited;
      } in
      record {
        are_words = words;
        reads =
            λ n. read_tested form before n (codes "host") (word ∷ which ∷ some_words) f
            (TakeHostStep (of pairs)) tests;
      }

  -- A step that may follow
  pub step_reads : (step : HostStep) → MayStep p step →
      ReadsAs form before (codes "host" ∷ step_words (declared_script p) step) (TakeHostStep step)
  step_reads (Signal pair) m = signal_reads pair m
  step_reads (WaitAll []) m = let none = m.fits.some_pairs in absurd (omega arith)
  step_reads (WaitAll (pair ∷ pairs)) m =
      let k = pairs_pass (pair ∷ pairs) m.fits.all in
      pairs_read HostWaitAllLine (λ ps. WaitAll ps) (codes "wait") (codes "all") (pair ∷ pairs) refl
      refl m k
      (λ e. form_outside form before
      (codes "host" ∷ codes "wait" ∷ codes "all" ∷ words_of_pairs (pair ∷ pairs))
      (Some HostWaitAllLine) e refl (taken _ HostWaitAllLine _ (are_even pair pairs k))) refl refl
      (λ ws. refl)
  step_reads (WaitAny []) m = let none = m.fits.some_pairs in absurd (omega arith)
  step_reads (WaitAny (pair ∷ pairs)) m =
      let k = pairs_pass (pair ∷ pairs) m.fits.all in
      pairs_read HostWaitAnyLine (λ ps. WaitAny ps) (codes "wait") (codes "any") (pair ∷ pairs) refl
      refl m k
      (λ e. form_outside form before
      (codes "host" ∷ codes "wait" ∷ codes "any" ∷ words_of_pairs (pair ∷ pairs))
      (Some HostWaitAnyLine) e refl
      (skipped _ HostWaitAllLine _ _ (taken _ HostWaitAnyLine _ (are_even pair pairs k)))) refl refl
      (λ ws. refl)
  step_reads (PollAll []) m = let none = m.fits.some_pairs in absurd (omega arith)
  step_reads (PollAll (pair ∷ pairs)) m =
      let k = pairs_pass (pair ∷ pairs) m.fits.all in
      pairs_read HostPollAllLine (λ ps. PollAll ps) (codes "poll") (codes "all") (pair ∷ pairs) refl
      refl m k
      (λ e. form_outside form before
      (codes "host" ∷ codes "poll" ∷ codes "all" ∷ words_of_pairs (pair ∷ pairs))
      (Some HostPollAllLine) e refl
      (skipped _ HostWaitAllLine _ _ (skipped _ HostWaitAnyLine _ _
      (taken _ HostPollAllLine _ (are_even pair pairs k))))) refl refl
      (λ ws. refl)
  step_reads (PollAny []) m = let none = m.fits.some_pairs in absurd (omega arith)
  step_reads (PollAny (pair ∷ pairs)) m =
      let k = pairs_pass (pair ∷ pairs) m.fits.all in
      pairs_read HostPollAnyLine (λ ps. PollAny ps) (codes "poll") (codes "any") (pair ∷ pairs) refl
      refl m k
      (λ e. form_outside form before
      (codes "host" ∷ codes "poll" ∷ codes "any" ∷ words_of_pairs (pair ∷ pairs))
      (Some HostPollAnyLine) e refl
      (skipped _ HostWaitAllLine _ _ (skipped _ HostWaitAnyLine _ _
      (skipped _ HostPollAllLine _ _ (taken _ HostPollAnyLine _ (are_even pair pairs k)))))) refl refl
      (λ ws. refl)
  step_reads (Read t) m = value_reads t m
  step_reads (FenceWait f) m =
      fence_reads HostFenceWaitLine (λ x. FenceWait x) (codes "wait") f refl m m.fits
      (λ e. form_outside form before
      (codes "host" ∷ codes "fence" ∷ codes "wait" ∷ name_at f ∷ []) (Some HostFenceWaitLine) e refl
      refl) refl refl (λ name. refl)
  step_reads (FencePoll f) m =
      fence_reads HostFencePollLine (λ x. FencePoll x) (codes "poll") f refl m m.fits
      (λ e. form_outside form before
      (codes "host" ∷ codes "fence" ∷ codes "poll" ∷ name_at f ∷ []) (Some HostFencePollLine) e refl
      refl) refl refl (λ name. refl)
  step_reads (FenceReset f) m =
      fence_reads HostFenceResetLine (λ x. FenceReset x) (codes "reset") f refl m m.fits
      (λ e. form_outside form before
      (codes "host" ∷ codes "fence" ∷ codes "reset" ∷ name_at f ∷ []) (Some HostFenceResetLine) e refl
      refl) refl refl (λ name. refl)
  step_reads Idle m = idle_reads m
