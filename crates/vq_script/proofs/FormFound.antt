-- The form of a line's words, by what is kept of the lines before it.
use Rattle.std.proofs.Common.{◌≡◌, ◌≤◌, ℕ, Bool, true, false, not, cond, List, [], ◌∷◌, ◌++◌, map, Option, Some, None, length, arith, refl, ap}
use Rattle.std.specs.Borrow.{Bor}
use Rattle.std.proofs.lemmas.List.{length-map}
use Rattle.std.specs.Prelude.{find, nat_lt, ◌==◌}
use Rattle.std.specs.List.{list_all}
use Rattle.std.proofs.lemmas.Bool.{and_parts, false≢true, not-true}
use Rattle.vq_model.specs.declared.script.Batch.{Batch}
use Rattle.vq_model.specs.declared.statement.Line.{Line}
use Rattle.vq_model.specs.declared.statement.Form.{Form}
use Rattle.vq_model.specs.declared.statement.Form.TheVariants.{Plain, Scheduled}
use Rattle.vq_model.specs.declared.statement.LineForm.{LineForm}
use Rattle.vq_model.specs.declared.statement.LineForm.TheVariants.{VersionLine, HostWaitAllLine, HostWaitAnyLine, HostPollAllLine, HostPollAnyLine}
use Rattle.vq_model.specs.declared.statement.Section.TheVariants.{Outside, InBatch}
use Rattle.vq_model.specs.Context.{section, version_of}
use Rattle.vq_model.specs.Forms.{Slot, Fixed, Pairs, TimelineName, Numeral, places, forms_outside, forms_in_batch, forms_in_schedule, held_forms, schedule_forms}
use Rattle.vq_model.specs.LineFaults.{part_of_form}
use Rattle.vq_model.specs.Meaning.{matches, form_of, are_as_many, agree, open_places, pair_places}
use Rattle.vq_reading_laws.proofs.Cited.{found_belongs, found_passes}
use Rattle.vq_script.specs.Holds.{Holds, Kept, section_of, are_none}
use Rattle.vq_script.specs.SaidLines.{Fits, Stands, end_with_pairs, is_turn_form, is_version_form, open_kinds}
use Rattle.vq_forms.specs.Table.{forms_of}
use Rattle.vq_lexer.specs.Words.{texts}

-- the form of a line outside a batch, which doesn't name the version
form_outside_is : (form : Form) (before : List Line) (words : List (List ℕ)) →
    section before ≡ Outside → (are_none before ≡ true → matches words VersionLine ≡ false) →
    form_of form before words ≡ find (matches words) (forms_outside ++ schedule_forms form)
form_outside_is form [] words h none =
    ap (λ b. cond b (Some VersionLine) (find (matches words) (forms_outside ++ schedule_forms form))) (none refl)
form_outside_is form (l ∷ before) words h none = rw h refl

-- the form of a line in a batch
form_in_batch_is : (form : Form) (before : List Line) (words : List (List ℕ)) (version : ℕ) →
    section before ≡ InBatch → version_of before ≡ version →
    form_of form before words ≡ find (matches words) (held_forms version ++ forms_in_batch)
form_in_batch_is form before words version h v =
    rw h (ap (λ n. find (matches words) (held_forms n ++ forms_in_batch)) v)

-- the form of a line's words
pub form_is : (form : Form) (lines : List Line) (words : List (List ℕ)) (k : Kept)
    (batch : Option Batch) → Holds lines k batch →
    (are_none lines ≡ true → matches words VersionLine ≡ false) →
    form_of form lines words
    ≡ find (matches words) (forms_of form k.version (section_of k.scheduled batch))
form_is form lines words k None h none = by_flag k.scheduled h.part
  where
    by_flag : (b : Bool) → section lines ≡ section_of b None →
        form_of form lines words
        ≡ find (matches words) (forms_of form k.version (section_of b None))
    by_flag false e = form_outside_is form lines words e none
    by_flag true e = rw e refl
form_is form lines words k (Some b) h none =
    form_in_batch_is form lines words k.version h.part h.declares.version

-- what is tested of a form
abbrev is_inside : LineForm → Bool
is_inside form = nat_lt 0 (part_of_form form)

abbrev is_outside : LineForm → Bool
is_outside form = not (is_inside form)

abbrev takes_none : LineForm → Bool
takes_none form = not (is_turn_form form)

abbrev is_later : LineForm → Bool
is_later form = not (is_version_form form)

-- all forms of a part of a text pass a test
outside_pass : (test : LineForm → Bool) → list_all test (forms_outside ++ schedule_forms Plain) ≡ true →
    list_all test (forms_outside ++ schedule_forms Scheduled) ≡ true → (form : Form) →
    list_all test (forms_outside ++ schedule_forms form) ≡ true
outside_pass test p s Plain = p
outside_pass test p s Scheduled = s

in_batch_pass : (test : LineForm → Bool) → list_all test (held_forms 2 ++ forms_in_batch) ≡ true →
    list_all test forms_in_batch ≡ true → (version : ℕ) →
    list_all test (held_forms version ++ forms_in_batch) ≡ true
in_batch_pass test both one version = by_test (version == 2)
  where
    by_test : (b : Bool) → list_all test (cond b (held_forms 2) [] ++ forms_in_batch) ≡ true
    by_test true = both
    by_test false = one

-- the form that is found stands there
pub form_stands : (form : Form) (version : ℕ) (words : List (List ℕ)) (scheduled : Bool)
    (batch : Option Batch) (f : LineForm) →
    find (matches words) (forms_of form version (section_of scheduled batch)) ≡ Some f →
    Stands f scheduled batch
form_stands form version words false None f e =
    let forms = forms_outside ++ schedule_forms form in
    record {
      inside = not-true _ (found_belongs (matches words) is_outside forms f
          (outside_pass is_outside refl refl form) e);
      turns = not-true _ (found_belongs (matches words) takes_none forms f
          (outside_pass takes_none refl refl form) e);
      later = not-true _ (found_belongs (matches words) is_later forms f
          (outside_pass is_later refl refl form) e);
    }
form_stands form version words true None f e =
    record {
      inside = not-true _ (found_belongs (matches words) is_outside forms_in_schedule f refl e);
      turns = found_belongs (matches words) is_turn_form forms_in_schedule f refl e;
      later = not-true _ (found_belongs (matches words) is_later forms_in_schedule f refl e);
    }
form_stands form version words scheduled (Some b) f e =
    let forms = held_forms version ++ forms_in_batch in
    record {
      inside = found_belongs (matches words) is_inside forms f
          (in_batch_pass is_inside refl refl version) e;
      turns = not-true _ (found_belongs (matches words) takes_none forms f
          (in_batch_pass takes_none refl refl version) e);
      later = not-true _ (found_belongs (matches words) is_later forms f
          (in_batch_pass is_later refl refl version) e);
    }

-- words that match stand at the open places
are_of : (ps : List Slot) (words : List (List ℕ)) → are_as_many ps words ≡ true →
    end_with_pairs ps ≡ false → map (λ x. x.0) (open_places ps words) ≡ open_kinds ps
are_of [] [] m p = refl
are_of [] (w ∷ words) m p = absurd (cc)
are_of (Pairs ∷ []) words m p = absurd (cc)
are_of (Pairs ∷ q ∷ more) [] m p = absurd (cc)
are_of (Pairs ∷ q ∷ more) (w ∷ words) m p = ap (λ (ks : List Slot). Pairs ∷ ks) (are_of (q ∷ more) words m p)
are_of (Fixed text ∷ more) [] m p = absurd (cc)
are_of (Fixed text ∷ more) (w ∷ words) m p = are_of more words m p
are_of (place ∷ more) [] m p = absurd (cc)
are_of (place ∷ more) (w ∷ words) m p = ap (λ (ks : List Slot). place ∷ ks) (are_of more words m p)

-- pairs that are found are those of their words
pairs_again : (words : List (List ℕ)) →
    pair_places words ≡ pair_places (map (λ x. x.1) (pair_places words))
pairs_again [] = refl
pairs_again (name ∷ []) = refl
pairs_again (name ∷ value ∷ words) =
    ap (λ (ps : List (Slot × List ℕ)). (TimelineName, name) ∷ (Numeral, value) ∷ ps)
    (pairs_again words)

pairs_found : (f : LineForm) (words : List (List ℕ)) → are_as_many (places f) words ≡ true →
    end_with_pairs (places f) ≡ true →
    open_places (places f) words ≡ pair_places (map (λ x. x.1) (open_places (places f) words))
pairs_found HostWaitAllLine (a ∷ b ∷ c ∷ words) m e = pairs_again words
pairs_found HostWaitAllLine words m e = absurd (cc)
pairs_found HostWaitAnyLine (a ∷ b ∷ c ∷ words) m e = pairs_again words
pairs_found HostWaitAnyLine words m e = absurd (cc)
pairs_found HostPollAllLine (a ∷ b ∷ c ∷ words) m e = pairs_again words
pairs_found HostPollAllLine words m e = absurd (cc)
pairs_found HostPollAnyLine (a ∷ b ∷ c ∷ words) m e = pairs_again words
pairs_found HostPollAnyLine words m e = absurd (cc)
pairs_found other words m e = absurd (false≢true e)

-- words are as many as places that don't end with pairs, and more where they do
are_each : (ps : List Slot) (words : List (List ℕ)) → are_as_many ps words ≡ true →
    end_with_pairs ps ≡ false → length words ≡ length ps
are_each [] [] m p = refl
are_each [] (w ∷ words) m p = absurd (cc)
are_each (Pairs ∷ []) words m p = absurd (cc)
are_each (Pairs ∷ q ∷ more) [] m p = absurd (cc)
are_each (Pairs ∷ q ∷ more) (w ∷ words) m p = let rest = are_each (q ∷ more) words m p in omega arith
are_each (Fixed text ∷ more) [] m p = absurd (cc)
are_each (Fixed text ∷ more) (w ∷ words) m p = let rest = are_each more words m p in omega arith
are_each (place ∷ more) [] m p = absurd (cc)
are_each (place ∷ more) (w ∷ words) m p = let rest = are_each more words m p in omega arith

are_more : (f : LineForm) (words : List (List ℕ)) → are_as_many (places f) words ≡ true →
    end_with_pairs (places f) ≡ true → 3 ≤ length words
are_more HostWaitAllLine (a ∷ b ∷ c ∷ words) m e = omega arith
are_more HostWaitAllLine words m e = absurd (cc)
are_more HostWaitAnyLine (a ∷ b ∷ c ∷ words) m e = omega arith
are_more HostWaitAnyLine words m e = absurd (cc)
are_more HostPollAllLine (a ∷ b ∷ c ∷ words) m e = omega arith
are_more HostPollAllLine words m e = absurd (cc)
are_more HostPollAnyLine (a ∷ b ∷ c ∷ words) m e = omega arith
are_more HostPollAnyLine words m e = absurd (cc)
are_more other words m e = absurd (false≢true e)

pub words_fit : (words : List (Bor (List ℕ))) (forms : List LineForm) (f : LineForm) →
    find (matches (texts words)) forms ≡ Some f → Fits f words
words_fit words forms f e =
    let many = (and_parts (are_as_many (places f) (texts words)) (agree (places f) (texts words))
    (found_passes (matches (texts words)) forms f e)).0 in
    let long = length-map words (λ (w : Bor (List ℕ)). w.now) in
    record {
      each = λ p. let same = are_each (places f) (texts words) many p in omega arith;
      pairs = λ p. let more = are_more f (texts words) many p in omega arith;
      found = record {
        each = are_of (places f) (texts words) many;
        pairs = pairs_found f (texts words) many;
      };
    }
