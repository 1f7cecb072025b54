-- A line without a fault not_false all tests of its form, and a line that not_false them has no fault.
use Rattle.std.proofs.Common.{◌≡◌, ℕ, true, false, List, map, Some, not, [], ◌∷◌, Option, None, refl, sym, ap, ◌∙◌, Bool, cond, find, Ok}
use Rattle.std.specs.List.{list_all}
use Rattle.vq_model.specs.declared.statement.Form.{Form}
use Rattle.vq_model.specs.declared.statement.Statement.{Statement}
use Rattle.vq_model.specs.declared.statement.Line.{Line}
use Rattle.vq_model.specs.declared.statement.LineForm.{LineForm}
use Rattle.vq_model.specs.Text.{is_plain}
use Rattle.vq_model.specs.Forms.{places}
use Rattle.vq_model.specs.Meaning.{open_places, statement_of, form_of, meaning}
use Rattle.vq_model.specs.LineFaults.{is_shaped, is_numeric, is_known, is_new, is_out_of_order, is_in_range, overlaps, fails, has_fault, fault_of}
use Rattle.std.specs.Option.{option_map_or, option_and_then}
use Rattle.std.proofs.lemmas.Bool.{or_parts, or_from, not-false}
use Rattle.vq_model.specs.declared.statement.FaultKind.TheVariants.{Syntax, Order, Number, Name, Twice, Range, Overlap, Limit}
use Rattle.vq_reading_laws.proofs.Cited.{first_fails}
use Rattle.vq_model.specs.Reading.{with_line, without_fault, read_statement}
use Rattle.vq_model.specs.Context.{number_at, is_declared, buffers}
use Rattle.vq_model.specs.Earlier.{earlier}
use Rattle.vq_model.specs.LineFaults.{passes_limit}

-- A line's words pass all tests of a form, and say a statement.
pub record PassesTests (form : Form) (before : List Line) (words : List (List ℕ)) (f : LineForm)
    (s : Statement) : Type 0 where
  pub found : form_of form before words ≡ Some f
  pub plain : list_all (list_all is_plain) words ≡ true
  pub shaped : list_all is_shaped (open_places (places f) words) ≡ true
  pub in_order : is_out_of_order (earlier before) f ≡ false
  pub numeric : list_all is_numeric (open_places (places f) words) ≡ true
  pub known : list_all (is_known (number_at before)) (open_places (places f) words) ≡ true
  pub fresh : list_all (is_new (is_declared before)) (open_places (places f) words) ≡ true
  pub said : statement_of (number_at before) f (map (λ x. x.1) (open_places (places f) words)) ≡ Some s
  pub ranged : is_in_range (earlier before) s ≡ true
  pub apart : overlaps (buffers before) s ≡ false
  pub limited : passes_limit (earlier before) s ≡ false

-- a line without a fault has a form, and not_false its tests
pub tests_passed : (form : Form) (before : List Line) (words : List (List ℕ)) (s : Statement) →
    fault_of form before words ≡ None → meaning form before words ≡ Some s →
    (f : LineForm) × PassesTests form before words f s
tests_passed form before words s h m =
    let one =
    first_fails (has_fault form before words) Syntax
    (Order ∷ Number ∷ Name ∷ Twice ∷ Range ∷ Overlap ∷ Limit ∷ []) h in
    let two =
    first_fails (has_fault form before words) Order
    (Number ∷ Name ∷ Twice ∷ Range ∷ Overlap ∷ Limit ∷ []) one.1 in
    let three =
    first_fails (has_fault form before words) Number (Name ∷ Twice ∷ Range ∷ Overlap ∷ Limit ∷ [])
    two.1 in
    let four =
    first_fails (has_fault form before words) Name (Twice ∷ Range ∷ Overlap ∷ Limit ∷ []) three.1 in
    let five =
    first_fails (has_fault form before words) Twice (Range ∷ Overlap ∷ Limit ∷ []) four.1 in
    let six = first_fails (has_fault form before words) Range (Overlap ∷ Limit ∷ []) five.1 in
    let seven = first_fails (has_fault form before words) Overlap (Limit ∷ []) six.1 in
    let eight = first_fails (has_fault form before words) Limit [] seven.1 in
    let syntax =
    or_parts (not (list_all (list_all is_plain) words))
    (option_map_or (fails is_shaped words) (form_of form before words) true) one.0 in
    by_form (form_of form before words) refl syntax.0 syntax.1 two.0 three.0 four.0 five.0 m
    (not-false (is_in_range (earlier before) s)
    (sym (ap (λ (o : Option Statement). option_map_or (λ x. not (is_in_range (earlier before) x)) o false) m)
    ∙ six.0))
    (sym (ap (λ (o : Option Statement). option_map_or (overlaps (buffers before)) o false) m) ∙ seven.0)
    (sym (ap (λ (o : Option Statement). option_map_or
    (passes_limit (earlier before)) o false) m) ∙ eight.0)
  where
    by_form : (o : Option LineForm) → form_of form before words ≡ o →
        not (list_all (list_all is_plain) words) ≡ false →
        option_map_or (fails is_shaped words) o true ≡ false →
        option_map_or (is_out_of_order (earlier before)) o false ≡ false →
        option_map_or (fails is_numeric words) o false ≡ false →
        option_map_or (fails (is_known (number_at before)) words) o false ≡ false →
        option_map_or (fails (is_new (is_declared before)) words) o false ≡ false →
        option_and_then (λ f. statement_of (number_at before) f (map (λ x. x.1) (open_places (places f) words)))
        o ≡ Some s →
        is_in_range (earlier before) s ≡ true → overlaps (buffers before) s ≡ false →
        passes_limit (earlier before) s ≡ false →
        (f : LineForm) × PassesTests form before words f s
    by_form None e plain shaped order numeric known fresh said r o l = absurd (cc)
    by_form (Some f) e plain shaped order numeric known fresh said r o l = (
      f,
      record {
        found = e;
        plain = not-false (list_all (list_all is_plain) words) plain;
        shaped = not-false (list_all is_shaped (open_places (places f) words)) shaped;
        in_order = order;
        numeric = not-false (list_all is_numeric (open_places (places f) words)) numeric;
        known = not-false (list_all (is_known (number_at before)) (open_places (places f) words)) known;
        fresh = not-false (list_all (is_new (is_declared before)) (open_places (places f) words)) fresh;
        said = said;
        ranged = r;
        apart = o;
        limited = l;
      },
    )

-- nothing is found where the first and the others fail the test
none_found : {A : Type 0} (p : A → Bool) (x : A) (xs : List A) → p x ≡ false → find p xs ≡ None →
    find p (x ∷ xs) ≡ None
none_found p x xs e h = ap (λ (b : Bool). cond b (Some x) (find p xs)) e ∙ h

module _ (form : Form) (before : List Line) (words : List (List ℕ)) (f : LineForm) (s : Statement)
    (t : PassesTests form before words f s) where
  -- what such a line says
  pub tests_say : meaning form before words ≡ Some s
  tests_say =
      ap (option_and_then (λ g. statement_of (number_at before) g
      (map (λ x. x.1) (open_places (places g) words)))) t.found
      ∙ t.said

  -- it has no fault
  pub no_fault : fault_of form before words ≡ None
  no_fault =
      none_found (has_fault form before words) Syntax
      (Order ∷ Number ∷ Name ∷ Twice ∷ Range ∷ Overlap ∷ Limit ∷ [])
      (or_from (not (list_all (list_all is_plain) words))
      (option_map_or (fails is_shaped words) (form_of form before words) true)
      (ap not t.plain)
      (ap (λ (o : Option LineForm). option_map_or (fails is_shaped words) o true) t.found
      ∙ ap not t.shaped))
      (none_found (has_fault form before words) Order
      (Number ∷ Name ∷ Twice ∷ Range ∷ Overlap ∷ Limit ∷ [])
      (ap (λ (o : Option LineForm). option_map_or (is_out_of_order (earlier before)) o false) t.found
      ∙ t.in_order)
      (none_found (has_fault form before words) Number (Name ∷ Twice ∷ Range ∷ Overlap ∷ Limit ∷ [])
      (ap (λ (o : Option LineForm). option_map_or (fails is_numeric words) o false) t.found
      ∙ ap not t.numeric)
      (none_found (has_fault form before words) Name (Twice ∷ Range ∷ Overlap ∷ Limit ∷ [])
      (ap (λ (o : Option LineForm). option_map_or (fails (is_known (number_at before)) words) o false) t.found
      ∙ ap not t.known)
      (none_found (has_fault form before words) Twice (Range ∷ Overlap ∷ Limit ∷ [])
      (ap (λ (o : Option LineForm). option_map_or (fails (is_new (is_declared before)) words) o false) t.found
      ∙ ap not t.fresh)
      (none_found (has_fault form before words) Range (Overlap ∷ Limit ∷ [])
      (ap (λ (o : Option Statement). option_map_or (λ x. not (is_in_range (earlier before) x)) o false)
      tests_say ∙ ap not t.ranged)
      (none_found (has_fault form before words) Overlap (Limit ∷ [])
      (ap (λ (o : Option Statement). option_map_or (overlaps (buffers before)) o false) tests_say ∙ t.apart)
      (none_found (has_fault form before words) Limit []
      (ap (λ (o : Option Statement). option_map_or
      (passes_limit (earlier before)) o false) tests_say ∙ t.limited)
      refl)))))))

-- A line whose words pass the tests is read as its statement.
pub read_tested : (form : Form) (before : List Line) (n : ℕ) (word : List ℕ) (words : List (List ℕ))
    (f : LineForm) (s : Statement) → PassesTests form before (word ∷ words) f s →
    read_statement form before n (word ∷ words) ≡ Ok (with_line before n s)
read_tested form before n word words f s t = λ i.
    without_fault (no_fault form before (word ∷ words) f s t i)
    (option_map_or (with_line before n) (tests_say form before (word ∷ words) f s t i) before)
