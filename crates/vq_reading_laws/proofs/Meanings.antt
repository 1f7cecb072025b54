-- A line without a fault says something.
use Rattle.std.proofs.Common.{◌≡◌, Bool, true, false, ◌&&◌, refl, Option, Some, None, ℕ, List, [], ◌∷◌, map, cond, subst, not, ◌||◌}
use Rattle.std.specs.Prelude.{is_some, find}
use Rattle.std.specs.Option.{option_map, option_map_or, option_and_then}
use Rattle.std.proofs.lemmas.Bool.{not-false}
use Rattle.vq_model.specs.Meaning.{of_two, of_three, of_four, of_five, pair_at, pair_places, pairs_at, matches, open_places, statement_of, actor_at, small_numeral, meaning, form_of, forms_at}
use Rattle.vq_model.specs.declared.statement.Line.{Line}
use Rattle.vq_model.specs.Text.{numeral, is_plain}
use Rattle.std.specs.List.{list_all}
use Rattle.vq_model.specs.LineFaults.{is_numeric, is_known, fails, is_shaped, fault_of, has_fault}
use Rattle.vq_model.specs.Forms.{places}
use Rattle.vq_model.specs.declared.statement.LineForm.{LineForm}
use Rattle.vq_model.specs.declared.statement.LineForm.TheVariants.{VersionLine, BufferLine, TimelineLine, BinaryLine, FenceLine, QueueLine, SubmitLine, HostSignalLine, HostWaitAllLine, HostWaitAnyLine, HostPollAllLine, HostPollAnyLine, HostReadLine, HostFenceWaitLine, HostFencePollLine, HostFenceResetLine, HostIdleLine, ScheduleLine, WaitTimelineLine, WaitBinaryLine, HeldTimelineLine, HeldBinaryLine, FillWholeLine, FillLine, UpdateLine, CopyLine, SignalTimelineLine, SignalBinaryLine, BatchFenceLine, EndLine, TurnLine, TurnsLine}
use Rattle.vq_model.specs.declared.statement.Form.{Form}
use Rattle.vq_model.specs.declared.statement.FaultKind.TheVariants.{Syntax, Order, Number, Name, Twice, Range, Overlap, Limit}
use Rattle.vq_model.specs.declared.statement.Statement.{Statement}
use Rattle.vq_model.specs.Context.{number_at}
use Rattle.vq_model.specs.Forms.{BufferName, TimelineName, BinaryName, FenceName, QueueName}
use Rattle.vq_ground.proofs.Bools.{never}

-- a conjunction's parts
and_first : (a b : Bool) → a && b ≡ true → a ≡ true
and_first true b h = refl
and_first false b h = h

and_second : (a b : Bool) → a && b ≡ true → b ≡ true
and_second true b h = h
and_second false b h = absurd (cc)

-- a function's value is read where its arguments are
mapped : {A B : Type 0} (f : A → B) (a : Option A) → is_some a ≡ true → is_some (option_map f a) ≡ true
mapped f None h = h
mapped f (Some x) h = refl

two : {A B C : Type 0} (f : A → B → C) (a : Option A) (b : Option B) → is_some a ≡ true → is_some b ≡ true → is_some (of_two f a b) ≡ true
two f None b h i = h
two f (Some x) b h i = mapped (f x) b i

three : {A B C D : Type 0} (f : A → B → C → D) (a : Option A) (b : Option B) (c : Option C) → is_some a ≡ true → is_some b ≡ true → is_some c ≡ true → is_some (of_three f a b c) ≡ true
three f None b c h i j = h
three f (Some x) b c h i j = two (f x) b c i j

four : {A B C D E : Type 0} (f : A → B → C → D → E) (a : Option A) (b : Option B) (c : Option C) (d : Option D) → is_some a ≡ true → is_some b ≡ true → is_some c ≡ true → is_some d ≡ true → is_some (of_four f a b c d) ≡ true
four f None b c d h i j k = h
four f (Some x) b c d h i j k = three (f x) b c d i j k

five : {A B C D E F : Type 0} (f : A → B → C → D → E → F) (a : Option A) (b : Option B) (c : Option C) (d : Option D) (e : Option E) → is_some a ≡ true → is_some b ≡ true → is_some c ≡ true → is_some d ≡ true → is_some e ≡ true → is_some (of_five f a b c d e) ≡ true
five f None b c d e h i j k l = h
five f (Some x) b c d e h i j k l = four (f x) b c d e i j k l

pair_said : (before : List Line) (name value : List ℕ) → is_some (number_at before TimelineName name) ≡ true → is_some (numeral value) ≡ true → is_some (pair_at (number_at before) name value) ≡ true
pair_said before name value h i = two _ (number_at before TimelineName name) (numeral value) h i

-- pairs whose names are known and whose values are numerals
pairs_said : (before : List Line) (words : List (List ℕ)) → list_all is_numeric (pair_places words) ≡ true → list_all (is_known (number_at before)) (pair_places words) ≡ true → is_some (pairs_at (number_at before) (map (λ x. x.1) (pair_places words))) ≡ true
pairs_said before [] n k = refl
pairs_said before (a ∷ []) n k = refl
pairs_said before (a ∷ b ∷ words) n k =
    two _ (pair_at (number_at before) a b) (pairs_at (number_at before) (map (λ x. x.1) (pair_places words))) (pair_said before a b (and_first _ _ k) (and_first _ _ n)) (pairs_said before words (and_second _ _ n) (and_second _ _ k))

-- words that match a form, with numerals and known names in their places, say something
said : (before : List Line) (f : LineForm) (words : List (List ℕ)) → matches words f ≡ true → list_all is_numeric (open_places (places f) words) ≡ true → list_all (is_known (number_at before)) (open_places (places f) words) ≡ true → is_some (statement_of (number_at before) f (map (λ x. x.1) (open_places (places f) words))) ≡ true
said before VersionLine (a ∷ b ∷ []) m n k = refl
said before VersionLine words m n k = never m
said before BufferLine (a ∷ b ∷ c ∷ []) m n k = mapped _ (numeral c) (and_first _ _ n)
said before BufferLine words m n k = never m
said before TimelineLine (a ∷ b ∷ c ∷ []) m n k = mapped _ (numeral c) (and_first _ _ n)
said before TimelineLine words m n k = never m
said before BinaryLine (a ∷ b ∷ []) m n k = refl
said before BinaryLine words m n k = never m
said before FenceLine (a ∷ b ∷ []) m n k = refl
said before FenceLine words m n k = never m
said before (QueueLine mode) (a ∷ b ∷ c ∷ []) m n k = refl
said before (QueueLine mode) words m n k = never m
said before SubmitLine (a ∷ b ∷ []) m n k = mapped _ (number_at before QueueName b) (and_first _ _ k)
said before SubmitLine words m n k = never m
said before HostSignalLine (a ∷ b ∷ c ∷ d ∷ []) m n k = mapped _ (pair_at (number_at before) c d) (pair_said before c d (and_first _ _ k) (and_first _ _ n))
said before HostSignalLine words m n k = never m
said before HostWaitAllLine (a ∷ b ∷ c ∷ words) m n k = mapped _ (pairs_at (number_at before) (map (λ x. x.1) (pair_places words))) (pairs_said before words n k)
said before HostWaitAllLine words m n k = never m
said before HostWaitAnyLine (a ∷ b ∷ c ∷ words) m n k = mapped _ (pairs_at (number_at before) (map (λ x. x.1) (pair_places words))) (pairs_said before words n k)
said before HostWaitAnyLine words m n k = never m
said before HostPollAllLine (a ∷ b ∷ c ∷ words) m n k = mapped _ (pairs_at (number_at before) (map (λ x. x.1) (pair_places words))) (pairs_said before words n k)
said before HostPollAllLine words m n k = never m
said before HostPollAnyLine (a ∷ b ∷ c ∷ words) m n k = mapped _ (pairs_at (number_at before) (map (λ x. x.1) (pair_places words))) (pairs_said before words n k)
said before HostPollAnyLine words m n k = never m
said before HostReadLine (a ∷ b ∷ c ∷ []) m n k = mapped _ (number_at before TimelineName c) (and_first _ _ k)
said before HostReadLine words m n k = never m
said before HostFenceWaitLine (a ∷ b ∷ c ∷ d ∷ []) m n k = mapped _ (number_at before FenceName d) (and_first _ _ k)
said before HostFenceWaitLine words m n k = never m
said before HostFencePollLine (a ∷ b ∷ c ∷ d ∷ []) m n k = mapped _ (number_at before FenceName d) (and_first _ _ k)
said before HostFencePollLine words m n k = never m
said before HostFenceResetLine (a ∷ b ∷ c ∷ d ∷ []) m n k = mapped _ (number_at before FenceName d) (and_first _ _ k)
said before HostFenceResetLine words m n k = never m
said before HostIdleLine (a ∷ b ∷ []) m n k = refl
said before HostIdleLine words m n k = never m
said before ScheduleLine (a ∷ []) m n k = refl
said before ScheduleLine words m n k = never m
said before WaitTimelineLine (a ∷ b ∷ c ∷ []) m n k = mapped _ (pair_at (number_at before) b c) (pair_said before b c (and_first _ _ k) (and_first _ _ n))
said before WaitTimelineLine words m n k = never m
said before WaitBinaryLine (a ∷ b ∷ []) m n k = mapped _ (number_at before BinaryName b) (and_first _ _ k)
said before WaitBinaryLine words m n k = never m
said before HeldTimelineLine (a ∷ b ∷ c ∷ d ∷ e ∷ []) m n k = two _ (pair_at (number_at before) b c) (numeral e) (pair_said before b c (and_first _ _ k) (and_first _ _ n)) (and_first _ _ (and_second _ _ n))
said before HeldTimelineLine words m n k = never m
said before HeldBinaryLine (a ∷ b ∷ c ∷ d ∷ []) m n k = two _ (number_at before BinaryName b) (numeral d) (and_first _ _ k) (and_first _ _ n)
said before HeldBinaryLine words m n k = never m
said before FillWholeLine (a ∷ b ∷ c ∷ d ∷ e ∷ []) m n k = three _ (number_at before BufferName b) (numeral c) (small_numeral e) (and_first _ _ k) (and_first _ _ n) (and_first _ _ (and_second _ _ n))
said before FillWholeLine words m n k = never m
said before FillLine (a ∷ b ∷ c ∷ d ∷ e ∷ []) m n k = four _ (number_at before BufferName b) (numeral c) (numeral d) (small_numeral e) (and_first _ _ k) (and_first _ _ n) (and_first _ _ (and_second _ _ n)) (and_first _ _ (and_second _ _ (and_second _ _ n)))
said before FillLine words m n k = never m
said before UpdateLine (a ∷ b ∷ c ∷ d ∷ []) m n k = two _ (number_at before BufferName b) (numeral c) (and_first _ _ k) (and_first _ _ n)
said before UpdateLine words m n k = never m
said before CopyLine (a ∷ b ∷ c ∷ d ∷ e ∷ g ∷ []) m n k = five _ (number_at before BufferName b) (numeral c) (number_at before BufferName d) (numeral e) (numeral g) (and_first _ _ k) (and_first _ _ n) (and_first _ _ (and_second _ _ k)) (and_first _ _ (and_second _ _ n)) (and_first _ _ (and_second _ _ (and_second _ _ n)))
said before CopyLine words m n k = never m
said before SignalTimelineLine (a ∷ b ∷ c ∷ []) m n k = mapped _ (pair_at (number_at before) b c) (pair_said before b c (and_first _ _ k) (and_first _ _ n))
said before SignalTimelineLine words m n k = never m
said before SignalBinaryLine (a ∷ b ∷ []) m n k = mapped _ (number_at before BinaryName b) (and_first _ _ k)
said before SignalBinaryLine words m n k = never m
said before BatchFenceLine (a ∷ b ∷ []) m n k = mapped _ (number_at before FenceName b) (and_first _ _ k)
said before BatchFenceLine words m n k = never m
said before EndLine (a ∷ []) m n k = refl
said before EndLine words m n k = never m
said before TurnLine (a ∷ []) m n k = mapped _ (actor_at (number_at before) a) (and_first _ _ k)
said before TurnLine words m n k = never m
said before TurnsLine (a ∷ b ∷ []) m n k = two _ (actor_at (number_at before) a) (numeral b) (and_first _ _ k) (and_first _ _ n)
said before TurnsLine words m n k = never m

-- what is found passes the test
pub found_passes : {A : Type 0} (p : A → Bool) (xs : List A) (y : A) → find p xs ≡ Some y → p y ≡ true
found_passes p [] y h = absurd (cc)
found_passes {A} p (x ∷ xs) y h = by_test (p x) refl (found_passes p xs y) h
  where
    by_test : (b : Bool) → p x ≡ b → (find p xs ≡ Some y → p y ≡ true) → cond b (Some x) (find p xs) ≡ Some y → p y ≡ true
    by_test true e rest h = let same : x ≡ y = cc in subst (λ (z : A). p z ≡ true) same e
    by_test false e rest h = rest h

-- where nothing is found, the first fails the test
pub first_fails : {A : Type 0} (p : A → Bool) (x : A) (xs : List A) → find p (x ∷ xs) ≡ None → (p x ≡ false) × (find p xs ≡ None)
first_fails {A} p x xs h = by_test (p x) refl h
  where
    by_test : (b : Bool) → p x ≡ b → cond b (Some x) (find p xs) ≡ None → (p x ≡ false) × (find p xs ≡ None)
    by_test true e h = absurd (cc)
    by_test false e h = (e, h)

-- A line without a fault has a form, and its words say something after the lines before.
pub has_meaning : (form : Form) (before : List Line) (words : List (List ℕ)) → fault_of form before words ≡ None → (s : Statement) × (meaning form before words ≡ Some s)
has_meaning form before words h =
    let one = first_fails (has_fault form before words) Syntax (Order ∷ Number ∷ Name ∷ Twice ∷ Range ∷ Overlap ∷ Limit ∷ []) h in
    let two = first_fails (has_fault form before words) Order (Number ∷ Name ∷ Twice ∷ Range ∷ Overlap ∷ Limit ∷ []) one.1 in
    let three = first_fails (has_fault form before words) Number (Name ∷ Twice ∷ Range ∷ Overlap ∷ Limit ∷ []) two.1 in
    let four = first_fails (has_fault form before words) Name (Twice ∷ Range ∷ Overlap ∷ Limit ∷ []) three.1 in
    by_form (form_of form before words) refl one.0 three.0 four.0
  where
    found : (f : LineForm) → form_of form before words ≡ Some f → matches words f ≡ true
    found f e =
        found_passes (matches words) (forms_at form before) f e

    some_said : (o : Option Statement) → is_some o ≡ true → (s : Statement) × (o ≡ Some s)
    some_said None h = absurd (cc)
    some_said (Some s) h = (s, refl)

    by_form : (o : Option LineForm) → form_of form before words ≡ o →
        (not (list_all (list_all is_plain) words) || option_map_or (fails is_shaped words) o true) ≡ false →
        option_map_or (fails is_numeric words) o false ≡ false → option_map_or (fails (is_known (number_at before)) words) o false ≡ false →
        (s : Statement) × (option_and_then (λ f. statement_of (number_at before) f (map (λ x. x.1) (open_places (places f) words))) o ≡ Some s)
    by_form None e h n k = absurd (no_form (not (list_all (list_all is_plain) words)) h)
      where
        no_form : (b : Bool) → (b || true) ≡ false → ⊥
        no_form true h = cc
        no_form false h = cc
    by_form (Some f) e h n k =
        some_said (statement_of (number_at before) f (map (λ x. x.1) (open_places (places f) words))) (said before f words (found f e) (not-false (list_all is_numeric (open_places (places f) words)) n) (not-false (list_all (is_known (number_at before)) (open_places (places f) words)) k))
