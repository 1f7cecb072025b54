-- What a line says is what its words say at their places, each read once.
use Rattle.std.proofs.Common.{◌≡◌, Bool, true, false, ℕ, List, [], ◌∷◌, Option, Some, None, if◌then◌else◌, ◌∙◌, refl, ap, subst, map, drop}
use Rattle.std.specs.Prelude.{zip}
use Rattle.std.specs.Option.{option_map, option_map_or}
use Rattle.vq_capture.specs.declared.form.Form.{Form}
use Rattle.vq_capture.specs.declared.form.Form.TheVariants.{QueueLine, BinaryLine, FenceLine, EventLine, TimelineLine, ResourceLine, GoneLine, ThreadLine, AfterLine, SubmitLine, HandLine, SubmitHandedLine, HostSignalLine, SawValueLine, SawFenceLine, IdleLine, HostReadLine, HostWriteLine, CutLine, WaitTimelineLine, WaitBinaryLine, ReadLine, WriteLine, NextLine, BarrierLine, TransitionLine, SetLine, AwaitLine, SignalTimelineLine, SignalBinaryLine, BatchFenceLine, EndLine}
use Rattle.vq_capture.specs.declared.statement.Statement.{Statement}
use Rattle.vq_capture.specs.declared.statement.Statement.TheVariants.{Forget, GoOn, After, Submit, SubmitHanded, HostSignal, SawValue, SawFence, WaitIdle, HostAccess, WaitTimeline, WaitBinary, CommandAccess, Transition, SetEvent, AwaitEvent, SignalTimeline, SignalBinary, SignalFence}
use Rattle.vq_capture.specs.declared.statement.AccessKind.{AccessKind}
use Rattle.vq_capture.specs.declared.statement.AccessKind.TheVariants.{Read, Write}
use Rattle.vq_capture.specs.declared.statement.Access.{Access}
use Rattle.vq_capture.specs.declared.capture.FaultKind.{FaultKind}
use Rattle.vq_capture.specs.Context.{Above, Named, is_in_batch, named}
use Rattle.vq_capture.specs.LineForms.{Place, form_inside, form_of, form_outside, places}
use Rattle.vq_capture.specs.LineFaults.{fault_of, is_disordered, is_out_of_range, is_unreleased}
use Rattle.vq_capture.specs.Statements.{number_at, scope_at, access_scope_at, statement}
use Rattle.vq_capture_reader.specs.declared.past_names.Thing.{Thing}
use Rattle.vq_capture_reader.specs.declared.said.Said.{Said}
use Rattle.vq_capture_reader.specs.declared.word_tests.WordTests.{WordTests}
use Rattle.vq_capture_reader.specs.Said.{first_fault, said_at, statement_in, tests_of}
use Rattle.vq_capture_reader.specs.Things.{names_and_thread, thing_of}

-- Forms, one test after another

by_form : (P : Form → Type 0) (test : Bool) (first : Form) (others : Option Form) → P first → ((form : Form) → others ≡ Some form → P form) → (form : Form) → (if test then Some first else others) ≡ Some form → P form
by_form P true first others p q form e =
    let same : first ≡ form = cc in
    subst P same p
by_form P false first others p q form e = q form e

by_none : (P : Form → Type 0) (form : Form) → None ≡ Some form → P form
by_none P form e = absurd (cc)

-- Names

lines : (o : Option Named) (n : ℕ) → option_map_or (λ (t : Thing). t.line) (option_map thing_of o) n ≡ option_map_or (λ (m : Named). m.line) o n
lines None n = refl
lines (Some m) n = refl

module _ (above : Above) (line : ℕ) where
  abbrev IsRead : List (List ℕ) → Form → Type 0
  IsRead ws form = statement_in line form (map (said_at above.names) (zip (places form) (drop 1 ws))) ≡ statement above line form ws

  at : (word : List ℕ) → option_map_or (λ (t : Thing). t.line) (option_map thing_of (named above.names word)) 0 ≡ option_map_or (λ (m : Named). m.line) (named above.names word) 0
  at word = lines (named above.names word) 0

  accesses : (kind : AccessKind) (make : Access → Statement) (word : List ℕ) (offset length : ℕ) → make (record { kind = kind; resource = option_map_or (λ (t : Thing). t.line) (option_map thing_of (named above.names word)) 0; range = record { offset = offset; length = length } }) ≡ make (record { kind = kind; resource = option_map_or (λ (m : Named). m.line) (named above.names word) 0; range = record { offset = offset; length = length } })
  accesses kind make word offset length = ap (λ (n : ℕ). make (record { kind = kind; resource = n; range = record { offset = offset; length = length } })) (at word)

  outside : (ws : List (List ℕ)) (form : Form) → form_outside ws ≡ Some form → IsRead ws form
  outside [] = by_none (IsRead [])
  outside (w ∷ []) =
      let P = IsRead (w ∷ []) in
      by_form P _ CutLine _ refl (by_none P)
  outside (w ∷ a ∷ []) =
      let P = IsRead (w ∷ a ∷ []) in
      by_form P _ QueueLine _ refl
      (by_form P _ BinaryLine _ refl
      (by_form P _ FenceLine _ refl
      (by_form P _ EventLine _ refl
      (by_form P _ GoneLine _ (ap (λ n. Forget n) (at a))
      (by_form P _ ThreadLine _ (ap (λ n. GoOn n) (lines (named above.names a) line))
      (by_form P _ AfterLine _ (ap (λ n. After n) (at a))
      (by_form P _ SubmitLine _ (ap (λ n. Submit n) (at a))
      (by_form P _ HandLine _ refl
      (by_form P _ SawFenceLine _ (ap (λ n. SawFence n) (at a))
      (by_form P _ IdleLine _ (ap (λ n. WaitIdle n) (at a))
      (by_none P)))))))))))
  outside (w ∷ a ∷ b ∷ []) =
      let P = IsRead (w ∷ a ∷ b ∷ []) in
      by_form P _ TimelineLine _ refl
      (by_form P _ ResourceLine _ refl
      (by_form P _ SubmitHandedLine _ (λ i. SubmitHanded (at a i) (at b i))
      (by_form P _ HostSignalLine _ (λ i. HostSignal (at a i) (number_at (w ∷ a ∷ b ∷ []) 2))
      (by_form P _ SawValueLine _ (λ i. SawValue (at a i) (number_at (w ∷ a ∷ b ∷ []) 2))
      (by_none P)))))
  outside (w ∷ a ∷ b ∷ c ∷ []) =
      let ws : List (List ℕ) = w ∷ a ∷ b ∷ c ∷ [] in
      let P = IsRead ws in
      by_form P _ HostReadLine _ (accesses Read (λ x. HostAccess x) a (number_at ws 2) (number_at ws 3))
      (by_form P _ HostWriteLine _ (accesses Write (λ x. HostAccess x) a (number_at ws 2) (number_at ws 3))
      (by_none P))
  outside (w ∷ a ∷ b ∷ c ∷ d ∷ ws) = by_none (IsRead (w ∷ a ∷ b ∷ c ∷ d ∷ ws))

  inside : (ws : List (List ℕ)) (form : Form) → form_inside ws ≡ Some form → IsRead ws form
  inside [] = by_none (IsRead [])
  inside (w ∷ []) =
      let P = IsRead (w ∷ []) in
      by_form P _ NextLine _ refl (by_form P _ EndLine _ refl (by_none P))
  inside (w ∷ a ∷ []) =
      let P = IsRead (w ∷ a ∷ []) in
      by_form P _ BatchFenceLine _ (ap (λ n. SignalFence n) (at a)) (by_none P)
  inside (w ∷ a ∷ b ∷ []) =
      let ws : List (List ℕ) = w ∷ a ∷ b ∷ [] in
      let P = IsRead ws in
      by_form P _ WaitBinaryLine _ (λ i. WaitBinary (at a i) (scope_at ws 2))
      (by_form P _ BarrierLine _ refl
      (by_form P _ SetLine _ (λ i. SetEvent (at a i) (scope_at ws 2))
      (by_form P _ AwaitLine _ (λ i. AwaitEvent (at a i) (scope_at ws 2))
      (by_form P _ SignalBinaryLine _ (λ i. SignalBinary (at a i) (scope_at ws 2))
      (by_none P)))))
  inside (w ∷ a ∷ b ∷ c ∷ []) =
      let ws : List (List ℕ) = w ∷ a ∷ b ∷ c ∷ [] in
      let P = IsRead ws in
      by_form P _ WaitTimelineLine _ (λ i. WaitTimeline (at a i) (number_at ws 2) (scope_at ws 3))
      (by_form P _ SignalTimelineLine _ (λ i. SignalTimeline (at a i) (number_at ws 2) (scope_at ws 3))
      (by_none P))
  inside (w ∷ a ∷ b ∷ c ∷ d ∷ []) =
      let ws : List (List ℕ) = w ∷ a ∷ b ∷ c ∷ d ∷ [] in
      let P = IsRead ws in
      by_form P _ ReadLine _ (accesses Read (λ x. CommandAccess x (access_scope_at ws 4)) a (number_at ws 2) (number_at ws 3))
      (by_form P _ WriteLine _ (accesses Write (λ x. CommandAccess x (access_scope_at ws 4)) a (number_at ws 2) (number_at ws 3))
      (by_none P))
  inside (w ∷ a ∷ b ∷ c ∷ d ∷ e ∷ []) =
      let ws : List (List ℕ) = w ∷ a ∷ b ∷ c ∷ d ∷ e ∷ [] in
      let P = IsRead ws in
      by_form P _ TransitionLine _ (accesses Write (λ x. Transition (scope_at ws 1) (scope_at ws 2) x) c (number_at ws 4) (number_at ws 5))
      (by_none P)
  inside (w ∷ a ∷ b ∷ c ∷ d ∷ e ∷ f ∷ ws) = by_none (IsRead (w ∷ a ∷ b ∷ c ∷ d ∷ e ∷ f ∷ ws))

  pub line_read : (in_batch : Bool) (ws : List (List ℕ)) (form : Form) → form_of in_batch ws ≡ Some form → IsRead ws form
  line_read true ws form e = inside ws form e
  line_read false ws form e = outside ws form e

-- Of a line, by its words

module _ (above : Above) (line : ℕ) (ws : List (List ℕ)) (form : Form) (ps : List Place) (ds : List (List ℕ)) (p : ps ≡ places form) (d : ds ≡ drop 1 ws) where
  pub said_read : (out slice : List Said) (s : Statement) → form_of (is_in_batch above) ws ≡ Some form → out ≡ map (said_at above.names) (zip ps ds) → slice ≡ out → s ≡ statement_in line form slice → s ≡ statement above line form ws
  said_read out slice s f o e q =
      q
      ∙ (ap (λ (xs : List Said). statement_in line form xs) (e ∙ o)
      ∙ ((λ i. statement_in line form (map (said_at above.names) (zip (p i) (d i))))
      ∙ line_read above line (is_in_batch above) ws form f))

  pub fault_read : (result : Option FaultKind) (t : WordTests) (disordered far unreleased : Bool) (s : Statement) → result ≡ first_fault t disordered far unreleased → t ≡ tests_of (names_and_thread above.names above.thread) (zip ps ds) → disordered ≡ is_disordered above form → far ≡ is_out_of_range above s → unreleased ≡ is_unreleased above s → s ≡ statement above line form ws → result ≡ fault_of above line form ws
  fault_read result t disordered far unreleased s r e o n u q =
      r
      ∙ (λ i. first_fault (e i) (o i) (n i) (u i))
      ∙ (λ i. first_fault (tests_of (names_and_thread above.names above.thread) (zip (p i) (d i))) (is_disordered above form) (is_out_of_range above (q i)) (is_unreleased above (q i)))
