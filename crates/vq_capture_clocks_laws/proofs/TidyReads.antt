-- Reading leaves tidy steps: commands access on queues, and what is submitted was handed over.
use Rattle.std.proofs.Common.{◌≡◌, ◌⊎◌, ◌<◌, ◌≤◌, ◌+◌, Bool, true, false, ℕ, List, [], ◌∷◌, ◌++◌, cond, zip, drop, refl, sym, ◌∙◌, ap, subst, inl, inr, Option, Some, None, arith}
use Rattle.std.specs.Prelude.{◌==◌, codes, find, not, is_some, if◌then◌else◌}
use Rattle.std.specs.List.{list_all}
use Rattle.std.specs.Option.{option_map, option_map_or}
use Rattle.std.specs.Str.{bytes_eq}
use Rattle.std.proofs.lemmas.Bool.{eqb-true, eq-eqb}
use Rattle.vq_ground.proofs.Bools.{never}
use Rattle.vq_model.specs.Text.{words_of}
use Rattle.vq_capture.specs.declared.form.Form.{Form}
use Rattle.vq_capture.specs.declared.form.Form.TheVariants.{AfterLine, AwaitLine, BarrierLine, BatchFenceLine, BinaryLine, CutLine}
use Rattle.vq_capture.specs.declared.form.Form.TheVariants.{EndLine, EventLine, FenceLine, GoneLine, HandLine, HostReadLine}
use Rattle.vq_capture.specs.declared.form.Form.TheVariants.{HostSignalLine, HostWriteLine, IdleLine, NextLine, QueueLine, ReadLine}
use Rattle.vq_capture.specs.declared.form.Form.TheVariants.{ResourceLine, SawFenceLine, SawValueLine, SetLine, SignalBinaryLine, SignalTimelineLine}
use Rattle.vq_capture.specs.declared.form.Form.TheVariants.{SubmitHandedLine, SubmitLine, ThreadLine, TimelineLine, TransitionLine, WaitBinaryLine}
use Rattle.vq_capture.specs.declared.form.Form.TheVariants.{WaitTimelineLine, WriteLine}
use Rattle.vq_capture.specs.declared.statement.Kind.{Kind}
use Rattle.vq_capture.specs.declared.statement.Kind.TheVariants.{Queue, Binary, Timeline, Fence, Event, Resource, Thread, Handed}
use Rattle.vq_capture.specs.declared.statement.Statement.{Statement}
use Rattle.vq_capture.specs.declared.statement.Statement.TheVariants.{CommandAccess, Submit, SubmitHanded, EndBatch, Forget}
use Rattle.vq_capture.specs.declared.capture.Step.{Step}
use Rattle.vq_capture.specs.declared.capture.FaultKind.{FaultKind}
use Rattle.vq_capture.specs.declared.capture.FaultKind.TheVariants.{Syntax, Name}
use Rattle.vq_capture.specs.LineForms.{Place, NameOf, EndedName, Numeral, Stages, SomeStages, places, form_of, form_inside, form_outside, ends_command}
use Rattle.vq_capture.specs.Context.{Above, Named, Opened, nothing_above, is_in_batch, named, declared_at, without_name}
use Rattle.vq_capture.specs.Statements.{with_line, statement, step_of, names_after, queue_of, thread_of, command_of, batch_with, batch_after, thread_at, word_at}
use Rattle.vq_capture.specs.LineFaults.{fault_of, fault_kinds, has_fault, fails, is_known, same_kind, are_plain}
use Rattle.vq_capture.specs.Reading.{Took, Leaves, IsFaulty, take_form, take_words, go_on, read_lines, read_capture, ended_lines}
use Rattle.vq_capture.specs.Points.{IsMember}
use Rattle.vq_capture.specs.Before.{was_handed}
use Rattle.vq_capture.specs.Races.{access_of}
use Rattle.vq_capture_laws.proofs.Cited.{and_left, and_right, AreNumbered, numbered_with, numbered_on, in_front, in_back, in_either}
use Rattle.vq_capture_check.specs.Watching.{is_command_access, is_lasting}
use Rattle.vq_capture_clocks_laws.specs.Tidy.{AreTidy, names_thing}
use Rattle.vq_capture_clocks_laws.proofs.RisingSteps.{same_step}
use Rattle.vq_capture_clocks_laws.proofs.ReleasingLines.{of_find, of_filter}

-- Forms

abbrev is_access : Form → Bool
is_access ReadLine = true
is_access WriteLine = true
is_access other = false

abbrev is_host : Form → Bool
is_host HostReadLine = true
is_host HostWriteLine = true
is_host other = false

abbrev is_handed : Form → Bool
is_handed SubmitHandedLine = true
is_handed other = false

abbrev is_some_of : (Form → Bool) → Option Form → Bool
is_some_of test o = option_map_or test o false

-- the first form whose test holds
abbrev first_form : List (Bool × Form) → Option Form
first_form [] = None
first_form (x ∷ xs) = if x.0 then Some x.1 else first_form xs

none_of : (test : Form → Bool) (xs : List (Bool × Form)) → list_all (λ x. not (test x.1)) xs ≡ true → is_some_of test (first_form xs) ≡ false
none_of test [] h = refl
none_of test (x ∷ xs) h =
    case x.0 (of_not_true (test x.1) (and_left (not (test x.1)) (list_all (λ y. not (test y.1)) xs) h))
    (none_of test xs (and_right (not (test x.1)) (list_all (λ y. not (test y.1)) xs) h))
  where
    of_not_true : (b : Bool) → not b ≡ true → b ≡ false
    of_not_true true e = never e
    of_not_true false e = refl

    case : (b : Bool) → test x.1 ≡ false → is_some_of test (first_form xs) ≡ false → is_some_of test (cond b (Some x.1) (first_form xs)) ≡ false
    case true p q = p
    case false p q = q

-- outside a batch no command accesses
no_access_outside : (ws : List (List ℕ)) → is_some_of is_access (form_outside ws) ≡ false
no_access_outside [] = refl
no_access_outside (w ∷ []) =
    none_of is_access
    ((bytes_eq w (codes "cut"), CutLine) ∷ [])
    refl
no_access_outside (w ∷ a ∷ []) =
    none_of is_access
    ((bytes_eq w (codes "queue"), QueueLine) ∷ (bytes_eq w (codes "binary"), BinaryLine) ∷
    (bytes_eq w (codes "fence"), FenceLine) ∷ (bytes_eq w (codes "event"), EventLine) ∷
    (bytes_eq w (codes "gone"), GoneLine) ∷ (bytes_eq w (codes "thread"), ThreadLine) ∷
    (bytes_eq w (codes "after"), AfterLine) ∷ (bytes_eq w (codes "submit"), SubmitLine) ∷
    (bytes_eq w (codes "hand"), HandLine) ∷ (bytes_eq w (codes "saw"), SawFenceLine) ∷
    (bytes_eq w (codes "idle"), IdleLine) ∷ [])
    refl
no_access_outside (w ∷ a ∷ b ∷ []) =
    none_of is_access
    ((bytes_eq w (codes "timeline"), TimelineLine) ∷ (bytes_eq w (codes "resource"), ResourceLine) ∷
    (bytes_eq w (codes "submit"), SubmitHandedLine) ∷ (bytes_eq w (codes "signal"), HostSignalLine) ∷
    (bytes_eq w (codes "saw"), SawValueLine) ∷ [])
    refl
no_access_outside (w ∷ a ∷ b ∷ c ∷ []) =
    none_of is_access
    ((bytes_eq w (codes "read"), HostReadLine) ∷ (bytes_eq w (codes "write"), HostWriteLine) ∷ [])
    refl
no_access_outside (w ∷ a ∷ b ∷ c ∷ d ∷ ws) = refl

-- in a batch none is submitted
no_handed_inside : (ws : List (List ℕ)) → is_some_of is_handed (form_inside ws) ≡ false
no_handed_inside [] = refl
no_handed_inside (w ∷ []) =
    none_of is_handed
    ((bytes_eq w (codes "next"), NextLine) ∷ (bytes_eq w (codes "end"), EndLine) ∷ [])
    refl
no_handed_inside (w ∷ a ∷ []) =
    none_of is_handed
    ((bytes_eq w (codes "fence"), BatchFenceLine) ∷ [])
    refl
no_handed_inside (w ∷ a ∷ b ∷ []) =
    none_of is_handed
    ((bytes_eq w (codes "wait"), WaitBinaryLine) ∷ (bytes_eq w (codes "barrier"), BarrierLine) ∷
    (bytes_eq w (codes "set"), SetLine) ∷ (bytes_eq w (codes "await"), AwaitLine) ∷
    (bytes_eq w (codes "signal"), SignalBinaryLine) ∷ [])
    refl
no_handed_inside (w ∷ a ∷ b ∷ c ∷ []) =
    none_of is_handed
    ((bytes_eq w (codes "wait"), WaitTimelineLine) ∷ (bytes_eq w (codes "signal"), SignalTimelineLine) ∷ [])
    refl
no_handed_inside (w ∷ a ∷ b ∷ c ∷ d ∷ []) =
    none_of is_handed
    ((bytes_eq w (codes "read"), ReadLine) ∷ (bytes_eq w (codes "write"), WriteLine) ∷ [])
    refl
no_handed_inside (w ∷ a ∷ b ∷ c ∷ d ∷ e ∷ []) =
    none_of is_handed
    ((bytes_eq w (codes "barrier"), TransitionLine) ∷ [])
    refl
no_handed_inside (w ∷ a ∷ b ∷ c ∷ d ∷ e ∷ f ∷ ws) = refl

-- in a batch no thread of the host accesses
no_host_inside : (ws : List (List ℕ)) → is_some_of is_host (form_inside ws) ≡ false
no_host_inside [] = refl
no_host_inside (w ∷ []) =
    none_of is_host
    ((bytes_eq w (codes "next"), NextLine) ∷ (bytes_eq w (codes "end"), EndLine) ∷ [])
    refl
no_host_inside (w ∷ a ∷ []) =
    none_of is_host
    ((bytes_eq w (codes "fence"), BatchFenceLine) ∷ [])
    refl
no_host_inside (w ∷ a ∷ b ∷ []) =
    none_of is_host
    ((bytes_eq w (codes "wait"), WaitBinaryLine) ∷ (bytes_eq w (codes "barrier"), BarrierLine) ∷
    (bytes_eq w (codes "set"), SetLine) ∷ (bytes_eq w (codes "await"), AwaitLine) ∷
    (bytes_eq w (codes "signal"), SignalBinaryLine) ∷ [])
    refl
no_host_inside (w ∷ a ∷ b ∷ c ∷ []) =
    none_of is_host
    ((bytes_eq w (codes "wait"), WaitTimelineLine) ∷ (bytes_eq w (codes "signal"), SignalTimelineLine) ∷ [])
    refl
no_host_inside (w ∷ a ∷ b ∷ c ∷ d ∷ []) =
    none_of is_host
    ((bytes_eq w (codes "read"), ReadLine) ∷ (bytes_eq w (codes "write"), WriteLine) ∷ [])
    refl
no_host_inside (w ∷ a ∷ b ∷ c ∷ d ∷ e ∷ []) =
    none_of is_host
    ((bytes_eq w (codes "barrier"), TransitionLine) ∷ [])
    refl
no_host_inside (w ∷ a ∷ b ∷ c ∷ d ∷ e ∷ f ∷ ws) = refl

abbrev HasThird : List (List ℕ) → Type 0
HasThird ws = (w a b : List ℕ) × (rest : List (List ℕ)) × (ws ≡ w ∷ a ∷ b ∷ rest)

third_outside : (ws : List (List ℕ)) → is_some_of is_handed (form_outside ws) ≡ true → HasThird ws
third_outside [] h = never h
third_outside (w ∷ []) h =
    never (sym (none_of is_handed
    ((bytes_eq w (codes "cut"), CutLine) ∷ [])
    refl) ∙ h)
third_outside (w ∷ a ∷ []) h =
    never (sym (none_of is_handed
    ((bytes_eq w (codes "queue"), QueueLine) ∷ (bytes_eq w (codes "binary"), BinaryLine) ∷
    (bytes_eq w (codes "fence"), FenceLine) ∷ (bytes_eq w (codes "event"), EventLine) ∷
    (bytes_eq w (codes "gone"), GoneLine) ∷ (bytes_eq w (codes "thread"), ThreadLine) ∷
    (bytes_eq w (codes "after"), AfterLine) ∷ (bytes_eq w (codes "submit"), SubmitLine) ∷
    (bytes_eq w (codes "hand"), HandLine) ∷ (bytes_eq w (codes "saw"), SawFenceLine) ∷
    (bytes_eq w (codes "idle"), IdleLine) ∷ [])
    refl) ∙ h)
third_outside (w ∷ a ∷ b ∷ rest) h = (w, a, b, rest, refl)

third : (inside : Bool) (ws : List (List ℕ)) → form_of inside ws ≡ Some SubmitHandedLine → HasThird ws
third true ws e = never (sym (no_handed_inside ws) ∙ ap (λ (o : Option Form). is_some_of is_handed o) e)
third false ws e = third_outside ws (ap (λ (o : Option Form). is_some_of is_handed o) e)

-- forms with a name as their second word, and one as their fourth
abbrev has_second : Form → Bool
has_second WaitBinaryLine = true
has_second SignalBinaryLine = true
has_second SawFenceLine = true
has_second BatchFenceLine = true
has_second HostReadLine = true
has_second HostWriteLine = true
has_second ReadLine = true
has_second WriteLine = true
has_second GoneLine = true
has_second other = false

abbrev is_transition : Form → Bool
is_transition TransitionLine = true
is_transition other = false

abbrev HasSecond : List (List ℕ) → Type 0
HasSecond ws = (w a : List ℕ) × (rest : List (List ℕ)) × (ws ≡ w ∷ a ∷ rest)

second_outside : (ws : List (List ℕ)) → is_some_of has_second (form_outside ws) ≡ true → HasSecond ws
second_outside [] h = never h
second_outside (w ∷ []) h =
    never (sym (none_of has_second
    ((bytes_eq w (codes "cut"), CutLine) ∷ [])
    refl) ∙ h)
second_outside (w ∷ a ∷ rest) h = (w, a, rest, refl)

second_inside : (ws : List (List ℕ)) → is_some_of has_second (form_inside ws) ≡ true → HasSecond ws
second_inside [] h = never h
second_inside (w ∷ []) h =
    never (sym (none_of has_second
    ((bytes_eq w (codes "next"), NextLine) ∷ (bytes_eq w (codes "end"), EndLine) ∷ [])
    refl) ∙ h)
second_inside (w ∷ a ∷ rest) h = (w, a, rest, refl)

second : (inside : Bool) (ws : List (List ℕ)) (form : Form) → has_second form ≡ true → form_of inside ws ≡ Some form → HasSecond ws
second true ws form h e =
    second_inside ws (ap (λ (o : Option Form). is_some_of has_second o) e ∙ h)
second false ws form h e =
    second_outside ws (ap (λ (o : Option Form). is_some_of has_second o) e ∙ h)

-- outside a batch nothing is a transition
no_transition_outside : (ws : List (List ℕ)) → is_some_of is_transition (form_outside ws) ≡ false
no_transition_outside [] = refl
no_transition_outside (w ∷ []) =
    none_of is_transition
    ((bytes_eq w (codes "cut"), CutLine) ∷ [])
    refl
no_transition_outside (w ∷ a ∷ []) =
    none_of is_transition
    ((bytes_eq w (codes "queue"), QueueLine) ∷ (bytes_eq w (codes "binary"), BinaryLine) ∷
    (bytes_eq w (codes "fence"), FenceLine) ∷ (bytes_eq w (codes "event"), EventLine) ∷
    (bytes_eq w (codes "gone"), GoneLine) ∷ (bytes_eq w (codes "thread"), ThreadLine) ∷
    (bytes_eq w (codes "after"), AfterLine) ∷ (bytes_eq w (codes "submit"), SubmitLine) ∷
    (bytes_eq w (codes "hand"), HandLine) ∷ (bytes_eq w (codes "saw"), SawFenceLine) ∷
    (bytes_eq w (codes "idle"), IdleLine) ∷ [])
    refl
no_transition_outside (w ∷ a ∷ b ∷ []) =
    none_of is_transition
    ((bytes_eq w (codes "timeline"), TimelineLine) ∷ (bytes_eq w (codes "resource"), ResourceLine) ∷
    (bytes_eq w (codes "submit"), SubmitHandedLine) ∷ (bytes_eq w (codes "signal"), HostSignalLine) ∷
    (bytes_eq w (codes "saw"), SawValueLine) ∷ [])
    refl
no_transition_outside (w ∷ a ∷ b ∷ c ∷ []) =
    none_of is_transition
    ((bytes_eq w (codes "read"), HostReadLine) ∷ (bytes_eq w (codes "write"), HostWriteLine) ∷ [])
    refl
no_transition_outside (w ∷ a ∷ b ∷ c ∷ d ∷ ws) = refl

abbrev HasFourth : List (List ℕ) → Type 0
HasFourth ws = (w a b c : List ℕ) × (rest : List (List ℕ)) × (ws ≡ w ∷ a ∷ b ∷ c ∷ rest)

fourth_inside : (ws : List (List ℕ)) → is_some_of is_transition (form_inside ws) ≡ true → HasFourth ws
fourth_inside [] h = never h
fourth_inside (w ∷ []) h =
    never (sym (none_of is_transition
    ((bytes_eq w (codes "next"), NextLine) ∷ (bytes_eq w (codes "end"), EndLine) ∷ [])
    refl) ∙ h)
fourth_inside (w ∷ a ∷ []) h =
    never (sym (none_of is_transition
    ((bytes_eq w (codes "fence"), BatchFenceLine) ∷ [])
    refl) ∙ h)
fourth_inside (w ∷ a ∷ b ∷ []) h =
    never (sym (none_of is_transition
    ((bytes_eq w (codes "wait"), WaitBinaryLine) ∷ (bytes_eq w (codes "barrier"), BarrierLine) ∷
    (bytes_eq w (codes "set"), SetLine) ∷ (bytes_eq w (codes "await"), AwaitLine) ∷
    (bytes_eq w (codes "signal"), SignalBinaryLine) ∷ [])
    refl) ∙ h)
fourth_inside (w ∷ a ∷ b ∷ c ∷ rest) h = (w, a, b, c, rest, refl)

fourth : (inside : Bool) (ws : List (List ℕ)) → form_of inside ws ≡ Some TransitionLine → HasFourth ws
fourth true ws e = fourth_inside ws (ap (λ (o : Option Form). is_some_of is_transition o) e)
fourth false ws e =
    never (sym (no_transition_outside ws) ∙ ap (λ (o : Option Form). is_some_of is_transition o) e)

-- Tests of a line without a fault

none_fails : (test : FaultKind → Bool) (ks : List FaultKind) → find test ks ≡ None → (k : FaultKind) → IsMember k ks → test k ≡ false
none_fails test [] e k m = absurd m
none_fails test (x ∷ ks) e k m = case (test x) refl e m (λ f n. none_fails test ks f k n)
  where
    not_none : Some x ≡ None → ⊥
    not_none q = cc

    case : (b : Bool) → test x ≡ b → cond b (Some x) (find test ks) ≡ None → IsMember k (x ∷ ks) →
        (find test ks ≡ None → IsMember k ks → test k ≡ false) → test k ≡ false
    case true q f n g = absurd (not_none f)
    case false q f (inl h) g = subst (λ (y : FaultKind). test y ≡ false) (sym h) q
    case false q f (inr n) g = g f n

of_not_false : (b : Bool) → not b ≡ false → b ≡ true
of_not_false true e = refl
of_not_false false e = never (sym e)

-- what a name stands for
abbrev IsNamed : List Named → List ℕ → Type 0
IsNamed names word = (m : Named) × IsMember m names × (bytes_eq m.name word ≡ true) × (declared_at names word ≡ m.line)

name_found : (test : Named → Bool) (names : List Named) (word : List ℕ) → option_map_or test (named names word) false ≡ true → IsNamed names word
name_found test names word h = by (named names word) refl h
  where
    by : (o : Option Named) → named names word ≡ o → option_map_or test o false ≡ true → IsNamed names word
    by None e h = never h
    by (Some m) e h =
        let r = of_find (λ k. bytes_eq k.name word) names m e in
        (m, r.0, r.1, ap (λ (o : Option Named). option_map_or (λ k. k.line) o 0) e)

-- whether a line says that a name ends
abbrev forgets : Statement → ℕ → Bool
forgets (Forget x) y = x == y
forgets other y = false

-- what a name of a handed batch stands for
abbrev IsHanded : List Named → List ℕ → Type 0
IsHanded names word = (n : Named) × IsMember n names × (same_kind n.kind Handed ≡ true) × (declared_at names word ≡ n.line)

handed_name : (names : List Named) (word : List ℕ) → option_map_or (λ n. same_kind n.kind Handed) (named names word) false ≡ true → IsHanded names word
handed_name names word h = by (named names word) refl h
  where
    by : (o : Option Named) → named names word ≡ o → option_map_or (λ n. same_kind n.kind Handed) o false ≡ true → IsHanded names word
    by None e h = never h
    by (Some n) e h =
        (n, (of_find (λ m. bytes_eq m.name word) names n e).0, h, ap (λ (o : Option Named). option_map_or (λ m. m.line) o 0) e)

-- What the lines above keep

-- a step above that stands at a line, and may release another
abbrev pub Stands : List Step → ℕ → Type 0
Stands steps k = (s : Step) × IsMember s steps × (s.line ≡ k) × (is_lasting s.statement ≡ true)

pub record Keeps (n : ℕ) (above : Above) : Type 0 where
  pub numbered : AreNumbered n above.steps
  pub queue : (s : Step) → IsMember s above.steps → is_command_access s.statement ≡ true → (q : ℕ) × (s.queue ≡ Some q)
  pub thread : (s : Step) → IsMember s above.steps → is_command_access s.statement ≡ true → s.thread ≡ None
  pub command : (s : Step) (c : ℕ) → IsMember s above.steps → s.command ≡ Some c → c < s.line
  pub batch : (b : Opened) → above.batch ≡ Some b → b.command < n
  pub apart : (a b : Step) (c : ℕ) → IsMember a above.steps → IsMember b above.steps → a.line < b.line → is_some (access_of a.statement) ≡ true → b.command ≡ Some c → c < a.line → a.command ≡ Some c
  pub going : (a : Step) (b : Opened) → IsMember a above.steps → above.batch ≡ Some b → is_some (access_of a.statement) ≡ true → b.command < a.line → a.command ≡ Some b.command
  pub handed : (s : Step) (k : ℕ) → IsMember s above.steps → was_handed s.statement k ≡ true → Stands above.steps k
  pub names : (m : Named) → IsMember m above.names → same_kind m.kind Handed ≡ true → Stands above.steps m.line
  pub low : (m : Named) → IsMember m above.names → m.line < n
  pub one : (m k : Named) → IsMember m above.names → IsMember k above.names → m.line ≡ k.line → m ≡ k
  pub past : (s : Step) (x : ℕ) → IsMember s above.steps → forgets s.statement x ≡ true → x < n
  pub ended : (s : Step) (x : ℕ) → IsMember s above.steps → forgets s.statement x ≡ true → (m : Named) → IsMember m above.names → m.line ≡ x → ⊥
  pub gone : (a b : Step) (x : ℕ) → IsMember a above.steps → IsMember b above.steps → a.line < b.line → forgets a.statement x ≡ true → names_thing b.statement x ≡ false

module _ (above : Above) (n : ℕ) (ws : List (List ℕ)) where
  -- Accesses

  batch_there : (o : Option Opened) (form : Form) → is_access form ≡ true → form_of (is_some o) ws ≡ Some form → (b : Opened) × (o ≡ Some b)
  batch_there (Some b) form a e = (b, refl)
  batch_there None form a e =
      never (sym (no_access_outside ws) ∙ (ap (λ (x : Option Form). is_some_of is_access x) e ∙ a))

  abbrev InBatch : Statement → Type 0
  InBatch said = ((q : ℕ) × (queue_of above said ≡ Some q)) × (thread_of above said ≡ None)

  access_new : (form : Form) → form_of (is_in_batch above) ws ≡ Some form → is_command_access (statement above n form ws) ≡ true → InBatch (statement above n form ws)
  access_new ReadLine e c =
      let r = batch_there above.batch ReadLine refl e in
      ((r.0.queue, ap (λ (o : Option Opened). option_map (λ b. b.queue) o) r.1), ap (λ (o : Option Opened). option_map_or (λ b. None) o (Some above.thread)) r.1)
  access_new WriteLine e c =
      let r = batch_there above.batch WriteLine refl e in
      ((r.0.queue, ap (λ (o : Option Opened). option_map (λ b. b.queue) o) r.1), ap (λ (o : Option Opened). option_map_or (λ b. None) o (Some above.thread)) r.1)
  access_new other e c = never c

  -- Commands

  some_same : {X : Type 0} (x y : X) → Some x ≡ Some y → x ≡ y
  some_same x y e = cc

  none_none : (c : ℕ) → None ≡ Some c → ⊥
  none_none c e = cc

  command_new : ((b : Opened) → above.batch ≡ Some b → b.command < n) → (said : Statement) (c : ℕ) → command_of above said ≡ Some c → c < n
  command_new f (CommandAccess access scope) c e = by above.batch refl e
    where
      by : (o : Option Opened) → above.batch ≡ o → option_map (λ b. b.command) o ≡ Some c → c < n
      by None q h = absurd (none_none c h)
      by (Some b) q h = let l = f b q in let same = some_same b.command c h in omega arith
  command_new f other c e = absurd (none_none c e)

  batch_new : ((b : Opened) → above.batch ≡ Some b → b.command < n) → (form : Form) (said : Statement) (b : Opened) → batch_after above n form said ≡ Some b → b.command < n + 1
  batch_new f form (Submit q) b e = let same = ap (λ (x : Opened). x.command) (some_same (record { queue = q; part = 1; command = n }) b e) in omega arith
  batch_new f form (SubmitHanded q k) b e = let same = ap (λ (x : Opened). x.command) (some_same (record { queue = q; part = 1; command = n }) b e) in omega arith
  batch_new f form EndBatch b e = absurd (no_batch e)
    where
      no_batch : None ≡ Some b → ⊥
      no_batch q = cc
  batch_new f form other b e = by above.batch refl e
    where
      no_batch : None ≡ Some b → ⊥
      no_batch q = cc

      by : (o : Option Opened) → above.batch ≡ o → option_map (batch_with n form) o ≡ Some b → b.command < n + 1
      by None q h = absurd (no_batch h)
      by (Some x) q h =
          let same = ap (λ (y : Opened). y.command) (some_same (batch_with n form x) b h) in
          low (ends_command form) same
        where
          low : (t : Bool) → cond t n x.command ≡ b.command → b.command < n + 1
          low true g = omega arith
          low false g = let l = f x q in omega arith

  -- an access of a line is of the open batch's command, or its line ends that
  no_host : {X : Type 0} (form : Form) (b : Opened) → form_of (is_in_batch above) ws ≡ Some form → above.batch ≡ Some b → is_host form ≡ true → X
  no_host form b e q h =
      let inside : form_inside ws ≡ Some form = sym (ap (λ (o : Option Opened). form_of (is_some o) ws) q) ∙ e in
      never (sym (no_host_inside ws) ∙ (ap (λ (o : Option Form). is_some_of is_host o) inside ∙ h))

  going_new : (form : Form) (b : Opened) → form_of (is_in_batch above) ws ≡ Some form → above.batch ≡ Some b → is_some (access_of (statement above n form ws)) ≡ true → ends_command form ≡ false → command_of above (statement above n form ws) ≡ Some b.command
  going_new ReadLine b e q h f = ap (λ (o : Option Opened). option_map (λ x. x.command) o) q
  going_new WriteLine b e q h f = ap (λ (o : Option Opened). option_map (λ x. x.command) o) q
  going_new TransitionLine b e q h f = never (sym f)
  going_new HostReadLine b e q h f = no_host HostReadLine b e q refl
  going_new HostWriteLine b e q h f = no_host HostWriteLine b e q refl
  going_new other b e q h f = never h

  -- a command's access is of the open batch's
  command_is : (said : Statement) (c : ℕ) → command_of above said ≡ Some c → (b : Opened) × (above.batch ≡ Some b) × (b.command ≡ c)
  command_is (CommandAccess access scope) c e = by above.batch refl e
    where
      by : (o : Option Opened) → above.batch ≡ o → option_map (λ b. b.command) o ≡ Some c → (b : Opened) × (above.batch ≡ Some b) × (b.command ≡ c)
      by None q h = absurd (none_none c h)
      by (Some b) q h = (b, q, some_same b.command c h)
  command_is other c e = absurd (none_none c e)

  -- Batches that were handed over

  all_known : (form : Form) → fault_of above n form ws ≡ None → list_all (is_known above) (zip (places form) (drop 1 ws)) ≡ true
  all_known form f =
      of_not_false (list_all (is_known above) (zip (places form) (drop 1 ws)))
      (none_fails (has_fault above n form ws) fault_kinds f Name (inr (inr (inr (inr (inl refl))))))

  -- the name that is a line's second word
  named_second : (form : Form) (place : Place) (places_left : List Place) (test : Named → Bool) → places form ≡ place ∷ places_left →
      ((word : List ℕ) → is_known above (place, word) ≡ option_map_or test (named above.names word) false) →
      has_second form ≡ true → form_of (is_in_batch above) ws ≡ Some form → fault_of above n form ws ≡ None → IsNamed above.names (word_at ws 1)
  named_second form place left test p t h e f = by (second (is_in_batch above) ws form h e)
    where
      by : HasSecond ws → IsNamed above.names (word_at ws 1)
      by (w, a, rest, q) =
          subst (λ (l : List (List ℕ)). IsNamed above.names (word_at l 1)) (sym q)
          (name_found test above.names a (sym (t a) ∙ and_left (is_known above (place, a)) (list_all (is_known above) (zip left rest)) known))
        where
          known : list_all (is_known above) (zip (place ∷ left) (a ∷ rest)) ≡ true
          known =
              subst (λ (l : List (List ℕ)). list_all (is_known above) (zip (place ∷ left) (drop 1 l)) ≡ true) q
              (subst (λ (l : List Place). list_all (is_known above) (zip l (drop 1 ws)) ≡ true) p (all_known form f))

  -- the resource of a transition, its fourth word
  named_fourth : form_of (is_in_batch above) ws ≡ Some TransitionLine → fault_of above n TransitionLine ws ≡ None → IsNamed above.names (word_at ws 3)
  named_fourth e f = by (fourth (is_in_batch above) ws e)
    where
      by : HasFourth ws → IsNamed above.names (word_at ws 3)
      by (w, a, b, c, rest, q) =
          subst (λ (l : List (List ℕ)). IsNamed above.names (word_at l 3)) (sym q)
          (name_found (λ m. same_kind m.kind Resource) above.names c (and_left (is_known above (NameOf Resource, c)) (list_all (is_known above) (zip (Numeral ∷ Numeral ∷ []) rest)) third_on))
        where
          known : list_all (is_known above) (zip (places TransitionLine) (a ∷ b ∷ c ∷ rest)) ≡ true
          known =
              subst (λ (l : List (List ℕ)). list_all (is_known above) (zip (places TransitionLine) (drop 1 l)) ≡ true) q (all_known TransitionLine f)

          second_on : list_all (is_known above) (zip (Stages ∷ NameOf Resource ∷ Numeral ∷ Numeral ∷ []) (b ∷ c ∷ rest)) ≡ true
          second_on =
              and_right (is_known above (Stages, a)) (list_all (is_known above) (zip (Stages ∷ NameOf Resource ∷ Numeral ∷ Numeral ∷ []) (b ∷ c ∷ rest))) known

          third_on : list_all (is_known above) (zip (NameOf Resource ∷ Numeral ∷ Numeral ∷ []) (c ∷ rest)) ≡ true
          third_on =
              and_right (is_known above (Stages, b)) (list_all (is_known above) (zip (NameOf Resource ∷ Numeral ∷ Numeral ∷ []) (c ∷ rest))) second_on

  -- a thing that a line names is one that is declared
  abbrev IsThere : ℕ → Type 0
  IsThere x = (m : Named) × IsMember m above.names × (m.line ≡ x)

  there_by : (word : List ℕ) (x : ℕ) → IsNamed above.names word → (declared_at above.names word == x) ≡ true → IsThere x
  there_by word x (m, i, b, d) h =
      (m, i, sym d ∙ eqb-true (declared_at above.names word) x h)

  second_there : (form : Form) (kind : Kind) (left : List Place) (x : ℕ) → places form ≡ NameOf kind ∷ left → has_second form ≡ true →
      form_of (is_in_batch above) ws ≡ Some form → fault_of above n form ws ≡ None → (declared_at above.names (word_at ws 1) == x) ≡ true → IsThere x
  second_there form kind left x p h e f q =
      there_by (word_at ws 1) x (named_second form (NameOf kind) left (λ m. same_kind m.kind kind) p (λ w. refl) h e f) q

  thing_there : (form : Form) (x : ℕ) → form_of (is_in_batch above) ws ≡ Some form → fault_of above n form ws ≡ None → names_thing (statement above n form ws) x ≡ true → IsThere x
  thing_there WaitBinaryLine x e f h = second_there WaitBinaryLine Binary (Stages ∷ []) x refl refl e f h
  thing_there SignalBinaryLine x e f h = second_there SignalBinaryLine Binary (Stages ∷ []) x refl refl e f h
  thing_there SawFenceLine x e f h = second_there SawFenceLine Fence [] x refl refl e f h
  thing_there BatchFenceLine x e f h = second_there BatchFenceLine Fence [] x refl refl e f h
  thing_there HostReadLine x e f h = second_there HostReadLine Resource (Numeral ∷ Numeral ∷ []) x refl refl e f h
  thing_there HostWriteLine x e f h = second_there HostWriteLine Resource (Numeral ∷ Numeral ∷ []) x refl refl e f h
  thing_there ReadLine x e f h = second_there ReadLine Resource (Numeral ∷ Numeral ∷ SomeStages ∷ []) x refl refl e f h
  thing_there WriteLine x e f h = second_there WriteLine Resource (Numeral ∷ Numeral ∷ SomeStages ∷ []) x refl refl e f h
  thing_there TransitionLine x e f h = there_by (word_at ws 3) x (named_fourth e f) h
  thing_there other x e f h = never h

  -- what a line says that ends a name
  ended_name : fault_of above n GoneLine ws ≡ None → form_of (is_in_batch above) ws ≡ Some GoneLine → IsNamed above.names (word_at ws 1)
  ended_name f e =
      named_second GoneLine EndedName [] (λ m. not (m.line == above.thread)) refl (λ w. refl) refl e f

  known_third : fault_of above n SubmitHandedLine ws ≡ None → HasThird ws → IsHanded above.names (word_at ws 2)
  known_third f (w, a, b, rest, e) =
      subst (λ (l : List (List ℕ)). IsHanded above.names (word_at l 2)) (sym e) (handed_name above.names b known)
    where
      passes : list_all (is_known above) (zip (places SubmitHandedLine) (drop 1 (w ∷ a ∷ b ∷ rest))) ≡ true
      passes =
          of_not_false (list_all (is_known above) (zip (places SubmitHandedLine) (drop 1 (w ∷ a ∷ b ∷ rest))))
          (ap (λ (l : List (List ℕ)). fails (is_known above) SubmitHandedLine l) (sym e)
          ∙ none_fails (has_fault above n SubmitHandedLine ws) fault_kinds f Name (inr (inr (inr (inr (inl refl))))))

      later : list_all (is_known above) (zip (NameOf Handed ∷ []) (b ∷ rest)) ≡ true
      later =
          and_right (is_known above (NameOf Queue, a)) (list_all (is_known above) (zip (NameOf Handed ∷ []) (b ∷ rest))) passes

      known : option_map_or (λ m. same_kind m.kind Handed) (named above.names b) false ≡ true
      known =
          and_left (is_known above (NameOf Handed, b)) (list_all (is_known above) (zip [] rest)) later

  handed_new : (form : Form) (k : ℕ) → form_of (is_in_batch above) ws ≡ Some form → fault_of above n form ws ≡ None → was_handed (statement above n form ws) k ≡ true → (m : Named) × IsMember m above.names × (same_kind m.kind Handed ≡ true) × (m.line ≡ k)
  handed_new SubmitHandedLine k e f h =
      let r = known_third f (third (is_in_batch above) ws e) in
      (r.0, r.1, r.2, sym r.3 ∙ eqb-true (declared_at above.names (word_at ws 2)) k h)
  handed_new other k e f h = never h

  -- Names

  -- a name was there, or isn't of a batch, or this line hands that over
  abbrev NameNew : Form → Named → Type 0
  NameNew form m =
      IsMember m above.names ⊎ ((same_kind m.kind Handed ≡ false) ⊎ ((m.line ≡ n) × (is_lasting (statement above n form ws) ≡ true)))

  with_new : (form : Form) (k : Kind) (m : Named) → same_kind k Handed ≡ false → IsMember m (above.names ++ record { name = word_at ws 1; kind = k; line = n } ∷ []) → NameNew form m
  with_new form k m d i = elim (in_either m above.names (record { name = word_at ws 1; kind = k; line = n } ∷ []) i) [ inl j ↦ inl j | inr j ↦ here j ]
    where
      here : IsMember m (record { name = word_at ws 1; kind = k; line = n } ∷ []) → NameNew form m
      here (inl e) = inr (inl (ap (λ (x : Named). same_kind x.kind Handed) e ∙ d))
      here (inr j) = absurd j

  without : (form : Form) (m : Named) (word : List ℕ) → IsMember m (without_name above.names word) → NameNew form m
  without form m word i = inl (of_filter (λ x. not (bytes_eq x.name word)) m above.names i).0

  names_new : (form : Form) (m : Named) → IsMember m (names_after above n ws (statement above n form ws)) → NameNew form m
  names_new QueueLine m i = with_new QueueLine Queue m refl i
  names_new BinaryLine m i = with_new BinaryLine Binary m refl i
  names_new FenceLine m i = with_new FenceLine Fence m refl i
  names_new EventLine m i = with_new EventLine Event m refl i
  names_new TimelineLine m i = with_new TimelineLine Timeline m refl i
  names_new ResourceLine m i = with_new ResourceLine Resource m refl i
  names_new GoneLine m i = without GoneLine m (word_at ws 1) i
  names_new SubmitHandedLine m i = without SubmitHandedLine m (word_at ws 2) i
  names_new HandLine m i = elim (in_either m above.names (record { name = word_at ws 1; kind = Handed; line = n } ∷ []) i) [ inl j ↦ inl j | inr j ↦ here j ]
    where
      here : IsMember m (record { name = word_at ws 1; kind = Handed; line = n } ∷ []) → NameNew HandLine m
      here (inl e) = inr (inr (ap (λ (x : Named). x.line) e, refl))
      here (inr j) = absurd j
  names_new ThreadLine m i = by (thread_at above n ws 1 == n) i
    where
      by : (b : Bool) → IsMember m (cond b (above.names ++ record { name = word_at ws 1; kind = Thread; line = n } ∷ []) above.names) → NameNew ThreadLine m
      by true i = with_new ThreadLine Thread m refl i
      by false i = inl i
  names_new other m i = inl i

  -- each name behind a line was there, or is one that the line declares
  abbrev NamesIn : Form → Type 0
  NamesIn form =
      (new : Named) × (new.line ≡ n) × ((m : Named) → IsMember m (names_after above n ws (statement above n form ws)) → IsMember m above.names ⊎ (m ≡ new))

  abbrev new_name : Kind → Named
  new_name k = record { name = word_at ws 1; kind = k; line = n }

  one_more : (k : Kind) (m : Named) → IsMember m (above.names ++ new_name k ∷ []) → IsMember m above.names ⊎ (m ≡ new_name k)
  one_more k m i = elim (in_either m above.names (new_name k ∷ []) i) [ inl j ↦ inl j | inr j ↦ here j ]
    where
      here : IsMember m (new_name k ∷ []) → IsMember m above.names ⊎ (m ≡ new_name k)
      here (inl e) = inr e
      here (inr j) = absurd j

  fewer : (m : Named) (word : List ℕ) → IsMember m (without_name above.names word) → IsMember m above.names
  fewer m word i = (of_filter (λ x. not (bytes_eq x.name word)) m above.names i).0

  names_in : (form : Form) → NamesIn form
  names_in QueueLine = (new_name Queue, refl, one_more Queue)
  names_in BinaryLine = (new_name Binary, refl, one_more Binary)
  names_in FenceLine = (new_name Fence, refl, one_more Fence)
  names_in EventLine = (new_name Event, refl, one_more Event)
  names_in TimelineLine = (new_name Timeline, refl, one_more Timeline)
  names_in ResourceLine = (new_name Resource, refl, one_more Resource)
  names_in HandLine = (new_name Handed, refl, one_more Handed)
  names_in GoneLine = (new_name Queue, refl, λ m i. inl (fewer m (word_at ws 1) i))
  names_in SubmitHandedLine = (new_name Queue, refl, λ m i. inl (fewer m (word_at ws 2) i))
  names_in ThreadLine = (new_name Thread, refl, λ m. by m (thread_at above n ws 1 == n))
    where
      by : (m : Named) (b : Bool) → IsMember m (cond b (above.names ++ new_name Thread ∷ []) above.names) → IsMember m above.names ⊎ (m ≡ new_name Thread)
      by m true i = one_more Thread m i
      by m false i = inl i
  names_in other = (new_name Queue, refl, λ m i. inl i)

  -- One line more

  module _ (k : Keeps n above) (form : Form) (e : form_of (is_in_batch above) ws ≡ Some form) (f : fault_of above n form ws ≡ None) where
    abbrev said : Statement
    said = statement above n form ws

    abbrev new : Step
    new = step_of above n said

    stands_on : (i : ℕ) → Stands above.steps i → Stands (above.steps ++ new ∷ []) i
    stands_on i s = (s.0, in_front s.0 above.steps (new ∷ []) s.1, s.2, s.3)

    old_or_new : (P : Step → Type 0) (s : Step) → IsMember s (above.steps ++ new ∷ []) → (IsMember s above.steps → P s) → P new → P s
    old_or_new P s m a b = elim (in_either s above.steps (new ∷ []) m) [ inl i ↦ a i | inr i ↦ one i ]
      where
        one : IsMember s (new ∷ []) → P s
        one (inl q) = subst (λ (t : Step). P t) (sym q) b
        one (inr i) = absurd i

    keeps_line : Keeps (n + 1) (with_line above n form ws)
    keeps_line = record {
      numbered = numbered_with n above.steps new refl k.numbered;
      queue = λ s m. old_or_new (λ t. is_command_access t.statement ≡ true → (q : ℕ) × (t.queue ≡ Some q)) s m (k.queue s) (λ c. (access_new form e c).0);
      thread = λ s m. old_or_new (λ t. is_command_access t.statement ≡ true → t.thread ≡ None) s m (k.thread s) (λ c. (access_new form e c).1);
      command = λ s c m. old_or_new (λ t. t.command ≡ Some c → c < t.line) s m (k.command s c) (command_new k.batch said c);
      batch = batch_new k.batch form said;
      apart = apart_here;
      going = going_here;
      handed = λ s i m. old_or_new (λ t. was_handed t.statement i ≡ true → Stands (above.steps ++ new ∷ []) i) s m (λ j h. stands_on i (k.handed s i j h)) (handed_here i);
      names = names_here;
      low = low_here;
      one = one_here;
      past = λ s x m. old_or_new (λ t. forgets t.statement x ≡ true → x < n + 1) s m (λ i h. let l = k.past s x i h in omega arith) (past_here x);
      ended = λ s x m. old_or_new (λ t. forgets t.statement x ≡ true → (m : Named) → IsMember m (names_after above n ws said) → m.line ≡ x → ⊥) s m (ended_old s x) (ended_here form e f x);
      gone = gone_here;
    }
      where
        low : (s : Step) → IsMember s (above.steps ++ new ∷ []) → s.line ≤ n
        low s m = old_or_new (λ t. t.line ≤ n) s m (λ i. let l = k.numbered.below s i in omega arith) (omega arith)

        added : NamesIn form
        added = names_in form

        low_here : (m : Named) → IsMember m (names_after above n ws said) → m.line < n + 1
        low_here m i = elim (added.2 m i) [
          | inl j ↦ (let l = k.low m j in omega arith)
          | inr q ↦ (let l = added.1 in let s = ap (λ (x : Named). x.line) q in omega arith)
        ]

        one_here : (m o : Named) → IsMember m (names_after above n ws said) → IsMember o (names_after above n ws said) → m.line ≡ o.line → m ≡ o
        one_here m o i j q = by (added.2 m i) (added.2 o j)
          where
            by : IsMember m above.names ⊎ (m ≡ added.0) → IsMember o above.names ⊎ (o ≡ added.0) → m ≡ o
            by (inl a) (inl b) = k.one m o a b q
            by (inl a) (inr b) =
                let l = k.low m a in let s = ap (λ (x : Named). x.line) b in let t = added.1 in absurd (omega arith)
            by (inr a) (inl b) =
                let l = k.low o b in let s = ap (λ (x : Named). x.line) a in let t = added.1 in absurd (omega arith)
            by (inr a) (inr b) = a ∙ sym b

        past_here : (x : ℕ) → forgets said x ≡ true → x < n + 1
        past_here x h = by_form form e f h
          where
            by_form : (g : Form) → form_of (is_in_batch above) ws ≡ Some g → fault_of above n g ws ≡ None → forgets (statement above n g ws) x ≡ true → x < n + 1
            by_form GoneLine e f h =
                let r = there_by (word_at ws 1) x (ended_name f e) h in let l = k.low r.0 r.1 in let q = r.2 in omega arith
            by_form other e f h = never h

        ended_old : (s : Step) (x : ℕ) → IsMember s above.steps → forgets s.statement x ≡ true → (m : Named) → IsMember m (names_after above n ws said) → m.line ≡ x → ⊥
        ended_old s x i h m j q = elim (added.2 m j) [
          | inl a ↦ k.ended s x i h m a q
          | inr a ↦ (let l = k.past s x i h in let t = ap (λ (y : Named). y.line) a in let u = added.1 in omega arith)
        ]

        ended_here : (g : Form) → form_of (is_in_batch above) ws ≡ Some g → fault_of above n g ws ≡ None → (x : ℕ) → forgets (statement above n g ws) x ≡ true → (m : Named) → IsMember m (names_after above n ws (statement above n g ws)) → m.line ≡ x → ⊥
        ended_here GoneLine e f x h m i q =
            let r = ended_name f e in
            let t = of_filter (λ y. not (bytes_eq y.name (word_at ws 1))) m above.names i in
            let same = k.one m r.0 t.0 r.1 (q ∙ sym (eqb-true (declared_at above.names (word_at ws 1)) x h) ∙ r.3) in
            never (sym (ap (λ (b : Bool). not b) r.2) ∙ subst (λ (y : Named). not (bytes_eq y.name (word_at ws 1)) ≡ true) same t.1)
        ended_here other e f x h m i q = never h

        gone_here : (a b : Step) (x : ℕ) → IsMember a (above.steps ++ new ∷ []) → IsMember b (above.steps ++ new ∷ []) → a.line < b.line → forgets a.statement x ≡ true → names_thing b.statement x ≡ false
        gone_here a b x m i l h =
            old_or_new (λ t. t.line < b.line → forgets t.statement x ≡ true → names_thing b.statement x ≡ false) a m
            (λ j o y. old_or_new (λ u. a.line < u.line → names_thing u.statement x ≡ false) b i
            (λ v z. k.gone a b x j v z y) (λ z. names_none (names_thing said x) refl j y) o)
            (λ z. let y = low b i in absurd (omega arith)) l h
          where
            names_none : (t : Bool) → names_thing said x ≡ t → IsMember a above.steps → forgets a.statement x ≡ true → t ≡ false
            names_none false q j y = refl
            names_none true q j y = let r = thing_there form x e f q in absurd (k.ended a x j y r.0 r.1 r.2)

        apart_here : (a b : Step) (c : ℕ) → IsMember a (above.steps ++ new ∷ []) → IsMember b (above.steps ++ new ∷ []) → a.line < b.line → is_some (access_of a.statement) ≡ true → b.command ≡ Some c → c < a.line → a.command ≡ Some c
        apart_here a b c m i l h e f =
            old_or_new (λ t. t.line < b.line → is_some (access_of t.statement) ≡ true → c < t.line → t.command ≡ Some c) a m
            (λ j o x y. old_or_new (λ u. a.line < u.line → u.command ≡ Some c → a.command ≡ Some c) b i
            (λ v z t. k.apart a b c j v z x t y)
            (λ z t. of_open a c j t x y) o e)
            (λ x. let y = low b i in absurd (omega arith)) l h f
          where
            of_open : (a : Step) (c : ℕ) → IsMember a above.steps → command_of above said ≡ Some c → is_some (access_of a.statement) ≡ true → c < a.line → a.command ≡ Some c
            of_open a c j y z v =
                let r = command_is said c y in
                k.going a r.0 j r.1 z (let q = r.2 in omega arith) ∙ ap (λ (d : ℕ). Some d) r.2

        going_here : (a : Step) (b : Opened) → IsMember a (above.steps ++ new ∷ []) → batch_after above n form said ≡ Some b → is_some (access_of a.statement) ≡ true → b.command < a.line → a.command ≡ Some b.command
        going_here a b m q h l = by said refl q
          where
            form_is : form_of (is_in_batch above) ws ≡ Some form
            form_is = e

            late : {X : Type 0} → b.command ≡ n → X
            late e = let y = low a m in absurd (omega arith)

            by : (t : Statement) → said ≡ t → batch_after above n form t ≡ Some b → a.command ≡ Some b.command
            by (Submit x) e f = late (sym (ap (λ (o : Opened). o.command) (some_same (record { queue = x; part = 1; command = n }) b f)))
            by (SubmitHanded x y) e f = late (sym (ap (λ (o : Opened). o.command) (some_same (record { queue = x; part = 1; command = n }) b f)))
            by EndBatch e f = absurd (no_batch f)
              where
                no_batch : None ≡ Some b → ⊥
                no_batch g = cc
            by other e f = of_open above.batch refl f
              where
                no_batch : None ≡ Some b → ⊥
                no_batch g = cc

                of_open : (o : Option Opened) → above.batch ≡ o → option_map (batch_with n form) o ≡ Some b → a.command ≡ Some b.command
                of_open None g i = absurd (no_batch i)
                of_open (Some x) g i = by_end (ends_command form) refl (ap (λ (o : Opened). o.command) (some_same (batch_with n form x) b i))
                  where
                    by_end : (t : Bool) → ends_command form ≡ t → cond t n x.command ≡ b.command → a.command ≡ Some b.command
                    by_end true u j = late (sym j)
                    by_end false u j =
                        old_or_new (λ t. is_some (access_of t.statement) ≡ true → b.command < t.line → t.command ≡ Some b.command) a m
                        (λ v y z. k.going a x v g y (let w = j in omega arith) ∙ ap (λ (d : ℕ). Some d) j)
                        (λ y z. going_new form x form_is g y u ∙ ap (λ (d : ℕ). Some d) j) h l

        handed_here : (i : ℕ) → was_handed said i ≡ true → Stands (above.steps ++ new ∷ []) i
        handed_here i h =
            let r = handed_new form i e f h in
            subst (λ (j : ℕ). Stands (above.steps ++ new ∷ []) j) r.3 (stands_on r.0.line (k.names r.0 r.1 r.2))

        names_here : (m : Named) → IsMember m (names_after above n ws said) → same_kind m.kind Handed ≡ true → Stands (above.steps ++ new ∷ []) m.line
        names_here m i h = by (names_new form m i)
          where
            by : NameNew form m → Stands (above.steps ++ new ∷ []) m.line
            by (inl j) = stands_on m.line (k.names m j h)
            by (inr (inl j)) = never (sym j ∙ h)
            by (inr (inr j)) = (new, in_back new above.steps (new ∷ []) (inl refl), sym j.0, j.1)

-- Lines

abbrev pub IsKept : ℕ → Took → Type 0
IsKept n (Leaves now) = Keeps (n + 1) now
IsKept n (IsFaulty kind) = Unit {0}

module _ (above : Above) (n : ℕ) (k : Keeps n above) where
  keep_form : (ws : List (List ℕ)) (form : Form) → form_of (is_in_batch above) ws ≡ Some form → IsKept n (take_form above n ws form)
  keep_form ws form e = case (fault_of above n form ws) refl
    where
      case : (o : Option FaultKind) → fault_of above n form ws ≡ o → IsKept n (option_map_or (λ kind. IsFaulty kind) o (Leaves (with_line above n form ws)))
      case None f = keeps_line above n ws k form e f
      case (Some kind) f = tt

  pub keep_words : (words : List (List ℕ)) → IsKept n (take_words above n words)
  keep_words [] = record {
    numbered = numbered_on n above.steps k.numbered;
    queue = k.queue;
    thread = k.thread;
    command = k.command;
    batch = λ b e. let l = k.batch b e in omega arith;
    apart = k.apart;
    going = k.going;
    handed = k.handed;
    names = k.names;
    low = λ m i. let l = k.low m i in omega arith;
    one = k.one;
    past = λ s x i h. let l = k.past s x i h in omega arith;
    ended = k.ended;
    gone = k.gone;
  }
  keep_words (word ∷ words) = by_plain (are_plain (word ∷ words))
    where
      by_form : (o : Option Form) → form_of (is_in_batch above) (word ∷ words) ≡ o → IsKept n (option_map_or (take_form above n (word ∷ words)) o (IsFaulty Syntax))
      by_form None e = tt
      by_form (Some form) e = keep_form (word ∷ words) form e

      by_plain : (b : Bool) → IsKept n
          (if b then option_map_or (take_form above n (word ∷ words)) (form_of (is_in_batch above) (word ∷ words)) (IsFaulty Syntax) else IsFaulty Syntax)
      by_plain true = by_form (form_of (is_in_batch above) (word ∷ words)) refl
      by_plain false = tt

tidy_of : (n : ℕ) (above : Above) → Keeps n above → AreTidy above.steps
tidy_of n above k = record {
  queue = k.queue;
  thread = k.thread;
  command = k.command;
  apart = k.apart;
  handed = λ a b m i h. let r = k.handed b a.line i h in
      subst (λ (s : Step). is_lasting s.statement ≡ true) (same_step above.steps r.0 a k.numbered.rising r.1 m r.2) r.3;
  gone = λ a b x m i l e. k.gone a b x m i l (ap (λ (said : Statement). forgets said x) e ∙ eq-eqb x x refl);
}

pub lines_tidy : (lines : List (List ℕ)) (above : Above) (n : ℕ) → Keeps n above → AreTidy (read_lines above n lines).steps
lines_tidy [] above n k = tidy_of n above k
lines_tidy (line ∷ lines) above n k =
    case (take_words above n (words_of line)) (keep_words above n k (words_of line)) (λ now h. lines_tidy lines now (n + 1) h)
  where
    case : (took : Took) → IsKept n took →
        ((now : Above) → Keeps (n + 1) now → AreTidy (read_lines now (n + 1) lines).steps) →
        AreTidy (go_on above n (λ now. read_lines now (n + 1) lines) took).steps
    case (Leaves now) f h = h now f
    case (IsFaulty kind) f h = tidy_of n above k

nothing_open : (b : Opened) → None ≡ Some b → ⊥
nothing_open b e = cc

pub keeps_nothing : Keeps 1 nothing_above
keeps_nothing = record {
  numbered = record { rising = tt; below = λ s m. absurd m };
  queue = λ s m. absurd m;
  thread = λ s m. absurd m;
  command = λ s c m. absurd m;
  batch = λ b e. absurd (nothing_open b e);
  apart = λ a b c m. absurd m;
  going = λ a b m. absurd m;
  handed = λ s i m. absurd m;
  names = λ m i. absurd i;
  low = λ m i. absurd i;
  one = λ m k i. absurd i;
  past = λ s x m. absurd m;
  ended = λ s x m. absurd m;
  gone = λ a b x m. absurd m;
}

pub read_tidy : (text : List ℕ) → AreTidy (read_capture text).steps
read_tidy text =
    lines_tidy (ended_lines text) nothing_above 1 keeps_nothing
