-- What a line without a fault says, by the part of the text in which it stands.
use Rattle.std.proofs.Common.{List, map, ◌≡◌, false, Some, ℕ, ◌<◌, ◌+◌, ◌≤◌, length, Bool, true, cond, [], ◌∷◌, subst, ◌==◌, refl, Option, None, arith, not, suc, zero, ap, ◌&&◌, ◌||◌, option_map, sym, ◌∙◌}
use Rattle.std.proofs.lemmas.Option.{same_Some}
use Rattle.vq_ground.proofs.Positions.{found_at, position_within}
use Rattle.vq_model.specs.declared.statement.Line.{Line}
use Rattle.vq_model.specs.declared.script.SemaphoreKind.{SemaphoreKind}
use Rattle.vq_model.specs.Earlier.{earlier}
use Rattle.vq_model.specs.Context.{semaphores, queues, is_timeline, is_fence, open_batch, some, is_wait, count, is_command, is_signal, buffers, version_of, is_binary, section, has_begun, is_batch_fence, is_threaded, turns_of}
use Rattle.vq_model.specs.declared.script.Mode.{Mode}
use Rattle.vq_model.specs.declared.script.Mode.TheVariants.{Immediate, Deferred, Threaded}
use Rattle.vq_model.specs.declared.script.ActorName.{ActorName}
use Rattle.vq_model.specs.declared.script.ActorName.TheVariants.{Host as HostActor, Submit as SubmitActor, Ring as RingActor}
use Rattle.std.specs.List.{slice_get}
use Rattle.vq_model.specs.declared.script.Pair.{Pair}
use Rattle.std.specs.Prelude.{nat_lt, sum}
use Rattle.vq_model.specs.LineFaults.{fault_of, has_fault, part_of_form, is_out_of_order, is_declaration, is_batch_fence_form, is_in_range, overlaps}
use Rattle.vq_model.specs.declared.script.Command.{Command}
use Rattle.vq_model.specs.FittingCommands.{Fits}
use Rattle.vq_reading_laws.proofs.CommandRanges.{sizes_before, fits_in_range}
use Rattle.vq_model.specs.declared.statement.Section.{Section}
use Rattle.vq_model.specs.declared.statement.Section.TheVariants.{Outside, InBatch, InSchedule}
use Rattle.vq_model.specs.declared.statement.Statement.{Statement}
use Rattle.vq_model.specs.declared.statement.Statement.TheVariants.{HasVersion, DeclareBuffer, DeclareSemaphore, DeclareQueue, BeginBatch, AddWait, AddCommand, AddSignal, AddFence, EndBatch, BeginSchedule, TakeTurns, TakeHostStep}
use Rattle.vq_model.specs.declared.script.HostStep.{HostStep}
use Rattle.vq_model.specs.declared.script.HostStep.TheVariants.{WaitAll, WaitAny, PollAll, PollAny, Read, FenceWait, FencePoll, FenceReset, Idle}
use Rattle.vq_reading_laws.proofs.NamedSemaphores.{kind_at, kinds_before, IsStepOf, SaysStep, timeline_named, fence_named, says_pair, says_pairs, says_name}
use Rattle.vq_model.specs.declared.script.SemaphoreKind.TheVariants.{Fence, Timeline, Binary}
use Rattle.vq_model.specs.declared.statement.LineForm.{LineForm}
use Rattle.vq_model.specs.declared.statement.LineForm.TheVariants.{VersionLine, BufferLine, TimelineLine, BinaryLine, FenceLine, QueueLine, SubmitLine, WaitTimelineLine, WaitBinaryLine, HeldTimelineLine, HeldBinaryLine, FillWholeLine, FillLine, UpdateLine, CopyLine, SignalTimelineLine, SignalBinaryLine, BatchFenceLine, EndLine, ScheduleLine, TurnLine, TurnsLine, HostSignalLine, HostWaitAllLine, HostWaitAnyLine, HostPollAllLine, HostPollAnyLine, HostReadLine, HostFenceWaitLine, HostFencePollLine, HostFenceResetLine, HostIdleLine}
use Rattle.std.proofs.lemmas.List.{length-map}
use Rattle.std.proofs.lemmas.Bool.{and_parts, ltb-true, false≢true, ltb-false, or_parts, not-false}
use Rattle.vq_model.specs.declared.statement.Form.{Form}
use Rattle.vq_model.specs.Forms.{places}
use Rattle.std.specs.Prelude.{codes, drop}
use Rattle.vq_model.specs.Meaning.{of_two, of_three, of_four, of_five, matches, open_places, hex_bytes, statement_of, meaning, form_of, forms_at, small_numeral, binary_pair, actor_at, is_marked, pairs_at}
use Rattle.vq_model.specs.declared.statement.Form.TheVariants.{Plain, Scheduled}
use Rattle.vq_model.specs.declared.script.Queue.{Queue}
use Rattle.vq_reading_laws.proofs.Meanings.{first_fails}
use Rattle.vq_reading_laws.proofs.FormPlaces.{belongs, forms_belong, suits, forms_suit, found_belongs, is_first}
use Rattle.vq_reading_laws.proofs.Versions.{most_before}
use Rattle.vq_model.specs.declared.limits.Limits.{Limits}
use Rattle.std.specs.Option.{option_map_or, option_and_then}
use Rattle.std.specs.Str.{bytes_eq}
use Rattle.vq_model.specs.declared.statement.FaultKind.TheVariants.{Syntax, Order, Number, Name, Twice, Range, Overlap, Limit}
use Rattle.vq_model.specs.declared.script.Command.TheVariants.{Fill, Update, Copy}
use Rattle.vq_model.specs.declared.script.FillSize.TheVariants.{Whole, Count}
use Rattle.vq_model.specs.Text.{numeral}
use Rattle.vq_model.specs.Context.{number_at, is_job, part_of}
use Rattle.vq_model.specs.LineFaults.{pairs_of, passes_limit}
use Rattle.vq_model.specs.Forms.{BufferName, TimelineName, BinaryName, FenceName, QueueName, ThreadedName}

-- What a line says

-- the modes of the queues that lines declare
abbrev pub modes_before : List Line → List Mode
modes_before before = map (λ q. q.mode) (queues before)

-- A wait or a signal of one of these semaphores: of a timeline, or of a binary semaphore, without a
-- value.
pub record IsMarkOf (kinds : List SemaphoreKind) (pair : Pair) : Type 0 where
  pub kind : SemaphoreKind
  pub is : slice_get kinds pair.semaphore ≡ Some kind
  pub no_fence : is_fence kind ≡ false
  pub valueless : is_timeline kind ≡ false → pair.value ≡ 0

-- no line of the open batch belongs to a later part
abbrev pub KeepsParts : List Line → ℕ → Type 0
KeepsParts before part = some (λ s. nat_lt part (part_of s)) (open_batch before) ≡ false

-- what a wait says
pub record SaidWait (before : List Line) (pair : Pair) (from : ℕ) : Type 0 where
  pub counted : 0 < from
  pub whole : version_of before ≡ 1 → from ≡ 1
  pub mark : IsMarkOf (kinds_before before) pair
  pub few : count is_wait (open_batch before) < (most_before before).waits
  pub parts : KeepsParts before 1

-- what a command says
pub record SaidCommand (before : List Line) (command : Command) : Type 0 where
  pub fits : Fits (sizes_before before) command
  pub few : count is_command before < (most_before before).commands
  pub parts : KeepsParts before 2

-- what a signal says
pub record SaidSignal (before : List Line) (pair : Pair) : Type 0 where
  pub mark : IsMarkOf (kinds_before before) pair
  pub few : count is_signal (open_batch before) < (most_before before).signals
  pub parts : KeepsParts before 3

-- an actor of queues of these modes
abbrev pub IsActorOf : List Mode → ActorName → Type 0
IsActorOf modes HostActor = Unit {0}
IsActorOf modes (SubmitActor q) = slice_get modes q ≡ Some Threaded
IsActorOf modes (RingActor q) = q < length modes

-- the turns that lines take
abbrev pub turns_before : List Line → ℕ
turns_before before = sum (map (λ line. turns_of line.statement) before)

-- What a statement keeps, by the part of the text in which it stands.
abbrev pub Said : Form → List Line → Section → Statement → Type 0
Said form before Outside (HasVersion version) = (before ≡ []) × (version ≡ 2)
Said form before Outside (DeclareBuffer name size) =
    (length (buffers before) < (most_before before).buffers)
    × (sum (sizes_before before) + size ≤ (most_before before).bytes)
Said form before Outside (DeclareSemaphore name kind) =
    length (semaphores before) < (most_before before).semaphores
Said form before Outside (DeclareQueue name mode) =
    length (queues before) < (most_before before).queues
Said form before Outside (BeginBatch q) =
    (q < length (queues before)) × (count is_job before < (most_before before).jobs)
Said form before InBatch (AddWait pair from) = SaidWait before pair from
Said form before InBatch (AddCommand c) = SaidCommand before c
Said form before InBatch (AddSignal pair) = SaidSignal before pair
Said form before InBatch (AddFence f) =
    (slice_get (kinds_before before) f ≡ Some Fence) × KeepsParts before 4
Said form before InBatch EndBatch = Unit {0}
Said form before Outside (TakeHostStep step) =
    IsStepOf (kinds_before before) step × (count is_job before < (most_before before).jobs)
Said form before Outside BeginSchedule = form ≡ Scheduled
Said form before InSchedule (TakeTurns actor count) =
    IsActorOf (modes_before before) actor
    × (turns_before before + count ≤ (most_before before).turns)
Said form before was other = ⊥

-- below a limit
pub below : (a b : ℕ) → not (nat_lt a b) ≡ false → a < b
below a b h = ltb-true a b (not-false (nat_lt a b) h)

-- a command of two numbers, of three, of four, of five
of_two_says : (f : ℕ → ℕ → Command) (b o : Option ℕ) (s : Statement) →
    of_two (λ x y. AddCommand (f x y)) b o ≡ Some s → (c : Command) × (AddCommand c ≡ s)
of_two_says f None o s h = absurd (cc)
of_two_says f (Some b) None s h = absurd (cc)
of_two_says f (Some b) (Some o) s h = (f b o, cc)

of_three_says : (f : ℕ → ℕ → ℕ → Command) (b o n : Option ℕ) (s : Statement) →
    of_three (λ x y z. AddCommand (f x y z)) b o n ≡ Some s → (c : Command) × (AddCommand c ≡ s)
of_three_says f None o n s h = absurd (cc)
of_three_says f (Some b) o n s h = of_two_says (f b) o n s h

of_four_says : (f : ℕ → ℕ → ℕ → ℕ → Command) (b o n w : Option ℕ) (s : Statement) →
    of_four (λ x y z u. AddCommand (f x y z u)) b o n w ≡ Some s →
    (c : Command) × (AddCommand c ≡ s)
of_four_says f None o n w s h = absurd (cc)
of_four_says f (Some b) o n w s h = of_three_says (f b) o n w s h

of_five_says : (f : ℕ → ℕ → ℕ → ℕ → ℕ → Command) (b o n w v : Option ℕ) (s : Statement) →
    of_five (λ x y z u k. AddCommand (f x y z u k)) b o n w v ≡ Some s →
    (c : Command) × (AddCommand c ≡ s)
of_five_says f None o n w v s h = absurd (cc)
of_five_says f (Some b) o n w v s h = of_four_says (f b) o n w v s h

-- A statement of a form, by the part of the text in which it stands and by the part of the batch to
-- which its form belongs.
data Shape (form : Form) (before : List Line) : Section → ℕ → Statement → Type 0 where
  a_version : before ≡ [] → Shape form before Outside 0 (HasVersion 2)
  a_buffer : (name : List ℕ) (size : ℕ) → Shape form before Outside 0 (DeclareBuffer name size)
  a_semaphore : (name : List ℕ) (kind : SemaphoreKind) →
      Shape form before Outside 0 (DeclareSemaphore name kind)
  a_queue : (name : List ℕ) (mode : Mode) → Shape form before Outside 0 (DeclareQueue name mode)
  a_batch : (q : ℕ) → q < length (queues before) → Shape form before Outside 0 (BeginBatch q)
  a_wait : (pair : Pair) (from : ℕ) → IsMarkOf (kinds_before before) pair →
      (version_of before ≡ 1 → from ≡ 1) → Shape form before InBatch 1 (AddWait pair from)
  a_command : (c : Command) → Shape form before InBatch 2 (AddCommand c)
  a_signal : (pair : Pair) → IsMarkOf (kinds_before before) pair →
      Shape form before InBatch 3 (AddSignal pair)
  a_fence : (f : ℕ) → slice_get (kinds_before before) f ≡ Some Fence →
      Shape form before InBatch 4 (AddFence f)
  an_end : Shape form before InBatch 5 EndBatch
  a_step : (step : HostStep) → IsStepOf (kinds_before before) step →
      Shape form before Outside 0 (TakeHostStep step)
  a_schedule : form ≡ Scheduled → Shape form before Outside 0 BeginSchedule
  some_turns : (actor : ActorName) (count : ℕ) → IsActorOf (modes_before before) actor →
      Shape form before InSchedule 0 (TakeTurns actor count)

-- the kinds by their tests
timeline_no_fence : (k : SemaphoreKind) → is_timeline k ≡ true → is_fence k ≡ false
timeline_no_fence (Timeline v) e = refl
timeline_no_fence Binary e = absurd (false≢true e)
timeline_no_fence Fence e = absurd (false≢true e)

binary_no_fence : (k : SemaphoreKind) → is_binary k ≡ true → is_fence k ≡ false
binary_no_fence (Timeline v) e = absurd (false≢true e)
binary_no_fence Binary e = refl
binary_no_fence Fence e = absurd (false≢true e)

pub fence_is : (k : SemaphoreKind) → is_fence k ≡ true → k ≡ Fence
fence_is (Timeline v) e = absurd (false≢true e)
fence_is Binary e = absurd (false≢true e)
fence_is Fence e = refl

-- the mode of a queue
mode_at : (xs : List Queue) (q : ℕ) (x : Queue) → slice_get xs q ≡ Some x →
    slice_get (map (λ y. y.mode) xs) q ≡ Some x.mode
mode_at [] q x e = absurd (let c : None ≡ Some x = e in cc)
mode_at (y ∷ xs) zero x e = let same : y ≡ x = cc in ap (λ (z : Queue). Some z.mode) same
mode_at (y ∷ xs) (suc q) x e = mode_at xs q x e

threaded_is : (m : Mode) → is_threaded m ≡ true → m ≡ Threaded
threaded_is Immediate e = absurd (false≢true e)
threaded_is Deferred e = absurd (false≢true e)
threaded_is Threaded e = refl

module _ (form : Form) (before : List Line) where
  abbrev most : Limits
  most = most_before before

  -- a timeline's name and a value
  timeline_mark : (name : List ℕ) (t v : ℕ) → number_at before TimelineName name ≡ Some t →
      IsMarkOf (kinds_before before) (record { semaphore = t; value = v })
  timeline_mark name t v e =
      let f = found_at (λ s. bytes_eq name s.name && is_timeline s.kind) (semaphores before) t e in
      let k = and_parts (bytes_eq name f.0.name) (is_timeline f.0.kind) f.2 in
      record {
        kind = f.0.kind;
        is = kind_at (semaphores before) t f.0 f.1;
        no_fence = timeline_no_fence f.0.kind k.1;
        valueless = λ no. absurd (false≢true (sym no ∙ k.1));
      }

  -- a binary semaphore's name
  binary_mark : (name : List ℕ) (t : ℕ) → number_at before BinaryName name ≡ Some t →
      IsMarkOf (kinds_before before) (binary_pair t)
  binary_mark name t e =
      let f = found_at (λ s. bytes_eq name s.name && is_binary s.kind) (semaphores before) t e in
      let k = and_parts (bytes_eq name f.0.name) (is_binary f.0.kind) f.2 in
      record {
        kind = f.0.kind;
        is = kind_at (semaphores before) t f.0 f.1;
        no_fence = binary_no_fence f.0.kind k.1;
        valueless = λ no. refl;
      }

  -- a fence's name
  fence_kind : (name : List ℕ) (t : ℕ) → number_at before FenceName name ≡ Some t →
      slice_get (kinds_before before) t ≡ Some Fence
  fence_kind name t e =
      let f = found_at (λ s. bytes_eq name s.name && is_fence s.kind) (semaphores before) t e in
      let k = and_parts (bytes_eq name f.0.name) (is_fence f.0.kind) f.2 in
      kind_at (semaphores before) t f.0 f.1 ∙ ap Some (fence_is f.0.kind k.1)

  buffer_shape : (name : List ℕ) (o : Option ℕ) (s : Statement) →
      option_map (λ n. DeclareBuffer name n) o ≡ Some s → Shape form before Outside 0 s
  buffer_shape name None s h = absurd (cc)
  buffer_shape name (Some n) s h =
      subst (Shape form before Outside 0) (same_Some (DeclareBuffer name n) s h) (a_buffer name n)

  timeline_shape : (name : List ℕ) (o : Option ℕ) (s : Statement) →
      option_map (λ v. DeclareSemaphore name (Timeline v)) o ≡ Some s → Shape form before Outside 0 s
  timeline_shape name None s h = absurd (cc)
  timeline_shape name (Some v) s h =
      subst (Shape form before Outside 0) (same_Some (DeclareSemaphore name (Timeline v)) s h)
      (a_semaphore name (Timeline v))

  batch_shape : (queue : List ℕ) (o : Option ℕ) (s : Statement) → number_at before QueueName queue ≡ o →
      option_map (λ q. BeginBatch q) o ≡ Some s → Shape form before Outside 0 s
  batch_shape queue None s e h = absurd (let c : None ≡ Some s = h in cc)
  batch_shape queue (Some q) s e h =
      let l = position_within (λ x. bytes_eq queue x.name) (queues before) q e in
      subst (Shape form before Outside 0) (same_Some (BeginBatch q) s h) (a_batch q l)

  command_shape : (s : Statement) → (c : Command) × (AddCommand c ≡ s) → Shape form before InBatch 2 s
  command_shape s c = subst (Shape form before InBatch 2) c.1 (a_command c.0)

  -- a wait of a timeline, of a binary semaphore
  wait_shape : (name : List ℕ) (t v : Option ℕ) (s : Statement) → number_at before TimelineName name ≡ t →
      option_map (λ p. AddWait p 1) (of_two (λ x y. record { semaphore = x; value = y }) t v)
      ≡ Some s → Shape form before InBatch 1 s
  wait_shape name None v s e h = absurd (cc)
  wait_shape name (Some t) None s e h = absurd (cc)
  wait_shape name (Some t) (Some v) s e h =
      subst (Shape form before InBatch 1)
      (same_Some (AddWait (record { semaphore = t; value = v }) 1) s h)
      (a_wait (record { semaphore = t; value = v }) 1 (timeline_mark name t v e) (λ h. refl))

  binary_wait_shape : (name : List ℕ) (t : Option ℕ) (s : Statement) → number_at before BinaryName name ≡ t →
      option_map (λ x. AddWait (binary_pair x) 1) t ≡ Some s → Shape form before InBatch 1 s
  binary_wait_shape name None s e h = absurd (let c : None ≡ Some s = h in cc)
  binary_wait_shape name (Some t) s e h =
      subst (Shape form before InBatch 1) (same_Some (AddWait (binary_pair t) 1) s h)
      (a_wait (binary_pair t) 1 (binary_mark name t e) (λ h. refl))

  -- a wait that holds back a part of its batch, in the second version
  in_second : (from : ℕ) → (version_of before == 2) ≡ true → version_of before ≡ 1 → from ≡ 1
  in_second from e h = absurd (false≢true (sym (ap (λ (v : ℕ). v == 2) h) ∙ e))

  held_shape : (name : List ℕ) (t v k : Option ℕ) (s : Statement) → number_at before TimelineName name ≡ t →
      (version_of before == 2) ≡ true →
      of_two (λ p n. AddWait p n) (of_two (λ x y. record { semaphore = x; value = y }) t v) k ≡ Some s →
      Shape form before InBatch 1 s
  held_shape name None v k s e i h = absurd (let c : None ≡ Some s = h in cc)
  held_shape name (Some t) None k s e i h = absurd (let c : None ≡ Some s = h in cc)
  held_shape name (Some t) (Some v) None s e i h = absurd (let c : None ≡ Some s = h in cc)
  held_shape name (Some t) (Some v) (Some k) s e i h =
      subst (Shape form before InBatch 1)
      (same_Some (AddWait (record { semaphore = t; value = v }) k) s h)
      (a_wait (record { semaphore = t; value = v }) k (timeline_mark name t v e) (in_second k i))

  held_binary_shape : (name : List ℕ) (t k : Option ℕ) (s : Statement) → number_at before BinaryName name ≡ t →
      (version_of before == 2) ≡ true → of_two (λ x n. AddWait (binary_pair x) n) t k ≡ Some s →
      Shape form before InBatch 1 s
  held_binary_shape name None k s e i h = absurd (let c : None ≡ Some s = h in cc)
  held_binary_shape name (Some t) None s e i h = absurd (let c : None ≡ Some s = h in cc)
  held_binary_shape name (Some t) (Some k) s e i h =
      subst (Shape form before InBatch 1) (same_Some (AddWait (binary_pair t) k) s h)
      (a_wait (binary_pair t) k (binary_mark name t e) (in_second k i))

  -- a signal of a timeline, of a binary semaphore
  signal_shape : (name : List ℕ) (t v : Option ℕ) (s : Statement) → number_at before TimelineName name ≡ t →
      option_map (λ p. AddSignal p) (of_two (λ x y. record { semaphore = x; value = y }) t v)
      ≡ Some s → Shape form before InBatch 3 s
  signal_shape name None v s e h = absurd (cc)
  signal_shape name (Some t) None s e h = absurd (cc)
  signal_shape name (Some t) (Some v) s e h =
      subst (Shape form before InBatch 3)
      (same_Some (AddSignal (record { semaphore = t; value = v })) s h)
      (a_signal (record { semaphore = t; value = v }) (timeline_mark name t v e))

  binary_signal_shape : (name : List ℕ) (t : Option ℕ) (s : Statement) →
      number_at before BinaryName name ≡ t →
      option_map (λ x. AddSignal (binary_pair x)) t ≡ Some s → Shape form before InBatch 3 s
  binary_signal_shape name None s e h = absurd (let c : None ≡ Some s = h in cc)
  binary_signal_shape name (Some t) s e h =
      subst (Shape form before InBatch 3) (same_Some (AddSignal (binary_pair t)) s h)
      (a_signal (binary_pair t) (binary_mark name t e))

  fence_shape : (name : List ℕ) (t : Option ℕ) (s : Statement) → number_at before FenceName name ≡ t →
      option_map (λ f. AddFence f) t ≡ Some s → Shape form before InBatch 4 s
  fence_shape name None s e h = absurd (let c : None ≡ Some s = h in cc)
  fence_shape name (Some t) s e h =
      subst (Shape form before InBatch 4) (same_Some (AddFence t) s h)
      (a_fence t (fence_kind name t e))

  step_shape : (s : Statement) → SaysStep before s → Shape form before Outside 0 s
  step_shape s said = subst (Shape form before Outside 0) said.2 (a_step said.0 said.1)

  -- an actor's name
  actor_is : (word : List ℕ) (o : Option ActorName) (a : ActorName) → actor_at (number_at before) word ≡ o →
      o ≡ Some a → IsActorOf (modes_before before) a
  actor_is word o a e h = by_host (bytes_eq word (codes "host")) refl (e ∙ h)
    where
      name : List ℕ
      name = drop 2 word

      by_submit : (o : Option ℕ) → number_at before ThreadedName name ≡ o →
          option_map (λ q. SubmitActor q) o ≡ Some a → IsActorOf (modes_before before) a
      by_submit None i g = absurd (let c : None ≡ Some a = g in cc)
      by_submit (Some q) i g =
          subst (IsActorOf (modes_before before)) (same_Some (SubmitActor q) a g)
          (let f = found_at (λ x. bytes_eq name x.name && is_threaded x.mode) (queues before) q i in
          let k = and_parts (bytes_eq name f.0.name) (is_threaded f.0.mode) f.2 in
          mode_at (queues before) q f.0 f.1 ∙ ap Some (threaded_is f.0.mode k.1))

      by_ring : (o : Option ℕ) → number_at before QueueName name ≡ o →
          option_map (λ q. RingActor q) o ≡ Some a → IsActorOf (modes_before before) a
      by_ring None i g = absurd (let c : None ≡ Some a = g in cc)
      by_ring (Some q) i g =
          let l = position_within (λ x. bytes_eq name x.name) (queues before) q i in
          let same = length-map (queues before) (λ (x : Queue). x.mode) in
          subst (IsActorOf (modes_before before)) (same_Some (RingActor q) a g) (omega arith)

      of_queue : Bool → Option ActorName
      of_queue b =
          cond b (option_map (λ q. SubmitActor q) (number_at before ThreadedName name))
          (option_map (λ q. RingActor q) (number_at before QueueName name))

      by_mark : (b : Bool) → of_queue b ≡ Some a →
          IsActorOf (modes_before before) a
      by_mark true g = by_submit (number_at before ThreadedName name) refl g
      by_mark false g = by_ring (number_at before QueueName name) refl g

      by_host : (b : Bool) → bytes_eq word (codes "host") ≡ b → actor_at (number_at before) word ≡ Some a →
          IsActorOf (modes_before before) a
      by_host true i g =
          subst (IsActorOf (modes_before before))
          (same_Some HostActor a
          (sym (ap (λ (b : Bool). cond b (Some HostActor) (of_queue (is_marked 83 word))) i) ∙ g)) tt
      by_host false i g =
          by_mark (is_marked 83 word)
          (sym (ap (λ (b : Bool). cond b (Some HostActor) (of_queue (is_marked 83 word))) i) ∙ g)

  turn_shape : (word : List ℕ) (o : Option ActorName) (s : Statement) → actor_at (number_at before) word ≡ o →
      option_map (λ a. TakeTurns a 1) o ≡ Some s → Shape form before InSchedule 0 s
  turn_shape word None s e h = absurd (let c : None ≡ Some s = h in cc)
  turn_shape word (Some a) s e h =
      subst (Shape form before InSchedule 0) (same_Some (TakeTurns a 1) s h)
      (some_turns a 1 (actor_is word (Some a) a e refl))

  turns_shape : (word : List ℕ) (o : Option ActorName) (n : Option ℕ) (s : Statement) →
      actor_at (number_at before) word ≡ o → of_two (λ a m. TakeTurns a m) o n ≡ Some s →
      Shape form before InSchedule 0 s
  turns_shape word None n s e h = absurd (let c : None ≡ Some s = h in cc)
  turns_shape word (Some a) None s e h = absurd (let c : None ≡ Some s = h in cc)
  turns_shape word (Some a) (Some n) s e h =
      subst (Shape form before InSchedule 0) (same_Some (TakeTurns a n) s h)
      (some_turns a n (actor_is word (Some a) a e refl))

  schedule_shape : (f : Form) → form ≡ f → suits f before ScheduleLine ≡ true → (s : Statement) →
      Some BeginSchedule ≡ Some s → Shape form before Outside 0 s
  schedule_shape Plain e t s h = absurd (false≢true t)
  schedule_shape Scheduled e t s h =
      subst (Shape form before Outside 0) (same_Some BeginSchedule s h) (a_schedule e)

  -- the words of a form that stands where it may
  shape : (was : Section) (f : LineForm) (words : List (List ℕ)) (s : Statement) →
      belongs was f ≡ true → suits form before f ≡ true →
      statement_of (number_at before) f words ≡ Some s → Shape form before was (part_of_form f) s
  shape Outside VersionLine [] s g t h =
      subst (Shape form before Outside 0) (same_Some (HasVersion 2) s h) (a_version (is_first before t))
  shape Outside BufferLine (name ∷ size ∷ []) s g t h = buffer_shape name (numeral size) s h
  shape Outside TimelineLine (name ∷ value ∷ []) s g t h = timeline_shape name (numeral value) s h
  shape Outside BinaryLine (name ∷ []) s g t h =
      subst (Shape form before Outside 0) (same_Some (DeclareSemaphore name Binary) s h)
      (a_semaphore name Binary)
  shape Outside FenceLine (name ∷ []) s g t h =
      subst (Shape form before Outside 0) (same_Some (DeclareSemaphore name Fence) s h)
      (a_semaphore name Fence)
  shape Outside (QueueLine mode) (name ∷ []) s g t h =
      subst (Shape form before Outside 0) (same_Some (DeclareQueue name mode) s h)
      (a_queue name mode)
  shape Outside SubmitLine (queue ∷ []) s g t h = batch_shape queue (number_at before QueueName queue) s refl h
  shape Outside HostSignalLine (name ∷ value ∷ []) s g t h =
      step_shape s (says_pair before name (number_at before TimelineName name) (numeral value) s refl h)
  shape Outside HostWaitAllLine words s g t h =
      step_shape s (says_pairs before WaitAll words (pairs_at (number_at before) words) s (λ qs a. a) refl h)
  shape Outside HostWaitAnyLine words s g t h =
      step_shape s (says_pairs before WaitAny words (pairs_at (number_at before) words) s (λ qs a. a) refl h)
  shape Outside HostPollAllLine words s g t h =
      step_shape s (says_pairs before PollAll words (pairs_at (number_at before) words) s (λ qs a. a) refl h)
  shape Outside HostPollAnyLine words s g t h =
      step_shape s (says_pairs before PollAny words (pairs_at (number_at before) words) s (λ qs a. a) refl h)
  shape Outside HostReadLine (name ∷ []) s g t h =
      step_shape s
      (says_name before Read (number_at before TimelineName name) s (timeline_named before name) h)
  shape Outside HostFenceWaitLine (name ∷ []) s g t h =
      step_shape s (says_name before FenceWait (number_at before FenceName name) s (fence_named before name) h)
  shape Outside HostFencePollLine (name ∷ []) s g t h =
      step_shape s (says_name before FencePoll (number_at before FenceName name) s (fence_named before name) h)
  shape Outside HostFenceResetLine (name ∷ []) s g t h =
      step_shape s (says_name before FenceReset (number_at before FenceName name) s (fence_named before name) h)
  shape Outside HostIdleLine [] s g t h = step_shape s (Idle, tt, same_Some (TakeHostStep Idle) s h)
  shape InBatch WaitTimelineLine (name ∷ value ∷ []) s g t h =
      wait_shape name (number_at before TimelineName name) (numeral value) s refl h
  shape InBatch WaitBinaryLine (name ∷ []) s g t h =
      binary_wait_shape name (number_at before BinaryName name) s refl h
  shape InBatch HeldTimelineLine (name ∷ value ∷ place ∷ []) s g t h =
      held_shape name (number_at before TimelineName name) (numeral value) (numeral place) s refl t h
  shape InBatch HeldBinaryLine (name ∷ place ∷ []) s g t h =
      held_binary_shape name (number_at before BinaryName name) (numeral place) s refl t h
  shape InBatch FillWholeLine (buffer ∷ offset ∷ word ∷ []) s g t h =
      command_shape s
      (of_three_says (λ x y z. Fill x y Whole z) (number_at before BufferName buffer) (numeral offset)
      (small_numeral word) s h)
  shape InBatch FillLine (buffer ∷ offset ∷ size ∷ word ∷ []) s g t h =
      command_shape s
      (of_four_says (λ x y z u. Fill x y (Count z) u) (number_at before BufferName buffer) (numeral offset)
      (numeral size) (small_numeral word) s h)
  shape InBatch UpdateLine (buffer ∷ offset ∷ digits ∷ []) s g t h =
      command_shape s
      (of_two_says (λ x y. Update x y (hex_bytes digits)) (number_at before BufferName buffer) (numeral offset)
      s h)
  shape InBatch CopyLine (source ∷ from ∷ target ∷ to ∷ size ∷ []) s g t h =
      command_shape s
      (of_five_says (λ x y z u k. Copy x y z u k) (number_at before BufferName source) (numeral from)
      (number_at before BufferName target) (numeral to) (numeral size) s h)
  shape InBatch SignalTimelineLine (name ∷ value ∷ []) s g t h =
      signal_shape name (number_at before TimelineName name) (numeral value) s refl h
  shape InBatch SignalBinaryLine (name ∷ []) s g t h =
      binary_signal_shape name (number_at before BinaryName name) s refl h
  shape InBatch BatchFenceLine (name ∷ []) s g t h = fence_shape name (number_at before FenceName name) s refl h
  shape InBatch EndLine [] s g t h =
      subst (Shape form before InBatch 5) (same_Some EndBatch s h) an_end
  shape Outside ScheduleLine [] s g t h = schedule_shape form refl t s h
  shape InSchedule TurnLine (actor ∷ []) s g t h =
      turn_shape actor (actor_at (number_at before) actor) s refl h
  shape InSchedule TurnsLine (actor ∷ count ∷ []) s g t h =
      turns_shape actor (actor_at (number_at before) actor) (numeral count) s refl h
  shape InSchedule VersionLine words s g t h = absurd (false≢true g)
  shape InSchedule BufferLine words s g t h = absurd (false≢true g)
  shape InSchedule TimelineLine words s g t h = absurd (false≢true g)
  shape InSchedule BinaryLine words s g t h = absurd (false≢true g)
  shape InSchedule FenceLine words s g t h = absurd (false≢true g)
  shape InSchedule (QueueLine mode) words s g t h = absurd (false≢true g)
  shape InSchedule SubmitLine words s g t h = absurd (false≢true g)
  shape InSchedule HostSignalLine words s g t h = absurd (false≢true g)
  shape InSchedule HostWaitAllLine words s g t h = absurd (false≢true g)
  shape InSchedule HostWaitAnyLine words s g t h = absurd (false≢true g)
  shape InSchedule HostPollAllLine words s g t h = absurd (false≢true g)
  shape InSchedule HostPollAnyLine words s g t h = absurd (false≢true g)
  shape InSchedule HostReadLine words s g t h = absurd (false≢true g)
  shape InSchedule HostFenceWaitLine words s g t h = absurd (false≢true g)
  shape InSchedule HostFencePollLine words s g t h = absurd (false≢true g)
  shape InSchedule HostFenceResetLine words s g t h = absurd (false≢true g)
  shape InSchedule HostIdleLine words s g t h = absurd (false≢true g)
  shape InSchedule WaitTimelineLine words s g t h = absurd (false≢true g)
  shape InSchedule WaitBinaryLine words s g t h = absurd (false≢true g)
  shape InSchedule HeldTimelineLine words s g t h = absurd (false≢true g)
  shape InSchedule HeldBinaryLine words s g t h = absurd (false≢true g)
  shape InSchedule FillWholeLine words s g t h = absurd (false≢true g)
  shape InSchedule FillLine words s g t h = absurd (false≢true g)
  shape InSchedule UpdateLine words s g t h = absurd (false≢true g)
  shape InSchedule CopyLine words s g t h = absurd (false≢true g)
  shape InSchedule SignalTimelineLine words s g t h = absurd (false≢true g)
  shape InSchedule SignalBinaryLine words s g t h = absurd (false≢true g)
  shape InSchedule BatchFenceLine words s g t h = absurd (false≢true g)
  shape InSchedule EndLine words s g t h = absurd (false≢true g)
  shape InSchedule ScheduleLine words s g t h = absurd (false≢true g)
  shape was f words s g t h = absurd (cc)

  -- what a statement keeps that is in order and in range, doesn't overlap itself and passes no limit
  says : (was : Section) (part : ℕ) (s : Statement) → Shape form before was part s →
      KeepsParts before part → is_in_range (earlier before) s ≡ true → overlaps (buffers before) s ≡ false →
      passes_limit (earlier before) s ≡ false → Said form before was s
  says was part s (a_version e) q r o l = (e, refl)
  says was part s (a_buffer name size) q r o l =
      let limits =
      or_parts (not (nat_lt (length (buffers before)) most.buffers))
      (nat_lt most.bytes (sum (sizes_before before) + size)) l in (
        below (length (buffers before)) most.buffers limits.0,
        ltb-false most.bytes (sum (sizes_before before) + size) limits.1,
      )
  says was part s (a_semaphore name kind) q r o l = below (length (semaphores before)) most.semaphores l
  says was part s (a_queue name mode) q r o l = below (length (queues before)) most.queues l
  says was part s (a_batch n w) q r o l = (w, below (count is_job before) most.jobs l)
  says was part s (a_wait pair from m w) q r o l =
      let range = and_parts (nat_lt 0 from) (nat_lt from (most.batch_commands + 2)) r in
      record {
        counted = ltb-true 0 from range.0;
        whole = w;
        mark = m;
        few = below (count is_wait (open_batch before)) most.waits l;
        parts = q;
      }
  says was part s (a_command c) q r o l =
      let limits =
      or_parts (not (nat_lt (count is_command before) most.commands))
      (not (nat_lt (count is_command (open_batch before)) most.batch_commands)) l in
      record {
        fits = fits_in_range before c r o;
        few = below (count is_command before) most.commands limits.0;
        parts = q;
      }
  says was part s (a_signal pair m) q r o l =
      record {
        mark = m;
        few = below (count is_signal (open_batch before)) most.signals l;
        parts = q;
      }
  says was part s (a_fence f e) q r o l = (e, q)
  says was part s an_end q r o l = tt
  says was part s (a_step step is) q r o l =
      let limits =
      or_parts (not (nat_lt (count is_job before) most.jobs))
      (nat_lt most.pairs (length (pairs_of step))) l in
      (is, below (count is_job before) most.jobs limits.0)
  says was part s (a_schedule e) q r o l = e
  says was part s (some_turns actor count is) q r o l =
      (is, ltb-false most.turns (turns_before before + count) l)

  -- a line that is in order belongs to no earlier part than a line before it
  in_parts : (f : LineForm) → is_out_of_order (earlier before) f ≡ false → KeepsParts before (part_of_form f)
  in_parts f h =
      let front =
      or_parts ((is_declaration f && has_begun before)
      || some (λ s. nat_lt (part_of_form f) (part_of s)) (open_batch before))
      (is_batch_fence_form f && some is_batch_fence (open_batch before)) h in
      (or_parts (is_declaration f && has_begun before)
      (some (λ s. nat_lt (part_of_form f) (part_of s)) (open_batch before)) front.0).1

  -- What a line without a fault says.
  pub said_of : (words : List (List ℕ)) (s : Statement) →
      fault_of form before words ≡ None →
      meaning form before words ≡ Some s → Said form before (section before) s
  said_of words s h m =
      let one =
      first_fails (has_fault form before words) Syntax
      (Order ∷ Number ∷ Name ∷ Twice ∷ Range ∷ Overlap ∷ Limit ∷ []) h in
      let two =
      first_fails (has_fault form before words) Order
      (Number ∷ Name ∷ Twice ∷ Range ∷ Overlap ∷ Limit ∷ []) one.1 in
      let three =
      first_fails (has_fault form before words) Number
      (Name ∷ Twice ∷ Range ∷ Overlap ∷ Limit ∷ []) two.1 in
      let four =
      first_fails (has_fault form before words) Name (Twice ∷ Range ∷ Overlap ∷ Limit ∷ [])
      three.1 in
      let five =
      first_fails (has_fault form before words) Twice (Range ∷ Overlap ∷ Limit ∷ []) four.1 in
      let six = first_fails (has_fault form before words) Range (Overlap ∷ Limit ∷ []) five.1 in
      let seven = first_fails (has_fault form before words) Overlap (Limit ∷ []) six.1 in
      let eight = first_fails (has_fault form before words) Limit [] seven.1 in
      by_form (form_of form before words) refl m
      (not-false (is_in_range (earlier before) s)
      (sym (ap (λ (o : Option Statement). option_map_or (λ x. not (is_in_range (earlier before) x)) o
      false) m) ∙ six.0))
      (sym (ap (λ (o : Option Statement). option_map_or (overlaps (buffers before)) o false) m) ∙ seven.0)
      (sym (ap (λ (o : Option Statement). option_map_or
      (passes_limit (earlier before)) o false) m) ∙ eight.0) two.0
    where
      by_form : (o : Option LineForm) → form_of form before words ≡ o →
          option_and_then
          (λ f. statement_of (number_at before) f (map (λ x. x.1) (open_places (places f) words))) o
          ≡ Some s →
          is_in_range (earlier before) s ≡ true → overlaps (buffers before) s ≡ false →
          passes_limit (earlier before) s ≡ false →
          option_map_or (is_out_of_order (earlier before)) (form_of form before words) false ≡ false →
          Said form before (section before) s
      by_form None e h r o l d = absurd (cc)
      by_form (Some f) e h r o l d =
          says (section before) (part_of_form f) s
          (shape (section before) f (map (λ x. x.1) (open_places (places f) words)) s
          (found_belongs (matches words) (belongs (section before)) (forms_at form before) f
          (forms_belong form before (section before)) e)
          (found_belongs (matches words) (suits form before) (forms_at form before) f
          (forms_suit form before (section before)) e) h)
          (in_parts f (sym (ap (λ (o : Option LineForm). option_map_or (is_out_of_order (earlier before)) o
          false) e) ∙ d)) r o l
