-- A line without a fault says a statement that may follow what the lines before say.
use Rattle.std.proofs.Common.{◌≡◌, Option, Some, None, refl, false, List, [], ◌∷◌, sym, Bool, true, not, ℕ, ◌^◌, ◌<◌, ◌++◌, cond, ◌+◌, ◌==◌, ◌&&◌, ◌||◌, length, find, option_map, ap, ◌∙◌, subst, arith, ◌⊎◌, inl, inr}
use Rattle.std.proofs.lemmas.Option.{same_Some}
use Rattle.vq_ground.proofs.Positions.{found_at}
use Rattle.vq_model.specs.declared.statement.Section.TheVariants.{Outside, InBatch, InSchedule}
use Rattle.vq_canonical_laws.proofs.ScriptParts.{ToldJob, Told, part_of_batch, has_jobs, TakesValue, Parts, May, Say, HasValue, IsMarked, sizes_in, HasNumerals, count_jobs, count_commands, commands_of}
use Rattle.std.proofs.lemmas.Bool.{false≢true, or_parts, and_parts, ltb-true, ltb-false, eqb-true, not-true}
use Rattle.vq_model.specs.declared.statement.Statement.{Statement}
use Rattle.vq_model.specs.declared.script.SemaphoreKind.{SemaphoreKind}
use Rattle.vq_model.specs.declared.script.SemaphoreKind.TheVariants.{Timeline, Binary, Fence}
use Rattle.vq_model.specs.Context.{is_timeline, is_binary, is_fence, section, buffers, semaphores, queues, is_declared, has_begun, open_batch, is_wait, is_command, is_signal, is_batch_fence, count, some, version_of, held_from}
use Rattle.vq_model.specs.declared.limits.Limits.{Limits}
use Rattle.vq_model.specs.declared.statement.LineForm.{LineForm}
use Rattle.vq_model.specs.declared.statement.LineForm.TheVariants.{VersionLine, HeldTimelineLine, HeldBinaryLine, WaitTimelineLine, WaitBinaryLine, FillWholeLine, FillLine, UpdateLine, CopyLine, SignalTimelineLine, SignalBinaryLine, BatchFenceLine, EndLine, BufferLine, TimelineLine, BinaryLine, FenceLine, QueueLine, SubmitLine, ScheduleLine, TurnLine, TurnsLine}
use Rattle.vq_model.specs.declared.statement.LineForm.TheVariants.{HostSignalLine, HostWaitAllLine, HostWaitAnyLine, HostPollAllLine, HostPollAnyLine, HostReadLine, HostFenceWaitLine, HostFencePollLine, HostFenceResetLine, HostIdleLine}
use Rattle.std.specs.List.{list_all, list_any}
use Rattle.vq_model.specs.declared.statement.Form.{Form}
use Rattle.vq_model.specs.declared.statement.Form.TheVariants.{Plain, Scheduled}
use Rattle.vq_model.specs.declared.statement.Line.{Line}
use Rattle.vq_model.specs.Forms.{forms_outside, schedule_forms, held_forms, forms_in_batch}
use Rattle.vq_model.specs.Meaning.{first_forms, matches, forms_at, meaning, small_numeral, is_hex, hex_bytes, binary_pair, of_two, of_three, of_four, of_five}
use Rattle.std.specs.Prelude.{nat_lt, is_some, sum, count_by}
use Rattle.std.specs.Str.{bytes_eq}
use Rattle.vq_model.specs.declared.statement.Section.{Section}
use Rattle.vq_model.specs.declared.statement.Statement.TheVariants.{DeclareBuffer, DeclareSemaphore, DeclareQueue, BeginBatch, AddWait, AddCommand, AddSignal, AddFence, EndBatch, BeginSchedule, HasVersion}
use Rattle.vq_model.specs.declared.script.Mode.{Mode}
use Rattle.vq_model.specs.declared.script.Pair.{Pair}
use Rattle.vq_model.specs.declared.script.Command.{Command}
use Rattle.vq_model.specs.declared.script.Command.TheVariants.{Fill, Update, Copy}
use Rattle.vq_model.specs.declared.script.FillSize.TheVariants.{Whole, Count}
use Rattle.vq_model.specs.Text.{numeral, is_name}
use Rattle.vq_model.specs.Context.{waits_too_far}
use Rattle.vq_model.specs.LineFaults.{fault_of, is_in_range, overlaps}
use Rattle.vq_model.specs.Context.{number_at, is_job, part_of}
use Rattle.vq_model.specs.Earlier.{earlier}
use Rattle.vq_model.specs.LineFaults.{passes_limit}
use Rattle.vq_model.specs.Forms.{BufferName, TimelineName, BinaryName, FenceName, QueueName}
use Rattle.vq_reading_laws.proofs.Cited.{found_passes, found_belongs, forms_in, below, fence_is}
use Rattle.vq_canonical_laws.proofs.WrittenNumbers.{numeral_below, small_numeral_below, hex_bytes_below}
use Rattle.vq_canonical_laws.proofs.FollowingSteps.{host_may}
use Rattle.vq_canonical_laws.proofs.LineTests.{PassesTests, tests_passed}
use Rattle.vq_canonical_laws.proofs.SaidContext.{most_before, most_said, sizes_said, buffer_count_said, semaphore_count_said, queue_count_said, timeline_at_said, binary_at_said, fence_at_said, queue_at_said, declared_said, range_said, overlap_said, some_said, count_said}

-- Parts of the text

-- outside a batch none is open
outside_batch : (b : Option Told) → Outside ≡ part_of_batch b → b ≡ None
outside_batch None e = refl
outside_batch (Some t) e = absurd (cc)

-- inside a batch one is open
inside_batch : (b : Option Told) → InBatch ≡ part_of_batch b → (t : Told) × (b ≡ Some t)
inside_batch None e = absurd (cc)
inside_batch (Some t) e = (t, refl)

-- no line stands in a schedule
no_schedule : (b : Option Told) → InSchedule ≡ part_of_batch b → ⊥
no_schedule None e = cc
no_schedule (Some t) e = cc

-- no job has begun
no_jobs : (jobs : List ToldJob) (b : Option Told) → has_jobs jobs b ≡ false → jobs ≡ []
no_jobs [] b e = refl
no_jobs (t ∷ jobs) b e = absurd (false≢true (sym e))

nothing_said : (s : Statement) → None ≡ Some s → ⊥
nothing_said s e = cc

-- kinds that take values as marks
pub timeline_takes : (k : SemaphoreKind) (v : ℕ) → is_timeline k ≡ true → v < 2 ^ 64 → TakesValue k v
timeline_takes (Timeline i) v e l = l
timeline_takes k v e l = absurd (false≢true e)

binary_takes : (k : SemaphoreKind) → is_binary k ≡ true → TakesValue k 0
binary_takes Binary e = refl
binary_takes k e = absurd (false≢true e)

-- The forms of a part of the text

-- whether there are no lines
abbrev are_none : List Line → Bool
are_none [] = true
are_none (line ∷ lines) = false

none_are : (before : List Line) → are_none before ≡ true → before ≡ []
none_are [] e = refl
none_are (line ∷ lines) e = absurd (false≢true e)

-- whether a form stands outside a batch, where `first` the version may be named
abbrev stands_outside : Bool → LineForm → Bool
stands_outside first VersionLine = first
stands_outside first HeldTimelineLine = false
stands_outside first HeldBinaryLine = false
stands_outside first WaitTimelineLine = false
stands_outside first WaitBinaryLine = false
stands_outside first FillWholeLine = false
stands_outside first FillLine = false
stands_outside first UpdateLine = false
stands_outside first CopyLine = false
stands_outside first SignalTimelineLine = false
stands_outside first SignalBinaryLine = false
stands_outside first BatchFenceLine = false
stands_outside first EndLine = false
stands_outside first TurnLine = false
stands_outside first TurnsLine = false
stands_outside first other = true

-- .. and whether in a batch, where `second` in a text of version 2
abbrev stands_inside : Bool → LineForm → Bool
stands_inside second VersionLine = false
stands_inside second HeldTimelineLine = second
stands_inside second HeldBinaryLine = second
stands_inside second BufferLine = false
stands_inside second TimelineLine = false
stands_inside second BinaryLine = false
stands_inside second FenceLine = false
stands_inside second (QueueLine mode) = false
stands_inside second SubmitLine = false
stands_inside second HostSignalLine = false
stands_inside second HostWaitAllLine = false
stands_inside second HostWaitAnyLine = false
stands_inside second HostPollAllLine = false
stands_inside second HostPollAnyLine = false
stands_inside second HostReadLine = false
stands_inside second HostFenceWaitLine = false
stands_inside second HostFencePollLine = false
stands_inside second HostFenceResetLine = false
stands_inside second HostIdleLine = false
stands_inside second ScheduleLine = false
stands_inside second TurnLine = false
stands_inside second TurnsLine = false
stands_inside second other = true

all_outside : (form : Form) (before : List Line) →
    list_all (stands_outside (are_none before)) (first_forms before ++ forms_outside ++ schedule_forms form) ≡ true
all_outside Plain [] = refl
all_outside Plain (line ∷ lines) = refl
all_outside Scheduled [] = refl
all_outside Scheduled (line ∷ lines) = refl

all_inside : (b : Bool) →
    list_all (stands_inside b) (cond b (held_forms 2) [] ++ forms_in_batch) ≡ true
all_inside true = refl
all_inside false = refl

-- What a line may say

-- a statement may follow, or it begins the schedule, or it names the version in the first line
abbrev pub MayFollow : List Line → Parts → Statement → Type 0
MayFollow before p s =
    May p s ⊎ (((s ≡ BeginSchedule) × (p.batch ≡ None)) ⊎ ((s ≡ HasVersion 2) × (before ≡ [])))

module _ (form : Form) (before : List Line) (p : Parts) (h : Say before p) where
  -- before the first job
  first_parts : Outside ≡ part_of_batch p.batch →
      ((has_begun before || some (λ x. nat_lt 0 (part_of x)) (open_batch before)) || false)
      ≡ false →
      (p.batch ≡ None) × (p.jobs ≡ [])
  first_parts e order =
      let front =
      or_parts (has_begun before || some (λ x. nat_lt 0 (part_of x)) (open_batch before)) false
      order in
      let begun =
      or_parts (has_begun before) (some (λ x. nat_lt 0 (part_of x)) (open_batch before)) front.0 in
      (outside_batch p.batch e, no_jobs p.jobs p.batch (sym h.begun ∙ begun.0))

  -- a buffer
  buffer_may : (words : List (List ℕ)) (s : Statement) → Outside ≡ part_of_batch p.batch →
      matches words BufferLine ≡ true → PassesTests form before words BufferLine s → May p s
  buffer_may (a ∷ name ∷ size ∷ []) s e m t = by_size (numeral size) t.said
    where
      by_size : (o : Option ℕ) → option_map (λ n. DeclareBuffer name n) o ≡ Some s → May p s
      by_size None i = absurd (nothing_said s i)
      by_size (Some n) i =
          let same : DeclareBuffer name n ≡ s = same_Some (DeclareBuffer name n) s i in
          let first = first_parts e t.in_order in
          let r : is_in_range (earlier before) (DeclareBuffer name n) ≡ true =
          subst (λ (z : Statement). is_in_range (earlier before) z ≡ true) (sym same) t.ranged in
          let limits =
          or_parts (not (nat_lt (length (buffers before)) (most_before before).buffers))
          (nat_lt (most_before before).bytes (sum (sizes_in (buffers before)) + n))
          (subst (λ (z : Statement). passes_limit (earlier before) z ≡ false)
          (sym same) t.limited) in
          let few = below (length (buffers before)) (most_before before).buffers limits.0 in
          let bytes = ltb-false (most_before before).bytes (sum (sizes_in (buffers before)) + n) limits.1 in
          let most = ap (λ (l : Limits). l.buffers) (most_said before p h) in
          let most_bytes = ap (λ (l : Limits). l.bytes) (most_said before p h) in
          let length_is = buffer_count_said before p h in
          let sum_is = ap sum (sizes_said before p h) in
          subst (May p) same
          (record {
            outside = first.0;
            first = first.1;
            named = (and_parts (is_name name) true t.shaped).0;
            fresh = sym (declared_said before p h name)
                ∙ not-true (is_declared before name)
                (and_parts (not (is_declared before name)) true t.fresh).0;
            some_bytes = ltb-true 0 n r;
            few = omega arith;
            bytes = omega arith;
          })
  buffer_may words s e m t = absurd (false≢true m)

  -- a semaphore
  semaphore_may : (name : List ℕ) (kind : SemaphoreKind) (s : Statement) →
      Outside ≡ part_of_batch p.batch →
      ((has_begun before || some (λ x. nat_lt 0 (part_of x)) (open_batch before)) || false)
      ≡ false →
      is_name name ≡ true → not (is_declared before name) ≡ true →
      passes_limit (earlier before) s ≡ false →
      Some (DeclareSemaphore name kind) ≡ Some s → HasValue kind → May p s
  semaphore_may name kind s e order named fresh limited i small =
      let same : DeclareSemaphore name kind ≡ s =
      same_Some (DeclareSemaphore name kind) s i in
      let first = first_parts e order in
      let few =
      below (length (semaphores before)) (most_before before).semaphores
      (subst (λ (z : Statement). passes_limit (earlier before) z ≡ false)
      (sym same) limited) in
      let most = ap (λ (l : Limits). l.semaphores) (most_said before p h) in
      let length_is = semaphore_count_said before p h in
      subst (May p) same
      (record {
        outside = first.0;
        first = first.1;
        named = named;
        fresh = sym (declared_said before p h name) ∙ not-true (is_declared before name) fresh;
        few = omega arith;
        small = small;
      })

  timeline_may : (words : List (List ℕ)) (s : Statement) → Outside ≡ part_of_batch p.batch →
      matches words TimelineLine ≡ true → PassesTests form before words TimelineLine s → May p s
  timeline_may (a ∷ name ∷ value ∷ []) s e m t = by_value (numeral value) refl t.said
    where
      by_value : (o : Option ℕ) → numeral value ≡ o →
          option_map (λ v. DeclareSemaphore name (Timeline v)) o ≡ Some s → May p s
      by_value None f i = absurd (nothing_said s i)
      by_value (Some v) f i =
          semaphore_may name (Timeline v) s e t.in_order
          (and_parts (is_name name) true t.shaped).0
          (and_parts (not (is_declared before name)) true t.fresh).0 t.limited i
          (numeral_below value v f)
  timeline_may words s e m t = absurd (false≢true m)

  binary_may : (words : List (List ℕ)) (s : Statement) → Outside ≡ part_of_batch p.batch →
      matches words BinaryLine ≡ true → PassesTests form before words BinaryLine s → May p s
  binary_may (a ∷ name ∷ []) s e m t =
      semaphore_may name Binary s e t.in_order (and_parts (is_name name) true t.shaped).0
      (and_parts (not (is_declared before name)) true t.fresh).0 t.limited t.said tt
  binary_may words s e m t = absurd (false≢true m)

  fence_may : (words : List (List ℕ)) (s : Statement) → Outside ≡ part_of_batch p.batch →
      matches words FenceLine ≡ true → PassesTests form before words FenceLine s → May p s
  fence_may (a ∷ name ∷ []) s e m t =
      semaphore_may name Fence s e t.in_order (and_parts (is_name name) true t.shaped).0
      (and_parts (not (is_declared before name)) true t.fresh).0 t.limited t.said tt
  fence_may words s e m t = absurd (false≢true m)

  -- a queue
  queue_may : (mode : Mode) → (words : List (List ℕ)) (s : Statement) →
      Outside ≡ part_of_batch p.batch → matches words (QueueLine mode) ≡ true →
      PassesTests form before words (QueueLine mode) s → May p s
  queue_may mode (a ∷ name ∷ c ∷ []) s e m t =
      let same : DeclareQueue name mode ≡ s = same_Some (DeclareQueue name mode) s t.said in
      let first = first_parts e t.in_order in
      let few =
      below (length (queues before)) (most_before before).queues
      (subst (λ (z : Statement). passes_limit (earlier before) z ≡ false)
      (sym same) t.limited) in
      let most = ap (λ (l : Limits). l.queues) (most_said before p h) in
      let length_is = queue_count_said before p h in
      subst (May p) same
      (record {
        outside = first.0;
        first = first.1;
        named = (and_parts (is_name name) true t.shaped).0;
        fresh = sym (declared_said before p h name)
            ∙ not-true (is_declared before name)
            (and_parts (not (is_declared before name)) true t.fresh).0;
        few = omega arith;
      })
  queue_may mode words s e m t = absurd (false≢true m)

  -- the start of a batch
  submit_may : (words : List (List ℕ)) (s : Statement) → Outside ≡ part_of_batch p.batch →
      matches words SubmitLine ≡ true → PassesTests form before words SubmitLine s → May p s
  submit_may (a ∷ queue ∷ []) s e m t = by_queue (number_at before QueueName queue) refl t.said
    where
      by_queue : (o : Option ℕ) → number_at before QueueName queue ≡ o →
          option_map (λ q. BeginBatch q) o ≡ Some s → May p s
      by_queue None f i = absurd (nothing_said s i)
      by_queue (Some q) f i =
          let same : BeginBatch q ≡ s = same_Some (BeginBatch q) s i in
          let found =
          found_at (λ x. bytes_eq queue x.name) p.queues q
          (sym (queue_at_said before p h queue) ∙ f) in
          let few =
          below (count is_job before) (most_before before).jobs
          (subst (λ (z : Statement). passes_limit (earlier before) z ≡ false)
          (sym same) t.limited) in
          let most = ap (λ (l : Limits). l.jobs) (most_said before p h) in
          let none = outside_batch p.batch e in
          let jobs : count is_job before ≡ length p.jobs =
          h.job_count ∙ ap (λ (b : Option Told). count_jobs p.jobs b) none in
          subst (May p) same
          (record { outside = none; queue = found.0; there = found.1; few = omega arith })
  submit_may words s e m t = absurd (false≢true m)

  -- a timeline's mark, and a binary semaphore's
  timeline_marked : (name : List ℕ) (t v : ℕ) → number_at before TimelineName name ≡ Some t → v < 2 ^ 64 →
      IsMarked p.semaphores (record { semaphore = t; value = v })
  timeline_marked name t v f l =
      let found =
      found_at (λ x. bytes_eq name x.name && is_timeline x.kind) p.semaphores t
      (sym (timeline_at_said before p h name) ∙ f) in
      record {
        semaphore = found.0;
        there = found.1;
        takes =
            timeline_takes found.0.kind v
            (and_parts (bytes_eq name found.0.name) (is_timeline found.0.kind) found.2).1 l;
      }

  binary_marked : (name : List ℕ) (t : ℕ) → number_at before BinaryName name ≡ Some t →
      IsMarked p.semaphores (binary_pair t)
  binary_marked name t f =
      let found =
      found_at (λ x. bytes_eq name x.name && is_binary x.kind) p.semaphores t
      (sym (binary_at_said before p h name) ∙ f) in
      record {
        semaphore = found.0;
        there = found.1;
        takes =
            binary_takes found.0.kind
            (and_parts (bytes_eq name found.0.name) (is_binary found.0.kind) found.2).1;
      }

  -- no later part of the open batch has begun
  part_said : (told : Told) → p.batch ≡ Some told → (k : ℕ) →
      (some (λ x. nat_lt k (part_of x)) (open_batch before) || false) ≡ false →
      list_any (λ x. nat_lt k (part_of x)) told.1 ≡ false
  part_said told inside k order =
      sym (some_said before p h told inside (λ x. nat_lt k (part_of x)))
      ∙ (or_parts (some (λ x. nat_lt k (part_of x)) (open_batch before)) false order).0

  -- a wait
  wait_may : (pair : Pair) (from : ℕ) (s : Statement) → InBatch ≡ part_of_batch p.batch →
      (some (λ x. nat_lt 1 (part_of x)) (open_batch before) || false) ≡ false →
      is_in_range (earlier before) s ≡ true → passes_limit (earlier before) s ≡ false →
      Some (AddWait pair from) ≡ Some s → (from ≡ 1) ⊎ (p.version ≡ 2) →
      IsMarked p.semaphores pair → May p s
  wait_may pair from s e order ranged limited i held known =
      let same : AddWait pair from ≡ s = same_Some (AddWait pair from) s i in
      let inside = inside_batch p.batch e in
      let few =
      below (count is_wait (open_batch before)) (most_before before).waits
      (subst (λ (z : Statement). passes_limit (earlier before) z ≡ false)
      (sym same) limited) in
      let range =
      and_parts (nat_lt 0 from) (nat_lt from ((most_before before).batch_commands + 2))
      (subst (λ (z : Statement). is_in_range (earlier before) z ≡ true) (sym same) ranged) in
      let near = ltb-true from ((most_before before).batch_commands + 2) range.1 in
      let most = ap (λ (l : Limits). l.waits) (most_said before p h) in
      let most_of_batch = ap (λ (l : Limits). l.batch_commands) (most_said before p h) in
      let counted = count_said before p h inside.0 inside.1 is_wait in
      subst (May p) same
      (record {
        told = inside.0;
        inside = inside.1;
        in_order = part_said inside.0 inside.1 1 order;
        fits = record {
          known = known;
          counted = ltb-true 0 from range.0;
          held = held;
          near = omega arith;
          few = omega arith;
        };
      })

  wait_timeline_may : (words : List (List ℕ)) (s : Statement) → InBatch ≡ part_of_batch p.batch →
      matches words WaitTimelineLine ≡ true → PassesTests form before words WaitTimelineLine s → May p s
  wait_timeline_may (a ∷ name ∷ value ∷ []) s e m t =
      by_places (number_at before TimelineName name) (numeral value) refl refl t.said
    where
      by_places : (o v : Option ℕ) → number_at before TimelineName name ≡ o → numeral value ≡ v →
          option_map (λ x. AddWait x 1)
          (of_two (λ y z. record { semaphore = y; value = z }) o v) ≡ Some s → May p s
      by_places None v f g i = absurd (nothing_said s i)
      by_places (Some o) None f g i = absurd (nothing_said s i)
      by_places (Some o) (Some v) f g i =
          wait_may (record { semaphore = o; value = v }) 1 s e t.in_order t.ranged t.limited i
          (inl refl) (timeline_marked name o v f (numeral_below value v g))
  wait_timeline_may words s e m t = absurd (false≢true m)

  wait_binary_may : (words : List (List ℕ)) (s : Statement) → InBatch ≡ part_of_batch p.batch →
      matches words WaitBinaryLine ≡ true → PassesTests form before words WaitBinaryLine s → May p s
  wait_binary_may (a ∷ name ∷ []) s e m t = by_place (number_at before BinaryName name) refl t.said
    where
      by_place : (o : Option ℕ) → number_at before BinaryName name ≡ o →
          option_map (λ x. AddWait (binary_pair x) 1) o ≡ Some s → May p s
      by_place None f i = absurd (nothing_said s i)
      by_place (Some o) f i =
          wait_may (binary_pair o) 1 s e t.in_order t.ranged t.limited i (inl refl)
          (binary_marked name o f)
  wait_binary_may words s e m t = absurd (false≢true m)

  -- one from a place within its batch
  held_timeline_may : (words : List (List ℕ)) (s : Statement) → InBatch ≡ part_of_batch p.batch →
      p.version ≡ 2 → matches words HeldTimelineLine ≡ true →
      PassesTests form before words HeldTimelineLine s → May p s
  held_timeline_may (a ∷ name ∷ value ∷ b ∷ place ∷ []) s e second m t =
      by_places (number_at before TimelineName name) (numeral value) (numeral place) refl refl t.said
    where
      by_places : (o v k : Option ℕ) → number_at before TimelineName name ≡ o → numeral value ≡ v →
          of_two (λ x n. AddWait x n)
          (of_two (λ y z. record { semaphore = y; value = z }) o v) k ≡ Some s → May p s
      by_places None v k f g i = absurd (nothing_said s i)
      by_places (Some o) None k f g i = absurd (nothing_said s i)
      by_places (Some o) (Some v) None f g i = absurd (nothing_said s i)
      by_places (Some o) (Some v) (Some k) f g i =
          wait_may (record { semaphore = o; value = v }) k s e t.in_order t.ranged t.limited i
          (inr second) (timeline_marked name o v f (numeral_below value v g))
  held_timeline_may words s e second m t = absurd (false≢true m)

  held_binary_may : (words : List (List ℕ)) (s : Statement) → InBatch ≡ part_of_batch p.batch →
      p.version ≡ 2 → matches words HeldBinaryLine ≡ true →
      PassesTests form before words HeldBinaryLine s → May p s
  held_binary_may (a ∷ name ∷ b ∷ place ∷ []) s e second m t =
      by_places (number_at before BinaryName name) (numeral place) refl t.said
    where
      by_places : (o k : Option ℕ) → number_at before BinaryName name ≡ o →
          of_two (λ x n. AddWait (binary_pair x) n) o k ≡ Some s → May p s
      by_places None k f i = absurd (nothing_said s i)
      by_places (Some o) None f i = absurd (nothing_said s i)
      by_places (Some o) (Some k) f i =
          wait_may (binary_pair o) k s e t.in_order t.ranged t.limited i (inr second)
          (binary_marked name o f)
  held_binary_may words s e second m t = absurd (false≢true m)

  -- a signal
  signal_may : (pair : Pair) (s : Statement) → InBatch ≡ part_of_batch p.batch →
      (some (λ x. nat_lt 3 (part_of x)) (open_batch before) || false) ≡ false →
      passes_limit (earlier before) s ≡ false →
      Some (AddSignal pair) ≡ Some s → IsMarked p.semaphores pair → May p s
  signal_may pair s e order limited i known =
      let same : AddSignal pair ≡ s = same_Some (AddSignal pair) s i in
      let inside = inside_batch p.batch e in
      let few =
      below (count is_signal (open_batch before)) (most_before before).signals
      (subst (λ (z : Statement). passes_limit (earlier before) z ≡ false)
      (sym same) limited) in
      let most = ap (λ (l : Limits). l.signals) (most_said before p h) in
      let counted = count_said before p h inside.0 inside.1 is_signal in
      subst (May p) same
      (record {
        told = inside.0;
        inside = inside.1;
        in_order = part_said inside.0 inside.1 3 order;
        fits = record { known = known; few = omega arith };
      })

  signal_timeline_may : (words : List (List ℕ)) (s : Statement) →
      InBatch ≡ part_of_batch p.batch → matches words SignalTimelineLine ≡ true →
      PassesTests form before words SignalTimelineLine s → May p s
  signal_timeline_may (a ∷ name ∷ value ∷ []) s e m t =
      by_places (number_at before TimelineName name) (numeral value) refl refl t.said
    where
      by_places : (o v : Option ℕ) → number_at before TimelineName name ≡ o → numeral value ≡ v →
          option_map (λ x. AddSignal x)
          (of_two (λ y z. record { semaphore = y; value = z }) o v) ≡ Some s → May p s
      by_places None v f g i = absurd (nothing_said s i)
      by_places (Some o) None f g i = absurd (nothing_said s i)
      by_places (Some o) (Some v) f g i =
          signal_may (record { semaphore = o; value = v }) s e t.in_order t.limited i
          (timeline_marked name o v f (numeral_below value v g))
  signal_timeline_may words s e m t = absurd (false≢true m)

  signal_binary_may : (words : List (List ℕ)) (s : Statement) → InBatch ≡ part_of_batch p.batch →
      matches words SignalBinaryLine ≡ true → PassesTests form before words SignalBinaryLine s →
      May p s
  signal_binary_may (a ∷ name ∷ []) s e m t = by_place (number_at before BinaryName name) refl t.said
    where
      by_place : (o : Option ℕ) → number_at before BinaryName name ≡ o →
          option_map (λ x. AddSignal (binary_pair x)) o ≡ Some s → May p s
      by_place None f i = absurd (nothing_said s i)
      by_place (Some o) f i =
          signal_may (binary_pair o) s e t.in_order t.limited i (binary_marked name o f)
  signal_binary_may words s e m t = absurd (false≢true m)

  -- a fence
  batch_fence_may : (words : List (List ℕ)) (s : Statement) → InBatch ≡ part_of_batch p.batch →
      matches words BatchFenceLine ≡ true → PassesTests form before words BatchFenceLine s →
      May p s
  batch_fence_may (a ∷ name ∷ []) s e m t = by_place (number_at before FenceName name) refl t.said
    where
      by_place : (o : Option ℕ) → number_at before FenceName name ≡ o →
          option_map (λ x. AddFence x) o ≡ Some s → May p s
      by_place None f i = absurd (nothing_said s i)
      by_place (Some o) f i =
          let same : AddFence o ≡ s = same_Some (AddFence o) s i in
          let inside = inside_batch p.batch e in
          let order =
          or_parts (some (λ x. nat_lt 4 (part_of x)) (open_batch before))
          (some is_batch_fence (open_batch before)) t.in_order in
          let found =
          found_at (λ x. bytes_eq name x.name && is_fence x.kind) p.semaphores o
          (sym (fence_at_said before p h name) ∙ f) in
          subst (May p) same
          (record {
            told = inside.0;
            inside = inside.1;
            in_order = sym (some_said before p h inside.0 inside.1 (λ x. nat_lt 4 (part_of x)))
                ∙ order.0;
            fits = record {
              semaphore = found.0;
              there = found.1;
              fence = fence_is found.0.kind
                  (and_parts (bytes_eq name found.0.name) (is_fence found.0.kind) found.2).1;
              only = sym (some_said before p h inside.0 inside.1 is_batch_fence) ∙ order.1;
            };
          })
  batch_fence_may words s e m t = absurd (false≢true m)

  -- a command
  command_may : (c : Command) (s : Statement) → InBatch ≡ part_of_batch p.batch →
      (some (λ x. nat_lt 2 (part_of x)) (open_batch before) || false) ≡ false →
      is_in_range (earlier before) s ≡ true → overlaps (buffers before) s ≡ false →
      passes_limit (earlier before) s ≡ false →
      Some (AddCommand c) ≡ Some s → HasNumerals c → May p s
  command_may c s e order ranged apart limited i numerals =
      let same : AddCommand c ≡ s = same_Some (AddCommand c) s i in
      let r : is_in_range (earlier before) (AddCommand c) ≡ true =
      subst (λ (z : Statement). is_in_range (earlier before) z ≡ true) (sym same) ranged in
      let o : overlaps (buffers before) (AddCommand c) ≡ false =
      subst (λ (z : Statement). overlaps (buffers before) z ≡ false) (sym same) apart in
      let limits =
      or_parts (not (nat_lt (count is_command before) (most_before before).commands))
      (not (nat_lt (count is_command (open_batch before)) (most_before before).batch_commands))
      (subst (λ (z : Statement). passes_limit (earlier before) z ≡ false)
      (sym same) limited) in
      let all = below (count is_command before) (most_before before).commands limits.0 in
      let few = below (count is_command (open_batch before)) (most_before before).batch_commands limits.1 in
      let most = ap (λ (l : Limits). l.commands) (most_said before p h) in
      let most_of_batch = ap (λ (l : Limits). l.batch_commands) (most_said before p h) in
      let inside = inside_batch p.batch e in
      let counted = count_said before p h inside.0 inside.1 is_command in
      let counts : count is_command before
      ≡ commands_of p.jobs + count_by is_command inside.0.1 =
      h.command_count ∙ ap (λ (x : Option Told). count_commands p.jobs x) inside.1 in
      subst (May p) same
      (record {
        told = inside.0;
        inside = inside.1;
        in_order = part_said inside.0 inside.1 2 order;
        fits = record {
          range = sym (range_said before p h c) ∙ r;
          apart = sym (overlap_said before p h c) ∙ o;
          numerals = numerals;
          few = omega arith;
          total = omega arith;
        };
      })

  -- a fill of the rest of a buffer
  fill_whole_may : (words : List (List ℕ)) (s : Statement) → InBatch ≡ part_of_batch p.batch →
      matches words FillWholeLine ≡ true → PassesTests form before words FillWholeLine s → May p s
  fill_whole_may (a ∷ buffer ∷ offset ∷ c ∷ word ∷ []) s e m t =
      by_places (number_at before BufferName buffer) (numeral offset) (small_numeral word) refl refl t.said
    where
      by_places : (b o w : Option ℕ) → numeral offset ≡ o → small_numeral word ≡ w →
          of_three (λ b o w. AddCommand (Fill b o Whole w)) b o w ≡ Some s → May p s
      by_places None o w f k i = absurd (nothing_said s i)
      by_places (Some b) None w f k i = absurd (nothing_said s i)
      by_places (Some b) (Some o) None f k i = absurd (nothing_said s i)
      by_places (Some b) (Some o) (Some w) f k i =
          command_may (Fill b o Whole w) s e t.in_order t.ranged t.apart t.limited i
          (numeral_below offset o f, small_numeral_below word w k)
  fill_whole_may words s e m t = absurd (false≢true m)

  -- a fill
  fill_may : (words : List (List ℕ)) (s : Statement) → InBatch ≡ part_of_batch p.batch →
      matches words FillLine ≡ true → PassesTests form before words FillLine s → May p s
  fill_may (a ∷ buffer ∷ offset ∷ size ∷ word ∷ []) s e m t =
      by_places (number_at before BufferName buffer) (numeral offset) (numeral size) (small_numeral word) refl
      refl refl t.said
    where
      by_places : (b o n w : Option ℕ) → numeral offset ≡ o → numeral size ≡ n →
          small_numeral word ≡ w →
          of_four (λ b o n w. AddCommand (Fill b o (Count n) w)) b o n w ≡ Some s → May p s
      by_places None o n w f g k i = absurd (nothing_said s i)
      by_places (Some b) None n w f g k i = absurd (nothing_said s i)
      by_places (Some b) (Some o) None w f g k i = absurd (nothing_said s i)
      by_places (Some b) (Some o) (Some n) None f g k i = absurd (nothing_said s i)
      by_places (Some b) (Some o) (Some n) (Some w) f g k i =
          command_may (Fill b o (Count n) w) s e t.in_order t.ranged t.apart t.limited i
          (numeral_below offset o f, numeral_below size n g, small_numeral_below word w k)
  fill_may words s e m t = absurd (false≢true m)

  -- an update
  update_may : (words : List (List ℕ)) (s : Statement) → InBatch ≡ part_of_batch p.batch →
      matches words UpdateLine ≡ true → PassesTests form before words UpdateLine s → May p s
  update_may (a ∷ buffer ∷ offset ∷ digits ∷ []) s e m t =
      by_places (number_at before BufferName buffer) (numeral offset) refl t.said
    where
      hex : is_hex digits ≡ true
      hex =
          (and_parts (is_hex digits) true
          (and_parts (is_some (numeral offset)) (is_hex digits && true) t.numeric).1).0

      by_places : (b o : Option ℕ) → numeral offset ≡ o →
          of_two (λ b o. AddCommand (Update b o (hex_bytes digits))) b o ≡ Some s → May p s
      by_places None o f i = absurd (nothing_said s i)
      by_places (Some b) None f i = absurd (nothing_said s i)
      by_places (Some b) (Some o) f i =
          command_may (Update b o (hex_bytes digits)) s e t.in_order t.ranged t.apart t.limited i
          (numeral_below offset o f, hex_bytes_below digits hex)
  update_may words s e m t = absurd (false≢true m)

  -- a copy
  copy_may : (words : List (List ℕ)) (s : Statement) → InBatch ≡ part_of_batch p.batch →
      matches words CopyLine ≡ true → PassesTests form before words CopyLine s → May p s
  copy_may (a ∷ source ∷ from ∷ target ∷ to ∷ size ∷ []) s e m t =
      by_places (number_at before BufferName source) (numeral from) (number_at before BufferName target) (numeral to)
      (numeral size) refl refl refl t.said
    where
      by_places : (b o c q n : Option ℕ) → numeral from ≡ o → numeral to ≡ q → numeral size ≡ n →
          of_five (λ b o c q n. AddCommand (Copy b o c q n)) b o c q n ≡ Some s → May p s
      by_places None o c q n f g k i = absurd (nothing_said s i)
      by_places (Some b) None c q n f g k i = absurd (nothing_said s i)
      by_places (Some b) (Some o) None q n f g k i = absurd (nothing_said s i)
      by_places (Some b) (Some o) (Some c) None n f g k i = absurd (nothing_said s i)
      by_places (Some b) (Some o) (Some c) (Some q) None f g k i = absurd (nothing_said s i)
      by_places (Some b) (Some o) (Some c) (Some q) (Some n) f g k i =
          command_may (Copy b o c q n) s e t.in_order t.ranged t.apart t.limited i
          (numeral_below from o f, numeral_below to q g, numeral_below size n k)
  copy_may words s e m t = absurd (false≢true m)

  -- the end of a batch
  end_may : (words : List (List ℕ)) (s : Statement) → InBatch ≡ part_of_batch p.batch →
      matches words EndLine ≡ true → PassesTests form before words EndLine s → May p s
  end_may (a ∷ []) s e m t =
      let same : EndBatch ≡ s = same_Some EndBatch s t.said in
      let inside = inside_batch p.batch e in
      let near : waits_too_far (open_batch before) ≡ false =
      not-true (waits_too_far (open_batch before))
      (subst (λ (z : Statement). is_in_range (earlier before) z ≡ true) (sym same) t.ranged) in
      subst (May p) same
      (record {
        told = inside.0;
        inside = inside.1;
        in_order = part_said inside.0 inside.1 5 t.in_order;
        near = ap (λ (k : ℕ). list_any (λ x. nat_lt (k + 1) (held_from x)) inside.0.1)
            (sym (count_said before p h inside.0 inside.1 is_command))
            ∙ (sym (some_said before p h inside.0 inside.1
            (λ x. nat_lt (count is_command (open_batch before) + 1) (held_from x)))
            ∙ near);
      })
  end_may words s e m t = absurd (false≢true m)

  -- by the form, outside a batch
  outside_may : (f : LineForm) (words : List (List ℕ)) (s : Statement) →
      Outside ≡ part_of_batch p.batch → stands_outside (are_none before) f ≡ true →
      matches words f ≡ true → PassesTests form before words f s → MayFollow before p s
  outside_may VersionLine (a ∷ b ∷ []) s e g m t =
      inr (inr (sym (same_Some (HasVersion 2) s t.said), none_are before g))
  outside_may VersionLine words s e g m t = absurd (false≢true m)
  outside_may BufferLine words s e g m t = inl (buffer_may words s e m t)
  outside_may TimelineLine words s e g m t = inl (timeline_may words s e m t)
  outside_may BinaryLine words s e g m t = inl (binary_may words s e m t)
  outside_may FenceLine words s e g m t = inl (fence_may words s e m t)
  outside_may (QueueLine mode) words s e g m t = inl (queue_may mode words s e m t)
  outside_may SubmitLine words s e g m t = inl (submit_may words s e m t)
  outside_may HostSignalLine words s e g m t =
      inl (host_may before p h form HostSignalLine words s (outside_batch p.batch e) refl m t)
  outside_may HostWaitAllLine words s e g m t =
      inl (host_may before p h form HostWaitAllLine words s (outside_batch p.batch e) refl m t)
  outside_may HostWaitAnyLine words s e g m t =
      inl (host_may before p h form HostWaitAnyLine words s (outside_batch p.batch e) refl m t)
  outside_may HostPollAllLine words s e g m t =
      inl (host_may before p h form HostPollAllLine words s (outside_batch p.batch e) refl m t)
  outside_may HostPollAnyLine words s e g m t =
      inl (host_may before p h form HostPollAnyLine words s (outside_batch p.batch e) refl m t)
  outside_may HostReadLine words s e g m t =
      inl (host_may before p h form HostReadLine words s (outside_batch p.batch e) refl m t)
  outside_may HostFenceWaitLine words s e g m t =
      inl (host_may before p h form HostFenceWaitLine words s (outside_batch p.batch e) refl m t)
  outside_may HostFencePollLine words s e g m t =
      inl (host_may before p h form HostFencePollLine words s (outside_batch p.batch e) refl m t)
  outside_may HostFenceResetLine words s e g m t =
      inl (host_may before p h form HostFenceResetLine words s (outside_batch p.batch e) refl m t)
  outside_may HostIdleLine words s e g m t =
      inl (host_may before p h form HostIdleLine words s (outside_batch p.batch e) refl m t)
  outside_may ScheduleLine (a ∷ []) s e g m t =
      inr (inl (sym (same_Some BeginSchedule s t.said), outside_batch p.batch e))
  outside_may ScheduleLine words s e g m t = absurd (false≢true m)
  outside_may TurnLine words s e g m t = absurd (false≢true g)
  outside_may TurnsLine words s e g m t = absurd (false≢true g)
  outside_may WaitTimelineLine words s e g m t = absurd (false≢true g)
  outside_may WaitBinaryLine words s e g m t = absurd (false≢true g)
  outside_may FillWholeLine words s e g m t = absurd (false≢true g)
  outside_may FillLine words s e g m t = absurd (false≢true g)
  outside_may UpdateLine words s e g m t = absurd (false≢true g)
  outside_may CopyLine words s e g m t = absurd (false≢true g)
  outside_may SignalTimelineLine words s e g m t = absurd (false≢true g)
  outside_may SignalBinaryLine words s e g m t = absurd (false≢true g)
  outside_may BatchFenceLine words s e g m t = absurd (false≢true g)
  outside_may EndLine words s e g m t = absurd (false≢true g)
  outside_may HeldTimelineLine words s e g m t = absurd (false≢true g)
  outside_may HeldBinaryLine words s e g m t = absurd (false≢true g)

  -- .. and inside
  inside_may : (f : LineForm) (words : List (List ℕ)) (s : Statement) →
      InBatch ≡ part_of_batch p.batch → stands_inside (version_of before == 2) f ≡ true →
      matches words f ≡ true → PassesTests form before words f s → May p s
  inside_may HeldTimelineLine words s e g m t =
      held_timeline_may words s e (sym h.version ∙ eqb-true (version_of before) 2 g) m t
  inside_may HeldBinaryLine words s e g m t =
      held_binary_may words s e (sym h.version ∙ eqb-true (version_of before) 2 g) m t
  inside_may WaitTimelineLine words s e g m t = wait_timeline_may words s e m t
  inside_may WaitBinaryLine words s e g m t = wait_binary_may words s e m t
  inside_may FillWholeLine words s e g m t = fill_whole_may words s e m t
  inside_may FillLine words s e g m t = fill_may words s e m t
  inside_may UpdateLine words s e g m t = update_may words s e m t
  inside_may CopyLine words s e g m t = copy_may words s e m t
  inside_may SignalTimelineLine words s e g m t = signal_timeline_may words s e m t
  inside_may SignalBinaryLine words s e g m t = signal_binary_may words s e m t
  inside_may BatchFenceLine words s e g m t = batch_fence_may words s e m t
  inside_may EndLine words s e g m t = end_may words s e m t
  inside_may BufferLine words s e g m t = absurd (false≢true g)
  inside_may TimelineLine words s e g m t = absurd (false≢true g)
  inside_may BinaryLine words s e g m t = absurd (false≢true g)
  inside_may FenceLine words s e g m t = absurd (false≢true g)
  inside_may (QueueLine mode) words s e g m t = absurd (false≢true g)
  inside_may SubmitLine words s e g m t = absurd (false≢true g)
  inside_may HostSignalLine words s e g m t = absurd (false≢true g)
  inside_may HostWaitAllLine words s e g m t = absurd (false≢true g)
  inside_may HostWaitAnyLine words s e g m t = absurd (false≢true g)
  inside_may HostPollAllLine words s e g m t = absurd (false≢true g)
  inside_may HostPollAnyLine words s e g m t = absurd (false≢true g)
  inside_may HostReadLine words s e g m t = absurd (false≢true g)
  inside_may HostFenceWaitLine words s e g m t = absurd (false≢true g)
  inside_may HostFencePollLine words s e g m t = absurd (false≢true g)
  inside_may HostFenceResetLine words s e g m t = absurd (false≢true g)
  inside_may HostIdleLine words s e g m t = absurd (false≢true g)
  inside_may ScheduleLine words s e g m t = absurd (false≢true g)
  inside_may TurnLine words s e g m t = absurd (false≢true g)
  inside_may TurnsLine words s e g m t = absurd (false≢true g)
  inside_may VersionLine words s e g m t = absurd (false≢true g)

  -- by the part of the text
  line_may : (was : Section) (f : LineForm) (words : List (List ℕ)) (s : Statement) →
      was ≡ part_of_batch p.batch → find (matches words) (forms_in form before was) ≡ Some f →
      matches words f ≡ true → PassesTests form before words f s → MayFollow before p s
  line_may Outside f words s e found m t =
      outside_may f words s e
      (found_belongs (matches words) (stands_outside (are_none before))
      (first_forms before ++ forms_outside ++ schedule_forms form) f
      (all_outside form before) found) m t
  line_may InBatch f words s e found m t =
      inl (inside_may f words s e
      (found_belongs (matches words) (stands_inside (version_of before == 2))
      (held_forms (version_of before) ++ forms_in_batch) f
      (all_inside (version_of before == 2)) found) m t)
  line_may InSchedule f words s e found m t = absurd (no_schedule p.batch e)

  -- A line without a fault says a statement that may follow, or begins the schedule, or names the version.
  pub may_follow : (words : List (List ℕ)) (s : Statement) → fault_of form before words ≡ None →
      meaning form before words ≡ Some s → MayFollow before p s
  may_follow words s e m =
      let t = tests_passed form before words s e m in
      line_may (section before) t.0 words s h.part t.1.found
      (found_passes (matches words) (forms_at form before) t.0 t.1.found) t.1
