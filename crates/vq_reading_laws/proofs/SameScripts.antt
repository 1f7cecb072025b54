-- What a script keeps is kept by each that is the same up to line numbers.
use Rattle.std.proofs.Common.{◌≡◌, Bool, List, [], ◌∷◌, map, refl, ℕ, ap, length, ◌∙◌, sym, subst, ◌≤◌, false, Option, Some, None, option_map, arith, ◌⊎◌}
use Rattle.std.specs.Prelude.{All, sum}
use Rattle.std.proofs.lemmas.List.Elements.{All-nil, All-cons, All-head, All-tail, All-map}
use Rattle.vq_model.specs.declared.script.Batch.{Batch}
use Rattle.vq_model.specs.declared.script.Job.{Job}
use Rattle.vq_model.specs.declared.script.Job.TheVariants.{Host, Batch as BatchJob}
use Rattle.vq_model.specs.declared.script.Buffer.{Buffer}
use Rattle.vq_model.specs.SameScript.{buffer_without_line, job_without_lines, command_without_line, SameButLines, mark_without_line, semaphore_without_line, queue_without_line, turn_without_line}
use Rattle.vq_model.specs.Lowering.{batch_commands, commands_in}
use Rattle.std.proofs.lemmas.List.{length-map}
use Rattle.vq_model.specs.declared.script.CommandLine.{CommandLine}
use Rattle.vq_model.specs.declared.script.HostStep.{HostStep}
use Rattle.vq_model.specs.declared.script.HostStep.TheVariants.{Signal, WaitAll, WaitAny, PollAll, PollAny, Read, FenceWait, FencePoll, FenceReset, Idle}
use Rattle.vq_model.specs.FittingCommands.{Fits}
use Rattle.std.specs.List.{slice_get}
use Rattle.std.specs.Option.{option_map_or}
use Rattle.vq_model.specs.declared.script.Script.{Script}
use Rattle.vq_model.specs.declared.script.Semaphore.{Semaphore}
use Rattle.vq_model.specs.declared.script.SemaphoreKind.{SemaphoreKind}
use Rattle.vq_model.specs.declared.script.Queue.{Queue}
use Rattle.vq_model.specs.declared.script.Mark.{Mark}
use Rattle.vq_model.specs.declared.script.Pair.{Pair}
use Rattle.vq_model.specs.Context.{is_immediate, is_threaded, is_fence, is_timeline}
use Rattle.vq_model.specs.Signals.{kind_of, is_timeline_at}
use Rattle.vq_model.specs.ValidScripts.{IsValid, KeepsLimits, IsValidMark, IsValidFence, HoldsBack, IsValidBatch, IsValidStep, IsTimelinePair, HasValidBatches, HasValidSteps, HasValidTurns, IsActor, is_immediate_queue, is_fence_at, sizes_of}
use Rattle.vq_model.specs.Limits.{limits_of}
use Rattle.vq_model.specs.declared.limits.Limits.{Limits}
use Rattle.vq_model.specs.declared.script.Mode.{Mode}
use Rattle.vq_model.specs.declared.script.Turn.{Turn}
use Rattle.vq_model.specs.declared.script.ActorName.{ActorName}
use Rattle.vq_model.specs.declared.script.ActorName.TheVariants.{Host as HostActor, Submit as SubmitActor, Ring as RingActor}
use Rattle.vq_ground.proofs.Gets.{get-map}
use Rattle.vq_ground.proofs.Options.{some_of}
use Rattle.vq_reading_laws.proofs.DeclaredScripts.{valid_signals}

-- Lists without lines

map_empty : {X Y : Type 0} (f : X → Y) (xs : List X) → map f xs ≡ [] → xs ≡ []
map_empty f [] e = refl
map_empty f (x ∷ xs) e = absurd (cc)

all_unmapped : {X Y : Type 0} (P : Y → Type 0) (f : X → Y) (xs : List X) → All P (map f xs) →
    All (λ x. P (f x)) xs
all_unmapped P f [] a = All-nil (λ x. P (f x))
all_unmapped P f (x ∷ xs) a =
    All-cons (λ y. P (f y)) x xs (All-head P (f x) (map f xs) a)
    (all_unmapped P f xs (All-tail P (f x) (map f xs) a))

all_so : {X : Type 0} (P Q : X → Type 0) (xs : List X) → ((x : X) → P x → Q x) → All P xs → All Q xs
all_so P Q [] f a = All-nil Q
all_so P Q (x ∷ xs) f a =
    All-cons Q x xs (f x (All-head P x xs a)) (all_so P Q xs f (All-tail P x xs a))

-- the batch of a job, or this one
abbrev batch_or : Batch → Job → Batch
batch_or d (Host h) = d
batch_or d (BatchJob b) = b

-- the step of a job, or this one
abbrev step_or : HostStep → Job → HostStep
step_or d (Host h) = h.step
step_or d (BatchJob b) = d

-- Valid scripts

same_sizes : (bs : List Buffer) → map (λ b. b.size) (map buffer_without_line bs)
    ≡ map (λ b. b.size) bs
same_sizes [] = refl
same_sizes (b ∷ bs) = ap (λ (zs : List ℕ). b.size ∷ zs) (same_sizes bs)

batch_without : (job : Job) → batch_commands (job_without_lines job)
    ≡ map command_without_line (batch_commands job)
batch_without (Host h) = refl
batch_without (BatchJob b) = refl

same_counts : (jobs : List Job) → map commands_in (map job_without_lines jobs)
    ≡ map commands_in jobs
same_counts [] = refl
same_counts (Host h ∷ jobs) = ap (λ (zs : List ℕ). 0 ∷ zs) (same_counts jobs)
same_counts (BatchJob b ∷ jobs) =
    ap (λ (n : ℕ). n ∷ map commands_in (map job_without_lines jobs))
    (length-map b.commands command_without_line)
    ∙ ap (λ (zs : List ℕ). length b.commands ∷ zs) (same_counts jobs)

same_length : {X Y : Type 0} (f : X → Y) (xs ys : List X) → map f xs ≡ map f ys →
    length xs ≡ length ys
same_length f xs ys e = sym (length-map xs f) ∙ (ap length e ∙ length-map ys f)

same_fits : (sizes : List ℕ) (x y : CommandLine) → command_without_line x ≡ command_without_line y →
    Fits sizes x.command → Fits sizes y.command
same_fits sizes x y e f = subst (λ (z : CommandLine). Fits sizes z.command) e f

module _ (a s : Script) (same : SameButLines a s) where
  version_same : a.version ≡ s.version
  version_same = ap (λ (z : Script). z.version) same

  -- what keeps a limit of the one version keeps it of the other
  within : (limit : Limits → ℕ) (n : ℕ) → n ≤ limit (limits_of a.version) →
      n ≤ limit (limits_of s.version)
  within limit n l = subst (λ (v : ℕ). n ≤ limit (limits_of v)) version_same l

  sizes : sizes_of a ≡ sizes_of s
  sizes = sym (same_sizes a.buffers) ∙ (ap sizes_of same ∙ same_sizes s.buffers)

  limits : KeepsLimits a → KeepsLimits s
  limits k =
      let b = k.buffers in
      let c = k.semaphores in
      let d = k.queues in
      let e = k.jobs in
      let lb = same_length buffer_without_line a.buffers s.buffers
      (ap (λ (z : Script). z.buffers) same) in
      let lc = same_length semaphore_without_line a.semaphores s.semaphores
      (ap (λ (z : Script). z.semaphores) same) in
      let ld = same_length queue_without_line a.queues s.queues
      (ap (λ (z : Script). z.queues) same) in
      let le = same_length job_without_lines a.jobs s.jobs (ap (λ (z : Script). z.jobs) same) in
      let counts : map commands_in a.jobs ≡ map commands_in s.jobs = sym (same_counts a.jobs)
      ∙ (ap (λ (z : Script). map commands_in z.jobs) same ∙ same_counts s.jobs) in
      record {
        buffers = within (λ l. l.buffers) (length s.buffers) (omega arith);
        bytes = subst (λ (zs : List ℕ). sum zs ≤ (limits_of s.version).bytes) sizes
            (within (λ l. l.bytes) (sum (sizes_of a)) k.bytes);
        semaphores = within (λ l. l.semaphores) (length s.semaphores) (omega arith);
        queues = within (λ l. l.queues) (length s.queues) (omega arith);
        jobs = within (λ l. l.jobs) (length s.jobs) (omega arith);
        commands = subst (λ (zs : List ℕ). sum zs ≤ (limits_of s.version).commands) counts
            (within (λ l. l.commands) (sum (map commands_in a.jobs)) k.commands);
      }

  -- the job of the first script at a place of the second
  record SameJob (j : ℕ) (job : Job) : Type 0 where
    first : Job
    at : slice_get a.jobs j ≡ Some first
    alike : job_without_lines first ≡ job_without_lines job

  job_same : (j : ℕ) (job : Job) → slice_get s.jobs j ≡ Some job → SameJob j job
  job_same j job e =
      let without : slice_get (map job_without_lines s.jobs) j ≡ Some (job_without_lines job) =
      get-map job_without_lines s.jobs j ∙ ap (option_map job_without_lines) e in
      let of_a : slice_get (map job_without_lines a.jobs) j ≡ Some (job_without_lines job) =
      ap (λ (z : Script). slice_get z.jobs j) same ∙ without in
      let y = some_of job_without_lines (slice_get a.jobs j) (job_without_lines job)
      (sym (get-map job_without_lines a.jobs j) ∙ of_a) in
      record { first = y.0; at = y.1; alike = y.2 }

  commands : IsValid a → (j k : ℕ) (job : Job) (x : CommandLine) → slice_get s.jobs j ≡ Some job →
      slice_get (batch_commands job) k ≡ Some x → Fits (sizes_of s) x.command
  commands v j k job x e f =
      let y = job_same j job e in
      let lines : map command_without_line (batch_commands y.first)
      ≡ map command_without_line (batch_commands job) =
      sym (batch_without y.first) ∙ (ap batch_commands y.alike ∙ batch_without job) in
      let of_x : slice_get (map command_without_line (batch_commands y.first)) k
      ≡ Some (command_without_line x) =
      ap (λ (zs : List CommandLine). slice_get zs k) lines
      ∙ (get-map command_without_line (batch_commands job) k
      ∙ ap (option_map command_without_line) f) in
      let z = some_of command_without_line (slice_get (batch_commands y.first) k)
      (command_without_line x) (sym (get-map command_without_line (batch_commands y.first) k)
      ∙ of_x) in
      subst (λ (ns : List ℕ). Fits ns x.command) sizes
      (same_fits (sizes_of a) z.0 x z.2 (v.commands j k y.first z.0 y.at z.1))

  -- What they declare is the same.
  kinds_same : (t : ℕ) → kind_of a t ≡ kind_of s t
  kinds_same t = by_lists a s same
    where
      without : (x : Script) → kind_of x t
          ≡ option_map (λ y. y.kind) (slice_get (map semaphore_without_line x.semaphores) t)
      without x =
          by_item (slice_get x.semaphores t)
          ∙ ap (option_map (λ y. y.kind)) (sym (get-map semaphore_without_line x.semaphores t))
        where
          by_item : (o : Option Semaphore) → option_map (λ y. y.kind) o
              ≡ option_map (λ y. y.kind) (option_map semaphore_without_line o)
          by_item None = refl
          by_item (Some y) = refl

      by_lists : (a s : Script) → SameButLines a s → kind_of a t ≡ kind_of s t
      by_lists a s same =
          without a
          ∙ (ap (λ (z : Script). option_map (λ y. y.kind) (slice_get z.semaphores t)) same
          ∙ sym (without s))

  queue_same : (test : Mode → Bool) (q : ℕ) →
      option_map_or (λ x. test x.mode) (slice_get a.queues q) false
      ≡ option_map_or (λ x. test x.mode) (slice_get s.queues q) false
  queue_same test q =
      without a
      ∙ (ap (λ (z : Script). option_map_or (λ y. test y.mode) (slice_get z.queues q) false)
      same
      ∙ sym (without s))
    where
      without : (x : Script) → option_map_or (λ y. test y.mode) (slice_get x.queues q) false
          ≡ option_map_or (λ y. test y.mode) (slice_get (map queue_without_line x.queues) q) false
      without x =
          by_item (slice_get x.queues q)
          ∙ ap (λ (o : Option Queue). option_map_or (λ y. test y.mode) o false)
          (sym (get-map queue_without_line x.queues q))
        where
          by_item : (o : Option Queue) → option_map_or (λ y. test y.mode) o false
              ≡ option_map_or (λ y. test y.mode) (option_map queue_without_line o) false
          by_item None = refl
          by_item (Some y) = refl

  modes_same : (q : ℕ) → is_immediate_queue a q ≡ is_immediate_queue s q
  modes_same q = queue_same is_immediate q

  semaphores_same : length a.semaphores ≡ length s.semaphores
  semaphores_same =
      same_length semaphore_without_line a.semaphores s.semaphores
      (ap (λ (z : Script). z.semaphores) same)

  queues_same : length a.queues ≡ length s.queues
  queues_same =
      same_length queue_without_line a.queues s.queues (ap (λ (z : Script). z.queues) same)

  mark_same : (m : Mark) → IsValidMark a m → IsValidMark s (mark_without_line m)
  mark_same m v =
      let k = kinds_same m.semaphore in
      let l = v.exists in
      let n = semaphores_same in
      record {
        exists = omega arith;
        kind =
            ap (λ (o : Option SemaphoreKind). option_map_or is_fence o false) (sym k) ∙ v.kind;
        valueless =
            λ h. v.valueless
            (ap (λ (o : Option SemaphoreKind). option_map_or is_timeline o false) k ∙ h);
      }

  mark_with : (m : Mark) → IsValidMark s (mark_without_line m) → IsValidMark s m
  mark_with m v = record { exists = v.exists; kind = v.kind; valueless = v.valueless }

  fence_same : (m : Mark) → IsValidFence a m → IsValidFence s (mark_without_line m)
  fence_same m v =
      let k = kinds_same m.semaphore in
      let l = v.exists in
      let n = semaphores_same in
      record {
        exists = omega arith;
        kind =
            ap (λ (o : Option SemaphoreKind). option_map_or is_fence o false) (sym k) ∙ v.kind;
        valueless = v.valueless;
      }

  -- marks that are the same but for their lines
  marks_same : (P Q : Mark → Type 0) → ((m : Mark) → P m → Q (mark_without_line m)) →
      ((m : Mark) → Q (mark_without_line m) → Q m) → (xs ys : List Mark) →
      map mark_without_line xs ≡ map mark_without_line ys → All P xs → All Q ys
  marks_same P Q without with_line xs ys e v =
      all_so (λ m. Q (mark_without_line m)) Q ys with_line
      (all_unmapped Q mark_without_line ys
      (subst (All Q) e
      (All-map Q mark_without_line xs
      (all_so P (λ m. Q (mark_without_line m)) xs without v))))

  -- .. hold back the same commands
  held_same : (m : Mark) → HoldsBack a m → HoldsBack s (mark_without_line m)
  held_same m h = record { counted = h.counted; whole = λ v. h.whole (version_same ∙ v) }

  held_with : (m : Mark) → HoldsBack s (mark_without_line m) → HoldsBack s m
  held_with m h = record { counted = h.counted; whole = h.whole }

  -- a fence that is the same but for its line
  fences_same : (o : Option Mark) (m : Mark) → option_map mark_without_line o
      ≡ Some (mark_without_line m) →
      ((x : Mark) → o ≡ Some x → IsValidFence a x) → IsValidFence s m
  fences_same None m e v = absurd (let c : None ≡ Some (mark_without_line m) = e in cc)
  fences_same (Some x) m e v =
      let same : mark_without_line x ≡ mark_without_line m = cc in
      let f = subst (IsValidFence s) same (fence_same x (v x refl)) in
      record { exists = f.exists; kind = f.kind; valueless = f.valueless }

  batch_same : (b c : Batch) → job_without_lines (BatchJob c) ≡ job_without_lines (BatchJob b) →
      IsValidBatch a c → IsValidBatch s b
  batch_same b c e v =
      let q : c.queue ≡ b.queue = ap (λ (j : Job). (batch_or b j).queue) e in
      let w : map mark_without_line c.waits ≡ map mark_without_line b.waits =
      ap (λ (j : Job). (batch_or b j).waits) e in
      let g : map mark_without_line c.signals ≡ map mark_without_line b.signals =
      ap (λ (j : Job). (batch_or b j).signals) e in
      let f : option_map mark_without_line c.fence ≡ option_map mark_without_line b.fence =
      ap (λ (j : Job). (batch_or b j).fence) e in
      let lw = same_length mark_without_line c.waits b.waits w in
      let lg = same_length mark_without_line c.signals b.signals g in
      let vq = v.queue in
      let vw = v.few_waits in
      let vg = v.few_signals in
      let n = queues_same in
      record {
        queue = omega arith;
        waits =
            marks_same (IsValidMark a) (IsValidMark s) mark_same mark_with c.waits b.waits w v.waits;
        held = marks_same (HoldsBack a) (HoldsBack s) held_same held_with c.waits b.waits w v.held;
        signals =
            marks_same (IsValidMark a) (IsValidMark s) mark_same mark_with c.signals b.signals g
            v.signals;
        fence =
            λ m h. fences_same c.fence m (f ∙ ap (option_map mark_without_line) h) v.fence;
        few_waits = within (λ l. l.waits) (length b.waits) (omega arith);
        few_signals = within (λ l. l.signals) (length b.signals) (omega arith);
      }

  pub same_batches : HasValidBatches a → HasValidBatches s
  same_batches v j b e = let y = job_same j (BatchJob b) e in by_job y.first y.at y.alike
    where
      by_job : (y : Job) → slice_get a.jobs j ≡ Some y →
          job_without_lines y ≡ job_without_lines (BatchJob b) → IsValidBatch s b
      by_job (Host h) i f = absurd (cc)
      by_job (BatchJob c) i f = batch_same b c f (v j c i)

  -- host steps
  timelines_same : (t : ℕ) → is_timeline_at a t ≡ is_timeline_at s t
  timelines_same t =
      ap (λ (o : Option SemaphoreKind). option_map_or is_timeline o false) (kinds_same t)

  fences_at_same : (t : ℕ) → is_fence_at a t ≡ is_fence_at s t
  fences_at_same t = ap (λ (o : Option SemaphoreKind). option_map_or is_fence o false) (kinds_same t)

  pairs_same : (pairs : List Pair) → All (IsTimelinePair a) pairs → All (IsTimelinePair s) pairs
  pairs_same pairs v =
      all_so (IsTimelinePair a) (IsTimelinePair s) pairs
      (λ x h. sym (timelines_same x.semaphore) ∙ h) v

  step_same : (t : HostStep) → IsValidStep a t → IsValidStep s t
  step_same (Signal pair) v = sym (timelines_same pair.semaphore) ∙ v
  step_same (WaitAll pairs) v = pairs_same pairs v
  step_same (WaitAny pairs) v = pairs_same pairs v
  step_same (PollAll pairs) v = pairs_same pairs v
  step_same (PollAny pairs) v = pairs_same pairs v
  step_same (Read t) v = sym (timelines_same t) ∙ v
  step_same (FenceWait f) v = sym (fences_at_same f) ∙ v
  step_same (FencePoll f) v = sym (fences_at_same f) ∙ v
  step_same (FenceReset f) v = sym (fences_at_same f) ∙ v
  step_same Idle v = tt

  pub same_steps : HasValidSteps a → HasValidSteps s
  same_steps v j h e = let y = job_same j (Host h) e in by_job y.first y.at y.alike
    where
      by_job : (y : Job) → slice_get a.jobs j ≡ Some y →
          job_without_lines y ≡ job_without_lines (Host h) → IsValidStep s h.step
      by_job (Host x) i f =
          let step : x.step ≡ h.step = ap (step_or Idle) f in
          subst (IsValidStep s) step (step_same x.step (v j x i))
      by_job (BatchJob c) i f = absurd (cc)

  actor_same : (x : ActorName) → IsActor a x → IsActor s x
  actor_same HostActor h = tt
  actor_same (SubmitActor q) h = sym (queue_same is_threaded q) ∙ h
  actor_same (RingActor q) h =
      let n = queues_same in omega arith

  pub same_turns : HasValidTurns a → HasValidTurns s
  same_turns v =
      let turns : map turn_without_line a.turns ≡ map turn_without_line s.turns =
      ap (λ (z : Script). z.turns) same in
      let one = length-map a.turns turn_without_line in
      let two = length-map s.turns turn_without_line in
      let both = ap length turns in
      let few = v.few in
      record {
        actors = all_unmapped (λ (t : Turn). IsActor s t.actor) turn_without_line s.turns
            (subst (All (λ (t : Turn). IsActor s t.actor)) turns
            (All-map (λ (t : Turn). IsActor s t.actor) turn_without_line a.turns
            (all_so (λ (t : Turn). IsActor a t.actor) (λ (t : Turn). IsActor s t.actor) a.turns
            (λ t h. actor_same t.actor h) v.actors)));
        few = within (λ l. l.turns) (length s.turns) (omega arith);
        none = λ h. map_empty turn_without_line s.turns
            (sym turns ∙ ap (map turn_without_line)
            (v.none (ap (λ (z : Script). z.scheduled) same ∙ h)));
      }

  -- Of scripts that are the same up to line numbers one is valid where the other is.
  pub same_valid : HasValidBatches a → HasValidSteps a → IsValid a → IsValid s
  same_valid b w v =
      record {
        version = subst (λ (n : ℕ). (n ≡ 1) ⊎ (n ≡ 2)) version_same v.version;
        signals = valid_signals s (same_batches b) (same_steps w);
        commands = commands v;
        limits = limits v.limits;
      }
