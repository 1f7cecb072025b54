-- Scripts of what is declared keep what a script keeps.
use Rattle.std.proofs.Common.{◌≡◌, ℕ, Bool, zero, suc, List, [], ◌∷◌, Some, None, subst, ◌<◌, true, false, length, map, Option, sym, ap, ◌∙◌, arith, ◌+◌, ◌++◌, refl}
use Rattle.std.specs.List.{slice_get, AllByRecursion as Every, flat_map, enumerate_from}
use Rattle.vq_ground.proofs.Every.{every_weaker, every_append}
use Rattle.vq_model.specs.declared.script.Batch.{Batch}
use Rattle.vq_model.specs.declared.script.Job.{Job}
use Rattle.vq_model.specs.declared.script.Job.TheVariants.{Host, Batch as BatchJob}
use Rattle.vq_reading_laws.proofs.Standing.{Declarations}
use Rattle.vq_reading_laws.proofs.KeptBatches.{KeepsJob, KeepJobs, of_every, pair_of, IsWaitOf, IsSignalOf, IsFenceOf, every_map}
use Rattle.std.specs.Option.{option_map, option_map_or, option_to_list}
use Rattle.std.proofs.lemmas.List.{length-map}
use Rattle.std.proofs.lemmas.Bool.{false≢true}
use Rattle.vq_model.specs.declared.script.Script.{Script}
use Rattle.vq_model.specs.declared.script.Semaphore.{Semaphore}
use Rattle.vq_model.specs.declared.script.SemaphoreKind.{SemaphoreKind}
use Rattle.vq_model.specs.declared.script.SemaphoreKind.TheVariants.{Fence}
use Rattle.vq_model.specs.declared.script.Queue.{Queue}
use Rattle.vq_model.specs.declared.script.Mode.{Mode}
use Rattle.vq_model.specs.declared.script.Mark.{Mark}
use Rattle.vq_model.specs.declared.script.HostLine.{HostLine}
use Rattle.vq_model.specs.declared.script.HostStep.{HostStep}
use Rattle.vq_model.specs.declared.script.HostStep.TheVariants.{Signal, WaitAll, WaitAny, PollAll, PollAny, Read, FenceWait, FencePoll, FenceReset, Idle}
use Rattle.vq_model.specs.declared.script.Pair.{Pair}
use Rattle.vq_reading_laws.proofs.NamedSemaphores.{IsOfKind, IsPairOf, IsStepOf}
use Rattle.vq_model.specs.declared.script.Turn.{Turn}
use Rattle.vq_model.specs.declared.script.ActorName.{ActorName}
use Rattle.vq_model.specs.declared.script.ActorName.TheVariants.{Host as HostActor, Submit as SubmitActor, Ring as RingActor}
use Rattle.vq_model.specs.declared.script.Mode.TheVariants.{Threaded}
use Rattle.vq_model.specs.Context.{is_fence, is_timeline, is_threaded}
use Rattle.vq_reading_laws.proofs.KeptTurns.{IsTurnOf}
use Rattle.vq_model.specs.ScriptOfLines.{first_of_list}
use Rattle.vq_model.specs.Signals.{kind_of, Signaling, all_signals, job_signals, step_signals, of_mark}
use Rattle.vq_model.specs.ValidScripts.{IsValidMark, IsValidFence, HoldsBack, IsValidBatch, IsValidStep, IsTimelinePair, IsActor, HasValidBatches, HasValidSteps}
use Rattle.vq_ground.proofs.Gets.{get-map, get_within}
use Rattle.vq_reading_laws.proofs.LineFacts.{IsMarkOf, IsActorOf}
use Rattle.std.specs.Prelude.{All}
use Rattle.std.proofs.lemmas.List.Elements.{All-head, All-tail}

-- Scripts of what is declared

-- the job at a place
pub job_kept : (d : Declarations) (jobs : List Job) (j : ℕ) (b : Batch) → KeepJobs d jobs →
    slice_get jobs j ≡ Some (BatchJob b) → KeepsJob d b
job_kept d [] j b k e = absurd (let c : None ≡ Some (BatchJob b) = e in cc)
job_kept d (Host h ∷ jobs) zero b k e = absurd (cc)
job_kept d (Host h ∷ jobs) (suc j) b k e = job_kept d jobs j b k.1 e
job_kept d (BatchJob c ∷ jobs) zero b k e = let same : c ≡ b = cc in subst (KeepsJob d) same k.0
job_kept d (BatchJob c ∷ jobs) (suc j) b k e = job_kept d jobs j b k.1 e

pub step_kept : (d : Declarations) (jobs : List Job) (j : ℕ) (h : HostLine) → KeepJobs d jobs →
    slice_get jobs j ≡ Some (Host h) → IsStepOf d.kinds h.step
step_kept d [] j h k e = absurd (let c : None ≡ Some (Host h) = e in cc)
step_kept d (Host x ∷ jobs) zero h k e =
    let same : x ≡ h = cc in subst (λ (y : HostLine). IsStepOf d.kinds y.step) same k.0
step_kept d (Host x ∷ jobs) (suc j) h k e = step_kept d jobs j h k.1 e
step_kept d (BatchJob c ∷ jobs) zero h k e = absurd (cc)
step_kept d (BatchJob c ∷ jobs) (suc j) h k e = step_kept d jobs j h k.1 e

pub all_at : {X : Type 0} (P : X → Type 0) (xs : List X) (k : ℕ) (x : X) → Every P xs →
    slice_get xs k ≡ Some x → P x
all_at P [] k x a e = absurd (let c : None ≡ Some x = e in cc)
all_at {X} P (y ∷ xs) zero x a e = let same : y ≡ x = cc in subst P same a.0
all_at P (y ∷ xs) (suc k) x a e = all_at P xs k x a.1 e

module _ (s : Script) where
  -- what the script declares
  abbrev declared_in : Declarations
  declared_in =
      record {
        version = s.version;
        sizes = map (λ b. b.size) s.buffers;
        kinds = map (λ x. x.kind) s.semaphores;
        modes = map (λ q. q.mode) s.queues;
      }

  kind_here : (t : ℕ) (kind : SemaphoreKind) → slice_get declared_in.kinds t ≡ Some kind →
      kind_of s t ≡ Some kind
  kind_here t kind e = sym (get-map (λ (x : Semaphore). x.kind) s.semaphores t) ∙ e

  exists_here : (t : ℕ) (kind : SemaphoreKind) → slice_get declared_in.kinds t ≡ Some kind →
      t < length s.semaphores
  exists_here t kind e =
      let l = get_within declared_in.kinds t kind e in
      let n = length-map s.semaphores (λ (x : Semaphore). x.kind) in
      omega arith

  valid_mark : (m : Mark) → IsMarkOf declared_in.kinds (pair_of m) → IsValidMark s m
  valid_mark m k =
      let e = kind_here m.semaphore k.kind k.is in
      record {
        exists = exists_here m.semaphore k.kind k.is;
        kind = ap (λ (o : Option SemaphoreKind). option_map_or is_fence o false) e ∙ k.no_fence;
        valueless =
            λ h. k.valueless
            (sym (ap (λ (o : Option SemaphoreKind). option_map_or is_timeline o false) e) ∙ h);
      }

  valid_fence : (m : Mark) → IsFenceOf declared_in m → IsValidFence s m
  valid_fence m k =
      let e = kind_here m.semaphore Fence k.0 in
      record {
        exists = exists_here m.semaphore Fence k.0;
        kind = ap (λ (o : Option SemaphoreKind). option_map_or is_fence o false) e;
        valueless = k.1;
      }

  first_valid : (fences : List Mark) (m : Mark) → Every (IsFenceOf declared_in) fences →
      first_of_list fences ≡ Some m → IsValidFence s m
  first_valid [] m a e = absurd (let c : None ≡ Some m = e in cc)
  first_valid (x ∷ xs) m a e =
      let same : x ≡ m = cc in subst (IsValidFence s) same (valid_fence x a.0)

  pub valid_batch : (b : Batch) → KeepsJob declared_in b → IsValidBatch s b
  valid_batch b k =
      let p = k.parts in
      let q = k.queue in
      let n = length-map s.queues (λ (x : Queue). x.mode) in
      let w = p.few_waits in
      let g = p.few_signals in
      record {
        queue = omega arith;
        waits =
            of_every (IsValidMark s) b.waits
            (every_weaker (IsWaitOf declared_in) (IsValidMark s) b.waits (λ m h. valid_mark m h.mark)
            p.waits_of);
        held =
            of_every (HoldsBack s) b.waits
            (every_weaker (IsWaitOf declared_in) (HoldsBack s) b.waits
            (λ m h. record { counted = h.counted; whole = h.whole }) p.waits_of);
        signals =
            of_every (IsValidMark s) b.signals
            (every_weaker (IsSignalOf declared_in) (IsValidMark s) b.signals valid_mark
            p.signals_of);
        fence = λ m e. first_valid k.fences m p.fences_of (sym k.first ∙ e);
        few_waits = omega arith;
        few_signals = omega arith;
      }

  -- a step of the host names timelines and fences
  kind_named : (test : SemaphoreKind → Bool) (t : ℕ) → IsOfKind test declared_in.kinds t →
      option_map_or test (kind_of s t) false ≡ true
  kind_named test t k =
      ap (λ (o : Option SemaphoreKind). option_map_or test o false) (kind_here t k.kind k.is)
      ∙ k.tested

  valid_pairs : (pairs : List Pair) → Every (IsPairOf declared_in.kinds) pairs →
      All (IsTimelinePair s) pairs
  valid_pairs pairs a =
      of_every (IsTimelinePair s) pairs
      (every_weaker (IsPairOf declared_in.kinds) (IsTimelinePair s) pairs
      (λ pair h. kind_named is_timeline pair.semaphore h) a)

  pub valid_step : (step : HostStep) → IsStepOf declared_in.kinds step → IsValidStep s step
  valid_step (Signal pair) h = kind_named is_timeline pair.semaphore h
  valid_step (WaitAll pairs) h = valid_pairs pairs h
  valid_step (WaitAny pairs) h = valid_pairs pairs h
  valid_step (PollAll pairs) h = valid_pairs pairs h
  valid_step (PollAny pairs) h = valid_pairs pairs h
  valid_step (Read t) h = kind_named is_timeline t h
  valid_step (FenceWait f) h = kind_named is_fence f h
  valid_step (FencePoll f) h = kind_named is_fence f h
  valid_step (FenceReset f) h = kind_named is_fence f h
  valid_step Idle h = tt

  -- the actors of turns
  valid_actor : (a : ActorName) → IsActorOf declared_in.modes a → IsActor s a
  valid_actor HostActor h = tt
  valid_actor (SubmitActor q) h =
      by_queue (slice_get s.queues q) (sym (get-map (λ (x : Queue). x.mode) s.queues q) ∙ h)
    where
      by_queue : (o : Option Queue) → option_map (λ (x : Queue). x.mode) o ≡ Some Threaded →
          option_map_or (λ x. is_threaded x.mode) o false ≡ true
      by_queue None e = absurd (let c : None ≡ Some Threaded = e in cc)
      by_queue (Some x) e =
          let same : Threaded ≡ x.mode = cc in
          subst (λ (m : Mode). is_threaded m ≡ true) same refl
  valid_actor (RingActor q) h =
      let n = length-map s.queues (λ (x : Queue). x.mode) in omega arith

  pub valid_turns : (turns : List Turn) → Every (IsTurnOf declared_in) turns →
      All (λ t. IsActor s t.actor) turns
  valid_turns turns a =
      of_every (λ (t : Turn). IsActor s t.actor) turns
      (every_weaker (IsTurnOf declared_in) (λ (t : Turn). IsActor s t.actor) turns
      (λ t h. valid_actor t.actor h) a)

-- The signals of valid batches and of valid host steps name semaphores that exist.
module _ (s : Script) where
  abbrev Exists : Signaling → Type 0
  Exists x = x.semaphore < length s.semaphores

  marks_exist : (ms : List Mark) → All (IsValidMark s) ms →
      Every (λ m. m.semaphore < length s.semaphores) ms
  marks_exist [] a = tt
  marks_exist (m ∷ ms) a =
      ((All-head (IsValidMark s) m ms a).exists, marks_exist ms (All-tail (IsValidMark s) m ms a))

  fence_exists : (o : Option Mark) → ((m : Mark) → o ≡ Some m → IsValidFence s m) →
      Every (λ m. m.semaphore < length s.semaphores) (option_to_list o)
  fence_exists None f = tt
  fence_exists (Some m) f = ((f m refl).exists, tt)

  job_signals_exist : (n : ℕ) (b : Batch) → IsValidBatch s b →
      Every Exists (job_signals (n, BatchJob b))
  job_signals_exist n b v =
      every_map Exists (of_mark n) (b.signals ++ option_to_list b.fence)
      (every_append (λ m. m.semaphore < length s.semaphores) b.signals (option_to_list b.fence)
      (marks_exist b.signals v.signals) (fence_exists b.fence v.fence))

  pub kind_exists : (test : SemaphoreKind → Bool) (t : ℕ) →
      option_map_or test (kind_of s t) false ≡ true → t < length s.semaphores
  kind_exists test t h = by_get (slice_get s.semaphores t) refl h
    where
      by_get : (o : Option Semaphore) → slice_get s.semaphores t ≡ o →
          option_map_or test (option_map (λ x. x.kind) o) false ≡ true → t < length s.semaphores
      by_get None e h = absurd (false≢true h)
      by_get (Some x) e h = get_within s.semaphores t x e

  step_signals_exist : (n line : ℕ) (t : HostStep) → IsValidStep s t →
      Every Exists (step_signals n line t)
  step_signals_exist n line (Signal pair) h = (kind_exists is_timeline pair.semaphore h, tt)
  step_signals_exist n line other h = tt

  signals_exist : (n : ℕ) (jobs : List Job) →
      ((j : ℕ) (b : Batch) → slice_get jobs j ≡ Some (BatchJob b) → IsValidBatch s b) →
      ((j : ℕ) (h : HostLine) → slice_get jobs j ≡ Some (Host h) → IsValidStep s h.step) →
      Every Exists (flat_map job_signals (enumerate_from n jobs))
  signals_exist n [] v w = tt
  signals_exist n (Host h ∷ jobs) v w =
      every_append Exists (job_signals (n, Host h))
      (flat_map job_signals (enumerate_from (n + 1) jobs))
      (step_signals_exist n h.line h.step (w 0 h refl))
      (signals_exist (n + 1) jobs (λ j c e. v (suc j) c e) (λ j c e. w (suc j) c e))
  signals_exist n (BatchJob b ∷ jobs) v w =
      every_append Exists (job_signals (n, BatchJob b))
      (flat_map job_signals (enumerate_from (n + 1) jobs)) (job_signals_exist n b (v 0 b refl))
      (signals_exist (n + 1) jobs (λ j c e. v (suc j) c e) (λ j c e. w (suc j) c e))

  pub valid_signals : HasValidBatches s → HasValidSteps s → (e : ℕ) (x : Signaling) →
      slice_get (all_signals s) e ≡ Some x → x.semaphore < length s.semaphores
  valid_signals v w e x h = all_at Exists (all_signals s) e x (signals_exist 0 s.jobs v w) h
