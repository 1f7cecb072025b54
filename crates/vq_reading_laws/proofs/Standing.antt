-- Lines that stand where they may, by what all lines declare.
use Rattle.std.proofs.Common.{ℕ, Bool, List, ◌≡◌, ◌++◌, zero, suc, ◌<◌, [], ◌∷◌, length, refl, arith, length-append, sym, subst, append-nil, append_assoc, Some, None, ◌+◌, fold, ◌≤◌, ap, ◌∙◌}
use Rattle.vq_model.specs.declared.script.SemaphoreKind.{SemaphoreKind}
use Rattle.vq_model.specs.declared.script.Mode.{Mode}
use Rattle.vq_model.specs.declared.statement.Line.{Line}
use Rattle.vq_reading_laws.proofs.CommandRanges.{sizes_before}
use Rattle.vq_reading_laws.proofs.LineFacts.{modes_before, IsMarkOf, IsActorOf}
use Rattle.vq_reading_laws.proofs.NamedSemaphores.{kinds_before, IsOfKind, IsPairOf, IsStepOf}
use Rattle.std.specs.List.{slice_index_or, slice_get, AllByRecursion as Every}
use Rattle.vq_model.specs.FittingCommands.{IsWithin, Fits}
use Rattle.vq_model.specs.Ranges.{fill_size}
use Rattle.vq_model.specs.declared.script.Command.{Command}
use Rattle.vq_model.specs.declared.script.Command.TheVariants.{Fill, Update, Copy}
use Rattle.vq_model.specs.declared.script.FillSize.TheVariants.{Whole, Count}
use Rattle.vq_model.specs.declared.statement.Statement.{Statement}
use Rattle.vq_model.specs.declared.statement.Statement.TheVariants.{HasVersion, BeginBatch, AddWait, AddCommand, AddSignal, AddFence, EndBatch, DeclareBuffer, DeclareSemaphore, DeclareQueue, BeginSchedule, TakeTurns, TakeHostStep}
use Rattle.vq_model.specs.declared.script.HostStep.{HostStep}
use Rattle.vq_model.specs.declared.script.HostStep.TheVariants.{Signal, WaitAll, WaitAny, PollAll, PollAny, Read, FenceWait, FencePoll, FenceReset, Idle}
use Rattle.vq_model.specs.Context.{is_timeline, is_fence, version_of}
use Rattle.vq_model.specs.Limits.{limits_of}
use Rattle.vq_model.specs.declared.script.Pair.{Pair}
use Rattle.vq_model.specs.declared.script.SemaphoreKind.TheVariants.{Fence}
use Rattle.vq_model.specs.declared.script.ActorName.{ActorName}
use Rattle.vq_model.specs.declared.script.ActorName.TheVariants.{Host as HostActor, Submit as SubmitActor, Ring as RingActor}
use Rattle.vq_model.specs.declared.script.Mode.TheVariants.{Threaded}
use Rattle.vq_model.specs.Reading.{with_line}
use Rattle.std.proofs.lemmas.List.Sums.{fold-append}

-- What lines declare: their version, the sizes of buffers, the kinds of semaphores, the modes of queues.
pub record Declarations : Type 0 where
  pub version : ℕ
  pub sizes : List ℕ
  pub kinds : List SemaphoreKind
  pub modes : List Mode

abbrev pub declared_by : List Line → Declarations
declared_by lines =
    record {
      version = version_of lines;
      sizes = sizes_before lines;
      kinds = kinds_before lines;
      modes = modes_before lines;
    }

-- These declare what those do, and more. What is of the first version was so before.
pub record Grows (d e : Declarations) : Type 0 where
  pub first : e.version ≡ 1 → d.version ≡ 1
  pub more_sizes : List ℕ
  pub sizes_are : e.sizes ≡ d.sizes ++ more_sizes
  pub more_kinds : List SemaphoreKind
  pub kinds_are : e.kinds ≡ d.kinds ++ more_kinds
  pub more_modes : List Mode
  pub modes_are : e.modes ≡ d.modes ++ more_modes

-- Commands fit as well where more buffers are declared

same_size : (sizes : List ℕ) (n b : ℕ) → b < length sizes → slice_index_or (sizes ++ n ∷ []) b 0
    ≡ slice_index_or sizes b 0
same_size [] n b l = absurd (omega arith)
same_size (x ∷ sizes) n zero l = refl
same_size (x ∷ sizes) n (suc b) l = same_size sizes n b (omega arith)

within_more : (sizes : List ℕ) (n b o m : ℕ) →
    IsWithin sizes (record { buffer = b; start = o; size = m }) →
    IsWithin (sizes ++ n ∷ []) (record { buffer = b; start = o; size = m })
within_more sizes n b o m w =
    let l = w.exists in
    let e = w.ends in
    let s = same_size sizes n b l in
    let c = length-append sizes (n ∷ []) in
    record { exists = omega arith; ends = omega arith }

fits_more : (sizes : List ℕ) (n : ℕ) (c : Command) → Fits sizes c → Fits (sizes ++ n ∷ []) c
fits_more sizes n (Fill b o Whole w) f =
    let s = same_size sizes n b f.written.exists in
    record {
      written =
          subst (λ (k : ℕ). IsWithin (sizes ++ n ∷ [])
          (record { buffer = b; start = o; size = fill_size Whole o k })) (sym s)
          (within_more sizes n b o (fill_size Whole o (slice_index_or sizes b 0))
          f.written);
      read = tt;
      aligned = f.aligned;
      apart = refl;
    }
fits_more sizes n (Fill b o (Count m) w) f =
    record {
      written = within_more sizes n b o m f.written;
      read = tt;
      aligned = f.aligned;
      apart =
          refl;
    }
fits_more sizes n (Update b o bytes) f =
    record {
      written = within_more sizes n b o (length bytes) f.written;
      read = tt;
      aligned =
          f.aligned;
      apart = refl;
    }
fits_more sizes n (Copy s so t to m) f =
    record {
      written = within_more sizes n t to m f.written;
      read =
          within_more sizes n s so m f.read;
      aligned = refl;
      apart = f.apart;
    }

fits_appended : (more sizes : List ℕ) (c : Command) → Fits sizes c → Fits (sizes ++ more) c
fits_appended [] sizes c f = subst (λ (ns : List ℕ). Fits ns c) (sym (append-nil sizes)) f
fits_appended (n ∷ more) sizes c f =
    subst (λ (ns : List ℕ). Fits ns c) (append_assoc sizes (n ∷ []) more)
    (fits_appended more (sizes ++ n ∷ []) c (fits_more sizes n c f))

-- what stands in a list stands in a longer one
get_longer : {X : Type 0} (xs ys : List X) (k : ℕ) (x : X) → slice_get xs k ≡ Some x →
    slice_get (xs ++ ys) k ≡ Some x
get_longer [] ys k x e = absurd (let c : None ≡ Some x = e in cc)
get_longer (y ∷ xs) ys zero x e = e
get_longer (y ∷ xs) ys (suc k) x e = get_longer xs ys k x e

-- Lines in their places

-- Where a line stands: outside a batch, or in one of this queue, after so many waits and signals,
-- the last line of this part; or in the schedule.
pub data Where : Type 0 where
  is_outside : Where
  is_inside : (queue waits signals part : ℕ) → Where
  in_schedule : Where

-- where a statement leads
abbrev pub where_after : Where → Statement → Where
where_after was (BeginBatch q) = is_inside q 0 0 0
where_after was EndBatch = is_outside
where_after was BeginSchedule = in_schedule
where_after (is_inside q w g k) (AddWait pair from) = is_inside q (w + 1) g 1
where_after (is_inside q w g k) (AddCommand c) = is_inside q w g 2
where_after (is_inside q w g k) (AddSignal pair) = is_inside q w (g + 1) 3
where_after (is_inside q w g k) (AddFence f) = is_inside q w g 4
where_after was other = was

abbrev pub where_of : List Line → Where
where_of before = fold (λ was line. where_after was line.statement) is_outside before

pub record StandsWait (d : Declarations) (q w k : ℕ) (pair : Pair) (from : ℕ) : Type 0 where
  pub counted : 0 < from
  pub whole : d.version ≡ 1 → from ≡ 1
  pub mark : IsMarkOf d.kinds pair
  pub few : w < (limits_of d.version).waits
  pub parts : k ≤ 1

-- A statement may stand here.
abbrev pub Stands : Declarations → Where → Statement → Type 0
Stands d is_outside (HasVersion version) = version ≡ 2
Stands d is_outside (DeclareBuffer name size) = Unit {0}
Stands d is_outside (DeclareSemaphore name kind) = Unit {0}
Stands d is_outside (DeclareQueue name mode) = Unit {0}
Stands d is_outside (BeginBatch q) = q < length d.modes
Stands d (is_inside q w g k) (AddWait pair from) = StandsWait d q w k pair from
Stands d (is_inside q w g k) (AddCommand c) = Fits d.sizes c × (k ≤ 2)
Stands d (is_inside q w g k) (AddSignal pair) =
    IsMarkOf d.kinds pair × (g < (limits_of d.version).signals) × (k ≤ 3)
Stands d (is_inside q w g k) (AddFence f) = (slice_get d.kinds f ≡ Some Fence) × (k ≤ 4)
Stands d (is_inside q w g k) EndBatch = Unit {0}
Stands d is_outside (TakeHostStep step) = IsStepOf d.kinds step
Stands d is_outside BeginSchedule = Unit {0}
Stands d in_schedule (TakeTurns actor count) = IsActorOf d.modes actor
Stands d was other = ⊥

-- each of these lines stands in its place, from this place on
abbrev pub AllStand : Declarations → Where → List Line → Type 0
AllStand d was [] = Unit {0}
AllStand d was (line ∷ lines) =
    Stands d was line.statement × AllStand d (where_after was line.statement) lines

module _ (d e : Declarations) (g : Grows d e) where
  mark_grows : (pair : Pair) → IsMarkOf d.kinds pair → IsMarkOf e.kinds pair
  mark_grows pair m =
      record {
        kind = m.kind;
        is =
            subst (λ (ks : List SemaphoreKind). slice_get ks pair.semaphore ≡ Some m.kind)
            (sym g.kinds_are) (get_longer d.kinds g.more_kinds pair.semaphore m.kind m.is);
        no_fence = m.no_fence;
        valueless = m.valueless;
      }

  queue_grows : (q : ℕ) → q < length d.modes → q < length e.modes
  queue_grows q l =
      let n = ap length g.modes_are ∙ length-append d.modes g.more_modes in omega arith

  actor_grows : (actor : ActorName) → IsActorOf d.modes actor → IsActorOf e.modes actor
  actor_grows HostActor h = tt
  actor_grows (SubmitActor q) h =
      subst (λ (ms : List Mode). slice_get ms q ≡ Some Threaded) (sym g.modes_are)
      (get_longer d.modes g.more_modes q Threaded h)
  actor_grows (RingActor q) h = queue_grows q h

  kind_grows : (test : SemaphoreKind → Bool) (t : ℕ) → IsOfKind test d.kinds t →
      IsOfKind test e.kinds t
  kind_grows test t k =
      record {
        kind = k.kind;
        is =
            subst (λ (ks : List SemaphoreKind). slice_get ks t ≡ Some k.kind) (sym g.kinds_are)
            (get_longer d.kinds g.more_kinds t k.kind k.is);
        tested = k.tested;
      }

  pairs_grow : (pairs : List Pair) → Every (IsPairOf d.kinds) pairs → Every (IsPairOf e.kinds) pairs
  pairs_grow [] a = tt
  pairs_grow (pair ∷ pairs) a = (kind_grows is_timeline pair.semaphore a.0, pairs_grow pairs a.1)

  step_grows : (step : HostStep) → IsStepOf d.kinds step → IsStepOf e.kinds step
  step_grows (Signal pair) h = kind_grows is_timeline pair.semaphore h
  step_grows (WaitAll pairs) h = pairs_grow pairs h
  step_grows (WaitAny pairs) h = pairs_grow pairs h
  step_grows (PollAll pairs) h = pairs_grow pairs h
  step_grows (PollAny pairs) h = pairs_grow pairs h
  step_grows (Read t) h = kind_grows is_timeline t h
  step_grows (FenceWait f) h = kind_grows is_fence f h
  step_grows (FencePoll f) h = kind_grows is_fence f h
  step_grows (FenceReset f) h = kind_grows is_fence f h
  step_grows Idle h = tt

  fits_grows : (c : Command) → Fits d.sizes c → Fits e.sizes c
  fits_grows c f =
      subst (λ (ns : List ℕ). Fits ns c) (sym g.sizes_are)
      (fits_appended g.more_sizes d.sizes c f)

  pub stands_grows : (was : Where) (s : Statement) → Stands d was s → Stands e was s
  stands_grows is_outside (HasVersion version) h = h
  stands_grows is_outside (DeclareBuffer name size) h = tt
  stands_grows is_outside (DeclareSemaphore name kind) h = tt
  stands_grows is_outside (DeclareQueue name mode) h = tt
  stands_grows is_outside (BeginBatch q) h = queue_grows q h
  stands_grows (is_inside q w n k) (AddWait pair from) h =
      record {
        counted = h.counted;
        whole = λ v. h.whole (g.first v);
        mark = mark_grows pair h.mark;
        few = h.few;
        parts = h.parts;
      }
  stands_grows (is_inside q w n k) (AddCommand c) h = (fits_grows c h.0, h.1)
  stands_grows (is_inside q w n k) (AddSignal pair) h = (mark_grows pair h.0, h.1, h.2)
  stands_grows (is_inside q w n k) (AddFence f) h = (
    subst (λ (ks : List SemaphoreKind). slice_get ks f ≡ Some Fence) (sym g.kinds_are)
        (get_longer d.kinds g.more_kinds f Fence h.0),
    h.1,
  )
  stands_grows (is_inside q w n k) EndBatch h = tt
  stands_grows is_outside (TakeHostStep step) h = step_grows step h
  stands_grows is_outside BeginSchedule h = tt
  stands_grows in_schedule (TakeTurns actor count) h = actor_grows actor h
  stands_grows was s h = absurd h

  pub all_grow : (was : Where) (lines : List Line) → AllStand d was lines → AllStand e was lines
  all_grow was [] h = tt
  all_grow was (line ∷ lines) h =
      (stands_grows was line.statement h.0, all_grow (where_after was line.statement) lines h.1)

-- one line more
pub all_stand_push : (d : Declarations) (was : Where) (lines : List Line) (n : ℕ)
    (s : Statement) → AllStand d was lines →
    Stands d (fold (λ w line. where_after w line.statement) was lines) s →
    AllStand d was (with_line lines n s)
all_stand_push d was [] n s h t = (t, tt)
all_stand_push d was (line ∷ lines) n s h t =
    (h.0, all_stand_push d (where_after was line.statement) lines n s h.1 t)

-- where a line more leads
pub where_push : (before : List Line) (n : ℕ) (s : Statement) → where_of (with_line before n s)
    ≡ where_after (where_of before) s
where_push before n s =
    fold-append (λ (was : Where) (l : Line). where_after was l.statement) is_outside before
    (record { number = n; statement = s } ∷ [])
