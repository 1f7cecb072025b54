-- Batches that keep the rules of the format may follow what is declared and other jobs.
use Rattle.std.proofs.Common.{ℕ, suc, ◌≡◌, ◌<◌, ◌≤◌, ◌+◌, true, false, cond, List, [], ◌∷◌, ◌++◌, append-nil, append_assoc, length, map, Option, Some, None, refl, sym, ap, subst, arith, ◌⊎◌, inl, inr}
use Rattle.std.specs.Prelude.{nat_lt, count_by}
use Rattle.std.specs.List.{AllByRecursion as Every, list_any}
use Rattle.std.proofs.lemmas.List.Sums.{sum_by_push}
use Rattle.std.proofs.lemmas.Bool.{or_from, false≢true}
use Rattle.vq_ground.proofs.Gets.{get_some}
use Rattle.vq_ground.proofs.Tests.{not_below_test}
use Rattle.vq_model.specs.declared.script.SemaphoreKind.{SemaphoreKind}
use Rattle.vq_model.specs.declared.script.SemaphoreKind.TheVariants.{Timeline, Binary, Fence}
use Rattle.vq_model.specs.declared.script.Mark.{Mark}
use Rattle.vq_model.specs.declared.script.CommandLine.{CommandLine}
use Rattle.vq_model.specs.declared.script.Batch.{Batch}
use Rattle.vq_model.specs.declared.script.Script.{Script}
use Rattle.vq_model.specs.declared.statement.Statement.{Statement}
use Rattle.vq_model.specs.declared.statement.Statement.TheVariants.{AddFence, EndBatch}
use Rattle.vq_model.specs.Context.{is_wait, is_command, is_signal, is_fence, is_batch_fence, held_from}
use Rattle.vq_model.specs.Context.{part_of}
use Rattle.vq_model.specs.Limits.{limits_of}
use Rattle.vq_model.specs.declared.limits.Limits.{Limits}
use Rattle.vq_model.specs.ValidScripts.{IsOfAVersion}
pub use Rattle.vq_canonical_laws.specs.CanonicalStatements.{wait_statement, command_statement, signal_statement, fence_statements}
use Rattle.vq_canonical_laws.specs.FormatRules.{IsWaitOf, IsSignalOf, IsCommandOf, IsFenceOf, BatchFits}
use Rattle.vq_canonical_laws.proofs.ScriptParts.{ToldJob, ToldBatch, Told, Parts, parts, after, May, commands_of}
use Rattle.vq_canonical_laws.proofs.CanonicalOrder.{Leads, leads_on, leads_push, job_statements}

-- The statements of a batch

-- a statement of a part of a batch or an earlier part, which holds back the batch from a place on that
-- isn't past `far`, or nothing
abbrev IsEarly : ℕ → ℕ → Statement → Type 0
IsEarly part far s = (part_of s ≤ part) × (held_from s ≤ far)

none_later : (part far k : ℕ) (told : List Statement) → part ≤ k → Every (IsEarly part far) told →
    list_any (λ x. nat_lt k (part_of x)) told ≡ false
none_later part far k [] l h = refl
none_later part far k (s ∷ told) l h =
    let e = h.0.0 in
    or_from (nat_lt k (part_of s)) (list_any (λ x. nat_lt k (part_of x)) told)
    (not_below_test k (part_of s) (omega arith)) (none_later part far k told l h.1)

none_far : (part far k : ℕ) (told : List Statement) → far ≤ k → Every (IsEarly part far) told →
    list_any (λ x. nat_lt k (held_from x)) told ≡ false
none_far part far k [] l h = refl
none_far part far k (s ∷ told) l h =
    let e = h.0.1 in
    or_from (nat_lt k (held_from s)) (list_any (λ x. nat_lt k (held_from x)) told)
    (not_below_test k (held_from s) (omega arith)) (none_far part far k told l h.1)

still_early : (part far k : ℕ) (told : List Statement) → part ≤ k → Every (IsEarly part far) told →
    Every (IsEarly k far) told
still_early part far k [] l h = tt
still_early part far k (s ∷ told) l h =
    let e = h.0.0 in ((omega arith, h.0.1), still_early part far k told l h.1)

early_push : (part far : ℕ) (told : List Statement) (s : Statement) →
    Every (IsEarly part far) told → IsEarly part far s → Every (IsEarly part far) (told ++ s ∷ [])
early_push part far [] s h e = (e, tt)
early_push part far (t ∷ told) s h e = (h.0, early_push part far told s h.1 e)

-- the limits of a script's version
abbrev most_of : Script → Limits
most_of s = limits_of s.version

-- A batch that comes so far after these jobs, in a part, takes just so many commands more, and has room
-- for so many waits and signals. Its waits hold back from a command on, or its signals.
record Room (s : Script) (all : ℕ) (jobs : List ToldJob) (part : ℕ) (told : List Statement)
    (waits commands signals : ℕ) : Type 0 where
  early : Every (IsEarly part (all + 1)) told
  few_waits : count_by is_wait told + waits ≤ (most_of s).waits
  counted : count_by is_command told + commands ≡ all
  few_commands : all ≤ (most_of s).batch_commands
  all_commands : commands_of jobs + all ≤ (most_of s).commands
  few_signals : count_by is_signal told + signals ≤ (most_of s).signals

module _ (s : Script) (all : ℕ) (jobs : List ToldJob) where
  -- .. for fewer after one statement more
  room_push : (part : ℕ) (told : List Statement) (t : Statement) (w c m waits commands signals : ℕ) →
      Room s all jobs part told w c m → IsEarly part (all + 1) t →
      cond (is_wait t) 1 0 + waits ≤ w → cond (is_command t) 1 0 + commands ≡ c →
      cond (is_signal t) 1 0 + signals ≤ m →
      Room s all jobs part (told ++ t ∷ []) waits commands signals
  room_push part told t w c m waits commands signals r e x y z =
      let wn : count_by is_wait (told ++ t ∷ []) ≡ count_by is_wait told + cond (is_wait t) 1 0 =
      sum_by_push (λ (u : Statement). cond (is_wait u) 1 0) told t in
      let cn : count_by is_command (told ++ t ∷ [])
      ≡ count_by is_command told + cond (is_command t) 1 0 =
      sum_by_push (λ (u : Statement). cond (is_command u) 1 0) told t in
      let mn : count_by is_signal (told ++ t ∷ [])
      ≡ count_by is_signal told + cond (is_signal t) 1 0 =
      sum_by_push (λ (u : Statement). cond (is_signal u) 1 0) told t in
      let a = r.few_waits in
      let b = r.counted in
      let f = r.few_signals in
      record {
        early = early_push part (all + 1) told t r.early e;
        few_waits = omega arith;
        counted = omega arith;
        few_commands = r.few_commands;
        all_commands = r.all_commands;
        few_signals = omega arith;
      }

  -- .. in the next part
  next_part : (part k : ℕ) (told : List Statement) (w c m : ℕ) → part ≤ k →
      Room s all jobs part told w c m → Room s all jobs k told w c m
  next_part part k told w c m l r =
      record {
        early = still_early part (all + 1) k told l r.early;
        few_waits = r.few_waits;
        counted = r.counted;
        few_commands = r.few_commands;
        all_commands = r.all_commands;
        few_signals = r.few_signals;
      }

module _ (s : Script) (versioned : IsOfAVersion s) (all : ℕ) (jobs : List ToldJob) (q : ℕ) where
  -- the parts in a batch of a queue
  abbrev inside : List Statement → Parts
  inside told = parts s.version s.buffers s.semaphores s.queues jobs (Some (q, told))

  -- room in it
  abbrev HasRoom : ℕ → List Statement → ℕ → ℕ → ℕ → Type 0
  HasRoom = Room s all jobs

  -- statements of one part may follow, and then there is room for what comes after them
  abbrev Follow : (ℕ → List Statement → Type 0) → List Statement → List Statement → Type 0
  Follow Left told more = Leads (inside told) more (inside (told ++ more)) × Left 0 (told ++ more)

  items_follow : {A : Type 0} (f : A → Statement) (Fits : A → Type 0) (Left : ℕ → List Statement → Type 0) →
      ((told : List Statement) (x : A) → after (inside told) (f x) ≡ inside (told ++ f x ∷ [])) →
      ((n : ℕ) (told : List Statement) (x : A) → Fits x → Left (suc n) told →
      May (inside told) (f x) × Left n (told ++ f x ∷ [])) →
      (told : List Statement) (xs : List A) → Every Fits xs → Left (length xs) told →
      Follow Left told (map f xs)
  items_follow f Fits Left is one told [] fits left =
      (ap inside (sym (append-nil told)), subst (Left 0) (sym (append-nil told)) left)
  items_follow f Fits Left is one told (x ∷ xs) fits left =
      let first = one (length xs) told x fits.0 left in
      let rest = items_follow f Fits Left is one (told ++ f x ∷ []) xs fits.1 first.1 in
      let same = append_assoc told (f x ∷ []) (map f xs) in (
        (
          first.0,
          subst (λ (z : Parts × List Statement). Leads z.0 (map f xs) (inside z.1))
              (λ i. (sym (is told x) i, same i)) rest.0,
        ),
        subst (Left 0) same rest.1,
      )

  -- waits
  waits_follow : (ws : List Mark) (c m : ℕ) → Every (IsWaitOf s all) ws →
      HasRoom 1 [] (length ws) c m →
      Follow (λ n told. HasRoom 1 told n c m) [] (map wait_statement ws)
  waits_follow ws c m fits room =
      items_follow wait_statement (IsWaitOf s all) (λ n told. HasRoom 1 told n c m)
      (λ told x. refl) one [] ws fits room
    where
      -- in the first version a wait holds back its whole batch
      held : (x : Mark) → IsWaitOf s all x → (x.from ≡ 1) ⊎ (s.version ≡ 2)
      held x fits =
          elim versioned [ inl first ↦ inl (fits.held.whole first) | inr second ↦ inr second ]

      one : (n : ℕ) (told : List Statement) (x : Mark) → IsWaitOf s all x →
          HasRoom 1 told (suc n) c m →
          May (inside told) (wait_statement x) × HasRoom 1 (told ++ wait_statement x ∷ []) n c m
      one n told x fits room =
          let few = room.few_waits in
          let commands = room.few_commands in
          let near = fits.near in (
            record {
              told = (q, told);
              inside = refl;
              in_order = none_later 1 (all + 1) 1 told (omega arith) room.early;
              fits = record {
                known = fits.marked;
                counted = fits.held.counted;
                held = held x fits;
                near = omega arith;
                few = omega arith;
              };
            },
            room_push s all jobs 1 told (wait_statement x) (suc n) c m n c m room
                (omega arith, near) (omega arith) (omega arith) (omega arith),
          )

  -- commands
  commands_follow : (told : List Statement) (cs : List CommandLine) (m : ℕ) →
      Every (λ x. IsCommandOf s.buffers x.command) cs → HasRoom 2 told 0 (length cs) m →
      Follow (λ n t. HasRoom 2 t 0 n m) told (map command_statement cs)
  commands_follow told cs m fits room =
      items_follow command_statement (λ x. IsCommandOf s.buffers x.command) (λ n t. HasRoom 2 t 0 n m)
      (λ t x. refl) one told cs fits room
    where
      one : (n : ℕ) (t : List Statement) (x : CommandLine) → IsCommandOf s.buffers x.command →
          HasRoom 2 t 0 (suc n) m →
          May (inside t) (command_statement x) × HasRoom 2 (t ++ command_statement x ∷ []) 0 n m
      one n t x fits room =
          let counted = room.counted in
          let few = room.few_commands in
          let total = room.all_commands in (
            record {
              told = (q, t);
              inside = refl;
              in_order = none_later 2 (all + 1) 2 t (omega arith) room.early;
              fits = record {
                range = fits.range;
                apart = fits.apart;
                numerals = fits.numerals;
                few = omega arith;
                total = omega arith;
              };
            },
            room_push s all jobs 2 t (command_statement x) 0 (suc n) m 0 n m room
                (omega arith, omega arith) (omega arith) (omega arith) (omega arith),
          )

  -- signals
  signals_follow : (told : List Statement) (ms : List Mark) → Every (IsSignalOf s.semaphores) ms →
      HasRoom 3 told 0 0 (length ms) →
      Follow (λ n t. HasRoom 3 t 0 0 n) told (map signal_statement ms)
  signals_follow told ms fits room =
      items_follow signal_statement (IsSignalOf s.semaphores) (λ n t. HasRoom 3 t 0 0 n)
      (λ t x. refl) one told ms fits room
    where
      one : (n : ℕ) (t : List Statement) (x : Mark) → IsSignalOf s.semaphores x → HasRoom 3 t 0 0 (suc n) →
          May (inside t) (signal_statement x) × HasRoom 3 (t ++ signal_statement x ∷ []) 0 0 n
      one n t x fits room =
          let few = room.few_signals in (
            record {
              told = (q, t);
              inside = refl;
              in_order = none_later 3 (all + 1) 3 t (omega arith) room.early;
              fits = record { known = fits.0; few = omega arith };
            },
            room_push s all jobs 3 t (signal_statement x) 0 0 (suc n) 0 0 n room
                (omega arith, omega arith) (omega arith) (omega arith) (omega arith),
          )

  -- a fence
  fence_follows : (told : List Statement) (f : Option Mark) → IsFenceOf s.semaphores f →
      HasRoom 3 told 0 0 0 → Follow (λ n t. HasRoom 4 t 0 0 n) told (fence_statements f)
  fence_follows told None fits room = (
    ap inside (sym (append-nil told)),
    subst (λ (t : List Statement). HasRoom 4 t 0 0 0) (sym (append-nil told))
        (next_part s all jobs 3 4 told 0 0 0 (omega arith) room),
  )
  fence_follows told (Some m) fits room = (
    (
      record {
        told = (q, told);
        inside = refl;
        in_order = none_later 3 (all + 1) 4 told (omega arith) room.early;
        fits = record {
          semaphore = fits.0.semaphore;
          there = fits.0.there;
          fence = kind_fence fits.0.semaphore.kind fits.0.tested;
          only = none_yet told room.early;
        };
      },
      refl,
    ),
    room_push s all jobs 4 told (AddFence m.semaphore) 0 0 0 0 0 0
        (next_part s all jobs 3 4 told 0 0 0 (omega arith) room) (omega arith, omega arith)
        (omega arith) (omega arith) (omega arith),
  )
    where
      kind_fence : (kind : SemaphoreKind) → is_fence kind ≡ true → kind ≡ Fence
      kind_fence Fence e = refl
      kind_fence Binary e = absurd (false≢true e)
      kind_fence (Timeline v) e = absurd (false≢true e)

      no_fence : (x : Statement) → part_of x ≤ 3 → is_batch_fence x ≡ false
      no_fence (AddFence f) l = absurd (omega arith)
      no_fence x l = refl

      none_yet : (t : List Statement) → Every (IsEarly 3 (all + 1)) t → list_any is_batch_fence t ≡ false
      none_yet [] h = refl
      none_yet (x ∷ t) h =
          or_from (is_batch_fence x) (list_any is_batch_fence t) (no_fence x h.0.0) (none_yet t h.1)

-- A whole batch

-- the statements of its parts
abbrev pub waits_told : Batch → List Statement
waits_told b = map wait_statement b.waits

abbrev pub commands_told_of : Batch → List Statement
commands_told_of b = waits_told b ++ map command_statement b.commands

abbrev pub signals_told : Batch → List Statement
signals_told b = commands_told_of b ++ map signal_statement b.signals

abbrev pub batch_told : Batch → Told
batch_told b = (b.queue, signals_told b ++ fence_statements b.fence)

-- A batch that keeps the rules may follow jobs.
pub batch_follows : (s : Script) (jobs : List ToldJob) (b : Batch) → IsOfAVersion s → BatchFits s b →
    length jobs < (most_of s).jobs →
    commands_of jobs + length b.commands ≤ (most_of s).commands →
    Leads (parts s.version s.buffers s.semaphores s.queues jobs None)
    (job_statements (ToldBatch (batch_told b)))
    (parts s.version s.buffers s.semaphores s.queues (jobs ++ ToldBatch (batch_told b) ∷ []) None)
batch_follows s jobs b versioned fits few total =
    let there = get_some s.queues b.queue fits.queue in
    let a = fits.few_waits in
    let d = fits.few_signals in
    let room : Room s all jobs 1 [] (length b.waits) all (length b.signals) =
    record {
      early = tt;
      few_waits = omega arith;
      counted = omega arith;
      few_commands = fits.few_commands;
      all_commands = total;
      few_signals = omega arith;
    } in
    let first =
    waits_follow s versioned all jobs b.queue b.waits all (length b.signals) fits.waits room in
    let second =
    commands_follow s versioned all jobs b.queue (waits_told b) b.commands (length b.signals)
    fits.commands (next_part s all jobs 1 2 (waits_told b) 0 all (length b.signals) (omega arith)
    first.1) in
    let third =
    signals_follow s versioned all jobs b.queue (commands_told_of b) b.signals fits.signals
    (next_part s all jobs 2 3 (commands_told_of b) 0 0 (length b.signals) (omega arith) second.1) in
    let fourth =
    fence_follows s versioned all jobs b.queue (signals_told b) b.fence fits.fence third.1 in
    let told = signals_told b ++ fence_statements b.fence in
    let items : Leads (within []) told (within told) =
    leads_on (within []) (within (signals_told b)) (within told) (signals_told b)
    (fence_statements b.fence)
    (leads_on (within []) (within (commands_told_of b)) (within (signals_told b)) (commands_told_of b)
    (map signal_statement b.signals)
    (leads_on (within []) (within (waits_told b)) (within (commands_told_of b)) (waits_told b)
    (map command_statement b.commands) first.0 second.0) third.0) fourth.0 in
    let early = fourth.1.early in
    let counted = fourth.1.counted in (
      record { outside = refl; queue = there.0; there = there.1; few = few },
      leads_push (within []) (within told) told EndBatch items (record {
        told = batch_told b;
        inside = refl;
        in_order = none_later 4 (all + 1) 5 told (omega arith) early;
        near = none_far 4 (all + 1) (count_by is_command told + 1) told (omega arith) early;
      }),
    )
  where
    all : ℕ
    all = length b.commands

    within : List Statement → Parts
    within told = parts s.version s.buffers s.semaphores s.queues jobs (Some (b.queue, told))
