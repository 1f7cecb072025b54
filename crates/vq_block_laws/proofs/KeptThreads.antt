-- What is kept of threads, from line to line.
use Rattle.std.proofs.Common.{ℕ, ◌≡◌, ◌<◌, ◌≤◌, ◌+◌, true, false, not, ◌&&◌, ◌||◌, List, [], ◌∷◌, ◌++◌, append-nil, append_assoc, length, length-append, map, refl, sym, ap, ◌∙◌, arith, sum}
use Rattle.std.specs.List.{AllByRecursion as Every, list_any}
use Rattle.std.specs.Str.{bytes_eq}
use Rattle.std.proofs.lemmas.Bool.{and_parts, and_from, or_parts, or_from}
use Rattle.std.proofs.lemmas.List.{map-append}
use Rattle.std.proofs.lemmas.List.Folds.{list_any-append}
use Rattle.std.proofs.lemmas.List.Sums.{sum_by-append, sum_by-cons}
use Rattle.vq_ground.proofs.Every.{every_append}
use Rattle.vq_ground.proofs.Lists.{any_map}
use Rattle.vq_model.specs.declared.script.Buffer.{Buffer}
use Rattle.vq_model.specs.declared.script.Queue.{Queue}
use Rattle.vq_model.specs.declared.script.Semaphore.{Semaphore}
use Rattle.vq_model.specs.Context.{buffers, semaphores, queues, count, is_job, is_taken}
use Rattle.vq_model.specs.Text.{is_name}
use Rattle.vq_canonical_laws.specs.FormatRules.{are_new}
use Rattle.vq_blocks.specs.declared.block.BlockStatement.{BlockStatement}
use Rattle.vq_blocks.specs.declared.block.BlockStatement.TheVariants.{BeginThread, TakeStep, EndThread}
use Rattle.vq_blocks.specs.declared.block.HostThread.{HostThread}
use Rattle.vq_blocks.specs.declared.block.ThreadLine.{ThreadLine}
use Rattle.vq_blocks.specs.BlockFaults.{most_lanes, most_steps, most_rest_jobs}
use Rattle.vq_blocks.specs.Blocks.{Told, nothing_told, step_count, with_step, with_block_line}
use Rattle.vq_block_laws.proofs.BlockSteps.{IsTimedStep, BlockSays}

-- What is kept

-- names of declarations, in their order
abbrev pub declared_names : List Buffer → List Semaphore → List Queue → List (List ℕ)
declared_names bs ss qs = map (λ b. b.name) bs ++ map (λ x. x.name) ss ++ map (λ q. q.name) qs

-- Threads have names that are new after these declarations, are few, as their steps are, and wait for and signal
-- timelines.
pub record ThreadsFit (bs : List Buffer) (ss : List Semaphore) (qs : List Queue) (threads : List HostThread) :
    Type 0 where
  pub names : are_new (declared_names bs ss qs) (map (λ t. t.name) threads) ≡ true
  pub few : 0 < length threads → length qs + length threads ≤ most_lanes
  pub few_steps : step_count threads ≤ most_steps
  pub timed : Every (λ t. Every (λ x. IsTimedStep ss x.step) t.steps) threads

-- What is told keeps this.
pub record Keeps (told : Told) : Type 0 where
  pub fit : ThreadsFit (buffers told.rest) (semaphores told.rest) (queues told.rest) told.threads
  pub few_jobs : count is_job told.rest ≤ most_rest_jobs

pub fit_none : (bs : List Buffer) (ss : List Semaphore) (qs : List Queue) → ThreadsFit bs ss qs []
fit_none bs ss qs =
    record { names = refl; few = λ l. absurd (omega arith); few_steps = omega arith; timed = tt }

pub keeps_nothing : Keeps nothing_told
keeps_nothing = record { fit = fit_none [] [] []; few_jobs = omega arith }

-- A thread more

-- a name that is new after all these may follow them
new_push : (before names : List (List ℕ)) (name : List ℕ) → are_new before names ≡ true → is_name name ≡ true →
    list_any (bytes_eq name) (before ++ names) ≡ false → are_new before (names ++ name ∷ []) ≡ true
new_push before [] name h named fresh =
    and_from (is_name name && not (list_any (bytes_eq name) before)) true
    (and_from (is_name name) (not (list_any (bytes_eq name) before)) named
    (ap not (sym (ap (list_any (bytes_eq name)) (append-nil before)) ∙ fresh))) refl
new_push before (first ∷ names) name h named fresh =
    let both =
    and_parts (is_name first && not (list_any (bytes_eq first) before)) (are_new (before ++ first ∷ []) names) h in
    and_from (is_name first && not (list_any (bytes_eq first) before))
    (are_new (before ++ first ∷ []) (names ++ name ∷ [])) both.0
    (new_push (before ++ first ∷ []) names name both.1 named
    (ap (list_any (bytes_eq name)) (append_assoc before (first ∷ []) names) ∙ fresh))

steps_join : (a b : List HostThread) → step_count (a ++ b) ≡ step_count a + step_count b
steps_join a b =
    ap sum (map-append (λ (t : HostThread). length t.steps) a b)
    ∙ sum_by-append (λ (n : ℕ). n) (map (λ (t : HostThread). length t.steps) a)
    (map (λ (t : HostThread). length t.steps) b)

-- a thread without steps
abbrev a_thread : ℕ → List ℕ → HostThread
a_thread n name = record { line = n; name = name; steps = [] }

module _ (bs : List Buffer) (ss : List Semaphore) (qs : List Queue) (threads : List HostThread)
    (h : ThreadsFit bs ss qs threads) where
  fit_thread : (n : ℕ) (name : List ℕ) → is_name name ≡ true →
      (is_taken bs ss qs name || list_any (λ t. bytes_eq name t.name) threads) ≡ false →
      length qs + length threads < most_lanes → ThreadsFit bs ss qs (threads ++ a_thread n name ∷ [])
  fit_thread n name named fresh few =
      let steps = h.few_steps in
      let long = length-append threads (a_thread n name ∷ []) in
      let summed = steps_join threads (a_thread n name ∷ []) in
      let none : step_count (a_thread n name ∷ []) ≡ 0 = sum_by-cons (λ (m : ℕ). m) 0 [] ∙ omega arith in
      let one = or_parts (is_taken bs ss qs name) (list_any (λ t. bytes_eq name t.name) threads) fresh in
      let two =
      or_parts (list_any (λ b. bytes_eq name b.name) bs || list_any (λ s. bytes_eq name s.name) ss)
      (list_any (λ q. bytes_eq name q.name) qs) one.0 in
      let three =
      or_parts (list_any (λ b. bytes_eq name b.name) bs) (list_any (λ s. bytes_eq name s.name) ss) two.0 in
      let test = bytes_eq name in
      let of_buffers = map (λ (b : Buffer). b.name) bs in
      let of_semaphores = map (λ (x : Semaphore). x.name) ss in
      let of_queues = map (λ (q : Queue). q.name) qs in
      let of_threads = map (λ (t : HostThread). t.name) threads in
      let none_taken : list_any test (declared_names bs ss qs ++ of_threads) ≡ false =
      list_any-append test (declared_names bs ss qs) of_threads
      ∙ or_from (list_any test (declared_names bs ss qs)) (list_any test of_threads)
      (list_any-append test (of_buffers ++ of_semaphores) of_queues
      ∙ or_from (list_any test (of_buffers ++ of_semaphores)) (list_any test of_queues)
      (list_any-append test of_buffers of_semaphores
      ∙ or_from (list_any test of_buffers) (list_any test of_semaphores)
      (any_map test (λ (b : Buffer). b.name) bs ∙ three.0)
      (any_map test (λ (x : Semaphore). x.name) ss ∙ three.1))
      (any_map test (λ (q : Queue). q.name) qs ∙ two.1))
      (any_map test (λ (t : HostThread). t.name) threads ∙ one.1) in
      record {
        names = ap (are_new (declared_names bs ss qs))
            (map-append (λ (t : HostThread). t.name) threads (a_thread n name ∷ []))
            ∙ new_push (declared_names bs ss qs) of_threads name h.names named none_taken;
        few = λ l. omega arith;
        few_steps = omega arith;
        timed = every_append (λ (t : HostThread). Every (λ x. IsTimedStep ss x.step) t.steps) threads
            (a_thread n name ∷ []) h.timed (tt, tt);
      }

-- A step more

module _ (x : ThreadLine) where
  names_step : (threads : List HostThread) → map (λ t. t.name) (with_step threads x) ≡ map (λ t. t.name) threads
  names_step [] = refl
  names_step (t ∷ []) = refl
  names_step (t ∷ next ∷ threads) = ap (λ (ns : List (List ℕ)). t.name ∷ ns) (names_step (next ∷ threads))

  length_step : (threads : List HostThread) → length (with_step threads x) ≡ length threads
  length_step [] = refl
  length_step (t ∷ []) = refl
  length_step (t ∷ next ∷ threads) = let more = length_step (next ∷ threads) in omega arith

  count_step : (threads : List HostThread) → step_count (with_step threads x) ≤ step_count threads + 1
  count_step [] = omega arith
  count_step (t ∷ []) =
      let long = length-append t.steps (x ∷ []) in
      let one = sum_by-cons (λ (m : ℕ). m) (length t.steps) [] in
      let two = sum_by-cons (λ (m : ℕ). m) (length (t.steps ++ x ∷ [])) [] in
      omega arith
  count_step (t ∷ next ∷ threads) =
      let more = count_step (next ∷ threads) in
      let one = sum_by-cons (λ (m : ℕ). m) (length t.steps)
      (map (λ (u : HostThread). length u.steps) (next ∷ threads)) in
      let two = sum_by-cons (λ (m : ℕ). m) (length t.steps)
      (map (λ (u : HostThread). length u.steps) (with_step (next ∷ threads) x)) in
      omega arith

  timed_step : (ss : List Semaphore) (threads : List HostThread) →
      Every (λ t. Every (λ y. IsTimedStep ss y.step) t.steps) threads → IsTimedStep ss x.step →
      Every (λ t. Every (λ y. IsTimedStep ss y.step) t.steps) (with_step threads x)
  timed_step ss [] h e = tt
  timed_step ss (t ∷ []) h e =
      (every_append (λ (y : ThreadLine). IsTimedStep ss y.step) t.steps (x ∷ []) h.0 (e, tt), tt)
  timed_step ss (t ∷ next ∷ threads) h e = (h.0, timed_step ss (next ∷ threads) h.1 e)

  fit_step : (bs : List Buffer) (ss : List Semaphore) (qs : List Queue) (threads : List HostThread) →
      ThreadsFit bs ss qs threads → IsTimedStep ss x.step → step_count threads < most_steps →
      ThreadsFit bs ss qs (with_step threads x)
  fit_step bs ss qs threads h e few =
      let long = length_step threads in
      let more = count_step threads in
      record {
        names = ap (are_new (declared_names bs ss qs)) (names_step threads) ∙ h.names;
        few = λ l. let f = h.few (omega arith) in omega arith;
        few_steps = omega arith;
        timed = timed_step ss threads h.timed e;
      }

-- Lines of blocks

-- A line of a block that has no fault keeps it, and leaves the rest alone.
pub block_kept : (told : Told) (n : ℕ) (s : BlockStatement) → Keeps told → BlockSays told s →
    Keeps (with_block_line told n s) × ((with_block_line told n s).rest ≡ told.rest)
block_kept told n (BeginThread name) k h = (
  record {
    fit = fit_thread (buffers told.rest) (semaphores told.rest) (queues told.rest) told.threads k.fit n name
        h.0 h.1 h.2;
    few_jobs = k.few_jobs;
  },
  refl,
)
block_kept told n (TakeStep step) k h = (
  record {
    fit = fit_step (record { line = n; step = step }) (buffers told.rest) (semaphores told.rest) (queues told.rest)
        told.threads k.fit h.0 h.1;
    few_jobs = k.few_jobs;
  },
  refl,
)
block_kept told n EndThread k h = (record { fit = k.fit; few_jobs = k.few_jobs }, refl)
