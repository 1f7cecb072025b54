-- The plan of what was submitted in a tale is well formed: its signals name what was opened, and its commands fit.
use Rattle.std.proofs.Common.{◌≡◌, true, false, ℕ, zero, suc, ◌+◌, ◌<◌, ◌≤◌, List, [], ◌∷◌, length, map, fold, append-nil, Option, Some, None, refl, sym, ap, ◌∙◌, subst, arith}
use Rattle.std.specs.List.{All, AllByRecursion as Every, slice_get, filter_map, cons_option}
use Rattle.vq_model.specs.declared.script.CommandLine.{CommandLine}
use Rattle.vq_model.specs.declared.script.Job.{Job}
use Rattle.vq_model.specs.declared.script.Job.TheVariants.{Batch}
use Rattle.vq_model.specs.declared.script.Script.{Script}
use Rattle.vq_model.specs.declared.script.Semaphore.{Semaphore}
use Rattle.vq_model.specs.FittingCommands.{Fits}
use Rattle.vq_model.specs.Lowering.{plan_of, batch_commands}
use Rattle.vq_model.specs.Machine.{State, after_step, opening_state}
use Rattle.vq_model.specs.Signals.{Signaling, job_signals, of_mark}
use Rattle.vq_model.specs.WellFormed.{IsWellFormed}
use Rattle.vq_ground.proofs.Gets.{all_at}
use Rattle.vq_plan_laws.proofs.Cited.{owner}
use Rattle.vq_layer.specs.declared.answers.Wanted.{Wanted}
use Rattle.vq_layer.specs.Layer.{live_at, kind_at}
use Rattle.vq_layer.specs.Names.{merged_all}
use Rattle.vq_layer_laws.specs.Runs.{opens, opens_binary, opens_queue, closes, submits, takes_back, releases, finishes, completes, sets, resets, refers_to, gives_back}
use Rattle.vq_layer_laws.proofs.Cited.{submit_may}
use Rattle.vq_layer_machine.specs.Tales.{Work, Told, Scene, layer_called, batch_starts, batch_applies, batch_signals, batch_ends, host_signals, batch_tried, batch_taken_back, no_scene, MayTell, after_told, after_tale, IsTaleFrom, IsTale, steps_told}
use Rattle.vq_layer_machine.specs.Scripts.{script_of, jobs_from, job_told, semaphore_told, renamed, mark_of, batch_of, signal_of, FitsTold, AreFitting}
use Rattle.vq_layer_machine.proofs.Counted.{marks}
use Rattle.vq_layer_machine.proofs.Formed.{NamesAll, FitsAll, formed}
use Rattle.vq_layer_machine.proofs.Standing.{HasRoom, room_open, AllAt, all_all, all_weaker_at, rooms}
use Rattle.vq_layer_machine.proofs.Going.{Stands, set_open}
use Rattle.vq_layer_machine.proofs.Tellings.{follows, first_keeps, first_stands, opening_ties}
use Rattle.vq_layer_machine.proofs.Ties.{KeepsNames, Ties}

-- the signals of a job name semaphores below this number
abbrev JobWithin : ℕ → Job → Type 0
JobWithin m job = (a i : ℕ) (x : Signaling) → slice_get (job_signals (a, job)) i ≡ Some x → x.semaphore < m

marks_within : (names : ℕ → ℕ) (m a : ℕ) (ws : List Wanted) (i : ℕ) (x : Signaling) → AllAt (λ n. names n < m) ws → slice_get (marks a (map (renamed names) ws)) i ≡ Some x → x.semaphore < m
marks_within names m a [] i x w e = absurd (cc)
marks_within names m a (v ∷ vs) zero x w e =
    let same : of_mark a (mark_of (renamed names v)) ≡ x = cc in subst (λ (y : Signaling). y.semaphore < m) same w.0
marks_within names m a (v ∷ vs) (suc i) x w e = marks_within names m a vs i x w.1 e

signal_within : (n v m : ℕ) → n < m → JobWithin m (signal_of n v)
signal_within n v m l a zero x e =
    let one : Signaling = record { job = a; line = 0; semaphore = n; value = v } in
    let same : one ≡ x = cc in
    subst (λ (y : Signaling). y.semaphore < m) same l
signal_within n v m l a (suc i) x e = absurd (cc)

pushed : (P : Job → Type 0) (o : Option Job) (jobs : List Job) → ((job : Job) → o ≡ Some job → P job) → Every P jobs → Every P (cons_option o jobs)
pushed P None jobs first rest = rest
pushed P (Some job) jobs first rest = (first job refl, rest)

every_at : (P : Job → Type 0) (jobs : List Job) (k : ℕ) (job : Job) → Every P jobs → slice_get jobs k ≡ Some job → P job
every_at P [] k job a e = absurd (cc)
every_at P (x ∷ jobs) zero job a e = let same : x ≡ job = cc in subst P same a.0
every_at P (x ∷ jobs) (suc k) job a e = every_at P jobs k job a.1 e

module _ (work : Work) where
  -- How many semaphores were opened.
  one_opened : (sc : Scene) (t : Told) (xs : List Semaphore) → length (cons_option (semaphore_told t) xs) + sc.opened ≡ length xs + (after_told work sc t).opened
  one_opened sc (layer_called (opens v)) xs = omega arith
  one_opened sc (layer_called (opens_binary false)) xs = omega arith
  one_opened sc (layer_called (opens_binary true)) xs = omega arith
  one_opened sc (layer_called opens_queue) xs = refl
  one_opened sc (layer_called (closes n)) xs = refl
  one_opened sc (layer_called (submits q token waits signals)) xs = refl
  one_opened sc (layer_called (takes_back q)) xs = refl
  one_opened sc (layer_called (releases q)) xs = refl
  one_opened sc (layer_called (finishes q)) xs = refl
  one_opened sc (layer_called (completes n)) xs = refl
  one_opened sc (layer_called (sets n v)) xs = refl
  one_opened sc (layer_called (resets n)) xs = refl
  one_opened sc (layer_called (refers_to n p)) xs = refl
  one_opened sc (layer_called (gives_back n p)) xs = refl
  one_opened sc (batch_starts q) xs = refl
  one_opened sc (batch_applies q) xs = refl
  one_opened sc (batch_signals q n) xs = refl
  one_opened sc (batch_ends q) xs = refl
  one_opened sc (host_signals n v) xs = refl
  one_opened sc (batch_tried q token waits signals) xs = refl
  one_opened sc (batch_taken_back q) xs = refl

  all_opened : (sc : Scene) (tale : List Told) → (after_tale work sc tale).opened ≡ length (filter_map semaphore_told tale) + sc.opened
  all_opened sc [] = omega arith
  all_opened sc (t ∷ tale) =
      all_opened (after_told work sc t) tale ∙ sym (one_opened sc t (filter_map semaphore_told tale))

  -- what is told names only what was opened
  told_within : (sc : Scene) (t : Told) (m : ℕ) → KeepsNames work sc → MayTell work sc t → (after_told work sc t).opened ≤ m → (job : Job) → job_told work sc t ≡ Some job → JobWithin m job
  told_within sc (layer_called (submits q token waits signals)) m keeps may l job e = subst (JobWithin m) same own
    where
      same : batch_of q (work.commands token) (map (renamed sc.names) waits) (map (renamed sc.names) (merged_all [] signals)) ≡ job
      same = cc

      room : AllAt (λ n. HasRoom (kind_at sc.layer.kinds n)) (merged_all [] signals)
      room = all_all (λ n. HasRoom (kind_at sc.layer.kinds n)) [] signals tt (rooms sc.layer.kinds waits signals (submit_may sc.layer q waits signals may.1).signaled)

      names : AllAt (λ n. sc.names n < m) (merged_all [] signals)
      names = all_weaker_at (λ n. HasRoom (kind_at sc.layer.kinds n)) (λ n. sc.names n < m) (merged_all [] signals) (λ n r. (let low = keeps.known n (room_open (kind_at sc.layer.kinds n) r) in omega arith)) room

      own : JobWithin m (batch_of q (work.commands token) (map (renamed sc.names) waits) (map (renamed sc.names) (merged_all [] signals)))
      own a i x g =
          let all = ap (map (of_mark a)) (append-nil (map mark_of (map (renamed sc.names) (merged_all [] signals)))) in
          marks_within sc.names m a (merged_all [] signals) i x names (sym (ap (λ (xs : List Signaling). slice_get xs i) all) ∙ g)
  told_within sc (host_signals n v) m keeps may l job e =
      subst (JobWithin m) same (signal_within (sc.names n) v m (let low = keeps.known n (set_open (kind_at sc.layer.kinds n) (live_at sc.layer.timelines n) v may) in omega arith))
    where
      same : signal_of (sc.names n) v ≡ job
      same = cc
  told_within sc (layer_called (opens v)) m keeps may l job e = absurd (cc)
  told_within sc (layer_called (opens_binary true)) m keeps may l job e =
      let same : signal_of sc.opened 1 ≡ job = cc in
      subst (JobWithin m) same (signal_within sc.opened 1 m (omega arith))
  told_within sc (layer_called (opens_binary false)) m keeps may l job e = absurd (cc)
  told_within sc (layer_called opens_queue) m keeps may l job e = absurd (cc)
  told_within sc (layer_called (closes n)) m keeps may l job e = absurd (cc)
  told_within sc (layer_called (takes_back q)) m keeps may l job e = absurd (cc)
  told_within sc (layer_called (releases q)) m keeps may l job e = absurd (cc)
  told_within sc (layer_called (finishes q)) m keeps may l job e = absurd (cc)
  told_within sc (layer_called (completes n)) m keeps may l job e = absurd (cc)
  told_within sc (layer_called (sets n v)) m keeps may l job e = absurd (cc)
  told_within sc (layer_called (resets n)) m keeps may l job e = absurd (cc)
  told_within sc (layer_called (refers_to n p)) m keeps may l job e = absurd (cc)
  told_within sc (layer_called (gives_back n p)) m keeps may l job e = absurd (cc)
  told_within sc (batch_starts q) m keeps may l job e = absurd (cc)
  told_within sc (batch_applies q) m keeps may l job e = absurd (cc)
  told_within sc (batch_signals q n) m keeps may l job e = absurd (cc)
  told_within sc (batch_ends q) m keeps may l job e = absurd (cc)
  told_within sc (batch_tried q token waits signals) m keeps may l job e = absurd (cc)
  told_within sc (batch_taken_back q) m keeps may l job e = absurd (cc)

  jobs_within : (s : Script) (sc : Scene) (st : State) (tale : List Told) → KeepsNames work sc → Ties work (plan_of s) sc st.progress → Stands work s sc tale → IsTaleFrom work sc tale → Every (JobWithin (after_tale work sc tale).opened) (jobs_from work sc tale)
  jobs_within s sc st [] keeps ties k m = tt
  jobs_within s sc st (t ∷ tale) keeps ties k m =
      let f = follows work s sc st tale keeps ties t m.0 k in
      let rest = jobs_within s (after_told work sc t) (fold (after_step (plan_of s)) st (steps_told sc t)) tale f.keeps f.goes.ties f.stands m.1 in
      let count = all_opened (after_told work sc t) tale in
      pushed (JobWithin (after_tale work (after_told work sc t) tale).opened) (job_told work sc t) (jobs_from work (after_told work sc t) tale)
      (told_within sc t (after_tale work (after_told work sc t) tale).opened keeps m.0 (omega arith)) rest

  names_all : (tale : List Told) → IsTale work tale → NamesAll (script_of work tale)
  names_all tale m e x g =
      let s = script_of work tale in
      let o = owner 0 s.jobs e x g in
      let all = jobs_within s no_scene (opening_state (plan_of s)) tale (first_keeps work) (opening_ties work (plan_of s)) (first_stands work tale) m in
      let low = every_at (JobWithin (after_tale work no_scene tale).opened) s.jobs o.place o.job all o.is (0 + o.place) o.line x o.among in
      let count = all_opened no_scene tale in
      omega arith

  -- the commands of jobs fit
  abbrev JobFits : Job → Type 0
  JobFits job = All (λ (c : CommandLine). Fits (map (λ b. b.size) work.buffers) c.command) (batch_commands job)

  told_fits : (sc : Scene) (t : Told) → FitsTold work t → (job : Job) → job_told work sc t ≡ Some job → JobFits job
  told_fits sc (layer_called (submits q token waits signals)) f job e =
      let same : batch_of q (work.commands token) (map (renamed sc.names) waits) (map (renamed sc.names) (merged_all [] signals)) ≡ job = cc in
      subst JobFits same f
  told_fits sc (host_signals n v) f job e =
      let same : signal_of (sc.names n) v ≡ job = cc in
      subst JobFits same (λ k d l. absurd (omega arith))
  told_fits sc (layer_called (opens v)) f job e = absurd (cc)
  told_fits sc (layer_called (opens_binary true)) f job e =
      let same : signal_of sc.opened 1 ≡ job = cc in
      subst JobFits same (λ k d l. absurd (omega arith))
  told_fits sc (layer_called (opens_binary false)) f job e = absurd (cc)
  told_fits sc (layer_called opens_queue) f job e = absurd (cc)
  told_fits sc (layer_called (closes n)) f job e = absurd (cc)
  told_fits sc (layer_called (takes_back q)) f job e = absurd (cc)
  told_fits sc (layer_called (releases q)) f job e = absurd (cc)
  told_fits sc (layer_called (finishes q)) f job e = absurd (cc)
  told_fits sc (layer_called (completes n)) f job e = absurd (cc)
  told_fits sc (layer_called (sets n v)) f job e = absurd (cc)
  told_fits sc (layer_called (resets n)) f job e = absurd (cc)
  told_fits sc (layer_called (refers_to n p)) f job e = absurd (cc)
  told_fits sc (layer_called (gives_back n p)) f job e = absurd (cc)
  told_fits sc (batch_starts q) f job e = absurd (cc)
  told_fits sc (batch_applies q) f job e = absurd (cc)
  told_fits sc (batch_signals q n) f job e = absurd (cc)
  told_fits sc (batch_ends q) f job e = absurd (cc)
  told_fits sc (batch_tried q token waits signals) f job e = absurd (cc)
  told_fits sc (batch_taken_back q) f job e = absurd (cc)

  jobs_fit : (sc : Scene) (tale : List Told) → AreFitting work tale → Every JobFits (jobs_from work sc tale)
  jobs_fit sc [] f = tt
  jobs_fit sc (t ∷ tale) f =
      pushed JobFits (job_told work sc t) (jobs_from work (after_told work sc t) tale) (told_fits sc t f.0) (jobs_fit (after_told work sc t) tale f.1)

  fits_all : (tale : List Told) → AreFitting work tale → FitsAll (script_of work tale)
  fits_all tale f j k b x at is =
      all_at (λ (c : CommandLine). Fits (map (λ y. y.size) work.buffers) c.command) b.commands k x
      (every_at JobFits (script_of work tale).jobs j (Batch b) (jobs_fit no_scene tale f) at) is

  pub submitted_formed : (tale : List Told) → IsTale work tale → AreFitting work tale → IsWellFormed (plan_of (script_of work tale))
  submitted_formed tale m f = formed (script_of work tale) (names_all tale m) (fits_all tale f)
