-- The queues and the threads of a capture, each kind numbered as they come. A queue and the thread of its number have
-- fifteen lanes: thirteen of the queue's stages, one of the order of its semaphore operations, and one of what the thread
-- does.
use Rattle.std.specs.Prelude.{ℕ, suc, Bool, true, false, List, [], ◌∷◌, ◌++◌, ◌+◌, ◌*◌, ◌==◌, if◌then◌else◌}
use Rattle.std.specs.Prelude.{Option, Some, None}
use Rattle.std.specs.List.{list_any}
use Rattle.vq_capture.specs.declared.statement.Statement.{Statement}
use Rattle.vq_capture.specs.declared.statement.Statement.TheVariants.{After}
use Rattle.vq_capture.specs.declared.capture.Step.{Step}
use Rattle.vq_capture_check.specs.declared.sites.Site.{Site}
use Rattle.vq_capture_check.specs.declared.sites.Site.TheVariants.{OnQueue, OnThread}
use Rattle.vq_capture_touched.specs.declared.touch.StepLanes.{StepLanes}

abbrev pub same_site : Site → Site → Bool
same_site (OnQueue p) (OnQueue q) = p == q
same_site (OnThread h) (OnThread g) = h == g
same_site a b = false

-- whether both are queues, or both threads
abbrev pub same_kind : Site → Site → Bool
same_kind (OnQueue p) (OnQueue q) = true
same_kind (OnThread h) (OnThread g) = true
same_kind a b = false

-- a number, or the next one where a site is of the kind of another
abbrev pub counted : Site → Site → ℕ → ℕ
counted t s n = if same_kind t s then suc n else n

-- the number of a site among those of its kind, that of the first of those that are the same
abbrev pub site_number : List Site → Site → ℕ
site_number [] s = 0
site_number (t ∷ ts) s = if same_site t s then 0 else counted t s (site_number ts s)

abbrev pub has_site : List Site → Site → Bool
has_site sites s = list_any (λ t. same_site t s) sites

-- the sites with one, which comes last where it is new
abbrev pub with_site : List Site → Site → List Site
with_site sites s = if has_site sites s then sites else sites ++ s ∷ []

-- the first lane of a site of a number; that of a thread is the one thirteen lanes behind it
abbrev pub lane_from : Site → ℕ → ℕ
lane_from (OnQueue q) n = 15 * n
lane_from (OnThread h) n = 15 * n + 1

-- the first lane of a site
abbrev pub first_lane : List Site → Site → ℕ
first_lane sites s = lane_from s (site_number sites s)

-- The sites of a step: its queue, its thread, and the thread that it comes after

abbrev pub queue_site : Option ℕ → Option Site
queue_site (Some q) = Some (OnQueue q)
queue_site None = None

abbrev pub thread_site : Option ℕ → Option Site
thread_site (Some h) = Some (OnThread h)
thread_site None = None

abbrev pub after_site : Statement → Option Site
after_site (After h) = Some (OnThread h)
after_site other = None

abbrev pub with_some : List Site → Option Site → List Site
with_some sites None = sites
with_some sites (Some s) = with_site sites s

abbrev pub some_lane : List Site → Option Site → ℕ
some_lane sites None = 0
some_lane sites (Some s) = first_lane sites s

abbrev pub with_sites : List Site → Step → List Site
with_sites sites step =
    with_some (with_some (with_some sites (queue_site step.queue)) (thread_site step.thread)) (after_site step.statement)

-- the first lanes of the sites of a step
abbrev pub lanes_of : List Site → Step → StepLanes
lanes_of sites step = record {
  queue = some_lane (with_some sites (queue_site step.queue)) (queue_site step.queue);
  thread =
      some_lane (with_some (with_some sites (queue_site step.queue)) (thread_site step.thread)) (thread_site step.thread);
  after = some_lane (with_sites sites step) (after_site step.statement);
}
