-- Queues and threads that are gone.
use Rattle.std.specs.Prelude.{ℕ, Bool, true, false, List, ◌≡◌, ◌<◌, ◌+◌, ◌/◌, ◌%◌, ◌==◌, ◌&&◌, ◌||◌, nat_lt, not, is_some}
use Rattle.std.specs.Option.{option_map_or}
use Rattle.vq_capture.specs.declared.capture.Step.{Step}
use Rattle.vq_capture.specs.declared.statement.Statement.{Statement}
use Rattle.vq_capture.specs.declared.statement.Statement.TheVariants.{Forget}
use Rattle.vq_capture_touched.specs.declared.touch.StepLanes.{StepLanes}
pub use Rattle.vq_capture_clocks.specs.Gone.{is_gone}
use Rattle.vq_capture_check.specs.declared.sites.Site.{Site}
use Rattle.vq_capture_check.specs.declared.sites.Site.TheVariants.{OnQueue, OnThread}
use Rattle.vq_capture_check.specs.Lanes.{is_told}
use Rattle.vq_capture_check.specs.PastSites.{numbered}
use Rattle.vq_capture_check.specs.Watching.{is_command_access}

-- No lane that a point of a step takes is gone, by the first lanes of its sites.
pub record IsOpen (gone : ℕ → Bool) (at : StepLanes) (b : Step) : Type 0 where
  pub queue : (is_some b.queue || is_command_access b.statement) ≡ true → (p : ℕ) → p < 14 → gone (at.queue + p) ≡ false
  pub thread : is_some b.thread ≡ true → gone (at.thread + 13) ≡ false
  pub after : is_told b.statement ≡ true → gone (at.after + 13) ≡ false

-- whether a lane is one of a site of a number
abbrev pub is_lane_of : Site → ℕ → ℕ → Bool
is_lane_of (OnQueue q) n = λ lane. lane / 15 == n && nat_lt (lane % 15) 14
is_lane_of (OnThread h) n = λ lane. lane / 15 == n && not (nat_lt (lane % 15) 14)

-- whether it is one of a site, if that came
abbrev pub has_site_lane : List Site → Site → ℕ → Bool
has_site_lane sites s lane = option_map_or (λ n. is_lane_of s n lane) (numbered sites s) false

-- the lanes that are gone behind a line: those of the queue and of the thread that it forgets, too
abbrev pub gone_with : List Site → (ℕ → Bool) → Statement → ℕ → Bool
gone_with sites gone (Forget x) = λ k. (gone k || has_site_lane sites (OnQueue x) k) || has_site_lane sites (OnThread x) k
gone_with sites gone other = gone
