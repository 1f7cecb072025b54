-- A timeline of a layer is where a run of calls of a live timeline led.
use Rattle.std.specs.Prelude.{ℕ, List, ◌≡◌}
use Rattle.vq_live.specs.Live.{Live, opened}
use Rattle.vq_live.specs.Runs.{Event, IsRun, after_all}
use Rattle.vq_layer.specs.Layer.{Layer, live_at}

-- a run from an opening leads to this state
pub record HasLived (t : Live) : Type 0 where
  pub initial : ℕ
  pub events : List Event
  pub run : IsRun (opened initial) events
  pub leads : after_all (opened initial) events ≡ t

-- one does to each timeline of a layer
abbrev pub HaveLived : List Live → Type 0
HaveLived ts = (n : ℕ) → HasLived (live_at ts n)
