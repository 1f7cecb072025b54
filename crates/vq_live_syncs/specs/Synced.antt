-- A live timeline with the numbers of its takes. This project's own.
use Rattle.std.specs.Prelude.{ℕ, Bool, true, List, ◌≡◌, length}
use Rattle.vq_live.specs.Live.{Live, KeepsLive}
use Rattle.vq_live_syncs.specs.declared.timeline.Reach.{Reach}
use Rattle.vq_live_syncs.specs.declared.timeline.Reach.TheVariants.{Opened, Host, Work}

-- What callers see of it: the timeline, the number of each point's last take, the number of the next take, and how the
-- payload was reached.
pub record Synced : Type 0 where
  pub live : Live
  pub numbers : List ℕ
  pub next : ℕ
  pub reach : Reach

-- a payload that was reached by work is that operation's value, and the sync object of its own take was seen signaled
abbrev pub IsReached : (ℕ → ℕ → Bool) → ℕ → Reach → Type 0
IsReached signaled payload Opened = Unit {0}
IsReached signaled payload Host = Unit {0}
IsReached signaled payload (Work taken) =
    (taken.given.value ≡ payload) × (signaled taken.given.point taken.number ≡ true)

-- The timeline keeps its law, each point has a number, and the payload was reached as is said.
pub record IsSound (signaled : ℕ → ℕ → Bool) (t : Synced) : Type 0 where
  pub kept : KeepsLive t.live
  pub each : length t.numbers ≡ length t.live.slots
  pub reached : IsReached signaled t.live.payload t.reach
