-- Watches that tell the same of all lines to come.
use Rattle.std.specs.Prelude.{ℕ, Bool, false, List, ◌≡◌, ◌≤◌, ◌⊎◌, map, true}
use Rattle.vq_capture.specs.Points.{Point, IsMember, points_of_step}
use Rattle.vq_capture_check.specs.declared.signals.Signal.{Signal}
use Rattle.vq_capture_touched.specs.declared.touch.Touch.{Touch}
pub use Rattle.vq_capture_clocks.specs.Clocks.{tells, TellsAs}
use Rattle.vq_capture_clocks.specs.Levels.{is_listed}
use Rattle.vq_capture_check.specs.Lanes.{given}
use Rattle.vq_capture_check.specs.Watching.{Watched, Touched, SignalClock, all_touched}

-- a signal, and whether its clock does
pub record SignalTelling : Type 0 where
  pub line : ℕ
  pub signal : Signal
  pub telling : Bool

abbrev pub telling_of : ℕ → ℕ → SignalClock → SignalTelling
telling_of line lane x = record { line = x.line; signal = x.signal; telling = tells line lane x.clock }

-- A lane is asked for a line: the line is to come, from a number on, or it is that of an access that is kept, a point
-- of which gives the lane.
abbrev pub IsAsked : (ℕ → Touched) → ℕ → ℕ → ℕ → Type 0
IsAsked touched n line lane =
    (n ≤ line)
    ⊎ ((r : ℕ) × (t : Touch) × (x : Point) × IsMember t (all_touched (touched r)) × (t.step.line ≡ line)
    × IsMember x (points_of_step t.step) × IsMember lane (given t.at x))

-- Clocks that tell the same of each lane, for lines from its own on that are listed.
abbrev pub TellsAsked : (ℕ → ℕ) → List ℕ → ℕ → (ℕ → ℕ) → (ℕ → ℕ) → Type 0
TellsAsked least lines next c d =
    (line lane : ℕ) → least lane ≤ line → is_listed lines next line ≡ true → tells line lane c ≡ tells line lane d

-- clocks that tell the same wherever they are asked
abbrev pub TellAlike : (ℕ → Touched) → ℕ → (ℕ → ℕ → ℕ) → (ℕ → ℕ → ℕ) → Type 0
TellAlike touched n u v =
    (line lane : ℕ) → IsAsked touched n line lane → (k : ℕ) → tells line lane (u k) ≡ tells line lane (v k)

-- the same of what was brought to lanes that aren't gone
abbrev pub LanesTellAlike : (ℕ → Touched) → ℕ → (ℕ → Bool) → (ℕ → ℕ → ℕ) → (ℕ → ℕ → ℕ) → Type 0
LanesTellAlike touched n gone u v =
    (line lane : ℕ) → IsAsked touched n line lane →
    (k : ℕ) → gone k ≡ false → tells line lane (u k) ≡ tells line lane (v k)

abbrev pub SignalsTellAlike : (ℕ → Touched) → ℕ → List SignalClock → List SignalClock → Type 0
SignalsTellAlike touched n xs ys =
    (line lane : ℕ) → IsAsked touched n line lane → map (telling_of line lane) xs ≡ map (telling_of line lane) ys

-- Two watches of the same sites, cut and accesses, whose clocks tell the same wherever they are asked. What a clock
-- says beyond that is asked by no line from a number on, and what was brought to lanes that are gone is taken by none.
pub record AreAlike (n : ℕ) (gone : ℕ → Bool) (v w : Watched) : Type 0 where
  pub sites : v.sites ≡ w.sites
  pub cut : v.cut ≡ w.cut
  pub touched : v.touched ≡ w.touched
  pub cells : LanesTellAlike v.touched n gone v.cells w.cells
  pub lines : TellAlike v.touched n v.lines w.lines
  pub signals : SignalsTellAlike v.touched n v.signals w.signals
