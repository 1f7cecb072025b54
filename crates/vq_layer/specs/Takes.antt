-- Taking points for the signals of a batch, no two of which are of one timeline.
use Rattle.std.specs.Prelude.{ℕ, true, false, List, [], ◌∷◌, ◌≡◌, ◌<◌, Option, None, Some, length, slice_set}
use Rattle.vq_live.specs.Live.{Live}
use Rattle.vq_live.specs.Calls.{take_fault, after_take, given_to, after_reserve, LacksNumbers}
use Rattle.vq_live.specs.declared.answers.TakeFault.{TakeFault}
use Rattle.vq_live.specs.declared.answers.TakeFault.TheVariants as take_as
use Rattle.vq_live.specs.declared.answers.ReserveFault.{ReserveFault}
use Rattle.vq_live.specs.declared.answers.ReserveFault.TheVariants as reserve_as
use Rattle.vq_layer.specs.declared.answers.Wanted.{Wanted}
use Rattle.vq_layer.specs.declared.answers.Signal.{Signal}
use Rattle.vq_layer.specs.declared.answers.SubmitFault.{SubmitFault}
use Rattle.vq_layer.specs.declared.answers.SubmitFault.TheVariants.{NotTaken, NoMemory}
use Rattle.vq_layer.specs.Layer.{live_at}
use Rattle.vq_layer.specs.Names.{first_some, is_named}

-- the first signal for which no point would be given, memory and numbers of points aside
abbrev pub not_taken : ℕ → Option TakeFault → Option SubmitFault
not_taken n None = None
not_taken n (Some fault) = Some (NotTaken n fault)

abbrev pub first_take_fault : List Live → List Wanted → Option SubmitFault
first_take_fault ts [] = None
first_take_fault ts (w ∷ ws) =
    first_some (not_taken w.timeline (take_fault (live_at ts w.timeline) w.value)) (first_take_fault ts ws)

-- a point for one signal
abbrev pub take_in : List Live → Wanted → List Live
take_in ts w = slice_set ts w.timeline (after_take (live_at ts w.timeline) w.value)

abbrev pub signal_in : List Live → Wanted → Signal
signal_in ts w = record { timeline = w.timeline; given = given_to (live_at ts w.timeline) w.value }

-- points for all signals of a batch, in order
abbrev pub taken_all : List Live → List Wanted → List Live
taken_all ts [] = ts
taken_all ts (w ∷ ws) = taken_all (take_in ts w) ws

abbrev pub signals_all : List Live → List Wanted → List Signal
signals_all ts [] = []
signals_all ts (w ∷ ws) = signal_in ts w ∷ signals_all (take_in ts w) ws

-- no two are of one timeline, and each is of one that exists
abbrev pub AreApart : List Wanted → Type 0
AreApart [] = Unit {0}
AreApart (w ∷ ws) = (is_named w.timeline ws ≡ false) × AreApart ws

abbrev pub AreKnown : List Live → List Wanted → Type 0
AreKnown ts [] = Unit {0}
AreKnown ts (w ∷ ws) = (w.timeline < length ts) × AreKnown ts ws

-- reserving a point for each
abbrev pub reserve_in : List Live → ℕ → ℕ → List Live
reserve_in ts n count = slice_set ts n (after_reserve (live_at ts n) count)

abbrev pub reserved_all : List Live → List Wanted → List Live
reserved_all ts [] = ts
reserved_all ts (w ∷ ws) = reserved_all (reserve_in ts w.timeline 1) ws

-- nothing is reserved any more, the last one first
abbrev pub unreserved_all : List Live → List Wanted → List Live
unreserved_all ts [] = ts
unreserved_all ts (w ∷ ws) = reserve_in (unreserved_all ts ws) w.timeline 0

-- each may be taken, and needs no memory
pub record IsReserved (ts : List Live) (w : Wanted) : Type 0 where
  pub exists : w.timeline < length ts
  pub fine : take_fault (live_at ts w.timeline) w.value ≡ None
  pub room : (live_at ts w.timeline).reserved ≡ 1

abbrev pub AreReserved : List Live → List Wanted → Type 0
AreReserved ts [] = Unit {0}
AreReserved ts (w ∷ ws) = IsReserved ts w × AreReserved ts ws

-- a timeline that lacks numbers of points
pub record LackNumbers (ts : List Live) (ws : List Wanted) (n : ℕ) : Type 0 where
  pub named : is_named n ws ≡ true
  pub lacks : LacksNumbers (live_at ts n) 1

-- what a batch lacks whose take can't be reserved
abbrev pub lack_of : ℕ → ReserveFault → SubmitFault
lack_of n reserve_as.Full = NotTaken n take_as.Full
lack_of n reserve_as.NoMemory = NoMemory

-- the operations may be taken one after another
pub record MayTake (ts : List Live) (w : Wanted) : Type 0 where
  pub exists : w.timeline < length ts
  pub fine : take_fault (live_at ts w.timeline) w.value ≡ None

abbrev pub MayTakeAll : List Live → List Wanted → Type 0
MayTakeAll ts [] = Unit {0}
MayTakeAll ts (w ∷ ws) = MayTake ts w × MayTakeAll (take_in ts w) ws
