-- The state of a live timeline, and its law.
use Rattle.std.specs.Prelude.{ℕ, Bool, true, false, List, [], ◌∷◌, ◌≡◌, ◌<◌, ◌≤◌, ◌+◌, ◌==◌, ◌&&◌, not}
use Rattle.std.specs.Prelude.{length, take, drop}
use Rattle.std.specs.List.{slice_index_or, list_any}
use Rattle.vq_live.specs.declared.answers.Given.{Given}
use Rattle.vq_live.specs.declared.answers.Slot.{Slot}

-- What callers see of a live timeline.
pub record Live : Type 0 where
  -- the value that is reached
  pub payload : ℕ
  -- the operations that aren't completed, by value; the first ones of them are installed
  pub ops : List Given
  pub installed : ℕ
  -- the points by number, and the free ones, the one freed last first
  pub slots : List Slot
  pub free : List ℕ
  -- so many takes have their memory and their points' numbers already
  pub reserved : ℕ

abbrev pub opened : ℕ → Live
opened initial = record { payload = initial; ops = []; installed = 0; slots = []; free = []; reserved = 0 }

-- the installed operations, and those only taken
abbrev pub pending : Live → List Given
pending t = take t.installed t.ops

abbrev pub taken : Live → List Given
taken t = drop t.installed t.ops

-- the value of the last of these operations, or the one before them
abbrev pub last_value : ℕ → List Given → ℕ
last_value n [] = n
last_value n (x ∷ xs) = last_value x.value xs

-- the value of the last pending operation, or the one reached where none is pending
abbrev pub pending_value : Live → ℕ
pending_value t = last_value t.payload (pending t)

-- the values rise above this one
abbrev pub RisesFrom : ℕ → List Given → Type 0
RisesFrom n [] = Unit {0}
RisesFrom n (x ∷ xs) = (n < x.value) × RisesFrom x.value xs

-- a point's slot; of a number that is no point's, one that nobody holds and that carries nothing
abbrev pub no_slot : Slot
no_slot = record { refs = 0; out = false }

abbrev pub slot_at : List Slot → ℕ → Slot
slot_at slots point = slice_index_or slots point no_slot

-- each operation's point is one of the timeline, and is out
abbrev pub AreOut : List Slot → List Given → Type 0
AreOut slots [] = Unit {0}
AreOut slots (x ∷ xs) = ((x.point < length slots) × (((slot_at slots x.point).out ≡ true) × AreOut slots xs))

-- no two operations share a point
abbrev pub IsUnused : ℕ → List Given → Type 0
IsUnused p [] = Unit {0}
IsUnused p (x ∷ xs) = ¬ (x.point ≡ p) × IsUnused p xs

abbrev pub CarryOnce : List Given → Type 0
CarryOnce [] = Unit {0}
CarryOnce (x ∷ xs) = IsUnused x.point xs × CarryOnce xs

-- a point is idle where it carries nothing and nobody holds it; only held where it carries nothing
abbrev pub is_idle : Slot → Bool
is_idle s = (s.refs == 0) && not s.out

abbrev pub is_only_held : Slot → Bool
is_only_held s = not (s.refs == 0) && not s.out

abbrev pub is_out : Slot → Bool
is_out s = s.out

-- how many slots pass a test
abbrev pub one_if : Bool → ℕ
one_if true = 1
one_if false = 0

abbrev pub count_of : (Slot → Bool) → List Slot → ℕ
count_of test [] = 0
count_of test (s ∷ slots) = one_if (test s) + count_of test slots

-- each free point is one of the timeline, and idle
abbrev pub AreIdle : List Slot → List ℕ → Type 0
AreIdle slots [] = Unit {0}
AreIdle slots (p ∷ ps) = ((p < length slots) × ((is_idle (slot_at slots p) ≡ true) × AreIdle slots ps))

abbrev pub IsAbsent : ℕ → List ℕ → Type 0
IsAbsent p [] = Unit {0}
IsAbsent p (x ∷ xs) = ¬ (x ≡ p) × IsAbsent p xs

abbrev pub AreDistinct : List ℕ → Type 0
AreDistinct [] = Unit {0}
AreDistinct (x ∷ xs) = IsAbsent x xs × AreDistinct xs

-- The law of the free points: each is idle, no two are one, and none is lost.
pub record KeepsFree (slots : List Slot) (free : List ℕ) : Type 0 where
  pub idle : AreIdle slots free
  pub distinct : AreDistinct free
  -- there are as many as there are idle points
  pub none_lost : length free ≡ count_of is_idle slots

-- The law of a live timeline.
pub record KeepsLive (t : Live) : Type 0 where
  -- the values of the operations rise above the payload
  pub rising : RisesFrom t.payload t.ops
  -- there are as many operations as are installed
  pub within : t.installed ≤ length t.ops
  pub out : AreOut t.slots t.ops
  pub once : CarryOnce t.ops
  -- as many points are out as there are operations
  pub each_out : count_of is_out t.slots ≡ length t.ops
  pub points : KeepsFree t.slots t.free

-- whether an operation has this point, and whether this point is among the free ones
abbrev pub carries : List Given → ℕ → Bool
carries ops point = list_any (λ x. x.point == point) ops

abbrev pub is_among : List ℕ → ℕ → Bool
is_among free point = list_any (λ p. p == point) free

-- The points are parted: each carries an operation, or is only held, or is free, and no two of these.
abbrev pub AreParted : Live → Type 0
AreParted t =
    (p : ℕ) → p < length t.slots →
    one_if (carries t.ops p) + one_if (is_only_held (slot_at t.slots p)) + one_if (is_among t.free p) ≡ 1
