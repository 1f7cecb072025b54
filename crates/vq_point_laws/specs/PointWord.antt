-- The word of a point: 64 bits. The layout is this project's own.
use Rattle.std.specs.Prelude.{ℕ, Bool, ◌≡◌, ◌^◌, ◌<◌, false, true, ◌+◌, ◌*◌, ◌/◌, ◌%◌}
use Rattle.std.specs.Prelude.{◌==◌, nat_lt, ◌&&◌, ◌||◌}
use Rattle.std.specs.Prelude.{if◌then◌else◌, Option, Some, None}

-- What a point's word says: the operation that it carries, its references, whether it is signaled,
-- whether it is held.
pub record PointWord : Type 0 where
  pub op : ℕ
  pub refs : ℕ
  pub signaled : Bool
  pub held : Bool

-- a word's parts fit their bits, and one that isn't held says nothing else
pub record IsPointWord (w : PointWord) : Type 0 where
  pub op : w.op < 2 ^ 32
  pub refs : w.refs < 2 ^ 16
  pub unheld : w.held ≡ false → w ≡ record { op = 0; refs = 0; signaled = false; held = false }

abbrev pub bit : Bool → ℕ
bit true = 1
bit false = 0

-- bits 0 to 31 are the operation, 32 to 47 the references, 48 whether it is signaled, 49 whether
-- it is held
abbrev pub pack : PointWord → ℕ
pack w = w.op + 2 ^ 32 * w.refs + 2 ^ 48 * bit w.signaled + 2 ^ 49 * bit w.held

-- the parts of a word
abbrev pub parts : ℕ → PointWord
parts word =
    record {
      op = word % 2 ^ 32;
      refs = word / 2 ^ 32 % 2 ^ 16;
      signaled = word / 2 ^ 48 % 2 == 1;
      held = word / 2 ^ 49 % 2 == 1;
    }

-- a word of which a bit of 50 to 63 is set, or one that isn't held and isn't 0, is no point's word
abbrev pub unpack : ℕ → Option PointWord
unpack word =
    if nat_lt word (2 ^ 50)
    && ((word / 2 ^ 49 % 2 == 1) || (word == 0)) then Some (parts word) else None
