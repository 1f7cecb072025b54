-- Kinds of accesses. Those of one kind are ordered alike: what is behind one of them is behind each at no later line.
use Rattle.std.specs.Prelude.{ℕ, Bool, true, false, not, List, Option, Some, None, ◌==◌, ◌/◌, ◌&&◌, ◌||◌, nat_le, is_some}
use Rattle.std.specs.Prelude.{get_or}
use Rattle.std.specs.List.{list_any}
use Rattle.std.specs.Option.{option_map_or}
use Rattle.vq_capture.specs.declared.stage.StageMask.{StageMask}
use Rattle.vq_capture.specs.declared.statement.Range.{Range}
use Rattle.vq_capture.specs.declared.statement.Statement.{Statement}
use Rattle.vq_capture.specs.declared.statement.Statement.TheVariants.{HostAccess, CommandAccess, Transition}
use Rattle.vq_capture.specs.declared.capture.Step.{Step}
use Rattle.vq_capture.specs.Releases.{same_queue}
use Rattle.vq_capture.specs.Before.{same_thread}
use Rattle.vq_capture.specs.Races.{access_of, is_write}
use Rattle.vq_capture_touched.specs.Standing.{at_stages_of}
use Rattle.vq_capture_touched.specs.declared.kind.Kind.{Kind}
use Rattle.vq_capture_touched.specs.declared.touch.Touch.{Touch}

abbrev pub same_flag : Bool → Bool → Bool
same_flag true b = b
same_flag false b = not b

-- whether two numbers are there and are the same, or neither is
abbrev pub same_some : Option ℕ → Option ℕ → Bool
same_some (Some m) (Some n) = m == n
same_some None None = true
same_some m n = false

-- whether two sets have the same stages
abbrev pub same_mask : StageMask → StageMask → Bool
same_mask m n =
    same_flag m.begin n.begin && same_flag m.indirect n.indirect && same_flag m.input n.input
    && same_flag m.vertex n.vertex && same_flag m.early n.early && same_flag m.fragment n.fragment
    && same_flag m.late n.late && same_flag m.color n.color && same_flag m.compute n.compute
    && same_flag m.copy n.copy && same_flag m.host n.host && same_flag m.other n.other && same_flag m.end n.end

-- whether lines that say this are accesses that are ordered alike, if they are of one queue or thread and at one line
abbrev pub are_alike : Statement → Statement → Bool
are_alike (HostAccess a) (HostAccess b) = true
are_alike (CommandAccess a m) (CommandAccess b n) = same_mask m.stages n.stages
are_alike (Transition f m a) (Transition g n b) = same_mask m.stages n.stages
are_alike said other = false

-- the same, or neither is an access
abbrev pub same_order : Statement → Statement → Bool
same_order said other =
    are_alike said other || (not (is_some (access_of said)) && not (is_some (access_of other)))

abbrev pub writes : Statement → Bool
writes said = option_map_or (λ a. is_write a.kind) (access_of said) false

abbrev pub range_of : Statement → Range
range_of said = option_map_or (λ a. a.range) (access_of said) (record { offset = 0; length = 0 })

-- whether two accesses are of one kind
abbrev pub same_kind : Touch → Touch → Bool
same_kind a b =
    same_some a.step.queue b.step.queue && same_some a.step.thread b.step.thread
    && (a.at.queue == b.at.queue) && (a.at.thread == b.at.thread)
    && same_order a.step.statement b.step.statement && same_flag (writes a.step.statement) (writes b.step.statement)

-- Whether an access may stand for some of a kind, of which this is one: if both read, it comes behind this one.
abbrev pub may_stand : Step → Step → Bool
may_stand w latest =
    writes w.statement
    || (not (writes latest.statement)
    && (same_thread latest.thread w.thread
    || (same_queue latest.queue w.queue && at_stages_of w.statement latest.statement)))

-- The accesses of a kind that are kept are listed by their first units, each with its stamp.

abbrev pub has_place : List (ℕ × ℕ) → ℕ → ℕ → Bool
has_place places offset stamp = list_any (λ p. (p.0 == offset) && (p.1 == stamp)) places

-- the line of the part in which a unit stands
abbrev pub line_at : Kind → ℕ → ℕ
line_at kind unit = get_or kind.lines.items (unit / kind.width) kind.latest.step.line

-- whether a kind lists an access: it is of that kind, not below the latest, not longer than the widest, in its place,
-- and not below the line of the part in which it begins
abbrev pub lists : Kind → ℕ → Touch → Bool
lists kind stamp t =
    same_kind kind.latest t && nat_le t.step.line kind.latest.step.line
    && nat_le (range_of t.step.statement).length kind.widest
    && has_place kind.places.keys (range_of t.step.statement).offset stamp
    && nat_le t.step.line (line_at kind (range_of t.step.statement).offset)

-- whether one of some kinds lists an access
abbrev pub is_listed : List Kind → ℕ → Touch → Bool
is_listed kinds stamp t = list_any (λ k. lists k stamp t) kinds
