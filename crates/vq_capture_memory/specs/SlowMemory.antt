-- The verdict with memory, computed slowly from its definition, by the points that come behind one.
use Rattle.std.specs.Prelude.{ℕ, Bool, true, false, List, [], ◌∷◌, ◌&&◌, ◌||◌, nat_lt, not, is_some}
use Rattle.std.specs.Prelude.{if◌then◌else◌, Option, Some, None}
use Rattle.std.specs.List.{list_any, list_all}
use Rattle.std.specs.Option.{option_map_or}
use Rattle.vq_capture.specs.declared.capture.Step.{Step}
use Rattle.vq_capture.specs.declared.capture.Fault.{Fault}
use Rattle.vq_capture.specs.Points.{Point, points_of, points_of_step}
use Rattle.vq_capture.specs.Before.{is_direct}
use Rattle.vq_capture.specs.Races.{conflict}
use Rattle.vq_capture.specs.Reading.{Read, read_capture}
use Rattle.vq_capture_laws.specs.Closure.{all_behind, is_before, is_ordered, last_that, first_race}
use Rattle.vq_capture_memory.specs.declared.verdict.MemoryVerdict.{MemoryVerdict}
use Rattle.vq_capture_memory.specs.declared.verdict.MemoryVerdict.TheVariants.{AllSeen, Racing, NotSeen, Refused}
use Rattle.vq_capture_memory.specs.Seen.{makes_available, makes_visible}
use Rattle.vq_capture_memory.specs.UnseenWrites.{is_read, asks_memory}

abbrev pub is_made_available : List Step → Point → Point → Bool
is_made_available steps x p = is_direct steps x p && makes_available p x

-- whether some point at which a write is available passes a test
abbrev pub any_available : List Step → Point → (Point → Bool) → Bool
any_available steps x test =
    (not (is_some x.stage) && test x) || list_any (λ p. is_made_available steps x p && test p) (points_of steps)

abbrev pub is_available_to : List Step → Point → Point → Bool
is_available_to steps x y =
    is_made_available steps x y || any_available steps x (λ p. is_before steps p y)

abbrev pub is_made_visible : List Step → Point → Point → Bool
is_made_visible steps y q = is_direct steps q y && makes_visible q y

abbrev pub is_visible_to : List Step → Point → Point → Bool
is_visible_to steps x y =
    any_available steps x (λ p. list_any (is_made_visible steps y) (p ∷ all_behind steps p))

abbrev pub is_delivered : List Step → Bool → Point → Point → Bool
is_delivered steps true x y = is_visible_to steps x y
is_delivered steps false x y = is_available_to steps x y

abbrev pub sees : List Step → Step → Step → Bool
sees steps a b =
    list_all (λ x. list_all (λ y. is_delivered steps (is_read b.statement) x y) (points_of_step b)) (points_of_step a)

-- whether a write is unseen by an access
abbrev pub is_unseen : List Step → Step → Step → Bool
is_unseen steps a b =
    nat_lt a.line b.line && (conflict a b && (asks_memory a b && (is_ordered steps a b && not (sees steps a b))))

-- of the pairs that pass a test and end at some steps in the order of their lines, the one that ends first, and of those
-- the one that begins last
abbrev pub first_pair : (Step → Step → Bool) → List Step → List Step → Option (Step × Step)
first_pair test steps [] = None
first_pair test steps (b ∷ bs) =
    option_map_or (λ a. Some (a, b)) (last_that (λ a. test a b) steps) (first_pair test steps bs)

-- the unseen write that is named
abbrev pub first_unseen : List Step → Option (Step × Step)
first_unseen steps = first_pair (is_unseen steps) steps steps

-- the verdict by the race and the unseen write that are named, and by the fault
abbrev pub named_first : Option (Step × Step) → Option (Step × Step) → Option Fault → MemoryVerdict
named_first (Some r) (Some u) fault =
    if nat_lt u.1.line r.1.line then NotSeen u.0.line u.1.line else Racing r.0.line r.1.line
named_first (Some r) None fault = Racing r.0.line r.1.line
named_first None (Some u) fault = NotSeen u.0.line u.1.line
named_first None None (Some fault) = Refused fault
named_first None None None = AllSeen

abbrev pub slow_memory_verdict_of : Read → MemoryVerdict
slow_memory_verdict_of read =
    named_first (first_race read.steps read.steps) (first_unseen read.steps) read.fault

-- The verdict on a text.
abbrev pub slow_memory_verdict : List ℕ → MemoryVerdict
slow_memory_verdict text = slow_memory_verdict_of (read_capture text)
