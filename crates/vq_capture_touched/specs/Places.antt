-- The stamps of places by their first units.
use Rattle.std.specs.Prelude.{ℕ, List, map, filter, nat_le, if◌then◌else◌, Option, Some, None}
use Rattle.std.specs.Ordering.{nat_cmp, ordering_then}
use Rattle.std.specs.declared.cmp.Ordering.{Ordering}
use Rattle.std.specs.declared.ops.Bound.TheVariants.{Included, Excluded, Unbounded}
use Rattle.std.specs.BTreeMap.Range.{range_contains}

-- how pairs compare
abbrev pub pair_cmp : ℕ × ℕ → ℕ × ℕ → Ordering
pair_cmp x y = ordering_then (nat_cmp x.0 y.0) (nat_cmp x.1 y.1)

-- of those that begin at a unit or behind it
abbrev pub stamps_from : ℕ → List (ℕ × ℕ) → List ℕ
stamps_from first places = map (λ p. p.1) (filter (range_contains pair_cmp (Included (first, 0)) Unbounded) places)

-- of those among them that begin before another unit
abbrev pub stamps_within : ℕ → ℕ → List (ℕ × ℕ) → List ℕ
stamps_within first end places =
    map (λ p. p.1) (filter (range_contains pair_cmp (Included (first, 0)) (Excluded (end, 0))) places)

-- of those before one that is there, and isn't above the first
abbrev pub stamps_up_to : ℕ → Option ℕ → List (ℕ × ℕ) → List ℕ
stamps_up_to first None places = stamps_from first places
stamps_up_to first (Some end) places =
    if nat_le first end then stamps_within first end places else stamps_from first places
