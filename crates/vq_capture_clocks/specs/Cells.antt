-- What was brought to lanes, by their numbers. Lanes of a number to which the same was brought share a clock.
use Rattle.std.specs.Prelude.{ℕ, Bool, false, List, [], ◌∷◌, ◌≡◌, ◌/◌, ◌%◌, ◌==◌, ◌&&◌, not, true, take, if◌then◌else◌}
use Rattle.std.specs.Option.{option_map_or}
use Rattle.std.specs.Ordering.{nat_cmp}
use Rattle.std.specs.BTreeMap.{BTreeMap, get}
use Rattle.std.specs.List.{list_any}
use Rattle.vq_capture_clocks.specs.declared.groups.Group.{Group}
use Rattle.vq_capture_clocks.specs.declared.cells.SiteCells.{SiteCells}
use Rattle.vq_capture_clocks.specs.Blocks.{says}
use Rattle.vq_capture_clocks.specs.Clocks.{IsBelow, no_clock, join}
use Rattle.vq_capture_clocks.specs.LaneSets.{has_lane}

-- what was brought to the lane of a place: the clock of the first group that has it
abbrev pub cell_in : List Group → ℕ → ℕ → ℕ
cell_in [] place = no_clock
cell_in (x ∷ xs) place = if has_lane x.lanes place then says x.clock.items else cell_in xs place

-- whether one of some groups has a place
abbrev pub hold : List Group → ℕ → Bool
hold groups place = list_any (λ x. has_lane x.lanes place) groups

-- what was brought to each lane
abbrev pub cells_of : BTreeMap ℕ SiteCells → ℕ → ℕ → ℕ
cells_of cells lane = option_map_or (λ x. cell_in x.groups.items (lane % 15)) (get nat_cmp cells (lane / 15)) no_clock

-- cells of which those of a number that are in a set were given a clock
abbrev pub given_in : (ℕ → ℕ → ℕ) → ℕ → ℕ → (ℕ → ℕ) → ℕ → ℕ → ℕ
given_in cells number set c lane =
    if lane / 15 == number && has_lane set (lane % 15) then join (cells lane) c else cells lane

-- the same of the places of one number
abbrev pub brought_in : (ℕ → ℕ → ℕ) → ℕ → (ℕ → ℕ) → ℕ → ℕ → ℕ
brought_in cells set c place = if has_lane set place then join (cells place) c else cells place

-- How far a clock was brought to the places of a set: to those of the groups in front of one. Those that are left weren't
-- met; those that are the same have just this clock now, and no group needs to have them.
pub record IsBringing (first : List Group) (set : ℕ) (c : ℕ → ℕ) (groups : List Group) (at left same : ℕ) : Type 0 where
  pub unmet : (p : ℕ) → has_lane left p ≡ true → has_lane set p ≡ true
  pub behind : (p : ℕ) → has_lane left p ≡ true → hold (take at groups) p ≡ false
  pub apart : (p : ℕ) → has_lane left p ≡ true → has_lane same p ≡ false
  pub among : (p : ℕ) → has_lane same p ≡ true → has_lane set p ≡ true
  pub below : (p : ℕ) → has_lane same p ≡ true → IsBelow (cell_in first p) c
  pub others : (p : ℕ) → has_lane same p ≡ false → cell_in groups p ≡ (if has_lane set p && not (has_lane left p) then join (cell_in first p) c else cell_in first p)

-- all that was brought to some lanes
abbrev pub all_brought : (ℕ → ℕ → ℕ) → List ℕ → ℕ → ℕ
all_brought cells [] = no_clock
all_brought cells (k ∷ ks) = join (cells k) (all_brought cells ks)

-- How far what was brought to the places of a set was taken: of the groups in front of one.
pub record IsTaking (groups : List Group) (set : ℕ) (c : ℕ → ℕ) (at left : ℕ) (now : ℕ → ℕ) : Type 0 where
  pub least : IsBelow c now
  pub most : (d : ℕ → ℕ) → IsBelow c d → ((p : ℕ) → has_lane set p ≡ true → IsBelow (cell_in groups p) d) → IsBelow now d
  pub taken : (p : ℕ) → has_lane set p ≡ true → has_lane left p ≡ false → IsBelow (cell_in groups p) now
  pub unmet : (p : ℕ) → has_lane left p ≡ true → has_lane set p ≡ true
  pub behind : (p : ℕ) → has_lane left p ≡ true → hold (take at groups) p ≡ false

-- A clock that says just what another one does and what was brought to the places of a set.
pub record HasTaken (cells : ℕ → ℕ → ℕ) (set : ℕ) (c now : ℕ → ℕ) : Type 0 where
  pub least : IsBelow c now
  pub taken : (p : ℕ) → has_lane set p ≡ true → IsBelow (cells p) now
  pub most : (d : ℕ → ℕ) → IsBelow c d → ((p : ℕ) → has_lane set p ≡ true → IsBelow (cells p) d) → IsBelow now d
