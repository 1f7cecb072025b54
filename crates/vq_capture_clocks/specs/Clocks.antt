-- Clocks. A clock says of each lane the line above which all points that give that lane are before something.
use Rattle.std.specs.Prelude.{ℕ, Bool, List, [], ◌∷◌, ◌≡◌, ◌≤◌, ◌==◌, nat_lt, if◌then◌else◌}
use Rattle.std.specs.List.{list_any}

abbrev pub no_clock : ℕ → ℕ
no_clock = λ k. 0

abbrev pub later : ℕ → ℕ → ℕ
later a b = if nat_lt a b then b else a

-- what one of two clocks says
abbrev pub join : (ℕ → ℕ) → (ℕ → ℕ) → ℕ → ℕ
join c d = λ k. later (c k) (d k)

-- whether a clock says at most what another one does
abbrev pub IsBelow : (ℕ → ℕ) → (ℕ → ℕ) → Type 0
IsBelow c d = (k : ℕ) → c k ≤ d k

-- a clock that says a line of a lane, or a later one
abbrev pub raise : (ℕ → ℕ) → ℕ → ℕ → ℕ → ℕ
raise c lane line = λ k. if k == lane then later (c k) line else c k

-- whether a clock says of one of some lanes that a line is above its own
abbrev pub knows : (ℕ → ℕ) → ℕ → List ℕ → Bool
knows c line lanes = list_any (λ k. nat_lt line (c k)) lanes

-- Cells: what the points that give a lane brought

abbrev pub with_cell : (ℕ → ℕ → ℕ) → ℕ → (ℕ → ℕ) → ℕ → ℕ → ℕ
with_cell cells lane c = λ k. if k == lane then join (cells k) c else cells k

-- a clock that took some lanes at a line
abbrev pub take_lanes : (ℕ → ℕ → ℕ) → ℕ → (ℕ → ℕ) → List ℕ → ℕ → ℕ
take_lanes cells line c [] = c
take_lanes cells line c (k ∷ ks) = take_lanes cells line (raise (join c (cells k)) k line) ks

-- cells of which some were given a clock
abbrev pub give_lanes : (ℕ → ℕ → ℕ) → (ℕ → ℕ) → List ℕ → ℕ → ℕ → ℕ
give_lanes cells c [] = cells
give_lanes cells c (k ∷ ks) = give_lanes (with_cell cells k c) c ks

-- The clocks of lines that release something

abbrev pub with_line : (ℕ → ℕ → ℕ) → ℕ → (ℕ → ℕ) → ℕ → ℕ → ℕ
with_line lines n c = λ m. if n == m then c else lines m

abbrev pub take_lines : (ℕ → ℕ → ℕ) → (ℕ → ℕ) → List ℕ → ℕ → ℕ
take_lines lines c [] = c
take_lines lines c (n ∷ ns) = take_lines lines (join c (lines n)) ns

-- What is asked of clocks

-- whether a clock says of a lane that a line is above its own
abbrev pub tells : ℕ → ℕ → (ℕ → ℕ) → Bool
tells line lane c = nat_lt line (c lane)

-- Clocks that tell the same of each lane, for lines from its own on.
abbrev pub TellsAs : (ℕ → ℕ) → (ℕ → ℕ) → (ℕ → ℕ) → Type 0
TellsAs least c d = (line lane : ℕ) → least lane ≤ line → tells line lane c ≡ tells line lane d
