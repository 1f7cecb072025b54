-- What maps have.
use Rattle.std.specs.Prelude.{ℕ, List, [], Option}
use Rattle.std.specs.Option.{option_map_or}
use Rattle.std.specs.Ordering.{nat_cmp, ordering_then}
use Rattle.std.specs.declared.cmp.Ordering.{Ordering}
use Rattle.std.specs.BTreeMap.{BTreeMap, get}
use Rattle.std.specs.Global.{Vec}

-- what a map has at a number
abbrev pub has : {X : Type 0} → BTreeMap ℕ X → ℕ → Option X
has map key = get nat_cmp map key

-- the list that a map has at a number, which is empty where it has none
abbrev pub items_at : {X : Type 0} → BTreeMap ℕ (Vec X) → ℕ → List X
items_at map key = option_map_or (λ v. v.items) (has map key) []

-- how pairs compare
abbrev pub pair_cmp : ℕ × ℕ → ℕ × ℕ → Ordering
pair_cmp x y = ordering_then (nat_cmp x.0 y.0) (nat_cmp x.1 y.1)

-- what a map has at two numbers
abbrev pub has_pair : {X : Type 0} → BTreeMap (ℕ × ℕ) X → ℕ → ℕ → Option X
has_pair map p q = get pair_cmp map (p, q)
