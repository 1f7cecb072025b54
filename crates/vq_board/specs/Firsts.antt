-- How many of each chain's first operations a pass knows made. This project's own.
use Rattle.std.specs.Prelude.{ℕ, Bool, false, true, List, [], ◌∷◌, ◌≡◌, ◌==◌, ◌||◌, ◌&&◌}
use Rattle.std.specs.Prelude.{◌<◌, ◌≤◌, ◌+◌, Some, length, slice_index, slice_set, if◌then◌else◌}
use Rattle.std.specs.List.{slice_get}
use Rattle.std.specs.Option.{option_map_or}
use native.Mathlib.Bridge.{le_prop}
use native.Mathlib.Nat.{ℕ_set}
use Rattle.std.proofs.Math.Bool.{Bool-set}
use Rattle.atomic_table.specs.Table.{Me}
use Rattle.vq_model.specs.declared.plan.Op.{Op}
use Rattle.vq_model.specs.Plan.{Plan, chain}
use Rattle.vq_point.specs.declared.PointWord.{PointWord}
use Rattle.vq_board_laws.specs.declared.view.Fact.{Fact}
use Rattle.vq_board_laws.specs.declared.view.Fact.TheVariants.{Made, Past}
use Rattle.vq_board_laws.specs.declared.view.LoggedBuffers.{LoggedBuffers}
use Rattle.vq_board_laws.specs.declared.view.OpState.{OpState}
use Rattle.vq_board_laws.specs.declared.view.OpState.TheVariants.{Past as PastOp}
use Rattle.vq_board_laws.specs.declared.view.View.{View}
use Rattle.vq_board_laws.specs.Knowledge.{KnowsMade}

-- a fact on the list says that the operation is made, or completed
abbrev pub shows_made : List Fact → ℕ → Bool
shows_made [] e = false
shows_made (Made f ∷ fs) e = (f == e) || shows_made fs e
shows_made (Past f ∷ fs) e = (f == e) || shows_made fs e
shows_made (other ∷ fs) e = shows_made fs e

-- the first n operations of a chain are shown made
abbrev pub ShowsFirst : Plan → List Fact → ℕ → ℕ → Type 0
ShowsFirst p known t n =
    (i e : ℕ) → i < n → slice_get (chain p t) i ≡ Some e → shows_made known e ≡ true

-- of each chain so many of the first operations are shown made
abbrev pub AreShown : Plan → List Fact → List ℕ → Type 0
AreShown p known counts = (t : ℕ) → ShowsFirst p known t (slice_index counts t)

-- a count for each chain, none above the chain's length, and so many of its first operations shown
-- made
pub record AreFirsts (p : Plan) (known : List Fact) (counts : List ℕ) : Type 0 where
  pub whole : length counts ≡ length p.chains
  pub within : (t : ℕ) → slice_index counts t ≤ length (chain p t)
  pub shown : AreShown p known counts

-- the same of a pass
abbrev pub AreCounted : List ℕ → Me LoggedBuffers View → Type 0
AreCounted counts m = AreFirsts m.0.plan m.0.known counts

-- any two proofs of it are equal
pub AreCounted-prop : (counts : List ℕ) (m : Me LoggedBuffers View) → IsProp (AreCounted counts m)
AreCounted-prop counts m = Prim.hlevel (ℕ_set, le_prop, Bool-set)

-- the counts after an operation was shown made: its chain's is raised where the operation is the next
abbrev pub raised : List ℕ → Op → List ℕ
raised counts o =
    if slice_index counts o.chain == o.index then slice_set counts o.chain (o.index + 1) else counts

abbrev pub counted : List Op → ℕ → List ℕ → List ℕ
counted ops e counts = option_map_or (raised counts) (slice_get ops e) counts

-- so after a look at an operation that is past, and at a point that is signaled
abbrev pub counted_state : List Op → ℕ → OpState → List ℕ → List ℕ
counted_state ops e PastOp counts = counted ops e counts
counted_state ops e other counts = counts

abbrev pub counted_word : List Op → PointWord → List ℕ → List ℕ
counted_word ops word counts =
    if word.held && word.signaled then counted ops word.op counts else counts

-- each operation stands at its place in its chain
abbrev pub StandInChains : Plan → Type 0
StandInChains p =
    (e : ℕ) (o : Op) → slice_get p.ops e ≡ Some o → slice_get (chain p o.chain) o.index ≡ Some e

-- the first n operations of a chain are known made
abbrev pub KnowsFirst : Plan → List Fact → ℕ → ℕ → Type 0
KnowsFirst p known t n = (i e : ℕ) → i < n → slice_get (chain p t) i ≡ Some e → KnowsMade p known e
