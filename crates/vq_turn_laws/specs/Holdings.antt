-- What an actor holds in a world while it waits for needs. This project's own.
use Rattle.std.specs.Prelude.{ℕ, ◌≡◌, ◌<◌, ◌≤◌, ◌+◌, ◌&&◌, ◌==◌, Bool, false, if◌then◌else◌}
use Rattle.std.specs.Prelude.{List, [], ◌∷◌, count_by, Some}
use Rattle.std.specs.Prelude.{is_some}
use Rattle.std.specs.List.{slice_get}
use Rattle.vq_model.specs.declared.script.ActorName.{ActorName}
use Rattle.vq_model.specs.declared.plan.Need.{Need}
use Rattle.vq_model.specs.Plan.{Plan, initial, resolver}
use Rattle.vq_point_laws.specs.Points.{PointState, resolves, count_of, is_reference}
use Rattle.vq_turns.specs.declared.task.Task.{Task}
use Rattle.vq_turns.specs.declared.look.Holding.{Holding}
use Rattle.vq_turns.specs.Turns.{held_for}
use Rattle.vq_turn_laws.specs.Orders.{waited_since}

-- a fact counts one where it holds
abbrev pub bit : Bool → ℕ
bit b = if b then 1 else 0

-- how many needs of a wait that an operation resolves have a reference
abbrev pub needs_held : Plan → ℕ → List Holding → ℕ → List Need → ℕ
needs_held p e hs k [] = 0
needs_held p e hs k (n ∷ ns) = bit (is_some (held_for k hs) && resolves p e n) + needs_held p e hs (k + 1) ns

-- whether what is held is a reference to a point while it carries an operation
abbrev pub is_holding : ℕ → ℕ → Holding → Bool
is_holding q e h = (q == h.point) && (e == h.op)

-- What an actor holds in a job while it waits for needs (none: between waits) is so: its references in the
-- world are those that it holds, each for a need above the initial value that its operation resolves. While no
-- need is met there is a reference for each that was taken for the wait, and none of them was looked at; behind
-- it the wait has taken at most one for each need.
pub record HoldsTruly (p : Plan) (w : PointState) (a : ActorName) (before : List Task) (j : ℕ) (ns : List Need)
    (holding : List Holding) (met : Bool) : Type 0 where
  pub tie : (q e : ℕ) → count_by (is_reference a q e) w.held ≡ count_by (is_holding q e) holding
  pub of_need : met ≡ false → (k : ℕ) (h : Holding) → held_for k holding ≡ Some h → (n : Need) →
      slice_get ns k ≡ Some n → resolver p n.chain n.value ≡ Some h.op
  pub above : met ≡ false → (k : ℕ) (h : Holding) → held_for k holding ≡ Some h → (n : Need) →
      slice_get ns k ≡ Some n → initial p n.chain < n.value
  pub referred : (e : ℕ) → count_of (w.referred j) e
      ≤ waited_since p e before + (if met then count_by (resolves p e) ns else needs_held p e holding 0 ns)
  pub looked : (e : ℕ) →
      count_of (w.looked j) e + (if met then 0 else needs_held p e holding 0 ns) ≤ count_of (w.referred j) e
