-- What the proofs of the calls on a shelf share.
use Rattle.std.proofs.Common.{◌≡◌, ℕ, zero, suc, ◌<◌, List, [], ◌∷◌, Bool, true, false, Option, Some, None}
use Rattle.std.proofs.Common.{length, map, option_map, refl, ap, ◌∙◌, arith}
use Rattle.std.specs.List.{slice_get, slice_index_or}
use Rattle.std.specs.Prelude.{if◌then◌else◌, nat_lt}
use Rattle.std.proofs.lemmas.List.{length-map}
use Rattle.std.proofs.lemmas.Option.{same_Some}
use Rattle.vq_model.specs.declared.plan.Op.{Op}
use Rattle.vq_model.specs.Plan.{Plan, chain, chain_of, value}
use Rattle.vq_ground.proofs.Gets.{get_within}
use Rattle.vq_point_laws.specs.Timeline.{Timeline, Entry, KeepsLists, point_at}
use Rattle.vq_timeline_core.specs.Answers.{place_of, open_place}
use Rattle.vq_timeline_core.specs.declared.answers.OpPlace.TheVariants.{Without, Past}
use Rattle.vq_core_laws.proofs.Cited.{facts}
use Rattle.vq_board.specs.declared.parts.Board.{Board}
use Rattle.vq_board.specs.declared.parts.Pass.{Pass}
use Rattle.vq_board.specs.Named.{plan_of, view, role_of, board_of}
use Rattle.vq_timeline_laws.specs.ChainOps.{of_host}
use Rattle.vq_timeline_laws.specs.Shelves.{AreListsOf}
use Rattle.vq_timeline_laws.proofs.Cited.{place_at}
use Rattle.vq_timeline.specs.declared.parts.Shelf.{Shelf}
use Rattle.vq_timeline.specs.Named.{IsShelfOf}

-- a shelf with other lists and another state of its pass
abbrev pub shelf_with : Shelf → Timeline → Pass → Shelf
shelf_with x core pass =
    record { core = core; pass = pass; chain = x.chain; ops = x.ops; of_hosts = x.of_hosts }

pub still_shelf : (b : Board) (x : Shelf) (core : Timeline) (pass : Pass) → IsShelfOf b x →
    board_of pass ≡ board_of x.pass → role_of pass ≡ role_of x.pass → (view pass).plan ≡ (view x.pass).plan →
    AreListsOf (plan_of b) x.chain core (view pass) → KeepsLists core → IsShelfOf b (shelf_with x core pass)
still_shelf b x core pass s board role plan lists kept = (
  (board ∙ s.0.0, plan ∙ s.0.1),
  record {
    kept = record { plan = s.1.kept.plan; lawful = s.1.kept.lawful; lists = lists; kept = kept };
    role = role ∙ s.1.role;
    operations = s.1.operations;
    hosts = s.1.hosts;
  },
)

pub entry_of : (o : Option Entry) (i q : ℕ) → option_map {U = ℕ × ℕ} (λ (x : Entry). (x.index, x.point)) o ≡ Some (i, q) →
    o ≡ Some record { index = i; point = q }
entry_of None i q h = absurd (cc)
entry_of (Some x) i q h =
    let same : (x.index, x.point) ≡ (i, q) = same_Some (x.index, x.point) (i, q) h in
    let index : x.index ≡ i = ap (λ (z : ℕ × ℕ). z.0) same in
    let point : x.point ≡ q = ap (λ (z : ℕ × ℕ). z.1) same in
    λ j. Some record { index = index j; point = point j }

pub get_at : (xs : List ℕ) (k d : ℕ) → k < length xs → slice_get xs k ≡ Some (slice_index_or xs k d)
get_at [] k d l = absurd (omega arith)
get_at (x ∷ xs) zero d l = refl
get_at (x ∷ xs) (suc k) d l = get_at xs k d (omega arith)

-- Places in the lists

pub within_values : (b : Board) (x : Shelf) → IsShelfOf b x → (o : Op) (e : ℕ) → slice_get (plan_of b).ops e ≡ Some o →
    chain_of (plan_of b) e ≡ Some x.chain → o.index < length x.core.values
within_values b x s o e is of =
    let p = plan_of b in
    let f = facts p s.1.kept.plan s.1.kept.lawful in
    let low = get_within (chain p x.chain) o.index e (place_at p f x.chain e o is of) in
    let count = ap length s.1.kept.lists.their_values ∙ length-map (chain p x.chain) (value p) in
    omega arith

pub without_point : (t : Timeline) (i : ℕ) → place_of t i ≡ Without → point_at t i ≡ None
without_point t i h = by_test (nat_lt i t.completed) h
  where
    by_point : (b : Bool) (q : Option ℕ) → open_place b q ≡ Without → q ≡ None
    by_point b None k = refl
    by_point true (Some q) k = absurd (cc)
    by_point false (Some q) k = absurd (cc)

    by_test : (b : Bool) → (if b then Past else open_place (nat_lt i t.bound) (point_at t i)) ≡ Without →
        point_at t i ≡ None
    by_test true k = absurd (cc)
    by_test false k = by_point (nat_lt i t.bound) (point_at t i) k

pub host_at : (p : Plan) (xs : List ℕ) (k e : ℕ) (d : Bool) → slice_get xs k ≡ Some e →
    slice_index_or (map (of_host p) xs) k d ≡ of_host p e
host_at p [] k e d h = absurd (cc)
host_at p (x ∷ xs) zero e d h = ap (of_host p) (same_Some x e h)
host_at p (x ∷ xs) (suc k) e d h = host_at p xs k e d h

pub no_first : (xs : List ℕ) → slice_get xs 0 ≡ None → xs ≡ []
no_first [] h = refl
no_first (x ∷ xs) h = absurd (cc)
