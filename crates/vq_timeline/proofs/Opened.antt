-- A shelf before its first point.
use Rattle.std.proofs.Common.{◌≡◌, ℕ, ◌<◌, length, map, get_or, sym, ap, ◌∙◌, subst}
use Rattle.vq_ground.proofs.Gets.{has_at}
use Rattle.vq_model.specs.Checks.{IsLawful}
use Rattle.vq_model.specs.LoweredPlans.{IsPlan}
use Rattle.vq_model.specs.Plan.{Plan, chain, initial, value}
use Rattle.vq_model.proofs.Plans.{op_within}
use Rattle.vq_plan_laws.proofs.Cited.{plan_well_formed}
use Rattle.vq_point_laws.specs.Timeline.{Timeline, KeepsLists, new_timeline}
use Rattle.vq_board_laws.specs.declared.view.Role.{Role}
use Rattle.vq_board_laws.specs.declared.view.Role.TheVariants.{Shelf as ShelfRole}
use Rattle.vq_board_laws.specs.declared.view.View.{View}
use Rattle.vq_board_laws.specs.Roles.{role_number}
use Rattle.vq_board_laws.specs.Rule.{fresh}
use Rattle.vq_board.specs.declared.parts.Board.{Board}
use Rattle.vq_board.specs.Named.{plan_of, view, role_of, IsFresh}
use Rattle.vq_timeline_laws.specs.ChainOps.{of_host}
use Rattle.vq_timeline_laws.specs.Shelves.{AreListsOf}
use Rattle.vq_timeline_laws.proofs.Cited.{fresh_lists}
use Rattle.vq_timeline.specs.declared.parts.Shelf.{Shelf}
use Rattle.vq_timeline.specs.Named.{IsShelfOf}

pub chain_op : (p : Plan) → IsPlan p → (t k : ℕ) → k < length (chain p t) → get_or (chain p t) k 0 < length p.ops
chain_op p plan t k l =
    let e = get_or (chain p t) k 0 in
    op_within p e t ((plan_well_formed p plan).of_chain e t (has_at (chain p t) k l))

-- what a new shelf has of its plan
pub record IsNewShelf (p : Plan) (x : Shelf) : Type 0 where
  pub plan : IsPlan p
  pub lawful : IsLawful p
  pub exists : x.chain < length p.chains
  pub lists : x.core ≡ new_timeline (initial p x.chain) (map (value p) (chain p x.chain))
  pub kept : KeepsLists x.core
  pub operations : x.ops.items ≡ chain p x.chain
  pub hosts : x.of_hosts.items ≡ map (of_host p) (chain p x.chain)

pub new_shelf : (b : Board) (x : Shelf) (p : Plan) → IsFresh b x.pass → role_of x.pass ≡ ShelfRole x.chain →
    plan_of b ≡ p → IsNewShelf p x → IsShelfOf b x
new_shelf b x p pass role same new =
    let n : IsNewShelf (plan_of b) x = subst (λ (z : Plan). IsNewShelf z x) (sym same) new in
    let view_is : view x.pass ≡ fresh (plan_of b) (role_number (plan_of b) (ShelfRole x.chain)) =
    pass.1 ∙ ap (λ (r : Role). fresh (plan_of b) (role_number (plan_of b) r)) role in (
      pass.0,
      record {
        kept = record {
          plan = n.plan;
          lawful = n.lawful;
          lists = subst (λ (z : Timeline × View). AreListsOf (plan_of b) x.chain z.0 z.1)
              (λ i. (sym n.lists i, sym view_is i)) (fresh_lists (plan_of b) x.chain n.exists);
          kept = n.kept;
        };
        role = role;
        operations = n.operations;
        hosts = n.hosts;
      },
    )
