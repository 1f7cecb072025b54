use Rattle.std.proofs.Common.{arith, ◌≡◌, ℕ, ◌+◌, List, [], ◌∷◌, ◌++◌, map, sym, ap, ◌∙◌, subst, length}
use Rattle.std.specs.List.{range_with_len}
use Rattle.vq_ground.proofs.Numbers.{range_more}
use Rattle.vq_board_laws.specs.declared.view.View.{View}
use Rattle.vq_board_laws.specs.declared.view.Role.{Role}
use Rattle.vq_board_laws.specs.declared.view.Role.TheVariants.{Shelf}
use Rattle.vq_board_laws.specs.Roles.{threaded_queues}
use Rattle.vq_board.specs.declared.parts.Pass.{Pass}
use Rattle.vq_board.specs.Named.{plan_of, view, AreFresh, IsCut}
use Rattle.vq_board.proofs.Copied.{map_push}
use Rattle.vq_board.proofs.Dealt.{fresh_push}
use Rattle.vq_board.proofs.parts.Board.deal_shelves.Goals as goal

pub loop-chain-preserved : goal.loop-chain-preserved
loop-chain-preserved c =
    let was = c.loop-chain.invariant in
    let q : ℕ = c.loop-chain.chain in
    let given : (view c.loop-chain.host).given ≡ length (threaded_queues (plan_of c.args.self.now)) + length (plan_of c.args.self.now).script.queues + q = ap (λ (v : View). v.given) was.host.2 in
    let roles : map Shelf (range_with_len 0 (q + 1)) ≡ map Shelf (range_with_len 0 q) ++ Shelf q ∷ [] = ap (map Shelf) (range_more q) ∙ map_push Shelf (range_with_len 0 q) q in record {
      host = subst (IsCut c.args.self.now c.cut.new.host) (let e : (view c.loop-chain.host).given + 1 ≡ length (threaded_queues (plan_of c.args.self.now)) + length (plan_of c.args.self.now).script.queues + (q + 1) = omega arith in e) c.in_ok-cut.ensures.host;
      passes = subst (λ (t : List Pass × List Role). AreFresh c.args.self.now t.0 t.1) (λ i. (sym c.in_ok-push.ensures.items i, sym roles i))
          (fresh_push c.args.self.now c.loop-chain.passes.items c.in_ok-cut.field-0 (map Shelf (range_with_len 0 q)) (Shelf q) was.passes c.in_ok-cut.ensures.fresh c.in_ok-cut.ensures.role);
    }
