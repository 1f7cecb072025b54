use Rattle.std.proofs.Common.{arith, ◌≡◌, ℕ, ◌+◌, List, [], ◌∷◌, ◌++◌, map, sym, ap, ◌∙◌, subst, length}
use Rattle.std.specs.List.{range_with_len}
use Rattle.vq_ground.proofs.Numbers.{range_more}
use Rattle.vq_board_laws.specs.declared.view.View.{View}
use Rattle.vq_board_laws.specs.declared.view.Role.{Role}
use Rattle.vq_board_laws.specs.declared.view.Role.TheVariants.{Ring}
use Rattle.vq_board_laws.specs.Roles.{threaded_queues}
use Rattle.vq_board.specs.declared.parts.Pass.{Pass}
use Rattle.vq_board.specs.Named.{plan_of, view, AreFresh, IsCut}
use Rattle.vq_board.proofs.Copied.{map_push}
use Rattle.vq_board.proofs.Dealt.{fresh_push}
use Rattle.vq_board.proofs.parts.Board.deal_rings.Goals as goal

pub loop-queue-preserved : goal.loop-queue-preserved
loop-queue-preserved c =
    let was = c.loop-queue.invariant in
    let q : ℕ = c.loop-queue.queue in
    let given : (view c.loop-queue.host).given ≡ length (threaded_queues (plan_of c.args.self.now)) + q = ap (λ (v : View). v.given) was.host.2 in
    let roles : map Ring (range_with_len 0 (q + 1)) ≡ map Ring (range_with_len 0 q) ++ Ring q ∷ [] = ap (map Ring) (range_more q) ∙ map_push Ring (range_with_len 0 q) q in record {
      host = subst (IsCut c.args.self.now c.cut.new.host) (let e : (view c.loop-queue.host).given + 1 ≡ length (threaded_queues (plan_of c.args.self.now)) + (q + 1) = omega arith in e) c.in_ok-cut.ensures.host;
      passes = subst (λ (t : List Pass × List Role). AreFresh c.args.self.now t.0 t.1) (λ i. (sym c.in_ok-push.ensures.items i, sym roles i))
          (fresh_push c.args.self.now c.loop-queue.passes.items c.in_ok-cut.field-0 (map Ring (range_with_len 0 q)) (Ring q) was.passes c.in_ok-cut.ensures.fresh c.in_ok-cut.ensures.role);
    }
