use Rattle.std.proofs.Common.{arith, ◌≡◌, ℕ, ◌+◌, List, [], ◌∷◌, ◌++◌, length, map, sym, ap, ◌∙◌, subst, length-append}
use Rattle.vq_model.specs.declared.script.Script.{Script}
use Rattle.vq_model.specs.ValidScripts.{is_threaded_queue}
use Rattle.vq_model.specs.Plan.{Plan}
use Rattle.vq_board_laws.specs.declared.view.View.{View}
use Rattle.vq_board_laws.specs.declared.view.Role.{Role}
use Rattle.vq_board_laws.specs.declared.view.Role.TheVariants.{Submit}
use Rattle.vq_board_laws.specs.Roles.{is_threaded, threaded_before}
use Rattle.vq_board.specs.declared.parts.Pass.{Pass}
use Rattle.vq_board.specs.Named.{plan_of, view, AreFresh, IsCut}
use Rattle.vq_board.proofs.Copied.{map_push}
use Rattle.vq_board.proofs.Dealt.{fresh_push, submit_within, threaded_more, threaded_same}
use Rattle.vq_board.proofs.parts.Board.deal_submits.Goals as goal
use Rattle.vq_board.proofs.parts.Board.deal_submits.Goals.{then-is_threaded+in_ok-cut+in_ok-push, else-is_threaded}

pub cut-requires-clause-within : goal.cut-requires-clause-within
cut-requires-clause-within c =
    submit_within (plan_of c.args.self.now) c.loop-queue.queue
    (let a = c.loop-queue-test.true in let b = c.len-queues.ensures in let e : length c.args.script.now.queues ≡ length (plan_of c.args.self.now).script.queues = ap (λ (s : Script). length s.queues) c.requires.script in omega arith)

pub loop-queue-preserved : goal.loop-queue-preserved
loop-queue-preserved c =
    let was = c.loop-queue.invariant in
    let q : ℕ = c.loop-queue.queue in
    let p : Plan = plan_of c.args.self.now in
    let tested : is_threaded p q ≡ c.is_threaded.result = ap (λ (s : Script). is_threaded_queue s q) (sym c.requires.script) ∙ sym c.is_threaded.ensures in
    let given : (view c.loop-queue.host).given ≡ length (threaded_before p q) = ap (λ (v : View). v.given) was.host.2 in
    elim c.if-is_threaded.branch [
      | then-is_threaded+in_ok-cut+in_ok-push w ↦
          let more = threaded_more p q (tested ∙ w.if-is_threaded.true) in
          let count : (view c.loop-queue.host).given + 1 ≡ length (threaded_before p (q + 1)) = (let e = ap length more in let l = length-append (threaded_before p q) (q ∷ []) in omega arith) in
          let roles : map Submit (threaded_before p (q + 1)) ≡ map Submit (threaded_before p q) ++ Submit q ∷ [] = ap (map Submit) more ∙ map_push Submit (threaded_before p q) q in
          record {
            host = subst (λ (t : Pass × ℕ). IsCut c.args.self.now t.0 t.1) (λ i. (sym w.host-is i, count i)) w.in_ok-cut.ensures.host;
            passes = subst (λ (t : List Pass × List Role). AreFresh c.args.self.now t.0 t.1) (λ i. ((sym w.in_ok-push.ensures.items ∙ ap (λ v. v.items) (sym w.passes-is)) i, sym roles i))
                (fresh_push c.args.self.now c.loop-queue.passes.items w.in_ok-cut.field-0 (map Submit (threaded_before p q)) (Submit q) was.passes w.in_ok-cut.ensures.fresh w.in_ok-cut.ensures.role);
          }
      | else-is_threaded w ↦
          let same = threaded_same p q (tested ∙ w.if-is_threaded.false) in
          record {
            host = subst (λ (t : Pass × List ℕ). IsCut c.args.self.now t.0 (length t.1)) (λ i. (sym w.host-is i, sym same i)) was.host;
            passes = subst (λ (t : List Pass × List ℕ). AreFresh c.args.self.now t.0 (map Submit t.1)) (λ i. (ap (λ v. v.items) (sym w.passes-is) i, sym same i)) was.passes;
          }
    ]
