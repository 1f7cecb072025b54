use Rattle.std.proofs.Common.{◌≡◌, ℕ, List, true, subst, sym, refl, arith}
use Rattle.std.proofs.lemmas.List.{take_all}
use Rattle.vq_ground.specs.Lists.{has}
use Rattle.vq_ground.proofs.Lists.{has-append_left}
use Rattle.vq_capture.specs.Points.{IsMember}
use Rattle.vq_capture_touched.specs.declared.touch.Touch.{Touch}
use Rattle.vq_capture_check.proofs.KeptOrders.{line_added}
use Rattle.vq_capture_check.proofs.touched_lines.add_lines.Goals as goal

pub returns-clause-added : goal.returns-clause-added
returns-clause-added c =
    subst (λ (ts : List Touch). (t : Touch) → IsMember t ts → has c.loop-touch.lines.items t.step.line ≡ true)
    (take_all c.loop-touch.touch-index c.args.touches.now (omega (arith, c.loop-touch-test.false))) c.loop-touch.invariant.1

pub loop-touch-preserved : goal.loop-touch-preserved
loop-touch-preserved c = (
  λ n h. subst (λ (ls : List ℕ). has ls n ≡ true) (sym c.in_ok-push.ensures.items) (has-append_left c.loop-touch.lines.items _ n (c.loop-touch.invariant.0 n h)),
  λ t m. subst (λ (ls : List ℕ). has ls t.step.line ≡ true) (sym c.in_ok-push.ensures.items) (line_added c.loop-touch.lines.items c.args.touches.now c.loop-touch.touch-index _ _ c.loop-touch-test.true refl c.loop-touch.invariant.1 t m),
)
