use Rattle.std.proofs.Common.{◌≤◌, ℕ, refl, sym, subst, arith, length}
use Rattle.vq_capture_clocks.specs.Blocks.{line_at}
use Rattle.vq_capture_clocks.proofs.Joined.{joined_none, joined_step, joined_whole}
use Rattle.vq_capture_clocks.proofs.clocks.join_lines.Goals as goal

pub loop-place-init : goal.loop-place-init
loop-place-init c = (
  omega arith,
  c.requires,
  joined_none (line_at c.args.lines.now) (line_at c.args.other.now),
)

pub loop-place-preserved : goal.loop-place-preserved
loop-place-preserved c =
    let v = c.loop-place.invariant in
    let l = c.loop-place-test.true in (
      omega arith,
      subst (λ (n : ℕ). length c.args.other.now ≤ n) (sym c.raise_at.ensures.wide) v.1,
      joined_step (line_at c.args.lines.now) c.loop-place.lines c.raise_at.new.lines c.args.other.now c.loop-place.place _ v.2 c.raise_at.ensures.raised refl,
    )

pub returns : goal.returns
returns c =
    let v = c.loop-place.invariant in
    let l = c.loop-place-test.false in
    joined_whole (line_at c.args.lines.now) c.loop-place.lines c.args.other.now c.loop-place.place v.0 (omega arith) v.2
