use Rattle.std.proofs.Common.{◌<◌, ◌≤◌, ◌+◌, ◌-◌, ◌/◌, ℕ, get_or, length, rules, arith}
use Rattle.vq_capture_clocks.proofs.Leveled.{low_half, high_half}
use Rattle.vq_capture_clocks.proofs.levels.count_above.Goals as goal

pub loop-low-preserved-then-lines-middle : goal.loop-low-preserved-then-lines-middle
loop-low-preserved-then-lines-middle c =
    let lines = c.args.lines.now in
    let middle : ℕ = c.loop-low.low + (c.loop-low.high - c.loop-low.low) / 2 in
    let within = c.loop-low.invariant.1 in
    let some = c.loop-low-test.true in
    let inside : middle < length lines = omega arith in
    let low : get_or lines middle 0 < c.args.line = search rules in (
      omega arith,
      within,
      λ k d l. low_half lines c.args.line c.requires middle inside low k d l,
      c.loop-low.invariant.3,
    )

pub loop-low-preserved : goal.loop-low-preserved
loop-low-preserved c =
    let lines = c.args.lines.now in
    let middle : ℕ = c.loop-low.low + (c.loop-low.high - c.loop-low.low) / 2 in
    let within = c.loop-low.invariant.1 in
    let some = c.loop-low-test.true in
    let inside : middle < length lines = omega arith in
    let high : c.args.line ≤ get_or lines middle 0 = search rules in (
      omega arith,
      omega arith,
      c.loop-low.invariant.2,
      λ k d l m. high_half lines c.args.line c.requires middle inside high k d l m,
    )
