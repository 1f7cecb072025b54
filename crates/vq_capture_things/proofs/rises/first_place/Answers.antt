use Rattle.std.proofs.Common.{◌<◌, ◌≤◌, ◌+◌, ◌-◌, ◌/◌, ℕ, get_or, length, rules, arith}
use Rattle.vq_capture_things.proofs.RisingValues.{no_rise, low_half, high_half}
use Rattle.vq_capture_things.proofs.rises.first_place.Goals as goal

pub loop-low-preserved-then-rises-middle : goal.loop-low-preserved-then-rises-middle
loop-low-preserved-then-rises-middle c =
    let rises = c.args.rises.now in
    let middle : ℕ = c.loop-low.low + (c.loop-low.high - c.loop-low.low) / 2 in
    let within = c.loop-low.invariant.1 in
    let some = c.loop-low-test.true in
    let inside : middle < length rises = omega arith in
    let low : (get_or rises middle no_rise).value < c.args.value = search rules in (
      omega arith,
      within,
      λ k d l. low_half rises c.args.value c.requires middle inside low k d l,
      c.loop-low.invariant.3,
    )

pub loop-low-preserved : goal.loop-low-preserved
loop-low-preserved c =
    let rises = c.args.rises.now in
    let middle : ℕ = c.loop-low.low + (c.loop-low.high - c.loop-low.low) / 2 in
    let within = c.loop-low.invariant.1 in
    let some = c.loop-low-test.true in
    let inside : middle < length rises = omega arith in
    let high : c.args.value ≤ (get_or rises middle no_rise).value = search rules in (
      omega arith,
      omega arith,
      c.loop-low.invariant.2,
      λ k d l m. high_half rises c.args.value c.requires middle inside high k d l m,
    )
