use Rattle.std.proofs.Common.{◌≡◌, ◌++◌, ◌∙◌, ℕ, List, sym, ap}
use Rattle.vq_capture_touched.specs.declared.touch.Touch.{Touch}
use Rattle.vq_capture_touched.specs.Indexed.{touches_of}
use Rattle.vq_capture_check.specs.Least.{least_in, lower_touches}
use Rattle.vq_capture_check.proofs.LoweredLines.{lower_both}
use Rattle.vq_capture_check.proofs.least.lower_thing.Goals as goal

pub returns : goal.returns
returns c =
    let f : ℕ → ℕ = least_in c.args.least.now in
    let indexed : List Touch = touches_of c.args.thing.now.index in
    let recent : List Touch = c.args.thing.now.recent.items in
    let newest : List Touch = c.args.thing.now.newest.items in
    let has : c.in_ok-indexed.indexed.items ≡ indexed = c.in_ok-indexed.ensures in
    let all : c.deref.result.now ≡ indexed = c.deref.ensures.value ∙ has in
    let first : least_in c.lower_touches.new.least ≡ lower_touches f c.deref.result.now = c.in_ok-lower_touches.ensures in
    let second : least_in c.lower_touches-2.new.least ≡ lower_touches (least_in c.lower_touches.new.least) c.deref-2.result.now = c.in_ok-lower_touches-2.ensures in
    let third : least_in c.lower_touches-3.new.least ≡ lower_touches (least_in c.lower_touches-2.new.least) c.deref-3.result.now = c.in_ok-lower_touches-3.ensures in
    let one : least_in c.lower_touches.new.least ≡ lower_touches f indexed =
    first ∙ ap (λ (ts : List Touch). lower_touches f ts) all in
    let two : least_in c.lower_touches-2.new.least ≡ lower_touches (lower_touches f indexed) recent =
    second ∙ (λ i. lower_touches (one i) (c.deref-2.ensures.value i)) in
    let three : least_in c.lower_touches-3.new.least ≡ lower_touches (lower_touches (lower_touches f indexed) recent) newest =
    third ∙ (λ i. lower_touches (two i) (c.deref-3.ensures.value i)) in
    three
    ∙ sym (lower_both f (indexed ++ recent) newest ∙ ap (λ (g : ℕ → ℕ). lower_touches g newest) (lower_both f indexed recent))
