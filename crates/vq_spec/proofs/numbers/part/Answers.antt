use Rattle.std.proofs.Common.{◌≡◌, ◌<◌, ◌+◌, ◌-◌, ◌∙◌, ap, arith, rules, take, drop}
use Rattle.std.specs.List.{range_with_len}
use Rattle.vq_spec.proofs.NumberParts.{ends_within, part_is}
use Rattle.vq_spec.proofs.numbers.part.Goals as goal

pub overflow_add-result : goal.overflow_add-result
overflow_add-result c =
    let n = c.len-count.result in
    let some : 0 < n = omega (arith, c.if-count-eq0.false) in
    let within = ends_within c.args.numbers.now c.args.indices.now c.first-first.result n c.requires.numbers
    (c.first-first.ensures ∙ ap (range_with_len c.first-first.result) (search rules)) some c.requires.within in
    omega (arith, within)

pub slice_bounds-result-end-2 : goal.slice_bounds-result-end-2
slice_bounds-result-end-2 c =
    let n = c.len-count.result in
    let some : 0 < n = omega (arith, c.if-count-eq0.false) in
    let within = ends_within c.args.numbers.now c.args.indices.now c.first-first.result n c.requires.numbers
    (c.first-first.ensures ∙ ap (range_with_len c.first-first.result) (search rules)) some c.requires.within in
    omega (arith, within)

pub returns : goal.returns
returns c =
    let n = c.len-count.result in
    let first = c.first-first.result in
    let some : 0 < n = omega (arith, c.if-count-eq0.false) in
    let size : first + n - first ≡ n = omega arith in
    ap (λ k. take k (drop first c.args.numbers.now)) size
    ∙ part_is c.args.numbers.now c.args.indices.now first n c.requires.numbers
    (c.first-first.ensures ∙ ap (range_with_len first) (search rules)) some c.requires.within
