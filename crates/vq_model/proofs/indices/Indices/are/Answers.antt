use Rattle.std.proofs.Common.{◌≡◌, ◌<◌, ◌∙◌, sym, ap, length, arith, rules, get_or}
use Rattle.std.proofs.lemmas.List.{same_lists}
use Rattle.std.proofs.lemmas.List.FromFn.{length-range_with_len, get_or-range_with_len}
use Rattle.vq_model.proofs.indices.Indices.are.Goals as goal

pub returns-clause-only : goal.returns-clause-only
returns-clause-only c = λ _.
    let first = c.self.inside.first in
    let count = c.self.inside.count in
    let own = length-range_with_len first count in
    let seen = ap length c.self.view_is in
    let listed : length c.args.listed.now ≡ length c.args.self.now = search rules in
    let place : length c.args.listed.now ≡ c.loop-place.place = search rules in
    sym c.self.view_is ∙ same_lists _ _ (omega arith) (λ k d l.
    let inside : k < count = omega arith in
    get_or-range_with_len first count k d inside ∙ sym (c.loop-place.invariant k d (omega arith)))

pub returns-then-listed-place-clause-each : goal.returns-then-listed-place-clause-each
returns-then-listed-place-clause-each c = λ e.
    let first = c.self.inside.first in
    let count = c.self.inside.count in
    let place = c.loop-place.place in
    let own = length-range_with_len first count in
    let inside : place < count = omega
    (arith, c.loop-place-test.true, ap length c.self.view_is, ap length e) in
    let there = get_or-range_with_len first count place 0 inside in
    let same = ap (λ xs. get_or xs place 0) (c.self.view_is ∙ e) in
    absurd (omega (arith, c.if-listed-place.true))
