use Rattle.std.proofs.Common.{◌≡◌, ◌<◌, ◌≤◌, length, get_or, sym, ◌∙◌, ap, arith}
use Rattle.std.proofs.lemmas.List.{get_or_read}
use Rattle.vq_layer.specs.declared.answers.Wanted.{Wanted}
use Rattle.vq_layer.specs.Names.{greater, merged}
use Rattle.vq_layer.proofs.Apart.{merged_here, merged_end}
use Rattle.vq_layer.proofs.merging.merge.Goals as goal

pub returns-then-index-wanted-clause-merged : goal.returns-then-index-wanted-clause-merged
returns-then-index-wanted-clause-merged c =
    let d : Wanted = record { timeline = 0; value = 0 } in
    let xs = c.loop-i.kept.items in
    let i = c.loop-i.i in
    let w = c.args.wanted in
    let size = c.loop-i.kept.ok.0 in
    let test = c.loop-i-test.true in
    let len = c.len-i-end.ensures in
    let old = c.args.kept.now.ok.0 in
    let same = ap length c.loop-i.invariant.1 in
    let l : i < length xs = omega arith in
    let read = get_or_read xs i c.index-then-index-wanted.result.now l c.index-then-index-wanted.ensures d in
    let first = get_or_read xs i c.index.result.now l c.index.ensures d in
    let is : c.greater.result ≡ greater (get_or xs i d) w = c.greater.ensures ∙ ap (λ (x : Wanted). greater x w) read in
    let named : (get_or xs i d).timeline ≡ w.timeline = ap (λ (x : Wanted). x.timeline) (sym first) ∙ c.if-index-wanted.true in
    merged_here w c.greater.result xs i d l is named c.loop-i.invariant.0 ∙ ap (merged w) c.loop-i.invariant.1

pub returns-clause-merged : goal.returns-clause-merged
returns-clause-merged c =
    let xs = c.loop-i.kept.items in
    let test = c.loop-i-test.false in
    let len = c.len-i-end.ensures in
    let old = c.args.kept.now.ok.0 in
    let same = ap length c.loop-i.invariant.1 in
    let l : length xs ≤ c.loop-i.i = omega arith in
    c.push_reserved.ensures.items
    ∙ sym (merged_end c.args.wanted xs c.loop-i.i l)
    ∙ sym c.loop-i.invariant.0
    ∙ ap (merged c.args.wanted) c.loop-i.invariant.1
