use Rattle.std.proofs.Common.{◌≡◌, [], ◌∙◌, length, rules}
use Rattle.std.proofs.lemmas.Result.{on_ok_weaker}
use Rattle.vq_order.proofs.SweptCells.{untouched_keeps}
use Rattle.vq_order.proofs.SweptRaces.{swept_without_race}
use Rattle.vq_order.proofs.races.sweep.go_through.Goals as goal

pub returns : goal.returns
returns c =
    let p = c.args.order.now in
    let cuts = c.args.cuts.now in
    let old = c.as_mut_slice.result.now in
    let n : length old ≡ length cuts = search rules in
    on_ok_weaker c.jobs.result (λ s. swept_without_race p c.jobs.ensures.complete cuts c.requires c.args.count c.jobs.new.cells (s.count ∙ n) (s.extends [] (untouched_keeps p old))) c.jobs.ensures.swept
