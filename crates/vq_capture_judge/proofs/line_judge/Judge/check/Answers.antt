use Rattle.std.proofs.Common.{◌≡◌, ◌∙◌, ℕ, Option, None, sym, ap, rules}
use Rattle.vq_capture_check.specs.Watching.{race_line, watch_with}
use Rattle.vq_capture_pruning.specs.PruningWatches.{watched_of}
use Rattle.vq_capture_judge.specs.Judging.{Goes, came_of_race}
use Rattle.vq_capture_judge.specs.Judges.{judging_of}
use Rattle.vq_capture_judge.proofs.line_judge.Judge.check.Goals as goal

pub returns : goal.returns
returns c =
    let none : c.in_ok-first.field-0 ≡ None = search rules in
    let race : None ≡ race_line (watched_of c.args.self.now.watch) c.args.told = sym none ∙ c.in_ok-first.ensures.race in
    let watch : watched_of c.take.new.self ≡ watch_with (watched_of c.args.self.now.watch) c.args.told =
    c.in_ok-first.ensures.next none in
    (λ i. Goes (record (judging_of c.args.self.now) { watch = watch i }))
    ∙ ap (λ (o : Option ℕ). came_of_race (judging_of c.args.self.now) c.args.told o) race
