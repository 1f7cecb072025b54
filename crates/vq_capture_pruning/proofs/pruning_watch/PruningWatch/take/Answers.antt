use Rattle.std.proofs.Common.{◌≡◌, ◌≤◌, ◌∙◌, Bool, ℕ, List, false, true, None, sym, ap, subst, arith, rules}
use Rattle.vq_capture.specs.declared.capture.Step.{Step}
use Rattle.vq_capture_check.specs.Alike.{AreAlike}
use Rattle.vq_capture_check.specs.declared.sites.Site.{Site}
use Rattle.vq_capture_check.specs.GoneSites.{IsOpen}
use Rattle.vq_capture_check.specs.Sites.{lanes_of}
use Rattle.vq_capture_check.specs.Watches.{gone_in, watched_of as kept_by}
use Rattle.vq_capture_check.specs.Watching.{Watched, watch_with}
use Rattle.vq_capture_pruning.specs.PastWatches.{past_watched}
use Rattle.vq_capture_pruning.proofs.AlikeSteps.{alike_on, alike_twice, same_race_line}
use Rattle.vq_capture_pruning.proofs.OpenLanes.{was_open}
use Rattle.vq_capture_pruning.proofs.pruning_watch.PruningWatch.take.Goals as goal

pub returns-in-Some-2-clause-race : goal.returns-in-Some-2-clause-race
returns-in-Some-2-clause-race c =
    let was = c.args.self.now in
    let goes : was.goes ≡ true = search rules in
    let alike : AreAlike was.next (gone_in was.watch) (past_watched was.past.value) (kept_by was.watch) = was.alike goes in
    let open_step : IsOpen (gone_in was.watch) (lanes_of (past_watched was.past.value).sites c.args.b.now.step) c.args.b.now.step =
    subst (λ (xs : List Site). IsOpen (gone_in was.watch) (lanes_of xs c.args.b.now.step) c.args.b.now.step) (sym alike.sites) c.in_ok-first.ensures.open in
    sym c.in-Some-2.is
    ∙ (c.in_ok-first.ensures.race ∙ sym (same_race_line was.next (gone_in was.watch) (past_watched was.past.value) (kept_by was.watch) c.args.b.now (was.alike goes) open_step))

pub returns-clause-race : goal.returns-clause-race
returns-clause-race c =
    let was = c.args.self.now in
    let goes : was.goes ≡ true = search rules in
    let alike : AreAlike was.next (gone_in was.watch) (past_watched was.past.value) (kept_by was.watch) = was.alike goes in
    let open_step : IsOpen (gone_in was.watch) (lanes_of (past_watched was.past.value).sites c.args.b.now.step) c.args.b.now.step =
    subst (λ (xs : List Site). IsOpen (gone_in was.watch) (lanes_of xs c.args.b.now.step) c.args.b.now.step) (sym alike.sites) c.in_ok-first.ensures.open in
    let none : c.in_ok-first.field-0 ≡ None = search rules in
    sym none
    ∙ (c.in_ok-first.ensures.race ∙ sym (same_race_line was.next (gone_in was.watch) (past_watched was.past.value) (kept_by was.watch) c.args.b.now (was.alike goes) open_step))

pub invariant_of-self-2 : goal.invariant_of-self-2
invariant_of-self-2 c =
    let was = c.args.self.now in
    let b = c.args.b.now in
    let v = past_watched was.past.value in
    let w = kept_by was.watch in
    let pruned = kept_by c.prune_if_due.new.self in
    let goes : was.goes ≡ true = search rules in
    let alike : AreAlike was.next (gone_in was.watch) (past_watched was.past.value) (kept_by was.watch) = was.alike goes in
    let open_step : IsOpen (gone_in was.watch) (lanes_of (past_watched was.past.value).sites c.args.b.now.step) c.args.b.now.step =
    subst (λ (xs : List Site). IsOpen (gone_in was.watch) (lanes_of xs c.args.b.now.step) c.args.b.now.step) (sym alike.sites) c.in_ok-first.ensures.open in
    let none : c.in_ok-first.field-0 ≡ None = search rules in
    let is : past_watched c.past_with.result.value ≡ watch_with v b = search rules in
    let line : c.as_step.result.now.line ≡ b.step.line = ap (λ (s : Step). s.line) c.as_step.ensures in
    let test = c.if-line-self.false in
    let follows = c.in-Some.ensures in
    let above : was.next ≤ b.step.line = omega arith in
    let on : was.next ≤ c.in-Some.next = omega arith in
    let after : ℕ → Bool = gone_in c.take.new.self in
    let more : (k : ℕ) → after k ≡ false → gone_in was.watch k ≡ false =
    (λ k g. was_open (kept_by c.take.new.self).sites (gone_in was.watch) b.step.statement k (sym (c.in_ok-first.ensures.gone none k) ∙ g)) in
    let cleared : AreAlike c.in-Some.next after (kept_by c.take.new.self) pruned = c.in_ok-prune_if_due.ensures.alike in
    let on_alike : AreAlike c.in-Some.next after (watch_with v b) pruned =
    alike_twice c.in-Some.next after (watch_with v b) (watch_with w b) pruned
    (alike_on was.next c.in-Some.next (gone_in was.watch) after v w b alike open_step more above on)
    (subst (λ (x : Watched). AreAlike c.in-Some.next after x pruned) (c.in_ok-first.ensures.next none) cleared) in
    let kept : AreAlike c.in-Some.next (gone_in c.prune_if_due.new.self) (watch_with v b) pruned =
    subst (λ (f : ℕ → Bool). AreAlike c.in-Some.next f (watch_with v b) pruned) (sym c.in_ok-prune_if_due.ensures.gone) on_alike in
    record { alike = λ e. subst (λ (x : Watched). AreAlike c.in-Some.next (gone_in c.prune_if_due.new.self) x pruned) (sym is) kept }

pub returns-clause-next : goal.returns-clause-next
returns-clause-next c e =
    let v = past_watched c.args.self.now.past.value in
    let is : past_watched c.past_with.result.value ≡ watch_with v c.args.b.now = search rules in
    is
