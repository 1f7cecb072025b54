use Rattle.std.proofs.Common.{◌≡◌, ◌≤◌, ℕ, Option, true, false, map, rules, subst}
use Rattle.std.specs.Prelude.{IfSome}
use Rattle.std.specs.List.{list_all}
use Rattle.vq_ground.specs.Lists.{has}
use Rattle.vq_capture.specs.Races.{conflict}
use Rattle.vq_capture_touched.specs.declared.touch.Touch.{Touch}
use Rattle.vq_capture_touched.specs.Kinds.{lists}
use Rattle.vq_capture_check.specs.Watching.{all_known}
use Rattle.vq_capture_check.specs.Watches.{clocking_of}
use Rattle.vq_capture_check.proofs.LooseFound.{found_below, loose_conflicts, none_known}
use Rattle.vq_capture_check.proofs.loose.add_kind.Goals as goal

pub returns-then-known_to_all-clause-near : goal.returns-then-known_to_all-clause-near
returns-then-known_to_all-clause-near c = λ s t l e.
    let known : list_all (all_known c.args.cut c.args.kind.now.latest) (map clocking_of c.args.points.now) ≡ true = search rules in
    absurd (none_known c.args.cut (map clocking_of c.args.points.now) c.args.b.now c.args.kind.now s t known l e)

pub returns-then-known_to_all-2-clause-near : goal.returns-then-known_to_all-2-clause-near
returns-then-known_to_all-2-clause-near c = λ s t l e.
    let known : list_all (all_known c.args.cut (record c.args.kind.now.latest { step = record c.args.kind.now.latest.step { line = c.in-Some.line } })) (map clocking_of c.args.points.now) ≡ true = search rules in
    let below : (s : ℕ) (t : Touch) → lists c.args.kind.now s t ≡ true → conflict t.step c.args.b.now ≡ true → has c.add_edges.new.stamps.items s ≡ false → t.step.line ≤ c.in-Some.line =
    subst (λ (o : Option ℕ). IfSome o (λ line. (s : ℕ) (t : Touch) → lists c.args.kind.now s t ≡ true → conflict t.step c.args.b.now ≡ true → has c.add_edges.new.stamps.items s ≡ false → t.step.line ≤ line)) c.in-Some.is c.in_ok-line.ensures.near in
    found_below c.args.cut (map clocking_of c.args.points.now) c.args.b.now c.args.kind.now s t c.in-Some.line c.add_edges.new.stamps.items known below l e

pub returns-clause-near : goal.returns-clause-near
returns-clause-near c = λ s t l e.
    c.in_ok-add_near.ensures.near s t l (loose_conflicts c.args.cut (map clocking_of c.args.points.now) c.args.b.now t e)
