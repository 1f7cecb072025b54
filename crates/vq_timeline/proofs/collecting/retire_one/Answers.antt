use Rattle.std.proofs.Common.{ℕ, take, drop, get_or, subst, sym, refl, arith, List, suc, ◌∙◌}
use Rattle.std.proofs.lemmas.List.{take_more}
use Rattle.vq_ground.proofs.Gets.{has_at}
use Rattle.vq_board.specs.Named.{view}
use Rattle.vq_timeline_laws.specs.Waiting.{FindsAllInUse}
use Rattle.vq_timeline_laws.proofs.Cited.{all_looked, retires_still}
use Rattle.vq_timeline.proofs.Retiring.{Tried, tried_none, tried_more, tried_of, split_at, take_whole}
use Rattle.vq_timeline.proofs.collecting.retire_one.Goals as goal

pub loop-point-init : goal.loop-point-init
loop-point-init c = tried_none c.args.pass.now

pub retire-requires-clause-board : goal.retire-requires-clause-board
retire-requires-clause-board c = tried_of c.args.board.now _ _ _ c.requires.pass c.loop-point.invariant

pub retire-requires-clause-exists : goal.retire-requires-clause-exists
retire-requires-clause-exists c =
    c.requires.below _ (has_at c.args.points.now c.loop-point.point-index c.loop-point-test.true)

pub retire-requires-clause-may : goal.retire-requires-clause-may
retire-requires-clause-may c =
    let m = c.requires.may _ (has_at c.args.points.now c.loop-point.point-index c.loop-point-test.true) in
    (m.0, retires_still _ _ _ _ m.0 (all_looked _ _ _ c.loop-point.invariant.in_use) m.1)

pub returns-in-Ok-clause-own : goal.returns-in-Ok-clause-own
returns-in-Ok-clause-own c =
    let t = c.in-Ok.ensures.freed in
    let same = c.loop-point.invariant.same in
    (t.2.0 ∙ same.0, t.2.1 ∙ same.1, refl, t.2.3 ∙ same.3)

pub returns-in-Ok-clause-freed : goal.returns-in-Ok-clause-freed
returns-in-Ok-clause-freed c =
    let t = c.in-Ok.ensures.freed in
    record {
      front = take c.loop-point.point-index c.args.points.now;
      back = drop (suc c.loop-point.point-index) c.args.points.now;
      are = split_at c.args.points.now c.loop-point.point-index c.loop-point-test.true;
      found = view c.loop-point.pass;
      in_use = c.loop-point.invariant.in_use;
      word = t.0;
      unreferred = t.1;
      after = t.2.2;
    }

pub loop-point-preserved : goal.loop-point-preserved
loop-point-preserved c =
    subst (Tried c.args.pass.now c.retire.new.pass)
    (sym (take_more c.args.points.now c.loop-point.point-index 0 c.loop-point-test.true))
    (tried_more c.args.pass.now c.loop-point.pass c.retire.new.pass
    (take c.loop-point.point-index c.args.points.now) (get_or c.args.points.now c.loop-point.point-index 0) _
    c.loop-point.invariant c.in-Err.ensures.in_use)

pub returns-clause-own : goal.returns-clause-own
returns-clause-own c = c.loop-point.invariant.same

pub returns-clause-in_use : goal.returns-clause-in_use
returns-clause-in_use c = λ none.
    subst (λ (qs : List ℕ). FindsAllInUse qs (view c.args.pass.now) (view c.loop-point.pass))
    (take_whole c.args.points.now c.loop-point.point-index (let l = c.loop-point-test.false in omega arith))
    c.loop-point.invariant.in_use
