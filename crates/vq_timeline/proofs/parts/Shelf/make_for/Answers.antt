use Rattle.std.proofs.Common.{sym, ap, ◌∙◌}
use Rattle.vq_timeline_core.specs.Answers.{place_of}
use Rattle.vq_board.specs.Named.{plan_of, view}
use Rattle.vq_timeline_laws.proofs.Cited.{index_is, may_make, may_take_new}
use Rattle.vq_timeline.proofs.Given.{may_give_new, new_shelf}
use Rattle.vq_timeline.proofs.Shared.{no_first, without_point}
use Rattle.vq_timeline.proofs.parts.Shelf.make_for.Goals as goal

pub make-point-requires-clause-may : goal.make-point-requires-clause-may
make-point-requires-clause-may c =
    let p = plan_of c.args.board.now in
    let x = c.args.self.now in
    let o = c.op-index.result in
    let place = sym (ap (place_of x.core) (index_is p c.args.op o c.op-index.ensures)) ∙ c.requires.without in
    may_make p x.chain x.core (view x.pass) c.requires.shelf.1.kept o c.args.op c.op-index.ensures c.requires.op
    (without_point x.core o.index place) (no_first x.core.free c.requires.none_free)

pub take-requires : goal.take-requires
take-requires c =
    let p = plan_of c.args.board.now in
    let x = c.args.self.now in
    let o = c.op-index.result in
    let place = sym (ap (place_of x.core) (index_is p c.args.op o c.op-index.ensures)) ∙ c.requires.without in
    may_take_new p x.chain x.core (view x.pass) c.requires.shelf.1.kept o c.args.op c.op-index.ensures c.requires.op
    (without_point x.core o.index place) c.make-point.result c.make-point.ensures.fresh

pub assign-requires-clause-may : goal.assign-requires-clause-may
assign-requires-clause-may c =
    let p = plan_of c.args.board.now in
    let x = c.args.self.now in
    let o = c.op-index.result in
    let place = sym (ap (place_of x.core) (index_is p c.args.op o c.op-index.ensures)) ∙ c.requires.without in
    may_give_new c.args.board.now x c.requires.shelf o c.args.op c.op-index.ensures c.requires.op
    (without_point x.core o.index place) place c.take.new.self c.take.ensures.kept c.make-point.new.pass
    c.make-point.result (no_first x.core.free c.requires.none_free) c.make-point.ensures.fresh c.make-point.new.pass
    c.make-point.ensures.pass

pub returns-clause-shelf : goal.returns-clause-shelf
returns-clause-shelf c =
    let p = plan_of c.args.board.now in
    let x = c.args.self.now in
    let k = c.requires.shelf.1.kept in
    let o = c.op-index.result in
    let q = c.make-point.result in
    let place = sym (ap (place_of x.core) (index_is p c.args.op o c.op-index.ensures)) ∙ c.requires.without in
    let none = without_point x.core o.index place in
    let can = may_take_new p x.chain x.core (view x.pass) k o c.args.op c.op-index.ensures c.requires.op none q
    c.make-point.ensures.fresh in
    new_shelf c.args.board.now x c.requires.shelf o c.args.op c.op-index.ensures c.requires.op none place
    c.take.new.self c.take.ensures.kept c.assign.new.pass q (no_first x.core.free c.requires.none_free)
    c.make-point.ensures.fresh c.make-point.new.pass c.make-point.ensures.pass c.assign.ensures.pass
    c.take.ensures.after c.make-point.ensures.exists
    (c.calls_lose_no_point.ensures.take x.core o.index q k.kept can)
