use Rattle.std.proofs.Common.{sym, ap, ◌∙◌, arith}
use Rattle.vq_ground.proofs.Gets.{first_is}
use Rattle.vq_timeline_core.specs.Answers.{place_of}
use Rattle.vq_core_laws.proofs.Cited.{facts}
use Rattle.vq_board.specs.Named.{plan_of, view}
use Rattle.vq_timeline_laws.proofs.Cited.{index_is, may_assign_free, may_take_far}
use Rattle.vq_timeline.proofs.Given.{reused_shelf}
use Rattle.vq_timeline.proofs.Shared.{without_point}
use Rattle.vq_timeline.proofs.parts.Shelf.use_again.Goals as goal

pub take-requires : goal.take-requires
take-requires c =
    let p = plan_of c.args.board.now in
    let x = c.args.self.now in
    let k = c.requires.shelf.1.kept in
    let o = c.op-index.result in
    let few = (facts p k.plan k.lawful).lanes.few_ops in
    let place = sym (ap (place_of x.core) (index_is p c.args.op o c.op-index.ensures)) ∙ c.requires.without in
    may_take_far p x.chain x.core (view x.pass) k o c.args.op c.op-index.ensures c.requires.op
    (without_point x.core o.index place) 4294967295 (omega arith)

pub assign-requires-clause-exists : goal.assign-requires-clause-exists
assign-requires-clause-exists c =
    let p = plan_of c.args.board.now in
    let x = c.args.self.now in
    let k = c.requires.shelf.1.kept in
    let o = c.op-index.result in
    let first = first_is x.core.free c.args.point c.requires.free in
    let place = sym (ap (place_of x.core) (index_is p c.args.op o c.op-index.ensures)) ∙ c.requires.without in
    k.lists.below c.args.point (may_assign_free p x.chain x.core (view x.pass) k o c.args.op c.op-index.ensures
    c.requires.op (without_point x.core o.index place) c.args.point first.0 first.1).owned

pub assign-requires-clause-may : goal.assign-requires-clause-may
assign-requires-clause-may c =
    let p = plan_of c.args.board.now in
    let x = c.args.self.now in
    let k = c.requires.shelf.1.kept in
    let o = c.op-index.result in
    let first = first_is x.core.free c.args.point c.requires.free in
    let place = sym (ap (place_of x.core) (index_is p c.args.op o c.op-index.ensures)) ∙ c.requires.without in
    may_assign_free p x.chain x.core (view x.pass) k o c.args.op c.op-index.ensures c.requires.op
    (without_point x.core o.index place) c.args.point first.0 first.1

pub returns-clause-shelf : goal.returns-clause-shelf
returns-clause-shelf c =
    let p = plan_of c.args.board.now in
    let x = c.args.self.now in
    let k = c.requires.shelf.1.kept in
    let o = c.op-index.result in
    let few = (facts p k.plan k.lawful).lanes.few_ops in
    let first = first_is x.core.free c.args.point c.requires.free in
    let place = sym (ap (place_of x.core) (index_is p c.args.op o c.op-index.ensures)) ∙ c.requires.without in
    let none = without_point x.core o.index place in
    let can = may_take_far p x.chain x.core (view x.pass) k o c.args.op c.op-index.ensures c.requires.op none 4294967295
    (omega arith) in
    reused_shelf c.args.board.now x c.requires.shelf o c.args.op c.op-index.ensures c.requires.op none place
    c.take.new.self c.take.ensures.kept c.assign.new.pass c.args.point 4294967295 first.0 first.1
    c.assign.ensures.pass c.take.ensures.after
    (c.calls_lose_no_point.ensures.take x.core o.index 4294967295 k.kept can)

pub returns-clause-below : goal.returns-clause-below
returns-clause-below c =
    let p = plan_of c.args.board.now in
    let x = c.args.self.now in
    let k = c.requires.shelf.1.kept in
    let o = c.op-index.result in
    let first = first_is x.core.free c.args.point c.requires.free in
    let place = sym (ap (place_of x.core) (index_is p c.args.op o c.op-index.ensures)) ∙ c.requires.without in
    k.lists.below c.args.point (may_assign_free p x.chain x.core (view x.pass) k o c.args.op c.op-index.ensures
    c.requires.op (without_point x.core o.index place) c.args.point first.0 first.1).owned
