use Rattle.std.proofs.Common.{Some, sym, ap, ◌∙◌}
use Rattle.std.proofs.lemmas.Bool.{ltb-true}
use Rattle.std.proofs.lemmas.Option.{slice_get-get_or}
use Rattle.std.proofs.Common.{length}
use Rattle.vq_board.specs.Named.{plan_of}
use Rattle.vq_access.proofs.Listing.{asked_or, asked_there, completed_by}
use Rattle.vq_access.proofs.Naming.{all_there}
use Rattle.vq_access.proofs.lists.collected_on.Goals as goal

pub returns-in-Some-clause-completed : goal.returns-in-Some-clause-completed
returns-in-Some-clause-completed g c =
    let found = c.in-Some.ensures.lookup in
    let at =
    slice_get-get_or c.args.timelines.now c.args.chain c.in-Some.timeline.now
    (ltb-true c.args.chain (length c.args.timelines.now) (sym found.0))
    ∙ ap Some (sym found.1) in
    completed_by (plan_of c.args.board.now) c.in-Some.timeline.now c.args.chain c.collect.result
    c.collect.ensures.asked (c.requires.each c.args.chain c.in-Some.timeline.now at).1

pub returns-in-Some-clause-asked : goal.returns-in-Some-clause-asked
returns-in-Some-clause-asked g c x at =
    let found = c.in-Some.ensures.lookup in
    let here =
    slice_get-get_or c.args.timelines.now c.args.chain c.in-Some.timeline.now
    (ltb-true c.args.chain (length c.args.timelines.now) (sym found.0))
    ∙ ap Some (sym found.1) in
    asked_there (g.L.Lists.tries c.args.lists.now) (plan_of c.args.board.now) c.in-Some.timeline.now x c.collect.result
    (sym here ∙ at) (asked_or (g.L.Lists.tries c.args.lists.now) (plan_of c.args.board.now) c.in-Some.timeline.now c.collect.result c.collect.ensures.asked c.collect.ensures.in_use)

pub returns-in-Some-clause-exists : goal.returns-in-Some-clause-exists
returns-in-Some-clause-exists g c =
    let found = c.in-Some.ensures.lookup in
    let at =
    slice_get-get_or c.args.timelines.now c.args.chain c.in-Some.timeline.now
    (ltb-true c.args.chain (length c.args.timelines.now) (sym found.0))
    ∙ ap Some (sym found.1) in
    all_there c.args.board.now c.in-Some.timeline.now (c.requires.each c.args.chain c.in-Some.timeline.now at).0
    c.collect.result c.collect.ensures.asked
