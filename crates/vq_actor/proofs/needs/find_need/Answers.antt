use Rattle.std.proofs.Common.{◌∙◌, sym, subst, ap}
use Rattle.vq_model.specs.declared.plan.Need.{Need}
use Rattle.vq_turns.specs.Turns.{Place}
use Rattle.vq_turns.specs.declared.outcome.Outcome.TheVariants.{Moved}
use Rattle.vq_turns.specs.declared.outcome.Want.TheVariants.{Bound}
use Rattle.vq_actor.specs.declared.doing.Doing.TheVariants.{GoesOn, Ends}
use Rattle.vq_actor.specs.Doings.{DidNeed, PassedNeed}
use Rattle.vq_actor.proofs.Seeking.{may_find, may_refer, not_yet, goes_past, gives_past, refers, same_need}
use Rattle.vq_actor.proofs.needs.find_need.Goals as goal

pub find-requires : goal.find-requires
find-requires g c =
    let a = g.A.Access.meaning c.args.access.now in
    let ns = c.args.needs.now in
    let n = c.at-need.result in
    let at = c.at-need.ensures in
    may_find a ns c.args.actor c.args.k n c.requires.next c.requires.actor at c.requires.without c.requires.waiting
    (c.requires.resolved n at)

pub refer-requires : goal.refer-requires
refer-requires g c =
    let a = g.A.Access.meaning c.args.access.now in
    let ns = c.args.needs.now in
    let n = c.at-need.result in
    let at = c.at-need.ensures in
    may_refer a ns c.args.actor c.args.k n c.requires.next c.requires.actor at c.requires.without c.requires.waiting
    (g.A.Access.meaning c.find.new.self) (g.A.Access.shows c.find.new.self) c.in-Pending.op c.in-Pending.point
    c.in-Pending.ensures

pub returns-then-met : goal.returns-then-met
returns-then-met g c n is =
    let a = g.A.Access.meaning c.args.access.now in
    let m = g.A.Access.meaning c.find.new.self in
    let b = g.A.Access.meaning c.give_back.new.access in
    let shows = g.A.Access.shows c.give_back.new.access in
    let ns = c.args.needs.now in
    let k = c.args.k in
    let o = c.at-need.result in
    let at = c.at-need.ensures in
    let met = ap (λ (x : Place). x.met) (sym c.place.ensures) ∙ sym c.if-met.ensures.is in
    subst (λ (x : Need). DidNeed a b k x shows c.give_back.result) (same_need ns k o n at is)
    (gives_past a ns c.args.actor k o c.requires.next c.requires.actor at c.requires.without c.requires.waiting m
    (g.A.Access.shows c.find.new.self) c.in-Past.ensures met b shows c.give_back.result c.give_back.ensures)

pub returns-else-met : goal.returns-else-met
returns-else-met g c n is =
    let a = g.A.Access.meaning c.args.access.now in
    let m = g.A.Access.meaning c.find.new.self in
    let shows = g.A.Access.shows c.find.new.self in
    let ns = c.args.needs.now in
    let k = c.args.k in
    let o = c.at-need.result in
    let at = c.at-need.ensures in
    let unmet = ap (λ (x : Place). x.met) (sym c.place.ensures) ∙ sym c.if-met.ensures.is in
    subst (λ (x : Need). DidNeed a m k x shows GoesOn) (same_need ns k o n at is)
    (goes_past a ns c.args.actor k o c.requires.next c.requires.actor at c.requires.without c.requires.waiting m shows
    c.in-Past.ensures unmet)

pub returns-in-NotYet : goal.returns-in-NotYet
returns-in-NotYet g c n is =
    let a = g.A.Access.meaning c.args.access.now in
    let m = g.A.Access.meaning c.find.new.self in
    let shows = g.A.Access.shows c.find.new.self in
    let ns = c.args.needs.now in
    let k = c.args.k in
    let o = c.at-need.result in
    let at = c.at-need.ensures in
    subst (λ (x : Need). PassedNeed a m k x shows (Bound c.in-NotYet.op)) (same_need ns k o n at is)
    (not_yet a ns c.args.actor k o c.requires.next c.requires.actor at c.requires.without c.requires.waiting m shows
    c.in-NotYet.op c.in-NotYet.ensures)

pub returns-in-Ok : goal.returns-in-Ok
returns-in-Ok g c n is =
    let a = g.A.Access.meaning c.args.access.now in
    let m = g.A.Access.meaning c.find.new.self in
    let b = g.A.Access.meaning c.refer.new.self in
    let shows = g.A.Access.shows c.refer.new.self in
    let ns = c.args.needs.now in
    let k = c.args.k in
    let o = c.at-need.result in
    let at = c.at-need.ensures in
    subst (λ (x : Need). DidNeed a b k x shows (Ends (Moved c.in-Ok.event))) (same_need ns k o n at is)
    (refers a ns c.args.actor k o c.requires.next c.requires.actor at c.requires.without c.requires.waiting m
    (g.A.Access.shows c.find.new.self) b shows c.in-Pending.op c.in-Pending.point c.in-Pending.ensures
    c.in-Ok.event c.in-Ok.ensures.answer)
