use Rattle.std.proofs.Common.{◌∙◌, sym, ap}
use Rattle.std.specs.Option.{option_map}
use Rattle.vq_turns.specs.Turns.{Place, held_for}
use Rattle.vq_actor.specs.Positions.{holding_of}
use Rattle.vq_actor.proofs.Seeking.{sees_not}
use Rattle.vq_actor.proofs.needs.ask_need.Goals as goal

pub returns-in-Err : goal.returns-in-Err
returns-in-Err g c n at =
    let a = g.A.Access.meaning c.args.access.now in
    let k = c.args.k in
    sees_not a c.args.needs.now c.args.actor k n c.in-Some.reference c.requires.next c.requires.actor
    (ap (λ (x : Place). held_for k x.holding) (sym c.place.ensures)
    ∙ (c.held.ensures ∙ ap (option_map (holding_of k)) c.in-Some.is))
    c.requires.waiting (g.A.Access.meaning c.look.new.self) (g.A.Access.shows c.look.new.self) c.in-Err.want
    c.in-Err.ensures.answer
