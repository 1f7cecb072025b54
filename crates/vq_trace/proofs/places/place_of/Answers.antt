use Rattle.vq_trace.proofs.FirstPlaces.{found_place, found_nowhere}
use Rattle.vq_trace.proofs.places.place_of.Goals as goal

pub returns-in-Ok : goal.returns-in-Ok
returns-in-Ok c =
    found_place c.args.numbers.now c.args.number c.in-Ok.place c.requires.rising c.in-Ok.ensures.position

pub returns-in-Err : goal.returns-in-Err
returns-in-Err c =
    found_nowhere c.args.numbers.now c.args.number c.in-Err.field-0 c.requires.rising c.in-Err.ensures.position
