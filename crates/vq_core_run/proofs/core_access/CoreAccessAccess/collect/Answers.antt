use Rattle.std.proofs.Common.{[], ◌∷◌, sym, ◌∙◌}
use Rattle.vq_core_run.specs.CoreAccesses.{recent_of}
use Rattle.vq_core_run.proofs.CoreAnswers.{collection_made, other_emptied}
use Rattle.vq_core_run.proofs.Serving.{turns_collect, seated_collected}
use Rattle.vq_core_run.proofs.core_access.CoreAccessAccess.collect.Goals as goal

pub make-requires : goal.make-requires
make-requires c i =
    let x = c.args.self.now in
    (turns_collect x.core.now i x.actor x.seat.now x.seated c.requires.task c.requires.is_next
    c.args.chain c.in-Some.event (sym c.collected.ensures ∙ c.in-Some.is)).0

pub invariant_of-self : goal.invariant_of-self
invariant_of-self c =
    let x = c.args.self.now in
    let d = x.core.now in
    let event = c.in-Some.event in
    let turn = turns_collect d c.make.ensures.course x.actor x.seat.now x.seated c.requires.task c.requires.is_next
    c.args.chain event (sym c.collected.ensures ∙ c.in-Some.is) in
    record {
      seated = seated_collected d c.make.ensures.course x.actor x.seat.now x.seated c.requires.task c.requires.is_next
          c.make.new.core event c.make.ensures.made turn;
      emptied = other_emptied c.make.new.core;
    }

pub returns-in-Some : goal.returns-in-Some
returns-in-Some c =
    let x = c.args.self.now in
    collection_made (x.core.ghost_name ∷ x.seat.ghost_name ∷ []) x.core.now x.actor x.seat.now.place (recent_of x.last)
    c.make.new.core c.args.chain c.in-Some.event c.make.ensures.made (sym c.collected.ensures ∙ c.in-Some.is)
