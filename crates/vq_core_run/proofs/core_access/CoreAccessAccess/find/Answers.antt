use Rattle.std.proofs.Common.{Some, [], ◌∷◌, sym, subst, ap, ap₂, ◌∙◌}
use Rattle.vq_turns.specs.declared.look.Found.{Found}
use Rattle.vq_turns.specs.declared.look.Found.TheVariants.{Past}
use Rattle.vq_turns.specs.declared.task.Task.TheVariants.{AwaitNeeds}
use Rattle.vq_turns.specs.Turns.{found}
use Rattle.vq_actor.specs.Meanings.{Other}
use Rattle.vq_actor.specs.Trackers.{Tracked}
use Rattle.vq_actor.specs.Waits.{AnswersFind}
use Rattle.vq_core.specs.CoreState.{world}
use Rattle.vq_core_run.specs.CoreAccesses.{recent_of, meaning_of, shown_by}
use Rattle.vq_core_run.proofs.CoreAnswers.{finds, other_emptied}
use Rattle.vq_core_run.proofs.Serving.{counts, seated_past}
use Rattle.vq_core_run.proofs.core_access.CoreAccessAccess.find.Goals as goal

pub pass-requires : goal.pass-requires
pass-requires c =
    let x = c.args.self.now in
    counts x.core.now c.keeps.ensures x.actor x.seat.now x.seated (AwaitNeeds c.requires.needs) c.requires.is_next

pub invariant_of-self : goal.invariant_of-self
invariant_of-self c =
    let x = c.args.self.now in
    let d = x.core.now in
    let m = c.requires in
    let past = ap₂ (found d.plan (world d)) m.chain m.value ∙ (c.found-found.ensures ∙ ap Some c.in-Past.is) in
    record {
      seated = seated_past d c.keeps.ensures x.actor x.seat.now x.seated m.needs m.is_next m.waiting c.args.need
          m.need m.at past c.pass.new.self c.pass.ensures;
      emptied = other_emptied x.core.now;
    }

pub returns-in-Past : goal.returns-in-Past
returns-in-Past c =
    let x = c.args.self.now in
    let d = x.core.now in
    let l = x.core.ghost_name ∷ x.seat.ghost_name ∷ [] in
    let r = recent_of x.last in
    let past = c.found-found.ensures ∙ ap Some c.in-Past.is in
    let y = c.pass.new.self.place in
    subst (λ (f : Found). AnswersFind (meaning_of l d x.actor x.seat.now.place r) (meaning_of l d x.actor y Other)
    c.args.need c.args.chain c.args.value (shown_by d) f) (sym c.in-Past.is)
    (finds l d x.actor x.seat.now.place r y c.args.need c.args.chain c.args.value Past past
    (sym (ap (λ (t : Tracked). t.place) c.pass.ensures)) (λ e yet. absurd (cc)))
