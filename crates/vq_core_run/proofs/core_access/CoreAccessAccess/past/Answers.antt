use Rattle.std.proofs.Common.{[], ◌∷◌, ◌∙◌, ℕ, refl, ap}
use Rattle.vq_turns.specs.declared.task.Task.TheVariants.{Compare}
use Rattle.vq_turns.specs.Programs.{program}
use Rattle.vq_turns.specs.Turns.{seeing}
use Rattle.vq_actor.specs.Trackers.{Tracked}
use Rattle.vq_actor.proofs.Cited.{fits_seen}
use Rattle.vq_core_run.specs.CoreAccesses.{recent_of}
use Rattle.vq_core_run.proofs.CoreAnswers.{past_found, other_emptied}
use Rattle.vq_core_run.proofs.Serving.{counts, seated_seen}
use Rattle.vq_core_run.proofs.core_access.CoreAccessAccess.past.Goals as goal

pub see-requires-clause-short : goal.see-requires-clause-short
see-requires-clause-short c =
    let x = c.args.self.now in
    counts x.core.now c.keeps.ensures x.actor x.seat.now x.seated (Compare c.args.chain c.args.wanted)
    c.requires.is_next

pub see-requires-clause-room : goal.see-requires-clause-room
see-requires-clause-room c =
    let x = c.args.self.now in
    fits_seen (program x.core.now.plan x.actor) x.seat.now (Compare c.args.chain c.args.wanted) c.requires.is_next
    x.seated.fits c.args.chain c.args.wanted refl

pub invariant_of-self : goal.invariant_of-self
invariant_of-self c =
    let x = c.args.self.now in
    let d = x.core.now in
    let m = c.requires in
    record {
      seated = seated_seen d c.keeps.ensures x.actor x.seat.now x.seated c.args.chain c.args.wanted m.is_next
          (x.emptied c.args.chain m.collected) c.see.new.self
          (c.see.ensures ∙ ap (λ (n : ℕ). seeing_at x.seat.now c.args.wanted n) c.past_value-past.ensures);
      emptied = other_emptied x.core.now;
    }
  where
    seeing_at : Tracked → ℕ → ℕ → Tracked
    seeing_at y v n = record y { place = seeing y.place v n }

pub returns : goal.returns
returns c =
    let x = c.args.self.now in
    past_found (x.core.ghost_name ∷ x.seat.ghost_name ∷ []) x.core.now x.actor x.seat.now.place (recent_of x.last)
    c.see.new.self.place c.args.chain c.args.wanted c.past_value-past.result c.past_value-past.ensures
    (ap (λ (t : Tracked). t.place) c.see.ensures)
