use Rattle.std.proofs.Common.{ℕ, Option, sym, ap, ◌∙◌}
use Rattle.vq_capture.specs.Releases.{event_releases}
use Rattle.vq_capture_things.specs.Steps.{steps_of}
use Rattle.vq_capture_things.proofs.NoQueue.{no_queue}
use Rattle.vq_capture_things.proofs.things.Things.event_releases.Goals as goal

pub returns-in-None : goal.returns-in-None
returns-in-None c =
    c.new.ensures.items
    ∙ sym (ap (λ (q : Option ℕ). event_releases (steps_of c.args.self.now) c.args.event q) c.in-None.is ∙ no_queue (steps_of c.args.self.now) c.args.event)
