use Rattle.std.proofs.Common.{◌≡◌, take}
use Rattle.vq_audit.specs.Verdicts.{made_events}
use Rattle.vq_audit.proofs.playing.play.Given as goal

abbrev pub invariant-loop-given : goal.invariant-loop-given
invariant-loop-given l = record {
  plan : l.core.plan ≡ l.fn.core.plan;
  history : l.core.history ≡ made_events (take l.given-index l.events);
}
