use Rattle.std.proofs.Common.{◌≡◌, ◌≤◌}
use Rattle.vq_script.specs.Holds.{kept, with_turns}
use Rattle.vq_script.proofs.known.Known.add_turns.Given as goal

abbrev pub invariant-loop : goal.invariant-loop
invariant-loop l = record {
  added : kept l.self ≡ with_turns (kept l.fn.self) l.turn.line l.turn.actor l.counter;
  batch : l.self.batch ≡ l.fn.self.batch;
  within : l.counter ≤ l.count;
}
