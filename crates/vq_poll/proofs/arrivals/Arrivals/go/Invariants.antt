use Rattle.std.proofs.Common.{◌≡◌, ℕ, ◌<◌, Some, length}
use Rattle.std.specs.List.{slice_get}
use Rattle.futures.specs.Task.{Keeps, IsArmed}
use Rattle.vq_board.specs.Named.{view, IsOf}
use Rattle.vq_payload.specs.Learning.{HasLearned}
use Rattle.vq_poll.specs.declared.pairs.Pair.{Pair}
use Rattle.vq_poll.specs.Arriving.{plan_on, pairs_on}
use Rattle.vq_poll.specs.Hearing.{HearsBell}
use Rattle.vq_poll.specs.Missing.{IsMissed}
use Rattle.vq_poll.specs.Seeing.{Looked}
use Rattle.vq_poll.proofs.arrivals.Arrivals.go.Given as goal

abbrev pub invariant-loop-place : goal.invariant-loop-place
invariant-loop-place l = record {
  room : length l.seen ≡ 16;
  same : l.self.awaited ≡ l.initial.self.awaited;
  left : l.self.left ≡ l.initial.self.left;
  loan : l.self.pass.ghost_name ≡ l.initial.self.pass.ghost_name;
  pass_is : IsOf l.initial.self.awaited.watched.board.now l.self.pass.now;
  learned : HasLearned l.initial.self.pass.now l.self.pass.now;
  looked : Looked l.initial.self.awaited (view l.initial.self.pass.now) (view l.self.pass.now) l.cx l.seen;
  missed : (k i : ℕ) (x : Pair) → k < l.place → slice_get l.initial.self.left.items k ≡ Some i → slice_get (pairs_on l.initial.self) i ≡ Some x
      → IsMissed (plan_on l.initial.self) (view l.initial.self.pass.now) (view l.self.pass.now) x;
  hears : (k i : ℕ) (x : Pair) → k < l.place → slice_get l.initial.self.left.items k ≡ Some i → slice_get (pairs_on l.initial.self) i ≡ Some x
      → HearsBell l.cx l.initial.self.awaited.watched.bells.now x.chain;
  armed : 0 < l.place → IsArmed l.cx;
  kept : Keeps l.initial.cx l.cx;
}
