use Rattle.std.proofs.Common.{◌≡◌, ℕ, ◌<◌, Some, length}
use Rattle.std.specs.List.{slice_get}
use Rattle.futures.specs.Task.{Keeps, IsArmed}
use Rattle.vq_board.specs.Named.{view, IsOf}
use Rattle.vq_payload.specs.Learning.{HasLearned}
use Rattle.vq_poll.specs.declared.pairs.Pair.{Pair}
use Rattle.vq_poll.specs.Hearing.{HearsBell}
use Rattle.vq_poll.specs.Missing.{IsMissed}
use Rattle.vq_poll.specs.Seeing.{Looked}
use Rattle.vq_poll.specs.Waiting.{plan_in, pairs_in}
use Rattle.vq_poll.proofs.wait.Wait.go_any.Given as goal

abbrev pub invariant-loop-index : goal.invariant-loop-index
invariant-loop-index l = record {
  same : l.self ≡ l.initial.self;
  room : length l.seen ≡ 16;
  pass_is : IsOf l.initial.self.awaited.watched.board.now l.pass;
  learned : HasLearned l.initial.pass l.pass;
  looked : Looked l.initial.self.awaited (view l.initial.pass) (view l.pass) l.cx l.seen;
  missed : (i : ℕ) (x : Pair) → i < l.index → slice_get (pairs_in l.initial.self) i ≡ Some x → IsMissed (plan_in l.initial.self) (view l.initial.pass) (view l.pass) x;
  hears : (i : ℕ) (x : Pair) → i < l.index → slice_get (pairs_in l.initial.self) i ≡ Some x → HearsBell l.cx l.initial.self.awaited.watched.bells.now x.chain;
  armed : 0 < l.index → IsArmed l.cx;
  kept : Keeps l.initial.cx l.cx;
}
