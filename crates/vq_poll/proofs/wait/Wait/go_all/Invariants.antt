use Rattle.std.proofs.Common.{◌≡◌}
use Rattle.std.specs.Prelude.{None}
use Rattle.futures.specs.Task.{Keeps}
use Rattle.vq_board.specs.Named.{view}
use Rattle.vq_poll.specs.declared.pairs.WaitMode.TheVariants.{All}
use Rattle.vq_poll.specs.Waiting.{CanWait, Stays, plan_in}
use Rattle.vq_poll.proofs.Waited.{Looking}
use Rattle.vq_poll.proofs.wait.Wait.go_all.Given as goal

abbrev pub invariant-loop : goal.invariant-loop
invariant-loop l = record {
  can : CanWait l.self l.pass;
  stays : Stays l.initial.self l.self;
  all : l.self.mode ≡ All;
  none : l.self.met ≡ None;
  place : l.self.next ≡ l.counter;
  looking : Looking (plan_in l.initial.self) (view l.initial.pass) (view l.pass) l.cx l.initial.self.awaited.watched.bells.now;
  kept : Keeps l.initial.cx l.cx;
}
