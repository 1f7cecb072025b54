-- Of the lines above, the names behind a line ask for the names alone.
use Rattle.std.proofs.Common.{◌≡◌, ℕ, List, refl}
use Rattle.vq_capture.specs.declared.statement.Statement.{Statement}
use Rattle.vq_capture.specs.declared.statement.Statement.TheVariants.{Declare, DeclareTimeline, DeclareResource, Forget, GoOn, After, Submit, HandOver, SubmitHanded, HostSignal, SawValue, SawFence, WaitIdle, HostAccess, Cut, WaitTimeline, WaitBinary, CommandAccess, Next, Barrier, Transition, SetEvent, AwaitEvent, SignalTimeline, SignalBinary, SignalFence, EndBatch}
use Rattle.vq_capture.specs.Context.{Above}
use Rattle.vq_capture.specs.Statements.{names_after}
use Rattle.vq_capture_reader.specs.Things.{names_only}

module _ (above : Above) (line : ℕ) where
  pub same_names : (ws : List (List ℕ)) (said : Statement) → names_after (names_only above.names) line ws said ≡ names_after above line ws said
  same_names ws (Declare a) = refl
  same_names ws (DeclareTimeline a) = refl
  same_names ws (DeclareResource a) = refl
  same_names ws (Forget a) = refl
  same_names ws (GoOn a) = refl
  same_names ws (After a) = refl
  same_names ws (Submit a) = refl
  same_names ws HandOver = refl
  same_names ws (SubmitHanded a b) = refl
  same_names ws (HostSignal a b) = refl
  same_names ws (SawValue a b) = refl
  same_names ws (SawFence a) = refl
  same_names ws (WaitIdle a) = refl
  same_names ws (HostAccess a) = refl
  same_names ws Cut = refl
  same_names ws (WaitTimeline a b c) = refl
  same_names ws (WaitBinary a b) = refl
  same_names ws (CommandAccess a b) = refl
  same_names ws Next = refl
  same_names ws (Barrier a b) = refl
  same_names ws (Transition a b c) = refl
  same_names ws (SetEvent a b) = refl
  same_names ws (AwaitEvent a b) = refl
  same_names ws (SignalTimeline a b c) = refl
  same_names ws (SignalBinary a b) = refl
  same_names ws (SignalFence a) = refl
  same_names ws EndBatch = refl
