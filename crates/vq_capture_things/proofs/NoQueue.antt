-- No event is set on no queue.
use Rattle.std.proofs.Common.{◌≡◌, ◌∙◌, ℕ, Bool, false, cond, List, [], ◌∷◌, find, reverse, Option, Some, None, refl, ap, ◌==◌}
use Rattle.std.specs.Option.{option_map, option_to_list}
use Rattle.vq_ground.proofs.Bools.{and_false}
use Rattle.vq_capture.specs.declared.statement.Statement.{Statement}
use Rattle.vq_capture.specs.declared.statement.Statement.TheVariants.{Declare, DeclareTimeline, DeclareResource, Forget, GoOn, After, Submit, HandOver, SubmitHanded, HostSignal, SawValue, SawFence, WaitIdle, HostAccess, Cut, WaitTimeline, WaitBinary, CommandAccess, Next, Barrier, Transition, SetEvent, AwaitEvent, SignalTimeline, SignalBinary, SignalFence, EndBatch}
use Rattle.vq_capture.specs.declared.capture.Step.{Step}
use Rattle.vq_capture.specs.Releases.{sets_event, event_releases}

sets_none : (e : ℕ) (s : Step) (said : Statement) → sets_event e None (record s { statement = said }) ≡ false
sets_none e s (Declare a) = refl
sets_none e s (DeclareTimeline a) = refl
sets_none e s (DeclareResource a) = refl
sets_none e s (Forget a) = refl
sets_none e s (GoOn a) = refl
sets_none e s (After a) = refl
sets_none e s (Submit a) = refl
sets_none e s HandOver = refl
sets_none e s (SubmitHanded a b) = refl
sets_none e s (HostSignal a b) = refl
sets_none e s (SawValue a b) = refl
sets_none e s (SawFence a) = refl
sets_none e s (WaitIdle a) = refl
sets_none e s (HostAccess a) = refl
sets_none e s Cut = refl
sets_none e s (WaitTimeline a b c) = refl
sets_none e s (WaitBinary a b) = refl
sets_none e s (CommandAccess a b) = refl
sets_none e s Next = refl
sets_none e s (Barrier a b) = refl
sets_none e s (Transition a b c) = refl
sets_none e s (SetEvent a b) = and_false (a == e)
sets_none e s (AwaitEvent a b) = refl
sets_none e s (SignalTimeline a b c) = refl
sets_none e s (SignalBinary a b) = refl
sets_none e s (SignalFence a) = refl
sets_none e s EndBatch = refl

found_none : (e : ℕ) (xs : List Step) → find (sets_event e None) xs ≡ None
found_none e [] = refl
found_none e (x ∷ xs) =
    ap (λ (b : Bool). cond b (Some x) (find (sets_event e None) xs)) (sets_none e x x.statement) ∙ found_none e xs

pub no_queue : (xs : List Step) (e : ℕ) → event_releases xs e None ≡ []
no_queue xs e = ap (λ (o : Option Step). option_to_list (option_map (λ s. s.line) o)) (found_none e (reverse xs))
