-- What a line says of a step of the host, and the step.
use Rattle.std.specs.Prelude.{ℕ, ◌≡◌, true, is_some, List, [], ⊤}
use Rattle.std.specs.Borrow.{Bor}
use Rattle.std.specs.Option.{unwrap_or}
use Rattle.vq_model.specs.declared.script.Pair.{Pair}
use Rattle.vq_model.specs.declared.script.HostStep.{HostStep}
use Rattle.vq_model.specs.declared.script.HostStep.TheVariants.{Signal, WaitAll, WaitAny, PollAll, PollAny, Read}
use Rattle.vq_model.specs.declared.script.HostStep.TheVariants.{FenceWait, FencePoll, FenceReset, Idle}
use Rattle.vq_model.specs.Meaning.{pairs_at}
use Rattle.vq_lexer.specs.Words.{texts}
use Rattle.vq_script.specs.declared.host_steps.SaidStep.{SaidStep}
use Rattle.vq_script.specs.declared.host_steps.SaidStep.TheVariants.{Signal as SaysSignal, WaitAll as SaysWaitAll}
use Rattle.vq_script.specs.declared.host_steps.SaidStep.TheVariants.{WaitAny as SaysWaitAny, PollAll as SaysPollAll}
use Rattle.vq_script.specs.declared.host_steps.SaidStep.TheVariants.{PollAny as SaysPollAny, Read as SaysRead}
use Rattle.vq_script.specs.declared.host_steps.SaidStep.TheVariants.{FenceWait as SaysFenceWait}
use Rattle.vq_script.specs.declared.host_steps.SaidStep.TheVariants.{FencePoll as SaysFencePoll}
use Rattle.vq_script.specs.declared.host_steps.SaidStep.TheVariants.{FenceReset as SaysFenceReset, Idle as SaysIdle}
use Rattle.vq_script.specs.Holds.{Kept}
use Rattle.vq_script.specs.LineTests.{number_of}

-- the pairs of words that are read
abbrev pub read_pairs : Kept → List (Bor (List ℕ)) → List Pair
read_pairs k words = unwrap_or (pairs_at (number_of k) (texts words)) []

-- the step that a line says
abbrev pub step_in : Kept → SaidStep → HostStep
step_in k (SaysSignal pair) = Signal pair
step_in k (SaysWaitAll words) = WaitAll (read_pairs k words.now)
step_in k (SaysWaitAny words) = WaitAny (read_pairs k words.now)
step_in k (SaysPollAll words) = PollAll (read_pairs k words.now)
step_in k (SaysPollAny words) = PollAny (read_pairs k words.now)
step_in k (SaysRead t) = Read t
step_in k (SaysFenceWait f) = FenceWait f
step_in k (SaysFencePoll f) = FencePoll f
step_in k (SaysFenceReset f) = FenceReset f
step_in k SaysIdle = Idle

-- the pairs of words are read
abbrev pub AreRead : Kept → List (Bor (List ℕ)) → Type 0
AreRead k words = is_some (pairs_at (number_of k) (texts words)) ≡ true

-- .. of a step
abbrev pub IsReadStep : Kept → SaidStep → Type 0
IsReadStep k (SaysWaitAll words) = AreRead k words.now
IsReadStep k (SaysWaitAny words) = AreRead k words.now
IsReadStep k (SaysPollAll words) = AreRead k words.now
IsReadStep k (SaysPollAny words) = AreRead k words.now
IsReadStep k other = ⊤
