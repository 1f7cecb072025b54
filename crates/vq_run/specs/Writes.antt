-- What writing a text at the end of a run leaves. This project's own.
use Rattle.std.specs.Prelude.{ℕ, ◌≡◌, List, length, Option, Result, Ok, Err}
use Rattle.vq_port.specs.declared.read.ReadFault.{ReadFault as Unread}
use Rattle.vq_port.specs.declared.read.ReadFault.TheVariants.{Failed, TooLong, Memory as NoMemoryToRead}
use Rattle.vq_port.specs.Faults.{Rose}
use Rattle.vq_port.specs.Writing.{Appends, AppendsPart, Stays, StillTells}
use Rattle.vq_run.specs.declared.status.Status.{Status}
use Rattle.vq_run.specs.declared.status.Status.TheVariants.{Refused, ReadFault, WriteFault, Memory}
use Rattle.vq_run.specs.declared.outcome.Reply.{Reply}
use Rattle.vq_model.specs.Refusals.{too_long}

-- a sink at one moment: the bytes written to it, where it tells them; how many more it is sure to
-- tell; and its count of faults
pub record SinkMoment : Type 0 where
  pub written : Option (List ℕ)
  pub room : ℕ
  pub faults : ℕ

-- the moment at which a sink stands in a state
abbrev pub moment : {S : Type 0} → (S → Option (List ℕ)) → (S → ℕ) → (S → ℕ) → S → SinkMoment
moment written room faults sink =
    record { written = written sink; room = room sink; faults = faults sink }

-- A whole text was written. Where the sink tells its bytes afterwards, they grew by the text; and
-- one that told them and had room for the text still tells them.
pub record WroteAll (text : List ℕ) (before now : SinkMoment) : Type 0 where
  pub appended : Appends text before.written now.written
  pub told : StillTells (length text) before.written now.written before.room now.room

-- a first part of a text was written, and not all of it
abbrev pub WrotePart : List ℕ → SinkMoment → SinkMoment → Type 0
WrotePart text before now = AppendsPart text before.written now.written

abbrev pub WroteNothing : SinkMoment → SinkMoment → Type 0
WroteNothing before now = Stays before.written now.written

-- A text was written whole and the run ends with the status that was meant; or a part of it was
-- written, the sink counted a fault, and the run ends with a fault of writing.
pub data Writes (text : List ℕ) (meant result : Status) (before now : SinkMoment) : Type 0 where
  wrote_all : result ≡ meant → WroteAll text before now → Writes text meant result before now
  wrote_part : result ≡ WriteFault → WrotePart text before now → Rose before.faults now.faults →
      Writes text meant result before now

-- A run ended with what an input came to; for want of memory with nothing.
pub record EndsWith {E : Type 0} (came : Result Reply E) (result : Status) (before now : SinkMoment) : Type 0 where
  pub outcome : (o : Reply) → came ≡ Ok o → Writes o.text.items o.status result before now
  pub memory : (e : E) → came ≡ Err e → (result ≡ Memory) × WroteNothing before now

-- A run ended whose input wasn't read whole: with nothing, or with the line that refuses a long one.
pub record EndsUnread (fault : Unread) (result : Status) (before now : SinkMoment) : Type 0 where
  pub failed : fault ≡ Failed → (result ≡ ReadFault) × WroteNothing before now
  pub memory : fault ≡ NoMemoryToRead → (result ≡ Memory) × WroteNothing before now
  pub long : fault ≡ TooLong → Writes too_long Refused result before now
