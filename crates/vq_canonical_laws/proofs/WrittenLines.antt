-- A canonical line is read, after lines that say parts, as the statement for which it is written.
use Rattle.std.proofs.Common.{List, [], ◌∷◌, Option, Some, refl, sym, subst}
use Rattle.std.specs.Prelude.{codes}
use Rattle.std.specs.Option.{option_map_or}
use Rattle.vq_model.specs.declared.statement.Statement.{Statement}
use Rattle.vq_model.specs.declared.statement.Statement.TheVariants.{DeclareBuffer, DeclareSemaphore, DeclareQueue, BeginBatch, AddWait, AddCommand, AddSignal, AddFence, EndBatch, TakeHostStep}
use Rattle.vq_model.specs.declared.statement.Form.{Form}
use Rattle.vq_model.specs.declared.statement.Line.{Line}
use Rattle.vq_model.specs.declared.statement.LineForm.TheVariants.{QueueLine}
use Rattle.vq_model.specs.declared.script.SemaphoreKind.TheVariants.{Timeline, Binary, Fence}
use Rattle.vq_model.specs.declared.script.Queue.{Queue}
use Rattle.vq_model.specs.declared.script.Mode.TheVariants.{Immediate, Deferred, Threaded}
use Rattle.vq_canonical_laws.proofs.NamedParts.{AreNamed}
use Rattle.vq_canonical_laws.proofs.ScriptParts.{Parts, May, Say}
use Rattle.vq_canonical_laws.proofs.LineWords.{words_at, ReadsAs, form_outside}
use Rattle.vq_canonical_laws.proofs.DeclarationLines.{is_first, buffer_reads, timeline_reads, binary_reads, fence_reads, queue_reads, submit_reads}
use Rattle.vq_canonical_laws.proofs.BatchLines.{signal_reads, batch_fence_reads, end_reads}
use Rattle.vq_canonical_laws.proofs.HeldWaits.{wait_reads}
use Rattle.vq_canonical_laws.proofs.CommandLines.{command_reads}
use Rattle.vq_canonical_laws.proofs.HostLines.{step_reads}

module _ (form : Form) (before : List Line) (p : Parts) (h : Say before p) (named : AreNamed p) where
  -- The canonical words of a statement that may follow read as this statement.
  pub line_reads : (s : Statement) → May p s → ReadsAs form before (words_at p s) s
  line_reads (DeclareBuffer name size) m = buffer_reads form before p h named name size m
  line_reads (DeclareSemaphore name (Timeline value)) m = timeline_reads form before p h named name value m
  line_reads (DeclareSemaphore name Binary) m = binary_reads form before p h named name m
  line_reads (DeclareSemaphore name Fence) m = fence_reads form before p h named name m
  line_reads (DeclareQueue name Immediate) m =
      queue_reads form before p h named name Immediate m refl
      (form_outside form before (codes "queue" ∷ name ∷ codes "immediate" ∷ [])
      (Some (QueueLine Immediate)) (is_first before p h m.outside m.first).part refl refl)
  line_reads (DeclareQueue name Threaded) m =
      queue_reads form before p h named name Threaded m refl
      (form_outside form before (codes "queue" ∷ name ∷ codes "threaded" ∷ [])
      (Some (QueueLine Threaded)) (is_first before p h m.outside m.first).part refl refl)
  line_reads (DeclareQueue name Deferred) m =
      queue_reads form before p h named name Deferred m refl
      (form_outside form before (codes "queue" ∷ name ∷ codes "deferred" ∷ [])
      (Some (QueueLine Deferred)) (is_first before p h m.outside m.first).part refl refl)
  line_reads (BeginBatch q) m =
      subst (λ (z : Option Queue). ReadsAs form before
      (codes "submit" ∷ option_map_or (λ x. x.name) z [] ∷ []) (BeginBatch q)) (sym m.there)
      (submit_reads form before p h named q m)
  line_reads (AddWait pair from) m = wait_reads form before p h named pair from m
  line_reads (AddCommand c) m = command_reads form before p h named c m
  line_reads (AddSignal pair) m = signal_reads form before p h named pair m
  line_reads (AddFence f) m = batch_fence_reads form before p h named f m
  line_reads EndBatch m = end_reads form before p h named m
  line_reads (TakeHostStep step) m = step_reads form before p h named step m
  line_reads s m = absurd m
