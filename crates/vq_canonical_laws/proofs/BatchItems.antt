-- The batches of parts hold waits, commands, signals and fences alone.
use Rattle.std.proofs.Common.{Bool, true, false, ◌≡◌, List, [], ◌∷◌, Option, Some, None, ◌&&◌, ◌++◌, refl, ◌∙◌, ℕ}
use Rattle.vq_model.specs.declared.statement.Statement.{Statement}
use Rattle.vq_model.specs.declared.statement.Statement.TheVariants.{AddWait, AddCommand, AddSignal, AddFence, DeclareBuffer, DeclareSemaphore, DeclareQueue, BeginBatch, EndBatch, TakeHostStep}
use Rattle.vq_model.specs.declared.script.HostStep.{HostStep}
use Rattle.std.specs.List.{list_all}
use Rattle.vq_canonical_laws.proofs.ScriptParts.{ToldStep, ToldBatch, ToldJob, Told, Parts, no_parts, with_item, with_batch, after, May}
use Rattle.std.proofs.lemmas.Bool.{and_from}
use Rattle.std.proofs.lemmas.List.Folds.{list_all-append}

-- a statement of a batch
abbrev pub is_item : Statement → Bool
is_item (AddWait pair from) = true
is_item (AddCommand command) = true
is_item (AddSignal pair) = true
is_item (AddFence f) = true
is_item other = false

abbrev pub AllItems : List ToldJob → Type 0
AllItems [] = Unit {0}
AllItems (ToldStep step ∷ jobs) = AllItems jobs
AllItems (ToldBatch t ∷ jobs) = (list_all is_item t.1 ≡ true) × AllItems jobs

abbrev pub OpenItems : Option Told → Type 0
OpenItems None = Unit {0}
OpenItems (Some t) = list_all is_item t.1 ≡ true

-- The batches of parts hold nothing else.
pub record HasItems (p : Parts) : Type 0 where
  pub closed : AllItems p.jobs
  pub opened : OpenItems p.batch

-- no parts
pub no_items : (v : ℕ) → HasItems (no_parts v)
no_items v = record { closed = tt; opened = tt }

-- one more statement in the open batch
open_push : (batch : Option Told) (s : Statement) → OpenItems batch → is_item s ≡ true →
    OpenItems (with_item batch s)
open_push None s h e = tt
open_push (Some t) s h e =
    list_all-append is_item t.1 (s ∷ [])
    ∙ and_from (list_all is_item t.1) (is_item s && true) h (and_from (is_item s) true e refl)

-- one more batch
closed_push : (jobs : List ToldJob) (batch : Option Told) → AllItems jobs → OpenItems batch →
    AllItems (with_batch jobs batch)
closed_push jobs None h o = h
closed_push [] (Some t) h o = (o, tt)
closed_push (ToldStep step ∷ jobs) (Some t) h o = closed_push jobs (Some t) h o
closed_push (ToldBatch u ∷ jobs) (Some t) h o = (h.0, closed_push jobs (Some t) h.1 o)

-- one more step of the host
step_push : (jobs : List ToldJob) (step : HostStep) → AllItems jobs →
    AllItems (jobs ++ ToldStep step ∷ [])
step_push [] step h = tt
step_push (ToldStep other ∷ jobs) step h = step_push jobs step h
step_push (ToldBatch u ∷ jobs) step h = (h.0, step_push jobs step h.1)

-- They hold nothing else after a statement that may follow.
pub items_more : (p : Parts) (s : Statement) → HasItems p → May p s → HasItems (after p s)
items_more p (DeclareBuffer name size) h m = record { closed = h.closed; opened = h.opened }
items_more p (DeclareSemaphore name kind) h m = record { closed = h.closed; opened = h.opened }
items_more p (DeclareQueue name mode) h m = record { closed = h.closed; opened = h.opened }
items_more p (BeginBatch q) h m = record { closed = h.closed; opened = refl }
items_more p (AddWait pair from) h m =
    record { closed = h.closed; opened = open_push p.batch (AddWait pair from) h.opened refl }
items_more p (AddCommand c) h m =
    record { closed = h.closed; opened = open_push p.batch (AddCommand c) h.opened refl }
items_more p (AddSignal pair) h m =
    record { closed = h.closed; opened = open_push p.batch (AddSignal pair) h.opened refl }
items_more p (AddFence f) h m =
    record { closed = h.closed; opened = open_push p.batch (AddFence f) h.opened refl }
items_more p EndBatch h m =
    record { closed = closed_push p.jobs p.batch h.closed h.opened; opened = tt }
items_more p (TakeHostStep step) h m =
    record { closed = step_push p.jobs step h.closed; opened = tt }
items_more p s h m = absurd m
