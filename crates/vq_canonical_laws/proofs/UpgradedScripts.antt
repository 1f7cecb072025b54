-- The upgrade of a script, which is the same in the second version of the format, can be written, and its
-- text stands for it.
use Rattle.std.proofs.Common.{◌≡◌, ℕ, List, [], ◌∷◌, ◌++◌, refl, sym, ap, subst, inr, arith, codes}
use Rattle.vq_model.specs.declared.script.Script.{Script}
use Rattle.vq_model.specs.declared.script.Semaphore.{Semaphore}
use Rattle.vq_model.specs.declared.script.HostStep.{HostStep}
use Rattle.vq_model.specs.declared.script.HostStep.TheVariants.{Signal, WaitAll, WaitAny, PollAll, PollAny, Read, FenceWait, FencePoll, FenceReset, Idle}
use Rattle.vq_model.specs.declared.script.Pair.{Pair}
use Rattle.vq_model.specs.declared.statement.Statement.{Statement}
use Rattle.vq_model.specs.declared.statement.Statement.TheVariants.{DeclareBuffer, DeclareSemaphore, DeclareQueue, BeginBatch, AddWait, AddCommand, AddSignal, AddFence, EndBatch, TakeHostStep}
use Rattle.vq_model.specs.Canonical.{canonical_text}
use Rattle.vq_model.specs.LineByLine.{form_of_script}
use Rattle.vq_model.specs.Reading.{StandsFor}
use Rattle.vq_model.specs.SameScript.{IsScript, SameButLines}
use Rattle.vq_reading_laws.proofs.Cited.{most_queues, most_jobs}
use Rattle.vq_canonical_laws.specs.FormatRules.{AreTimed, StepFits}
use Rattle.vq_canonical_laws.proofs.CanonicalOrder.{Leads, IsOrdered}
use Rattle.vq_canonical_laws.proofs.CanonicalReads.{written_parts, parts_are_written, canonical_reads_back}
use Rattle.vq_canonical_laws.proofs.ScriptParts.{Parts, after, May, MayItem, ItemFits, Told}

-- the same in version 2
abbrev pub upgrade : Script → Script
upgrade s = record s { version = 2 }

abbrev upgraded : Parts → Parts
upgraded p = record p { version = 2 }

-- What may follow in a version may follow in the second.

timed_too : (v : ℕ) (ss : List Semaphore) (pairs : List Pair) → AreTimed v ss pairs → AreTimed 2 ss pairs
timed_too v ss pairs h = record { all = h.all; some_pairs = h.some_pairs; few = h.few }

step_too : (v : ℕ) (ss : List Semaphore) (step : HostStep) → StepFits v ss step → StepFits 2 ss step
step_too v ss (Signal pair) h = h
step_too v ss (WaitAll pairs) h = timed_too v ss pairs h
step_too v ss (WaitAny pairs) h = timed_too v ss pairs h
step_too v ss (PollAll pairs) h = timed_too v ss pairs h
step_too v ss (PollAny pairs) h = timed_too v ss pairs h
step_too v ss (Read t) h = h
step_too v ss (FenceWait f) h = h
step_too v ss (FencePoll f) h = h
step_too v ss (FenceReset f) h = h
step_too v ss Idle h = h

item_too : (p : Parts) (t : Told) (s : Statement) → ItemFits p t s → ItemFits (upgraded p) t s
item_too p t (AddWait pair from) h =
    record {
      known = h.known;
      counted = h.counted;
      held = inr refl;
      near = h.near;
      few = h.few;
    }
item_too p t (AddCommand c) h =
    record {
      range = h.range;
      apart = h.apart;
      numerals = h.numerals;
      few = h.few;
      total = h.total;
    }
item_too p t (AddSignal pair) h = record { known = h.known; few = h.few }
item_too p t (AddFence f) h =
    record { semaphore = h.semaphore; there = h.there; fence = h.fence; only = h.only }
item_too p t s h = absurd h

may_item_too : (p : Parts) (s : Statement) → MayItem p s → MayItem (upgraded p) s
may_item_too p s m =
    record {
      told = m.told;
      inside = m.inside;
      in_order = m.in_order;
      fits = item_too p m.told s m.fits;
    }

may_too : (p : Parts) (s : Statement) → May p s → May (upgraded p) s
may_too p (DeclareBuffer name size) m =
    record {
      outside = m.outside;
      first = m.first;
      named = m.named;
      fresh = m.fresh;
      some_bytes = m.some_bytes;
      few = m.few;
      bytes = m.bytes;
    }
may_too p (DeclareSemaphore name kind) m =
    record {
      outside = m.outside;
      first = m.first;
      named = m.named;
      fresh = m.fresh;
      few = m.few;
      small = m.small;
    }
may_too p (DeclareQueue name mode) m =
    let few = m.few in
    let more = most_queues p.version in
    record {
      outside = m.outside;
      first = m.first;
      named = m.named;
      fresh = m.fresh;
      few = omega arith;
    }
may_too p (BeginBatch q) m =
    let few = m.few in
    let more = most_jobs p.version in
    record { outside = m.outside; queue = m.queue; there = m.there; few = omega arith }
may_too p (AddWait pair from) m = may_item_too p (AddWait pair from) m
may_too p (AddCommand c) m = may_item_too p (AddCommand c) m
may_too p (AddSignal pair) m = may_item_too p (AddSignal pair) m
may_too p (AddFence f) m = may_item_too p (AddFence f) m
may_too p EndBatch m =
    record { told = m.told; inside = m.inside; in_order = m.in_order; near = m.near }
may_too p (TakeHostStep step) m =
    let few = m.few in
    let more = most_jobs p.version in
    record {
      outside = m.outside;
      fits = step_too p.version p.semaphores step m.fits;
      few = omega arith;
    }
may_too p s m = absurd m

-- the parts after it are the same in the second version
after_too : (p : Parts) (s : Statement) → May p s → upgraded (after p s) ≡ after (upgraded p) s
after_too p (DeclareBuffer name size) m = refl
after_too p (DeclareSemaphore name kind) m = refl
after_too p (DeclareQueue name mode) m = refl
after_too p (BeginBatch q) m = refl
after_too p (AddWait pair from) m = refl
after_too p (AddCommand c) m = refl
after_too p (AddSignal pair) m = refl
after_too p (AddFence f) m = refl
after_too p EndBatch m = refl
after_too p (TakeHostStep step) m = refl
after_too p s m = absurd m

leads_too : (p q : Parts) (statements : List Statement) → Leads p statements q →
    Leads (upgraded p) statements (upgraded q)
leads_too p q [] l = ap (λ (x : Parts). upgraded x) l
leads_too p q (s ∷ statements) l = (
  may_too p s l.0,
  subst (λ (x : Parts). Leads x statements (upgraded q)) (after_too p s l.0)
      (leads_too (after p s) q statements l.1),
)

ordered_too : (p : Parts) → IsOrdered p → IsOrdered (upgraded p)
ordered_too p o =
    record {
      of_a_version = inr refl;
      buffers_first = leads_too _ _ _ o.buffers_first;
      semaphores_next = leads_too _ _ _ o.semaphores_next;
      queues_next = leads_too _ _ _ o.queues_next;
      batches_last = leads_too _ _ _ o.batches_last;
    }

-- The upgrade of a script that can be written can be written.
pub upgrade_is_written : (s : Script) → IsScript s → IsScript (upgrade s)
upgrade_is_written s i =
    let has = written_parts s i in
    parts_are_written (upgrade s) (record {
      said = upgraded has.said;
      ordered = ordered_too has.said has.ordered;
      items = record { closed = has.items.closed; opened = has.items.opened };
      closed = has.closed;
      scheduled = has.scheduled;
      turns = has.turns;
      lineless = has.lineless;
      actors = has.actors;
      few = has.few;
      none = has.none;
      same = ap (λ (x : Script). upgrade x) has.same;
    })

-- Its text stands for it.
pub upgrade_reads_back : (s : Script) → IsScript s →
    (read : Script) × StandsFor (canonical_text (upgrade s)) (form_of_script s) read
    × SameButLines read (upgrade s)
upgrade_reads_back s i = canonical_reads_back (upgrade s) (upgrade_is_written s i)

-- The text of a script of the first version follows the line of the second.
pub upgrade_text : (s : Script) → s.version ≡ 1 →
    canonical_text (upgrade s) ≡ codes "version 2\n" ++ canonical_text s
upgrade_text s first =
    ap (λ (v : ℕ). codes "version 2\n" ++ canonical_text (record s { version = v })) (sym first)
