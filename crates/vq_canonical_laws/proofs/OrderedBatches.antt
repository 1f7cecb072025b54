-- One more line of a job, in the canonical order.
use Rattle.std.proofs.Common.{◌≡◌, ℕ, List, [], ◌∷◌, ◌++◌, append_assoc, append-nil, Some, None, sym, ap, ◌∙◌, subst, Option, refl}
use Rattle.std.specs.List.{flat_map}
use Rattle.std.proofs.lemmas.Grind.{flat_map-append}
use Rattle.vq_model.specs.declared.statement.Statement.{Statement}
use Rattle.vq_model.specs.declared.statement.Statement.TheVariants.{BeginBatch, EndBatch, DeclareBuffer, DeclareSemaphore, DeclareQueue, AddWait, AddCommand, AddSignal, AddFence, TakeHostStep}
use Rattle.vq_model.specs.declared.script.HostStep.{HostStep}
use Rattle.vq_model.specs.declared.script.Buffer.{Buffer}
use Rattle.vq_model.specs.declared.script.Semaphore.{Semaphore}
use Rattle.vq_model.specs.declared.script.Queue.{Queue}
use Rattle.vq_canonical_laws.proofs.ScriptParts.{ToldJob, Told, Parts, parts, after, May, MayEnd, with_item, a_buffer, a_semaphore, a_queue, after_item, MayBuffer, MaySemaphore, MayQueue, MayItem, with_batch, MayStep, ToldStep, ToldBatch}
use Rattle.vq_canonical_laws.proofs.CanonicalOrder.{Leads, leads_push, job_statements, batch_statements, declarations, IsOrdered}
use Rattle.vq_canonical_laws.proofs.OrderedDeclarations.{ordered_buffer, ordered_semaphore, ordered_queue}

-- One more line of a batch

module _ (v : ℕ) (bs : List Buffer) (ss : List Semaphore) (qs : List Queue) (jobs : List ToldJob) where
  -- a batch begins
  ordered_begin : (q : ℕ) → IsOrdered (parts v bs ss qs jobs None) →
      May (parts v bs ss qs jobs None) (BeginBatch q) →
      IsOrdered (parts v bs ss qs jobs (Some (q, [])))
  ordered_begin q o m =
      record {
        of_a_version = o.of_a_version;
        buffers_first = o.buffers_first;
        semaphores_next = o.semaphores_next;
        queues_next = o.queues_next;
        batches_last =
            subst (λ (xs : List Statement). Leads (declarations v bs ss qs) xs
            (parts v bs ss qs jobs (Some (q, []))))
            (append_assoc (flat_map job_statements jobs) [] (BeginBatch q ∷ []))
            (leads_push (declarations v bs ss qs) (parts v bs ss qs jobs None)
            (batch_statements jobs None) (BeginBatch q) o.batches_last m);
      }

  -- a statement is added
  ordered_item : (t : Told) (s : Statement) → IsOrdered (parts v bs ss qs jobs (Some t)) →
      May (parts v bs ss qs jobs (Some t)) s →
      after (parts v bs ss qs jobs (Some t)) s ≡ parts v bs ss qs jobs (with_item (Some t) s) →
      IsOrdered (parts v bs ss qs jobs (with_item (Some t) s))
  ordered_item t s o m is =
      record {
        of_a_version = o.of_a_version;
        buffers_first = o.buffers_first;
        semaphores_next = o.semaphores_next;
        queues_next = o.queues_next;
        batches_last =
            subst (λ (z : List Statement × Parts). Leads (declarations v bs ss qs) z.0 z.1)
            (λ i. (append_assoc (flat_map job_statements jobs) (BeginBatch t.0 ∷ t.1) (s ∷ []) i, is i))
            (leads_push (declarations v bs ss qs) (parts v bs ss qs jobs (Some t))
            (batch_statements jobs (Some t)) s o.batches_last m);
      }

  -- a batch ends
  ordered_end : (t : Told) → IsOrdered (parts v bs ss qs jobs (Some t)) →
      MayEnd (parts v bs ss qs jobs (Some t)) →
      IsOrdered (parts v bs ss qs (jobs ++ ToldBatch t ∷ []) None)
  ordered_end t o m =
      record {
        of_a_version = o.of_a_version;
        buffers_first = o.buffers_first;
        semaphores_next = o.semaphores_next;
        queues_next = o.queues_next;
        batches_last =
            subst (λ (xs : List Statement). Leads (declarations v bs ss qs) xs
            (parts v bs ss qs (jobs ++ ToldBatch t ∷ []) None))
            (append_assoc (flat_map job_statements jobs) (BeginBatch t.0 ∷ t.1) (EndBatch ∷ [])
            ∙ sym (append-nil (flat_map job_statements (jobs ++ ToldBatch t ∷ []))
            ∙ (flat_map-append job_statements jobs (ToldBatch t ∷ [])
            ∙ ap (λ (xs : List Statement). flat_map job_statements jobs ++ xs)
            (append-nil (job_statements (ToldBatch t))))))
            (leads_push (declarations v bs ss qs) (parts v bs ss qs jobs (Some t))
            (batch_statements jobs (Some t)) EndBatch o.batches_last m);
      }

  -- a step of the host
  ordered_step : (step : HostStep) → IsOrdered (parts v bs ss qs jobs None) →
      MayStep (parts v bs ss qs jobs None) step →
      IsOrdered (parts v bs ss qs (jobs ++ ToldStep step ∷ []) None)
  ordered_step step o m =
      record {
        of_a_version = o.of_a_version;
        buffers_first = o.buffers_first;
        semaphores_next = o.semaphores_next;
        queues_next = o.queues_next;
        batches_last =
            subst (λ (xs : List Statement). Leads (declarations v bs ss qs) xs
            (parts v bs ss qs (jobs ++ ToldStep step ∷ []) None))
            (append_assoc (flat_map job_statements jobs) [] (TakeHostStep step ∷ [])
            ∙ sym (append-nil (flat_map job_statements (jobs ++ ToldStep step ∷ []))
            ∙ flat_map-append job_statements jobs (ToldStep step ∷ [])))
            (leads_push (declarations v bs ss qs) (parts v bs ss qs jobs None)
            (batch_statements jobs None) (TakeHostStep step) o.batches_last m);
      }

module _ (p : Parts) (o : IsOrdered p) where
  -- before the first job
  ordered_first : (cs : List Buffer) (ts : List Semaphore) (rs : List Queue) → p.jobs ≡ [] →
      p.batch ≡ None → IsOrdered (declarations p.version cs ts rs) → IsOrdered (parts p.version cs ts rs p.jobs p.batch)
  ordered_first cs ts rs first outside k =
      subst (λ (z : List ToldJob × Option Told). IsOrdered (parts p.version cs ts rs z.0 z.1))
      (λ i. (sym first i, sym outside i)) k

  -- a statement of a batch
  ordered_more_item : (s : Statement) → (m : MayItem p s) →
      May (parts p.version p.buffers p.semaphores p.queues p.jobs (Some m.told)) s →
      after (parts p.version p.buffers p.semaphores p.queues p.jobs (Some m.told)) s
      ≡ parts p.version p.buffers p.semaphores p.queues p.jobs (with_item (Some m.told) s) →
      IsOrdered (after_item p s)
  ordered_more_item s m may is =
      let same : p ≡ parts p.version p.buffers p.semaphores p.queues p.jobs (Some m.told) =
      λ i. parts p.version p.buffers p.semaphores p.queues p.jobs (m.inside i) in
      subst (λ (b : Option Told). IsOrdered
      (parts p.version p.buffers p.semaphores p.queues p.jobs (with_item b s))) (sym m.inside)
      (ordered_item p.version p.buffers p.semaphores p.queues p.jobs m.told s (subst IsOrdered same o) may is)

  -- Parts in order stay so.
  pub ordered_more : (s : Statement) → May p s → IsOrdered (after p s)
  ordered_more (DeclareBuffer name size) m =
      let same : p ≡ declarations p.version p.buffers p.semaphores p.queues =
      λ i. parts p.version p.buffers p.semaphores p.queues (m.first i) (m.outside i) in
      ordered_first (p.buffers ++ a_buffer name size ∷ []) p.semaphores p.queues m.first m.outside
      (ordered_buffer p.version p.buffers p.semaphores p.queues (subst IsOrdered same o) name size
      (subst (λ (x : Parts). MayBuffer x name size) same m))
  ordered_more (DeclareSemaphore name kind) m =
      let same : p ≡ declarations p.version p.buffers p.semaphores p.queues =
      λ i. parts p.version p.buffers p.semaphores p.queues (m.first i) (m.outside i) in
      ordered_first p.buffers (p.semaphores ++ a_semaphore name kind ∷ []) p.queues m.first
      m.outside
      (ordered_semaphore p.version p.buffers p.semaphores p.queues (subst IsOrdered same o) name kind
      (subst (λ (x : Parts). MaySemaphore x name kind) same m))
  ordered_more (DeclareQueue name mode) m =
      let same : p ≡ declarations p.version p.buffers p.semaphores p.queues =
      λ i. parts p.version p.buffers p.semaphores p.queues (m.first i) (m.outside i) in
      ordered_first p.buffers p.semaphores (p.queues ++ a_queue name mode ∷ []) m.first m.outside
      (ordered_queue p.version p.buffers p.semaphores p.queues (subst IsOrdered same o) name mode
      (subst (λ (x : Parts). MayQueue x name mode) same m))
  ordered_more (BeginBatch q) m =
      let same : p ≡ parts p.version p.buffers p.semaphores p.queues p.jobs None =
      λ i. parts p.version p.buffers p.semaphores p.queues p.jobs (m.outside i) in
      ordered_begin p.version p.buffers p.semaphores p.queues p.jobs q (subst IsOrdered same o)
      (subst (λ (x : Parts). May x (BeginBatch q)) same m)
  ordered_more (AddWait pair from) m =
      ordered_more_item (AddWait pair from) m
      (subst (λ (b : Option Told). May (parts p.version p.buffers p.semaphores p.queues p.jobs b)
      (AddWait pair from)) m.inside m) refl
  ordered_more (AddCommand c) m =
      ordered_more_item (AddCommand c) m
      (subst (λ (b : Option Told). May (parts p.version p.buffers p.semaphores p.queues p.jobs b)
      (AddCommand c)) m.inside m) refl
  ordered_more (AddSignal pair) m =
      ordered_more_item (AddSignal pair) m
      (subst (λ (b : Option Told). May (parts p.version p.buffers p.semaphores p.queues p.jobs b)
      (AddSignal pair)) m.inside m) refl
  ordered_more (AddFence f) m =
      ordered_more_item (AddFence f) m
      (subst (λ (b : Option Told). May (parts p.version p.buffers p.semaphores p.queues p.jobs b)
      (AddFence f)) m.inside m) refl
  ordered_more EndBatch m =
      let same : p ≡ parts p.version p.buffers p.semaphores p.queues p.jobs (Some m.told) =
      λ i. parts p.version p.buffers p.semaphores p.queues p.jobs (m.inside i) in
      subst (λ (b : Option Told). IsOrdered
      (parts p.version p.buffers p.semaphores p.queues (with_batch p.jobs b) None)) (sym m.inside)
      (ordered_end p.version p.buffers p.semaphores p.queues p.jobs m.told (subst IsOrdered same o)
      (subst MayEnd same m))
  ordered_more (TakeHostStep step) m =
      let same : p ≡ parts p.version p.buffers p.semaphores p.queues p.jobs None =
      λ i. parts p.version p.buffers p.semaphores p.queues p.jobs (m.outside i) in
      ordered_step p.version p.buffers p.semaphores p.queues p.jobs step (subst IsOrdered same o)
      (subst (λ (x : Parts). MayStep x step) same m)
  ordered_more s m = absurd m
