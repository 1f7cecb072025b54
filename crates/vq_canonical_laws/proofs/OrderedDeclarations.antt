-- One more declaration, in the canonical order.
use Rattle.std.proofs.Common.{◌≡◌, ℕ, false, List, sym, ◌∙◌, Bool, ◌||◌, [], ◌∷◌, ◌++◌, refl, ap, subst}
use Rattle.std.specs.Str.{bytes_eq}
use Rattle.std.proofs.lemmas.Slice.Eq.{bytes_eq-Decides}
use Rattle.std.proofs.lemmas.Bool.{false_from_ne_true, false≢true, or_from, or_parts}
use Rattle.std.specs.List.{list_any}
use Rattle.std.proofs.lemmas.List.Folds.{list_any-append}
use Rattle.vq_model.specs.declared.script.Buffer.{Buffer}
use Rattle.vq_model.specs.declared.script.Semaphore.{Semaphore}
use Rattle.vq_model.specs.declared.script.Queue.{Queue}
use Rattle.vq_canonical_laws.proofs.NamedParts.{IsFresh, is_fresh}
use Rattle.vq_canonical_laws.proofs.ScriptParts.{is_named, a_buffer, a_semaphore, Parts, a_queue, MayBuffer, MaySemaphore, MayQueue, no_parts}
use Rattle.vq_model.specs.declared.script.SemaphoreKind.{SemaphoreKind}
use Rattle.vq_canonical_laws.proofs.CanonicalOrder.{Leads, queue_statements, declarations, semaphore_statements, leads_push, buffer_statements, IsOrdered}
use Rattle.std.proofs.lemmas.List.{map-append}
use Rattle.vq_model.specs.declared.statement.Statement.{Statement}
use Rattle.vq_model.specs.declared.statement.Statement.TheVariants.{DeclareBuffer, DeclareSemaphore, DeclareQueue}
use Rattle.vq_model.specs.declared.script.Mode.{Mode}

-- One more declaration

-- names differ both ways
same_names : (a b : List ℕ) → bytes_eq a b ≡ false → bytes_eq b a ≡ false
same_names a b h =
    false_from_ne_true (bytes_eq b a)
    (λ e. false≢true (sym h ∙ (bytes_eq-Decides a b).1 (sym ((bytes_eq-Decides b a).0 e))))

-- a test that fails for items and one more
any_push : {A : Type 0} (test : A → Bool) (xs : List A) (y : A) → list_any test xs ≡ false →
    test y ≡ false → list_any test (xs ++ y ∷ []) ≡ false
any_push test xs y h e =
    list_any-append test xs (y ∷ [])
    ∙ or_from (list_any test xs) (test y || false) h (or_from (test y) false e refl)

-- a name that is in no list is none of them all
not_named : (bs : List Buffer) (ss : List Semaphore) (qs : List Queue) (name : List ℕ) →
    IsFresh bs ss qs name → is_named bs ss qs name ≡ false
not_named bs ss qs name f =
    or_from
    (list_any (λ b. bytes_eq name b.name) bs || list_any (λ s. bytes_eq name s.name) ss)
    (list_any (λ q. bytes_eq name q.name) qs)
    (or_from (list_any (λ b. bytes_eq name b.name) bs) (list_any (λ s. bytes_eq name s.name) ss)
    f.no_buffer f.no_semaphore) f.no_queue

-- these buffers and semaphores and one thing more of this name: a name that is fresh for them, and
-- another one, is fresh for those
abbrev AreMore : List ℕ → List Buffer → List Semaphore → List Buffer → List Semaphore → Type 0
AreMore name bs ss cs ts =
    (other : List ℕ) (qs : List Queue) → IsFresh bs ss qs other → bytes_eq other name ≡ false →
    IsFresh cs ts qs other

more_buffers : (bs : List Buffer) (ss : List Semaphore) (name : List ℕ) (size : ℕ) →
    AreMore name bs ss (bs ++ a_buffer name size ∷ []) ss
more_buffers bs ss name size other qs f e =
    record {
      no_buffer = any_push (λ b. bytes_eq other b.name) bs (a_buffer name size) f.no_buffer e;
      no_semaphore = f.no_semaphore;
      no_queue = f.no_queue;
    }

more_semaphores : (bs : List Buffer) (ss : List Semaphore) (name : List ℕ)
    (kind : SemaphoreKind) → AreMore name bs ss bs (ss ++ a_semaphore name kind ∷ [])
more_semaphores bs ss name kind other qs f e =
    record {
      no_buffer = f.no_buffer;
      no_semaphore =
          any_push (λ s. bytes_eq other s.name) ss (a_semaphore name kind) f.no_semaphore e;
      no_queue = f.no_queue;
    }

-- queues follow as well after these buffers and semaphores
queues_as_well : (v : ℕ) (bs cs : List Buffer) (ss ts : List Semaphore) (name : List ℕ) →
    AreMore name bs ss cs ts → (start qs end : List Queue) →
    list_any (λ q. bytes_eq name q.name) qs ≡ false →
    Leads (declarations v bs ss start) (queue_statements qs) (declarations v bs ss end) →
    Leads (declarations v cs ts start) (queue_statements qs) (declarations v cs ts end)
queues_as_well v bs cs ss ts name more start [] end apart l =
    ap (λ (p : Parts). declarations v cs ts p.queues) l
queues_as_well v bs cs ss ts name more start (q ∷ qs) end apart l =
    let one = or_parts (bytes_eq name q.name) (list_any (λ x. bytes_eq name x.name) qs) apart in
    let m = l.0 in (
      record {
        outside = refl;
        first = refl;
        named = m.named;
        fresh = not_named cs ts start q.name
            (more q.name start (is_fresh bs ss start q.name m.fresh)
            (same_names name q.name one.0));
        few = m.few;
      },
      queues_as_well v bs cs ss ts name more (start ++ a_queue q.name q.mode ∷ []) qs end one.1 l.1,
    )

-- semaphores follow as well after one more buffer
semaphores_as_well : (v : ℕ) (bs : List Buffer) (name : List ℕ) (size : ℕ)
    (start ss end : List Semaphore) → list_any (λ s. bytes_eq name s.name) ss ≡ false →
    Leads (declarations v bs start []) (semaphore_statements ss) (declarations v bs end []) →
    Leads (declarations v (bs ++ a_buffer name size ∷ []) start []) (semaphore_statements ss)
    (declarations v (bs ++ a_buffer name size ∷ []) end [])
semaphores_as_well v bs name size start [] end apart l =
    ap (λ (p : Parts). declarations v (bs ++ a_buffer name size ∷ []) p.semaphores []) l
semaphores_as_well v bs name size start (s ∷ ss) end apart l =
    let one = or_parts (bytes_eq name s.name) (list_any (λ x. bytes_eq name x.name) ss) apart in
    let m = l.0 in (
      record {
        outside = refl;
        first = refl;
        named = m.named;
        fresh = not_named (bs ++ a_buffer name size ∷ []) start [] s.name
            (more_buffers bs start name size s.name [] (is_fresh bs start [] s.name m.fresh)
            (same_names name s.name one.0));
        few = m.few;
        small = m.small;
      },
      semaphores_as_well v bs name size (start ++ a_semaphore s.name s.kind ∷ []) ss end one.1 l.1,
    )

module _ (v : ℕ) (bs : List Buffer) (ss : List Semaphore) (qs : List Queue)
    (o : IsOrdered (declarations v bs ss qs)) where
  -- one more buffer
  pub ordered_buffer : (name : List ℕ) (size : ℕ) → MayBuffer (declarations v bs ss qs) name size →
      IsOrdered (declarations v (bs ++ a_buffer name size ∷ []) ss qs)
  ordered_buffer name size m =
      let f = is_fresh bs ss qs name m.fresh in
      record {
        of_a_version = o.of_a_version;
        buffers_first =
            subst (λ (xs : List Statement). Leads (no_parts v) xs
            (declarations v (bs ++ a_buffer name size ∷ []) [] []))
            (sym (map-append (λ (b : Buffer). DeclareBuffer b.name b.size) bs
            (a_buffer name size ∷ [])))
            (leads_push (no_parts v) (declarations v bs [] []) (buffer_statements bs)
            (DeclareBuffer name size) o.buffers_first
            (record {
              outside = refl;
              first = refl;
              named = m.named;
              fresh = not_named bs [] [] name
                  (record { no_buffer = f.no_buffer; no_semaphore = refl; no_queue = refl });
              some_bytes = m.some_bytes;
              few = m.few;
              bytes = m.bytes;
            }));
        semaphores_next =
            semaphores_as_well v bs name size [] ss ss f.no_semaphore o.semaphores_next;
        queues_next =
            queues_as_well v bs (bs ++ a_buffer name size ∷ []) ss ss name
            (more_buffers bs ss name size) [] qs qs f.no_queue o.queues_next;
        batches_last = refl;
      }

  -- one more semaphore
  pub ordered_semaphore : (name : List ℕ) (kind : SemaphoreKind) →
      MaySemaphore (declarations v bs ss qs) name kind →
      IsOrdered (declarations v bs (ss ++ a_semaphore name kind ∷ []) qs)
  ordered_semaphore name kind m =
      let f = is_fresh bs ss qs name m.fresh in
      record {
        of_a_version = o.of_a_version;
        buffers_first = o.buffers_first;
        semaphores_next =
            subst (λ (xs : List Statement). Leads (declarations v bs [] []) xs
            (declarations v bs (ss ++ a_semaphore name kind ∷ []) []))
            (sym (map-append (λ (s : Semaphore). DeclareSemaphore s.name s.kind) ss
            (a_semaphore name kind ∷ [])))
            (leads_push (declarations v bs [] []) (declarations v bs ss []) (semaphore_statements ss)
            (DeclareSemaphore name kind) o.semaphores_next
            (record {
              outside = refl;
              first = refl;
              named = m.named;
              fresh = not_named bs ss [] name
                  (record {
                    no_buffer = f.no_buffer;
                    no_semaphore = f.no_semaphore;
                    no_queue = refl;
                  });
              few = m.few;
              small = m.small;
            }));
        queues_next =
            queues_as_well v bs bs ss (ss ++ a_semaphore name kind ∷ []) name
            (more_semaphores bs ss name kind) [] qs qs f.no_queue o.queues_next;
        batches_last = refl;
      }

  -- one more queue
  pub ordered_queue : (name : List ℕ) (mode : Mode) → MayQueue (declarations v bs ss qs) name mode →
      IsOrdered (declarations v bs ss (qs ++ a_queue name mode ∷ []))
  ordered_queue name mode m =
      record {
        of_a_version = o.of_a_version;
        buffers_first = o.buffers_first;
        semaphores_next = o.semaphores_next;
        queues_next =
            subst (λ (xs : List Statement). Leads (declarations v bs ss []) xs
            (declarations v bs ss (qs ++ a_queue name mode ∷ [])))
            (sym (map-append (λ (q : Queue). DeclareQueue q.name q.mode) qs
            (a_queue name mode ∷ [])))
            (leads_push (declarations v bs ss []) (declarations v bs ss qs) (queue_statements qs)
            (DeclareQueue name mode) o.queues_next m);
        batches_last = refl;
      }
