-- What a script that was read calls its buffers, semaphores and queues: each has a name, and no two of a kind have one.
use Rattle.std.proofs.Common.{◌≡◌, ℕ, true, List, [], ◌∷◌, map, Some, option_map, refl, sym, subst, ap, ◌∙◌}
use Rattle.std.specs.List.{slice_get, position}
use Rattle.std.specs.Str.{bytes_eq}
use Rattle.std.proofs.lemmas.Option.{same_Some}
use Rattle.vq_ground.proofs.Gets.{get-map}
use Rattle.vq_model.specs.declared.statement.Statement.{Statement}
use Rattle.vq_model.specs.declared.script.Buffer.{Buffer}
use Rattle.vq_model.specs.declared.script.Semaphore.{Semaphore}
use Rattle.vq_model.specs.declared.script.Queue.{Queue}
use Rattle.vq_model.specs.declared.script.Script.{Script}
use Rattle.vq_model.specs.SameScript.{IsRead, buffer_without_line, semaphore_without_line, queue_without_line}
use Rattle.vq_model.specs.Text.{is_name}
use Rattle.vq_canonical_laws.proofs.ScriptParts.{Parts, no_parts, after}
use Rattle.vq_canonical_laws.proofs.CanonicalOrder.{Leads, IsOrdered, declarations, buffer_statements, semaphore_statements, queue_statements}
use Rattle.vq_canonical_laws.proofs.NamedParts.{AllNamed, AreNamed, named_more, nothing_named}
use Rattle.vq_canonical_laws.proofs.OrderedReads.{text_has_parts}

-- Statements that may follow each other leave names to what they declare.
named_along : (p q : Parts) (statements : List Statement) → AreNamed p → Leads p statements q → AreNamed q
named_along p q [] n l = subst AreNamed l n
named_along p q (s ∷ statements) n l = named_along (after p s) q statements (named_more p s n l.0) l.1

ordered_named : (p : Parts) → IsOrdered p → AreNamed (declarations p.version p.buffers p.semaphores p.queues)
ordered_named p o =
    named_along (declarations p.version p.buffers p.semaphores [])
    (declarations p.version p.buffers p.semaphores p.queues) (queue_statements p.queues)
    (named_along (declarations p.version p.buffers [] []) (declarations p.version p.buffers p.semaphores [])
    (semaphore_statements p.semaphores)
    (named_along (no_parts p.version) (declarations p.version p.buffers [] []) (buffer_statements p.buffers)
    (nothing_named p.version) o.buffers_first)
    o.semaphores_next)
    o.queues_next

-- Each of these items has a name, and no two have the same.
pub record HaveNames {A : Type 0} (name : A → List ℕ) (xs : List A) : Type 0 where
  pub names : (k : ℕ) (x : A) → slice_get xs k ≡ Some x → is_name (name x) ≡ true
  pub apart : (j k : ℕ) (x y : A) → slice_get xs j ≡ Some x → slice_get xs k ≡ Some y → name x ≡ name y → j ≡ k

have_names : {A : Type 0} (name : A → List ℕ) (xs : List A) → AllNamed name xs → HaveNames name xs
have_names {A} name xs n =
    record {
      names = λ k x at. (n k x at).0;
      apart = λ j k x y at there same.
          let first : position (λ z. bytes_eq (name y) (name z)) xs ≡ Some j =
          subst (λ (w : List ℕ). position (λ z. bytes_eq w (name z)) xs ≡ Some j) same (n j x at).1 in
          same_Some j k (sym first ∙ (n k y there).1);
    }

-- .. also where the items are changed in something else
names_of : {A : Type 0} (name : A → List ℕ) (f : A → A) (xs : List A) → ((x : A) → name (f x) ≡ name x) →
    HaveNames name (map f xs) → HaveNames name xs
names_of {A} name f xs same h =
    let at_map : (k : ℕ) (x : A) → slice_get xs k ≡ Some x → slice_get (map f xs) k ≡ Some (f x) =
    λ k x at. get-map f xs k ∙ ap (option_map f) at in
    record {
      names = λ k x at. ap is_name (sym (same x)) ∙ h.names k (f x) (at_map k x at);
      apart = λ j k x y at there e. h.apart j k (f x) (f y) (at_map j x at) (at_map k y there)
          (same x ∙ (e ∙ sym (same y)));
    }

-- What a script calls its parts.
pub record HasNames (s : Script) : Type 0 where
  pub buffers : HaveNames (λ b. b.name) s.buffers
  pub semaphores : HaveNames (λ x. x.name) s.semaphores
  pub queues : HaveNames (λ q. q.name) s.queues

-- A script that was read has these names.
pub read_names : (s : Script) → IsRead s → HasNames s
read_names s i =
    let has = text_has_parts i.text i.form (record s { turns = i.turns }) i.stands in
    let named = ordered_named has.said has.ordered in
    record {
      buffers = names_of (λ b. b.name) buffer_without_line s.buffers (λ b. refl)
          (subst (HaveNames (λ (b : Buffer). b.name)) (sym (ap (λ (x : Script). x.buffers) has.same))
          (have_names (λ b. b.name) has.said.buffers named.buffer_names));
      semaphores = names_of (λ x. x.name) semaphore_without_line s.semaphores (λ x. refl)
          (subst (HaveNames (λ (x : Semaphore). x.name)) (sym (ap (λ (x : Script). x.semaphores) has.same))
          (have_names (λ x. x.name) has.said.semaphores named.semaphore_names));
      queues = names_of (λ q. q.name) queue_without_line s.queues (λ q. refl)
          (subst (HaveNames (λ (q : Queue). q.name)) (sym (ap (λ (x : Script). x.queues) has.same))
          (have_names (λ q. q.name) has.said.queues named.queue_names));
    }
