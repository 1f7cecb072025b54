-- Names of parts: each is a name, and looking it up gives what has it.
use Rattle.std.proofs.Common.{◌≡◌, ℕ, ◌≤◌, ◌==◌, true, not, ◌&&◌, ◌||◌, ap, inl, inr, arith, List, length, ◌+◌, Bool, false, cond, [], ◌∷◌, ◌++◌, length-append, Some, None, refl, ◌∙◌, zero, suc, ◌⊎◌, sym, subst, ne_eqb}
use Rattle.std.specs.Prelude.{nat_le, nat_lt}
use Rattle.std.proofs.lemmas.Bool.{and_parts, and_from, or_cases, le-leb, leb-true, eqb-true, ltb-true, lt-ltb, or_parts, false≢true}
use Rattle.vq_ground.proofs.Bytes.{same_bytes}
use Rattle.vq_ground.proofs.Positions.{position_new}
use Rattle.vq_model.specs.Text.{is_letter, is_digit, is_name}
use Rattle.vq_canonical_laws.proofs.WrittenTexts.{is_word_byte, is_text_word, all_weaker}
use Rattle.std.specs.List.{slice_index, list_all, position, position_or_len, list_any, slice_get}
use Rattle.std.proofs.lemmas.List.Folds.{position_or_len_push}
use Rattle.std.specs.Str.{bytes_eq}
use Rattle.vq_canonical_laws.proofs.ScriptParts.{Parts, no_parts, is_named, a_buffer, a_semaphore, a_queue, after, May}
use Rattle.vq_model.specs.declared.script.Buffer.{Buffer}
use Rattle.vq_model.specs.declared.script.Semaphore.{Semaphore}
use Rattle.vq_model.specs.declared.script.Queue.{Queue}
use Rattle.vq_model.specs.declared.statement.Statement.{Statement}
use Rattle.vq_model.specs.declared.statement.Statement.TheVariants.{DeclareBuffer, DeclareSemaphore, DeclareQueue, BeginBatch, AddWait, AddCommand, AddSignal, AddFence, EndBatch, TakeHostStep}

-- Names are words

-- a byte of a name is a byte of a word
name_byte : (b : ℕ) → (is_letter b || is_digit b) ≡ true → is_word_byte b ≡ true
name_byte b h =
    elim (or_cases (is_letter b) (is_digit b) h) [
      | inl letter ↦ elim (or_cases ((nat_le 65 b && nat_le b 90) || (nat_le 97 b && nat_le b 122))
          (b == 95) letter) [
            | inl case ↦ elim (or_cases (nat_le 65 b && nat_le b 90) (nat_le 97 b && nat_le b 122) case) [
              | inl upper ↦ between 65 90 (omega arith) (omega arith) upper
              | inr lower ↦ between 97 122 (omega arith) (omega arith) lower
            ]
            | inr line ↦ let e = eqb-true b 95 line in byte (omega arith) (omega arith)
          ]
      | inr digit ↦ between 48 57 (omega arith) (omega arith) digit
    ]
  where
    byte : 36 ≤ b → b ≤ 126 → is_word_byte b ≡ true
    byte l m =
        and_from (nat_le 33 b && nat_le b 126) (not (b == 35))
        (and_from (nat_le 33 b) (nat_le b 126) (le-leb 33 b (omega arith)) (le-leb b 126 m))
        (ap not (ne_eqb b 35 (λ e. omega arith)))

    between : (low high : ℕ) → 36 ≤ low → high ≤ 126 → (nat_le low b && nat_le b high) ≡ true →
        is_word_byte b ≡ true
    between low high l m e =
        let ends = and_parts (nat_le low b) (nat_le b high) e in
        let x = leb-true low b ends.0 in
        let y = leb-true b high ends.1 in
        byte (omega arith) (omega arith)

-- A name is a word.
pub name_word : (name : List ℕ) → is_name name ≡ true → is_text_word name ≡ true
name_word name h =
    let all =
    and_parts (nat_lt 0 (length name) && nat_le (length name) 16 && not
    (is_digit (slice_index name 0)))
    (list_all (λ b. is_letter b || is_digit b) name) h in
    let first =
    and_parts (nat_lt 0 (length name) && nat_le (length name) 16)
    (not (is_digit (slice_index name 0))) all.0 in
    let some = and_parts (nat_lt 0 (length name)) (nat_le (length name) 16) first.0 in
    and_from (nat_lt 0 (length name)) (list_all is_word_byte name) some.0
    (all_weaker (λ b. is_letter b || is_digit b) is_word_byte name_byte name all.1)

-- Positions

-- a position in a list is one where the list goes on
position_found : {A : Type 0} (test : A → Bool) (xs : List A) (y : A) (k : ℕ) →
    position test xs ≡ Some k →
    position test (xs ++ y ∷ []) ≡ Some k
position_found {A} test xs y k h = by_test (nat_lt (position_or_len test xs) (length xs)) refl h
  where
    by_test : (b : Bool) → nat_lt (position_or_len test xs) (length xs) ≡ b →
        cond b (Some (position_or_len test xs)) None ≡ Some k →
        position test (xs ++ y ∷ []) ≡ Some k
    by_test true e i =
        let l = ltb-true (position_or_len test xs) (length xs) e in
        let same : position_or_len test xs ≡ k = cc in
        let m = length-append xs (y ∷ []) in
        let here : position_or_len test (xs ++ y ∷ []) ≡ position_or_len test xs =
        position_or_len_push test xs y
        ∙ ap (λ (b : Bool). cond b (length xs + cond (test y) 0 1) (position_or_len test xs))
        (ne_eqb (position_or_len test xs) (length xs) (λ f. omega arith)) in
        ap (λ (b : Bool). cond b (Some (position_or_len test (xs ++ y ∷ []))) None)
        (lt-ltb (position_or_len test (xs ++ y ∷ [])) (length (xs ++ y ∷ [])) (omega arith))
        ∙ ap (λ (j : ℕ). Some j) (here ∙ same)
    by_test false e i = absurd (cc)

-- an item of a longer list is one of the list, or the new one
get_push : {A : Type 0} (xs : List A) (y : A) (k : ℕ) (x : A) →
    slice_get (xs ++ y ∷ []) k ≡ Some x →
    (slice_get xs k ≡ Some x) ⊎ ((k ≡ length xs) × (y ≡ x))
get_push [] y zero x h = inr (refl, cc)
get_push [] y (suc k) x h = absurd (let c : None ≡ Some x = h in cc)
get_push (z ∷ xs) y zero x h = inl h
get_push (z ∷ xs) y (suc k) x h =
    elim (get_push xs y k x h) [ inl e ↦ inl e | inr e ↦ let f = e.0 in inr (omega arith, e.1) ]

-- Positions of more than a name

-- where the first item that passes a test passes another one too, it is the first that passes both
first_of_both : {A : Type 0} (p q : A → Bool) (xs : List A) (k : ℕ) (x : A) →
    position_or_len p xs ≡ k → slice_get xs k ≡ Some x → q x ≡ true →
    position_or_len (λ y. p y && q y) xs ≡ k
first_of_both p q [] k x e g h = absurd (let c : None ≡ Some x = g in cc)
first_of_both {A} p q (y ∷ xs) k x e g h =
    by_test (p y) (q y) refl e (λ j f i. first_of_both p q xs j x f i h)
  where
    by_test : (a b : Bool) → q y ≡ b → cond (not a) (1 + position_or_len p xs) 0 ≡ k →
        ((j : ℕ) → position_or_len p xs ≡ j → slice_get xs j ≡ Some x →
        position_or_len (λ z. p z && q z) xs ≡ j) →
        cond (not (a && b)) (1 + position_or_len (λ z. p z && q z) xs) 0 ≡ k
    by_test true true i e more = e
    by_test true false i e more =
        let first : slice_get (y ∷ xs) 0 ≡ Some x =
        ap (λ (j : ℕ). slice_get (y ∷ xs) j) e ∙ g in
        let same : y ≡ x = some_same y x first in
        absurd (false≢true (sym i ∙ (ap q same ∙ h)))
      where
        some_same : (a b : A) → Some a ≡ Some b → a ≡ b
        some_same a b e = cc
    by_test false b i e more =
        let next : 1 + position_or_len p xs ≡ suc (position_or_len p xs) = omega arith in
        let there : slice_get xs (position_or_len p xs) ≡ Some x =
        ap (λ (j : ℕ). slice_get (y ∷ xs) j) (sym next ∙ e) ∙ g in
        ap (λ (j : ℕ). 1 + j) (more (position_or_len p xs) refl there) ∙ e

-- such an item is found by both
pub position_of_both : {A : Type 0} (p q : A → Bool) (xs : List A) (k : ℕ) (x : A) →
    position p xs ≡ Some k → slice_get xs k ≡ Some x → q x ≡ true →
    position (λ y. p y && q y) xs ≡ Some k
position_of_both p q xs k x h g e = by_test (nat_lt (position_or_len p xs) (length xs)) refl h
  where
    by_test : (b : Bool) → nat_lt (position_or_len p xs) (length xs) ≡ b →
        cond b (Some (position_or_len p xs)) None ≡ Some k →
        position (λ y. p y && q y) xs ≡ Some k
    by_test true l i =
        let same : position_or_len p xs ≡ k = cc in
        let both = first_of_both p q xs k x same g e in
        (λ j. cond (nat_lt (both j) (length xs)) (Some (both j)) None)
        ∙ (ap (λ (b : Bool). cond b (Some k) None)
        (ap (λ (j : ℕ). nat_lt j (length xs)) (sym same) ∙ l))
    by_test false l i = absurd (cc)

-- Names of parts

-- Each of these items has a name, and looking it up gives the item.
abbrev pub AllNamed : {A : Type 0} → (A → List ℕ) → List A → Type 0
AllNamed {A} name xs =
    (k : ℕ) (x : A) → slice_get xs k ≡ Some x →
    (is_name (name x) ≡ true) × (position (λ y. bytes_eq (name x) (name y)) xs ≡ Some k)

-- .. with one more of a fresh name
named_push : {A : Type 0} (name : A → List ℕ) (xs : List A) (y : A) → AllNamed name xs →
    is_name (name y) ≡ true → list_any (λ x. bytes_eq (name y) (name x)) xs ≡ false →
    AllNamed name (xs ++ y ∷ [])
named_push {A} name xs y old named fresh k x h =
    elim (get_push xs y k x h) [
      | inl e ↦ let known = old k x e in
          (known.0, position_found (λ z. bytes_eq (name x) (name z)) xs y k known.1)
      | inr e ↦
          subst (λ (z : A × ℕ). (is_name (name z.0) ≡ true)
          × (position (λ a. bytes_eq (name z.0) (name a)) (xs ++ y ∷ []) ≡ Some z.1))
          (λ i. (e.1 i, sym e.0 i)) (
            named,
            position_new (λ a. bytes_eq (name y) (name a)) xs y fresh (same_bytes (name y)),
          )
    ]

-- The names of parts.
pub record AreNamed (p : Parts) : Type 0 where
  pub buffer_names : AllNamed (λ b. b.name) p.buffers
  pub semaphore_names : AllNamed (λ s. s.name) p.semaphores
  pub queue_names : AllNamed (λ q. q.name) p.queues

-- no parts
pub nothing_named : (v : ℕ) → AreNamed (no_parts v)
nothing_named v =
    record {
      buffer_names = λ k b h. absurd (let c : None ≡ Some b = h in cc);
      semaphore_names = λ k s h. absurd (let c : None ≡ Some s = h in cc);
      queue_names = λ k q h. absurd (let c : None ≡ Some q = h in cc);
    }

-- a name is in no list
pub record IsFresh (bs : List Buffer) (ss : List Semaphore) (qs : List Queue) (name : List ℕ)
    : Type 0 where
  pub no_buffer : list_any (λ b. bytes_eq name b.name) bs ≡ false
  pub no_semaphore : list_any (λ s. bytes_eq name s.name) ss ≡ false
  pub no_queue : list_any (λ q. bytes_eq name q.name) qs ≡ false

-- what isn't named is in no list
pub is_fresh : (bs : List Buffer) (ss : List Semaphore) (qs : List Queue) (name : List ℕ) →
    is_named bs ss qs name ≡ false → IsFresh bs ss qs name
is_fresh bs ss qs name h =
    let front =
    or_parts (list_any (λ b. bytes_eq name b.name) bs || list_any (λ s. bytes_eq name s.name) ss)
    (list_any (λ q. bytes_eq name q.name) qs) h in
    let first =
    or_parts (list_any (λ b. bytes_eq name b.name) bs) (list_any (λ s. bytes_eq name s.name) ss)
    front.0 in
    record { no_buffer = first.0; no_semaphore = first.1; no_queue = front.1 }

-- where a statement declares nothing
same_names : (p q : Parts) → AreNamed p → p.buffers ≡ q.buffers → p.semaphores ≡ q.semaphores →
    p.queues ≡ q.queues → AreNamed q
same_names p q n e f g =
    record {
      buffer_names = subst (AllNamed (λ b. b.name)) e n.buffer_names;
      semaphore_names = subst (AllNamed (λ s. s.name)) f n.semaphore_names;
      queue_names = subst (AllNamed (λ x. x.name)) g n.queue_names;
    }

-- They stay so after a statement that may follow.
pub named_more : (p : Parts) (s : Statement) → AreNamed p → May p s → AreNamed (after p s)
named_more p (DeclareBuffer name size) n m =
    record {
      buffer_names =
          named_push (λ b. b.name) p.buffers (a_buffer name size) n.buffer_names m.named
          (is_fresh p.buffers p.semaphores p.queues name m.fresh).no_buffer;
      semaphore_names = n.semaphore_names;
      queue_names = n.queue_names;
    }
named_more p (DeclareSemaphore name kind) n m =
    record {
      buffer_names = n.buffer_names;
      semaphore_names =
          named_push (λ s. s.name) p.semaphores (a_semaphore name kind) n.semaphore_names m.named
          (is_fresh p.buffers p.semaphores p.queues name m.fresh).no_semaphore;
      queue_names = n.queue_names;
    }
named_more p (DeclareQueue name mode) n m =
    record {
      buffer_names = n.buffer_names;
      semaphore_names = n.semaphore_names;
      queue_names =
          named_push (λ q. q.name) p.queues (a_queue name mode) n.queue_names m.named
          (is_fresh p.buffers p.semaphores p.queues name m.fresh).no_queue;
    }
named_more p (BeginBatch q) n m = same_names p (after p (BeginBatch q)) n refl refl refl
named_more p (AddWait pair from) n m = same_names p (after p (AddWait pair from)) n refl refl refl
named_more p (AddCommand c) n m = same_names p (after p (AddCommand c)) n refl refl refl
named_more p (AddSignal pair) n m = same_names p (after p (AddSignal pair)) n refl refl refl
named_more p (AddFence f) n m = same_names p (after p (AddFence f)) n refl refl refl
named_more p EndBatch n m = same_names p (after p EndBatch) n refl refl refl
named_more p (TakeHostStep step) n m =
    same_names p (after p (TakeHostStep step)) n refl refl refl
named_more p s n m = absurd m
