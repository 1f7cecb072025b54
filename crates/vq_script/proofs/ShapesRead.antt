-- Words that are read: those that name something declared are names, and only declarations have new ones.
use Rattle.std.proofs.Common.{◌≡◌, ℕ, Option, Some, None, Bool, true, false, ◌||◌, ◌&&◌, List, [], ◌∷◌, map, is_some, length, get_or, not, refl, sym, ap, subst, arith, ◌∙◌}
use Rattle.std.specs.List.{All, list_all, list_any}
use Rattle.std.specs.Option.{option_map}
use Rattle.std.specs.Prelude.{codes, drop, if◌then◌else◌}
use Rattle.std.specs.Str.{bytes_eq}
use Rattle.std.proofs.lemmas.Bool.{and_parts, false≢true}
use Rattle.std.proofs.lemmas.List.Elements.{All-head, All-tail}
use Rattle.std.proofs.lemmas.Slice.Eq.{bytes_eq-Decides}
use Rattle.vq_ground.proofs.Bools.{and_true}
use Rattle.vq_model.specs.declared.script.Buffer.{Buffer}
use Rattle.vq_model.specs.declared.script.Semaphore.{Semaphore}
use Rattle.vq_model.specs.declared.script.Queue.{Queue}
use Rattle.vq_model.specs.declared.statement.LineForm.{LineForm}
use Rattle.vq_model.specs.declared.statement.LineForm.TheVariants.{BufferLine, TimelineLine, BinaryLine, FenceLine, QueueLine, HostWaitAllLine, HostWaitAnyLine, HostPollAllLine, HostPollAnyLine, TurnLine, TurnsLine}
use Rattle.vq_model.specs.Context.{is_timeline, is_binary, is_fence, is_threaded, is_taken}
use Rattle.vq_model.specs.Forms.{Slot, NewName, Actor, Numeral, BufferName, TimelineName, BinaryName, FenceName, QueueName, ThreadedName, places}
use Rattle.vq_model.specs.LineFaults.{is_declaration, is_known, is_new, is_numeric, is_shaped}
use Rattle.vq_model.specs.Meaning.{actor_at, is_actor, is_marked, of_two, pair_places}
use Rattle.vq_model.specs.declared.script.ActorName.TheVariants.{Host as HostActor, Submit as SubmitActor, Ring as RingActor}
use Rattle.vq_model.specs.Text.{is_name, numeral}
use Rattle.std.specs.Borrow.{Bor}
use Rattle.vq_forms.specs.OpenWords.{opens}
use Rattle.vq_script.specs.Holds.{Kept}
use Rattle.vq_script.specs.LineTests.{number_of}
use Rattle.vq_script.specs.SaidLines.{AreFound, Fits, end_with_pairs, is_actor_or_marked, is_turn_form, named_in, open_kinds}
use Rattle.vq_script.proofs.LineTold.{all_read, some_mapped}
use Rattle.vq_script.proofs.NamesFound.{any_found}

-- The name of what is declared is a name.
pub record AreNamed (k : Kept) : Type 0 where
  pub named_buffers : All (λ (b : Buffer). is_name b.name ≡ true) k.buffers
  pub named_semaphores : All (λ (s : Semaphore). is_name s.name ≡ true) k.semaphores
  pub named_queues : All (λ (q : Queue). is_name q.name ≡ true) k.queues

any_named : {X : Type 0} (name_of : X → List ℕ) (p : X → Bool) (name : List ℕ) (xs : List X) →
    All (λ x. is_name (name_of x) ≡ true) xs → ((x : X) → p x ≡ true → bytes_eq name (name_of x) ≡ true) →
    list_any p xs ≡ true → is_name name ≡ true
any_named name_of p name [] all passes some = absurd (false≢true some)
any_named {X} name_of p name (x ∷ xs) all passes some =
    by_test (p x) refl some (any_named name_of p name xs (All-tail (λ y. is_name (name_of y) ≡ true) x xs all) passes)
  where
    by_test : (b : Bool) → p x ≡ b → (b || list_any p xs) ≡ true → (list_any p xs ≡ true → is_name name ≡ true) →
        is_name name ≡ true
    by_test true e s more =
        subst (λ (w : List ℕ). is_name w ≡ true) (sym ((bytes_eq-Decides name (name_of x)).0 (passes x e)))
        (All-head (λ y. is_name (name_of y) ≡ true) x xs all)
    by_test false e s more = more s

-- what has a number has a name
number_named : (k : Kept) → AreNamed k → (place : Slot) (name : List ℕ) →
    is_some (number_of k place name) ≡ true → is_name name ≡ true
unfolding number_of
number_named k named BufferName name h =
    any_named (λ (b : Buffer). b.name) (λ (b : Buffer). bytes_eq name b.name) name k.buffers named.named_buffers
    (λ b e. e) (sym (any_found _ k.buffers) ∙ h)
number_named k named TimelineName name h =
    any_named (λ (s : Semaphore). s.name) (λ (s : Semaphore). bytes_eq name s.name && is_timeline s.kind) name
    k.semaphores named.named_semaphores (λ s e. (and_parts (bytes_eq name s.name) (is_timeline s.kind) e).0)
    (sym (any_found _ k.semaphores) ∙ h)
number_named k named BinaryName name h =
    any_named (λ (s : Semaphore). s.name) (λ (s : Semaphore). bytes_eq name s.name && is_binary s.kind) name
    k.semaphores named.named_semaphores (λ s e. (and_parts (bytes_eq name s.name) (is_binary s.kind) e).0)
    (sym (any_found _ k.semaphores) ∙ h)
number_named k named FenceName name h =
    any_named (λ (s : Semaphore). s.name) (λ (s : Semaphore). bytes_eq name s.name && is_fence s.kind) name
    k.semaphores named.named_semaphores (λ s e. (and_parts (bytes_eq name s.name) (is_fence s.kind) e).0)
    (sym (any_found _ k.semaphores) ∙ h)
number_named k named QueueName name h =
    any_named (λ (q : Queue). q.name) (λ (q : Queue). bytes_eq name q.name) name k.queues named.named_queues
    (λ q e. e) (sym (any_found _ k.queues) ∙ h)
number_named k named ThreadedName name h =
    any_named (λ (q : Queue). q.name) (λ (q : Queue). bytes_eq name q.name && is_threaded q.mode) name
    k.queues named.named_queues (λ q e. (and_parts (bytes_eq name q.name) (is_threaded q.mode) e).0)
    (sym (any_found _ k.queues) ∙ h)
number_named k named other name h = absurd (false≢true h)

-- at this place what is known is shaped
abbrev shows_shape : Slot → Bool
shows_shape NewName = false
shows_shape Actor = false
shows_shape other = true

known_shaped : (k : Kept) → AreNamed k → (place : Slot) (word : List ℕ) → shows_shape place ≡ true →
    is_known (number_of k) (place, word) ≡ true → is_shaped (place, word) ≡ true
known_shaped k named BufferName word s h = number_named k named BufferName word h
known_shaped k named TimelineName word s h = number_named k named TimelineName word h
known_shaped k named BinaryName word s h = number_named k named BinaryName word h
known_shaped k named FenceName word s h = number_named k named FenceName word h
known_shaped k named QueueName word s h = number_named k named QueueName word h
known_shaped k named NewName word s h = absurd (false≢true s)
known_shaped k named Actor word s h = absurd (false≢true s)
known_shaped k named other word s h = refl

all_shaped : (k : Kept) → AreNamed k → (words : List (Slot × List ℕ)) →
    list_all shows_shape (map (λ x. x.0) words) ≡ true → list_all (is_known (number_of k)) words ≡ true →
    list_all is_shaped words ≡ true
all_shaped k named [] s h = refl
all_shaped k named ((place, word) ∷ words) s h =
    let shown = and_parts (shows_shape place) (list_all shows_shape (map (λ x. x.0) words)) s in
    let known = and_parts (is_known (number_of k) (place, word)) (list_all (is_known (number_of k)) words) h in
    λ i. known_shaped k named place word shown.0 known.0 i && all_shaped k named words shown.1 known.1 i

-- a place that isn't a new name
abbrev is_old : Slot → Bool
is_old NewName = false
is_old other = true

old_new : (taken : List ℕ → Bool) (place : Slot) (word : List ℕ) → is_old place ≡ true →
    is_new taken (place, word) ≡ true
old_new taken NewName word h = absurd (false≢true h)
old_new taken other word h = refl

all_new : (taken : List ℕ → Bool) (words : List (Slot × List ℕ)) → list_all is_old (map (λ x. x.0) words) ≡ true →
    list_all (is_new taken) words ≡ true
all_new taken [] h = refl
all_new taken ((place, word) ∷ words) h =
    let both = and_parts (is_old place) (list_all is_old (map (λ x. x.0) words)) h in
    λ i. old_new taken place word both.0 i && all_new taken words both.1 i

-- The places of words at the open places of a form pass a test that the form's places and those of pairs pass.
pairs_pass : (test : Slot → Bool) → test TimelineName ≡ true → test Numeral ≡ true → (texts : List (List ℕ)) →
    list_all test (map (λ x. x.0) (pair_places texts)) ≡ true
pairs_pass test t n [] = refl
pairs_pass test t n (name ∷ []) = refl
pairs_pass test t n (name ∷ value ∷ texts) = λ i. t i && (n i && pairs_pass test t n texts i)

found_pass : (test : Slot → Bool) (form : LineForm) (words : List (Slot × List ℕ)) → AreFound form words →
    test TimelineName ≡ true → test Numeral ≡ true →
    (end_with_pairs (places form) ≡ false → list_all test (open_kinds (places form)) ≡ true) →
    list_all test (map (λ x. x.0) words) ≡ true
found_pass test form words found t n kinds = by_pairs (end_with_pairs (places form)) refl
  where
    by_pairs : (b : Bool) → end_with_pairs (places form) ≡ b → list_all test (map (λ x. x.0) words) ≡ true
    by_pairs true e =
        ap (λ (ws : List (Slot × List ℕ)). list_all test (map (λ x. x.0) ws)) (found.pairs e)
        ∙ pairs_pass test t n (map (λ x. x.1) words)
    by_pairs false e = ap (list_all test) (found.each e) ∙ kinds e

form_shows : (form : LineForm) → is_declaration form ≡ false → is_turn_form form ≡ false →
    end_with_pairs (places form) ≡ false → list_all shows_shape (open_kinds (places form)) ≡ true
form_shows BufferLine d t e = absurd (false≢true (sym d))
form_shows TimelineLine d t e = absurd (false≢true (sym d))
form_shows BinaryLine d t e = absurd (false≢true (sym d))
form_shows FenceLine d t e = absurd (false≢true (sym d))
form_shows (QueueLine mode) d t e = absurd (false≢true (sym d))
form_shows TurnLine d t e = absurd (false≢true (sym t))
form_shows TurnsLine d t e = absurd (false≢true (sym t))
form_shows HostWaitAllLine d t e = absurd (false≢true (sym e))
form_shows HostWaitAnyLine d t e = absurd (false≢true (sym e))
form_shows HostPollAllLine d t e = absurd (false≢true (sym e))
form_shows HostPollAnyLine d t e = absurd (false≢true (sym e))
form_shows other d t e = refl

form_old : (form : LineForm) → is_declaration form ≡ false → end_with_pairs (places form) ≡ false →
    list_all is_old (open_kinds (places form)) ≡ true
form_old BufferLine h e = absurd (false≢true (sym h))
form_old TimelineLine h e = absurd (false≢true (sym h))
form_old BinaryLine h e = absurd (false≢true (sym h))
form_old FenceLine h e = absurd (false≢true (sym h))
form_old (QueueLine mode) h e = absurd (false≢true (sym h))
form_old HostWaitAllLine h e = absurd (false≢true (sym e))
form_old HostWaitAnyLine h e = absurd (false≢true (sym e))
form_old HostPollAllLine h e = absurd (false≢true (sym e))
form_old HostPollAnyLine h e = absurd (false≢true (sym e))
form_old other h e = refl

-- words that are read are shaped, but for new names and actors
pub read_shaped : (k : Kept) (form : LineForm) (words : List (Slot × List ℕ)) → AreNamed k → AreFound form words →
    is_some (named_in k form (map (λ x. x.1) words)) ≡ true → is_declaration form ≡ false →
    is_turn_form form ≡ false → list_all is_shaped words ≡ true
read_shaped k form words named found read d t =
    all_shaped k named words (found_pass shows_shape form words found refl refl (form_shows form d t))
    (and_parts (list_all is_numeric words) (list_all (is_known (number_of k)) words)
    (all_read k form words found ∙ read)).1

-- a line that declares nothing has no new names
pub none_new : (k : Kept) (form : LineForm) (words : List (Slot × List ℕ)) → AreFound form words →
    is_declaration form ≡ false → list_all (is_new (is_taken k.buffers k.semaphores k.queues)) words ≡ true
none_new k form words found h =
    all_new (is_taken k.buffers k.semaphores k.queues) words
    (found_pass is_old form words found refl refl (form_old form h))

-- a declaration's second word alone is a new name
counted_new : (taken : List ℕ → Bool) (form : LineForm) (words : List (Bor (List ℕ))) (d : Bor (List ℕ)) →
    is_declaration form ≡ true → length words ≡ length (places form) →
    not (taken (get_or words 1 d).now) ≡ list_all (is_new taken) (opens form words)
counted_new taken BufferLine (a ∷ name ∷ size ∷ []) d h e = sym (and_true (not (taken name.now)))
counted_new taken TimelineLine (a ∷ name ∷ value ∷ []) d h e = sym (and_true (not (taken name.now)))
counted_new taken BinaryLine (a ∷ name ∷ []) d h e = sym (and_true (not (taken name.now)))
counted_new taken FenceLine (a ∷ name ∷ []) d h e = sym (and_true (not (taken name.now)))
counted_new taken (QueueLine mode) (a ∷ name ∷ b ∷ []) d h e = sym (and_true (not (taken name.now)))
counted_new taken form words d h e = absurd (grind arith)

declared_single : (form : LineForm) → is_declaration form ≡ true → end_with_pairs (places form) ≡ false
declared_single BufferLine h = refl
declared_single TimelineLine h = refl
declared_single BinaryLine h = refl
declared_single FenceLine h = refl
declared_single (QueueLine mode) h = refl
declared_single other h = absurd (false≢true h)

pub one_new : (taken : List ℕ → Bool) (form : LineForm) (words : List (Bor (List ℕ))) (d : Bor (List ℕ)) →
    is_declaration form ≡ true → Fits form words →
    not (taken (get_or words 1 d).now) ≡ list_all (is_new taken) (opens form words)
one_new taken form words d h fits = counted_new taken form words d h (fits.each (declared_single form h))

-- The actor of a turn that is read is named by a name.
module _ (k : Kept) (named : AreNamed k) (word : List ℕ) where
  actor_named : (host threads : Bool) →
      is_some (if host then Some HostActor else if threads then option_map (λ q. SubmitActor q)
      (number_of k ThreadedName (drop 2 word)) else option_map (λ q. RingActor q)
      (number_of k QueueName (drop 2 word))) ≡ true →
      host ≡ false → is_name (drop 2 word) ≡ true
  actor_named true threads some h = absurd (false≢true (sym h))
  actor_named false true some h =
      number_named k named ThreadedName (drop 2 word)
      (sym (some_mapped (λ q. SubmitActor q) (number_of k ThreadedName (drop 2 word))) ∙ some)
  actor_named false false some h =
      number_named k named QueueName (drop 2 word)
      (sym (some_mapped (λ q. RingActor q) (number_of k QueueName (drop 2 word))) ∙ some)

  by_marks : (host threads rings name : Bool) → (host ≡ false → name ≡ true) →
      (host || threads || rings) ≡ (host || ((threads || rings) && name))
  by_marks true threads rings name f = refl
  by_marks false true rings name f = sym (f refl)
  by_marks false false rings name f = sym (and_true rings) ∙ (λ i. rings && sym (f refl) i)

  -- so its mark alone tells whether it is an actor
  actor_is : is_some (actor_at (number_of k) word) ≡ true → is_actor_or_marked word ≡ is_actor word
  actor_is some =
      by_marks (bytes_eq word (codes "host")) (is_marked 83 word) (is_marked 82 word) (is_name (drop 2 word))
      (actor_named (bytes_eq word (codes "host")) (is_marked 83 word) some)

  turn_is : is_some (actor_at (number_of k) word) ≡ true →
      is_actor_or_marked word ≡ (is_actor word && true)
  turn_is some = actor_is some ∙ sym (and_true (is_actor word))

some_first : {A B C : Type 0} (f : A → B → C) (a : Option A) (b : Option B) → is_some (of_two f a b) ≡ true →
    is_some a ≡ true
some_first f None b some = absurd (false≢true some)
some_first f (Some x) b some = refl

counted_turn : (k : Kept) (form : LineForm) (words : List (Bor (List ℕ))) (d : Bor (List ℕ)) → AreNamed k →
    is_turn_form form ≡ true → length words ≡ length (places form) →
    is_some (named_in k form (map (λ x. x.1) (opens form words))) ≡ true →
    is_actor_or_marked (get_or words 0 d).now ≡ list_all is_shaped (opens form words)
counted_turn k TurnLine (actor ∷ []) d named t e read =
    turn_is k named actor.now (sym (some_mapped _ (actor_at (number_of k) actor.now)) ∙ read)
counted_turn k TurnsLine (actor ∷ count ∷ []) d named t e read =
    turn_is k named actor.now (some_first _ (actor_at (number_of k) actor.now) (numeral count.now) read)
counted_turn k form words d named t e read = absurd (grind arith)

turn_single : (form : LineForm) → is_turn_form form ≡ true → end_with_pairs (places form) ≡ false
turn_single TurnLine t = refl
turn_single TurnsLine t = refl
turn_single other t = absurd (false≢true t)

pub turn_shaped : (k : Kept) (form : LineForm) (words : List (Bor (List ℕ))) (d : Bor (List ℕ)) → AreNamed k →
    is_turn_form form ≡ true → Fits form words →
    is_some (named_in k form (map (λ x. x.1) (opens form words))) ≡ true →
    is_actor_or_marked (get_or words 0 d).now ≡ list_all is_shaped (opens form words)
turn_shaped k form words d named t fits read =
    counted_turn k form words d named t (fits.each (turn_single form t)) read
