-- What the map of names finds after one name more, as the list of what is declared has it.
use Rattle.std.proofs.Common.{ℕ, ◌≡◌, ◌+◌, Bool, true, false, ◌||◌, ◌&&◌, not, cond, List, [], ◌∷◌, ◌++◌, length, Option, Some, None, arith, refl, sym, ap, subst, ◌∙◌, nat_lt}
use Rattle.std.specs.List.{position, position_or_len, list_any}
use Rattle.std.specs.Option.{is_some}
use Rattle.std.specs.Str.{bytes_eq}
use Rattle.std.specs.Ordering.{is_eq, nat_cmp, eq_by_cmp}
use Rattle.std.specs.Cmp.Lexicographic.{slice_cmp}
use Rattle.std.specs.BTreeMap.{BTreeMap, Updates, is_at}
use Rattle.std.specs.Map.{lookup, KeepsOthers, IsKeyTest, AreApart}
use Rattle.std.specs.Global.{Vec}
use Rattle.std.proofs.lemmas.List.{length-append}
use Rattle.std.proofs.lemmas.List.Folds.{position_or_len_push}
use Rattle.std.proofs.lemmas.List.Sums.{prefix_len-le-length}
use Rattle.std.proofs.lemmas.Bool.Decides.{nat_tests}
use Rattle.std.proofs.lemmas.Map.Text.{is_eq-slice_cmp}
use Rattle.std.proofs.lemmas.Slice.Eq.{bytes_eq-Decides}
use Rattle.std.proofs.lemmas.Bool.{or_parts}
use Rattle.std.proofs.lemmas.List.Elements.{All-weaker}
use Rattle.std.proofs.lemmas.Option.{none-some}
use Rattle.std.specs.List.{All}
use Rattle.vq_ground.proofs.Bytes.{bytes_by_order}
use Rattle.vq_ground.proofs.Positions.{position_new}
use Rattle.vq_script.specs.declared.names.Entry.{Entry}
use Rattle.vq_model.specs.declared.script.Buffer.{Buffer}
use Rattle.vq_model.specs.declared.script.Semaphore.{Semaphore}
use Rattle.vq_model.specs.declared.script.SemaphoreKind.{SemaphoreKind}
use Rattle.vq_model.specs.declared.script.SemaphoreKind.TheVariants.{Timeline, Binary, Fence}
use Rattle.vq_model.specs.declared.script.Queue.{Queue}
use Rattle.vq_model.specs.declared.script.Mode.{Mode}
use Rattle.vq_model.specs.declared.script.Mode.TheVariants.{Immediate, Deferred, Threaded}
use Rattle.vq_model.specs.Context.{is_timeline, is_binary, is_fence, is_threaded}
use Rattle.vq_model.specs.Forms.{Slot, BufferName, TimelineName, BinaryName, FenceName, QueueName, ThreadedName}
use Rattle.vq_script.specs.declared.named_item.NamedItem.{NamedItem}
use Rattle.vq_script.specs.declared.named_item.NamedItem.TheVariants.{Buffer as BufferAt, Timeline as TimelineAt, Binary as BinaryAt, Fence as FenceAt, Queue as QueueAt}
use Rattle.vq_script.specs.Names.{item_of, key_cmp, semaphore_item, number_in, names_buffer, names_timeline, names_binary, names_fence, names_queue, names_threaded}
use Rattle.vq_model.specs.Context.{number_in as number_among, is_taken}

-- the first place that passes is in the list where any element passes
any_within : {X : Type 0} (p : X → Bool) (xs : List X) → nat_lt (position_or_len p xs) (length xs) ≡ list_any p xs
any_within p [] = refl
any_within p (x ∷ xs) = by_test (p x) (any_within p xs)
  where
    by_test : (b : Bool) → nat_lt (position_or_len p xs) (length xs) ≡ list_any p xs → nat_lt (cond (not b) (1 + position_or_len p xs) 0) (length (x ∷ xs)) ≡ (b || list_any p xs)
    by_test true more = grind (arith, nat_tests)
    by_test false more =
        let step : nat_lt (1 + position_or_len p xs) (length (x ∷ xs)) ≡ nat_lt (position_or_len p xs) (length xs) = grind (arith, nat_tests) in
        step ∙ more

found_is_some : (b : Bool) (n : ℕ) → is_some (cond b (Some n) None) ≡ b
found_is_some true n = refl
found_is_some false n = refl

-- a list has a first that passes where any passes
pub any_found : {X : Type 0} (p : X → Bool) (xs : List X) → is_some (position p xs) ≡ list_any p xs
any_found p xs = found_is_some (nat_lt (position_or_len p xs) (length xs)) (position_or_len p xs) ∙ any_within p xs

none_found : {X : Type 0} (p : X → Bool) (xs : List X) → list_any p xs ≡ false → position p xs ≡ None
none_found p xs h =
    let out : nat_lt (position_or_len p xs) (length xs) ≡ false = any_within p xs ∙ h in
    rw out refl

-- one more that doesn't pass changes nothing
same_found : {X : Type 0} (p : X → Bool) (xs : List X) (x : X) → p x ≡ false → position p (xs ++ x ∷ []) ≡ position p xs
same_found p xs x e =
    let few = prefix_len-le-length (λ z. not (p z)) xs in
    let long = length-append xs (x ∷ []) in
    let more = position_or_len_push p xs x in
    grind (arith, nat_tests)

-- the test of a key by its bytes
abbrev has_bytes : List ℕ → Vec ℕ → Bool
has_bytes name = is_at (λ k. slice_cmp nat_cmp name k.items)

other_names : (old new : List (Vec ℕ × NamedItem)) (test : Vec ℕ → Bool) →
    KeepsOthers (eq_by_cmp key_cmp) test old new → (other : Vec ℕ → Bool) →
    IsKeyTest (eq_by_cmp key_cmp) other → AreApart test other → lookup other new ≡ lookup other old
unfolding KeepsOthers
other_names old new test h = h

-- after a name is put into the map, it stands for what was put there, and each other name for what
-- it stood for
pub after_put : (old new : BTreeMap (Vec ℕ) NamedItem) (k : Vec ℕ) (d : NamedItem) →
    Updates key_cmp old new k (Some d) → (name : List ℕ) (b : Bool) → bytes_eq name k.items ≡ b →
    item_of new name ≡ cond b (Some d) (item_of old name)
after_put old new k d put name true e =
    let same : name ≡ k.items = (bytes_eq-Decides name k.items).0 e in
    subst (λ (bs : List ℕ). item_of new bs ≡ Some d) (sym same) put.1
after_put old new k d put name false e =
    other_names old.entries new.entries (is_at (key_cmp k)) put.3 (has_bytes name)
    (λ x y h. ap (λ (bs : List ℕ). is_eq (slice_cmp nat_cmp bs y.items)) (bytes_by_order name x.items h))
    (λ x h. subst (λ (bs : List ℕ). is_eq (slice_cmp nat_cmp name bs) ≡ false)
    (bytes_by_order k.items x.items h) (is_eq-slice_cmp name k.items ∙ e))

-- the last of a list is found by its name, if the name is new
found_with : {X : Type 0} (passes : List ℕ → X → Bool) (reads : Option NamedItem → Option ℕ)
    (old new : BTreeMap (Vec ℕ) NamedItem) (k : Vec ℕ) (d : NamedItem) (xs : List X) (x : X) →
    Updates key_cmp old new k (Some d) → ((name : List ℕ) → passes name x ≡ bytes_eq name k.items) →
    reads (Some d) ≡ Some (length xs) → list_any (passes k.items) xs ≡ false →
    ((name : List ℕ) → reads (item_of old name) ≡ position (passes name) xs) →
    (name : List ℕ) → reads (item_of new name) ≡ position (passes name) (xs ++ x ∷ [])
found_with passes reads old new k d xs x put named last fresh was name =
    by_test (bytes_eq name k.items) refl
  where
    by_test : (b : Bool) → bytes_eq name k.items ≡ b →
        reads (item_of new name) ≡ position (passes name) (xs ++ x ∷ [])
    by_test true e =
        let same : k.items ≡ name = sym ((bytes_eq-Decides name k.items).0 e) in
        let none = subst (λ (bs : List ℕ). list_any (passes bs) xs ≡ false) same fresh in
        ap reads (after_put old new k d put name true e) ∙ last
        ∙ sym (position_new (passes name) xs x none (named name ∙ e))
    by_test false e =
        ap reads (after_put old new k d put name false e) ∙ was name
        ∙ sym (same_found (passes name) xs x (named name ∙ e))

-- a name of something else leaves a list's names as they were, if it is new
found_without : {X : Type 0} (passes : List ℕ → X → Bool)
    (reads : Option NamedItem → Option ℕ) (old new : BTreeMap (Vec ℕ) NamedItem) (k : Vec ℕ)
    (d : NamedItem) (xs : List X) →
    Updates key_cmp old new k (Some d) → reads (Some d) ≡ None →
    list_any (passes k.items) xs ≡ false →
    ((name : List ℕ) → reads (item_of old name) ≡ position (passes name) xs) →
    (name : List ℕ) → reads (item_of new name) ≡ position (passes name) xs
found_without passes reads old new k d xs put none fresh was name =
    by_test (bytes_eq name k.items) refl
  where
    by_test : (b : Bool) → bytes_eq name k.items ≡ b →
        reads (item_of new name) ≡ position (passes name) xs
    by_test true e =
        let same : k.items ≡ name = sym ((bytes_eq-Decides name k.items).0 e) in
        let free = subst (λ (bs : List ℕ). list_any (passes bs) xs ≡ false) same fresh in
        ap reads (after_put old new k d put name true e) ∙ none
        ∙ sym (none_found (passes name) xs free)
    by_test false e = ap reads (after_put old new k d put name false e) ∙ was name

-- items of a kind, by their names and the test of the kind

abbrev names_kind : {X : Type 0} → (X → List ℕ) → (X → Bool) → List ℕ → X → Bool
names_kind named is_kind name x = bytes_eq name (named x) && is_kind x

abbrev is_named : {X : Type 0} → (X → List ℕ) → List ℕ → X → Bool
is_named named name x = bytes_eq name (named x)

abbrev has_name : List ℕ → Semaphore → Bool
has_name name s = bytes_eq name s.name

-- none of a kind has a name that no item has
none_of_kind : {X : Type 0} (named : X → List ℕ) (is_kind : X → Bool) (name : List ℕ) (xs : List X) →
    list_any (is_named named name) xs ≡ false → list_any (names_kind named is_kind name) xs ≡ false
none_of_kind named is_kind name [] h = refl
none_of_kind named is_kind name (x ∷ xs) h =
    let parts = or_parts (is_named named name x) (list_any (is_named named name) xs) h in
    λ t. (parts.0 t && is_kind x) || none_of_kind named is_kind name xs parts.1 t

-- one item more, whose name is new, is found if it is of the kind
kind_found : {X : Type 0} (named : X → List ℕ) (is_kind : X → Bool)
    (reads : Option NamedItem → Option ℕ) (old new : BTreeMap (Vec ℕ) NamedItem) (k : Vec ℕ)
    (d : NamedItem) (xs : List X) (x : X) → Updates key_cmp old new k (Some d) →
    k.items ≡ named x → reads (Some d) ≡ cond (is_kind x) (Some (length xs)) None →
    list_any (is_named named k.items) xs ≡ false →
    ((name : List ℕ) → reads (item_of old name) ≡ position (names_kind named is_kind name) xs) →
    (name : List ℕ) →
    reads (item_of new name) ≡ position (names_kind named is_kind name) (xs ++ x ∷ [])
kind_found named is_kind reads old new k d xs x put same item fresh was name =
    by_kind (is_kind x) refl
  where
    free : list_any (names_kind named is_kind k.items) xs ≡ false
    free = none_of_kind named is_kind k.items xs fresh

    and_true : (other : List ℕ) → is_kind x ≡ true →
        names_kind named is_kind other x ≡ bytes_eq other k.items
    and_true other e =
        ap (λ b. bytes_eq other (named x) && b) e ∙ true_right (bytes_eq other (named x))
        ∙ ap (bytes_eq other) (sym same)
      where
        true_right : (b : Bool) → (b && true) ≡ b
        true_right true = refl
        true_right false = refl

    by_kind : (b : Bool) → is_kind x ≡ b →
        reads (item_of new name) ≡ position (names_kind named is_kind name) (xs ++ x ∷ [])
    by_kind true e =
        found_with (names_kind named is_kind) reads old new k d xs x put
        (λ other. and_true other e) (item ∙ ap (λ b. cond b (Some (length xs)) None) e)
        free was name
    by_kind false e =
        found_without (names_kind named is_kind) reads old new k d xs put
        (item ∙ ap (λ b. cond b (Some (length xs)) None) e)
        free was name
        ∙ sym (same_found (names_kind named is_kind name) xs x (and_false (bytes_eq name (named x)) e))
      where
        and_false : (b : Bool) → is_kind x ≡ false → (b && is_kind x) ≡ false
        and_false true i = i
        and_false false i = refl

-- which kind of semaphore an item reads as

no_buffer : (kind : SemaphoreKind) (n : ℕ) → (number_in BufferName) (Some (semaphore_item kind n)) ≡ None
no_buffer (Timeline v) n = refl
no_buffer Binary n = refl
no_buffer Fence n = refl

no_queue : (kind : SemaphoreKind) (n : ℕ) → (number_in QueueName) (Some (semaphore_item kind n)) ≡ None
no_queue (Timeline v) n = refl
no_queue Binary n = refl
no_queue Fence n = refl

reads_timeline : (kind : SemaphoreKind) (n : ℕ) →
    (number_in TimelineName) (Some (semaphore_item kind n)) ≡ cond (is_timeline kind) (Some n) None
reads_timeline (Timeline v) n = refl
reads_timeline Binary n = refl
reads_timeline Fence n = refl

reads_binary : (kind : SemaphoreKind) (n : ℕ) →
    (number_in BinaryName) (Some (semaphore_item kind n)) ≡ cond (is_binary kind) (Some n) None
reads_binary (Timeline v) n = refl
reads_binary Binary n = refl
reads_binary Fence n = refl

reads_fence : (kind : SemaphoreKind) (n : ℕ) →
    (number_in FenceName) (Some (semaphore_item kind n)) ≡ cond (is_fence kind) (Some n) None
reads_fence (Timeline v) n = refl
reads_fence Binary n = refl
reads_fence Fence n = refl

no_threaded : (kind : SemaphoreKind) (n : ℕ) → number_in ThreadedName (Some (semaphore_item kind n)) ≡ None
no_threaded (Timeline v) n = refl
no_threaded Binary n = refl
no_threaded Fence n = refl

reads_threaded : (n : ℕ) (mode : Mode) →
    number_in ThreadedName (Some (QueueAt n mode)) ≡ cond (is_threaded mode) (Some n) None
reads_threaded n Immediate = refl
reads_threaded n Deferred = refl
reads_threaded n Threaded = refl

-- a name that is not taken is new in each list
free_parts : (buffers : List Buffer) (semaphores : List Semaphore) (queues : List Queue)
    (name : List ℕ) → is_taken buffers semaphores queues name ≡ false →
    (list_any (names_buffer name) buffers ≡ false) × (list_any (has_name name) semaphores ≡ false)
    × (list_any (names_queue name) queues ≡ false)
free_parts buffers semaphores queues name h =
    let first = or_parts (list_any (names_buffer name) buffers || list_any (has_name name) semaphores)
    (list_any (names_queue name) queues) h in
    let second = or_parts (list_any (names_buffer name) buffers) (list_any (has_name name) semaphores)
    first.0 in
    (second.0, second.1, first.1)

-- what stands for something is a buffer, a semaphore or fence of some kind, or a queue
some_item : (d : Option NamedItem) →
    is_some d
    ≡ (is_some (number_in BufferName d)
    || (is_some (number_in TimelineName d) || is_some (number_in BinaryName d) || is_some (number_in FenceName d))
    || is_some (number_in QueueName d))
some_item None = refl
some_item (Some (BufferAt n)) = refl
some_item (Some (TimelineAt n)) = refl
some_item (Some (BinaryAt n)) = refl
some_item (Some (FenceAt n)) = refl
some_item (Some (QueueAt n mode)) = refl

-- some semaphore or fence has a name where one of some kind has it
any_kind : (name : List ℕ) (xs : List Semaphore) →
    (list_any (names_timeline name) xs || list_any (names_binary name) xs
    || list_any (names_fence name) xs)
    ≡ list_any (has_name name) xs
any_kind name [] = refl
any_kind name (x ∷ xs) =
    by_kind x.kind (bytes_eq name x.name) (list_any (names_timeline name) xs)
    (list_any (names_binary name) xs) (list_any (names_fence name) xs) (any_kind name xs)
  where
    by_kind : (kind : SemaphoreKind) (b t i f : Bool) →
        (t || i || f) ≡ list_any (has_name name) xs →
        (((b && is_timeline kind) || t) || ((b && is_binary kind) || i)
        || ((b && is_fence kind) || f))
        ≡ (b || list_any (has_name name) xs)
    by_kind (Timeline v) true t i f h = refl
    by_kind Binary true true i f h = refl
    by_kind Binary true false i f h = refl
    by_kind Fence true true i f h = refl
    by_kind Fence true false true f h = refl
    by_kind Fence true false false f h = refl
    by_kind (Timeline v) false t i f h = h
    by_kind Binary false t i f h = h
    by_kind Fence false t i f h = h

-- the map has a name where something that is declared has it
pub taken_found : (buffers : List Buffer) (semaphores : List Semaphore) (queues : List Queue)
    (name : List ℕ) (d : Option NamedItem) → (number_in BufferName) d ≡ position (names_buffer name) buffers →
    (number_in TimelineName) d ≡ position (names_timeline name) semaphores →
    (number_in BinaryName) d ≡ position (names_binary name) semaphores →
    (number_in FenceName) d ≡ position (names_fence name) semaphores →
    (number_in QueueName) d ≡ position (names_queue name) queues →
    is_some d ≡ is_taken buffers semaphores queues name
taken_found buffers semaphores queues name d b t i f q =
    some_item d
    ∙ (λ s. is_some (b s) || (is_some (t s) || is_some (i s) || is_some (f s)) || is_some (q s))
    ∙ (λ s. any_found (names_buffer name) buffers s
    || (any_found (names_timeline name) semaphores s || any_found (names_binary name) semaphores s
    || any_found (names_fence name) semaphores s)
    || any_found (names_queue name) queues s)
    ∙ ap (λ c. list_any (names_buffer name) buffers || c || list_any (names_queue name) queues)
    (any_kind name semaphores)

-- What is declared has its names in the map.
abbrev pub HasNames : BTreeMap (Vec ℕ) NamedItem → List Buffer → List Semaphore → List Queue → Type 0
HasNames names buffers semaphores queues = (place : Slot) (name : List ℕ) →
    number_in place (item_of names name) ≡ number_among buffers semaphores queues place name

-- a name that nothing declared has stands for nothing
pub name_free : (names : BTreeMap (Vec ℕ) NamedItem) (buffers : List Buffer) (semaphores : List Semaphore)
    (queues : List Queue) (name : List ℕ) → HasNames names buffers semaphores queues →
    is_taken buffers semaphores queues name ≡ false → item_of names name ≡ None
name_free names buffers semaphores queues name was fresh =
    by_item (item_of names name)
    (taken_found buffers semaphores queues name (item_of names name) (was BufferName name) (was TimelineName name)
    (was BinaryName name) (was FenceName name) (was QueueName name) ∙ fresh)
  where
    by_item : (d : Option NamedItem) → is_some d ≡ false → d ≡ None
    by_item None h = refl
    by_item (Some d) h = absurd (cc)

module _ (old new : BTreeMap (Vec ℕ) NamedItem) (k : Vec ℕ) (d : NamedItem)
    (buffers : List Buffer) (semaphores : List Semaphore) (queues : List Queue)
    (put : Updates key_cmp old new k (Some d)) (was : HasNames old buffers semaphores queues)
    (fresh : is_taken buffers semaphores queues k.items ≡ false) where
  free : (list_any (names_buffer k.items) buffers ≡ false)
      × (list_any (has_name k.items) semaphores ≡ false)
      × (list_any (names_queue k.items) queues ≡ false)
  free = free_parts buffers semaphores queues k.items fresh

  -- a name of something else leaves the buffers, the queues and the semaphores of a kind as they were
  other_buffers : number_in BufferName (Some d) ≡ None → (name : List ℕ) →
      number_in BufferName (item_of new name) ≡ position (names_buffer name) buffers
  other_buffers none = found_without names_buffer (number_in BufferName) old new k d buffers put none
      free.0 (was BufferName)

  other_queues : number_in QueueName (Some d) ≡ None → (name : List ℕ) →
      number_in QueueName (item_of new name) ≡ position (names_queue name) queues
  other_queues none = found_without names_queue (number_in QueueName) old new k d queues put none
      free.2 (was QueueName)

  other_semaphores : (is_kind : SemaphoreKind → Bool) (place : Slot) →
      number_in place (Some d) ≡ None → ((name : List ℕ) → number_in place (item_of old name)
      ≡ position (names_kind (λ s. s.name) (λ s. is_kind s.kind) name) semaphores) →
      (name : List ℕ) → number_in place (item_of new name)
      ≡ position (names_kind (λ s. s.name) (λ s. is_kind s.kind) name) semaphores
  other_semaphores is_kind place none h =
      found_without (names_kind (λ s. s.name) (λ s. is_kind s.kind)) (number_in place) old new
      k d semaphores put none
      (none_of_kind (λ s. s.name) (λ s. is_kind s.kind) k.items semaphores free.1) h

  -- .. and the threaded queues
  others_threaded : number_in ThreadedName (Some d) ≡ None → (name : List ℕ) →
      number_in ThreadedName (item_of new name) ≡ position (names_threaded name) queues
  others_threaded none =
      found_without names_threaded (number_in ThreadedName) old new k d queues put none
      (none_of_kind (λ q. q.name) (λ q. is_threaded q.mode) k.items queues free.2) (was ThreadedName)

  -- a buffer more
  pub buffer_named : (n : ℕ) (x : Buffer) → d ≡ BufferAt n → k.items ≡ x.name →
      n ≡ length buffers → HasNames new (buffers ++ x ∷ []) semaphores queues
  buffer_named n x is named last BufferName name =
      found_with names_buffer (number_in BufferName) old new k d buffers x put
      (λ other. ap (bytes_eq other) (sym named))
      (ap (λ (i : NamedItem). number_in BufferName (Some i)) is ∙ ap (λ (m : ℕ). Some m) last)
      free.0 (was BufferName) name
  buffer_named n x is named last TimelineName name =
      other_semaphores is_timeline TimelineName
      (ap (λ (i : NamedItem). number_in TimelineName (Some i)) is) (was TimelineName) name
  buffer_named n x is named last BinaryName name =
      other_semaphores is_binary BinaryName
      (ap (λ (i : NamedItem). number_in BinaryName (Some i)) is) (was BinaryName) name
  buffer_named n x is named last FenceName name =
      other_semaphores is_fence FenceName
      (ap (λ (i : NamedItem). number_in FenceName (Some i)) is) (was FenceName) name
  buffer_named n x is named last QueueName name =
      other_queues (ap (λ (i : NamedItem). number_in QueueName (Some i)) is) name
  buffer_named n x is named last ThreadedName name =
      others_threaded (ap (λ (i : NamedItem). number_in ThreadedName (Some i)) is) name
  buffer_named n x is named last other name = refl

  -- a queue more
  pub queue_named : (n : ℕ) (x : Queue) → d ≡ QueueAt n x.mode → k.items ≡ x.name →
      n ≡ length queues → HasNames new buffers semaphores (queues ++ x ∷ [])
  queue_named n x is named last BufferName name =
      other_buffers (ap (λ (i : NamedItem). number_in BufferName (Some i)) is) name
  queue_named n x is named last TimelineName name =
      other_semaphores is_timeline TimelineName
      (ap (λ (i : NamedItem). number_in TimelineName (Some i)) is) (was TimelineName) name
  queue_named n x is named last BinaryName name =
      other_semaphores is_binary BinaryName
      (ap (λ (i : NamedItem). number_in BinaryName (Some i)) is) (was BinaryName) name
  queue_named n x is named last FenceName name =
      other_semaphores is_fence FenceName
      (ap (λ (i : NamedItem). number_in FenceName (Some i)) is) (was FenceName) name
  queue_named n x is named last QueueName name =
      found_with names_queue (number_in QueueName) old new k d queues x put
      (λ other. ap (bytes_eq other) (sym named))
      (ap (λ (i : NamedItem). number_in QueueName (Some i)) is ∙ ap (λ (m : ℕ). Some m) last)
      free.2 (was QueueName) name
  queue_named n x is named last ThreadedName name =
      kind_found (λ q. q.name) (λ q. is_threaded q.mode) (number_in ThreadedName) old new k d queues x
      put named
      (ap (λ (i : NamedItem). number_in ThreadedName (Some i)) is ∙ reads_threaded n x.mode
      ∙ ap (λ (m : ℕ). cond (is_threaded x.mode) (Some m) None) last)
      free.2 (was ThreadedName) name
  queue_named n x is named last other name = refl

  -- the kind of a semaphore or a fence more
  kind_named : (is_kind : SemaphoreKind → Bool) (place : Slot) → ((kind : SemaphoreKind) (n : ℕ) →
      number_in place (Some (semaphore_item kind n)) ≡ cond (is_kind kind) (Some n) None) →
      (n : ℕ) (x : Semaphore) → d ≡ semaphore_item x.kind n → k.items ≡ x.name →
      n ≡ length semaphores → ((name : List ℕ) → number_in place (item_of old name)
      ≡ position (names_kind (λ s. s.name) (λ s. is_kind s.kind) name) semaphores) →
      (name : List ℕ) → number_in place (item_of new name)
      ≡ position (names_kind (λ s. s.name) (λ s. is_kind s.kind) name) (semaphores ++ x ∷ [])
  kind_named is_kind place read n x is named last h =
      kind_found (λ s. s.name) (λ s. is_kind s.kind) (number_in place) old new k d semaphores x put
      named
      (ap (λ (i : NamedItem). number_in place (Some i)) is ∙ read x.kind n
      ∙ ap (λ (m : ℕ). cond (is_kind x.kind) (Some m) None) last)
      free.1 h

  -- a semaphore or a fence more
  pub semaphore_named : (n : ℕ) (x : Semaphore) → d ≡ semaphore_item x.kind n → k.items ≡ x.name →
      n ≡ length semaphores → HasNames new buffers (semaphores ++ x ∷ []) queues
  semaphore_named n x is named last BufferName name =
      other_buffers (ap (λ (i : NamedItem). number_in BufferName (Some i)) is ∙ no_buffer x.kind n) name
  semaphore_named n x is named last TimelineName name =
      kind_named is_timeline TimelineName reads_timeline n x is named last (was TimelineName) name
  semaphore_named n x is named last BinaryName name =
      kind_named is_binary BinaryName reads_binary n x is named last (was BinaryName) name
  semaphore_named n x is named last FenceName name =
      kind_named is_fence FenceName reads_fence n x is named last (was FenceName) name
  semaphore_named n x is named last QueueName name =
      other_queues (ap (λ (i : NamedItem). number_in QueueName (Some i)) is ∙ no_queue x.kind n) name
  semaphore_named n x is named last ThreadedName name =
      others_threaded (ap (λ (i : NamedItem). number_in ThreadedName (Some i)) is ∙ no_threaded x.kind n)
      name
  semaphore_named n x is named last other name = refl

-- Each entry has what its name stands for.
abbrev pub IsFound : BTreeMap (Vec ℕ) NamedItem → Entry → Type 0
IsFound names e = item_of names e.name.items ≡ Some e.item

-- .. also after a name is put into the map that stood for nothing
pub still_found : (old new : BTreeMap (Vec ℕ) NamedItem) (k : Vec ℕ) (d : NamedItem) →
    Updates key_cmp old new k (Some d) → item_of old k.items ≡ None → (entries : List Entry) →
    All (IsFound old) entries → All (IsFound new) entries
still_found old new k d put free entries was =
    All-weaker (IsFound old) (IsFound new)
    (λ e found. by_test e found (bytes_eq e.name.items k.items) refl) entries was
  where
    by_test : (e : Entry) → IsFound old e → (b : Bool) → bytes_eq e.name.items k.items ≡ b → IsFound new e
    by_test e found true same =
        absurd (none-some e.item (sym free
        ∙ ap (item_of old) (sym ((bytes_eq-Decides e.name.items k.items).0 same)) ∙ found))
    by_test e found false other = after_put old new k d put e.name.items false other ∙ found

-- the name that is put stands for what was put there
pub now_found : (old new : BTreeMap (Vec ℕ) NamedItem) (k : Vec ℕ) (d : NamedItem) →
    Updates key_cmp old new k (Some d) → (name : List ℕ) → name ≡ k.items → item_of new name ≡ Some d
now_found old new k d put name same =
    after_put old new k d put name true ((bytes_eq-Decides name k.items).1 same)
