-- What the parser keeps tells the tests of a line, and what a line without a fault says may be kept.
use Rattle.std.proofs.Common.{◌≡◌, ℕ, ◌+◌, Bool, true, false, cond, not, ◌||◌, ◌&&◌, List, [], ◌∷◌, length, map, Option, Some, None, is_some, refl, sym, ap, subst, ◌∙◌, nat_lt, arith}
use Rattle.std.specs.List.{list_all, list_any, count_by}
use Rattle.std.specs.Option.{option_map, option_map_or, option_or}
use Rattle.std.proofs.lemmas.Bool.{and_parts, or_parts, ltb-false, false≢true, not-true, not-false}
use Rattle.std.proofs.lemmas.Bool.Decides.{nat_tests}
use Rattle.std.proofs.lemmas.List.Sums.{sum_by-cons}
use Rattle.vq_model.specs.declared.script.Batch.{Batch}
use Rattle.vq_model.specs.declared.script.Buffer.{Buffer}
use Rattle.vq_model.specs.declared.script.Mark.{Mark}
use Rattle.vq_model.specs.declared.script.Pair.{Pair}
use Rattle.vq_model.specs.declared.statement.FaultKind.{FaultKind}
use Rattle.vq_model.specs.declared.statement.FaultKind.TheVariants.{Syntax, Order, Number, Name, Twice, Range, Overlap, Limit}
use Rattle.vq_model.specs.declared.statement.Line.{Line}
use Rattle.vq_model.specs.declared.statement.LineForm.{LineForm}
use Rattle.vq_model.specs.declared.statement.LineForm.TheVariants.{VersionLine, HeldTimelineLine, HeldBinaryLine, BufferLine, TimelineLine, BinaryLine, FenceLine, QueueLine, HostSignalLine, HostWaitAllLine, HostWaitAnyLine, HostPollAllLine, HostPollAnyLine, HostReadLine, HostFenceWaitLine, HostFencePollLine, HostFenceResetLine, HostIdleLine, FillWholeLine, FillLine, UpdateLine, CopyLine, SubmitLine, WaitTimelineLine, WaitBinaryLine, SignalTimelineLine, SignalBinaryLine, BatchFenceLine, EndLine, ScheduleLine, TurnLine, TurnsLine}
use Rattle.vq_model.specs.declared.statement.Statement.{Statement}
use Rattle.vq_model.specs.Context.{has_begun, count, open_batch, is_command}
use Rattle.vq_model.specs.Limits.{limits_of}
use Rattle.vq_model.specs.Forms.{Slot, HexDigits, Numeral, NewName, BufferName, TimelineName, BinaryName, FenceName, QueueName, places}
use Rattle.vq_model.specs.LineFaults.{is_shaped, is_numeric, is_known, is_new, is_declaration, part_of_form, is_batch_fence_form, is_out_of_order, is_in_range, overlaps, passes_limit}
use Rattle.vq_model.specs.Meaning.{actor_at, is_hex, of_five, of_four, of_three, of_two, pair_at, pair_places, pairs_at, small_numeral, statement_of}
use Rattle.vq_model.specs.Text.{numeral}
use Rattle.vq_reading_laws.proofs.Cited.{below}
use Rattle.vq_script.specs.declared.said.Said.{Said}
use Rattle.vq_script.specs.declared.said.Said.TheVariants.{Buffer as SaysBuffer, Semaphore as SaysSemaphore, Queue as SaysQueue, Submit, Wait, FillWhole, Fill, Update, Copy, Signal, Fence, End, Host, Schedule, Turns}
use Rattle.vq_script.specs.Faults.{fault_by, said_at}
use Rattle.vq_script.specs.Holds.{Holds, Declares, Kept, last_part, named_fence, waits_of, waits_past}
use Rattle.vq_script.specs.LineTests.{number_of, word_fault, said_fault, earlier_in}
use Rattle.vq_script.specs.SaidLines.{AreFound, Stands, Suits, MayKeep, MayCommand, IsNewName, end_with_pairs, open_kinds, statement_in, part_in, copied, new_name, named_in, placed, are_one_each, IsWhollyRead, are_digits}
use Rattle.vq_model.specs.Earlier.{Earlier, earlier}
use Rattle.vq_model.specs.Context.{number_at, number_in as number_among, is_taken}
use Rattle.std.specs.Prelude.{sum}

-- Order

-- some element passes where at least one is counted
any_is_counted : {X : Type 0} (p : X → Bool) (xs : List X) → list_any p xs ≡ nat_lt 0 (count_by p xs)
any_is_counted p [] = refl
any_is_counted {X} p (x ∷ xs) = by_test (p x) refl (any_is_counted p xs)
  where
    by_test : (b : Bool) → p x ≡ b → list_any p xs ≡ nat_lt 0 (count_by p xs) →
        list_any p (x ∷ xs) ≡ nat_lt 0 (count_by p (x ∷ xs))
    by_test true e h =
        let counted : count_by p (x ∷ xs) ≡ 1 + count_by p xs =
        sum_by-cons (λ y. cond (p y) 1 0) x xs ∙ ap (λ b. cond b 1 0 + count_by p xs) e in
        let more : nat_lt 0 (1 + count_by p xs) ≡ true = grind (arith, nat_tests) in
        ap (λ b. b || list_any p xs) e ∙ sym (ap (nat_lt 0) counted ∙ more)
    by_test false e h =
        let counted : count_by p (x ∷ xs) ≡ 0 + count_by p xs =
        sum_by-cons (λ y. cond (p y) 1 0) x xs ∙ ap (λ b. cond b 1 0 + count_by p xs) e in
        let same : count_by p (x ∷ xs) ≡ count_by p xs = omega arith in
        ap (λ b. b || list_any p xs) e ∙ h ∙ sym (ap (nat_lt 0) same)

-- a job has begun where what is kept says so
pub begun_by : (lines : List Line) (k : Kept) (batch : Option Batch) → Holds lines k batch →
    has_begun lines ≡ (is_some batch || nat_lt 0 (length k.jobs))
begun_by lines k None h =
    any_is_counted _ lines ∙ ap (nat_lt 0) h.all_jobs
    ∙ ap (nat_lt 0) (let e : length k.jobs + 0 ≡ length k.jobs = omega arith in e)
begun_by lines k (Some b) h =
    any_is_counted _ lines ∙ ap (nat_lt 0) h.all_jobs
    ∙ (let e : nat_lt 0 (length k.jobs + 1) ≡ true = grind (arith, nat_tests) in e)

-- What the parser keeps answers as the lines do.
pub number_by : (lines : List Line) (k : Kept) → Declares lines k → number_at lines ≡ number_of k
unfolding number_of
number_by lines k d = λ i place name.
    number_among (d.all_buffers i) (d.all_semaphores i) (d.all_queues i) place name

pub earlier_by : (lines : List Line) (k : Kept) (batch : Option Batch) → Holds lines k batch →
    earlier lines ≡ earlier_in k batch
earlier_by lines k batch h =
    let d = h.declares in
    let bytes = ap (λ (bs : List Buffer). sum (map (λ b. b.size) bs)) d.all_buffers ∙ d.all_bytes in
    let most = ap limits_of d.version ∙ d.limits in
    let far = h.inside.held (count is_command (open_batch lines) + 1)
    ∙ ap (λ n. waits_past (n + 1) (waits_of batch)) h.inside.all_commands in λ i.
    record {
      most = most i;
      number = number_by lines k d i;
      taken = is_taken (d.all_buffers i) (d.all_semaphores i) (d.all_queues i);
      buffers = d.all_buffers i;
      bytes = bytes i;
      semaphores = length (d.all_semaphores i);
      queues = length (d.all_queues i);
      jobs = h.all_jobs i;
      commands = h.all_commands i;
      turns = d.turn_count i;
      open_waits = h.inside.all_waits i;
      open_commands = h.inside.all_commands i;
      open_signals = h.inside.all_signals i;
      begun = begun_by lines k batch h i;
      later = λ part. h.inside.in_order part i;
      fenced = h.inside.fences i;
      too_far = far i;
    }

-- The kinds that come before words are read come first.
words_first : (a b : Bool) (later : Option FaultKind) →
    cond a (Some Syntax) (cond b (Some Order) later)
    ≡ option_or (cond a (Some Syntax) (cond b (Some Order) None)) later
words_first true b later = refl
words_first false true later = refl
words_first false false later = refl

module _ (e : Earlier) where
  -- the kinds from words that are read on
  abbrev later_fault : List (Slot × List ℕ) → Option Statement → Option FaultKind
  later_fault words said =
      cond (not (list_all (is_new e.taken) words)) (Some Twice)
      (cond (option_map_or (λ s. not (is_in_range e s)) said false) (Some Range)
      (cond (option_map_or (overlaps e.buffers) said false) (Some Overlap)
      (cond (option_map_or (passes_limit e) said false) (Some Limit) None)))

  -- the kinds from numbers on, by whether all numbers and all names are read
  abbrev pub read_fault : List (Slot × List ℕ) → Option Statement → (numeric known : Bool) →
      Option FaultKind
  read_fault words said numeric known =
      cond (not numeric) (Some Number) (cond (not known) (Some Name) (later_fault words said))

  -- the first kind of a line's faults
  first_by : (form : LineForm) (words : List (Slot × List ℕ)) →
      fault_by e (form, words)
      ≡ option_or (word_fault e form words)
      (read_fault words (said_at e (form, words)) (list_all is_numeric words)
      (list_all (is_known e.number) words))
  first_by form words =
      words_first _ _ (read_fault words (said_at e (form, words)) (list_all is_numeric words)
      (list_all (is_known e.number) words))

  -- the same, by what the tests of words say
  pub words_by : (form : LineForm) (words : List (Slot × List ℕ)) → (o : Option FaultKind) → word_fault e form words ≡ o →
      fault_by e (form, words)
      ≡ option_or o (read_fault words (said_at e (form, words)) (list_all is_numeric words)
      (list_all (is_known e.number) words))
  words_by form words o is =
      first_by form words
      ∙ ap (λ (x : Option FaultKind). option_or x (read_fault words (said_at e (form, words))
      (list_all is_numeric words) (list_all (is_known e.number) words))) is

-- What may be kept

-- whether a name is declared, by what is kept
abbrev taken_of : Kept → List ℕ → Bool
taken_of k = is_taken k.buffers k.semaphores k.queues

cond_none : {A : Type 0} (b : Bool) (x : A) (more : Option A) → cond b (Some x) more ≡ None →
    (b ≡ false) × (more ≡ None)
cond_none true x more h = absurd (cc)
cond_none false x more h = (refl, h)

-- the first word of a declaration is a name that passes what all words pass
new_passes : (test : Slot × List ℕ → Bool) (words : List (Slot × List ℕ)) (rest : List Slot)
    (x : Slot × List ℕ) → map (λ y. y.0) words ≡ NewName ∷ rest →
    Some x ≡ new_name (map (λ y. y.1) words) → list_all test words ≡ true → test x ≡ true
new_passes test [] rest x are e all = absurd (cc)
new_passes test ((p, word) ∷ words) rest x are e all =
    let place : p ≡ NewName = cc in
    let same : x ≡ (NewName, word) = cc in
    subst (λ (y : Slot × List ℕ). test y ≡ true) ((λ i. (place i, word)) ∙ sym same)
    (and_parts (test (p, word)) (list_all test words) all).0

-- what is copied passes what all words pass
copy_passes : (test : Slot × List ℕ → Bool) (form : LineForm) (words : List (Slot × List ℕ))
    (x : Slot × List ℕ) → AreFound form words → Some x ≡ copied form (map (λ y. y.1) words) →
    list_all test words ≡ true → test x ≡ true
copy_passes test BufferLine words x found e all =
    new_passes test words (Numeral ∷ []) x (found.each refl) e all
copy_passes test TimelineLine words x found e all =
    new_passes test words (Numeral ∷ []) x (found.each refl) e all
copy_passes test BinaryLine words x found e all =
    new_passes test words [] x (found.each refl) e all
copy_passes test FenceLine words x found e all =
    new_passes test words [] x (found.each refl) e all
copy_passes test (QueueLine mode) words x found e all =
    new_passes test words [] x (found.each refl) e all
copy_passes test UpdateLine ((p, b) ∷ (q, offset) ∷ (r, digits) ∷ []) x found e all =
    let are = found.each refl in
    let place : r ≡ HexDigits = cc in
    let same : x ≡ (HexDigits, digits) = cc in
    let first = and_parts (test (p, b)) (test (q, offset) && (test (r, digits) && true)) all in
    let second = and_parts (test (q, offset)) (test (r, digits) && true) first.1 in
    subst (λ (y : Slot × List ℕ). test y ≡ true) ((λ i. (place i, digits)) ∙ sym same)
    (and_parts (test (r, digits)) true second.1).0
copy_passes test other words x found e all = absurd (cc)

-- only one form is of the part of fences
fence_form : (form : LineForm) → 4 ≡ part_of_form form → is_batch_fence_form form ≡ true
fence_form BatchFenceLine e = refl
fence_form other e = absurd (omega arith)

-- the tests of words, where they have no fault
pub record Passes (k : Kept) (batch : Option Batch) (form : LineForm) (words : List (Slot × List ℕ)) :
    Type 0 where
  pub shaped : list_all is_shaped words ≡ true
  pub in_order : nat_lt (part_of_form form) (last_part batch) ≡ false
  pub one_fence : (is_batch_fence_form form && is_some (named_fence batch)) ≡ false

pub passed : (k : Kept) (batch : Option Batch) (form : LineForm) (words : List (Slot × List ℕ)) →
    word_fault (earlier_in k batch) form words ≡ None → Passes k batch form words
passed k batch form words w =
    let one = cond_none (not (list_all is_shaped words)) Syntax _ w in
    let two = cond_none (is_out_of_order (earlier_in k batch) form) Order _ one.1 in
    let order =
    or_parts ((is_declaration form && (is_some batch || nat_lt 0 (length k.jobs)))
    || nat_lt (part_of_form form) (last_part batch))
    (is_batch_fence_form form && is_some (named_fence batch)) two.0 in
    record {
      shaped = not-false _ one.0;
      in_order = (or_parts (is_declaration form && (is_some batch || nat_lt 0 (length k.jobs)))
          (nat_lt (part_of_form form) (last_part batch)) order.0).1;
      one_fence = order.1;
    }

-- the tests that come after words are read, where they find no fault
pub record PassesLater (k : Kept) (batch : Option Batch) (words : List (Slot × List ℕ))
    (s : Statement) : Type 0 where
  pub numeric : list_all is_numeric words ≡ true
  pub fresh : list_all (is_new (taken_of k)) words ≡ true
  pub limited : passes_limit (earlier_in k batch) s ≡ false

pub passed_later : (k : Kept) (batch : Option Batch) (words : List (Slot × List ℕ))
    (s : Statement) → list_all is_numeric words ≡ true → said_fault (earlier_in k batch) words s ≡ None →
    PassesLater k batch words s
passed_later k batch words s n e =
    let five = cond_none (not (list_all (is_new (taken_of k)) words)) Twice _ e in
    let six = cond_none (not (is_in_range (earlier_in k batch) s)) Range _ five.1 in
    record {
      numeric = n;
      fresh = not-false _ five.0;
      limited = (cond_none (passes_limit (earlier_in k batch) s) Limit None (cond_none (overlaps k.buffers s) Overlap _ six.1).1).0;
    }

module _ (k : Kept) (form : LineForm) (words : List (Slot × List ℕ)) (found : AreFound form words) where
  -- a name that is declared
  is_new_name : (batch : Option Batch) (name : List ℕ) → Passes k batch form words →
      list_all (is_new (taken_of k)) words ≡ true →
      Some (NewName, name) ≡ copied form (map (λ y. y.1) words) → IsNewName k name
  is_new_name batch name p fresh e = (
    copy_passes is_shaped form words (NewName, name) found e p.shaped,
    not-true _ (copy_passes (is_new (taken_of k)) form words (NewName, name) found e fresh),
  )

  -- a command
  may_command : (b : Batch) (said : Said) → Passes k (Some b) form words → part_in said ≡ 2 →
      part_in said ≡ part_of_form form →
      (not (nat_lt k.commands k.most.commands)
      || not (nat_lt (length b.commands) k.most.batch_commands)) ≡ false → MayCommand k b
  may_command b said p two part l =
      record {
        room = below k.commands k.most.commands (or_parts
            (not (nat_lt k.commands k.most.commands))
            (not (nat_lt (length b.commands) k.most.batch_commands)) l).0;
        in_order = subst (λ (n : ℕ). nat_lt n (last_part (Some b)) ≡ false) (sym part ∙ two) p.in_order;
      }

  -- what a line without a fault says
  pub may_keep : (batch : Option Batch) (said : Said) → Stands form k.scheduled batch →
      Suits form words said → IsWhollyRead k said → Passes k batch form words →
      PassesLater k batch words (statement_in k said) → MayKeep k batch said
  may_keep None (SaysBuffer name size) st su r p l =
      let limits =
      or_parts (not (nat_lt (length k.buffers) k.most.buffers))
      (nat_lt k.most.bytes (k.bytes + size)) l.limited in (
        is_new_name None name.now p l.fresh su.copies,
        below (length k.buffers) k.most.buffers limits.0,
        ltb-false k.most.bytes (k.bytes + size) limits.1,
      )
  may_keep None (SaysSemaphore name kind) st su r p l =
      (is_new_name None name.now p l.fresh su.copies, below (length k.semaphores) k.most.semaphores l.limited)
  may_keep None (SaysQueue name mode) st su r p l =
      (is_new_name None name.now p l.fresh su.copies, below (length k.queues) k.most.queues l.limited)
  may_keep None (Submit q) st su r p l = sym (su.turns ∙ st.turns)
  may_keep None (Host step) st su r p l = r
  may_keep None Schedule st su r p l = tt
  may_keep None (Turns actor count) st su r p l =
      ltb-false k.most.turns (length k.turns + count) l.limited
  may_keep None other st su r p l =
      absurd (let c : nat_lt 0 (part_in other) ≡ false = ap (nat_lt 0) su.part ∙ st.inside in cc)
  may_keep (Some b) (Wait pair from) st su r p l =
      subst (λ (n : ℕ). nat_lt n (last_part (Some b)) ≡ false) (sym su.part) p.in_order
  may_keep (Some b) (FillWhole x o w) st su r p l = may_command b (FillWhole x o w) p refl su.part l.limited
  may_keep (Some b) (Fill x o n w) st su r p l = may_command b (Fill x o n w) p refl su.part l.limited
  may_keep (Some b) (Update x o digits) st su r p l = (
    may_command b (Update x o digits) p refl su.part l.limited,
    copy_passes is_numeric form words (HexDigits, digits.now) found su.copies l.numeric,
  )
  may_keep (Some b) (Copy s from t to n) st su r p l = may_command b (Copy s from t to n) p refl su.part l.limited
  may_keep (Some b) (Signal pair) st su r p l =
      subst (λ (n : ℕ). nat_lt n (last_part (Some b)) ≡ false) (sym su.part) p.in_order
  may_keep (Some b) (Fence f) st su r p l =
      no_fence b.fence (sym (ap (λ t. t && is_some b.fence) (fence_form form su.part)) ∙ p.one_fence)
    where
      no_fence : (x : Option Mark) → is_some x ≡ false → x ≡ None
      no_fence None e = refl
      no_fence (Some m) e = absurd (cc)
  may_keep (Some b) End st su r p l = tt
  may_keep (Some b) other st su r p l =
      absurd (let c : nat_lt 0 (part_in other) ≡ true = ap (nat_lt 0) su.part ∙ st.inside in cc)

-- Whether a line's words are read

-- words at open places, as their places with the texts there
placed_is : (words : List (Slot × List ℕ)) (kinds : List Slot) →
    map (λ x. x.0) words ≡ kinds →
    (are_one_each kinds (map (λ x. x.1) words) ≡ true)
    × (words ≡ placed kinds (map (λ x. x.1) words))
placed_is [] [] e = (refl, refl)
placed_is [] (kind ∷ kinds) e = absurd (cc)
placed_is (w ∷ words) [] e = absurd (cc)
placed_is ((p, text) ∷ words) (kind ∷ kinds) e =
    let rest : map (λ x. x.0) words ≡ kinds = cc in
    let same : p ≡ kind = cc in
    let more = placed_is words kinds rest in
    (more.0, λ i. (same i, text) ∷ more.1 i)

-- a value of several is read where each is

some_one : {A B : Type 0} (f : A → B) (a : Option A) → is_some (option_map f a) ≡ (is_some a && true)
some_one f None = refl
some_one f (Some x) = refl

some_two : {A B C : Type 0} (f : A → B → C) (a : Option A) (b : Option B) →
    is_some (of_two f a b) ≡ ((is_some b && true) && (is_some a && true))
some_two f None None = refl
some_two f None (Some y) = refl
some_two f (Some x) None = refl
some_two f (Some x) (Some y) = refl

some_three : {A B C D : Type 0} (f : A → B → C → D) (a : Option A) (b : Option B) (c : Option C) →
    is_some (of_three f a b c) ≡ ((is_some b && (is_some c && true)) && (is_some a && true))
some_three f (Some x) (Some y) c = some_one (f x y) c ∙ last (is_some c)
  where
    last : (t : Bool) → (t && true) ≡ ((t && true) && true)
    last true = refl
    last false = refl
some_three f (Some x) None c = refl
some_three f None None c = refl
some_three f None (Some y) None = refl
some_three f None (Some y) (Some z) = refl

some_held : {A : Type 0} (f : Pair → ℕ → A) (a b c : Option ℕ) →
    is_some (of_two f (of_two (λ t v. record { semaphore = t; value = v }) a b) c)
    ≡ ((is_some b && (is_some c && true)) && (is_some a && true))
some_held f None None c = refl
some_held f None (Some v) None = refl
some_held f None (Some v) (Some k) = refl
some_held f (Some t) None c = refl
some_held f (Some t) (Some v) None = refl
some_held f (Some t) (Some v) (Some k) = refl

some_four : {A B C D E : Type 0} (f : A → B → C → D → E) (a : Option A) (b : Option B) (c : Option C)
    (d : Option D) →
    is_some (of_four f a b c d)
    ≡ ((is_some b && (is_some c && (is_some d && true))) && (is_some a && true))
some_four f (Some x) (Some y) (Some z) None = refl
some_four f (Some x) (Some y) (Some z) (Some u) = refl
some_four f (Some x) (Some y) None d = refl
some_four f (Some x) None c d = refl
some_four f None None c d = refl
some_four f None (Some y) None d = refl
some_four f None (Some y) (Some z) None = refl
some_four f None (Some y) (Some z) (Some u) = refl

some_copy : {A B C D E F : Type 0} (f : A → B → C → D → E → F) (a : Option A) (b : Option B)
    (c : Option C) (d : Option D) (e : Option E) →
    is_some (of_five f a b c d e)
    ≡ ((is_some b && (is_some d && (is_some e && true))) && (is_some a && (is_some c && true)))
some_copy f None None c d e = refl
some_copy f None (Some y) c None e = refl
some_copy f None (Some y) c (Some u) None = refl
some_copy f None (Some y) c (Some u) (Some v) = refl
some_copy f (Some x) None c d e = refl
some_copy f (Some x) (Some y) None None e = refl
some_copy f (Some x) (Some y) None (Some u) None = refl
some_copy f (Some x) (Some y) None (Some u) (Some v) = refl
some_copy f (Some x) (Some y) (Some z) None e = refl
some_copy f (Some x) (Some y) (Some z) (Some u) None = refl
some_copy f (Some x) (Some y) (Some z) (Some u) (Some v) = refl

some_update : {A : Type 0} (t : Bool) (a b : Option ℕ) (f : ℕ → ℕ → A) →
    is_some (cond t (of_two f a b) None) ≡ ((is_some b && (t && true)) && (is_some a && true))
some_update true a b f = some_two f a b
some_update false a None f = refl
some_update false a (Some y) f = refl

some_number : {B : Type 0} (f : ℕ → B) (a : Option ℕ) →
    is_some (option_map f a) ≡ ((is_some a && true) && true)
some_number f None = refl
some_number f (Some x) = refl

pub some_mapped : {A B : Type 0} (f : A → B) (a : Option A) → is_some (option_map f a) ≡ is_some a
some_mapped f None = refl
some_mapped f (Some x) = refl

-- pairs are read where all their numbers and names are
pairs_said : (k : Kept) (texts : List (List ℕ)) →
    is_some (pairs_at (number_of k) texts)
    ≡ (list_all is_numeric (pair_places texts) && list_all (is_known (number_of k)) (pair_places texts))
pairs_said k [] = refl
pairs_said k (name ∷ []) = refl
pairs_said k (name ∷ value ∷ texts) =
    some_pairs (number_of k TimelineName name) (numeral value) (pairs_at (number_of k) texts)
    (list_all is_numeric (pair_places texts)) (list_all (is_known (number_of k)) (pair_places texts))
    (pairs_said k texts)
  where
    and_none : (b c : Bool) → false ≡ ((b && c) && false)
    and_none true true = refl
    and_none true false = refl
    and_none false c = refl

    some_pairs : (a b : Option ℕ) (ps : Option (List Pair)) (n kn : Bool) →
        is_some ps ≡ (n && kn) →
        is_some (of_two (λ (p : Pair) (more : List Pair). p ∷ more)
        (of_two (λ t v. record { semaphore = t; value = v }) a b) ps)
        ≡ ((is_some b && n) && (is_some a && kn))
    some_pairs None b ps n kn e = and_none (is_some b) n
    some_pairs (Some t) None ps n kn e = refl
    some_pairs (Some t) (Some v) ps n kn e = some_mapped _ ps ∙ e

pairs_named : (k : Kept) (form : LineForm) (texts : List (List ℕ)) →
    end_with_pairs (places form) ≡ true →
    is_some (named_in k form texts)
    ≡ (list_all is_numeric (pair_places texts) && list_all (is_known (number_of k)) (pair_places texts))
pairs_named k HostWaitAllLine texts e = some_mapped _ (pairs_at (number_of k) texts) ∙ pairs_said k texts
pairs_named k HostWaitAnyLine texts e = some_mapped _ (pairs_at (number_of k) texts) ∙ pairs_said k texts
pairs_named k HostPollAllLine texts e = some_mapped _ (pairs_at (number_of k) texts) ∙ pairs_said k texts
pairs_named k HostPollAnyLine texts e = some_mapped _ (pairs_at (number_of k) texts) ∙ pairs_said k texts
pairs_named k other texts e = absurd (false≢true e)

-- a line says something where all its numbers and names are read
named_said : (k : Kept) (form : LineForm) (texts : List (List ℕ)) →
    end_with_pairs (places form) ≡ false →
    are_one_each (open_kinds (places form)) texts ≡ true →
    is_some (named_in k form texts)
    ≡ (list_all is_numeric (placed (open_kinds (places form)) texts)
    && list_all (is_known (number_of k)) (placed (open_kinds (places form)) texts))
named_said k VersionLine [] e o = refl
named_said k BufferLine (name ∷ size ∷ []) e o = some_number _ (numeral size)
named_said k TimelineLine (name ∷ value ∷ []) e o = some_number _ (numeral value)
named_said k BinaryLine (name ∷ []) e o = refl
named_said k FenceLine (name ∷ []) e o = refl
named_said k (QueueLine mode) (name ∷ []) e o = refl
named_said k SubmitLine (queue ∷ []) e o = some_one _ (number_of k QueueName queue)
named_said k WaitTimelineLine (name ∷ value ∷ []) e o =
    some_mapped _ (pair_at (number_of k) name value)
    ∙ some_two _ (number_of k TimelineName name) (numeral value)
named_said k WaitBinaryLine (name ∷ []) e o = some_one _ (number_of k BinaryName name)
named_said k HeldTimelineLine (name ∷ value ∷ place ∷ []) e o =
    some_held _ (number_of k TimelineName name) (numeral value) (numeral place)
named_said k HeldBinaryLine (name ∷ place ∷ []) e o =
    some_two _ (number_of k BinaryName name) (numeral place)
named_said k FillWholeLine (buffer ∷ offset ∷ word ∷ []) e o =
    some_three _ (number_of k BufferName buffer) (numeral offset) (small_numeral word)
named_said k FillLine (buffer ∷ offset ∷ size ∷ word ∷ []) e o =
    some_four _ (number_of k BufferName buffer) (numeral offset) (numeral size) (small_numeral word)
named_said k UpdateLine (buffer ∷ offset ∷ digits ∷ []) e o =
    some_update (is_hex digits) (number_of k BufferName buffer) (numeral offset) _
named_said k CopyLine (source ∷ from ∷ target ∷ to ∷ size ∷ []) e o =
    some_copy _ (number_of k BufferName source) (numeral from) (number_of k BufferName target)
    (numeral to) (numeral size)
named_said k SignalTimelineLine (name ∷ value ∷ []) e o =
    some_mapped _ (pair_at (number_of k) name value)
    ∙ some_two _ (number_of k TimelineName name) (numeral value)
named_said k SignalBinaryLine (name ∷ []) e o = some_one _ (number_of k BinaryName name)
named_said k BatchFenceLine (name ∷ []) e o = some_one _ (number_of k FenceName name)
named_said k EndLine [] e o = refl
named_said k HostSignalLine (name ∷ value ∷ []) e o =
    some_mapped _ (pair_at (number_of k) name value)
    ∙ some_two _ (number_of k TimelineName name) (numeral value)
named_said k HostWaitAllLine texts e o = absurd (false≢true (sym e))
named_said k HostWaitAnyLine texts e o = absurd (false≢true (sym e))
named_said k HostPollAllLine texts e o = absurd (false≢true (sym e))
named_said k HostPollAnyLine texts e o = absurd (false≢true (sym e))
named_said k HostReadLine (name ∷ []) e o = some_one _ (number_of k TimelineName name)
named_said k HostFenceWaitLine (name ∷ []) e o = some_one _ (number_of k FenceName name)
named_said k HostFencePollLine (name ∷ []) e o = some_one _ (number_of k FenceName name)
named_said k HostFenceResetLine (name ∷ []) e o = some_one _ (number_of k FenceName name)
named_said k HostIdleLine [] e o = refl
named_said k ScheduleLine [] e o = refl
named_said k TurnLine (actor ∷ []) e o = some_one _ (actor_at (number_of k) actor)
named_said k TurnsLine (actor ∷ count ∷ []) e o = some_two _ (actor_at (number_of k) actor) (numeral count)
named_said k form texts e o = absurd (cc)

-- the same, of words at the open places of a form
pub all_read : (k : Kept) (form : LineForm)
    (words : List (Slot × List ℕ)) → AreFound form words →
    (list_all is_numeric words && list_all (is_known (number_of k)) words)
    ≡ is_some (named_in k form (map (λ x. x.1) words))
all_read k form words found = by_pairs (end_with_pairs (places form)) refl
  where
    texts : List (List ℕ)
    texts = map (λ (x : Slot × List ℕ). x.1) words

    by_pairs : (t : Bool) → end_with_pairs (places form) ≡ t →
        (list_all is_numeric words && list_all (is_known (number_of k)) words) ≡ is_some (named_in k form texts)
    by_pairs true e =
        let p : words ≡ pair_places texts = found.pairs e in
        (λ i. list_all is_numeric (p i) && list_all (is_known (number_of k)) (p i))
        ∙ sym (pairs_named k form texts e)
    by_pairs false e =
        let p = placed_is words (open_kinds (places form)) (found.each e) in
        (λ i. list_all is_numeric (p.1 i) && list_all (is_known (number_of k)) (p.1 i))
        ∙ sym (named_said k form texts e p.0)

-- The first kind of the faults of a line whose words aren't all read, and of one whose words are.

pub unread_first : (k : Kept) (batch : Option Batch) (form : LineForm)
    (words : List (Slot × List ℕ)) → AreFound form words →
    None ≡ named_in k form (map (λ x. x.1) words) →
    fault_by (earlier_in k batch) (form, words)
    ≡ option_or (word_fault (earlier_in k batch) form words) (Some (cond (list_all is_numeric words) Name Number))
unread_first k batch form words found said =
    words_by e form words (word_fault e form words) refl
    ∙ ap (option_or (word_fault e form words)) (by_numeric (list_all is_numeric words) (list_all (is_known (number_of k)) words)
    (all_read k form words found ∙ ap (λ (o : Option Statement). is_some o) (sym said)))
  where
    e : Earlier
    e = earlier_in k batch

    by_numeric : (n kn : Bool) → (n && kn) ≡ false →
        read_fault e words (said_at e (form, words)) n kn ≡ Some (cond n Name Number)
    by_numeric true true i = absurd (cc)
    by_numeric true false i = refl
    by_numeric false kn i = refl

-- what is said where digits are read
pub said_read : (k : Kept) (form : LineForm) (words : List (List ℕ)) (s : Statement) →
    Some s ≡ named_in k form words → statement_of (number_of k) form words ≡ Some s
said_read k form words s said = by_digits (are_digits form words) said
  where
    by_digits : (t : Bool) → Some s ≡ cond t (statement_of (number_of k) form words) None →
        statement_of (number_of k) form words ≡ Some s
    by_digits true i = sym i
    by_digits false i = absurd (cc)

pub read_first : (k : Kept) (batch : Option Batch) (form : LineForm)
    (words : List (Slot × List ℕ)) → AreFound form words →
    word_fault (earlier_in k batch) form words ≡ None → (s : Statement) →
    Some s ≡ named_in k form (map (λ x. x.1) words) →
    fault_by (earlier_in k batch) (form, words) ≡ said_fault (earlier_in k batch) words s
read_first k batch form words found none s said =
    let both = and_parts (list_all is_numeric words) (list_all (is_known (number_of k)) words)
    (all_read k form words found ∙ ap (λ (o : Option Statement). is_some o) (sym said)) in
    first_by (earlier_in k batch) form words
    ∙ (λ i. option_or (none i) (read_fault (earlier_in k batch) words
    (said_read k form (map (λ x. x.1) words) s said i) (both.0 i) (both.1 i)))

-- its numbers are read
pub read_numeric : (k : Kept) (form : LineForm)
    (words : List (Slot × List ℕ)) (s : Statement) → AreFound form words →
    Some s ≡ named_in k form (map (λ x. x.1) words) →
    list_all is_numeric words ≡ true
read_numeric k form words s found said =
    (and_parts (list_all is_numeric words) (list_all (is_known (number_of k)) words)
    (all_read k form words found ∙ ap (λ (o : Option Statement). is_some o) (sym said))).0
