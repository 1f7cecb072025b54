-- Where no queue is ready, each that holds a batch back waits for a value that nothing signals, or for another such queue.
use Rattle.std.proofs.Common.{◌≡◌, ◌⊎◌, ℕ, zero, suc, ◌+◌, ◌<◌, ◌≤◌, Bool, true, false, List, [], ◌∷◌, length, take, drop, Option, None, Some, inl, inr, refl, sym, ◌∙◌, ap, subst, arith}
use Rattle.std.specs.Prelude.{nat_eq, nat_lt, nat_le, ◌&&◌, if◌then◌else◌}
use Rattle.std.specs.List.{slice_get}
use Rattle.std.proofs.lemmas.Bool.Decides.{nat_tests}
use Rattle.std.proofs.lemmas.Bool.{and_parts}
use Rattle.vq_live.proofs.Cited.{same_given, given_same, last_above}
use Rattle.vq_ground.proofs.Tests.{below_test, at_most_test, below_of_test}
use Rattle.vq_live.specs.declared.answers.Given.{Given}
use Rattle.vq_live.specs.declared.answers.Found.{Found}
use Rattle.vq_live.specs.declared.answers.Found.TheVariants as found_as
use Rattle.vq_live.specs.Live.{Live, KeepsLive, RisesFrom, taken, one_if, last_value, pending_value}
use Rattle.vq_live.specs.Calls.{is_same, first_of}
use Rattle.vq_layer.specs.declared.answers.Wanted.{Wanted}
use Rattle.vq_layer.specs.declared.answers.Wait.{Wait}
use Rattle.vq_layer.specs.declared.answers.Signal.{Signal}
use Rattle.vq_layer.specs.declared.answers.Blocked.TheVariants as blocked_as
use Rattle.vq_layer.specs.Layer.{Layer, Batch, Queue, queue_at, live_at}
use Rattle.vq_layer.specs.Waits.{found_in, is_not_yet, or_later, first_not_yet}
use Rattle.vq_layer.specs.Installs.{is_first, is_next, unless_next, first_behind}
use Rattle.vq_layer.specs.Queues.{blocked_by, batch_blocked, blocked_first, first_held_back, blocked}
use Rattle.vq_layer.specs.Calls.{blocked_of, completed_of}
use Rattle.vq_layer.proofs.Cited.{same_number, equal_true, true_false}
use Rattle.vq_layer_laws.specs.Tied.{is_signal, count_signals, count_batches, count_held, count_queues}
use Rattle.vq_layer_laws.specs.Stuck.{IsAmong, held_back_in, IsHeldBack, IsFirst, IsStuck, Brings, ComesBefore, Awaits, WaitsFor, by_wait, by_signal, IsMissing, IsChain, HasRing}
use Rattle.vq_layer_laws.proofs.Counts.{lived_keeps, IsIn, some_in, in_some, rises_in, rises_drop}
use Rattle.vq_layer_laws.proofs.Sums.{count_at_most}
use Rattle.vq_layer_laws.proofs.Keeping.{Keeps, taken_exists}
use Rattle.vq_layer_laws.proofs.Pigeons.{AreBelow, some_twice}

pub is_le : (a b : ℕ) → nat_le a b ≡ true → a ≤ b
is_le a b e = grind (arith, nat_tests)

-- a signal among these that brings a value, if there is one
record BringsIn (ss : List Signal) (w : Wanted) : Type 0 where
  signal : Signal
  its : IsAmong signal ss
  of_timeline : signal.timeline ≡ w.timeline
  enough : w.value ≤ signal.given.value

search_signals : (w : Wanted) (ss : List Signal) → BringsIn ss w ⊎ (BringsIn ss w → ⊥)
search_signals w [] = inr (λ b. b.its)
search_signals w (s ∷ ss) = by_test (nat_eq s.timeline w.timeline && nat_le w.value s.given.value) refl (search_signals w ss)
  where
    by_test : (b : Bool) → (nat_eq s.timeline w.timeline && nat_le w.value s.given.value) ≡ b → (BringsIn ss w ⊎ (BringsIn ss w → ⊥)) → (BringsIn (s ∷ ss) w ⊎ (BringsIn (s ∷ ss) w → ⊥))
    by_test true e k =
        let both = and_parts (nat_eq s.timeline w.timeline) (nat_le w.value s.given.value) e in
        inl (record { signal = s; its = inl refl; of_timeline = same_number s.timeline w.timeline both.0; enough = is_le w.value s.given.value both.1 })
    by_test false e (inl k) = inl (record { signal = k.signal; its = inr k.its; of_timeline = k.of_timeline; enough = k.enough })
    by_test false e (inr k) = inr (λ b. by_place b b.its)
      where
        by_place : (b : BringsIn (s ∷ ss) w) → ((s ≡ b.signal) ⊎ IsAmong b.signal ss) → ⊥
        by_place b (inl q) =
            let timeline : nat_eq s.timeline w.timeline ≡ true = equal_true s.timeline w.timeline (ap (λ (x : Signal). x.timeline) q ∙ b.of_timeline) in
            let value : nat_le w.value s.given.value ≡ true = at_most_test w.value s.given.value (subst (λ (x : Signal). w.value ≤ x.given.value) (sym q) b.enough) in
            true_false (nat_eq s.timeline w.timeline && nat_le w.value s.given.value) (λ i. timeline i && value i) e
        by_place b (inr j) = k (record { signal = b.signal; its = j; of_timeline = b.of_timeline; enough = b.enough })

record BatchBrings (bs : List Batch) (w : Wanted) : Type 0 where
  batch : Batch
  held : IsAmong batch bs
  brings : BringsIn batch.signals w

search_batches : (w : Wanted) (bs : List Batch) → BatchBrings bs w ⊎ (BatchBrings bs w → ⊥)
search_batches w [] = inr (λ b. b.held)
search_batches w (c ∷ cs) = by_first (search_signals w c.signals) (search_batches w cs)
  where
    by_first : (BringsIn c.signals w ⊎ (BringsIn c.signals w → ⊥)) → (BatchBrings cs w ⊎ (BatchBrings cs w → ⊥)) → (BatchBrings (c ∷ cs) w ⊎ (BatchBrings (c ∷ cs) w → ⊥))
    by_first (inl k) rest = inl (record { batch = c; held = inl refl; brings = k })
    by_first (inr k) (inl r) = inl (record { batch = r.batch; held = inr r.held; brings = r.brings })
    by_first (inr k) (inr r) = inr (λ b. by_place b b.held)
      where
        by_place : (b : BatchBrings (c ∷ cs) w) → ((c ≡ b.batch) ⊎ IsAmong b.batch cs) → ⊥
        by_place b (inl q) = k (subst (λ (x : Batch). BringsIn x.signals w) (sym q) b.brings)
        by_place b (inr j) = r (record { batch = b.batch; held = j; brings = b.brings })

-- of the queues from the first on
record QueueBrings (qs : List Queue) (w : Wanted) : Type 0 where
  place : ℕ
  brings : BatchBrings (drop (queue_at qs place).released (queue_at qs place).batches) w

search_queues : (w : Wanted) (qs : List Queue) → QueueBrings qs w ⊎ (QueueBrings qs w → ⊥)
search_queues w [] = inr (λ b. b.brings.held)
search_queues w (q ∷ qs) = by_first (search_batches w (drop q.released q.batches)) (search_queues w qs)
  where
    by_first : (BatchBrings (drop q.released q.batches) w ⊎ (BatchBrings (drop q.released q.batches) w → ⊥)) → (QueueBrings qs w ⊎ (QueueBrings qs w → ⊥)) → (QueueBrings (q ∷ qs) w ⊎ (QueueBrings (q ∷ qs) w → ⊥))
    by_first (inl k) rest = inl (record { place = 0; brings = k })
    by_first (inr k) (inl r) = inl (record { place = suc r.place; brings = r.brings })
    by_first (inr k) (inr r) = inr (λ b. by_place b.place b.brings)
      where
        by_place : (m : ℕ) → BatchBrings (drop (queue_at (q ∷ qs) m).released (queue_at (q ∷ qs) m).batches) w → ⊥
        by_place zero b = k b
        by_place (suc m) b = r (record { place = m; brings = b })

record BringsAt (l : Layer) (w : Wanted) : Type 0 where
  queue : ℕ
  brings : Brings l queue w

search_layer : (l : Layer) (w : Wanted) → BringsAt l w ⊎ ((r : ℕ) → Brings l r w → ⊥)
search_layer l w = by_case (search_queues w l.queues)
  where
    by_case : (QueueBrings l.queues w ⊎ (QueueBrings l.queues w → ⊥)) → (BringsAt l w ⊎ ((r : ℕ) → Brings l r w → ⊥))
    by_case (inl k) =
        let b = k.brings.brings in
        inl (record { queue = k.place; brings = record { batch = k.brings.batch; held = k.brings.held; signal = b.signal; its = b.its; of_timeline = b.of_timeline; enough = b.enough } })
    by_case (inr k) =
        inr (λ r b. k (record { place = r; brings = record { batch = b.batch; held = b.held; brings = record { signal = b.signal; its = b.its; of_timeline = b.of_timeline; enough = b.enough } } }))

-- who signals a taken operation
record OwnsIn (ss : List Signal) (n : ℕ) (x : Given) : Type 0 where
  signal : Signal
  its : IsAmong signal ss
  of_timeline : signal.timeline ≡ n
  of_given : signal.given ≡ x

own_signals : (n : ℕ) (x : Given) (ss : List Signal) → 0 < count_signals n x ss → OwnsIn ss n x
own_signals n x [] h = absurd (omega arith)
own_signals n x (s ∷ ss) h = by_test (nat_eq s.timeline n && is_same s.given x) refl h (own_signals n x ss)
  where
    by_test : (b : Bool) → (nat_eq s.timeline n && is_same s.given x) ≡ b → 0 < one_if b + count_signals n x ss → (0 < count_signals n x ss → OwnsIn ss n x) → OwnsIn (s ∷ ss) n x
    by_test true e k rest =
        let both = and_parts (nat_eq s.timeline n) (is_same s.given x) e in
        record { signal = s; its = inl refl; of_timeline = same_number s.timeline n both.0; of_given = same_given s.given x both.1 }
    by_test false e k rest =
        let r = rest (omega arith) in
        record { signal = r.signal; its = inr r.its; of_timeline = r.of_timeline; of_given = r.of_given }

record BatchOwns (bs : List Batch) (n : ℕ) (x : Given) : Type 0 where
  batch : Batch
  held : IsAmong batch bs
  owns : OwnsIn batch.signals n x

own_batches : (n : ℕ) (x : Given) (bs : List Batch) → 0 < count_batches n x bs → BatchOwns bs n x
own_batches n x [] h = absurd (omega arith)
own_batches n x (b ∷ bs) h = by_test (nat_lt 0 (count_signals n x b.signals)) refl (own_batches n x bs)
  where
    isnt : (a : ℕ) → nat_lt 0 a ≡ false → a ≡ 0
    isnt a e = grind (arith, nat_tests)

    by_test : (c : Bool) → nat_lt 0 (count_signals n x b.signals) ≡ c → (0 < count_batches n x bs → BatchOwns bs n x) → BatchOwns (b ∷ bs) n x
    by_test true e rest = record { batch = b; held = inl refl; owns = own_signals n x b.signals (below_of_test 0 (count_signals n x b.signals) e) }
    by_test false e rest =
        let none = isnt (count_signals n x b.signals) e in
        let r = rest (omega arith) in
        record { batch = r.batch; held = inr r.held; owns = r.owns }

record QueueOwns (qs : List Queue) (n : ℕ) (x : Given) : Type 0 where
  place : ℕ
  owns : BatchOwns (drop (queue_at qs place).released (queue_at qs place).batches) n x

own_queues : (n : ℕ) (x : Given) (qs : List Queue) → 0 < count_queues n x qs → QueueOwns qs n x
own_queues n x [] h = absurd (omega arith)
own_queues n x (q ∷ qs) h = by_test (nat_lt 0 (count_held n x q)) refl (own_queues n x qs)
  where
    isnt : (a : ℕ) → nat_lt 0 a ≡ false → a ≡ 0
    isnt a e = grind (arith, nat_tests)

    by_test : (c : Bool) → nat_lt 0 (count_held n x q) ≡ c → (0 < count_queues n x qs → QueueOwns qs n x) → QueueOwns (q ∷ qs) n x
    by_test true e rest = record { place = 0; owns = own_batches n x (drop q.released q.batches) (below_of_test 0 (count_held n x q) e) }
    by_test false e rest =
        let none = isnt (count_held n x q) e in
        let r = rest (omega arith) in
        record { place = suc r.place; owns = r.owns }

-- what a batch is blocked by
pub not_yet_is : (f : Found) → is_not_yet f ≡ true → f ≡ found_as.NotYet
not_yet_is found_as.NotYet e = refl
not_yet_is found_as.Past e = absurd (cc)
not_yet_is (found_as.Pending x) e = absurd (cc)

record NotYetOf (ts : List Live) (ws : List Wait) : Type 0 where
  wait : Wait
  its : IsAmong wait ws
  stands : found_in ts wait.wanted ≡ found_as.NotYet

wait_found : (ts : List Live) (ws : List Wait) (w : Wanted) → first_not_yet ts ws ≡ Some w → NotYetOf ts ws
wait_found ts [] w e = absurd (cc)
wait_found ts (x ∷ xs) w e = by_test (is_not_yet (found_in ts x.wanted)) refl e (wait_found ts xs w)
  where
    by_test : (b : Bool) → is_not_yet (found_in ts x.wanted) ≡ b → or_later b x.wanted (first_not_yet ts xs) ≡ Some w → (first_not_yet ts xs ≡ Some w → NotYetOf ts xs) → NotYetOf ts (x ∷ xs)
    by_test true t q later = record { wait = x; its = inl refl; stands = not_yet_is (found_in ts x.wanted) t }
    by_test false t q later = let r = later q in record { wait = r.wait; its = inr r.its; stands = r.stands }

record BehindOf (ts : List Live) (ss : List Signal) : Type 0 where
  signal : Signal
  its : IsAmong signal ss
  stands : is_next ts signal ≡ false

behind_found : (ts : List Live) (ss : List Signal) (s : Signal) → first_behind ts ss ≡ Some s → BehindOf ts ss
behind_found ts [] s e = absurd (cc)
behind_found ts (x ∷ xs) s e = by_test (is_next ts x) refl e (behind_found ts xs s)
  where
    by_test : (b : Bool) → is_next ts x ≡ b → unless_next b x (first_behind ts xs) ≡ Some s → (first_behind ts xs ≡ Some s → BehindOf ts xs) → BehindOf ts (x ∷ xs)
    by_test true t q later = let r = later q in record { signal = r.signal; its = inr r.its; stands = r.stands }
    by_test false t q later = record { signal = x; its = inl refl; stands = t }

-- an operation that isn't next is behind a taken one of smaller value
first_left : (xs : List Given) (n : ℕ) → slice_get xs n ≡ first_of (drop n xs)
first_left [] zero = refl
first_left [] (suc n) = refl
first_left (x ∷ xs) zero = refl
first_left (x ∷ xs) (suc n) = first_left xs n

rises_left : (n p : ℕ) (ops : List Given) (x : Given) (rest : List Given) → RisesFrom p ops → drop n ops ≡ x ∷ rest → RisesFrom x.value rest
rises_left zero p ops x rest h e = (subst (RisesFrom p) e h).1
rises_left (suc n) p [] x rest h e = absurd (cc)
rises_left (suc n) p (y ∷ ys) x rest h e = rises_left n y.value ys x rest h.1 e

record Below (t : Live) (s : Given) : Type 0 where
  first : Given
  its : IsIn first (taken t)
  less : first.value < s.value

below : (t : Live) (s : Given) → KeepsLive t → IsIn s (taken t) → is_first (slice_get t.ops t.installed) s ≡ false → Below t s
below t s k i f = by_rest (drop t.installed t.ops) refl
  where
    by_place : (x : Given) (rest : List Given) → drop t.installed t.ops ≡ x ∷ rest → is_same x s ≡ false → IsIn s (x ∷ rest) → Below t s
    by_place x rest e differs (inl q) = true_false (is_same x s) (ap (λ (z : Given). is_same z s) q ∙ given_same s) differs
    by_place x rest e differs (inr j) = record {
      first = x;
      its = subst (IsIn x) (sym e) (inl refl);
      less = rises_in x.value rest s (rises_left t.installed t.payload t.ops x rest k.rising e) j;
    }

    by_rest : (left : List Given) → drop t.installed t.ops ≡ left → Below t s
    by_rest [] e = absurd (subst (IsIn s) e i)
    by_rest (x ∷ rest) e =
        let first : slice_get t.ops t.installed ≡ Some x = first_left t.ops t.installed ∙ ap first_of e in
        by_place x rest e (sym (ap (λ (o : Option Given). is_first o s) first) ∙ f) (subst (IsIn s) e i)

-- a signal of a held-back batch is taken
signal_among : (s : Signal) (ss : List Signal) → IsAmong s ss → 0 < count_signals s.timeline s.given ss
signal_among s [] i = absurd i
signal_among s (x ∷ xs) (inl e) =
    let one : one_if (is_signal s.timeline s.given x) ≡ 1 =
    ap (λ (y : Signal). one_if (is_signal s.timeline s.given y)) e ∙ (λ i. one_if (equal_true s.timeline s.timeline refl i && given_same s.given i)) in
    omega arith
signal_among s (x ∷ xs) (inr i) = let rest = signal_among s xs i in omega arith

held_first : (n : ℕ) (x : Given) (l : Layer) (q : ℕ) (b : Batch) → IsFirst l q b → count_signals n x b.signals ≤ count_held n x (queue_at l.queues q)
held_first n x l q b f = let all = ap (count_batches n x) f.first in omega arith

-- what a queue that isn't ready waits for
record Leads (l : Layer) (q : ℕ) : Type 0 where
  to : ℕ
  waits : WaitsFor l q to
  batch : Batch
  held : IsHeldBack l to batch

by_missing : (l : Layer) (q : ℕ) (b : Batch) → IsFirst l q b → NotYetOf l.timelines b.waits → IsMissing l ⊎ Leads l q
by_missing l q b f n = by_search (search_layer l n.wait.wanted)
  where
    awaits : Awaits l q n.wait.wanted
    awaits = record { batch = b; first = f; wait = n.wait; its = n.its; for_it = refl; stands = n.stands }

    by_search : (BringsAt l n.wait.wanted ⊎ ((r : ℕ) → Brings l r n.wait.wanted → ⊥)) → IsMissing l ⊎ Leads l q
    by_search (inl k) = inr (record { to = k.queue; waits = by_wait n.wait.wanted awaits k.brings; batch = k.brings.batch; held = k.brings.held })
    by_search (inr k) = inl (record { queue = q; wanted = n.wait.wanted; awaits = awaits; none = k })

not_first : (ts : List Live) (s : Signal) → s.timeline < length ts → is_next ts s ≡ false → is_first (slice_get (live_at ts s.timeline).ops (live_at ts s.timeline).installed) s.given ≡ false
not_first ts s l h =
    let first = is_first (slice_get (live_at ts s.timeline).ops (live_at ts s.timeline).installed) s.given in
    sym (ap (λ (b : Bool). if b then first else false) (below_test s.timeline (length ts) l)) ∙ h

by_behind : (l : Layer) (q : ℕ) (b : Batch) → Keeps l → IsFirst l q b → BehindOf l.timelines b.signals → Leads l q
by_behind l q b k f n =
    let s = n.signal in
    let m = s.timeline in
    let here = signal_among s b.signals n.its in
    let own = held_first m s.given l q b f in
    let most = count_at_most m s.given l.queues q in
    let tied = k.tied.tied m s.given in
    let there = some_in s.given (taken (live_at l.timelines m)) (omega arith) in
    let low = below (live_at l.timelines m) s.given (lived_keeps (live_at l.timelines m) (k.lived m)) there (not_first l.timelines s (taken_exists l.timelines m s.given there) n.stands) in
    let some = in_some low.first (taken (live_at l.timelines m)) low.its in
    let is = k.tied.tied m low.first in
    let owner = own_queues m low.first l.queues (omega arith) in
    let o = owner.owns.owns in
    let before : ComesBefore l owner.place s = record {
      batch = owner.owns.batch;
      held = owner.owns.held;
      signal = o.signal;
      its = o.its;
      of_timeline = o.of_timeline;
      less = subst (λ (x : Given). x.value < s.given.value) (sym o.of_given) low.less;
    } in
    record { to = owner.place; waits = by_signal s (record { batch = b; first = f; its = n.its }) before; batch = owner.owns.batch; held = owner.owns.held }

-- the first held-back batch of a queue that has one
first_of_queue : (l : Layer) (q : ℕ) (b : Batch) → IsHeldBack l q b → (c : Batch) × IsFirst l q c
first_of_queue l q b h = by_list (held_back_in l q) refl
  where
    by_list : (bs : List Batch) → held_back_in l q ≡ bs → (c : Batch) × IsFirst l q c
    by_list [] e = absurd (subst (IsAmong b) e h)
    by_list (c ∷ cs) e = (c, record { rest = cs; first = e })

pub get_first : (bs : List Batch) (n : ℕ) (b : Batch) (rest : List Batch) → drop n bs ≡ b ∷ rest → slice_get bs n ≡ Some b
get_first [] zero b rest e = absurd (cc)
get_first [] (suc n) b rest e = absurd (cc)
get_first (x ∷ xs) zero b rest e = let same : x ≡ b = cc in ap (λ (y : Batch). Some y) same
get_first (x ∷ xs) (suc n) b rest e = get_first xs n b rest e

queue_exists : (qs : List Queue) (q : ℕ) (b : Batch) → IsAmong b (drop (queue_at qs q).released (queue_at qs q).batches) → q < length qs
queue_exists [] q b h = absurd h
queue_exists (x ∷ xs) zero b h = omega arith
queue_exists (x ∷ xs) (suc q) b h = let rest = queue_exists xs q b h in omega arith

next_step : (l : Layer) (q : ℕ) (b : Batch) → Keeps l → IsStuck l → IsHeldBack l q b → IsMissing l ⊎ Leads l q
next_step l q b k stuck h =
    let exists = queue_exists l.queues q b h in
    let f = first_of_queue l q b h in
    let c = f.0 in
    let first : first_held_back (queue_at l.queues q) ≡ Some c = get_first (queue_at l.queues q).batches (queue_at l.queues q).released c f.1.rest f.1.first in
    let is : blocked_of l q ≡ batch_blocked l.timelines c =
    ap (λ (t : Bool). if t then blocked l.timelines (queue_at l.queues q) else Some blocked_as.NoQueue) (below_test q (length l.queues) exists)
    ∙ ap (blocked_first l.timelines) first in
    by_cause c f.1 (first_not_yet l.timelines c.waits) (first_behind l.timelines c.signals) refl refl (λ e. stuck q (is ∙ e))
  where
    by_cause : (c : Batch) → IsFirst l q c → (w : Option Wanted) (s : Option Signal) → first_not_yet l.timelines c.waits ≡ w → first_behind l.timelines c.signals ≡ s → (blocked_by (first_not_yet l.timelines c.waits) (first_behind l.timelines c.signals) ≡ None → ⊥) → IsMissing l ⊎ Leads l q
    by_cause c f (Some w) s e g n = by_missing l q c f (wait_found l.timelines c.waits w e)
    by_cause c f None (Some s) e g n = inr (by_behind l q c k f (behind_found l.timelines c.signals s g))
    by_cause c f None None e g n = absurd (n (λ i. blocked_by (e i) (g i)))

-- so many steps
record Went (l : Layer) (n : ℕ) : Type 0 where
  at : ℕ
  batch : Batch
  held : IsHeldBack l at batch
  before : List ℕ
  chain : IsChain l (at ∷ before)
  below : AreBelow (length l.queues) (at ∷ before)
  many : length before ≡ n

goes : (l : Layer) (q : ℕ) (b : Batch) (n : ℕ) → Keeps l → IsStuck l → IsHeldBack l q b → IsMissing l ⊎ Went l n
goes l q b zero k stuck h =
    inr (record { at = q; batch = b; held = h; before = []; chain = tt; below = (queue_exists l.queues q b h, tt); many = refl })
goes l q b (suc n) k stuck h = by_rest (goes l q b n k stuck h)
  where
    by_step : (w : Went l n) → (IsMissing l ⊎ Leads l w.at) → IsMissing l ⊎ Went l (suc n)
    by_step w (inl m) = inl m
    by_step w (inr s) = inr (record {
      at = s.to;
      batch = s.batch;
      held = s.held;
      before = w.at ∷ w.before;
      chain = (s.waits, w.chain);
      below = (queue_exists l.queues s.to s.batch s.held, w.below);
      many = ap suc w.many;
    })

    by_rest : (IsMissing l ⊎ Went l n) → IsMissing l ⊎ Went l (suc n)
    by_rest (inl m) = inl m
    by_rest (inr w) = by_step w (next_step l w.at w.batch k stuck w.held)

pub stuck_why : (l : Layer) (q : ℕ) (b : Batch) → Keeps l → IsStuck l → IsHeldBack l q b → IsMissing l ⊎ HasRing l
stuck_why l q b k stuck h = by_went (goes l q b (length l.queues) k stuck h)
  where
    by_went : (IsMissing l ⊎ Went l (length l.queues)) → IsMissing l ⊎ HasRing l
    by_went (inl m) = inl m
    by_went (inr w) =
        let many = w.many in
        inr (record { chain = w.at ∷ w.before; waits = w.chain; twice = some_twice (length l.queues) (w.at ∷ w.before) w.below (omega arith) })

-- what a held-back batch signals is taken, and isn't the first pending operation
among_held : (n : ℕ) (x : Given) (b : Batch) (bs : List Batch) → IsAmong b bs → count_signals n x b.signals ≤ count_batches n x bs
among_held n x b [] i = absurd i
among_held n x b (c ∷ cs) (inl e) = let same = ap (λ (y : Batch). count_signals n x y.signals) e in omega arith
among_held n x b (c ∷ cs) (inr i) = let rest = among_held n x b cs i in omega arith

pub held_taken_at : (l : Layer) (q : ℕ) (b : Batch) (s : Signal) → Keeps l → IsHeldBack l q b → IsAmong s b.signals → IsIn s.given (taken (live_at l.timelines s.timeline))
held_taken_at l q b s k h i =
    let m = s.timeline in
    let here = signal_among s b.signals i in
    let own = among_held m s.given b (held_back_in l q) h in
    let most = count_at_most m s.given l.queues q in
    let tied = k.tied.tied m s.given in
    some_in s.given (taken (live_at l.timelines m)) (omega arith)

first_low : (p n : ℕ) (ops : List Given) (x : Given) → RisesFrom p ops → first_of (take n ops) ≡ Some x → x.value ≤ last_value p (take n ops)
first_low p zero ops x h e = absurd (cc)
first_low p (suc n) [] x h e = absurd (cc)
first_low p (suc n) (y ∷ ys) x h e =
    let same : y ≡ x = cc in
    let value = ap (λ (z : Given). z.value) same in
    let low = last_above y.value n ys h.1 in
    omega arith

pub held_not_completed : (l : Layer) (q : ℕ) (b : Batch) (s : Signal) → Keeps l → IsHeldBack l q b → IsAmong s b.signals → completed_of l s.timeline ≡ Some s.given → ⊥
held_not_completed l q b s k h i e =
    let t = live_at l.timelines s.timeline in
    let keeps = lived_keeps t (k.lived s.timeline) in
    let there = held_taken_at l q b s k h i in
    let high = rises_in (pending_value t) (taken t) s.given (rises_drop t.payload t.installed t.ops keeps.rising) there in
    let low = first_low t.payload t.installed t.ops s.given keeps.rising e in
    omega arith
