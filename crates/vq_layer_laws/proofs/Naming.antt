-- What the call `stuck` names is what is missing.
use Rattle.std.proofs.Common.{◌≡◌, ℕ, zero, suc, ◌≤◌, Bool, true, false, List, [], ◌∷◌, drop, Option, None, Some, inl, inr, refl, sym, ◌∙◌, ap, subst}
use Rattle.std.specs.Prelude.{nat_eq, nat_le, not, ◌&&◌, if◌then◌else◌}
use Rattle.std.specs.List.{slice_get}
use Rattle.std.proofs.lemmas.Bool.{and_parts}
use Rattle.vq_ground.proofs.Tests.{at_most_test}
use Rattle.vq_live.specs.declared.answers.Found.TheVariants as found_as
use Rattle.vq_layer.specs.declared.answers.Wanted.{Wanted}
use Rattle.vq_layer.specs.declared.answers.Wait.{Wait}
use Rattle.vq_layer.specs.declared.answers.Signal.{Signal}
use Rattle.vq_layer.specs.Layer.{Layer, Batch, Queue, queue_at}
use Rattle.vq_layer.specs.Waits.{found_in, is_not_yet}
use Rattle.vq_layer.specs.Queues.{brings, signals_bring, batches_bring, queues_bring, is_missing, first_missing, missing_of, first_held_back}
use Rattle.vq_layer.specs.Calls.{stuck_of}
use Rattle.vq_layer.proofs.Cited.{same_number, equal_true}
use Rattle.vq_layer_laws.proofs.Waiting.{get_first, is_le, not_yet_is}
use Rattle.vq_layer_laws.specs.Stuck.{IsAmong, held_back_in, Brings, Awaits, IsMissing}

-- what is brought is seen
signals_seen : (w : Wanted) (s : Signal) (ss : List Signal) → IsAmong s ss → s.timeline ≡ w.timeline → w.value ≤ s.given.value → signals_bring w ss ≡ true
signals_seen w s [] i e l = absurd i
signals_seen w s (x ∷ xs) (inl q) e l =
    let timeline : nat_eq x.timeline w.timeline ≡ true = equal_true x.timeline w.timeline (ap (λ (y : Signal). y.timeline) q ∙ e) in
    let value : nat_le w.value x.given.value ≡ true = at_most_test w.value x.given.value (subst (λ (y : Signal). w.value ≤ y.given.value) (sym q) l) in
    λ i. if timeline i && value i then true else signals_bring w xs
signals_seen w s (x ∷ xs) (inr j) e l = by_test (brings w x) (signals_seen w s xs j e l)
  where
    by_test : (b : Bool) → signals_bring w xs ≡ true → (if b then true else signals_bring w xs) ≡ true
    by_test true h = refl
    by_test false h = h

batches_seen : (w : Wanted) (b : Batch) (bs : List Batch) → IsAmong b bs → signals_bring w b.signals ≡ true → batches_bring w bs ≡ true
batches_seen w b [] i e = absurd i
batches_seen w b (x ∷ xs) (inl q) e =
    ap (λ (c : Bool). if c then true else batches_bring w xs) (ap (λ (y : Batch). signals_bring w y.signals) q ∙ e)
batches_seen w b (x ∷ xs) (inr j) e = by_test (signals_bring w x.signals) (batches_seen w b xs j e)
  where
    by_test : (c : Bool) → batches_bring w xs ≡ true → (if c then true else batches_bring w xs) ≡ true
    by_test true h = refl
    by_test false h = h

queues_seen : (w : Wanted) (qs : List Queue) (r : ℕ) → batches_bring w (drop (queue_at qs r).released (queue_at qs r).batches) ≡ true → queues_bring w qs ≡ true
queues_seen w [] r e = e
queues_seen w (q ∷ qs) zero e = ap (λ (c : Bool). if c then true else queues_bring w qs) e
queues_seen w (q ∷ qs) (suc r) e = by_test (batches_bring w (drop q.released q.batches)) (queues_seen w qs r e)
  where
    by_test : (c : Bool) → queues_bring w qs ≡ true → (if c then true else queues_bring w qs) ≡ true
    by_test true h = refl
    by_test false h = h

brought_seen : (l : Layer) (r : ℕ) (w : Wanted) → Brings l r w → queues_bring w l.queues ≡ true
brought_seen l r w b = queues_seen w l.queues r (batches_seen w b.batch (held_back_in l r) b.held (signals_seen w b.signal b.batch.signals b.its b.of_timeline b.enough))

not_true : (b : Bool) → not b ≡ true → b ≡ true → ⊥
not_true true h e = absurd (cc)
not_true false h e = absurd (cc)

record MissingIn (l : Layer) (ws : List Wait) (w : Wanted) : Type 0 where
  wait : Wait
  its : IsAmong wait ws
  for_it : wait.wanted ≡ w
  missing : is_missing l.timelines l.queues w ≡ true

missing_in : (l : Layer) (ws : List Wait) (w : Wanted) → first_missing l.timelines l.queues ws ≡ Some w → MissingIn l ws w
missing_in l [] w e = absurd (cc)
missing_in l (x ∷ xs) w e = by_test (is_missing l.timelines l.queues x.wanted) refl e (missing_in l xs w)
  where
    by_test : (b : Bool) → is_missing l.timelines l.queues x.wanted ≡ b → (if b then Some x.wanted else first_missing l.timelines l.queues xs) ≡ Some w → (first_missing l.timelines l.queues xs ≡ Some w → MissingIn l xs w) → MissingIn l (x ∷ xs) w
    by_test true t q rest =
        let same : x.wanted ≡ w = cc in
        record { wait = x; its = inl refl; for_it = same; missing = ap (is_missing l.timelines l.queues) (sym same) ∙ t }
    by_test false t q rest = let r = rest q in record { wait = r.wait; its = inr r.its; for_it = r.for_it; missing = r.missing }

rest_of : (bs : List Batch) (n : ℕ) (b : Batch) → slice_get bs n ≡ Some b → (rest : List Batch) × (drop n bs ≡ b ∷ rest)
rest_of [] n b e = absurd (cc)
rest_of (x ∷ xs) zero b e = let same : x ≡ b = cc in (xs, ap (λ (y : Batch). y ∷ xs) same)
rest_of (x ∷ xs) (suc n) b e = rest_of xs n b e

pub names_missing : (l : Layer) (q : ℕ) (w : Wanted) → stuck_of l q ≡ Some w → Awaits l q w × ((r : ℕ) → Brings l r w → ⊥)
names_missing l q w e = by_first (first_held_back (queue_at l.queues q)) refl e
  where
    by_first : (o : Option Batch) → first_held_back (queue_at l.queues q) ≡ o → missing_of l.timelines l.queues o ≡ Some w → Awaits l q w × ((r : ℕ) → Brings l r w → ⊥)
    by_first None f h = absurd (cc)
    by_first (Some b) f h =
        let m = missing_in l b.waits w h in
        let rest = rest_of (queue_at l.queues q).batches (queue_at l.queues q).released b f in
        let both = and_parts (is_not_yet (found_in l.timelines w)) (not (queues_bring w l.queues)) m.missing in (
          record {
            batch = b;
            first = record { rest = rest.0; first = rest.1 };
            wait = m.wait;
            its = m.its;
            for_it = m.for_it;
            stands = not_yet_is (found_in l.timelines w) both.0;
          },
          λ r x. not_true (queues_bring w l.queues) both.1 (brought_seen l r w x),
        )

-- what is seen is brought
record SeenIn (w : Wanted) (ss : List Signal) : Type 0 where
  signal : Signal
  its : IsAmong signal ss
  of_timeline : signal.timeline ≡ w.timeline
  enough : w.value ≤ signal.given.value

signals_from : (w : Wanted) (ss : List Signal) → signals_bring w ss ≡ true → SeenIn w ss
signals_from w [] e = absurd (cc)
signals_from w (x ∷ xs) e = by_test (brings w x) refl e (signals_from w xs)
  where
    by_test : (b : Bool) → brings w x ≡ b → (if b then true else signals_bring w xs) ≡ true → (signals_bring w xs ≡ true → SeenIn w xs) → SeenIn w (x ∷ xs)
    by_test true t q rest =
        let both = and_parts (nat_eq x.timeline w.timeline) (nat_le w.value x.given.value) t in
        record { signal = x; its = inl refl; of_timeline = same_number x.timeline w.timeline both.0; enough = is_le w.value x.given.value both.1 }
    by_test false t q rest = let r = rest q in record { signal = r.signal; its = inr r.its; of_timeline = r.of_timeline; enough = r.enough }

record SeenOf (w : Wanted) (bs : List Batch) : Type 0 where
  batch : Batch
  held : IsAmong batch bs
  seen : SeenIn w batch.signals

batches_from : (w : Wanted) (bs : List Batch) → batches_bring w bs ≡ true → SeenOf w bs
batches_from w [] e = absurd (cc)
batches_from w (x ∷ xs) e = by_test (signals_bring w x.signals) refl e (batches_from w xs)
  where
    by_test : (b : Bool) → signals_bring w x.signals ≡ b → (if b then true else batches_bring w xs) ≡ true → (batches_bring w xs ≡ true → SeenOf w xs) → SeenOf w (x ∷ xs)
    by_test true t q rest = record { batch = x; held = inl refl; seen = signals_from w x.signals t }
    by_test false t q rest = let r = rest q in record { batch = r.batch; held = inr r.held; seen = r.seen }

record SeenAt (w : Wanted) (qs : List Queue) : Type 0 where
  place : ℕ
  seen : SeenOf w (drop (queue_at qs place).released (queue_at qs place).batches)

queues_from : (w : Wanted) (qs : List Queue) → queues_bring w qs ≡ true → SeenAt w qs
queues_from w [] e = absurd (cc)
queues_from w (q ∷ qs) e = by_test (batches_bring w (drop q.released q.batches)) refl e (queues_from w qs)
  where
    by_test : (b : Bool) → batches_bring w (drop q.released q.batches) ≡ b → (if b then true else queues_bring w qs) ≡ true → (queues_bring w qs ≡ true → SeenAt w qs) → SeenAt w (q ∷ qs)
    by_test true t r rest = record { place = 0; seen = batches_from w (drop q.released q.batches) t }
    by_test false t r rest = let s = rest r in record { place = suc s.place; seen = s.seen }

none_seen : (l : Layer) (w : Wanted) → ((r : ℕ) → Brings l r w → ⊥) → queues_bring w l.queues ≡ false
none_seen l w none = by_test (queues_bring w l.queues) refl
  where
    by_test : (b : Bool) → queues_bring w l.queues ≡ b → queues_bring w l.queues ≡ false
    by_test true e =
        let s = queues_from w l.queues e in
        let b = s.seen in
        let x = b.seen in
        absurd (none s.place (record { batch = b.batch; held = b.held; signal = x.signal; its = x.its; of_timeline = x.of_timeline; enough = x.enough }))
    by_test false e = e

some_missing : (l : Layer) (ws : List Wait) (x : Wait) → IsAmong x ws → is_missing l.timelines l.queues x.wanted ≡ true → (w : Wanted) × (first_missing l.timelines l.queues ws ≡ Some w)
some_missing l [] x i e = absurd i
some_missing l (y ∷ ys) x (inl q) e = (
  y.wanted,
  ap (λ (b : Bool). if b then Some y.wanted else first_missing l.timelines l.queues ys) (ap (λ (z : Wait). is_missing l.timelines l.queues z.wanted) q ∙ e),
)
some_missing l (y ∷ ys) x (inr j) e = by_test (is_missing l.timelines l.queues y.wanted) (some_missing l ys x j e)
  where
    by_test : (b : Bool) → ((w : Wanted) × (first_missing l.timelines l.queues ys ≡ Some w)) → (w : Wanted) × ((if b then Some y.wanted else first_missing l.timelines l.queues ys) ≡ Some w)
    by_test true r = (y.wanted, refl)
    by_test false r = r

pub missing_named : (l : Layer) (m : IsMissing l) → (w : Wanted) × (stuck_of l m.queue ≡ Some w)
missing_named l m =
    let a = m.awaits in
    let b = a.batch in
    let first : first_held_back (queue_at l.queues m.queue) ≡ Some b =
    get_first (queue_at l.queues m.queue).batches (queue_at l.queues m.queue).released b a.first.rest a.first.first in
    let stands : is_not_yet (found_in l.timelines m.wanted) ≡ true = ap is_not_yet a.stands in
    let missing : is_missing l.timelines l.queues m.wanted ≡ true = λ i. stands i && not (none_seen l m.wanted m.none i) in
    let some = some_missing l b.waits a.wait a.its (ap (is_missing l.timelines l.queues) a.for_it ∙ missing) in
    (some.0, ap (missing_of l.timelines l.queues) first ∙ some.1)
