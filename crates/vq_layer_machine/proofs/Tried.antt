-- Batches that are taken back: their signals of binary semaphores are counted by the layer, and not by the script.
use Rattle.std.proofs.Common.{◌≡◌, ◌⊎◌, ℕ, zero, suc, ◌-◌, ◌<◌, ◌≤◌, Bool, true, false, List, [], ◌∷◌, ◌++◌, length, map, take, drop, set, get_or, get_or-set_same, None, Some, inl, inr, refl, sym, ap, ◌∙◌, subst, arith}
use Rattle.std.specs.Prelude.{nat_eq, nat_lt, ◌&&◌, if◌then◌else◌}
use Rattle.std.proofs.lemmas.Bool.{cases_eq, and_parts}
use Rattle.std.proofs.lemmas.List.{length-set}
use Rattle.std.proofs.Math.Seq.{drop-nil}
use Rattle.vq_model.specs.declared.script.Script.{Script}
use Rattle.vq_model.specs.Signals.{is_timeline_at}
use Rattle.vq_live.specs.Live.{Live}
use Rattle.vq_layer.specs.declared.answers.Wanted.{Wanted}
use Rattle.vq_layer.specs.declared.answers.Signal.{Signal}
use Rattle.vq_layer.specs.declared.answers.Kind.{Kind}
use Rattle.vq_layer.specs.declared.answers.Kind.TheVariants.{Closed, Timeline, Binary}
use Rattle.vq_layer.specs.Layer.{Batch, kind_at, no_batch}
use Rattle.vq_layer.specs.Names.{is_named, last_number, next_number, signals_name, signal_named, signal_value, is_last_signal, first_used_signal, with_signal, without_signal, kinds_unsignaled}
use Rattle.vq_layer.specs.Takes.{take_in, signals_all}
use Rattle.vq_layer.proofs.Cited.{same_number, other_number, equal_true, read_set}
use Rattle.vq_layer_laws.specs.Tied.{SignalApart, BatchesApart}
use Rattle.vq_layer_laws.proofs.Cited.{apart_append}
use Rattle.vq_layer_machine.specs.Tales.{Work, Scene, tried_in, signals_some}
use Rattle.vq_layer_machine.proofs.Counted.{counted_before}
use Rattle.vq_layer_machine.proofs.Layers.{AreNamed, asked_of, signal_for}
use Rattle.vq_layer_machine.proofs.Standing.{KindStands, HasRoom, bare, AllAt, next_is, room_waited}
use Rattle.vq_layer_machine.proofs.Ties.{IsOpen}

-- a signal of a number with a value, among signals and among those of batches
abbrev pub Carries : ℕ → ℕ → List Signal → Type 0
Carries n v [] = ⊥
Carries n v (s ∷ ss) = ((s.timeline ≡ n) × (s.given.value ≡ v)) ⊎ Carries n v ss

abbrev pub SomeCarries : ℕ → ℕ → List Batch → Type 0
SomeCarries n v [] = ⊥
SomeCarries n v (b ∷ bs) = Carries n v b.signals ⊎ SomeCarries n v bs

pub carries_name : (n v : ℕ) (ss : List Signal) → Carries n v ss → signals_name n ss ≡ true
carries_name n v [] c = absurd c
carries_name n v (s ∷ ss) (inl e) = ap (λ (b : Bool). if b then true else signals_name n ss) (equal_true s.timeline n e.0)
carries_name n v (s ∷ ss) (inr c) = by_test (nat_eq s.timeline n) (carries_name n v ss c)
  where
    by_test : (b : Bool) → signals_name n ss ≡ true → (if b then true else signals_name n ss) ≡ true
    by_test true h = refl
    by_test false h = h

pub some_name : (n v : ℕ) (bs : List Batch) → SomeCarries n v bs → signals_some n bs ≡ true
some_name n v [] c = absurd c
some_name n v (b ∷ bs) (inl c) = ap (λ (t : Bool). if t then true else signals_some n bs) (carries_name n v b.signals c)
some_name n v (b ∷ bs) (inr c) = by_test (signals_name n b.signals) (some_name n v bs c)
  where
    by_test : (t : Bool) → signals_some n bs ≡ true → (if t then true else signals_some n bs) ≡ true
    by_test true h = refl
    by_test false h = h

pub carries_left : (n v : ℕ) (bs : List Batch) (b : Batch) → SomeCarries n v bs → SomeCarries n v (bs ++ b ∷ [])
carries_left n v [] b c = absurd c
carries_left n v (x ∷ xs) b (inl c) = inl c
carries_left n v (x ∷ xs) b (inr c) = inr (carries_left n v xs b c)

pub carries_last : (n v : ℕ) (bs : List Batch) (b : Batch) → Carries n v b.signals → SomeCarries n v (bs ++ b ∷ [])
carries_last n v [] b c = inl c
carries_last n v (x ∷ xs) b c = inr (carries_last n v xs b c)

pub carries_cases : (n v : ℕ) (bs : List Batch) (b : Batch) → SomeCarries n v (bs ++ b ∷ []) → SomeCarries n v bs ⊎ Carries n v b.signals
carries_cases n v [] b (inl c) = inr c
carries_cases n v [] b (inr c) = absurd c
carries_cases n v (x ∷ xs) b (inl c) = inl (inl c)
carries_cases n v (x ∷ xs) b (inr c) = elim (carries_cases n v xs b c) [ inl d ↦ inl (inr d) | inr d ↦ inr d ]

pub apart_left : (bs : List Batch) (b : Batch) → BatchesApart (bs ++ b ∷ []) → BatchesApart bs × SignalApart b.signals
apart_left [] b a = (tt, a.0)
apart_left (x ∷ xs) b a = let rest = apart_left xs b a.1 in ((a.0, rest.0), rest.1)

-- what batches signal is open, where all that they name is
pub carried_at : (work : Work) (P : ℕ → Type 0) (n v : ℕ) (k : ℕ) (bs : List Batch) → AreNamed P (map (asked_of work) bs) → SomeCarries n v (drop k bs) → P n
carried_at work P n v zero [] a c = absurd c
carried_at work P n v (suc k) [] a c = absurd c
carried_at work P n v zero (b ∷ bs) a (inl c) = among b.signals a.0.1 c
  where
    among : (ss : List Signal) → AllAt P (map signal_for ss) → Carries n v ss → P n
    among [] h d = absurd d
    among (s ∷ ss) h (inl e) = subst P e.0 h.0
    among (s ∷ ss) h (inr d) = among ss h.1 d
carried_at work P n v zero (b ∷ bs) a (inr c) = carried_at work P n v zero bs a.1 c
carried_at work P n v (suc k) (b ∷ bs) a c = carried_at work P n v k bs a.1 c

-- the values that these have of a number
abbrev AllOf : ℕ → ℕ → List Wanted → Type 0
AllOf n u [] = Unit {0}
AllOf n u (w ∷ ws) = (w.timeline ≡ n → w.value ≡ u) × AllOf n u ws

named_values : (ks : List Kind) (n k t : ℕ) (ws : List Wanted) → kind_at ks n ≡ Binary k t → AllOf n (next_number k) (map (signal_named ks) ws)
named_values ks n k t [] e = tt
named_values ks n k t (w ∷ ws) e =
    ((λ q. ap (λ (c : Kind). signal_value c w.value) (ap (kind_at ks) q ∙ e)), named_values ks n k t ws e)

-- what the signals that a batch takes carry
taken_value : (ts : List Live) (ws : List Wanted) (n u v : ℕ) → AllOf n u ws → Carries n v (signals_all ts ws) → u ≡ v
taken_value ts [] n u v a c = absurd c
taken_value ts (w ∷ ws) n u v a (inl e) = sym (a.0 e.0) ∙ e.1
taken_value ts (w ∷ ws) n u v a (inr c) = taken_value (take_in ts w) ws n u v a.1 c

taken_named : (ts : List Live) (ws : List Wanted) (n v : ℕ) → Carries n v (signals_all ts ws) → is_named n ws ≡ true
taken_named ts [] n v c = absurd c
taken_named ts (w ∷ ws) n v (inl e) = ap (λ (b : Bool). if b then true else is_named n ws) (equal_true w.timeline n e.0)
taken_named ts (w ∷ ws) n v (inr c) = by_test (nat_eq w.timeline n) (taken_named (take_in ts w) ws n v c)
  where
    by_test : (b : Bool) → is_named n ws ≡ true → (if b then true else is_named n ws) ≡ true
    by_test true h = refl
    by_test false h = h

taken_carries : (ts : List Live) (ws : List Wanted) (n u : ℕ) → AllOf n u ws → is_named n ws ≡ true → Carries n u (signals_all ts ws)
taken_carries ts [] n u a h = absurd (cc)
taken_carries ts (w ∷ ws) n u a h = by_test (nat_eq w.timeline n) refl h (taken_carries (take_in ts w) ws n u a.1)
  where
    by_test : (b : Bool) → nat_eq w.timeline n ≡ b → (if b then true else is_named n ws) ≡ true → (is_named n ws ≡ true → Carries n u (signals_all (take_in ts w) ws)) → Carries n u (signals_all ts (w ∷ ws))
    by_test true e k r = let same = same_number w.timeline n e in inl (same, a.0 same)
    by_test false e k r = inr (r k)

-- What a number stands for

-- how many signals are counted
abbrev pub numbered : Kind → ℕ
numbered Closed = 0
numbered Timeline = 0
numbered (Binary k t) = k

pub numbered_bare : (k l : Kind) → bare k ≡ bare l → numbered k ≡ numbered l
numbered_bare k l e = sym (own k) ∙ ap numbered e ∙ own l
  where
    own : (c : Kind) → numbered (bare c) ≡ numbered c
    own Closed = refl
    own Timeline = refl
    own (Binary n t) = refl

-- as KindStands has it, but that more signals may be counted than the script has
abbrev pub KindNear : Script → ℕ → ℕ → Kind → Type 0
KindNear s j n Closed = ⊥
KindNear s j n Timeline = is_timeline_at s n ≡ true
KindNear s j n (Binary k taken) = (is_timeline_at s n ≡ false) × ((counted_before s n j ≤ k) × (k ≤ last_number))

pub near_bare : (s : Script) (j n : ℕ) (k l : Kind) → bare k ≡ bare l → KindNear s j n k → KindNear s j n l
near_bare s j n Closed l e h = absurd h
near_bare s j n Timeline Closed e h = absurd (cc)
near_bare s j n Timeline Timeline e h = h
near_bare s j n Timeline (Binary k t) e h = absurd (cc)
near_bare s j n (Binary k t) Closed e h = absurd (cc)
near_bare s j n (Binary k t) Timeline e h = absurd (cc)
near_bare s j n (Binary k t) (Binary l u) e h =
    let same : k ≡ l = cc in
    subst (λ (m : ℕ). (is_timeline_at s n ≡ false) × ((counted_before s n j ≤ m) × (m ≤ last_number))) same h

pub near_same : (s : Script) (i j n : ℕ) (k : Kind) → counted_before s n j ≡ counted_before s n i → KindNear s i n k → KindNear s j n k
near_same s i j n Closed c h = h
near_same s i j n Timeline c h = h
near_same s i j n (Binary k t) c h = let low = h.1.0 in (h.0, (omega arith, h.1.1))

pub near_stands : (s : Script) (j n : ℕ) (k : Kind) → KindStands s j n k → KindNear s j n k
near_stands s j n Closed h = h
near_stands s j n Timeline h = h
near_stands s j n (Binary k t) h = let same = h.1.0 in (h.0, (omega arith, h.1.1))

pub stands_near : (s : Script) (j n : ℕ) (k : Kind) → KindNear s j n k → (is_timeline_at s n ≡ false → numbered k ≤ counted_before s n j) → KindStands s j n k
stands_near s j n Closed h f = h
stands_near s j n Timeline h f = h
stands_near s j n (Binary k t) h f =
    let low = h.1.0 in
    let high = f h.0 in
    (h.0, (let same : k ≡ counted_before s n j = omega arith in same, h.1.1))

pub record IsBinary (k : Kind) : Type 0 where
  pub signals : ℕ
  pub taken : ℕ
  pub is : k ≡ Binary signals taken

pub near_binary : (s : Script) (j n : ℕ) (k : Kind) → KindNear s j n k → is_timeline_at s n ≡ false → IsBinary k
near_binary s j n Closed h b = absurd h
near_binary s j n Timeline h b = absurd (let both : true ≡ false = sym h ∙ b in cc)
near_binary s j n (Binary k t) h b = record { signals = k; taken = t; is = refl }

pub near_low : (s : Script) (j n : ℕ) (k : Kind) → KindNear s j n k → is_timeline_at s n ≡ false → counted_before s n j ≤ numbered k
near_low s j n Closed h b = absurd h
near_low s j n Timeline h b = absurd (let both : true ≡ false = sym h ∙ b in cc)
near_low s j n (Binary k t) h b = h.1.0

pub near_most : (s : Script) (j n : ℕ) (k : Kind) → KindNear s j n k → numbered k ≤ last_number
near_most s j n Closed h = absurd h
near_most s j n Timeline h = omega arith
near_most s j n (Binary k t) h = h.1.1

pub numbered_low : (s : Script) (j n : ℕ) (k : Kind) → KindStands s j n k → numbered k ≤ counted_before s n j
numbered_low s j n Closed h = absurd h
numbered_low s j n Timeline h = omega arith
numbered_low s j n (Binary k t) h = let same = h.1.0 in omega arith

pub numbered_signal : (c : Kind) (x : ℕ) → bare c ≡ Binary x 0 → numbered (with_signal c) ≡ next_number x
numbered_signal Closed x e = absurd (cc)
numbered_signal Timeline x e = absurd (cc)
numbered_signal (Binary y u) x e = let same : y ≡ x = cc in ap next_number same

-- a signal more, and one less
near_signal : (s : Script) (j n : ℕ) (k : Kind) → HasRoom k → KindNear s j n k → KindNear s j n (with_signal k)
near_signal s j n Closed r h = absurd h
near_signal s j n Timeline r h = h
near_signal s j n (Binary k t) r h =
    let next = next_is k h.1.1 r in
    let value = next.0 in
    let few = next.1 in
    let low = h.1.0 in
    (h.0, ((let l : counted_before s n j ≤ next_number k = omega arith in l), (let u : next_number k ≤ last_number = omega arith in u)))

pub near_more : (s : Script) (j n : ℕ) (k l m : Kind) → bare k ≡ bare l → m ≡ with_signal l → HasRoom k → KindNear s j n k → KindNear s j n m
near_more s j n k l m e now r h =
    subst (KindNear s j n) (sym now) (near_signal s j n l (room_waited k l e r) (near_bare s j n k l e h))

pub near_less : (s : Script) (j n : ℕ) (k : Kind) → KindNear s j n k → ((x u : ℕ) → k ≡ Binary x u → is_timeline_at s n ≡ false → counted_before s n j < x) → KindNear s j n (without_signal k)
near_less s j n Closed h f = absurd h
near_less s j n Timeline h f = h
near_less s j n (Binary k t) h f =
    let low = f k t refl h.0 in
    let high = h.1.1 in
    (h.0, (omega arith, omega arith))

-- What is counted ahead of the script

pub record Carrier (sc : Scene) (n v : ℕ) : Type 0 where
  pub queue : ℕ
  pub there : SomeCarries n v (tried_in sc queue)

-- Of each binary semaphore the signals that the layer counts and the script doesn't are those of batches that are taken
-- back.
pub record Tries (s : Script) (sc : Scene) : Type 0 where
  pub ahead : (n r v : ℕ) → IsOpen sc.layer n → is_timeline_at s (sc.names n) ≡ false → SomeCarries n v (tried_in sc r) → counted_before s (sc.names n) sc.next.job < v
  pub carried : (n v : ℕ) → IsOpen sc.layer n → is_timeline_at s (sc.names n) ≡ false → counted_before s (sc.names n) sc.next.job < v → v ≤ numbered (kind_at sc.layer.kinds n) → Carrier sc n v
  pub apart : (r : ℕ) → BatchesApart (tried_in sc r)

-- what stays of a number, or of one that no such batch signals
pub record KeptNumber (s : Script) (sc to : Scene) (n : ℕ) : Type 0 where
  pub was : IsOpen sc.layer n
  pub binary : is_timeline_at s (sc.names n) ≡ false
  pub count : counted_before s (to.names n) to.next.job ≡ counted_before s (sc.names n) sc.next.job
  pub kind : numbered (kind_at to.layer.kinds n) ≡ numbered (kind_at sc.layer.kinds n)

pub record ClearNumber (s : Script) (sc to : Scene) (n : ℕ) : Type 0 where
  pub none : (r v : ℕ) → SomeCarries n v (tried_in sc r) → ⊥
  pub all : numbered (kind_at to.layer.kinds n) ≤ counted_before s (to.names n) to.next.job

pub tries_kept : (s : Script) (sc to : Scene) → Tries s sc → ((r : ℕ) → tried_in to r ≡ tried_in sc r) → ((n : ℕ) → IsOpen to.layer n → is_timeline_at s (to.names n) ≡ false → KeptNumber s sc to n ⊎ ClearNumber s sc to n) → Tries s to
tries_kept s sc to h same each = record {
  ahead = λ n r v o b c. ahead n r v (subst (SomeCarries n v) (same r) c) (each n o b);
  carried = λ n v o b low high. carried n v low high (each n o b);
  apart = λ r. subst BatchesApart (sym (same r)) (h.apart r);
}
  where
    ahead : (n r v : ℕ) → SomeCarries n v (tried_in sc r) → KeptNumber s sc to n ⊎ ClearNumber s sc to n → counted_before s (to.names n) to.next.job < v
    ahead n r v c (inl k) = let was = h.ahead n r v k.was k.binary c in let e = k.count in omega arith
    ahead n r v c (inr k) = absurd (k.none r v c)

    carried : (n v : ℕ) → counted_before s (to.names n) to.next.job < v → v ≤ numbered (kind_at to.layer.kinds n) → KeptNumber s sc to n ⊎ ClearNumber s sc to n → Carrier to n v
    carried n v low high (inl k) =
        let e = k.count in
        let f = k.kind in
        let was = h.carried n v k.was k.binary (omega arith) (omega arith) in
        record { queue = was.queue; there = subst (SomeCarries n v) (sym (same was.queue)) was.there }
    carried n v low high (inr k) = let all = k.all in absurd (omega arith)

-- a batch more that is taken back
pub tries_more : (s : Script) (sc to : Scene) (q : ℕ) (b : Batch) → Tries s sc → tried_in to q ≡ tried_in sc q ++ b ∷ [] → ((r : ℕ) → (r ≡ q → ⊥) → tried_in to r ≡ tried_in sc r) → SignalApart b.signals → ((n : ℕ) → IsOpen to.layer n → IsOpen sc.layer n) → ((n : ℕ) → to.names n ≡ sc.names n) → to.next.job ≡ sc.next.job → ((n v : ℕ) → IsOpen sc.layer n → is_timeline_at s (sc.names n) ≡ false → Carries n v b.signals → counted_before s (sc.names n) sc.next.job < v) → ((n v : ℕ) → IsOpen sc.layer n → is_timeline_at s (sc.names n) ≡ false → v ≤ numbered (kind_at to.layer.kinds n) → (v ≤ numbered (kind_at sc.layer.kinds n)) ⊎ Carries n v b.signals) → Tries s to
tries_more s sc to q b h here other apart still names job low high = record {
  ahead = λ n r v o t c. subst (λ (i : ℕ). counted_before s i to.next.job < v) (sym (names n)) (subst (λ (i : ℕ). counted_before s (sc.names n) i < v) (sym job) (ahead n r v (still n o) (subst (λ (i : ℕ). is_timeline_at s i ≡ false) (names n) t) (cases_eq r q) c));
  carried = λ n v o t l u. carried n v (still n o) (subst (λ (i : ℕ). is_timeline_at s i ≡ false) (names n) t) (subst (λ (i : ℕ). counted_before s (sc.names n) i < v) job (subst (λ (i : ℕ). counted_before s i to.next.job < v) (names n) l)) u;
  apart = λ r. aparts r (cases_eq r q);
}
  where
    aparts : (r : ℕ) → (r ≡ q) ⊎ (r ≡ q → ⊥) → BatchesApart (tried_in to r)
    aparts r (inl e) =
        subst (λ (i : ℕ). BatchesApart (tried_in to i)) (sym e) (subst BatchesApart (sym here) (apart_append (tried_in sc q) b (h.apart q) apart))
    aparts r (inr n) = subst BatchesApart (sym (other r n)) (h.apart r)

    ahead : (n r v : ℕ) → IsOpen sc.layer n → is_timeline_at s (sc.names n) ≡ false → (r ≡ q) ⊎ (r ≡ q → ⊥) → SomeCarries n v (tried_in to r) → counted_before s (sc.names n) sc.next.job < v
    ahead n r v o t (inl e) c =
        elim (carries_cases n v (tried_in sc q) b (subst (SomeCarries n v) (ap (tried_in to) e ∙ here) c)) [
          | inl d ↦ h.ahead n q v o t d
          | inr d ↦ low n v o t d
        ]
    ahead n r v o t (inr ne) c = h.ahead n r v o t (subst (SomeCarries n v) (other r ne) c)

    lifted : (n v : ℕ) → Carrier sc n v → Carrier to n v
    lifted n v c = by_queue (cases_eq c.queue q)
      where
        by_queue : (c.queue ≡ q) ⊎ (c.queue ≡ q → ⊥) → Carrier to n v
        by_queue (inl e) = record { queue = q; there = subst (SomeCarries n v) (sym here) (carries_left n v (tried_in sc q) b (subst (λ (i : ℕ). SomeCarries n v (tried_in sc i)) e c.there)) }
        by_queue (inr ne) = record { queue = c.queue; there = subst (SomeCarries n v) (sym (other c.queue ne)) c.there }

    carried : (n v : ℕ) → IsOpen sc.layer n → is_timeline_at s (sc.names n) ≡ false → counted_before s (sc.names n) sc.next.job < v → v ≤ numbered (kind_at to.layer.kinds n) → Carrier to n v
    carried n v o t l u = elim (high n v o t u) [
      | inl k ↦ lifted n v (h.carried n v o t l k)
      | inr c ↦ record { queue = q; there = subst (SomeCarries n v) (sym here) (carries_last n v (tried_in sc q) b c) }
    ]

-- and one less
pub tries_less : (s : Script) (sc to : Scene) (q : ℕ) (b : Batch) → Tries s sc → tried_in sc q ≡ tried_in to q ++ b ∷ [] → ((r : ℕ) → (r ≡ q → ⊥) → tried_in to r ≡ tried_in sc r) → ((n : ℕ) → IsOpen to.layer n → IsOpen sc.layer n) → ((n : ℕ) → to.names n ≡ sc.names n) → to.next.job ≡ sc.next.job → ((n v : ℕ) → IsOpen sc.layer n → is_timeline_at s (sc.names n) ≡ false → counted_before s (sc.names n) sc.next.job < v → v ≤ numbered (kind_at to.layer.kinds n) → (v ≤ numbered (kind_at sc.layer.kinds n)) × (Carries n v b.signals → ⊥)) → Tries s to
tries_less s sc to q b h here other still names job high = record {
  ahead = λ n r v o t c. subst (λ (i : ℕ). counted_before s i to.next.job < v) (sym (names n)) (subst (λ (i : ℕ). counted_before s (sc.names n) i < v) (sym job) (h.ahead n r v (still n o) (subst (λ (i : ℕ). is_timeline_at s i ≡ false) (names n) t) (before n v r (cases_eq r q) c)));
  carried = λ n v o t l u. carried n v (still n o) (subst (λ (i : ℕ). is_timeline_at s i ≡ false) (names n) t) (subst (λ (i : ℕ). counted_before s (sc.names n) i < v) job (subst (λ (i : ℕ). counted_before s i to.next.job < v) (names n) l)) u;
  apart = λ r. aparts r (cases_eq r q);
}
  where
    before : (n v r : ℕ) → (r ≡ q) ⊎ (r ≡ q → ⊥) → SomeCarries n v (tried_in to r) → SomeCarries n v (tried_in sc r)
    before n v r (inl e) c =
        subst (λ (i : ℕ). SomeCarries n v (tried_in sc i)) (sym e) (subst (SomeCarries n v) (sym here) (carries_left n v (tried_in to q) b (subst (λ (i : ℕ). SomeCarries n v (tried_in to i)) e c)))
    before n v r (inr ne) c = subst (SomeCarries n v) (other r ne) c

    aparts : (r : ℕ) → (r ≡ q) ⊎ (r ≡ q → ⊥) → BatchesApart (tried_in to r)
    aparts r (inl e) =
        subst (λ (i : ℕ). BatchesApart (tried_in to i)) (sym e) (apart_left (tried_in to q) b (subst BatchesApart here (h.apart q))).0
    aparts r (inr ne) = subst BatchesApart (sym (other r ne)) (h.apart r)

    carried : (n v : ℕ) → IsOpen sc.layer n → is_timeline_at s (sc.names n) ≡ false → counted_before s (sc.names n) sc.next.job < v → v ≤ numbered (kind_at to.layer.kinds n) → Carrier to n v
    carried n v o t l u =
        let both = high n v o t l u in
        let was = h.carried n v o t l both.0 in
        by_queue was (cases_eq was.queue q) both.1
      where
        by_queue : (c : Carrier sc n v) → (c.queue ≡ q) ⊎ (c.queue ≡ q → ⊥) → (Carries n v b.signals → ⊥) → Carrier to n v
        by_queue c (inl e) none = elim (carries_cases n v (tried_in to q) b (subst (SomeCarries n v) (ap (tried_in sc) e ∙ here) c.there)) [
          | inl d ↦ record { queue = q; there = d }
          | inr d ↦ absurd (none d)
        ]
        by_queue c (inr ne) none = record { queue = c.queue; there = subst (SomeCarries n v) (sym (other c.queue ne)) c.there }

-- Kinds without the signals of a batch

unsignaled_one : (ks : List Kind) (x : Signal) (n : ℕ) → (x.timeline ≡ n → ⊥) → kind_at (set ks x.timeline (without_signal (kind_at ks x.timeline))) n ≡ kind_at ks n
unsignaled_one ks x n ne =
    read_set (λ (k : Kind). k ≡ kind_at ks n) Closed ks x.timeline n (without_signal (kind_at ks x.timeline)) (λ e. absurd (ne e)) refl

pub unsignaled_other : (ks : List Kind) (ss : List Signal) (n : ℕ) → signals_name n ss ≡ false → kind_at (kinds_unsignaled ks ss) n ≡ kind_at ks n
unsignaled_other ks [] n h = refl
unsignaled_other ks (x ∷ ss) n h = by_test (nat_eq x.timeline n) refl h (unsignaled_other (set ks x.timeline (without_signal (kind_at ks x.timeline))) ss n)
  where
    by_test : (b : Bool) → nat_eq x.timeline n ≡ b → (if b then true else signals_name n ss) ≡ false → (signals_name n ss ≡ false → kind_at (kinds_unsignaled (set ks x.timeline (without_signal (kind_at ks x.timeline))) ss) n ≡ kind_at (set ks x.timeline (without_signal (kind_at ks x.timeline))) n) → kind_at (kinds_unsignaled (set ks x.timeline (without_signal (kind_at ks x.timeline))) ss) n ≡ kind_at ks n
    by_test true e k r = absurd (cc)
    by_test false e k r = r k ∙ unsignaled_one ks x n (other_number x.timeline n e)

pub unsignaled_here : (ks : List Kind) (ss : List Signal) (n : ℕ) → SignalApart ss → n < length ks → signals_name n ss ≡ true → kind_at (kinds_unsignaled ks ss) n ≡ without_signal (kind_at ks n)
unsignaled_here ks [] n a l h = absurd (cc)
unsignaled_here ks (x ∷ ss) n a l h =
    let size = length-set ks x.timeline (without_signal (kind_at ks x.timeline)) in
    by_test (nat_eq x.timeline n) refl h (unsignaled_here (set ks x.timeline (without_signal (kind_at ks x.timeline))) ss n a.1 (omega arith))
  where
    by_test : (b : Bool) → nat_eq x.timeline n ≡ b → (if b then true else signals_name n ss) ≡ true → (signals_name n ss ≡ true → kind_at (kinds_unsignaled (set ks x.timeline (without_signal (kind_at ks x.timeline))) ss) n ≡ without_signal (kind_at (set ks x.timeline (without_signal (kind_at ks x.timeline))) n)) → kind_at (kinds_unsignaled (set ks x.timeline (without_signal (kind_at ks x.timeline))) ss) n ≡ without_signal (kind_at ks n)
    by_test true e k r =
        let same = same_number x.timeline n e in
        unsignaled_other (set ks x.timeline (without_signal (kind_at ks x.timeline))) ss n (subst (λ (i : ℕ). signals_name i ss ≡ false) same a.0)
        ∙ subst (λ (i : ℕ). kind_at (set ks i (without_signal (kind_at ks i))) n ≡ without_signal (kind_at ks n)) (sym same) (get_or-set_same ks n (without_signal (kind_at ks n)) Closed l)
    by_test false e k r = r k ∙ ap without_signal (unsignaled_one ks x n (other_number x.timeline n e))

pub named_carries : (n : ℕ) (ss : List Signal) → signals_name n ss ≡ true → (v : ℕ) × Carries n v ss
named_carries n [] h = absurd (cc)
named_carries n (x ∷ ss) h = by_test (nat_eq x.timeline n) refl h (named_carries n ss)
  where
    by_test : (b : Bool) → nat_eq x.timeline n ≡ b → (if b then true else signals_name n ss) ≡ true → (signals_name n ss ≡ true → (v : ℕ) × Carries n v ss) → (v : ℕ) × Carries n v (x ∷ ss)
    by_test true e k r = (x.given.value, inl (same_number x.timeline n e, refl))
    by_test false e k r = let rest = r k in (rest.0, inr rest.1)

-- each signal that isn't used is the last of its semaphore
pub last_carried : (ks : List Kind) (ss : List Signal) (n v k t : ℕ) → first_used_signal ks ss ≡ None → kind_at ks n ≡ Binary k t → Carries n v ss → k ≡ v
last_carried ks [] n v k t h e c = absurd c
last_carried ks (x ∷ ss) n v k t h e c =
    by_test (is_last_signal (kind_at ks x.timeline) x.given.value) refl h c (λ f d. last_carried ks ss n v k t f e d)
  where
    by_test : (b : Bool) → is_last_signal (kind_at ks x.timeline) x.given.value ≡ b → (if b then first_used_signal ks ss else Some x.timeline) ≡ None → Carries n v (x ∷ ss) → (first_used_signal ks ss ≡ None → Carries n v ss → k ≡ v) → k ≡ v
    by_test true l g (inl d) r =
        let last : (nat_eq k x.given.value && nat_lt t x.given.value) ≡ true =
        sym (ap (λ (c : Kind). is_last_signal c x.given.value) (ap (kind_at ks) d.0 ∙ e)) ∙ l in
        same_number k x.given.value (and_parts (nat_eq k x.given.value) (nat_lt t x.given.value) last).0 ∙ d.1
    by_test true l g (inr d) r = r g d
    by_test false l g d r = absurd (cc)

-- a queue's batches behind those with places
tried_at : (p m : ℕ) (bs : List Batch) → length bs ≡ suc m → p ≤ m → drop p bs ≡ drop p (take m bs) ++ get_or bs m no_batch ∷ []
tried_at p m [] e l = absurd (omega arith)
tried_at zero zero (b ∷ []) e l = refl
tried_at zero zero (b ∷ c ∷ bs) e l = absurd (omega arith)
tried_at zero (suc m) (b ∷ bs) e l = ap (λ (xs : List Batch). b ∷ xs) (tried_at zero m bs (omega arith) (omega arith))
tried_at (suc p) zero (b ∷ bs) e l = absurd (omega arith)
tried_at (suc p) (suc m) (b ∷ bs) e l = tried_at p m bs (omega arith) (omega arith)

pub tried_last : (p : ℕ) (bs : List Batch) → p < length bs → drop p bs ≡ drop p (take (length bs - 1) bs) ++ get_or bs (length bs - 1) no_batch ∷ []
tried_last p bs l = tried_at p (length bs - 1) bs (omega arith) (omega arith)

pub drop_both : {X Y : Type 0} (xs : List X) (ys : List Y) → 0 < length xs → drop (length (drop 1 xs)) (drop 1 ys) ≡ drop (length xs) ys
drop_both [] ys l = absurd (omega arith)
drop_both (x ∷ xs) [] l = drop-nil (length xs) ∙ sym (drop-nil (suc (length xs)))
drop_both (x ∷ xs) (y ∷ ys) l = refl

-- A batch's signals of a binary semaphore are ahead of the script, and all that are counted then are carried.
pub made_ahead : (ts : List Live) (ks : List Kind) (ws : List Wanted) (n v k t : ℕ) → kind_at ks n ≡ Binary k t → Carries n v (signals_all ts (map (signal_named ks) ws)) → (next_number k ≡ v) × (is_named n (map (signal_named ks) ws) ≡ true)
made_ahead ts ks ws n v k t e c =
    (taken_value ts (map (signal_named ks) ws) n (next_number k) v (named_values ks n k t ws e) c, taken_named ts (map (signal_named ks) ws) n v c)

pub made_carries : (ts : List Live) (ks : List Kind) (ws : List Wanted) (n k t : ℕ) → kind_at ks n ≡ Binary k t → is_named n (map (signal_named ks) ws) ≡ true → Carries n (next_number k) (signals_all ts (map (signal_named ks) ws))
made_carries ts ks ws n k t e h = taken_carries ts (map (signal_named ks) ws) n (next_number k) (named_values ks n k t ws e) h
