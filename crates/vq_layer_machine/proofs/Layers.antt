-- What the calls of a layer of timelines alone leave of its payloads, its kinds, and what its batches wait for and
-- signal.
use Rattle.std.proofs.Common.{◌≡◌, ◌⊎◌, ℕ, zero, suc, ◌+◌, ◌-◌, ◌<◌, ◌≤◌, get_or, get_or-set_same, get_or-set_other, Bool, true, false, List, [], ◌∷◌, ◌++◌, length, map, take, drop, set, Option, None, Some, inl, inr, refl, sym, ◌∙◌, ap, subst, arith}
use Rattle.std.specs.Prelude.{◌==◌, nat_eq, if◌then◌else◌}
use Rattle.std.proofs.lemmas.List.{map-append, map-set, take-map, set-get_or, get_or_past, get_or_append_left, length-append}
use Rattle.std.proofs.lemmas.Bool.{cases_lt, cases_eq}
use Rattle.vq_ground.proofs.Tests.{below_test, not_below_test}
use Rattle.vq_live.specs.declared.answers.InstallFault.{InstallFault}
use Rattle.vq_live.specs.declared.answers.CancelFault.{CancelFault}
use Rattle.vq_live.specs.declared.answers.Given.{Given}
use Rattle.vq_live.specs.Live.{Live, KeepsLive, RisesFrom, opened, slot_at}
use Rattle.vq_live.specs.Calls.{after_take, cancel_fault, install_fault, after_refer, first_of, first_pending, complete_from, after_complete}
use Rattle.vq_layer.specs.declared.answers.Wanted.{Wanted}
use Rattle.vq_layer.specs.declared.answers.Wait.{Wait}
use Rattle.vq_layer.specs.declared.answers.Signal.{Signal}
use Rattle.vq_layer.specs.declared.answers.Kind.{Kind}
use Rattle.vq_layer.specs.Layer.{Layer, Batch, Queue, live_at, queue_at, no_batch}
use Rattle.vq_layer.specs.Names.{waits_named, signals_named, signal_named, waits_name, signals_name, is_closed, free_from}
use Rattle.vq_layer.specs.Takes.{take_in, taken_all, signals_all}
use Rattle.vq_layer.specs.Installs.{install_unless, install_in, installed_all, cancel_unless, cancelled_all}
use Rattle.vq_layer.specs.Waits.{held_at, hold_point, hold_in, held_all, waits_all, unref_unless, return_point, return_in, returned_all}
use Rattle.vq_layer.specs.Queues.{batch_made, with_batch, batch_released, timelines_released, next_batch, after_release, oldest_of, after_finish, after_take_back, names, some_names, first_naming}
use Rattle.vq_layer.specs.Calls.{put_at, close_fault, oldest_in, finish_from, after_submit, after_take_back_of, after_release_of, after_finish_of}
use Rattle.vq_layer.proofs.Cited.{read_set, other_number}
use Rattle.vq_layer_laws.proofs.Cited.{close_unnamed, either_false, queue_same, queue_other, oldest_exists}
use Rattle.std.proofs.Math.Seq.{get_or-append_seam}
use Rattle.vq_model.specs.declared.plan.Need.{Need}
use Rattle.vq_model.specs.Machine.{put}
use Rattle.vq_model.proofs.Puts.{put_there}
use Rattle.vq_layer_machine.specs.Tales.{Work, count_commands, count_batches}
use Rattle.vq_layer_machine.specs.Scripts.{renamed}
use Rattle.vq_layer_machine.proofs.Standing.{AllAt, all_weaker_at}
use Rattle.vq_layer_machine.proofs.Jobs.{Asked, need_for, rename_need, rename_asked}

-- Payloads

abbrev pub SamePayloads : List Live → List Live → Type 0
SamePayloads ts us = (n : ℕ) → (live_at us n).payload ≡ (live_at ts n).payload

payload_set : (ts us : List Live) (n : ℕ) (t : Live) → SamePayloads ts us → t.payload ≡ (live_at ts n).payload → SamePayloads ts (set us n t)
payload_set ts us n t h e m =
    read_set (λ (u : Live). u.payload ≡ (live_at ts m).payload) (opened 0) us n m t (λ q. e ∙ ap (λ (k : ℕ). (live_at ts k).payload) q) (h m)

pub payload_written : (ts : List Live) (n : ℕ) (t : Live) → t.payload ≡ (live_at ts n).payload → SamePayloads ts (set ts n t)
payload_written ts n t e = payload_set ts ts n t (λ m. refl) e

payload_taken : (ts us : List Live) (ws : List Wanted) → SamePayloads ts us → SamePayloads ts (taken_all us ws)
payload_taken ts us [] h = h
payload_taken ts us (w ∷ ws) h =
    payload_taken ts (take_in us w) ws (payload_set ts us w.timeline (after_take (live_at us w.timeline) w.value) h (h w.timeline))

payload_installed : (ts us : List Live) (ss : List Signal) → SamePayloads ts us → SamePayloads ts (installed_all us ss)
payload_installed ts us [] h = h
payload_installed ts us (s ∷ ss) h =
    payload_installed ts (install_in us s) ss
    (payload_set ts us s.timeline (install_unless (live_at us s.timeline) (install_fault (live_at us s.timeline) s.given)) h
    (by_fault (install_fault (live_at us s.timeline) s.given) ∙ h s.timeline))
  where
    by_fault : (o : Option InstallFault) → (install_unless (live_at us s.timeline) o).payload ≡ (live_at us s.timeline).payload
    by_fault None = refl
    by_fault (Some fault) = refl

payload_held : (ts us : List Live) (ws : List Wait) → SamePayloads ts us → SamePayloads ts (held_all us ws)
payload_held ts us [] h = h
payload_held ts us (w ∷ ws) h = payload_held ts (hold_in us w.wanted) ws (by_point (held_at us w.wanted))
  where
    by_point : (o : Option ℕ) → SamePayloads ts (hold_point us w.wanted.timeline o)
    by_point None = h
    by_point (Some p) =
        payload_set ts us w.wanted.timeline (after_refer (live_at us w.wanted.timeline) p) h (h w.wanted.timeline)

payload_cancelled : (ts us : List Live) (ss : List Signal) → SamePayloads ts us → SamePayloads ts (cancelled_all us ss)
payload_cancelled ts us [] h = h
payload_cancelled ts us (s ∷ ss) h = one_more (payload_cancelled ts us ss h)
  where
    by_fault : (o : Option CancelFault) → (cancel_unless (live_at (cancelled_all us ss) s.timeline) s.given o).payload ≡ (live_at (cancelled_all us ss) s.timeline).payload
    by_fault None = refl
    by_fault (Some fault) = refl

    one_more : SamePayloads ts (cancelled_all us ss) → SamePayloads ts (cancelled_all us (s ∷ ss))
    one_more rest =
        payload_set ts (cancelled_all us ss) s.timeline (cancel_unless (live_at (cancelled_all us ss) s.timeline) s.given (cancel_fault (live_at (cancelled_all us ss) s.timeline) s.given)) rest
        (by_fault (cancel_fault (live_at (cancelled_all us ss) s.timeline) s.given) ∙ rest s.timeline)

pub payload_taken_back : (ts : List Live) (ss : List Signal) → SamePayloads ts (cancelled_all ts ss)
payload_taken_back ts ss = payload_cancelled ts ts ss (λ n. refl)

payload_returned : (ts us : List Live) (ws : List Wait) → SamePayloads ts us → SamePayloads ts (returned_all us ws)
payload_returned ts us [] h = h
payload_returned ts us (w ∷ ws) h = payload_returned ts (return_in us w) ws (by_point w.held)
  where
    by_refs : (p : ℕ) (b : Bool) → (unref_unless (live_at us w.wanted.timeline) p b).payload ≡ (live_at us w.wanted.timeline).payload
    by_refs p true = refl
    by_refs p false = refl

    by_point : (o : Option ℕ) → SamePayloads ts (return_point us w.wanted.timeline o)
    by_point None = h
    by_point (Some p) =
        let none = nat_eq (slot_at (live_at us w.wanted.timeline).slots p).refs 0 in
        payload_set ts us w.wanted.timeline (unref_unless (live_at us w.wanted.timeline) p none) h (by_refs p none ∙ h w.wanted.timeline)

pub payload_submitted : (ts : List Live) (ws : List Wanted) → SamePayloads ts (taken_all ts ws)
payload_submitted ts ws = payload_taken ts ts ws (λ n. refl)

pub payload_released : (ts : List Live) (b : Batch) → SamePayloads ts (timelines_released ts b)
payload_released ts b = payload_installed ts (held_all ts b.waits) b.signals (payload_held ts ts b.waits (λ n. refl))

pub payload_finished : (ts : List Live) (ws : List Wait) → SamePayloads ts (returned_all ts ws)
payload_finished ts ws = payload_returned ts ts ws (λ n. refl)

-- the value of a pending operation is above the payload
pub pending_above : (t : Live) (x : Given) → KeepsLive t → first_pending t ≡ Some x → t.payload < x.value
pending_above t x k e = by_ops t.installed t.ops k.rising e
  where
    by_ops : (n : ℕ) (ops : List Given) → RisesFrom t.payload ops → first_of (take n ops) ≡ Some x → t.payload < x.value
    by_ops zero ops r c = absurd (cc)
    by_ops (suc n) [] r c = absurd (cc)
    by_ops (suc n) (y ∷ ys) r c = let same : y ≡ x = cc in subst (λ (z : Given). t.payload < z.value) same r.0

pub completed_payload : (t : Live) (x : Given) → first_pending t ≡ Some x → (after_complete t).payload ≡ x.value
completed_payload t x e = ap (λ (o : Option Given). (complete_from t o).payload) e

pub put_end : {X : Type 0} (xs : List X) (n : ℕ) (x : X) → n ≡ length xs → put_at xs n x ≡ xs ++ x ∷ []
put_end xs n x e = ap (λ (b : Bool). if b then set xs n x else xs ++ x ∷ []) (not_below_test n (length xs) (omega arith))

-- What batches wait for, do and signal

abbrev pub signal_for : Signal → Wanted
signal_for s = record { timeline = s.timeline; value = s.given.value }

signals_made : (ts : List Live) (ws : List Wanted) → map signal_for (signals_all ts ws) ≡ ws
signals_made ts [] = refl
signals_made ts (w ∷ ws) = ap (λ (xs : List Wanted). w ∷ xs) (signals_made (take_in ts w) ws)

waits_kept : (ts : List Live) (ws : List Wait) → map (λ w. need_for w.wanted) (waits_all ts ws) ≡ map (λ w. need_for w.wanted) ws
waits_kept ts [] = refl
waits_kept ts (w ∷ ws) = ap (λ xs. need_for w.wanted ∷ xs) (waits_kept (hold_in ts w.wanted) ws)

module _ (work : Work) where
  abbrev pub asked_of : Batch → Asked
  asked_of b =
      record {
        waits = map (λ x. need_for x.wanted) b.waits;
        commands = count_commands work b.token;
        signals = map signal_for b.signals;
      }

  abbrev pub asked_in : ℕ → Layer → List Asked
  asked_in q l = map asked_of (queue_at l.queues q).batches

  abbrev pub asked_for : List Kind → ℕ → List Wanted → List Wanted → Asked
  asked_for ks token waits signals =
      record {
        waits = map (λ x. need_for x.wanted) (waits_named ks waits);
        commands = count_commands work token;
        signals = signals_named ks signals;
      }

  asked_made : (ts : List Live) (ks : List Kind) (token : ℕ) (waits signals : List Wanted) → asked_of (batch_made ts token (waits_named ks waits) (signals_named ks signals)) ≡ asked_for ks token waits signals
  asked_made ts ks token waits signals =
      let s = signals_made ts (signals_named ks signals) in
      λ i. record { waits = map (λ x. need_for x.wanted) (waits_named ks waits); commands = count_commands work token; signals = s i }

  asked_kept : (ts : List Live) (b : Batch) → asked_of (batch_released ts b) ≡ asked_of b
  asked_kept ts b = let w = waits_kept ts b.waits in λ i. record { waits = w i; commands = count_commands work b.token; signals = map signal_for b.signals }

  asked_after_release : (ts : List Live) (q : Queue) → map asked_of (after_release ts q).batches ≡ map asked_of q.batches
  asked_after_release ts q =
      map-set asked_of q.batches q.released (batch_released ts (next_batch q))
      ∙ ap (set (map asked_of q.batches) q.released) (asked_kept ts (next_batch q))
      ∙ sym (map-set asked_of q.batches q.released (next_batch q))
      ∙ ap (map asked_of) (set-get_or q.batches q.released no_batch)

  pub asked_released : (l : Layer) (r q : ℕ) → r < length l.queues → asked_in q (after_release_of l r) ≡ asked_in q l
  asked_released l r q k = elim (cases_eq q r) [
    | inl e ↦
        ap (λ (m : ℕ). asked_in m (after_release_of l r)) e
        ∙ ap (λ (x : Queue). map asked_of x.batches) (queue_same l.queues r (after_release l.timelines (queue_at l.queues r)) k)
        ∙ asked_after_release l.timelines (queue_at l.queues r)
        ∙ ap (λ (m : ℕ). asked_in m l) (sym e)
    | inr n ↦ ap (λ (x : Queue). map asked_of x.batches) (queue_other l.queues r q (after_release l.timelines (queue_at l.queues r)) n)
  ]

  pub asked_submitted : (l : Layer) (r token : ℕ) (waits signals : List Wanted) → r < length l.queues → asked_in r (after_submit l r token waits signals) ≡ asked_in r l ++ asked_for l.kinds token waits signals ∷ []
  asked_submitted l r token waits signals k =
      let b = batch_made l.timelines token (waits_named l.kinds waits) (signals_named l.kinds signals) in
      ap (λ (x : Queue). map asked_of x.batches) (queue_same l.queues r (with_batch (queue_at l.queues r) b) k)
      ∙ map-append asked_of (queue_at l.queues r).batches (b ∷ [])
      ∙ ap (λ (x : Asked). asked_in r l ++ x ∷ []) (asked_made l.timelines l.kinds token waits signals)

  pub asked_unsubmitted : (l : Layer) (r q token : ℕ) (waits signals : List Wanted) → (q ≡ r → ⊥) → asked_in q (after_submit l r token waits signals) ≡ asked_in q l
  asked_unsubmitted l r q token waits signals n =
      ap (λ (x : Queue). map asked_of x.batches) (queue_other l.queues r q (with_batch (queue_at l.queues r) (batch_made l.timelines token (waits_named l.kinds waits) (signals_named l.kinds signals))) n)

  -- without the newest
  pub asked_taken_back : (l : Layer) (r : ℕ) (b : Batch) → r < length l.queues → asked_in r (after_take_back_of l r b) ≡ take (count_batches l r - 1) (asked_in r l)
  asked_taken_back l r b k =
      ap (λ (x : Queue). map asked_of x.batches) (queue_same l.queues r (after_take_back (queue_at l.queues r)) k)
      ∙ sym (take-map asked_of (count_batches l r - 1) (queue_at l.queues r).batches)

  pub asked_left : (l : Layer) (r q : ℕ) (b : Batch) → (q ≡ r → ⊥) → asked_in q (after_take_back_of l r b) ≡ asked_in q l
  asked_left l r q b n = ap (λ (x : Queue). map asked_of x.batches) (queue_other l.queues r q (after_take_back (queue_at l.queues r)) n)

  -- the oldest batch stands in front
  asked_oldest : (released : ℕ) (bs : List Batch) (b : Batch) → oldest_of released bs ≡ Some b → map asked_of bs ≡ asked_of b ∷ map asked_of (drop 1 bs)
  asked_oldest released [] b e = absurd (cc)
  asked_oldest released (x ∷ xs) b e = by_test (released == 0) e
    where
      by_test : (t : Bool) → (if t then None else Some x) ≡ Some b → asked_of x ∷ map asked_of xs ≡ asked_of b ∷ map asked_of xs
      by_test true q = absurd (cc)
      by_test false q = let same : x ≡ b = cc in ap (λ (y : Batch). asked_of y ∷ map asked_of xs) same

  pub asked_first : (l : Layer) (q : ℕ) (b : Batch) → oldest_in l q ≡ Some b → asked_in q l ≡ asked_of b ∷ map asked_of (drop 1 (queue_at l.queues q).batches)
  asked_first l q b e = asked_oldest (queue_at l.queues q).released (queue_at l.queues q).batches b e

  pub asked_finished : (l : Layer) (q : ℕ) (b : Batch) → oldest_in l q ≡ Some b → asked_in q (after_finish_of l q) ≡ map asked_of (drop 1 (queue_at l.queues q).batches)
  asked_finished l q b e =
      ap (λ (o : Option Batch). asked_in q (finish_from l q o)) e
      ∙ ap (λ (x : Queue). map asked_of x.batches) (queue_same l.queues q (after_finish (queue_at l.queues q)) (oldest_exists l.queues q b e))

  pub asked_unfinished : (l : Layer) (r q : ℕ) (b : Batch) → oldest_in l r ≡ Some b → (q ≡ r → ⊥) → asked_in q (after_finish_of l r) ≡ asked_in q l
  asked_unfinished l r q b e n =
      ap (λ (o : Option Batch). asked_in q (finish_from l r o)) e
      ∙ ap (λ (x : Queue). map asked_of x.batches) (queue_other l.queues r q (after_finish (queue_at l.queues r)) n)

-- an oldest batch is released
pub oldest_some : (released : ℕ) (bs : List Batch) (b : Batch) → oldest_of released bs ≡ Some b → 0 < released
oldest_some zero [] b e = absurd (cc)
oldest_some zero (x ∷ xs) b e = absurd (cc)
oldest_some (suc n) bs b e = omega arith

-- What is put at a number

pub put_read : {X : Type 0} (xs : List X) (n : ℕ) (x d : X) → n ≤ length xs → get_or (put_at xs n x) n d ≡ x
put_read {X} xs n x d l = elim (cases_lt n (length xs)) [
  | inl m ↦
      ap (λ (b : Bool). get_or (if b then set xs n x else xs ++ x ∷ []) n d) (below_test n (length xs) m) ∙ get_or-set_same xs n x d m
  | inr m ↦
      let same : length xs ≡ n = omega arith in
      ap (λ (ys : List X). get_or ys n d) (put_end xs n x (sym same)) ∙ subst (λ (k : ℕ). get_or (xs ++ x ∷ []) k d ≡ x) same (get_or-append_seam xs x [] d)
]

pub put_other : {X : Type 0} (xs : List X) (n m : ℕ) (x d : X) → n ≤ length xs → (m ≡ n → ⊥) → get_or (put_at xs n x) m d ≡ get_or xs m d
put_other {X} xs n m x d l ne = elim (cases_lt n (length xs)) [
  | inl k ↦
      ap (λ (b : Bool). get_or (if b then set xs n x else xs ++ x ∷ []) m d) (below_test n (length xs) k) ∙ get_or-set_other xs n m x d ne
  | inr k ↦
      let same : length xs ≡ n = omega arith in
      ap (λ (ys : List X). get_or ys m d) (put_end xs n x (sym same)) ∙ behind (cases_lt m (length xs)) (λ e. ne (e ∙ same))
]
  where
    behind : (m < length xs) ⊎ (length xs ≤ m) → (m ≡ length xs → ⊥) → get_or (xs ++ x ∷ []) m d ≡ get_or xs m d
    behind (inl k) e = get_or_append_left xs (x ∷ []) d m k
    behind (inr k) e =
        let size = length-append xs (x ∷ []) in
        get_or_past (xs ++ x ∷ []) m d (past (cases_eq m (length xs)) e k size) ∙ sym (get_or_past xs m d k)
      where
        past : (m ≡ length xs) ⊎ (m ≡ length xs → ⊥) → (m ≡ length xs → ⊥) → length xs ≤ m → length (xs ++ x ∷ []) ≡ length xs + 1 → length (xs ++ x ∷ []) ≤ m
        past (inl q) e k size = absurd (e q)
        past (inr q) e k size = grind arith

-- Numbers that are named

abbrev pub NeedsAt : (ℕ → Type 0) → List Need → Type 0
NeedsAt P [] = Unit {0}
NeedsAt P (n ∷ ns) = P n.chain × NeedsAt P ns

abbrev pub AreNamed : (ℕ → Type 0) → List Asked → Type 0
AreNamed P [] = Unit {0}
AreNamed P (a ∷ bs) = (NeedsAt P a.waits × AllAt P a.signals) × AreNamed P bs

needs_weaker : (P Q : ℕ → Type 0) (ns : List Need) → ((n : ℕ) → P n → Q n) → NeedsAt P ns → NeedsAt Q ns
needs_weaker P Q [] f a = tt
needs_weaker P Q (n ∷ ns) f a = (f n.chain a.0, needs_weaker P Q ns f a.1)

pub named_weaker : (P Q : ℕ → Type 0) (bs : List Asked) → ((n : ℕ) → P n → Q n) → AreNamed P bs → AreNamed Q bs
named_weaker P Q [] f a = tt
named_weaker P Q (b ∷ bs) f a =
    ((needs_weaker P Q b.waits f a.0.0, all_weaker_at P Q b.signals f a.0.1), named_weaker P Q bs f a.1)

needs_pair : (P Q : ℕ → Type 0) (ns : List Need) → NeedsAt P ns → NeedsAt Q ns → NeedsAt (λ n. P n × Q n) ns
needs_pair P Q [] a b = tt
needs_pair P Q (n ∷ ns) a b = ((a.0, b.0), needs_pair P Q ns a.1 b.1)

all_pair : (P Q : ℕ → Type 0) (ws : List Wanted) → AllAt P ws → AllAt Q ws → AllAt (λ n. P n × Q n) ws
all_pair P Q [] a b = tt
all_pair P Q (w ∷ ws) a b = ((a.0, b.0), all_pair P Q ws a.1 b.1)

pub named_pair : (P Q : ℕ → Type 0) (bs : List Asked) → AreNamed P bs → AreNamed Q bs → AreNamed (λ n. P n × Q n) bs
named_pair P Q [] a b = tt
named_pair P Q (x ∷ xs) a b =
    ((needs_pair P Q x.waits a.0.0 b.0.0, all_pair P Q x.signals a.0.1 b.0.1), named_pair P Q xs a.1 b.1)

pub named_fewer : (P : ℕ → Type 0) (n : ℕ) (bs : List Asked) → AreNamed P bs → AreNamed P (take n bs)
named_fewer P zero bs a = tt
named_fewer P (suc n) [] a = tt
named_fewer P (suc n) (b ∷ bs) a = (a.0, named_fewer P n bs a.1)

pub named_push : (P : ℕ → Type 0) (bs : List Asked) (b : Asked) → AreNamed P bs → NeedsAt P b.waits → AllAt P b.signals → AreNamed P (bs ++ b ∷ [])
named_push P [] b a w s = ((w, s), tt)
named_push P (x ∷ xs) b a w s = (a.0, named_push P xs b a.1 w s)

pub waits_named_at : (P : ℕ → Type 0) (ks : List Kind) (ws : List Wanted) → AllAt P ws → NeedsAt P (map (λ x. need_for x.wanted) (waits_named ks ws))
waits_named_at P ks [] a = tt
waits_named_at P ks (w ∷ ws) a = (a.0, waits_named_at P ks ws a.1)

pub signals_named_at : (P : ℕ → Type 0) (ks : List Kind) (ws : List Wanted) → AllAt P ws → AllAt P (map (signal_named ks) ws)
signals_named_at P ks [] a = tt
signals_named_at P ks (w ∷ ws) a = (a.0, signals_named_at P ks ws a.1)

-- another name for a number that isn't named
needs_same : (names : ℕ → ℕ) (n x : ℕ) (ns : List Need) → NeedsAt (λ m. m ≡ n → ⊥) ns → map (rename_need (put names n x)) ns ≡ map (rename_need names) ns
needs_same names n x [] a = refl
needs_same names n x (y ∷ ys) a =
    let first = put_there names n x y.chain a.0 in
    let rest = needs_same names n x ys a.1 in
    λ i. record { line = y.line; chain = first i; value = y.value; from = y.from } ∷ rest i

wanted_same : (names : ℕ → ℕ) (n x : ℕ) (ws : List Wanted) → AllAt (λ m. m ≡ n → ⊥) ws → map (renamed (put names n x)) ws ≡ map (renamed names) ws
wanted_same names n x [] a = refl
wanted_same names n x (w ∷ ws) a =
    let first = put_there names n x w.timeline a.0 in
    let rest = wanted_same names n x ws a.1 in
    λ i. record { timeline = first i; value = w.value } ∷ rest i

pub asked_same : (names : ℕ → ℕ) (n x : ℕ) (bs : List Asked) → AreNamed (λ m. m ≡ n → ⊥) bs → map (rename_asked (put names n x)) bs ≡ map (rename_asked names) bs
asked_same names n x [] a = refl
asked_same names n x (b ∷ bs) a =
    let w = needs_same names n x b.waits a.0.0 in
    let s = wanted_same names n x b.signals a.0.1 in
    let rest = asked_same names n x bs a.1 in
    λ i. record { waits = w i; commands = b.commands; signals = s i } ∷ rest i

-- what no unfinished batch names
unnamed_waits : (n : ℕ) (ws : List Wait) → waits_name n ws ≡ false → NeedsAt (λ m. m ≡ n → ⊥) (map (λ x. need_for x.wanted) ws)
unnamed_waits n [] h = tt
unnamed_waits n (w ∷ ws) h =
    let both = either_false (nat_eq w.wanted.timeline n) (waits_name n ws) h in
    (other_number w.wanted.timeline n both.0, unnamed_waits n ws both.1)

unnamed_signals : (n : ℕ) (ss : List Signal) → signals_name n ss ≡ false → AllAt (λ m. m ≡ n → ⊥) (map signal_for ss)
unnamed_signals n [] h = tt
unnamed_signals n (s ∷ ss) h =
    let both = either_false (nat_eq s.timeline n) (signals_name n ss) h in
    (other_number s.timeline n both.0, unnamed_signals n ss both.1)

asked_unnamed : (work : Work) (n : ℕ) (bs : List Batch) → some_names n bs ≡ false → AreNamed (λ m. m ≡ n → ⊥) (map (asked_of work) bs)
asked_unnamed work n [] h = tt
asked_unnamed work n (b ∷ bs) h =
    let both = either_false (names n b) (some_names n bs) h in
    let parts = either_false (waits_name n b.waits) (signals_name n b.signals) both.0 in
    ((unnamed_waits n b.waits parts.0, unnamed_signals n b.signals parts.1), asked_unnamed work n bs both.1)

queues_unnamed : (n i : ℕ) (qs : List Queue) → first_naming n i qs ≡ None → (q : ℕ) → some_names n (queue_at qs q).batches ≡ false
queues_unnamed n i [] h q = refl
queues_unnamed n i (x ∷ xs) h q = by_test (some_names n x.batches) refl h (queues_unnamed n (i + 1) xs) q
  where
    by_test : (b : Bool) → some_names n x.batches ≡ b → (if b then Some i else first_naming n (i + 1) xs) ≡ None → (first_naming n (i + 1) xs ≡ None → (r : ℕ) → some_names n (queue_at xs r).batches ≡ false) → (r : ℕ) → some_names n (queue_at (x ∷ xs) r).batches ≡ false
    by_test true e k rest r = absurd (cc)
    by_test false e k rest zero = e
    by_test false e k rest (suc r) = rest k r

pub closed_unnamed : (work : Work) (l : Layer) (n : ℕ) → close_fault l n ≡ None → (q : ℕ) → AreNamed (λ m. m ≡ n → ⊥) (asked_in work q l)
closed_unnamed work l n h q =
    asked_unnamed work n (queue_at l.queues q).batches (queues_unnamed n 0 l.queues (close_unnamed l n h) q)

-- the number that is given next is within, or the first one behind
pub free_within : (a : ℕ) (ks : List Kind) → free_from a ks ≤ a + length ks
free_within a [] = omega arith
free_within a (k ∷ ks) = by_test (is_closed k) (free_within (a + 1) ks)
  where
    by_test : (b : Bool) → free_from (a + 1) ks ≤ (a + 1) + length ks → (if b then a else free_from (a + 1) ks) ≤ a + suc (length ks)
    by_test true h = omega arith
    by_test false h = omega arith
