-- The batches of a queue stay in the order of their submission; none is lost, and none stands twice.
use Rattle.std.proofs.Common.{◌≡◌, ℕ, zero, suc, ◌+◌, ◌-◌, ◌<◌, Bool, true, false, List, [], ◌∷◌, ◌++◌, length, map, take, drop, set, get_or, Option, Some, None, refl, sym, ◌∙◌, ap, arith, get_or-set_same, get_or-set_other}
use Rattle.std.specs.Prelude.{◌==◌, nat_eq, nat_lt, if◌then◌else◌}
use Rattle.std.specs.Option.{option_map_or}
use Rattle.std.proofs.lemmas.List.{append_assoc, map-append, map-set, set-get_or, length-append}
use Rattle.vq_ground.proofs.Tests.{below_of_test}
use Rattle.vq_live.specs.Live.{Live}
use Rattle.vq_layer.specs.declared.answers.Blocked.TheVariants as blocked_as
use Rattle.vq_layer.specs.declared.answers.TakeBackFault.TheVariants as take_back_as
use Rattle.vq_layer.specs.Layer.{Layer, Batch, Queue, queue_at, no_queue, no_batch}
use Rattle.vq_layer.specs.Names.{waits_named, signals_named}
use Rattle.vq_layer.specs.Queues.{next_batch, oldest, oldest_of, batch_released, after_release, after_finish, batch_made, with_batch, newest, newest_held_back, after_take_back, blocked}
use Rattle.vq_layer.specs.Calls.{blocked_of, take_back_fault, batch_take_back_fault, finish_from}
use Rattle.vq_layer.proofs.Cited.{same_number, other_number}
use Rattle.vq_layer_laws.proofs.Living.{submit_may}
use Rattle.vq_layer_laws.specs.Runs.{Call, opens, opens_binary, opens_queue, closes, submits, takes_back, releases, finishes, completes, sets, resets, refers_to, gives_back, after_call, AreCalls, after_calls}
use Rattle.vq_layer_laws.specs.Ledger.{tokens, tokens_in, without_last, if_its, listed, oldest_token, finished}

-- a queue after another or itself has changed
pub queue_same : (qs : List Queue) (n : ℕ) (q : Queue) → n < length qs → queue_at (set qs n q) n ≡ q
queue_same qs n q l = get_or-set_same qs n q no_queue l

pub queue_other : (qs : List Queue) (n m : ℕ) (q : Queue) → (m ≡ n → ⊥) → queue_at (set qs n q) m ≡ queue_at qs m
queue_other qs n m q ne = get_or-set_other qs n m q no_queue ne

-- a new queue has no batches
pub queue_more : (qs : List Queue) (m : ℕ) → queue_at (qs ++ no_queue ∷ []) m ≡ queue_at qs m
queue_more [] zero = refl
queue_more [] (suc m) = refl
queue_more (q ∷ qs) zero = refl
queue_more (q ∷ qs) (suc m) = queue_more qs m

-- queues that exist
pub oldest_exists : (qs : List Queue) (n : ℕ) (b : Batch) → oldest (queue_at qs n) ≡ Some b → n < length qs
oldest_exists [] n b e = absurd (cc)
oldest_exists (q ∷ qs) zero b e = omega arith
oldest_exists (q ∷ qs) (suc n) b e = let rest = oldest_exists qs n b e in omega arith

pub ready_exists : (l : Layer) (n : ℕ) → blocked_of l n ≡ None → n < length l.queues
ready_exists l n e = by_test (nat_lt n (length l.queues)) refl e
  where
    by_test : (b : Bool) → nat_lt n (length l.queues) ≡ b → (if b then blocked l.timelines (queue_at l.queues n) else Some blocked_as.NoQueue) ≡ None → n < length l.queues
    by_test true t q = below_of_test n (length l.queues) t
    by_test false t q = absurd (cc)

-- what a batch that may be taken back met
pub record MayTakeBack (l : Layer) (n : ℕ) : Type 0 where
  pub exists : n < length l.queues
  pub some : (queue_at l.queues n).released < length (queue_at l.queues n).batches
  pub unused : batch_take_back_fault l.kinds (Some (newest (queue_at l.queues n))) ≡ None

pub take_back_may : (l : Layer) (n : ℕ) → take_back_fault l n ≡ None → MayTakeBack l n
take_back_may l n e = by_test (nat_lt n (length l.queues)) refl e
  where
    q : Queue
    q = queue_at l.queues n

    by_held : (b : Bool) → nat_lt q.released (length q.batches) ≡ b → n < length l.queues → batch_take_back_fault l.kinds (if b then Some (newest q) else None) ≡ None → MayTakeBack l n
    by_held true t k u = record { exists = k; some = below_of_test q.released (length q.batches) t; unused = u }
    by_held false t k u = absurd (cc)

    by_test : (b : Bool) → nat_lt n (length l.queues) ≡ b → (if b then batch_take_back_fault l.kinds (newest_held_back q) else Some take_back_as.NoQueue) ≡ None → MayTakeBack l n
    by_test true t u = by_held (nat_lt q.released (length q.batches)) refl (below_of_test n (length l.queues) t) u
    by_test false t u = absurd (cc)

-- the tokens after each call
tokens_made : (q : Queue) (b : Batch) → tokens (with_batch q b).batches ≡ tokens q.batches ++ b.token ∷ []
tokens_made q b = map-append (λ (x : Batch). x.token) q.batches (b ∷ [])

tokens_released : (ts : List Live) (q : Queue) → tokens (after_release ts q).batches ≡ tokens q.batches
tokens_released ts q =
    let f : Batch → ℕ = λ b. b.token in
    map-set f q.batches q.released (batch_released ts (next_batch q))
    ∙ sym (map-set f q.batches q.released (next_batch q))
    ∙ ap (map f) (set-get_or q.batches q.released no_batch)

oldest_first : (released : ℕ) (bs : List Batch) (b : Batch) → oldest_of released bs ≡ Some b → tokens bs ≡ b.token ∷ tokens (drop 1 bs)
oldest_first released [] b e = absurd (cc)
oldest_first released (x ∷ xs) b e = by_test (released == 0) e
  where
    by_test : (t : Bool) → (if t then None else Some x) ≡ Some b → x.token ∷ tokens xs ≡ b.token ∷ tokens xs
    by_test true q = absurd (cc)
    by_test false q = let same : x ≡ b = cc in ap (λ (y : Batch). y.token ∷ tokens xs) same

tokens_finished : (q : Queue) (b : Batch) → oldest q ≡ Some b → tokens q.batches ≡ oldest_token q ∷ tokens (after_finish q).batches
tokens_finished q b e =
    let token : oldest_token q ≡ b.token = ap (λ (o : Option Batch). option_map_or (λ x. x.token) o 0) e in
    oldest_first q.released q.batches b e ∙ ap (λ (n : ℕ). n ∷ tokens (drop 1 q.batches)) (sym token)

tokens_count : (bs : List Batch) → length (tokens bs) ≡ length bs
tokens_count [] = refl
tokens_count (b ∷ bs) = ap suc (tokens_count bs)

tokens_take : (n : ℕ) (bs : List Batch) → tokens (take n bs) ≡ take n (tokens bs)
tokens_take zero bs = refl
tokens_take (suc n) [] = refl
tokens_take (suc n) (b ∷ bs) = ap (λ (xs : List ℕ). b.token ∷ xs) (tokens_take n bs)

tokens_back : (q : Queue) → tokens (after_take_back q).batches ≡ without_last (tokens q.batches)
tokens_back q =
    tokens_take (length q.batches - 1) q.batches ∙ ap (λ (n : ℕ). take (n - 1) (tokens q.batches)) (sym (tokens_count q.batches))

-- without the last of what stands behind others
last_behind : (xs ys : List ℕ) → 0 < length ys → without_last (xs ++ ys) ≡ xs ++ without_last ys
last_behind [] ys l = refl
last_behind (x ∷ xs) ys l =
    let more = length-append xs ys in
    let size : suc (length (xs ++ ys)) - 1 ≡ suc (length (xs ++ ys) - 1) = omega arith in
    ap (λ (n : ℕ). take n (x ∷ (xs ++ ys))) size ∙ ap (λ (zs : List ℕ). x ∷ zs) (last_behind xs ys l)

-- finished, then what is there, is what was submitted
module _ (q : ℕ) where
  stays : (f known : List ℕ) (l m : Layer) → f ++ tokens_in q l ≡ known → tokens_in q m ≡ tokens_in q l → f ++ tokens_in q m ≡ known
  stays f known l m h e = ap (λ (xs : List ℕ). f ++ xs) e ∙ h

  written : (l : Layer) (r : ℕ) (x : Queue) → (r ≡ q → ⊥) → tokens (queue_at (set l.queues r x) q).batches ≡ tokens_in q l
  written l r x ne = ap (λ (y : Queue). tokens y.batches) (queue_other l.queues r q x (λ e. ne (sym e)))

  at_it : (l : Layer) (r : ℕ) (x : Queue) → r ≡ q → r < length l.queues → tokens (queue_at (set l.queues r x) q).batches ≡ tokens x.batches
  at_it l r x e k =
      ap (λ (m : ℕ). tokens (queue_at (set l.queues r x) m).batches) (sym e) ∙ ap (λ (y : Queue). tokens y.batches) (queue_same l.queues r x k)

  submitted : (b : Bool) (f known : List ℕ) (l : Layer) (r : ℕ) (x : Batch) → nat_eq r q ≡ b → r < length l.queues → f ++ tokens_in q l ≡ known → f ++ tokens (queue_at (set l.queues r (with_batch (queue_at l.queues r) x)) q).batches ≡ if_its b (known ++ x.token ∷ []) known
  submitted true f known l r x t k h =
      let e = same_number r q t in
      ap (λ (xs : List ℕ). f ++ xs) (at_it l r (with_batch (queue_at l.queues r) x) e k ∙ tokens_made (queue_at l.queues r) x ∙ ap (λ (m : ℕ). tokens_in m l ++ x.token ∷ []) e)
      ∙ sym (append_assoc f (tokens_in q l) (x.token ∷ []))
      ∙ ap (λ (xs : List ℕ). xs ++ x.token ∷ []) h
  submitted false f known l r x t k h =
      ap (λ (xs : List ℕ). f ++ xs) (written l r (with_batch (queue_at l.queues r) x) (other_number r q t)) ∙ h

  taken_back : (b : Bool) (f known : List ℕ) (l : Layer) (r : ℕ) → nat_eq r q ≡ b → MayTakeBack l r → f ++ tokens_in q l ≡ known → f ++ tokens (queue_at (set l.queues r (after_take_back (queue_at l.queues r))) q).batches ≡ if_its b (without_last known) known
  taken_back true f known l r t m h =
      let e = same_number r q t in
      let count = tokens_count (queue_at l.queues r).batches in
      let size = ap (λ (n : ℕ). length (tokens_in n l)) e in
      let some = m.some in
      ap (λ (xs : List ℕ). f ++ xs) (at_it l r (after_take_back (queue_at l.queues r)) e m.exists ∙ tokens_back (queue_at l.queues r) ∙ ap (λ (n : ℕ). without_last (tokens_in n l)) e)
      ∙ sym (last_behind f (tokens_in q l) (omega arith))
      ∙ ap without_last h
  taken_back false f known l r t m h =
      ap (λ (xs : List ℕ). f ++ xs) (written l r (after_take_back (queue_at l.queues r)) (other_number r q t)) ∙ h

  released : (b : Bool) (l : Layer) (r : ℕ) → nat_eq r q ≡ b → r < length l.queues → tokens (queue_at (set l.queues r (after_release l.timelines (queue_at l.queues r))) q).batches ≡ tokens_in q l
  released true l r t k =
      let e = same_number r q t in
      at_it l r (after_release l.timelines (queue_at l.queues r)) e k ∙ tokens_released l.timelines (queue_at l.queues r) ∙ ap (λ (m : ℕ). tokens_in m l) e
  released false l r t k = written l r (after_release l.timelines (queue_at l.queues r)) (other_number r q t)

  done : (b : Bool) (f known : List ℕ) (l : Layer) (r : ℕ) (x : Batch) → nat_eq r q ≡ b → oldest (queue_at l.queues r) ≡ Some x → f ++ tokens_in q l ≡ known → if_its b (f ++ oldest_token (queue_at l.queues r) ∷ []) f ++ tokens (queue_at (set l.queues r (after_finish (queue_at l.queues r))) q).batches ≡ known
  done true f known l r x t o h =
      let e = same_number r q t in
      let token = oldest_token (queue_at l.queues r) in
      let now = at_it l r (after_finish (queue_at l.queues r)) e (oldest_exists l.queues r x o) in
      let was : tokens_in q l ≡ token ∷ tokens (after_finish (queue_at l.queues r)).batches = ap (λ (m : ℕ). tokens_in m l) (sym e) ∙ tokens_finished (queue_at l.queues r) x o in
      append_assoc f (token ∷ []) (tokens (queue_at (set l.queues r (after_finish (queue_at l.queues r))) q).batches)
      ∙ ap (λ (xs : List ℕ). f ++ token ∷ xs) now
      ∙ ap (λ (xs : List ℕ). f ++ xs) (sym was)
      ∙ h
  done false f known l r x t o h =
      ap (λ (xs : List ℕ). f ++ xs) (written l r (after_finish (queue_at l.queues r)) (other_number r q t)) ∙ h

  pub in_order : (f known : List ℕ) (l : Layer) (calls : List Call) → AreCalls l calls → f ++ tokens_in q l ≡ known → finished q f l calls ++ tokens_in q (after_calls l calls) ≡ listed q known calls
  in_order f known l [] r h = h
  in_order f known l (opens initial ∷ calls) r h = in_order f known (after_call l (opens initial)) calls r.1 h
  in_order f known l (opens_binary b ∷ calls) r h = in_order f known (after_call l (opens_binary b)) calls r.1 h
  in_order f known l (opens_queue ∷ calls) r h =
      in_order f known (after_call l opens_queue) calls r.1 (stays f known l (after_call l opens_queue) h (ap (λ (x : Queue). tokens x.batches) (queue_more l.queues q)))
  in_order f known l (closes n ∷ calls) r h = in_order f known (after_call l (closes n)) calls r.1 h
  in_order f known l (submits k token waits signals ∷ calls) r h =
      in_order f (if_its (nat_eq k q) (known ++ token ∷ []) known) (after_call l (submits k token waits signals)) calls r.1
      (submitted (nat_eq k q) f known l k (batch_made l.timelines token (waits_named l.kinds waits) (signals_named l.kinds signals)) refl
      (below_of_test k (length l.queues) (submit_may l k waits signals r.0).queue) h)
  in_order f known l (takes_back k ∷ calls) r h =
      in_order f (if_its (nat_eq k q) (without_last known) known) (after_call l (takes_back k)) calls r.1
      (taken_back (nat_eq k q) f known l k refl (take_back_may l k r.0) h)
  in_order f known l (releases k ∷ calls) r h =
      in_order f known (after_call l (releases k)) calls r.1
      (stays f known l (after_call l (releases k)) h (released (nat_eq k q) l k refl (ready_exists l k r.0)))
  in_order f known l (finishes k ∷ calls) r h =
      let now : tokens_in q (after_call l (finishes k)) ≡ tokens (queue_at (set l.queues k (after_finish (queue_at l.queues k))) q).batches =
      ap (λ (o : Option Batch). tokens_in q (finish_from l k o)) r.0.first in
      in_order (if_its (nat_eq k q) (f ++ oldest_token (queue_at l.queues k) ∷ []) f) known (after_call l (finishes k)) calls r.1
      (ap (λ (xs : List ℕ). if_its (nat_eq k q) (f ++ oldest_token (queue_at l.queues k) ∷ []) f ++ xs) now
      ∙ done (nat_eq k q) f known l k r.0.batch refl r.0.first h)
  in_order f known l (completes n ∷ calls) r h = in_order f known (after_call l (completes n)) calls r.1 h
  in_order f known l (sets n value ∷ calls) r h = in_order f known (after_call l (sets n value)) calls r.1 h
  in_order f known l (resets n ∷ calls) r h = in_order f known (after_call l (resets n)) calls r.1 h
  in_order f known l (refers_to n p ∷ calls) r h = in_order f known (after_call l (refers_to n p)) calls r.1 h
  in_order f known l (gives_back n p ∷ calls) r h = in_order f known (after_call l (gives_back n p)) calls r.1 h
