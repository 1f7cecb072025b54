-- A wait from read to read.
use Rattle.std.proofs.Common.{◌≡◌, ℕ, ◌+◌, ◌<◌, ◌≤◌, List, [], ◌∷◌, length, Option, Some, None, IfSome, MatchOption, refl, sym, ap, subst, arith, inl, inr}
use Rattle.std.specs.List.{slice_get}
use Rattle.std.proofs.lemmas.Bool.{cases_lt}
use Rattle.futures.specs.declared.task.context.Context.{Context}
use Rattle.futures.specs.declared.task.Poll.{Poll}
use Rattle.futures.specs.Task.{Keeps, IsArmed, Hears, Covers}
use Rattle.vq_model.specs.Plan.{Plan}
use Rattle.vq_core_laws.proofs.Cited.{facts}
use Rattle.vq_board_laws.specs.declared.view.Fact.{Fact}
use Rattle.vq_board_laws.specs.declared.view.View.{View}
use Rattle.vq_board_laws.specs.Knowledge.{IsKnownValue}
use Rattle.vq_board_laws.specs.Reached.{IsPayload}
use Rattle.vq_board.specs.declared.parts.Pass.{Pass}
use Rattle.vq_board.specs.Named.{view, IsOf}
use Rattle.vq_payload.specs.Learning.{HasLearned}
use Rattle.vq_board_laws.specs.Learning.{Grows, Learns}
use Rattle.vq_payload.specs.Reading.{HasRead}
use Rattle.vq_poll.specs.declared.bell.Bell.{Bell}
use Rattle.vq_poll.specs.declared.pairs.Met.{Met}
use Rattle.vq_poll.specs.declared.pairs.Pair.{Pair}
use Rattle.vq_poll.specs.declared.pairs.WaitMode.TheVariants.{All, Any}
use Rattle.vq_poll.specs.declared.wait.Wait.{Wait}
use Rattle.vq_poll.specs.Hearing.{HearsBell}
use Rattle.vq_poll.specs.Looks.{Look, Reads, AreHeard}
use Rattle.vq_poll.specs.Missing.{KnowsPair, KnowsFirst, KnowsMet, IsReached, IsMissed, AreMissed}
use Rattle.vq_poll.specs.Waiting.{CanWait, IsAnswered, HasPolled, WaitsFor, plan_in, pairs_in}
use Rattle.vq_poll.specs.Watching.{IsWatched}
use Rattle.vq_poll.proofs.Learned.{value_grown}
use Rattle.vq_poll.specs.Seeing.{Looked, HasValue}
use Rattle.vq_poll.proofs.Polled.{heard_still, read_known, read_missed}

-- What is known

pub pairs_grown : (p : Plan) (known more : List Fact) (ps : List Pair) (n : ℕ) → Grows known more → KnowsFirst p known ps n → KnowsFirst p more ps n
pairs_grown p known more ps n g h = λ i x l at. let k = h i x l at in (k.0, value_grown p known more x.chain k.0 g k.1, k.2)

next_known : (p : Plan) (known : List Fact) (ps : List Pair) (n : ℕ) (x : Pair) → KnowsFirst p known ps n → slice_get ps n ≡ Some x → KnowsPair p known x → KnowsFirst p known ps (n + 1)
next_known p known ps n x h at k = λ i y l there. elim (cases_lt i n) [
  | inl less ↦ h i y less there
  | inr isnt ↦
      let same : i ≡ n = omega arith in
      let is : slice_get ps n ≡ Some y = subst (λ (j : ℕ). slice_get ps j ≡ Some y) same there in
      let eq : x ≡ y = (let a = at in let b = is in cc) in
      subst (λ (z : Pair). KnowsPair p known z) eq k
]

pub payload_of : (p : Plan) (known : List Fact) (t n : ℕ) → IsKnownValue p known t n → IsPayload p t n
payload_of p known t n (inl e) = inl e
payload_of p known t n (inr (e, chain, value, made)) = inr (e, chain, value)

-- a pair that was read at this value, which reaches it
pub met_at : (p : Plan) (known : List Fact) (ps : List Pair) (i n : ℕ) (x : Pair) → slice_get ps i ≡ Some x → x.value ≤ n → IsKnownValue p known x.chain n → IsReached p ps (record { index = i; value = n })
met_at p known ps i n x at l k = record { pair = x; is = at; reached = l; payload = payload_of p known x.chain n k }

pub knows_at : (p : Plan) (known : List Fact) (ps : List Pair) (i n : ℕ) (x : Pair) → slice_get ps i ≡ Some x → IsKnownValue p known x.chain n → KnowsMet p known ps (record { index = i; value = n })
knows_at p known ps i n x at k = λ y there. (let eq : x ≡ y = (let a = at in let b = there in cc) in subst (λ (z : Pair). IsKnownValue p known z.chain n) eq k)

-- States

pub wait_still : (w : Wait) (x y : Pass) → w.met ≡ None → CanWait w x → IsOf w.awaited.watched.board.now y → HasLearned x y → CanWait w y
wait_still w x y none can of learned =
    record {
      can_read = record { board_is = can.can_read.board_is; pass_is = of; pairs_are = can.can_read.pairs_are };
      first = λ all. pairs_grown (plan_in w) (view x).known (view y).known (pairs_in w) w.next learned.2.known (can.first all);
      goes_on = can.goes_on;
      ended = subst (λ (o : Option Met). IfSome o (IsAnswered w y)) (sym none) tt;
    }

-- for all: the pair at which the wait stands was reached
pub advanced : (w : Wait) (y : Pass) (r : Option Met) (n : ℕ) (x : Pair) → w.mode ≡ All → CanWait w y → slice_get (pairs_in w) w.next ≡ Some x → IsKnownValue (plan_in w) (view y).known x.chain n → x.value ≤ n
    → MatchOption r (w.next + 1 < length (pairs_in w)) (λ m. (w.next + 1 ≡ length (pairs_in w)) × (m ≡ record { index = w.next; value = n }))
    → CanWait (record w { next = w.next + 1; met = r }) y
advanced w y r n x all can at known reached answer =
    record { can_read = can.can_read; first = λ _. next; goes_on = goes r answer; ended = ends r r answer }
  where
    next : KnowsFirst (plan_in w) (view y).known (pairs_in w) (w.next + 1)
    next = next_known (plan_in w) (view y).known (pairs_in w) w.next x (can.first all) at (n, known, reached)

    goes : (o : Option Met) → MatchOption o (w.next + 1 < length (pairs_in w)) (λ m. (w.next + 1 ≡ length (pairs_in w)) × (m ≡ record { index = w.next; value = n })) → o ≡ None → w.next + 1 < length (pairs_in w)
    goes None a e = a
    goes (Some m) a e = absurd (let z = e in cc)

    ends : (o q : Option Met) → MatchOption o (w.next + 1 < length (pairs_in w)) (λ m. (w.next + 1 ≡ length (pairs_in w)) × (m ≡ record { index = w.next; value = n })) → IfSome o (IsAnswered (record w { next = w.next + 1; met = q }) y)
    ends None q a = tt
    ends (Some m) q a = subst (λ (z : Met). IsAnswered (record w { next = w.next + 1; met = q }) y z) (sym a.1) (record {
      is_met = record { reached = met_at (plan_in w) (view y).known (pairs_in w) w.next n x at reached known; last = λ _. a.0 };
      knows = knows_at (plan_in w) (view y).known (pairs_in w) w.next n x at known;
      all = λ _. a.0;
    })

-- for any: the pair of this index was reached
pub chosen : (w : Wait) (y : Pass) (i n : ℕ) (x : Pair) → w.mode ≡ Any → CanWait w y → slice_get (pairs_in w) i ≡ Some x → IsKnownValue (plan_in w) (view y).known x.chain n → x.value ≤ n → CanWait (record w { met = Some (record { index = i; value = n }) }) y
chosen w y i n x any can at known reached =
    record {
      can_read = can.can_read;
      first = λ all. absurd (let a = any in let b = all in cc);
      goes_on = λ none. absurd (let z = none in cc);
      ended = record {
        is_met = record { reached = met_at (plan_in w) (view y).known (pairs_in w) i n x at reached known; last = λ all. absurd (let a = any in let b = all in cc) };
        knows = knows_at (plan_in w) (view y).known (pairs_in w) i n x at known;
        all = λ all. absurd (let a = any in let b = all in cc);
      };
    }

-- The reads of a poll

pub record Looking (p : Plan) (v w : View) (cx : Context) (bells : List Bell) : Type 0 where
  pub looks : List Look
  pub reads : Reads p v looks w
  pub heard : AreHeard cx bells looks

pub looking_more : (p : Plan) (v w z : View) (cx cy : Context) (bells : List Bell) (t n : ℕ) → Looking p v w cx bells → Learns w z → HasRead p t w z n → HearsBell cy bells t → Keeps cx cy → Looking p v z cy bells
looking_more p v w z cx cy bells t n l learned read hears kept =
    record {
      looks = record { chain = t; value = n } ∷ l.looks;
      reads = (w, l.reads, learned, read);
      heard = (hears, heard_still cx cy bells kept l.looks l.heard);
    }

-- what a poll of a wait for all did, where it is pending, and where it answers
pub waits_all : (w : Wait) (v z : View) (cx : Context) → w.mode ≡ All → w.met ≡ None → Looking (plan_in w) v z cx w.awaited.watched.bells.now → HasPolled w v z cx Poll.Pending
waits_all w v z cx all none l =
    record {
      looks = l.looks;
      reads = l.reads;
      heard = l.heard;
      once = λ any. absurd (let a = any in let b = all in cc);
      read = λ _. tt;
      again = subst (λ (o : Option Met). IfSome o (λ m. Poll.Pending ≡ Poll.Ready m)) (sym none) tt;
    }

pub ends_all : (w : Wait) (v u z : View) (cx cy : Context) (i n : ℕ) (x : Pair) → w.mode ≡ All → w.met ≡ None → slice_get (pairs_in w) i ≡ Some x
    → Looking (plan_in w) v u cx w.awaited.watched.bells.now → Learns u z → HasRead (plan_in w) x.chain u z n → HearsBell cy w.awaited.watched.bells.now x.chain → Keeps cx cy
    → HasPolled w v z cy (Poll.Ready (record { index = i; value = n }))
ends_all w v u z cx cy i n x all none at l learned read hears kept =
    record {
      looks = record { chain = x.chain; value = n } ∷ l.looks;
      reads = (u, l.reads, learned, read);
      heard = (hears, heard_still cx cy w.awaited.watched.bells.now kept l.looks l.heard);
      once = λ any. absurd (let a = any in let b = all in cc);
      read = λ _ y there. (let eq : x ≡ y = (let a = at in let b = there in cc) in inl (ap (λ (q : Pair). q.chain) eq, refl));
      again = subst (λ (o : Option Met). IfSome o (λ m. Poll.Ready (record { index = i; value = n }) ≡ Poll.Ready m)) (sym none) tt;
    }

-- for all: the pair at which the wait stands is missed
pub missed_all : (w : Wait) (v u z : View) (cx : Context) (n : ℕ) (x : Pair) → IsWatched w.awaited.watched → slice_get (pairs_in w) w.next ≡ Some x
    → Looking (plan_in w) v u cx w.awaited.watched.bells.now → Learns u z → HasRead (plan_in w) x.chain u z n → n < x.value → AreMissed (plan_in w) All (pairs_in w) w.next v z
missed_all w v u z cx n x watched at l learned read low =
    let ls : List Look = record { chain = x.chain; value = n } ∷ l.looks in (
      x,
      at,
      read_missed (plan_in w) (facts (plan_in w) watched.read watched.lawful) v z ls x n (u, l.reads, learned, read) (inl (refl, refl)) low,
    )

-- The bells

pub covers_any : (w : Wait) (cx : Context) → ((i : ℕ) (x : Pair) → slice_get (pairs_in w) i ≡ Some x → HearsBell cx w.awaited.watched.bells.now x.chain) → IsArmed cx → Covers cx (WaitsFor w)
covers_any w cx hears armed = (armed, λ s need. heard s need)
  where
    heard : (s : ℕ) → WaitsFor w s → Hears cx s
    heard s (i, y, b, stands, is, bell, name) = subst (λ (k : ℕ). Hears cx k) (sym name) (hears i y is b bell)

-- For any

pub waits_any : (w : Wait) (v z : View) (cx : Context) (seen : List (Option ℕ)) → w.met ≡ None → Looked w.awaited v z cx seen → HasPolled w v z cx Poll.Pending
waits_any w v z cx seen none l =
    record {
      looks = l.looks;
      reads = l.reads;
      heard = l.heard;
      once = λ _. l.once;
      read = λ _. tt;
      again = subst (λ (o : Option Met). IfSome o (λ m. Poll.Pending ≡ Poll.Ready m)) (sym none) tt;
    }

pub ends_any : (w : Wait) (v z : View) (cx : Context) (seen : List (Option ℕ)) (i n : ℕ) → w.met ≡ None → HasValue w.awaited v z cx seen i n → HasPolled w v z cx (Poll.Ready (record { index = i; value = n }))
ends_any w v z cx seen i n none h =
    record {
      looks = h.looked.looks;
      reads = h.looked.reads;
      heard = h.looked.heard;
      once = λ _. h.looked.once;
      read = λ _ y there. h.read y there;
      again = subst (λ (o : Option Met). IfSome o (λ m. Poll.Ready (record { index = i; value = n }) ≡ Poll.Ready m)) (sym none) tt;
    }

-- the pass knows the value of the pair, or the pair is missed
pub value_known : (w : Wait) (v z : View) (cx : Context) (seen : List (Option ℕ)) (i n : ℕ) (x : Pair) → slice_get (pairs_in w) i ≡ Some x → HasValue w.awaited v z cx seen i n → IsKnownValue (plan_in w) z.known x.chain n
value_known w v z cx seen i n x at h = read_known (plan_in w) v z h.looked.looks x.chain n h.looked.reads (h.read x at)

pub value_missed : (w : Wait) (v z : View) (cx : Context) (seen : List (Option ℕ)) (i n : ℕ) (x : Pair) → IsWatched w.awaited.watched → slice_get (pairs_in w) i ≡ Some x → HasValue w.awaited v z cx seen i n → n < x.value → IsMissed (plan_in w) v z x
value_missed w v z cx seen i n x watched at h low = read_missed (plan_in w) (facts (plan_in w) watched.read watched.lawful) v z h.looked.looks x n h.looked.reads (h.read x at) low

-- a poll after the end reads nothing
pub answered_again : (w : Wait) (v : View) (cx : Context) (m : Met) → w.met ≡ Some m → HasPolled w v v cx (Poll.Ready m)
answered_again w v cx m is =
    record {
      looks = [];
      reads = refl;
      heard = tt;
      once = λ _. tt;
      read = λ none. absurd (let a = is in let b = none in cc);
      again = subst (λ (o : Option Met). IfSome o (λ k. Poll.Ready m ≡ Poll.Ready k)) (sym is) refl;
    }
