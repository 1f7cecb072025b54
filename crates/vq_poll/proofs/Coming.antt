-- A stream of arrivals from read to read.
use Rattle.std.proofs.Common.{◌≡◌, ℕ, ◌<◌, List, Option, Some, sym, subst}
use Rattle.std.specs.List.{slice_get}
use Rattle.futures.specs.declared.task.context.Context.{Context}
use Rattle.futures.specs.declared.task.Poll.{Poll}
use Rattle.futures.specs.Task.{IsArmed, Hears, Covers}
use Rattle.vq_core_laws.proofs.Cited.{facts}
use Rattle.vq_board_laws.specs.declared.view.View.{View}
use Rattle.vq_board_laws.specs.Knowledge.{IsKnownValue}
use Rattle.vq_poll.specs.declared.arrivals.Arrivals.{Arrivals}
use Rattle.vq_poll.specs.declared.awaited.Awaited.{Awaited}
use Rattle.vq_poll.specs.declared.pairs.Pair.{Pair}
use Rattle.vq_poll.specs.Arriving.{HasArrived, AwaitsAt, pairs_on}
use Rattle.vq_poll.specs.Hearing.{HearsBell}
use Rattle.vq_poll.specs.Missing.{IsMissed}
use Rattle.vq_poll.specs.Seeing.{HasValue}
use Rattle.vq_poll.specs.Watching.{IsWatched, plan_at}
use Rattle.vq_poll.proofs.Polled.{read_known, read_missed}

-- the pass knows the value of the pair, or the pair is missed
pub known_at : (a : Awaited) (v z : View) (cx : Context) (seen : List (Option ℕ)) (i n : ℕ) (x : Pair) → slice_get a.pairs.items i ≡ Some x → HasValue a v z cx seen i n → IsKnownValue (plan_at a.watched) z.known x.chain n
known_at a v z cx seen i n x at h = read_known (plan_at a.watched) v z h.looked.looks x.chain n h.looked.reads (h.read x at)

pub missed_at : (a : Awaited) (v z : View) (cx : Context) (seen : List (Option ℕ)) (i n : ℕ) (x : Pair) → IsWatched a.watched → slice_get a.pairs.items i ≡ Some x → HasValue a v z cx seen i n → n < x.value → IsMissed (plan_at a.watched) v z x
missed_at a v z cx seen i n x watched at h low = read_missed (plan_at a.watched) (facts (plan_at a.watched) watched.read watched.lawful) v z h.looked.looks x n h.looked.reads (h.read x at) low

-- what a poll did where it gives an item
pub comes : (a : Arrivals) (v z : View) (cx : Context) (seen : List (Option ℕ)) (i n : ℕ) → HasValue a.awaited v z cx seen i n → HasArrived a v z cx (Poll.Ready (Some (record { index = i; value = n })))
comes a v z cx seen i n h =
    record {
      looks = h.looked.looks;
      reads = h.looked.reads;
      heard = h.looked.heard;
      once = h.looked.once;
      read = λ y there. h.read y there;
    }

-- the bells of all that is left
pub covers_left : (a : Arrivals) (cx : Context) → ((k i : ℕ) (x : Pair) → slice_get a.left.items k ≡ Some i → slice_get (pairs_on a) i ≡ Some x → HearsBell cx a.awaited.watched.bells.now x.chain) → IsArmed cx → Covers cx (AwaitsAt a)
covers_left a cx hears armed = (armed, λ s need. heard s need)
  where
    heard : (s : ℕ) → AwaitsAt a s → Hears cx s
    heard s (k, i, x, b, at, is, bell, name) = subst (λ (q : ℕ). Hears cx q) (sym name) (hears k i x at is b bell)
