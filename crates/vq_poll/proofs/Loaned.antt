-- What a wait with a lent pass gives, from poll to poll.
use Rattle.std.proofs.Common.{◌≡◌, ℕ, List, [], ◌∷◌, ◌++◌, length, None, sym, ◌∙◌, subst, inl, inr}
use Rattle.std.specs.List.{slice_get}
use Rattle.futures.specs.declared.task.context.Context.{Context}
use Rattle.futures.specs.declared.task.Poll.{Poll}
use Rattle.futures.specs.declared.task.Poll.TheVariants.{Ready, Pending}
use Rattle.futures.specs.Poll.{IfReady, OnPending}
use Rattle.vq_model.specs.Plan.{Plan}
use Rattle.vq_board_laws.specs.declared.view.View.{View}
use Rattle.vq_poll.specs.declared.awaited.Awaited.{Awaited}
use Rattle.vq_poll.specs.declared.lent.WaitPairs.{WaitPairs}
use Rattle.vq_poll.specs.declared.pairs.Met.{Met}
use Rattle.vq_poll.specs.declared.pairs.Pair.{Pair}
use Rattle.vq_poll.specs.declared.pairs.WaitMode.{WaitMode}
use Rattle.vq_poll.specs.declared.pairs.WaitMode.TheVariants.{All}
use Rattle.vq_poll.specs.Looks.{Look, Reads, WasRead}
use Rattle.vq_poll.specs.Missing.{IsMet, KnowsMet, KnowsFirst}
use Rattle.vq_poll.specs.Waiting.{HasPolled, IsReadOf, MeetsLent, Stays, plan_in, pairs_in, view_of}
use Rattle.vq_poll.specs.Watching.{plan_at}

-- reads after reads
reads_joined : (p : Plan) (v w z : View) (first next : List Look) → Reads p v first w → Reads p w next z →
    Reads p v (next ++ first) z
reads_joined p v w z first [] a b = subst (λ (u : View). Reads p v first u) (sym b) a
reads_joined p v w z first (l ∷ ls) a (u, before, learned, read) =
    (u, reads_joined p v w u first ls a before, learned, read)

was_read_joined : (next first : List Look) (t n : ℕ) → WasRead next t n → WasRead (next ++ first) t n
was_read_joined [] first t n h = absurd h
was_read_joined (l ∷ ls) first t n (inl h) = inl h
was_read_joined (l ∷ ls) first t n (inr h) = inr (was_read_joined ls first t n h)

-- a poll that answers
pub meets_lent : (v w : WaitPairs) (cx : Context) (r : Poll Met) →
    IfReady r (IsMet (plan_in v.wait) v.wait.mode (pairs_in v.wait)) →
    IfReady r (KnowsMet (plan_in v.wait) (view_of w).known (pairs_in v.wait)) →
    (v.wait.mode ≡ All → IfReady r (λ _.
    KnowsFirst (plan_in v.wait) (view_of w).known (pairs_in v.wait) (length (pairs_in v.wait)))) →
    HasPolled v.wait (view_of v) (view_of w) cx r → IfReady r (MeetsLent v)
meets_lent v w cx (Ready m) met knows all polled =
    record {
      is_met = met;
      looks = polled.looks;
      after = view_of w;
      reads = polled.reads;
      read = polled.read;
      knows = knows;
      knows_all = all;
    }
meets_lent v w cx Pending met knows all polled = tt

-- a poll that goes on: what is given later is given of the wait as it was
still_lent : (v w : WaitPairs) (cx : Context) (r : Poll Met) (m : Met) → Stays v.wait w.wait →
    w.wait.met ≡ None → HasPolled v.wait (view_of v) (view_of w) cx r → MeetsLent w m → MeetsLent v m
still_lent v w cx r m stays none polled h =
    let reads : Reads (plan_in v.wait) (view_of w) h.looks h.after = subst (λ (a : Awaited). Reads (plan_at a.watched) (view_of w) h.looks h.after) stays.0 h.reads in
    let read : IsReadOf (pairs_in v.wait) h.looks m = subst (λ (a : Awaited). IsReadOf a.pairs.items h.looks m) stays.0 (h.read none) in
    record {
      is_met = subst (λ (a : Awaited). IsMet (plan_at a.watched) v.wait.mode a.pairs.items m) stays.0
          (subst (λ (q : WaitMode). IsMet (plan_in w.wait) q (pairs_in w.wait) m) stays.1 h.is_met);
      looks = h.looks ++ polled.looks;
      after = h.after;
      reads = reads_joined (plan_in v.wait) (view_of v) (view_of w) h.after polled.looks h.looks polled.reads reads;
      read = λ _ x at. was_read_joined h.looks polled.looks x.chain m.value (read x at);
      knows = subst (λ (a : Awaited). KnowsMet (plan_at a.watched) h.after.known a.pairs.items m) stays.0 h.knows;
      knows_all = λ all. subst (λ (a : Awaited). KnowsFirst (plan_at a.watched) h.after.known a.pairs.items (length a.pairs.items))
          stays.0 (h.knows_all (stays.1 ∙ all));
    }

pub pending_lent : (v w : WaitPairs) (cx : Context) (r : Poll Met) → Stays v.wait w.wait →
    OnPending r (w.wait.met ≡ None) → HasPolled v.wait (view_of v) (view_of w) cx r →
    OnPending r ((m : Met) → MeetsLent w m → MeetsLent v m)
pending_lent v w cx (Ready m) stays none polled = tt
pending_lent v w cx Pending stays none polled = λ m h. still_lent v w cx Pending m stays none polled h
