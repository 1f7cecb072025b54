-- What the reads of a poll show.
use Rattle.std.proofs.Common.{ℕ, ◌<◌, List, [], ◌∷◌, sym, subst, inl, inr}
use Rattle.vq_board_laws.proofs.Cited.{learns_none, learns_on}
use Rattle.futures.specs.declared.task.context.Context.{Context}
use Rattle.futures.specs.Task.{Keeps, Lasting}
use Rattle.vq_model.specs.Plan.{Plan}
use Rattle.vq_core_laws.proofs.Cited.{Facts}
use Rattle.vq_board_laws.specs.declared.view.View.{View}
use Rattle.vq_board_laws.specs.Knowledge.{IsKnownValue}
use Rattle.vq_board_laws.specs.Learning.{Learns}
use Rattle.vq_payload.specs.Reading.{HasRead}
use Rattle.vq_poll.specs.declared.bell.Bell.{Bell}
use Rattle.vq_poll.specs.declared.pairs.Pair.{Pair}
use Rattle.vq_poll.specs.Hearing.{HearsBell}
use Rattle.vq_poll.specs.Looks.{Look, Reads, WasRead, AreHeard}
use Rattle.vq_poll.specs.Missing.{IsMissed}
use Rattle.vq_poll.proofs.Learned.{value_grown}
use Rattle.vq_poll.proofs.Missed.{missed_now, missed_still}

pub reads_learn : (p : Plan) (v z : View) (ls : List Look) → Reads p v ls z → Learns v z
reads_learn p v z [] h = subst (λ (w : View). Learns v w) (sym h) (learns_none v)
reads_learn p v z (l ∷ ls) (w, before, learned, read) = learns_on v w z (reads_learn p v w ls before) learned

-- the pass knows each value that was read
pub read_known : (p : Plan) (v z : View) (ls : List Look) (t n : ℕ) → Reads p v ls z → WasRead ls t n → IsKnownValue p z.known t n
read_known p v z [] t n h r = absurd r
read_known p v z (l ∷ ls) t n (w, before, learned, read) (inl (chain, value)) =
    subst (λ (c : ℕ). IsKnownValue p z.known c n) chain
    (subst (λ (m : ℕ). IsKnownValue p z.known l.chain m) value read.known.holds)
read_known p v z (l ∷ ls) t n (w, before, learned, read) (inr r) = value_grown p w.known z.known t n learned.known (read_known p v w ls t n before r)

-- a pair above a value that was read of its chain is missed
pub read_missed : (p : Plan) → Facts p → (v z : View) (ls : List Look) (x : Pair) (n : ℕ) → Reads p v ls z → WasRead ls x.chain n → n < x.value → IsMissed p v z x
read_missed p f v z [] x n h r l = absurd r
read_missed p f v z (k ∷ ls) x n (w, before, learned, read) (inl (chain, value)) l =
    let here : HasRead p x.chain w z n = subst (λ (c : ℕ). HasRead p c w z n) chain (subst (λ (m : ℕ). HasRead p k.chain w z m) value read) in
    missed_still p v w z z x (reads_learn p v w ls before) (learns_none z) (missed_now p f w z x n here l)
read_missed p f v z (k ∷ ls) x n (w, before, learned, read) (inr r) l =
    missed_still p v v w z x (learns_none v) learned (read_missed p f v w ls x n before r l)

-- what was heard is heard still
pub heard_still : (cx cy : Context) (bells : List Bell) → Keeps cx cy → (ls : List Look) → AreHeard cx bells ls → AreHeard cy bells ls
heard_still cx cy bells kept [] h = tt
heard_still cx cy bells kept (l ∷ ls) h = ((λ b at. kept (Lasting.hears b.source.id) (h.0 b at)), heard_still cx cy bells kept ls h.1)

pub bell_still : (cx cy : Context) (bells : List Bell) (t : ℕ) → Keeps cx cy → HearsBell cx bells t → HearsBell cy bells t
bell_still cx cy bells t kept h = λ b at. kept (Lasting.hears b.source.id) (h b at)

pub read_heard : (cx : Context) (bells : List Bell) (ls : List Look) (t n : ℕ) → AreHeard cx bells ls → WasRead ls t n → HearsBell cx bells t
read_heard cx bells [] t n h r = absurd r
read_heard cx bells (l ∷ ls) t n h (inl (chain, value)) = subst (λ (c : ℕ). HearsBell cx bells c) chain h.0
read_heard cx bells (l ∷ ls) t n h (inr r) = read_heard cx bells ls t n h.1 r
