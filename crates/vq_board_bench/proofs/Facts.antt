-- Lists of facts that are known, and what looks add to them.
use Rattle.std.proofs.Common.{ℕ, suc, ◌≡◌, ◌<◌, ◌^◌, ◌/◌, ◌%◌, true, false, Bool, List, [], ◌∷◌, ◌++◌, ap, sym, subst, ◌∙◌, inl, inr, eq-eqb, arith}
use Rattle.std.specs.Prelude.{if◌then◌else◌}
use mathlib.Core.Logic.{dite}
use Rattle.vq_point_laws.proofs.Cited.{bit_small}
use Rattle.vq_board_laws.proofs.Cited.{knows_first, knows_more}
use native.Mathlib.Decide.{ℕ_discrete}
use Rattle.vq_point_laws.specs.PointWord.{PointWord, pack, parts, bit}
use Rattle.vq_board_laws.specs.declared.view.Fact.{Fact}
use Rattle.vq_board_laws.specs.declared.view.Fact.TheVariants.{Taken, Made}
use Rattle.vq_board_laws.specs.declared.view.View.{View}
use Rattle.vq_board_laws.specs.Knowledge.{Knows}
use Rattle.vq_board_laws.specs.PointSteps.{point_facts, moved_on, sees}
use Rattle.vq_board_laws.specs.Words.{Carries}
use Rattle.vq_board.specs.declared.parts.Board.{Board}
use Rattle.vq_board.specs.declared.parts.Pass.{Pass}
use Rattle.vq_board.specs.Named.{view, IsOf, TurnsWith}
use Rattle.vq_board_bench.specs.Rows.{KnowsBelow}

-- one fact more is known, of the next number or of another kind
pub known_next : (known : List Fact) (f : ℕ → Fact) (n : ℕ) → KnowsBelow known f n → Knows known (f n) → KnowsBelow known f (suc n)
known_next known f n below next i less =
    dite (ℕ_discrete n i)
    (λ e. subst (λ (k : ℕ). Knows known (f k)) e next)
    (λ ne. below i (omega arith))

-- a word of these parts carries the operation that they name
pub held_carries : (x : PointWord) (e : ℕ) → x.op < 2 ^ 32 → x.refs < 2 ^ 16 → x.held ≡ true → x.op ≡ e → Carries (pack x) e
held_carries x e few_ops few_refs held op =
    let one : bit x.held ≡ 1 = ap bit held in
    let small = bit_small x.signaled in
    record {
      held = eq-eqb (pack x / 2 ^ 49 % 2) 1 (omega arith);
      op = omega arith;
    }

-- the word of a point that carries an operation shows it taken
shows_taken : (n e : ℕ) → Carries n e → Knows (point_facts n) (Taken e)
shows_taken n e c =
    subst (λ (b : Bool). Knows (if b then (if (parts n).signaled then Made (parts n).op ∷ Taken (parts n).op ∷ [] else Taken (parts n).op ∷ []) else []) (Taken e)) (sym c.held) (by_signal (parts n).signaled)
  where
    by_signal : (b : Bool) → Knows (if b then Made (parts n).op ∷ Taken (parts n).op ∷ [] else Taken (parts n).op ∷ []) (Taken e)
    by_signal true = inr (inl (ap Taken c.op))
    by_signal false = inl (ap Taken c.op)

-- a look at a point forgets nothing, and shows what the point carries
pub sees_more : (v : View) (q n : ℕ) (f : ℕ → Fact) (m : ℕ) → KnowsBelow v.known f m → KnowsBelow (sees v q n).known f m
sees_more v q n f m below i less = knows_more (point_facts n ++ moved_on q n v.known) v.known (f i) (below i less)

pub sees_taken : (v : View) (q n e : ℕ) → Carries n e → Knows (sees v q n).known (Taken e)
sees_taken v q n e c =
    knows_first (point_facts n ++ moved_on q n v.known) v.known (Taken e) (knows_first (point_facts n) (moved_on q n v.known) (Taken e) (shows_taken n e c))

-- a pass that has made a step is still one of the board's
pub still_of : (b : Board) (x y : Pass) (w : View) (counts : List ℕ) → IsOf b x → TurnsWith x y w counts → w.plan ≡ (view x).plan → IsOf b y
still_of b x y w counts is turned same = (turned.0 ∙ is.0, ap (λ (v : View). v.plan) turned.2 ∙ (same ∙ is.1))
