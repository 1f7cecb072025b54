-- A pass that only looks: what it knew it still knows.
use Rattle.std.proofs.Common.{◌≡◌, ℕ, List, ◌++◌, true, refl, sym, ap, ◌∙◌, subst}
use Rattle.vq_board_laws.proofs.Cited.{learns_none, learns_on, learns_recall, learns_look, knows_more}
use Rattle.vq_model.specs.Plan.{Plan}
use Rattle.vq_board_laws.specs.declared.view.Fact.{Fact}
use Rattle.vq_board_laws.specs.declared.view.Fact.TheVariants.{Made, Past}
use Rattle.vq_board_laws.specs.declared.view.OpState.{OpState}
use Rattle.vq_board_laws.specs.declared.view.View.{View}
use Rattle.vq_board_laws.specs.Knowledge.{KnowsMade, made_with, shown, completed, of_finished, before_finished}
use Rattle.vq_board_laws.specs.PointSteps.{recalls, sees}
use Rattle.vq_board.specs.declared.parts.Board.{Board}
use Rattle.vq_board.specs.declared.parts.Pass.{Pass}
use Rattle.vq_board.specs.Firsts.{shows_made}
use Rattle.vq_board.specs.Named.{view, IsOf, TurnsWith}
use Rattle.vq_board.proofs.Cited.{shown_more}
use Rattle.vq_payload.specs.Learning.{HasLearned}
use Rattle.vq_board_laws.specs.Learning.{Grows, Learns}

-- Passes

pub learned_none : (x : Pass) → HasLearned x x
learned_none x = (refl, refl, learns_none (view x))

pub learned_on : (x y z : Pass) → HasLearned x y → HasLearned y z → HasLearned x z
learned_on x y z a b = (b.0 ∙ a.0, b.1 ∙ a.1, learns_on (view x) (view y) (view z) a.2 b.2)

-- it is of the same board
pub learned_of : (b : Board) (x y : Pass) → HasLearned x y → IsOf b x → IsOf b y
learned_of b x y h is = (h.0 ∙ is.0, ap (λ (v : View). v.plan) h.2.same ∙ is.1)

pub learned_recall : (x y : Pass) (e : ℕ) (s : OpState) (counts : List ℕ) → TurnsWith x y (recalls (view x) e s) counts → HasLearned x y
learned_recall x y e s counts h = (h.0, h.1, subst (λ (w : View). Learns (view x) w) (sym h.2) (learns_recall (view x) e s))

pub learned_look : (x y : Pass) (q n : ℕ) (counts : List ℕ) → TurnsWith x y (sees (view x) q n) counts → HasLearned x y
learned_look x y q n counts h = (h.0, h.1, subst (λ (w : View). Learns (view x) w) (sym h.2) (learns_look (view x) q n))

-- Knowledge

made_more : (p : Plan) (front known : List Fact) (e : ℕ) → KnowsMade p known e → KnowsMade p (front ++ known) e
made_more p front known e (shown h) = shown (knows_more front known (Made e) h)
made_more p front known e (completed h) = completed (knows_more front known (Past e) h)
made_more p front known e (made_with {e = f} k is) = made_with (made_more p front known f k) is
made_more p front known e (of_finished h is) = of_finished (knows_more front known _ h) is
made_more p front known e (before_finished h is) = before_finished (knows_more front known _ h) is

pub made_grown : (p : Plan) (known more : List Fact) (e : ℕ) → Grows known more → KnowsMade p known e → KnowsMade p more e
made_grown p known more e (front, is) k = subst (λ (fs : List Fact). KnowsMade p fs e) (sym is) (made_more p front known e k)

-- what was shown made is shown made still
pub shown_grown : (known more : List Fact) (e : ℕ) → Grows known more → shows_made known e ≡ true → shows_made more e ≡ true
shown_grown known more e (front, is) k = subst (λ (fs : List Fact). shows_made fs e ≡ true) (sym is) (shown_more front known e k)
