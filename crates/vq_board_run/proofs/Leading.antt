-- The host's room and the answers that are kept, after a turn.
use Rattle.std.proofs.Common.{◌≡◌, ◌<◌, ◌≤◌, ◌++◌, ℕ, List, [], ◌∷◌, Some, None, length, refl, sym, ap, ◌∙◌, arith, length-append, subst}
use Rattle.vq_model.specs.declared.plan.Answer.{Answer}
use Rattle.vq_model.specs.declared.plan.AnswerLine.{AnswerLine}
use Rattle.vq_model.specs.Outputs.{asking}
use Rattle.vq_model.specs.OutputText.{answer_at}
use Rattle.vq_model.specs.Plan.{Plan}
use Rattle.vq_turns.specs.declared.outcome.Outcome.{Outcome}
use Rattle.vq_board_laws.specs.Reached.{lines_told}
use Rattle.vq_board.specs.declared.parts.Board.{Board}
use Rattle.vq_board.specs.Named.{plan_of}
use Rattle.vq_board_run.specs.Rooming.{Room, IsRoomOf, TellsBy, view_of}
use Rattle.vq_board_run.specs.Answered.{AreToldBy, IsLead, answer_by}
use Rattle.vq_board_run.proofs.Told.{answer_adds, other_adds, lines_count}

-- A turn of the host's room, after which it is another, with this outcome.
module _ (b : Board) (x y : Room) (o : Outcome) (before : List AnswerLine) (lead : IsLead b x before)
    (of_board : IsRoomOf b y) (owner : y.owner ≡ x.owner) (tells : TellsBy (view_of x) (view_of y) o)
    (told_few : length (view_of y).told ≤ length (asking (plan_of b))) where
  as_few : (after : List AnswerLine) → after ≡ lines_told (plan_of b) (view_of y).told →
      length after ≤ length (asking (plan_of b))
  as_few after same =
      subst (λ (n : ℕ). n ≤ length (asking (plan_of b)))
      (sym (ap (λ (xs : List AnswerLine). length xs) same ∙ lines_count (plan_of b) (view_of y).told)) told_few

  answer_line : (p : Plan) (j : ℕ) (a : Answer) → p ≡ plan_of b → answer_by o ≡ Some (j, a) →
      before ++ answer_at p j a ∷ [] ≡ lines_told (plan_of b) (view_of y).told
  answer_line p j a plan moved =
      ap (λ (z : Plan). before ++ answer_at z j a ∷ []) plan
      ∙ (ap (λ (xs : List AnswerLine). xs ++ answer_at (plan_of b) j a ∷ []) lead.lines
      ∙ sym (answer_adds (plan_of b) (view_of x) (view_of y) o j a tells moved))

  -- an answer of the turn is kept,
  pub lead_answered : (p : Plan) (j : ℕ) (a : Answer) (after : List AnswerLine) → p ≡ plan_of b →
      answer_by o ≡ Some (j, a) → after ≡ before ++ answer_at p j a ∷ [] → IsLead b y after
  lead_answered p j a after plan moved kept =
      record {
        board = of_board;
        host = owner ∙ lead.host;
        lines = kept ∙ answer_line p j a plan moved;
        few = as_few after (kept ∙ answer_line p j a plan moved);
      }

  -- for which there is room,
  pub has_room : (j : ℕ) (a : Answer) → answer_by o ≡ Some (j, a) → length before < length (asking (plan_of b))
  has_room j a moved =
      let line = answer_at (plan_of b) j a in
      let all = ap (λ (xs : List AnswerLine). length xs) (answer_line (plan_of b) j a refl moved) in
      let longer = length-append before (line ∷ []) in
      let told = lines_count (plan_of b) (view_of y).told in
      let few = told_few in
      omega (arith, all, longer, told, few)

  -- and any other turn adds nothing
  pub lead_other : (after : List AnswerLine) → answer_by o ≡ None →
      after ≡ before → IsLead b y after
  lead_other after none kept =
      let same : AreToldBy b y.pass after =
      kept ∙ (lead.lines ∙ sym (other_adds (plan_of b) (view_of x) (view_of y) o tells none)) in
      record {
        board = of_board;
        host = owner ∙ lead.host;
        lines = same;
        few = as_few after same;
      }
