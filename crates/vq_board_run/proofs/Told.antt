-- The lines of the answers that a turn told.
use Rattle.std.proofs.Common.{◌≡◌, ◌++◌, ℕ, List, [], ◌∷◌, Some, None, length, map, reverse, filter, refl, sym, ap, ◌∙◌}
use Rattle.std.proofs.lemmas.List.{append-nil, length-map, length-reverse, map-append}
use Rattle.std.proofs.lemmas.Option.{same_Some}
use Rattle.vq_model.specs.declared.plan.Answer.{Answer}
use Rattle.vq_model.specs.declared.plan.Answer.TheVariants.{Timeout}
use Rattle.vq_model.specs.declared.plan.AnswerLine.{AnswerLine}
use Rattle.vq_model.specs.declared.plan.Event.{Event}
use Rattle.vq_model.specs.declared.plan.Event.TheVariants.{Submit, Take, Release, Bind, Refer, Look, Unref, Complete}
use Rattle.vq_model.specs.declared.plan.Event.TheVariants.{Free, Start, Apply, Signal, Finish, Answer as AnswersAs}
use Rattle.vq_model.specs.OutputText.{answer_at}
use Rattle.vq_model.specs.Plan.{Plan}
use Rattle.vq_turns.specs.declared.outcome.Outcome.{Outcome}
use Rattle.vq_turns.specs.declared.outcome.Outcome.TheVariants.{Moved, Blocked, Ended}
use Rattle.vq_actor.specs.Actors.{events_by}
use Rattle.vq_board_laws.specs.declared.view.Told.{Told}
use Rattle.vq_board_laws.specs.declared.view.View.{View}
use Rattle.vq_board_laws.specs.Reached.{lines_told}
use Rattle.vq_access_laws.specs.AccessMeanings.{answers_told, is_answer}
use Rattle.vq_board_run.specs.Rooming.{TellsBy}
use Rattle.vq_board_run.specs.Answered.{answer_by}

-- as many lines as answers that were told
pub lines_count : (p : Plan) (told : List Told) → length (lines_told p told) ≡ length told
lines_count p told =
    length-map (reverse told) (λ (x : Told). answer_at p x.job x.answer) ∙ length-reverse told

-- the line of an event that is an answer
abbrev line_by : Plan → Event → AnswerLine
line_by p (AnswersAs j a) = answer_at p j a
line_by p e = answer_at p 0 Timeout

lines_are : (p : Plan) (told : List Told) → lines_told p told ≡ map (line_by p) (answers_told told)
lines_are p told = by_list (reverse told)
  where
    by_list : (xs : List Told) → map (λ x. answer_at p x.job x.answer) xs
        ≡ map (line_by p) (map (λ x. AnswersAs x.job x.answer) xs)
    by_list [] = refl
    by_list (x ∷ xs) = ap (λ (ys : List AnswerLine). answer_at p x.job x.answer ∷ ys) (by_list xs)

lines_more : (p : Plan) (v w : View) (o : Outcome) → TellsBy v w o →
    lines_told p w.told ≡ lines_told p v.told ++ map (line_by p) (filter is_answer (events_by o))
lines_more p v w o t =
    lines_are p w.told
    ∙ (ap (map (line_by p)) t
    ∙ (map-append (line_by p) (answers_told v.told) (filter is_answer (events_by o))
    ∙ ap (λ (xs : List AnswerLine). xs ++ map (line_by p) (filter is_answer (events_by o))) (sym (lines_are p v.told))))

-- an answer adds its line
pub answer_adds : (p : Plan) (v w : View) (o : Outcome) (j : ℕ) (a : Answer) → TellsBy v w o →
    answer_by o ≡ Some (j, a) → lines_told p w.told ≡ lines_told p v.told ++ answer_at p j a ∷ []
answer_adds p v w o j a t e =
    lines_more p v w o t
    ∙ ap (λ (es : List Event). lines_told p v.told ++ map (line_by p) es) (by_outcome o e)
  where
    by_event : (x : Event) → answer_by (Moved x) ≡ Some (j, a) → filter is_answer (x ∷ []) ≡ AnswersAs j a ∷ []
    by_event (Submit i) h = absurd (cc)
    by_event (Take i q fresh) h = absurd (cc)
    by_event (Release i) h = absurd (cc)
    by_event (Bind i q) h = absurd (cc)
    by_event (Refer b q i) h = absurd (cc)
    by_event (Look b q i) h = absurd (cc)
    by_event (Unref b q i) h = absurd (cc)
    by_event (Complete i) h = absurd (cc)
    by_event (Free q) h = absurd (cc)
    by_event (Start i) h = absurd (cc)
    by_event (Apply i c) h = absurd (cc)
    by_event (Signal i) h = absurd (cc)
    by_event (Finish i) h = absurd (cc)
    by_event (AnswersAs i b) h =
        let same = same_Some (i, b) (j, a) h in
        ap (λ (x : ℕ × Answer). AnswersAs x.0 x.1 ∷ []) same

    by_outcome : (x : Outcome) → answer_by x ≡ Some (j, a) → filter is_answer (events_by x) ≡ AnswersAs j a ∷ []
    by_outcome (Moved event) h = by_event event h
    by_outcome (Blocked want) h = absurd (cc)
    by_outcome Ended h = absurd (cc)

-- any other outcome adds none
pub other_adds : (p : Plan) (v w : View) (o : Outcome) → TellsBy v w o → answer_by o ≡ None →
    lines_told p w.told ≡ lines_told p v.told
other_adds p v w o t e =
    lines_more p v w o t
    ∙ (ap (λ (es : List Event). lines_told p v.told ++ map (line_by p) es) (by_outcome o e)
    ∙ append-nil (lines_told p v.told))
  where
    by_event : (x : Event) → answer_by (Moved x) ≡ None → filter is_answer (x ∷ []) ≡ []
    by_event (Submit i) h = refl
    by_event (Take i q fresh) h = refl
    by_event (Release i) h = refl
    by_event (Bind i q) h = refl
    by_event (Refer b q i) h = refl
    by_event (Look b q i) h = refl
    by_event (Unref b q i) h = refl
    by_event (Complete i) h = refl
    by_event (Free q) h = refl
    by_event (Start i) h = refl
    by_event (Apply i c) h = refl
    by_event (Signal i) h = refl
    by_event (Finish i) h = refl
    by_event (AnswersAs i b) h = absurd (cc)

    by_outcome : (x : Outcome) → answer_by x ≡ None → filter is_answer (events_by x) ≡ []
    by_outcome (Moved event) h = by_event event h
    by_outcome (Blocked want) h = refl
    by_outcome Ended h = refl
