-- The answers that a history gave, by job.
use Rattle.std.proofs.Common.{◌≡◌, ℕ, zero, suc, ◌+◌, ◌<◌, ◌≤◌, List, [], ◌∷◌, ◌++◌, map, length, take, Option, Some, None}
use Rattle.std.proofs.Common.{get_or, set, slice_set, option_map, filter_map, refl, sym, subst, ap, ap₂}
use Rattle.std.proofs.Common.{◌∙◌, arith}
use Rattle.std.specs.List.{cons_option, range_with_len}
use Rattle.std.proofs.Math.Seq.{take-suc}
use Rattle.std.proofs.lemmas.List.Elements.{filter_map-append}
use Rattle.std.proofs.lemmas.List.FromFn.{length-map-range_with_len, get_or-map-range_with_len}
use Rattle.std.proofs.lemmas.List.Sums.{fold-append}
use Rattle.vq_ground.proofs.Numbers.{range_more}
use Rattle.vq_model.specs.declared.plan.AnswerLine.{AnswerLine}
use Rattle.vq_model.specs.OutputText.{answer_at}
use Rattle.vq_history_laws.specs.Histories.{points_after}
use Rattle.vq_point_laws.specs.Points.{opening_points}
use Rattle.vq_model.specs.declared.plan.Answer.{Answer}
use Rattle.vq_model.specs.declared.plan.Event.{Event}
use Rattle.vq_model.specs.declared.plan.Event.TheVariants.{Submit, Take, Release, Bind, Refer, Look, Unref, Complete}
use Rattle.vq_model.specs.declared.plan.Event.TheVariants.{Free, Start, Apply, Signal, Finish, Answer as AnswersAs}
use Rattle.vq_model.specs.Machine.{put}
use Rattle.vq_model.specs.Plan.{Plan}
use Rattle.vq_model.proofs.Puts.{put_here, put_there}
use Rattle.vq_point_laws.specs.Points.{PointState, after_event}
use Rattle.vq_core.specs.Answered.{AreAnswers, IsRoom}

module _ {A : Type 0} (f : ℕ → A) (x : A) where
  -- a change below a range, and one behind it
  below : (a n k : ℕ) → k < a → map f (range_with_len a n) ≡ map (put f k x) (range_with_len a n)
  below a zero k l = refl
  below a (suc n) k l =
      ap₂ (λ (y : A) (ys : List A). y ∷ ys) (sym (put_there f k x a (λ e. omega arith)))
      (below (a + 1) n k (omega arith))

  behind : (a n k : ℕ) → a + n ≤ k → map f (range_with_len a n) ≡ map (put f k x) (range_with_len a n)
  behind a zero k l = refl
  behind a (suc n) k l =
      ap₂ (λ (y : A) (ys : List A). y ∷ ys) (sym (put_there f k x a (λ e. omega arith)))
      (behind (a + 1) n k (omega arith))

  -- a change within a range
  within : (a n i k : ℕ) → a + i ≡ k → set (map f (range_with_len a n)) i x ≡ map (put f k x) (range_with_len a n)
  within a zero i k e = refl
  within a (suc n) zero k e =
      let same : a ≡ k = omega arith in
      ap₂ (λ (y : A) (ys : List A). y ∷ ys) (sym (ap (put f k x) same ∙ put_here f k x))
      (below (a + 1) n k (omega arith))
  within a (suc n) (suc i) k e =
      let above : a < k = omega arith in
      ap₂ (λ (y : A) (ys : List A). y ∷ ys) (sym (put_there f k x a (λ z. omega arith)))
      (within (a + 1) n i k (omega arith))

module _ (p : Plan) (w : PointState) (n : ℕ) (given : List (Option Answer)) (k : AreAnswers w n given) where
  -- an answer is noted at its job
  pub noted : (j : ℕ) (a : Answer) (more : List (Option Answer)) → more ≡ slice_set given j (Some a) →
      AreAnswers (after_event p w (AnswersAs j a)) n more
  noted j a more is =
      is ∙ (ap (λ (xs : List (Option Answer)). slice_set xs j (Some a)) k
      ∙ within w.machine.answer (Some a) 0 n j j (omega arith))

  -- .. if there is such a job
  pub unnoted : (j : ℕ) (a : Answer) → length given ≤ j → AreAnswers (after_event p w (AnswersAs j a)) n given
  unnoted j a past =
      let count = ap length k ∙ length-map-range_with_len w.machine.answer 0 n in
      k ∙ behind w.machine.answer (Some a) 0 n j (omega arith)

  -- other events answer nothing
  pub unanswered : (e : Event) → ((j : ℕ) (a : Answer) → e ≡ AnswersAs j a → ⊥) → AreAnswers (after_event p w e) n given
  unanswered (Submit j) h = k
  unanswered (Take e q fresh) h = k
  unanswered (Release j) h = k
  unanswered (Bind e q) h = k
  unanswered (Refer a q e) h = k
  unanswered (Look a q e) h = k
  unanswered (Unref a q e) h = k
  unanswered (Complete e) h = k
  unanswered (Free q) h = k
  unanswered (Start j) h = k
  unanswered (Apply j c) h = k
  unanswered (Signal e) h = k
  unanswered (Finish j) h = k
  unanswered (AnswersAs j a) h = absurd (h j a refl)

-- one event more
pub noted_next : (p : Plan) (n : ℕ) (es : List Event) (i : ℕ) (d : Event) (given more : List (Option Answer)) →
    i < length es → AreAnswers (points_after p (take i es)) n given →
    ((q : Plan) (w : PointState) (m : ℕ) → AreAnswers w m given → AreAnswers (after_event q w (get_or es i d)) m more) →
    AreAnswers (points_after p (take (i + 1) es)) n more
noted_next p n es i d given more l k h =
    let next : suc i ≡ i + 1 = omega arith in
    let longer : take (i + 1) es ≡ take i es ++ get_or es i d ∷ [] =
    ap (λ (m : ℕ). take m es) (sym next) ∙ take-suc es i d l in
    let after : points_after p (take (i + 1) es) ≡ after_event p (points_after p (take i es)) (get_or es i d) =
    ap (points_after p) longer ∙ fold-append (after_event p) (opening_points p) (take i es) (get_or es i d ∷ []) in
    subst (λ (w : PointState). AreAnswers w n more) (sym after) (h p (points_after p (take i es)) n k)

-- there is an answer, or none, for each job
pub each_given : (w : PointState) (n : ℕ) (given : List (Option Answer)) → AreAnswers w n given → length given ≡ n
each_given w n given k = ap length k ∙ length-map-range_with_len w.machine.answer 0 n

pub given_at : (w : PointState) (n : ℕ) (given : List (Option Answer)) (j : ℕ) (d : Option Answer) →
    AreAnswers w n given → j < n → get_or given j d ≡ w.machine.answer j
given_at w n given j d k l =
    ap (λ (xs : List (Option Answer)). get_or xs j d) k
    ∙ get_or-map-range_with_len w.machine.answer 0 n j j d l (omega arith)

-- the lines with that of one job more
pub line_more : (p : Plan) (w : PointState) (j : ℕ) (lines more : List AnswerLine) (given : Option Answer) →
    lines ≡ filter_map (λ i. option_map (answer_at p i) (w.machine.answer i)) (range_with_len 0 j) →
    given ≡ w.machine.answer j → more ≡ lines ++ cons_option (option_map (answer_at p j) given) [] →
    more ≡ filter_map (λ i. option_map (answer_at p i) (w.machine.answer i)) (range_with_len 0 (j + 1))
line_more p w j lines more given k is e =
    e
    ∙ (ap (λ (o : Option Answer). lines ++ cons_option (option_map (answer_at p j) o) []) is
    ∙ (ap (λ (xs : List AnswerLine). xs ++ cons_option (f j) []) k
    ∙ (sym (filter_map-append f (range_with_len 0 j) (j ∷ [])) ∙ ap (filter_map f) (sym (range_more j)))))
  where
    f : ℕ → Option AnswerLine
    f i = option_map (answer_at p i) (w.machine.answer i)

-- room for the answers of so many jobs
pub room_for : (n room : ℕ) (given : List (Option Answer)) (lines : List AnswerLine) →
    given ≡ map (λ j. None) (range_with_len 0 n) → lines ≡ [] → n ≤ room →
    (length given ≡ n) × IsRoom given lines room
room_for n room given lines is empty fits =
    let count = ap length is ∙ length-map-range_with_len {X = Option Answer} (λ j. None) 0 n in (
      count,
      record {
        unanswered = is ∙ ap (λ (k : ℕ). map (λ j. None) (range_with_len 0 k)) (sym count);
        empty = empty;
        each = omega arith;
      },
    )
