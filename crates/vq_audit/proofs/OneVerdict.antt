-- There is one verdict on a trace.
use Rattle.std.proofs.Common.{◌≡◌, ◌++◌, ℕ, List, [], ◌∷◌, fold, refl, sym, ap, ◌∙◌, subst, arith}
use native.Mathlib.Decide.{dec_le}
use Rattle.std.specs.List.{slice_get}
use Rattle.vq_model.specs.Plan.{Plan}
use Rattle.vq_point_laws.specs.Points.{CanCome, HistoryFrom, PointState, after_event, opening_points}
use Rattle.vq_given.specs.declared.given.GivenEvent.{GivenEvent}
use Rattle.vq_given.specs.declared.given.GivenLine.{GivenLine}
use Rattle.vq_given.specs.declared.given.GivenTrace.{GivenTrace}
use Rattle.vq_audit.specs.declared.verdict.Verdict.{Verdict}
use Rattle.vq_audit.specs.declared.verdict.Verdict.TheVariants.{Lawful, Broken}
use Rattle.vq_audit.specs.Verdicts.{IsLawful, IsBroken, AtEvent, AtEnd, InRest, IsVerdict, IsWrongEvent, IsWrongPlace, line_at, made_events, true_rest}

abbrev AfterAll : Plan → PointState → List GivenEvent → PointState
AfterAll p w events = fold (after_event p) w (made_events events)

-- of a history each event may come
comes : (p : Plan) (w : PointState) (before : List GivenEvent) (x : GivenEvent) (after : List GivenEvent) →
    HistoryFrom p w (made_events (before ++ x ∷ after)) → CanCome p (AfterAll p w before) x.event
comes p w [] x after h = h.0
comes p w (y ∷ before) x after h = comes p (after_event p w y.event) before x after h.1

-- two first events of a list that may not come are one
one_event : (p : Plan) (w : PointState) (before other : List GivenEvent) (x y : GivenEvent) (after more : List GivenEvent) →
    before ++ x ∷ after ≡ other ++ y ∷ more → HistoryFrom p w (made_events before) → HistoryFrom p w (made_events other) →
    (CanCome p (AfterAll p w before) x.event → ⊥) → (CanCome p (AfterAll p w other) y.event → ⊥) → x ≡ y
one_event p w [] [] x y after more e h k un none = cc
one_event p w [] (b ∷ other) x y after more e h k un none =
    let is : b ≡ x = cc in absurd (un (subst (λ (z : GivenEvent). CanCome p w z.event) is k.0))
one_event p w (a ∷ before) [] x y after more e h k un none =
    let is : a ≡ y = cc in absurd (none (subst (λ (z : GivenEvent). CanCome p w z.event) is h.0))
one_event p w (a ∷ before) (b ∷ other) x y after more e h k un none =
    let is : b ≡ a = cc in
    let rest : before ++ x ∷ after ≡ other ++ y ∷ more = cc in
    one_event p (after_event p w a.event) before other x y after more rest h.1
    (subst (λ (z : GivenEvent). HistoryFrom p (after_event p w z.event) (made_events other)) is k.1) un
    (subst (λ (z : GivenEvent). CanCome p (AfterAll p (after_event p w z.event) other) y.event → ⊥) is none)

-- two first wrong places are one
one_place : (truth : List (List ℕ)) (given : List GivenLine) (n m : ℕ) → IsWrongPlace truth given n →
    IsWrongPlace truth given m → n ≡ m
one_place truth given n m a b = elim (dec_le n m) [
  | yes le ↦ elim (dec_le m n) [
    | yes ge ↦ omega arith
    | no gt ↦ absurd (a.wrong (b.before n (omega arith)))
  ]
  | no gt ↦ absurd (b.wrong (a.before m (omega arith)))
]

module _ (p : Plan) (given : GivenTrace) where
  -- where each event may come, none is wrong
  none_wrong : (x : GivenEvent) → HistoryFrom p (opening_points p) (made_events given.events) →
      IsWrongEvent p given.events x → ⊥
  none_wrong x h w =
      w.refused (comes p (opening_points p) w.before x w.after
      (subst (λ (events : List GivenEvent). HistoryFrom p (opening_points p) (made_events events)) w.parts h))

  -- a lawful trace has no line that is wrong
  unbroken : (n : ℕ) → IsLawful p given → IsBroken p given n → ⊥
  unbroken n l (AtEvent x w is) = none_wrong x l.may w
  unbroken n l (AtEnd h untrue is) = untrue l.end
  unbroken n l (InRest h e place w is) = w.wrong (ap (λ (xs : List (List ℕ)). slice_get xs place) l.rest)

  -- a trace has one first line that is wrong
  one_line : (n m : ℕ) → IsBroken p given n → IsBroken p given m → n ≡ m
  one_line n m (AtEvent x a is) (AtEvent y b same) =
      let one = one_event p (opening_points p) a.before b.before x y a.after b.after (sym a.parts ∙ b.parts) a.may b.may
      a.refused b.refused in
      is ∙ (ap (λ (z : GivenEvent). z.line) one ∙ sym same)
  one_line n m (AtEvent x a is) (AtEnd h untrue same) = absurd (none_wrong x h a)
  one_line n m (AtEvent x a is) (InRest h e place w same) = absurd (none_wrong x h a)
  one_line n m (AtEnd h untrue is) (AtEvent y b same) = absurd (none_wrong y h b)
  one_line n m (AtEnd h untrue is) (AtEnd k none same) = is ∙ sym same
  one_line n m (AtEnd h untrue is) (InRest k e place w same) = absurd (untrue e)
  one_line n m (InRest h e place w is) (AtEvent y b same) = absurd (none_wrong y h b)
  one_line n m (InRest h e place w is) (AtEnd k untrue same) = absurd (untrue e)
  one_line n m (InRest h e place w is) (InRest k f other v same) =
      let one = one_place (true_rest p given) given.rest place other w v in
      is ∙ (ap (line_at given.end_line given.rest) one ∙ sym same)

  pub one_verdict : (v u : Verdict) → IsVerdict p given v → IsVerdict p given u → v ≡ u
  one_verdict Lawful Lawful a b = refl
  one_verdict Lawful (Broken m) a b = absurd (unbroken m a b)
  one_verdict (Broken n) Lawful a b = absurd (unbroken n b a)
  one_verdict (Broken n) (Broken m) a b = ap Broken (one_line n m a b)
