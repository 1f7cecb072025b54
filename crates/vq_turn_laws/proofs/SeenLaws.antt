-- What an actor saw of its question stays true, and signals raise their payloads in the worlds of histories.
use Rattle.std.proofs.Common.{◌≡◌, ℕ, ◌≤◌, ◌||◌, ◌&&◌, Bool, true, List, [], ◌∷◌, ◌++◌, refl, sym, subst, ap, ◌∙◌, inl}
use Rattle.std.proofs.Common.{inr, arith, nat_lt, ◌==◌}
use Rattle.std.specs.List.{list_any}
use Rattle.std.proofs.lemmas.Bool.{or_cases, or_left, or_right, and_parts, and_from, false≢true}
use Rattle.vq_model.specs.declared.plan.Event.{Event}
use Rattle.vq_model.specs.declared.plan.Event.TheVariants.{Start as Starts, Signal as Signals, Answer as AnswersAs}
use Rattle.vq_model.specs.Plan.{Plan, chain, value}
use Rattle.vq_model.specs.WellFormed.{IsWellFormed, KeepsHostOrder}
use Rattle.vq_model.specs.SureOrder.{KeepsChains}
use Rattle.vq_model.specs.Machine.{was_since}
use Rattle.vq_model.proofs.Puts.{put_there}
use Rattle.vq_point_laws.specs.Points.{PointState, CanCome, after_event}
use Rattle.vq_run_laws.proofs.Cited.{Follows, signal_step}
use Rattle.vq_turns.specs.declared.look.Seen.{Seen}
use Rattle.vq_turn_laws.specs.Worlds.{Sees, RisesAt, RisesIn}
use Rattle.vq_turn_laws.proofs.PlaceLaws.{made_stays, number_stays}

-- In every history of a lawful plan a signal raises its payload.
pub rises_in : (p : Plan) → IsWellFormed p → KeepsHostOrder p → KeepsChains p → (w : PointState) → Follows p w →
    (x : Event) → CanCome p w x → RisesIn p w x
rises_in p wf host ch w k (Signals e) g = let r = signal_step p wf host ch w k e g in subst (RisesAt p w e)
    (sym r.in_chain) r.rises
rises_in p wf host ch w k other g = tt

module _ (p : Plan) (w : PointState) (j : ℕ) (started : w.machine.progress.started j ≡ true) where
  pub start_stays : (x : Event) → CanCome p w x → (t : ℕ) →
      (after_event p w x).machine.at_start j t ≡ w.machine.at_start j t
  start_stays (Starts i) g t =
      ap (λ (f : ℕ → ℕ). f t)
      (put_there w.machine.at_start i w.machine.progress.payload j
      (λ e. false≢true (sym g.waiting ∙ subst (λ (z : ℕ). w.machine.progress.started z ≡ true) e started)))
  start_stays (Signals e) g t = refl
  start_stays (AnswersAs i a) g t = refl
  start_stays other g t = refl

  more_made : (m n : ℕ → Bool) (v : ℕ) → ((f : ℕ) → m f ≡ true → n f ≡ true) → (es : List ℕ) →
      list_any (λ e. m e && (value p e == v)) es ≡ true → list_any (λ e. n e && (value p e == v)) es ≡ true
  more_made m n v f [] h = h
  more_made m n v f (e ∷ es) h =
      elim (or_cases (m e && (value p e == v)) (list_any (λ x. m x && (value p x == v)) es) h) [
        | inl t ↦ let two = and_parts (m e) (value p e == v) t in or_left (n e && (value p e == v))
            (list_any (λ x. n x && (value p x == v)) es) (and_from (n e) (value p e == v) (f e two.0) two.1)
        | inr t ↦ or_right (n e && (value p e == v)) (list_any (λ x. n x && (value p x == v)) es)
            (more_made m n v f es t)
      ]

  was_stays : (x : Event) → CanCome p w x → (t n : ℕ) → was_since p w.machine j t n ≡ true →
      was_since p (after_event p w x).machine j t n ≡ true
  was_stays x g t n h =
      subst (λ (z : ℕ). ((n == z) ||
      (nat_lt z n && list_any (λ e. (after_event p w x).machine.progress.made e && (value p e == n)) (chain p t))) ≡
      true) (sym (start_stays x g t))
      (elim (or_cases (n == w.machine.at_start j t)
      (nat_lt (w.machine.at_start j t) n && list_any (λ e. w.machine.progress.made e && (value p e == n))
      (chain p t)) h) [
        | inl l ↦ or_left (n == w.machine.at_start j t)
            (nat_lt (w.machine.at_start j t) n && list_any
            (λ e. (after_event p w x).machine.progress.made e && (value p e == n)) (chain p t)) l
        | inr r ↦
            let two = and_parts (nat_lt (w.machine.at_start j t) n)
            (list_any (λ e. w.machine.progress.made e && (value p e == n)) (chain p t)) r in
            or_right (n == w.machine.at_start j t)
            (nat_lt (w.machine.at_start j t) n && list_any
            (λ e. (after_event p w x).machine.progress.made e && (value p e == n)) (chain p t))
            (and_from (nat_lt (w.machine.at_start j t) n)
            (list_any (λ e. (after_event p w x).machine.progress.made e && (value p e == n)) (chain p t)) two.0
            (more_made w.machine.progress.made (after_event p w x).machine.progress.made n (made_stays p w x)
            (chain p t) two.1))
      ])

  -- What was seen of a started job stays so, whoever moves.
  pub sees_stays : (x : Event) → CanCome p w x → RisesIn p w x → (ns : List (ℕ × ℕ)) (xs : List Seen) →
      Sees p w j ns xs → Sees p (after_event p w x) j ns xs
  sees_stays x g r [] [] s = s
  sees_stays x g r [] (y ∷ ys) s = absurd s
  sees_stays x g r ((t, v) ∷ ns) [] s = absurd s
  sees_stays x g r ((t, v) ∷ ns) (y ∷ ys) s = (
    s.0,
    (let a = start_stays x g t in let b = s.1 in omega arith),
    number_stays p w x r t y.past s.2,
    was_stays x g t y.past s.3,
    sees_stays x g r ns ys s.4,
  )

  -- One comparison more, with a value that is the payload now, once what is signaled of the chain is past.
  pub sees_more : (qs : List (ℕ × ℕ)) (xs : List Seen) (t v : ℕ) (y : Seen) → Sees p w j qs xs → y.wanted ≡ v →
      y.past ≡ w.machine.progress.payload t → w.machine.at_start j t ≤ w.machine.progress.payload t →
      was_since p w.machine j t (w.machine.progress.payload t) ≡ true → Sees p w j (qs ++ (t, v) ∷ []) (xs ++ y ∷ [])
  sees_more [] [] t v y s q e l u =
      (q, (omega arith), (omega arith), subst (λ (z : ℕ). was_since p w.machine j t z ≡ true) (sym e) u, tt)
  sees_more [] (x ∷ xs) t v y s q e l u = absurd s
  sees_more ((m, n) ∷ ms) [] t v y s q e l u = absurd s
  sees_more ((m, n) ∷ ms) (x ∷ xs) t v y s q e l u = (s.0, s.1, s.2, s.3, sees_more ms xs t v y s.4 q e l u)
