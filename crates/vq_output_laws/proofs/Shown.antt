-- What an allowed answer shows doesn't come after its step.
use Rattle.std.proofs.Common.{ℕ, Bool, true, false, List, [], ◌∷◌, ◌++◌, ◌≡◌, ◌≤◌, ◌<◌, Some, None, Option, cond, leb, refl, sym, ap, ◌∙◌, inl, inr, subst, arith}
use Rattle.std.specs.Option.{option_to_list}
use Rattle.std.proofs.lemmas.Bool.{false≢true, le-leb}
use Rattle.std.proofs.lemmas.Option.{same_Some}
use Rattle.vq_ground.specs.Lists.{has}
use Rattle.vq_ground.proofs.Lists.{has_here, has-append_cases, has-append_right, split_at}
use Rattle.vq_ground.proofs.Searches.{find_fails, find_splits}
use Rattle.vq_model.specs.declared.plan.Answer.{Answer}
use Rattle.vq_model.specs.declared.plan.Answer.TheVariants.{Reached, Value}
use Rattle.vq_model.specs.declared.plan.Need.{Need}
use Rattle.vq_model.specs.declared.plan.Question.{Question}
use Rattle.vq_model.specs.declared.plan.Question.TheVariants.{Silent, Reached as AsksReached, PollAll, PollAny, Fence, Value as AsksValue}
use Rattle.vq_model.specs.Plan.{Plan, asked, chain, chain_of, initial, is_silent, job_of, needs, question, resolver, value, waits_for_any}
use Rattle.vq_model.specs.HappensBefore.{HappensBefore}
use Rattle.vq_model.specs.Outputs.{AllowedBy, Allowed, Answered, AtMostCeiling, IsIn, MayPick, Resolves, Shows, ShowsBy, shown_pairs}
use Rattle.vq_model.specs.SureOrder.{HasSureOrder, KeepsRising, RisesFrom}
use Rattle.vq_model.specs.WellFormed.{IsWellFormed, KeepsHostOrder}
use Rattle.vq_model.specs.Windows.{IsPossible, IsPossiblyReached, at_first, possible}
use Rattle.vq_order_laws.proofs.Cited.{rising_at}
use Rattle.vq_run_laws.proofs.Cited.{front_below}
use Rattle.vq_output_laws.proofs.Pairs.{picked}
use Rattle.vq_output_laws.proofs.Wants.{possible_front}

module _ (p : Plan) (w : IsWellFormed p) (host : KeepsHostOrder p) (o : HasSureOrder p) (h : ℕ) (asks : is_silent (question p h) ≡ false) where
  -- from an operation on a chain rises
  rises : (t : ℕ) (front : List ℕ) (e : ℕ) (back : List ℕ) → chain p t ≡ front ++ e ∷ back → KeepsRising p e back
  rises t front e back whole = rising_at p (initial p t) front back e (subst (RisesFrom p (initial p t)) whole (o.chains t))

  in_chain : (t : ℕ) (front : List ℕ) (e : ℕ) (back : List ℕ) → chain p t ≡ front ++ e ∷ back → chain_of p e ≡ Some t
  in_chain t front e back whole = w.of_chain e t (subst (λ zs. has zs e ≡ true) (sym whole) (has-append_right front (e ∷ back) e (has_here e back)))

  -- a pair that may have been reached and is above the initial value has an operation that resolves it
  pub resolvable : (n : Need) → AtMostCeiling p h n → initial p n.chain < n.value → (e : ℕ) × Resolves p n e
  resolvable n c above = by_search (resolver p n.chain n.value) refl c.0 c.1 c.2
    where
      by_search : (q : Option ℕ) → resolver p n.chain n.value ≡ q → (m : ℕ) → IsPossiblyReached p h n.chain m → n.value ≤ m → (e : ℕ) × Resolves p n e
      by_search (Some e) q m x l = (e, record { above = above; resolves = q })
      by_search None q m at_first l = absurd (let z : ⊥ = omega arith in z)
      by_search None q m (possible {e = f} x) l = absurd (false≢true (sym (find_fails (λ z. leb n.value (value p z)) (chain p n.chain) f q (w.in_chain f n.chain x.in_chain)) ∙ le-leb n.value (value p f) l))

  -- what resolves a pair that may have been reached is possible
  pub pair_possible : (n : Need) (e : ℕ) → Resolves p n e → AtMostCeiling p h n → IsPossible p h n.chain e
  pair_possible n e r c = by_number c.0 c.1 c.2
    where
      by_number : (m : ℕ) → IsPossiblyReached p h n.chain m → n.value ≤ m → IsPossible p h n.chain e
      by_number m at_first l = absurd (let a = r.above in let z : ⊥ = omega arith in z)
      by_number m (possible {e = f} x) l =
          let s = find_splits (λ z. leb n.value (value p z)) (chain p n.chain) e r.resolves in
          elim (has-append_cases s.front (e ∷ s.back) f (subst (λ zs. has zs f ≡ true) s.whole (w.in_chain f n.chain x.in_chain))) [
            | inl i ↦ absurd (false≢true (sym (s.fail f i) ∙ le-leb n.value (value p f) l))
            | inr i ↦ possible_front p w host o h n.chain e s.back f asks (rises n.chain s.front e s.back s.whole) (in_chain n.chain s.front e s.back s.whole) i x
          ]

  -- and so is an operation whose value isn't above a possible one's
  pub value_possible : (t n e : ℕ) → chain_of p e ≡ Some t → initial p t < n → value p e ≡ n → (m : ℕ) → IsPossiblyReached p h t m → n ≤ m → IsPossible p h t e
  value_possible t n e c above v m at_first l = absurd (let z : ⊥ = omega arith in z)
  value_possible t n e c above v m (possible {e = f} x) l =
      let s = split_at (chain p t) e (w.in_chain e t c) in
      elim (has-append_cases s.front (e ∷ s.back) f (subst (λ zs. has zs f ≡ true) s.whole (w.in_chain f t x.in_chain))) [
        | inl i ↦ absurd (let b = front_below p (initial p t) s.front s.back e f (subst (RisesFrom p (initial p t)) s.whole (o.chains t)) i in let z : ⊥ = omega arith in z)
        | inr i ↦ possible_front p w host o h t e s.back f asks (rises t s.front e s.back s.whole) c i x
      ]

  module _ (before : List Answered) (told : Answered) (here : told.job ≡ h) where
    ceiling : (n : Need) → AtMostCeiling p told.job n → AtMostCeiling p h n
    ceiling n c = subst (λ z. AtMostCeiling p z n) here c

    chosen : (ns : List Need) → MayPick p told ns → (n : Need) → IsIn n (option_to_list told.pick) → AtMostCeiling p h n
    chosen ns m n i = subst (AtMostCeiling p h) (same_Some m.0 n (sym m.1 ∙ picked told.pick n i)) (ceiling m.0 m.3)

    -- each pair that an answer shows may have been reached
    pub pairs_possible : (q : Question) → AllowedBy p before told q Reached → (n : Need) → IsIn n (shown_pairs p told q) → AtMostCeiling p h n
    pairs_possible AsksReached a n i = by_any (waits_for_any p told.job) refl
      where
        by_any : (b : Bool) → waits_for_any p told.job ≡ b → AtMostCeiling p h n
        by_any true e = chosen (needs p told.job) (a e) n (subst (IsIn n) (ap (λ b. cond b (option_to_list told.pick) []) e) i)
        by_any false e = absurd (elim (subst (IsIn n) (ap (λ b. cond b (option_to_list told.pick) []) e) i) [ ])
    pairs_possible PollAll a n i = ceiling n (a n i)
    pairs_possible PollAny a n i = chosen (asked p told.job) a n i
    pairs_possible Fence a n i = ceiling n (a n i)
    pairs_possible Silent a n i = absurd a
    pairs_possible (AsksValue t) a n i = absurd a

    shown_chain : (q : Question) (x : Answer) → AllowedBy p before told q x → (e : ℕ) → ShowsBy p told e q x → (t : ℕ) × IsPossible p h t e
    shown_chain q Reached a e s = (s.0.chain, pair_possible s.0 e s.2 (pairs_possible q a s.0 s.1))
    shown_chain (AsksValue t) (Value n) a e s =
        (t, value_possible t n e s.0 s.1 s.2 a.high.0 (subst (λ z. IsPossiblyReached p z t a.high.0) here a.high.1) a.high.2)
    shown_chain q x a e s = absurd s

    -- the job of an operation that an allowed answer shows doesn't come after its step
    pub shown_before : Allowed p before told → (e i : ℕ) → Shows p told e → job_of p e ≡ Some i → HappensBefore p h i → ⊥
    shown_before a e i s q b =
        let x = shown_chain (question p told.job) told.answer a e s in
        x.1.not_after (subst (HappensBefore p h) (same_Some i x.1.job (sym q ∙ x.1.of_job)) b)
