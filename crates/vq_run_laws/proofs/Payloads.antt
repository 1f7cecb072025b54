-- In each state of a run an operation is made exactly where its chain's payload has reached its value.
use Rattle.std.proofs.Common.{ℕ, ◌<◌, List, [], ◌∷◌, ◌++◌, arith, ◌≡◌, true, inl, inr, subst, ◌≤◌, Some, sym, Bool, Option, ap, ◌∙◌, ◌⊎◌, fold}
use Rattle.std.proofs.lemmas.Option.{same_Some}
use Rattle.vq_model.specs.Plan.{Plan, value, chain, initial, chain_of}
use Rattle.vq_ground.specs.Lists.{has}
use Rattle.vq_model.specs.SureOrder.{KeepsRising, RisesFrom, KeepsChains}
use Rattle.std.proofs.lemmas.Bool.{false≢true, cases_eq}
use Rattle.vq_ground.proofs.Lists.{has_cases, split_at, has-append_cases}
use Rattle.vq_model.specs.WellFormed.{IsWellFormed}
use Rattle.vq_model.specs.Machine.{Progress, Step, Run, state_after, StartStep, ApplyStep, SignalStep, FinishStep, AnswerStep, put, with_signal, after_progress, State, after_step, CanStep, RunFrom, opening_state}
use Rattle.vq_model.specs.ProgressRuns.{CanProgress}
use Rattle.vq_run_laws.proofs.StateFacts.{Invariant}
use Rattle.vq_order_laws.proofs.Cited.{rising_at}
use Rattle.vq_run_laws.proofs.KeptSteps.{made_below}
use Rattle.vq_run_laws.proofs.KeptRuns.{run_keeps}
use Rattle.vq_model.proofs.Puts.{put_here, put_there, put_cases}

-- What each state keeps of answers

-- values rise along a chain
pub behind_above : (p : Plan) (y : ℕ) (front back : List ℕ) (e : ℕ) → KeepsRising p y (front ++ e ∷ back) → value p y < value p e
behind_above p y [] back e k = k.0
behind_above p y (x ∷ front) back e k = let l = k.0 in let m = behind_above p x front back e k.2 in omega arith

front_below_on : (p : Plan) (y : ℕ) (front back : List ℕ) (e x : ℕ) → KeepsRising p y (front ++ e ∷ back) → has front x ≡ true → value p x < value p e
front_below_on p y [] back e x k h = absurd (false≢true h)
front_below_on p y (z ∷ front) back e x k h =
    elim (has_cases z front x h) [
      | inl i ↦ subst (λ v. value p v < value p e) i (behind_above p z front back e k.2)
      | inr i ↦ front_below_on p z front back e x k.2 i
    ]

pub front_below : (p : Plan) (n : ℕ) (front back : List ℕ) (e x : ℕ) → RisesFrom p n (front ++ e ∷ back) → has front x ≡ true → value p x < value p e
front_below p n [] back e x k h = absurd (false≢true h)
front_below p n (z ∷ front) back e x k h =
    elim (has_cases z front x h) [
      | inl i ↦ subst (λ v. value p v < value p e) i (behind_above p z front back e k.1)
      | inr i ↦ front_below_on p z front back e x k.1 i
    ]

-- the operations of a chain are above its initial value
pub above_initial : (p : Plan) (n : ℕ) (front back : List ℕ) (e : ℕ) → RisesFrom p n (front ++ e ∷ back) → n < value p e
above_initial p n [] back e r = r.0
above_initial p n (x ∷ front) back e r = let a = r.0 in let b = behind_above p x front back e r.1 in omega arith

-- an operation whose value the payload has reached is made
pub made_where_reached : (p : Plan) → IsWellFormed p → KeepsChains p → (s : Progress) → Invariant p s → (e t : ℕ) → chain_of p e ≡ Some t → value p e ≤ s.payload t → s.made e ≡ true
made_where_reached p w ch s k e t c l =
    let f = split_at (chain p t) e (w.in_chain e t c) in
    let rise = subst (RisesFrom p (initial p t)) f.whole (ch t) in
    elim (k.raised t) [
      | inl i ↦ let a = above_initial p (initial p t) f.front f.back e rise in absurd (omega arith)
      | inr o ↦
          let v = o.sets in
          elim (has-append_cases f.front (e ∷ f.back) o.op (subst (λ zs. has zs o.op ≡ true) f.whole o.in_chain)) [
            | inl i ↦ let b = front_below p (initial p t) f.front f.back e o.op rise i in absurd (omega arith)
            | inr i ↦ elim (has_cases e f.back o.op i) [
              | inl j ↦ subst (λ z. s.made z ≡ true) (sym j) o.was_made
              | inr j ↦ made_below p w ch s.payload s.started s.finished s.made s.applied k e f.back o.op (rising_at p (initial p t) f.front f.back e rise) j o.was_made
            ]
          ]
    ]

pub reached_made : (p : Plan) → IsWellFormed p → KeepsChains p → (steps : List Step) → Run p steps → (e t : ℕ) → chain_of p e ≡ Some t → value p e ≤ (state_after p steps).progress.payload t → (state_after p steps).progress.made e ≡ true
reached_made p w ch steps run e t c l = made_where_reached p w ch (state_after p steps).progress (run_keeps p w ch steps run) e t c l

-- the payload has reached the value of each made operation
abbrev pub Raised : Plan → (ℕ → ℕ) → (ℕ → Bool) → Type 0
Raised p payload made = (e t : ℕ) → chain_of p e ≡ Some t → made e ≡ true → value p e ≤ payload t

pub raised_progress : (p : Plan) (s : Progress) (x : Step) → Raised p s.payload s.made → CanProgress p s x → Raised p (after_progress p s x).payload (after_progress p s x).made
raised_progress p s (StartStep j) r g = r
raised_progress p s (ApplyStep c) r g = r
raised_progress p s (FinishStep j) r g = r
raised_progress p s (AnswerStep j a) r g = absurd g
raised_progress p s (SignalStep e) r g =
    let P : Option ℕ → Type 0 = λ o. Raised p (with_signal p s e o).payload (with_signal p s e o).made in
    subst P (sym g.in_chain) (λ f u c m. elim (put_cases s.made e f m) [
      | inl i ↦
          let here : u ≡ g.chain = same_Some u g.chain (sym c ∙ (ap (chain_of p) i ∙ g.in_chain)) in
          let v = ap (put s.payload g.chain (value p e)) here ∙ put_here s.payload g.chain (value p e) in
          let x = ap (value p) i in
          omega arith
      | inr o ↦ let a = r f u c o in let b = rises u (cases_eq u g.chain) in omega arith
    ])
  where
    rises : (t : ℕ) → ((t ≡ g.chain) ⊎ (t ≡ g.chain → ⊥)) → s.payload t ≤ put s.payload g.chain (value p e) t
    rises t (inl q) =
        let a = ap s.payload q in
        let b = ap (put s.payload g.chain (value p e)) q ∙ put_here s.payload g.chain (value p e) in
        let l = g.rises in
        omega arith
    rises t (inr q) = let b = put_there s.payload g.chain (value p e) t q in omega arith

pub raised_step : (p : Plan) (s : State) (x : Step) → Raised p s.progress.payload s.progress.made → CanStep p s x → Raised p (after_step p s x).progress.payload (after_step p s x).progress.made
raised_step p s (StartStep j) r g = r
raised_step p s (ApplyStep c) r g = r
raised_step p s (SignalStep e) r g = raised_progress p s.progress (SignalStep e) r g
raised_step p s (FinishStep j) r g = r
raised_step p s (AnswerStep j a) r g = r

pub raised_run : (p : Plan) (s : State) (xs : List Step) → Raised p s.progress.payload s.progress.made → RunFrom p s xs → Raised p (fold (after_step p) s xs).progress.payload (fold (after_step p) s xs).progress.made
raised_run p s [] r g = r
raised_run p s (x ∷ xs) r g = raised_run p (after_step p s x) xs (raised_step p s x r g.0) g.1

pub made_reached : (p : Plan) (steps : List Step) → Run p steps → (e t : ℕ) → chain_of p e ≡ Some t → (state_after p steps).progress.made e ≡ true → value p e ≤ (state_after p steps).progress.payload t
made_reached p steps run e t c m = raised_run p (opening_state p) steps (λ f u d n. absurd (false≢true n)) run e t c m
