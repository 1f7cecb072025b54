-- A value may be read exactly where a payload had it in a state since the job's start.
use Rattle.std.proofs.Common.{◌≡◌, ℕ, Bool, true, List, [], ◌∷◌, inl, inr, ap, ◌∙◌, ◌<◌, ◌≤◌, false, ◌&&◌, eqb, ltb, ◌++◌, fold, Option, Some, refl, sym, ◌⊎◌, subst, arith}
use Rattle.std.specs.List.{list_any}
use Rattle.std.proofs.lemmas.Bool.{false≢true, or_cases, or_left, or_right, eqb-true, eq-eqb, ltb-true, lt-ltb, and_parts, and_from, cases_eq}
use Rattle.std.proofs.lemmas.Option.{same_Some}
use Rattle.vq_model.specs.Plan.{Plan, chain, initial, value, chain_of}
use Rattle.vq_ground.specs.Lists.{has}
use Rattle.vq_ground.proofs.Lists.{split_at, any_at, any_has}
use Rattle.vq_model.specs.WellFormed.{IsWellFormed}
use Rattle.vq_model.specs.SureOrder.{RisesFrom, KeepsChains}
use Rattle.vq_model.specs.Machine.{State, Step, StartStep, ApplyStep, SignalStep, FinishStep, AnswerStep, put, with_signal, CanStart, CanStep, after_step, RunFrom, was_since, opening_state, Run, state_after}
use Rattle.vq_run_laws.proofs.StateFacts.{Invariant}
use Rattle.vq_run_laws.proofs.KeptRuns.{keep, keep_run, run_keeps}
use Rattle.vq_model.proofs.Puts.{put_here, put_there, put_cases, put_keeps}
use Rattle.vq_run_laws.proofs.Payloads.{Raised, above_initial, raised_run}

-- Lists

module _ (p : Plan) where
  fold_append : (s : State) (xs ys : List Step) → fold (after_step p) s (xs ++ ys) ≡ fold (after_step p) (fold (after_step p) s xs) ys
  fold_append s [] ys = refl
  fold_append s (x ∷ xs) ys = fold_append (after_step p s x) xs ys

  run_parts : (s : State) (xs ys : List Step) → RunFrom p s (xs ++ ys) → RunFrom p s xs × RunFrom p (fold (after_step p) s xs) ys
  run_parts s [] ys r = (tt, r)
  run_parts s (x ∷ xs) ys r = let q = run_parts (after_step p s x) xs ys r.1 in ((r.0, q.0), q.1)

  -- made operations stay made, payloads only rise, and a started job keeps the payloads at its start
  record Later (j : ℕ) (s u : State) : Type 0 where
    still_made : (e : ℕ) → s.progress.made e ≡ true → u.progress.made e ≡ true
    rises : (t : ℕ) → s.progress.payload t ≤ u.progress.payload t
    still_started : s.progress.started j ≡ true → u.progress.started j ≡ true
    start_same : s.progress.started j ≡ true → (t : ℕ) → u.at_start j t ≡ s.at_start j t

  same_later : (j : ℕ) (s : State) → Later j s s
  same_later j s = record { still_made = λ e h. h; rises = λ t. (let l : s.progress.payload t ≤ s.progress.payload t = omega arith in l); still_started = λ h. h; start_same = λ h t. refl }

  later_later : (j : ℕ) (s u v : State) → Later j s u → Later j u v → Later j s v
  later_later j s u v a b =
      record {
        still_made = λ e h. b.still_made e (a.still_made e h);
        rises = λ t. (let l = a.rises t in let m = b.rises t in omega arith);
        still_started = λ h. b.still_started (a.still_started h);
        start_same = λ h t. b.start_same (a.still_started h) t ∙ a.start_same h t;
      }

  step_later : (j : ℕ) (s : State) (x : Step) → CanStep p s x → Later j s (after_step p s x)
  step_later j s (StartStep i) g =
      record {
        still_made = λ e h. h;
        rises = λ t. (let l : s.progress.payload t ≤ s.progress.payload t = omega arith in l);
        still_started = λ h. put_keeps s.progress.started i j h;
        start_same = λ h t. elim (cases_eq j i) [
          | inl e ↦ absurd (false≢true (sym g.waiting ∙ subst (λ z. s.progress.started z ≡ true) e h))
          | inr n ↦ ap (λ (f : ℕ → ℕ). f t) (put_there s.at_start i s.progress.payload j n)
        ];
      }
  step_later j s (ApplyStep c) g = record { still_made = λ e h. h; rises = λ t. (let l : s.progress.payload t ≤ s.progress.payload t = omega arith in l); still_started = λ h. h; start_same = λ h t. refl }
  step_later j s (SignalStep e) g =
      let P : Option ℕ → Type 0 = λ o. Later j s (record s { progress = with_signal p s.progress e o }) in
      subst P (sym g.in_chain) (record { still_made = λ f h. put_keeps s.progress.made e f h; rises = λ t. rises_at t (cases_eq t g.chain); still_started = λ h. h; start_same = λ h t. refl })
    where
      rises_at : (t : ℕ) → ((t ≡ g.chain) ⊎ (t ≡ g.chain → ⊥)) → s.progress.payload t ≤ put s.progress.payload g.chain (value p e) t
      rises_at t (inl q) =
          let a = ap s.progress.payload q in
          let b = ap (put s.progress.payload g.chain (value p e)) q ∙ put_here s.progress.payload g.chain (value p e) in
          let l = g.rises in
          omega arith
      rises_at t (inr q) = let b = put_there s.progress.payload g.chain (value p e) t q in omega arith
  step_later j s (FinishStep i) g = record { still_made = λ e h. h; rises = λ t. (let l : s.progress.payload t ≤ s.progress.payload t = omega arith in l); still_started = λ h. h; start_same = λ h t. refl }
  step_later j s (AnswerStep i a) g = record { still_made = λ e h. h; rises = λ t. (let l : s.progress.payload t ≤ s.progress.payload t = omega arith in l); still_started = λ h. h; start_same = λ h t. refl }

  run_later : (j : ℕ) (s : State) (xs : List Step) → RunFrom p s xs → Later j s (fold (after_step p) s xs)
  run_later j s [] r = same_later j s
  run_later j s (x ∷ xs) r = later_later j s (after_step p s x) (fold (after_step p) (after_step p s x) xs) (step_later j s x r.0) (run_later j (after_step p s x) xs r.1)

  -- the step that makes an operation sets its chain to its value
  made_by : (e t : ℕ) → chain_of p e ≡ Some t → (s : State) (x : Step) → CanStep p s x → s.progress.made e ≡ false → (after_step p s x).progress.made e ≡ true → (after_step p s x).progress.payload t ≡ value p e
  made_by e t c s (StartStep i) g n m = absurd (false≢true (sym n ∙ m))
  made_by e t c s (ApplyStep i) g n m = absurd (false≢true (sym n ∙ m))
  made_by e t c s (FinishStep i) g n m = absurd (false≢true (sym n ∙ m))
  made_by e t c s (AnswerStep i a) g n m = absurd (false≢true (sym n ∙ m))
  made_by e t c s (SignalStep f) g n m =
      let P : Option ℕ → Type 0 = λ o. (with_signal p s.progress f o).made e ≡ true → (with_signal p s.progress f o).payload t ≡ value p e in
      let q : P (Some g.chain) = λ h. (elim (put_cases s.progress.made f e h) [
        | inl i ↦ (let here = same_Some t g.chain (sym c ∙ (ap (chain_of p) i ∙ g.in_chain)) in ap (put s.progress.payload g.chain (value p f)) here ∙ (put_here s.progress.payload g.chain (value p f) ∙ ap (value p) (sym i)))
        | inr o ↦ absurd (false≢true (sym n ∙ o))
      ]) in
      subst P (sym g.in_chain) q m

  -- so there is a state in which the chain has the value of an operation that was made on the way
  record HasValue (t n : ℕ) (s : State) (xs : List Step) : Type 0 where
    front : List Step
    back : List Step
    whole : xs ≡ front ++ back
    has_value : (fold (after_step p) s front).progress.payload t ≡ n

  made_since : (e t : ℕ) → chain_of p e ≡ Some t → (s : State) (xs : List Step) → RunFrom p s xs → s.progress.made e ≡ false → (fold (after_step p) s xs).progress.made e ≡ true → HasValue t (value p e) s xs
  made_since e t c s [] r n m = absurd (false≢true (sym n ∙ m))
  made_since e t c s (x ∷ xs) r n m = by_test ((after_step p s x).progress.made e) refl (made_since e t c (after_step p s x) xs r.1)
    where
      by_test : (b : Bool) → (after_step p s x).progress.made e ≡ b → ((after_step p s x).progress.made e ≡ false → (fold (after_step p) (after_step p s x) xs).progress.made e ≡ true → HasValue t (value p e) (after_step p s x) xs) → HasValue t (value p e) s (x ∷ xs)
      by_test true q f = record { front = x ∷ []; back = xs; whole = refl; has_value = made_by e t c s x r.0 n q }
      by_test false q f = let v = f q m in record { front = x ∷ v.front; back = v.back; whole = ap (λ (zs : List Step). x ∷ zs) v.whole; has_value = v.has_value }

  module _ (w : IsWellFormed p) (ch : KeepsChains p) (j t n : ℕ) (s : State) (inv : Invariant p s.progress) (raised : Raised p s.progress.payload s.progress.made) (g : CanStart p s.progress j) (b : List Step) (run : RunFrom p (after_step p s (StartStep j)) b) where
    end_later : Later j (after_step p s (StartStep j)) (fold (after_step p) (after_step p s (StartStep j)) b)
    end_later = run_later j (after_step p s (StartStep j)) b run

    start_is : (fold (after_step p) (after_step p s (StartStep j)) b).at_start j t ≡ s.progress.payload t
    start_is = end_later.start_same (put_here s.progress.started j true) t ∙ ap (λ (f : ℕ → ℕ). f t) (put_here s.at_start j s.progress.payload)

    since_state : was_since p (fold (after_step p) (after_step p s (StartStep j)) b) j t n ≡ true → HasValue t n (after_step p s (StartStep j)) b
    since_state h =
        elim (or_cases (eqb n ((fold (after_step p) (after_step p s (StartStep j)) b).at_start j t)) (ltb ((fold (after_step p) (after_step p s (StartStep j)) b).at_start j t) n && list_any (λ e. (fold (after_step p) (after_step p s (StartStep j)) b).progress.made e && eqb (value p e) n) (chain p t)) h) [
          | inl i ↦ record { front = []; back = b; whole = refl; has_value = sym (eqb-true n ((fold (after_step p) (after_step p s (StartStep j)) b).at_start j t) i ∙ start_is) }
          | inr i ↦
              let parts = and_parts (ltb ((fold (after_step p) (after_step p s (StartStep j)) b).at_start j t) n) (list_any (λ e. (fold (after_step p) (after_step p s (StartStep j)) b).progress.made e && eqb (value p e) n) (chain p t)) i in
              let o = any_at (λ e. (fold (after_step p) (after_step p s (StartStep j)) b).progress.made e && eqb (value p e) n) (chain p t) parts.1 in
              let q = and_parts ((fold (after_step p) (after_step p s (StartStep j)) b).progress.made o.0) (eqb (value p o.0) n) o.2 in
              by_op o.0 o.1 q.0 (eqb-true (value p o.0) n q.1) (ltb-true ((fold (after_step p) (after_step p s (StartStep j)) b).at_start j t) n parts.0)
        ]
      where
        by_op : (e : ℕ) → has (chain p t) e ≡ true → (fold (after_step p) (after_step p s (StartStep j)) b).progress.made e ≡ true → value p e ≡ n → (fold (after_step p) (after_step p s (StartStep j)) b).at_start j t < n → HasValue t n (after_step p s (StartStep j)) b
        by_op e m made v l = subst (λ z. HasValue t z (after_step p s (StartStep j)) b) v (made_since e t (w.of_chain e t m) (after_step p s (StartStep j)) b run (unmade (s.progress.made e) refl) made)
          where
            unmade : (c : Bool) → s.progress.made e ≡ c → s.progress.made e ≡ false
            unmade false q = q
            unmade true q = let r = raised e t (w.of_chain e t m) q in let a = start_is in absurd (omega arith)

    state_since : HasValue t n (after_step p s (StartStep j)) b → was_since p (fold (after_step p) (after_step p s (StartStep j)) b) j t n ≡ true
    state_since v = by_case (cases_eq n ((fold (after_step p) (after_step p s (StartStep j)) b).at_start j t))
      where
        parts : RunFrom p (after_step p s (StartStep j)) v.front × RunFrom p (fold (after_step p) (after_step p s (StartStep j)) v.front) v.back
        parts = run_parts (after_step p s (StartStep j)) v.front v.back (subst (RunFrom p (after_step p s (StartStep j))) v.whole run)

        before : Later j (after_step p s (StartStep j)) (fold (after_step p) (after_step p s (StartStep j)) v.front)
        before = run_later j (after_step p s (StartStep j)) v.front parts.0

        ends : fold (after_step p) (fold (after_step p) (after_step p s (StartStep j)) v.front) v.back ≡ fold (after_step p) (after_step p s (StartStep j)) b
        ends = sym (fold_append (after_step p s (StartStep j)) v.front v.back) ∙ ap (fold (after_step p) (after_step p s (StartStep j))) (sym v.whole)

        still : (e : ℕ) → (fold (after_step p) (after_step p s (StartStep j)) v.front).progress.made e ≡ true → (fold (after_step p) (after_step p s (StartStep j)) b).progress.made e ≡ true
        still e h = ap (λ (u : State). u.progress.made e) (sym ends) ∙ (run_later j (fold (after_step p) (after_step p s (StartStep j)) v.front) v.back parts.1).still_made e h

        facts : Invariant p (fold (after_step p) (after_step p s (StartStep j)) v.front).progress
        facts = keep_run p w ch (after_step p s (StartStep j)) v.front (keep p w ch s (StartStep j) inv g) parts.0

        low : initial p t ≤ s.progress.payload t
        low = elim (inv.raised t) [
          | inl e ↦ (let l : initial p t ≤ s.progress.payload t = omega arith in l)
          | inr o ↦ (let f = split_at (chain p t) o.op o.in_chain in let a = above_initial p (initial p t) f.front f.back o.op (subst (RisesFrom p (initial p t)) f.whole (ch t)) in let q = o.sets in omega arith)
        ]

        by_case : ((n ≡ (fold (after_step p) (after_step p s (StartStep j)) b).at_start j t) ⊎ (n ≡ (fold (after_step p) (after_step p s (StartStep j)) b).at_start j t → ⊥)) → was_since p (fold (after_step p) (after_step p s (StartStep j)) b) j t n ≡ true
        by_case (inl e) = or_left (eqb n ((fold (after_step p) (after_step p s (StartStep j)) b).at_start j t)) (ltb ((fold (after_step p) (after_step p s (StartStep j)) b).at_start j t) n && list_any (λ e. (fold (after_step p) (after_step p s (StartStep j)) b).progress.made e && eqb (value p e) n) (chain p t)) (eq-eqb n ((fold (after_step p) (after_step p s (StartStep j)) b).at_start j t) e)
        by_case (inr d) =
            or_right (eqb n ((fold (after_step p) (after_step p s (StartStep j)) b).at_start j t)) (ltb ((fold (after_step p) (after_step p s (StartStep j)) b).at_start j t) n && list_any (λ e. (fold (after_step p) (after_step p s (StartStep j)) b).progress.made e && eqb (value p e) n) (chain p t))
            (and_from (ltb ((fold (after_step p) (after_step p s (StartStep j)) b).at_start j t) n) (list_any (λ e. (fold (after_step p) (after_step p s (StartStep j)) b).progress.made e && eqb (value p e) n) (chain p t)) (lt-ltb ((fold (after_step p) (after_step p s (StartStep j)) b).at_start j t) n above) some_op)
          where
            above : (fold (after_step p) (after_step p s (StartStep j)) b).at_start j t < n
            above = less ((fold (after_step p) (after_step p s (StartStep j)) b).at_start j t) n (let a = start_is in let l = before.rises t in let q = v.has_value in omega arith) d
              where
                less : (x y : ℕ) → x ≤ y → (y ≡ x → ⊥) → x < y
                less x y l e = grind arith

            some_op : list_any (λ e. (fold (after_step p) (after_step p s (StartStep j)) b).progress.made e && eqb (value p e) n) (chain p t) ≡ true
            some_op = elim (facts.raised t) [
              | inl e ↦ (let a = start_is in let l = low in let q = v.has_value in let u = above in absurd (omega arith))
              | inr o ↦ any_has (λ e. (fold (after_step p) (after_step p s (StartStep j)) b).progress.made e && eqb (value p e) n) (chain p t) o.op o.in_chain (and_from ((fold (after_step p) (after_step p s (StartStep j)) b).progress.made o.op) (eqb (value p o.op) n) (still o.op o.was_made) (eq-eqb (value p o.op) n (o.sets ∙ v.has_value)))
            ]

-- the same of runs
pub value_since : (p : Plan) → IsWellFormed p → KeepsChains p → (a b : List Step) (j t n : ℕ) → Run p (a ++ StartStep j ∷ b) → was_since p (state_after p (a ++ StartStep j ∷ b)) j t n ≡ true → (front back : List Step) × (b ≡ front ++ back) × ((state_after p (a ++ StartStep j ∷ front)).progress.payload t ≡ n)
value_since p w ch a b j t n run h =
    let r = run_parts p (opening_state p) a (StartStep j ∷ b) run in
    let v = since_state p w ch j t n (state_after p a) (run_keeps p w ch a r.0) (raised_run p (opening_state p) a (λ e u c m. absurd (false≢true m)) r.0) r.1.0 b r.1.1 (ap (λ (u : State). was_since p u j t n) (sym (fold_append p (opening_state p) a (StartStep j ∷ b))) ∙ h) in
    (v.front, v.back, v.whole, ap (λ (u : State). u.progress.payload t) (fold_append p (opening_state p) a (StartStep j ∷ v.front)) ∙ v.has_value)

pub since_value : (p : Plan) → IsWellFormed p → KeepsChains p → (a b : List Step) (j t n : ℕ) → Run p (a ++ StartStep j ∷ b) → (front back : List Step) → b ≡ front ++ back → (state_after p (a ++ StartStep j ∷ front)).progress.payload t ≡ n → was_since p (state_after p (a ++ StartStep j ∷ b)) j t n ≡ true
since_value p w ch a b j t n run front back q h =
    let r = run_parts p (opening_state p) a (StartStep j ∷ b) run in
    ap (λ (u : State). was_since p u j t n) (fold_append p (opening_state p) a (StartStep j ∷ b))
    ∙ state_since p w ch j t n (state_after p a) (run_keeps p w ch a r.0) (raised_run p (opening_state p) a (λ e u c m. absurd (false≢true m)) r.0) r.1.0 b r.1.1 (record {
      front = front;
      back = back;
      whole = q;
      has_value = ap (λ (u : State). u.progress.payload t) (sym (fold_append p (opening_state p) a (StartStep j ∷ front))) ∙ h;
    })
