-- Once collection finds nothing more on a chain, what is past of it is what was signaled: so its past value is its
-- payload.
use Rattle.std.proofs.Common.{◌≡◌, ℕ, ◌≤◌, ◌&&◌, max, Bool, true, false, not, cond, if◌then◌else◌, List, [], ◌∷◌, map}
use Rattle.std.proofs.Common.{filter, find, Option, Some, None, refl, sym, subst, ap, ◌∙◌, ◌⊎◌, inl, inr, arith}
use Rattle.std.specs.Option.{option_map_or}
use Rattle.std.proofs.lemmas.Bool.{false≢true}
use Rattle.vq_model.specs.declared.plan.Event.{Event}
use Rattle.vq_model.specs.declared.plan.Event.TheVariants.{Bind, Complete, Signal}
use Rattle.vq_model.specs.Plan.{Plan, chain, chain_of, initial, value}
use Rattle.vq_ground.specs.Lists.{has}
use Rattle.vq_model.specs.WellFormed.{IsWellFormed}
use Rattle.vq_model.specs.SureOrder.{KeepsChains, RisesFrom}
use Rattle.vq_model.specs.SlowRun.{greatest}
use Rattle.vq_model.specs.Machine.{with_signal}
use Rattle.vq_ground.proofs.Lists.{has_here, has_there, has_cases, has-append_cases, split_at}
use Rattle.vq_model.proofs.Puts.{put_cases, put_keeps}
use Rattle.vq_ground.proofs.Searches.{find_splits}
use Rattle.vq_point_laws.specs.Points.{PointState, opening_points, is_pending, CanCome, after_event}
use Rattle.vq_order_laws.proofs.Cited.{rising_at}
use Rattle.vq_run_laws.proofs.Cited.{Invariant, RaisedTo, made_below, above_initial}
use Rattle.vq_turns.specs.Turns.{to_complete, past_value}
use Rattle.vq_turn_laws.specs.Worlds.{KeepsMade}

pub made_opening : (p : Plan) → KeepsMade (opening_points p)
made_opening p = record { made_bound = λ e m. absurd (false≢true m); past_made = λ e m. absurd (false≢true m) }

pub made_after : (p : Plan) (w : PointState) → KeepsMade w → (x : Event) → CanCome p w x → KeepsMade (after_event p w x)
made_after p w k (Bind e q) g = record
    { made_bound = λ f m. put_keeps w.bound e f (k.made_bound f m); past_made = k.past_made }
made_after p w k (Complete e) g =
    record {
      made_bound = k.made_bound;
      past_made = λ f m. elim
          (put_cases w.past e f m)
          [ inl s ↦ subst (λ (z : ℕ). w.machine.progress.made z ≡ true) (sym s) g.signaled | inr o ↦ k.past_made f o ];
    }
made_after p w k (Signal e) g = record
    { made_bound = λ f m. bound f (chain_of p e) m; past_made = λ f m. past f (chain_of p e) (k.past_made f m) }
  where
    bound : (f : ℕ) (o : Option ℕ) → (with_signal p w.machine.progress e o).made f ≡ true → w.bound f ≡ true
    bound f None m = k.made_bound f m
    bound f (Some t) m = elim
        (put_cases w.machine.progress.made e f m)
        [ inl s ↦ subst (λ (z : ℕ). w.bound z ≡ true) (sym s) g.bound | inr o ↦ k.made_bound f o ]

    past : (f : ℕ) (o : Option ℕ) → w.machine.progress.made f ≡ true →
        (with_signal p w.machine.progress e o).made f ≡ true
    past f None m = m
    past f (Some t) m = put_keeps w.machine.progress.made e f m
made_after p w k other g = record { made_bound = k.made_bound; past_made = k.past_made }

module _ (p : Plan) (w : PointState) where
  small : (es : List ℕ) (n v : ℕ) → n ≤ v → ((e : ℕ) → has es e ≡ true → w.past e ≡ true → value p e ≤ v) →
      greatest n (map (value p) (filter w.past es)) ≤ v
  small [] n v l f = l
  small (e ∷ es) n v l f = by_test (w.past e) refl (λ n' l'. small es n' v l' (λ g m. f g (has_there e es g m)))
    where
      by_test : (b : Bool) → w.past e ≡ b → ((n' : ℕ) → n' ≤ v → greatest n' (map (value p) (filter w.past es)) ≤ v) →
          greatest n (map (value p) (if b then e ∷ filter w.past es else filter w.past es)) ≤ v
      by_test true s r = r (max n (value p e)) (let x = f e (has_here e es) s in omega arith)
      by_test false s r = r n l

  first_below : (es : List ℕ) (n : ℕ) → n ≤ greatest n (map (value p) (filter w.past es))
  first_below [] n = omega arith
  first_below (e ∷ es) n = by_test (w.past e) (first_below es)
    where
      by_test : (b : Bool) → ((n' : ℕ) → n' ≤ greatest n' (map (value p) (filter w.past es))) →
          n ≤ greatest n (map (value p) (if b then e ∷ filter w.past es else filter w.past es))
      by_test true r = let x = r (max n (value p e)) in omega arith
      by_test false r = r n

  each_below : (es : List ℕ) (n e : ℕ) → has es e ≡ true → w.past e ≡ true →
      value p e ≤ greatest n (map (value p) (filter w.past es))
  each_below [] n e m s = absurd (false≢true m)
  each_below (g ∷ es) n e m s = by_test (w.past g) refl (has_cases g es e m) (λ n' r. each_below es n' e r s)
    where
      by_test : (b : Bool) → w.past g ≡ b → ((g ≡ e) ⊎ (has es e ≡ true)) →
          ((n' : ℕ) → has es e ≡ true → value p e ≤ greatest n' (map (value p) (filter w.past es))) →
          value p e ≤ greatest n (map (value p) (if b then g ∷ filter w.past es else filter w.past es))
      by_test true i (inl q) f = let x = first_below es (max n (value p g)) in let y : value p g ≡ value p e = ap
          (value p) q in omega arith
      by_test true i (inr r) f = f (max n (value p g)) r
      by_test false i (inl q) f = absurd (false≢true (sym i ∙ (ap w.past q ∙ s)))
      by_test false i (inr r) f = f n r

  module _ (wf : IsWellFormed p) (ch : KeepsChains p) (inv : Invariant p w.machine.progress) (k : KeepsMade w) where
    -- what was signaled of a chain is past, where nothing of it is to be completed
    pub signaled_past : (t : ℕ) → to_complete p w t ≡ None → (e : ℕ) → has (chain p t) e ≡ true →
        w.machine.progress.made e ≡ true → w.past e ≡ true
    signaled_past t none e m made = by_found (find (is_pending w) (chain p t)) refl none
      where
        past_of : (b c : Bool) → b ≡ true → (b && not c) ≡ false → c ≡ true
        past_of true true s n = refl
        past_of true false s n = absurd (false≢true (sym n))
        past_of false c s n = absurd (false≢true s)

        none_pends : (es : List ℕ) → find (is_pending w) es ≡ None → (g : ℕ) → has es g ≡ true → is_pending w g ≡ false
        none_pends [] s g i = absurd (false≢true i)
        none_pends (x ∷ xs) s g i = by_test (is_pending w x) refl (none_pends xs)
          where
            by_test : (b : Bool) → is_pending w x ≡ b →
                (find (is_pending w) xs ≡ None → (g : ℕ) → has xs g ≡ true → is_pending w g ≡ false) →
                is_pending w g ≡ false
            by_test true q f = absurd (let z = sym (ap (λ b. cond b (Some x) (find (is_pending w) xs)) q) ∙ s in cc)
            by_test false q f =
                elim (has_cases x xs g i) [
                  | inl r ↦ subst (λ (z : ℕ). is_pending w z ≡ false) r q
                  | inr r ↦ f (sym (ap (λ b. cond b (Some x) (find (is_pending w) xs)) q) ∙ s) g r
                ]

        by_made : (f : ℕ) → find (is_pending w) (chain p t) ≡ Some f → (b : Bool) → w.machine.progress.made f ≡ b →
            (if b then Some f else None) ≡ None → w.past e ≡ true
        by_made f is true s n = absurd (let z = n in cc)
        by_made f is false s n =
            let x = find_splits (is_pending w) (chain p t) f is in
            elim (has-append_cases x.front (f ∷ x.back) e (subst (λ us. has us e ≡ true) x.whole m)) [
              | inl i ↦ past_of (w.bound e) (w.past e) (k.made_bound e made) (x.fail e i)
              | inr i ↦ elim (has_cases f x.back e i) [
                | inl q ↦ absurd (false≢true (sym s ∙ (ap w.machine.progress.made q ∙ made)))
                | inr r ↦
                    let rise = rising_at p (initial p t) x.front x.back f
                    (subst (RisesFrom p (initial p t)) x.whole (ch t)) in
                    absurd (false≢true (sym s
                    ∙ made_below p wf ch w.machine.progress.payload w.machine.progress.started
                    w.machine.progress.finished w.machine.progress.made w.machine.progress.applied inv f x.back e
                    rise r made))
              ]
            ]

        by_found : (o : Option ℕ) → find (is_pending w) (chain p t) ≡ o →
            option_map_or (λ f. if w.machine.progress.made f then Some f else None) o None ≡ None → w.past e ≡ true
        by_found None is n = past_of (w.bound e) (w.past e) (k.made_bound e made) (none_pends (chain p t) is e m)
        by_found (Some f) is n = by_made f is (w.machine.progress.made f) refl n

    -- The payload is at least the value of each operation made, as in every run.
    pub past_is_payload : (t : ℕ) →
        ((e : ℕ) → chain_of p e ≡ Some t → w.machine.progress.made e ≡ true →
        value p e ≤ w.machine.progress.payload t) → to_complete p w t ≡ None →
        past_value p w t ≡ w.machine.progress.payload t
    past_is_payload t raised none =
        let below = small (chain p t) (initial p t) (w.machine.progress.payload t) start
        (λ e m s. raised e (wf.of_chain e t m) (k.past_made e s)) in
        let above = at_least (inv.raised t) in
        omega arith
      where
        start : initial p t ≤ w.machine.progress.payload t
        start =
            elim (inv.raised t) [
              | inl e ↦ omega arith
              | inr o ↦
                  let x = split_at (chain p t) o.op o.in_chain in
                  let less = above_initial p (initial p t) x.front x.back o.op
                  (subst (RisesFrom p (initial p t)) x.whole (ch t)) in
                  let s = o.sets in
                  omega arith
            ]

        at_least : (w.machine.progress.payload t ≡ initial p t) ⊎ RaisedTo p w.machine.progress.made t
            (w.machine.progress.payload t) → w.machine.progress.payload t ≤ past_value p w t
        at_least (inl e) = let x = first_below (chain p t) (initial p t) in omega arith
        at_least (inr o) =
            let x = each_below (chain p t) (initial p t) o.op o.in_chain
            (signaled_past t none o.op o.in_chain o.was_made) in
            let s = o.sets in
            omega arith
