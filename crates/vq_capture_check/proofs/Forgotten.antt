-- What a command leaves of the accesses above it, one of its accesses after the other.
use Rattle.std.proofs.Common.{◌≡◌, ◌<◌, ◌+◌, ◌∙◌, Bool, true, false, ℕ, List, [], ◌∷◌, ◌++◌, cond, filter, refl, sym, ap, take, length, get_or}
use Rattle.std.specs.Prelude.{◌&&◌, ◌||◌, not}
use Rattle.std.proofs.lemmas.List.{append_assoc}
use Rattle.std.proofs.lemmas.List.Elements.{filter-append}
use Rattle.std.proofs.lemmas.List.Folds.{list_any_more, list_any_at}
use Rattle.vq_ground.proofs.Bools.{never}
use Rattle.vq_capture.specs.declared.capture.Step.{Step}
use Rattle.vq_capture.specs.Races.{same_command}
use Rattle.vq_capture_touched.specs.declared.touch.Touch.{Touch}
use Rattle.vq_capture_touched.specs.Standing.{stands_for}
use Rattle.vq_capture_check.specs.Watching.{Touched, goes_on, is_stood_for, with_touch}

filter_twice : (p q r : Touch → Bool) (xs : List Touch) → ((t : Touch) → r t ≡ (p t && q t)) → filter q (filter p xs) ≡ filter r xs
filter_twice p q r [] e = refl
filter_twice p q r (x ∷ xs) e = by (p x) refl (q x) refl (filter_twice p q r xs e)
  where
    by : (a : Bool) → p x ≡ a → (b : Bool) → q x ≡ b → filter q (filter p xs) ≡ filter r xs →
        filter q (cond (p x) (x ∷ filter p xs) (filter p xs)) ≡ cond (r x) (x ∷ filter r xs) (filter r xs)
    by true f true g h =
        ap (λ (c : Bool). filter q (cond c (x ∷ filter p xs) (filter p xs))) f
        ∙ (ap (λ (c : Bool). cond c (x ∷ filter q (filter p xs)) (filter q (filter p xs))) g
        ∙ (ap (λ (ys : List Touch). x ∷ ys) h
        ∙ sym (ap (λ (c : Bool). cond c (x ∷ filter r xs) (filter r xs)) (e x ∙ (λ i. f i && g i)))))
    by true f false g h =
        ap (λ (c : Bool). filter q (cond c (x ∷ filter p xs) (filter p xs))) f
        ∙ (ap (λ (c : Bool). cond c (x ∷ filter q (filter p xs)) (filter q (filter p xs))) g
        ∙ (h
        ∙ sym (ap (λ (c : Bool). cond c (x ∷ filter r xs) (filter r xs)) (e x ∙ (λ i. f i && g i)))))
    by false f b g h =
        ap (λ (c : Bool). filter q (cond c (x ∷ filter p xs) (filter p xs))) f
        ∙ (h
        ∙ sym (ap (λ (c : Bool). cond c (x ∷ filter r xs) (filter r xs)) (e x ∙ ap (λ (c : Bool). c && q x) f)))

abbrev left : Step → List Touch → Touch → Bool
left step ws t = not (is_stood_for step ws t)

not_either : (a b : Bool) → not (a || b) ≡ (not a && not b)
not_either true b = refl
not_either false b = refl

-- no access of a command that doesn't go on is of the step's
none_goes : (step : Step) (ws : List Touch) (i : ℕ) (w : Touch) → goes_on step ws ≡ false → i < length ws → same_command (get_or ws i w).step.command step.command ≡ false
none_goes step ws i w e l = by (same_command (get_or ws i w).step.command step.command) refl
  where
    by : (b : Bool) → same_command (get_or ws i w).step.command step.command ≡ b → same_command (get_or ws i w).step.command step.command ≡ false
    by false f = f
    by true f = never (sym e ∙ list_any_at (λ v. same_command v.step.command step.command) ws i w l f)

pub forgets_more : (step : Step) (ws : List Touch) (i : ℕ) (w : Touch) (xs old new : List Touch) → goes_on step ws ≡ false → i < length ws → old ≡ filter (left step (take i ws)) xs → new ≡ filter (λ t. not (stands_for (get_or ws i w).step t.step)) old → new ≡ filter (left step (take (i + 1) ws)) xs
forgets_more step ws i w xs old new e l g h =
    h
    ∙ (ap (λ (ys : List Touch). filter (λ t. not (stands_for (get_or ws i w).step t.step)) ys) g
    ∙ filter_twice (left step (take i ws)) (λ t. not (stands_for (get_or ws i w).step t.step)) (left step (take (i + 1) ws)) xs each)
  where
    before : (t v : Touch) → Bool
    before t v = not (same_command v.step.command step.command) && stands_for v.step t.step

    here : (t : Touch) → before t (get_or ws i w) ≡ stands_for (get_or ws i w).step t.step
    here t = ap (λ (c : Bool). not c && stands_for (get_or ws i w).step t.step) (none_goes step ws i w e l)

    each : (t : Touch) → left step (take (i + 1) ws) t ≡ (left step (take i ws) t && not (stands_for (get_or ws i w).step t.step))
    each t =
        ap (λ (c : Bool). not c) (list_any_more (before t) ws i w l)
        ∙ (ap (λ (c : Bool). not (is_stood_for step (take i ws) t || c)) (here t)
        ∙ not_either (is_stood_for step (take i ws) t) (stands_for (get_or ws i w).step t.step))

pub forgets_none : (step : Step) (ws xs : List Touch) → xs ≡ filter (left step (take 0 ws)) xs
forgets_none step ws [] = refl
forgets_none step ws (x ∷ xs) = ap (λ (ys : List Touch). x ∷ ys) (forgets_none step ws xs)

-- A command begins

module _ (a : Touch) (x : Touched) (e : goes_on a.step x.newest ≡ false) where
  abbrev kept : List Touch → List Touch
  kept ts = filter (left a.step x.newest) ts

  pub begun : (older newest : List Touch) → older ≡ kept x.older ++ x.newest → newest ≡ a ∷ [] → record { older = older; newest = newest } ≡ with_touch a x
  begun older newest f g =
      (λ i. record { older = f i; newest = g i })
      ∙ sym (ap (λ (b : Bool). cond b (record x { newest = x.newest ++ a ∷ [] }) (record { older = kept x.older ++ x.newest; newest = a ∷ [] })) e)

  -- of which most of the older ones are in an index
  pub begun_with : (index recent i1 r1 r2 older newest : List Touch) → x.older ≡ index ++ recent → i1 ≡ kept index → r1 ≡ kept recent → r2 ≡ r1 ++ x.newest → older ≡ i1 ++ r2 → newest ≡ a ∷ [] → record { older = older; newest = newest } ≡ with_touch a x
  begun_with index recent i1 r1 r2 older newest s e1 e2 e3 e4 g =
      begun older newest
      (e4
      ∙ ((λ i. e1 i ++ (e3 ∙ ap (λ (ts : List Touch). ts ++ x.newest) e2) i)
      ∙ (sym (append_assoc (kept index) (kept recent) x.newest)
      ∙ ap (λ (ts : List Touch). ts ++ x.newest) (sym (filter-append (left a.step x.newest) index recent) ∙ ap (λ (ts : List Touch). kept ts) (sym s)))))
      g
