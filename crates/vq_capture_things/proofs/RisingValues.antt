-- Signals of rising values: the first that reaches one, and one more.
use Rattle.std.proofs.Common.{◌≡◌, ◌<◌, ◌≤◌, ◌-◌, ◌+◌, ◌∙◌, ℕ, Bool, true, false, cond, List, [], ◌∷◌, ◌++◌, find, length, get_or, Option, Some, None, refl, sym, ap, subst, arith, nat_le}
use native.Mathlib.Decide.{dec_le}
use Rattle.std.specs.Prelude.{slice_get}
use Rattle.std.specs.Option.{option_map, option_map_or, option_to_list}
use Rattle.std.specs.List.{position_or_len}
use Rattle.std.proofs.lemmas.Bool.{false≢true}
use Rattle.std.proofs.lemmas.Bool.Decides.{nat_tests}
use Rattle.std.proofs.lemmas.Grind.{common_steps}
use Rattle.std.proofs.lemmas.Option.{slice_get_past, slice_get-get_or, none-some}
use Rattle.std.proofs.lemmas.List.{length-append}
use Rattle.std.proofs.lemmas.List.Folds.{find_at}
use Rattle.std.proofs.lemmas.List.Sums.{position_or_len_is, fails_before_first}
use Rattle.vq_capture_things.specs.declared.rise.Rise.{Rise}
use Rattle.vq_capture_things.specs.Facts.{IsRising, first_rise, is_reached, with_rise}

abbrev pub no_rise : Rise
no_rise = record { value = 0; line = 0 }

-- the last of some signals

last_at : (rises : List Rise) → 0 < length rises → slice_get rises (length rises - 1) ≡ Some (get_or rises (length rises - 1) no_rise)
last_at rises l = slice_get-get_or rises (length rises - 1) no_rise (omega arith)

reached_last : (w : ℕ) (rises : List Rise) → 0 < length rises → is_reached w rises ≡ nat_le w (get_or rises (length rises - 1) no_rise).value
reached_last w rises l = ap (λ (o : Option Rise). option_map_or (λ r. nat_le w r.value) o false) (last_at rises l)

some_reached : (w : ℕ) (rises : List Rise) → is_reached w rises ≡ true → 0 < length rises
some_reached w [] f = absurd (false≢true f)
some_reached w (r ∷ rises) f = omega arith

upto : (v w x : ℕ) → nat_le v w ≡ true → nat_le w x ≡ true → nat_le v x ≡ true
upto v w x a b = grind (arith, nat_tests)

-- a value that was reached is found
pub reached_found : (v w : ℕ) (rises : List Rise) → is_reached w rises ≡ true → nat_le v w ≡ true → find (λ r. nat_le v r.value) rises ≡ None → ⊥
reached_found v w rises f g none =
    by_place (some_reached w rises f)
  where
    p : Rise → Bool
    p r = nat_le v r.value

    place : ℕ
    place = position_or_len p rises

    long : length rises ≤ place
    long = elim (dec_le (length rises) place) [ yes h ↦ h | no h ↦ absurd (missed (omega arith)) ]
      where
        missed : place < length rises → ⊥
        missed h = none-some (get_or rises place no_rise) (sym none ∙ (find_at p rises ∙ slice_get-get_or rises place no_rise h))

    by_place : 0 < length rises → ⊥
    by_place l =
        false≢true
        (sym (fails_before_first p rises (length rises - 1) no_rise (let h = long in omega arith))
        ∙ upto v w (get_or rises (length rises - 1) no_rise).value g (sym (reached_last w rises l) ∙ f))

-- one more that raises the value
module _ (rises : List Rise) (r : Rise) (rising : IsRising rises) where
  abbrev more : List Rise
  more = rises ++ r ∷ []

  front : (i : ℕ) (d : Rise) → i < length rises → get_or more i d ≡ get_or rises i d
  front i d l = grind (arith, common_steps)

  last : (i : ℕ) (d : Rise) → i ≡ length rises → get_or more i d ≡ r
  last i d e = grind (arith, common_steps)

  same_default : (i : ℕ) (d e : Rise) → i < length rises → get_or rises i d ≡ get_or rises i e
  same_default i d e l = grind (arith, common_steps)

  below : is_reached r.value rises ≡ false → (i : ℕ) (d : Rise) → i < length rises → (get_or rises i d).value < r.value
  below f i d l = elim (dec_le (length rises) (i + 1)) [ yes h ↦ at_last (omega arith) | no h ↦ before (omega arith) ]
    where
      low : (get_or rises (length rises - 1) no_rise).value < r.value
      low =
          let e : nat_le r.value (get_or rises (length rises - 1) no_rise).value ≡ false = sym (reached_last r.value rises (omega arith)) ∙ f in
          grind (arith, nat_tests)

      low_d : (get_or rises (length rises - 1) d).value < r.value
      low_d = subst (λ (x : Rise). x.value < r.value) (same_default (length rises - 1) no_rise d (omega arith)) low

      at_last : i ≡ length rises - 1 → (get_or rises i d).value < r.value
      at_last e = subst (λ (n : ℕ). (get_or rises n d).value < r.value) (sym e) low_d

      before : i < length rises - 1 → (get_or rises i d).value < r.value
      before h = let a = rising i (length rises - 1) d h (omega arith) in let b = low_d in omega arith

  raised : is_reached r.value rises ≡ false → IsRising more
  raised f i k d l m = elim (dec_le (length rises) k) [ yes h ↦ at_end (let n = length-append rises (r ∷ []) in omega arith) | no h ↦ within (omega arith) ]
    where
      at_end : k ≡ length rises → (get_or more i d).value < (get_or more k d).value
      at_end e =
          subst (λ (x : Rise). (get_or more i d).value < x.value) (sym (last k d e))
          (subst (λ (x : Rise). x.value < r.value) (sym (front i d (omega arith))) (below f i d (omega arith)))

      within : k < length rises → (get_or more i d).value < (get_or more k d).value
      within h =
          subst (λ (x : Rise). (get_or more i d).value < x.value) (sym (front k d h))
          (subst (λ (x : Rise). x.value < (get_or rises k d).value) (sym (front i d (omega arith))) (rising i k d l h))

pub rising_with : (rises : List Rise) (r : Rise) → IsRising rises → IsRising (with_rise rises r)
rising_with rises r rising = by_test (is_reached r.value rises) refl
  where
    by_test : (b : Bool) → is_reached r.value rises ≡ b → IsRising (cond b rises (rises ++ r ∷ []))
    by_test true e = rising
    by_test false e = raised rises r rising e

-- the first that reaches a value, by its place
pub rise_at : (rises : List Rise) (v i : ℕ) → i ≤ length rises → ((k : ℕ) (d : Rise) → k < i → (get_or rises k d).value < v) → ((d : Rise) → i < length rises → v ≤ (get_or rises i d).value) → first_rise v rises ≡ option_to_list (option_map (λ r. r.line) (slice_get rises i))
rise_at rises v i l low high =
    ap (λ (o : Option Rise). option_to_list (option_map (λ r. r.line) o))
    (find_at p rises
    ∙ ap (λ (n : ℕ). slice_get rises n)
    (position_or_len_is p rises i no_rise l (λ k m. below_v (get_or rises k no_rise).value (low k no_rise m)) (λ m. above_v (get_or rises i no_rise).value (high no_rise m))))
  where
    p : Rise → Bool
    p r = nat_le v r.value

    below_v : (x : ℕ) → x < v → nat_le v x ≡ false
    below_v x h = grind (arith, nat_tests)

    above_v : (x : ℕ) → v ≤ x → nat_le v x ≡ true
    above_v x h = grind (arith, nat_tests)

-- the halves of some signals, by the one between them
module _ (rises : List Rise) (v : ℕ) (rising : IsRising rises) (m : ℕ) (inside : m < length rises) where
  as_given : (d : Rise) → get_or rises m no_rise ≡ get_or rises m d
  as_given d = grind (arith, common_steps)

  pub low_half : (get_or rises m no_rise).value < v → (k : ℕ) (d : Rise) → k < m + 1 → (get_or rises k d).value < v
  low_half low k d l = elim (dec_le m k) [ yes h ↦ at_m (omega arith) | no h ↦ before (omega arith) ]
    where
      low_d : (get_or rises m d).value < v
      low_d = subst (λ (x : Rise). x.value < v) (as_given d) low

      at_m : k ≡ m → (get_or rises k d).value < v
      at_m e = subst (λ (n : ℕ). (get_or rises n d).value < v) (sym e) low_d

      before : k < m → (get_or rises k d).value < v
      before h = let a = rising k m d h inside in let b = low_d in omega arith

  pub high_half : v ≤ (get_or rises m no_rise).value → (k : ℕ) (d : Rise) → m ≤ k → k < length rises → v ≤ (get_or rises k d).value
  high_half high k d l w = elim (dec_le k m) [ yes h ↦ at_m (omega arith) | no h ↦ behind (omega arith) ]
    where
      high_d : v ≤ (get_or rises m d).value
      high_d = subst (λ (x : Rise). v ≤ x.value) (as_given d) high

      at_m : k ≡ m → v ≤ (get_or rises k d).value
      at_m e = subst (λ (n : ℕ). v ≤ (get_or rises n d).value) (sym e) high_d

      behind : m < k → v ≤ (get_or rises k d).value
      behind h = let a = rising m k d h w in let b = high_d in omega arith

module _ (rises : List Rise) (v i : ℕ) (l : i ≤ length rises) (low : (k : ℕ) (d : Rise) → k < i → (get_or rises k d).value < v) (high : (d : Rise) → i < length rises → v ≤ (get_or rises i d).value) where
  pub rise_in : i < length rises → first_rise v rises ≡ (get_or rises i no_rise).line ∷ []
  rise_in h =
      rise_at rises v i l low high
      ∙ ap (λ (o : Option Rise). option_to_list (option_map (λ r. r.line) o)) (slice_get-get_or rises i no_rise h)

  pub rise_out : length rises ≤ i → first_rise v rises ≡ []
  rise_out h =
      rise_at rises v i l low high
      ∙ ap (λ (o : Option Rise). option_to_list (option_map (λ r. r.line) o)) (slice_get_past rises i h)
