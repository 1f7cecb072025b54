-- What a look-up finds.
use Rattle.std.proofs.Common.{◌≡◌, ℕ, zero, suc, ◌-◌, ◌<◌, ◌≤◌, Bool, true, false, cond, List, [], ◌∷◌, length, get_or, take, Some, None, refl, sym, ◌∙◌, ap, arith, subst}
use Rattle.std.specs.Prelude.{nat_le, if◌then◌else◌}
use Rattle.std.proofs.lemmas.Bool.Decides.{nat_tests}
use Rattle.vq_live.specs.declared.answers.Given.{Given}
use Rattle.std.specs.List.Sorted.{IsPartitionPoint}
use Rattle.vq_live.specs.declared.answers.Found.TheVariants as found_as
use Rattle.vq_live.specs.Live.{Live, KeepsLive, pending}
use Rattle.vq_live.specs.Calls.{found, found_of, first_at_least}

-- looking up
no_more : (v n k : ℕ) (xs : List Given) → ((j : ℕ) (d : Given) → 0 ≤ j → j < k → (get_or xs j d).value < v) → n ≤ k → n ≤ length xs → first_at_least v (take n xs) ≡ None
no_more v zero k xs h l m = refl
no_more v (suc n) k [] h l m = refl
no_more v (suc n) k (x ∷ xs) h l m =
    let below = h 0 x (omega arith) (omega arith) in
    let test : nat_le v x.value ≡ false = not_le v x.value below in
    ap (λ (b : Bool). cond b (Some x) (first_at_least v (take n xs))) test
    ∙ no_more v n (k - 1) xs (λ j d z q. h (suc j) d (omega arith) (omega arith)) (omega arith) (omega arith)
  where
    not_le : (a b : ℕ) → b < a → nat_le a b ≡ false
    not_le a b q = grind (arith, nat_tests)

first_is : (v n k : ℕ) (xs : List Given) (x : Given) → ((j : ℕ) (d : Given) → 0 ≤ j → j < k → (get_or xs j d).value < v) → v ≤ x.value → x ≡ get_or xs k x → k < n → n ≤ length xs → first_at_least v (take n xs) ≡ Some x
first_is v zero k xs x h a e l m = absurd (omega arith)
first_is v (suc n) k [] x h a e l m = absurd (omega arith)
first_is v (suc n) zero (y ∷ ys) x h a e l m =
    let test : nat_le v y.value ≡ true = is_le v y.value (subst (λ (z : Given). v ≤ z.value) e a) in
    ap (λ (b : Bool). cond b (Some y) (first_at_least v (take n ys))) test ∙ ap (λ (z : Given). Some z) (sym e)
  where
    is_le : (a b : ℕ) → a ≤ b → nat_le a b ≡ true
    is_le a b q = grind (arith, nat_tests)
first_is v (suc n) (suc k) (y ∷ ys) x h a e l m =
    let below = h 0 y (omega arith) (omega arith) in
    let test : nat_le v y.value ≡ false = not_le v y.value below in
    ap (λ (b : Bool). cond b (Some y) (first_at_least v (take n ys))) test
    ∙ first_is v n k ys x (λ j d z q. h (suc j) d (omega arith) (omega arith)) a e (omega arith) (omega arith)
  where
    not_le : (a b : ℕ) → b < a → nat_le a b ≡ false
    not_le a b q = grind (arith, nat_tests)

late : (t : Live) (v : ℕ) → t.payload < v → found t v ≡ found_of (first_at_least v (pending t))
late t v l =
    ap (λ (b : Bool). if b then found_as.Past else found_of (first_at_least v (pending t))) (not_le v t.payload l)
  where
    not_le : (a b : ℕ) → b < a → nat_le a b ≡ false
    not_le a b q = grind (arith, nat_tests)

pub found_none : (t : Live) (v k : ℕ) → KeepsLive t → t.payload < v → IsPartitionPoint (λ x. x.value < v) (λ x. v ≤ x.value) t.ops k → t.installed ≤ k → found_as.NotYet ≡ found t v
found_none t v k kept l p i =
    sym (late t v l ∙ ap found_of (no_more v t.installed k t.ops p.0 i kept.within))

pub found_some : (t : Live) (v k : ℕ) (x : Given) → KeepsLive t → t.payload < v → IsPartitionPoint (λ x. x.value < v) (λ x. v ≤ x.value) t.ops k → k < t.installed → x ≡ get_or t.ops k x → found_as.Pending x ≡ found t v
found_some t v k x kept l p i e =
    let within = kept.within in
    let above : v ≤ x.value = subst (λ (z : Given). v ≤ z.value) (sym e) (p.1 k x (omega arith) (omega arith)) in
    sym (late t v l ∙ ap found_of (first_is v t.installed k t.ops x p.0 above e i kept.within))
