-- The lines of parts of units: each is at least that of each access that begins there.
use Rattle.std.proofs.Common.{◌≡◌, ◌<◌, ◌≤◌, ◌+◌, ◌*◌, ◌/◌, ◌∙◌, Bool, true, false, ℕ, zero, suc, List, [], ◌∷◌, ◌++◌, Option, Some, None, refl, sym, ap, subst, inl, inr, arith, length, get_or, set, replicate}
use Rattle.std.specs.Prelude.{IfSome, nat_lt, unwrap_or, ◌⊎◌}
use Rattle.std.proofs.lemmas.List.{get_or_append_left}
use Rattle.std.proofs.Math.Seq.{get_or-append_seam}
use Rattle.vq_ground.proofs.Tests.{at_least_of_test, below_of_test}
use Rattle.std.proofs.lemmas.Grind.{common_steps}
use Rattle.std.proofs.lemmas.Nat.{le-div, div-add-mod'}
use Rattle.std.proofs.Math.Nat.{div-zero, div-mul-le_self, div-div-eq-div-mul, mod-lt}

-- Parts

pub part_mono : (a b w : ℕ) → a ≤ b → a / w ≤ b / w
part_mono a b zero l = subst (λ (n : ℕ). n ≤ b / zero) (sym (div-zero a)) (omega arith)
part_mono a b (suc w) l = le-div (a / suc w) b (suc w) (omega arith) (omega (arith, div-mul-le_self a (suc w)))

-- Bounds by them

pub bound_default : (xs : List ℕ) (k n d e : ℕ) → n ≤ e → n ≤ get_or xs k d → n ≤ get_or xs k e
bound_default xs k n d e l m = grind (arith, common_steps)

pub bound_set : (xs : List ℕ) (p k n d e : ℕ) → n ≤ e → n ≤ get_or xs k d → n ≤ get_or (set xs p e) k e
bound_set xs p k n d e l m = grind (arith, common_steps)

pub own_set : (xs : List ℕ) (p n e : ℕ) → n ≤ e → n ≤ get_or (set xs p e) p e
own_set xs p n e l = grind (arith, common_steps)

all_alike : (count k d : ℕ) → get_or (replicate count d) k d ≡ d
all_alike count k d = grind (arith, common_steps)

pub bound_alike : (xs : List ℕ) (count k n d : ℕ) → xs ≡ replicate count d → n ≤ d → n ≤ get_or xs k d
bound_alike xs count k n d e l =
    subst (λ (ys : List ℕ). n ≤ get_or ys k d) (sym e) (subst (λ (m : ℕ). n ≤ m) (sym (all_alike count k d)) l)

-- A part marked with a line

pub own_marked : (old new : List ℕ) (part q line n : ℕ) → part ≡ q → new ≡ set old part line → n ≤ line → n ≤ get_or new q line
own_marked old new part q line n e f l =
    subst (λ (k : ℕ). n ≤ get_or new k line) e
    (subst (λ (xs : List ℕ). n ≤ get_or xs part line) (sym f) (own_set old part n line l))

pub bound_marked : (old new : List ℕ) (part k before line n : ℕ) → new ≡ set old part line → before ≤ line → n ≤ before → n ≤ get_or old k before → n ≤ get_or new k line
bound_marked old new part k before line n f b l m =
    subst (λ (xs : List ℕ). n ≤ get_or xs k line) (sym f)
    (bound_set old part k n before line (omega arith) m)

-- Parts that are joined

pub joined_parts : (k times part : ℕ) → k / times ≡ part → part * times ≤ k
joined_parts k times part e = subst (λ (n : ℕ). n * times ≤ k) e (div-mul-le_self k times)

pub joined_end : (k times part : ℕ) → k / times ≡ part → 0 < times → k < part * times + times
joined_end k times part e p =
    subst (λ (n : ℕ). k < n * times + times) e (omega (arith, div-add-mod' k times, mod-lt k p))

pub joined_least : (xs : List ℕ) (found : Option ℕ) (first last latest k n result : ℕ) → IfSome found (λ line. (j d : ℕ) → first ≤ j → j ≤ last → get_or xs j d ≤ line) → result ≡ unwrap_or found latest → first ≤ k → k ≤ last → n ≤ latest → n ≤ get_or xs k latest → n ≤ result
joined_least xs None first last latest k n result f e l m a b = omega (arith, e)
joined_least xs (Some line) first last latest k n result f e l m a b =
    let most : get_or xs k latest ≤ line = f k latest l m in
    let is : result ≡ line = e in
    omega arith

pub either : (a b : ℕ) → (a < b) ⊎ (b ≤ a)
either a b = by (nat_lt a b) refl
  where
    by : (t : Bool) → nat_lt a b ≡ t → (a < b) ⊎ (b ≤ a)
    by true h = inl (below_of_test a b h)
    by false h = inr (at_least_of_test a b h)

module _ (all : List ℕ) (x q d : ℕ) where
  last_kept : (n : ℕ) → q < length all → n ≤ get_or all q d → n ≤ get_or (all ++ x ∷ []) q d
  last_kept n l m = subst (λ (j : ℕ). n ≤ j) (sym (get_or_append_left all (x ∷ []) d q l)) m

  last_put : (n : ℕ) → q ≡ length all → n ≤ x → n ≤ get_or (all ++ x ∷ []) q d
  last_put n e m =
      subst (λ (p : ℕ). n ≤ get_or (all ++ x ∷ []) p d) (sym e)
      (subst (λ (j : ℕ). n ≤ j) (sym (get_or-append_seam all x [] d)) m)

pub joined_more : (xs all new : List ℕ) (times part latest x : ℕ) → length all ≡ part → new ≡ all ++ x ∷ [] → ((k n : ℕ) → k / times < part → n ≤ latest → n ≤ get_or xs k latest → n ≤ get_or all (k / times) latest) → ((k n : ℕ) → k / times ≡ part → n ≤ latest → n ≤ get_or xs k latest → n ≤ x) → (k n : ℕ) → k / times < part + 1 → n ≤ latest → n ≤ get_or xs k latest → n ≤ get_or new (k / times) latest
joined_more xs all new times part latest x l e f g k n b a m =
    subst (λ (ys : List ℕ). n ≤ get_or ys (k / times) latest) (sym e)
    (elim (either (k / times) part) [
      | inl h ↦ last_kept all x (k / times) latest n (subst (λ (j : ℕ). k / times < j) (sym l) h) (f k n h a m)
      | inr h ↦ let same : k / times ≡ part = omega arith in
          last_put all x (k / times) latest n (same ∙ sym l) (g k n same a m)
    ])

-- Parts so many times longer

pub longer : (xs new : List ℕ) (times width wide unit latest n : ℕ) → ((k m : ℕ) → m ≤ latest → m ≤ get_or xs k latest → m ≤ get_or new (k / times) latest) → wide ≡ width * times → n ≤ latest → n ≤ get_or xs (unit / width) latest → n ≤ get_or new (unit / wide) latest
longer xs new times width wide unit latest n f e l m =
    subst (λ (j : ℕ). n ≤ get_or new j latest)
    (div-div-eq-div-mul unit width times ∙ ap (λ (w : ℕ). unit / w) (sym e))
    (f (unit / width) n l m)

-- Units between two parts

pub between : (xs : List ℕ) (width low high unit latest line : ℕ) → ((k d : ℕ) → low / width ≤ k → k ≤ high / width → get_or xs k d ≤ line) → low ≤ unit → unit ≤ high → get_or xs (unit / width) latest ≤ line
between xs width low high unit latest line f l m =
    f (unit / width) latest (part_mono low unit width l) (part_mono unit high width m)
