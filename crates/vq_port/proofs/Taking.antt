-- Facts on what was taken from a source, for those who read it several times.
use Rattle.std.proofs.Common.{◌≡◌, ℕ, ◌+◌, ◌<◌, ◌≤◌, List, [], ◌++◌, length, take, drop, Some, None, IfSome, OnSome, refl, sym, ◌∙◌, ap, subst, arith, append_assoc, length-append, length-take}
use Rattle.std.proofs.lemmas.Grind.{common_steps}
use Rattle.std.specs.declared.option.Option.{Option}
use Rattle.vq_port.specs.Reading.{Takes, TakesAtMost, IsAtEnd}

-- nothing was taken
pub takes_nothing : (x : Option (List ℕ)) → Takes [] x x
takes_nothing None = tt
takes_nothing (Some all) = refl

-- some bytes were taken, and then some more
pub takes_more : (a b : List ℕ) (x y z : Option (List ℕ)) → Takes a x y → Takes b y z → Takes (a ++ b) x z
takes_more a b None y z p q = tt
takes_more a b (Some all) None z p q = absurd p
takes_more a b (Some all) (Some rest) None p q = absurd q
takes_more a b (Some all) (Some rest) (Some last) p q = p ∙ (ap (λ (w : List ℕ). a ++ w) q ∙ sym (append_assoc a b last))

-- where nothing is left, what was taken is all
pub takes_all : (a : List ℕ) (x y : Option (List ℕ)) → Takes a x y → IsAtEnd y → IfSome x (λ all. a ≡ all)
takes_all a None y p e = tt
takes_all a (Some all) None p e = absurd p
takes_all a (Some all) (Some rest) p e = grind (arith, common_steps)

-- where nothing is left, that is told
pub takes_to_end : (a : List ℕ) (x y : Option (List ℕ)) → Takes a x y → IsAtEnd y → OnSome x (y ≡ Some [])
takes_to_end a None y p e = tt
takes_to_end a (Some all) None p e = absurd p
takes_to_end a (Some all) (Some rest) p e = ap (λ (w : List ℕ). Some w) e

-- what is left is the rest
pub takes_to : (n : ℕ) (a : List ℕ) (x y : Option (List ℕ)) → n ≡ length a → Takes a x y → IfSome x (λ all. y ≡ Some (drop n all))
takes_to n a None y e p = tt
takes_to n a (Some all) None e p = absurd p
takes_to n a (Some all) (Some rest) e p = ap (λ (w : List ℕ). Some w) (drop_after n a rest all e p)
  where
    drop_after : (n : ℕ) (a rest all : List ℕ) → n ≡ length a → all ≡ a ++ rest → rest ≡ drop n all
    drop_after n a rest all e p = grind (arith, common_steps)

-- some bytes were taken, and then the first n of some others, of which there are none
pub takes_no_others : (n : ℕ) (a b : List ℕ) (x y z : Option (List ℕ)) → n ≡ 0 → Takes a x y → Takes (take n b) y z → Takes a x z
takes_no_others n a b x y z e p q =
    let none : a ++ take n b ≡ a = grind (arith, common_steps) in
    subst (λ (w : List ℕ). Takes w x z) none (takes_more a (take n b) x y z p q)

-- one more was taken than n, so there were more than n
pub takes_past : (n : ℕ) (a : List ℕ) (x y : Option (List ℕ)) → n + 1 ≡ length a → Takes a x y → IfSome x (λ all. n < length all)
takes_past n a None y e p = tt
takes_past n a (Some all) None e p = absurd p
takes_past n a (Some all) (Some rest) e p = let f = ap length p in omega (arith, length-append a rest)

-- so many were taken as were there before and came with one read
pub taken_length : (a b : List ℕ) (n : ℕ) → n ≤ length b → length (a ++ take n b) ≡ length a + n
taken_length a b n h = omega (arith, length-append a (take n b), length-take n b)
