-- Tests of the pairs of a list.
use Rattle.std.proofs.Common.{◌≡◌, Bool, List, Option, Some, None, [], ◌∷◌, false, not, true, ◌&&◌, ◌||◌, refl, ap, ◌∙◌}
use Rattle.std.specs.List.{list_all, list_any}
use Rattle.std.specs.Option.{option_to_list}
use Rattle.std.proofs.lemmas.Bool.{and_from, or_left, or_right}
use Rattle.vq_model.specs.declared.plan.Need.{Need}
use Rattle.vq_model.specs.Outputs.{IsIn, here, there}

pub any_of : (test : Need → Bool) (ns : List Need) (n : Need) → IsIn n ns → test n ≡ true → list_any test ns ≡ true
any_of test [] n i h = elim i [ ]
any_of test (m ∷ ns) _ here h = or_left (test m) (list_any test ns) h
any_of test (m ∷ ns) n (there i) h = or_right (test m) (list_any test ns) (any_of test ns n i h)

pub all_of : (test : Need → Bool) (ns : List Need) → ((n : Need) → IsIn n ns → test n ≡ true) → list_all test ns ≡ true
all_of test [] f = refl
all_of test (m ∷ ns) f = and_from (test m) (list_all test ns) (f m here) (all_of test ns (λ n i. f n (there i)))

pub not_all_of : (test : Need → Bool) (ns : List Need) (n : Need) → IsIn n ns → test n ≡ false → not (list_all test ns) ≡ true
not_all_of test [] n i h = elim i [ ]
not_all_of test (m ∷ ns) _ here h = ap (λ b. not (b && list_all test ns)) h
not_all_of test (m ∷ ns) n (there i) h = by_first (test m) (not_all_of test ns n i h)
  where
    by_first : (b : Bool) → not (list_all test ns) ≡ true → not (b && list_all test ns) ≡ true
    by_first true r = r
    by_first false r = refl

pub not_any_of : (test : Need → Bool) (ns : List Need) → ((n : Need) → IsIn n ns → test n ≡ false) → not (list_any test ns) ≡ true
not_any_of test [] f = refl
not_any_of test (m ∷ ns) f = ap (λ b. not (b || list_any test ns)) (f m here) ∙ not_any_of test ns (λ n i. f n (there i))

-- the pair that is chosen
pub picked : (x : Option Need) (n : Need) → IsIn n (option_to_list x) → x ≡ Some n
picked None n i = elim i [ ]
picked (Some m) _ here = refl
picked (Some m) n (there i) = elim i [ ]
