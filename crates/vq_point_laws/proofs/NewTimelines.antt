-- A new timeline keeps its lists.
use Rattle.std.proofs.Common.{◌≡◌, ℕ, List, [], ◌++◌, length, None, replicate, refl, sym, ◌∙◌, ap, arith, subst}
use Rattle.std.proofs.lemmas.List.{length-replicate}
use Rattle.vq_point_laws.specs.Timeline.{KeepsLists, AreDistinct, new_timeline}
use Rattle.vq_ground.specs.Lists.{AreRisingFrom}
use Rattle.vq_point_laws.proofs.HeldPoints.{held, held_none, all_held}

-- A new timeline

pub new_keeps : (initial : ℕ) (values : List ℕ) → AreRisingFrom initial values → KeepsLists (new_timeline initial values)
new_keeps initial values h =
    let none = all_held (new_timeline initial values) ∙ none_held (length values) in
    record {
      rising = h;
      one_each = length-replicate (length values) None;
      in_order = omega arith;
      within = omega arith;
      had = λ k l. absurd (omega arith);
      between = refl;
      completion = tt;
      distinct = subst AreDistinct (sym none) tt;
      all = ap length none;
      few = omega arith;
    }
  where
    none_held : (n : ℕ) → held (replicate n None) ++ held [] ++ [] ≡ []
    none_held n = ap (λ (xs : List ℕ). xs ++ [] ++ []) (held_none n)
