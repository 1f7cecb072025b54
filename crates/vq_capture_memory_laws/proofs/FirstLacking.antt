-- The first step that lacks a write, of all steps.
use Rattle.std.proofs.Common.{◌≡◌, ◌≤◌, ◌<◌, Bool, true, false, ℕ, List, [], ◌∷◌, ◌++◌, refl, sym, ◌∙◌, ap, subst, inl, inr, arith, Option, Some, None}
use Rattle.std.specs.Prelude.{nat_lt}
use Rattle.std.specs.Option.{option_map_or}
use Rattle.std.proofs.lemmas.List.{append_assoc, append-nil}
use Rattle.vq_ground.proofs.Tests.{below_of_test, at_least_of_test}
use Rattle.vq_capture.specs.declared.capture.Step.{Step}
use Rattle.vq_capture.specs.Points.{IsMember}
use Rattle.vq_capture.specs.Races.{Conflicts}
use Rattle.vq_capture_laws.proofs.Cited.{AreRising, in_either}
use Rattle.vq_capture_clocks_laws.proofs.Cited.{in_front_of}
use Rattle.vq_capture_memory.specs.UnseenWrites.{asks_memory, Sees}
use Rattle.vq_capture_seen.specs.Ways.{ToldPoint, told_points}
use Rattle.vq_capture_memory_judge.specs.ToldSteps.{told_on, first_lacking}
use Rattle.vq_capture_memory_laws.specs.FindingUnseen.{IsLacking, FindsUnseen, released_by, points_on, found_unseen}
use Rattle.vq_capture_memory_laws.proofs.FoundUnseen.{finds_unseen}

points_more : (pre xs : List Step) (s : Step) → points_on pre (xs ++ s ∷ []) ≡ points_on pre xs ++ told_points s (released_by (pre ++ xs) s)
points_more pre [] s =
    append-nil (told_points s (released_by pre s))
    ∙ ap (λ (l : List Step). told_points s (released_by l s)) (sym (append-nil pre))
points_more pre (x ∷ xs) s =
    ap (λ (l : List ToldPoint). told_points x (released_by pre x) ++ l) (points_more (pre ++ x ∷ []) xs s
    ∙ ap (λ (l : List Step). points_on (pre ++ x ∷ []) xs ++ told_points s (released_by l s)) (append_assoc pre (x ∷ []) xs))
    ∙ sym (append_assoc (told_points x (released_by pre x)) (points_on (pre ++ x ∷ []) xs) (told_points s (released_by (pre ++ x ∷ xs) s)))

module _ (steps : List Step) (rising : AreRising steps) where
  -- what is said of a pair: it lacks, and none that ends above does; or none does
  pub record IsFirstLacking (a b : Step) : Type 0 where
    pub lacks : IsLacking steps a b
    pub least : (c d : Step) → IsLacking steps c d → b.line ≤ d.line
    pub greatest : (c : Step) → IsLacking steps c b → c.line ≤ a.line

  abbrev pub LackSaid : Option (ℕ × ℕ) → Type 0
  LackSaid None = (a b : Step) → Conflicts steps a b → asks_memory a b ≡ true → Sees steps a b
  LackSaid (Some pair) = (a b : Step) × IsFirstLacking a b × (a.line ≡ pair.0) × (b.line ≡ pair.1)

  abbrev NoneLacks : List Step → Type 0
  NoneLacks above = (c d : Step) → IsMember d above → Conflicts steps c d → asks_memory c d ≡ true → Sees steps c d

  none_with : (above : List Step) (b : Step) → NoneLacks above → FindsUnseen steps b None → NoneLacks (above ++ b ∷ [])
  none_with above b none f c d m k q = elim (in_either d above (b ∷ []) m) [ inl n ↦ none c d n k q | inr n ↦ at n ]
    where
      at : IsMember d (b ∷ []) → Sees steps c d
      at (inl e) =
          subst (λ (t : Step). Sees steps c t) (sym e)
          (f c (subst (λ (t : Step). Conflicts steps c t) e k) (subst (λ (t : Step). asks_memory c t ≡ true) e q))
      at (inr n) = absurd n

  first_here : (above rest : List Step) (b : Step) → steps ≡ above ++ b ∷ rest → NoneLacks above → (line : ℕ) → FindsUnseen steps b (Some line) → LackSaid (Some (line, b.line))
  first_here above rest b all none line (a, l, e, g) =
      (a, b, record { lacks = l; least = least; greatest = g }, e, refl)
    where
      least : (c d : Step) → IsLacking steps c d → b.line ≤ d.line
      least c d k = by_test (nat_lt d.line b.line) refl
        where
          by_test : (t : Bool) → nat_lt d.line b.line ≡ t → b.line ≤ d.line
          by_test false i = at_least_of_test d.line b.line i
          by_test true i =
              absurd (k.unseen (none c d (in_front_of above rest b d (subst (λ (s : List Step). AreRising s) all rising) (subst (λ (s : List Step). IsMember d s) all k.pair.second) (below_of_test d.line b.line i)) k.pair k.asked))

  finds_first : (below above : List Step) → steps ≡ above ++ below → NoneLacks above → LackSaid (first_lacking (points_on [] above) (told_on above below))
  finds_first [] above all none = λ a b k q.
      none a b (subst (λ (l : List Step). IsMember b l) (all ∙ append-nil above) k.second) k q
  finds_first (b ∷ rest) above all none =
      by (found_unseen above b) (finds_unseen steps rising above rest b all)
      (λ n. finds_first rest (above ++ b ∷ []) (all ∙ sym (append_assoc above (b ∷ []) rest)) n)
    where
      by : (o : Option ℕ) → FindsUnseen steps b o →
          (NoneLacks (above ++ b ∷ []) → LackSaid (first_lacking (points_on [] (above ++ b ∷ [])) (told_on (above ++ b ∷ []) rest))) →
          LackSaid (option_map_or (λ line. Some (line, b.line)) o (first_lacking (points_on [] above ++ told_points b (released_by above b)) (told_on (above ++ b ∷ []) rest)))
      by None f next =
          subst (λ (p : List ToldPoint). LackSaid (first_lacking p (told_on (above ++ b ∷ []) rest))) (points_more [] above b)
          (next (none_with above b none f))
      by (Some line) f next = first_here above rest b all none line f

  pub lack_said : LackSaid (first_lacking [] (told_on [] steps))
  lack_said = finds_first steps [] refl (λ c d m. absurd m)
