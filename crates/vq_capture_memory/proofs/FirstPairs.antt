-- The pair that the slow search names: the one that ends first, and of those the one that begins last.
use Rattle.std.proofs.Common.{◌≡◌, ◌≤◌, Bool, true, List, [], ◌∷◌, ap, subst, inl, inr, refl, arith, Option, Some, None}
use Rattle.std.specs.Option.{option_map_or}
use Rattle.vq_capture.specs.declared.capture.Step.{Step}
use Rattle.vq_capture.specs.Points.{IsMember}
use Rattle.vq_capture_laws.specs.Closure.{last_that}
use Rattle.vq_capture_laws.proofs.Cited.{AreRising, Searched, searched}
use Rattle.vq_capture_memory.specs.SlowMemory.{first_pair}

module _ (test : Step → Step → Bool) (steps : List Step) (rising : AreRising steps) where
  -- of the pairs that end at some steps
  pub record IsFirst (ends : List Step) (a b : Step) : Type 0 where
    pub beginning : IsMember a steps
    pub ending : IsMember b ends
    pub passes : test a b ≡ true
    pub least : (c d : Step) → IsMember c steps → IsMember d ends → test c d ≡ true → b.line ≤ d.line
    pub greatest : (c : Step) → IsMember c steps → test c b ≡ true → c.line ≤ a.line

  abbrev pub Finds : List Step → Option (Step × Step) → Type 0
  Finds ends None = (c d : Step) → IsMember c steps → IsMember d ends → test c d ≡ true → ⊥
  Finds ends (Some pair) = IsFirst ends pair.0 pair.1

  pub finds : (ends : List Step) → AreRising ends → Finds ends (first_pair test steps ends)
  finds [] r = λ c d m n t. absurd n
  finds (b ∷ bs) r =
      by_search (last_that (λ a. test a b) steps) (searched (λ a. test a b) steps rising) (finds bs r.1)
    where
      by_rest : (o : Option (Step × Step)) → ((c : Step) → IsMember c steps → test c b ≡ true → ⊥) → Finds bs o → Finds (b ∷ bs) o
      by_rest None none rest = no
        where
          no : (c d : Step) → IsMember c steps → IsMember d (b ∷ bs) → test c d ≡ true → ⊥
          no c d m (inl e) t = none c m (subst (λ (s : Step). test c s ≡ true) e t)
          no c d m (inr n) t = rest c d m n t
      by_rest (Some pair) none rest = record {
        beginning = rest.beginning;
        ending = inr rest.ending;
        passes = rest.passes;
        least = least;
        greatest = rest.greatest;
      }
        where
          least : (c d : Step) → IsMember c steps → IsMember d (b ∷ bs) → test c d ≡ true → pair.1.line ≤ d.line
          least c d m (inl e) t = absurd (none c m (subst (λ (s : Step). test c s ≡ true) e t))
          least c d m (inr n) t = rest.least c d m n t

      by_search : (o : Option Step) → Searched (λ a. test a b) steps o → Finds bs (first_pair test steps bs) →
          Finds (b ∷ bs) (option_map_or (λ a. Some (a, b)) o (first_pair test steps bs))
      by_search None none rest = by_rest (first_pair test steps bs) none rest
      by_search (Some a) found rest = record {
        beginning = found.member;
        ending = inl refl;
        passes = found.passes;
        least = least;
        greatest = found.last;
      }
        where
          least : (c d : Step) → IsMember c steps → IsMember d (b ∷ bs) → test c d ≡ true → b.line ≤ d.line
          least c d m (inl e) t = let h = ap (λ (s : Step). s.line) e in omega arith
          least c d m (inr n) t = let l = r.0 d n in omega arith
