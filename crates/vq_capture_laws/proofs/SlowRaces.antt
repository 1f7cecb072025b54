-- The pair that the slow verdict names is the named race, and where it names none all that conflict are ordered.
use Rattle.std.proofs.Common.{◌≡◌, ◌≤◌, Bool, true, false, List, [], ◌∷◌, if◌then◌else◌, refl, sym, ◌∙◌, ap, subst, inl, inr, arith, Option, Some, None}
use Rattle.std.specs.Prelude.{nat_lt, not, ◌&&◌}
use Rattle.std.specs.Option.{option_map_or}
use Rattle.std.specs.List.{list_all}
use Rattle.std.proofs.lemmas.Bool.{and_from, false≢true, not-true}
use Rattle.vq_ground.proofs.Bools.{never}
use Rattle.vq_ground.proofs.Tests.{below_of_test, below_test}
use Rattle.vq_capture.specs.declared.capture.Step.{Step}
use Rattle.vq_capture.specs.Points.{points_of_step, IsMember}
use Rattle.vq_capture.specs.Races.{conflict, Ordered, Conflicts, IsRace, AreOrdered, IsNamedRace}
use Rattle.vq_capture_laws.specs.Closure.{is_before, is_ordered, races, last_that, race_to, first_race}
use Rattle.vq_capture_laws.proofs.MemberFacts.{and_left, and_right, each_of_all, all_of_each, true_of_not, in_flat_map}
use Rattle.vq_capture_laws.proofs.BehindPoints.{before_by_test, test_of_before}
use Rattle.vq_capture_laws.proofs.PointOrder.{AreRising, points_in_order, same_step}

-- The last step that passes a test

pub record IsLast (test : Step → Bool) (steps : List Step) (a : Step) : Type 0 where
  pub member : IsMember a steps
  pub passes : test a ≡ true
  pub last : (c : Step) → IsMember c steps → test c ≡ true → c.line ≤ a.line

-- what the search says: the last step that passes, or that none does
abbrev pub Searched : (Step → Bool) → List Step → Option Step → Type 0
Searched test steps None = (c : Step) → IsMember c steps → test c ≡ true → ⊥
Searched test steps (Some a) = IsLast test steps a

pub searched : (test : Step → Bool) (steps : List Step) → AreRising steps → Searched test steps (last_that test steps)
searched test [] r = λ c m t. absurd m
searched test (x ∷ xs) r = by_rest (last_that test xs) (searched test xs r.1)
  where
    here : (c : Step) → IsMember c (x ∷ xs) → ((d : Step) → IsMember d xs → test d ≡ true → ⊥) → test c ≡ true → c.line ≤ x.line
    here c (inl e) none t = let h = ap (λ (s : Step). s.line) e in omega arith
    here c (inr m) none t = absurd (none c m t)

    by_here : (b : Bool) → test x ≡ b → ((d : Step) → IsMember d xs → test d ≡ true → ⊥) → Searched test (x ∷ xs) (if b then Some x else None)
    by_here true e none = record { member = inl refl; passes = e; last = λ c m t. here c m none t }
    by_here false e none = no
      where
        no : (c : Step) → IsMember c (x ∷ xs) → test c ≡ true → ⊥
        no c (inl i) t = never (sym e ∙ subst (λ (s : Step). test s ≡ true) i t)
        no c (inr m) t = none c m t

    by_rest : (o : Option Step) → Searched test xs o → Searched test (x ∷ xs) (option_map_or (λ y. Some y) o (if test x then Some x else None))
    by_rest None none = by_here (test x) refl none
    by_rest (Some a) f = record { member = inr f.member; passes = f.passes; last = last }
      where
        last : (c : Step) → IsMember c (x ∷ xs) → test c ≡ true → c.line ≤ a.line
        last c (inl e) t = let h = ap (λ (s : Step). s.line) e in let l = r.0 a f.member in omega arith
        last c (inr m) t = f.last c m t

module _ (steps : List Step) (rising : AreRising steps) where
  -- Order

  pub ordered_by_test : (a b : Step) → IsMember b steps → is_ordered steps a b ≡ true → Ordered steps a b
  ordered_by_test a b n h x y p q =
      before_by_test steps x y (in_flat_map points_of_step y b steps n q)
      (each_of_all (λ v. is_before steps x v) (points_of_step b) y
      (each_of_all (λ u. list_all (λ v. is_before steps u v) (points_of_step b)) (points_of_step a) x h p) q)

  pub test_of_ordered : (a b : Step) → Ordered steps a b → is_ordered steps a b ≡ true
  test_of_ordered a b o =
      all_of_each (λ u. list_all (λ v. is_before steps u v) (points_of_step b)) (points_of_step a)
      (λ x p. all_of_each (λ v. is_before steps x v) (points_of_step b)
      (λ y q. test_of_before steps x y (points_in_order steps rising) (o x y p q)))

  -- Races

  pub race_by_test : (a b : Step) → IsMember a steps → IsMember b steps → races steps a b ≡ true → IsRace steps a b
  race_by_test a b m n h = record {
    pair = record {
      first = m;
      second = n;
      above = below_of_test a.line b.line (and_left (nat_lt a.line b.line) (conflict a b && not (is_ordered steps a b)) h);
      conflicts = and_left (conflict a b) (not (is_ordered steps a b)) rest;
    };
    unordered = λ o. false≢true (sym (not-true (is_ordered steps a b) (and_right (conflict a b) (not (is_ordered steps a b)) rest)) ∙ test_of_ordered a b o);
  }
    where
      rest : (conflict a b && not (is_ordered steps a b)) ≡ true
      rest = and_right (nat_lt a.line b.line) (conflict a b && not (is_ordered steps a b)) h

  pub test_of_race : (a b : Step) → IsRace steps a b → races steps a b ≡ true
  test_of_race a b r =
      and_from (nat_lt a.line b.line) (conflict a b && not (is_ordered steps a b))
      (below_test a.line b.line r.pair.above)
      (and_from (conflict a b) (not (is_ordered steps a b)) r.pair.conflicts
      (true_of_not (is_ordered steps a b) (λ h. r.unordered (ordered_by_test a b r.pair.second h))))

  -- where no test holds, what conflicts is ordered
  pub ordered_without : (a b : Step) → Conflicts steps a b → (races steps a b ≡ true → ⊥) → Ordered steps a b
  ordered_without a b c none = by_test (is_ordered steps a b) refl
    where
      by_test : (t : Bool) → is_ordered steps a b ≡ t → Ordered steps a b
      by_test true e = ordered_by_test a b c.second e
      by_test false e =
          absurd (none
          (and_from (nat_lt a.line b.line) (conflict a b && not (is_ordered steps a b))
          (below_test a.line b.line c.above)
          (and_from (conflict a b) (not (is_ordered steps a b)) c.conflicts (ap not e))))

  -- The race that is named

  -- of the races that end at some steps
  pub record IsNamedOf (ends : List Step) (a b : Step) : Type 0 where
    pub race : IsRace steps a b
    pub ending : IsMember b ends
    pub least : (c d : Step) → IsMember d ends → IsRace steps c d → b.line ≤ d.line
    pub greatest : (c : Step) → IsRace steps c b → c.line ≤ a.line

  abbrev pub Names : List Step → Option (Step × Step) → Type 0
  Names ends None = (c d : Step) → IsMember d ends → IsRace steps c d → ⊥
  Names ends (Some pair) = IsNamedOf ends pair.0 pair.1

  pub names : (ends : List Step) → AreRising ends → ((d : Step) → IsMember d ends → IsMember d steps) → Names ends (first_race steps ends)
  names [] r f = λ c d m g. absurd m
  names (b ∷ bs) r f =
      by_search (race_to steps b) (searched (λ a. races steps a b) steps rising) (names bs r.1 (λ d m. f d (inr m)))
    where
      by_rest : (o : Option (Step × Step)) → ((c : Step) → IsMember c steps → races steps c b ≡ true → ⊥) → Names bs o → Names (b ∷ bs) o
      by_rest None none rest = no
        where
          no : (c d : Step) → IsMember d (b ∷ bs) → IsRace steps c d → ⊥
          no c d (inl e) g =
              let g' = subst (λ (s : Step). IsRace steps c s) e g in
              none c g'.pair.first (test_of_race c b g')
          no c d (inr m) g = rest c d m g
      by_rest (Some pair) none rest = record {
        race = rest.race;
        ending = inr rest.ending;
        least = least;
        greatest = rest.greatest;
      }
        where
          least : (c d : Step) → IsMember d (b ∷ bs) → IsRace steps c d → pair.1.line ≤ d.line
          least c d (inl e) g =
              let g' = subst (λ (s : Step). IsRace steps c s) e g in
              absurd (none c g'.pair.first (test_of_race c b g'))
          least c d (inr m) g = rest.least c d m g

      by_search : (o : Option Step) → Searched (λ a. races steps a b) steps o → Names bs (first_race steps bs) →
          Names (b ∷ bs) (option_map_or (λ a. Some (a, b)) o (first_race steps bs))
      by_search None none rest = by_rest (first_race steps bs) none rest
      by_search (Some a) found rest = record {
        race = race_by_test a b found.member (f b (inl refl)) found.passes;
        ending = inl refl;
        least = least;
        greatest = λ c g. found.last c g.pair.first (test_of_race c b g);
      }
        where
          least : (c d : Step) → IsMember d (b ∷ bs) → IsRace steps c d → b.line ≤ d.line
          least c d (inl e) g = let h = ap (λ (s : Step). s.line) e in omega arith
          least c d (inr m) g = let l = r.0 d m in omega arith

  -- what the slow search says of all steps
  abbrev pub Said : Option (Step × Step) → Type 0
  Said None = AreOrdered steps
  Said (Some pair) = IsNamedRace steps pair.0 pair.1

  pub said : (o : Option (Step × Step)) → Names steps o → Said o
  said None none = λ a b c. ordered_without a b c (λ h. none a b c.second (race_by_test a b c.first c.second h))
  said (Some pair) n = record {
    race = n.race;
    least = λ c d g. n.least c d g.pair.second g;
    greatest = n.greatest;
  }

  pub first_race_said : Said (first_race steps steps)
  first_race_said = said (first_race steps steps) (names steps rising (λ d m. m))

  -- Two named races are at the same lines
  pub same_named : (a b c d : Step) → IsNamedRace steps a b → IsNamedRace steps c d → (a.line ≡ c.line) × (b.line ≡ d.line)
  same_named a b c d p q = (firsts, seconds)
    where
      seconds : b.line ≡ d.line
      seconds = let l = p.least c d q.race in let m = q.least a b p.race in omega arith

      same : b ≡ d
      same = same_step steps b d rising p.race.pair.second q.race.pair.second seconds

      firsts : a.line ≡ c.line
      firsts =
          let l = q.greatest a (subst (λ (s : Step). IsRace steps a s) same p.race) in
          let m = p.greatest c (subst (λ (s : Step). IsRace steps c s) (sym same) q.race) in omega arith
