-- The slow verdict is that of the definition, and the only one.
use Rattle.std.proofs.Common.{◌≡◌, ◌⊎◌, Bool, true, false, List, refl, sym, ◌∙◌, ap, inl, inr, Option, Some, None}
use Rattle.std.specs.Option.{option_map_or}
use Rattle.vq_capture.specs.declared.capture.Step.{Step}
use Rattle.vq_capture.specs.declared.capture.Fault.{Fault}
use Rattle.vq_capture.specs.declared.capture.Verdict.{Verdict}
use Rattle.vq_capture.specs.declared.capture.Verdict.TheVariants.{Ordered as IsInOrder, Race, Faulty}
use Rattle.vq_capture.specs.Reading.{Read}
use Rattle.vq_capture.specs.Races.{Conflicts, Ordered, IsRace, AreOrdered, IsNamedRace}
use Rattle.vq_capture.specs.Verdicts.{IsVerdictOf, NoneRace, TwoRace, FirstFault}
use Rattle.vq_capture_laws.specs.Closure.{first_race, is_ordered, slow_verdict_of}
use Rattle.vq_capture_laws.proofs.PointOrder.{AreRising}
use Rattle.vq_capture_laws.proofs.SlowRaces.{Said, first_race_said, same_named, ordered_by_test, test_of_ordered}
use Rattle.vq_ground.proofs.Bools.{never}

module _ (read : Read) (rising : AreRising read.steps) where
  -- the verdict by what the slow search finds, and by the fault
  abbrev by_parts : Option (Step × Step) → Option Fault → Verdict
  by_parts o f =
      option_map_or (λ pair. Race pair.0.line pair.1.line) o (option_map_or (λ fault. Faulty fault) f IsInOrder)

  given_by : (o : Option (Step × Step)) (f : Option Fault) → Said read.steps rising o → read.fault ≡ f → IsVerdictOf read (by_parts o f)
  given_by (Some pair) f s e = TwoRace pair.0 pair.1 s
  given_by None None s e = NoneRace s e
  given_by None (Some fault) s e = FirstFault fault s e

  pub given : IsVerdictOf read (slow_verdict_of read)
  given =
      given_by (first_race read.steps read.steps) read.fault (first_race_said read.steps rising) refl

  -- no race where all that conflict is ordered
  apart : AreOrdered read.steps → (a b : Step) → IsNamedRace read.steps a b → ⊥
  apart o a b n = n.race.unordered (o a b n.race.pair)

  without_race : (o : Option (Step × Step)) → Said read.steps rising o → AreOrdered read.steps → (f : Option Fault) → by_parts o f ≡ by_parts None f
  without_race None s g f = refl
  without_race (Some pair) s g f = absurd (apart g pair.0 pair.1 s)

  with_race : (o : Option (Step × Step)) → Said read.steps rising o → (a b : Step) → IsNamedRace read.steps a b → (f : Option Fault) → Race a.line b.line ≡ by_parts o f
  with_race None s a b n f = absurd (apart s a b n)
  with_race (Some pair) s a b n f = let e = same_named read.steps rising a b pair.0 pair.1 n s in λ i. Race (e.0 i) (e.1 i)

  pub only : (verdict : Verdict) → IsVerdictOf read verdict → verdict ≡ slow_verdict_of read
  only verdict (NoneRace o e) =
      sym (without_race (first_race read.steps read.steps) (first_race_said read.steps rising) o read.fault ∙ ap (λ f. by_parts None f) e)
  only verdict (TwoRace a b n) =
      with_race (first_race read.steps read.steps) (first_race_said read.steps rising) a b n read.fault
  only verdict (FirstFault fault o e) =
      sym (without_race (first_race read.steps read.steps) (first_race_said read.steps rising) o read.fault ∙ ap (λ f. by_parts None f) e)

-- two steps that conflict are ordered, or race
pub decided : (steps : List Step) (rising : AreRising steps) (a b : Step) → Conflicts steps a b → Ordered steps a b ⊎ IsRace steps a b
decided steps rising a b c = by_test (is_ordered steps a b) refl
  where
    by_test : (t : Bool) → is_ordered steps a b ≡ t → Ordered steps a b ⊎ IsRace steps a b
    by_test true e = inl (ordered_by_test steps rising a b c.second e)
    by_test false e = inr (record { pair = c; unordered = λ o. never (sym e ∙ test_of_ordered steps rising a b o) })
