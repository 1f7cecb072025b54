-- What comes first of the verdict without memory and of the first step that lacks a write is the verdict with memory.
use Rattle.std.proofs.Common.{◌≡◌, ◌⊎◌, ◌<◌, ◌≤◌, Bool, true, false, ℕ, List, if◌then◌else◌, refl, sym, ◌∙◌, ap, subst, inl, inr, arith, Option, Some, None}
use Rattle.std.specs.Prelude.{nat_lt}
use Rattle.vq_ground.proofs.Tests.{below_of_test, at_least_of_test}
use Rattle.vq_capture.specs.declared.capture.Step.{Step}
use Rattle.vq_capture.specs.declared.capture.Verdict.{Verdict}
use Rattle.vq_capture.specs.declared.capture.Verdict.TheVariants.{Ordered as IsInOrder, Race, Faulty}
use Rattle.vq_capture.specs.Reading.{Read, read_capture}
use Rattle.vq_capture.specs.Races.{Ordered, IsRace, AreOrdered, IsNamedRace}
use Rattle.vq_capture.specs.Verdicts.{IsVerdictOf, NoneRace, TwoRace, FirstFault}
use Rattle.vq_capture_laws.proofs.Cited.{AreRising, read_rises, decided}
use Rattle.vq_capture_judge_laws.proofs.Cited.{judges}
use Rattle.vq_capture_memory.specs.declared.verdict.MemoryVerdict.{MemoryVerdict}
use Rattle.vq_capture_memory.specs.declared.verdict.MemoryVerdict.TheVariants.{AllSeen, Racing, NotSeen, Refused}
use Rattle.vq_capture_memory.specs.UnseenWrites.{IsUnseen, IsNamedUnseen}
use Rattle.vq_capture_memory.specs.MemoryVerdicts.{IsMemoryVerdict, IsMemoryVerdictOf, NoneUnseen, FirstRace, FirstUnseen, FaultFirst}
use Rattle.vq_capture_memory.proofs.Cited.{only as only_slow}
use Rattle.vq_capture_memory_judge.specs.ToldSteps.{lacking_in}
use Rattle.vq_capture_memory_judge.specs.MemoryJudging.{combined, memory_judged}
use Rattle.vq_capture_memory_laws.specs.FindingUnseen.{IsLacking}
use Rattle.vq_capture_memory_laws.proofs.FirstLacking.{IsFirstLacking, LackSaid, lack_said}

module _ (read : Read) (rising : AreRising read.steps) where
  lacking_of : (c d : Step) → IsUnseen read.steps c d → IsLacking read.steps c d
  lacking_of c d u = record { pair = u.pair; asked = u.asked; unseen = u.unseen }

  named : (a b : Step) → IsFirstLacking read.steps rising a b → Ordered read.steps a b → IsNamedUnseen read.steps a b
  named a b f o = record {
    unseen = record { pair = f.lacks.pair; asked = f.lacks.asked; ordered = o; unseen = f.lacks.unseen };
    least = λ c d u. f.least c d (lacking_of c d u);
    greatest = λ c u. f.greatest c (lacking_of c b u);
  }

  unseen_first : (pair : ℕ × ℕ) → LackSaid read.steps rising (Some pair) → ((a b : Step) → IsLacking read.steps a b → b.line ≡ pair.1 → Ordered read.steps a b) → ((c d : Step) → IsRace read.steps c d → pair.1 < d.line) → IsMemoryVerdictOf read (NotSeen pair.0 pair.1)
  unseen_first pair (a, b, f, e, g) o r =
      subst (λ (n : ℕ). IsMemoryVerdictOf read (NotSeen n pair.1)) e
      (subst (λ (n : ℕ). IsMemoryVerdictOf read (NotSeen a.line n)) g
      (FirstUnseen a b (named a b f (o a b f.lacks g)) (λ c d k. let l = r c d k in omega arith)))

  in_order : AreOrdered read.steps → (pair : ℕ × ℕ) → LackSaid read.steps rising (Some pair) → IsMemoryVerdictOf read (NotSeen pair.0 pair.1)
  in_order o pair s =
      unseen_first pair s (λ a b l e. o a b l.pair) (λ c d k. absurd (k.unordered (o c d k.pair)))

  module _ (a b : Step) (n : IsNamedRace read.steps a b) where
    above_race : (pair : ℕ × ℕ) → LackSaid read.steps rising (Some pair) → pair.1 < b.line → IsMemoryVerdictOf read (NotSeen pair.0 pair.1)
    above_race pair s l = unseen_first pair s ordered (λ c d k. let m = n.least c d k in omega arith)
      where
        ordered : (c d : Step) → IsLacking read.steps c d → d.line ≡ pair.1 → Ordered read.steps c d
        ordered c d k e = elim (decided read.steps rising c d k.pair) [
          | inl o ↦ o
          | inr r ↦ (let m = n.least c d r in absurd (omega arith))
        ]

    race_first : (pair : ℕ × ℕ) → LackSaid read.steps rising (Some pair) → b.line ≤ pair.1 → IsMemoryVerdictOf read (Racing a.line b.line)
    race_first pair (c, d, f, e, g) l =
        FirstRace a b n (λ i k u. let m = f.least i k (lacking_of i k u) in omega arith)

    with_race : (o : Option (ℕ × ℕ)) → LackSaid read.steps rising o → IsMemoryVerdictOf read (combined (Race a.line b.line) o)
    with_race None s = FirstRace a b n (λ c d u. absurd (u.unseen (s c d u.pair u.asked)))
    with_race (Some pair) s = by (nat_lt pair.1 b.line) refl
      where
        by : (t : Bool) → nat_lt pair.1 b.line ≡ t → IsMemoryVerdictOf read (if t then NotSeen pair.0 pair.1 else Racing a.line b.line)
        by true e = above_race pair s (below_of_test pair.1 b.line e)
        by false e = race_first pair s (at_least_of_test pair.1 b.line e)

  pub combines : (v : Verdict) (o : Option (ℕ × ℕ)) → IsVerdictOf read v → LackSaid read.steps rising o → IsMemoryVerdictOf read (combined v o)
  combines v None (NoneRace o e) s = NoneUnseen o s e
  combines v (Some pair) (NoneRace o e) s = in_order o pair s
  combines v o (TwoRace a b n) s = with_race a b n o s
  combines v None (FirstFault fault o e) s = FaultFirst fault o s e
  combines v (Some pair) (FirstFault fault o e) s = in_order o pair s

pub memory_judges : (text : List ℕ) → IsMemoryVerdict text (memory_judged text)
memory_judges text =
    let read = read_capture text in
    let rising = read_rises text in
    combines read rising _ _ (judges text) (lack_said read.steps rising)

pub memory_only : (text : List ℕ) (verdict : MemoryVerdict) → IsMemoryVerdict text verdict → verdict ≡ memory_judged text
memory_only text verdict v =
    only_slow (read_capture text) (read_rises text) verdict v
    ∙ sym (only_slow (read_capture text) (read_rises text) (memory_judged text) (memory_judges text))
