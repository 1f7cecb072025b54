-- The slow verdict with memory is that of the definition, and the only one.
use Rattle.std.proofs.Common.{◌≡◌, ◌<◌, ◌≤◌, Bool, true, false, List, if◌then◌else◌, refl, sym, ◌∙◌, ap, subst, arith, Option, Some, None}
use Rattle.std.specs.Prelude.{nat_lt}
use Rattle.vq_ground.proofs.Tests.{below_of_test, at_least_of_test}
use Rattle.vq_capture.specs.declared.capture.Step.{Step}
use Rattle.vq_capture.specs.declared.capture.Fault.{Fault}
use Rattle.vq_capture.specs.Reading.{Read}
use Rattle.vq_capture.specs.Races.{IsRace, AreOrdered, IsNamedRace}
use Rattle.vq_capture_laws.specs.Closure.{first_race}
use Rattle.vq_capture_laws.proofs.Cited.{AreRising, same_step, Said, first_race_said, same_named}
use Rattle.vq_capture_memory.specs.declared.verdict.MemoryVerdict.{MemoryVerdict}
use Rattle.vq_capture_memory.specs.declared.verdict.MemoryVerdict.TheVariants.{Racing, NotSeen}
use Rattle.vq_capture_memory.specs.UnseenWrites.{IsUnseen, AreSeen, IsNamedUnseen}
use Rattle.vq_capture_memory.specs.MemoryVerdicts.{IsMemoryVerdictOf, NoneUnseen, FirstRace, FirstUnseen, FaultFirst}
use Rattle.vq_capture_memory.specs.SlowMemory.{is_unseen, first_unseen, named_first, slow_memory_verdict_of}
use Rattle.vq_capture_memory.proofs.SlowSeen.{unseen_by_test, test_of_unseen, seen_without}
use Rattle.vq_capture_memory.proofs.FirstPairs.{Finds, finds}

module _ (steps : List Step) (rising : AreRising steps) where
  -- what the slow search says of unseen writes
  abbrev pub Tells : Option (Step × Step) → Type 0
  Tells None = (c d : Step) → IsUnseen steps c d → ⊥
  Tells (Some pair) = IsNamedUnseen steps pair.0 pair.1

  tells : (o : Option (Step × Step)) → Finds (is_unseen steps) steps rising steps o → Tells o
  tells None none = λ c d u. none c d u.pair.first u.pair.second (test_of_unseen steps rising c d u)
  tells (Some pair) f = record {
    unseen = unseen_by_test steps rising pair.0 pair.1 f.beginning f.ending f.passes;
    least = λ c d u. f.least c d u.pair.first u.pair.second (test_of_unseen steps rising c d u);
    greatest = λ c u. f.greatest c u.pair.first (test_of_unseen steps rising c pair.1 u);
  }

  pub first_unseen_tells : Tells (first_unseen steps)
  first_unseen_tells =
      tells (first_unseen steps) (finds (is_unseen steps) steps rising steps rising)

  -- where all that conflict is ordered and nothing is unseen, all that is asked sees
  pub all_seen : AreOrdered steps → ((c d : Step) → IsUnseen steps c d → ⊥) → AreSeen steps
  all_seen o none a b c k =
      seen_without steps rising a b c k (o a b c) (λ h. none a b (unseen_by_test steps rising a b c.first c.second h))

  pub same_unseen : (a b c d : Step) → IsNamedUnseen steps a b → IsNamedUnseen steps c d → (a.line ≡ c.line) × (b.line ≡ d.line)
  same_unseen a b c d p q = (firsts, seconds)
    where
      seconds : b.line ≡ d.line
      seconds = let l = p.least c d q.unseen in let m = q.least a b p.unseen in omega arith

      same : b ≡ d
      same = same_step steps b d rising p.unseen.pair.second q.unseen.pair.second seconds

      firsts : a.line ≡ c.line
      firsts =
          let l = q.greatest a (subst (λ (s : Step). IsUnseen steps a s) same p.unseen) in
          let m = p.greatest c (subst (λ (s : Step). IsUnseen steps c s) (sym same) q.unseen) in omega arith

module _ (read : Read) (rising : AreRising read.steps) where
  given_by : (r u : Option (Step × Step)) (f : Option Fault) → Said read.steps rising r → Tells read.steps rising u → read.fault ≡ f → IsMemoryVerdictOf read (named_first r u f)
  given_by (Some r) (Some u) f s t e = by_lines (nat_lt u.1.line r.1.line) refl
    where
      by_lines : (b : Bool) → nat_lt u.1.line r.1.line ≡ b →
          IsMemoryVerdictOf read (if b then NotSeen u.0.line u.1.line else Racing r.0.line r.1.line)
      by_lines true k =
          FirstUnseen u.0 u.1 t (λ c d g. let l = s.least c d g in let m = below_of_test u.1.line r.1.line k in omega arith)
      by_lines false k =
          FirstRace r.0 r.1 s (λ c d g. let l = t.least c d g in let m = at_least_of_test u.1.line r.1.line k in omega arith)
  given_by (Some r) None f s t e = FirstRace r.0 r.1 s (λ c d g. absurd (t c d g))
  given_by None (Some u) f s t e = FirstUnseen u.0 u.1 t (λ c d g. absurd (g.unordered (s c d g.pair)))
  given_by None None None s t e = NoneUnseen s (all_seen read.steps rising s t) e
  given_by None None (Some fault) s t e = FaultFirst fault s (all_seen read.steps rising s t) e

  pub given : IsMemoryVerdictOf read (slow_memory_verdict_of read)
  given =
      given_by (first_race read.steps read.steps) (first_unseen read.steps) read.fault (first_race_said read.steps rising) (first_unseen_tells read.steps rising) refl

  -- Two verdicts on one capture are the same

  race_apart : AreOrdered read.steps → (a b : Step) → IsNamedRace read.steps a b → ⊥
  race_apart o a b n = n.race.unordered (o a b n.race.pair)

  unseen_apart : AreSeen read.steps → (a b : Step) → IsNamedUnseen read.steps a b → ⊥
  unseen_apart o a b n = n.unseen.unseen (o a b n.unseen.pair n.unseen.asked)

  nothing_named : (r u : Option (Step × Step)) → Said read.steps rising r → Tells read.steps rising u → AreOrdered read.steps → AreSeen read.steps → (f : Option Fault) → named_first None None f ≡ named_first r u f
  nothing_named None None s t o v f = refl
  nothing_named (Some r) u s t o v f = absurd (race_apart o r.0 r.1 s)
  nothing_named None (Some u) s t o v f = absurd (unseen_apart v u.0 u.1 t)

  race_named : (r u : Option (Step × Step)) → Said read.steps rising r → Tells read.steps rising u → (a b : Step) → IsNamedRace read.steps a b → ((c d : Step) → IsUnseen read.steps c d → b.line ≤ d.line) → (f : Option Fault) → Racing a.line b.line ≡ named_first r u f
  race_named None u s t a b n l f = absurd (race_apart s a b n)
  race_named (Some r) None s t a b n l f = let e = same_named read.steps rising a b r.0 r.1 n s in λ i. Racing (e.0 i) (e.1 i)
  race_named (Some r) (Some u) s t a b n l f = by_lines (nat_lt u.1.line r.1.line) refl
    where
      e : (a.line ≡ r.0.line) × (b.line ≡ r.1.line)
      e = same_named read.steps rising a b r.0 r.1 n s

      by_lines : (c : Bool) → nat_lt u.1.line r.1.line ≡ c → Racing a.line b.line ≡ (if c then NotSeen u.0.line u.1.line else Racing r.0.line r.1.line)
      by_lines true k =
          let low = below_of_test u.1.line r.1.line k in
          let high = l u.0 u.1 t.unseen in
          let same = e.1 in absurd (omega arith)
      by_lines false k = λ i. Racing (e.0 i) (e.1 i)

  unseen_named : (r u : Option (Step × Step)) → Said read.steps rising r → Tells read.steps rising u → (a b : Step) → IsNamedUnseen read.steps a b → ((c d : Step) → IsRace read.steps c d → b.line < d.line) → (f : Option Fault) → NotSeen a.line b.line ≡ named_first r u f
  unseen_named r None s t a b n l f = absurd (t a b n.unseen)
  unseen_named None (Some u) s t a b n l f = let e = same_unseen read.steps rising a b u.0 u.1 n t in λ i. NotSeen (e.0 i) (e.1 i)
  unseen_named (Some r) (Some u) s t a b n l f = by_lines (nat_lt u.1.line r.1.line) refl
    where
      e : (a.line ≡ u.0.line) × (b.line ≡ u.1.line)
      e = same_unseen read.steps rising a b u.0 u.1 n t

      by_lines : (c : Bool) → nat_lt u.1.line r.1.line ≡ c → NotSeen a.line b.line ≡ (if c then NotSeen u.0.line u.1.line else Racing r.0.line r.1.line)
      by_lines true k = λ i. NotSeen (e.0 i) (e.1 i)
      by_lines false k =
          let low = at_least_of_test u.1.line r.1.line k in
          let high = l r.0 r.1 s.race in
          let same = e.1 in absurd (omega arith)

  pub only : (verdict : MemoryVerdict) → IsMemoryVerdictOf read verdict → verdict ≡ slow_memory_verdict_of read
  only verdict (NoneUnseen o v e) =
      sym (ap (λ f. named_first None None f) e) ∙ nothing_named (first_race read.steps read.steps) (first_unseen read.steps) (first_race_said read.steps rising) (first_unseen_tells read.steps rising) o v read.fault
  only verdict (FirstRace a b n l) =
      race_named (first_race read.steps read.steps) (first_unseen read.steps) (first_race_said read.steps rising) (first_unseen_tells read.steps rising) a b n l read.fault
  only verdict (FirstUnseen a b n l) =
      unseen_named (first_race read.steps read.steps) (first_unseen read.steps) (first_race_said read.steps rising) (first_unseen_tells read.steps rising) a b n l read.fault
  only verdict (FaultFirst fault o v e) =
      sym (ap (λ f. named_first None None f) e) ∙ nothing_named (first_race read.steps read.steps) (first_unseen read.steps) (first_race_said read.steps rising) (first_unseen_tells read.steps rising) o v read.fault
