-- What the comparison of given lines with the true ones finds.
use Rattle.std.proofs.Common.{◌≡◌, ◌<◌, ℕ, zero, suc, Bool, true, false, List, [], ◌∷◌, Option, Some, None, refl, ap, arith}
use Rattle.std.specs.Prelude.{if◌then◌else◌}
use Rattle.std.specs.List.{slice_get}
use Rattle.std.specs.Str.{bytes_eq}
use Rattle.std.proofs.lemmas.Slice.Eq.{bytes_eq-Decides}
use Rattle.vq_given.specs.declared.given.GivenLine.{GivenLine}
use Rattle.vq_audit.specs.Comparing.{first_difference}
use Rattle.vq_audit.specs.Verdicts.{IsWrongPlace, line_at, texts_of}

-- what an answer of the comparison says
abbrev pub Finds : List (List ℕ) → List GivenLine → ℕ → Option ℕ → Type 0
Finds truth given last None = texts_of given ≡ truth
Finds truth given last (Some line) =
    (place : ℕ) × IsWrongPlace truth given place × (line ≡ line_at last given place)

-- the first place is wrong
at_first : (truth : List (List ℕ)) (given : List GivenLine) → (slice_get (texts_of given) 0 ≡ slice_get truth 0 → ⊥) →
    IsWrongPlace truth given 0
at_first truth given h = record { wrong = h; before = λ k l. absurd (omega arith) }

module _ (t : List ℕ) (ts : List (List ℕ)) (g : GivenLine) (gs : List GivenLine) (last : ℕ) where
  later : (found : Option ℕ) → g.text ≡ t → Finds ts gs g.line found → Finds (t ∷ ts) (g ∷ gs) last found
  later None is f = cc
  later (Some line) is f = (
    suc f.0,
    record { wrong = f.1.wrong; before = before },
    f.2,
  )
    where
      before : (k : ℕ) → k < suc f.0 → slice_get (texts_of (g ∷ gs)) k ≡ slice_get (t ∷ ts) k
      before zero l = ap Some is
      before (suc k) l = f.1.before k (omega arith)

  by_test : (b : Bool) → bytes_eq g.text t ≡ b → Finds ts gs g.line (first_difference ts gs g.line) →
      Finds (t ∷ ts) (g ∷ gs) last (if b then first_difference ts gs g.line else Some g.line)
  by_test true e f = later (first_difference ts gs g.line) ((bytes_eq-Decides g.text t).0 e) f
  by_test false e f =
      (0, at_first (t ∷ ts) (g ∷ gs) (λ same. let is : g.text ≡ t = cc in other e is), refl)
    where
      other : bytes_eq g.text t ≡ false → g.text ≡ t → ⊥
      other unequal is = let equal = (bytes_eq-Decides g.text t).1 is in cc

pub finds : (truth : List (List ℕ)) (given : List GivenLine) (last : ℕ) →
    Finds truth given last (first_difference truth given last)
finds [] [] last = refl
finds [] (g ∷ gs) last = (0, at_first [] (g ∷ gs) (λ e. let some : Some g.text ≡ None = e in cc), refl)
finds (t ∷ ts) [] last = (0, at_first (t ∷ ts) [] (λ e. let none : None ≡ Some t = e in cc), refl)
finds (t ∷ ts) (g ∷ gs) last = by_test t ts g gs last (bytes_eq g.text t) refl (finds ts gs g.line)
