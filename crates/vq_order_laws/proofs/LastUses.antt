-- The last use of a semaphore or a fence before a line.
use Rattle.std.proofs.Common.{◌≡◌, ℕ, Bool, true, false, eqb, List, [], ◌∷◌, ◌++◌, inl, inr, refl, sym, ap, ◌∙◌, subst, ◌<◌, ◌⊎◌, map, arith}
use Rattle.std.specs.List.{list_any}
use Rattle.std.proofs.lemmas.Bool.{eqb-true, eq-eqb, false≢true, or_left, or_right, or_cases}
use Rattle.std.proofs.lemmas.List.{map-append}
use Rattle.vq_model.specs.LoweringFaults.{Use, UseLine, uses}
use Rattle.vq_model.specs.FaultyUses.{LastIs}
use Rattle.vq_order_laws.proofs.UsesInOrder.{StandsIn, of_append, number_stands, in_first}
use Rattle.vq_ground.specs.Lists.{has, AreRising}
use Rattle.vq_ground.proofs.Lists.{has_cases, has_here}
use Rattle.vq_ground.proofs.Rising.{rising_right, rising_left, rising_across}
use Rattle.vq_model.specs.declared.script.Script.{Script}

-- The last use of a semaphore

-- some use of a semaphore is the last one
last_of : (t : ℕ) (xs : List UseLine) (y : UseLine) → StandsIn xs y → y.semaphore ≡ t →
    (kind : Use) × LastIs xs t kind
last_of t xs y s e =
    by_list xs
    (subst (λ zs. list_any (λ x. eqb x.semaphore t) zs ≡ true) (sym s.whole) (any s.front))
  where
    any : (front : List UseLine) → list_any (λ x. eqb x.semaphore t) (front ++ y ∷ s.back) ≡ true
    any [] =
        or_left (eqb y.semaphore t) (list_any (λ x. eqb x.semaphore t) s.back)
        (eq-eqb y.semaphore t e)
    any (z ∷ front) =
        or_right (eqb z.semaphore t) (list_any (λ x. eqb x.semaphore t) (front ++ y ∷ s.back))
        (any front)

    by_list : (xs : List UseLine) → list_any (λ x. eqb x.semaphore t) xs ≡ true →
        (kind : Use) × LastIs xs t kind
    by_list [] h = absurd (false≢true h)
    by_list (x ∷ xs) h = by_rest (list_any (λ z. eqb z.semaphore t) xs) refl (by_list xs)
      where
        by_rest : (b : Bool) → list_any (λ z. eqb z.semaphore t) xs ≡ b →
            (list_any (λ z. eqb z.semaphore t) xs ≡ true → (kind : Use) × LastIs xs t kind) →
            (kind : Use) × LastIs (x ∷ xs) t kind
        by_rest true q later =
            let r = later q in (
              r.0,
              record {
                front = x ∷ r.1.front;
                last = r.1.last;
                back = r.1.back;
                whole = ap (λ (zs : List UseLine). x ∷ zs) r.1.whole;
                of_semaphore = r.1.of_semaphore;
                of_kind = r.1.of_kind;
                none_after = r.1.none_after;
              },
            )
        by_rest false q later = (
          x.kind,
          record {
            front = [];
            last = x;
            back = xs;
            whole = refl;
            of_semaphore =
                elim (or_cases (eqb x.semaphore t) (list_any (λ z. eqb z.semaphore t) xs) h) as
                (λ o. x.semaphore ≡ t) [
                  | inl m ↦ eqb-true x.semaphore t m
                  | inr m ↦ absurd (false≢true (sym q ∙ m))
                ];
            of_kind = refl;
            none_after = q;
          },
        )

-- Uses whose lines rise: one with a lesser line than another stands before it.
line_first : (xs : List UseLine) (x y : UseLine) (front back : List UseLine) →
    AreRising (map (λ z. z.line) xs) → xs ≡ front ++ x ∷ back → StandsIn xs y → y.line < x.line →
    StandsIn front y
line_first xs x y front back r e s l =
    by_part (of_append front (x ∷ back) y (subst (λ zs. StandsIn zs y) e s))
  where
    tail : AreRising (map (λ z. z.line) (x ∷ back))
    tail =
        rising_right (map (λ z. z.line) front) (map (λ z. z.line) (x ∷ back))
        (subst AreRising (map-append (λ z. z.line) front (x ∷ back))
        (subst (λ zs. AreRising (map (λ z. z.line) zs)) e r))

    not_after : StandsIn (x ∷ back) y → ⊥
    not_after i =
        by_case
        (has_cases x.line (map (λ z. z.line) back) y.line
        (number_stands (λ z. z.line) (x ∷ back) y i))
      where
        by_case : (x.line ≡ y.line) ⊎ (has (map (λ z. z.line) back) y.line ≡ true) → ⊥
        by_case (inl q) = omega arith
        by_case (inr h) = let m = tail.0 y.line h in omega arith

    by_part : StandsIn front y ⊎ StandsIn (x ∷ back) y → StandsIn front y
    by_part (inl i) = i
    by_part (inr i) = absurd (not_after i)

-- Before a use there is an earlier use of the same semaphore: the last one before it.
pub record HasLastBefore (s : Script) (front : List UseLine) (x y : UseLine) : Type 0 where
  pub kind : Use
  pub last : LastIs front y.semaphore kind
  pub stands : StandsIn (uses s) last.last
  pub after : (last.last ≡ y) ⊎ (y.line < last.last.line)
  pub before : last.last.line < x.line

pub last_before : (s : Script) (x y : UseLine) (front back : List UseLine) →
    AreRising (map (λ z. z.line) (uses s)) → uses s ≡ front ++ x ∷ back → StandsIn (uses s) y →
    y.line < x.line → HasLastBefore s front x y
last_before s x y front back r e i l =
    let here = line_first (uses s) x y front back r e i l in
    let found = last_of y.semaphore front y here refl in
    let stands = in_first front (x ∷ back) found.1.last (record {
      front = found.1.front;
      back = found.1.back;
      whole = found.1.whole;
    }) in
    record {
      kind = found.0;
      last = found.1;
      stands = subst (λ zs. StandsIn zs found.1.last) (sym e) stands;
      after =
          by_part found.1
          (of_append found.1.front (found.1.last ∷ found.1.back) y
          (subst (λ zs. StandsIn zs y) found.1.whole here));
      before =
          rising_across (map (λ z. z.line) front) (map (λ z. z.line) (x ∷ back))
          (subst AreRising (map-append (λ z. z.line) front (x ∷ back))
          (subst (λ zs. AreRising (map (λ z. z.line) zs)) e r)) found.1.last.line x.line
          (number_stands (λ z. z.line) front found.1.last (record {
            front = found.1.front;
            back = found.1.back;
            whole = found.1.whole;
          })) (has_here x.line (map (λ z. z.line) back));
    }
  where
    rising : AreRising (map (λ z. z.line) front)
    rising =
        rising_left (map (λ z. z.line) front) (map (λ z. z.line) (x ∷ back))
        (subst AreRising (map-append (λ z. z.line) front (x ∷ back))
        (subst (λ zs. AreRising (map (λ z. z.line) zs)) e r))

    by_part : {kind : Use} (f : LastIs front y.semaphore kind) →
        StandsIn f.front y ⊎ StandsIn (f.last ∷ f.back) y →
        (f.last ≡ y) ⊎ (y.line < f.last.line)
    by_part f (inl i) =
        inr (rising_across (map (λ z. z.line) f.front) (map (λ z. z.line) (f.last ∷ f.back))
        (subst AreRising (map-append (λ z. z.line) f.front (f.last ∷ f.back))
        (subst (λ zs. AreRising (map (λ z. z.line) zs)) f.whole rising)) y.line f.last.line
        (number_stands (λ z. z.line) f.front y i) (has_here f.last.line (map (λ z. z.line) f.back)))
    by_part f (inr i) = by_first i.front i.whole
      where
        by_first : (front : List UseLine) → f.last ∷ f.back ≡ front ++ y ∷ i.back →
            (f.last ≡ y) ⊎ (y.line < f.last.line)
        by_first [] q = inl (cc)
        by_first (z ∷ zs) q =
            let rest : f.back ≡ zs ++ y ∷ i.back = cc in
            absurd (false≢true (sym f.none_after ∙ subst (λ ws. list_any (λ x. eqb x.semaphore y.semaphore) ws ≡ true) (sym rest) (any zs)))
          where
            any : (zs : List UseLine) →
                list_any (λ x. eqb x.semaphore y.semaphore) (zs ++ y ∷ i.back) ≡ true
            any [] =
                or_left (eqb y.semaphore y.semaphore)
                (list_any (λ x. eqb x.semaphore y.semaphore) i.back)
                (eq-eqb y.semaphore y.semaphore refl)
            any (w ∷ zs) =
                or_right (eqb w.semaphore y.semaphore)
                (list_any (λ x. eqb x.semaphore y.semaphore) (zs ++ y ∷ i.back)) (any zs)
