-- The search for faults of lowering finds the first faulty use.
use Rattle.std.proofs.Common.{ℕ, cond, eqb, Option, Some, ◌≡◌, Bool, true, false, List, [], ◌∷◌, fold, refl, sym, ap, ◌∙◌, ◌⊎◌, inl, inr, ◌++◌, None, leb, subst}
use Rattle.vq_model.specs.LoweringFaults.{Use, UseLine, last_use, LoweringFault, Waited, Signaled, Named, Reset, NoSignal, SignaledTwice, FenceUsed, count_uses, is_signaled, is_waited, is_named, fault_of_use, use_fault, fault_from, uses, lowering_fault}
use Rattle.vq_model.specs.FaultyUses.{LastIs, IsFaultyUse, IsFirstFaultyUse, HasNoFaultyUse}
use Rattle.std.specs.List.{list_any}
use Rattle.std.proofs.lemmas.Bool.{eqb-true, cond-true, cond-false, or_from, or_parts, eq-eqb, leb-true, le-leb}
use Rattle.std.specs.Option.{option_map_or}
use Rattle.vq_model.specs.declared.script.Script.{Script}
use Rattle.std.proofs.lemmas.List.{append_assoc}

abbrev keeps_last : ℕ → Option Use → UseLine → Option Use
keeps_last t found x = cond (eqb x.semaphore t) (Some x.kind) found

-- what a search for the last use finds
last_is : (t : ℕ) (kind : Use) (found : Option Use) (xs : List UseLine) → fold (keeps_last t) found xs ≡ Some kind → LastIs xs t kind ⊎ ((found ≡ Some kind) × (list_any (λ x. eqb x.semaphore t) xs ≡ false))
last_is t kind found [] h = inr (h, refl)
last_is t kind found (x ∷ xs) h = by_rest (last_is t kind (keeps_last t found x) xs h)
  where
    same : (a b : Use) → Some a ≡ Some b → a ≡ b
    same a b q = cc

    by_test : (b : Bool) → eqb x.semaphore t ≡ b → keeps_last t found x ≡ Some kind → list_any (λ y. eqb y.semaphore t) xs ≡ false → LastIs (x ∷ xs) t kind ⊎ ((found ≡ Some kind) × (list_any (λ y. eqb y.semaphore t) (x ∷ xs) ≡ false))
    by_test true e f n =
        inl (record {
          front = [];
          last = x;
          back = xs;
          whole = refl;
          of_semaphore = eqb-true x.semaphore t e;
          of_kind = same x.kind kind (sym (cond-true (eqb x.semaphore t) (Some x.kind) found e) ∙ f);
          none_after = n;
        })
    by_test false e f n = inr (sym (cond-false (eqb x.semaphore t) (Some x.kind) found e) ∙ f, or_from (eqb x.semaphore t) (list_any (λ y. eqb y.semaphore t) xs) e n)

    by_rest : LastIs xs t kind ⊎ ((keeps_last t found x ≡ Some kind) × (list_any (λ y. eqb y.semaphore t) xs ≡ false)) → LastIs (x ∷ xs) t kind ⊎ ((found ≡ Some kind) × (list_any (λ y. eqb y.semaphore t) (x ∷ xs) ≡ false))
    by_rest (inl l) =
        inl (record {
          front = x ∷ l.front;
          last = l.last;
          back = l.back;
          whole = ap (λ (zs : List UseLine). x ∷ zs) l.whole;
          of_semaphore = l.of_semaphore;
          of_kind = l.of_kind;
          none_after = l.none_after;
        })
    by_rest (inr r) = by_test (eqb x.semaphore t) refl r.0 r.1

-- and what it finds where the last use is of a kind
stays : (t : ℕ) (found : Option Use) (xs : List UseLine) → list_any (λ x. eqb x.semaphore t) xs ≡ false → fold (keeps_last t) found xs ≡ found
stays t found [] n = refl
stays t found (x ∷ xs) n =
    let parts = or_parts (eqb x.semaphore t) (list_any (λ y. eqb y.semaphore t) xs) n in
    ap (λ o. fold (keeps_last t) o xs) (cond-false (eqb x.semaphore t) (Some x.kind) found parts.0) ∙ stays t found xs parts.1

finds_last : (t : ℕ) (found : Option Use) (front : List UseLine) (x : UseLine) (back : List UseLine) → x.semaphore ≡ t → list_any (λ y. eqb y.semaphore t) back ≡ false → fold (keeps_last t) found (front ++ x ∷ back) ≡ Some x.kind
finds_last t found [] x back e n = stays t (keeps_last t found x) back n ∙ cond-true (eqb x.semaphore t) (Some x.kind) found (eq-eqb x.semaphore t e)
finds_last t found (y ∷ front) x back e n = finds_last t (keeps_last t found y) front x back e n

last_found : (earlier : List UseLine) (t : ℕ) (kind : Use) → LastIs earlier t kind → last_use t earlier ≡ Some kind
last_found earlier t kind l =
    ap (λ (zs : List UseLine). fold (keeps_last t) None zs) l.whole ∙ (finds_last t None l.front l.last l.back l.of_semaphore l.none_after ∙ ap Some l.of_kind)

last_was : (earlier : List UseLine) (t : ℕ) (kind : Use) → last_use t earlier ≡ Some kind → LastIs earlier t kind
last_was earlier t kind h = elim (last_is t kind None earlier h) [ inl l ↦ l | inr r ↦ absurd (none_some r.0) ]
  where
    none_some : None ≡ Some kind → ⊥
    none_some q = cc

-- One use

same_fault : (a b : LoweringFault) → Some a ≡ Some b → a ≡ b
same_fault a b q = cc

use_is_faulty : (earlier : List UseLine) (t : ℕ) (kind : Use) (k : LoweringFault) → fault_of_use earlier t kind ≡ Some k → IsFaultyUse earlier t kind k
use_is_faulty earlier t Waited k h = by_test (leb (count_uses is_signaled t earlier) (count_uses is_waited t earlier)) refl h
  where
    none_some : None ≡ Some k → ⊥
    none_some q = cc

    by_test : (b : Bool) → leb (count_uses is_signaled t earlier) (count_uses is_waited t earlier) ≡ b → cond b (Some NoSignal) None ≡ Some k → IsFaultyUse earlier t Waited k
    by_test true e q = subst (IsFaultyUse earlier t Waited) (same_fault NoSignal k q) (refl, leb-true (count_uses is_signaled t earlier) (count_uses is_waited t earlier) e)
    by_test false e q = absurd (none_some q)
use_is_faulty earlier t Signaled k h = by_last (last_use t earlier) refl h
  where
    none_some : None ≡ Some k → ⊥
    none_some q = cc

    by_last : (o : Option Use) → last_use t earlier ≡ o → cond (option_map_or is_signaled o false) (Some SignaledTwice) None ≡ Some k → IsFaultyUse earlier t Signaled k
    by_last None e q = absurd (none_some q)
    by_last (Some Signaled) e q = subst (IsFaultyUse earlier t Signaled) (same_fault SignaledTwice k q) (refl, last_was earlier t Signaled e)
    by_last (Some Waited) e q = absurd (none_some q)
    by_last (Some Named) e q = absurd (none_some q)
    by_last (Some Reset) e q = absurd (none_some q)
use_is_faulty earlier t Named k h = by_last (last_use t earlier) refl h
  where
    none_some : None ≡ Some k → ⊥
    none_some q = cc

    by_last : (o : Option Use) → last_use t earlier ≡ o → cond (option_map_or is_named o false) (Some FenceUsed) None ≡ Some k → IsFaultyUse earlier t Named k
    by_last None e q = absurd (none_some q)
    by_last (Some Named) e q = subst (IsFaultyUse earlier t Named) (same_fault FenceUsed k q) (refl, last_was earlier t Named e)
    by_last (Some Waited) e q = absurd (none_some q)
    by_last (Some Signaled) e q = absurd (none_some q)
    by_last (Some Reset) e q = absurd (none_some q)
use_is_faulty earlier t Reset k h = absurd (none_some h)
  where
    none_some : None ≡ Some k → ⊥
    none_some q = cc

faulty_is_use : (earlier : List UseLine) (t : ℕ) (kind : Use) (k : LoweringFault) → IsFaultyUse earlier t kind k → fault_of_use earlier t kind ≡ Some k
faulty_is_use earlier t kind NoSignal f =
    ap (fault_of_use earlier t) f.0 ∙ cond-true (leb (count_uses is_signaled t earlier) (count_uses is_waited t earlier)) (Some NoSignal) None (le-leb (count_uses is_signaled t earlier) (count_uses is_waited t earlier) f.1)
faulty_is_use earlier t kind SignaledTwice f =
    ap (fault_of_use earlier t) f.0 ∙ ap (λ (o : Option Use). cond (option_map_or is_signaled o false) (Some SignaledTwice) None) (last_found earlier t Signaled f.1)
faulty_is_use earlier t kind FenceUsed f =
    ap (fault_of_use earlier t) f.0 ∙ ap (λ (o : Option Use). cond (option_map_or is_named o false) (Some FenceUsed) None) (last_found earlier t Named f.1)

-- All uses

-- in front of these uses none is faulty
abbrev AreFaultless : List UseLine → Type 0
AreFaultless earlier = (front back : List UseLine) → (x : UseLine) → (k : LoweringFault) → earlier ≡ front ++ x ∷ back → IsFaultyUse front x.semaphore x.kind k → ⊥

none_in_front : AreFaultless []
none_in_front [] back x k e f = cc
none_in_front (y ∷ front) back x k e f = cc

-- the last element of a list
record Ends (front : List UseLine) (x : UseLine) (earlier : List UseLine) (y : UseLine) : Type 0 where
  same_front : front ≡ earlier
  same_last : x ≡ y

split_push : (earlier : List UseLine) (y : UseLine) (front back : List UseLine) (x : UseLine) → earlier ++ y ∷ [] ≡ front ++ x ∷ back → Ends front x earlier y ⊎ ((more : List UseLine) × (earlier ≡ front ++ x ∷ more))
split_push [] y [] back x e = inl (record { same_front = refl; same_last = sym (let q : y ≡ x = cc in q) })
split_push [] y (z ∷ []) back x e = absurd (let q : [] ≡ x ∷ back = cc in (let r : ⊥ = cc in r))
split_push [] y (z ∷ u ∷ front) back x e = absurd (let q : [] ≡ u ∷ (front ++ x ∷ back) = cc in (let r : ⊥ = cc in r))
split_push (v ∷ earlier) y [] back x e = inr (earlier, ap (λ (z : UseLine). z ∷ earlier) (let q : v ≡ x = cc in q))
split_push (v ∷ earlier) y (z ∷ front) back x e = by_rest (split_push earlier y front back x (let q : earlier ++ y ∷ [] ≡ front ++ x ∷ back = cc in q))
  where
    heads : v ≡ z
    heads = cc

    by_rest : Ends front x earlier y ⊎ ((more : List UseLine) × (earlier ≡ front ++ x ∷ more)) → Ends (z ∷ front) x (v ∷ earlier) y ⊎ ((more : List UseLine) × (v ∷ earlier ≡ z ∷ front ++ x ∷ more))
    by_rest (inl r) = inl (record { same_front = ap (λ (u : UseLine). u ∷ front) (sym heads) ∙ ap (λ (us : List UseLine). v ∷ us) r.same_front; same_last = r.same_last })
    by_rest (inr r) = inr (r.0, ap (λ (u : UseLine). u ∷ earlier) heads ∙ ap (λ (us : List UseLine). z ∷ us) r.1)

faultless_push : (earlier : List UseLine) (y : UseLine) → AreFaultless earlier → use_fault earlier y ≡ None → AreFaultless (earlier ++ y ∷ [])
faultless_push earlier y a n front back x k e f =
    elim (split_push earlier y front back x e) [
      | inl r ↦
          let g : IsFaultyUse earlier y.semaphore y.kind k = subst (λ (u : UseLine). IsFaultyUse earlier u.semaphore u.kind k) r.same_last (subst (λ (us : List UseLine). IsFaultyUse us x.semaphore x.kind k) r.same_front f) in
          none_some (sym n ∙ faulty_is_use earlier y.semaphore y.kind k g)
      | inr r ↦ a front r.0 x k r.1 f
    ]
  where
    none_some : None ≡ Some k → ⊥
    none_some q = cc

-- what a search through the uses answers
abbrev Answers : Script → Option (ℕ × LoweringFault) → Type 0
Answers s None = HasNoFaultyUse s
Answers s (Some (n, k)) = IsFirstFaultyUse s n k

search_uses : (s : Script) (earlier xs : List UseLine) → uses s ≡ earlier ++ xs → AreFaultless earlier → Answers s (fault_from earlier xs)
search_uses s earlier [] e a = λ front back x k q f. a front back x k (sym (append_none earlier) ∙ (sym e ∙ q)) f
  where
    append_none : (us : List UseLine) → us ++ [] ≡ us
    append_none [] = refl
    append_none (u ∷ us) = ap (λ (vs : List UseLine). u ∷ vs) (append_none us)
search_uses s earlier (x ∷ xs) e a = by_use (use_fault earlier x) refl (λ n. search_uses s (earlier ++ x ∷ []) xs (e ∙ sym (append_assoc earlier (x ∷ []) xs)) (faultless_push earlier x a n))
  where
    by_use : (o : Option LoweringFault) → use_fault earlier x ≡ o → (use_fault earlier x ≡ None → Answers s (fault_from (earlier ++ x ∷ []) xs)) → Answers s (option_map_or (λ k. Some (x.line, k)) o (fault_from (earlier ++ x ∷ []) xs))
    by_use None q f = f q
    by_use (Some k) q f =
        record {
          earlier = earlier;
          faulty = x;
          later = xs;
          whole = e;
          at_line = refl;
          is_faulty = use_is_faulty earlier x.semaphore x.kind k q;
          first = a;
        }

pub fault_found : (s : Script) (n : ℕ) (k : LoweringFault) → lowering_fault s ≡ Some (n, k) → IsFirstFaultyUse s n k
fault_found s n k h = subst (Answers s) h (search_uses s [] (uses s) refl none_in_front)

pub no_fault_found : (s : Script) → lowering_fault s ≡ None → HasNoFaultyUse s
no_fault_found s h = subst (Answers s) h (search_uses s [] (uses s) refl none_in_front)
