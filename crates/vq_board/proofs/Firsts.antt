-- How many of each chain's first operations a pass knows made.
use Rattle.std.proofs.Common.{◌≡◌, ℕ, zero, suc, ◌+◌, ◌<◌, ◌≤◌, true, eqb, List, [], ◌∷◌, ◌++◌, length, get_or, set, replicate, slice_index, slice_set, Some, refl, sym, ap, ◌∙◌, subst, ◌⊎◌, inl, inr, arith}
use Rattle.std.specs.List.{slice_get}
use Rattle.std.proofs.lemmas.Bool.{eq-eqb, eqb-true, false≢true, or_cases, or_left, or_right}
use Rattle.std.proofs.lemmas.List.{get_or-set_same, get_or-set_other, length-set}
use mathlib.Core.Logic.{dite}
use native.Mathlib.Decide.{ℕ_discrete}
use Rattle.vq_model.specs.Plan.{Plan, chain}
use Rattle.vq_ground.proofs.Gets.{get_within}
use Rattle.vq_board_laws.specs.declared.view.Fact.{Fact}
use Rattle.vq_board_laws.specs.declared.view.Fact.TheVariants.{Job, Taken, Bound, BoundTo, Made, Past}
use Rattle.vq_board_laws.specs.Knowledge.{Knows, KnowsMade}
use Rattle.vq_board_laws.specs.Knowledge.{shown, completed}
use Rattle.vq_board.specs.Firsts.{shows_made, AreFirsts}
use Rattle.vq_board.proofs.Placed.{chain_exists}

-- what is shown made stays so as more is known
pub shown_more : (new known : List Fact) (e : ℕ) → shows_made known e ≡ true → shows_made (new ++ known) e ≡ true
shown_more [] known e h = h
shown_more (Made f ∷ new) known e h = or_right (eqb f e) (shows_made (new ++ known) e) (shown_more new known e h)
shown_more (Past f ∷ new) known e h = or_right (eqb f e) (shows_made (new ++ known) e) (shown_more new known e h)
shown_more (Job j s ∷ new) known e h = shown_more new known e h
shown_more (Taken f ∷ new) known e h = shown_more new known e h
shown_more (Bound f ∷ new) known e h = shown_more new known e h
shown_more (BoundTo f q ∷ new) known e h = shown_more new known e h

-- what was just seen
pub just_made : (e : ℕ) (known : List Fact) → shows_made (Made e ∷ known) e ≡ true
just_made e known = or_left (eqb e e) (shows_made known e) (eq-eqb e e refl)

pub just_past : (e : ℕ) (known : List Fact) → shows_made (Past e ∷ known) e ≡ true
just_past e known = or_left (eqb e e) (shows_made known e) (eq-eqb e e refl)

pub firsts_more : (p : Plan) (new known : List Fact) (counts : List ℕ) → AreFirsts p known counts → AreFirsts p (new ++ known) counts
firsts_more p new known counts h = record { whole = h.whole; within = h.within; shown = λ t i e l g. shown_more new known e (h.shown t i e l g) }

-- one fact more
pub firsts_next : (p : Plan) (f : Fact) (known : List Fact) (counts : List ℕ) → AreFirsts p known counts → AreFirsts p (f ∷ known) counts
firsts_next p f known counts h = firsts_more p (f ∷ []) known counts h

-- the counts of a fresh pass
zero_at : (n t : ℕ) → ◌≡◌ {A = ℕ} (get_or (replicate n 0) t 0) 0
zero_at zero t = refl
zero_at (suc n) zero = refl
zero_at (suc n) (suc t) = zero_at n t

pub firsts_none : (p : Plan) (counts : List ℕ) (n : ℕ) → counts ≡ replicate n 0 → length counts ≡ length p.chains → AreFirsts p [] counts
firsts_none p counts n is whole =
    let none : (t : ℕ) → slice_index counts t ≡ 0 = λ t. ap (λ (xs : List ℕ). get_or xs t 0) is ∙ zero_at n t in
    record {
      whole = whole;
      within = λ t. (let z = none t in omega arith);
      shown = λ t i e l g. (let z = none t in absurd (omega arith));
    }

-- a chain with an operation has a count
pub has_count : (p : Plan) (known : List Fact) (counts : List ℕ) (t i e : ℕ) → AreFirsts p known counts → slice_get (chain p t) i ≡ Some e → t < length counts
has_count p known counts t i e h here = let there = chain_exists p t i e here in let whole = h.whole in omega arith

-- the count of a chain may be raised where the next operation is shown made
pub firsts_raised : (p : Plan) (known : List Fact) (counts : List ℕ) (t n e : ℕ) → AreFirsts p known counts → slice_index counts t ≡ n → slice_get (chain p t) n ≡ Some e → shows_made known e ≡ true
    → AreFirsts p known (slice_set counts t (n + 1))
firsts_raised p known counts t n e h is here made = record { whole = length-set counts t (n + 1) ∙ h.whole; within = within; shown = shown_so }
  where
    at_same : (u : ℕ) → u ≡ t → slice_index (slice_set counts t (n + 1)) u ≡ n + 1
    at_same u s = ap (λ (z : ℕ). get_or (set counts t (n + 1)) z 0) s ∙ get_or-set_same counts t (n + 1) 0 (has_count p known counts t n e h here)

    within : (u : ℕ) → slice_index (slice_set counts t (n + 1)) u ≤ length (chain p u)
    within u = dite (ℕ_discrete u t)
        (λ s. let a = at_same u s in let b = get_within (chain p t) n e here in let c = ap (λ (z : ℕ). length (chain p z)) s in omega arith)
        (λ ne. let a = get_or-set_other counts t u (n + 1) 0 ne in let b = h.within u in omega arith)

    shown_so : (u i f : ℕ) → i < slice_index (slice_set counts t (n + 1)) u → slice_get (chain p u) i ≡ Some f → shows_made known f ≡ true
    shown_so u i f low g = dite (ℕ_discrete u t)
        (λ s.
        let a = at_same u s in
        let g' : slice_get (chain p t) i ≡ Some f = ap (λ (z : ℕ). slice_get (chain p z) i) (sym s) ∙ g in
        dite (ℕ_discrete i n)
        (λ same. let j : Some e ≡ Some f = sym here ∙ (ap (slice_get (chain p t)) (sym same) ∙ g') in let k : e ≡ f = cc in subst (λ (z : ℕ). shows_made known z ≡ true) k made)
        (λ other. h.shown t i f (omega arith) g'))
        (λ ne. let a = get_or-set_other counts t u (n + 1) 0 ne in h.shown u i f (omega arith) g)

-- what is shown made is known made
later : (g : Fact) (fs : List Fact) (e : ℕ) → (Knows fs (Made e) ⊎ Knows fs (Past e)) → Knows (g ∷ fs) (Made e) ⊎ Knows (g ∷ fs) (Past e)
later g fs e (inl k) = inl (inr k)
later g fs e (inr k) = inr (inr k)

listed : (fs : List Fact) (e : ℕ) → shows_made fs e ≡ true → Knows fs (Made e) ⊎ Knows fs (Past e)
listed [] e h = absurd (false≢true h)
listed (Made f ∷ fs) e h = elim (or_cases (eqb f e) (shows_made fs e) h) [ inl t ↦ inl (inl (ap Made (eqb-true f e t))) | inr t ↦ later (Made f) fs e (listed fs e t) ]
listed (Past f ∷ fs) e h = elim (or_cases (eqb f e) (shows_made fs e) h) [ inl t ↦ inr (inl (ap Past (eqb-true f e t))) | inr t ↦ later (Past f) fs e (listed fs e t) ]
listed (Job j s ∷ fs) e h = later (Job j s) fs e (listed fs e h)
listed (Taken f ∷ fs) e h = later (Taken f) fs e (listed fs e h)
listed (Bound f ∷ fs) e h = later (Bound f) fs e (listed fs e h)
listed (BoundTo f q ∷ fs) e h = later (BoundTo f q) fs e (listed fs e h)

pub shown_known : (p : Plan) (known : List Fact) (e : ℕ) → shows_made known e ≡ true → KnowsMade p known e
shown_known p known e h = elim (listed known e h) [ inl k ↦ shown k | inr k ↦ completed k ]
