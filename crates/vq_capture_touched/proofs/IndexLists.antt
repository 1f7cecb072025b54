-- Kinds in lists, and the accesses of a map as a list.
use Rattle.std.proofs.Common.{◌≡◌, ◌<◌, ◌≤◌, ◌+◌, ◌∙◌, Bool, true, false, ℕ, zero, suc, List, [], ◌∷◌, ◌++◌, cond, filter, take, refl, sym, ap, subst, inl, inr, arith, length, get_or, set, Some, None}
use Rattle.std.specs.Prelude.{◌==◌, ◌||◌, not}
use Rattle.std.specs.List.{All, list_any}
use Rattle.std.specs.Ordering.{nat_cmp, match_ordering}
use Rattle.std.specs.declared.cmp.Ordering.{Ordering}
use Rattle.std.specs.declared.cmp.Ordering.TheVariants.{Greater}
use Rattle.std.specs.Cmp.{nat_cmp_total}
use Rattle.std.specs.Map.{lookup, remove_entry, values_of}
use Rattle.std.specs.BTreeMap.{BTreeMap, IsOrdered, get, insert_entry, is_at, values}
use Rattle.std.proofs.lemmas.Bool.{or_cases, or_left, or_right, eqb-true}
use Rattle.std.proofs.lemmas.Bool.Decides.{nat_tests}
use Rattle.std.proofs.lemmas.List.{get_or_default, take_all}
use Rattle.std.proofs.lemmas.List.Folds.{list_any-append, list_any_more}
use Rattle.std.proofs.lemmas.Map.Views.{All-found}
use Rattle.vq_ground.specs.Lists.{has}
use Rattle.vq_ground.proofs.Bools.{never}
use Rattle.vq_capture.specs.declared.capture.Step.{Step}
use Rattle.vq_capture_touched.specs.declared.kind.Kind.{Kind}
use Rattle.vq_capture_touched.specs.declared.touch.Touch.{Touch}
use Rattle.vq_capture_touched.specs.Kinds.{has_place, is_listed, lists, range_of}
use Rattle.vq_capture_touched.specs.Standing.{stands_for}
use Rattle.vq_capture_touched.proofs.Listings.{listing}
use Rattle.vq_capture_touched.specs.Forgetting.{AreCovered, Drops, Forgets, is_left}

-- Kinds

abbrev pub has_some : Kind → Bool
has_some k = not (length k.places.keys == 0)

module _ (s : ℕ) (t : Touch) where
  pub listed_push : (ks : List Kind) (k : Kind) → is_listed ks s t ≡ true → is_listed (ks ++ k ∷ []) s t ≡ true
  listed_push ks k e =
      list_any-append (λ k. lists k s t) ks (k ∷ []) ∙ or_left (is_listed ks s t) (is_listed (k ∷ []) s t) e

  pub listed_last : (ks : List Kind) (k : Kind) → lists k s t ≡ true → is_listed (ks ++ k ∷ []) s t ≡ true
  listed_last ks k e =
      list_any-append (λ k. lists k s t) ks (k ∷ [])
      ∙ or_right (is_listed ks s t) (is_listed (k ∷ []) s t) (or_left (lists k s t) false e)

  pub listed_there : (ks : List Kind) (i : ℕ) (k : Kind) → i < length ks → lists k s t ≡ true → is_listed (set ks i k) s t ≡ true
  listed_there [] i k l e = absurd (omega arith)
  listed_there (x ∷ xs) zero k l e = or_left (lists k s t) (is_listed xs s t) e
  listed_there (x ∷ xs) (suc i) k l e =
      or_right (lists x s t) (is_listed (set xs i k) s t) (listed_there xs i k (omega arith) e)

  pub listed_set : (ks : List Kind) (i : ℕ) (old new : Kind) → i < length ks → old ≡ get_or ks i old → (lists old s t ≡ true → lists new s t ≡ true) → is_listed ks s t ≡ true → is_listed (set ks i new) s t ≡ true
  listed_set [] i old new l g f e = absurd (omega arith)
  listed_set (x ∷ xs) zero old new l g f e = elim (or_cases (lists x s t) (is_listed xs s t) e) [
    | inl h ↦ or_left (lists new s t) (is_listed xs s t) (f (ap (λ (k : Kind). lists k s t) g ∙ h))
    | inr h ↦ or_right (lists new s t) (is_listed xs s t) h
  ]
  listed_set (x ∷ xs) (suc i) old new l g f e = elim (or_cases (lists x s t) (is_listed xs s t) e) [
    | inl h ↦ or_left (lists x s t) (is_listed (set xs i new) s t) h
    | inr h ↦ or_right (lists x s t) (is_listed (set xs i new) s t) (listed_set xs i old new (omega arith) g f h)
  ]

  -- kinds that list nothing may go
  module _ where
    none_left : (ps : List (ℕ × ℕ)) → not (length ps == 0) ≡ false → ps ≡ []
    none_left [] e = refl
    none_left (p ∷ ps) e =
        let none : length (p ∷ ps) ≡ 0 = eqb-true (length (p ∷ ps)) 0 (true_of (length (p ∷ ps) == 0) e) in
        absurd (omega arith)
      where
        true_of : (b : Bool) → not b ≡ false → b ≡ true
        true_of true h = refl
        true_of false h = never (sym h)

    none : (k : Kind) → has_some k ≡ false → k.places.keys ≡ []
    none k e = none_left k.places.keys e

    lists_none : (k : Kind) → k.places.keys ≡ [] → lists k s t ≡ true → ⊥
    lists_none k f e =
        never (ap (λ (ps : List (ℕ × ℕ)). has_place ps (range_of t.step.statement).offset s) (sym f)
        ∙ (listing k s t e).place)

    pub listed_left : (ks : List Kind) → is_listed ks s t ≡ true → is_listed (filter has_some ks) s t ≡ true
    listed_left [] e = never e
    listed_left (k ∷ ks) e = by (has_some k) refl (listed_left ks)
      where
        by : (b : Bool) → has_some k ≡ b → (is_listed ks s t ≡ true → is_listed (filter has_some ks) s t ≡ true) →
            is_listed (cond b (k ∷ filter has_some ks) (filter has_some ks)) s t ≡ true
        by true h f = elim (or_cases (lists k s t) (is_listed ks s t) e) [
          | inl i ↦ or_left (lists k s t) (is_listed (filter has_some ks) s t) i
          | inr i ↦ or_right (lists k s t) (is_listed (filter has_some ks) s t) (f i)
        ]
        by false h f = elim (or_cases (lists k s t) (is_listed ks s t) e) [
          | inl i ↦ absurd (lists_none k (none k h) i)
          | inr i ↦ f i
        ]

-- the kind at a place
pub at_place : (ks : List Kind) (i : ℕ) (k x : Kind) → i < length ks → k ≡ get_or ks i k → x ≡ get_or ks i x → x ≡ k
at_place ks i k x l e f = f ∙ (get_or_default ks i x k l ∙ sym e)

-- Accesses in a map

-- what holds of each access with a stamp
abbrev pub Each : (Touch → Type 0) → List Touch → Type 0
Each P [] = Unit {0}
Each P (t ∷ ts) = P t × Each P ts

module _ (m : BTreeMap ℕ Touch) (ordered : IsOrdered nat_cmp m) (P : Touch → Type 0) (h : (s : ℕ) (t : Touch) → get nat_cmp m s ≡ Some t → P t) where
  each_of : (es : List (ℕ × Touch)) → All (λ e. get nat_cmp m e.0 ≡ Some e.1) es → Each P (values_of es)
  each_of [] a = tt
  each_of (e ∷ es) a = (h e.0 e.1 (a 0 e (omega arith)), each_of es (λ k d l. a (suc k) d (omega arith)))

  pub each_touch : Each P (values m)
  each_touch = each_of m.entries (All-found nat_cmp_total m ordered)

-- a filter that takes nothing away
pub filter_keeps : (test : Touch → Bool) (ts : List Touch) → Each (λ t. test t ≡ true) ts → filter test ts ≡ ts
filter_keeps test [] a = refl
filter_keeps test (t ∷ ts) a =
    ap (λ (b : Bool). cond b (t ∷ filter test ts) (filter test ts)) a.0
    ∙ ap (λ (us : List Touch). t ∷ us) (filter_keeps test ts a.1)

-- an access that a filter takes away may go before
pub filter_without : (test : Touch → Bool) (at : ℕ → Bool) (es : List (ℕ × Touch)) (t : Touch) → lookup at es ≡ Some t → test t ≡ false → filter test (values_of (remove_entry at es)) ≡ filter test (values_of es)
filter_without test at [] t e f = refl
filter_without test at (x ∷ xs) t e f = by (at x.0) refl (filter_without test at xs t)
  where
    by : (b : Bool) → at x.0 ≡ b →
        (lookup at xs ≡ Some t → test t ≡ false → filter test (values_of (remove_entry at xs)) ≡ filter test (values_of xs)) →
        filter test (values_of (cond b xs (x ∷ remove_entry at xs))) ≡ filter test (values_of (x ∷ xs))
    by true h g =
        let is : Some x.1 ≡ Some t = sym (ap (λ (b : Bool). cond b (Some x.1) (lookup at xs)) h) ∙ e in
        let same : x.1 ≡ t = cc in
        sym (ap (λ (b : Bool). cond b (x.1 ∷ filter test (values_of xs)) (filter test (values_of xs)))
        (ap (λ (u : Touch). test u) same ∙ f))
    by false h g =
        let is : lookup at xs ≡ Some t = sym (ap (λ (b : Bool). cond b (Some x.1) (lookup at xs)) h) ∙ e in
        ap (λ (us : List Touch). cond (test x.1) (x.1 ∷ us) us) (g is f)

-- an access with a stamp above all others comes last
module _ (stamp : ℕ) (t : Touch) where
  insert_last : (es : List (ℕ × Touch)) → All (λ e. e.0 < stamp) es → insert_entry nat_cmp es stamp t ≡ es ++ (stamp, t) ∷ []
  insert_last [] a = refl
  insert_last (e ∷ es) a =
      ap (λ (r : Ordering). match_ordering r ((stamp, t) ∷ e ∷ es) ((e.0, t) ∷ es) (e ∷ insert_entry nat_cmp es stamp t)) above
      ∙ ap (λ (fs : List (ℕ × Touch)). e ∷ fs) (insert_last es (λ k d l. a (suc k) d (omega arith)))
    where
      above : nat_cmp stamp e.0 ≡ Greater
      above = let l : e.0 < stamp = a 0 e (omega arith) in grind (arith, nat_tests)

  values_push : (es : List (ℕ × Touch)) → values_of (es ++ (stamp, t) ∷ []) ≡ values_of es ++ t ∷ []
  values_push [] = refl
  values_push (e ∷ es) = ap (λ (us : List Touch). e.1 ∷ us) (values_push es)

  pub added_last : (m : BTreeMap ℕ Touch) → IsOrdered nat_cmp m → ((s : ℕ) (u : Touch) → get nat_cmp m s ≡ Some u → s < stamp) → values_of (insert_entry nat_cmp m.entries stamp t) ≡ values m ++ t ∷ []
  added_last m ordered h =
      ap (λ (fs : List (ℕ × Touch)). values_of fs) (insert_last m.entries below) ∙ values_push m.entries
    where
      found : All (λ e. get nat_cmp m e.0 ≡ Some e.1) m.entries
      found = All-found nat_cmp_total m ordered

      below : All (λ e. e.0 < stamp) m.entries
      below k d l = h _ _ (found k d l)

-- The stamps of those for which an access stands

pub covered_more : (w : Step) (kinds : List Kind) (i : ℕ) (k : Kind) (old new : List ℕ) → i < length kinds → k ≡ get_or kinds i k → AreCovered w (take i kinds) old → ((s : ℕ) → has old s ≡ true → has new s ≡ true) → ((s : ℕ) (t : Touch) → lists k s t ≡ true → stands_for w t.step ≡ true → has new s ≡ true) → AreCovered w (take (i + 1) kinds) new
covered_more w kinds i k old new l e f kept here s t h g =
    elim (or_cases (is_listed (take i kinds) s t) (lists (get_or kinds i k) s t) (sym (list_any_more (λ x. lists x s t) kinds i k l) ∙ h)) [
      | inl m ↦ kept s (f s t m g)
      | inr m ↦ here s t (ap (λ (x : Kind). lists x s t) e ∙ m) g
    ]

pub covered_whole : (w : Step) (kinds : List Kind) (i : ℕ) (stamps : List ℕ) → length kinds ≤ i → AreCovered w (take i kinds) stamps → AreCovered w kinds stamps
covered_whole w kinds i stamps l f = subst (λ (ks : List Kind). AreCovered w ks stamps) (take_all i kinds l) f

-- What is forgotten

-- accesses are listed that are left, where only one stamp is listed no more
pub still_listed : (a b : BTreeMap ℕ Touch) (old new : List Kind) (stamp : ℕ) → ((s : ℕ) (t : Touch) → get nat_cmp b s ≡ Some t → get nat_cmp a s ≡ Some t) → get nat_cmp b stamp ≡ None → ((s : ℕ) (t : Touch) → get nat_cmp a s ≡ Some t → is_listed old s t ≡ true) → ((s : ℕ) (t : Touch) → (s == stamp) ≡ false → is_listed old s t ≡ true → is_listed new s t ≡ true) → (s : ℕ) (t : Touch) → get nat_cmp b s ≡ Some t → is_listed new s t ≡ true
still_listed a b old new stamp fewer none listed kept s t g = by (s == stamp) refl
  where
    gone : None ≡ Some t → ⊥
    gone e = cc

    by : (x : Bool) → (s == stamp) ≡ x → is_listed new s t ≡ true
    by false e = kept s t e (listed s t (fewer s t g))
    by true e = absurd (gone (sym none ∙ (ap (λ (n : ℕ). get nat_cmp b n) (sym (eqb-true s stamp e)) ∙ g)))

module _ (w : Step) (old new : BTreeMap ℕ Touch) where
  not_there : (t : Touch) → None ≡ Some t → ⊥
  not_there t e = cc

  pub drops_one : (stamp : ℕ) (t : Touch) → get nat_cmp old stamp ≡ Some t → stands_for w t.step ≡ true → new.entries ≡ remove_entry (is_at (nat_cmp stamp)) old.entries → ((q : ℕ) → get nat_cmp new q ≡ cond (is_at (nat_cmp stamp) q) None (get nat_cmp old q)) → get nat_cmp new stamp ≡ None → Drops w old new stamp
  drops_one stamp t g e f u n = record {
    same = ap (λ (es : List (ℕ × Touch)). filter (is_left w) (values_of es)) f
        ∙ filter_without (is_left w) (is_at (nat_cmp stamp)) old.entries t g (ap (λ (b : Bool). not b) e);
    fewer = fewer;
    gone = λ r h. absurd (not_there r (sym n ∙ h));
  }
    where
      fewer : (s : ℕ) (r : Touch) → get nat_cmp new s ≡ Some r → get nat_cmp old s ≡ Some r
      fewer s r h = by (is_at (nat_cmp stamp) s) (sym (u s) ∙ h)
        where
          by : (b : Bool) → cond b None (get nat_cmp old s) ≡ Some r → get nat_cmp old s ≡ Some r
          by true i = absurd (not_there r i)
          by false i = i

pub drops_none : (w : Step) (m : BTreeMap ℕ Touch) (stamp : ℕ) → ((t : Touch) → get nat_cmp m stamp ≡ Some t → is_left w t ≡ true) → Drops w m m stamp
drops_none w m stamp f = record { same = refl; fewer = λ s t h. h; gone = f }

pub forgets_none : (w : Step) (m : BTreeMap ℕ Touch) → Forgets w m m []
forgets_none w m = record { same = refl; fewer = λ s t h. h; gone = λ s t h g. never h }

pub forgets_more : (w : Step) (a b c : BTreeMap ℕ Touch) (stamps : List ℕ) (i default : ℕ) → i < length stamps → Forgets w a b (take i stamps) → Drops w b c (get_or stamps i default) → Forgets w a c (take (i + 1) stamps)
forgets_more w a b c stamps i default l f d = record {
  same = d.same ∙ f.same;
  fewer = λ s t h. f.fewer s t (d.fewer s t h);
  gone = gone;
}
  where
    gone : (s : ℕ) (t : Touch) → has (take (i + 1) stamps) s ≡ true → get nat_cmp c s ≡ Some t → is_left w t ≡ true
    gone s t h g =
        elim (or_cases (has (take i stamps) s) (get_or stamps i default == s) (sym (list_any_more (λ x. x == s) stamps i default l) ∙ h)) [
          | inl n ↦ f.gone s t n (d.fewer s t g)
          | inr n ↦ d.gone t (ap (λ (x : ℕ). get nat_cmp c x) (eqb-true (get_or stamps i default) s n) ∙ g)
        ]

pub forgotten : (w : Step) (old new : BTreeMap ℕ Touch) (kinds : List Kind) (stamps : List ℕ) → IsOrdered nat_cmp new → ((s : ℕ) (t : Touch) → get nat_cmp old s ≡ Some t → is_listed kinds s t ≡ true) → AreCovered w kinds stamps → Forgets w old new stamps → values new ≡ filter (is_left w) (values old)
forgotten w old new kinds stamps o listed covered f =
    sym (filter_keeps (is_left w) (values new) (each_touch new o (λ t. is_left w t ≡ true) left)) ∙ f.same
  where
    left : (s : ℕ) (t : Touch) → get nat_cmp new s ≡ Some t → is_left w t ≡ true
    left s t g = by (stands_for w t.step) refl
      where
        by : (b : Bool) → stands_for w t.step ≡ b → is_left w t ≡ true
        by false e = ap (λ (b : Bool). not b) e
        by true e = f.gone s t (covered s t (listed s t (f.fewer s t g)) e) g

-- none passes a test that no access with a stamp does
pub none_passes : (m : BTreeMap ℕ Touch) → IsOrdered nat_cmp m → (test : Touch → Bool) → ((s : ℕ) (t : Touch) → get nat_cmp m s ≡ Some t → test t ≡ false) → list_any test (values m) ≡ false
none_passes m o test h = all (values m) (each_touch m o (λ t. test t ≡ false) h)
  where
    all : (ts : List Touch) → Each (λ t. test t ≡ false) ts → list_any test ts ≡ false
    all [] a = refl
    all (t ∷ ts) a = λ i. a.0 i || all ts a.1 i
