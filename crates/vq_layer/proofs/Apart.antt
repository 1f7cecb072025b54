-- The signals of a batch, merged, are of timelines that exist, and no two are of one.
use Rattle.std.proofs.Common.{◌≡◌, ℕ, zero, suc, ◌+◌, ◌<◌, ◌≤◌, Bool, true, false, List, [], ◌∷◌, ◌++◌, length, map, take, drop, set, get_or, Option, None, Some, refl, sym, ◌∙◌, ap, subst, arith}
use Rattle.std.specs.Prelude.{nat_eq, if◌then◌else◌}
use Rattle.std.proofs.lemmas.List.{drop_more}
use Rattle.vq_live.specs.Live.{Live}
use Rattle.vq_layer.specs.declared.answers.Wanted.{Wanted}
use Rattle.vq_layer.specs.declared.answers.Kind.{Kind}
use Rattle.vq_layer.specs.declared.answers.Kind.TheVariants.{Closed, Timeline, Binary}
use Rattle.vq_layer.specs.declared.answers.SubmitFault.{SubmitFault}
use Rattle.vq_layer.specs.Layer.{kind_at}
use Rattle.vq_layer.specs.Names.{is_named, first_some, signal_fault, first_signal_fault, signal_named, greater, merged, merged_all, signals_named}
use Rattle.vq_layer.specs.Takes.{AreApart, AreKnown}
use Rattle.vq_layer.proofs.Ground.{equal_true, equal_turned, set_parts}

pub merged_other : (n : ℕ) (w : Wanted) (xs : List Wanted) → nat_eq w.timeline n ≡ false → is_named n xs ≡ false → is_named n (merged w xs) ≡ false
merged_other n w [] e h = ap (λ (b : Bool). if b then true else false) e
merged_other n w (x ∷ xs) e h = by_test (nat_eq x.timeline w.timeline) (nat_eq x.timeline n) refl h (merged_other n w xs e)
  where
    by_test : (b c : Bool) → nat_eq x.timeline n ≡ c → (if c then true else is_named n xs) ≡ false → (is_named n xs ≡ false → is_named n (merged w xs) ≡ false) → is_named n (if b then greater x w ∷ xs else x ∷ merged w xs) ≡ false
    by_test b true f q rest = absurd (cc)
    by_test true false f q rest = ap (λ (b : Bool). if b then true else is_named n xs) f ∙ q
    by_test false false f q rest = ap (λ (b : Bool). if b then true else is_named n (merged w xs)) f ∙ rest q

apart_merged : (w : Wanted) (xs : List Wanted) → AreApart xs → AreApart (merged w xs)
apart_merged w [] a = (refl, tt)
apart_merged w (x ∷ xs) a = by_test (nat_eq x.timeline w.timeline) refl (apart_merged w xs a.1)
  where
    by_test : (b : Bool) → nat_eq x.timeline w.timeline ≡ b → AreApart (merged w xs) → AreApart (if b then greater x w ∷ xs else x ∷ merged w xs)
    by_test true e r = a
    by_test false e r = (merged_other x.timeline w xs (equal_turned x.timeline w.timeline e) a.0, r)

known_merged : (ts : List Live) (w : Wanted) (xs : List Wanted) → w.timeline < length ts → AreKnown ts xs → AreKnown ts (merged w xs)
known_merged ts w [] l k = (l, tt)
known_merged ts w (x ∷ xs) l k = by_test (nat_eq x.timeline w.timeline) (known_merged ts w xs l k.1)
  where
    by_test : (b : Bool) → AreKnown ts (merged w xs) → AreKnown ts (if b then greater x w ∷ xs else x ∷ merged w xs)
    by_test true r = k
    by_test false r = (k.0, r)

apart_all : (kept ws : List Wanted) → AreApart kept → AreApart (merged_all kept ws)
apart_all kept [] a = a
apart_all kept (w ∷ ws) a = apart_all (merged w kept) ws (apart_merged w kept a)

known_all : (ts : List Live) (kept ws : List Wanted) → AreKnown ts kept → AreKnown ts ws → AreKnown ts (merged_all kept ws)
known_all ts kept [] a k = a
known_all ts kept (w ∷ ws) a k = known_all ts (merged w kept) ws (known_merged ts w kept k.0 a) k.1

pub apart_named : (kinds : List Kind) (ws : List Wanted) → AreApart (signals_named kinds ws)
apart_named kinds ws = apart_all [] (map (signal_named kinds) ws) tt

-- what isn't closed exists
pub open_exists : (kinds : List Kind) (n : ℕ) → (kind_at kinds n ≡ Closed → ⊥) → n < length kinds
open_exists [] n h = absurd (h refl)
open_exists (k ∷ kinds) zero h = omega arith
open_exists (k ∷ kinds) (suc n) h = let rest = open_exists kinds n h in omega arith

pub not_closed : (k : Kind) (n : ℕ) (again waited : Bool) → signal_fault k n again waited ≡ None → k ≡ Closed → ⊥
not_closed Closed n again waited h e = absurd (cc)
not_closed Timeline n again waited h e = absurd (cc)
not_closed (Binary s t) n again waited h e = absurd (cc)

pub none_first : (a b : Option SubmitFault) → first_some a b ≡ None → (a ≡ None) × (b ≡ None)
none_first None b h = (refl, h)
none_first (Some x) b h = absurd (cc)

known_signals : (ts : List Live) (kinds : List Kind) (waits ws : List Wanted) → length kinds ≡ length ts → first_signal_fault kinds waits ws ≡ None → AreKnown ts (map (signal_named kinds) ws)
known_signals ts kinds waits [] e h = tt
known_signals ts kinds waits (w ∷ ws) e h =
    let both = none_first (signal_fault (kind_at kinds w.timeline) w.timeline (is_named w.timeline ws) (is_named w.timeline waits)) (first_signal_fault kinds waits ws) h in
    let exists = open_exists kinds w.timeline (not_closed (kind_at kinds w.timeline) w.timeline (is_named w.timeline ws) (is_named w.timeline waits) both.0) in
    (subst (λ (n : ℕ). w.timeline < n) e exists, known_signals ts kinds waits ws e both.1)

pub known_named : (ts : List Live) (kinds : List Kind) (waits ws : List Wanted) → length kinds ≡ length ts → first_signal_fault kinds waits ws ≡ None → AreKnown ts (signals_named kinds ws)
known_named ts kinds waits ws e h = known_all ts [] (map (signal_named kinds) ws) tt (known_signals ts kinds waits ws e h)

-- a step of the loop that merges, where the timeline is found
pub merged_here : (w x : Wanted) (xs : List Wanted) (i : ℕ) (d : Wanted) → i < length xs → x ≡ greater (get_or xs i d) w → (get_or xs i d).timeline ≡ w.timeline → merged w xs ≡ take i xs ++ merged w (drop i xs) → set xs i x ≡ merged w xs
merged_here w x xs i d l e t h =
    let y = get_or xs i d in
    set_parts xs i x l
    ∙ ap (λ (z : Wanted). take i xs ++ z ∷ drop (i + 1) xs) e
    ∙ ap (λ (zs : List Wanted). take i xs ++ zs) (sym (ap (λ (b : Bool). if b then greater y w ∷ drop (i + 1) xs else y ∷ merged w (drop (i + 1) xs)) (equal_true y.timeline w.timeline t)))
    ∙ ap (λ (zs : List Wanted). take i xs ++ merged w zs) (sym (drop_more xs i d l))
    ∙ sym h

-- and at the end
pub merged_end : (w : Wanted) (xs : List Wanted) (i : ℕ) → length xs ≤ i → take i xs ++ merged w (drop i xs) ≡ xs ++ w ∷ []
merged_end w [] zero l = refl
merged_end w [] (suc i) l = refl
merged_end w (x ∷ xs) zero l = absurd (omega arith)
merged_end w (x ∷ xs) (suc i) l = ap (λ (zs : List Wanted). x ∷ zs) (merged_end w xs i (omega arith))
