-- The first thing of a name, after one thing more.
use Rattle.std.proofs.Common.{ℕ, zero, suc, ◌≡◌, ◌+◌, Bool, true, false, cond, List, [], ◌∷◌, ◌++◌, find, Option, Some, None, arith, refl, sym, ap, subst, ◌∙◌}
use Rattle.std.specs.List.{range_with_len}
use Rattle.std.specs.Option.{is_some, option_or}
use Rattle.std.specs.Str.{bytes_eq}
use Rattle.std.specs.declared.cmp.Ordering.{Ordering}
use Rattle.std.specs.Ordering.{is_eq, nat_cmp, eq_by_cmp}
use Rattle.std.specs.Cmp.Lexicographic.{slice_cmp}
use Rattle.std.specs.BTreeMap.{BTreeMap, Updates, get_by, is_at}
use Rattle.std.specs.Map.{lookup, KeepsOthers, IsKeyTest, AreApart}
use Rattle.std.specs.Global.{Vec}
use Rattle.std.proofs.lemmas.List.Folds.{find-append}
use Rattle.std.proofs.lemmas.Map.Text.{is_eq-slice_cmp}
use Rattle.std.proofs.lemmas.Slice.Eq.{bytes_eq-Decides}
use Rattle.vq_ground.proofs.Bytes.{bytes_by_order}

-- numbers from a on, with one more
range_push : (n a j : ℕ) → a + n ≡ j → range_with_len a (suc n) ≡ range_with_len a n ++ j ∷ []
range_push zero a j e = let same : a ≡ j = omega (arith, e) in ap (λ (x : ℕ). x ∷ []) same
range_push (suc n) a j e = ap (λ (xs : List ℕ). a ∷ xs) (range_push n (a + 1) j (omega (arith, e)))

-- One more at the end is found where it passes, and none before it does.
pub found_next : (p : ℕ → Bool) (i : ℕ) →
    find p (range_with_len 0 (i + 1)) ≡ option_or (find p (range_with_len 0 i)) (cond (p i) (Some i) None)
found_next p i =
    let next : i + 1 ≡ suc i = omega arith in
    ap (λ (n : ℕ). find p (range_with_len 0 n)) next
    ∙ ap (find p) (range_push i 0 i (omega arith))
    ∙ find-append p (range_with_len 0 i) (i ∷ [])

-- The map of names

abbrev pub number_in : BTreeMap (Vec ℕ) ℕ → List ℕ → Option ℕ
number_in names name = get_by (λ k. slice_cmp nat_cmp name k.items) names

-- how the map's keys compare
abbrev pub key_cmp : Vec ℕ → Vec ℕ → Ordering
key_cmp x y = slice_cmp nat_cmp x.items y.items

-- the test of a key by its bytes
abbrev has_bytes : List ℕ → Vec ℕ → Bool
has_bytes name = is_at (λ k. slice_cmp nat_cmp name k.items)

other_names : (old new : List (Vec ℕ × ℕ)) (test : Vec ℕ → Bool) →
    KeepsOthers (eq_by_cmp key_cmp) test old new → (other : Vec ℕ → Bool) →
    IsKeyTest (eq_by_cmp key_cmp) other → AreApart test other → lookup other new ≡ lookup other old
unfolding KeepsOthers
other_names old new test h = h

-- after a name is put into the map, it stands for what was put there, and each other name for what
-- it stood for
after_put : (old new : BTreeMap (Vec ℕ) ℕ) (k : Vec ℕ) (d : ℕ) →
    Updates key_cmp old new k (Some d) → (name : List ℕ) (b : Bool) → bytes_eq name k.items ≡ b →
    number_in new name ≡ cond b (Some d) (number_in old name)
after_put old new k d put name true e =
    let same : name ≡ k.items = (bytes_eq-Decides name k.items).0 e in
    subst (λ (bs : List ℕ). number_in new bs ≡ Some d) (sym same) put.1
after_put old new k d put name false e =
    other_names old.entries new.entries (is_at (key_cmp k)) put.3 (has_bytes name)
    (λ x y h. ap (λ (bs : List ℕ). is_eq (slice_cmp nat_cmp bs y.items)) (bytes_by_order name x.items h))
    (λ x h. subst (λ (bs : List ℕ). is_eq (slice_cmp nat_cmp name bs) ≡ false)
    (bytes_by_order k.items x.items h) (is_eq-slice_cmp name k.items ∙ e))

-- the number that a name had, or for one name this one
abbrev with_name : BTreeMap (Vec ℕ) ℕ → List ℕ → ℕ → List ℕ → Option ℕ
with_name names name d other = option_or (number_in names other) (cond (bytes_eq other name) (Some d) None)

some_stays : (o e : Option ℕ) → is_some o ≡ true → o ≡ option_or o e
some_stays None e h = absurd (cc)
some_stays (Some n) e h = refl

none_adds : (o : Option ℕ) → o ≡ option_or o None
none_adds None = refl
none_adds (Some n) = refl

none_gives : (o e : Option ℕ) → is_some o ≡ false → e ≡ option_or o e
none_gives None e h = refl
none_gives (Some n) e h = absurd (cc)

-- a name that stands in the map already
pub name_known : (names : BTreeMap (Vec ℕ) ℕ) (name : List ℕ) (d : ℕ) → is_some (number_in names name) ≡ true →
    (other : List ℕ) → number_in names other ≡ with_name names name d other
name_known names name d h other = by_test (bytes_eq other name) refl
  where
    by_test : (b : Bool) → bytes_eq other name ≡ b → number_in names other ≡ with_name names name d other
    by_test true e =
        let same : name ≡ other = sym ((bytes_eq-Decides other name).0 e) in
        some_stays (number_in names other) (cond (bytes_eq other name) (Some d) None)
        (subst (λ (bs : List ℕ). is_some (number_in names bs) ≡ true) same h)
    by_test false e =
        none_adds (number_in names other)
        ∙ sym (ap (λ t. option_or (number_in names other) (cond t (Some d) None)) e)

-- a new one
pub name_put : (old new : BTreeMap (Vec ℕ) ℕ) (k : Vec ℕ) (name : List ℕ) (d : ℕ) →
    Updates key_cmp old new k (Some d) → k.items ≡ name → is_some (number_in old name) ≡ false →
    (other : List ℕ) → number_in new other ≡ with_name old name d other
name_put old new k name d put key h other = by_test (bytes_eq other name) refl
  where
    by_test : (b : Bool) → bytes_eq other name ≡ b → number_in new other ≡ with_name old name d other
    by_test true e =
        let same : name ≡ other = sym ((bytes_eq-Decides other name).0 e) in
        after_put old new k d put other true (ap (bytes_eq other) key ∙ e)
        ∙ none_gives (number_in old other) (Some d) (subst (λ (bs : List ℕ). is_some (number_in old bs) ≡ false) same h)
        ∙ sym (ap (λ t. option_or (number_in old other) (cond t (Some d) None)) e)
    by_test false e =
        after_put old new k d put other false (ap (bytes_eq other) key ∙ e)
        ∙ none_adds (number_in old other)
        ∙ sym (ap (λ t. option_or (number_in old other) (cond t (Some d) None)) e)
