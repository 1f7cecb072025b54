-- A map has what the names stand for, after one more or one less.
use Rattle.std.proofs.Common.{◌≡◌, ◌∙◌, ℕ, Bool, true, false, cond, List, [], ◌∷◌, ◌++◌, not, Option, Some, None, refl, sym, ap, subst}
use Rattle.std.specs.Option.{is_some, option_map, option_or}
use Rattle.std.specs.Str.{bytes_eq}
use Rattle.std.specs.Ordering.{is_eq, nat_cmp, eq_by_cmp}
use Rattle.std.specs.declared.cmp.Ordering.{Ordering}
use Rattle.std.specs.Cmp.Lexicographic.{slice_cmp}
use Rattle.std.specs.BTreeMap.{BTreeMap, Updates, UpdatesBy, is_at}
use Rattle.std.specs.Map.{lookup, KeepsOthers, IsKeyTest, AreApart}
use Rattle.std.specs.Global.{Vec}
use Rattle.std.proofs.lemmas.List.Folds.{find-append}
use Rattle.std.proofs.lemmas.Bool.{false≢true}
use Rattle.std.proofs.lemmas.Map.Text.{is_eq-slice_cmp}
use Rattle.std.proofs.lemmas.Slice.Eq.{bytes_eq-Decides}
use Rattle.vq_ground.proofs.Bytes.{bytes_by_order}
use Rattle.vq_capture.specs.Context.{Named, named, without_name}
use Rattle.vq_capture.specs.Statements.{with_name}
use Rattle.vq_capture_reader.specs.declared.past_names.Thing.{Thing}
use Rattle.vq_capture_reader.specs.Things.{thing_of}
use Rattle.vq_capture_reader.specs.NameMaps.{StandsFor, thing_in}

-- Bytes

same_of : (xs ys : List ℕ) → bytes_eq xs ys ≡ true → xs ≡ ys
same_of xs ys h = (bytes_eq-Decides xs ys).0 h

-- The list of names

named_push : (names : List Named) (n : Named) (word : List ℕ) → named (names ++ n ∷ []) word ≡ option_or (named names word) (cond (bytes_eq n.name word) (Some n) None)
named_push names n word = find-append (λ m. bytes_eq m.name word) names (n ∷ [])

-- a name that ends is named no more
ended : (names : List Named) (word : List ℕ) → named (without_name names word) word ≡ None
ended [] word = refl
ended (n ∷ names) word = by_test (bytes_eq n.name word) refl (ended names word)
  where
    by_test : (b : Bool) → bytes_eq n.name word ≡ b → named (without_name names word) word ≡ None → named (cond (not b) (n ∷ without_name names word) (without_name names word)) word ≡ None
    by_test true e ih = ih
    by_test false e ih = ap (λ (b : Bool). cond b (Some n) (named (without_name names word) word)) e ∙ ih

-- other names stay
others_stay : (names : List Named) (word other : List ℕ) → ((n : List ℕ) → bytes_eq n word ≡ true → bytes_eq n other ≡ false) → named (without_name names word) other ≡ named names other
others_stay [] word other apart = refl
others_stay (n ∷ names) word other apart = by_test (bytes_eq n.name word) refl (others_stay names word other apart)
  where
    by_test : (b : Bool) → bytes_eq n.name word ≡ b → named (without_name names word) other ≡ named names other → named (cond (not b) (n ∷ without_name names word) (without_name names word)) other ≡ named (n ∷ names) other
    by_test true e ih =
        ih
        ∙ sym (ap (λ (b : Bool). cond b (Some n) (named names other)) (apart n.name e))
    by_test false e ih = ap (λ (o : Option Named). cond (bytes_eq n.name other) (Some n) o) ih

-- The map

abbrev key_cmp : Vec ℕ → Vec ℕ → Ordering
key_cmp x y = slice_cmp nat_cmp x.items y.items

abbrev has_bytes : List ℕ → Vec ℕ → Bool
has_bytes word = is_at (λ k. slice_cmp nat_cmp word k.items)

other_names : (old new : List (Vec ℕ × Thing)) (test : Vec ℕ → Bool) → KeepsOthers (eq_by_cmp key_cmp) test old new → (other : Vec ℕ → Bool) → IsKeyTest (eq_by_cmp key_cmp) other → AreApart test other → lookup other new ≡ lookup other old
unfolding KeepsOthers
other_names old new test h = h

-- at another word the map has what it had
others_kept : (old new : BTreeMap (Vec ℕ) Thing) (word other : List ℕ) → KeepsOthers (eq_by_cmp key_cmp) (has_bytes word) old.entries new.entries → bytes_eq other word ≡ false → thing_in new other ≡ thing_in old other
others_kept old new word other kept e =
    other_names old.entries new.entries (has_bytes word) kept (has_bytes other)
    (λ x y h. ap (λ (bs : List ℕ). is_eq (slice_cmp nat_cmp bs y.items)) (bytes_by_order other x.items h))
    (λ x h. subst (λ (bs : List ℕ). is_eq (slice_cmp nat_cmp other bs) ≡ false)
    (bytes_by_order word x.items h) (is_eq-slice_cmp other word ∙ e))

none_of : {X Y : Type 0} (f : X → Y) (o : Option X) → option_map f o ≡ None → o ≡ None
none_of f None e = refl
none_of f (Some x) e = absurd (cc)

none_by : {X : Type 0} (o : Option X) → is_some o ≡ false → o ≡ None
none_by None e = refl
none_by (Some x) e = absurd (cc)

some_stays : {X Y : Type 0} (f : X → Y) (o e : Option X) → is_some (option_map f o) ≡ true → option_map f o ≡ option_map f (option_or o e)
some_stays f None e h = absurd (cc)
some_stays f (Some n) e h = refl

none_adds : {X : Type 0} (o : Option X) → o ≡ option_or o None
none_adds None = refl
none_adds (Some n) = refl

module _ (map : BTreeMap (Vec ℕ) Thing) (names : List Named) (all : StandsFor map names) (thing : Thing) (word : List ℕ) where
  abbrev one : Named
  one = record { name = word; kind = thing.kind; line = thing.line }

  abbrev more : List Named
  more = with_name thing.kind thing.line word names

  -- another word stands for what it stood for
  other_more : (other : List ℕ) → bytes_eq other word ≡ false → named names other ≡ named more other
  other_more other e =
      none_adds (named names other)
      ∙ (ap (λ (b : Bool). option_or (named names other) (cond b (Some one) None)) (sym (flipped (bytes_eq word other) refl))
      ∙ sym (named_push names one other))
    where
      flipped : (b : Bool) → bytes_eq word other ≡ b → bytes_eq word other ≡ false
      flipped true h = absurd (false≢true (sym e ∙ subst (λ (bs : List ℕ). bytes_eq bs word ≡ true) (same_of word other h) ((bytes_eq-Decides word word).1 refl)))
      flipped false h = h

  -- a name that is declared stays what it is
  pub declared_before : is_some (thing_in map word) ≡ true → StandsFor map more
  declared_before h other = by_test (bytes_eq other word) refl
    where
      by_test : (b : Bool) → bytes_eq other word ≡ b → thing_in map other ≡ option_map thing_of (named more other)
      by_test true e =
          let same : word ≡ other = sym (same_of other word e) in
          let some : is_some (option_map thing_of (named names other)) ≡ true =
          subst (λ (bs : List ℕ). is_some (option_map thing_of (named names bs)) ≡ true) same
          (sym (ap (λ (o : Option Thing). is_some o) (all word)) ∙ h) in
          all other
          ∙ (some_stays thing_of (named names other) (cond (bytes_eq one.name other) (Some one) None) some
          ∙ sym (ap (λ (o : Option Named). option_map thing_of o) (named_push names one other)))
      by_test false e = all other ∙ ap (λ (o : Option Named). option_map thing_of o) (other_more other e)

  -- a new one stands for what it is declared as
  pub declared_now : (new : BTreeMap (Vec ℕ) Thing) (k : Vec ℕ) → k.items ≡ word → is_some (thing_in map word) ≡ false → Updates key_cmp map new k (Some thing) → StandsFor new more
  declared_now new k key h put other = by_test (bytes_eq other word) refl
    where
      free : named names word ≡ None
      free = none_of thing_of (named names word) (sym (all word) ∙ none_by (thing_in map word) h)

      by_test : (b : Bool) → bytes_eq other word ≡ b → thing_in new other ≡ option_map thing_of (named more other)
      by_test true e =
          let same : word ≡ other = sym (same_of other word e) in
          subst (λ (bs : List ℕ). thing_in new bs ≡ option_map thing_of (named more bs)) same
          (subst (λ (bs : List ℕ). thing_in new bs ≡ Some thing) key put.1
          ∙ sym (ap (λ (o : Option Named). option_map thing_of o)
          (named_push names one word
          ∙ (ap (λ (o : Option Named). option_or o (cond (bytes_eq word word) (Some one) None)) free
          ∙ ap (λ (b : Bool). cond b (Some one) None) ((bytes_eq-Decides word word).1 refl)))))
      by_test false e =
          others_kept map new word other
          (subst (λ (bs : List ℕ). KeepsOthers (eq_by_cmp key_cmp) (has_bytes bs) map.entries new.entries) key put.3) e
          ∙ (all other ∙ ap (λ (o : Option Named). option_map thing_of o) (other_more other e))

module _ (map : BTreeMap (Vec ℕ) Thing) (names : List Named) (all : StandsFor map names) (word : List ℕ) where
  -- one that ends stands for nothing
  pub ended_now : (new : BTreeMap (Vec ℕ) Thing) → UpdatesBy key_cmp (λ k. slice_cmp nat_cmp word k.items) map new None → StandsFor new (without_name names word)
  ended_now new gone other = by_test (bytes_eq other word) refl
    where
      apart : bytes_eq other word ≡ false → (n : List ℕ) → bytes_eq n word ≡ true → bytes_eq n other ≡ false
      apart e n h = flipped (bytes_eq n other) refl
        where
          flipped : (b : Bool) → bytes_eq n other ≡ b → bytes_eq n other ≡ false
          flipped true q = absurd (false≢true (sym e ∙ subst (λ (bs : List ℕ). bytes_eq bs word ≡ true) (same_of n other q) h))
          flipped false q = q

      by_test : (b : Bool) → bytes_eq other word ≡ b → thing_in new other ≡ option_map thing_of (named (without_name names word) other)
      by_test true e =
          subst (λ (bs : List ℕ). thing_in new bs ≡ option_map thing_of (named (without_name names word) bs)) (sym (same_of other word e))
          (gone.1 ∙ sym (ap (λ (o : Option Named). option_map thing_of o) (ended names word)))
      by_test false e =
          others_kept map new word other gone.3 e
          ∙ (all other ∙ sym (ap (λ (o : Option Named). option_map thing_of o) (others_stay names word other (apart e))))
