-- Accesses that are loose are found in an index, and none of a step's own command is.
use Rattle.std.proofs.Common.{◌≡◌, ◌<◌, ◌≤◌, ◌+◌, ◌∙◌, Bool, true, false, ℕ, List, [], ◌∷◌, ◌++◌, cond, refl, sym, ap, subst, inl, inr, take, length, get_or, Option, Some, None}
use Rattle.std.specs.Prelude.{◌==◌, ◌&&◌, ◌||◌, not, is_some}
use Rattle.std.specs.List.{list_all, list_any, slice_get}
use Rattle.std.specs.Ordering.{nat_cmp}
use Rattle.std.specs.BTreeMap.{BTreeMap, get}
use Rattle.std.proofs.lemmas.Bool.{or_cases, or_left, and_from, eqb-true, eq-eqb, and_parts}
use Rattle.std.proofs.lemmas.List.Folds.{list_any_more}
use Rattle.std.proofs.lemmas.List.{take_all}
use Rattle.vq_ground.specs.Lists.{has}
use Rattle.vq_ground.proofs.Bools.{never}
use Rattle.vq_capture.specs.declared.statement.Access.{Access}
use Rattle.vq_capture.specs.declared.capture.Step.{Step}
use Rattle.vq_capture.specs.Races.{access_of, clash, conflict, same_command}
use Rattle.vq_capture_touched.specs.declared.kind.Kind.{Kind}
use Rattle.vq_capture_touched.specs.declared.touch.Touch.{Touch}
use Rattle.vq_capture_touched.specs.Kinds.{is_listed, lists, same_kind, same_some}
use Rattle.vq_capture_touched.proofs.Cited.{listing, somes_are_one}
use Rattle.vq_capture_check.specs.Watching.{Clocking, all_known, goes_on, is_loose, last_loose, one_command}
use Rattle.vq_capture_check.specs.Searches.{AreFast, AreFound}
use Rattle.vq_capture_check.proofs.KindsKnown.{known_alike}
use Rattle.vq_capture_check.proofs.Lists.{loose_newest, loose_older}

module _ (cut : ℕ) (ys : List Clocking) (b : Step) where
  -- Where the latest of a kind is known to all points, each is.

  known_too : (a t : Touch) → same_kind a t ≡ true → t.step.line ≤ a.step.line → is_some (access_of t.step.statement) ≡ true → (zs : List Clocking) → list_all (all_known cut a) zs ≡ true → list_all (all_known cut t) zs ≡ true
  known_too a t k l f [] e = refl
  known_too a t k l f (z ∷ zs) e =
      and_from (all_known cut t z) (list_all (all_known cut t) zs)
      (known_alike cut z a t k l f ((and_parts (all_known cut a z) (list_all (all_known cut a) zs) e).0))
      (known_too a t k l f zs ((and_parts (all_known cut a z) (list_all (all_known cut a) zs) e).1))

  clash_accesses : (o p : Option Access) → clash o p ≡ true → is_some o ≡ true
  clash_accesses (Some x) p e = refl
  clash_accesses None p e = never e

  accesses : (t : Touch) → is_loose cut ys b t ≡ true → is_some (access_of t.step.statement) ≡ true
  accesses t e =
      clash_accesses (access_of t.step.statement) (access_of b.statement)
      ((and_parts (clash (access_of t.step.statement) (access_of b.statement)) (not (same_command t.step.command b.command)) ((and_parts (conflict t.step b) (not (list_all (all_known cut t) ys)) e).0)).0)

  known_fast : (a t : Touch) → same_kind a t ≡ true → t.step.line ≤ a.step.line → list_all (all_known cut a) ys ≡ true → is_loose cut ys b t ≡ true → ⊥
  known_fast a t k l e f =
      never (sym (ap (λ (c : Bool). not c) (known_too a t k l (accesses t f) ys e))
      ∙ (and_parts (conflict t.step b) (not (list_all (all_known cut t) ys)) f).1)

  pub none_known : (k : Kind) (s : ℕ) (t : Touch) → list_all (all_known cut k.latest) ys ≡ true → lists k s t ≡ true → is_loose cut ys b t ≡ true → ⊥
  none_known k s t e l f = let r = listing k s t l in known_fast k.latest t r.same r.line e f

  -- the latest of a kind, at another line
  abbrev pub moved : Kind → ℕ → Touch
  moved k line = record k.latest { step = record k.latest.step { line = line } }

  -- Where it is known at a line, each that isn't below is found, or isn't loose.
  pub found_below : (k : Kind) (s : ℕ) (t : Touch) (line : ℕ) (stamps : List ℕ) → list_all (all_known cut (moved k line)) ys ≡ true → ((s : ℕ) (t : Touch) → lists k s t ≡ true → conflict t.step b ≡ true → has stamps s ≡ false → t.step.line ≤ line) → lists k s t ≡ true → is_loose cut ys b t ≡ true → has stamps s ≡ true
  found_below k s t line stamps e f l g = by (has stamps s) refl
    where
      by : (c : Bool) → has stamps s ≡ c → has stamps s ≡ true
      by true h = h
      by false h =
          absurd (known_fast (moved k line) t (listing k s t l).same (f s t l ((and_parts (conflict t.step b) (not (list_all (all_known cut t) ys)) g).0) h) e g)

  pub loose_conflicts : (t : Touch) → is_loose cut ys b t ≡ true → conflict t.step b ≡ true
  loose_conflicts t f = (and_parts (conflict t.step b) (not (list_all (all_known cut t) ys)) f).0

  pub found_more : (kinds : List Kind) (i : ℕ) (k : Kind) (old new : List ℕ) → i < length kinds → k ≡ get_or kinds i k → AreFound cut ys b (take i kinds) old → ((s : ℕ) → has old s ≡ true → has new s ≡ true) → ((s : ℕ) (t : Touch) → lists k s t ≡ true → is_loose cut ys b t ≡ true → has new s ≡ true) → AreFound cut ys b (take (i + 1) kinds) new
  found_more kinds i k old new l e f kept here s t h g =
      elim (or_cases (is_listed (take i kinds) s t) (lists (get_or kinds i k) s t) (sym (list_any_more (λ x. lists x s t) kinds i k l) ∙ h)) [
        | inl m ↦ kept s (f s t m g)
        | inr m ↦ here s t (ap (λ (x : Kind). lists x s t) e ∙ m) g
      ]

  pub found_all : (kinds : List Kind) (i : ℕ) (stamps : List ℕ) → length kinds ≤ i → AreFound cut ys b (take i kinds) stamps → AreFound cut ys b kinds stamps
  found_all kinds i stamps l f = subst (λ (ks : List Kind). AreFound cut ys b ks stamps) (take_all i kinds l) f

  -- Where none of those that are found is loose, none is.

  pub fast_all : (m : BTreeMap ℕ Touch) (i : ℕ) (stamps : List ℕ) → length stamps ≤ i → AreFast cut ys b m (take i stamps) → AreFast cut ys b m stamps
  fast_all m i stamps l f = subst (λ (xs : List ℕ). AreFast cut ys b m xs) (take_all i stamps l) f

  pub fast_more : (m : BTreeMap ℕ Touch) (stamps : List ℕ) (i d : ℕ) → i < length stamps → AreFast cut ys b m (take i stamps) → ((t : Touch) → get nat_cmp m (get_or stamps i d) ≡ Some t → is_loose cut ys b t ≡ false) → AreFast cut ys b m (take (i + 1) stamps)
  fast_more m stamps i d l f here s t h g =
      elim (or_cases (has (take i stamps) s) (get_or stamps i d == s) (sym (list_any_more (λ x. x == s) stamps i d l) ∙ h)) [
        | inl n ↦ f s t n g
        | inr n ↦ here t (ap (λ (x : ℕ). get nat_cmp m x) (eqb-true (get_or stamps i d) s n) ∙ g)
      ]

  pub all_fast : (m : BTreeMap ℕ Touch) (kinds : List Kind) (stamps : List ℕ) → ((s : ℕ) (t : Touch) → get nat_cmp m s ≡ Some t → is_listed kinds s t ≡ true) → AreFound cut ys b kinds stamps → AreFast cut ys b m stamps → (s : ℕ) (t : Touch) → get nat_cmp m s ≡ Some t → is_loose cut ys b t ≡ false
  all_fast m kinds stamps listed found fast s t g = by (is_loose cut ys b t) refl
    where
      by : (c : Bool) → is_loose cut ys b t ≡ c → is_loose cut ys b t ≡ false
      by false e = e
      by true e = fast s t (found s t (listed s t g) e) g

  pub last_none : (xs : List Touch) → list_any (is_loose cut ys b) xs ≡ false → last_loose cut ys b xs ≡ None
  last_none [] e = refl
  last_none (x ∷ xs) e = by (is_loose cut ys b x) refl (last_none xs)
    where
      by : (c : Bool) → is_loose cut ys b x ≡ c → (list_any (is_loose cut ys b) xs ≡ false → last_loose cut ys b xs ≡ None) →
          last_loose cut ys b (x ∷ xs) ≡ None
      by true f g = never (sym e ∙ ap (λ (d : Bool). d || list_any (is_loose cut ys b) xs) f)
      by false f g =
          loose_older cut ys b (x ∷ []) xs (g (sym (ap (λ (d : Bool). d || list_any (is_loose cut ys b) xs) f) ∙ e))
          ∙ ap (λ (d : Bool). cond d (Some x.step.line) None) f

-- One command

command_is : (c d : Option ℕ) → same_command c d ≡ true → c ≡ d
command_is (Some c) (Some d) e = ap (λ (n : ℕ). Some n) (eqb-true c d e)
command_is (Some c) None e = never e
command_is None d e = never e

same_commands : (c d e : Option ℕ) → same_some c d ≡ true → same_command c e ≡ same_command d e
same_commands c d e f = ap (λ (o : Option ℕ). same_command o e) (somes_are_one c d f)

abbrev goes : Step → Touch → Bool
goes step w = same_command w.step.command step.command

module _ (step : Step) (w : Touch) where
  others_tell : (ws : List Touch) → list_all (λ v. same_some v.step.command w.step.command) ws ≡ true → goes_on step ws ≡ true → goes step w ≡ true
  others_tell [] e f = never f
  others_tell (v ∷ vs) e f =
      let one : same_some v.step.command w.step.command ≡ true =
      (and_parts (same_some v.step.command w.step.command) (list_all (λ v. same_some v.step.command w.step.command) vs) e).0 in
      elim (or_cases (goes step v) (goes_on step vs) f) [
        | inl h ↦ sym (same_commands v.step.command w.step.command step.command one) ∙ h
        | inr h ↦ others_tell vs ((and_parts (same_some v.step.command w.step.command) (list_all (λ v. same_some v.step.command w.step.command) vs) e).1) h
      ]

  pub first_tells : (ws : List Touch) → one_command (w ∷ ws) ≡ true → goes step w ≡ goes_on step (w ∷ ws)
  first_tells ws e = by (goes step w) refl (goes_on step ws) refl
    where
      by : (c : Bool) → goes step w ≡ c → (d : Bool) → goes_on step ws ≡ d → goes step w ≡ (goes step w || goes_on step ws)
      by true f d g = f ∙ sym (or_left (goes step w) (goes_on step ws) f)
      by false f true g = never (sym f ∙ others_tell ws e g)
      by false f false g = f ∙ sym (λ i. f i || g i)

  all_go : (ws : List Touch) → list_all (λ v. same_some v.step.command w.step.command) ws ≡ true → goes step w ≡ true → (cut : ℕ) (ys : List Clocking) → list_any (is_loose cut ys step) ws ≡ false
  all_go [] e f cut ys = refl
  all_go (v ∷ vs) e f cut ys =
      let one : same_some v.step.command w.step.command ≡ true =
      (and_parts (same_some v.step.command w.step.command) (list_all (λ v. same_some v.step.command w.step.command) vs) e).0 in
      let rest : list_any (is_loose cut ys step) vs ≡ false =
      all_go vs ((and_parts (same_some v.step.command w.step.command) (list_all (λ v. same_some v.step.command w.step.command) vs) e).1) f cut ys in
      λ i. no_conflict v (same_commands v.step.command w.step.command step.command one ∙ f) cut ys i || rest i
    where
      no_conflict : (v : Touch) → goes step v ≡ true → (cut : ℕ) (ys : List Clocking) → is_loose cut ys step v ≡ false
      no_conflict v h cut ys =
          ap (λ (c : Bool). (clash (access_of v.step.statement) (access_of step.statement) && not c) && not (list_all (all_known cut v) ys)) h
          ∙ false_left (clash (access_of v.step.statement) (access_of step.statement)) (not (list_all (all_known cut v) ys))
        where
          false_left : (c d : Bool) → ((c && false) && d) ≡ false
          false_left true d = refl
          false_left false d = refl

-- the same, of the first of a list
pub goes_first : (step : Step) (ws : List Touch) (w : Touch) → slice_get ws 0 ≡ Some w → one_command ws ≡ true → same_command w.step.command step.command ≡ goes_on step ws
goes_first step [] w e f = absurd (none e)
  where
    none : None ≡ Some w → ⊥
    none q = cc
goes_first step (x ∷ xs) w e f =
    let same : w ≡ x = one e in
    ap (λ (v : Touch). same_command v.step.command step.command) same ∙ first_tells step x xs f
  where
    one : Some x ≡ Some w → w ≡ x
    one q = cc

-- of the accesses of a step's own command none is loose
pub none_of_command : (cut : ℕ) (ys : List Clocking) (step : Step) (ws : List Touch) → one_command ws ≡ true → goes_on step ws ≡ true → last_loose cut ys step ws ≡ None
none_of_command cut ys step [] e f = refl
none_of_command cut ys step (w ∷ ws) e f =
    last_none cut ys step (w ∷ ws) (all_go step w (w ∷ ws) (and_from (same_some w.step.command w.step.command) _ (itself w.step.command) e) (first_tells step w ws e ∙ f) cut ys)
  where
    itself : (c : Option ℕ) → same_some c c ≡ true
    itself (Some n) = eq-eqb n n refl
    itself None = refl

-- a step that goes on with a command is of it
pub command_grows : (a : Touch) (ws : List Touch) → one_command ws ≡ true → goes_on a.step ws ≡ true → one_command (ws ++ a ∷ []) ≡ true
command_grows a [] e f = never f
command_grows a (w ∷ ws) e f = grown ws e
  where
    first : w.step.command ≡ a.step.command
    first = command_is w.step.command a.step.command (first_tells a.step w ws e ∙ f)

    itself : (c : Option ℕ) → same_some c c ≡ true
    itself (Some n) = eq-eqb n n refl
    itself None = refl

    one : same_some a.step.command w.step.command ≡ true
    one = ap (λ (o : Option ℕ). same_some o w.step.command) (sym first) ∙ itself w.step.command

    grown : (vs : List Touch) → list_all (λ v. same_some v.step.command w.step.command) vs ≡ true → list_all (λ v. same_some v.step.command w.step.command) (vs ++ a ∷ []) ≡ true
    grown [] h = and_from (same_some a.step.command w.step.command) true one refl
    grown (v ∷ vs) h =
        and_from (same_some v.step.command w.step.command) (list_all (λ v. same_some v.step.command w.step.command) (vs ++ a ∷ []))
        ((and_parts (same_some v.step.command w.step.command) (list_all (λ v. same_some v.step.command w.step.command) vs) h).0)
        (grown vs ((and_parts (same_some v.step.command w.step.command) (list_all (λ v. same_some v.step.command w.step.command) vs) h).1))

-- the same, where there may have been no memory for it
pub command_may_grow : (a : Touch) (ws vs : List Touch) (ok : Bool) → vs ≡ cond ok (ws ++ a ∷ []) ws → one_command ws ≡ true → goes_on a.step ws ≡ true → one_command vs ≡ true
command_may_grow a ws vs true e f g = ap (λ (us : List Touch). one_command us) e ∙ command_grows a ws f g
command_may_grow a ws vs false e f g = ap (λ (us : List Touch). one_command us) e ∙ f

-- Of three lists one above the other

module _ (cut : ℕ) (ys : List Clocking) (b : Step) (index recent newest : List Touch) where
  pub in_newest : (line : ℕ) → Some line ≡ last_loose cut ys b newest → Some line ≡ last_loose cut ys b ((index ++ recent) ++ newest)
  in_newest line e = sym (loose_newest cut ys b (index ++ recent) newest line (sym e))

  pub in_recent : (line : ℕ) → None ≡ last_loose cut ys b newest → Some line ≡ last_loose cut ys b recent → Some line ≡ last_loose cut ys b ((index ++ recent) ++ newest)
  in_recent line e f =
      sym (loose_older cut ys b (index ++ recent) newest (sym e) ∙ loose_newest cut ys b index recent line (sym f))

  pub in_index : (o : Option ℕ) → None ≡ last_loose cut ys b newest → None ≡ last_loose cut ys b recent → o ≡ last_loose cut ys b index → o ≡ last_loose cut ys b ((index ++ recent) ++ newest)
  in_index o e f g =
      g
      ∙ sym (loose_older cut ys b (index ++ recent) newest (sym e) ∙ loose_older cut ys b index recent (sym f))
