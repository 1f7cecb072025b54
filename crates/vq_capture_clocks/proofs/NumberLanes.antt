-- The lanes of a number that are in a set: what they take and give, lane by lane.
use Rattle.std.proofs.Common.{zero, suc, ◌≡◌, ◌≢◌, ◌<◌, ◌≤◌, ◌+◌, ◌*◌, ◌∙◌, Bool, true, false, ℕ, List, [], ◌∷◌, cond, refl, sym, ap, subst, arith, filter, map}
use Rattle.std.specs.Prelude.{nat_lt, ◌==◌, ◌&&◌, ◌||◌, ◌/◌, ◌%◌}
use Rattle.std.proofs.lemmas.Bool.{eqb-true, eq-eqb}
use Rattle.vq_ground.specs.Lists.{has}
use Rattle.std.specs.List.{list_all}
use Rattle.std.proofs.Common.{true≢false}
use Rattle.vq_ground.proofs.Lists.{list_all_has}
use Rattle.vq_ground.proofs.Tests.{below_of_test}
use Rattle.vq_ground.proofs.Bools.{never}
use Rattle.vq_capture_clocks.specs.Blocks.{only}
use Rattle.std.specs.Option.{option_map_or}
use Rattle.std.specs.Ordering.{nat_cmp}
use Rattle.std.specs.BTreeMap.{BTreeMap, get}
use Rattle.std.specs.Prelude.{Option, Some, None}
use Rattle.vq_capture_clocks.specs.declared.cells.SiteCells.{SiteCells}
use Rattle.vq_capture_clocks.specs.Cells.{cell_in, cells_of, given_in, HasTaken}
use Rattle.vq_capture_clocks.specs.Clocks.{IsBelow, join, later, no_clock, raise, with_cell, give_lanes, take_lanes}
use Rattle.vq_capture_clocks.specs.LaneSets.{every_place, has_lane, set_lanes}
use Rattle.vq_capture_clocks.proofs.BlockLists.{below_both, below_first, below_on, below_same, below_second, first_later, later_most, same_below, second_later}
use Rattle.vq_capture_clocks.proofs.Joined.{join_again}

-- Which lanes they are

in_filter : (test : ℕ → Bool) (xs : List ℕ) (p : ℕ) → has (filter test xs) p ≡ (has xs p && test p)
in_filter test [] p = refl
in_filter test (x ∷ xs) p = by (test x) (x == p) refl refl (in_filter test xs p)
  where
    whole : (b : Bool) → (b && true) ≡ b
    whole true = refl
    whole false = refl

    none : (b : Bool) → (b && false) ≡ false
    none true = refl
    none false = refl

    by : (b t : Bool) → test x ≡ b → (x == p) ≡ t → has (filter test xs) p ≡ (has xs p && test p) →
        has (cond b (x ∷ filter test xs) (filter test xs)) p ≡ ((t || has xs p) && test p)
    by true true e q f =
        (λ i. q i || has (filter test xs) p) ∙ sym (sym (ap (λ (n : ℕ). test n) (eqb-true x p q)) ∙ e)
    by true false e q f = (λ i. q i || f i)
    by false true e q f =
        let no : test p ≡ false = sym (ap (λ (n : ℕ). test n) (eqb-true x p q)) ∙ e in
        f ∙ (ap (λ (b : Bool). has xs p && b) no ∙ (none (has xs p) ∙ sym no))
    by false false e q f = f

in_map : (n : ℕ) (xs : List ℕ) (k : ℕ) → has (map (λ p. 15 * n + p) xs) (15 * n + k) ≡ has xs k
in_map n [] k = refl
in_map n (x ∷ xs) k = (λ i. same x k i || in_map n xs k i)
  where
    same : (a b : ℕ) → (15 * n + a == 15 * n + b) ≡ (a == b)
    same a b = by (a == b) refl
      where
        by : (t : Bool) → (a == b) ≡ t → (15 * n + a == 15 * n + b) ≡ t
        by true e = eq-eqb (15 * n + a) (15 * n + b) (ap (λ (m : ℕ). 15 * n + m) (eqb-true a b e))
        by false e = off (15 * n + a == 15 * n + b) refl
          where
            off : (t : Bool) → (15 * n + a == 15 * n + b) ≡ t → t ≡ false
            off true q =
                let r : 15 * n + a ≡ 15 * n + b = eqb-true (15 * n + a) (15 * n + b) q in
                let s : a ≡ b = omega arith in
                never (sym e ∙ eq-eqb a b s)
            off false q = refl

not_in_map : (n k : ℕ) (xs : List ℕ) → ((p : ℕ) → has xs p ≡ true → 15 * n + p ≢ k) → has (map (λ p. 15 * n + p) xs) k ≡ false
not_in_map n k [] f = refl
not_in_map n k (x ∷ xs) f =
    (λ i. off (15 * n + x == k) refl i || not_in_map n k xs (λ p h. f p (there p h)) i)
  where
    off : (t : Bool) → (15 * n + x == k) ≡ t → (15 * n + x == k) ≡ false
    off true q = absurd (f x (ap (λ (b : Bool). b || has xs x) (eq-eqb x x refl)) (eqb-true (15 * n + x) k q))
    off false q = q

    there : (p : ℕ) → has xs p ≡ true → has (x ∷ xs) p ≡ true
    there p h = either (x == p) h
      where
        either : (b : Bool) → has xs p ≡ true → (b || has xs p) ≡ true
        either true h = refl
        either false h = h

-- each place is there, and no number above
every : (p : ℕ) → p < 15 → has every_place p ≡ true
every zero l = refl
every (suc zero) l = refl
every (suc (suc zero)) l = refl
every (suc (suc (suc zero))) l = refl
every (suc (suc (suc (suc zero)))) l = refl
every (suc (suc (suc (suc (suc zero))))) l = refl
every (suc (suc (suc (suc (suc (suc zero)))))) l = refl
every (suc (suc (suc (suc (suc (suc (suc zero))))))) l = refl
every (suc (suc (suc (suc (suc (suc (suc (suc zero)))))))) l = refl
every (suc (suc (suc (suc (suc (suc (suc (suc (suc zero))))))))) l = refl
every (suc (suc (suc (suc (suc (suc (suc (suc (suc (suc zero)))))))))) l = refl
every (suc (suc (suc (suc (suc (suc (suc (suc (suc (suc (suc zero))))))))))) l = refl
every (suc (suc (suc (suc (suc (suc (suc (suc (suc (suc (suc (suc zero)))))))))))) l = refl
every (suc (suc (suc (suc (suc (suc (suc (suc (suc (suc (suc (suc (suc zero))))))))))))) l = refl
every (suc (suc (suc (suc (suc (suc (suc (suc (suc (suc (suc (suc (suc (suc zero)))))))))))))) l = refl
every (suc (suc (suc (suc (suc (suc (suc (suc (suc (suc (suc (suc (suc (suc (suc n))))))))))))))) l = absurd (omega arith)

below : (p : ℕ) → has every_place p ≡ true → p < 15
below p h = at every_place refl p h
  where
    at : (xs : List ℕ) → list_all (λ x. nat_lt x 15) xs ≡ true → (p : ℕ) → has xs p ≡ true → p < 15
    at xs e p h = below_of_test p 15 (list_all_has (λ x. nat_lt x 15) xs p e h)

pub in_lanes : (n set k : ℕ) → has (set_lanes n set) k ≡ (k / 15 == n && has_lane set (k % 15))
in_lanes n set k = by (k / 15 == n) refl
  where
    by : (t : Bool) → (k / 15 == n) ≡ t → has (set_lanes n set) k ≡ (t && has_lane set (k % 15))
    by true e =
        let q : k / 15 ≡ n = eqb-true (k / 15) n e in
        let r : k ≡ 15 * n + k % 15 = omega arith in
        ap (λ (m : ℕ). has (set_lanes n set) m) r
        ∙ (in_map n (filter (has_lane set) every_place) (k % 15)
        ∙ (in_filter (has_lane set) every_place (k % 15)
        ∙ ap (λ (b : Bool). b && has_lane set (k % 15)) (every (k % 15) (omega arith))))
    by false e =
        not_in_map n k (filter (has_lane set) every_place)
        (λ p h q.
        let l : p < 15 = below p (first (has every_place p) (has_lane set p) (sym (in_filter (has_lane set) every_place p) ∙ h)) in
        let r : k / 15 ≡ n = omega arith in
        true≢false (sym (eq-eqb (k / 15) n r) ∙ e))
      where
        first : (s t : Bool) → (s && t) ≡ true → s ≡ true
        first true t e = refl
        first false t e = never e

-- Giving

pub given_at : (ks : List ℕ) (cells : ℕ → ℕ → ℕ) (c : ℕ → ℕ) (k : ℕ) → give_lanes cells c ks k ≡ cond (has ks k) (join (cells k) c) (cells k)
given_at [] cells c k = refl
given_at (j ∷ js) cells c k = given_at js (with_cell cells j c) c k ∙ by (k == j) (j == k) (has js k) (turned j k)
  where
    turned : (a b : ℕ) → (b == a) ≡ (a == b)
    turned a b = at (b == a) (a == b) refl refl
      where
        at : (s t : Bool) → (b == a) ≡ s → (a == b) ≡ t → s ≡ t
        at true true p q = refl
        at true false p q = never (sym q ∙ eq-eqb a b (sym (eqb-true b a p)))
        at false true p q = never (sym p ∙ eq-eqb b a (sym (eqb-true a b q)))
        at false false p q = refl

    by : (s t b : Bool) → s ≡ t → cond b (join (cond s (join (cells k) c) (cells k)) c) (cond s (join (cells k) c) (cells k)) ≡ cond (t || b) (join (cells k) c) (cells k)
    by true true true e = join_again (cells k) c
    by true true false e = refl
    by true false b e = never (sym e)
    by false true b e = never e
    by false false b e = refl

pub given_lanes : (cells : ℕ → ℕ → ℕ) (n set : ℕ) (c : ℕ → ℕ) → give_lanes cells c (set_lanes n set) ≡ given_in cells n set c
given_lanes cells n set c = λ i k. at k i
  where
    at : (k : ℕ) → give_lanes cells c (set_lanes n set) k ≡ given_in cells n set c k
    at k = given_at (set_lanes n set) cells c k ∙ ap (λ (t : Bool). cond t (join (cells k) c) (cells k)) (in_lanes n set k)

-- Taking

raise_most : (c d : ℕ → ℕ) (k line : ℕ) → IsBelow c d → line ≤ d k → IsBelow (raise c k line) d
raise_most c d k line p l j = by (j == k) refl
  where
    by : (t : Bool) → (j == k) ≡ t → cond t (later (c j) line) (c j) ≤ d j
    by true e =
        let q : j ≡ k = eqb-true j k e in
        later_most (c j) line (d j) (p j) (subst (λ (i : ℕ). line ≤ d i) (sym q) l)
    by false e = p j

raise_keeps : (c : ℕ → ℕ) (k line : ℕ) → IsBelow c (raise c k line)
raise_keeps c k line j = by (j == k)
  where
    by : (t : Bool) → c j ≤ cond t (later (c j) line) (c j)
    by true = first_later (c j) line
    by false = omega arith

raise_says : (c : ℕ → ℕ) (k line : ℕ) → line ≤ raise c k line k
raise_says c k line =
    subst (λ (t : Bool). line ≤ cond t (later (c k) line) (c k)) (sym (eq-eqb k k refl)) (second_later (c k) line)

module _ (cells : ℕ → ℕ → ℕ) (line : ℕ) where
  abbrev step : (ℕ → ℕ) → ℕ → ℕ → ℕ
  step c k = raise (join c (cells k)) k line

  took_keeps : (ks : List ℕ) (c : ℕ → ℕ) → IsBelow c (take_lanes cells line c ks)
  took_keeps [] c = below_same c c refl
  took_keeps (k ∷ ks) c =
      below_on c (step c k) (take_lanes cells line (step c k) ks)
      (below_on c (join c (cells k)) (step c k) (below_first c (cells k)) (raise_keeps (join c (cells k)) k line))
      (took_keeps ks (step c k))

  took_each : (ks : List ℕ) (c : ℕ → ℕ) (k : ℕ) → has ks k ≡ true → IsBelow (cells k) (take_lanes cells line c ks) × (line ≤ take_lanes cells line c ks k)
  took_each [] c k h = never h
  took_each (j ∷ js) c k h = by (j == k) refl h (λ f. took_each js (step c j) k f)
    where
      by : (t : Bool) → (j == k) ≡ t → (t || has js k) ≡ true →
          (has js k ≡ true → IsBelow (cells k) (take_lanes cells line (step c j) js) × (line ≤ take_lanes cells line (step c j) js k)) → IsBelow (cells k) (take_lanes cells line (step c j) js) × (line ≤ take_lanes cells line (step c j) js k)
      by true e f g =
          subst (λ (i : ℕ). IsBelow (cells i) (take_lanes cells line (step c j) js) × (line ≤ take_lanes cells line (step c j) js i)) (eqb-true j k e) (
            below_on (cells j) (step c j) (take_lanes cells line (step c j) js)
                (below_on (cells j) (join c (cells j)) (step c j) (below_second c (cells j)) (raise_keeps (join c (cells j)) j line))
                (took_keeps js (step c j)),
            (let a = raise_says (join c (cells j)) j line in let b = took_keeps js (step c j) j in omega arith),
          )
      by false e f g = g f

  took_most : (ks : List ℕ) (c d : ℕ → ℕ) → IsBelow c d → ((k : ℕ) → has ks k ≡ true → IsBelow (cells k) d × (line ≤ d k)) → IsBelow (take_lanes cells line c ks) d
  took_most [] c d p f = p
  took_most (j ∷ js) c d p f =
      let here = f j (ap (λ (b : Bool). b || has js j) (eq-eqb j j refl)) in
      took_most js (step c j) d
      (raise_most (join c (cells j)) d j line (below_both c (cells j) d p here.0) here.1)
      (λ k h. f k (there (j == k) k h))
    where
      there : (b : Bool) (k : ℕ) → has js k ≡ true → (b || has js k) ≡ true
      there true k h = refl
      there false k h = h

  abbrev pub all_taken : ℕ → ℕ → (ℕ → ℕ) → ℕ → ℕ
  all_taken n set c = take_lanes cells line c (set_lanes n set)

  -- what was brought to the lanes of a number was taken, and then the line was said
  pub taken_lanes : (n set : ℕ) (c now : ℕ → ℕ) → HasTaken (λ p. cells (15 * n + p)) set c now → ((p : ℕ) → has_lane set p ≡ true → p < 15) → join now (only n set line) ≡ take_lanes cells line c (set_lanes n set)
  taken_lanes n set c now k short =
      same_below (join now (only n set line)) (all_taken n set c)
      (below_both now (only n set line) (all_taken n set c)
      (k.most (all_taken n set c) (took_keeps (set_lanes n set) c) (λ p h. (took_each (set_lanes n set) c (15 * n + p) (is_lane p h (short p h))).0)) said)
      (took_most (set_lanes n set) c (join now (only n set line))
      (below_on c now (join now (only n set line)) k.least (below_first now (only n set line))) each)
    where
      is_lane : (p : ℕ) → has_lane set p ≡ true → p < 15 → has (set_lanes n set) (15 * n + p) ≡ true
      is_lane p h l =
          let q : (15 * n + p) / 15 ≡ n = omega arith in
          let r : (15 * n + p) % 15 ≡ p = omega arith in
          in_lanes n set (15 * n + p) ∙ (λ i. eq-eqb ((15 * n + p) / 15) n q i && (ap (λ (m : ℕ). has_lane set m) r ∙ h) i)

      said : IsBelow (only n set line) (all_taken n set c)
      said j = by (j / 15 == n && has_lane set (j % 15)) refl
        where
          by : (t : Bool) → (j / 15 == n && has_lane set (j % 15)) ≡ t → cond t line 0 ≤ (all_taken n set c) j
          by true e = (took_each (set_lanes n set) c j (in_lanes n set j ∙ e)).1
          by false e = omega arith

      each : (j : ℕ) → has (set_lanes n set) j ≡ true → IsBelow (cells j) (join now (only n set line)) × (line ≤ join now (only n set line) j)
      each j h = (
        below_on (cells j) now (join now (only n set line))
            (subst (λ (m : ℕ). IsBelow (cells m) now) (sym r) (k.taken (j % 15) (second (j / 15 == n) (has_lane set (j % 15)) e)))
            (below_first now (only n set line)),
        subst (λ (t : Bool). line ≤ later (now j) (cond t line 0)) (sym e) (second_later (now j) line),
      )
        where
          e : (j / 15 == n && has_lane set (j % 15)) ≡ true
          e = sym (in_lanes n set j) ∙ h

          first : (s t : Bool) → (s && t) ≡ true → s ≡ true
          first true t f = refl
          first false t f = never f

          second : (s t : Bool) → (s && t) ≡ true → t ≡ true
          second true t f = f
          second false t f = never f

          r : j ≡ 15 * n + j % 15
          r =
              let q : j / 15 ≡ n = eqb-true (j / 15) n (first (j / 15 == n) (has_lane set (j % 15)) e) in
              omega arith

-- what a site has is what was brought to its lanes
module _ (cells : BTreeMap ℕ SiteCells) (n set : ℕ) (short : (p : ℕ) → has_lane set p ≡ true → p < 15) where
  lane_of : (p : ℕ) → p < 15 → (site : Option SiteCells) → get nat_cmp cells n ≡ site → cells_of cells (15 * n + p) ≡ option_map_or (λ x. cell_in x.groups.items p) site no_clock
  lane_of p l site e =
      let q : (15 * n + p) / 15 ≡ n = omega arith in
      let r : (15 * n + p) % 15 ≡ p = omega arith in
      (λ i. option_map_or (λ x. cell_in x.groups.items (r i)) (get nat_cmp cells (q i)) no_clock)
      ∙ ap (λ (o : Option SiteCells). option_map_or (λ x. cell_in x.groups.items p) o no_clock) e

  pub taken_site : (site : SiteCells) (c now : ℕ → ℕ) → get nat_cmp cells n ≡ Some site → HasTaken (cell_in site.groups.items) set c now → HasTaken (λ p. cells_of cells (15 * n + p)) set c now
  taken_site site c now e k = record {
    least = k.least;
    taken = λ p h. subst (λ (d : ℕ → ℕ). IsBelow d now) (sym (lane_of p (short p h) (Some site) e)) (k.taken p h);
    most = λ d a b. k.most d a (λ p h. subst (λ (f : ℕ → ℕ). IsBelow f d) (lane_of p (short p h) (Some site) e) (b p h));
  }

  pub taken_nothing : (c : ℕ → ℕ) → get nat_cmp cells n ≡ None → HasTaken (λ p. cells_of cells (15 * n + p)) set c c
  taken_nothing c e = record {
    least = below_same c c refl;
    taken = λ p h. subst (λ (d : ℕ → ℕ). IsBelow d c) (sym (lane_of p (short p h) None e)) (λ j. omega arith);
    most = λ d a b. a;
  }
