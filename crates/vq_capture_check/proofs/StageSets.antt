-- The lanes of a queue as sets, and as lists.
use Rattle.std.proofs.Common.{zero, suc, ◌≡◌, ◌≢◌, ◌<◌, ◌≤◌, ◌+◌, ◌-◌, ◌*◌, ◌∙◌, Bool, true, false, ℕ, List, [], ◌∷◌, ◌++◌, cond, refl, sym, ap, arith, filter, map, length, get_or}
use Rattle.std.specs.Prelude.{◌==◌, ◌||◌, ◌/◌, ◌%◌}
use Rattle.std.proofs.lemmas.List.{get_or_append_left, get_or-append_right, get_or_past}
use Rattle.std.proofs.lemmas.Bool.{eqb-true, eq-eqb}
use Rattle.vq_ground.proofs.Bools.{never}
use Rattle.vq_ground.proofs.Tests.{below_of_test, at_least_of_test}
use Rattle.std.specs.Prelude.{nat_lt}
use Rattle.vq_capture.specs.declared.stage.Stage.{Stage}
use Rattle.vq_capture.specs.declared.stage.StageMask.{StageMask}
use Rattle.vq_capture.specs.Masks.{has_stage}
use Rattle.vq_capture_clocks.specs.LaneSets.{every_place, has_lane, set_lanes}
use Rattle.vq_capture_check.specs.Clocks.{give_lanes, take_lanes, join, raise, with_cell}
use Rattle.vq_capture_check.specs.Lanes.{every_stage, lanes_in, last_if, stage_flags, stage_lanes, stage_number}

-- One place more

module _ (set result place : ℕ) (flags : List Bool) (l : length flags ≡ place) (f : (p : ℕ) → has_lane set p ≡ get_or flags p false) where
  last_flag : (t : Bool) (p : ℕ) → get_or (flags ++ t ∷ []) p false ≡ cond (p == place) t (get_or flags p false)
  last_flag t p = by (p == place) refl (nat_lt p place) refl
    where
      past : (m : ℕ) → get_or {A = Bool} (t ∷ []) (suc m) false ≡ false
      past zero = refl
      past (suc m) = refl

      by : (b : Bool) → (p == place) ≡ b → (u : Bool) → nat_lt p place ≡ u → get_or (flags ++ t ∷ []) p false ≡ cond b t (get_or flags p false)
      by true e u g =
          let here : p ≡ place = eqb-true p place e in
          let low : length flags ≤ p = omega arith in
          let none : p - length flags ≡ 0 = omega arith in
          get_or-append_right flags (t ∷ []) (length flags) p false refl low ∙ ap (λ (m : ℕ). get_or (t ∷ []) m false) none
      by false e true g =
          let a = below_of_test p place g in
          get_or_append_left flags (t ∷ []) false p (omega arith)
      by false e false g =
          let a = at_least_of_test p place g in
          let o : p ≢ place = (λ q. never (sym e ∙ eq-eqb p place q)) in
          let low : length flags ≤ p = omega arith in
          let m : p - length flags ≡ suc (p - length flags - 1) = above p (length flags) (omega (arith, o)) in
          get_or-append_right flags (t ∷ []) (length flags) p false refl low
          ∙ (ap (λ (m : ℕ). get_or (t ∷ []) m false) m ∙ (past (p - length flags - 1) ∙ sym (get_or_past flags p false low)))
        where
          above : (p n : ℕ) → n < p → p - n ≡ suc (p - n - 1)
          above p n k = omega arith

  pub flagged : ((p : ℕ) → has_lane result p ≡ (has_lane set p || (p == place))) → (p : ℕ) → has_lane result p ≡ get_or (flags ++ true ∷ []) p false
  flagged g p =
      g p ∙ ((λ i. f p i || (p == place)) ∙ (by (p == place) (get_or flags p false) ∙ sym (last_flag true p)))
    where
      by : (b t : Bool) → (t || b) ≡ cond b true t
      by true true = refl
      by true false = refl
      by false true = refl
      by false false = refl

  pub unflagged : (p : ℕ) → has_lane set p ≡ get_or (flags ++ false ∷ []) p false
  unflagged p = f p ∙ (by (p == place) refl ∙ sym (last_flag false p))
    where
      by : (b : Bool) → (p == place) ≡ b → get_or flags p false ≡ cond b false (get_or flags p false)
      by true e =
          let here : p ≡ place = eqb-true p place e in
          get_or_past flags p false (omega arith)
      by false e = refl

-- Lists of lanes

-- places with their stages
abbrev Match : StageMask → ℕ → List Stage → List ℕ → Type 0
Match mask set [] [] = Unit {0}
Match mask set (s ∷ ss) (p ∷ ps) = (stage_number s ≡ p) × (has_lane set p ≡ has_stage mask s) × Match mask set ss ps
Match mask set ss ps = ⊥

matched : (first set : ℕ) (mask : StageMask) (ss : List Stage) (ps : List ℕ) → Match mask set ss ps → map (λ p. first + p) (filter (has_lane set) ps) ≡ lanes_in first mask ss
matched first set mask [] [] m = refl
matched first set mask [] (p ∷ ps) m = absurd m
matched first set mask (s ∷ ss) [] m = absurd m
matched first set mask (s ∷ ss) (p ∷ ps) m = by (has_lane set p) (has_stage mask s) m.1 (matched first set mask ss ps m.2)
  where
    by : (a b : Bool) → a ≡ b → map (λ p. first + p) (filter (has_lane set) ps) ≡ lanes_in first mask ss →
        map (λ p. first + p) (cond a (p ∷ filter (has_lane set) ps) (filter (has_lane set) ps)) ≡ map (λ s. first + stage_number s) (cond b (s ∷ filter (has_stage mask) ss) (filter (has_stage mask) ss))
    by true true e f = λ i. (first + sym m.0 i) ∷ f i
    by true false e f = never (sym e)
    by false true e f = never e
    by false false e f = f

two_lists : (first : ℕ) (test : ℕ → Bool) (xs ys : List ℕ) → map (λ p. first + p) (filter test (xs ++ ys)) ≡ map (λ p. first + p) (filter test xs) ++ map (λ p. first + p) (filter test ys)
two_lists first test [] ys = refl
two_lists first test (x ∷ xs) ys = by (test x) (two_lists first test xs ys)
  where
    by : (b : Bool) → map (λ p. first + p) (filter test (xs ++ ys)) ≡ map (λ p. first + p) (filter test xs) ++ map (λ p. first + p) (filter test ys) →
        map (λ p. first + p) (cond b (x ∷ filter test (xs ++ ys)) (filter test (xs ++ ys))) ≡ map (λ p. first + p) (cond b (x ∷ filter test xs) (filter test xs)) ++ map (λ p. first + p) (filter test ys)
    by true e = ap (λ (zs : List ℕ). (first + x) ∷ zs) e
    by false e = e

abbrev stage_places : List ℕ
stage_places = 0 ∷ 1 ∷ 2 ∷ 3 ∷ 4 ∷ 5 ∷ 6 ∷ 7 ∷ 8 ∷ 9 ∷ 10 ∷ 11 ∷ 12 ∷ []

pub set_is : (first set : ℕ) (mask : StageMask) (last : Bool) → first % 15 ≡ 0 → ((p : ℕ) → has_lane set p ≡ get_or (stage_flags mask last) p false) → set_lanes (first / 15) set ≡ stage_lanes first mask ++ last_if last first
set_is first set mask last e f =
    let n : 15 * (first / 15) ≡ first = omega arith in
    ap (λ (m : ℕ). map (λ p. m + p) (filter (has_lane set) every_place)) n
    ∙ (two_lists first (has_lane set) stage_places (13 ∷ 14 ∷ [])
    ∙ (λ i. matched first set mask every_stage stage_places all i ++ ends i))
  where
    all : Match mask set every_stage stage_places
    all = (
        (refl, f 0, (refl, f 1, (refl, f 2, (refl, f 3, (refl, f 4, (refl, f 5, (refl, f 6, (refl, f 7, (refl, f 8, (refl, f 9, (refl, f 10, (refl, f 11, (refl, f 12, tt))))))))))))))

    ends : map (λ p. first + p) (filter (has_lane set) (13 ∷ 14 ∷ [])) ≡ last_if last first
    ends =
        (λ i. map (λ p. first + p) (cond (f 13 i) (13 ∷ cond (f 14 i) (14 ∷ []) []) (cond (f 14 i) (14 ∷ []) [])))
        ∙ by last
      where
        by : (t : Bool) → map (λ p. first + p) (cond t (13 ∷ []) []) ≡ last_if t first
        by true = refl
        by false = refl

pub set_short : (set : ℕ) (mask : StageMask) (last : Bool) → ((p : ℕ) → has_lane set p ≡ get_or (stage_flags mask last) p false) → (p : ℕ) → has_lane set p ≡ true → p < 15
set_short set mask last f p h = by (nat_lt p 15) refl
  where
    by : (t : Bool) → nat_lt p 15 ≡ t → p < 15
    by true e = below_of_test p 15 e
    by false e =
        let l = at_least_of_test p 15 e in
        never (sym (f p ∙ get_or_past (stage_flags mask last) p false (omega arith)) ∙ h)

-- nothing is in an empty set
pub set_none : (first : ℕ) (mask : StageMask) (last : Bool) → first % 15 ≡ 0 → ((p : ℕ) → has_lane 0 p ≡ get_or (stage_flags mask last) p false) → stage_lanes first mask ++ last_if last first ≡ []
set_none first mask last e f = sym (set_is first 0 mask last e f) ∙ refl

-- One lane

one_place : (r : ℕ) → r < 15 → filter (λ p. p == r) every_place ≡ r ∷ []
one_place zero l = refl
one_place (suc zero) l = refl
one_place (suc (suc zero)) l = refl
one_place (suc (suc (suc zero))) l = refl
one_place (suc (suc (suc (suc zero)))) l = refl
one_place (suc (suc (suc (suc (suc zero))))) l = refl
one_place (suc (suc (suc (suc (suc (suc zero)))))) l = refl
one_place (suc (suc (suc (suc (suc (suc (suc zero))))))) l = refl
one_place (suc (suc (suc (suc (suc (suc (suc (suc zero)))))))) l = refl
one_place (suc (suc (suc (suc (suc (suc (suc (suc (suc zero))))))))) l = refl
one_place (suc (suc (suc (suc (suc (suc (suc (suc (suc (suc zero)))))))))) l = refl
one_place (suc (suc (suc (suc (suc (suc (suc (suc (suc (suc (suc zero))))))))))) l = refl
one_place (suc (suc (suc (suc (suc (suc (suc (suc (suc (suc (suc (suc zero)))))))))))) l = refl
one_place (suc (suc (suc (suc (suc (suc (suc (suc (suc (suc (suc (suc (suc zero))))))))))))) l = refl
one_place (suc (suc (suc (suc (suc (suc (suc (suc (suc (suc (suc (suc (suc (suc zero)))))))))))))) l = refl
one_place (suc (suc (suc (suc (suc (suc (suc (suc (suc (suc (suc (suc (suc (suc (suc n))))))))))))))) l = absurd (omega arith)

pub one_lane : (lane set : ℕ) → ((p : ℕ) → has_lane set p ≡ (p == lane % 15)) → set_lanes (lane / 15) set ≡ lane ∷ []
one_lane lane set f =
    ap (λ (t : ℕ → Bool). map (λ p. 15 * (lane / 15) + p) (filter t every_place)) (λ i p. f p i)
    ∙ (ap (λ (ps : List ℕ). map (λ p. 15 * (lane / 15) + p) ps) (one_place (lane % 15) (omega arith))
    ∙ ap (λ (n : ℕ). n ∷ []) (omega arith))

pub one_short : (lane set : ℕ) → ((p : ℕ) → has_lane set p ≡ (p == lane % 15)) → (p : ℕ) → has_lane set p ≡ true → p < 15
one_short lane set f p h =
    let e : p ≡ lane % 15 = eqb-true p (lane % 15) (sym (f p) ∙ h) in
    omega arith

-- Two lists of lanes

pub take_both : (cells : ℕ → ℕ → ℕ) (line : ℕ) (xs ys : List ℕ) (c : ℕ → ℕ) → take_lanes cells line c (xs ++ ys) ≡ take_lanes cells line (take_lanes cells line c xs) ys
take_both cells line [] ys c = refl
take_both cells line (k ∷ ks) ys c = take_both cells line ks ys (raise (join c (cells k)) k line)

pub give_both : (c : ℕ → ℕ) (xs ys : List ℕ) (cells : ℕ → ℕ → ℕ) → give_lanes cells c (xs ++ ys) ≡ give_lanes (give_lanes cells c xs) c ys
give_both c [] ys cells = refl
give_both c (k ∷ ks) ys cells = give_both c ks ys (with_cell cells k c)

-- What the sets take and give

module _ (first : ℕ) (mask : StageMask) (last : Bool) (e : first % 15 ≡ 0) (set : ℕ) (f : (p : ℕ) → has_lane set p ≡ get_or (stage_flags mask last) p false) where
  none_there : set ≡ 0 → stage_lanes first mask ++ last_if last first ≡ []
  none_there z = set_none first mask last e (λ p. ap (λ (n : ℕ). has_lane n p) (sym z) ∙ f p)

  pub takes_none : (cells : ℕ → ℕ → ℕ) (line : ℕ) (c : ℕ → ℕ) → set ≡ 0 → c ≡ take_lanes cells line c (stage_lanes first mask ++ last_if last first)
  takes_none cells line c z = ap (λ (ks : List ℕ). take_lanes cells line c ks) (sym (none_there z))

  pub gives_none : (cells : ℕ → ℕ → ℕ) (c : ℕ → ℕ) → set ≡ 0 → cells ≡ give_lanes cells c (stage_lanes first mask ++ last_if last first)
  gives_none cells c z = ap (λ (ks : List ℕ). give_lanes cells c ks) (sym (none_there z))

pub last_is : (first lane set : ℕ) (test : Bool) → test ≡ true → lane ≡ first + 13 → ((p : ℕ) → has_lane set p ≡ (p == lane % 15)) → set_lanes (lane / 15) set ≡ last_if test first
last_is first lane set test t e f =
    one_lane lane set f ∙ (ap (λ (n : ℕ). n ∷ []) e ∙ sym (ap (λ (b : Bool). last_if b first) t))

pub take_three : (cells : ℕ → ℕ → ℕ) (line : ℕ) (xs ys zs : List ℕ) (a b c d : ℕ → ℕ) → b ≡ take_lanes cells line a xs → c ≡ take_lanes cells line b ys → d ≡ take_lanes cells line c zs → d ≡ take_lanes cells line a ((xs ++ ys) ++ zs)
take_three cells line xs ys zs a b c d e f g =
    g
    ∙ (ap (λ (h : ℕ → ℕ). take_lanes cells line h zs) (f ∙ (ap (λ (h : ℕ → ℕ). take_lanes cells line h ys) e ∙ sym (take_both cells line xs ys a)))
    ∙ sym (take_both cells line (xs ++ ys) zs a))

pub give_two : (c : ℕ → ℕ) (xs ys : List ℕ) (u v w : ℕ → ℕ → ℕ) → v ≡ give_lanes u c xs → w ≡ give_lanes v c ys → w ≡ give_lanes u c (xs ++ ys)
give_two c xs ys u v w e f = f ∙ (ap (λ (h : ℕ → ℕ → ℕ). give_lanes h c ys) e ∙ sym (give_both c xs ys u))
