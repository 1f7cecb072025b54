-- Lists of what is held, and the references of a pass.
use Rattle.std.proofs.Common.{◌≡◌, ℕ, zero, suc, ◌+◌, ◌<◌, ◌≤◌, Bool, true, false, ◌&&◌, ◌==◌, List, [], ◌∷◌, Option, Some, None, length, count_by, refl, sym, ap, ◌∙◌, subst, arith, inl, inr, nat_le, cond, if◌then◌else◌}
use Rattle.std.specs.Prelude.{nat_lt}
use Rattle.std.specs.List.{slice_get, list_all}
use Rattle.std.specs.Option.{option_map_or}
use Rattle.std.proofs.lemmas.Bool.{false≢true, and_parts, and_from, eqb-true, eq-eqb, leb-true, le-leb, lt-ltb, ltb-true, cases_lt}
use Rattle.std.proofs.lemmas.List.Sums.{sum_by-cons}
use Rattle.vq_model.specs.declared.plan.Need.{Need}
use Rattle.vq_model.specs.Plan.{Plan, resolver}
use Rattle.vq_turns.specs.declared.look.Holding.{Holding}
use Rattle.vq_turns.specs.Turns.{held_for, with_holding}
use Rattle.vq_board_laws.specs.declared.view.Reference.{Reference}
use Rattle.vq_board_laws.specs.PointSteps.{without}
use Rattle.vq_board_laws.specs.Points.{reference, Lists}
use Rattle.vq_access_laws.specs.TruePasses.{is_to, holds_to, is_for, are_rising}

-- one where a test passes
abbrev pub bit : Bool → ℕ
bit b = cond b 1 0

pub count_cons : {A : Type 0} (test : A → Bool) (x : A) (xs : List A) →
    count_by test (x ∷ xs) ≡ bit (test x) + count_by test xs
count_cons test x xs = sum_by-cons (λ y. cond (test y) 1 0) x xs

counted_yes : {A : Type 0} (test : A → Bool) (x : A) (xs : List A) → test x ≡ true →
    count_by test (x ∷ xs) ≡ suc (count_by test xs)
counted_yes test x xs t =
    let b : bit (test x) ≡ 1 = ap bit t in
    let c : count_by test (x ∷ xs) ≡ bit (test x) + count_by test xs = count_cons test x xs in
    omega arith

counted_no : {A : Type 0} (test : A → Bool) (x : A) (xs : List A) → test x ≡ false →
    count_by test (x ∷ xs) ≡ count_by test xs
counted_no test x xs t =
    let b : bit (test x) ≡ 0 = ap bit t in
    let c : count_by test (x ∷ xs) ≡ bit (test x) + count_by test xs = count_cons test x xs in
    omega arith

-- One more is held

pub counts_with : (test : Holding → Bool) (h : Holding) (hs : List Holding) →
    count_by test (with_holding h hs) ≡ count_by test (h ∷ hs)
counts_with test h [] = refl
counts_with test h (x ∷ xs) = by_test (nat_lt h.need x.need) (counts_with test h xs)
  where
    by_test : (b : Bool) → count_by test (with_holding h xs) ≡ count_by test (h ∷ xs) →
        count_by test (if b then h ∷ x ∷ xs else x ∷ with_holding h xs) ≡ count_by test (h ∷ x ∷ xs)
    by_test true r = refl
    by_test false r =
        let u = count_cons test x (with_holding h xs) in
        let v = count_cons test h xs in
        let w = count_cons test h (x ∷ xs) in
        let z = count_cons test x xs in
        omega arith

pub length_with : (h : Holding) (hs : List Holding) → length (with_holding h hs) ≡ suc (length hs)
length_with h [] = refl
length_with h (x ∷ xs) = by_test (nat_lt h.need x.need) (length_with h xs)
  where
    by_test : (b : Bool) → length (with_holding h xs) ≡ suc (length xs) →
        length (if b then h ∷ x ∷ xs else x ∷ with_holding h xs) ≡ suc (suc (length xs))
    by_test true r = refl
    by_test false r = ap suc r

pub all_with : (f : Holding → Bool) (h : Holding) (hs : List Holding) → f h ≡ true → list_all f hs ≡ true →
    list_all f (with_holding h hs) ≡ true
all_with f h [] t r = and_from (f h) true t refl
all_with f h (x ∷ xs) t r =
    let q = and_parts (f x) (list_all f xs) r in
    by_test (nat_lt h.need x.need) (and_from (f h) (list_all f (x ∷ xs)) t r)
    (and_from (f x) (list_all f (with_holding h xs)) q.0 (all_with f h xs t q.1))
  where
    by_test : (b : Bool) → list_all f (h ∷ x ∷ xs) ≡ true → list_all f (x ∷ with_holding h xs) ≡ true →
        list_all f (if b then h ∷ x ∷ xs else x ∷ with_holding h xs) ≡ true
    by_test true one two = one
    by_test false one two = two

-- the first of two that are held is no need's where none is
not_first : (k : ℕ) (x : Holding) (xs : List Holding) → held_for k (x ∷ xs) ≡ None → (x.need ≡ k → ⊥) × (held_for k xs ≡ None)
not_first k x xs h = by_test (x.need == k) refl h
  where
    by_test : (b : Bool) → (x.need == k) ≡ b → (if b then Some x else held_for k xs) ≡ None → (x.need ≡ k → ⊥) × (held_for k xs ≡ None)
    by_test true e z = absurd (let y = z in cc)
    by_test false e z = (λ same. false≢true (sym e ∙ eq-eqb x.need k same), z)

pub rising_with : (k : ℕ) (h : Holding) (hs : List Holding) → are_rising k hs ≡ true → k ≤ h.need → held_for h.need hs ≡ None →
    are_rising k (with_holding h hs) ≡ true
rising_with k h [] r low none = and_from (nat_le k h.need) true (le-leb k h.need low) refl
rising_with k h (x ∷ xs) r low none = by_test (nat_lt h.need x.need) refl (rising_with (suc x.need) h xs)
  where
    parts : (nat_le k x.need ≡ true) × (are_rising (suc x.need) xs ≡ true)
    parts = and_parts (nat_le k x.need) (are_rising (suc x.need) xs) r

    by_test : (b : Bool) → nat_lt h.need x.need ≡ b →
        (are_rising (suc x.need) xs ≡ true → suc x.need ≤ h.need → held_for h.need xs ≡ None →
        are_rising (suc x.need) (with_holding h xs) ≡ true) →
        are_rising k (if b then h ∷ x ∷ xs else x ∷ with_holding h xs) ≡ true
    by_test true e rest =
        let l = ltb-true h.need x.need e in
        and_from (nat_le k h.need) (nat_le (suc h.need) x.need && are_rising (suc x.need) xs) (le-leb k h.need low)
        (and_from (nat_le (suc h.need) x.need) (are_rising (suc x.need) xs) (le-leb (suc h.need) x.need (omega arith)) parts.1)
    by_test false e rest =
        let n = not_first h.need x xs none in
        let up : suc x.need ≤ h.need = elim (cases_lt h.need x.need) [
          | inl l ↦ absurd (false≢true (sym e ∙ lt-ltb h.need x.need l))
          | inr g ↦ above n.0 g
        ] in
        and_from (nat_le k x.need) (are_rising (suc x.need) (with_holding h xs)) parts.0
        (rest parts.1 up n.1)
      where
        above : (x.need ≡ h.need → ⊥) → x.need ≤ h.need → suc x.need ≤ h.need
        above ne nl = omega arith

pub rising_less : (k m : ℕ) (hs : List Holding) → k ≤ m → are_rising m hs ≡ true → are_rising k hs ≡ true
rising_less k m [] l h = refl
rising_less k m (x ∷ xs) l h =
    let q = and_parts (nat_le m x.need) (are_rising (suc x.need) xs) h in
    let up = leb-true m x.need q.0 in
    and_from (nat_le k x.need) (are_rising (suc x.need) xs) (le-leb k x.need (omega arith)) q.1

-- each is held for one of the needs, so there are no more than needs
pub within : (p : Plan) (ns : List Need) (h : Holding) → is_for p ns h ≡ true → h.need < length ns
within p ns h t = by_need (slice_get ns h.need) refl (and_parts (nat_lt h.point _) _ t).1
  where
    inside : (ms : List Need) (k : ℕ) (n : Need) → slice_get ms k ≡ Some n → k < length ms
    inside [] k n e = absurd (let z = e in cc)
    inside (m ∷ ms) zero n e = omega arith
    inside (m ∷ ms) (suc k) n e = let z = inside ms k n e in omega arith

    by_need : (o : Option Need) → slice_get ns h.need ≡ o →
        option_map_or (λ n. option_map_or (λ e. e == h.op) (resolver p n.chain n.value) false) o false ≡ true → h.need < length ns
    by_need None e z = absurd (false≢true z)
    by_need (Some n) e z = inside ns h.need n e

pub few_held : (p : Plan) (ns : List Need) (k : ℕ) (hs : List Holding) → are_rising k hs ≡ true → list_all (is_for p ns) hs ≡ true →
    k ≤ length ns → k + length hs ≤ length ns
few_held p ns k [] r f l = omega arith
few_held p ns k (x ∷ xs) r f l =
    let q = and_parts (nat_le k x.need) (are_rising (suc x.need) xs) r in
    let g = and_parts (is_for p ns x) (list_all (is_for p ns) xs) f in
    let up = leb-true k x.need q.0 in
    let low = within p ns x g.0 in
    let rest = few_held p ns (suc x.need) xs q.1 g.1 (omega arith) in
    omega arith

-- a reference that is held for a need of which the resolver is known
pub for_need : (p : Plan) (ns : List Need) (h : Holding) → is_for p ns h ≡ true → (n : Need) → slice_get ns h.need ≡ Some n →
    resolver p n.chain n.value ≡ Some h.op
for_need p ns h t n at = by_op (resolver p n.chain n.value) refl
    (subst (λ (o : Option Need). option_map_or (λ n. option_map_or (λ e. e == h.op) (resolver p n.chain n.value) false) o false ≡ true) at
    (and_parts (nat_lt h.point _) _ t).1)
  where
    by_op : (o : Option ℕ) → resolver p n.chain n.value ≡ o → option_map_or (λ e. e == h.op) o false ≡ true →
        resolver p n.chain n.value ≡ Some h.op
    by_op None e z = absurd (false≢true z)
    by_op (Some f) e z = e ∙ ap Some (eqb-true f h.op z)

pub held_one : (f : Holding → Bool) (k : ℕ) (hs : List Holding) (h : Holding) → held_for k hs ≡ Some h → list_all f hs ≡ true →
    (f h ≡ true) × (h.need ≡ k)
held_one f k [] h e t = absurd (let z = e in cc)
held_one f k (x ∷ xs) h e t = by_test (x.need == k) refl e (held_one f k xs h)
  where
    parts : (f x ≡ true) × (list_all f xs ≡ true)
    parts = and_parts (f x) (list_all f xs) t

    by_test : (b : Bool) → (x.need == k) ≡ b → (if b then Some x else held_for k xs) ≡ Some h →
        (held_for k xs ≡ Some h → list_all f xs ≡ true → (f h ≡ true) × (h.need ≡ k)) → (f h ≡ true) × (h.need ≡ k)
    by_test true n z rest =
        let same : x ≡ h = let y = z in cc in
        subst (λ (y : Holding). (f y ≡ true) × (y.need ≡ k)) same (parts.0, eqb-true x.need k n)
    by_test false n z rest = rest z parts.1

-- References

is_here : (q e : ℕ) (r : Reference) → is_to q e r ≡ true → r ≡ reference q e
is_here q e r h = let z = and_parts (q == r.point) (e == r.op) h in
    λ i. record { point = sym (eqb-true q r.point z.0) i; op = sym (eqb-true e r.op z.1) i }

pub lists_counted : (q e : ℕ) (rs : List Reference) → 1 ≤ count_by (is_to q e) rs → Lists rs (reference q e)
lists_counted q e [] h = absurd (omega arith)
lists_counted q e (r ∷ rs) h = by_test (is_to q e r) refl (lists_counted q e rs)
  where
    by_test : (b : Bool) → is_to q e r ≡ b → (1 ≤ count_by (is_to q e) rs → Lists rs (reference q e)) →
        Lists (r ∷ rs) (reference q e)
    by_test true t rest = inl (is_here q e r t)
    by_test false t rest = inr (rest (
        let c = counted_no (is_to q e) r rs t in
        omega arith))

-- a held one is counted
pub counted_held : (k : ℕ) (hs : List Holding) (h : Holding) → held_for k hs ≡ Some h → 1 ≤ count_by (holds_to h.point h.op) hs
counted_held k [] h at = absurd (let z = at in cc)
counted_held k (x ∷ xs) h at = by_test (x.need == k) at (counted_held k xs h)
  where
    self : (h : Holding) → holds_to h.point h.op h ≡ true
    self h = and_from (h.point == h.point) (h.op == h.op) (eq-eqb h.point h.point refl) (eq-eqb h.op h.op refl)

    by_test : (b : Bool) → (if b then Some x else held_for k xs) ≡ Some h →
        (held_for k xs ≡ Some h → 1 ≤ count_by (holds_to h.point h.op) xs) →
        1 ≤ count_by (holds_to h.point h.op) (x ∷ xs)
    by_test true z rest =
        let same : x ≡ h = let y = z in cc in
        let c = counted_yes (holds_to h.point h.op) x xs
        (subst (λ (y : Holding). holds_to h.point h.op y ≡ true) (sym same) (self h)) in
        omega arith
    by_test false z rest =
        let r = rest z in
        let c = count_cons (holds_to h.point h.op) x xs in
        omega arith

pub first_counted : (h : Holding) (hs : List Holding) → 1 ≤ count_by (holds_to h.point h.op) (h ∷ hs)
first_counted h hs =
    let c = counted_yes (holds_to h.point h.op) h hs
    (and_from (h.point == h.point) (h.op == h.op) (eq-eqb h.point h.point refl) (eq-eqb h.op h.op refl)) in
    omega arith

-- a reference that is listed is taken off once
pub counts_without : (q e x y : ℕ) (rs : List Reference) → Lists rs (reference q e) →
    bit (is_to x y (reference q e)) + count_by (is_to x y) (without (reference q e) rs) ≡ count_by (is_to x y) rs
counts_without q e x y [] m = absurd m
counts_without q e x y (r ∷ rs) m = by_test ((r.point == q) && (r.op == e)) refl m (counts_without q e x y rs)
  where
    by_test : (b : Bool) → ((r.point == q) && (r.op == e)) ≡ b → Lists (r ∷ rs) (reference q e) →
        (Lists rs (reference q e) → bit (is_to x y (reference q e))
        + count_by (is_to x y) (without (reference q e) rs) ≡ count_by (is_to x y) rs) →
        bit (is_to x y (reference q e)) + count_by (is_to x y) (if b then rs else r ∷ without (reference q e) rs) ≡ count_by (is_to x y) (r ∷ rs)
    by_test true t l rest =
        let z = and_parts (r.point == q) (r.op == e) t in
        let same : is_to x y (reference q e) ≡ is_to x y r =
        λ i. (x == sym (eqb-true r.point q z.0) i) && (y == sym (eqb-true r.op e z.1) i) in
        ap (λ (b : Bool). bit b + count_by (is_to x y) rs) same ∙ sym (count_cons (is_to x y) r rs)
    by_test false t (inl s) rest = absurd (false≢true (sym t ∙ and_from (r.point == q) (r.op == e)
        (eq-eqb r.point q (ap (λ (z : Reference). z.point) s)) (eq-eqb r.op e (ap (λ (z : Reference). z.op) s))))
    by_test false t (inr l) rest =
        let h = rest l in
        let c = count_cons (is_to x y) r rs in
        let d = count_cons (is_to x y) r (without (reference q e) rs) in
        omega arith

pub length_without : (q e : ℕ) (rs : List Reference) → Lists rs (reference q e) → suc (length (without (reference q e) rs)) ≡ length rs
length_without q e [] m = absurd m
length_without q e (r ∷ rs) m = by_test ((r.point == q) && (r.op == e)) refl m (length_without q e rs)
  where
    by_test : (b : Bool) → ((r.point == q) && (r.op == e)) ≡ b → Lists (r ∷ rs) (reference q e) →
        (Lists rs (reference q e) → suc (length (without (reference q e) rs)) ≡ length rs) →
        suc (length (if b then rs else r ∷ without (reference q e) rs)) ≡ length (r ∷ rs)
    by_test true t l rest = refl
    by_test false t (inl s) rest = absurd (false≢true (sym t ∙ and_from (r.point == q) (r.op == e)
        (eq-eqb r.point q (ap (λ (z : Reference). z.point) s)) (eq-eqb r.op e (ap (λ (z : Reference). z.op) s))))
    by_test false t (inr l) rest = ap suc (rest l)
