-- What one edge, or one operation, adds to the row of a job.
use Rattle.std.proofs.Common.{◌≡◌, ℕ, zero, suc, ◌+◌, ◌-◌, ◌<◌, ◌≤◌, true, ltb, List, [], ◌∷◌, ◌++◌, length, take, replicate, get_or, IsTrue, ◌↔◌, Option, Some, None, refl, sym, ap, ◌∙◌, ◌⊎◌, inl, inr, subst, arith}
use Rattle.std.specs.List.{slice_get, filter_map}
use Rattle.std.proofs.Common.{add-one}
use Rattle.std.proofs.Math.Seq.{take-suc, get_or-append_seam}
use Rattle.std.proofs.Math.ListN.{get_or-append, set}
use Rattle.std.proofs.lemmas.List.{get_or-replicate, get_or_past, length-replicate, length-append, take_all, get_or-set_same, get_or-set_other}
use Rattle.std.proofs.lemmas.Bool.{lt-ltb, ltb-true, cases_lt, cases_eq, false≢true}
use Rattle.vq_ground.proofs.Gets.{has_at, get_has}
use Rattle.vq_model.specs.Plan.{Plan, job_of, signals_of}
use Rattle.vq_ground.specs.Lists.{has, AreRising}
use Rattle.vq_model.specs.Edges.{Stage, must_finish, awaited_at, edges_at}
use Rattle.vq_model.specs.WellFormed.{IsWellFormed}
use Rattle.vq_model.specs.SlowRun.{left_over, slow_order}
use Rattle.vq_model.specs.HappensBefore.{HappensBefore}
use Rattle.vq_model.specs.Sure.{IsSure}
use Rattle.vq_ground.proofs.Lists.{has-append_cases, has_here, has_cases}
use Rattle.vq_ground.proofs.Mapped.{mapped}
use Rattle.vq_model.specs.Lanes.{lane_at, KeepsLanes}
use Rattle.vq_clocks.specs.VectorClocks.{HasClocks, HasSureClocks, Covers, in_row, row_of, position, lanes, HasRows, HasPositions, IsComplete, SureByJob, IsSureBy, EndsOps}
use Rattle.vq_clocks.proofs.SlowFacts.{place_at, place_within, at_place, slow_exists, slow_short, must_earlier}
use Rattle.vq_order_laws.proofs.Cited.{slow_distinct, slow_has}
use Rattle.vq_clocks.proofs.Covering.{covers_same}

pub in_zeros : (n l : ℕ) → in_row (replicate n 0) l ≡ 0
in_zeros n l = elim (cases_lt l n) [ inl h ↦ get_or-replicate n l 0 0 h | inr h ↦ get_or_past (replicate n 0) l 0 (let e = length-replicate {A = ℕ} n 0 in omega arith) ]

module _ (p : Plan) where
  -- edges are of jobs that exist
  pub edge_exists : KeepsLanes p → (i j : ℕ) (k : Stage) → has (edges_at p j k) i ≡ true → i < length p.jobs
  edge_exists lanes i j k h = elim (has-append_cases (must_finish p j) (filter_map (job_of p) (awaited_at p j k)) i h) [
    | inl m ↦ lanes.first_exists i j m
    | inr m ↦ let r = mapped (job_of p) (awaited_at p j k) i m in lanes.job_exists r.0 i r.2
  ]

-- numbers that are zero cover nothing
pub none_covered : (lane : ℕ → ℕ) (of : ℕ → Option ℕ) (S : ℕ → Type 0) (numbers : ℕ → ℕ) → ((x : ℕ) → ¬ S x) → ((l : ℕ) → numbers l ≡ 0) → Covers lane of numbers S
none_covered lane of S numbers none are = record { below = λ x i o h. absurd (none x h); covered = λ x i o h. let z = are (lane i) in absurd (omega arith) }

pub zeros_cover : (lane : ℕ → ℕ) (of : ℕ → Option ℕ) (S : ℕ → Type 0) → ((x : ℕ) → ¬ S x) → (n : ℕ) → Covers lane of (in_row (replicate n 0)) S
zeros_cover lane of S none n = none_covered lane of S (in_row (replicate n 0)) none (in_zeros n)

-- Tables that grow

-- one job alone stands at a place of the slow run
only : (p : Plan) (n : ℕ) → n < length (slow_order p) → (i : ℕ) → position p i ≡ n → i ≡ get_or (slow_order p) n 0
only p n l i e = sym (at_place (slow_order p) i (omega arith)) ∙ ap (λ k. get_or (slow_order p) k 0) e

pub rows_push : (p : Plan) (Says : ℕ → (ℕ → ℕ) → Type 0) (rows : List (List ℕ)) (row : List ℕ) (n : ℕ) → n < length (slow_order p) → HasRows p Says rows n → Says (get_or (slow_order p) n 0) (in_row row) → length row ≡ lanes p → HasRows p Says (rows ++ row ∷ []) (n + 1)
rows_push p Says rows row n l t new w =
    record {
      count = let e = length-append rows (row ∷ []) in let a = t.count in omega arith;
      width = λ q h. elim (cases_lt q n) [
        | inl b ↦ ap length (front q b) ∙ t.width q b
        | inr g ↦ ap length (last q (omega arith)) ∙ w
      ];
      each = λ i h. elim (cases_lt (position p i) n) [
        | inl b ↦ subst (λ (r : List ℕ). Says i (in_row r)) (sym (front (position p i) b)) (t.each i b)
        | inr g ↦
            let e : position p i ≡ n = omega arith in
            subst (λ (x : ℕ × List ℕ). Says x.0 (in_row x.1)) (λ k. (sym (only p n l i e) k, sym (last (position p i) e) k)) new
      ];
    }
  where
    front : (q : ℕ) → q < n → get_or (rows ++ row ∷ []) q [] ≡ get_or rows q []
    front q b = get_or-append rows (row ∷ []) [] q (let a = t.count in omega arith)

    last : (q : ℕ) → q ≡ n → get_or (rows ++ row ∷ []) q [] ≡ row
    last q e = ap (λ k. get_or (rows ++ row ∷ []) k []) (e ∙ sym t.count) ∙ get_or-append_seam rows row [] []

-- the job at a place of the slow run
pub slow_at : (p : Plan) (order : List ℕ) → order ≡ slow_order p → (i : ℕ) → i < length order → (get_or order i 0 < length p.jobs) × (position p (get_or order i 0) ≡ i)
slow_at p order e i l =
    subst (λ (xs : List ℕ). i < length xs → (get_or xs i 0 < length p.jobs) × (position p (get_or xs i 0) ≡ i)) (sym e)
    (λ h. (slow_exists p (get_or (slow_order p) i 0) (has_at (slow_order p) i h), place_at (slow_order p) i (slow_distinct p) h)) l

-- one more place is known
pub positions_push : (p : Plan) (order positions : List ℕ) → order ≡ slow_order p → (i : ℕ) → i < length order → length positions ≡ length p.jobs
    → ((j : ℕ) → has (take i order) j ≡ true → get_or positions j 0 ≡ position p j)
    → (j : ℕ) → has (take (i + 1) order) j ≡ true → get_or (set positions (get_or order i 0) i) j 0 ≡ position p j
positions_push p order positions e i l count known j h = elim (cases_eq j (get_or order i 0)) [
  | inl q ↦
      let s = slow_at p order e i l in
      subst (λ k. get_or (set positions (get_or order i 0) i) k 0 ≡ position p k) (sym q) (get_or-set_same positions (get_or order i 0) i 0 (let a = s.0 in omega arith) ∙ sym s.1)
  | inr n ↦ get_or-set_other positions (get_or order i 0) j i 0 n ∙ known j (old (has-append_cases (take i order) (get_or order i 0 ∷ []) j (subst (λ (xs : List ℕ). has xs j ≡ true) (rw add-one (take-suc order i 0 l)) h)) n)
]
  where
    old : ((has (take i order) j ≡ true) ⊎ (has (get_or order i 0 ∷ []) j ≡ true)) → (j ≡ get_or order i 0 → ⊥) → has (take i order) j ≡ true
    old (inl m) n = m
    old (inr m) n = elim (has_cases (get_or order i 0) [] j m) [ inl q ↦ absurd (n (sym q)) | inr t ↦ absurd (false≢true t) ]

pub positions_end : (p : Plan) → left_over p ≡ [] → (order positions : List ℕ) → order ≡ slow_order p → (i : ℕ) → length order ≤ i → length positions ≡ length p.jobs
    → ((j : ℕ) → has (take i order) j ≡ true → get_or positions j 0 ≡ position p j) → HasPositions p positions
positions_end p reach order positions e i l count known =
    record { count = count; each = λ j h. known j (subst (λ (xs : List ℕ). has xs j ≡ true) (sym (take_all i order l ∙ e)) (slow_has p reach j h)) }

pub order_short : (p : Plan) (order : List ℕ) → order ≡ slow_order p → length order ≤ length p.jobs
order_short p order e = subst (λ (xs : List ℕ). length xs ≤ length p.jobs) (sym e) (slow_short p)

-- Bounds of operations

last_greatest : (n : ℕ) (xs : List ℕ) (x : ℕ) → AreRising xs → length xs ≡ suc n → slice_get xs n ≡ Some x → (y : ℕ) → has xs y ≡ true → y ≤ x
last_greatest n [] x r w e y h = absurd (false≢true h)
last_greatest zero (z ∷ []) x r w e y h = elim (has_cases z [] y h) [ inl q ↦ (let s : Some z ≡ Some x = e in let t : z ≡ x = cc in omega arith) | inr t ↦ absurd (false≢true t) ]
last_greatest zero (z ∷ v ∷ xs) x r w e y h = absurd (omega arith)
last_greatest (suc n) (z ∷ []) x r w e y h = absurd (omega arith)
last_greatest (suc n) (z ∷ v ∷ xs) x r w e y h = elim (has_cases z (v ∷ xs) y h) [
  | inl q ↦ (let a = r.0 v (has_here v xs) in let b = last_greatest n (v ∷ xs) x r.1 (omega arith) e v (has_here v xs) in omega arith)
  | inr t ↦ last_greatest n (v ∷ xs) x r.1 (omega arith) e y t
]

pub last_of_job : (p : Plan) → IsWellFormed p → (j x : ℕ) (xs : List ℕ) → signals_of p j ≡ xs → slice_get xs (length xs - 1) ≡ Some x → job_of p x ≡ Some j
last_of_job p w j x xs s e = w.of_job x j (subst (λ (ys : List ℕ). has ys x ≡ true) (sym s) (get_has xs (length xs - 1) x e))

pub ends_some : (p : Plan) → KeepsLanes p → IsWellFormed p → (j x : ℕ) (xs : List ℕ) → signals_of p j ≡ xs → slice_get xs (length xs - 1) ≡ Some x → EndsOps p j (x + 1)
ends_some p lanes w j x xs s e =
    record {
      own = λ f o. let l = greatest xs s e f (subst (λ (ys : List ℕ). has ys f ≡ true) s (w.in_job f j o)) in omega arith;
      above = λ f i o l. let k = lanes.ops_rise x f j i (last_of_job p w j x xs s e) o l in omega arith;
    }
  where
    greatest : (ys : List ℕ) → signals_of p j ≡ ys → slice_get ys (length ys - 1) ≡ Some x → (f : ℕ) → has ys f ≡ true → f ≤ x
    greatest [] s e f h = absurd (false≢true h)
    greatest (y ∷ ys) s e f h = last_greatest (length ys) (y ∷ ys) x (subst AreRising s (w.signals j)) (omega arith) (subst (λ n. slice_get (y ∷ ys) n ≡ Some x) (let t : suc (length ys) - 1 ≡ length ys = omega arith in t) e) f h

pub ends_none : (p : Plan) → IsWellFormed p → (j : ℕ) → signals_of p j ≡ [] → EndsOps p j 0
ends_none p w j e =
    record {
      own = λ f o. absurd (false≢true (subst (λ (xs : List ℕ). has xs f ≡ true) e (w.in_job f j o)));
      above = λ f i o l. omega arith;
    }

pub last_none : (xs : List ℕ) → None ≡ slice_get xs (length xs - 1) → xs ≡ []
last_none [] h = refl
last_none (x ∷ xs) h = absurd (none_at (x ∷ xs) (length (x ∷ xs) - 1) (let l : suc (length xs) - 1 < suc (length xs) = omega arith in l) h)
  where
    none_at : (ys : List ℕ) (n : ℕ) → n < length ys → None ≡ slice_get ys n → ⊥
    none_at [] n l e = omega arith
    none_at (y ∷ ys) zero l e = let s : None ≡ Some y = e in cc
    none_at (y ∷ ys) (suc n) l e = none_at ys n (omega arith) e

pub sure_middle : (p : Plan) (j : ℕ) (firsts row : List ℕ) → Covers (lane_at p) (job_of p) (in_row row) (SureByJob p firsts) → Covers (lane_at p) (job_of p) (in_row row) (IsSureBy p j firsts [])
sure_middle p j firsts row c =
    covers_same (lane_at p) (job_of p) (in_row row) (SureByJob p firsts) (IsSureBy p j firsts []) c (λ x h. inl h) (λ x h. elim h [ inl q ↦ q | inr q ↦ absurd (false≢true q.listed) ])

-- what must be finished before a job stands earlier in the slow run
pub first_early : (p : Plan) → IsComplete p → (j : ℕ) → j < length p.jobs → (i : ℕ) → has (must_finish p j) i ≡ true → position p i < position p j
first_early p c j l i m = ltb-true (position p i) (position p j) (must_earlier p c.reachable i j l m)

-- each job has a place in a run that leaves none
pub position_within : (p : Plan) → IsComplete p → (j : ℕ) → j < length p.jobs → position p j < length (slow_order p)
position_within p c j l = place_within (slow_order p) j (slow_has p c.reachable j l)

-- Reading the tables of all jobs

module _ (p : Plan) (complete : IsComplete p) (rows : List (List ℕ)) (j : ℕ) (exists : j < length p.jobs) where
  pub before_exact : HasClocks p rows (length (slow_order p)) → (i : ℕ) → IsTrue (ltb i (row_of p rows j (lane_at p i))) ↔ HappensBefore p i j
  before_exact t i =
      let f = t.each j (position_within p complete j exists) in
      ((λ h. f.covered i i refl (ltb-true i (row_of p rows j (lane_at p i)) h)), (λ h. lt-ltb i (row_of p rows j (lane_at p i)) (f.below i i refl h)))

  pub sure_exact : HasSureClocks p rows (length (slow_order p)) → (e i : ℕ) → job_of p e ≡ Some i → IsTrue (ltb e (row_of p rows j (lane_at p i))) ↔ IsSure p e j
  sure_exact t e i o =
      let f = t.each j (position_within p complete j exists) in
      ((λ h. f.covered e i o (ltb-true e (row_of p rows j (lane_at p i)) h)), (λ h. lt-ltb e (row_of p rows j (lane_at p i)) (f.below e i o h)))
