-- Rows of both clocks, and what holds of their halves.
use Rattle.std.proofs.Common.{◌≡◌, ℕ, ◌+◌, ◌^◌, ◌<◌, ◌≤◌, max, true, false, eqb, if◌then◌else◌, List, [], ◌∷◌, ◌++◌, length, take, drop, replicate, get_or, Bool, IsTrue, ltb, ◌↔◌, Option, Some, refl, sym, ap, ◌∙◌, inl, inr, subst, arith}
use Rattle.std.specs.List.{cons_option, filter_map, slice_get}
use Rattle.std.specs.Option.{option_map}
use Rattle.std.proofs.Math.ListN.{get_or-map}
use Rattle.std.proofs.Math.Seq.{take-nil}
use Rattle.std.proofs.lemmas.Bool.{cases_lt, cond-true, cond-false, eq-eqb, eqb-true, ne_eqb, ltb-true, false≢true}
use Rattle.std.proofs.lemmas.List.{append_assoc, drop_all, get_or-drop, get_or-take, get_or_past, length-drop, length-map, length-replicate, length-take, length-take-le, map-append, take_all}
use Rattle.std.proofs.lemmas.List.Elements.{filter_map-append}
use Rattle.vq_model.specs.declared.plan.Op.{Op}
use Rattle.vq_model.specs.Edges.{AtEnd}
use Rattle.vq_model.specs.HappensBefore.{comes_earlier, HappensBefore}
use Rattle.vq_model.specs.Lanes.{lane_at}
use Rattle.vq_model.specs.LoweredPlans.{IsPlan}
use Rattle.vq_model.specs.Plan.{Plan, job_of}
use Rattle.vq_model.specs.SlowRun.{slow_order}
use Rattle.vq_model.specs.Sure.{IsSure}
use Rattle.vq_plan_laws.proofs.Cited.{plan_lanes}
use Rattle.vq_reading_laws.proofs.Cited.{queues_fit, read_valid}
use Rattle.vq_clocks.specs.VectorClocks.{before_half, before_halves, both, in_row, itself, lanes, position, row_at, row_of, sure_half, sure_halves}
use Rattle.vq_clocks.specs.VectorClocks.{AddsEdge, AddsEdgeOf, AddsJob, AddsOp, Covers, EndsOps, HasBoth, HasClocks, HasSureClocks, IsClock, IsComplete}
use Rattle.vq_clocks.specs.VectorClocks.{IsSureClock, Joins, JoinsBoth, MakesBoth, MakesClock, PassesOne, Raises, SureByJob}
use Rattle.vq_clocks.proofs.ClockLaws.{clock_step, sure_job_step, sure_op_step}
use Rattle.vq_clocks.proofs.RowLaws.{before_exact, in_zeros, none_covered, position_within, rows_push, sure_exact}

-- a plan has few lanes
pub few_lanes : (p : Plan) → IsPlan p → lanes p < 2 ^ 32
few_lanes p i =
    let most = (read_valid p.script i.of_script).limits.queues in
    let fit = queues_fit p.script.version in
    omega arith

-- the job of an operation that was read
pub op_job : (p seen : Plan) (op : ℕ) (o : Op) → seen ≡ p → slice_get seen.ops op ≡ Some o → job_of p op ≡ Some o.job
op_job p seen op o is found = ap (λ (q : Plan). job_of q op) (sym is) ∙ ap (option_map (λ x. x.job)) found

-- Joining a row of both clocks

module _ (k lane a b : ℕ) (old from middle new : List ℕ) (wide : length old ≡ k + k) (same : length from ≡ k + k) (exists : lane < k) (joined : Joins old from lane a middle) (raised : Raises middle (k + lane) b new) where
  width : length new ≡ k + k
  width = raised.width ∙ (joined.width ∙ wide)

  first_raised : (l : ℕ) → in_row (take k new) l ≡ max (max (in_row (take k old) l) (in_row (take k from) l)) (if eqb lane l then a else 0)
  first_raised l = elim (cases_lt l k) [
    | inl h ↦
        let is = joined.raised l in
        let more = raised.raised l in
        let none = cond-false (eqb (k + lane) l) b 0 (ne_eqb (k + lane) l (λ e. omega arith)) in
        let x = get_or-take k new l 0 h in
        let y = get_or-take k old l 0 h in
        let z = get_or-take k from l 0 h in
        omega arith
    | inr h ↦
        let none = cond-false (eqb lane l) a 0 (ne_eqb lane l (λ e. omega arith)) in
        let x = get_or_past (take k new) l 0 (let w = length-take-le k new (let v = width in omega arith) in omega arith) in
        let y = get_or_past (take k old) l 0 (let w = length-take-le k old (omega arith) in omega arith) in
        let z = get_or_past (take k from) l 0 (let w = length-take-le k from (omega arith) in omega arith) in
        omega arith
  ]

  -- the same lane in the second half
  further : (l : ℕ) → (if eqb (k + lane) (k + l) then b else 0) ≡ (if eqb lane l then b else 0)
  further l = by_test (eqb lane l) refl
    where
      by_test : (v : Bool) → eqb lane l ≡ v → (if eqb (k + lane) (k + l) then b else 0) ≡ (if eqb lane l then b else 0)
      by_test true e =
          let s = eqb-true lane l e in
          cond-true (eqb (k + lane) (k + l)) b 0 (eq-eqb (k + lane) (k + l) (omega arith)) ∙ sym (cond-true (eqb lane l) b 0 e)
      by_test false e =
          cond-false (eqb (k + lane) (k + l)) b 0 (ne_eqb (k + lane) (k + l) (λ q. false≢true (sym e ∙ eq-eqb lane l (omega arith)))) ∙ sym (cond-false (eqb lane l) b 0 e)

  second_raised : (l : ℕ) → in_row (drop k new) l ≡ max (max (in_row (drop k old) l) (in_row (drop k from) l)) (if eqb lane l then b else 0)
  second_raised l =
      let is = joined.raised (k + l) in
      let more = raised.raised (k + l) in
      let none = cond-false (eqb lane (k + l)) a 0 (ne_eqb lane (k + l) (λ e. omega arith)) in
      let own = further l in
      let x = get_or-drop k new l 0 in
      let y = get_or-drop k old l 0 in
      let z = get_or-drop k from l 0 in
      omega arith

  -- each half joins the other row's half
  pub joins_first : Joins (take k old) (take k from) lane a (take k new)
  joins_first = record {
    width = let x = length-take-le k new (let v = width in omega arith) in let y = length-take-le k old (omega arith) in omega arith;
    raised = first_raised;
  }

  pub joins_second : Joins (drop k old) (drop k from) lane b (drop k new)
  joins_second = record {
    width = let x = length-drop k new in let y = length-drop k old in let v = width in omega arith;
    raised = second_raised;
  }

-- A row that joined another one, and was raised further, is as great.
module _ (k lane a b : ℕ) (old from middle new : List ℕ) (joined : Joins old from lane a middle) (raised : Raises middle (k + lane) b new) where
  pub joined_above : (l : ℕ) → in_row from l ≤ in_row new l
  joined_above l =
      let is = joined.raised l in
      let more = raised.raised l in
      omega arith

  pub joined_own : a ≤ in_row new lane
  joined_own =
      let is = joined.raised lane in
      let more = raised.raised lane in
      let bound = cond-true (eqb lane lane) a 0 (eq-eqb lane lane refl) in
      omega arith

-- Rows of a table, and their halves

module _ (p : Plan) (rows : List (List ℕ)) where
  before_at : (n : ℕ) → get_or (before_halves p rows) n [] ≡ before_half p (get_or rows n [])
  before_at n = ap (get_or (before_halves p rows) n) (sym (take-nil (lanes p))) ∙ get_or-map (before_half p) rows n []

  sure_at : (n : ℕ) → get_or (sure_halves p rows) n [] ≡ sure_half p (get_or rows n [])
  sure_at n = ap (get_or (sure_halves p rows) n) (sym (drop_all (lanes p) [] (omega arith))) ∙ get_or-map (sure_half p) rows n []

  before_number : (n l : ℕ) → l < lanes p → row_at (before_halves p rows) n l ≡ row_at rows n l
  before_number n l h = ap (λ (r : List ℕ). in_row r l) (before_at n) ∙ get_or-take (lanes p) (get_or rows n []) l 0 h

  sure_number : (n l : ℕ) → row_at (sure_halves p rows) n l ≡ row_at rows n (lanes p + l)
  sure_number n l = ap (λ (r : List ℕ). in_row r l) (sure_at n) ∙ get_or-drop (lanes p) (get_or rows n []) l 0

  module _ (n : ℕ) (t : HasBoth p rows n) where
    pub both_count : length rows ≡ n
    both_count = sym (length-map rows (before_half p)) ∙ t.before.count

    pub both_wide : (q : ℕ) → q < n → length (get_or rows q []) ≡ both p
    both_wide q h =
        let w : length (sure_half p (get_or rows q [])) ≡ lanes p = ap length (sym (sure_at q)) ∙ t.sure.width q h in
        let d = length-drop (lanes p) (get_or rows q []) in
        omega arith

taken_width : (k : ℕ) (row : List ℕ) → length (take k row) ≡ k → k ≤ length row
taken_width k row w = elim (cases_lt (length row) k) [
  | inl l ↦ (let e = ap length (take_all k row (omega arith)) in omega arith)
  | inr g ↦ g
]

-- the row of an edge's job was made, and its first half is the job's clock
pub record IsEdgeRow (p : Plan) (rows : List (List ℕ)) (i n : ℕ) : Type 0 where
  pub made : position p i < n
  pub stands : position p i < length rows
  pub wide : lanes p ≤ length (get_or rows (position p i) [])
  pub half : get_or (before_halves p rows) (position p i) [] ≡ before_half p (get_or rows (position p i) [])

pub edge_row : (p : Plan) (rows : List (List ℕ)) (j i : ℕ) → (makes : MakesClock p (before_halves p rows) j) → comes_earlier p i j ≡ true → IsEdgeRow p rows i makes.made
edge_row p rows j i makes early =
    let q = position p i in
    let l = ltb-true q (position p j) early in
    let k = makes.enough in
    let made : q < makes.made = omega arith in
    let w : length (before_half p (get_or rows q [])) ≡ lanes p = ap length (sym (before_at p rows q)) ∙ makes.earlier.width q made in
    let c = makes.earlier.count in
    let m = length-map rows (before_half p) in
    record {
      made = made;
      stands = omega arith;
      wide = taken_width (lanes p) (get_or rows q []) w;
      half = before_at p rows q;
    }

module _ (p : Plan) (row : List ℕ) (wide : length row ≡ both p) where
  before_width : length (before_half p row) ≡ lanes p
  before_width = length-take-le (lanes p) row (omega arith)

  sure_width : length (sure_half p row) ≡ lanes p
  sure_width = let d = length-drop (lanes p) row in omega arith

  -- the row of one more job
  pub table_push : (rows : List (List ℕ)) (n : ℕ) → n < length (slow_order p) → HasBoth p rows n → IsClock p (get_or (slow_order p) n 0) AtEnd (in_row (before_half p row)) → IsSureClock p (get_or (slow_order p) n 0) AtEnd (in_row (sure_half p row)) → HasBoth p (rows ++ row ∷ []) (n + 1)
  table_push rows n l t clock sure =
      record {
        before = subst (λ (rs : List (List ℕ)). HasClocks p rs (n + 1)) (sym (map-append (before_half p) rows (row ∷ [])))
            (rows_push p (λ j. IsClock p j AtEnd) (before_halves p rows) (before_half p row) n l t.before clock before_width);
        sure = subst (λ (rs : List (List ℕ)). HasSureClocks p rs (n + 1)) (sym (map-append (sure_half p) rows (row ∷ [])))
            (rows_push p (λ j. IsSureClock p j AtEnd) (sure_halves p rows) (sure_half p row) n l t.sure sure sure_width);
      }

-- A row that was cleared

pub zeros_wide : (old row : List ℕ) → row ≡ replicate (length old) 0 → length row ≡ length old
zeros_wide old row e = ap length e ∙ length-replicate (length old) 0

module _ (p : Plan) (old row : List ℕ) (zeros : row ≡ replicate (length old) 0) where
  zero : (l : ℕ) → in_row row l ≡ 0
  zero l = ap (λ (r : List ℕ). in_row r l) zeros ∙ in_zeros (length old) l

  before_zero : (l : ℕ) → in_row (before_half p row) l ≡ 0
  before_zero l = elim (cases_lt l (lanes p)) [
    | inl h ↦ get_or-take (lanes p) row l 0 h ∙ zero l
    | inr h ↦ get_or_past (before_half p row) l 0 (let e = length-take (lanes p) row in omega arith)
  ]

  sure_zero : (l : ℕ) → in_row (sure_half p row) l ≡ 0
  sure_zero l = get_or-drop (lanes p) row l 0 ∙ zero (lanes p + l)

  pub before_zeros : (j : ℕ) → Covers (lane_at p) itself (in_row (before_half p row)) (PassesOne p j [])
  before_zeros j = none_covered (lane_at p) itself (PassesOne p j []) (in_row (before_half p row)) (λ x q. false≢true q.listed) before_zero

  pub sure_zeros : Covers (lane_at p) (job_of p) (in_row (sure_half p row)) (SureByJob p [])
  sure_zeros = none_covered (lane_at p) (job_of p) (SureByJob p []) (in_row (sure_half p row)) (λ x q. false≢true q.listed) sure_zero

-- What comes through a job that stands earlier

-- an edge of an operation comes last
edge_last : (p : Plan) (op i : ℕ) → job_of p op ≡ Some i → (edges ops : List ℕ) → edges ++ filter_map (job_of p) (ops ++ op ∷ []) ≡ (edges ++ filter_map (job_of p) ops) ++ i ∷ []
edge_last p op i o edges ops =
    ap (λ (xs : List ℕ). edges ++ xs) (filter_map-append (job_of p) ops (op ∷ []) ∙ ap (λ (xs : List ℕ). filter_map (job_of p) ops ++ xs) (alone (job_of p op) o))
    ∙ sym (append_assoc edges (filter_map (job_of p) ops) (i ∷ []))
  where
    alone : (x : Option ℕ) → x ≡ Some i → cons_option x [] ≡ i ∷ []
    alone x e = ap (λ (y : Option ℕ). cons_option y []) e

pub edge_of : (p : Plan) (j op i : ℕ) (old new : List ℕ) → job_of p op ≡ Some i → AddsEdge p j i old new → AddsEdgeOf p j op old new
edge_of p j op i old new o adds edges ops c =
    subst (λ (es : List ℕ). Covers (lane_at p) itself (in_row new) (PassesOne p j es)) (sym (edge_last p op i o edges ops)) (adds (edges ++ filter_map (job_of p) ops) c)

module _ (p : Plan) (rows : List (List ℕ)) (j : ℕ) (makes : MakesBoth p rows j) where
  earlier_made : (i : ℕ) → position p i < position p j → position p i < makes.made
  earlier_made i l = let k = makes.enough in omega arith

  -- the row of a job that stands earlier
  pub through_made : (i : ℕ) → position p i < position p j → (position p i < length rows) × (length (get_or rows (position p i) []) ≡ both p)
  through_made i l =
      let m = earlier_made i l in
      let n = both_count p rows makes.made makes.earlier in
      (omega arith, both_wide p rows makes.made makes.earlier (position p i) m)

  module _ (i bound : ℕ) (old new : List ℕ) (exists : i < length p.jobs) (early : comes_earlier p i j ≡ true) (joined : JoinsBoth p old (get_or rows (position p i) []) i bound new) where
    stands : position p i < makes.made
    stands = earlier_made i (ltb-true (position p i) (position p j) early)

    clock : IsClock p i AtEnd (in_row (before_half p (get_or rows (position p i) [])))
    clock = subst (λ (r : List ℕ). IsClock p i AtEnd (in_row r)) (before_at p rows (position p i)) (makes.earlier.before.each i stands)

    sure : IsSureClock p i AtEnd (in_row (sure_half p (get_or rows (position p i) [])))
    sure = subst (λ (r : List ℕ). IsSureClock p i AtEnd (in_row r)) (sure_at p rows (position p i)) (makes.earlier.sure.each i stands)

    pub edge_added : AddsEdge p j i (before_half p old) (before_half p new)
    edge_added edges c =
        clock_step p (plan_lanes p makes.complete.plan) makes.complete.reachable j i edges (in_row (before_half p old)) (in_row (before_half p (get_or rows (position p i) []))) (in_row (before_half p new)) exists early clock c joined.before.raised

    pub job_added : EndsOps p i bound → AddsJob p i (sure_half p old) (sure_half p new)
    job_added ends firsts c =
        sure_job_step p (plan_lanes p makes.complete.plan) makes.complete.reachable i bound firsts (in_row (sure_half p old)) (in_row (sure_half p (get_or rows (position p i) []))) (in_row (sure_half p new)) exists sure ends.own ends.above c joined.sure.raised

    pub op_added : (op : ℕ) → bound ≡ op + 1 → job_of p op ≡ Some i → AddsOp p j op (sure_half p old) (sure_half p new)
    op_added op is o firsts ops c =
        sure_op_step p (plan_lanes p makes.complete.plan) makes.complete.reachable j op i firsts ops (in_row (sure_half p old)) (in_row (sure_half p (get_or rows (position p i) []))) (in_row (sure_half p new)) o early sure c
        (subst (λ b. (l : ℕ) → in_row (sure_half p new) l ≡ max (max (in_row (sure_half p old) l) (in_row (sure_half p (get_or rows (position p i) [])) l)) (if eqb (lane_at p i) l then b else 0)) is joined.sure.raised)

-- Reading the table of all jobs

module _ (p : Plan) (complete : IsComplete p) (rows : List (List ℕ)) (j : ℕ) (exists : j < length p.jobs) (t : HasBoth p rows (length (slow_order p))) where
  pub both_exist : (position p j < length rows) × (length (get_or rows (position p j) []) ≡ both p)
  both_exist =
      let l = position_within p complete j exists in
      let n = both_count p rows (length (slow_order p)) t in
      (omega arith, both_wide p rows (length (slow_order p)) t (position p j) l)

  pub before_read : (i : ℕ) → lane_at p i < lanes p → IsTrue (ltb i (row_of p rows j (lane_at p i))) ↔ HappensBefore p i j
  before_read i h =
      subst (λ n. IsTrue (ltb i n) ↔ HappensBefore p i j) (before_number p rows (position p j) (lane_at p i) h)
      (before_exact p complete (before_halves p rows) j exists t.before i)

  pub sure_read : (e i : ℕ) → job_of p e ≡ Some i → IsTrue (ltb e (row_of p rows j (lanes p + lane_at p i))) ↔ IsSure p e j
  sure_read e i o =
      subst (λ n. IsTrue (ltb e n) ↔ IsSure p e j) (sure_number p rows (position p j) (lane_at p i))
      (sure_exact p complete (sure_halves p rows) j exists t.sure e i o)
