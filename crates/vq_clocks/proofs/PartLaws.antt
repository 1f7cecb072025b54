-- The clocks of the parts of a job.
use Rattle.std.proofs.Common.{◌≡◌, ℕ, zero, suc, ◌+◌, ◌-◌, ◌<◌, ◌≤◌, Bool, true, false, eqb, leb, ltb, if◌then◌else◌, List, [], ◌∷◌, ◌++◌, filter, length, take, get_or, Option, Some, None, refl, sym, ap, ◌∙◌, ◌⊎◌, inl, inr, ◌↔◌, IsTrue, subst, arith, add-one, length-append}
use Rattle.std.specs.List.{filter_map, slice_get, dedup, list_all}
use Rattle.std.specs.List.Sorted.{IsPermutation, IsSorted}
use Rattle.std.specs.Option.{option_map_or}
use Rattle.std.specs.Ordering.{nat_cmp}
use Rattle.std.proofs.Math.ListN.{get_or-append}
use Rattle.std.proofs.Math.Seq.{take-suc, get_or-append_seam}
use Rattle.std.proofs.lemmas.Bool.{cases_lt, cond-false, cond-true, le-leb, lt-ltb, ltb-true, ltb-false}
use Rattle.std.proofs.lemmas.Grind.{get_or_default_zero}
use Rattle.std.proofs.lemmas.List.Elements.{filter-append, filter_map-append}
use Rattle.std.proofs.lemmas.Option.{slice_get-get_or, slice_get_past}
use Rattle.vq_model.specs.declared.plan.Need.{Need}
use Rattle.vq_model.specs.Edges.{Stage, At, AtEnd, needs_at, stage_of}
use Rattle.vq_model.specs.EdgeReasons.{waits_at_start}
use Rattle.vq_model.specs.HappensBefore.{HappensBefore, HappensBeforeAt, HappensBeforeCommand}
use Rattle.vq_model.specs.Lanes.{lane_at}
use Rattle.vq_model.specs.Plan.{Plan, commands_of, initial, job_of, needs, resolver}
use Rattle.vq_ground.specs.Lists.{has}
use Rattle.vq_ground.proofs.Lists.{has-append_left, has-append_right, has_here}
use Rattle.vq_clocks.specs.declared.clocks.parts.Parts.{Parts}
use Rattle.vq_clocks.specs.PartClocks.{end_before, jobs_for, AreParts, AreRowsOfParts, IsPartEnds}
use Rattle.vq_clocks.specs.VectorClocks.{in_row, lanes, row_at, IsClock}
use Rattle.vq_clocks.proofs.SortedLists.{sorted_once}
use Rattle.vq_ground.proofs.Positions.{place}
use Rattle.vq_plan_laws.proofs.Cited.{needs_alike, same_before}

-- Edges to a place

abbrev pub no_need : Need
no_need = record { line = 0; chain = 0; value = 0; from = 0 }

above_initial : Plan → Need → Bool
above_initial p n = ltb (initial p n.chain) n.value

jobs-append : (p : Plan) (k : ℕ) (ns ms : List Need) → jobs_for p k (ns ++ ms) ≡ jobs_for p k ns ++ jobs_for p k ms
jobs-append p k ns ms =
    let at : Need → Bool = λ n. leb n.from k in
    let above : Need → Bool = λ n. ltb (initial p n.chain) n.value in
    let found : Need → Option ℕ = λ n. resolver p n.chain n.value in
    ap (λ xs. filter_map (job_of p) (filter_map found (filter above xs))) (filter-append at ns ms)
    ∙ (ap (λ xs. filter_map (job_of p) (filter_map found xs)) (filter-append above (filter at ns) (filter at ms))
    ∙ (ap (filter_map (job_of p)) (filter_map-append found (filter above (filter at ns)) (filter above (filter at ms)))
    ∙ filter_map-append (job_of p) (filter_map found (filter above (filter at ns))) (filter_map found (filter above (filter at ms)))))

-- one more need
pub jobs_more : (p : Plan) (k i : ℕ) (edges new front : List ℕ) (ns : List Need) → i < length ns → edges ≡ front ++ jobs_for p k (take i ns) → new ≡ edges ++ jobs_for p k (get_or ns i no_need ∷ []) → new ≡ front ++ jobs_for p k (take (i + 1) ns)
jobs_more p k i edges new front ns l e s =
    let n = get_or ns i no_need in
    let more : take (i + 1) ns ≡ take i ns ++ n ∷ [] = rw add-one (take-suc ns i no_need l) in
    s ∙ (ap (λ xs. xs ++ jobs_for p k (n ∷ [])) e
    ∙ (append_twice front (jobs_for p k (take i ns)) (jobs_for p k (n ∷ []))
    ∙ ap (λ xs. front ++ xs) (sym (jobs-append p k (take i ns) (n ∷ [])) ∙ ap (jobs_for p k) (sym more))))
  where
    append_twice : (xs ys zs : List ℕ) → (xs ++ ys) ++ zs ≡ xs ++ (ys ++ zs)
    append_twice [] ys zs = refl
    append_twice (x ∷ xs) ys zs = ap (λ ws. x ∷ ws) (append_twice xs ys zs)

-- the edge of one need

module _ (p : Plan) (k : ℕ) (n : Need) where
  kept : leb n.from k ≡ true → filter (λ m. leb m.from k) (n ∷ []) ≡ n ∷ []
  kept e = cond-true (leb n.from k) (n ∷ []) [] e

  passed : leb n.from k ≡ true → ltb (initial p n.chain) n.value ≡ true → jobs_for p k (n ∷ []) ≡ filter_map (job_of p) (filter_map (λ m. resolver p m.chain m.value) (n ∷ []))
  passed e f =
      ap (λ xs. filter_map (job_of p) (filter_map (λ m. resolver p m.chain m.value) (filter (λ m. ltb (initial p m.chain) m.value) xs))) (kept e)
      ∙ ap (λ xs. filter_map (job_of p) (filter_map (λ m. resolver p m.chain m.value) xs)) (cond-true (ltb (initial p n.chain) n.value) (n ∷ []) [] f)

  pub later_need : k < n.from → jobs_for p k (n ∷ []) ≡ []
  later_need l =
      ap (λ xs. filter_map (job_of p) (filter_map (λ m. resolver p m.chain m.value) (filter (λ m. ltb (initial p m.chain) m.value) xs)))
      (cond-false (leb n.from k) (n ∷ []) [] (let e : leb n.from k ≡ false = grind arith in e))

  pub met_need : n.from ≤ k → n.value ≤ initial p n.chain → jobs_for p k (n ∷ []) ≡ []
  met_need l h =
      ap (λ xs. filter_map (job_of p) (filter_map (λ m. resolver p m.chain m.value) (filter (λ m. ltb (initial p m.chain) m.value) xs))) (kept (le-leb n.from k l))
      ∙ ap (λ xs. filter_map (job_of p) (filter_map (λ m. resolver p m.chain m.value) xs)) (cond-false (ltb (initial p n.chain) n.value) (n ∷ []) [] (let e : ltb (initial p n.chain) n.value ≡ false = grind arith in e))

  pub unresolved_need : n.from ≤ k → initial p n.chain < n.value → resolver p n.chain n.value ≡ None → jobs_for p k (n ∷ []) ≡ []
  unresolved_need l h e =
      passed (le-leb n.from k l) (lt-ltb (initial p n.chain) n.value h)
      ∙ ap (λ o. filter_map (job_of p) (cons_of o)) e
    where
      cons_of : Option ℕ → List ℕ
      cons_of o = filter_map (λ (x : Option ℕ). x) (o ∷ [])

  pub resolved_need : (e i : ℕ) → n.from ≤ k → initial p n.chain < n.value → resolver p n.chain n.value ≡ Some e → job_of p e ≡ Some i → jobs_for p k (n ∷ []) ≡ i ∷ []
  resolved_need e i l h r o =
      passed (le-leb n.from k l) (lt-ltb (initial p n.chain) n.value h)
      ∙ (ap (λ x. filter_map (job_of p) (cons_of x)) r ∙ ap cons_of o)
    where
      cons_of : Option ℕ → List ℕ
      cons_of x = filter_map (λ (y : Option ℕ). y) (x ∷ [])

-- Ends of parts

-- the ends of these needs are listed
abbrev pub HasEnds : List Need → List ℕ → Type 0
HasEnds ns ends = (k : ℕ) (n : Need) → slice_get ns k ≡ Some n → 1 < n.from → has ends (n.from - 1) ≡ true

pub ends_more : (ns : List Need) (i : ℕ) (ends new : List ℕ) → i < length ns → HasEnds (take i ns) ends → new ≡ ends ++ end_before (get_or ns i no_need).from → HasEnds (take (i + 1) ns) new
ends_more ns i ends new l h e k n g f =
    subst (λ (xs : List ℕ). has xs (n.from - 1) ≡ true) (sym e)
    (elim (last_need (take i ns) (get_or ns i no_need) k n (subst (λ (ms : List Need). slice_get ms k ≡ Some n) (rw add-one (take-suc ns i no_need l)) g)) [
      | inl m ↦ has-append_left ends (end_before (get_or ns i no_need).from) (n.from - 1) (h k n m f)
      | inr q ↦ has-append_right ends (end_before (get_or ns i no_need).from) (n.from - 1)
          (subst (λ (m : Need). has (end_before m.from) (n.from - 1) ≡ true) q
          (ap (λ xs. has xs (n.from - 1)) (cond-true (ltb 1 n.from) ((n.from - 1) ∷ []) [] (lt-ltb 1 n.from f)) ∙ has_here (n.from - 1) []))
    ])
  where
    last_need : (xs : List Need) (y : Need) (k : ℕ) (x : Need) → slice_get (xs ++ y ∷ []) k ≡ Some x → (slice_get xs k ≡ Some x) ⊎ (x ≡ y)
    last_need [] y zero x e = let q : x ≡ y = cc in inr q
    last_need [] y (suc k) x e = absurd (let c : None ≡ Some x = e in cc)
    last_need (z ∷ xs) y zero x e = inl e
    last_need (z ∷ xs) y (suc k) x e = last_need xs y k x e

-- after a sort and a removal of doubles
pub ends_are : (p : Plan) (j : ℕ) (ns : List Need) → ns ≡ needs p j → (xs ys zs : List ℕ) → HasEnds ns xs → IsPermutation xs ys → IsSorted nat_cmp ys → zs ≡ dedup eqb ys → IsPartEnds p j zs
ends_are p j ns are xs ys zs h perm s d =
    let once = sorted_once xs ys zs perm s d in
    record {
      rise = once.0;
      each = λ k n g f. once.1 (n.from - 1) (h k n (subst (λ (ms : List Need). slice_get ms k ≡ Some n) (sym are) g) f);
    }

-- Rows of parts

pub rows_of_more : (p : Plan) (j : ℕ) (ends : List ℕ) (rows new : List (List ℕ)) (row : List ℕ) (i : ℕ) → new ≡ rows ++ row ∷ [] → AreRowsOfParts p j ends rows i → IsClock p j (At (get_or ends i 0)) (in_row row) → length row ≡ lanes p → AreRowsOfParts p j ends new (i + 1)
rows_of_more p j ends rows new row i e t c w = subst (λ (rs : List (List ℕ)). AreRowsOfParts p j ends rs (i + 1)) (sym e) longer
  where
    front : (q : ℕ) → q < i → get_or (rows ++ row ∷ []) q [] ≡ get_or rows q []
    front q b = get_or-append rows (row ∷ []) [] q (let a = t.count in omega arith)

    last : (q : ℕ) → q ≡ i → get_or (rows ++ row ∷ []) q [] ≡ row
    last q e = ap (λ k. get_or (rows ++ row ∷ []) k []) (e ∙ sym t.count) ∙ get_or-append_seam rows row [] []

    longer : AreRowsOfParts p j ends (rows ++ row ∷ []) (i + 1)
    longer =
        record {
          count = let f = length-append rows (row ∷ []) in let a = t.count in omega arith;
          width = λ q h. elim (cases_lt q i) [
            | inl b ↦ ap length (front q b) ∙ t.width q b
            | inr g ↦ ap length (last q (omega arith)) ∙ w
          ];
          clock = λ q h. elim (cases_lt q i) [
            | inl b ↦ subst (λ (r : List ℕ). IsClock p j (At (get_or ends q 0)) (in_row r)) (sym (front q b)) (t.clock q b)
            | inr g ↦
                let s : q ≡ i = omega arith in
                subst (λ (x : ℕ × List ℕ). IsClock p j (At (get_or ends x.0 0)) (in_row x.1)) (λ k. (sym s k, sym (last q s) k)) c
          ];
        }

-- Places of one part have the same needs

same_filter : (a b : ℕ) (ns : List Need) → ((k : ℕ) (n : Need) → slice_get ns k ≡ Some n → leb n.from a ≡ leb n.from b) → filter (λ n. leb n.from a) ns ≡ filter (λ n. leb n.from b) ns
same_filter a b [] h = refl
same_filter a b (n ∷ ns) h =
    ap (λ t. if t then n ∷ filter (λ m. leb m.from a) ns else filter (λ m. leb m.from a) ns) (h 0 n refl)
    ∙ ap (λ ms. if leb n.from b then n ∷ ms else ms) (same_filter a b ns (λ k m e. h (suc k) m e))

whole_filter : (a : ℕ) (ns : List Need) → ((k : ℕ) (n : Need) → slice_get ns k ≡ Some n → leb n.from a ≡ true) → filter (λ n. leb n.from a) ns ≡ ns
whole_filter a [] h = refl
whole_filter a (n ∷ ns) h =
    cond-true (leb n.from a) (n ∷ filter (λ m. leb m.from a) ns) (filter (λ m. leb m.from a) ns) (h 0 n refl)
    ∙ ap (λ ms. n ∷ ms) (whole_filter a ns (λ k m e. h (suc k) m e))

module _ (p : Plan) (j : ℕ) (ends : List ℕ) (are : IsPartEnds p j ends) (ahead part : ℕ) (below : (k : ℕ) → k < part → get_or ends k 0 ≤ ahead) where
  -- an end of a need stands at a place
  private_end : (k : ℕ) (n : Need) → slice_get (needs p j) k ≡ Some n → 1 < n.from → (q : ℕ) × (q < length ends) × (get_or ends q 0 ≡ n.from - 1)
  private_end k n g l =
      let c = are.each k n g l in
      (c.0, c.1, sym (get_or_default_zero ends c.0 (n.from - 1) c.1) ∙ c.2)

  -- those of a part whose end is later
  pub part_needs : part < length ends → ahead < get_or ends part 0 → needs_at p j (At (suc ahead)) ≡ needs_at p j (At (get_or ends part 0))
  part_needs w h = same_filter (suc ahead) (get_or ends part 0) (needs p j) alike
    where
      alike : (k : ℕ) (n : Need) → slice_get (needs p j) k ≡ Some n → leb n.from (suc ahead) ≡ leb n.from (get_or ends part 0)
      alike k n g = elim (cases_lt (suc ahead) n.from) [
        | inl l ↦
            let q = private_end k n g (omega arith) in
            let w1 = q.1 in
            let at = q.2 in
            let late : get_or ends part 0 < n.from = elim (cases_lt q.0 part) [
              | inl b ↦ (let f = below q.0 b in omega arith)
              | inr b ↦ (let f = risen q.0 b w1 in omega arith)
            ] in
            (let a : leb n.from (suc ahead) ≡ false = grind arith in a) ∙ sym (let b : leb n.from (get_or ends part 0) ≡ false = grind arith in b)
        | inr l ↦ le-leb n.from (suc ahead) l ∙ sym (le-leb n.from (get_or ends part 0) (omega arith))
      ]
        where
          risen : (q : ℕ) → part ≤ q → q < length ends → get_or ends part 0 ≤ get_or ends q 0
          risen q b l = are.rise part q 0 b l

  -- those of the last part
  pub last_needs : part ≡ length ends → needs_at p j (At (suc ahead)) ≡ needs_at p j AtEnd
  last_needs e = whole_filter (suc ahead) (needs p j) all
    where
      all : (k : ℕ) (n : Need) → slice_get (needs p j) k ≡ Some n → leb n.from (suc ahead) ≡ true
      all k n g = elim (cases_lt (suc ahead) n.from) [
        | inl l ↦
            let q = private_end k n g (omega arith) in
            let w1 = q.1 in
            let at = q.2 in
            let f = below q.0 (omega arith) in
            absurd (omega arith)
        | inr l ↦ le-leb n.from (suc ahead) l
      ]

-- Places with the same needs are alike in both directions.
pub alike_before : (p : Plan) (i j : ℕ) (a b : Stage) → needs_at p j a ≡ needs_at p j b → HappensBeforeAt p i j a ↔ HappensBeforeAt p i j b
alike_before p i j a b e = (same_before p i j a b e, same_before p i j b a (sym e))

-- What clocks of parts say of commands

module _ (p : Plan) (i j d : ℕ) where
  -- of a job without held waits
  pub whole_exact : waits_at_start p j ≡ true → HappensBefore p i j ↔ HappensBeforeCommand p i j d
  whole_exact h = alike_before p i j AtEnd (stage_of p j d) (sym (needs_alike p j (place (commands_of p j) d) h))

  module _ (parts : Parts) (are : AreParts p j parts) (ahead part : ℕ) (at : stage_of p j d ≡ At (suc ahead)) (below : (k : ℕ) → k < part → get_or parts.ends.items k 0 ≤ ahead) where
    -- of the last part
    pub last_exact : part ≡ length parts.ends.items → HappensBefore p i j ↔ HappensBeforeCommand p i j d
    last_exact e =
        subst (λ (k : Stage). HappensBefore p i j ↔ HappensBeforeAt p i j k) (sym at)
        (alike_before p i j AtEnd (At (suc ahead)) (sym (last_needs p j parts.ends.items are.ends ahead part below e)))

    -- of an earlier one
    pub part_exact : part < length parts.ends.items → ahead < get_or parts.ends.items part 0 → (n : ℕ) → n ≡ row_at parts.rows part (lane_at p i) → IsTrue (ltb i n) ↔ HappensBeforeCommand p i j d
    part_exact l late n e =
        let f = are.rows.clock part l in
        let alike : HappensBeforeAt p i j (At (suc ahead)) ↔ HappensBeforeAt p i j (At (get_or parts.ends.items part 0)) =
        alike_before p i j (At (suc ahead)) (At (get_or parts.ends.items part 0)) (part_needs p j parts.ends.items are.ends ahead part below l late) in
        subst (λ (k : Stage). IsTrue (ltb i n) ↔ HappensBeforeAt p i j k) (sym at)
        (subst (λ (m : ℕ). IsTrue (ltb i m) ↔ HappensBeforeAt p i j (At (suc ahead))) (sym e)
        ((λ h. alike.1 (f.covered i i refl (ltb-true i (row_at parts.rows part (lane_at p i)) h))), (λ h. lt-ltb i (row_at parts.rows part (lane_at p i)) (f.below i i refl (alike.0 h)))))

pub both_then : {A B C : Type 0} → A ↔ B → B ↔ C → A ↔ C
both_then f g = ((λ a. g.0 (f.0 a)), (λ c. f.1 (g.1 c)))

-- what a look-up gives
pub found_parts : (xs : List Parts) (n : ℕ) (a : Parts) → (true ≡ ltb n (length xs)) × (a ≡ get_or xs n a) → slice_get xs n ≡ Some a
found_parts xs n a h = slice_get-get_or xs n a (ltb-true n (length xs) (sym h.0)) ∙ ap Some (sym h.1)

pub no_parts : (xs : List Parts) (n : ℕ) → false ≡ ltb n (length xs) → slice_get xs n ≡ None
no_parts xs n h = slice_get_past xs n (ltb-false n (length xs) (sym h))

-- Jobs without held waits

-- a job that isn't one of the plan waits for nothing
pub none_waits : (p : Plan) (j : ℕ) → length p.jobs ≤ j → waits_at_start p j ≡ true
none_waits p j l = ap (λ o. list_all (λ n. eqb n.from 1) (option_map_or (λ x. x.needs) o [])) (slice_get_past p.jobs j l)

pub past_end : (xs : List Parts) (n : ℕ) → slice_get xs n ≡ None → length xs ≤ n
past_end [] n e = omega arith
past_end (x ∷ xs) zero e = absurd (let q : None ≡ Some x = sym e in cc)
past_end (x ∷ xs) (suc n) e = let l = past_end xs n e in omega arith
