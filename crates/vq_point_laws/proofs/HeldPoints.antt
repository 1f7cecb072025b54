-- The points of a part of the chain.
use Rattle.std.proofs.Common.{ℕ, List, [], ◌∷◌, Option, Some, None, ◌≡◌, ◌+◌, refl, ap, ◌++◌, ◌≤◌, length, arith, zero, suc, replicate, drop, ◌∙◌, set, ◌<◌, get_or, ◌-◌, take}
use Rattle.vq_point_laws.specs.Timeline.{points_of, entries_from, Timeline, all_points, indexes}
use Rattle.std.specs.Prelude.{slice_range}
use Rattle.std.proofs.lemmas.List.{length-take-le, length-drop, take-set-le, drop-set-add, take_more, drop_more, get_or-drop}

-- The points of a part of the chain

abbrev pub held : List (Option ℕ) → List ℕ
held [] = []
held (None ∷ xs) = held xs
held (Some p ∷ xs) = p ∷ held xs

points_held : (n : ℕ) (xs : List (Option ℕ)) → points_of (entries_from n xs) ≡ held xs
points_held n [] = refl
points_held n (None ∷ xs) = points_held (n + 1) xs
points_held n (Some p ∷ xs) = ap (λ (ys : List ℕ). p ∷ ys) (points_held (n + 1) xs)

pub held_append : (xs ys : List (Option ℕ)) → held (xs ++ ys) ≡ held xs ++ held ys
held_append [] ys = refl
held_append (None ∷ xs) ys = held_append xs ys
held_append (Some p ∷ xs) ys = ap (λ (zs : List ℕ). p ∷ zs) (held_append xs ys)

pub held_count : (xs : List (Option ℕ)) → length (held xs) ≤ length xs
held_count [] = omega arith
held_count (None ∷ xs) = let k = held_count xs in omega arith
held_count (Some p ∷ xs) = let k = held_count xs in omega arith

pub held_none : (n : ℕ) → held (replicate n None) ≡ []
held_none zero = refl
held_none (suc n) = held_none n

pub all_held : (t : Timeline) → all_points t ≡ t.free ++ held (drop t.bound t.points) ++ held (slice_range t.points t.completed t.bound) ++ t.waiting
all_held t = λ i.
    t.free ++ points_held t.bound (drop t.bound t.points) i ++ points_held t.completed (slice_range t.points t.completed t.bound) i ++ t.waiting

pub entries_count : (n : ℕ) (xs : List (Option ℕ)) → length (indexes (entries_from n xs)) ≤ length xs
entries_count n [] = omega arith
entries_count n (None ∷ xs) = let k = entries_count (n + 1) xs in omega arith
entries_count n (Some p ∷ xs) = let k = entries_count (n + 1) xs in omega arith

pub entries_push : (n : ℕ) (xs : List (Option ℕ)) (p : ℕ) → indexes (entries_from n (xs ++ Some p ∷ [])) ≡ indexes (entries_from n xs) ++ (n + length xs) ∷ []
entries_push n [] p = let e : n ≡ n + 0 = omega arith in λ i. e i ∷ []
entries_push n (None ∷ xs) p =
    let e : n + 1 + length xs ≡ n + suc (length xs) = omega arith in
    entries_push (n + 1) xs p ∙ ap (λ (k : ℕ). indexes (entries_from (n + 1) xs) ++ k ∷ []) e
entries_push n (Some q ∷ xs) p =
    let e : n + 1 + length xs ≡ n + suc (length xs) = omega arith in
    ap (λ (ys : List ℕ). n ∷ ys) (entries_push (n + 1) xs p ∙ ap (λ (k : ℕ). indexes (entries_from (n + 1) xs) ++ k ∷ []) e)

-- a point is put at an operation that has none
pub record IsPut (xs : List (Option ℕ)) (k p : ℕ) : Type 0 where
  pub front : List ℕ
  pub back : List ℕ
  pub before : held xs ≡ front ++ back
  pub after : held (set xs k (Some p)) ≡ front ++ p ∷ back

pub put_at : (xs : List (Option ℕ)) (k p : ℕ) → k < length xs → get_or xs k None ≡ None → IsPut xs k p
put_at [] k p l e = absurd (omega arith)
put_at (None ∷ xs) zero p l e = record { front = []; back = held xs; before = refl; after = refl }
put_at (Some q ∷ xs) zero p l e = absurd (cc)
put_at (None ∷ xs) (suc k) p l e =
    let r = put_at xs k p (omega arith) e in
    record { front = r.front; back = r.back; before = r.before; after = r.after }
put_at (Some q ∷ xs) (suc k) p l e =
    let r = put_at xs k p (omega arith) e in
    record {
      front = q ∷ r.front;
      back = r.back;
      before = ap (λ (ys : List ℕ). q ∷ ys) r.before;
      after = ap (λ (ys : List ℕ). q ∷ ys) r.after;
    }

-- parts of the chain, before and after a call
module _ {X : Type 0} where
  pub range_same : (xs : List X) (c b i : ℕ) (v : X) → c ≤ b → b ≤ i → slice_range (set xs i v) c b ≡ slice_range xs c b
  range_same xs c b i v l m =
      let e : i ≡ c + (i - c) = omega arith in
      ap (λ (k : ℕ). take (b - c) (drop c (set xs k v))) e
      ∙ ap (take (b - c)) (drop-set-add c xs (i - c) v)
      ∙ take-set-le (b - c) (drop c xs) (i - c) v (omega arith)

  pub drop_set : (xs : List X) (b i : ℕ) (v : X) → b ≤ i → drop b (set xs i v) ≡ set (drop b xs) (i - b) v
  drop_set xs b i v l =
      let e : i ≡ b + (i - b) = omega arith in
      ap (λ (k : ℕ). drop b (set xs k v)) e ∙ drop-set-add b xs (i - b) v

  pub range_push : (xs : List X) (c b : ℕ) (d v : X) → c ≤ b → b < length xs → get_or xs b d ≡ v → slice_range xs c (b + 1) ≡ slice_range xs c b ++ v ∷ []
  range_push xs c b d v l m e =
      let count : b + 1 - c ≡ b - c + 1 = omega arith in
      let place : c + (b - c) ≡ b = omega arith in
      let left = length-drop c xs in
      ap (λ (k : ℕ). take k (drop c xs)) count
      ∙ take_more (drop c xs) (b - c) d (omega arith)
      ∙ ap (λ (x : X). take (b - c) (drop c xs) ++ x ∷ []) (get_or-drop c xs (b - c) d ∙ ap (λ (k : ℕ). get_or xs k d) place ∙ e)

  pub range_first : (xs : List X) (c b : ℕ) (d : X) → c < b → b ≤ length xs → slice_range xs c b ≡ get_or xs c d ∷ slice_range xs (c + 1) b
  range_first xs c b d l m =
      let count : b - c ≡ suc (b - (c + 1)) = omega arith in
      (λ i. take (count i) (drop_more xs c d (omega arith) i))

  pub range_count : (xs : List X) (c b : ℕ) → c ≤ b → b ≤ length xs → length (slice_range xs c b) ≡ b - c
  range_count xs c b l m =
      let left = length-drop c xs in length-take-le (b - c) (drop c xs) (omega arith)
