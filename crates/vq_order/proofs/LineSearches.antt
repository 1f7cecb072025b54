-- Searching for the least pair of lines.
use Rattle.std.proofs.Common.{◌≡◌, ℕ, ◌<◌, ◌≤◌, ◌+◌, List, [], length, get_or, ap, Bool, true, false, ◌&&◌, eqb, ltb, Option, Some, None, refl, sym, ◌∙◌, ◌⊎◌, inl, inr, subst, arith}
use Rattle.std.proofs.lemmas.Bool.{cases_eq, cases_lt, or_cases, and_parts, false≢true, ltb-true, eqb-true, cond-true, cond-false, lt-ltb, eq-eqb, or_left, or_right, and_from}
use Rattle.std.specs.List.{slice_get}
use Rattle.std.specs.Option.{option_map_or}
use Rattle.std.proofs.lemmas.Option.{slice_get-get_or}
use Rattle.vq_model.specs.declared.plan.Need.{Need}
use Rattle.vq_model.specs.declared.plan.PlanJob.{PlanJob}
use Rattle.vq_model.specs.Plan.{Plan, needs}
use Rattle.vq_model.specs.Checks.{IsLeastPair}
use Rattle.vq_order.specs.declared.lines.Lines.{Lines}
use Rattle.vq_order.specs.LeastLines.{AreLeastOrNone, IsOfFirst, IsOfNeed, comes_first, lower_lines, lower_of}

-- two lines are not after two others
abbrev AtMost : Lines → ℕ → ℕ → Type 0
AtMost x c d = (x.second < d) ⊎ ((x.second ≡ d) × (x.first ≤ c))

first_is : (x y : Lines) → comes_first x y ≡ true → AtMost x y.first y.second
first_is x y h = elim (or_cases (ltb x.second y.second) (eqb x.second y.second && ltb x.first y.first) h) [
  | inl a ↦ inl (ltb-true x.second y.second a)
  | inr a ↦ (let b = and_parts (eqb x.second y.second) (ltb x.first y.first) a in let l = ltb-true x.first y.first b.1 in inr (eqb-true x.second y.second b.0, (omega arith)))
]

not_first : (x y : Lines) → comes_first y x ≡ false → AtMost x y.first y.second
not_first x y h = elim (cases_lt y.second x.second) [
  | inl l ↦ absurd (false≢true (sym h ∙ or_left (ltb y.second x.second) (eqb y.second x.second && ltb y.first x.first) (lt-ltb y.second x.second l)))
  | inr g ↦ elim (cases_eq x.second y.second) [
    | inr n ↦ inl (grind arith)
    | inl e ↦ elim (cases_lt y.first x.first) [
      | inl l ↦ absurd (false≢true (sym h ∙ or_right (ltb y.second x.second) (eqb y.second x.second && ltb y.first x.first) (and_from (eqb y.second x.second) (ltb y.first x.first) (eq-eqb y.second x.second (sym e)) (lt-ltb y.first x.first l))))
      | inr l ↦ inr (e, l)
    ]
  ]
]

at_most_then : (x y : Lines) (c d : ℕ) → AtMost x y.first y.second → AtMost y c d → AtMost x c d
at_most_then x y c d (inl l) (inl m) = inl (omega arith)
at_most_then x y c d (inl l) (inr m) = let e = m.0 in inl (omega arith)
at_most_then x y c d (inr l) (inl m) = let e = l.0 in inl (omega arith)
at_most_then x y c d (inr l) (inr m) = let a = l.0 in let b = l.1 in let e = m.0 in let f = m.1 in inr ((omega arith), (omega arith))

-- of the first or of the second
abbrev pub Either : (ℕ → ℕ → Type 0) → (ℕ → ℕ → Type 0) → ℕ → ℕ → Type 0
Either P Q a b = P a b ⊎ Q a b

module _ (P Q : ℕ → ℕ → Type 0) where
  -- nothing new
  pub lines_same : ((a b : ℕ) → P a b → Q a b) → ((a b : ℕ) → Q a b → P a b) → (o : Option Lines) → AreLeastOrNone P o → AreLeastOrNone Q o
  lines_same f g None k = λ a b q. k a b (g a b q)
  lines_same f g (Some x) k = record { holds = f x.first x.second k.holds; least = λ c d q. k.least c d (g c d q) }

  -- the least lines of two searches
  pub lines_join : (o q : Option Lines) → AreLeastOrNone P o → AreLeastOrNone Q q → AreLeastOrNone (Either P Q) (lower_of o q)
  lines_join None None k h = λ a b x. elim x [ inl p ↦ k a b p | inr p ↦ h a b p ]
  lines_join (Some x) None k h = record { holds = inl k.holds; least = λ c d r. elim r [ inl p ↦ k.least c d p | inr p ↦ absurd (h c d p) ] }
  lines_join None (Some y) k h = record { holds = inr h.holds; least = λ c d r. elim r [ inl p ↦ absurd (k c d p) | inr p ↦ h.least c d p ] }
  lines_join (Some x) (Some y) k h = by_test (comes_first y x) refl
    where
      by_test : (b : Bool) → comes_first y x ≡ b → IsLeastPair (Either P Q) (lower_lines (Some x) y).first (lower_lines (Some x) y).second
      by_test true e =
          subst (λ (z : Lines). IsLeastPair (Either P Q) z.first z.second) (sym (cond-true (comes_first y x) y x e)) (record {
            holds = inr h.holds;
            least = λ c d r. elim r [ inl p ↦ at_most_then y x c d (first_is y x e) (k.least c d p) | inr p ↦ h.least c d p ];
          })
      by_test false e =
          subst (λ (z : Lines). IsLeastPair (Either P Q) z.first z.second) (sym (cond-false (comes_first y x) y x e)) (record {
            holds = inl k.holds;
            least = λ c d r. elim r [ inl p ↦ k.least c d p | inr p ↦ at_most_then x y c d (not_first x y e) (h.least c d p) ];
          })

module _ (P : ℕ → ℕ → Type 0) (R : ℕ → ℕ → ℕ → Type 0) where
  -- one number more, beside another search
  pub first_more_beside : (n : ℕ) (o q : Option Lines) → AreLeastOrNone (Either P (IsOfFirst R n)) o → AreLeastOrNone (R n) q → AreLeastOrNone (Either P (IsOfFirst R (n + 1))) (lower_of o q)
  first_more_beside n o q k h = lines_same (Either (Either P (IsOfFirst R n)) (R n)) (Either P (IsOfFirst R (n + 1))) widen part (lower_of o q) (lines_join (Either P (IsOfFirst R n)) (R n) o q k h)
    where
      widen : (a b : ℕ) → Either (Either P (IsOfFirst R n)) (R n) a b → Either P (IsOfFirst R (n + 1)) a b
      widen a b (inl (inl x)) = inl x
      widen a b (inl (inr x)) = let l = x.below in inr (record { number = x.number; below = omega arith; holds = x.holds })
      widen a b (inr x) = inr (record { number = n; below = omega arith; holds = x })

      part : (a b : ℕ) → Either P (IsOfFirst R (n + 1)) a b → Either (Either P (IsOfFirst R n)) (R n) a b
      part a b (inl x) = inl (inl x)
      part a b (inr x) = elim (cases_eq x.number n) [
        | inl e ↦ inr (subst (λ (k : ℕ). R k a b) e x.holds)
        | inr d ↦ (let l = x.below in inl (inr (record { number = x.number; below = omega (arith, d); holds = x.holds })))
      ]

  -- beside another search, of none
  pub none_beside : (o : Option Lines) → AreLeastOrNone P o → AreLeastOrNone (Either P (IsOfFirst R 0)) o
  none_beside = lines_same P (Either P (IsOfFirst R 0)) (λ a b x. inl x) (λ a b x. elim x [ inl p ↦ p | inr p ↦ (let l = p.below in absurd (omega arith)) ])

module _ (R : ℕ → ℕ → ℕ → Type 0) where
  abbrev Never : ℕ → ℕ → Type 0
  Never a b = ⊥

  -- one number more
  pub first_more : (n : ℕ) (o q : Option Lines) → AreLeastOrNone (IsOfFirst R n) o → AreLeastOrNone (R n) q → AreLeastOrNone (IsOfFirst R (n + 1)) (lower_of o q)
  first_more n o q k h =
      lines_same (Either Never (IsOfFirst R (n + 1))) (IsOfFirst R (n + 1)) (λ a b x. elim x [ inl p ↦ absurd p | inr p ↦ p ]) (λ a b x. inr x) (lower_of o q)
      (first_more_beside Never R n o q (lines_same (IsOfFirst R n) (Either Never (IsOfFirst R n)) (λ a b x. inr x) (λ a b x. elim x [ inl p ↦ absurd p | inr p ↦ p ]) o k) h)

-- all numbers were searched
pub all_first : (R : ℕ → ℕ → ℕ → Type 0) (k n : ℕ) → k ≤ n → n ≤ k → (o : Option Lines) → AreLeastOrNone (IsOfFirst R k) o → AreLeastOrNone (IsOfFirst R n) o
all_first R k n l h o x = let e : k ≡ n = omega arith in subst (λ (m : ℕ). AreLeastOrNone (IsOfFirst R m) o) e x

-- The needs of a job

pub need_at : (p : Plan) (i : ℕ) (job : PlanJob) → slice_get p.jobs i ≡ Some job → (ns : List Need) → ns ≡ job.needs → (k : ℕ) (none : Need) → k < length ns → slice_get (needs p i) k ≡ Some (get_or ns k none)
need_at p i job e ns same k none l =
    let are : needs p i ≡ ns = ap (λ o. option_map_or (λ x. x.needs) o []) e ∙ sym same in
    subst (λ (ms : List Need). slice_get ms k ≡ Some (get_or ns k none)) (sym are) (slice_get-get_or ns k none l)

pub needs_count : (p : Plan) (i : ℕ) (job : PlanJob) → slice_get p.jobs i ≡ Some job → (ns : List Need) → ns ≡ job.needs → length (needs p i) ≡ length ns
needs_count p i job e ns same = ap length (ap (λ o. option_map_or (λ x. x.needs) o []) e ∙ sym same)

-- a need at its place
pub of_need : (p : Plan) (R : Need → ℕ → ℕ → Type 0) (i k : ℕ) (n : Need) → slice_get (needs p i) k ≡ Some n → (o : Option Lines) → AreLeastOrNone (R n) o → AreLeastOrNone (IsOfNeed p R i k) o
of_need p R i k n e o x =
    lines_same (R n) (IsOfNeed p R i k) (λ a b y. record { need = n; of_job = e; holds = y })
    (λ a b y. let same : y.need ≡ n = let c : Some y.need ≡ Some n = sym y.of_job ∙ e in cc in subst (λ (m : Need). R m a b) same y.holds) o x
