-- Where no row of faults holds, commands are ordered and timelines rise in a sure order.
use Rattle.std.proofs.Common.{◌≡◌, ℕ, eqb, sym, ◌∙◌, inl, inr, ◌+◌, ◌&&◌, ltb, min, max, ap, true, false, ◌||◌, List, Bool, Option, Some, None, refl, arith, option_map, [], ◌∷◌, ◌++◌, ◌<◌, length, ◌⊎◌, subst}
use Rattle.std.proofs.lemmas.Bool.{or_cases, or_left, or_right, false≢true, cases_lt}
use Rattle.std.proofs.Math.Nat.{max_comm, min_comm}
use Rattle.vq_model.specs.declared.ranges.Range.{Range}
use Rattle.vq_model.specs.Ranges.{share, written_range, read_range, conflict}
use Rattle.std.specs.Option.{option_map_or, option_to_list}
use Rattle.vq_model.specs.declared.script.Command.{Command}
use Rattle.std.specs.List.{list_any, slice_get}
use Rattle.vq_model.specs.Plan.{Plan, command_at, line_of_command, chain, job_of, chain_of, initial, value, line_of_op}
use Rattle.vq_ground.specs.Lists.{has}
use Rattle.vq_model.specs.Races.{conflicts}
use Rattle.vq_model.specs.SureOrder.{HasNoRace}
use Rattle.vq_model.specs.Edges.{stage_of, AtEnd}
use Rattle.vq_model.specs.HappensBefore.{HappensBeforeCommand}
use Rattle.vq_model.specs.Checks.{NoLines, IsRaceAt, IsUnordered, too_low, equal, unsure, unsure_back, is_timeline_chain}
use Rattle.vq_order_laws.proofs.Decides.{before_decides, sure_decides}
use Rattle.vq_model.specs.declared.plan.Op.{Op}
use Rattle.vq_model.specs.WellFormed.{AreInOrder, IsWellFormed}
use Rattle.std.proofs.lemmas.List.{append_assoc}
use Rattle.vq_model.specs.Sure.{IsSure}
use Rattle.vq_model.specs.SureOrder.{IsSureForJobOf, KeepsRising, RisesFrom}
use Rattle.vq_ground.proofs.Lists.{has-append_right, has_here}
use Rattle.vq_ground.proofs.Gets.{get-append}
use Rattle.vq_ground.proofs.Numbers.{eqb_comm}

-- Conflicts go both ways

pub share_comm : (r s : Range) → share r s ≡ share s r
share_comm r s =
    ap (λ b. b && ltb (max r.start s.start) (min (r.start + r.size) (s.start + s.size))) (eqb_comm r.buffer s.buffer)
    ∙ (ap (λ n. eqb s.buffer r.buffer && ltb n (min (r.start + r.size) (s.start + s.size))) (max_comm r.start s.start)
    ∙ ap (λ n. eqb s.buffer r.buffer && ltb (max s.start r.start) n) (min_comm (r.start + r.size) (s.start + s.size)))

conflict_back : (sizes : List ℕ) (c d : Command) → conflict sizes c d ≡ true → conflict sizes d c ≡ true
conflict_back sizes c d h =
    elim (or_cases (share (written_range sizes c) (written_range sizes d) || option_map_or (share (written_range sizes c)) (read_range d) false) (option_map_or (share (written_range sizes d)) (read_range c) false) h) [
      | inl a ↦ elim (or_cases (share (written_range sizes c) (written_range sizes d)) (option_map_or (share (written_range sizes c)) (read_range d) false) a) [
        | inl b ↦ or_left (share (written_range sizes d) (written_range sizes c) || option_map_or (share (written_range sizes d)) (read_range c) false) (option_map_or (share (written_range sizes c)) (read_range d) false) (or_left (share (written_range sizes d) (written_range sizes c)) (option_map_or (share (written_range sizes d)) (read_range c) false) (share_comm (written_range sizes d) (written_range sizes c) ∙ b))
        | inr b ↦ or_right (share (written_range sizes d) (written_range sizes c) || option_map_or (share (written_range sizes d)) (read_range c) false) (option_map_or (share (written_range sizes c)) (read_range d) false) b
      ]
      | inr a ↦ or_left (share (written_range sizes d) (written_range sizes c) || option_map_or (share (written_range sizes d)) (read_range c) false) (option_map_or (share (written_range sizes c)) (read_range d) false) (or_right (share (written_range sizes d) (written_range sizes c)) (option_map_or (share (written_range sizes d)) (read_range c) false) a)
    ]

conflicts_back : (p : Plan) (c d : ℕ) → conflicts p c d ≡ true → conflicts p d c ≡ true
conflicts_back p c d h = by_commands (command_at p c) (command_at p d) h
  where
    or_none : (b : Bool) → (b || false) ≡ true → b ≡ true
    or_none true e = refl
    or_none false e = e

    by_commands : (x y : Option Command) → list_any (λ a. list_any (conflict p.sizes a) (option_to_list y)) (option_to_list x) ≡ true → list_any (λ a. list_any (conflict p.sizes a) (option_to_list x)) (option_to_list y) ≡ true
    by_commands None y e = absurd (false≢true e)
    by_commands (Some x) None e = absurd (false≢true e)
    by_commands (Some x) (Some y) e = or_left (conflict p.sizes y x || false) false (or_left (conflict p.sizes y x) false (conflict_back p.sizes x y (or_none (conflict p.sizes x y) (or_none (conflict p.sizes x y || false) e))))

-- conflicting commands are ordered
pub rows_order_commands : (p : Plan) → NoLines (IsRaceAt p) → HasNoRace p
rows_order_commands p free c d i j hc hd n x = elim (before_decides p i j (stage_of p j d)) [
  | inl b ↦ inl b
  | inr a ↦ elim (before_decides p j i (stage_of p i c)) [ inl b ↦ inr b | inr b ↦ absurd (race a b) ]
]
  where
    race : (HappensBeforeCommand p i j d → ⊥) → (HappensBeforeCommand p j i c → ⊥) → ⊥
    race a b = elim (cases_lt (line_of_command p d) (line_of_command p c)) [
      | inl l ↦ free (line_of_command p d) (line_of_command p c) (record {
        first = d;
        second = c;
        race = record { first_job = j; second_job = i; first = hd; second = hc; two_jobs = λ e. n (sym e); conflict = conflicts_back p c d x; unordered = b; unordered_back = a };
        in_order = omega arith;
        first_line = refl;
        second_line = refl;
      })
      | inr l ↦ free (line_of_command p c) (line_of_command p d) (record {
        first = c;
        second = d;
        race = record { first_job = i; second_job = j; first = hc; second = hd; two_jobs = n; conflict = x; unordered = a; unordered_back = b };
        in_order = l;
        first_line = refl;
        second_line = refl;
      })
    ]

-- an operation of a job has a chain
pub op_chain : (p : Plan) (e j : ℕ) → job_of p e ≡ Some j → (t : ℕ) × (chain_of p e ≡ Some t)
op_chain p e j c = by_op (slice_get p.ops e) refl c
  where
    by_op : (o : Option Op) → slice_get p.ops e ≡ o → option_map (λ x. x.job) o ≡ Some j → (t : ℕ) × (chain_of p e ≡ Some t)
    by_op None i h = absurd (let k : None ≡ Some j = h in cc)
    by_op (Some x) i h = (x.chain, ap (option_map (λ y. y.chain)) i)

-- an operation of a chain has a job
pub op_job : (p : Plan) (e t : ℕ) → chain_of p e ≡ Some t → (j : ℕ) × (job_of p e ≡ Some j)
op_job p e t c = by_op (slice_get p.ops e) refl c
  where
    by_op : (o : Option Op) → slice_get p.ops e ≡ o → option_map (λ x. x.chain) o ≡ Some t → (j : ℕ) × (job_of p e ≡ Some j)
    by_op None i h = absurd (let k : None ≡ Some t = h in cc)
    by_op (Some x) i h = (x.job, ap (option_map (λ y. y.job)) i)

pub order_from : (p : Plan) (front back : List ℕ) → AreInOrder p (front ++ back) → AreInOrder p back
order_from p [] back r = r
order_from p (x ∷ front) back r = order_from p front back r.1

module _ (p : Plan) (w : IsWellFormed p) (ordered : NoLines (IsUnordered p)) (t : ℕ) (timeline : is_timeline_chain p t ≡ true) where
  member : (front back : List ℕ) (e : ℕ) → chain p t ≡ front ++ e ∷ back → chain_of p e ≡ Some t
  member front back e q = w.of_chain e t (ap (λ zs. has zs e) q ∙ has-append_right front (e ∷ back) e (has_here e back))

  rising : (front : List ℕ) (e : ℕ) (es : List ℕ) → chain p t ≡ front ++ e ∷ es → KeepsRising p e es
  rising front e [] q = tt
  rising front e (f ∷ es) q = (above, is_sure (sure_decides p e job.0 AtEnd), rising (front ++ e ∷ []) f es longer)
    where
      longer : chain p t ≡ (front ++ e ∷ []) ++ f ∷ es
      longer = q ∙ sym (append_assoc front (e ∷ []) (f ∷ es))

      job : (j : ℕ) × (job_of p f ≡ Some j)
      job = op_job p f t (member (front ++ e ∷ []) es f longer)

      first : slice_get (chain p t) (length front) ≡ Some e
      first = let z : length front ≡ length front + 0 = omega arith in ap (λ k. slice_get (chain p t) k) z ∙ (ap (λ (zs : List ℕ). slice_get zs (length front + 0)) q ∙ get-append front (e ∷ f ∷ es) 0)

      second : slice_get (chain p t) (length front + 1) ≡ Some f
      second = ap (λ (zs : List ℕ). slice_get zs (length front + 1)) q ∙ get-append front (e ∷ f ∷ es) 1

      above : value p e < value p f
      above = elim ((order_from p front (e ∷ f ∷ es) (subst (AreInOrder p) q (w.chain_order t))).0 f (has_here f es)) [
        | inl l ↦ l
        | inr s ↦ absurd (ordered (line_of_op p e) (line_of_op p f) (equal t e f timeline (record { place = length front; first = first; second = second }) s.0))
      ]

      is_sure : IsSure p e job.0 ⊎ (IsSure p e job.0 → ⊥) → IsSureForJobOf p e f
      is_sure (inl s) = (job.0, job.1, s)
      is_sure (inr n) = absurd (elim (cases_lt (line_of_op p f) (line_of_op p e)) [
        | inl l ↦ ordered (line_of_op p f) (line_of_op p e) (unsure_back t e f job.0 timeline (record { place = length front; first = first; second = second }) job.1 n l)
        | inr l ↦ ordered (line_of_op p e) (line_of_op p f) (unsure t e f job.0 timeline (record { place = length front; first = first; second = second }) job.1 n l)
      ])

  -- a timeline's operations rise from the initial value on in a sure order
  pub rows_order_timelines : RisesFrom p (initial p t) (chain p t)
  rows_order_timelines = by_chain (chain p t) refl
    where
      by_chain : (es : List ℕ) → chain p t ≡ es → RisesFrom p (initial p t) es
      by_chain [] q = tt
      by_chain (e ∷ es) q = (
        elim (cases_lt (initial p t) (value p e)) [
          | inl l ↦ l
          | inr l ↦ absurd (ordered (line_of_op p e) (line_of_op p e) (too_low t e timeline (member [] es e q) l))
        ],
        rising [] e es q,
      )
