-- The steps of the search for signals in no sure order.
use Rattle.std.proofs.Common.{◌≡◌, ℕ, ◌≤◌, true, List, length, get_or, ltb, Bor, Option, Some, None, sym, ap, ◌∙◌, subst, arith}
use Rattle.std.specs.List.{slice_get}
use Rattle.std.specs.Option.{option_copied, is_some, IfSome}
use Rattle.std.proofs.lemmas.Bool.{ltb-true, ltb-false}
use Rattle.std.proofs.lemmas.Option.{slice_get_past}
use Rattle.vq_model.specs.declared.plan.Need.{Need}
use Rattle.vq_model.specs.declared.script.SemaphoreKind.TheVariants.{Binary}
use Rattle.vq_model.specs.Plan.{Plan, chain}
use Rattle.vq_model.specs.Signals.{kind_of}
use Rattle.vq_model.specs.LoweredPlans.{IsPlan}
use Rattle.vq_model.specs.Lanes.{HasLinesInOrder}
use Rattle.vq_model.specs.Checks.{IsUnordered, IsNextSignal, is_timeline_chain}
use Rattle.vq_plan_laws.proofs.Cited.{plan_well_formed, plan_semaphores, plan_lines}
use Rattle.vq_order.specs.declared.lines.Lines.{Lines}
use Rattle.vq_order.specs.LeastLines.{IsOfFirst, AreLeastOrNone}
use Rattle.vq_order.specs.UnorderedLines.{IsUnorderedAt, IsUnorderedIn, IsOvertakenBy, IsOvertaken, IsOvertakenIn}
use Rattle.vq_order.proofs.LineSearches.{Either, lines_same}
use Rattle.vq_order.proofs.UnorderedLaws.{get_at, unordered_whole, unordered_parts}
use Rattle.vq_order.proofs.BinaryChains.{one_next}

-- what a look-up gives, copied
pub copied_is : (xs : List ℕ) (n : ℕ) (o : Option (Bor ℕ)) → is_some o ≡ ltb n (length xs) → IfSome o (λ x. x.now ≡ get_or xs n x.now) → option_copied o ≡ slice_get xs n
copied_is xs n None e h = sym (slice_get_past xs n (ltb-false n (length xs) (sym e)))
copied_is xs n (Some x) e h = ap Some h ∙ sym (get_at xs n x.now (ltb-true n (length xs) (sym e)))

-- a chain of which all places were searched
pub all_places : (p : Plan) (t k : ℕ) (ops : List ℕ) → ops ≡ chain p t → is_timeline_chain p t ≡ true → k ≤ length ops → length ops ≤ k → (o : Option Lines) → AreLeastOrNone (IsOfFirst (IsUnorderedAt p t) k) o → AreLeastOrNone (IsUnorderedIn p t) o
all_places p t k ops e kind l h o x =
    let n : k ≡ length (chain p t) = let q = ap length e in omega arith in
    lines_same (IsOfFirst (IsUnorderedAt p t) k) (IsUnorderedIn p t)
    (λ a b y. (kind, subst (λ (m : ℕ). IsOfFirst (IsUnorderedAt p t) m a b) n y))
    (λ a b y. subst (λ (m : ℕ). IsOfFirst (IsUnorderedAt p t) m a b) (sym n) y.1) o x

-- by the next signal, which is the only one
pub by_next : (p : Plan) → HasLinesInOrder p → (i : ℕ) (n : Need) → kind_of p.script n.chain ≡ Some Binary → (e : ℕ) → IsNextSignal p n.chain n.line e → (o : Option Lines) → AreLeastOrNone (IsOvertakenBy p i n.line e) o → AreLeastOrNone (IsOvertaken p i n) o
by_next p lines i n kind e next o x =
    lines_same (IsOvertakenBy p i n.line e) (IsOvertaken p i n) (λ a b y. record { binary = kind; op = e; next = next; by_op = y })
    (λ a b y. subst (λ (f : ℕ). IsOvertakenBy p i n.line f a b) (one_next p lines n.chain n.line y.op e y.next next) y.by_op) o x

-- the search over all chains and all jobs
pub all_searched : (p : Plan) → IsPlan p → (o : Option Lines) → AreLeastOrNone (Either (IsOfFirst (IsUnorderedIn p) (length p.chains)) (IsOfFirst (IsOvertakenIn p) (length p.jobs))) o → AreLeastOrNone (IsUnordered p) o
all_searched p i =
    lines_same (Either (IsOfFirst (IsUnorderedIn p) (length p.chains)) (IsOfFirst (IsOvertakenIn p) (length p.jobs))) (IsUnordered p)
    (unordered_whole p (plan_well_formed p i) (plan_lines p i)) (unordered_parts p (plan_well_formed p i) (plan_lines p i) (plan_semaphores p i))
