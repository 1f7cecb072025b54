-- The timeline, the bell and the pairs of the tests.
use Rattle.std.proofs.Common.{◌≡◌, ℕ, zero, suc, ◌<◌, List, [], ◌∷◌, length, slice_index_or, Option, Some, None, IfSome, sym, ap, ◌∙◌, subst, arith}
use Rattle.std.specs.List.{slice_get}
use Rattle.std.specs.Global.{Vec}
use Rattle.vq_model.specs.Plan.{Plan}
use Rattle.vq_board.specs.declared.parts.Board.{Board}
use Rattle.vq_board.specs.declared.parts.Pass.{Pass}
use Rattle.vq_board.specs.Named.{plan_of, IsOf}
use Rattle.vq_timeline.specs.declared.timeline.LockedTimeline.{LockedTimeline}
use Rattle.vq_timeline.specs.Named.{IsAt, chain_at}
use Rattle.vq_timeline_stage.specs.Locked.{IsFirstAt}
use Rattle.vq_timeline_stage.specs.TwoBatches.{IsOfTwoBatches}
use Rattle.vq_poll.specs.declared.bell.Bell.{Bell}
use Rattle.vq_poll.specs.declared.pairs.Pair.{Pair}
use Rattle.vq_poll.specs.declared.watched.WatchedBoard.{WatchedBoard}
use Rattle.vq_poll.specs.Watching.{ArePairs, AreTimelines, plan_at}
use Rattle.vq_timeline_stage.specs.Scenes.{AreOfFirst}

-- what holds of the one element at its place
one_each : {X : Type 0} (P : ℕ → X → Type 0) (x : X) → P 0 x → (t : ℕ) (y : X) → slice_get (x ∷ []) t ≡ Some y → P t y
one_each {X} P x h zero y is = let same : x ≡ y = let z = is in cc in subst (λ (z : X). P 0 z) same h
one_each P x h (suc t) y is = absurd (let z = is in cc)

-- The timeline and the bell

one_timeline : (b : Board) (x : LockedTimeline) → IsOfTwoBatches (plan_of b) → IsAt b x → chain_at x ≡ 0 → AreTimelines b (x ∷ [])
one_timeline b x plan at chain = record { whole = sym plan.signals.alone; each = one_each (λ t z. IsAt b z × (chain_at z ≡ t)) x (at, chain) }

pub timelines_one : (b : Board) (x : LockedTimeline) (r : Option (Vec LockedTimeline)) → IfSome r (λ ts. ts.items ≡ x ∷ []) → IsAt b x → chain_at x ≡ 0 → IsOfTwoBatches (plan_of b) → IfSome r (λ ts. AreTimelines b ts.items)
timelines_one b x None h at chain plan = tt
timelines_one b x (Some ts) h at chain plan = subst (λ (xs : List LockedTimeline). AreTimelines b xs) (sym h) (one_timeline b x plan at chain)

pub bells_one : (x : Bell) (r : Option (Vec Bell)) → IfSome r (λ bells. bells.items ≡ x ∷ []) → IfSome r (λ bells. length bells.items ≡ 1)
bells_one x None h = tt
bells_one x (Some bells) h = ap (λ (xs : List Bell). length xs) h

pub some_timelines : (b : Board) (ts : List LockedTimeline) → IsOfTwoBatches (plan_of b) → AreTimelines b ts → 0 < length ts
some_timelines b ts plan h =
    let alone = plan.signals.alone in
    let whole = h.whole in omega arith

pub first_at : (b : Board) (ts : List LockedTimeline) (d : LockedTimeline) → IsOfTwoBatches (plan_of b) → AreTimelines b ts → IsFirstAt b (slice_index_or ts 0 d)
first_at b [] d plan h =
    let alone = plan.signals.alone in
    let whole = h.whole in absurd (omega arith)
first_at b (x ∷ ts) d plan h = let at = h.each 0 x (λ i. Some x) in record { board = at.0; first = at.1 }

pub first_is : (b : Board) (ts : List LockedTimeline) (x : LockedTimeline) → IsOfTwoBatches (plan_of b) → AreTimelines b ts → x ≡ slice_index_or ts 0 x → IsFirstAt b x
first_is b ts x plan h is = subst (λ (y : LockedTimeline). IsFirstAt b y) (sym is) (first_at b ts x plan h)

-- What is watched

pub one_bell_each : (b : Board) (o : Plan) (n : ℕ) → IsOfTwoBatches (plan_of b) → plan_of b ≡ o → n ≡ 1 → n ≡ length o.chains
one_bell_each b o n plan same one = one ∙ sym (ap (λ (p : Plan). length p.chains) (sym same) ∙ plan.signals.alone)

pub plan_kept : (w : WatchedBoard) (b : Board) → w.board.now ≡ b → IsOfTwoBatches (plan_of b) → IsOfTwoBatches (plan_at w)
plan_kept w b same plan = subst (λ (c : Board). IsOfTwoBatches (plan_of c)) (sym same) plan

pub timelines_kept : (b : Board) (xs ys : List LockedTimeline) → ys ≡ xs → AreTimelines b xs → AreTimelines b ys
timelines_kept b xs ys same h = subst (λ (ts : List LockedTimeline). AreTimelines b ts) (sym same) h

pub pass_kept : (w : WatchedBoard) (b : Board) (x : Pass) → w.board.now ≡ b → IsOf b x → IsOf w.board.now x
pass_kept w b x same of = subst (λ (c : Board). IsOf c x) (sym same) of

pub pass_back : (w : WatchedBoard) (b : Board) (x : Pass) → w.board.now ≡ b → IsOf w.board.now x → IsOf b x
pass_back w b x same of = subst (λ (c : Board). IsOf c x) same of

-- Pairs

pub pairs_of_first : (p : Plan) (ps : List Pair) → IsOfTwoBatches p → AreOfFirst ps → ArePairs p ps
pairs_of_first p ps plan h =
    let alone = plan.signals.alone in
    record {
      some = h.some;
      few = h.few;
      exist = λ i x at. let first = h.first i x at in omega arith;
    }

pub one_first : (x : Pair) (n : ℕ) → x ≡ record { chain = 0; value = n } → AreOfFirst (x ∷ [])
one_first x n is = record { some = omega arith; few = omega arith; first = one_each (λ _ (z : Pair). z.chain ≡ 0) x (ap (λ (z : Pair). z.chain) is) }

pub two_first : (x y : Pair) (n m : ℕ) → x ≡ record { chain = 0; value = n } → y ≡ record { chain = 0; value = m } → AreOfFirst (x ∷ y ∷ [])
two_first x y n m a b = record { some = omega arith; few = omega arith; first = first }
  where
    first : (i : ℕ) (z : Pair) → slice_get (x ∷ y ∷ []) i ≡ Some z → z.chain ≡ 0
    first zero z is = let same : x ≡ z = let w = is in cc in subst (λ (w : Pair). w.chain ≡ 0) same (ap (λ (w : Pair). w.chain) a)
    first (suc i) z is = one_each (λ _ (w : Pair). w.chain ≡ 0) y (ap (λ (w : Pair). w.chain) b) i z is
