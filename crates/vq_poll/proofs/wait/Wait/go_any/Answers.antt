use Rattle.std.proofs.Common.{◌≡◌, ℕ, ◌<◌, ◌≤◌, List, length, replicate, Option, Some, None, refl, sym, ap, ◌∙◌, subst, arith, inl, inr}
use Rattle.std.specs.List.{slice_get}
use Rattle.std.proofs.lemmas.Bool.{cases_lt}
use Rattle.std.proofs.lemmas.Option.{slice_get_within}
use Rattle.vq_board_laws.proofs.Cited.{learns_none}
use Rattle.futures.specs.Task.{Covers}
use Rattle.vq_board.specs.Named.{view, IsOf}
use Rattle.vq_payload.proofs.Cited.{learned_none, learned_on}
use Rattle.vq_poll.specs.declared.pairs.Pair.{Pair}
use Rattle.vq_poll.specs.declared.wait.Wait.{Wait}
use Rattle.vq_poll.specs.Hearing.{HearsBell}
use Rattle.vq_poll.specs.Missing.{IsMissed}
use Rattle.vq_poll.specs.Seeing.{Looked, HasValue}
use Rattle.vq_poll.specs.Waiting.{CanRead, CanWait, WaitsFor, plan_in, pairs_in}
use Rattle.vq_poll.proofs.Looked.{looked_none, none_at}
use Rattle.vq_poll.proofs.Missed.{missed_still}
use Rattle.vq_poll.proofs.Polled.{bell_still}
use Rattle.vq_poll.proofs.Waited.{wait_still, chosen, waits_any, ends_any, value_known, value_missed, covers_any}
use Rattle.vq_poll.proofs.wait.Wait.go_any.Goals as goal

pub loop-index-init : goal.loop-index-init
loop-index-init c = let seen : List (Option ℕ) = replicate 16 None in record {
  same = refl;
  room = refl;
  pass_is = c.requires.can.can_read.pass_is;
  learned = learned_none c.args.pass.now;
  looked = looked_none c.args.self.now.awaited (view c.args.pass.now) c.args.cx.now seen (none_at seen tt);
  missed = λ i x l. absurd (omega arith);
  hears = λ i x l. absurd (omega arith);
  armed = λ l. absurd (omega arith);
  kept = λ fact h. h;
}

pub value_at-value-requires-clause-can : goal.value_at-value-requires-clause-can
value_at-value-requires-clause-can c =
    let can = c.requires.can.can_read in
    subst (λ (q : Wait). CanRead q.awaited c.loop-index.pass) (sym c.loop-index.invariant.same)
    (record { board_is = can.board_is; pass_is = c.loop-index.invariant.pass_is; pairs_are = can.pairs_are })

pub value_at-value-requires-clause-exists : goal.value_at-value-requires-clause-exists
value_at-value-requires-clause-exists c =
    let test = c.loop-index-test.true in
    let size = c.len-index-end.ensures in
    subst (λ (q : Wait). c.loop-index.index < length (pairs_in q)) (sym c.loop-index.invariant.same) (omega arith)

pub value_at-value-requires-clause-room : goal.value_at-value-requires-clause-room
value_at-value-requires-clause-room c =
    let few = c.requires.can.can_read.pairs_are.few in
    let room = c.loop-index.invariant.room in
    subst (λ (q : Wait). length (pairs_in q) ≤ length c.loop-index.seen) (sym c.loop-index.invariant.same) (omega arith)

pub pair-requires : goal.pair-requires
pair-requires c =
    let test = c.loop-index-test.true in
    let size = c.len-index-end.ensures in
    record { exists = subst (λ (q : Wait). c.loop-index.index < length (pairs_in q)) (sym c.loop-index.invariant.same) (omega arith) }

pub returns-then-pair-value-clause-stays : goal.returns-then-pair-value-clause-stays
returns-then-pair-value-clause-stays c = let same = c.loop-index.invariant.same in (ap (λ (q : Wait). q.awaited) same, ap (λ (q : Wait). q.mode) same)

pub returns-then-pair-value-clause-can : goal.returns-then-pair-value-clause-can
returns-then-pair-value-clause-can c =
    let w0 = c.args.self.now in
    let v = view c.args.pass.now in
    let u = view c.loop-index.pass in
    let y = c.value_at-value.new.pass in
    let z = view y in
    let cx = c.loop-index.cx in
    let cy = c.value_at-value.new.cx in
    let seen = c.value_at-value.new.seen in
    let i = c.loop-index.index in
    let n = c.value_at-value.result in
    let inv = c.loop-index.invariant in
    let got = c.value_at-value.ensures in
    let x = c.pair.result in
    let at0 : slice_get (pairs_in w0) i ≡ Some x = subst (λ (q : Wait). slice_get (pairs_in q) i ≡ Some x) inv.same c.pair.ensures in
    let of0 : IsOf w0.awaited.watched.board.now y = subst (λ (q : Wait). IsOf q.awaited.watched.board.now y) inv.same got.pass in
    let learned = learned_on c.args.pass.now c.loop-index.pass y inv.learned got.learned in
    let has : HasValue w0.awaited v z cy seen i n = subst (λ (q : Wait). HasValue q.awaited v z cy seen i n) inv.same
    (got.looked v (subst (λ (q : Wait). Looked q.awaited v u cx c.loop-index.seen) (sym inv.same) inv.looked)) in
    let reached : x.value ≤ n = c.if-pair-value.true in
    let still = wait_still w0 c.args.pass.now y c.requires.none c.requires.can of0 learned in
    subst (λ (q : Wait). CanWait (record q { met = Some (record { index = i; value = n }) }) y) (sym inv.same)
    (chosen w0 y i n x c.requires.any still at0 (value_known w0 v z cy seen i n x at0 has) reached)

pub returns-then-pair-value-clause-polled : goal.returns-then-pair-value-clause-polled
returns-then-pair-value-clause-polled c =
    let w0 = c.args.self.now in
    let v = view c.args.pass.now in
    let u = view c.loop-index.pass in
    let y = c.value_at-value.new.pass in
    let z = view y in
    let cx = c.loop-index.cx in
    let cy = c.value_at-value.new.cx in
    let seen = c.value_at-value.new.seen in
    let i = c.loop-index.index in
    let n = c.value_at-value.result in
    let inv = c.loop-index.invariant in
    let got = c.value_at-value.ensures in
    let x = c.pair.result in
    let at0 : slice_get (pairs_in w0) i ≡ Some x = subst (λ (q : Wait). slice_get (pairs_in q) i ≡ Some x) inv.same c.pair.ensures in
    let of0 : IsOf w0.awaited.watched.board.now y = subst (λ (q : Wait). IsOf q.awaited.watched.board.now y) inv.same got.pass in
    let learned = learned_on c.args.pass.now c.loop-index.pass y inv.learned got.learned in
    let has : HasValue w0.awaited v z cy seen i n = subst (λ (q : Wait). HasValue q.awaited v z cy seen i n) inv.same
    (got.looked v (subst (λ (q : Wait). Looked q.awaited v u cx c.loop-index.seen) (sym inv.same) inv.looked)) in
    ends_any w0 v z cy seen i n c.requires.none has

pub loop-index-preserved : goal.loop-index-preserved
loop-index-preserved c =
    let w0 = c.args.self.now in
    let v = view c.args.pass.now in
    let u = view c.loop-index.pass in
    let y = c.value_at-value.new.pass in
    let z = view y in
    let cx = c.loop-index.cx in
    let cy = c.value_at-value.new.cx in
    let seen = c.value_at-value.new.seen in
    let i = c.loop-index.index in
    let n = c.value_at-value.result in
    let inv = c.loop-index.invariant in
    let got = c.value_at-value.ensures in
    let x = c.pair.result in
    let at0 : slice_get (pairs_in w0) i ≡ Some x = subst (λ (q : Wait). slice_get (pairs_in q) i ≡ Some x) inv.same c.pair.ensures in
    let of0 : IsOf w0.awaited.watched.board.now y = subst (λ (q : Wait). IsOf q.awaited.watched.board.now y) inv.same got.pass in
    let learned = learned_on c.args.pass.now c.loop-index.pass y inv.learned got.learned in
    let has : HasValue w0.awaited v z cy seen i n = subst (λ (q : Wait). HasValue q.awaited v z cy seen i n) inv.same
    (got.looked v (subst (λ (q : Wait). Looked q.awaited v u cx c.loop-index.seen) (sym inv.same) inv.looked)) in
    let fails = c.if-pair-value.false in
    let low : n < x.value = omega arith in
    let mine = value_missed w0 v z cy seen i n x c.requires.can.can_read.board_is at0 has low in record {
      same = inv.same;
      room = got.room ∙ inv.room;
      pass_is = of0;
      learned = learned;
      looked = has.looked;
      missed = λ j q l at. elim (cases_lt j i) [
        | inl less ↦ missed_still (plan_in w0) v v u z q (learns_none v) got.learned.2 (inv.missed j q less at)
        | inr isnt ↦
            let same : j ≡ i = omega arith in
            let there : slice_get (pairs_in w0) i ≡ Some q = subst (λ (k : ℕ). slice_get (pairs_in w0) k ≡ Some q) same at in
            let eq : x ≡ q = (let a = at0 in let b = there in cc) in
            subst (λ (r : Pair). IsMissed (plan_in w0) v z r) eq mine
      ];
      hears = λ j q l at. elim (cases_lt j i) [
        | inl less ↦ bell_still cx cy w0.awaited.watched.bells.now q.chain got.kept (inv.hears j q less at)
        | inr isnt ↦
            let same : j ≡ i = omega arith in
            has.hears q (subst (λ (k : ℕ). slice_get (pairs_in w0) k ≡ Some q) same at)
      ];
      armed = λ _. has.armed;
      kept = λ fact h. got.kept fact (inv.kept fact h);
    }

pub returns-clause-stays : goal.returns-clause-stays
returns-clause-stays c = let same = c.loop-index.invariant.same in (ap (λ (q : Wait). q.awaited) same, ap (λ (q : Wait). q.mode) same)

pub returns-clause-can : goal.returns-clause-can
returns-clause-can c =
    let inv = c.loop-index.invariant in
    subst (λ (q : Wait). CanWait q c.loop-index.pass) (sym inv.same)
    (wait_still c.args.self.now c.args.pass.now c.loop-index.pass c.requires.none c.requires.can inv.pass_is inv.learned)

pub returns-clause-polled : goal.returns-clause-polled
returns-clause-polled c =
    waits_any c.args.self.now (view c.args.pass.now) (view c.loop-index.pass) c.loop-index.cx c.loop-index.seen c.requires.none c.loop-index.invariant.looked

pub returns-clause-missed : goal.returns-clause-missed
returns-clause-missed c = λ i x at.
    let within = slice_get_within (pairs_in c.args.self.now) i x at in
    let test = c.loop-index-test.false in
    let size = c.len-index-end.ensures in
    c.loop-index.invariant.missed i x (omega arith) at

pub returns-clause-registered : goal.returns-clause-registered
returns-clause-registered c =
    let w0 = c.args.self.now in
    let inv = c.loop-index.invariant in
    let test = c.loop-index-test.false in
    let size = c.len-index-end.ensures in
    let some = c.requires.can.can_read.pairs_are.some in
    let begun : 0 < c.loop-index.index = omega arith in
    let hears : (i : ℕ) (x : Pair) → slice_get (pairs_in w0) i ≡ Some x → HearsBell c.loop-index.cx w0.awaited.watched.bells.now x.chain = (λ i x at. (let within = slice_get_within (pairs_in w0) i x at in inv.hears i x (omega arith) at)) in
    subst (λ (q : Wait). Covers c.loop-index.cx (WaitsFor q)) (sym inv.same) (covers_any w0 c.loop-index.cx hears (inv.armed begun))
