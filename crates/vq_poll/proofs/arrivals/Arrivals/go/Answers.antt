use Rattle.std.proofs.Common.{◌≡◌, ℕ, ◌<◌, ◌≤◌, List, length, replicate, slice_index_or, Option, Some, None, refl, sym, ap, ◌∙◌, subst, arith, inl, inr}
use Rattle.std.specs.List.{slice_get, remove}
use Rattle.std.specs.Global.{Vec}
use Rattle.std.proofs.lemmas.Bool.{cases_lt, eq-eqb, false≢true}
use Rattle.std.proofs.lemmas.Option.{slice_get_within}
use Rattle.vq_board_laws.proofs.Cited.{learns_none}
use Rattle.vq_board.specs.Named.{view, IsOf}
use Rattle.vq_payload.proofs.Cited.{learned_none, learned_on}
use Rattle.vq_poll.specs.declared.awaited.Awaited.{Awaited}
use Rattle.vq_poll.specs.declared.pairs.Pair.{Pair}
use Rattle.vq_poll.specs.Arriving.{plan_on, pairs_on}
use Rattle.vq_poll.specs.Hearing.{HearsBell}
use Rattle.vq_poll.specs.Missing.{IsMissed}
use Rattle.vq_poll.specs.Seeing.{Looked, HasValue}
use Rattle.vq_poll.specs.Waiting.{CanRead}
use Rattle.vq_poll.proofs.Coming.{known_at, missed_at, comes, covers_left}
use Rattle.vq_poll.proofs.Looked.{looked_none, none_at}
use Rattle.vq_poll.proofs.Missed.{missed_still}
use Rattle.vq_poll.proofs.Places.{stands_at, remove_at}
use Rattle.vq_poll.proofs.Polled.{bell_still}
use Rattle.vq_poll.proofs.Waited.{met_at, knows_at}
use Rattle.vq_poll.proofs.arrivals.Arrivals.go.Goals as goal

pub loop-place-init : goal.loop-place-init
loop-place-init c = let seen : List (Option ℕ) = replicate 16 None in record {
  room = refl;
  same = refl;
  left = refl;
  loan = refl;
  pass_is = c.requires.can.can_read.pass_is;
  learned = learned_none c.args.self.now.pass.now;
  looked = looked_none c.args.self.now.awaited (view c.args.self.now.pass.now) c.args.cx.now seen (none_at seen tt);
  missed = λ k i x l. absurd (omega arith);
  hears = λ k i x l. absurd (omega arith);
  armed = λ l. absurd (omega arith);
  kept = λ fact h. h;
}

pub value_at-value-requires-clause-exists : goal.value_at-value-requires-clause-exists
value_at-value-requires-clause-exists c =
    let a0 = c.args.self.now in
    let inv = c.loop-place.invariant in
    let k = c.loop-place.place in
    let i = c.index-index.result.now in
    let items : c.loop-place.self.left.items ≡ a0.left.items = ap (λ (q : Vec ℕ). q.items) inv.left in
    let size = a0.left.ok.0 in
    let test = c.loop-place-test.true in
    let len = c.len-place-end.ensures in
    let within : k < length a0.left.items = omega arith in
    let at0 : slice_get a0.left.items k ≡ Some i = stands_at a0.left.items k i within (subst (λ (xs : List ℕ). i ≡ slice_index_or xs k i) items c.index-index.ensures) in
    subst (λ (q : Awaited). i < length q.pairs.items) (sym inv.same) (c.requires.can.left_are k i at0)

pub pair-requires : goal.pair-requires
pair-requires c =
    let a0 = c.args.self.now in
    let inv = c.loop-place.invariant in
    let k = c.loop-place.place in
    let i = c.index-index.result.now in
    let items : c.loop-place.self.left.items ≡ a0.left.items = ap (λ (q : Vec ℕ). q.items) inv.left in
    let size = a0.left.ok.0 in
    let test = c.loop-place-test.true in
    let len = c.len-place-end.ensures in
    let within : k < length a0.left.items = omega arith in
    let at0 : slice_get a0.left.items k ≡ Some i = stands_at a0.left.items k i within (subst (λ (xs : List ℕ). i ≡ slice_index_or xs k i) items c.index-index.ensures) in
    record { exists = subst (λ (q : Awaited). i < length q.pairs.items) (sym inv.same) (c.requires.can.left_are k i at0) }

pub returns-then-pair-value-clause-can : goal.returns-then-pair-value-clause-can
returns-then-pair-value-clause-can c =
    let a0 = c.args.self.now in
    let inv = c.loop-place.invariant in
    let k = c.loop-place.place in
    let items : c.loop-place.self.left.items ≡ a0.left.items = ap (λ (q : Vec ℕ). q.items) inv.left in
    let y = c.value_at-value.new.pass in
    let got = c.value_at-value.ensures in
    let of0 : IsOf a0.awaited.watched.board.now y = subst (λ (q : Awaited). IsOf q.watched.board.now y) inv.same got.pass in
    let can = c.requires.can.can_read in record {
      can_read = subst (λ (q : Awaited). CanRead q y) (sym inv.same) (record { board_is = can.board_is; pass_is = of0; pairs_are = can.pairs_are });
      left_are = λ j m at.
          let before = remove_at a0.left.items k j m (subst (λ (xs : List ℕ). slice_get xs j ≡ Some m) (c.remove.ensures.items ∙ ap (λ (xs : List ℕ). remove xs k) items) at) in
          subst (λ (q : Awaited). m < length q.pairs.items) (sym inv.same) (c.requires.can.left_are before.0 m before.1);
    }

pub returns-then-pair-value-clause-reached : goal.returns-then-pair-value-clause-reached
returns-then-pair-value-clause-reached c =
    let a0 = c.args.self.now in
    let inv = c.loop-place.invariant in
    let i = c.index-index.result.now in
    let v = view a0.pass.now in
    let u = view c.loop-place.self.pass.now in
    let y = c.value_at-value.new.pass in
    let z = view y in
    let cx = c.loop-place.cx in
    let cy = c.value_at-value.new.cx in
    let seen = c.value_at-value.new.seen in
    let n = c.value_at-value.result in
    let got = c.value_at-value.ensures in
    let x = c.pair.result in
    let pair0 : slice_get (pairs_on a0) i ≡ Some x = subst (λ (q : Awaited). slice_get q.pairs.items i ≡ Some x) inv.same c.pair.ensures in
    let has : HasValue a0.awaited v z cy seen i n = subst (λ (q : Awaited). HasValue q v z cy seen i n) inv.same
    (got.looked v (subst (λ (q : Awaited). Looked q v u cx c.loop-place.seen) (sym inv.same) inv.looked)) in
    let reached : x.value ≤ n = c.if-pair-value.true in
    met_at (plan_on a0) z.known (pairs_on a0) i n x pair0 reached (known_at a0.awaited v z cy seen i n x pair0 has)

pub returns-then-pair-value-clause-knows : goal.returns-then-pair-value-clause-knows
returns-then-pair-value-clause-knows c =
    let a0 = c.args.self.now in
    let inv = c.loop-place.invariant in
    let i = c.index-index.result.now in
    let v = view a0.pass.now in
    let u = view c.loop-place.self.pass.now in
    let y = c.value_at-value.new.pass in
    let z = view y in
    let cx = c.loop-place.cx in
    let cy = c.value_at-value.new.cx in
    let seen = c.value_at-value.new.seen in
    let n = c.value_at-value.result in
    let got = c.value_at-value.ensures in
    let x = c.pair.result in
    let pair0 : slice_get (pairs_on a0) i ≡ Some x = subst (λ (q : Awaited). slice_get q.pairs.items i ≡ Some x) inv.same c.pair.ensures in
    let has : HasValue a0.awaited v z cy seen i n = subst (λ (q : Awaited). HasValue q v z cy seen i n) inv.same
    (got.looked v (subst (λ (q : Awaited). Looked q v u cx c.loop-place.seen) (sym inv.same) inv.looked)) in
    knows_at (plan_on a0) z.known (pairs_on a0) i n x pair0 (known_at a0.awaited v z cy seen i n x pair0 has)

pub returns-then-pair-value-clause-taken : goal.returns-then-pair-value-clause-taken
returns-then-pair-value-clause-taken c =
    let a0 = c.args.self.now in
    let inv = c.loop-place.invariant in
    let k = c.loop-place.place in
    let i = c.index-index.result.now in
    let items : c.loop-place.self.left.items ≡ a0.left.items = ap (λ (q : Vec ℕ). q.items) inv.left in
    let size = a0.left.ok.0 in
    let test = c.loop-place-test.true in
    let len = c.len-place-end.ensures in
    let within : k < length a0.left.items = omega arith in
    let at0 : slice_get a0.left.items k ≡ Some i = stands_at a0.left.items k i within (subst (λ (xs : List ℕ). i ≡ slice_index_or xs k i) items c.index-index.ensures) in
    (k, at0, c.remove.ensures.items ∙ ap (λ (xs : List ℕ). remove xs k) items)

pub returns-then-pair-value-clause-arrived : goal.returns-then-pair-value-clause-arrived
returns-then-pair-value-clause-arrived c =
    let a0 = c.args.self.now in
    let inv = c.loop-place.invariant in
    let i = c.index-index.result.now in
    let v = view a0.pass.now in
    let u = view c.loop-place.self.pass.now in
    let y = c.value_at-value.new.pass in
    let z = view y in
    let cx = c.loop-place.cx in
    let cy = c.value_at-value.new.cx in
    let seen = c.value_at-value.new.seen in
    let n = c.value_at-value.result in
    let got = c.value_at-value.ensures in
    let has : HasValue a0.awaited v z cy seen i n = subst (λ (q : Awaited). HasValue q v z cy seen i n) inv.same
    (got.looked v (subst (λ (q : Awaited). Looked q v u cx c.loop-place.seen) (sym inv.same) inv.looked)) in
    comes a0 v z cy seen i n has

pub loop-place-preserved : goal.loop-place-preserved
loop-place-preserved c =
    let a0 = c.args.self.now in
    let inv = c.loop-place.invariant in
    let k = c.loop-place.place in
    let i = c.index-index.result.now in
    let items : c.loop-place.self.left.items ≡ a0.left.items = ap (λ (q : Vec ℕ). q.items) inv.left in
    let size = a0.left.ok.0 in
    let test = c.loop-place-test.true in
    let len = c.len-place-end.ensures in
    let within : k < length a0.left.items = omega arith in
    let at0 : slice_get a0.left.items k ≡ Some i = stands_at a0.left.items k i within (subst (λ (xs : List ℕ). i ≡ slice_index_or xs k i) items c.index-index.ensures) in
    let v = view a0.pass.now in
    let u = view c.loop-place.self.pass.now in
    let y = c.value_at-value.new.pass in
    let z = view y in
    let cx = c.loop-place.cx in
    let cy = c.value_at-value.new.cx in
    let seen = c.value_at-value.new.seen in
    let n = c.value_at-value.result in
    let got = c.value_at-value.ensures in
    let x = c.pair.result in
    let pair0 : slice_get (pairs_on a0) i ≡ Some x = subst (λ (q : Awaited). slice_get q.pairs.items i ≡ Some x) inv.same c.pair.ensures in
    let of0 : IsOf a0.awaited.watched.board.now y = subst (λ (q : Awaited). IsOf q.watched.board.now y) inv.same got.pass in
    let has : HasValue a0.awaited v z cy seen i n = subst (λ (q : Awaited). HasValue q v z cy seen i n) inv.same
    (got.looked v (subst (λ (q : Awaited). Looked q v u cx c.loop-place.seen) (sym inv.same) inv.looked)) in
    let fails = c.if-pair-value.false in
    let low : n < x.value = omega arith in
    let mine = missed_at a0.awaited v z cy seen i n x c.requires.can.can_read.board_is pair0 has low in record {
      room = got.room ∙ inv.room;
      same = inv.same;
      left = inv.left;
      loan = inv.loan;
      pass_is = of0;
      learned = learned_on a0.pass.now c.loop-place.self.pass.now y inv.learned got.learned;
      looked = has.looked;
      missed = λ j m q l at there. elim (cases_lt j k) [
        | inl less ↦ missed_still (plan_on a0) v v u z q (learns_none v) got.learned.2 (inv.missed j m q less at there)
        | inr isnt ↦
            let same : j ≡ k = omega arith in
            let mine_at : slice_get a0.left.items k ≡ Some m = subst (λ (h : ℕ). slice_get a0.left.items h ≡ Some m) same at in
            let index : i ≡ m = (let e = at0 in let f = mine_at in cc) in
            let here : slice_get (pairs_on a0) i ≡ Some q = subst (λ (h : ℕ). slice_get (pairs_on a0) h ≡ Some q) (sym index) there in
            let eq : x ≡ q = (let e = pair0 in let f = here in cc) in
            subst (λ (r : Pair). IsMissed (plan_on a0) v z r) eq mine
      ];
      hears = λ j m q l at there. elim (cases_lt j k) [
        | inl less ↦ bell_still cx cy a0.awaited.watched.bells.now q.chain got.kept (inv.hears j m q less at there)
        | inr isnt ↦
            let same : j ≡ k = omega arith in
            let mine_at : slice_get a0.left.items k ≡ Some m = subst (λ (h : ℕ). slice_get a0.left.items h ≡ Some m) same at in
            let index : i ≡ m = (let e = at0 in let f = mine_at in cc) in
            has.hears q (subst (λ (h : ℕ). slice_get (pairs_on a0) h ≡ Some q) (sym index) there)
      ];
      armed = λ _. has.armed;
      kept = λ fact h. got.kept fact (inv.kept fact h);
    }

pub returns-clause-missed : goal.returns-clause-missed
returns-clause-missed c = λ k i x at there.
    let a0 = c.args.self.now in
    let size = a0.left.ok.0 in
    let within = slice_get_within a0.left.items k i at in
    let test = c.loop-place-test.false in
    let len = c.len-place-end.ensures in
    c.loop-place.invariant.missed k i x (omega arith) at there

pub returns-clause-registered : goal.returns-clause-registered
returns-clause-registered c =
    let a0 = c.args.self.now in
    let a = c.loop-place.self in
    let cx = c.loop-place.cx in
    let inv = c.loop-place.invariant in
    let size = a0.left.ok.0 in
    let test = c.loop-place-test.false in
    let len = c.len-place-end.ensures in
    let items : a.left.items ≡ a0.left.items = ap (λ (q : Vec ℕ). q.items) inv.left in
    let some : ¬ (a0.left.len ≡ 0) = λ none. false≢true (sym c.if-is_empty.false ∙ (c.is_empty.ensures ∙ eq-eqb a0.left.len 0 none)) in
    let begun : 0 < c.loop-place.place = elim (cases_lt 0 c.loop-place.place) [
      | inl more ↦ more
      | inr isnt ↦ absurd (some (omega arith))
    ] in
    let hears : (k i : ℕ) (x : Pair) → slice_get a.left.items k ≡ Some i → slice_get (pairs_on a) i ≡ Some x → HearsBell cx a.awaited.watched.bells.now x.chain = (λ k i x at there. (
    let left0 : slice_get a0.left.items k ≡ Some i = subst (λ (xs : List ℕ). slice_get xs k ≡ Some i) items at in
    let pair0 : slice_get (pairs_on a0) i ≡ Some x = subst (λ (q : Awaited). slice_get q.pairs.items i ≡ Some x) inv.same there in
    let within = slice_get_within a0.left.items k i left0 in
    subst (λ (q : Awaited). HearsBell cx q.watched.bells.now x.chain) (sym inv.same) (inv.hears k i x (omega arith) left0 pair0)
    )) in
    covers_left a cx hears (inv.armed begun)
