use Rattle.std.proofs.Common.{◌≡◌, ◌≤◌, ◌<◌, ◌%◌, ◌^◌, ℕ, ap, sym, ◌∙◌, subst, arith, le_trans}
use Rattle.atomic_table.specs.Table.{Me}
use Rattle.vq_live_lock.specs.declared.counting.Times.{Times}
use Rattle.vq_live_lock.specs.Gauges.{rings_of}
use Rattle.vq_live_lock.proofs.Noting.{IsLeast, from_kept, from_more, from_none}
use Rattle.vq_live_lock.proofs.kept.Kept.watch.Goals as goal
use Rattle.vq_live_lock.proofs.kept.Kept.watch.Goals.{in-Some, in_default-2, in_default}

pub note-requires : goal.note-requires
note-requires c =
    let payload = c.args.self.now.timeline.payload in
    let k = c.requires.1 in
    let again = c.hear_again-rings.ensures k.1 k.3 in
    let rings : rings_of c.hear_again-rings.new.heard ≡ again.0 = ap (λ (m : Me (Unit {0}) Times). m.0.rings) again.1.1 in
    let above : payload < c.args.value = (let e = c.value.ensures in let f = c.if-value.false in omega arith) in
    let least : IsLeast c.args.self.now.least c.args.value payload c.match-self.least = elim c.match-self.branch [
      | in-Some w ↦ from_kept c.args.self.now.least w.in-Some.least c.args.value payload c.match-self.least w.in-Some.is w.least-is w.if-least-value.true c.requires.2
      | in_default-2 w ↦ from_more c.args.self.now.least w.in-Some.least c.args.value payload c.match-self.least w.in-Some.is w.least-is (let f = w.if-least-value.false in omega arith) above
      | in_default w ↦ from_none c.args.self.now.least c.args.value payload c.match-self.least w.in_default.is w.least-is above
    ] in (
      payload,
      c.args.self.now.least,
      k.0,
      k.2,
      least.higher,
      subst (λ (n : ℕ). k.0 ≤ n) (sym rings) (le_trans k.4 again.2),
      least.lower,
    )

pub returns-clause-shown : goal.returns-clause-shown
returns-clause-shown c =
    let payload = c.args.self.now.timeline.payload in
    let k = c.requires.1 in
    let again = c.hear_again-rings.ensures k.1 k.3 in
    let rings : rings_of c.hear_again-rings.new.heard ≡ again.0 = ap (λ (m : Me (Unit {0}) Times). m.0.rings) again.1.1 in
    let above : payload < c.args.value = (let e = c.value.ensures in let f = c.if-value.false in omega arith) in
    let least : IsLeast c.args.self.now.least c.args.value payload c.match-self.least = elim c.match-self.branch [
      | in-Some w ↦ from_kept c.args.self.now.least w.in-Some.least c.args.value payload c.match-self.least w.in-Some.is w.least-is w.if-least-value.true c.requires.2
      | in_default-2 w ↦ from_more c.args.self.now.least w.in-Some.least c.args.value payload c.match-self.least w.in-Some.is w.least-is (let f = w.if-least-value.false in omega arith) above
      | in_default w ↦ from_none c.args.self.now.least c.args.value payload c.match-self.least w.in_default.is w.least-is above
    ] in (
      c.requires.0,
      (rings_of c.hear_again-rings.new.heard, again.0, c.note.ensures.pen payload c.args.self.now.least k.0 k.2, again.1, (let e = rings in omega arith)),
      least.higher,
    )

pub returns-clause-left : goal.returns-clause-left
returns-clause-left c =
    let payload = c.args.self.now.timeline.payload in
    let k = c.requires.1 in
    let again = c.hear_again-rings.ensures k.1 k.3 in
    let rings : rings_of c.hear_again-rings.new.heard ≡ again.0 = ap (λ (m : Me (Unit {0}) Times). m.0.rings) again.1.1 in
    let above : payload < c.args.value = (let e = c.value.ensures in let f = c.if-value.false in omega arith) in
    let least : IsLeast c.args.self.now.least c.args.value payload c.match-self.least = elim c.match-self.branch [
      | in-Some w ↦ from_kept c.args.self.now.least w.in-Some.least c.args.value payload c.match-self.least w.in-Some.is w.least-is w.if-least-value.true c.requires.2
      | in_default-2 w ↦ from_more c.args.self.now.least w.in-Some.least c.args.value payload c.match-self.least w.in-Some.is w.least-is (let f = w.if-least-value.false in omega arith) above
      | in_default w ↦ from_none c.args.self.now.least c.args.value payload c.match-self.least w.in_default.is w.least-is above
    ] in (
      c.match-self.least,
      rings_of c.hear_again-rings.new.heard,
      c.note.ensures.note,
      least.within,
      c.note.ensures.rings ∙ again.3 ∙ ap (λ (n : ℕ). n % 2 ^ 32) (sym rings),
    )
