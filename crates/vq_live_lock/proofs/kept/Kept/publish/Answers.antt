use Rattle.std.proofs.Common.{◌≤◌, ◌<◌, ◌+◌, ℕ, Option, None, sym, subst, arith}
use Rattle.vq_live_lock.specs.Gauges.{IsAbove}
use Rattle.vq_live_lock.specs.Named.{IsPenOf, Shows}
use Rattle.vq_live_lock.proofs.kept.Kept.publish.Goals as goal
use Rattle.vq_live_lock.proofs.kept.Kept.publish.Goals.{in_default-via-in-Some+else-least-payload, in_default-via-in_default}

pub shown-requires : goal.shown-requires
shown-requires c =
    let k = c.requires.1.1 in
    let up = subst (λ (n : ℕ). c.requires.1.0 ≤ n) (sym c.value-payload.ensures) c.requires.1.2 in
    (c.value-payload.result, None, k.0 + 1, c.clear.ensures c.requires.1.0 c.args.self.now.least k.0 k.2 up)

pub returns-in-Some-clause-shown : goal.returns-in-Some-clause-shown
returns-in-Some-clause-shown c =
    let k = c.requires.1.1 in
    let up = subst (λ (n : ℕ). c.requires.1.0 ≤ n) (sym c.value-payload.ensures) c.requires.1.2 in
    let cleared = c.clear.ensures c.requires.1.0 c.args.self.now.least k.0 k.2 up in
    let pen = subst (λ (n : ℕ). IsPenOf c.args.gauge.now c.shown.new.pen n None (k.0 + 1)) c.value-payload.ensures
    (c.shown.ensures.pen c.value-payload.result None (k.0 + 1) cleared) in
    let rung = c.count.ensures k.1 k.3 in
    let more : k.0 + 1 ≤ rung.0 = (let a = k.4 in let b = rung.2 in omega arith) in
    (c.requires.0, (k.0 + 1, rung.0, pen, rung.1, more), tt)

pub returns-in-Some-clause-reached : goal.returns-in-Some-clause-reached
returns-in-Some-clause-reached c =
    let k = c.requires.1.1 in
    let up = subst (λ (n : ℕ). c.requires.1.0 ≤ n) (sym c.value-payload.ensures) c.requires.1.2 in
    let cleared = c.clear.ensures c.requires.1.0 c.args.self.now.least k.0 k.2 up in
    subst (λ (n : ℕ). Shows c.args.gauge.now c.shown.result n) c.value-payload.ensures
    (c.shown.ensures.shows c.value-payload.result None (k.0 + 1) cleared)

pub shown-requires-in_default : goal.shown-requires-in_default
shown-requires-in_default c =
    let k = c.requires.1.1 in
    let up = subst (λ (n : ℕ). c.requires.1.0 ≤ n) (sym c.value-payload.ensures) c.requires.1.2 in
    (c.value-payload.result, c.args.self.now.least, k.0, c.raise.ensures c.requires.1.0 c.args.self.now.least k.0 k.2 up)

pub returns-in_default-clause-shown : goal.returns-in_default-clause-shown
returns-in_default-clause-shown c =
    let k = c.requires.1.1 in
    let up = subst (λ (n : ℕ). c.requires.1.0 ≤ n) (sym c.value-payload.ensures) c.requires.1.2 in
    let raised = c.raise.ensures c.requires.1.0 c.args.self.now.least k.0 k.2 up in
    let pen = subst (λ (n : ℕ). IsPenOf c.args.gauge.now c.shown-in_default.new.pen n c.args.self.now.least k.0) c.value-payload.ensures
    (c.shown-in_default.ensures.pen c.value-payload.result c.args.self.now.least k.0 raised) in
    let above : IsAbove c.args.self.now.least c.args.self.now.timeline.payload =
    elim c.in_default.branch [
      | in_default-via-in-Some+else-least-payload w ↦
          subst (λ (o : Option ℕ). IsAbove o c.args.self.now.timeline.payload) (sym w.in-Some.is)
          (subst (λ (n : ℕ). n < w.in-Some.least) c.value-payload.ensures w.if-least-payload.false)
      | in_default-via-in_default w ↦
          subst (λ (o : Option ℕ). IsAbove o c.args.self.now.timeline.payload) (sym w.in_default.is) tt
    ] in
    (c.requires.0, (k.0, k.1, pen, k.3, k.4), above)

pub returns-in_default-clause-reached : goal.returns-in_default-clause-reached
returns-in_default-clause-reached c =
    let k = c.requires.1.1 in
    let up = subst (λ (n : ℕ). c.requires.1.0 ≤ n) (sym c.value-payload.ensures) c.requires.1.2 in
    let raised = c.raise.ensures c.requires.1.0 c.args.self.now.least k.0 k.2 up in
    subst (λ (n : ℕ). Shows c.args.gauge.now c.shown-in_default.result n) c.value-payload.ensures
    (c.shown-in_default.ensures.shows c.value-payload.result c.args.self.now.least k.0 raised)
