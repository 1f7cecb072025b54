use Rattle.std.proofs.Common.{◌≡◌, ◌∙◌, List, None, ap, map, sym, rules}
use Rattle.vq_capture_touched.specs.declared.touch.Touch.{Touch}
use Rattle.vq_capture_touched.specs.Indexed.{touches_of}
use Rattle.vq_capture_check.specs.Watching.{last_loose}
use Rattle.vq_capture_check.specs.Watches.{clocking_of}
use Rattle.vq_capture_check.proofs.LooseFound.{in_index, in_newest, in_recent}
use Rattle.vq_capture_check.proofs.loose.last_in.Goals as goal

pub returns-in-Some : goal.returns-in-Some
returns-in-Some c =
    in_newest c.args.cut (map clocking_of c.args.points.now) c.args.b.now (touches_of c.args.thing.now.index) c.args.thing.now.recent.items
    c.args.thing.now.newest.items c.in-Some.line
    (sym c.in-Some.is ∙ (c.last_newest.ensures
    ∙ ap (λ (xs : List Touch). last_loose c.args.cut (map clocking_of c.args.points.now) c.args.b.now xs) c.deref.ensures.value))

pub returns-in-Some-last_loose : goal.returns-in-Some-last_loose
returns-in-Some-last_loose c =
    let none : None ≡ c.last_newest.result = search rules in
    in_recent c.args.cut (map clocking_of c.args.points.now) c.args.b.now (touches_of c.args.thing.now.index) c.args.thing.now.recent.items
    c.args.thing.now.newest.items c.in-Some-last_loose.line
    (none ∙ (c.last_newest.ensures
    ∙ ap (λ (xs : List Touch). last_loose c.args.cut (map clocking_of c.args.points.now) c.args.b.now xs) c.deref.ensures.value))
    (sym c.in-Some-last_loose.is ∙ (c.last_loose.ensures
    ∙ ap (λ (xs : List Touch). last_loose c.args.cut (map clocking_of c.args.points.now) c.args.b.now xs) c.deref-2.ensures.value))

pub returns : goal.returns
returns c =
    let none : None ≡ c.last_newest.result = search rules in
    let none_recent : None ≡ c.last_loose.result = search rules in
    in_index c.args.cut (map clocking_of c.args.points.now) c.args.b.now (touches_of c.args.thing.now.index) c.args.thing.now.recent.items
    c.args.thing.now.newest.items c.in_ok-found.found
    (none ∙ (c.last_newest.ensures
    ∙ ap (λ (xs : List Touch). last_loose c.args.cut (map clocking_of c.args.points.now) c.args.b.now xs) c.deref.ensures.value))
    (none_recent ∙ (c.last_loose.ensures
    ∙ ap (λ (xs : List Touch). last_loose c.args.cut (map clocking_of c.args.points.now) c.args.b.now xs) c.deref-2.ensures.value))
    c.in_ok-found.ensures
