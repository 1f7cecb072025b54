use Rattle.std.proofs.Common.{◌<◌, ◌≤◌, sym, ◌∙◌, ap, subst}
use Rattle.vq_live.specs.Live.{Live}
use Rattle.vq_live.specs.Calls.{found}
use Rattle.std.specs.List.Sorted.{IsPartitionPoint}
use Rattle.vq_live.specs.Fields.{live_of}
use Rattle.vq_live.proofs.Finding.{found_none, found_some}
use Rattle.vq_live.proofs.live.LiveTimeline.find.Goals as goal

pub returns-then-place-self : goal.returns-then-place-self
returns-then-place-self c =
    let t = live_of c.self.inside in
    let p = subst (λ (u : Live). IsPartitionPoint (λ x. x.value < c.args.value) (λ x. c.args.value ≤ x.value) u.ops c.place_of-place.result) (sym c.self.view_is) c.place_of-place.ensures.parted in
    found_none t c.args.value c.place_of-place.result c.self.invariant.kept c.if-value-self.false p c.if-place-self.true
    ∙ ap (λ (u : Live). found u c.args.value) c.self.view_is

pub returns : goal.returns
returns c =
    let t = live_of c.self.inside in
    let p = subst (λ (u : Live). IsPartitionPoint (λ x. x.value < c.args.value) (λ x. c.args.value ≤ x.value) u.ops c.place_of-place.result) (sym c.self.view_is) c.place_of-place.ensures.parted in
    found_some t c.args.value c.place_of-place.result c.index.result.now c.self.invariant.kept c.if-value-self.false p c.if-place-self.false c.index.ensures
    ∙ ap (λ (u : Live). found u c.args.value) c.self.view_is
