use Rattle.std.proofs.Common.{◌≡◌, ℕ, sym, ◌∙◌, ap, arith}
use Rattle.vq_live.specs.Live.{Live, slot_at}
use Rattle.vq_layer.specs.Layer.{Layer, live_at}
use Rattle.vq_layer.specs.Calls.{host_refs}
use Rattle.vq_layer.specs.LayerFields.{layer_of}
use Rattle.vq_layer.proofs.Left.{host_exists, none_host}
use Rattle.vq_layer.proofs.Lookups.{read_live}
use Rattle.vq_layer.proofs.layer.LiveLayer.unref.Goals as goal

pub index_mut-requires : goal.index_mut-requires
index_mut-requires c =
    let l = layer_of c.self.inside in
    let told : c.host_refs.result ≡ host_refs l c.args.timeline c.point.result =
    c.host_refs.ensures ∙ ap (λ (x : Layer). host_refs x c.args.timeline c.point.result) (sym c.self.view_is) in
    let exists = host_exists l c.args.timeline c.point.result (λ e. c.if-host_refs-eq0.false (told ∙ e)) in
    let size = c.self.inside.timelines.ok.0 in
    omega arith

pub returns-clause-refused : goal.returns-clause-refused
returns-clause-refused c =
    let l = layer_of c.self.inside in
    let told : c.host_refs.result ≡ host_refs l c.args.timeline c.point.result =
    c.host_refs.ensures ∙ ap (λ (x : Layer). host_refs x c.args.timeline c.point.result) (sym c.self.view_is) in
    let exists = host_exists l c.args.timeline c.point.result (λ e. c.if-host_refs-eq0.false (told ∙ e)) in
    let same : live_at l.timelines c.args.timeline ≡ c.index_mut.result.now = read_live l.timelines c.args.timeline c.index_mut.result.now exists c.index_mut.ensures.value in
    let here : c.host_refs.result ≡ host_refs c.args.self.now c.args.timeline c.args.held.point =
    c.host_refs.ensures ∙ ap (λ (p : ℕ). host_refs c.args.self.now c.args.timeline p) c.point.ensures in (
      λ err.
          let none = c.unref.ensures.refused.0 err in
          let refs : (slot_at (live_at l.timelines c.args.timeline).slots c.point.result).refs ≡ 0 =
          ap (λ (t : Live). (slot_at t.slots c.point.result).refs) same ∙ ap (λ (p : ℕ). (slot_at c.index_mut.result.now.slots p).refs) c.point.ensures ∙ none in
          absurd (c.if-host_refs-eq0.false (told ∙ none_host l c.args.timeline c.point.result refs)),
      λ e. absurd (c.if-host_refs-eq0.false (here ∙ e)),
    )
