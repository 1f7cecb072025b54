use Rattle.std.proofs.Common.{◌∙◌, rules, ℕ, List, ap, subst}
use Rattle.std.proofs.lemmas.Fn.{filter_same}
use Rattle.vq_capture_touched.specs.declared.kind.Kind.{Kind}
use Rattle.vq_capture_touched.specs.Kinds.{is_listed}
use Rattle.vq_capture_touched.specs.Forgetting.{AreCovered, Forgets}
use Rattle.vq_capture_touched.proofs.IndexLists.{forgotten, has_some, listed_left}
use Rattle.vq_capture_touched.proofs.index.TouchIndex.forget.Goals as goal

pub invariant_of-self : goal.invariant_of-self
invariant_of-self c =
    let left = filter_same _ has_some _ (λ x b f k. search rules) _ _ c.retain.ensures.filtered in
    record {
      listed = λ s t g.
          ap (λ (ks : List Kind). is_listed ks s t) left ∙ listed_left s t c.forget_some.new.self.kinds.items (c.forget_some.new.self.listed s t g);
      below = c.forget_some.new.self.below;
    }

pub returns : goal.returns
returns c =
    let stamps = subst (λ (xs : List ℕ). Forgets c.args.w.now c.args.self.now.touches c.forget_some.new.self.touches xs) c.deref-2.ensures.value c.forget_some.ensures in
    forgotten c.args.w.now c.args.self.now.touches c.forget_some.new.self.touches c.args.self.now.kinds.items c.in_ok-stamps.stamps.items
    c.len-count.ensures.ordered c.args.self.now.listed
    (subst (λ (ks : List Kind). AreCovered c.args.w.now ks c.in_ok-stamps.stamps.items) c.deref.ensures.value c.in_ok-stamps.ensures)
    stamps
