use Rattle.std.proofs.Common.{◌∙◌, ap, rules, List}
use Rattle.std.proofs.lemmas.Result.{on_ok_weaker}
use Rattle.vq_capture_touched.specs.declared.kind.Kind.{Kind}
use Rattle.vq_capture_touched.specs.declared.touch.Touch.{Touch}
use Rattle.vq_capture_touched.specs.Kinds.{is_listed, same_kind}
use Rattle.vq_capture_touched.proofs.IndexLists.{listed_last, listed_set, listed_there}
use Rattle.vq_capture_touched.proofs.SameKinds.{kind_itself}
use Rattle.vq_capture_touched.proofs.index.list.Goals as goal

pub list-requires : goal.list-requires
list-requires c =
    c.kind_for-place.ensures c.index_mut.result.now (search rules) (search rules)

pub returns-then-place-len-clause-listed : goal.returns-then-place-len-clause-listed
returns-then-place-len-clause-listed c =
    on_ok_weaker c.list.result (λ e. listed_there c.args.stamp c.args.touch.now c.args.kinds.now.items c.kind_for-place.result c.list.new.self (search rules) e) c.list.ensures.listed

pub returns-then-place-len-clause-kept : goal.returns-then-place-len-clause-kept
returns-then-place-len-clause-kept c = λ s t e.
    listed_set s t c.args.kinds.now.items c.kind_for-place.result c.index_mut.result.now c.list.new.self (search rules) c.index_mut.ensures.value
    (c.list.ensures.kept s t) e

pub list-requires-2 : goal.list-requires-2
list-requires-2 c =
    ap (λ (k : Touch). same_kind k c.args.touch.now) c.new-kind.ensures.latest ∙ kind_itself c.args.touch.now

pub returns-clause-listed : goal.returns-clause-listed
returns-clause-listed c =
    ap (λ (ks : List Kind). is_listed ks c.args.stamp c.args.touch.now) c.in_ok-push.ensures.items
    ∙ listed_last c.args.stamp c.args.touch.now c.args.kinds.now.items c.list-2.new.self c.in_ok-list.ensures.listed
