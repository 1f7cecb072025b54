use Rattle.std.proofs.Common.{◌∙◌, sym, arith}
use Rattle.vq_order.proofs.BusyLaws.{after_naming, after_none, after_reset, named_exists, reset_exists, script_job}
use Rattle.vq_order.proofs.busy.note_use.Goals as goal

pub bounds-named-fence : goal.bounds-named-fence
bounds-named-fence c =
    let s = c.args.script.now in
    let at = script_job s c.as_slice.result.now c.as_slice.ensures c.args.j c.requires.exists c.index-as_slice-j.result c.index-as_slice-j.is in
    let l = named_exists s c.requires.read c.args.j c.index-as_slice-j.result at c.in-Some.fence (sym c.named_by.ensures ∙ c.in-Some.is) in
    let n = c.requires.kept.count in
    omega arith

pub bounds-named-fence-in-Some-reset_by : goal.bounds-named-fence-in-Some-reset_by
bounds-named-fence-in-Some-reset_by c =
    let s = c.args.script.now in
    let at = script_job s c.as_slice.result.now c.as_slice.ensures c.args.j c.requires.exists c.index-as_slice-j.result c.index-as_slice-j.is in
    let l = reset_exists s c.requires.read c.args.j c.index-as_slice-j.result at c.in-Some-reset_by.fence (sym c.reset_by.ensures ∙ c.in-Some-reset_by.is) in
    let n = c.requires.kept.count in
    omega arith

pub returns-in-Some : goal.returns-in-Some
returns-in-Some c =
    let s = c.args.script.now in
    let at = script_job s c.as_slice.result.now c.as_slice.ensures c.args.j c.requires.exists c.index-as_slice-j.result c.index-as_slice-j.is in
    let e = sym c.named_by.ensures ∙ c.in-Some.is in
    let l = named_exists s c.requires.read c.args.j c.index-as_slice-j.result at c.in-Some.fence e in
    after_naming s c.args.j c.index-as_slice-j.result at c.args.named.now c.requires.kept c.in-Some.fence l e

pub returns-in-Some-reset_by : goal.returns-in-Some-reset_by
returns-in-Some-reset_by c =
    let s = c.args.script.now in
    let at = script_job s c.as_slice.result.now c.as_slice.ensures c.args.j c.requires.exists c.index-as_slice-j.result c.index-as_slice-j.is in
    let e = sym c.reset_by.ensures ∙ c.in-Some-reset_by.is in
    let l = reset_exists s c.requires.read c.args.j c.index-as_slice-j.result at c.in-Some-reset_by.fence e in
    after_reset s c.args.j c.index-as_slice-j.result at c.args.named.now c.requires.kept c.in-Some-reset_by.fence l e

pub returns-in_default-reset_by : goal.returns-in_default-reset_by
returns-in_default-reset_by c =
    let s = c.args.script.now in
    let at = script_job s c.as_slice.result.now c.as_slice.ensures c.args.j c.requires.exists c.index-as_slice-j.result c.index-as_slice-j.is in
    after_none s c.args.j c.index-as_slice-j.result at c.args.named.now c.requires.kept (sym c.named_by.ensures ∙ c.in_default.is) (sym c.reset_by.ensures ∙ c.in_default-reset_by.is)
