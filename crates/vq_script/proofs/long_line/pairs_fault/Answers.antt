use Rattle.std.proofs.Common.{◌≡◌, false, true, sym, ap, ◌∙◌}
use Rattle.vq_model.specs.declared.limits.Limits.{Limits}
use Rattle.vq_model.specs.Earlier.{Earlier}
use Rattle.vq_model.specs.Meaning.{pair_places}
use Rattle.vq_model.specs.Text.{words_in}
use Rattle.vq_script.specs.Faults.{fault_by}
use Rattle.vq_script.specs.Holds.{kept, open_so_far}
use Rattle.vq_script.specs.LineTests.{earlier_in}
use Rattle.vq_script.proofs.LineTold.{earlier_by}
use Rattle.vq_script.proofs.ManyPairs.{is_syntax, is_order, is_number, is_name, is_limit}
use Rattle.vq_script.proofs.long_line.pairs_fault.Goals as goal

pub returns-then-not-are_names : goal.returns-then-not-are_names
returns-then-not-are_names c = λ lines h.
    let e = earlier_in (kept c.args.known.now) (open_so_far c.args.known.now.batch) in
    let words = pair_places (words_in c.args.part.now) in
    let s : c.are_names.result ≡ false = cc in
    ap (λ (x : Earlier). fault_by x (c.args.form, words)) (earlier_by lines _ _ h.holds)
    ∙ is_syntax e (c.args.form, words) (sym c.are_names.ensures ∙ s)

pub returns-then-is_late : goal.returns-then-is_late
returns-then-is_late c = λ lines h.
    let e = earlier_in (kept c.args.known.now) (open_so_far c.args.known.now.batch) in
    let words = pair_places (words_in c.args.part.now) in
    let s : c.are_names.result ≡ true = cc in
    let o : c.is_late.result ≡ true = cc in
    ap (λ (x : Earlier). fault_by x (c.args.form, words)) (earlier_by lines _ _ h.holds)
    ∙ is_order e (c.args.form, words) (sym c.are_names.ensures ∙ s) (sym c.is_late.ensures ∙ o)

pub returns-then-not-are_numerals : goal.returns-then-not-are_numerals
returns-then-not-are_numerals c = λ lines h.
    let e = earlier_in (kept c.args.known.now) (open_so_far c.args.known.now.batch) in
    let words = pair_places (words_in c.args.part.now) in
    let s : c.are_names.result ≡ true = cc in
    let o : c.is_late.result ≡ false = cc in
    let n : c.are_numerals.result ≡ false = cc in
    ap (λ (x : Earlier). fault_by x (c.args.form, words)) (earlier_by lines _ _ h.holds)
    ∙ is_number e (c.args.form, words) (sym c.are_names.ensures ∙ s) (sym c.is_late.ensures ∙ o)
    (sym c.are_numerals.ensures ∙ n)

pub returns-then-not-are_timelines : goal.returns-then-not-are_timelines
returns-then-not-are_timelines c = λ lines h.
    let e = earlier_in (kept c.args.known.now) (open_so_far c.args.known.now.batch) in
    let words = pair_places (words_in c.args.part.now) in
    let s : c.are_names.result ≡ true = cc in
    let o : c.is_late.result ≡ false = cc in
    let n : c.are_numerals.result ≡ true = cc in
    let k : c.are_timelines.result ≡ false = cc in
    ap (λ (x : Earlier). fault_by x (c.args.form, words)) (earlier_by lines _ _ h.holds)
    ∙ is_name e (c.args.form, words) (sym c.are_names.ensures ∙ s) (sym c.is_late.ensures ∙ o)
    (sym c.are_numerals.ensures ∙ n) (sym c.are_timelines.ensures ∙ k)

pub returns : goal.returns
returns c = λ lines h.
    let e = earlier_in (kept c.args.known.now) (open_so_far c.args.known.now.batch) in
    let words = words_in c.args.part.now in
    let s : c.are_names.result ≡ true = cc in
    let o : c.is_late.result ≡ false = cc in
    let n : c.are_numerals.result ≡ true = cc in
    let k : c.are_timelines.result ≡ true = cc in
    ap (λ (x : Earlier). fault_by x (c.args.form, pair_places words)) (earlier_by lines _ _ h.holds)
    ∙ is_limit e words (ap (λ (m : Limits). m.pairs) h.holds.declares.limits) c.requires.many
    (sym c.are_numerals.ensures ∙ n) (sym c.are_timelines.ensures ∙ k) c.args.form c.requires.pairs
    (sym c.are_names.ensures ∙ s) (sym c.is_late.ensures ∙ o)
