use Rattle.std.proofs.Common.{◌≡◌, Bool, List, ℕ, cond, not, is_some, Some, None, Option, refl, sym, ap, ◌∙◌}
use Rattle.std.specs.List.{list_all}
use Rattle.vq_model.specs.declared.statement.FaultKind.{FaultKind}
use Rattle.vq_model.specs.declared.statement.FaultKind.TheVariants.{Syntax, Order}
use Rattle.vq_model.specs.declared.statement.LineForm.{LineForm}
use Rattle.vq_model.specs.declared.statement.Statement.{Statement}
use Rattle.vq_model.specs.Forms.{Slot}
use Rattle.vq_model.specs.LineFaults.{is_out_of_order, is_shaped}
use Rattle.vq_script.specs.Holds.{kept, open_so_far}
use Rattle.vq_forms.specs.OpenWords.{opens}
use Rattle.vq_script.specs.SaidLines.{statement_in}
use Rattle.vq_script.proofs.LineTold.{earlier_by, words_by, unread_first, read_first, read_numeric, said_read, passed, passed_later, may_keep}
use Rattle.vq_model.specs.Earlier.{Earlier}
use Rattle.vq_script.specs.Faults.{fault_by, said_at}
use Rattle.vq_script.specs.LineTests.{earlier_in, word_fault}
use Rattle.vq_script.proofs.line_faults.said_by.Goals as goal

-- the kinds of words' faults, by whether all have their shapes
word_fault_is : (e : Earlier) (form : LineForm) (words : List (Slot × List ℕ)) (shaped : Bool)
    (o : Option FaultKind) → shaped ≡ list_all is_shaped words →
    o ≡ cond (not shaped) (Some Syntax) (cond (is_out_of_order e form) (Some Order) None) →
    word_fault e form words ≡ o
word_fault_is e form words shaped o s is =
    ap (λ (b : Bool). cond (not b) (Some Syntax) (cond (is_out_of_order e form) (Some Order) None)) (sym s) ∙ sym is

pub returns-in_default-clause-told : goal.returns-in_default-clause-told
returns-in_default-clause-told c = λ lines h.
    ap (λ (x : Earlier). fault_by x (c.args.form, opens c.args.form c.args.words.now)) (earlier_by lines _ _ h.holds)
    ∙ unread_first (kept c.args.known.now) (open_so_far c.args.known.now.batch) c.args.form
    (opens c.args.form c.args.words.now) c.requires.fits.found c.in_default.ensures.says
    ∙ sym c.unread_fault.ensures

pub are_read_shaped-shaped-requires-clause-read : goal.are_read_shaped-shaped-requires-clause-read
are_read_shaped-shaped-requires-clause-read c =
    ap (λ (o : Option Statement). is_some o) (sym c.in-Some.ensures.says)

pub returns-in-Some-word_fault-clause-told : goal.returns-in-Some-word_fault-clause-told
returns-in-Some-word_fault-clause-told c = λ lines h.
    let e = earlier_in (kept c.args.known.now) (open_so_far c.args.known.now.batch) in
    let words = opens c.args.form c.args.words.now in
    ap (λ (x : Earlier). fault_by x (c.args.form, words)) (earlier_by lines _ _ h.holds)
    ∙ words_by e c.args.form words (Some c.in-Some-word_fault.kind)
    (word_fault_is e c.args.form words _ _ c.are_read_shaped-shaped.ensures c.in-Some-word_fault.ensures)

pub returns-in-Some-said_fault-clause-told : goal.returns-in-Some-said_fault-clause-told
returns-in-Some-said_fault-clause-told c = λ lines h.
    let k = kept c.args.known.now in
    let batch = open_so_far c.args.known.now.batch in
    let words = opens c.args.form c.args.words.now in
    ap (λ (x : Earlier). fault_by x (c.args.form, words)) (earlier_by lines _ _ h.holds)
    ∙ read_first k batch c.args.form words c.requires.fits.found
    (word_fault_is (earlier_in k batch) c.args.form words _ _ c.are_read_shaped-shaped.ensures c.in_default-word_fault.ensures)
    (statement_in k c.in-Some.said) c.in-Some.ensures.says
    ∙ sym c.in-Some-said_fault.ensures.exact

pub returns-clause-told : goal.returns-clause-told
returns-clause-told c = λ lines h.
    let k = kept c.args.known.now in
    let batch = open_so_far c.args.known.now.batch in
    let words = opens c.args.form c.args.words.now in
    let s = statement_in k c.in-Some.said in (
      ap (λ (x : Earlier). fault_by x (c.args.form, words)) (earlier_by lines _ _ h.holds)
          ∙ read_first k batch c.args.form words c.requires.fits.found
          (word_fault_is (earlier_in k batch) c.args.form words _ _ c.are_read_shaped-shaped.ensures c.in_default-word_fault.ensures)
          s c.in-Some.ensures.says
          ∙ sym c.in_default-said_fault.ensures.exact,
      ap (λ (x : Earlier). said_at x (c.args.form, words)) (earlier_by lines _ _ h.holds)
          ∙ said_read k c.args.form _ s c.in-Some.ensures.says,
    )

pub returns-clause-may : goal.returns-clause-may
returns-clause-may c =
    let k = kept c.args.known.now in
    let batch = open_so_far c.args.known.now.batch in
    let words = opens c.args.form c.args.words.now in
    let said = c.in-Some.said in
    let p = passed k batch c.args.form words
    (word_fault_is (earlier_in k batch) c.args.form words _ _ c.are_read_shaped-shaped.ensures c.in_default-word_fault.ensures) in
    let found = c.requires.fits.found in
    record {
      keep = may_keep k c.args.form words found batch said c.requires.stands
          c.in-Some.ensures.suits c.in-Some.ensures.read p
          (passed_later k batch words (statement_in k said)
          (read_numeric k c.args.form words (statement_in k said) found
          c.in-Some.ensures.says) (sym c.in_default-said_fault.ensures.exact));
      small = c.in_default-said_fault.ensures.small refl;
    }
