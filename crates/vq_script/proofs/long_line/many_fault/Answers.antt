use Rattle.std.proofs.Common.{◌≡◌, ℕ, List, Err, false, true, length, refl, sym, ap, ◌∙◌, arith}
use Rattle.std.proofs.lemmas.List.{length-drop}
use Rattle.vq_forms.proofs.Cited.{cut_long}
use Rattle.vq_model.specs.Forms.{Slot}
use Rattle.vq_model.specs.Meaning.{matches, pair_places}
use Rattle.vq_model.specs.Text.{words_in}
use Rattle.vq_reading_laws.proofs.Cited.{found_passes}
use Rattle.vq_forms.specs.Table.{forms_of}
use Rattle.vq_lexer.specs.Words.{texts}
use Rattle.vq_script.specs.declared.fault.ScriptFault.TheVariants.{At}
use Rattle.vq_script.specs.Faults.{first_fault}
use Rattle.vq_script.specs.Holds.{open_so_far, section_of}
use Rattle.vq_script.proofs.FaultsFound.{reads_form, reads_none, reads_unplain}
use Rattle.vq_script.proofs.FormFound.{form_is}
use Rattle.vq_script.proofs.ManyWords.{many_behind, many_pairs, many_unnamed}
use Rattle.vq_script.proofs.long_line.many_fault.Goals as goal

pub returns-then-not-are_plain : goal.returns-then-not-are_plain
returns-then-not-are_plain c = λ lines n h.
    let words = words_in c.args.part.now in
    let long = cut_long (texts c.args.words.now) words c.requires in
    let unplain : c.are_plain.result ≡ false = cc in
    reads_unplain c.args.form lines n words (omega arith) (sym c.are_plain.ensures ∙ unplain)

pub returns-in_default : goal.returns-in_default
returns-in_default c = λ lines n h.
    let words = words_in c.args.part.now in
    let known = c.args.known.now in
    let long = cut_long (texts c.args.words.now) words c.requires in
    let plain : c.are_plain.result ≡ true = cc in
    reads_none c.args.form lines n words
    (forms_of c.args.form known.version (section_of known.scheduled (open_so_far known.batch)))
    (omega arith) (sym c.are_plain.ensures ∙ plain)
    (form_is c.args.form lines words _ _ h.holds (λ none. many_unnamed words long))
    (sym c.in_default.ensures)

pub pairs_fault-requires-clause-pairs : goal.pairs_fault-requires-clause-pairs
pairs_fault-requires-clause-pairs c =
    let words = words_in c.args.part.now in
    let known = c.args.known.now in
    many_pairs words (cut_long (texts c.args.words.now) words c.requires) c.in-Some.found
    (found_passes (matches words)
    (forms_of c.args.form known.version (section_of known.scheduled (open_so_far known.batch)))
    c.in-Some.found (sym c.in-Some.ensures))

pub pairs_fault-requires-clause-many : goal.pairs_fault-requires-clause-many
pairs_fault-requires-clause-many c =
    let words = words_in c.args.part.now in
    let long = cut_long (texts c.args.words.now) words c.requires in
    let behind = ap (λ (ws : List (List ℕ)). length ws) c.behind_head.ensures in
    let left = length-drop 3 words in
    omega (arith, long, behind, left)

pub returns : goal.returns
returns c = λ lines n h.
    let words = words_in c.args.part.now in
    let known = c.args.known.now in
    let forms = forms_of c.args.form known.version (section_of known.scheduled (open_so_far known.batch)) in
    let long = cut_long (texts c.args.words.now) words c.requires in
    let plain : c.are_plain.result ≡ true = cc in
    let found = sym c.in-Some.ensures in
    let pairs = many_pairs words long c.in-Some.found (found_passes (matches words) forms c.in-Some.found found) in
    (reads_form c.args.form lines n words forms c.in-Some.found (Err (At n c.pairs_fault.result)) known
    (omega (arith, long)) (sym c.are_plain.ensures ∙ plain)
    (form_is c.args.form lines words _ _ h.holds (λ none. many_unnamed words long)) found (
      refl,
      ap (λ (ws : List (Slot × List ℕ)). first_fault lines (c.in-Some.found, ws))
          (many_behind words long c.in-Some.found pairs
          ∙ ap (λ (ws : List (List ℕ)). pair_places ws) (sym c.behind_head.ensures))
          ∙ c.pairs_fault.ensures lines h,
    )).1
