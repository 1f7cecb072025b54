use Rattle.std.proofs.Common.{◌≡◌, ◌&&◌, Option, ℕ, true, false, List, [], ◌∷◌, ap, find, refl, sym, subst, ◌∙◌}
use Rattle.std.proofs.lemmas.Bool.{and_parts}
use Rattle.vq_lexer.proofs.Cited.{some_texts}
use Rattle.vq_model.specs.declared.statement.Line.{Line}
use Rattle.vq_model.specs.declared.statement.LineForm.TheVariants.{VersionLine}
use Rattle.vq_model.specs.Meaning.{matches}
use Rattle.vq_script.specs.declared.known.Known.{Known}
use Rattle.vq_model.specs.declared.statement.Statement.TheVariants.{HasVersion}
use Rattle.vq_model.specs.declared.script.Batch.{Batch}
use Rattle.vq_model.specs.Reading.{read_statement}
use Rattle.vq_script.specs.Holds.{Holds, Keeps, Kept, are_none, open_so_far}
use Rattle.vq_script.proofs.LineMore.{numbered}
use Rattle.vq_forms.specs.Table.{forms_of}
use Rattle.vq_lexer.specs.Words.{texts}
use Rattle.vq_script.proofs.FaultsFound.{reads_none, reads_form}
use Rattle.vq_script.proofs.FormFound.{form_is, form_stands, words_fit}
use Rattle.vq_script.proofs.VersionNamed.{holds_version, none_before, not_version, reads_version}
use Rattle.vq_script.proofs.line_reader.read_words.Goals as goal

-- a line whose words don't name the version, or that isn't the first
unnamed : (lines : List Line) (known : Known) (words : List (List ℕ)) → Keeps lines known →
    (known.first && matches words VersionLine) ≡ false → are_none lines ≡ true →
    matches words VersionLine ≡ false
unnamed lines known words h not none =
    not_version known.first (matches words VersionLine) not (sym h.first ∙ none)

pub returns-then-names_version : goal.returns-then-names_version
returns-then-names_version c = λ lines h.
    let words = texts c.args.words.now in
    let both = and_parts c.args.known.now.first (matches words VersionLine) (sym c.if-names_version.ensures) in
    let none = none_before lines (h.first ∙ both.0) in (
      numbered c.args.number (HasVersion 2) ∷ [],
      ap (λ (ls : List Line). read_statement c.args.form ls c.args.number words) none
          ∙ reads_version c.args.form c.args.number words both.1,
      record {
        holds = subst (λ (now : Kept × Option Batch). Holds (numbered c.args.number (HasVersion 2) ∷ []) now.0 now.1)
            (λ i. (sym c.new.ensures.kept i, open_so_far (sym c.new.ensures.open i)))
            (holds_version c.args.number);
        first = sym c.new.ensures.first;
      },
    )

pub returns-in_default : goal.returns-in_default
returns-in_default c = λ lines h. (
  refl,
  reads_none c.args.form lines c.args.number (texts c.args.words.now) _
      (some_texts c.args.words.now (sym c.if-is_empty.ensures)) (sym c.requires ∙ c.if-not-plain.false)
      (form_is c.args.form lines (texts c.args.words.now) _ _ h.holds
      (unnamed lines c.args.known.now (texts c.args.words.now) h (sym c.if-names_version.ensures)))
      (sym (c.in_default.ensures
      ∙ ap (λ s. find (matches (texts c.args.words.now)) (forms_of c.args.form c.args.known.now.version s))
      c.section.ensures)),
)

pub read_open-requires-clause-fits : goal.read_open-requires-clause-fits
read_open-requires-clause-fits c =
    words_fit c.args.words.now (forms_of c.args.form c.args.known.now.version c.section.result) c.in-Some.found
    (sym c.in-Some.ensures)

pub read_open-requires-clause-stands : goal.read_open-requires-clause-stands
read_open-requires-clause-stands c =
    form_stands c.args.form c.args.known.now.version (texts c.args.words.now)
    c.args.known.now.scheduled (open_so_far c.args.known.now.batch) c.in-Some.found
    (sym (c.in-Some.ensures
    ∙ ap (λ s. find (matches (texts c.args.words.now)) (forms_of c.args.form c.args.known.now.version s))
    c.section.ensures))

pub returns : goal.returns
returns c = λ lines h.
    reads_form c.args.form lines c.args.number (texts c.args.words.now) _ c.in-Some.found
    c.read_open.result c.read_open.new.known
    (some_texts c.args.words.now (sym c.if-is_empty.ensures)) (sym c.requires ∙ c.if-not-plain.false)
    (form_is c.args.form lines (texts c.args.words.now) _ _ h.holds
    (unnamed lines c.args.known.now (texts c.args.words.now) h (sym c.if-names_version.ensures)))
    (sym (c.in-Some.ensures
    ∙ ap (λ s. find (matches (texts c.args.words.now)) (forms_of c.args.form c.args.known.now.version s))
    c.section.ensures))
    (c.read_open.ensures lines h)
