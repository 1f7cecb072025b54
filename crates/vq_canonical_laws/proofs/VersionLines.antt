-- The line that names the version is read, where it is the first.
use Rattle.std.proofs.Common.{◌≡◌, ℕ, true, false, List, [], ◌∷◌, ◌++◌, map, refl, sym, ap, ◌∙◌, subst, inl, inr}
use Rattle.std.specs.Prelude.{codes, Result}
use Rattle.std.specs.List.{list_all, list_any, join_with_byte}
use Rattle.vq_model.specs.declared.statement.FaultKind.{FaultKind}
use Rattle.vq_model.specs.declared.statement.Form.{Form}
use Rattle.vq_model.specs.declared.statement.Line.{Line}
use Rattle.vq_model.specs.declared.statement.LineForm.TheVariants.{VersionLine}
use Rattle.vq_model.specs.declared.statement.Statement.{Statement}
use Rattle.vq_model.specs.declared.statement.Statement.TheVariants.{HasVersion}
use Rattle.vq_model.specs.Canonical.{version_words}
use Rattle.vq_model.specs.Reading.{with_line, read_statement, read_lines, go_on}
use Rattle.vq_canonical_laws.specs.CanonicalStatements.{numbered, version_statements}
use Rattle.vq_canonical_laws.proofs.LineTests.{PassesTests, read_tested}
use Rattle.vq_canonical_laws.proofs.LineWords.{ReadsAs}
use Rattle.vq_canonical_laws.proofs.PartsSaid.{say_nothing, say_version}
use Rattle.vq_canonical_laws.proofs.ScheduleTold.{begins_schedule}
use Rattle.vq_canonical_laws.proofs.ScriptParts.{Say, no_parts, IsVersion}
use Rattle.vq_canonical_laws.proofs.WrittenTexts.{are_text_words, words_back}

-- the words of the line of version 2
abbrev second_words : List (List ℕ)
second_words = codes "version" ∷ codes "2" ∷ []

-- this line is read as such where it is the first
second_reads : (form : Form) → ReadsAs form [] second_words (HasVersion 2)
second_reads form =
    let tests : PassesTests form [] second_words VersionLine (HasVersion 2) =
    record {
      found = refl;
      plain = refl;
      shaped = refl;
      in_order = refl;
      numeric = refl;
      known = refl;
      fresh = refl;
      said = refl;
      ranged = refl;
      apart = refl;
      limited = refl;
    } in
    record {
      are_words = refl;
      reads =
          λ n. read_tested form [] n (codes "version") (codes "2" ∷ []) VersionLine (HasVersion 2)
          tests;
    }

-- The lines that name a version are read before others, and say no parts of this version.
pub record ReadsVersion (form : Form) (v : ℕ) (rest : List (List ℕ)) : Type 0 where
  pub are_words : list_all are_text_words (version_words v) ≡ true
  pub silent : list_any begins_schedule (version_words v) ≡ false
  pub lines : List Line
  pub next : ℕ
  pub reads : read_lines form [] 1 (map (join_with_byte 32) (version_words v) ++ rest)
      ≡ read_lines form lines next rest
  pub say : Say lines (no_parts v)
  pub are_numbered : (statements : List Statement) →
      lines ++ numbered next statements ≡ numbered 1 (version_statements v ++ statements)

pub version_read : (form : Form) (v : ℕ) (rest : List (List ℕ)) → IsVersion v → ReadsVersion form v rest
version_read form v rest is =
    elim is [
      | inl first ↦ subst (λ (k : ℕ). ReadsVersion form k rest) (sym first) (record {
        are_words = refl;
        silent = refl;
        lines = [];
        next = 1;
        reads = refl;
        say = say_nothing;
        are_numbered = λ statements. refl;
      })
      | inr second ↦ subst (λ (k : ℕ). ReadsVersion form k rest) (sym second) (record {
        are_words = refl;
        silent = refl;
        lines = with_line [] 1 (HasVersion 2);
        next = 2;
        reads =
            ap (λ (r : Result (List Line) FaultKind). go_on 1 (λ ls. read_lines form ls 2 rest) r)
            (ap (read_statement form [] 1) (words_back second_words (second_reads form).are_words)
            ∙ (second_reads form).reads 1);
        say = say_version 1;
        are_numbered = λ statements. refl;
      })
    ]

-- five lists of lines after those that name a version
pub after_version : (v : ℕ) → IsVersion v → (b s q j back : List (List (List ℕ))) →
    version_words v ++ b ++ s ++ q ++ j ++ back ≡ version_words v ++ (b ++ s ++ q ++ j ++ back)
after_version v is b s q j back =
    elim is [ inl first ↦ at 1 first refl | inr second ↦ at 2 second refl ]
  where
    at : (k : ℕ) → v ≡ k →
        version_words k ++ b ++ s ++ q ++ j ++ back ≡ version_words k ++ (b ++ s ++ q ++ j ++ back) →
        version_words v ++ b ++ s ++ q ++ j ++ back ≡ version_words v ++ (b ++ s ++ q ++ j ++ back)
    at k e stand =
        subst (λ (n : ℕ). version_words n ++ b ++ s ++ q ++ j ++ back
        ≡ version_words n ++ (b ++ s ++ q ++ j ++ back)) (sym e) stand
