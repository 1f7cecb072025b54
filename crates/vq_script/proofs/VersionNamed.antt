-- The line that names the version, and what is kept of no line and of that one.
use Rattle.std.proofs.Common.{◌≡◌, ℕ, Bool, true, false, ◌&&◌, List, [], ◌∷◌, None, Ok, refl, sym, subst, ◌∙◌, arith}
use Rattle.std.specs.Prelude.{codes}
use Rattle.std.specs.Str.{bytes_eq}
use Rattle.std.proofs.lemmas.Bool.{and_parts, le-ltb}
use Rattle.std.proofs.lemmas.Slice.Eq.{bytes_eq-Decides}
use Rattle.vq_model.specs.declared.statement.Form.{Form}
use Rattle.vq_model.specs.declared.statement.LineForm.TheVariants.{VersionLine}
use Rattle.vq_model.specs.declared.statement.Line.{Line}
use Rattle.vq_model.specs.declared.statement.Statement.{Statement}
use Rattle.vq_model.specs.declared.statement.Statement.TheVariants.{HasVersion}
use Rattle.vq_model.specs.Meaning.{matches}
use Rattle.vq_model.specs.Reading.{read_statement, with_line}
use Rattle.vq_ground.proofs.Bools.{or_false}
use Rattle.vq_script.specs.Holds.{Holds, are_none, nothing}
use Rattle.vq_script.proofs.BatchMore.{fill_nothing}
use Rattle.vq_script.proofs.LineMore.{numbered}

-- no lines
pub holds_nothing : Holds [] (nothing 1) None
holds_nothing =
    record {
      part = refl;
      unscheduled = λ is. absurd (cc);
      declares = record {
        version = refl;
        limits = refl;
        all_buffers = refl;
        all_bytes = refl;
        all_semaphores = refl;
        all_queues = refl;
        schedule = refl;
        all_turns = refl;
        turn_count = refl;
      };
      all_jobs = refl;
      all_commands = refl;
      inside = fill_nothing;
      jobs = λ rest. refl;
    }

-- the version alone
pub holds_version : (n : ℕ) → Holds (numbered n (HasVersion 2) ∷ []) (nothing 2) None
holds_version n =
    record {
      part = refl;
      unscheduled = λ is. absurd (cc);
      declares = record {
        version = refl;
        limits = refl;
        all_buffers = refl;
        all_bytes = refl;
        all_semaphores = refl;
        all_queues = refl;
        schedule = refl;
        all_turns = refl;
        turn_count = refl;
      };
      all_jobs = refl;
      all_commands = refl;
      inside = record {
        all_waits = refl;
        all_commands = refl;
        all_signals = refl;
        fences = refl;
        in_order = λ m. or_false _;
        held = λ m. or_false _ ∙ le-ltb m 0 (omega arith);
      };
      jobs = λ rest. refl;
    }

-- its words are read so, where no line stands before them
pub reads_version : (form : Form) (n : ℕ) (words : List (List ℕ)) → matches words VersionLine ≡ true →
    read_statement form [] n words ≡ Ok (numbered n (HasVersion 2) ∷ [])
reads_version form n [] m = absurd (cc)
reads_version form n (a ∷ []) m = absurd (cc)
reads_version form n (a ∷ b ∷ c ∷ words) m = absurd (cc)
reads_version form n (a ∷ b ∷ []) m =
    let parts = and_parts (bytes_eq a (codes "version")) (bytes_eq b (codes "2") && true) m in
    let first = (bytes_eq-Decides a (codes "version")).0 parts.0 in
    let second = (bytes_eq-Decides b (codes "2")).0 (and_parts (bytes_eq b (codes "2")) true parts.1).0 in
    subst (λ (x : List ℕ × List ℕ). read_statement form [] n (x.0 ∷ x.1 ∷ [])
    ≡ Ok (numbered n (HasVersion 2) ∷ [])) (λ i. (sym first i, sym second i)) refl

-- no lines stand before a line that is the first
pub none_before : (lines : List Line) → are_none lines ≡ true → lines ≡ []
none_before [] e = refl
none_before (line ∷ lines) e = absurd (cc)

-- with a line more there are some
pub some_lines : (lines : List Line) (n : ℕ) (s : Statement) → are_none (with_line lines n s) ≡ false
some_lines [] n s = refl
some_lines (line ∷ lines) n s = refl

-- a line that isn't the first, or isn't of these words, names no version
pub not_version : (first version : Bool) → (first && version) ≡ false → first ≡ true → version ≡ false
not_version true version h e = h
not_version false version h e = absurd (cc)
