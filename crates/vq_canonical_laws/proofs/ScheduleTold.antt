-- Whether a canonical text has a schedule can be told from its lines.
use Rattle.std.proofs.Common.{◌≡◌, ℕ, Bool, true, false, ◌||◌, List, [], ◌∷◌, ◌++◌, map, refl, ap, ◌∙◌}
use Rattle.std.specs.Prelude.{codes}
use Rattle.std.specs.List.{list_all, list_any, join_with_byte}
use Rattle.std.specs.Str.{bytes_eq}
use Rattle.std.proofs.lemmas.Bool.{and_parts, or_from}
use Rattle.std.proofs.lemmas.List.Folds.{list_any-append}
use Rattle.vq_model.specs.declared.script.Command.TheVariants.{Fill, Update, Copy}
use Rattle.vq_model.specs.declared.script.SemaphoreKind.TheVariants.{Timeline, Binary, Fence}
use Rattle.vq_model.specs.declared.statement.Statement.{Statement}
use Rattle.vq_model.specs.declared.statement.Statement.TheVariants.{DeclareBuffer, DeclareSemaphore, DeclareQueue, BeginBatch, AddWait, AddCommand, AddSignal, AddFence, EndBatch, TakeHostStep}
use Rattle.vq_model.specs.Text.{words_of}
use Rattle.vq_canonical_laws.proofs.CanonicalBatches.{words_along}
use Rattle.vq_canonical_laws.proofs.CanonicalOrder.{Leads}
use Rattle.vq_canonical_laws.proofs.LineWords.{words_at}
use Rattle.vq_canonical_laws.proofs.ScriptParts.{Parts, May, after}
use Rattle.vq_canonical_laws.proofs.WrittenTexts.{are_text_words, words_back}

-- whether words begin a schedule
abbrev pub begins_schedule : List (List ℕ) → Bool
begins_schedule [] = false
begins_schedule (word ∷ words) = bytes_eq word (codes "schedule")

-- no line before the schedule does
none_begins : (p : Parts) (s : Statement) → May p s → begins_schedule (words_at p s) ≡ false
none_begins p (DeclareBuffer name size) m = refl
none_begins p (DeclareSemaphore name (Timeline value)) m = refl
none_begins p (DeclareSemaphore name Binary) m = refl
none_begins p (DeclareSemaphore name Fence) m = refl
none_begins p (DeclareQueue name mode) m = refl
none_begins p (BeginBatch q) m = refl
none_begins p (AddWait pair from) m = refl
none_begins p (AddCommand (Fill b o n w)) m = refl
none_begins p (AddCommand (Update b o bytes)) m = refl
none_begins p (AddCommand (Copy s from t to n)) m = refl
none_begins p (AddSignal pair) m = refl
none_begins p (AddFence f) m = refl
none_begins p EndBatch m = refl
none_begins p (TakeHostStep step) m = refl
none_begins p s m = absurd m

none_along : (p q : Parts) (statements : List Statement) → Leads p statements q →
    list_any begins_schedule (words_along p statements) ≡ false
none_along p q [] l = refl
none_along p q (s ∷ statements) l =
    or_from (begins_schedule (words_at p s))
    (list_any begins_schedule (words_along (after p s) statements)) (none_begins p s l.0)
    (none_along (after p s) q statements l.1)

-- the words of the lines of words are these words
lines_words : (lines : List (List (List ℕ))) → list_all are_text_words lines ≡ true →
    map words_of (map (join_with_byte 32) lines) ≡ lines
lines_words [] h = refl
lines_words (words ∷ lines) h =
    let parts = and_parts (are_text_words words) (list_all are_text_words lines) h in λ i.
    words_back words parts.0 i ∷ lines_words lines parts.1 i

-- The lines of a version, of statements, and others, have a line that begins a schedule where the others
-- have one.
pub schedule_told : (p q : Parts) (front : List (List (List ℕ))) (statements : List Statement)
    (back : List (List (List ℕ))) → list_any begins_schedule front ≡ false →
    Leads p statements q →
    list_all are_text_words (front ++ (words_along p statements ++ back)) ≡ true →
    list_any begins_schedule
    (map words_of (map (join_with_byte 32) (front ++ (words_along p statements ++ back))))
    ≡ list_any begins_schedule back
schedule_told p q front statements back silent l words =
    ap (list_any begins_schedule) (lines_words (front ++ (words_along p statements ++ back)) words)
    ∙ (list_any-append begins_schedule front (words_along p statements ++ back)
    ∙ (ap (λ (b : Bool). b || list_any begins_schedule (words_along p statements ++ back)) silent
    ∙ (list_any-append begins_schedule (words_along p statements) back
    ∙ ap (λ (b : Bool). b || list_any begins_schedule back) (none_along p q statements l))))
