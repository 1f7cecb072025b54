-- A line of the rest: its fault, or what is kept with it.
use Rattle.std.proofs.Common.{◌≡◌, ◌≤◌, ◌<◌, ℕ, Bool, true, false, ◌&&◌, cond, List, [], ◌∷◌, ◌++◌, length, map, Option, Some, None, Ok, Err, refl, sym, ap, ◌∙◌, arith}
use Rattle.vq_model.specs.declared.statement.FaultKind.{FaultKind}
use Rattle.vq_model.specs.declared.statement.FaultKind.TheVariants.{Order, Limit}
use Rattle.vq_model.specs.declared.statement.Form.TheVariants.{Plain}
use Rattle.vq_model.specs.declared.statement.Line.{Line}
use Rattle.vq_model.specs.declared.statement.LineForm.TheVariants.{VersionLine}
use Rattle.vq_model.specs.Context.{count, has_begun, is_job}
use Rattle.vq_model.specs.LineFaults.{fault_of}
use Rattle.vq_model.specs.Meaning.{matches}
use Rattle.vq_model.specs.Reading.{read_statement, with_line}
use Rattle.vq_script.specs.Holds.{are_none}
use Rattle.vq_blocks.specs.Blocks.{Told, is_of_block, told_with}
use Rattle.vq_blocks.specs.BlockFaults.{declares_late, hosts_fault, most_rest_jobs, passes_jobs}
use Rattle.vq_blocks.specs.BlockReading.{read_hosts_words, unless_faulty}
use Rattle.vq_blocks.specs.Compiled.{job_lines_in, version_line}
use Rattle.vq_hosts.specs.BlockTests.{late_kind}
use Rattle.vq_hosts.proofs.RestFaults.{rest_faultless, rest_faulty}
use Rattle.vq_hosts.proofs.RestTold.{IsRead, is_read, is_unread, jobs_past, jobs_within, kept_begun, kept_unbegun, rest_told}
use Rattle.vq_hosts.proofs.VersionForms.{version_named, version_stays, version_unnamed}

-- A line with words

pub faulty_words : (told : Told) (n : ℕ) (words : List (List ℕ)) (kind : FaultKind) → 0 < length words →
    hosts_fault told words ≡ Some kind → read_hosts_words told n words ≡ Err kind
faulty_words told n [] kind some e = absurd (omega arith)
faulty_words told n (word ∷ words) kind some e =
    ap (λ (o : Option FaultKind). unless_faulty o (told_with told n (word ∷ words))) e

pub told_words : (told : Told) (n : ℕ) (words : List (List ℕ)) → 0 < length words → hosts_fault told words ≡ None →
    read_hosts_words told n words ≡ Ok (told_with told n words)
told_words told n [] some e = absurd (omega arith)
told_words told n (word ∷ words) some e =
    ap (λ (o : Option FaultKind). unless_faulty o (told_with told n (word ∷ words))) e

pub read_some : (before : List Line) (n : ℕ) (words : List (List ℕ)) (next : List Line) → 0 < length words →
    read_statement Plain before n words ≡ Ok next → IsRead before n words next
read_some before n [] next some r = absurd (omega arith)
read_some before n (word ∷ words) next some r = is_read before n word words next r

unread_some : (before : List Line) (n : ℕ) (words : List (List ℕ)) (kind : FaultKind) → 0 < length words →
    read_statement Plain before n words ≡ Err kind → fault_of Plain before words ≡ Some kind
unread_some before n [] kind some r = absurd (omega arith)
unread_some before n (word ∷ words) kind some r = is_unread before n word words kind r

module _ (told : Told) (n : ℕ) (words : List (List ℕ)) (some : 0 < length words)
    (outside : is_of_block told words ≡ false) (late : Bool) (is_late : late ≡ declares_late told words) where
  -- the script's fault
  pub rest_unread : (kind : FaultKind) → read_statement Plain told.rest n words ≡ Err kind →
      read_hosts_words told n words ≡ Err (late_kind late kind)
  rest_unread kind r =
      faulty_words told n words (late_kind late kind) some
      (rest_faulty told words outside kind (unread_some told.rest n words kind some r)
      ∙ ap (λ (b : Bool). Some (late_kind b kind)) (sym is_late))

  module _ (next : List Line) (r : IsRead told.rest n words next) where
    unfaulty : hosts_fault told words ≡ cond late (Some Order) (cond (passes_jobs told words) (Some Limit) None)
    unfaulty =
        rest_faultless told words outside r.faultless
        ∙ ap (λ (b : Bool). cond b (Some Order) (cond (passes_jobs told words) (Some Limit) None)) (sym is_late)

    -- a declaration behind a thread
    pub rest_late : late ≡ true → read_hosts_words told n words ≡ Err Order
    rest_late e =
        faulty_words told n words Order some
        (unfaulty ∙ ap (λ (b : Bool). cond b (Some Order) (cond (passes_jobs told words) (Some Limit) None)) e)

    intime : late ≡ false → hosts_fault told words ≡ cond (passes_jobs told words) (Some Limit) None
    intime e = unfaulty ∙ ap (λ (b : Bool). cond b (Some Order) (cond (passes_jobs told words) (Some Limit) None)) e

    -- a job too many
    pub rest_many : late ≡ false → count is_job told.rest ≤ most_rest_jobs → most_rest_jobs < count is_job next →
        read_hosts_words told n words ≡ Err Limit
    rest_many e few many =
        faulty_words told n words Limit some
        (intime e ∙ ap (λ (b : Bool). cond b (Some Limit) None) (jobs_past told n words next r few many))

    -- no fault
    pub rest_next : late ≡ false → count is_job next ≤ most_rest_jobs →
        read_hosts_words told n words ≡ Ok (record told { rest = next })
    rest_next e few =
        told_words told n words some
        (intime e ∙ ap (λ (b : Bool). cond b (Some Limit) None) (jobs_within told n words next r few))
        ∙ ap (λ (t : Told). Ok t) (rest_told told n words next outside r)

-- What is kept

-- the line that names the version
pub version_next : (before : List Line) (n : ℕ) (words : List (List ℕ)) (next : List Line) (first : Bool) →
    IsRead before n words next → first ≡ (are_none before && matches words VersionLine) →
    version_line next ≡ cond first n (version_line before)
version_next [] n words next first r e =
    ap version_line r.after ∙ by_match (matches words VersionLine) refl ∙ sym (ap (λ (b : Bool). cond b n 0) e)
  where
    by_match : (b : Bool) → matches words VersionLine ≡ b → version_line (with_line [] n r.statement) ≡ cond b n 0
    by_match true m = version_named words n r.statement m r.said
    by_match false m = version_unnamed words n r.statement m r.said
version_next (x ∷ lines) n words next first r e =
    ap version_line r.after ∙ version_stays x lines (record { number = n; statement = r.statement })
    ∙ sym (ap (λ (b : Bool). cond b n (version_line (x ∷ lines))) e)

abbrev pub numbers : List Line → List ℕ
numbers lines = map (λ line. line.number) (job_lines_in lines)

-- the lines from the first job on
pub jobs_next : (told : Told) (n : ℕ) (words : List (List ℕ)) (next : List Line) (begun : Bool) →
    IsRead told.rest n words next → begun ≡ has_begun next →
    numbers next ≡ cond begun (numbers told.rest ++ n ∷ []) (numbers told.rest)
jobs_next told n words next true r e = kept_begun told n words next r (sym e)
jobs_next told n words next false r e = kept_unbegun told n words next r (sym e)
