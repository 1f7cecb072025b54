use Rattle.std.proofs.Common.{◌≤◌, ◌<◌, ℕ, List, ◌∷◌, ◌++◌, [], Err, cond, length, arith, refl, sym, ap, subst, ◌∙◌}
use Rattle.std.specs.Borrow.{Bor}
use Rattle.vq_model.specs.declared.statement.FaultKind.{FaultKind}
use Rattle.vq_model.specs.declared.statement.Form.TheVariants.{Plain}
use Rattle.vq_model.specs.Context.{count, is_job}
use Rattle.vq_script.specs.declared.fault.ScriptFault.{ScriptFault}
use Rattle.vq_script.specs.Reads.{HasReadNext}
use Rattle.vq_blocks.specs.BlockFaults.{most_rest_jobs}
use Rattle.vq_lexer.specs.Words.{texts}
use Rattle.vq_hosts.proofs.RestLines.{jobs_next, read_some, rest_late, rest_many, rest_next, rest_unread, version_next}
use Rattle.vq_hosts.proofs.hosts_reader.HostsReader.read_rest.Goals as goal

-- some word is there
some_words : (words : List (Bor (List ℕ))) → 0 < length words → 0 < length (texts words)
some_words [] h = absurd (omega arith)
some_words (w ∷ words) h = omega arith

pub returns-in-Err-At : goal.returns-in-Err-At
returns-in-Err-At c = λ told h outside.
    let words = texts c.args.words.now in
    let read = subst (λ (f : ScriptFault). HasReadNext Plain told.rest c.args.number words (Err f) c.read.new.self)
    c.in-Err-At.field-0-is (c.in-Err-At.ensures Plain told.rest h.has_rest) in (
      read.0,
      rest_unread told c.args.number words (some_words c.args.words.now c.requires.some) outside
          c.declares_late-late.result (c.declares_late-late.ensures told h) c.in-Err-At.kind read.1
          ∙ ap (λ (k : FaultKind). Err k) (sym c.late_kind.ensures),
    )

pub returns-then-late : goal.returns-then-late
returns-then-late c = λ told h outside.
    let words = texts c.args.words.now in
    let some = some_words c.args.words.now c.requires.some in
    let read = c.in-Ok.ensures Plain told.rest h.has_rest in (
      refl,
      rest_late told c.args.number words some outside c.declares_late-late.result (c.declares_late-late.ensures told h)
          read.0 (read_some told.rest c.args.number words read.0 some read.1) c.if-late.true,
    )

pub returns-then-jobs-gt-MOST_REST_JOBS : goal.returns-then-jobs-gt-MOST_REST_JOBS
returns-then-jobs-gt-MOST_REST_JOBS c = λ told h outside.
    let words = texts c.args.words.now in
    let some = some_words c.args.words.now c.requires.some in
    let read = c.in-Ok.ensures Plain told.rest h.has_rest in
    let jobs = c.job_count-jobs.ensures Plain read.0 read.2 in
    let past = c.if-jobs-gt-MOST_REST_JOBS.true in
    let many : most_rest_jobs < count is_job read.0 = omega arith in (
      refl,
      rest_many told c.args.number words some outside c.declares_late-late.result (c.declares_late-late.ensures told h)
          read.0 (read_some told.rest c.args.number words read.0 some read.1) c.if-late.false h.few_jobs many,
    )

pub returns : goal.returns
returns c = λ told h outside.
    let words = texts c.args.words.now in
    let some = some_words c.args.words.now c.requires.some in
    let read = c.in-Ok.ensures Plain told.rest h.has_rest in
    let next = read.0 in
    let jobs = c.job_count-jobs.ensures Plain next read.2 in
    let within = c.if-jobs-gt-MOST_REST_JOBS.false in
    let few : count is_job next ≤ most_rest_jobs = omega arith in
    let is_read = read_some told.rest c.args.number words next some read.1 in
    let first = c.names_version-first.result in
    let begun = c.has_begun-begun.result in (
      record told { rest = next },
      rest_next told c.args.number words some outside c.declares_late-late.result (c.declares_late-late.ensures told h)
          next is_read c.if-late.false few,
      record {
        has_rest = read.2;
        has_threads = record {
          all_queues = h.has_threads.all_queues;
          all_batches = h.has_threads.all_batches;
          is_inside = h.has_threads.is_inside;
        };
        version = c.line_where-self.ensures ∙ (λ i. cond first c.args.number (h.version i))
            ∙ sym (version_next told.rest c.args.number words next first is_read
            (c.names_version-first.ensures Plain told.rest h.has_rest));
        jobs = c.in_ok-push_where.ensures
            ∙ (λ i. cond begun (h.jobs i ++ c.args.number ∷ []) (h.jobs i))
            ∙ sym (jobs_next told c.args.number words next begun is_read (c.has_begun-begun.ensures Plain next read.2));
        few_jobs = few;
      },
    )
