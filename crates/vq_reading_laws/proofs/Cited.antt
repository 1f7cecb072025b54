-- What other crates may cite of this one. All other files of proofs are private to it.
pub use Rattle.vq_reading_laws.proofs.KeptBatches.{batch_lines_cons}
pub use Rattle.vq_reading_laws.proofs.KeptTurns.{turns_counted}
pub use Rattle.vq_reading_laws.proofs.FormPlaces.{forms_in, found_belongs}
pub use Rattle.vq_reading_laws.proofs.LineFacts.{below, fence_is}
pub use Rattle.vq_reading_laws.proofs.LinePushes.{a_line, count_push, open_push, section_push, some_push}
pub use Rattle.vq_reading_laws.proofs.Meanings.{first_fails, found_passes, has_meaning}
pub use Rattle.vq_reading_laws.proofs.DeclaredScripts.{kind_exists}
pub use Rattle.vq_reading_laws.proofs.WrittenScripts.{read_batches, read_lines_rise, read_steps, read_turns, read_valid, written_turns, plain_unscheduled}
pub use Rattle.vq_reading_laws.proofs.ScriptFacts.{text_form}
pub use Rattle.vq_reading_laws.proofs.TextFacts.{few_lines}
pub use Rattle.vq_reading_laws.proofs.Versions.{jobs_fit, most_jobs, most_queues, queues_fit, version_push}
