-- What other crates may cite of this one. All other files of proofs are private to it.
pub use Rattle.vq_canonical_laws.proofs.AddedScripts.{added_is_written}
pub use Rattle.vq_canonical_laws.proofs.CanonicalReads.{canonical_reads_back, read_is_written}
pub use Rattle.vq_canonical_laws.proofs.FittingScripts.{ruled_is_written}
pub use Rattle.vq_canonical_laws.proofs.FollowingLines.{timeline_takes}
pub use Rattle.vq_canonical_laws.proofs.JobLines.{from_job_cons}
pub use Rattle.vq_canonical_laws.proofs.NamedParts.{AllNamed, name_word}
pub use Rattle.vq_canonical_laws.proofs.NumberedLines.{canonical_numbered}
pub use Rattle.vq_canonical_laws.proofs.OrderedReads.{read_jobs_said}
pub use Rattle.vq_canonical_laws.proofs.ReadNames.{HaveNames, HasNames, read_names}
pub use Rattle.vq_canonical_laws.proofs.ReadValues.{SignalsSmall, HasSmallNumbers, read_values}
pub use Rattle.vq_canonical_laws.proofs.StatementsSaid.{statements_counted}
pub use Rattle.vq_canonical_laws.proofs.UpgradedScripts.{upgrade_is_written, upgrade_reads_back, upgrade_text}
pub use Rattle.vq_canonical_laws.proofs.WrittenNumbers.{decimal_back, decimal_word, numeral_below}
pub use Rattle.vq_canonical_laws.proofs.WrittenTexts.{is_kept_word, are_kept_words, is_kept_byte, all_weaker}
pub use Rattle.vq_canonical_laws.proofs.WrittenTexts.{kept_words_back, kept_lines_back, text_to_kept, is_text_word}
pub use Rattle.vq_canonical_laws.proofs.WrittenTexts.{split_part, empty_end}
