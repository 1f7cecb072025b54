-- What other crates may cite of this one. All other files of proofs are private to it.
pub use Rattle.vq_trace.proofs.LineCuts.{HasFirst, split_has_first, lines_after, fed_lines, lines_whole, line_first}
