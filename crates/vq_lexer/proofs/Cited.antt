-- What other crates may cite of this one. All other files of proofs are private to it.
pub use Rattle.vq_lexer.proofs.DigitsRead.{hex_length, hex_limit}
pub use Rattle.vq_lexer.proofs.FirstFound.{place_of_first}
pub use Rattle.vq_lexer.proofs.WordsCut.{comment_here, comment_later, kept, some_texts}
