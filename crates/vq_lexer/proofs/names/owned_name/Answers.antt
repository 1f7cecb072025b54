use Rattle.vq_lexer.proofs.PlainWords.{name_is_text}
use Rattle.vq_lexer.proofs.names.owned_name.Goals as goal

pub unreachable-requires : goal.unreachable-requires
unreachable-requires c = c.in-Err.ensures.cases.0 (name_is_text c.args.word.now c.requires)
