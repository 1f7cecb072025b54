use Rattle.vq_text.proofs.PrintedLines.{on_ok, word_text}
use Rattle.vq_text.proofs.words.push_fill_word.Goals as goal

pub returns : goal.returns
returns c =
    on_ok c.push_hex_bytes.result c.push_hex_bytes.ensures
    (λ more. word_text c.args.word c.args.out.now.items _ _ _ c.to_be_bytes.ensures
    (c.in_ok-push_word.ensures {u = tt}) more)
