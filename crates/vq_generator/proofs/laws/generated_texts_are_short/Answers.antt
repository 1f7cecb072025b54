use Rattle.vq_generator.proofs.ShortTexts.{generated_is_short}
use Rattle.vq_generator.proofs.laws.generated_texts_are_short.Goals as goal

pub returns : goal.returns
returns c = generated_is_short
