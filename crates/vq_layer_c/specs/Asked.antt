-- What is asked of the layer that a handle holds, if it holds one.
use Rattle.std.specs.Prelude.{◌≡◌, Option, Some, None}
use Rattle.vq_layer.specs.Layer.{Layer}
use Rattle.vq_layer_c.specs.declared.reply.Reply.TheVariants as call_as
use Rattle.vq_layer_c.specs.declared.answer.Answer.{Answer}
use Rattle.vq_layer_c.specs.Told.{said}

-- No layer is held, nothing is done, and the answer says so; or the layer, what becomes of it and the answer are so.
abbrev pub HasAsked : (Layer → Layer → Answer → Type 0) → Option Layer → Option Layer → Answer → Type 0
HasAsked IsSo None after answer = (after ≡ None) × (answer ≡ said call_as.NoHandle)
HasAsked IsSo (Some l) after answer = (m : Layer) × (after ≡ Some m) × IsSo l m answer

-- A question: it changes nothing, and what it answers is a function of the layer.
abbrev pub HasLooked : (Layer → Answer) → Option Layer → Option Layer → Answer → Type 0
HasLooked answer_of = HasAsked (λ l m a. (m ≡ l) × (a ≡ answer_of l))
