-- How much room a run's text needs. This project's own.
use Rattle.std.specs.Prelude.{ℕ, ◌+◌, ◌*◌, length}
use Rattle.vq_model.specs.Plan.{Plan}
use Rattle.vq_model.specs.Memory.{zeros_of}
use Rattle.vq_model.specs.OutputText.{buffers_text}
use Rattle.vq_model.specs.Outputs.{asking}
use Rattle.vq_model.specs.ValidScripts.{sizes_of}

-- The longest lines of as many answers as host steps ask something, and the text of the buffers. Its
-- length doesn't depend on the bytes.
abbrev pub text_room : Plan → ℕ
text_room p =
    38 * length (asking p) + length (buffers_text p.script.buffers (zeros_of (sizes_of p.script)))
