-- A point's word and its parts. The layout is this project's own.
use Rattle.std.specs.Prelude.{ℕ, Option}
use Rattle.std.specs.Option.{option_map}
use Rattle.vq_point_laws.specs.PointWord.{pack, unpack}
use Rattle.vq_point.specs.declared.PointWord.{PointWord}

-- the 64 bits of these parts
abbrev pub bits_of : PointWord → ℕ
bits_of w = pack (record { op = w.op; refs = w.refs; signaled = w.signaled; held = w.held })

-- the parts of these 64 bits, where they are a point's word
abbrev pub parts_of : ℕ → Option PointWord
parts_of word =
    option_map (λ w. record { op = w.op; refs = w.refs; signaled = w.signaled; held = w.held })
    (unpack word)
