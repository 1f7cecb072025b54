-- Where words of a line begin and end.
use Rattle.std.specs.Prelude.{ℕ, Bool, false, List, [], ◌∷◌, ◌||◌, ◌==◌}
use Rattle.vq_model.specs.Text.{is_blank}

-- a blank ends a word, and so does the sign of a comment
abbrev pub ends_word : ℕ → Bool
ends_word b = is_blank b || (b == 35)

abbrev pub starts_blank : List ℕ → Bool
starts_blank [] = false
starts_blank (b ∷ bs) = is_blank b
