-- Where the first line of a text ends.
use Rattle.std.specs.Prelude.{ℕ, ◌≡◌, List, [], ◌∷◌, ◌++◌, All, false, length, take}
use Rattle.vq_model.specs.Text.{is_line_feed}

-- no byte is a line feed
abbrev pub IsUnbroken : List ℕ → Type 0
IsUnbroken text = All (λ b. is_line_feed b ≡ false) text

-- The first n bytes of a text are its first line, with a line feed behind it or up to the text's end.
pub data EndsLine (text : List ℕ) (n : ℕ) : Type 0 where
  AtFeed : (line : List ℕ) → take n text ≡ line ++ 10 ∷ [] → IsUnbroken line → EndsLine text n
  AtEnd : n ≡ length text → IsUnbroken text → EndsLine text n
