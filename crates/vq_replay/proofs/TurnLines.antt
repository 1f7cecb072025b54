-- The line of a turn, put together from its words.
use Rattle.std.proofs.Common.{◌≡◌, ℕ, List, [], ◌∷◌, ◌++◌, sym, ap, ◌∙◌, append_assoc, append-nil}
use Rattle.std.specs.List.{join_with_byte}
use Rattle.vq_model.specs.Canonical.{line_text}
use Rattle.vq_replay.specs.SpacedWords.{spaced}

joined : (w : List ℕ) (ws : List (List ℕ)) → join_with_byte 32 (w ∷ ws) ≡ w ++ spaced ws
joined w [] = sym (append-nil w)
joined w (x ∷ ws) = ap (λ (ys : List ℕ). w ++ 32 ∷ ys) (joined x ws)

pub line_joined : (t d a : List ℕ) (ws : List (List ℕ)) →
    ((t ++ (d ++ 32 ∷ a)) ++ spaced ws) ++ 10 ∷ [] ≡ t ++ line_text (d ∷ a ∷ ws)
line_joined t d a ws =
    ap (λ (xs : List ℕ). xs ++ 10 ∷ []) (append_assoc t (d ++ 32 ∷ a) (spaced ws)
    ∙ ap (λ (xs : List ℕ). t ++ xs) (append_assoc d (32 ∷ a) (spaced ws) ∙ sym (joined d (a ∷ ws))))
    ∙ append_assoc t (join_with_byte 32 (d ∷ a ∷ ws)) (10 ∷ [])
