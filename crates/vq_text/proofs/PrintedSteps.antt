-- The line of a host step that names pairs.
use Rattle.std.proofs.Common.{◌≡◌, ℕ, List, [], ◌∷◌, ◌++◌, codes, sym, ap, ◌∙◌, append_assoc}
use Rattle.std.proofs.lemmas.List.{append-nil}
use Rattle.std.specs.List.{flat_map, join_with_byte}
use Rattle.std.specs.Fmt.{decimal}
use Rattle.vq_model.specs.declared.script.Script.{Script}
use Rattle.vq_model.specs.declared.script.Pair.{Pair}
use Rattle.vq_model.specs.Canonical.{pair_words, line_text}
use Rattle.vq_model.specs.Naming.{semaphore_name}

module _ (s : Script) where
  -- a pair's name and value, each after a space
  abbrev spaced_pair : Pair → List ℕ
  spaced_pair p = 32 ∷ semaphore_name s p.semaphore ++ 32 ∷ decimal p.value

  -- the words of pairs after a word
  joined_pairs : (word : List ℕ) (pairs : List Pair) →
      join_with_byte 32 (word ∷ flat_map (pair_words s) pairs) ≡ word ++ flat_map spaced_pair pairs
  joined_pairs word [] = sym (append-nil word)
  joined_pairs word (p ∷ ps) =
      ap (λ text. word ++ (32 ∷ semaphore_name s p.semaphore ++ 32 ∷ text))
      (joined_pairs (decimal p.value) ps)
      ∙ ap (λ text. word ++ text)
      (sym (append_assoc (32 ∷ semaphore_name s p.semaphore) (32 ∷ decimal p.value)
      (flat_map spaced_pair ps)))

  -- a list with the line of a host step that names pairs
  pub pairs_added : (word which : List ℕ) (pairs : List Pair) (old begun said told named new : List ℕ) →
      begun ≡ old ++ codes "host" → said ≡ begun ++ 32 ∷ word → told ≡ said ++ 32 ∷ which →
      named ≡ told ++ flat_map spaced_pair pairs → new ≡ named ++ 10 ∷ [] →
      new ≡ old ++ line_text (codes "host" ∷ word ∷ which ∷ flat_map (pair_words s) pairs)
  pairs_added word which pairs old begun said told named new e1 e2 e3 e4 e5 =
      let text : List ℕ = which ++ flat_map spaced_pair pairs in
      let front : new ≡ old ++ (codes "host" ++ (32 ∷ word ++ (32 ∷ text ++ 10 ∷ []))) =
      e5 ∙ ap (λ xs. xs ++ 10 ∷ []) (e4 ∙ ap (λ xs. xs ++ flat_map spaced_pair pairs)
      (e3 ∙ ap (λ xs. xs ++ 32 ∷ which) (e2 ∙ ap (λ xs. xs ++ 32 ∷ word) e1)))
      ∙ simp append_assoc in
      let back : codes "host" ++ (32 ∷ word ++ (32 ∷ text ++ 10 ∷ []))
      ≡ line_text (codes "host" ∷ word ∷ which ∷ flat_map (pair_words s) pairs) =
      ap (λ xs. codes "host" ++ (32 ∷ word ++ (32 ∷ xs ++ 10 ∷ []))) (sym (joined_pairs which pairs))
      ∙ simp append_assoc in
      front ∙ ap (λ xs. old ++ xs) back
