-- What the words from a place on say, and the tests that they pass, stand behind those of the words before.
use Rattle.std.proofs.Common.{◌≡◌, ◌∙◌, ◌<◌, ◌≤◌, ◌+◌, Bool, true, false, ◌&&◌, ℕ, List, [], ◌∷◌, ◌++◌, Bor, refl, sym, ap, arith, drop, length, map, get_or}
use Rattle.std.specs.Prelude.{zip}
use Rattle.std.specs.List.{list_all}
use Rattle.std.proofs.lemmas.List.{append_assoc, append-nil, drop_more}
use Rattle.std.proofs.lemmas.Grind.{common_steps}
use Rattle.vq_lexer.specs.Words.{texts}
use Rattle.vq_capture.specs.Context.{Above, Named}
use Rattle.vq_capture.specs.LineForms.{Place}
use Rattle.vq_capture.specs.LineFaults.{is_shaped, is_numeric, is_staged, is_known, is_new}
use Rattle.vq_capture_reader.specs.declared.said.Said.{Said}
use Rattle.vq_capture_reader.specs.declared.slots.Slot.{Slot}
use Rattle.vq_capture_reader.specs.declared.word_tests.WordTests.{WordTests}
use Rattle.vq_capture_reader.specs.Slots.{place}
use Rattle.vq_capture_reader.specs.Said.{both, said_at, tests_at, tests_of}

and_more : (t x r : Bool) → (t && x) && r ≡ t && (x && r)
and_more true x r = refl
and_more false x r = refl

and_true : (t : Bool) → t && true ≡ t
and_true true = refl
and_true false = refl

zip_none : (xs : List Place) → zip {X = List ℕ} xs [] ≡ []
zip_none [] = refl
zip_none (x ∷ xs) = refl

all_gone : (ws : List (Bor (List ℕ))) (i : ℕ) → length ws ≤ i → drop i ws ≡ []
all_gone ws i l = grind (arith, common_steps)

module _ (xs : List Slot) (ws : List (Bor (List ℕ))) (i : ℕ) where
  abbrev left : ℕ → List (Place × List ℕ)
  left k = zip (map place (drop k xs)) (texts (drop k ws))

  none_left : length ws ≤ i → left i ≡ []
  none_left l =
      ap (λ (vs : List (Bor (List ℕ))). zip (map place (drop i xs)) (texts vs)) (all_gone ws i l)
      ∙ zip_none (map place (drop i xs))

  pub said_end : (names : List Named) (out whole : List Said) → length ws ≤ i → out ++ map (said_at names) (left i) ≡ whole → out ≡ whole
  said_end names out whole l h =
      sym (append-nil out)
      ∙ (ap (λ (ps : List (Place × List ℕ)). out ++ map (said_at names) ps) (sym (none_left l)) ∙ h)

  pub tests_end : (above : Above) (t whole : WordTests) → length ws ≤ i → both t (tests_of above (left i)) ≡ whole → t ≡ whole
  tests_end above t whole l h = sym all ∙ (ap (λ (ps : List (Place × List ℕ)). both t (tests_of above ps)) (sym (none_left l)) ∙ h)
    where
      all : both t (tests_of above []) ≡ t
      all = λ k. record {
        shaped = and_true t.shaped k;
        numeric = and_true t.numeric k;
        staged = and_true t.staged k;
        known = and_true t.known k;
        new = and_true t.new k;
      }

  module _ (d : Slot) (e : Bor (List ℕ)) (l : i < length xs) (m : i < length ws) where
    abbrev word : Place × List ℕ
    word = (place (get_or xs i d), (get_or ws i e).now)

    one_more : left i ≡ word ∷ left (i + 1)
    one_more =
        ap (λ (ys : List Slot). zip (map place ys) (texts (drop i ws))) (drop_more xs i d l)
        ∙ ap (λ (vs : List (Bor (List ℕ))). zip (map place (get_or xs i d ∷ drop (i + 1) xs)) (texts vs)) (drop_more ws i e m)

    pub said_more : (names : List Named) (out new whole : List Said) (s : Said) → out ++ map (said_at names) (left i) ≡ whole → s ≡ said_at names word → new ≡ out ++ s ∷ [] → new ++ map (said_at names) (left (i + 1)) ≡ whole
    said_more names out new whole s h q n =
        ap (λ (ys : List Said). ys ++ map (said_at names) (left (i + 1))) n
        ∙ (append_assoc out (s ∷ []) (map (said_at names) (left (i + 1)))
        ∙ (ap (λ (t : Said). out ++ t ∷ map (said_at names) (left (i + 1))) q
        ∙ (ap (λ (ps : List (Place × List ℕ)). out ++ map (said_at names) ps) (sym one_more) ∙ h)))

    pub tests_more : (above : Above) (t u v whole : WordTests) → both t (tests_of above (left i)) ≡ whole → u ≡ tests_at above word → v ≡ both t u → both v (tests_of above (left (i + 1))) ≡ whole
    tests_more above t u v whole h q n =
        ap (λ (w : WordTests). both w (tests_of above (left (i + 1)))) n
        ∙ (ap (λ (w : WordTests). both (both t w) (tests_of above (left (i + 1)))) q
        ∙ (later
        ∙ (ap (λ (ps : List (Place × List ℕ)). both t (tests_of above ps)) (sym one_more) ∙ h)))
      where
        later : both (both t (tests_at above word)) (tests_of above (left (i + 1))) ≡ both t (tests_of above (word ∷ left (i + 1)))
        later = λ k. record {
          shaped = and_more t.shaped (is_shaped word) (list_all is_shaped (left (i + 1))) k;
          numeric = and_more t.numeric (is_numeric word) (list_all is_numeric (left (i + 1))) k;
          staged = and_more t.staged (is_staged word) (list_all is_staged (left (i + 1))) k;
          known = and_more t.known (is_known above word) (list_all (is_known above) (left (i + 1))) k;
          new = and_more t.new (is_new above.names word) (list_all (is_new above.names) (left (i + 1))) k;
        }
