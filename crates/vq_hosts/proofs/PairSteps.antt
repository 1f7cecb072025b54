-- Words, read as pairs, a pair more.
use Rattle.std.proofs.Common.{◌≡◌, ℕ, ◌<◌, ◌≤◌, drop, get_or, Bool, true, false, ◌&&◌, not, cond, List, [], ◌∷◌, ◌++◌, length, Option, Some, None, refl, sym, ap, ◌∙◌, arith}
use Rattle.std.specs.Prelude.{is_some}
use Rattle.std.specs.Borrow.{Bor}
use Rattle.std.specs.List.{list_all}
use Rattle.std.specs.Option.{option_map, option_to_list}
use Rattle.std.proofs.lemmas.List.{append-nil, append_assoc}
use Rattle.vq_ground.proofs.Bools.{and_true}
use Rattle.vq_model.specs.declared.script.Pair.{Pair}
use Rattle.vq_model.specs.Forms.{Slot, Numeral, TimelineName}
use Rattle.vq_model.specs.LineFaults.{is_shaped, is_numeric, is_known}
use Rattle.vq_model.specs.Meaning.{of_two, pair_places, pairs_at}
use Rattle.vq_model.specs.Text.{is_name, numeral}
use Rattle.vq_lexer.specs.Words.{texts}
use Rattle.vq_hosts.specs.declared.pairs.PairWords.{PairWords}
use Rattle.vq_hosts.specs.Pairs.{AddsPair, AreRead}

-- of words some are read, and these are left
pub record SoFar (number : Slot → List ℕ → Option ℕ) (rest words : List (List ℕ)) (found : PairWords) : Type 0 where
  pub all_shaped : (found.shaped && list_all is_shaped (pair_places rest)) ≡ list_all is_shaped (pair_places words)
  pub all_numeric : (found.numeric && list_all is_numeric (pair_places rest)) ≡ list_all is_numeric (pair_places words)
  pub all_known : (found.known && list_all (is_known number) (pair_places rest))
      ≡ list_all (is_known number) (pair_places words)
  pub all_pairs : pairs_at number words
      ≡ cond (found.numeric && found.known) (option_map (λ ps. found.pairs.items ++ ps) (pairs_at number rest)) None

first_and : (a b c : Bool) → ((a && b) && c) ≡ (a && (b && (true && c)))
first_and true b c = refl
first_and false b c = refl

second_and : (a b c : Bool) → ((a && b) && c) ≡ (a && (true && (b && c)))
second_and true b c = refl
second_and false b c = refl

pairs_more : (numeric known : Bool) (t v : Option ℕ) (more : Option (List Pair)) (items : List Pair)
    (make : ℕ → ℕ → Pair) →
    cond (numeric && known) (option_map (λ ps. items ++ ps) (of_two (λ p ps. p ∷ ps) (of_two make t v) more)) None
    ≡ cond ((numeric && is_some v) && (known && is_some t))
    (option_map (λ ps. items ++ option_to_list (of_two make t v) ++ ps) more) None
pairs_more false known t v more items make = refl
pairs_more true false t None more items make = refl
pairs_more true false t (Some v) more items make = refl
pairs_more true true None None more items make = refl
pairs_more true true None (Some v) more items make = refl
pairs_more true true (Some t) None more items make = refl
pairs_more true true (Some t) (Some v) None items make = refl
pairs_more true true (Some t) (Some v) (Some ps) items make =
    ap (λ (xs : List Pair). Some xs) (sym (append_assoc items (make t v ∷ []) ps))

-- a pair more is read
pub pair_more : (number : Slot → List ℕ → Option ℕ) (t v : List ℕ) (rest words : List (List ℕ)) (old new : PairWords) →
    SoFar number (t ∷ v ∷ rest) words old → AddsPair number t v old new → SoFar number rest words new
pair_more number t v rest words old new h a =
    record {
      all_shaped = ap (λ (b : Bool). b && list_all is_shaped (pair_places rest)) a.all_shaped
          ∙ first_and old.shaped (is_name t) (list_all is_shaped (pair_places rest)) ∙ h.all_shaped;
      all_numeric = ap (λ (b : Bool). b && list_all is_numeric (pair_places rest)) a.all_numeric
          ∙ second_and old.numeric (is_some (numeral v)) (list_all is_numeric (pair_places rest)) ∙ h.all_numeric;
      all_known = ap (λ (b : Bool). b && list_all (is_known number) (pair_places rest)) a.all_known
          ∙ first_and old.known (is_some (number TimelineName t)) (list_all (is_known number) (pair_places rest))
          ∙ h.all_known;
      all_pairs = h.all_pairs
          ∙ pairs_more old.numeric old.known (number TimelineName t) (numeral v) (pairs_at number rest) old.pairs.items
          (λ s n. record { semaphore = s; value = n })
          ∙ (λ i. cond (sym a.all_numeric i && sym a.all_known i)
          (option_map (λ ps. sym a.all_pairs i ++ ps) (pairs_at number rest)) None);
    }

-- .. where these are the first two words
pub pair_more_at : (number : Slot → List ℕ → Option ℕ) (other : Bor (List ℕ)) (rest : List (Bor (List ℕ)))
    (words : List (List ℕ)) (old new : PairWords) → 2 ≤ length rest → SoFar number (texts rest) words old →
    AddsPair number (get_or rest 0 other).now (get_or rest 1 other).now old new →
    SoFar number (texts (drop 2 rest)) words new
pair_more_at number other [] words old new many h a = absurd (omega arith)
pair_more_at number other (t ∷ []) words old new many h a = absurd (omega arith)
pair_more_at number other (t ∷ v ∷ rest) words old new many h a = pair_more number t.now v.now (texts rest) words old new h a

-- all are read
pub all_so_far : (number : Slot → List ℕ → Option ℕ) (rest : List (Bor (List ℕ))) (words : List (List ℕ)) (found : PairWords) →
    length rest < 2 → SoFar number (texts rest) words found → AreRead number words found
all_so_far number (a ∷ b ∷ rest) words found few h = absurd (omega arith)
all_so_far number [] words found few h =
    record {
      all_shaped = sym (and_true found.shaped) ∙ h.all_shaped;
      all_numeric = sym (and_true found.numeric) ∙ h.all_numeric;
      all_known = sym (and_true found.known) ∙ h.all_known;
      all_pairs = h.all_pairs
          ∙ ap (λ (ps : List Pair). cond (found.numeric && found.known) (Some ps) None) (append-nil found.pairs.items);
    }
all_so_far number (a ∷ []) words found few h =
    record {
      all_shaped = sym (and_true found.shaped) ∙ h.all_shaped;
      all_numeric = sym (and_true found.numeric) ∙ h.all_numeric;
      all_known = sym (and_true found.known) ∙ h.all_known;
      all_pairs = h.all_pairs
          ∙ ap (λ (ps : List Pair). cond (found.numeric && found.known) (Some ps) None) (append-nil found.pairs.items);
    }

-- a name more, which is that of a timeline or none
pub next_known : (number : Slot → List ℕ → Option ℕ) (name value : List ℕ) (places more : List (Slot × List ℕ))
    (found : Option ℕ) (unknown : Bool) → places ≡ (TimelineName, name) ∷ (Numeral, value) ∷ more →
    found ≡ number TimelineName name → is_some found ≡ not unknown →
    list_all (is_known number) places ≡ (not unknown && list_all (is_known number) more)
next_known number name value places more found unknown e f u =
    ap (λ (ps : List (Slot × List ℕ)). list_all (is_known number) ps) e
    ∙ ap (λ (b : Bool). b && list_all (is_known number) more) (ap (λ (o : Option ℕ). is_some o) (sym f) ∙ u)
