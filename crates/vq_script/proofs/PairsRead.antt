-- The pairs of words that are read.
use Rattle.std.proofs.Common.{false, ◌++◌, option_map, ap, ◌∙◌, ◌≡◌, ℕ, ◌/◌, ◌<◌, ◌≤◌, drop, get_or, map, true, List, [], ◌∷◌, length, Option, Some, None, is_some, refl, sym, arith}
use Rattle.std.specs.Option.{unwrap_or}
use Rattle.std.proofs.lemmas.Bool.{false≢true}
use Rattle.std.proofs.lemmas.List.{length-map}
use Rattle.vq_model.specs.declared.script.Pair.{Pair}
use Rattle.vq_model.specs.Meaning.{of_two}
use Rattle.std.specs.Borrow.{Bor}
use Rattle.vq_script.specs.Holds.{Kept}
use Rattle.vq_forms.specs.OpenWords.{opens}
use Rattle.vq_lexer.specs.Words.{texts}
use Rattle.vq_model.specs.Meaning.{pair_at, pair_places, pairs_at}
use Rattle.vq_script.specs.LineTests.{number_of}
use Rattle.vq_model.specs.declared.statement.LineForm.{LineForm}
use Rattle.vq_model.specs.declared.statement.LineForm.TheVariants.{HostWaitAllLine, HostWaitAnyLine, HostPollAllLine, HostPollAnyLine}
use Rattle.vq_model.specs.declared.statement.Statement.{Statement}
use Rattle.std.proofs.lemmas.List.{append_assoc}
use Rattle.vq_script.specs.SaidLines.{is_pairs_line, named_in}
use Rattle.vq_script.specs.SaidSteps.{read_pairs, AreRead}

-- two words a pair
halved : (k : Kept) (texts : List (List ℕ)) (read : is_some (pairs_at (number_of k) texts) ≡ true) →
    length (unwrap_or (pairs_at (number_of k) texts) []) ≡ length texts / 2
halved k [] read = refl
halved k (name ∷ []) read = refl
halved k (name ∷ value ∷ texts) read =
    by_pair (pair_at (number_of k) name value) (pairs_at (number_of k) texts) read (halved k texts)
  where
    by_pair : (p : Option Pair) (ps : Option (List Pair)) →
        is_some (of_two (λ (x : Pair) (more : List Pair). x ∷ more) p ps) ≡ true →
        (is_some ps ≡ true → length (unwrap_or ps []) ≡ length texts / 2) →
        length (unwrap_or (of_two (λ (x : Pair) (more : List Pair). x ∷ more) p ps) [])
        ≡ length (name ∷ value ∷ texts) / 2
    by_pair None ps r more = absurd (cc)
    by_pair (Some p) None r more = absurd (cc)
    by_pair (Some p) (Some ps) r more = let half = more refl in omega arith

pub pairs_counted : (k : Kept) (words : List (Bor (List ℕ))) → AreRead k words →
    length words / 2 ≡ length (read_pairs k words)
pairs_counted k words read =
    let long = length-map words (λ (w : Bor (List ℕ)). w.now) in
    let half = halved k (texts words) read in
    omega arith

-- fewer than two words are no pair
pub few_words : (k : Kept) (words : List (Bor (List ℕ))) → length words < 2 →
    pairs_at (number_of k) (texts words) ≡ Some []
few_words k [] few = refl
few_words k (word ∷ []) few = refl
few_words k (word ∷ next ∷ more) few = absurd (omega arith)

-- pairs after one that is read
more_read : (k : Kept) (name value : List ℕ) (texts : List (List ℕ)) →
    is_some (pair_at (number_of k) name value) ≡ true →
    is_some (pairs_at (number_of k) (name ∷ value ∷ texts)) ≡ is_some (pairs_at (number_of k) texts)
more_read k name value texts read = by_pair (pair_at (number_of k) name value) (pairs_at (number_of k) texts) read
  where
    by_pair : (p : Option Pair) (ps : Option (List Pair)) → is_some p ≡ true →
        is_some (of_two (λ (x : Pair) (more : List Pair). x ∷ more) p ps) ≡ is_some ps
    by_pair None ps r = absurd (false≢true r)
    by_pair (Some p) None r = refl
    by_pair (Some p) (Some ps) r = refl

-- .. where these are the first two words
pub pairs_left : (k : Kept) (other : Bor (List ℕ)) (words : List (Bor (List ℕ))) → 2 ≤ length words →
    is_some (pair_at (number_of k) (get_or words 0 other).now (get_or words 1 other).now) ≡ true →
    is_some (pairs_at (number_of k) (texts (drop 2 words))) ≡ is_some (pairs_at (number_of k) (texts words))
pairs_left k other [] many read = absurd (omega arith)
pairs_left k other (name ∷ []) many read = absurd (omega arith)
pairs_left k other (name ∷ value ∷ words) many read =
    sym (more_read k name.now value.now (texts words) read)

-- pairs that are owned, with one more
pub pairs_owned : (k : Kept) (other : Bor (List ℕ)) (words : List (Bor (List ℕ))) (items : List Pair) (p : Pair) →
    2 ≤ length words →
    pair_at (number_of k) (get_or words 0 other).now (get_or words 1 other).now ≡ Some p →
    option_map (λ ps. (items ++ p ∷ []) ++ ps) (pairs_at (number_of k) (texts (drop 2 words)))
    ≡ option_map (λ ps. items ++ ps) (pairs_at (number_of k) (texts words))
pairs_owned k other [] items p many said = absurd (omega arith)
pairs_owned k other (name ∷ []) items p many said = absurd (omega arith)
pairs_owned k other (name ∷ value ∷ words) items p many said =
    by_pair (pair_at (number_of k) name.now value.now) (pairs_at (number_of k) (texts words)) said
  where
    by_pair : (o : Option Pair) (ps : Option (List Pair)) → o ≡ Some p →
        option_map (λ qs. (items ++ p ∷ []) ++ qs) ps
        ≡ option_map (λ qs. items ++ qs) (of_two (λ (x : Pair) (more : List Pair). x ∷ more) o ps)
    by_pair None ps e = absurd (cc)
    by_pair (Some q) None e = refl
    by_pair (Some q) (Some qs) e =
        let same : q ≡ p = cc in
        ap (λ (xs : List Pair). Some xs) (append_assoc items (p ∷ []) qs ∙ (λ i. items ++ sym same i ∷ qs))

-- a step with pairs is said where they are read
pub said_pairs : (f : List Pair → Statement) (o : Option (List Pair)) → is_some o ≡ true →
    Some (f (unwrap_or o [])) ≡ option_map f o
said_pairs f None r = absurd (false≢true r)
said_pairs f (Some ps) r = refl

no_pairs : (f : List Pair → Statement) (o : Option (List Pair)) → is_some o ≡ false →
    None ≡ option_map f o
no_pairs f None r = refl
no_pairs f (Some ps) r = absurd (false≢true (sym r))

-- .. and nothing is said where they aren't
pub unsaid_pairs : (k : Kept) (form : LineForm) (texts : List (List ℕ)) → is_pairs_line form ≡ true →
    is_some (pairs_at (number_of k) texts) ≡ false → None ≡ named_in k form texts
unsaid_pairs k HostWaitAllLine texts e r = no_pairs _ (pairs_at (number_of k) texts) r
unsaid_pairs k HostWaitAnyLine texts e r = no_pairs _ (pairs_at (number_of k) texts) r
unsaid_pairs k HostPollAllLine texts e r = no_pairs _ (pairs_at (number_of k) texts) r
unsaid_pairs k HostPollAnyLine texts e r = no_pairs _ (pairs_at (number_of k) texts) r
unsaid_pairs k other texts e r = absurd (false≢true e)

-- the pairs of a line, behind its first three words
pairs_again : (k : Kept) (given : List (List ℕ)) →
    pairs_at (number_of k) (map (λ x. x.1) (pair_places given)) ≡ pairs_at (number_of k) given
pairs_again k [] = refl
pairs_again k (name ∷ []) = refl
pairs_again k (name ∷ value ∷ given) =
    ap (of_two (λ (p : Pair) (more : List Pair). p ∷ more) (pair_at (number_of k) name value)) (pairs_again k given)

behind_three : (k : Kept) (form : LineForm) (words : List (Bor (List ℕ))) → is_pairs_line form ≡ true →
    3 ≤ length words →
    pairs_at (number_of k) (texts (drop 3 words)) ≡ pairs_at (number_of k) (map (λ x. x.1) (opens form words))
behind_three k HostWaitAllLine (a ∷ b ∷ c ∷ words) e many = sym (pairs_again k (texts words))
behind_three k HostWaitAnyLine (a ∷ b ∷ c ∷ words) e many = sym (pairs_again k (texts words))
behind_three k HostPollAllLine (a ∷ b ∷ c ∷ words) e many = sym (pairs_again k (texts words))
behind_three k HostPollAnyLine (a ∷ b ∷ c ∷ words) e many = sym (pairs_again k (texts words))
behind_three k form [] e many = absurd (omega arith)
behind_three k form (a ∷ []) e many = absurd (omega arith)
behind_three k form (a ∷ b ∷ []) e many = absurd (omega arith)
behind_three k form (a ∷ b ∷ c ∷ words) e many = absurd (false≢true e)

pub pairs_behind : (k : Kept) (form : LineForm) (words pairs : List (Bor (List ℕ))) → is_pairs_line form ≡ true →
    3 ≤ length words → pairs ≡ drop 3 words →
    pairs_at (number_of k) (texts pairs) ≡ pairs_at (number_of k) (map (λ x. x.1) (opens form words))
pairs_behind k form words pairs e many is =
    ap (λ (ws : List (Bor (List ℕ))). pairs_at (number_of k) (texts ws)) is ∙ behind_three k form words e many
