-- One step along the words at open places.
use Rattle.std.proofs.Common.{◌≡◌, ◌<◌, ℕ, Bool, true, false, ◌&&◌, List, [], ◌∷◌, length, refl, sym, arith}
use Rattle.std.specs.Prelude.{◌++◌}
use Rattle.std.specs.List.{list_all}
use Rattle.vq_model.specs.Forms.{Slot, Fixed, TimelineName, Numeral, Pairs}
use Rattle.vq_model.specs.Meaning.{open_places}
use Rattle.vq_forms.specs.OpenWords.{opened}
use Rattle.vq_forms.specs.Table.{are_pairs}

pub none : (places : List Slot) → open_places places [] ≡ []
none [] = refl
none (Pairs ∷ []) = refl
none other = refl

pub rest : (place : Slot) (more : List Slot) (word : List ℕ) (words : List (List ℕ)) →
    are_pairs (place ∷ more) ≡ false →
    open_places (place ∷ more) (word ∷ words) ≡ opened place word ++ open_places more words
rest Pairs [] word words h = absurd (cc)
rest Pairs (p ∷ more) word words h = refl
rest other more word words h = refl

-- one word is no pair
pub one_left : (places : List Slot) (word : List ℕ) → are_pairs places ≡ true →
    open_places places (word ∷ []) ≡ []
one_left (Pairs ∷ []) word h = refl
one_left other word h = absurd (cc)

-- the name of a pair, before its numeral
pub pair : (places : List Slot) (word : List ℕ) (words : List (List ℕ)) → are_pairs places ≡ true →
    0 < length words →
    open_places places (word ∷ words) ≡ (TimelineName, word) ∷ open_places (Numeral ∷ Pairs ∷ []) words
pair (Pairs ∷ []) word [] h some = absurd (omega arith)
pair (Pairs ∷ []) word (value ∷ words) h some = refl
pair other word words h some = absurd (cc)

-- a test that fixed words pass
pub passes : (test : Slot × List ℕ → Bool) (place : Slot) (word : List ℕ) (more : List (Slot × List ℕ)) →
    ((text given : List ℕ) → test (Fixed text, given) ≡ true) →
    list_all test (opened place word ++ more) ≡ (test (place, word) && list_all test more)
passes test (Fixed text) word more fixed = λ i. sym (fixed text word) i && list_all test more
passes test other word more fixed = refl
