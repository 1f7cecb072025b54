-- Words, read as pairs.
use Rattle.std.specs.Prelude.{ℕ, ◌≡◌, ◌++◌, ◌&&◌, cond, List, Option, Some, None, is_some}
use Rattle.std.specs.List.{list_all}
use Rattle.std.specs.Option.{option_to_list}
use Rattle.vq_model.specs.Forms.{Slot, TimelineName}
use Rattle.vq_model.specs.LineFaults.{is_shaped, is_numeric, is_known}
use Rattle.vq_model.specs.Meaning.{pair_at, pairs_at, pair_places}
use Rattle.vq_model.specs.Text.{is_name, numeral}
use Rattle.vq_hosts.specs.declared.pairs.PairWords.{PairWords}

-- the words of one pair are added
pub record AddsPair (number : Slot → List ℕ → Option ℕ) (timeline value : List ℕ) (old new : PairWords) : Type 0 where
  pub all_shaped : new.shaped ≡ (old.shaped && is_name timeline)
  pub all_numeric : new.numeric ≡ (old.numeric && is_some (numeral value))
  pub all_known : new.known ≡ (old.known && is_some (number TimelineName timeline))
  pub all_pairs : new.pairs.items ≡ old.pairs.items ++ option_to_list (pair_at number timeline value)

-- What words of pairs are, and the pairs, where all are read.
pub record AreRead (number : Slot → List ℕ → Option ℕ) (words : List (List ℕ)) (found : PairWords) : Type 0 where
  pub all_shaped : found.shaped ≡ list_all is_shaped (pair_places words)
  pub all_numeric : found.numeric ≡ list_all is_numeric (pair_places words)
  pub all_known : found.known ≡ list_all (is_known number) (pair_places words)
  pub all_pairs : pairs_at number words ≡ cond (found.numeric && found.known) (Some found.pairs.items) None
