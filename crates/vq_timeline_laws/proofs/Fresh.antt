-- The lists of a new timeline are those of a fresh pass.
use Rattle.std.proofs.Common.{◌≡◌, ℕ, zero, suc, ◌+◌, ◌<◌, List, [], ◌++◌, Option, None, replicate, length}
use Rattle.std.proofs.Common.{map, refl, sym, subst, IsPermutation}
use Rattle.std.proofs.lemmas.List.Sorted.{IsPermutation-refl}
use Rattle.std.specs.List.{slice_index_or}
use Rattle.std.proofs.lemmas.Bool.{false≢true}
use Rattle.vq_model.specs.Plan.{Plan, chain, initial, value}
use Rattle.vq_point_laws.specs.Timeline.{Timeline, Entry, new_timeline, all_points, entries_from, points_of}
use Rattle.vq_board_laws.specs.declared.view.Role.TheVariants.{Shelf}
use Rattle.vq_board_laws.specs.Roles.{role_number}
use Rattle.vq_board_laws.specs.Rule.{fresh}
use Rattle.vq_timeline_laws.specs.Shelves.{AreListsOf}

no_entries : (k n : ℕ) → entries_from k (replicate n None) ≡ []
no_entries k zero = refl
no_entries k (suc n) = no_entries (k + 1) n

no_points : (first : ℕ) (values : List ℕ) → all_points (new_timeline first values) ≡ []
no_points first values =
    subst (λ (xs : List Entry). points_of xs ++ [] ++ [] ≡ []) (sym (no_entries 0 (length values))) refl

abbrev nothing : Option ℕ
nothing = None

no_point : (n i : ℕ) → slice_index_or (replicate n nothing) i nothing ≡ nothing
no_point zero i = refl
no_point (suc n) zero = refl
no_point (suc n) (suc i) = no_point n i

pub fresh_lists : (p : Plan) (t : ℕ) → t < length p.chains →
    AreListsOf p t (new_timeline (initial p t) (map (value p) (chain p t))) (fresh p (role_number p (Shelf t)))
fresh_lists p t exists =
    let c : Timeline = new_timeline (initial p t) (map (value p) (chain p t)) in
    let none : all_points c ≡ [] = no_points (initial p t) (map (value p) (chain p t)) in
    record {
      exists = exists;
      role_is = refl;
      first = refl;
      their_values = refl;
      bound_are = refl;
      past_are = refl;
      points = subst (IsPermutation []) (sym none) (IsPermutation-refl []);
      below = λ q h. absurd (false≢true h);
      carrying_only = λ q e h. absurd h;
      carrying_all = λ q i e at has_it.
          absurd (let n = no_point (length (map (value p) (chain p t))) i in let h = has_it.0 in cc);
    }
