-- Lists of pieces, one after another.
use Rattle.std.proofs.Common.{◌≡◌, ℕ, zero, suc, ◌+◌, ◌<◌, ◌≤◌, ◌⊎◌, List, [], ◌∷◌, ◌++◌, length, Option, Some, None, MatchOption}
use Rattle.std.proofs.Common.{refl, sym, subst, ap, ◌∙◌, arith, length-append, inl, inr}
use Rattle.std.specs.List.{slice_get}
use Rattle.std.proofs.lemmas.Option.{slice_get_past}
use Rattle.std.specs.Fmt.{decimal}
use Rattle.std.specs.Option.{option_map_or}
use Rattle.vq_model.specs.declared.plan.Op.{Op}
use Rattle.vq_model.specs.declared.script.Queue.{Queue}
use Rattle.vq_model.specs.declared.script.Script.{Script}
use Rattle.vq_model.specs.Naming.{queue_name, semaphore_name}
use Rattle.vq_model.specs.Plan.{Plan}
use Rattle.vq_replay.specs.declared.pieces.Piece.{Piece}
use Rattle.vq_replay.specs.Pieces.{IsPiece, Spell}
use Rattle.vq_replay.specs.SpacedWords.{spaced}
use Rattle.vq_replay.specs.SpelledWords.{AreFirst, words_of_op}

none_there : (k : ℕ) → (x : Piece) → slice_get [] k ≡ Some x → ⊥
none_there k x h = let z = h in cc

-- Before the first.
pub first_none : (f : ℕ → List ℕ) (pieces : List Piece) → pieces ≡ [] → AreFirst f 0 pieces
first_none f pieces is =
    subst (AreFirst f 0) (sym is) (record { count = refl; each = λ k x h. absurd (none_there k x h) })

get_more : (xs : List Piece) (y : Piece) (k : ℕ) (x : Piece) → slice_get (xs ++ y ∷ []) k ≡ Some x →
    (slice_get xs k ≡ Some x) ⊎ ((k ≡ length xs) × (y ≡ x))
get_more [] y zero x h = inr (refl, let z = h in cc)
get_more [] y (suc k) x h = absurd (none_there k x h)
get_more (z ∷ xs) y zero x h = inl h
get_more (z ∷ xs) y (suc k) x h = later (get_more xs y k x h)
  where
    later : (slice_get xs k ≡ Some x) ⊎ ((k ≡ length xs) × (y ≡ x)) →
        (slice_get xs k ≡ Some x) ⊎ ((suc k ≡ suc (length xs)) × (y ≡ x))
    later (inl l) = inl l
    later (inr r) = inr (ap suc r.0, r.1)

-- One more.
pub one_more : (f : ℕ → List ℕ) (n : ℕ) (pieces more : List Piece) (y : Piece) → AreFirst f n pieces →
    IsPiece (f n) y → more ≡ pieces ++ y ∷ [] → AreFirst f (n + 1) more
one_more f n pieces more y h is e =
    let count = h.count in
    let both = length-append pieces (y ∷ []) in
    let grown : length (pieces ++ y ∷ []) ≡ n + 1 = omega arith in
    subst (AreFirst f (n + 1)) (sym e) (record { count = grown; each = λ k x g. at k x (get_more pieces y k x g) })
  where
    at : (k : ℕ) (x : Piece) → (slice_get pieces k ≡ Some x) ⊎ ((k ≡ length pieces) × (y ≡ x)) → IsPiece (f k) x
    at k x (inl l) = h.each k x l
    at k x (inr r) = subst (IsPiece (f k)) r.1 (subst (λ (m : ℕ). IsPiece (f m) y) (sym (r.0 ∙ h.count)) is)

past_all : (xs : List Piece) (k : ℕ) → slice_get xs k ≡ None → length xs ≤ k
past_all [] k h = omega arith
past_all (x ∷ xs) zero h = absurd (let z = h in cc)
past_all (x ∷ xs) (suc k) h = let l = past_all xs k h in omega arith

-- All of them.
pub all_there : (f : ℕ → List ℕ) (n : ℕ) (pieces : List Piece) → AreFirst f n pieces →
    ((k : ℕ) → n ≤ k → f k ≡ []) → Spell f pieces
all_there f n pieces h none = λ k. at k (slice_get pieces k) refl
  where
    at : (k : ℕ) → (o : Option Piece) → slice_get pieces k ≡ o → MatchOption o (f k ≡ []) (IsPiece (f k))
    at k None e = let l = past_all pieces k e in let count = h.count in none k (omega arith)
    at k (Some x) e = h.each k x e

-- Past the operations of a plan there are no words, and no name past the queues of a script.
pub no_words : (p : Plan) (k : ℕ) → length p.ops ≤ k → words_of_op p k ≡ []
no_words p k past =
    ap (λ (o : Option Op). spaced (option_map_or (λ x. semaphore_name p.script x.chain ∷ decimal x.value ∷ []) o []))
    (slice_get_past p.ops k past)

pub no_name : (s : Script) (k : ℕ) → length s.queues ≤ k → queue_name s k ≡ []
no_name s k past =
    ap (λ (o : Option Queue). option_map_or (λ x. x.name) o []) (slice_get_past s.queues k past)
