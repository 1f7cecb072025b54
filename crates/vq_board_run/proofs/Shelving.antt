-- The timelines of a plan's chains, one after another, with the passes of their shelves.
use Rattle.std.proofs.Common.{◌≡◌, ◌+◌, ◌<◌, ◌++◌, ◌⊎◌, inl, inr, ℕ, zero, suc, List, [], ◌∷◌, Some, length, map}
use Rattle.std.proofs.Common.{get_or, length-append, refl, sym, ap, ◌∙◌, subst, arith}
use Rattle.std.specs.List.{range_with_len, slice_get, zip}
use Rattle.std.proofs.lemmas.Option.{same_Some}
use Rattle.std.proofs.lemmas.List.FromFn.{get_or-range_with_len, get_or-map-range_with_len}
use Rattle.std.proofs.lemmas.List.FromFn.{length-range_with_len, length-map-range_with_len}
use Rattle.std.proofs.lemmas.Slice.Zip.{get_or-zip, length-zip}
use Rattle.vq_board_laws.specs.declared.view.Role.TheVariants.{Shelf}
use Rattle.vq_board.specs.declared.parts.Board.{Board}
use Rattle.vq_board.specs.declared.parts.Pass.{Pass}
use Rattle.vq_board.specs.Named.{plan_of, role_of, AreFresh, IsFresh}
use Rattle.vq_access.specs.Timelines.{AreOf}
use Rattle.vq_timeline.specs.declared.timeline.LockedTimeline.{LockedTimeline}
use Rattle.vq_timeline.specs.Named.{IsAt, chain_at}
use Rattle.vq_board_run.proofs.Dealt.{dealt_count, dealt_fresh, dealt_role}

-- a chain with the pass of its shelf, which has done nothing
pub record IsShelved (b : Board) (n k : ℕ) (y : ℕ × Pass) : Type 0 where
  pub chain : y.0 ≡ k
  pub within : k < n
  pub fresh : IsFresh b y.1
  pub role : role_of y.1 ≡ Shelf k

module _ (b : Board) (n : ℕ) (xs : List Pass) (dealt : AreFresh b xs (map Shelf (range_with_len 0 n))) where
  as_many : length xs ≡ n
  as_many = dealt_count b xs _ dealt ∙ length-map-range_with_len Shelf 0 n

  -- all chains have their passes
  pub zipped : length (zip (range_with_len 0 n) xs) ≡ n
  zipped =
      let size = length-zip (range_with_len 0 n) xs in
      let chains = length-range_with_len 0 n in
      let shelves = as_many in
      omega (arith, size, chains, shelves)

  -- the next of them
  pub next_shelf : (k : ℕ) (y : ℕ × Pass) →
      (k < length (zip (range_with_len 0 n) xs)) × (y ≡ get_or (zip (range_with_len 0 n) xs) k y) → IsShelved b n k y
  next_shelf k y h =
      let size = zipped in
      let low = h.0 in
      let within : k < n = omega arith in
      let chains = length-range_with_len 0 n in
      let shelves = as_many in
      let first : k < length (range_with_len 0 n) = omega arith in
      let second : k < length xs = omega arith in
      let is : y ≡ (get_or (range_with_len 0 n) k y.0, get_or xs k y.1) =
      h.1 ∙ get_or-zip (range_with_len 0 n) xs k y first second in
      let pass : y.1 ≡ get_or xs k y.1 = ap (λ (z : ℕ × Pass). z.1) is in
      let same : 0 + k ≡ k = omega arith in
      record {
        chain = ap (λ (z : ℕ × Pass). z.0) is ∙ (get_or-range_with_len 0 n k y.0 within ∙ same);
        within = within;
        fresh = subst (IsFresh b) (sym pass) (dealt_fresh b xs _ dealt k y.1 second);
        role = ap role_of pass
            ∙ (dealt_role b xs _ dealt k y.1 (Shelf 0) second
            ∙ get_or-map-range_with_len Shelf 0 n k k (Shelf 0) within same);
      }

-- the timelines of the first n chains
pub record AreFirstOf (b : Board) (n : ℕ) (ts : List LockedTimeline) : Type 0 where
  pub count : length ts ≡ n
  pub each : (t : ℕ) (x : LockedTimeline) → slice_get ts t ≡ Some x → IsAt b x × (chain_at x ≡ t)

-- what stands at a place of a list with one more
got : {A : Type 0} (xs : List A) (y : A) (k : ℕ) (x : A) → slice_get (xs ++ y ∷ []) k ≡ Some x →
    (slice_get xs k ≡ Some x) ⊎ ((x ≡ y) × (k ≡ length xs))
got [] y zero x e = inr (sym (same_Some y x e), refl)
got [] y (suc k) x e = absurd (cc)
got (z ∷ zs) y zero x e = inl e
got (z ∷ zs) y (suc k) x e = elim (got zs y k x e) [
  | inl h ↦ inl h
  | inr h ↦ inr (h.0, ap suc h.1)
]

-- a timeline more
pub timelines_more : (b : Board) (k n : ℕ) (ts more : List LockedTimeline) (t : LockedTimeline) → AreFirstOf b k ts →
    IsAt b t → chain_at t ≡ k → n ≡ k + 1 → more ≡ ts ++ t ∷ [] → AreFirstOf b n more
timelines_more b k n ts more t h at number next is =
    subst (AreFirstOf b n) (sym is)
    (record {
      count = (let count = h.count in let longer = length-append ts (t ∷ []) in omega (arith, longer, count, next));
      each = λ m x e. by_place m x (got ts t m x e);
    })
  where
    by_place : (n : ℕ) (x : LockedTimeline) → (slice_get ts n ≡ Some x) ⊎ ((x ≡ t) × (n ≡ length ts)) →
        IsAt b x × (chain_at x ≡ n)
    by_place n x (inl e) = h.each n x e
    by_place n x (inr e) =
        (subst (IsAt b) (sym e.0) at, ap chain_at e.0 ∙ (number ∙ (sym h.count ∙ sym e.1)))

-- those of all chains
pub timelines_all : (b : Board) (n : ℕ) (ts : List LockedTimeline) → AreFirstOf b n ts → n ≡ length (plan_of b).chains →
    AreOf b ts
timelines_all b n ts h e = record { count = h.count ∙ e; each = h.each }
