-- Tests of what a pass knows say what it knows, and stay so as it learns.
use Rattle.std.proofs.Common.{◌≡◌, ℕ, zero, suc, ◌≤◌, ◌⊎◌, Bool, true, false, ◌&&◌, ◌||◌, ◌==◌, List, [], ◌∷◌, ◌++◌, Some, All, refl, sym, ap, ◌∙◌, arith, inl, inr, nat_le, eq-eqb}
use Rattle.std.specs.List.{slice_get, list_any}
use Rattle.std.proofs.lemmas.Bool.{false≢true, or_cases, or_left, or_right, and_parts, and_from, eqb-true, leb-true, le-leb}
use Rattle.std.proofs.lemmas.List.Elements.{All-nil, All-cons}
use Rattle.vq_ground.proofs.Searches.{found_in}
use Rattle.vq_model.specs.declared.plan.Need.{Need}
use Rattle.vq_model.specs.Plan.{Plan, chain, initial, value, resolver}
use Rattle.vq_ground.proofs.Lists.{any_at, any_has}
use Rattle.vq_turn_laws.specs.Orders.{Within}
use Rattle.vq_board_laws.specs.declared.view.Fact.{Fact}
use Rattle.vq_board_laws.specs.declared.view.Fact.TheVariants.{Job, Taken, Bound, BoundTo, Made, Past}
use Rattle.vq_board_laws.specs.declared.view.JobState.{JobState}
use Rattle.vq_board_laws.specs.declared.view.JobState.TheVariants.{Waiting, Submitted, Released, Started, Finished}
use Rattle.vq_board_laws.specs.Knowledge.{Knows, KnowsSoFar, state_number}
use Rattle.vq_board_laws.specs.May.{KnowsReached, KnowsOneReached}
use Rattle.vq_board.specs.Firsts.{shows_made}
use Rattle.vq_board.proofs.Cited.{shown_known, shown_more}
use Rattle.vq_access_laws.specs.Tests.{knows_far, knows_bound, knows_taken, shows_reaching, shows_reached}

-- Jobs

later : (g : Fact) (fs : List Fact) (j : ℕ) (s : JobState) → KnowsSoFar fs j s → KnowsSoFar (g ∷ fs) j s
later g fs j s k = (k.0, k.1, inr k.2)

pub far_known : (fs : List Fact) (j : ℕ) (s : JobState) → knows_far fs j s ≡ true → KnowsSoFar fs j s
far_known [] j s h = absurd (false≢true h)
far_known (Job i r ∷ fs) j s h =
    elim (or_cases ((i == j) && nat_le (state_number s) (state_number r)) (knows_far fs j s) h) [
      | inl t ↦
          let q = and_parts (i == j) (nat_le (state_number s) (state_number r)) t in
          (r, leb-true (state_number s) (state_number r) q.1, inl (λ k. Job (eqb-true i j q.0 k) r))
      | inr t ↦ later (Job i r) fs j s (far_known fs j s t)
    ]
far_known (Taken f ∷ fs) j s h = later (Taken f) fs j s (far_known fs j s h)
far_known (Bound f ∷ fs) j s h = later (Bound f) fs j s (far_known fs j s h)
far_known (BoundTo f q ∷ fs) j s h = later (BoundTo f q) fs j s (far_known fs j s h)
far_known (Made f ∷ fs) j s h = later (Made f) fs j s (far_known fs j s h)
far_known (Past f ∷ fs) j s h = later (Past f) fs j s (far_known fs j s h)

pub finished_known : (fs : List Fact) (j : ℕ) → knows_far fs j Finished ≡ true → Knows fs (Job j Finished)
finished_known fs j h = let k = far_known fs j Finished h in by_state k.0 k.1 k.2
  where
    by_state : (s : JobState) → 4 ≤ state_number s → Knows fs (Job j s) → Knows fs (Job j Finished)
    by_state Waiting l k = absurd (omega arith)
    by_state Submitted l k = absurd (omega arith)
    by_state Released l k = absurd (omega arith)
    by_state Started l k = absurd (omega arith)
    by_state Finished l k = k

-- Operations

pub bound_known : (fs : List Fact) (e : ℕ) → knows_bound fs e ≡ true → Knows fs (Bound e)
bound_known [] e h = absurd (false≢true h)
bound_known (Bound f ∷ fs) e h = elim (or_cases (f == e) (knows_bound fs e) h) [
  | inl t ↦ inl (ap Bound (eqb-true f e t))
  | inr t ↦ inr (bound_known fs e t)
]
bound_known (Job i r ∷ fs) e h = inr (bound_known fs e h)
bound_known (Taken f ∷ fs) e h = inr (bound_known fs e h)
bound_known (BoundTo f q ∷ fs) e h = inr (bound_known fs e h)
bound_known (Made f ∷ fs) e h = inr (bound_known fs e h)
bound_known (Past f ∷ fs) e h = inr (bound_known fs e h)

abbrev KnowsPlaced : List Fact → ℕ → Type 0
KnowsPlaced fs e = Knows fs (Taken e) ⊎ Knows fs (Bound e)

placed_later : (g : Fact) (fs : List Fact) (e : ℕ) → KnowsPlaced fs e → KnowsPlaced (g ∷ fs) e
placed_later g fs e (inl k) = inl (inr k)
placed_later g fs e (inr k) = inr (inr k)

pub taken_known : (fs : List Fact) (e : ℕ) → knows_taken fs e ≡ true → Knows fs (Taken e) ⊎ Knows fs (Bound e)
taken_known [] e h = absurd (false≢true h)
taken_known (Taken f ∷ fs) e h = elim (or_cases (f == e) (knows_taken fs e) h) [
  | inl t ↦ inl (inl (ap Taken (eqb-true f e t)))
  | inr t ↦ placed_later (Taken f) fs e (taken_known fs e t)
]
taken_known (Bound f ∷ fs) e h = elim (or_cases (f == e) (knows_taken fs e) h) [
  | inl t ↦ inr (inl (ap Bound (eqb-true f e t)))
  | inr t ↦ placed_later (Bound f) fs e (taken_known fs e t)
]
taken_known (Job i r ∷ fs) e h = placed_later (Job i r) fs e (taken_known fs e h)
taken_known (BoundTo f q ∷ fs) e h = placed_later (BoundTo f q) fs e (taken_known fs e h)
taken_known (Made f ∷ fs) e h = placed_later (Made f) fs e (taken_known fs e h)
taken_known (Past f ∷ fs) e h = placed_later (Past f) fs e (taken_known fs e h)

-- Needs

any_place : (f : Need → Bool) (xs : List Need) → list_any f xs ≡ true →
    (k : ℕ) × (x : Need) × (slice_get xs k ≡ Some x) × (f x ≡ true)
any_place f [] h = absurd (false≢true h)
any_place f (x ∷ xs) h = elim (or_cases (f x) (list_any f xs) h) [
  | inl t ↦ (0, x, refl, t)
  | inr t ↦ let r = any_place f xs t in (suc r.0, r.1, r.2, r.3)
]

pub place_any : (f : Need → Bool) (xs : List Need) (k : ℕ) (x : Need) → slice_get xs k ≡ Some x → f x ≡ true →
    list_any f xs ≡ true
place_any f [] k x at t = absurd (let z = at in cc)
place_any f (y ∷ ys) zero x at t =
    let same : y ≡ x = let z = at in cc in
    or_left (f y) (list_any f ys) (ap f same ∙ t)
place_any f (y ∷ ys) (suc k) x at t = or_right (f y) (list_any f ys) (place_any f ys k x at t)

module _ (p : Plan) (known : List Fact) where
  pub reached_known : (n : Need) → shows_reached p known n ≡ true → KnowsReached p known n
  reached_known n h =
      elim (or_cases (nat_le n.value (initial p n.chain)) (list_any (shows_reaching p known n) (chain p n.chain)) h) [
        | inl t ↦ inl (leb-true n.value (initial p n.chain) t)
        | inr t ↦
            let r = any_at (shows_reaching p known n) (chain p n.chain) t in
            let q = and_parts (nat_le n.value (value p r.0)) (shows_made known r.0) r.2 in
            inr record {
              op = r.0;
              in_chain = r.1;
              reaches = leb-true n.value (value p r.0) q.0;
              made = shown_known p known r.0 q.1;
            }
      ]

  pub one_known : (ns : List Need) → list_any (shows_reached p known) ns ≡ true → KnowsOneReached p known ns
  one_known ns h =
      let r = any_place (shows_reached p known) ns h in
      record { place = r.0; need = r.1; is = r.2; reached = reached_known r.1 r.3 }

  or_no : (b : Bool) → (b || false) ≡ b
  or_no true = refl
  or_no false = refl

  pub all_known : (ns : List Need) →
      ((n : Need) → Within n ns → list_any (shows_reached p known) (n ∷ []) ≡ true) → All (KnowsReached p known) ns
  all_known [] f = All-nil (KnowsReached p known)
  all_known (n ∷ ns) f = All-cons (KnowsReached p known) n ns
      (reached_known n (sym (or_no (shows_reached p known n)) ∙ f n (inl refl))) (all_known ns (λ m w. f m (inr w)))

  -- an operation that resolves the need was shown made
  pub resolver_reached : (n : Need) (e : ℕ) → resolver p n.chain n.value ≡ Some e → shows_made known e ≡ true →
      shows_reached p known n ≡ true
  resolver_reached n e resolves made =
      let f = found_in (λ x. nat_le n.value (value p x)) (chain p n.chain) e resolves in
      or_right (nat_le n.value (initial p n.chain)) (list_any (shows_reaching p known n) (chain p n.chain))
      (any_has (shows_reaching p known n) (chain p n.chain) e f.0
      (and_from (nat_le n.value (value p e)) (shows_made known e) f.1 made))

-- More is known

pub far_more : (front fs : List Fact) (j : ℕ) (s : JobState) → knows_far fs j s ≡ true →
    knows_far (front ++ fs) j s ≡ true
far_more [] fs j s h = h
far_more (Job i r ∷ front) fs j s h =
    or_right ((i == j) && nat_le (state_number s) (state_number r)) (knows_far (front ++ fs) j s)
    (far_more front fs j s h)
far_more (Taken f ∷ front) fs j s h = far_more front fs j s h
far_more (Bound f ∷ front) fs j s h = far_more front fs j s h
far_more (BoundTo f q ∷ front) fs j s h = far_more front fs j s h
far_more (Made f ∷ front) fs j s h = far_more front fs j s h
far_more (Past f ∷ front) fs j s h = far_more front fs j s h

pub bound_more : (front fs : List Fact) (e : ℕ) → knows_bound fs e ≡ true → knows_bound (front ++ fs) e ≡ true
bound_more [] fs e h = h
bound_more (Bound f ∷ front) fs e h = or_right (f == e) (knows_bound (front ++ fs) e) (bound_more front fs e h)
bound_more (Job i r ∷ front) fs e h = bound_more front fs e h
bound_more (Taken f ∷ front) fs e h = bound_more front fs e h
bound_more (BoundTo f q ∷ front) fs e h = bound_more front fs e h
bound_more (Made f ∷ front) fs e h = bound_more front fs e h
bound_more (Past f ∷ front) fs e h = bound_more front fs e h

pub taken_more : (front fs : List Fact) (e : ℕ) → knows_taken fs e ≡ true → knows_taken (front ++ fs) e ≡ true
taken_more [] fs e h = h
taken_more (Taken f ∷ front) fs e h = or_right (f == e) (knows_taken (front ++ fs) e) (taken_more front fs e h)
taken_more (Bound f ∷ front) fs e h = or_right (f == e) (knows_taken (front ++ fs) e) (taken_more front fs e h)
taken_more (Job i r ∷ front) fs e h = taken_more front fs e h
taken_more (BoundTo f q ∷ front) fs e h = taken_more front fs e h
taken_more (Made f ∷ front) fs e h = taken_more front fs e h
taken_more (Past f ∷ front) fs e h = taken_more front fs e h

pub any_more : {A : Type 0} (f g : A → Bool) (xs : List A) → ((x : A) → f x ≡ true → g x ≡ true) →
    list_any f xs ≡ true → list_any g xs ≡ true
any_more f g [] up h = h
any_more f g (x ∷ xs) up h = elim (or_cases (f x) (list_any f xs) h) [
  | inl t ↦ or_left (g x) (list_any g xs) (up x t)
  | inr t ↦ or_right (g x) (list_any g xs) (any_more f g xs up t)
]

pub reached_more : (p : Plan) (front fs : List Fact) (n : Need) → shows_reached p fs n ≡ true →
    shows_reached p (front ++ fs) n ≡ true
reached_more p front fs n h =
    elim (or_cases (nat_le n.value (initial p n.chain)) (list_any (shows_reaching p fs n) (chain p n.chain)) h) [
      | inl t ↦ or_left (nat_le n.value (initial p n.chain))
          (list_any (shows_reaching p (front ++ fs) n) (chain p n.chain)) t
      | inr t ↦ or_right (nat_le n.value (initial p n.chain))
          (list_any (shows_reaching p (front ++ fs) n) (chain p n.chain))
          (any_more (shows_reaching p fs n) (shows_reaching p (front ++ fs) n) (chain p n.chain) up t)
    ]
  where
    up : (e : ℕ) → shows_reaching p fs n e ≡ true → shows_reaching p (front ++ fs) n e ≡ true
    up e t =
        let q = and_parts (nat_le n.value (value p e)) (shows_made fs e) t in
        and_from (nat_le n.value (value p e)) (shows_made (front ++ fs) e) q.0 (shown_more front fs e q.1)

-- Just seen

-- a job was just seen so far
pub far_here : (fs : List Fact) (j : ℕ) (s r : JobState) → state_number s ≤ state_number r →
    knows_far (Job j r ∷ fs) j s ≡ true
far_here fs j s r l =
    or_left ((j == j) && nat_le (state_number s) (state_number r)) (knows_far fs j s)
    (and_from (j == j) (nat_le (state_number s) (state_number r)) (eq-eqb j j refl)
    (le-leb (state_number s) (state_number r) l))

pub bound_here : (fs : List Fact) (e : ℕ) → knows_bound (Bound e ∷ fs) e ≡ true
bound_here fs e = or_left (e == e) (knows_bound fs e) (eq-eqb e e refl)

pub taken_here : (fs : List Fact) (e : ℕ) → knows_taken (Taken e ∷ fs) e ≡ true
taken_here fs e = or_left (e == e) (knows_taken fs e) (eq-eqb e e refl)

pub past_here : (fs : List Fact) (e : ℕ) → shows_made (Past e ∷ fs) e ≡ true
past_here fs e = or_left (e == e) (shows_made fs e) (eq-eqb e e refl)

pub made_here : (fs : List Fact) (e : ℕ) → shows_made (Made e ∷ fs) e ≡ true
made_here fs e = or_left (e == e) (shows_made fs e) (eq-eqb e e refl)
