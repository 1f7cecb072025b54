-- The payload of a chain: it is the initial value or what a made operation sets, none of these is above it, and a signal that is above it becomes it.
use Rattle.std.proofs.Common.{◌≡◌, ◌≢◌, ℕ, ◌<◌, ◌≤◌, max, Bool, true, List, [], ◌∷◌, map, filter, refl, ap, sym, ◌∙◌, subst, arith, inl, inr, Some}
use mathlib.Core.Logic.{dite}
use Rattle.std.proofs.lemmas.Option.{same_Some}
use native.Mathlib.Decide.{ℕ_discrete, dec_le}
use Rattle.std.proofs.lemmas.Bool.{false≢true}
use Rattle.vq_model.specs.Machine.{put}
use Rattle.vq_model.specs.Plan.{Plan, value, initial, chain, chain_of}
use Rattle.vq_ground.specs.Lists.{has}
use Rattle.vq_model.specs.SlowRun.{greatest}
use Rattle.vq_model.specs.WellFormed.{IsWellFormed}
use Rattle.vq_ground.proofs.Filters.{filter-has, filter-has_cases, same_filter}
use Rattle.vq_ground.proofs.Lists.{has_here, has_there, has_cases}
use Rattle.vq_model.proofs.Puts.{put_here, put_there, put_cases}
use Rattle.vq_board_laws.specs.Reached.{IsPayload}
use Rattle.vq_board_laws.specs.Words.{payload_of}
use Rattle.vq_board_laws.proofs.Columns.{put_each}

-- The greatest of an initial number and others

first_within : (xs : List ℕ) (n : ℕ) → n ≤ greatest n xs
first_within [] n = omega arith
first_within (x ∷ xs) n = let rest = first_within xs (max n x) in omega arith

each_within : (xs : List ℕ) (n x : ℕ) → has xs x ≡ true → x ≤ greatest n xs
each_within [] n x h = absurd (false≢true h)
each_within (y ∷ xs) n x h = elim (has_cases y xs x h) [ inl e ↦ let rest = first_within xs (max n y) in omega arith | inr m ↦ each_within xs (max n y) x m ]

-- what holds of all of them holds of the greatest
greatest_is : (P : ℕ → Type 0) (xs : List ℕ) (n : ℕ) → P n → ((x : ℕ) → has xs x ≡ true → P x) → P (greatest n xs)
greatest_is P [] n h f = h
greatest_is P (x ∷ xs) n h f = greatest_is P xs (max n x) (max_is n x h (f x (has_here x xs))) (λ y m. f y (has_there x xs y m))
  where
    max_is : (a b : ℕ) → P a → P b → P (max a b)
    max_is a b l r = elim (dec_le a b) [
      | yes h ↦ let e : max a b ≡ b = omega arith in subst P (sym e) r
      | no h ↦ let e : max a b ≡ a = omega arith in subst P (sym e) l
    ]

-- Values of operations

has_value : (p : Plan) (es : List ℕ) (e : ℕ) → has es e ≡ true → has (map (value p) es) (value p e) ≡ true
has_value p [] e h = absurd (false≢true h)
has_value p (x ∷ es) e h = elim (has_cases x es e h) [
  | inl is ↦ subst (λ (z : ℕ). has (value p x ∷ map (value p) es) (value p z) ≡ true) is (has_here (value p x) (map (value p) es))
  | inr m ↦ has_there (value p x) (map (value p) es) (value p e) (has_value p es e m)
]

value_cases : (p : Plan) (es : List ℕ) (n : ℕ) → has (map (value p) es) n ≡ true → (e : ℕ) × (has es e ≡ true) × (value p e ≡ n)
value_cases p [] n h = absurd (false≢true h)
value_cases p (x ∷ es) n h = elim (has_cases (value p x) (map (value p) es) n h) [
  | inl is ↦ (x, has_here x es, is)
  | inr m ↦ let r = value_cases p es n m in (r.0, has_there x es r.0 r.1, r.2)
]

-- Payloads

module _ (p : Plan) (made : ℕ → Bool) (t : ℕ) where
  abbrev values : List ℕ
  values = map (value p) (filter made (chain p t))

  pub initial_within : initial p t ≤ payload_of p made t
  initial_within = first_within values (initial p t)

  -- what is made stands at or below its chain's payload
  pub made_within : (e : ℕ) → has (chain p t) e ≡ true → made e ≡ true → value p e ≤ payload_of p made t
  made_within e h m = each_within values (initial p t) (value p e) (has_value p (filter made (chain p t)) e (filter-has made (chain p t) e h m))

  -- what holds of the initial value and of each that a made operation sets holds of the payload
  payload_has : (P : ℕ → Type 0) → P (initial p t) → ((e : ℕ) → has (chain p t) e ≡ true → made e ≡ true → P (value p e)) → P (payload_of p made t)
  payload_has P first each = greatest_is P values (initial p t) first (λ n h.
      let v = value_cases p (filter made (chain p t)) n h in
      let m = filter-has_cases made (chain p t) v.0 v.1 in
      subst P v.2 (each v.0 m.0 m.1))

  pub is_payload : IsWellFormed p → IsPayload p t (payload_of p made t)
  is_payload w = payload_has (IsPayload p t) (inl refl) (λ e h m. inr (e, w.of_chain e t h, refl))

-- A signal

module _ (p : Plan) (w : IsWellFormed p) (made : ℕ → Bool) (e t : ℕ) (in_chain : chain_of p e ≡ Some t) (low : payload_of p made t < value p e) where
  abbrev more : ℕ → Bool
  more = put made e true

  -- the payload of the chain is the value of the operation that is made
  payload_here : payload_of p more t ≡ value p e
  payload_here =
      let first = initial_within p made t in
      let least = made_within p more t e (w.in_chain e t in_chain) (put_here made e true) in
      let most : payload_of p more t ≤ value p e = payload_has p more t (λ n. n ≤ value p e) (omega arith) (λ x h m. elim (put_cases made e x m) [
        | inl is ↦ let same = ap (value p) is in omega arith
        | inr old ↦ let within = made_within p made t x h old in omega arith
      ]) in omega arith

  payload_else : (u : ℕ) → u ≢ t → payload_of p more u ≡ payload_of p made u
  payload_else u ne = ap (λ (es : List ℕ). greatest (initial p u) (map (value p) es)) (same_filter more made (chain p u) (λ x h. put_there made e true x (λ is.
      ne (same_Some u t (sym (w.of_chain x u h) ∙ (ap (chain_of p) is ∙ in_chain))))))

  pub payload_set : (u : ℕ) → put (payload_of p made) t (value p e) u ≡ payload_of p more u
  payload_set = put_each (payload_of p made) t (value p e) (λ u y. y ≡ payload_of p more u) (sym payload_here) (λ u ne. sym (payload_else u ne))

  pub payload_rises : (u : ℕ) → payload_of p made u ≤ payload_of p more u
  payload_rises u = dite (ℕ_discrete u t) (λ is. subst (λ (z : ℕ). payload_of p made z ≤ payload_of p more z) (sym is) (let here = payload_here in omega arith)) (λ ne. let same = payload_else u ne in omega arith)
