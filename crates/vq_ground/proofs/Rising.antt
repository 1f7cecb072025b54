-- Rising lists, and their parts.
use Rattle.std.proofs.Common.{◌≡◌, ℕ, true, List, [], ◌∷◌, ◌++◌, ◌<◌, inl, inr, subst, map, refl, ap, zero, suc, length, arith, get_or, ◌≤◌}
use Rattle.std.specs.Prelude.{nat_lt}
use Rattle.std.specs.List.Sorted.{IsPartitionedBy}
use Rattle.vq_ground.proofs.Tests.{below_test, below_of_test}
use Rattle.vq_ground.specs.Lists.{has, AreRising, AreRisingFrom}
use Rattle.vq_ground.proofs.Lists.{has-append_left, has-append_right, has_cases, has-append_cases, has_here, has_there}
use Rattle.std.proofs.lemmas.Bool.{false≢true}
use Rattle.std.specs.List.{slice_get}
use Rattle.std.specs.Option.{option_map_or}

-- The first list rises where the second does, and has nothing else.
pub record IsPart (xs ys : List ℕ) : Type 0 where
  pub rise : AreRising ys → AreRising xs
  pub among : (x : ℕ) → has xs x ≡ true → has ys x ≡ true

pub rising_left : (xs ys : List ℕ) → AreRising (xs ++ ys) → AreRising xs
rising_left [] ys r = tt
rising_left (x ∷ xs) ys r = ((λ y h. r.0 y (has-append_left xs ys y h)), rising_left xs ys r.1)

pub rising_right : (xs ys : List ℕ) → AreRising (xs ++ ys) → AreRising ys
rising_right [] ys r = r
rising_right (x ∷ xs) ys r = rising_right xs ys r.1

pub rising_across : (xs ys : List ℕ) → AreRising (xs ++ ys) → (x y : ℕ) → has xs x ≡ true → has ys y ≡ true → x < y
rising_across [] ys r x y h m = absurd (false≢true h)
rising_across (z ∷ xs) ys r x y h m = elim (has_cases z xs x h) [
  | inl e ↦ subst (λ k. k < y) e (r.0 y (has-append_right xs ys y m))
  | inr i ↦ rising_across xs ys r.1 x y i m
]

rising_join : (xs ys : List ℕ) → AreRising xs → AreRising ys → ((x y : ℕ) → has xs x ≡ true → has ys y ≡ true → x < y) → AreRising (xs ++ ys)
rising_join [] ys a b f = b
rising_join (x ∷ xs) ys a b f = (
  (λ y h. elim (has-append_cases xs ys y h) [ inl m ↦ a.0 y m | inr m ↦ f x y (has_here x xs) m ]),
  rising_join xs ys a.1 b (λ u y h m. f u y (has_there x xs u h) m),
)

pub part_join : (xs ys us ws : List ℕ) → IsPart xs us → IsPart ys ws → IsPart (xs ++ ys) (us ++ ws)
part_join xs ys us ws a b =
    record {
      rise = λ r. rising_join xs ys (a.rise (rising_left us ws r)) (b.rise (rising_right us ws r)) (λ x y h m. rising_across us ws r x y (a.among x h) (b.among y m));
      among = λ x h. elim (has-append_cases xs ys x h) [ inl m ↦ has-append_left us ws x (a.among x m) | inr m ↦ has-append_right us ws x (b.among x m) ];
    }

pub part_none : (ys : List ℕ) → IsPart [] ys
part_none ys = record { rise = λ r. tt; among = λ x h. absurd (false≢true h) }

pub part_same : (xs : List ℕ) → IsPart xs xs
part_same xs = record { rise = λ r. r; among = λ x h. h }

pub part_left : (xs us ws : List ℕ) → IsPart xs us → IsPart xs (us ++ ws)
part_left xs us ws a = record { rise = λ r. a.rise (rising_left us ws r); among = λ x h. has-append_left us ws x (a.among x h) }

pub part_right : (xs us ws : List ℕ) → IsPart xs ws → IsPart xs (us ++ ws)
part_right xs us ws a = record { rise = λ r. a.rise (rising_right us ws r); among = λ x h. has-append_right us ws x (a.among x h) }

pub map-map : {X Y : Type 0} (f : Y → ℕ) (g : X → Y) (xs : List X) → map f (map g xs) ≡ map (λ x. f (g x)) xs
map-map f g [] = refl
map-map f g (x ∷ xs) = ap (λ zs. f (g x) ∷ zs) (map-map f g xs)

-- numbers that rise are told apart by their places
pub rises_at : {X : Type 0} (f : X → ℕ) (xs : List X) (c d : ℕ) → AreRising (map f xs) → c < d → d < length xs → option_map_or f (slice_get xs c) 0 < option_map_or f (slice_get xs d) 0
rises_at f [] c d r l h = absurd (omega arith)
rises_at f (x ∷ xs) c zero r l h = absurd (omega arith)
rises_at f (x ∷ xs) zero (suc d) r l h = r.0 (option_map_or f (slice_get xs d) 0) (stands xs d (omega arith))
  where
    stands : (ys : List _) (i : ℕ) → i < length ys → has (map f ys) (option_map_or f (slice_get ys i) 0) ≡ true
    stands [] i k = absurd (omega arith)
    stands (y ∷ ys) zero k = has_here (f y) (map f ys)
    stands (y ∷ ys) (suc i) k = has_there (f y) (map f ys) (option_map_or f (slice_get ys i) 0) (stands ys i (omega arith))
rises_at f (x ∷ xs) (suc c) (suc d) r l h = rises_at f xs c d r.1 (omega arith) (omega arith)

-- Numbers that rise from one on

pub rising_above : (n : ℕ) (xs : List ℕ) (j d : ℕ) → AreRisingFrom n xs → j < length xs → n < get_or xs j d
rising_above n [] j d h l = absurd (omega arith)
rising_above n (x ∷ xs) zero d h l = h.0
rising_above n (x ∷ xs) (suc j) d h l = let first = h.0 in let more = rising_above x xs j d h.1 (omega arith) in omega arith

pub rising_from_at : (x : ℕ) (xs : List ℕ) (i j d : ℕ) → AreRisingFrom x xs → i ≤ j → j < suc (length xs) → get_or (x ∷ xs) i d ≤ get_or (x ∷ xs) j d
rising_from_at x xs zero zero d h l m = omega arith
rising_from_at x xs zero (suc j) d h l m = let more = rising_above x xs j d h (omega arith) in omega arith
rising_from_at x xs (suc i) zero d h l m = absurd (omega arith)
rising_from_at x [] (suc i) (suc j) d h l m = absurd (omega arith)
rising_from_at x (y ∷ xs) (suc i) (suc j) d h l m = rising_from_at y xs i j d h.1 (omega arith) (omega arith)

pub parted : (n v : ℕ) (xs : List ℕ) → AreRisingFrom n xs → IsPartitionedBy (λ y. nat_lt y v) xs
parted n v xs h = λ i j d l m e.
    let order = rising_from_at n xs (suc i) (suc j) d h (omega arith) (omega arith) in
    let below = below_of_test (get_or xs j d) v e in
    below_test (get_or xs i d) v (omega arith)

pub above_first : (key : ℕ → ℕ) (n : ℕ) (xs : List ℕ) (x : ℕ) → AreRisingFrom n (map key xs) → has xs x ≡ true → n < key x
above_first key n [] x r h = absurd (false≢true h)
above_first key n (y ∷ ys) x r h = elim (has_cases y ys x h) [
  | inl s ↦ subst (λ (z : ℕ). n < key z) s r.0
  | inr m ↦ let a = r.0 in let b = above_first key (key y) ys x r.1 m in omega arith
]
