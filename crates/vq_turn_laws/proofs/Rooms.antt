-- How many needs were waited for, by the operation that resolves them.
use Rattle.std.proofs.Common.{◌≡◌, ℕ, ◌≤◌, ◌+◌, ◌&&◌, Bool, true, false, if◌then◌else◌, List, [], ◌∷◌, ◌++◌, map}
use Rattle.std.proofs.Common.{filter, refl, ap, ◌∙◌, arith}
use Rattle.std.specs.List.{count_by}
use Rattle.vq_model.specs.declared.plan.Need.{Need}
use Rattle.vq_model.specs.Plan.{Plan}
use Rattle.vq_point_laws.specs.Points.{resolves}
use Rattle.vq_turns.specs.declared.task.Task.{Task}
use Rattle.vq_turns.specs.declared.task.Task.TheVariants.{AwaitNeeds}
use Rattle.vq_turn_laws.specs.Orders.{waited_since}
use Rattle.vq_turn_laws.specs.Tasks.{onto}
use Rattle.vq_history_laws.specs.Measure.{one}
use Rattle.vq_history_laws.proofs.Cited.{count_cons}
use Rattle.vq_turn_laws.proofs.ProgramLaws.{onto_append}

pub count_both : (a b c : Need → Bool) → ((n : Need) → one (a n) + one (b n) ≤ one (c n)) → (ns : List Need) →
    count_by a ns + count_by b ns ≤ count_by c ns
count_both a b c f [] = omega arith
count_both a b c f (n ∷ ns) =
    let x = count_cons a n ns in
    let y = count_cons b n ns in
    let z = count_cons c n ns in
    let r = count_both a b c f ns in
    let h = f n in
    omega arith

pub count_below : (a c : Need → Bool) → ((n : Need) → one (a n) ≤ one (c n)) → (ns : List Need) →
    count_by a ns ≤ count_by c ns
count_below a c f [] = omega arith
count_below a c f (n ∷ ns) =
    let x = count_cons a n ns in
    let z = count_cons c n ns in
    let r = count_below a c f ns in
    let h = f n in
    omega arith

pub count_filter : (t r : Need → Bool) (ns : List Need) → count_by r (filter t ns) ≡ count_by (λ n. t n && r n) ns
count_filter t r [] = refl
count_filter t r (n ∷ ns) = by_test (t n) refl (count_filter t r ns)
  where
    by_test : (b : Bool) → t n ≡ b → count_by r (filter t ns) ≡ count_by (λ m. t m && r m) ns →
        count_by r (if b then n ∷ filter t ns else filter t ns) ≡ count_by (λ m. t m && r m) (n ∷ ns)
    by_test true e h =
        let x = count_cons r n (filter t ns) in
        let y = count_cons (λ m. t m && r m) n ns in
        let z : one (t n && r n) ≡ one (r n) = ap (λ b. one (b && r n)) e in
        omega arith
    by_test false e h =
        let y = count_cons (λ m. t m && r m) n ns in
        let z : one (t n && r n) ≡ 0 = ap (λ b. one (b && r n)) e in
        omega arith

-- two tests that exclude each other
pub bits_both : (a b c r : Bool) → (a ≡ true → c ≡ true) → (b ≡ true → c ≡ true) → (a ≡ true → b ≡ true → ⊥) →
    one (a && r) + one (b && r) ≤ one (c && r)
bits_both true true c r f g h = absurd (h refl refl)
bits_both true false c r f g h = let x : one (c && r) ≡ one r = ap (λ b. one (b && r)) (f refl) in omega arith
bits_both false true c r f g h = let x : one (c && r) ≡ one r = ap (λ b. one (b && r)) (g refl) in omega arith
bits_both false false c r f g h = omega arith

pub bits_below : (a c r : Bool) → (a ≡ true → c ≡ true) → one (a && r) ≤ one (c && r)
bits_below true c r f = let x : one (c && r) ≡ one r = ap (λ b. one (b && r)) (f refl) in omega arith
bits_below false c r f = omega arith

pub filter_few : (t r : Need → Bool) (ns : List Need) → count_by r (filter t ns) ≤ count_by r ns
filter_few t r ns =
    let x = count_filter t r ns in
    let y = count_below (λ n. t n && r n) r (λ n. bits_below (t n) true (r n) (λ e. refl)) ns in
    omega arith

pub waited_waits : (p : Plan) (e : ℕ) (ns : List Need) (before : List Task) →
    waited_since p e (onto (map (λ n. AwaitNeeds (n ∷ [])) ns) before) ≡ waited_since p e before + count_by
    (resolves p e) ns
waited_waits p e [] before = omega arith
waited_waits p e (n ∷ ns) before =
    let r = waited_waits p e ns (AwaitNeeds (n ∷ []) ∷ before) in
    let x = count_cons (resolves p e) n ns in
    let y = count_cons (resolves p e) n [] in
    omega arith

-- tasks that wait for no needs
abbrev pub Quiet : Plan → List Task → Type 0
Quiet p ts = (e : ℕ) (before : List Task) → waited_since p e (onto ts before) ≡ waited_since p e before

pub quiet_append : (p : Plan) (xs ys : List Task) → Quiet p xs → Quiet p ys → Quiet p (xs ++ ys)
quiet_append p xs ys f g = λ e before. ap (waited_since p e) (onto_append xs ys before) ∙
    (g e (onto xs before) ∙ f e before)

pub quiet_map : (p : Plan) (f : ℕ → Task) →
    ((x e : ℕ) (before : List Task) → waited_since p e (f x ∷ before) ≡ waited_since p e before) → (xs : List ℕ) →
    Quiet p (map f xs)
quiet_map p f q [] = λ e before. refl
quiet_map p f q (x ∷ xs) = λ e before. quiet_map p f q xs e (f x ∷ before) ∙ q x e before
