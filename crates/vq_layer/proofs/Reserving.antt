-- Takes that are reserved first are the takes that are not.
use Rattle.std.proofs.Common.{◌≡◌, ◌⊎◌, ℕ, zero, suc, ◌+◌, ◌-◌, ◌<◌, Bool, true, false, List, [], ◌∷◌, ◌++◌, length, take, drop, set, get_or, Option, None, Some, inl, inr, refl, sym, ◌∙◌, ap, subst, arith}
use Rattle.std.specs.Prelude.{nat_eq, if◌then◌else◌}
use Rattle.std.proofs.lemmas.List.{length-set, take_more, drop_more}
use Rattle.vq_layer.proofs.Apart.{none_first}
use Rattle.vq_live.specs.declared.answers.Slot.{Slot}
use Rattle.vq_live.specs.declared.answers.TakeFault.{TakeFault}
use Rattle.vq_live.specs.declared.answers.TakeFault.TheVariants as take_as
use Rattle.vq_live.specs.declared.answers.ReserveFault.{ReserveFault}
use Rattle.vq_live.specs.declared.answers.ReserveFault.TheVariants as reserve_as
use Rattle.vq_live.specs.Live.{Live, opened}
use Rattle.vq_live.specs.Calls.{take_fault, after_take, given_to, after_reserve, LacksRoom, MayLack}
use Rattle.vq_layer.specs.declared.answers.Wanted.{Wanted}
use Rattle.vq_layer.specs.declared.answers.Signal.{Signal}
use Rattle.vq_layer.specs.Layer.{AreBare, live_at}
use Rattle.vq_layer.specs.Names.{is_named, first_some}
use Rattle.vq_layer.specs.Takes.{not_taken, first_take_fault, take_in, signal_in, taken_all, signals_all, AreApart, AreKnown, reserve_in, reserved_all, unreserved_all, IsReserved, AreReserved, lack_of}
use Rattle.vq_layer.specs.Calls.{MayLackOf}
use Rattle.vq_layer.proofs.Ground.{other_number, equal_true, equal_false, true_false, read_set, back_set, over_set, swap_set}

-- what is named first is named
named_first : (w : Wanted) (ws : List Wanted) → is_named w.timeline (w ∷ ws) ≡ true
named_first w ws = ap (λ (b : Bool). if b then true else is_named w.timeline ws) (equal_true w.timeline w.timeline refl)

named_later : (n : ℕ) (w : Wanted) (ws : List Wanted) → is_named n ws ≡ true → is_named n (w ∷ ws) ≡ true
named_later n w ws e = by_test (nat_eq w.timeline n)
  where
    by_test : (b : Bool) → (if b then true else is_named n ws) ≡ true
    by_test true = refl
    by_test false = e

pub not_named : (n : ℕ) (w : Wanted) (ws : List Wanted) → is_named n (w ∷ ws) ≡ false → (w.timeline ≡ n → ⊥) × (is_named n ws ≡ false)
not_named n w ws h = by_test (nat_eq w.timeline n) refl h
  where
    by_test : (b : Bool) → nat_eq w.timeline n ≡ b → (if b then true else is_named n ws) ≡ false → (w.timeline ≡ n → ⊥) × (is_named n ws ≡ false)
    by_test true e q = absurd (cc)
    by_test false e q = (other_number w.timeline n e, q)

-- of the first so many
named_take : (n i : ℕ) (ws : List Wanted) → is_named n ws ≡ false → is_named n (take i ws) ≡ false
named_take n zero ws h = refl
named_take n (suc i) [] h = refl
named_take n (suc i) (w ∷ ws) h =
    let both = not_named n w ws h in
    ap (λ (b : Bool). if b then true else is_named n (take i ws)) (equal_false w.timeline n both.0) ∙ named_take n i ws both.1

pub apart_take : (i : ℕ) (ws : List Wanted) → AreApart ws → AreApart (take i ws)
apart_take zero ws h = tt
apart_take (suc i) [] h = tt
apart_take (suc i) (w ∷ ws) h = (named_take w.timeline i ws h.0, apart_take i ws h.1)

pub named_at : (ws : List Wanted) (i : ℕ) (d : Wanted) → i < length ws → is_named (get_or ws i d).timeline ws ≡ true
named_at [] i d l = absurd (omega arith)
named_at (w ∷ ws) zero d l = named_first w ws
named_at (w ∷ ws) (suc i) d l = named_later (get_or ws i d).timeline w ws (named_at ws i d (omega arith))

pub known_at : (ts : List Live) (ws : List Wanted) (i : ℕ) (d : Wanted) → AreKnown ts ws → i < length ws → (get_or ws i d).timeline < length ts
known_at ts [] i d h l = absurd (omega arith)
known_at ts (w ∷ ws) zero d h l = h.0
known_at ts (w ∷ ws) (suc i) d h l = known_at ts ws i d h.1 (omega arith)

-- reserving changes only what is reserved
pub count_reserved : (ts : List Live) (ws : List Wanted) → length (reserved_all ts ws) ≡ length ts
count_reserved ts [] = refl
count_reserved ts (w ∷ ws) = count_reserved (reserve_in ts w.timeline 1) ws ∙ length-set ts w.timeline _

slots_reserve : (ts : List Live) (m n c : ℕ) → ((live_at (reserve_in ts m c) n).slots ≡ (live_at ts n).slots) × ((live_at (reserve_in ts m c) n).free ≡ (live_at ts n).free)
slots_reserve ts m n c =
    read_set (λ (x : Live). (x.slots ≡ (live_at ts n).slots) × (x.free ≡ (live_at ts n).free)) (opened 0) ts m n (after_reserve (live_at ts m) c)
    (λ e. (ap (λ (k : ℕ). (live_at ts k).slots) e, ap (λ (k : ℕ). (live_at ts k).free) e)) (refl, refl)

pub slots_reserved : (ts : List Live) (ws : List Wanted) (n : ℕ) → ((live_at (reserved_all ts ws) n).slots ≡ (live_at ts n).slots) × ((live_at (reserved_all ts ws) n).free ≡ (live_at ts n).free)
slots_reserved ts [] n = (refl, refl)
slots_reserved ts (w ∷ ws) n =
    let rest = slots_reserved (reserve_in ts w.timeline 1) ws n in
    let one = slots_reserve ts w.timeline n 1 in
    (rest.0 ∙ one.0, rest.1 ∙ one.1)

-- one more is reserved
reserved_push : (ts : List Live) (ws : List Wanted) (w : Wanted) → reserved_all ts (ws ++ w ∷ []) ≡ reserve_in (reserved_all ts ws) w.timeline 1
reserved_push ts [] w = refl
reserved_push ts (x ∷ xs) w = reserved_push (reserve_in ts x.timeline 1) xs w

pub reserved_more : (ts : List Live) (ws : List Wanted) (i : ℕ) (d : Wanted) (us vs : List Live) → i < length ws → us ≡ reserved_all ts (take i ws) → vs ≡ reserve_in us (get_or ws i d).timeline 1 → vs ≡ reserved_all ts (take (i + 1) ws)
reserved_more ts ws i d us vs l e f =
    f
    ∙ ap (λ (xs : List Live). reserve_in xs (get_or ws i d).timeline 1) e
    ∙ sym (reserved_push ts (take i ws) (get_or ws i d))
    ∙ ap (reserved_all ts) (sym (take_more ws i d l))

-- what is reserved and given up leaves all as it was
abbrev pub BareOn : List Live → List Wanted → Type 0
BareOn ts ws = (n : ℕ) → is_named n ws ≡ true → (live_at ts n).reserved ≡ 0

bare_later : (ts : List Live) (w : Wanted) (ws : List Wanted) (t : Live) → is_named w.timeline ws ≡ false → BareOn ts (w ∷ ws) → BareOn (set ts w.timeline t) ws
bare_later ts w ws t a b n e =
    read_set (λ (x : Live). x.reserved ≡ 0) (opened 0) ts w.timeline n t
    (λ q. true_false (is_named n ws) e (subst (λ (k : ℕ). is_named k ws ≡ false) q a)) (b n (named_later n w ws e))

one_back : (ts : List Live) (n : ℕ) → (live_at ts n).reserved ≡ 0 → reserve_in (reserve_in ts n 1) n 0 ≡ ts
one_back ts n e =
    back_set (opened 0) ts n (λ t. after_reserve t 1) (λ t. after_reserve t 0) (λ i. record (live_at ts n) { reserved = sym e i })

pub reserved_back : (ts : List Live) (ws : List Wanted) → AreApart ws → BareOn ts ws → unreserved_all (reserved_all ts ws) ws ≡ ts
reserved_back ts [] a b = refl
reserved_back ts (w ∷ ws) a b =
    ap (λ (us : List Live). reserve_in us w.timeline 0) (reserved_back (reserve_in ts w.timeline 1) ws a.1 (bare_later ts w ws (after_reserve (live_at ts w.timeline) 1) a.0 b))
    ∙ one_back ts w.timeline (b w.timeline (named_first w ws))

pub bare_on : (ts : List Live) (ws : List Wanted) → AreBare ts → BareOn ts ws
bare_on ts ws b n e = b n

-- why a take isn't reserved
pub lacks : (ts : List Live) (ws : List Wanted) (i : ℕ) (d : Wanted) (us : List Live) (fault : ReserveFault) → i < length ws → us ≡ reserved_all ts (take i ws) → LacksRoom (live_at us (get_or ws i d).timeline) 1 fault → MayLackOf ts ws (lack_of (get_or ws i d).timeline fault)
lacks ts ws i d us reserve_as.NoMemory l e h = tt
lacks ts ws i d us reserve_as.Full l e h =
    let n = (get_or ws i d).timeline in
    let same = slots_reserved ts (take i ws) n in
    let slots : (live_at us n).slots ≡ (live_at ts n).slots = ap (λ (xs : List Live). (live_at xs n).slots) e ∙ same.0 in
    let free : (live_at us n).free ≡ (live_at ts n).free = ap (λ (xs : List Live). (live_at xs n).free) e ∙ same.1 in
    let f : List Slot → List ℕ → Type 0 = λ s x. 4294967295 + length x < length s + 1 in
    record {
      named = named_at ws i d l;
      lacks = subst (λ (s : List Slot). f s (live_at ts n).free) slots (subst (λ (x : List ℕ). f (live_at us n).slots x) free h.1);
    }

-- each take is reserved
reserved_other : (ts : List Live) (ws : List Wanted) (n : ℕ) → is_named n ws ≡ false → live_at (reserved_all ts ws) n ≡ live_at ts n
reserved_other ts [] n h = refl
reserved_other ts (w ∷ ws) n h =
    let both = not_named n w ws h in
    reserved_other (reserve_in ts w.timeline 1) ws n both.1
    ∙ read_set (λ (x : Live). x ≡ live_at ts n) (opened 0) ts w.timeline n (after_reserve (live_at ts w.timeline) 1) (λ e. absurd (both.0 e)) refl

reserve_same : (ts : List Live) (n : ℕ) → n < length ts → live_at (reserve_in ts n 1) n ≡ after_reserve (live_at ts n) 1
reserve_same [] n l = absurd (omega arith)
reserve_same (t ∷ ts) zero l = refl
reserve_same (t ∷ ts) (suc n) l = reserve_same ts n (omega arith)

fault_reserved : (ts : List Live) (m : ℕ) (ws : List Wanted) → first_take_fault (reserve_in ts m 1) ws ≡ first_take_fault ts ws
fault_reserved ts m [] = refl
fault_reserved ts m (w ∷ ws) =
    let one : take_fault (live_at (reserve_in ts m 1) w.timeline) w.value ≡ take_fault (live_at ts w.timeline) w.value =
    read_set (λ (x : Live). take_fault x w.value ≡ take_fault (live_at ts w.timeline) w.value) (opened 0) ts m w.timeline (after_reserve (live_at ts m) 1)
    (λ e. ap (λ (k : ℕ). take_fault (live_at ts k) w.value) e) refl in
    λ i. first_some (not_taken w.timeline (one i)) (fault_reserved ts m ws i)

pub none_taken : (n : ℕ) (o : Option TakeFault) → not_taken n o ≡ None → o ≡ None
none_taken n None h = refl
none_taken n (Some x) h = absurd (cc)

pub known_others : (ts us : List Live) (ws : List Wanted) → length us ≡ length ts → AreKnown ts ws → AreKnown us ws
known_others ts us [] e h = tt
known_others ts us (w ∷ ws) e h = (subst (λ (n : ℕ). w.timeline < n) (sym e) h.0, known_others ts us ws e h.1)

pub are_reserved : (ts : List Live) (ws : List Wanted) → AreApart ws → AreKnown ts ws → first_take_fault ts ws ≡ None → AreReserved (reserved_all ts ws) ws
are_reserved ts [] a k h = tt
are_reserved ts (w ∷ ws) a k h =
    let us = reserve_in ts w.timeline 1 in
    let both = none_first (not_taken w.timeline (take_fault (live_at ts w.timeline) w.value)) (first_take_fault ts ws) h in
    let now : live_at (reserved_all us ws) w.timeline ≡ after_reserve (live_at ts w.timeline) 1 =
    reserved_other us ws w.timeline a.0 ∙ reserve_same ts w.timeline k.0 in
    let count = count_reserved ts (w ∷ ws) in (
      record {
        exists = subst (λ (n : ℕ). w.timeline < n) (sym count) k.0;
        fine = ap (λ (x : Live). take_fault x w.value) now ∙ none_taken w.timeline (take_fault (live_at ts w.timeline) w.value) both.0;
        room = ap (λ (x : Live). x.reserved) now;
      },
      are_reserved us ws a.1 (known_others ts us ws (length-set ts w.timeline _) k.1) (fault_reserved ts w.timeline ws ∙ both.1),
    )

-- a take that is reserved is given
pub not_refused : (t : Live) (v : ℕ) (fault : TakeFault) → take_fault t v ≡ None → t.reserved ≡ 1 → (take_fault t v ≡ Some fault) ⊎ MayLack t fault → ⊥
not_refused t v fault e r (inl h) = absurd (cc)
not_refused t v take_as.NoMemory e r (inr h) = omega arith
not_refused t v take_as.Full e r (inr h) = let none = h.0 in omega arith
not_refused t v take_as.Twice e r (inr h) = h
not_refused t v (take_as.NotAbove n) e r (inr h) = h

-- the next takes stay reserved
still_reserved : (ts : List Live) (w : Wanted) (ws : List Wanted) → is_named w.timeline ws ≡ false → AreReserved ts ws → AreReserved (take_in ts w) ws
still_reserved ts w [] a h = tt
still_reserved ts w (x ∷ xs) a h =
    let both = not_named w.timeline x xs a in
    let same : live_at (take_in ts w) x.timeline ≡ live_at ts x.timeline =
    read_set (λ (t : Live). t ≡ live_at ts x.timeline) (opened 0) ts w.timeline x.timeline (after_take (live_at ts w.timeline) w.value) (λ e. absurd (both.0 (sym e))) refl in
    let count : length (take_in ts w) ≡ length ts = length-set ts w.timeline _ in (
      record {
        exists = subst (λ (n : ℕ). x.timeline < n) (sym count) h.0.exists;
        fine = ap (λ (t : Live). take_fault t x.value) same ∙ h.0.fine;
        room = ap (λ (t : Live). t.reserved) same ∙ h.0.room;
      },
      still_reserved ts w xs both.1 h.1,
    )

-- What a loop that takes keeps.
pub record Goes (ts : List Live) (ws : List Wanted) (us : List Live) (left : List Wanted) (ss : List Signal) : Type 0 where
  pub leads : taken_all us left ≡ taken_all ts ws
  pub lists : ss ++ signals_all us left ≡ signals_all ts ws
  pub apart : AreApart left
  pub reserved : AreReserved us left

pub goes_first : (ts : List Live) (ws : List Wanted) (us : List Live) (i : ℕ) (ss : List Signal) (d : Wanted) → i < length ws → Goes ts ws us (drop i ws) ss → IsReserved us (get_or ws i d)
goes_first ts ws us i ss d l g = (subst (AreReserved us) (drop_more ws i d l) g.reserved).0

append_cons : (ss : List Signal) (s : Signal) (rest : List Signal) → (ss ++ s ∷ []) ++ rest ≡ ss ++ s ∷ rest
append_cons [] s rest = refl
append_cons (x ∷ xs) s rest = ap (λ (zs : List Signal). x ∷ zs) (append_cons xs s rest)

pub goes_on : (ts : List Live) (ws : List Wanted) (us vs : List Live) (i : ℕ) (ss : List Signal) (s : Signal) (d : Wanted) → i < length ws → Goes ts ws us (drop i ws) ss → s ≡ signal_in us (get_or ws i d) → vs ≡ take_in us (get_or ws i d) → Goes ts ws vs (drop (i + 1) ws) (ss ++ s ∷ [])
goes_on ts ws us vs i ss s d l g e f =
    let w = get_or ws i d in
    let rest = drop (i + 1) ws in
    let more = drop_more ws i d l in
    let apart = subst AreApart more g.apart in
    let reserved = subst (AreReserved us) more g.reserved in
    let leads : taken_all us (w ∷ rest) ≡ taken_all ts ws = ap (taken_all us) (sym more) ∙ g.leads in
    let lists : ss ++ signals_all us (w ∷ rest) ≡ signals_all ts ws = ap (λ (zs : List Wanted). ss ++ signals_all us zs) (sym more) ∙ g.lists in
    record {
      leads = ap (λ (xs : List Live). taken_all xs rest) f ∙ leads;
      lists = append_cons ss s (signals_all vs rest) ∙ (λ j. ss ++ e j ∷ signals_all (f j) rest) ∙ lists;
      apart = apart.1;
      reserved = subst (λ (xs : List Live). AreReserved xs rest) (sym f) (still_reserved us w rest apart.0 reserved.1);
    }

-- reserved takes are takes
take_swap : (ts : List Live) (w x : Wanted) → (w.timeline ≡ x.timeline → ⊥) → take_in (reserve_in ts x.timeline 1) w ≡ reserve_in (take_in ts w) x.timeline 1
take_swap ts w x ne =
    swap_set (opened 0) ts w.timeline x.timeline (λ t. after_take t w.value) (λ t. after_reserve t 1) ne

take_reserved : (ts : List Live) (w : Wanted) (ws : List Wanted) → is_named w.timeline ws ≡ false → take_in (reserved_all ts ws) w ≡ reserved_all (take_in ts w) ws
take_reserved ts w [] a = refl
take_reserved ts w (x ∷ xs) a =
    let both = not_named w.timeline x xs a in
    take_reserved (reserve_in ts x.timeline 1) w xs both.1 ∙ ap (λ (us : List Live). reserved_all us xs) (take_swap ts w x (λ e. both.0 (sym e)))

take_over : (ts : List Live) (w : Wanted) → (live_at ts w.timeline).reserved ≡ 0 → take_in (reserve_in ts w.timeline 1) w ≡ take_in ts w
take_over ts w e =
    let t = live_at ts w.timeline in
    over_set (opened 0) ts w.timeline (λ t. after_reserve t 1) (λ t. after_take t w.value)
    ∙ ap (λ (x : Live). set ts w.timeline x) (λ i. record (after_take t w.value) { reserved = sym (ap (λ (n : ℕ). n - 1) e) i })

take_first : (ts : List Live) (w : Wanted) (ws : List Wanted) → is_named w.timeline ws ≡ false → (live_at ts w.timeline).reserved ≡ 0 → take_in (reserved_all (reserve_in ts w.timeline 1) ws) w ≡ reserved_all (take_in ts w) ws
take_first ts w ws a e =
    take_reserved (reserve_in ts w.timeline 1) w ws a ∙ ap (λ (us : List Live). reserved_all us ws) (take_over ts w e)

pub taken_reserved : (ts : List Live) (ws : List Wanted) → AreApart ws → BareOn ts ws → taken_all (reserved_all ts ws) ws ≡ taken_all ts ws
taken_reserved ts [] a b = refl
taken_reserved ts (w ∷ ws) a b =
    ap (λ (us : List Live). taken_all us ws) (take_first ts w ws a.0 (b w.timeline (named_first w ws)))
    ∙ taken_reserved (take_in ts w) ws a.1 (bare_later ts w ws (after_take (live_at ts w.timeline) w.value) a.0 b)

given_reserved : (ts : List Live) (m n v : ℕ) → given_to (live_at (reserve_in ts m 1) n) v ≡ given_to (live_at ts n) v
given_reserved ts m n v =
    read_set (λ (x : Live). given_to x v ≡ given_to (live_at ts n) v) (opened 0) ts m n (after_reserve (live_at ts m) 1)
    (λ e. ap (λ (k : ℕ). given_to (live_at ts k) v) e) refl

pub signals_reserved : (ts : List Live) (ws : List Wanted) → AreApart ws → BareOn ts ws → signals_all (reserved_all ts ws) ws ≡ signals_all ts ws
signals_reserved ts [] a b = refl
signals_reserved ts (w ∷ ws) a b =
    let us = reserve_in ts w.timeline 1 in
    let given : given_to (live_at (reserved_all us ws) w.timeline) w.value ≡ given_to (live_at ts w.timeline) w.value =
    ap (λ (x : Live). given_to x w.value) (reserved_other us ws w.timeline a.0) ∙ given_reserved ts w.timeline w.timeline w.value in
    let rest : signals_all (take_in (reserved_all us ws) w) ws ≡ signals_all (take_in ts w) ws =
    ap (λ (xs : List Live). signals_all xs ws) (take_first ts w ws a.0 (b w.timeline (named_first w ws)))
    ∙ signals_reserved (take_in ts w) ws a.1 (bare_later ts w ws (after_take (live_at ts w.timeline) w.value) a.0 b) in
    λ i. (record { timeline = w.timeline; given = given i }) ∷ rest i
