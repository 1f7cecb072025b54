-- Declarations that keep the rules of the format may follow one another.
use Rattle.std.proofs.Common.{ℕ, ◌≡◌, ◌<◌, ◌≤◌, ◌+◌, true, false, not, ◌&&◌, ◌||◌, List, [], ◌∷◌, ◌++◌, append-nil, append_assoc, length, length-append, map, refl, sym, ap, ◌∙◌, subst, arith, sum}
use Rattle.std.specs.List.{AllByRecursion as Every, list_any}
use Rattle.std.specs.Str.{bytes_eq}
use Rattle.std.proofs.lemmas.List.{map-append}
use Rattle.std.proofs.lemmas.List.Folds.{list_any-append}
use Rattle.std.proofs.lemmas.List.Sums.{sum_by-append, sum_by-cons}
use Rattle.std.proofs.lemmas.Bool.{and_parts, or_parts, or_from, not-true}
use Rattle.vq_ground.proofs.Lists.{any_map}
use Rattle.vq_model.specs.declared.script.Buffer.{Buffer}
use Rattle.vq_model.specs.declared.script.Semaphore.{Semaphore}
use Rattle.vq_model.specs.declared.script.Queue.{Queue}
use Rattle.vq_model.specs.declared.statement.Statement.{Statement}
use Rattle.vq_model.specs.declared.statement.Statement.TheVariants.{DeclareBuffer, DeclareSemaphore, DeclareQueue}
use Rattle.vq_model.specs.Text.{is_name}
use Rattle.vq_model.specs.SameScript.{buffer_without_line, semaphore_without_line, queue_without_line}
use Rattle.vq_model.specs.Limits.{limits_of}
use Rattle.vq_canonical_laws.specs.FormatRules.{are_new, sizes_in, HasValue}
use Rattle.vq_canonical_laws.proofs.ScriptParts.{Parts, after, May}
use Rattle.vq_canonical_laws.proofs.CanonicalOrder.{Leads, buffer_statements, semaphore_statements, queue_statements, declarations}

-- A list of declarations of one kind

module _ {A : Type 0} (f : A → Statement) (name : A → List ℕ) (Fits : A → Type 0)
    (at : List A → Parts) (front rest : List (List ℕ)) (Left : List A → List A → Type 0)
    (is : (before : List A) (x : A) → Fits x → after (at before) (f x) ≡ at (before ++ x ∷ []))
    (one : (before : List A) (x : A) (xs : List A) → Fits x → is_name (name x) ≡ true →
    list_any (bytes_eq (name x)) (front ++ map name before) ≡ false → Left before (x ∷ xs) →
    May (at before) (f x) × Left (before ++ x ∷ []) xs) where
  -- they may follow, and what comes after them is new then
  all_follow : (before xs : List A) → Every Fits xs →
      are_new (front ++ map name before) (map name xs ++ rest) ≡ true → Left before xs →
      Leads (at before) (map f xs) (at (before ++ xs))
      × (are_new (front ++ map name (before ++ xs)) rest ≡ true)
  all_follow before [] fits new left =
      let same = append-nil before in (
        ap at (sym same),
        subst (λ (ys : List A). are_new (front ++ map name ys) rest ≡ true) (sym same) new,
      )
  all_follow before (x ∷ xs) fits new left =
      let names = front ++ map name before in
      let more = and_parts (is_name (name x) && not (list_any (bytes_eq (name x)) names))
      (are_new (names ++ name x ∷ []) (map name xs ++ rest)) new in
      let this = and_parts (is_name (name x)) (not (list_any (bytes_eq (name x)) names)) more.0 in
      let first = one before x xs fits.0 this.0
      (not-true (list_any (bytes_eq (name x)) names) this.1) left in
      let longer : names ++ name x ∷ [] ≡ front ++ map name (before ++ x ∷ []) =
      append_assoc front (map name before) (name x ∷ [])
      ∙ ap (λ (ns : List (List ℕ)). front ++ ns) (sym (map-append name before (x ∷ []))) in
      let others = all_follow (before ++ x ∷ []) xs fits.1
      (subst (λ (ns : List (List ℕ)). are_new ns (map name xs ++ rest) ≡ true) longer more.1) first.1 in
      let same = append_assoc before (x ∷ []) xs in (
        (
          first.0,
          subst (λ (z : Parts × List A). Leads z.0 (map f xs) (at z.1))
              (λ i. (sym (is before x fits.0) i, same i)) others.0,
        ),
        subst (λ (ys : List A). are_new (front ++ map name ys) rest ≡ true) same others.1,
      )

-- Buffers, semaphores and queues without lines

sizes_push : (bs : List Buffer) (b : Buffer) → sum (sizes_in (bs ++ b ∷ [])) ≡ sum (sizes_in bs) + b.size
sizes_push bs b =
    ap sum (map-append (λ (x : Buffer). x.size) bs (b ∷ []))
    ∙ (sum_by-append (λ (n : ℕ). n) (sizes_in bs) (b.size ∷ [])
    ∙ ap (λ (k : ℕ). sum (sizes_in bs) + k) (sum_by-cons (λ (n : ℕ). n) b.size [] ∙ omega arith))

-- so many buffers and bytes
record FewBuffers (v : ℕ) (before bs : List Buffer) : Type 0 where
  few : length before + length bs ≤ (limits_of v).buffers
  bytes : sum (sizes_in before) + sum (sizes_in bs) ≤ (limits_of v).bytes

pub buffers_follow : (v : ℕ) (bs : List Buffer) (rest : List (List ℕ)) →
    Every (λ b. (buffer_without_line b ≡ b) × (0 < b.size)) bs →
    are_new [] (map (λ b. b.name) bs ++ rest) ≡ true → length bs ≤ (limits_of v).buffers →
    sum (sizes_in bs) ≤ (limits_of v).bytes →
    Leads (declarations v [] [] []) (buffer_statements bs) (declarations v bs [] [])
    × (are_new (map (λ b. b.name) bs) rest ≡ true)
buffers_follow v bs rest fits new few bytes =
    let none : sum (sizes_in []) ≡ 0 = refl in
    all_follow (λ b. DeclareBuffer b.name b.size) (λ b. b.name)
    (λ b. (buffer_without_line b ≡ b) × (0 < b.size)) (λ cs. declarations v cs [] []) [] rest
    (FewBuffers v)
    (λ before b fit. ap (λ (x : Buffer). declarations v (before ++ x ∷ []) [] []) fit.0) one [] bs
    fits new (record { few = omega arith; bytes = omega arith })
  where
    one : (before : List Buffer) (b : Buffer) (cs : List Buffer) →
        (buffer_without_line b ≡ b) × (0 < b.size) → is_name b.name ≡ true →
        list_any (bytes_eq b.name) (map (λ x. x.name) before) ≡ false →
        FewBuffers v before (b ∷ cs) →
        May (declarations v before [] []) (DeclareBuffer b.name b.size)
        × FewBuffers v (before ++ b ∷ []) cs
    one before b cs fit named new left =
        let some = fit.1 in
        let few = left.few in
        let bytes = left.bytes in
        let long = length-append before (b ∷ []) in
        let summed = sizes_push before b in
        let added = sum_by-cons (λ (n : ℕ). n) b.size (sizes_in cs) in
        let fresh = sym (any_map (bytes_eq b.name) (λ (x : Buffer). x.name) before) ∙ new in (
          record {
            outside = refl;
            first = refl;
            named = named;
            fresh = or_from (list_any (λ x. bytes_eq b.name x.name) before || false) false
                (or_from (list_any (λ x. bytes_eq b.name x.name) before) false fresh refl) refl;
            some_bytes = some;
            few = omega arith;
            bytes = omega arith;
          },
          record { few = omega arith; bytes = omega arith },
        )

pub semaphores_follow : (v : ℕ) (bs : List Buffer) (ss : List Semaphore) (rest : List (List ℕ)) →
    Every (λ x. (semaphore_without_line x ≡ x) × HasValue x.kind) ss →
    are_new (map (λ b. b.name) bs) (map (λ x. x.name) ss ++ rest) ≡ true → length ss ≤ (limits_of v).semaphores →
    Leads (declarations v bs [] []) (semaphore_statements ss) (declarations v bs ss [])
    × (are_new (map (λ b. b.name) bs ++ map (λ x. x.name) ss) rest ≡ true)
semaphores_follow v bs ss rest fits new few =
    all_follow (λ x. DeclareSemaphore x.name x.kind) (λ x. x.name)
    (λ x. (semaphore_without_line x ≡ x) × HasValue x.kind) (λ ts. declarations v bs ts []) front rest
    (λ before ts. length before + length ts ≤ (limits_of v).semaphores)
    (λ before x fit. ap (λ (y : Semaphore). declarations v bs (before ++ y ∷ []) []) fit.0) one [] ss
    fits
    (subst (λ (ns : List (List ℕ)). are_new ns (map (λ x. x.name) ss ++ rest) ≡ true)
    (sym (append-nil front)) new) (omega arith)
  where
    front : List (List ℕ)
    front = map (λ b. b.name) bs

    one : (before : List Semaphore) (x : Semaphore) (ts : List Semaphore) →
        (semaphore_without_line x ≡ x) × HasValue x.kind → is_name x.name ≡ true →
        list_any (bytes_eq x.name) (map (λ b. b.name) bs ++ map (λ y. y.name) before) ≡ false →
        length before + length (x ∷ ts) ≤ (limits_of v).semaphores →
        May (declarations v bs before []) (DeclareSemaphore x.name x.kind)
        × (length (before ++ x ∷ []) + length ts ≤ (limits_of v).semaphores)
    one before x ts fit named new left =
        let long = length-append before (x ∷ []) in
        let both = or_parts (list_any (bytes_eq x.name) (map (λ b. b.name) bs))
        (list_any (bytes_eq x.name) (map (λ y. y.name) before))
        (sym (list_any-append (bytes_eq x.name) (map (λ b. b.name) bs) (map (λ y. y.name) before)) ∙ new) in (
          record {
            outside = refl;
            first = refl;
            named = named;
            fresh = or_from (list_any (λ b. bytes_eq x.name b.name) bs
                || list_any (λ y. bytes_eq x.name y.name) before) false
                (or_from (list_any (λ b. bytes_eq x.name b.name) bs)
                (list_any (λ y. bytes_eq x.name y.name) before)
                (sym (any_map (bytes_eq x.name) (λ (b : Buffer). b.name) bs) ∙ both.0)
                (sym (any_map (bytes_eq x.name) (λ (y : Semaphore). y.name) before) ∙ both.1)) refl;
            few = omega arith;
            small = fit.1;
          },
          omega arith,
        )

-- queues that follow others
pub more_queues_follow : (v : ℕ) (bs : List Buffer) (ss : List Semaphore) (had qs : List Queue) →
    Every (λ q. queue_without_line q ≡ q) qs →
    are_new (map (λ b. b.name) bs ++ map (λ x. x.name) ss ++ map (λ q. q.name) had)
    (map (λ q. q.name) qs ++ []) ≡ true →
    length had + length qs ≤ (limits_of v).queues →
    Leads (declarations v bs ss had) (queue_statements qs) (declarations v bs ss (had ++ qs))
more_queues_follow v bs ss had qs fits new few =
    (all_follow (λ q. DeclareQueue q.name q.mode) (λ q. q.name)
    (λ q. queue_without_line q ≡ q) (λ rs. declarations v bs ss rs) front []
    (λ before rs. length before + length rs ≤ (limits_of v).queues)
    (λ before q fit. ap (λ (r : Queue). declarations v bs ss (before ++ r ∷ [])) fit) one had qs fits
    new few).0
  where
    front : List (List ℕ)
    front = map (λ b. b.name) bs ++ map (λ x. x.name) ss

    one : (before : List Queue) (q : Queue) (rs : List Queue) →
        queue_without_line q ≡ q → is_name q.name ≡ true →
        list_any (bytes_eq q.name)
        (map (λ b. b.name) bs ++ map (λ x. x.name) ss ++ map (λ r. r.name) before) ≡ false →
        length before + length (q ∷ rs) ≤ (limits_of v).queues →
        May (declarations v bs ss before) (DeclareQueue q.name q.mode)
        × (length (before ++ q ∷ []) + length rs ≤ (limits_of v).queues)
    one before q rs fit named new left =
        let long = length-append before (q ∷ []) in
        let both = or_parts (list_any (bytes_eq q.name) (map (λ b. b.name) bs ++ map (λ x. x.name) ss))
        (list_any (bytes_eq q.name) (map (λ r. r.name) before))
        (sym (list_any-append (bytes_eq q.name) (map (λ b. b.name) bs ++ map (λ x. x.name) ss)
        (map (λ r. r.name) before)) ∙ new) in
        let two = or_parts (list_any (bytes_eq q.name) (map (λ b. b.name) bs))
        (list_any (bytes_eq q.name) (map (λ x. x.name) ss))
        (sym (list_any-append (bytes_eq q.name) (map (λ b. b.name) bs) (map (λ x. x.name) ss)) ∙ both.0) in (
          record {
            outside = refl;
            first = refl;
            named = named;
            fresh = or_from (list_any (λ b. bytes_eq q.name b.name) bs
                || list_any (λ x. bytes_eq q.name x.name) ss) (list_any (λ r. bytes_eq q.name r.name) before)
                (or_from (list_any (λ b. bytes_eq q.name b.name) bs)
                (list_any (λ x. bytes_eq q.name x.name) ss)
                (sym (any_map (bytes_eq q.name) (λ (b : Buffer). b.name) bs) ∙ two.0)
                (sym (any_map (bytes_eq q.name) (λ (x : Semaphore). x.name) ss) ∙ two.1))
                (sym (any_map (bytes_eq q.name) (λ (r : Queue). r.name) before) ∙ both.1);
            few = omega arith;
          },
          omega arith,
        )

pub queues_follow : (v : ℕ) (bs : List Buffer) (ss : List Semaphore) (qs : List Queue) →
    Every (λ q. queue_without_line q ≡ q) qs →
    are_new (map (λ b. b.name) bs ++ map (λ x. x.name) ss) (map (λ q. q.name) qs ++ []) ≡ true →
    length qs ≤ (limits_of v).queues →
    Leads (declarations v bs ss []) (queue_statements qs) (declarations v bs ss qs)
queues_follow v bs ss qs fits new few =
    more_queues_follow v bs ss [] qs fits
    (subst (λ (ns : List (List ℕ)). are_new ns (map (λ q. q.name) qs ++ []) ≡ true)
    (sym (append-nil (map (λ b. b.name) bs ++ map (λ x. x.name) ss))) new) (omega arith)
