-- The actors of a round.
use Rattle.std.proofs.Common.{◌≡◌, ℕ, zero, suc, ◌+◌, ◌<◌, ◌≤◌, Bool, true, false, if◌then◌else◌, List, [], ◌∷◌, ◌++◌}
use Rattle.std.proofs.Common.{length, filter, map, All, get_or, inl, inr}
use Rattle.std.proofs.Common.{sym, subst, ap, ◌∙◌, arith, append_assoc}
use Rattle.std.specs.List.{range_with_len}
use Rattle.std.proofs.lemmas.List.Elements.{All-append, All-cons, All-map, All-nil, filter-append, filter_passes}
use Rattle.std.proofs.lemmas.Bool.{cases_lt}
use Rattle.std.proofs.lemmas.List.{map-append}
use Rattle.vq_model.specs.declared.script.ActorName.{ActorName}
use Rattle.vq_model.specs.declared.script.ActorName.TheVariants.{Host, Submit, Ring}
use Rattle.vq_model.specs.declared.script.Script.{Script}
use Rattle.vq_model.specs.Plan.{Plan}
use Rattle.vq_model.specs.ValidScripts.{IsActor, is_threaded_queue}
use Rattle.vq_ground.proofs.Numbers.{range_more}
use Rattle.vq_progress_laws.specs.Movers.{all_queues, round}
use Rattle.vq_replay.specs.Resting.{AreApart}

abbrev pub submits_of : Script → List ℕ → List ActorName
submits_of s qs = map Submit (filter (is_threaded_queue s) qs)

module _ (actors now more : List ActorName) (q : ℕ) where
  pub submits_more : (s : Script) → now ≡ actors ++ submits_of s (range_with_len 0 q) →
      more ≡ now ++ submits_of s (q ∷ []) → more ≡ actors ++ submits_of s (range_with_len 0 (q + 1))
  submits_more s before e =
      let queues = range_with_len 0 q in
      let both : submits_of s queues ++ submits_of s (q ∷ []) ≡ submits_of s (range_with_len 0 (q + 1)) =
      sym (map-append Submit (filter (is_threaded_queue s) queues) (filter (is_threaded_queue s) (q ∷ [])))
      ∙ (ap (map Submit) (sym (filter-append (is_threaded_queue s) queues (q ∷ [])))
      ∙ ap (submits_of s) (sym (range_more q))) in
      e
      ∙ (ap (λ (xs : List ActorName). xs ++ submits_of s (q ∷ [])) before
      ∙ (append_assoc actors (submits_of s queues) (submits_of s (q ∷ []))
      ∙ ap (λ (xs : List ActorName). actors ++ xs) both))

  pub rings_more : now ≡ actors ++ map Ring (range_with_len 0 q) → more ≡ now ++ Ring q ∷ [] →
      more ≡ actors ++ map Ring (range_with_len 0 (q + 1))
  rings_more before e =
      let queues = range_with_len 0 q in
      e
      ∙ (ap (λ (xs : List ActorName). xs ++ Ring q ∷ []) before
      ∙ (append_assoc actors (map Ring queues) (Ring q ∷ [])
      ∙ ap (λ (xs : List ActorName). actors ++ xs)
      (sym (map-append Ring queues (q ∷ [])) ∙ ap (map Ring) (sym (range_more q)))))

all_within : (n a : ℕ) → All (λ q. q < a + n) (range_with_len a n)
all_within zero a = All-nil (λ q. q < a + 0)
all_within (suc n) a =
    All-cons (λ q. q < a + suc n) a (range_with_len (a + 1) n) (omega arith)
    (subst (λ (m : ℕ). All (λ q. q < m) (range_with_len (a + 1) n)) (omega arith) (all_within n (a + 1)))

-- The actors of a round are actors of the script.
pub round_acts : (p : Plan) → All (IsActor p.script) (round p)
round_acts p =
    let threaded = filter (is_threaded_queue p.script) (all_queues p) in
    let none : 0 + length p.script.queues ≡ length p.script.queues = omega arith in
    All-cons (IsActor p.script) Host (map Submit threaded ++ map Ring (all_queues p)) tt
    (All-append (IsActor p.script) (map Submit threaded) (map Ring (all_queues p))
    (All-map (IsActor p.script) Submit threaded (filter_passes (is_threaded_queue p.script) (all_queues p)))
    (All-map (IsActor p.script) Ring (all_queues p)
    (subst (λ (m : ℕ). All (λ q. q < m) (all_queues p)) none (all_within (length p.script.queues) 0))))

-- An actor of a plan is one of the same plan elsewhere.
pub acts_there : (p q : Plan) → q ≡ p → (actors : List ActorName) → All (IsActor p.script) actors →
    (n : ℕ) (d : ActorName) → n < length actors → IsActor q.script (get_or actors n d)
acts_there p q same actors all n d within =
    subst (λ (r : Plan). IsActor r.script (get_or actors n d)) (sym same) (all n d within)

-- The host, the submit actors and the rings are the actors of a round.
pub are_round : (p : Plan) (s : Script) (n : ℕ) (host some all : List ActorName) → s ≡ p.script →
    n ≡ length p.script.queues → host ≡ Host ∷ [] → some ≡ host ++ submits_of s (range_with_len 0 n) →
    all ≡ some ++ map Ring (range_with_len 0 n) → all ≡ round p
are_round p s n host some all script count first second third =
    third
    ∙ (ap (λ (xs : List ActorName). xs ++ map Ring (range_with_len 0 n)) second
    ∙ (ap (λ (xs : List ActorName). (xs ++ submits_of s (range_with_len 0 n)) ++ map Ring (range_with_len 0 n)) first
    ∙ (ap (λ (m : ℕ). Host ∷ (submits_of s (range_with_len 0 m) ++ map Ring (range_with_len 0 m))) count
    ∙ ap (λ (t : Script). Host ∷ (submits_of t (all_queues p) ++ map Ring (all_queues p))) script)))

-- No actor has two turns in a round: by numbers that rise along it.
module _ (n : ℕ) where
  abbrev rank : ActorName → ℕ
  rank Host = 0
  rank (Submit q) = 1 + q
  rank (Ring q) = 1 + n + q

  abbrev Rises : ℕ → List ActorName → Type 0
  Rises m [] = Unit {0}
  Rises m (a ∷ actors) = (m ≤ rank a) × Rises (suc (rank a)) actors

  rises_below : (k m : ℕ) (actors : List ActorName) → k ≤ m → Rises m actors → Rises k actors
  rises_below k m [] less h = tt
  rises_below k m (a ∷ actors) less h = (let z = h.0 in omega arith, h.1)

  rings_rise : (count q m : ℕ) → m ≤ 1 + n + q → Rises m (map Ring (range_with_len q count))
  rings_rise zero q m low = tt
  rings_rise (suc count) q m low = (low, rings_rise count (q + 1) (suc (1 + n + q)) (omega arith))

  submits_rise : (s : Script) (count q m : ℕ) (others : List ActorName) → m ≤ 1 + q → q + count ≤ n →
      Rises (1 + n) others → Rises m (submits_of s (range_with_len q count) ++ others)
  submits_rise s zero q m others low high h = rises_below m (1 + n) others (omega arith) h
  submits_rise s (suc count) q m others low high h =
      by_test (is_threaded_queue s q)
      (submits_rise s count (q + 1) (suc (1 + q)) others (omega arith) (omega arith) h)
      (submits_rise s count (q + 1) m others (omega arith) (omega arith) h)
    where
      later : List ℕ
      later = filter (is_threaded_queue s) (range_with_len (q + 1) count)

      by_test : (b : Bool) → Rises (suc (1 + q)) (map Submit later ++ others) → Rises m (map Submit later ++ others) →
          Rises m (map Submit (if b then q ∷ later else later) ++ others)
      by_test true first other = (low, first)
      by_test false first other = other

  rises_at : (m : ℕ) (actors : List ActorName) → Rises m actors → (i : ℕ) (d : ActorName) → i < length actors →
      m ≤ rank (get_or actors i d)
  rises_at m [] h i d less = absurd (omega arith)
  rises_at m (a ∷ actors) h zero d less = h.0
  rises_at m (a ∷ actors) h (suc i) d less =
      let first = h.0 in
      let later = rises_at (suc (rank a)) actors h.1 i d (omega arith) in
      omega arith

  rises_before : (m : ℕ) (actors : List ActorName) → Rises m actors → (i k : ℕ) (d : ActorName) → i < k →
      k < length actors → rank (get_or actors i d) < rank (get_or actors k d)
  rises_before m [] h i k d before less = absurd (omega arith)
  rises_before m (a ∷ actors) h i zero d before less = absurd (omega arith)
  rises_before m (a ∷ actors) h zero (suc k) d before less =
      let later = rises_at (suc (rank a)) actors h.1 k d (omega arith) in
      omega arith
  rises_before m (a ∷ actors) h (suc i) (suc k) d before less =
      rises_before (suc (rank a)) actors h.1 i k d (omega arith) (omega arith)

  rises_apart : (m : ℕ) (actors : List ActorName) → Rises m actors → AreApart actors
  rises_apart m actors h d i k first second same =
      let ranks : rank (get_or actors i d) ≡ rank (get_or actors k d) = ap rank same in
      elim (cases_lt i k) [
        | inl l ↦
            let r = rises_before m actors h i k d l second in
            absurd (omega arith)
        | inr l ↦
            elim (cases_lt k i) [
              | inl u ↦
                  let r = rises_before m actors h k i d u first in
                  absurd (omega arith)
              | inr u ↦ omega arith
            ]
      ]

pub round_apart : (p : Plan) → AreApart (round p)
round_apart p =
    let n = length p.script.queues in
    rises_apart n 0 (round p) (
      omega arith,
      submits_rise n p.script n 0 1 (map Ring (all_queues p)) (omega arith) (omega arith)
          (rings_rise n n 0 (1 + n) (omega arith)),
    )
