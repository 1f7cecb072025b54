-- The workers whose passes a board deals, in the order in which it deals them.
use Rattle.std.proofs.Common.{◌≡◌, ◌<◌, ◌++◌, ◌+◌, ℕ, Bool, true, List, [], ◌∷◌, Option, Some, All, map, length}
use Rattle.std.proofs.Common.{get_or, if◌then◌else◌, refl, sym, ap, ◌∙◌, subst, arith}
use Rattle.std.specs.List.{range_with_len, filter_map, cons_option}
use Rattle.std.proofs.lemmas.List.Elements.{All-append, All-get_or, All-map, filter_map-append, filter_passes}
use Rattle.std.proofs.lemmas.List.FromFn.{get_or-range_with_len, length-range_with_len}
use Rattle.std.proofs.lemmas.Option.{same_Some}
use Rattle.vq_model.specs.declared.script.ActorName.{ActorName}
use Rattle.vq_model.specs.declared.script.ActorName.TheVariants.{Submit as SubmitActor, Ring as RingActor}
use Rattle.vq_model.specs.Plan.{Plan}
use Rattle.vq_model.specs.ValidScripts.{IsActor}
use Rattle.vq_board_laws.specs.declared.view.Role.{Role}
use Rattle.vq_board_laws.specs.declared.view.Role.TheVariants.{Host, Submit, Ring}
use Rattle.vq_board_laws.specs.Roles.{is_threaded, role_number, threaded_queues}
use Rattle.vq_board_laws.specs.Rule.{fresh}
use Rattle.vq_board.specs.declared.parts.Board.{Board}
use Rattle.vq_board.specs.declared.parts.Pass.{Pass}
use Rattle.vq_board.specs.Named.{plan_of, role_of, view, AreFresh, IsFresh, IsOf}
use Rattle.vq_access_laws.specs.TruePasses.{role_of_actor}
use Rattle.vq_board_run.specs.Rooming.{Room, IsIdle}
use Rattle.vq_board_run.specs.Crewed.{IsWorkerOf}
use Rattle.vq_board_run.specs.Crews.{worker_of, workers}
use Rattle.vq_board_run.proofs.Dealt.{dealt_count, dealt_fresh, dealt_role}

-- a worker with a pass of this role is one of the plan, and the role is its own
abbrev pub IsOwnOf : Plan → Role → Type 0
IsOwnOf p r = (a : ActorName) → worker_of r ≡ Some a → IsActor p.script a × (role_of_actor p a ≡ r)

submit_own : (p : Plan) (q : ℕ) → is_threaded p q ≡ true → IsOwnOf p (Submit q)
submit_own p q t a e =
    subst (λ (b : ActorName). IsActor p.script b × (role_of_actor p b ≡ Submit q)) (same_Some (SubmitActor q) a e)
    (t, subst (λ (z : Bool). (if z then Submit q else Host) ≡ Submit q) (sym t) refl)

ring_own : (p : Plan) (q : ℕ) → q < length p.script.queues → IsOwnOf p (Ring q)
ring_own p q l a e =
    subst (λ (b : ActorName). IsActor p.script b × (role_of_actor p b ≡ Ring q)) (same_Some (RingActor q) a e) (l, refl)

submits_own : (p : Plan) → All (IsOwnOf p) (map Submit (threaded_queues p))
submits_own p =
    All-map (IsOwnOf p) Submit (threaded_queues p)
    (λ k d l. submit_own p (get_or (threaded_queues p) k d)
    (filter_passes (is_threaded p) (range_with_len 0 (length p.script.queues)) k d l))

rings_own : (p : Plan) → All (IsOwnOf p) (map Ring (range_with_len 0 (length p.script.queues)))
rings_own p = All-map (IsOwnOf p) Ring (range_with_len 0 n) at_queue
  where
    n : ℕ
    n = length p.script.queues

    at_queue : All (λ q. IsOwnOf p (Ring q)) (range_with_len 0 n)
    at_queue k d l =
        let size = length-range_with_len 0 n in
        let low : k < n = omega arith in
        let is : get_or (range_with_len 0 n) k d ≡ 0 + k = get_or-range_with_len 0 n k d low in
        ring_own p (get_or (range_with_len 0 n) k d) (omega arith)

-- a pass that has done nothing, of a role of the plan
abbrev pub IsDue : Board → Plan → Pass → Type 0
IsDue b p x = IsFresh b x × IsOwnOf p (role_of x)

all_due : (b : Board) (p : Plan) (xs : List Pass) (roles : List Role) → AreFresh b xs roles → All (IsOwnOf p) roles →
    All (IsDue b p) xs
all_due b p xs roles h own k d l =
    let count = dealt_count b xs roles h in (
      dealt_fresh b xs roles h k d l,
      subst (IsOwnOf p) (sym (dealt_role b xs roles h k d (role_of d) l)) (own k (role_of d) (omega arith)),
    )

-- so an actor with that role has done nothing,
pub idle_of : (b : Board) (p : Plan) (a : ActorName) (x : Pass) → plan_of b ≡ p → IsFresh b x →
    role_of_actor p a ≡ role_of x → IsIdle p a (view x)
idle_of b p a x plan idle role = (0, idle.1 ∙ (λ i. fresh (plan i) (role_number (plan i) (sym role i))))

-- and its room is a worker's
pub worker_room : (b : Board) (p : Plan) (a : ActorName) (x : Pass) (r : Room) → plan_of b ≡ p → IsFresh b x →
    IsActor p.script a → r.pass ≡ x → r.owner ≡ a → IsWorkerOf b r
worker_room b p a x r plan idle actor same owner = (
  subst (IsOf b) (sym same) idle.0,
  subst (λ (z : Plan × ActorName). IsActor z.0.script z.1) (λ i. (sym plan i, sym owner i)) actor,
)

abbrev pub worker_at : Pass → Option ActorName
worker_at x = worker_of (role_of x)

by_roles : (xs : List Pass) → filter_map worker_at xs ≡ filter_map worker_of (map role_of xs)
by_roles [] = refl
by_roles (x ∷ xs) = ap (cons_option (worker_at x)) (by_roles xs)

submits_named : (qs : List ℕ) → filter_map worker_of (map Submit qs) ≡ map SubmitActor qs
submits_named [] = refl
submits_named (q ∷ qs) = ap (λ (names : List ActorName). SubmitActor q ∷ names) (submits_named qs)

rings_named : (qs : List ℕ) → filter_map worker_of (map Ring qs) ≡ map RingActor qs
rings_named [] = refl
rings_named (q ∷ qs) = ap (λ (names : List ActorName). RingActor q ∷ names) (rings_named qs)

-- a pass more, with its worker or without
pub named_more : (xs : List Pass) (x : Pass) (who : Option ActorName) → worker_at x ≡ who →
    filter_map worker_at (xs ++ x ∷ []) ≡ filter_map worker_at xs ++ cons_option who []
named_more xs x who e =
    filter_map-append worker_at xs (x ∷ [])
    ∙ ap (λ (o : Option ActorName). filter_map worker_at xs ++ cons_option o []) e

-- What a board deals to workers

module _ (b : Board) (p : Plan) (submits rings : List Pass)
    (submitting : AreFresh b submits (map Submit (threaded_queues p)))
    (ringing : AreFresh b rings (map Ring (range_with_len 0 (length p.script.queues)))) where
  crew_due : All (IsDue b p) (submits ++ rings)
  crew_due =
      All-append (IsDue b p) submits rings (all_due b p submits _ submitting (submits_own p))
      (all_due b p rings _ ringing (rings_own p))

  -- the next of them
  pub next_due : (n : ℕ) (x : Pass) →
      (n < length (submits ++ rings)) × (x ≡ get_or (submits ++ rings) n x) → IsDue b p x
  next_due n x h =
      subst (IsDue b p) (sym h.1) (All-get_or (IsDue b p) (submits ++ rings) n x h.0 crew_due)

  pub crew_named : filter_map worker_at (submits ++ rings) ≡ workers p.script
  crew_named = filter_map-append worker_at submits rings ∙ (λ i. named_submits i ++ named_rings i)
    where
      named_submits : filter_map worker_at submits ≡ map SubmitActor (threaded_queues p)
      named_submits = by_roles submits ∙ (ap (filter_map worker_of) submitting.0 ∙ submits_named (threaded_queues p))

      queues : List ℕ
      queues = range_with_len 0 (length p.script.queues)

      named_rings : filter_map worker_at rings ≡ map RingActor queues
      named_rings = by_roles rings ∙ (ap (filter_map worker_of) ringing.0 ∙ rings_named queues)
