-- In the program of a submit actor each task stands behind what it asks.
use Rattle.std.proofs.Common.{◌≡◌, ℕ, ◌<◌, true, false, List, [], ◌∷◌, ◌++◌, map, Some, refl, sym, subst, ap, ◌∙◌, ◌⊎◌}
use Rattle.std.proofs.Common.{inl, inr, arith}
use Rattle.std.specs.List.{flat_map}
use Rattle.std.specs.Option.{option_map_or}
use Rattle.vq_model.specs.Plan.{Plan, signals_of, job_of, chain_of, is_host_step, is_batch}
use Rattle.vq_ground.specs.Lists.{has, AreRising}
use Rattle.vq_model.specs.Edges.{AtEnd, awaited_at}
use Rattle.vq_ground.proofs.Lists.{has_here, has_there, has_cases}
use Rattle.vq_model.specs.declared.script.ActorName.{ActorName}
use Rattle.vq_point_laws.specs.Points.{earlier_in_queue}
use Rattle.vq_turns.specs.declared.task.Task.{Task}
use Rattle.vq_turns.specs.declared.task.Task.TheVariants.{AwaitSubmitted, AwaitBound, Submit, Take, Release, Bind}
use Rattle.vq_turns.specs.Programs.{takes, moves_batch, submits_batch}
use Rattle.vq_turn_laws.specs.Orders.{AsksBatch, AsksRelease, Asks, InOrder}
use Rattle.vq_turn_laws.specs.Tasks.{onto, Among}

abbrev pub InPart : Plan → ActorName → List Task → List Task → List Task → Type 0
InPart p a before [] left = Unit {0}
InPart p a before (t ∷ ts) left = Asks p a before t (ts ++ left) × InPart p a (t ∷ before) ts left

pub joined : (p : Plan) (a : ActorName) (before xs ys : List Task) → InPart p a before xs ys →
    InOrder p a (onto xs before) ys → InOrder p a before (xs ++ ys)
joined p a before [] ys h o = o
joined p a before (t ∷ ts) ys h o = (h.0, joined p a (t ∷ before) ts ys h.1 o)

pub together : (xs ys zs : List Task) → (xs ++ ys) ++ zs ≡ xs ++ (ys ++ zs)
together [] ys zs = refl
together (x ∷ xs) ys zs = ap (λ us. x ∷ us) (together xs ys zs)

pub parts : (p : Plan) (a : ActorName) (before xs ys left : List Task) → InPart p a before xs (ys ++ left) →
    InPart p a (onto xs before) ys left → InPart p a before (xs ++ ys) left
parts p a before [] ys left h k = k
parts p a before (t ∷ ts) ys left h k =
    (subst (λ us. Asks p a before t us) (sym (together ts ys left)) h.0, parts p a (t ∷ before) ts ys left h.1 k)

pub onto_append : (xs ys before : List Task) → onto (xs ++ ys) before ≡ onto ys (onto xs before)
onto_append [] ys before = refl
onto_append (x ∷ xs) ys before = onto_append xs ys (x ∷ before)

pub among_onto : (t : Task) (xs before : List Task) → Among t before → Among t (onto xs before)
among_onto t [] before m = m
among_onto t (x ∷ xs) before m = among_onto t xs (x ∷ before) (inr m)

pub among_turned : (t : Task) (xs before : List Task) → Among t xs → Among t (onto xs before)
among_turned t [] before m = absurd m
among_turned t (x ∷ xs) before (inl e) = among_onto t xs (x ∷ before) (inl e)
among_turned t (x ∷ xs) before (inr m) = among_turned t xs (x ∷ before) m

pub among_right : (t : Task) (xs ys : List Task) → Among t ys → Among t (xs ++ ys)
among_right t [] ys m = m
among_right t (x ∷ xs) ys m = inr (among_right t xs ys m)

pub among_left : (t : Task) (xs ys : List Task) → Among t xs → Among t (xs ++ ys)
among_left t [] ys m = absurd m
among_left t (x ∷ xs) ys (inl e) = inl e
among_left t (x ∷ xs) ys (inr m) = inr (among_left t xs ys m)

pub among_map : (f : ℕ → Task) (xs : List ℕ) (x : ℕ) → has xs x ≡ true → Among (f x) (map f xs)
among_map f [] x m = absurd (cc)
among_map f (y ∷ xs) x m = elim (has_cases y xs x m) [
  | inl e ↦ inl (ap f e)
  | inr r ↦ inr (among_map f xs x r)
]

pub batch_more : (p : Plan) (xs before : List Task) (j : ℕ) → AsksBatch p before j → AsksBatch p (onto xs before) j
batch_more p xs before j k =
    record {
      batch = k.batch;
      host = k.host;
      submitted = elim k.submitted [
        | inl m ↦ inl (among_onto (AwaitSubmitted j) xs before m)
        | inr m ↦ inr (among_onto (Submit j) xs before m)
      ];
      needs = λ f m. among_onto (AwaitBound f) xs before (k.needs f m);
      earlier = λ i m. among_onto (Release i) xs before (k.earlier i m);
    }

abbrev pub chain_or : Plan → ℕ → ℕ
chain_or p e = option_map_or (λ t. t) (chain_of p e) 0

-- What a plan says of a batch and its signals.
pub record IsBatch (p : Plan) (j : ℕ) : Type 0 where
  pub batch : is_batch p j ≡ true
  pub host : is_host_step p j ≡ false
  pub ops : (e : ℕ) → has (signals_of p j) e ≡ true → job_of p e ≡ Some j
  pub chains : (e : ℕ) → has (signals_of p j) e ≡ true → chain_of p e ≡ Some (option_map_or (λ t. t) (chain_of p e) 0)

module _ (p : Plan) (a : ActorName) (j : ℕ) (b : IsBatch p j) where
  waits_part : (es : List ℕ) (before left : List Task) → InPart p a before (map AwaitBound es) left
  waits_part [] before left = tt
  waits_part (e ∷ es) before left = (tt, waits_part es (AwaitBound e ∷ before) left)

  takes_part : (es : List ℕ) → ((e : ℕ) → has es e ≡ true → has (signals_of p j) e ≡ true) → (before left : List Task) →
      AsksBatch p before j → Among (Release j) left → InPart p a before (map (λ e. Take e (chain_or p e)) es) left
  takes_part [] f before left k r = tt
  takes_part (e ∷ es) f before left k r = (
    record {
      job = j;
      of_job = b.ops e (f e (has_here e es));
      in_chain = b.chains e (f e (has_here e es));
      started = λ h. absurd (let c = sym h ∙ b.host in cc);
      moves = λ h. k;
      release = λ h. among_right (Release j) (map (λ e. Take e (chain_or p e)) es) left r;
    },
    takes_part es (λ x m. f x (has_there e es x m)) (Take e (chain_or p e) ∷ before) left
        (batch_more p (Take e (chain_or p e) ∷ []) before j k) r,
  )

  binds_part : (es : List ℕ) → ((e : ℕ) → has es e ≡ true → has (signals_of p j) e ≡ true) → (before left : List Task) →
      Among (Release j) before → ((e : ℕ) → has es e ≡ true → (t : ℕ) × Among (Take e t) before) →
      InPart p a before (map Bind es) left
  binds_part [] f before left r g = tt
  binds_part (e ∷ es) f before left r g = (
    record {
      job = j;
      of_job = b.ops e (f e (has_here e es));
      chain = chain_or p e;
      in_chain = b.chains e (f e (has_here e es));
      started = λ h. absurd (let c = sym h ∙ b.host in cc);
      released = λ h. r;
      taken = g e (has_here e es);
    },
    binds_part es (λ x m. f x (has_there e es x m)) (Bind e ∷ before) left (inr r)
        (λ x m. let old = g x (has_there e es x m) in (old.0, inr old.1)),
  )

  -- A batch that is moved: what is known of it before, and what stands before it.
  pub moves_part : (before left : List Task) → Among (AwaitSubmitted j) before ⊎ Among (Submit j) before →
      ((i : ℕ) → has (earlier_in_queue p j) i ≡ true → Among (Release i) before) →
      InPart p a before (moves_batch p j) left
  moves_part before left sub earlier =
      let ws : List Task = map AwaitBound (awaited_at p j AtEnd) in
      let ts : List Task = takes p j in
      let bs : List Task = map Bind (signals_of p j) in
      let one : List Task = Release j ∷ [] in
      let at_takes : AsksBatch p (onto ws before) j =
      record {
        batch = b.batch;
        host = b.host;
        submitted = elim sub [
          | inl m ↦ inl (among_onto (AwaitSubmitted j) ws before m)
          | inr m ↦ inr (among_onto (Submit j) ws before m)
        ];
        needs = λ f m. among_turned (AwaitBound f) ws before (among_map AwaitBound (awaited_at p j AtEnd) f m);
        earlier = λ i m. among_onto (Release i) ws before (earlier i m);
      }
      in
      let take_of : (e : ℕ) → has (signals_of p j) e ≡ true → (t : ℕ) × Among (Take e t) (onto ts (onto ws before)) =
      λ e m. (
        chain_or p e,
        among_turned (Take e (chain_or p e)) ts (onto ws before)
            (among_map (λ x. Take x (chain_or p x)) (signals_of p j) e m),
      )
      in
      let first : InPart p a before (ws ++ ts) (one ++ (bs ++ left)) =
      parts p a before ws ts (one ++ (bs ++ left))
      (waits_part (awaited_at p j AtEnd) before (ts ++ (one ++ (bs ++ left))))
      (takes_part (signals_of p j) (λ e m. m) (onto ws before) (one ++ (bs ++ left)) at_takes (inl refl))
      in
      let at_release : AsksRelease p
      (onto ts (onto ws before)) j = record { moves = batch_more p ts (onto ws before) j at_takes; taken = take_of }
      in
      let same : onto ts (onto ws before) ≡ onto (ws ++ ts) before = sym (onto_append ws ts before) in
      let second : InPart p a before (ws ++ ts ++ one) (bs ++ left) =
      parts p a before (ws ++ ts) one (bs ++ left) first (subst (λ us. AsksRelease p us j) same at_release, tt)
      in
      let after : onto (ws ++ ts ++ one) before ≡ Release j ∷ onto ts (onto ws before) = onto_append
      (ws ++ ts) one before ∙ ap (λ us. Release j ∷ us) (onto_append ws ts before) in
      let third : InPart p a (onto (ws ++ ts ++ one) before) bs left =
      subst (λ us. InPart p a us bs left) (sym after)
      (binds_part (signals_of p j) (λ e m. m) (Release j ∷ onto ts (onto ws before)) left (inl refl)
      (λ e m. let old = take_of e m in (old.0, inr old.1)))
      in
      parts p a before (ws ++ ts ++ one) bs left second third

  pub submits_part : (before left : List Task) →
      ((i : ℕ) → has (earlier_in_queue p j) i ≡ true → Among (Release i) before) →
      InPart p a before (submits_batch p j) left
  submits_part before left earlier =
      (tt, moves_part (AwaitSubmitted j ∷ before) left (inl (inl refl)) (λ i m. inr (earlier i m)))

  pub has_release : (before : List Task) → Among (Release j) (onto (submits_batch p j) before)
  has_release before = among_turned (Release j) (submits_batch p j) before
      (inr (among_left (Release j) (map AwaitBound (awaited_at p j AtEnd) ++ takes p j ++ Release j ∷ [])
      (map Bind (signals_of p j))
      (among_right (Release j) (map AwaitBound (awaited_at p j AtEnd) ++ takes p j) (Release j ∷ []) (inl refl))))

-- Batches one after another, of which each stands behind the earlier ones of its queue.
pub submits_in_order : (p : Plan) (a : ActorName) (js : List ℕ) → AreRising js →
    ((j : ℕ) → has js j ≡ true → IsBatch p j) → (before : List Task) →
    ((j i : ℕ) → has js j ≡ true → has (earlier_in_queue p j) i ≡ true →
    i < j × ((has js i ≡ true) ⊎ Among (Release i) before)) → InOrder p a before (flat_map (submits_batch p) js)
submits_in_order p a [] rising batches before earlier = tt
submits_in_order p a (j ∷ js) rising batches before earlier =
    let b = batches j (has_here j js) in
    let first : (i : ℕ) → has (earlier_in_queue p j) i ≡ true → Among (Release i) before = λ i m. before_first i
    (earlier j i (has_here j js) m) in
    let rest = submits_in_order p a js rising.1 (λ k m. batches k (has_there j js k m))
    (onto (submits_batch p j) before) (λ k i m n. later k i (earlier k i (has_there j js k m) n)) in
    joined p a before (submits_batch p j) (flat_map (submits_batch p) js)
    (submits_part p a j b before (flat_map (submits_batch p) js) first) rest
  where
    before_first : (i : ℕ) → i < j × ((has (j ∷ js) i ≡ true) ⊎ Among (Release i) before) → Among (Release i) before
    before_first i h = elim h.1 [
      | inl m ↦
          elim (has_cases j js i m) [
            | inl e ↦ let less = h.0 in absurd (omega arith)
            | inr r ↦ let less = h.0 in let more = rising.0 i r in absurd (omega arith)
          ]
      | inr m ↦ m
    ]

    later : (k i : ℕ) → i < k × ((has (j ∷ js) i ≡ true) ⊎ Among (Release i) before) →
        i < k × ((has js i ≡ true) ⊎ Among (Release i) (onto (submits_batch p j) before))
    later k i h = (
      h.0,
      elim h.1 [
        | inl m ↦
            elim (has_cases j js i m) [
              | inl e ↦ inr (subst (λ (n : ℕ). Among (Release n) (onto (submits_batch p j) before)) e
                  (has_release p a j (batches j (has_here j js)) before))
              | inr r ↦ inl r
            ]
        | inr m ↦ inr (among_onto (Release i) (submits_batch p j) before m)
      ],
    )
