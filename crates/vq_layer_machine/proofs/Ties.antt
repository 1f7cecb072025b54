-- What ties a tale's scene to the machine.
use Rattle.std.proofs.Common.{◌≡◌, ◌⊎◌, ℕ, zero, suc, ◌+◌, ◌<◌, ◌≤◌, true, false, List, [], ◌∷◌, ◌++◌, length, map, take, fold, Option, Some, None, inl, inr, refl, sym, ap, ◌∙◌, subst, arith}
use Rattle.std.specs.List.{list_all}
use Rattle.std.proofs.lemmas.Bool.{cases_eq, leb-true, le-leb}
use Rattle.vq_model.specs.declared.plan.Need.{Need}
use Rattle.vq_model.specs.Plan.{Plan, needs, commands_of, initial}
use Rattle.vq_model.specs.Lanes.{lane_at}
use Rattle.vq_model.specs.Machine.{Progress, State, Step, RunFrom, after_step, is_reached, put}
use Rattle.vq_model.proofs.Puts.{put_here, put_there}
use Rattle.vq_ground.specs.Lists.{has}
use Rattle.vq_ground.proofs.Lists.{all_weaker}
use Rattle.vq_layer.specs.Layer.{Layer, live_at, kind_at}
use Rattle.vq_layer.specs.Names.{is_closed}
use Rattle.vq_layer_laws.specs.Lived.{HaveLived}
use Rattle.vq_layer_laws.specs.Stuck.{IsAmong}
use Rattle.vq_layer_machine.specs.Tales.{Work, Place, Running, Scene, count_released}
use Rattle.vq_layer_machine.proofs.Jobs.{Asked, IsJob, rename_asked}
use Rattle.vq_layer_machine.proofs.Moves.{Runs, IsFresh, AreLow}
use Rattle.vq_layer_machine.proofs.Layers.{AreNamed, asked_in}

-- the places of a queue's batches stand in the order of their jobs, and below this one
abbrev pub ArePlaced : ℕ → List Place → Type 0
ArePlaced n [] = Unit {0}
ArePlaced n (x ∷ xs) = (x.job < n) × (((y : Place) → IsAmong y xs → x.job < y.job) × ArePlaced n xs)

-- at each stands the job of such a batch; the batches behind these have no places
abbrev pub AreJobs : Plan → ℕ → List Asked → List Place → Type 0
AreJobs p lane [] [] = Unit {0}
AreJobs p lane [] (x ∷ xs) = ⊥
AreJobs p lane (a ∷ bs) [] = Unit {0}
AreJobs p lane (a ∷ bs) (x ∷ xs) = IsJob p lane a x × AreJobs p lane bs xs

-- the first one runs, if it does, and the others haven't started
abbrev pub AtFirst : Plan → Progress → Place → Option Running → Type 0
AtFirst p s x None = IsFresh p s x
AtFirst p s x (Some r) = Runs p s x r

abbrev pub AreFresh : Plan → Progress → List Place → Type 0
AreFresh p s xs = (y : Place) → IsAmong y xs → IsFresh p s y

abbrev pub AreAt : Plan → Progress → List Place → Option Running → Type 0
AreAt p s [] None = Unit {0}
AreAt p s [] (Some r) = ⊥
AreAt p s (x ∷ xs) o = AtFirst p s x o × AreFresh p s xs

-- the job of an unfinished batch
pub record IsPlaced (places : ℕ → List Place) (i : ℕ) : Type 0 where
  pub queue : ℕ
  pub place : Place
  pub among : IsAmong place (places queue)
  pub is : place.job ≡ i

-- a number that stands for something
abbrev pub IsOpen : Layer → ℕ → Type 0
IsOpen l n = is_closed (kind_at l.kinds n) ≡ false

-- what a queue's unfinished batches ask, with the semaphores that numbers stand for
abbrev pub asked_at : Work → Scene → ℕ → List Asked
asked_at work sc q = map (rename_asked sc.names) (asked_in work q sc.layer)

-- What a scene keeps of its numbers: those that are open stand for semaphores that were opened, each for its own; and
-- no unfinished batch names a number that is closed.
pub record KeepsNames (work : Work) (sc : Scene) : Type 0 where
  pub same : length sc.layer.kinds ≡ length sc.layer.timelines
  pub lived : HaveLived sc.layer.timelines
  pub known : (n : ℕ) → IsOpen sc.layer n → sc.names n < sc.opened
  pub one_each : (m n : ℕ) → IsOpen sc.layer m → IsOpen sc.layer n → sc.names m ≡ sc.names n → m ≡ n
  pub named : (q : ℕ) → AreNamed (IsOpen sc.layer) (asked_in work q sc.layer)
  -- what is released has a place
  pub released : (q : ℕ) → count_released sc.layer q ≤ length (sc.places q)

pub record Ties (work : Work) (p : Plan) (sc : Scene) (s : Progress) : Type 0 where
  pub payload : (n : ℕ) → IsOpen sc.layer n → s.payload (sc.names n) ≡ (live_at sc.layer.timelines n).payload
  pub unopened : (t : ℕ) → sc.opened ≤ t → s.payload t ≡ initial p t
  pub low : AreLow p s
  pub jobs : (q : ℕ) → AreJobs p (q + 1) (asked_at work sc q) (sc.places q)
  pub placed : (q : ℕ) → ArePlaced sc.next.job (sc.places q)
  pub at : (q : ℕ) → AreAt p s (sc.places q) (sc.running q)
  -- what was submitted and isn't finished is placed
  pub left : (i : ℕ) → i < sc.next.job → (s.finished i ≡ true) ⊎ IsPlaced sc.places i
  pub new : (i : ℕ) → sc.next.job ≤ i → (s.started i ≡ false) × (s.finished i ≡ false)
  -- the commands of what was submitted are numbered below those of what comes next
  pub below : (q : ℕ) (y : Place) → IsAmong y (sc.places q) → (c : ℕ) → has (commands_of p y.job) c ≡ true → c < sc.next.command
  pub applied : (c : ℕ) → has s.applied c ≡ true → c < sc.next.command

-- steps that are a run, after which this scene is tied to the machine
pub record Goes (work : Work) (p : Plan) (st : State) (steps : List Step) (sc : Scene) : Type 0 where
  pub run : RunFrom p st steps
  pub ties : Ties work p sc (fold (after_step p) st steps).progress

-- a command is of one job
abbrev pub HasOneJob : Plan → Type 0
HasOneJob p = (c i j : ℕ) → has (commands_of p i) c ≡ true → has (commands_of p j) c ≡ true → i ≡ j

-- Places

pub among_push : (xs : List Place) (x y : Place) → IsAmong y (xs ++ x ∷ []) → IsAmong y xs ⊎ (x ≡ y)
among_push [] x y (inl e) = inr e
among_push [] x y (inr i) = absurd i
among_push (z ∷ zs) x y (inl e) = inl (inl e)
among_push (z ∷ zs) x y (inr i) = elim (among_push zs x y i) [ inl j ↦ inl (inr j) | inr e ↦ inr e ]

pub among_left : (xs : List Place) (x y : Place) → IsAmong y xs → IsAmong y (xs ++ x ∷ [])
among_left [] x y i = absurd i
among_left (z ∷ zs) x y (inl e) = inl e
among_left (z ∷ zs) x y (inr i) = inr (among_left zs x y i)

pub among_last : (xs : List Place) (x : Place) → IsAmong x (xs ++ x ∷ [])
among_last [] x = inl refl
among_last (z ∷ zs) x = inr (among_last zs x)

pub below_next : (n : ℕ) (xs : List Place) (y : Place) → ArePlaced n xs → IsAmong y xs → y.job < n
below_next n [] y a i = absurd i
below_next n (x ∷ xs) y a (inl e) = subst (λ (z : Place). z.job < n) e a.0
below_next n (x ∷ xs) y a (inr i) = below_next n xs y a.1.1 i

pub placed_more : (n m : ℕ) (xs : List Place) → n ≤ m → ArePlaced n xs → ArePlaced m xs
placed_more n m [] l a = tt
placed_more n m (x ∷ xs) l a = let first = a.0 in (omega arith, (a.1.0, placed_more n m xs l a.1.1))

pub placed_push : (n : ℕ) (x : Place) (xs : List Place) → x.job ≡ n → ArePlaced n xs → ArePlaced (n + 1) (xs ++ x ∷ [])
placed_push n x [] e a = (omega arith, ((λ y i. absurd i), tt))
placed_push n x (z ∷ zs) e a = let first = a.0 in (omega arith, (later, placed_push n x zs e a.1.1))
  where
    later : (y : Place) → IsAmong y (zs ++ x ∷ []) → z.job < y.job
    later y i = elim (among_push zs x y i) [
      | inl j ↦ a.1.0 y j
      | inr q ↦ let first = a.0 in subst (λ (w : Place). z.job < w.job) q (let l : z.job < x.job = omega arith in l)
    ]

pub jobs_push : (p : Plan) (lane : ℕ) (bs : List Asked) (xs : List Place) (a : Asked) (x : Place) → length xs ≡ length bs → AreJobs p lane bs xs → IsJob p lane a x → AreJobs p lane (bs ++ a ∷ []) (xs ++ x ∷ [])
jobs_push p lane [] [] a x e j k = (k, tt)
jobs_push p lane [] (z ∷ zs) a x e j k = absurd j
jobs_push p lane (b ∷ bs) [] a x e j k = absurd (omega arith)
jobs_push p lane (b ∷ bs) (z ∷ zs) a x e j k = (j.0, jobs_push p lane bs zs a x (omega arith) j.1 k)

-- there are as many batches as places at least
pub jobs_count : (p : Plan) (lane : ℕ) (bs : List Asked) (xs : List Place) → AreJobs p lane bs xs → length xs ≤ length bs
jobs_count p lane [] [] j = omega arith
jobs_count p lane [] (z ∷ zs) j = absurd j
jobs_count p lane (b ∷ bs) [] j = omega arith
jobs_count p lane (b ∷ bs) (z ∷ zs) j = let rest = jobs_count p lane bs zs j.1 in omega arith

-- one batch more or less that has no place
pub jobs_more : (p : Plan) (lane : ℕ) (bs : List Asked) (xs : List Place) (a : Asked) → AreJobs p lane bs xs → AreJobs p lane (bs ++ a ∷ []) xs
jobs_more p lane [] [] a j = tt
jobs_more p lane [] (z ∷ zs) a j = absurd j
jobs_more p lane (b ∷ bs) [] a j = tt
jobs_more p lane (b ∷ bs) (z ∷ zs) a j = (j.0, jobs_more p lane bs zs a j.1)

pub jobs_fewer : (p : Plan) (lane n : ℕ) (bs : List Asked) (xs : List Place) → length xs ≤ n → AreJobs p lane bs xs → AreJobs p lane (take n bs) xs
jobs_fewer p lane n [] [] l j = by_count n
  where
    by_count : (m : ℕ) → AreJobs p lane (take m []) []
    by_count zero = tt
    by_count (suc m) = tt
jobs_fewer p lane n [] (z ∷ zs) l j = absurd j
jobs_fewer p lane zero (b ∷ bs) [] l j = tt
jobs_fewer p lane (suc n) (b ∷ bs) [] l j = tt
jobs_fewer p lane zero (b ∷ bs) (z ∷ zs) l j = absurd (omega arith)
jobs_fewer p lane (suc n) (b ∷ bs) (z ∷ zs) l j = (j.0, jobs_fewer p lane n bs zs (omega arith) j.1)

pub at_push : (p : Plan) (s : Progress) (xs : List Place) (o : Option Running) (x : Place) → AreAt p s xs o → IsFresh p s x → AreAt p s (xs ++ x ∷ []) o
at_push p s [] None x a f = (f, λ y i. absurd i)
at_push p s [] (Some r) x a f = absurd a
at_push p s (z ∷ zs) o x a f = (a.0, λ y i. elim (among_push zs x y i) [ inl j ↦ a.1 y j | inr e ↦ subst (IsFresh p s) e f ])

pub at_rest : (p : Plan) (s : Progress) (xs : List Place) → AreFresh p s xs → AreAt p s xs None
at_rest p s [] f = tt
at_rest p s (x ∷ xs) f = (f x (inl refl), λ y i. f y (inr i))

pub lane_of : (p : Plan) (lane : ℕ) (bs : List Asked) (xs : List Place) (y : Place) → AreJobs p lane bs xs → IsAmong y xs → lane_at p y.job ≡ lane
lane_of p lane [] [] y j i = absurd i
lane_of p lane [] (x ∷ xs) y j i = absurd j
lane_of p lane (a ∷ bs) [] y j i = absurd i
lane_of p lane (a ∷ bs) (x ∷ xs) y j (inl e) = ap (λ (z : Place). lane_at p z.job) (sym e) ∙ j.0.in_lane
lane_of p lane (a ∷ bs) (x ∷ xs) y j (inr i) = lane_of p lane bs xs y j.1 i

-- the first of a queue
pub record Front (p : Plan) (lane : ℕ) (a : Asked) (bs : List Asked) (xs : List Place) : Type 0 where
  pub place : Place
  pub rest : List Place
  pub is : xs ≡ place ∷ rest
  pub job : IsJob p lane a place
  pub jobs : AreJobs p lane bs rest

pub front_of : (p : Plan) (lane : ℕ) (a : Asked) (bs : List Asked) (xs : List Place) → 0 < length xs → AreJobs p lane (a ∷ bs) xs → Front p lane a bs xs
front_of p lane a bs [] l j = absurd (omega arith)
front_of p lane a bs (x ∷ xs) l j = record { place = x; rest = xs; is = refl; job = j.0; jobs = j.1 }

-- what holds of a function after a change
pub put_each : {A : Type 0} (P : ℕ → A → Type 0) (f : ℕ → A) (at : ℕ) (x : A) → P at x → ((k : ℕ) → (k ≡ at → ⊥) → P k (f k)) → (k : ℕ) → P k (put f at x k)
put_each {A} P f at x here there k = elim (cases_eq k at) [
  | inl e ↦ subst (λ (m : ℕ). P m (put f at x m)) (sym e) (subst (P at) (sym (put_here f at x)) here)
  | inr n ↦ subst (P k) (sym (put_there f at x k n)) (there k n)
]

-- Steps that touch one job

pub record Touches (p : Plan) (s t : Progress) (j : ℕ) : Type 0 where
  pub started : (i : ℕ) → (i ≡ j → ⊥) → t.started i ≡ s.started i
  pub finished : (i : ℕ) → (i ≡ j → ⊥) → t.finished i ≡ s.finished i
  pub applied : (i c : ℕ) → (i ≡ j → ⊥) → has (commands_of p i) c ≡ true → has t.applied c ≡ has s.applied c
  pub kept : (c : ℕ) → has s.applied c ≡ true → has t.applied c ≡ true
  pub payload : (n : ℕ) → s.payload n ≤ t.payload n
  pub made : (e : ℕ) → s.made e ≡ true → t.made e ≡ true

pub reached_kept : (f g : ℕ → ℕ) (ns : List Need) → ((n : ℕ) → f n ≤ g n) → list_all (is_reached f) ns ≡ true → list_all (is_reached g) ns ≡ true
reached_kept f g ns l h = all_weaker (is_reached f) (is_reached g) ns up h
  where
    up : (n : Need) → is_reached f n ≡ true → is_reached g n ≡ true
    up n e =
        let more = l n.chain in
        let was = leb-true n.value (f n.chain) e in
        le-leb n.value (g n.chain) (omega arith)

module _ (p : Plan) (s t : Progress) (j : ℕ) (touches : Touches p s t j) where
  pub fresh_kept : (y : Place) → (y.job ≡ j → ⊥) → IsFresh p s y → IsFresh p t y
  fresh_kept y n f = record {
    waiting = touches.started y.job n ∙ f.waiting;
    unfinished = touches.finished y.job n ∙ f.unfinished;
    undone = λ c m. touches.applied y.job c n m ∙ f.undone c m;
  }

  pub runs_kept : (y : Place) (r : Running) → (y.job ≡ j → ⊥) → Runs p s y r → Runs p t y r
  runs_kept y r n f = record {
    started = touches.started y.job n ∙ f.started;
    unfinished = touches.finished y.job n ∙ f.unfinished;
    reached = reached_kept s.payload t.payload (needs p y.job) touches.payload f.reached;
    done = λ i l. touches.kept (y.command + i) (f.done i l);
    undone = λ c m l. touches.applied y.job c n m ∙ f.undone c m l;
    made_first = λ i l. touches.made (y.op + i) (f.made_first i l);
  }

  pub at_kept : (xs : List Place) (o : Option Running) → ((y : Place) → IsAmong y xs → y.job ≡ j → ⊥) → AreAt p s xs o → AreAt p t xs o
  at_kept [] None n a = tt
  at_kept [] (Some r) n a = absurd a
  at_kept (x ∷ xs) None n a = (fresh_kept x (n x (inl refl)) a.0, λ y i. fresh_kept y (n y (inr i)) (a.1 y i))
  at_kept (x ∷ xs) (Some r) n a = (runs_kept x r (n x (inl refl)) a.0, λ y i. fresh_kept y (n y (inr i)) (a.1 y i))

-- Two batches of two queues have two jobs.
module _ (work : Work) (p : Plan) (sc : Scene) (s : Progress) (ties : Ties work p sc s) where
  pub apart : (q r : ℕ) (x y : Place) → IsAmong x (sc.places q) → IsAmong y (sc.places r) → (r ≡ q → ⊥) → y.job ≡ x.job → ⊥
  apart q r x y i j n e =
      let a = lane_of p (q + 1) (asked_at work sc q) (sc.places q) x (ties.jobs q) i in
      let b = lane_of p (r + 1) (asked_at work sc r) (sc.places r) y (ties.jobs r) j in
      let c = ap (lane_at p) e in
      n (let same : r ≡ q = omega arith in same)

  -- what must come before a job is finished, where it stands in no queue or in front of its own
  pub is_done : (i lane : ℕ) → i < sc.next.job → lane_at p i ≡ lane → ((q : ℕ) (y : Place) → IsAmong y (sc.places q) → lane ≡ q + 1 → y.job ≡ i → ⊥) → s.finished i ≡ true
  is_done i lane l e none = elim (ties.left i l) [
    | inl f ↦ f
    | inr x ↦
        let a = lane_of p (x.queue + 1) (asked_at work sc x.queue) (sc.places x.queue) x.place (ties.jobs x.queue) x.among in
        let b = ap (lane_at p) x.is in
        absurd (none x.queue x.place x.among (omega arith) x.is)
  ]

  module _ (q : ℕ) (x : Place) (xs : List Place) (is : sc.places q ≡ x ∷ xs) where
    pub at_front : IsAmong x (sc.places q)
    at_front = subst (IsAmong x) (sym is) (inl refl)

    pub in_rest : (y : Place) → IsAmong y xs → IsAmong y (sc.places q)
    in_rest y i = subst (IsAmong y) (sym is) (inr i)

    pub placed_front : ArePlaced sc.next.job (x ∷ xs)
    placed_front = subst (ArePlaced sc.next.job) is (ties.placed q)

    pub first_is : (o : Option Running) → sc.running q ≡ o → AtFirst p s x o × AreFresh p s xs
    first_is o e = subst (λ (zs : List Place). AreAt p s zs o) is (subst (AreAt p s (sc.places q)) e (ties.at q))

    -- all queues, after a step of this queue's first batch
    pub at_step : (t : Progress) (o : Option Running) → Touches p s t x.job → AtFirst p t x o → AreFresh p s xs → (r : ℕ) → AreAt p t (sc.places r) (put sc.running q o r)
    at_step t o touches first fresh =
        put_each (λ r z. AreAt p t (sc.places r) z) sc.running q o
        (subst (λ (zs : List Place). AreAt p t zs o) (sym is) (first, λ y i. fresh_kept p s t x.job touches y (later y i) (fresh y i)))
        (λ r n. at_kept p s t x.job touches (sc.places r) (sc.running r) (λ y i. apart q r x y at_front i n) (ties.at r))
      where
        later : (y : Place) → IsAmong y xs → y.job ≡ x.job → ⊥
        later y i e = let l = placed_front.1.0 y i in omega arith
