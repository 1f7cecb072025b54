-- Laws on lists of events: the point law and the pending law. Events stand latest first where a law
-- looks back. This project's own.
use Rattle.std.specs.Prelude.{List, [], ◌∷◌, ℕ, ◌==◌, Bool, false, ◌&&◌, if◌then◌else◌, Option}
use Rattle.std.specs.Prelude.{Some, None, not, ◌||◌}
use Rattle.std.specs.Prelude.{◌+◌, ◌≡◌, ◌≢◌, true, nat_le}
use Rattle.std.specs.List.{list_any, list_all}
use Rattle.vq_model.specs.declared.plan.Event.{Event}
use Rattle.vq_model.specs.declared.plan.Event.TheVariants.{Take, Free, Refer, Unref, Signal, Complete, Bind, Release}
use Rattle.vq_model.specs.declared.plan.Event.TheVariants.{Start, Look}
use Rattle.vq_model.specs.declared.script.ActorName.{ActorName}
use Rattle.vq_model.specs.declared.plan.Need.{Need}
use Rattle.vq_model.specs.Plan.{Plan, chain_of, chain, initial, value, needs, signals_of, is_batch, job_of}
use Rattle.vq_model.specs.Plan.{is_host_step}
use Rattle.vq_model.specs.Naming.{same_actor}
use Rattle.vq_point_laws.specs.Points.{earlier_in_queue, smaller_ops}

-- A law that each event of a list keeps after those before it. What came before stands latest
-- first.
abbrev pub AfterEach : (List Event → Event → Type 0) → List Event → List Event → Type 0
AfterEach P before [] = Unit {0}
AfterEach P before (x ∷ xs) = P before x × AfterEach P (x ∷ before) xs

abbrev pub takes_for : ℕ → Event → Bool
takes_for e (Take f r fresh) = e == f
takes_for e other = false

abbrev pub is_fresh : Event → Bool
is_fresh (Take e r fresh) = fresh
is_fresh other = false

abbrev pub signals : ℕ → Event → Bool
signals e (Signal f) = e == f
signals e other = false

abbrev pub completes : ℕ → Event → Bool
completes e (Complete f) = e == f
completes e other = false

abbrev pub binds : ℕ → Event → Bool
binds e (Bind f q) = e == f
binds e other = false

abbrev pub releases : ℕ → Event → Bool
releases j (Release i) = j == i
releases j other = false

abbrev pub starts : ℕ → Event → Bool
starts j (Start i) = j == i
starts j other = false

abbrev pub came : (Event → Bool) → List Event → Bool
came test events = list_any test events

-- the operation of a point's last take
abbrev pub last_take : ℕ → List Event → Option ℕ
last_take q [] = None
last_take q (Take e r fresh ∷ before) = if q == r then Some e else last_take q before
last_take q (other ∷ before) = last_take q before

-- whether a point stands free: it was freed, and not taken since
abbrev pub stands_free : ℕ → List Event → Bool
stands_free q [] = false
stands_free q (Take e r fresh ∷ before) = not (q == r) && stands_free q before
stands_free q (Free r ∷ before) = (q == r) || stands_free q before
stands_free q (other ∷ before) = stands_free q before

-- whether of two points the first was freed last
abbrev pub was_freed_later : ℕ → ℕ → List Event → Bool
was_freed_later q r [] = false
was_freed_later q r (Free o ∷ before) = (q == o) || (not (r == o) && was_freed_later q r before)
was_freed_later q r (other ∷ before) = was_freed_later q r before

-- how many references to a point were made since its last take, and how many were given back
abbrev pub refers_since : ℕ → List Event → ℕ
refers_since q [] = 0
refers_since q (Take e r fresh ∷ before) = if q == r then 0 else refers_since q before
refers_since q (Refer a r e ∷ before) = if q == r then refers_since q before + 1
    else refers_since q before
refers_since q (other ∷ before) = refers_since q before

abbrev pub unrefers_since : ℕ → List Event → ℕ
unrefers_since q [] = 0
unrefers_since q (Take e r fresh ∷ before) = if q == r then 0 else unrefers_since q before
unrefers_since q (Unref a r e ∷ before) = if q == r then unrefers_since q before + 1
    else unrefers_since q before
unrefers_since q (other ∷ before) = unrefers_since q before

-- how many points were made
abbrev pub made_points : List Event → ℕ
made_points [] = 0
made_points (Take e r fresh ∷ before) = if fresh then made_points before + 1 else made_points before
made_points (other ∷ before) = made_points before

-- whether a point's last operation is of this chain
abbrev pub is_on_chain : Plan → ℕ → ℕ → List Event → Type 0
is_on_chain p t q before = (e : ℕ) × (last_take q before ≡ Some e) × (chain_of p e ≡ Some t)

-- of the free points of a chain the one that was freed last
pub record IsFreedLast (p : Plan) (t : ℕ) (before : List Event) (q : ℕ) : Type 0 where
  pub free : stands_free q before ≡ true
  pub on_chain : is_on_chain p t q before
  pub last : (r : ℕ) → r ≢ q → stands_free r before ≡ true → is_on_chain p t r before →
      was_freed_later q r before ≡ true

-- A point that was taken is taken again only once it was freed. A take that isn't fresh names the
-- point of the chain that was freed last. A fresh one comes only where no point of the chain stands
-- free, and names the number of points made.
pub record TakesInTurn (p : Plan) (before : List Event) (e q : ℕ) (fresh : Bool) : Type 0 where
  pub given_up : (f : ℕ) → last_take q before ≡ Some f → stands_free q before ≡ true
  pub chain : ℕ
  pub in_chain : chain_of p e ≡ Some chain
  pub reused : fresh ≡ false → IsFreedLast p chain before q
  pub number : fresh ≡ true → q ≡ made_points before
  pub none_free : fresh ≡ true → (r : ℕ) → stands_free r before ≡ true →
      ¬ is_on_chain p chain r before

-- A point is freed only when its operation is signaled and completed, and each reference since its
-- take is given back.
pub record FreesInTime (before : List Event) (q : ℕ) : Type 0 where
  pub op : ℕ
  pub last_take : last_take q before ≡ Some op
  pub signaled : came (signals op) before ≡ true
  pub completed : came (completes op) before ≡ true
  pub given_back : unrefers_since q before ≡ refers_since q before

-- the operation that a point carried when an actor last referred to it
abbrev pub carried_when_referred : ActorName → ℕ → List Event → Option ℕ
carried_when_referred a q [] = None
carried_when_referred a q (Refer b r e ∷ before) =
    if same_actor a b && (q == r) then last_take q before else carried_when_referred a q before
carried_when_referred a q (other ∷ before) = carried_when_referred a q before

-- A look sees the signal of the operation that the point carried when the actor's reference was
-- made.
pub record LooksTruly (before : List Event) (a : ActorName) (q e : ℕ) : Type 0 where
  pub carried : carried_when_referred a q before ≡ Some e
  pub signaled : came (signals e) before ≡ true

abbrev pub KeepsPoints : Plan → List Event → Event → Type 0
KeepsPoints p before (Take e q fresh) = TakesInTurn p before e q fresh
KeepsPoints p before (Free q) = FreesInTime before q
KeepsPoints p before (Look a q e) = LooksTruly before a q e
KeepsPoints p before other = Unit {0}

abbrev pub PointLaw : Plan → List Event → Type 0
PointLaw p history = AfterEach (KeepsPoints p) [] history

-- an operation of a chain with at least this value is bound
abbrev pub is_pending_at : Plan → List Event → Need → Bool
is_pending_at p before n =
    nat_le n.value (initial p n.chain)
    || list_any (λ e. nat_le n.value (value p e) && came (binds e) before) (chain p n.chain)

-- a batch is released after the earlier batches of its queue, with a point for each of its signals
-- and each need pending
pub record ReleasesInTime (p : Plan) (before : List Event) (j : ℕ) : Type 0 where
  pub batch : is_batch p j ≡ true
  pub in_order : list_all (λ i. came (releases i) before) (earlier_in_queue p j) ≡ true
  pub taken : list_all (λ e. came (takes_for e) before) (signals_of p j) ≡ true
  pub needs : list_all (is_pending_at p before) (needs p j) ≡ true

-- an operation is bound after all smaller ones of its chain, and after its batch's release or its
-- host step's start
pub record BindsInTime (p : Plan) (before : List Event) (e : ℕ) : Type 0 where
  pub job : ℕ
  pub of_job : job_of p e ≡ Some job
  pub chain : ℕ
  pub in_chain : chain_of p e ≡ Some chain
  pub in_order : list_all (λ f. came (binds f) before) (smaller_ops p chain e) ≡ true
  pub ready : (if is_host_step p job then came (starts job) before else came (releases job) before)
      ≡ true

abbrev pub KeepsPending : Plan → List Event → Event → Type 0
KeepsPending p before (Release j) = ReleasesInTime p before j
KeepsPending p before (Bind e q) = BindsInTime p before e
KeepsPending p before other = Unit {0}

abbrev pub PendingLaw : Plan → List Event → Type 0
PendingLaw p history = AfterEach (KeepsPending p) [] history
