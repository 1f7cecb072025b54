-- Conflicts and races by the accesses of commands.
use Rattle.std.proofs.Common.{◌≡◌, ℕ, ◌+◌, ◌≤◌, ◌<◌, arith, length, Bool, true, false, ◌||◌, List, Option, Some, None, option_map, refl, sym, ap, ◌∙◌, subst, inl, inr}
use Rattle.std.specs.List.{list_any}
use Rattle.std.specs.Option.{option_map_or, option_to_list}
use Rattle.std.proofs.lemmas.Bool.{cases_eq, cases_lt}
use Rattle.std.proofs.lemmas.Option.{slice_get-get_or}
use Rattle.vq_model.specs.declared.script.Command.{Command}
use Rattle.vq_model.specs.HappensBefore.{HappensBeforeCommand}
use Rattle.vq_model.specs.LoweredPlans.{IsPlan}
use Rattle.vq_model.specs.Plan.{Plan, command_at, commands_of}
use Rattle.vq_ground.specs.Lists.{has}
use Rattle.vq_model.specs.Races.{conflicts, IsRace}
use Rattle.vq_model.specs.declared.ranges.Range.{Range}
use Rattle.vq_model.specs.FittingCommands.{Fits}
use Rattle.vq_model.specs.Ranges.{share, conflict, written_range, read_range}
use Rattle.vq_model.specs.WellFormed.{IsWellFormed}
use Rattle.vq_plan_laws.proofs.Cited.{plan_well_formed}
use Rattle.vq_order.specs.Accessed.{span_of, spans_share, accesses_conflict, access_in, IsAccess, AreAccesses, AreAllInOrder, HasNoRaceBelow, IsJobInOrder, IsQuiet, RaceBy}
use Rattle.vq_order.specs.Swept.{AreInOrder, IsOfJob}
use Rattle.vq_order.specs.declared.races.accesses.MemoryAccess.{MemoryAccess}
use Rattle.vq_order.specs.declared.races.accesses.Span.{Span}
use Rattle.vq_order.specs.declared.races.accesses.Visitor.{Visitor}
use Rattle.vq_clocks.proofs.Cited.{later_command}

or_none : (b : Bool) → ((b || false) || false) ≡ b
or_none true = refl
or_none false = refl

shares_some : (w : Range) (o : Option Range) → option_map_or (share w) o false ≡ option_map_or (spans_share (span_of w)) (option_map span_of o) false
shares_some w None = refl
shares_some w (Some r) = refl

-- commands conflict where their accesses do
conflict_is : (sizes : List ℕ) (x y : Command) → conflict sizes x y ≡ ((spans_share (span_of (written_range sizes x)) (span_of (written_range sizes y)) || option_map_or (spans_share (span_of (written_range sizes x))) (option_map span_of (read_range y)) false) || option_map_or (spans_share (span_of (written_range sizes y))) (option_map span_of (read_range x)) false)
conflict_is sizes x y =
    let wx = written_range sizes x in
    let wy = written_range sizes y in
    ap (λ b. (share wx wy || b) || option_map_or (share wy) (read_range x) false) (shares_some wx (read_range y))
    ∙ ap (λ b. (share wx wy || option_map_or (spans_share (span_of wx)) (option_map span_of (read_range y)) false) || b) (shares_some wy (read_range x))

pub conflicts_are : (p : Plan) (c d : ℕ) (a b : MemoryAccess) → IsAccess p c a → IsAccess p d b → conflicts p c d ≡ accesses_conflict a b
conflicts_are p c d a b u v =
    ap (λ (o : Option Command). list_any (λ x. list_any (conflict p.sizes x) (option_to_list (command_at p d))) (option_to_list o)) u.found
    ∙ (ap (λ (o : Option Command). list_any (conflict p.sizes u.command) (option_to_list o) || false) v.found
    ∙ (or_none (conflict p.sizes u.command v.command)
    ∙ (conflict_is p.sizes u.command v.command
    ∙ (ap (λ (z : Span × Span). (spans_share z.0 z.1 || option_map_or (spans_share z.0) (option_map span_of (read_range v.command)) false) || option_map_or (spans_share z.1) (option_map span_of (read_range u.command)) false) (λ i. (sym u.writes i, sym v.writes i))
    ∙ ap (λ (z : Option Span × Option Span). (spans_share a.written b.written || option_map_or (spans_share a.written) z.1 false) || option_map_or (spans_share b.written) z.0 false) (λ i. (sym u.reads i, sym v.reads i))))))

-- the command of an access is of its job
pub own_command : (p : Plan) (c : ℕ) (a : MemoryAccess) → IsAccess p c a → has (commands_of p a.by.job) c ≡ true
own_command p c a u = subst (λ z. has (commands_of p a.by.job) z ≡ true) u.number u.of_job

-- a command has one access
pub one_access : (p : Plan) → IsPlan p → (c : ℕ) (a b : MemoryAccess) → IsAccess p c a → IsAccess p c b → a ≡ b
one_access p i c a b u v =
    let job : a.by.job ≡ b.by.job = (plan_well_formed p i).one_job c a.by.job b.by.job (own_command p c a u) (own_command p c b v) in
    let number : a.by.command ≡ b.by.command = u.number ∙ sym v.number in
    let found : Some u.command ≡ Some v.command = sym u.found ∙ v.found in
    let same : u.command ≡ v.command = cc in
    let written : a.written ≡ b.written = u.writes ∙ (ap (λ x. span_of (written_range p.sizes x)) same ∙ sym v.writes) in
    let read : a.read ≡ b.read = u.reads ∙ (ap (λ x. option_map span_of (read_range x)) same ∙ sym v.reads) in
    λ k. record { by = record { job = job k; command = number k }; written = written k; read = read k }

pub access_exists : (p : Plan) → IsPlan p → (c j : ℕ) → has (commands_of p j) c ≡ true → (a : MemoryAccess) × IsAccess p c a
access_exists p i c j h =
    let f = (plan_well_formed p i).fits c j h in (
      record { by = record { job = j; command = c }; written = span_of (written_range p.sizes f.0); read = option_map span_of (read_range f.0) },
      record { number = refl; of_job = h; command = f.0; found = f.1; writes = refl; reads = refl },
    )

-- commands of one job are in order
pub same_job : {p : Plan} (a b : Visitor) → a.job ≡ b.job → AreInOrder p a b
same_job a b e = elim (cases_lt a.command b.command) [
  | inl l ↦ inl (inl (e, omega arith))
  | inr l ↦ inr (inl (sym e, l))
]

-- commands race where their accesses do
pub race_is : (p : Plan) → IsPlan p → (c d : ℕ) (a b : MemoryAccess) → IsAccess p c a → IsAccess p d b → (RaceBy p a b → IsRace p c d) × (IsRace p c d → RaceBy p a b)
race_is p i c d a b u v = (
  (λ r. record {
    first_job = a.by.job;
    second_job = b.by.job;
    first = own_command p c a u;
    second = own_command p d b v;
    two_jobs = λ e. r.apart (same_job a.by b.by e);
    conflict = conflicts_are p c d a b u v ∙ r.conflict;
    unordered = λ h. r.apart (inl (inr (subst (HappensBeforeCommand p a.by.job b.by.job) (sym v.number) h)));
    unordered_back = λ h. r.apart (inr (inr (subst (HappensBeforeCommand p b.by.job a.by.job) (sym u.number) h)));
  }),
  (λ r.
      let w = plan_well_formed p i in
      let e = w.one_job c r.first_job a.by.job r.first (own_command p c a u) in
      let f = w.one_job d r.second_job b.by.job r.second (own_command p d b v) in
      record {
        conflict = sym (conflicts_are p c d a b u v) ∙ r.conflict;
        apart = λ o. elim o [
          | inl x ↦ elim x [
            | inl q ↦ r.two_jobs (e ∙ (q.0 ∙ sym f))
            | inr h ↦ r.unordered (subst (λ (z : (ℕ × ℕ) × ℕ). HappensBeforeCommand p z.0.0 z.0.1 z.1) (λ k. ((sym e k, sym f k), v.number k)) h)
          ]
          | inr x ↦ elim x [
            | inl q ↦ r.two_jobs (e ∙ (sym q.0 ∙ sym f))
            | inr h ↦ r.unordered_back (subst (λ (z : (ℕ × ℕ) × ℕ). HappensBeforeCommand p z.0.0 z.0.1 z.1) (λ k. ((sym f k, sym e k), u.number k)) h)
          ]
        ];
      }),
)

pub fits_command : (p : Plan) → IsWellFormed p → (c j : ℕ) (x : Command) → has (commands_of p j) c ≡ true → command_at p c ≡ Some x → Fits p.sizes x
fits_command p w c j x h e =
    let f = w.fits c j h in
    let q : Some f.0 ≡ Some x = sym f.1 ∙ e in
    let r : f.0 ≡ x = cc in
    subst (Fits p.sizes) r f.2

-- an access of the table
pub access_at : (p : Plan) (accesses : List MemoryAccess) → AreAccesses p accesses → (c : ℕ) → c < length accesses → IsAccess p c (access_in accesses c)
access_at p accesses h c l = h.each c (access_in accesses c) (slice_get-get_or accesses c (record { by = record { job = 0; command = 0 }; written = record { buffer = 0; start = 0; end = 0 }; read = None }) l)

-- of two commands of the table
pub races_at : (p : Plan) → IsPlan p → (accesses : List MemoryAccess) → AreAccesses p accesses → (c d : ℕ) → c < length accesses → d < length accesses → (RaceBy p (access_in accesses c) (access_in accesses d) → IsRace p c d) × (IsRace p c d → RaceBy p (access_in accesses c) (access_in accesses d))
races_at p i accesses h c d l m = race_is p i c d (access_in accesses c) (access_in accesses d) (access_at p accesses h c l) (access_at p accesses h d m)

-- One command more

-- a command that is in order with another of an earlier number is so with each later one of the other's job
pub later_in_order : (p : Plan) → IsPlan p → (a b d : Visitor) → IsOfJob p a → IsOfJob p b → b.job ≡ d.job → b.command ≤ d.command → AreInOrder p a b → AreInOrder p a d
later_in_order p plan a b d own_a own_b e l (inl (inl s)) = same_job a d (s.0 ∙ e)
later_in_order p plan a b d own_a own_b e l (inl (inr h)) =
    inl (inr (subst (λ z. HappensBeforeCommand p a.job z d.command) e (later_command p plan a.job b.job b.command d.command own_b l h)))
later_in_order p plan a b d own_a own_b e l (inr (inl s)) = same_job a d (sym s.0 ∙ e)
later_in_order p plan a b d own_a own_b e l (inr (inr h)) = inr (inr (subst (λ z. HappensBeforeCommand p z a.job a.command) e h))

pub swap_order : {p : Plan} (a b : Visitor) → AreInOrder p a b → AreInOrder p b a
swap_order a b (inl h) = inr h
swap_order a b (inr h) = inl h

-- so are its job's further commands
pub job_in_order : (p : Plan) → IsPlan p → (xs : List MemoryAccess) → AreAccesses p xs → (c d : ℕ) → c < d → d < length xs → AreInOrder p (access_in xs c).by (access_in xs d).by → IsJobInOrder p xs (access_in xs c).by.job (c + 1) d d
job_in_order p plan xs h c d l m o a f u e =
    let x = access_at p xs h c (omega arith) in
    let y = access_at p xs h d m in
    let z = access_at p xs h a (omega arith) in
    let up : (access_in xs c).by.command ≤ (access_in xs a).by.command = (let q = x.number in let r = z.number in omega arith) in
    swap_order (access_in xs d).by (access_in xs a).by
    (later_in_order p plan (access_in xs d).by (access_in xs c).by (access_in xs a).by y.of_job x.of_job (sym e) up (swap_order (access_in xs c).by (access_in xs d).by o))

-- those of a command's own job are in order with it
pub own_job : (p : Plan) (xs : List MemoryAccess) (d : ℕ) → IsJobInOrder p xs (access_in xs d).by.job 0 d d
own_job p xs d a f u e = same_job (access_in xs a).by (access_in xs d).by e

pub job_stays : (p : Plan) (xs : List MemoryAccess) (job c d : ℕ) → IsJobInOrder p xs job c d d → IsJobInOrder p xs job (c + 1) d d
job_stays p xs job c d h a f u e = h a (omega arith) u e

-- with one more command that is in order
pub all_next : (p : Plan) (xs : List MemoryAccess) (c d : ℕ) → AreInOrder p (access_in xs c).by (access_in xs d).by → AreAllInOrder p xs c d → AreAllInOrder p xs (c + 1) d
all_next p xs c d o f a l = elim (cases_eq a c) [
  | inl e ↦ subst (λ z. AreInOrder p (access_in xs z).by (access_in xs d).by) (sym e) o
  | inr n ↦ f a (grind arith)
]

-- a job of which a command is in order with all before it is so with its further commands
pub turns_quiet : (p : Plan) → IsPlan p → (xs : List MemoryAccess) → AreAccesses p xs → (d : ℕ) → d < length xs → AreAllInOrder p xs d d → IsQuiet p xs (d + 1) (access_in xs d).by.job
turns_quiet p plan xs h d m f b l u e =
    all_next p xs d b (same_job (access_in xs d).by (access_in xs b).by (sym e))
    (λ a k.
    let x = access_at p xs h a (omega arith) in
    let y = access_at p xs h d m in
    let z = access_at p xs h b u in
    let up : (access_in xs d).by.command ≤ (access_in xs b).by.command = (let q = y.number in let r = z.number in omega arith) in
    later_in_order p plan (access_in xs a).by (access_in xs d).by (access_in xs b).by x.of_job y.of_job (sym e) up (f a k))

-- and it stays so with one more of its commands
pub stays_quiet : (p : Plan) (xs : List MemoryAccess) (d q : ℕ) → (access_in xs d).by.job ≡ q → IsQuiet p xs d q → IsQuiet p xs (d + 1) q
stays_quiet p xs d q e f b l u s = all_next p xs d b (same_job (access_in xs d).by (access_in xs b).by (e ∙ sym s)) (f b (omega arith) u s)

pub quiet_races_none : (p : Plan) → IsPlan p → (accesses : List MemoryAccess) → AreAccesses p accesses → (d : ℕ) → d < length accesses → AreAllInOrder p accesses d d → (a : ℕ) → a < d → ¬ IsRace p a d
quiet_races_none p i accesses h d m f a l r = ((races_at p i accesses h a d (omega arith) m).1 r).apart (f a l)

pub none_races_next : (p : Plan) (d : ℕ) → HasNoRaceBelow p d → ((a : ℕ) → a < d → ¬ IsRace p a d) → HasNoRaceBelow p (d + 1)
none_races_next p d below none a b l m r = elim (cases_eq b d) [
  | inl e ↦ none a (omega arith) (subst (IsRace p a) e r)
  | inr n ↦ below a b l (grind arith) r
]
