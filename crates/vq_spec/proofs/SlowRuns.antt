-- A slow run by its jobs.
use Rattle.std.proofs.Common.{◌≡◌, ℕ, zero, suc, ◌+◌, ◌<◌, ◌≤◌, true, List, [], ◌∷◌, ◌++◌, length, map, take, get_or, Option, Some, None, option_map, refl, sym, ap, ◌∙◌, inl, inr, subst, arith}
use Rattle.std.specs.List.{slice_get, cons_option, filter_map, flat_map, range_with_len}
use Rattle.std.specs.Option.{option_map_or}
use Rattle.std.proofs.lemmas.Bool.{false≢true}
use Rattle.std.proofs.lemmas.Grind.{flat_map-append}
use Rattle.std.proofs.lemmas.List.{append-nil, take_more}
use Rattle.std.proofs.lemmas.List.Elements.{filter_map-append}
use Rattle.vq_ground.proofs.Gets.{has_at}
use Rattle.vq_model.specs.declared.script.Script.{Script}
use Rattle.vq_model.specs.declared.script.Command.{Command}
use Rattle.vq_model.specs.declared.script.CommandLine.{CommandLine}
use Rattle.vq_model.specs.Plan.{Plan, command_at, commands_of}
use Rattle.vq_ground.specs.Lists.{has}
use Rattle.vq_model.specs.Memory.{Memory, effect, after_all, zeros_of}
use Rattle.vq_model.specs.FittingCommands.{HasSizes}
use Rattle.vq_model.specs.FittingCommands.{Fits}
use Rattle.vq_model.specs.SlowRun.{command_list, is_ready, lowest_ready, slow_from, slow_order, bytes_after, zeros}
use Rattle.vq_model.specs.LoweredPlans.{IsPlan}
use Rattle.vq_model.specs.SameScript.{IsRead}
use Rattle.vq_model.specs.ValidScripts.{sizes_of}
use Rattle.vq_ground.proofs.Lists.{has-append_cases, has_cases}
use Rattle.vq_ground.proofs.Numbers.{has-range_cases}
use Rattle.vq_plan_laws.proofs.Cited.{plan_well_formed}
use Rattle.vq_ground.proofs.Searches.{find_member}
use Rattle.vq_model.proofs.Sizes.{sizes-zeros_of}
use Rattle.vq_model.specs.Limits.{limits_of}
use Rattle.vq_reading_laws.proofs.Cited.{read_valid}
use Rattle.vq_transfer.proofs.Cited.{has_own_sizes}

-- Sizes

pub few_buffers : (s : Script) → IsRead s → length s.buffers ≤ (limits_of s.version).buffers
few_buffers s i = (read_valid s i).limits.buffers

pub sizes_of_plan : (p : Plan) → IsPlan p → p.sizes ≡ sizes_of p.script
sizes_of_plan p h = ap (λ q. q.sizes) h.lowered

-- Commands of a job

pub command_within : (cs : List CommandLine) (c : ℕ) (x : Command) →
    option_map (λ y. y.command) (slice_get cs c) ≡ Some x → c < length cs
command_within [] c x e = absurd (let h : None ≡ Some x = e in cc)
command_within (y ∷ cs) zero x e = omega arith
command_within (y ∷ cs) (suc c) x e = let l = command_within cs c x e in omega arith

module _ (p : Plan) (h : IsPlan p) (j k : ℕ) (inside : k < length (commands_of p j)) where
  -- the command at a place of the job fits
  command_fits : (x : Command) × (command_at p (get_or (commands_of p j) k 0) ≡ Some x) × Fits p.sizes x
  command_fits = (plan_well_formed p h).fits (get_or (commands_of p j) k 0) j (has_at (commands_of p j) k inside)

  pub command_exists : get_or (commands_of p j) k 0 < length p.commands
  command_exists = command_within p.commands (get_or (commands_of p j) k 0) command_fits.0 command_fits.1

  pub seen_fits : (line : CommandLine) →
      slice_get p.commands (get_or (commands_of p j) k 0) ≡ Some line → Fits p.sizes line.command
  seen_fits line e =
      let same : Some command_fits.0 ≡ Some line.command = sym command_fits.1
      ∙ ap (option_map (λ y. y.command)) e in
      let it : command_fits.0 ≡ line.command = cc in
      subst (Fits p.sizes) it command_fits.2

-- Bytes

pub after_all-append : (a b : List Command) (m : Memory) →
    after_all (a ++ b) m ≡ after_all b (after_all a m)
after_all-append [] b m = refl
after_all-append (c ∷ a) b m = after_all-append a b (effect c m)

-- more commands
pub after_more : (p : Plan) (a b : List ℕ) (m : Memory) →
    after_all (command_list p (a ++ b)) m ≡ after_all (command_list p b)
    (after_all (command_list p a) m)
after_more p a b m =
    ap (λ cs. after_all cs m) (filter_map-append (command_at p) a b)
    ∙ after_all-append (command_list p a) (command_list p b) m

-- one command more
pub after_command : (p : Plan) (j k : ℕ) → k < length (commands_of p j) → (line : CommandLine) →
    slice_get p.commands (get_or (commands_of p j) k 0) ≡ Some line → (m now new : Memory) →
    now ≡ after_all (command_list p (take k (commands_of p j))) m → new ≡ effect line.command now →
    new ≡ after_all (command_list p (take (k + 1) (commands_of p j))) m
after_command p j k l line e m now new a b =
    let c = get_or (commands_of p j) k 0 in
    let more : take (k + 1) (commands_of p j) ≡ take k (commands_of p j) ++ c ∷ [] =
    take_more (commands_of p j) k 0 l in
    let one : command_list p (c ∷ []) ≡ line.command ∷ [] = ap
    (λ o. cons_option (option_map (λ y. y.command) o) []) e in
    b
    ∙ (ap (effect line.command) a
    ∙ (sym (ap (λ cs. after_all cs (after_all (command_list p (take k (commands_of p j))) m)) one)
    ∙ (sym (after_more p (take k (commands_of p j)) (c ∷ []) m)
    ∙ ap (λ cs. after_all (command_list p cs) m) (sym more))))

-- one job more
pub after_job : (p : Plan) (order : List ℕ) (k : ℕ) → k < length order → (now new : Memory) →
    now ≡ bytes_after p (flat_map (commands_of p) (take k order)) →
    new ≡ after_all (command_list p (commands_of p (get_or order k 0))) now →
    new ≡ bytes_after p (flat_map (commands_of p) (take (k + 1) order))
after_job p order k l now new a b =
    let j = get_or order k 0 in
    let more : flat_map (commands_of p) (take (k + 1) order) ≡ flat_map (commands_of p) (take k order) ++ commands_of p j =
    ap (flat_map (commands_of p)) (take_more order k 0 l)
    ∙ (flat_map-append (commands_of p) (take k order) (j ∷ [])
    ∙ ap (λ cs. flat_map (commands_of p) (take k order) ++ cs) (append-nil (commands_of p j))) in
    b
    ∙ (ap (after_all (command_list p (commands_of p j))) a
    ∙ (sym (after_more p (flat_map (commands_of p) (take k order)) (commands_of p j) (zeros_of p.sizes))
    ∙ ap (bytes_after p) (sym more)))

-- The order

module _ (p : Plan) where
  slow_within : (n : ℕ) (done : List ℕ) → ((j : ℕ) → has done j ≡ true → j < length p.jobs) →
      (j : ℕ) → has (slow_from n p done) j ≡ true → j < length p.jobs
  slow_within zero done k = k
  slow_within (suc n) done k = by_case (lowest_ready p done) refl (slow_within n)
    where
      by_case : (o : Option ℕ) → lowest_ready p done ≡ o →
          ((more : List ℕ) → ((j : ℕ) → has more j ≡ true → j < length p.jobs) →
          (j : ℕ) → has (slow_from n p more) j ≡ true → j < length p.jobs) →
          (j : ℕ) → has (option_map_or (λ i. slow_from n p (done ++ i ∷ [])) o done) j ≡ true →
          j < length p.jobs
      by_case None e f = k
      by_case (Some i) e f =
          let l = (has-range_cases (length p.jobs) 0 i (find_member (is_ready p done) (range_with_len 0 (length p.jobs)) i e)).1 in
          f (done ++ i ∷ []) (λ j h. elim (has-append_cases done (i ∷ []) j h) [
            | inl a ↦ k j a
            | inr a ↦ elim (has_cases i [] j a) [ inl q ↦ subst (λ z. z < length p.jobs) q (omega arith) | inr t ↦ absurd (false≢true t) ]
          ])

  -- the slow run does jobs that exist
  pub slow_exists : (j : ℕ) → has (slow_order p) j ≡ true → j < length p.jobs
  slow_exists = slow_within (length p.jobs) [] (λ j h. absurd (false≢true h))

-- zero bytes have the sizes that they were made for
pub zeros_sized : (sizes : List ℕ) (m : Memory) → m ≡ zeros_of sizes → HasSizes sizes m
zeros_sized sizes m e =
    subst (λ (ns : List ℕ). HasSizes ns m) (ap (map length) e ∙ sizes-zeros_of sizes) (has_own_sizes m)

-- .. and those that a plan begins with have the sizes of the plan
pub zeros_are : (p : Plan) → IsPlan p → (s : Script) → s ≡ p.script → (m : Memory) →
    m ≡ zeros_of (sizes_of s) → (m ≡ zeros p) × (map length m ≡ p.sizes)
zeros_are p h s e m a =
    let sizes : sizes_of s ≡ p.sizes = ap sizes_of e ∙ sym (sizes_of_plan p h) in
    let all : m ≡ zeros p = a ∙ ap zeros_of sizes in
    (all, ap (map length) all ∙ sizes-zeros_of p.sizes)

-- one command more is run last
pub bytes_push : (p : Plan) (log : List ℕ) (c : ℕ) (x : Command) → command_at p c ≡ Some x → bytes_after p (log ++ c ∷ []) ≡ effect x (bytes_after p log)
bytes_push p log c x is =
    ap (λ (cs : List Command). after_all cs (zeros p)) (filter_map-append (command_at p) log (c ∷ []))
    ∙ (after_all-append (filter_map (command_at p) log) (filter_map (command_at p) (c ∷ [])) (zeros p)
    ∙ ap (λ (o : Option Command). after_all (cons_option o []) (bytes_after p log)) is)
