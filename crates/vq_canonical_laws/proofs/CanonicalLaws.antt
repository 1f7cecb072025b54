-- The canonical text doesn't depend on the numbers of lines.
use Rattle.std.proofs.Common.{◌≡◌, List, [], ◌∷◌, map, refl, ◌++◌, ℕ, zero, suc, Option, Some, None, ap, ◌∙◌, sym}
use Rattle.std.specs.List.{flat_map, slice_get}
use Rattle.std.specs.Option.{option_map_or, option_map}
use Rattle.vq_model.specs.declared.script.Script.{Script}
use Rattle.vq_model.specs.SameScript.{without_lines, buffer_without_line, semaphore_without_line, queue_without_line, mark_without_line, job_without_lines, command_without_line, turn_without_line, SameButLines}
use Rattle.vq_model.specs.Canonical.{pair_words, step_words, mark_words, marked_words, wait_words, from_words, signal_words, fence_lines, command_words, fill_size_word, fill_word, hex_digits, job_words, joined_turns, with_turn, Turns, turns_words, schedule_words, version_words, buffer_words, semaphore_words, queue_words, canonical_lines, canonical_text, line_text}
use Rattle.vq_model.specs.declared.script.SemaphoreKind.TheVariants.{Binary}
use Rattle.vq_model.specs.declared.script.Pair.{Pair}
use Rattle.std.specs.Fmt.{decimal}
use Rattle.vq_model.specs.declared.script.HostStep.{HostStep}
use Rattle.vq_model.specs.declared.script.HostStep.TheVariants.{Signal, WaitAll, WaitAny, PollAll, PollAny, Read, FenceWait, FencePoll, FenceReset, Idle}
use Rattle.std.specs.Prelude.{codes, nat_lt, if◌then◌else◌}
use Rattle.vq_model.specs.declared.script.Mark.{Mark}
use Rattle.vq_model.specs.declared.script.Command.{Command}
use Rattle.vq_model.specs.declared.script.Command.TheVariants.{Fill, Update, Copy}
use Rattle.vq_model.specs.declared.script.Job.{Job}
use Rattle.vq_model.specs.declared.script.Job.TheVariants.{Host, Batch}
use Rattle.vq_model.specs.declared.script.ActorName.{ActorName}
use Rattle.vq_model.specs.declared.script.ActorName.TheVariants.{Host as HostActor, Submit as SubmitActor, Ring as RingActor}
use Rattle.vq_model.specs.declared.script.Turn.{Turn}
use Rattle.vq_model.specs.Naming.{buffer_name, semaphore_name, semaphore_kind, queue_name, actor_word}

-- a part that a change leaves alone
map_same : {A B : Type 0} (f : A → B) (g : A → A) → ((x : A) → f (g x) ≡ f x) → (xs : List A) → map f (map g xs) ≡ map f xs
map_same f g h [] = refl
map_same f g h (x ∷ xs) = λ i. h x i ∷ map_same f g h xs i

flat_map_same : {A B : Type 0} (f h : A → List B) (g : A → A) → ((x : A) → f (g x) ≡ h x) → (xs : List A) → flat_map f (map g xs) ≡ flat_map h xs
flat_map_same f h g e [] = refl
flat_map_same f h g e (x ∷ xs) = λ i. e x i ++ flat_map_same f h g e xs i

-- a part of an item that a change leaves alone
pub item_same : {A B : Type 0} (f : A → B) (g : A → A) (none : B) → ((x : A) → f (g x) ≡ f x) → (xs : List A) (n : ℕ) → option_map_or f (slice_get (map g xs) n) none ≡ option_map_or f (slice_get xs n) none
item_same f g none h [] n = refl
item_same f g none h (x ∷ xs) zero = h x
item_same f g none h (x ∷ xs) (suc n) = item_same f g none h xs n

-- names and kinds
buffer_same : (s : Script) (b : ℕ) → buffer_name (without_lines s) b ≡ buffer_name s b
buffer_same s b = item_same (λ x. x.name) buffer_without_line [] (λ x. refl) s.buffers b

semaphore_same : (s : Script) (t : ℕ) → semaphore_name (without_lines s) t ≡ semaphore_name s t
semaphore_same s t = item_same (λ x. x.name) semaphore_without_line [] (λ x. refl) s.semaphores t

kind_same : (s : Script) (t : ℕ) → semaphore_kind (without_lines s) t ≡ semaphore_kind s t
kind_same s t = item_same (λ x. x.kind) semaphore_without_line Binary (λ x. refl) s.semaphores t

queue_same : (s : Script) (q : ℕ) → queue_name (without_lines s) q ≡ queue_name s q
queue_same s q = item_same (λ x. x.name) queue_without_line [] (λ x. refl) s.queues q

-- words
pair_same : (s : Script) (p : Pair) → pair_words (without_lines s) p ≡ pair_words s p
pair_same s p = λ i. semaphore_same s p.semaphore i ∷ decimal p.value ∷ []

pairs_same : (s : Script) (ps : List Pair) → flat_map (pair_words (without_lines s)) ps ≡ flat_map (pair_words s) ps
pairs_same s [] = refl
pairs_same s (p ∷ ps) = λ i. pair_same s p i ++ pairs_same s ps i

step_same : (s : Script) (x : HostStep) → step_words (without_lines s) x ≡ step_words s x
step_same s (Signal p) = λ i. codes "signal" ∷ pair_same s p i
step_same s (WaitAll ps) = λ i. codes "wait" ∷ codes "all" ∷ pairs_same s ps i
step_same s (WaitAny ps) = λ i. codes "wait" ∷ codes "any" ∷ pairs_same s ps i
step_same s (PollAll ps) = λ i. codes "poll" ∷ codes "all" ∷ pairs_same s ps i
step_same s (PollAny ps) = λ i. codes "poll" ∷ codes "any" ∷ pairs_same s ps i
step_same s (Read t) = λ i. codes "read" ∷ semaphore_same s t i ∷ []
step_same s (FenceWait f) = λ i. codes "fence" ∷ codes "wait" ∷ semaphore_same s f i ∷ []
step_same s (FencePoll f) = λ i. codes "fence" ∷ codes "poll" ∷ semaphore_same s f i ∷ []
step_same s (FenceReset f) = λ i. codes "fence" ∷ codes "reset" ∷ semaphore_same s f i ∷ []
step_same s Idle = refl

mark_same : (s : Script) (m : Mark) → mark_words (without_lines s) (mark_without_line m) ≡ mark_words s m
mark_same s m = λ i. marked_words (semaphore_same s m.semaphore i) m.value (kind_same s m.semaphore i)

wait_same : (s : Script) (m : Mark) → wait_words (without_lines s) (mark_without_line m) ≡ wait_words s m
wait_same s m = λ i. codes "wait" ∷ mark_same s m i ++ from_words m.from

signal_same : (s : Script) (m : Mark) → signal_words (without_lines s) (mark_without_line m) ≡ signal_words s m
signal_same s m = λ i. codes "signal" ∷ mark_same s m i

fence_same : (s : Script) (m : Option Mark) → fence_lines (without_lines s) (option_map mark_without_line m) ≡ fence_lines s m
fence_same s None = refl
fence_same s (Some m) = λ i. (codes "fence" ∷ semaphore_same s m.semaphore i ∷ []) ∷ []

command_same : (s : Script) (c : Command) → command_words (without_lines s) c ≡ command_words s c
command_same s (Fill b o n w) = λ i. codes "fill" ∷ buffer_same s b i ∷ decimal o ∷ fill_size_word n ∷ fill_word w ∷ []
command_same s (Update b o bytes) = λ i. codes "update" ∷ buffer_same s b i ∷ decimal o ∷ flat_map (hex_digits 2) bytes ∷ []
command_same s (Copy a o b p n) = λ i. codes "copy" ∷ buffer_same s a i ∷ decimal o ∷ buffer_same s b i ∷ decimal p ∷ decimal n ∷ []

-- lists of words
words_same : {A B : Type 0} (f h : A → B) (g : A → A) → ((x : A) → f (g x) ≡ h x) → (xs : List A) → map f (map g xs) ≡ map h xs
words_same f h g e [] = refl
words_same f h g e (x ∷ xs) = λ i. e x i ∷ words_same f h g e xs i

job_same : (s : Script) (j : Job) → job_words (without_lines s) (job_without_lines j) ≡ job_words s j
job_same s (Host h) = λ i. (codes "host" ∷ step_same s h.step i) ∷ []
job_same s (Batch b) = λ i.
    (codes "submit" ∷ queue_same s b.queue i ∷ [])
    ∷ words_same (wait_words (without_lines s)) (wait_words s) mark_without_line (wait_same s) b.waits i
    ++ words_same (λ c. command_words (without_lines s) c.command) (λ c. command_words s c.command) command_without_line (λ c. command_same s c.command) b.commands i
    ++ words_same (signal_words (without_lines s)) (signal_words s) mark_without_line (signal_same s) b.signals i
    ++ fence_same s b.fence i
    ++ (codes "end" ∷ []) ∷ []

-- turns
actor_same : (s : Script) (a : ActorName) → actor_word (without_lines s) a ≡ actor_word s a
actor_same s HostActor = refl
actor_same s (SubmitActor q) = λ i. codes "S:" ++ queue_same s q i
actor_same s (RingActor q) = λ i. codes "R:" ++ queue_same s q i

joined_same : (ts : List Turn) → joined_turns (map turn_without_line ts) ≡ joined_turns ts
joined_same [] = refl
joined_same (t ∷ ts) = ap (with_turn t.actor) (joined_same ts)

turns_same : (s : Script) (ts : List Turns) → map (turns_words (without_lines s)) ts ≡ map (turns_words s) ts
turns_same s [] = refl
turns_same s ((a, n) ∷ ts) = λ i. (if nat_lt 1 n then actor_same s a i ∷ decimal n ∷ [] else actor_same s a i ∷ []) ∷ turns_same s ts i

schedule_same : (s : Script) → schedule_words (without_lines s) ≡ schedule_words s
schedule_same s = λ i.
    if s.scheduled then
    (codes "schedule" ∷ []) ∷ (ap (map (turns_words (without_lines s))) (joined_same s.turns) ∙ turns_same s (joined_turns s.turns)) i
    else []

pub lines_same : (s : Script) → canonical_lines (without_lines s) ≡ canonical_lines s
lines_same s = λ i.
    version_words s.version
    ++ map_same buffer_words buffer_without_line (λ b. refl) s.buffers i
    ++ map_same semaphore_words semaphore_without_line (λ x. refl) s.semaphores i
    ++ map_same queue_words queue_without_line (λ q. refl) s.queues i
    ++ flat_map_same (job_words (without_lines s)) (job_words s) job_without_lines (job_same s) s.jobs i
    ++ schedule_same s i

-- Scripts that are the same up to line numbers have the same canonical text.
pub ignores_lines : (a b : Script) → SameButLines a b → canonical_text a ≡ canonical_text b
ignores_lines a b e =
    ap (flat_map line_text) (sym (lines_same a)) ∙ ap canonical_text e ∙ ap (flat_map line_text) (lines_same b)
