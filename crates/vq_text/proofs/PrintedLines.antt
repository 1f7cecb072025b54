-- The lines of a canonical text, one after another.
use Rattle.std.proofs.Common.{◌≡◌, ℕ, ◌/◌, ◌%◌, ◌^◌, List, [], ◌∷◌, ◌++◌, map, codes, refl, sym, ap, ◌∙◌, ap₂, arith, append_assoc, true, cond, Result, Ok, Err}
use Rattle.std.specs.Result.{OnOk, is_ok}
use Rattle.std.proofs.lemmas.Bool.{cond-true}
use Rattle.std.proofs.lemmas.List.{append-nil}
use Rattle.std.proofs.lemmas.Grind.{flat_map-append}
use Rattle.std.specs.List.{flat_map, join_with_byte}
use Rattle.std.specs.Int.{to_be_bytes, w32}
use Rattle.vq_model.specs.declared.script.Script.{Script}
use Rattle.vq_model.specs.declared.script.Batch.{Batch}
use Rattle.vq_model.specs.declared.script.Buffer.{Buffer}
use Rattle.vq_model.specs.declared.script.Semaphore.{Semaphore}
use Rattle.vq_model.specs.declared.script.Mark.{Mark}
use Rattle.vq_model.specs.declared.script.Turn.{Turn}
use Rattle.vq_model.specs.declared.script.Queue.{Queue}
use Rattle.vq_model.specs.declared.script.CommandLine.{CommandLine}
use Rattle.vq_model.specs.declared.script.Job.{Job}
use Rattle.vq_model.specs.declared.script.Job.TheVariants.{Batch as BatchJob}
use Rattle.vq_model.specs.Canonical.{hex_digits, fill_word, buffer_words, queue_words, semaphore_words, mark_words, from_words, wait_words, command_words, signal_words, fence_lines, job_words, version_words, schedule_words, turns_words, joined_turns, line_text, canonical_text}
use Rattle.vq_model.specs.Naming.{queue_name}

-- what follows from what a call gives
pub on_ok : {E P Q : Type 0} (r : Result (Unit {0}) E) → OnOk r P → (P → Q) → OnOk r Q
on_ok (Ok u) p f = f p
on_ok (Err x) p f = tt

-- a list after a call that adds to it
pub added : {E : Type 0} (r : Result (Unit {0}) E) (new old shown : List ℕ) →
    new ≡ cond (is_ok r) (old ++ shown) old → OnOk r (new ≡ old ++ shown)
added (Ok u) new old shown e = e
added (Err x) new old shown e = tt

-- a word's bytes in two digits each are its eight digits
word_digits : (n : ℕ) → flat_map (hex_digits 2) (to_be_bytes w32 n) ≡ hex_digits 8 n
word_digits n =
    let a : n / 256 ^ 3 % 256 / 16 % 16 ≡ n / 16 / 16 / 16 / 16 / 16 / 16 / 16 % 16 = omega arith in
    let b : n / 256 ^ 3 % 256 % 16 ≡ n / 16 / 16 / 16 / 16 / 16 / 16 % 16 = omega arith in
    let c : n / 256 ^ 2 % 256 / 16 % 16 ≡ n / 16 / 16 / 16 / 16 / 16 % 16 = omega arith in
    let d : n / 256 ^ 2 % 256 % 16 ≡ n / 16 / 16 / 16 / 16 % 16 = omega arith in
    let e : n / 256 ^ 1 % 256 / 16 % 16 ≡ n / 16 / 16 / 16 % 16 = omega arith in
    let f : n / 256 ^ 1 % 256 % 16 ≡ n / 16 / 16 % 16 = omega arith in
    let g : n % 256 / 16 % 16 ≡ n / 16 % 16 = omega arith in
    let h : n % 256 % 16 ≡ n % 16 = omega arith in
    cc

-- what a function gives for what another one gives

flat_map-map : {X Y A : Type 0} (f : Y → List A) (g : X → Y) (xs : List X) →
    flat_map f (map g xs) ≡ flat_map (λ x. f (g x)) xs
flat_map-map f g [] = refl
flat_map-map f g (x ∷ xs) = ap (λ ys. f (g x) ++ ys) (flat_map-map f g xs)

flat_map-flat_map : {X Y A : Type 0} (f : Y → List A) (g : X → List Y) (xs : List X) →
    flat_map f (flat_map g xs) ≡ flat_map (λ x. flat_map f (g x)) xs
flat_map-flat_map f g [] = refl
flat_map-flat_map f g (x ∷ xs) = flat_map-append f (g x) (flat_map g xs)
    ∙ ap (λ ys. flat_map f (g x) ++ ys) (flat_map-flat_map f g xs)

-- the lines of a batch, one kind after another
batch_text : (s : Script) (b : Batch) →
    flat_map line_text (job_words s (BatchJob b))
    ≡ line_text (codes "submit" ∷ queue_name s b.queue ∷ [])
    ++ (flat_map (λ m. line_text (wait_words s m)) b.waits
    ++ flat_map (λ c. line_text (command_words s c.command)) b.commands
    ++ flat_map (λ m. line_text (signal_words s m)) b.signals
    ++ flat_map line_text (fence_lines s b.fence)
    ++ codes "end\n")
batch_text s b =
    let first = line_text (codes "submit" ∷ queue_name s b.queue ∷ []) in
    let command = λ (c : CommandLine). command_words s c.command in
    let waits = map (wait_words s) b.waits in
    let commands = map command b.commands in
    let signals = map (signal_words s) b.signals in
    let fence = fence_lines s b.fence in
    let last = (codes "end" ∷ []) ∷ [] in
    ap (λ text. first ++ text)
    (flat_map-append line_text (waits ++ commands ++ signals ++ fence) last
    ∙ ap (λ text. text ++ codes "end\n")
    (flat_map-append line_text (waits ++ commands ++ signals) fence
    ∙ ap (λ text. text ++ flat_map line_text fence)
    (flat_map-append line_text (waits ++ commands) signals
    ∙ ap₂ (λ front back. front ++ back)
    (flat_map-append line_text waits commands
    ∙ ap₂ (λ front back. front ++ back) (flat_map-map line_text (wait_words s) b.waits)
    (flat_map-map line_text command b.commands))
    (flat_map-map line_text (signal_words s) b.signals))))

-- words after words, each behind a space
words_more : (word : List ℕ) (words more : List (List ℕ)) →
    join_with_byte 32 (word ∷ words ++ more)
    ≡ join_with_byte 32 (word ∷ words) ++ flat_map (λ w. 32 ∷ w) more
words_more word [] [] = sym (append-nil word)
words_more word [] (next ∷ more) =
    ap (λ (text : List ℕ). word ++ 32 ∷ text) (words_more next [] more)
words_more word (next ∷ words) more =
    ap (λ (text : List ℕ). word ++ 32 ∷ text) (words_more next words more)
    ∙ sym (append_assoc word (32 ∷ join_with_byte 32 (next ∷ words)) (flat_map (λ w. 32 ∷ w) more))

-- a list with the line of a wait
pub wait_added : (s : Script) (m : Mark) (old marked placed new : List ℕ) →
    marked ≡ old ++ join_with_byte 32 (codes "wait" ∷ mark_words s m) →
    placed ≡ marked ++ flat_map (λ w. 32 ∷ w) (from_words m.from) → new ≡ placed ++ 10 ∷ [] →
    new ≡ old ++ line_text (wait_words s m)
wait_added s m old marked placed new e1 e2 e3 =
    let front = join_with_byte 32 (codes "wait" ∷ mark_words s m) in
    let back = flat_map (λ w. 32 ∷ w) (from_words m.from) in
    e3 ∙ ap (λ text. text ++ 10 ∷ []) (e2 ∙ ap (λ text. text ++ back) e1 ∙ append_assoc old front back)
    ∙ append_assoc old (front ++ back) (10 ∷ [])
    ∙ ap (λ text. old ++ (text ++ 10 ∷ []))
    (sym (words_more (codes "wait") (mark_words s m) (from_words m.from)))

-- The text of a script: its version, its buffers, its semaphores and fences, its queues, its jobs and
-- its schedule.
script_text : (s : Script) →
    canonical_text s
    ≡ flat_map line_text (version_words s.version)
    ++ flat_map (λ b. line_text (buffer_words b)) s.buffers
    ++ flat_map (λ x. line_text (semaphore_words x)) s.semaphores
    ++ flat_map (λ q. line_text (queue_words q)) s.queues
    ++ flat_map (λ j. flat_map line_text (job_words s j)) s.jobs
    ++ flat_map line_text (schedule_words s)
script_text s =
    let version = version_words s.version in
    let buffers = map buffer_words s.buffers in
    let semaphores = map semaphore_words s.semaphores in
    let queues = map queue_words s.queues in
    let jobs = flat_map (job_words s) s.jobs in
    flat_map-append line_text (version ++ buffers ++ semaphores ++ queues ++ jobs) (schedule_words s)
    ∙ ap (λ text. text ++ flat_map line_text (schedule_words s))
    (flat_map-append line_text (version ++ buffers ++ semaphores ++ queues) jobs
    ∙ ap₂ (λ front back. front ++ back)
    (flat_map-append line_text (version ++ buffers ++ semaphores) queues
    ∙ ap₂ (λ front back. front ++ back)
    (flat_map-append line_text (version ++ buffers) semaphores
    ∙ ap₂ (λ front back. front ++ back)
    (flat_map-append line_text version buffers
    ∙ ap (λ back. flat_map line_text version ++ back) (flat_map-map line_text buffer_words s.buffers))
    (flat_map-map line_text semaphore_words s.semaphores))
    (flat_map-map line_text queue_words s.queues))
    (flat_map-flat_map line_text (job_words s) s.jobs))

-- a list with the word of a fill
pub word_text : (n : ℕ) (old prefixed new bytes : List ℕ) → bytes ≡ to_be_bytes w32 n →
    prefixed ≡ old ++ 32 ∷ codes "0x" → new ≡ prefixed ++ flat_map (hex_digits 2) bytes →
    new ≡ old ++ 32 ∷ fill_word n
word_text n old prefixed new bytes b p e =
    e ∙ ap₂ (λ front bs. front ++ flat_map (hex_digits 2) bs) p b
    ∙ append_assoc old (32 ∷ codes "0x") (flat_map (hex_digits 2) (to_be_bytes w32 n))
    ∙ ap (λ digits. old ++ (32 ∷ codes "0x" ++ digits)) (word_digits n)

-- six lists after a list, the last five of them as one
appended : (old a b c d e f u v w x y z : List ℕ) → u ≡ old ++ a → v ≡ u ++ b → w ≡ v ++ c →
    x ≡ w ++ d → y ≡ x ++ e → z ≡ y ++ f → z ≡ old ++ (a ++ (b ++ c ++ d ++ e ++ f))
appended old a b c d e f u v w x y z p q r s t l =
    l ∙ ap (λ xs. xs ++ f) (t ∙ ap (λ xs. xs ++ e)
    (s ∙ ap (λ xs. xs ++ d) (r ∙ ap (λ xs. xs ++ c) (q ∙ ap (λ xs. xs ++ b) p))))
    ∙ simp append_assoc

-- a list with the lines of a batch
pub batch_added : (s : Script) (b : Batch) (name : List ℕ) (waits signals : List Mark)
    (commands : List CommandLine) → name ≡ queue_name s b.queue → waits ≡ b.waits →
    commands ≡ b.commands → signals ≡ b.signals →
    (old first waited filled signaled fenced new : List ℕ) →
    first ≡ old ++ line_text (codes "submit" ∷ name ∷ []) →
    waited ≡ first ++ flat_map (λ m. line_text (wait_words s m)) waits →
    filled ≡ waited ++ flat_map (λ c. line_text (command_words s c.command)) commands →
    signaled ≡ filled ++ flat_map (λ m. line_text (signal_words s m)) signals →
    fenced ≡ signaled ++ flat_map line_text (fence_lines s b.fence) →
    new ≡ fenced ++ codes "end\n" →
    new ≡ old ++ flat_map line_text (job_words s (BatchJob b))
batch_added s b name waits signals commands n ws cs ss old first waited filled signaled fenced new e1 e2 e3 e4 e5 e6 =
    let wait_lines : List Mark → List ℕ = flat_map (λ m. line_text (wait_words s m)) in
    let command_lines : List CommandLine → List ℕ
    = flat_map (λ c. line_text (command_words s c.command)) in
    let signal_lines : List Mark → List ℕ = flat_map (λ m. line_text (signal_words s m)) in
    appended old (line_text (codes "submit" ∷ queue_name s b.queue ∷ [])) (wait_lines b.waits)
    (command_lines b.commands) (signal_lines b.signals) (flat_map line_text (fence_lines s b.fence))
    (codes "end\n") first waited filled signaled fenced new
    (e1 ∙ ap (λ (xs : List ℕ). old ++ line_text (codes "submit" ∷ xs ∷ [])) n)
    (e2 ∙ ap (λ xs. first ++ wait_lines xs) ws) (e3 ∙ ap (λ xs. waited ++ command_lines xs) cs)
    (e4 ∙ ap (λ xs. filled ++ signal_lines xs) ss) e5 e6
    ∙ ap (λ text. old ++ text) (sym (batch_text s b))

-- the version, the declarations, the jobs and the schedule of a script, one after another
pub text_added : (s : Script) → (bs : List Buffer) (xs : List Semaphore) (qs : List Queue)
    (js : List Job) → bs ≡ s.buffers → xs ≡ s.semaphores → qs ≡ s.queues → js ≡ s.jobs →
    (none version buffers semaphores queues jobs new : List ℕ) → none ≡ [] →
    version ≡ none ++ flat_map line_text (version_words s.version) →
    buffers ≡ version ++ flat_map (λ b. line_text (buffer_words b)) bs →
    semaphores ≡ buffers ++ flat_map (λ x. line_text (semaphore_words x)) xs →
    queues ≡ semaphores ++ flat_map (λ q. line_text (queue_words q)) qs →
    jobs ≡ queues ++ flat_map (λ j. flat_map line_text (job_words s j)) js →
    new ≡ jobs ++ flat_map line_text (schedule_words s) →
    new ≡ canonical_text s
text_added s bs xs qs js b x q j none version buffers semaphores queues jobs new e1 e2 e3 e4 e5 e6 e7 =
    let version_lines : List ℕ = flat_map line_text (version_words s.version) in
    let buffer_lines : List Buffer → List ℕ = flat_map (λ y. line_text (buffer_words y)) in
    let semaphore_lines : List Semaphore → List ℕ
    = flat_map (λ y. line_text (semaphore_words y)) in
    let queue_lines : List Queue → List ℕ = flat_map (λ y. line_text (queue_words y)) in
    let job_lines : List Job → List ℕ = flat_map (λ y. flat_map line_text (job_words s y)) in
    e7 ∙ ap (λ front. front ++ flat_map line_text (schedule_words s))
    (e6 ∙ ap₂ (λ front back. front ++ job_lines back)
    (e5 ∙ ap₂ (λ front back. front ++ queue_lines back)
    (e4 ∙ ap₂ (λ front back. front ++ semaphore_lines back)
    (e3 ∙ ap₂ (λ front back. front ++ buffer_lines back)
    (e2 ∙ ap (λ front. front ++ version_lines) e1) b) x) q) j)
    ∙ sym (script_text s)

-- a list with the lines of a schedule
pub schedule_added : (s : Script) → s.scheduled ≡ true → (turns : List Turn) → turns ≡ s.turns →
    (old begun new : List ℕ) → begun ≡ old ++ codes "schedule\n" →
    new ≡ begun ++ flat_map (λ t. line_text (turns_words s t)) (joined_turns turns) →
    new ≡ old ++ flat_map line_text (schedule_words s)
schedule_added s is turns same old begun new e1 e2 =
    let lines = map (turns_words s) (joined_turns s.turns) in
    let words : schedule_words s ≡ (codes "schedule" ∷ []) ∷ lines =
    cond-true s.scheduled ((codes "schedule" ∷ []) ∷ lines) [] is in
    e2 ∙ ap₂ (λ front ts. front ++ flat_map (λ t. line_text (turns_words s t)) (joined_turns ts)) e1 same
    ∙ append_assoc old (codes "schedule\n")
    (flat_map (λ t. line_text (turns_words s t)) (joined_turns s.turns))
    ∙ ap (λ text. old ++ (line_text (codes "schedule" ∷ []) ++ text))
    (sym (flat_map-map line_text (turns_words s) (joined_turns s.turns)))
    ∙ ap (λ (ws : List (List (List ℕ))). old ++ flat_map line_text ws) (sym words)
