-- Limits that only long texts reach: the lines before are made by a count. Each line holds by evaluation.
use Rattle.vq_model.specs.declared.statement.Statement.{Statement}
use Rattle.vq_model.specs.declared.statement.Line.{Line}
use Rattle.std.proofs.Common.{ℕ, Bool, ◌≡◌, false, [], refl, true, ◌∷◌, ◌++◌}
use Rattle.std.specs.Prelude.{replicate}
use Rattle.vq_model.specs.declared.statement.Statement.TheVariants.{HasVersion, DeclareQueue, DeclareBuffer, DeclareSemaphore, BeginBatch, TakeHostStep, AddCommand, EndBatch}
use Rattle.vq_model.specs.declared.script.SemaphoreKind.TheVariants.{Binary, Timeline}
use Rattle.vq_model.specs.declared.script.Mode.TheVariants.{Threaded, Deferred}
use Rattle.vq_model.specs.declared.script.HostStep.TheVariants.{Idle}
use Rattle.vq_model.specs.declared.script.Command.TheVariants.{Fill, Update}
use Rattle.vq_model.specs.declared.script.FillSize.TheVariants.{Whole}
use Rattle.vq_model.specs.LineFaults.{is_in_range}
use Rattle.vq_model.specs.Earlier.{earlier}
use Rattle.vq_model.specs.LineFaults.{passes_limit}

abbrev line : Statement → Line
line s = record { number = 1; statement = s }

-- whether a statement passes a limit after so many lines of one kind
abbrev after : ℕ → Statement → Statement → Bool
after n before s = passes_limit (earlier (replicate n (line before))) s

-- .. after these and the version
abbrev after_version : ℕ → Statement → Statement → Bool
after_version n before s =
    passes_limit (earlier (line (HasVersion 2) ∷ replicate n (line before))) s

buffer_64 : after 63 (DeclareBuffer [] 1) (DeclareBuffer [] 1) ≡ false
buffer_64 = refl

buffer_65 : after 64 (DeclareBuffer [] 1) (DeclareBuffer [] 1) ≡ true
buffer_65 = refl

-- queues, in the first version and in the second
queue_8 : after 7 (DeclareQueue [] Threaded) (DeclareQueue [] Deferred) ≡ false
queue_8 = refl

queue_9 : after 8 (DeclareQueue [] Threaded) (DeclareQueue [] Deferred) ≡ true
queue_9 = refl

queue_16 : after_version 15 (DeclareQueue [] Threaded) (DeclareQueue [] Deferred) ≡ false
queue_16 = refl

queue_17 : after_version 16 (DeclareQueue [] Threaded) (DeclareQueue [] Deferred) ≡ true
queue_17 = refl

semaphore_256 : after 255 (DeclareSemaphore [] Binary) (DeclareSemaphore [] (Timeline 0)) ≡ false
semaphore_256 = refl

semaphore_257 : after 256 (DeclareSemaphore [] Binary) (DeclareSemaphore [] (Timeline 0)) ≡ true
semaphore_257 = refl

job_4096 : after 4095 (BeginBatch 0) (TakeHostStep Idle) ≡ false
job_4096 = refl

job_4097 : after 4096 (BeginBatch 0) (BeginBatch 0) ≡ true
job_4097 = refl

job_8192 : after_version 8191 (BeginBatch 0) (TakeHostStep Idle) ≡ false
job_8192 = refl

job_8193 : after_version 8192 (BeginBatch 0) (BeginBatch 0) ≡ true
job_8193 = refl

-- the commands of all batches: those of a batch that is ended count too
command_8192 : passes_limit (earlier (replicate 8191 (line (AddCommand (Fill 0 0 Whole 1))) ++ line EndBatch ∷ line (BeginBatch 0) ∷ [])) (AddCommand (Fill 0 0 Whole 1)) ≡ false
command_8192 = refl

command_8193 : passes_limit (earlier (replicate 8192 (line (AddCommand (Fill 0 0 Whole 1))) ++ line EndBatch ∷ line (BeginBatch 0) ∷ [])) (AddCommand (Fill 0 0 Whole 1)) ≡ true
command_8193 = refl

-- an update of 65,536 bytes, and one of 65,540
largest_update : is_in_range (earlier (line (DeclareBuffer [] 65544) ∷ [])) (AddCommand (Update 0 0 (replicate 65536 0))) ≡ true
largest_update = refl

too_large_update : is_in_range (earlier (line (DeclareBuffer [] 65544) ∷ [])) (AddCommand (Update 0 0 (replicate 65540 0))) ≡ false
too_large_update = refl
