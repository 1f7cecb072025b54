-- The words for stages and accesses, and the scopes that they write. The format is this project's own.
use Rattle.std.specs.Prelude.{ℕ, Bool, true, false, List, [], ◌∷◌, ◌==◌, codes, if◌then◌else◌}
use Rattle.std.specs.Prelude.{Option, Some, None}
use Rattle.std.specs.Str.{bytes_eq}
use Rattle.std.specs.List.{slice_split}
use Rattle.std.specs.Option.{option_map, option_and_then}
use Rattle.vq_capture.specs.declared.stage.Stage.{Stage}
use Rattle.vq_capture.specs.declared.stage.Stage.TheVariants.{Indirect, Input, Vertex, Early, Fragment, Late}
use Rattle.vq_capture.specs.declared.stage.Stage.TheVariants.{Color, Compute, Copy, Host, Other}
use Rattle.vq_capture.specs.declared.stage.StageMask.{StageMask}
use Rattle.vq_capture.specs.declared.stage.AccessType.{AccessType}
use Rattle.vq_capture.specs.declared.stage.AccessType.TheVariants.{MemoryRead, MemoryWrite, IndexRead, AttributeRead}
use Rattle.vq_capture.specs.declared.stage.AccessType.TheVariants.{UniformRead, SampledRead, StorageRead}
use Rattle.vq_capture.specs.declared.stage.AccessType.TheVariants.{StorageWrite, AttachmentRead}
use Rattle.vq_capture.specs.declared.stage.AccessMask.{AccessMask}
use Rattle.vq_capture.specs.declared.stage.Scope.{Scope}
use Rattle.vq_capture.specs.Masks.{no_stage, all_stages, word_stages, with_stage}

-- what two options give together
abbrev pub both : {A B C : Type 0} → (A → B → C) → Option A → Option B → Option C
both f a b = option_and_then (λ x. option_map (f x) b) a

-- Stages

abbrev pub stage_of : List ℕ → Option Stage
stage_of word =
    if bytes_eq word (codes "indirect") then Some Indirect
    else if bytes_eq word (codes "input") then Some Input
    else if bytes_eq word (codes "vertex") then Some Vertex
    else if bytes_eq word (codes "early") then Some Early
    else if bytes_eq word (codes "fragment") then Some Fragment
    else if bytes_eq word (codes "late") then Some Late
    else if bytes_eq word (codes "color") then Some Color
    else if bytes_eq word (codes "compute") then Some Compute
    else if bytes_eq word (codes "copy") then Some Copy
    else if bytes_eq word (codes "host") then Some Host
    else if bytes_eq word (codes "other") then Some Other
    else None

-- a set with the stages of some words, or nothing where one of them is no stage
abbrev pub stages_with : StageMask → List (List ℕ) → Option StageMask
stages_with m [] = Some m
stages_with m (word ∷ words) = option_and_then (λ s. stages_with (with_stage m s) words) (stage_of word)

-- a plus sign stands between two
abbrev pub is_plus : ℕ → Bool
is_plus b = b == 43

-- `all`, `none`, or stages with a plus sign between two
abbrev pub stages_of : List ℕ → Option StageMask
stages_of word =
    if bytes_eq word (codes "all") then Some all_stages
    else if bytes_eq word (codes "none") then Some no_stage
    else stages_with no_stage (slice_split is_plus word)

-- Accesses

abbrev pub no_access : AccessMask
no_access = record {
  memory_read = false;
  memory_write = false;
  index_read = false;
  attribute_read = false;
  uniform_read = false;
  sampled_read = false;
  storage_read = false;
  storage_write = false;
  attachment_read = false;
}

abbrev pub with_access : AccessMask → AccessType → AccessMask
with_access m MemoryRead = record m { memory_read = true }
with_access m MemoryWrite = record m { memory_write = true }
with_access m IndexRead = record m { index_read = true }
with_access m AttributeRead = record m { attribute_read = true }
with_access m UniformRead = record m { uniform_read = true }
with_access m SampledRead = record m { sampled_read = true }
with_access m StorageRead = record m { storage_read = true }
with_access m StorageWrite = record m { storage_write = true }
with_access m AttachmentRead = record m { attachment_read = true }

abbrev pub access_of : List ℕ → Option AccessType
access_of word =
    if bytes_eq word (codes "read") then Some MemoryRead
    else if bytes_eq word (codes "write") then Some MemoryWrite
    else if bytes_eq word (codes "index") then Some IndexRead
    else if bytes_eq word (codes "attribute") then Some AttributeRead
    else if bytes_eq word (codes "uniform") then Some UniformRead
    else if bytes_eq word (codes "sampled") then Some SampledRead
    else if bytes_eq word (codes "storage-read") then Some StorageRead
    else if bytes_eq word (codes "storage-write") then Some StorageWrite
    else if bytes_eq word (codes "attachment") then Some AttachmentRead
    else None

-- a set with the accesses of some words, or nothing where one of them is none
abbrev pub accesses_with : AccessMask → List (List ℕ) → Option AccessMask
accesses_with m [] = Some m
accesses_with m (word ∷ words) = option_and_then (λ a. accesses_with (with_access m a) words) (access_of word)

-- accesses with a plus sign between two
abbrev pub accesses_of : List ℕ → Option AccessMask
accesses_of word = accesses_with no_access (slice_split is_plus word)

-- Scopes

abbrev pub is_colon : ℕ → Bool
is_colon b = b == 58

-- the scope of the parts of a word between colons: stages, and at most one part of accesses
abbrev pub scope_in : List (List ℕ) → Option Scope
scope_in (stages ∷ []) = option_map (λ m. record { stages = m; accesses = no_access }) (stages_of stages)
scope_in (stages ∷ accesses ∷ []) =
    if bytes_eq stages (codes "none") then None
    else both (λ m a. record { stages = m; accesses = a }) (stages_of stages) (accesses_of accesses)
scope_in parts = None

-- the scope that a word writes
abbrev pub scope_of : List ℕ → Option Scope
scope_of word = scope_in (slice_split is_colon word)

-- The scope of an access, which is at some stage: `none` is none, and `all` is the stages that have a word.
abbrev pub access_scope_of : List ℕ → Option Scope
access_scope_of word = option_and_then worded (scope_of word)
  where
    is_whole : StageMask → Bool
    is_whole m = m.begin

    worded : Scope → Option Scope
    worded scope =
        if bytes_eq word (codes "none") then None
        else if is_whole scope.stages then Some (record scope { stages = word_stages })
        else Some scope
