-- A text with blocks, read: what its lines say, or its first line with a fault and the first kind of that line's
-- faults. The format is this project's own.
use Rattle.std.specs.Prelude.{ℕ, ◌+◌, ◌≡◌, List, [], ◌∷◌, Option, Some, None, Result, Ok, Err, if◌then◌else◌}
use Rattle.vq_model.specs.declared.statement.FaultKind.{FaultKind}
use Rattle.vq_model.specs.declared.statement.FaultKind.TheVariants.{Syntax}
use Rattle.vq_model.specs.Text.{words_of, lines_of}
use Rattle.vq_blocks.specs.Blocks.{Told, nothing_told, told_with}
use Rattle.vq_blocks.specs.BlockFaults.{hosts_fault, hosts_end_early}

-- what is told, where a line has no fault or this one
abbrev pub unless_faulty : Option FaultKind → Told → Result Told FaultKind
unless_faulty None told = Ok told
unless_faulty (Some kind) told = Err kind

-- what is told with line n, or its fault; a line without words is skipped
abbrev pub read_hosts_words : Told → ℕ → List (List ℕ) → Result Told FaultKind
read_hosts_words told n [] = Ok told
read_hosts_words told n (word ∷ words) =
    unless_faulty (hosts_fault told (word ∷ words)) (told_with told n (word ∷ words))

-- what follows where a line has no fault, or the fault with the line's number
abbrev pub told_on : {A : Type 0} → ℕ → (Told → Result A (ℕ × FaultKind)) → Result Told FaultKind →
    Result A (ℕ × FaultKind)
told_on n next (Ok now) = next now
told_on n next (Err kind) = Err (n, kind)

-- what all lines tell, numbered from a number on, or the first with a fault and its first kind
abbrev pub read_hosts_lines : Told → ℕ → List (List ℕ) → Result Told (ℕ × FaultKind)
read_hosts_lines told n [] = if hosts_end_early told then Err (n, Syntax) else Ok told
read_hosts_lines told n (line ∷ lines) =
    told_on n (λ now. read_hosts_lines now (n + 1) lines) (read_hosts_words told n (words_of line))

-- What a text tells, or the first line with a fault and the first kind of that line's faults.
abbrev pub read_hosts : List ℕ → Result Told (ℕ × FaultKind)
read_hosts text = read_hosts_lines nothing_told 1 (lines_of text)

-- A text tells this.
abbrev pub Tells : List ℕ → Told → Type 0
Tells text told = read_hosts text ≡ Ok told

-- A text's first line with a fault, and that line's first kind.
abbrev pub IsFirstHostsFault : List ℕ → ℕ → FaultKind → Type 0
IsFirstHostsFault text n kind = read_hosts text ≡ Err (n, kind)
