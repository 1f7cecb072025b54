-- Which kinds of accesses a scope has.
-- Vulkan 1.3, "Access Types"; an access or a scope that names none is this project's own.
use Rattle.std.specs.Prelude.{Bool, ◌&&◌, ◌||◌, not}
use Rattle.vq_capture.specs.declared.stage.AccessMask.{AccessMask}

abbrev pub names_read : AccessMask → Bool
names_read m =
    m.memory_read || m.index_read || m.attribute_read || m.uniform_read || m.sampled_read || m.storage_read
    || m.attachment_read

abbrev pub names_write : AccessMask → Bool
names_write m = m.memory_write || m.storage_write

-- a scope that names no kinds has all
abbrev pub has_all_kinds : AccessMask → Bool
has_all_kinds m = not (names_read m || names_write m)

-- whether some kind of read is in both
abbrev pub share_read : AccessMask → AccessMask → Bool
share_read a b =
    (a.memory_read && b.memory_read) || (a.index_read && b.index_read) || (a.attribute_read && b.attribute_read)
    || (a.uniform_read && b.uniform_read) || (a.sampled_read && b.sampled_read)
    || (a.storage_read && b.storage_read) || (a.attachment_read && b.attachment_read)

-- Whether the kinds of a scope have a write of some kinds. `write` is all writes. A write that names no kind of its own
-- may be of any that the scope names.
abbrev pub has_write : AccessMask → AccessMask → Bool
has_write scope own =
    has_all_kinds scope || scope.memory_write || (scope.storage_write && (own.storage_write || not own.memory_write))

-- Whether they have a read of some kinds. `read` is all reads, and a read that names no kind may be of any.
abbrev pub has_read : AccessMask → AccessMask → Bool
has_read scope own =
    has_all_kinds scope || scope.memory_read || share_read scope own || (names_read scope && not (names_read own))
