-- The sizes of buffers.
use Rattle.std.proofs.Common.{◌≡◌, ℕ, ◌<◌, List, [], ◌∷◌, length, map, zero, suc, refl, sym, ◌∙◌, ap, subst, get_or, arith}
use Rattle.std.proofs.lemmas.List.{get_or-map, length-map, same_lists, get_or_default}
use Rattle.std.specs.List.{slice_index_or}
use Rattle.vq_model.specs.declared.script.Command.{Command}
use Rattle.vq_model.specs.Memory.{Memory, buffer, effect}
use Rattle.vq_model.specs.FittingCommands.{HasSizes}
use Rattle.vq_model.specs.FittingCommands.{Fits}
use Rattle.vq_model.proofs.Sizes.{sizes_are}
use Rattle.vq_memory_laws.proofs.Cited.{effect_sizes}

-- buffers have the sizes that they have
pub has_own_sizes : (m : Memory) → HasSizes (map length m) m
has_own_sizes m = record { count = sym (length-map m length); each = at_buffer m }
  where
    at_buffer : (m : Memory) (b : ℕ) → length (buffer m b) ≡ slice_index_or (map length m) b 0
    at_buffer [] b = refl
    at_buffer (bytes ∷ m) zero = refl
    at_buffer (bytes ∷ m) (suc b) = at_buffer m b

-- a command that fits leaves the sizes
pub sizes_stay : (c : Command) (m : Memory) → Fits (map length m) c →
    map length (effect c m) ≡ map length m
sizes_stay c m f = sizes_are (map length m) (effect c m)
    (effect_sizes (map length m) c m (has_own_sizes m) f)

-- the same where the command is known by its parts
pub sizes_after : (c d : Command) (m new : Memory) → d ≡ c → Fits (map length m) d →
    new ≡ effect c m → map length new ≡ map length m
sizes_after c d m new is f e = ap (map length) e ∙ sizes_stay c m (subst (Fits (map length m)) is f)
