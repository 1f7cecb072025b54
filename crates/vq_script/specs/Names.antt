-- What a name of the map of names stands for.
use Rattle.std.specs.Prelude.{ℕ, Bool, ◌&&◌, List, Option, Some, None}
use Rattle.std.specs.Str.{bytes_eq}
use Rattle.std.specs.Ordering.{nat_cmp}
use Rattle.std.specs.declared.cmp.Ordering.{Ordering}
use Rattle.std.specs.Cmp.Lexicographic.{slice_cmp}
use Rattle.std.specs.BTreeMap.{BTreeMap, get_by}
use Rattle.std.specs.Global.{Vec}
use Rattle.vq_model.specs.declared.script.Buffer.{Buffer}
use Rattle.vq_model.specs.declared.script.Semaphore.{Semaphore}
use Rattle.vq_model.specs.declared.script.SemaphoreKind.{SemaphoreKind}
use Rattle.vq_model.specs.declared.script.SemaphoreKind.TheVariants.{Timeline, Binary, Fence}
use Rattle.vq_model.specs.declared.script.Queue.{Queue}
use Rattle.vq_model.specs.declared.script.Mode.TheVariants.{Threaded}
use Rattle.vq_model.specs.Context.{is_timeline, is_binary, is_fence, is_threaded}
use Rattle.vq_model.specs.Forms.{Slot, BufferName, TimelineName, BinaryName, FenceName, QueueName, ThreadedName}
use Rattle.vq_script.specs.declared.named_item.NamedItem.{NamedItem}
use Rattle.vq_script.specs.declared.named_item.NamedItem.TheVariants.{Buffer as BufferAt, Timeline as TimelineAt}
use Rattle.vq_script.specs.declared.named_item.NamedItem.TheVariants.{Binary as BinaryAt, Fence as FenceAt}
use Rattle.vq_script.specs.declared.named_item.NamedItem.TheVariants.{Queue as QueueAt}

-- how the map's keys compare
abbrev pub key_cmp : Vec ℕ → Vec ℕ → Ordering
key_cmp x y = slice_cmp nat_cmp x.items y.items

-- what the bytes of a name stand for in the map
abbrev pub item_of : BTreeMap (Vec ℕ) NamedItem → List ℕ → Option NamedItem
item_of names name = get_by (λ k. slice_cmp nat_cmp name k.items) names

-- a semaphore or a fence of this kind
abbrev pub semaphore_item : SemaphoreKind → ℕ → NamedItem
semaphore_item (Timeline v) n = TimelineAt n
semaphore_item Binary n = BinaryAt n
semaphore_item Fence n = FenceAt n

-- the number of what stands for a name, if it is of the kind that a place needs
abbrev pub number_in : Slot → Option NamedItem → Option ℕ
number_in BufferName (Some (BufferAt n)) = Some n
number_in TimelineName (Some (TimelineAt n)) = Some n
number_in BinaryName (Some (BinaryAt n)) = Some n
number_in FenceName (Some (FenceAt n)) = Some n
number_in QueueName (Some (QueueAt n mode)) = Some n
number_in ThreadedName (Some (QueueAt n Threaded)) = Some n
number_in place other = None

-- whether a buffer, a queue, or a semaphore or fence of a kind has this name
abbrev pub names_buffer : List ℕ → Buffer → Bool
names_buffer name b = bytes_eq name b.name

abbrev pub names_timeline : List ℕ → Semaphore → Bool
names_timeline name s = bytes_eq name s.name && is_timeline s.kind

abbrev pub names_binary : List ℕ → Semaphore → Bool
names_binary name s = bytes_eq name s.name && is_binary s.kind

abbrev pub names_fence : List ℕ → Semaphore → Bool
names_fence name s = bytes_eq name s.name && is_fence s.kind

abbrev pub names_queue : List ℕ → Queue → Bool
names_queue name q = bytes_eq name q.name

abbrev pub names_threaded : List ℕ → Queue → Bool
names_threaded name q = bytes_eq name q.name && is_threaded q.mode
