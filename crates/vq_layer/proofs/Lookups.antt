-- Reads of a timeline, of a kind and of a queue.
use Rattle.std.proofs.Common.{◌≡◌, ℕ, ◌<◌, List, length, sym}
use Rattle.std.specs.List.{slice_index_or}
use Rattle.std.proofs.lemmas.List.{get_or_read}
use Rattle.vq_live.specs.Live.{Live, opened}
use Rattle.vq_layer.specs.declared.answers.Kind.{Kind}
use Rattle.vq_layer.specs.declared.answers.Kind.TheVariants.{Closed}
use Rattle.vq_layer.specs.Layer.{Queue, live_at, kind_at, queue_at, no_queue}

pub read_live : (ts : List Live) (n : ℕ) (x : Live) → n < length ts → x ≡ slice_index_or ts n x → live_at ts n ≡ x
read_live ts n x l e = sym (get_or_read ts n x l e (opened 0))

pub read_kind : (ks : List Kind) (n : ℕ) (x : Kind) → n < length ks → x ≡ slice_index_or ks n x → kind_at ks n ≡ x
read_kind ks n x l e = sym (get_or_read ks n x l e Closed)

pub read_queue : (qs : List Queue) (n : ℕ) (x : Queue) → n < length qs → x ≡ slice_index_or qs n x → queue_at qs n ≡ x
read_queue qs n x l e = sym (get_or_read qs n x l e no_queue)
