-- What the meaning of an access says after a call: its events, how far its record goes, and its places.
use Rattle.std.proofs.Common.{◌≡◌, List, [], ◌++◌, sym}
use Rattle.std.proofs.lemmas.List.{append-nil}
use Rattle.vq_model.specs.declared.plan.Event.{Event}

-- where no event is noted the events are as before
pub none_more : (events : List Event) → events ≡ events ++ []
none_more events = sym (append-nil events)
