use Rattle.std.proofs.Common.{◌<◌, ◌≤◌, length, sym, rules}
use Rattle.vq_capture_things.proofs.RisingValues.{rise_in, rise_out}
use Rattle.vq_capture_things.proofs.rises.first_rise.Goals as goal

pub returns-then-place-rises : goal.returns-then-place-rises
returns-then-place-rises c =
    let p = c.first_place-place.ensures in
    let inside : c.first_place-place.result < length c.args.rises.now = search rules in
    sym (rise_in c.args.rises.now c.args.value c.first_place-place.result p.within p.below p.reached inside)

pub returns-else-place-rises : goal.returns-else-place-rises
returns-else-place-rises c =
    let p = c.first_place-place.ensures in
    let outside : length c.args.rises.now ≤ c.first_place-place.result = search rules in
    sym (rise_out c.args.rises.now c.args.value c.first_place-place.result p.within p.below p.reached outside)
