use Rattle.std.proofs.Common.{◌≡◌, ℕ, ◌<◌, List, length, Some, sym, subst}
use Rattle.std.specs.List.{slice_get, range_with_len}
use Rattle.vq_board.specs.Named.{IsOf}
use Rattle.vq_poll.specs.declared.pairs.Pair.{Pair}
use Rattle.vq_poll.specs.declared.watched.WatchedBoard.{WatchedBoard}
use Rattle.vq_poll.specs.Watching.{ArePairs, IsWatched, plan_at}
use Rattle.vq_poll.proofs.Places.{place_below}
use Rattle.vq_poll.proofs.arrivals.Arrivals.new.Goals as goal

pub returns-clause-can : goal.returns-clause-can
returns-clause-can c =
    let a = c.in_ok-awaited.awaited in
    let made = c.in_ok-awaited.ensures in
    let left : c.in_ok-left.left.items ≡ range_with_len 0 (length c.args.pairs.now) = c.in_ok-left.ensures in
    record {
      can_read = record {
        board_is = subst (λ (w : WatchedBoard). IsWatched w) (sym made.watched) c.requires.watched;
        pass_is = subst (λ (w : WatchedBoard). IsOf w.board.now c.args.pass.now) (sym made.watched) c.requires.pass;
        pairs_are = subst (λ (ps : List Pair). ArePairs (plan_at a.watched) ps) (sym made.pairs)
            (subst (λ (w : WatchedBoard). ArePairs (plan_at w) c.args.pairs.now) (sym made.watched) c.requires.pairs);
      };
      left_are = λ k i at. subst (λ (ps : List Pair). i < length ps) (sym made.pairs)
          (place_below (length c.args.pairs.now) k i (subst (λ (xs : List ℕ). slice_get xs k ≡ Some i) left at));
    }
