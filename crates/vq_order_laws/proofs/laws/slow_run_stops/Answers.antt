use Rattle.vq_order_laws.proofs.SlowStops.{slow_once, left_waits, left_unreachable}
use Rattle.vq_order_laws.proofs.laws.slow_run_stops.Goals as goal

pub returns-clause-once : goal.returns-clause-once
returns-clause-once c p front back j e = slow_once p front back j e

pub returns-clause-left : goal.returns-clause-left
returns-clause-left c p j m = left_waits p j m

pub returns-clause-unreachable : goal.returns-clause-unreachable
returns-clause-unreachable c p w j m = left_unreachable p w j m
