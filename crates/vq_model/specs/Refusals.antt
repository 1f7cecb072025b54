-- The line that a refused input, script or plan is answered with. The format is this project's own.
use Rattle.std.specs.Prelude.{ℕ, List, ◌++◌, codes, []}
use Rattle.std.specs.Fmt.{decimal}
use Rattle.vq_model.specs.declared.statement.FaultKind.{FaultKind}
use Rattle.vq_model.specs.declared.statement.FaultKind.TheVariants.{Syntax, Order, Number, Name, Twice, Range, Overlap}
use Rattle.vq_model.specs.declared.statement.FaultKind.TheVariants.{Limit}
use Rattle.vq_model.specs.declared.plan.PlanFault.{PlanFault}
use Rattle.vq_model.specs.declared.plan.PlanFault.TheVariants.{NoSignal, SignaledTwice, FenceUsed}
use Rattle.vq_model.specs.declared.plan.PlanFault.TheVariants.{Memory as NoMemoryToLower}
use Rattle.vq_model.specs.declared.plan.OrderFault.{OrderFault}
use Rattle.vq_model.specs.declared.plan.OrderFault.TheVariants.{Unreachable, Unordered, FenceBusy, NotPending, Race}
use Rattle.vq_model.specs.declared.plan.OrderFault.TheVariants.{Memory}
use Rattle.vq_model.specs.OutputText.{line_feed}

-- a fault at one line
abbrev pub at_line : List ℕ → ℕ → List ℕ
at_line fault n = codes "error: " ++ fault ++ codes ": line " ++ decimal n ++ line_feed

-- a fault at two lines
abbrev pub at_lines : List ℕ → ℕ → ℕ → List ℕ
at_lines fault a b =
    codes "error: " ++ fault ++ codes ": lines " ++ decimal a ++ codes " and " ++ decimal b
    ++ line_feed

-- want of memory writes nothing
abbrev pub plan_refusal : PlanFault → List ℕ
plan_refusal (NoSignal n) = at_line (codes "no signal") n
plan_refusal (SignaledTwice n) = at_line (codes "signaled twice") n
plan_refusal (FenceUsed n) = at_line (codes "fence used") n
plan_refusal NoMemoryToLower = []

abbrev pub order_refusal : OrderFault → List ℕ
order_refusal (Unreachable n) = at_line (codes "unreachable") n
order_refusal (Unordered a b) = at_lines (codes "unordered") a b
order_refusal (FenceBusy n) = at_line (codes "fence busy") n
order_refusal (NotPending n) = at_line (codes "not pending") n
order_refusal (Race a b) = at_lines (codes "race") a b
order_refusal Memory = []

-- an input past the limit
abbrev pub too_long : List ℕ
too_long = codes "error: too long" ++ line_feed

-- words outside the grammar of the command line
abbrev pub bad_words : List ℕ
bad_words = codes "error: words" ++ line_feed

abbrev pub kind_words : FaultKind → List ℕ
kind_words Syntax = codes "syntax"
kind_words Order = codes "order"
kind_words Number = codes "number"
kind_words Name = codes "name"
kind_words Twice = codes "twice"
kind_words Range = codes "range"
kind_words Overlap = codes "overlap"
kind_words Limit = codes "limit"

-- a line with a fault
abbrev pub line_refusal : ℕ → FaultKind → List ℕ
line_refusal n kind = at_line (kind_words kind) n
