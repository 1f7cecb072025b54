-- Windows and outputs, of a plan of one version and of another.
use Rattle.std.proofs.Common.{◌≡◌, ℕ, List, [], ◌∷◌, ◌++◌, subst}
use Rattle.std.specs.List.{flat_map}
use Rattle.vq_model.specs.declared.plan.Answer.{Answer}
use Rattle.vq_model.specs.declared.plan.Answer.TheVariants.{Reached, Timeout, NotReady, Value}
use Rattle.vq_model.specs.declared.plan.Need.{Need}
use Rattle.vq_model.specs.declared.plan.Question.{Question}
use Rattle.vq_model.specs.declared.plan.Question.TheVariants.{Silent, Reached as AsksReached, PollAll, PollAny, Fence, Value as AsksValue}
use Rattle.vq_model.specs.Outputs.{Answered, ShowsBy, IsShownReached, from_floor, carried, AtMostCeiling, IsAboveLow, MayRead, MayPick, AllowedBy, AllAllowed, IsOutput, answer_lines}
use Rattle.vq_model.specs.OutputText.{answer_text, buffers_text}
use Rattle.vq_model.specs.Plan.{Plan, commands_of, question, asked, needs}
use Rattle.vq_model.specs.SlowRun.{bytes_after}
use Rattle.vq_model.specs.Windows.{IsSurelyReached, IsPossiblyReached, IsMadeWith}
use Rattle.vq_upgrade_laws.proofs.SameOrder.{same_before, same_sure}
use Rattle.vq_upgrade_laws.proofs.SameRuns.{same_slow}
use Rattle.vq_upgrade_laws.specs.Upgrades.{plan_of_version}

-- Windows

same_surely : (v w : ℕ) (p : Plan) (h t n : ℕ) → IsSurelyReached (plan_of_version v p) h t n → IsSurelyReached (plan_of_version w p) h t n
same_surely v w p h t n IsSurelyReached.at_first = IsSurelyReached.at_first
same_surely v w p h t n (IsSurelyReached.sure {e = e} c s) = IsSurelyReached.sure c (same_sure v w p e h _ s)

same_possibly : (v w : ℕ) (p : Plan) (h t n : ℕ) → IsPossiblyReached (plan_of_version v p) h t n → IsPossiblyReached (plan_of_version w p) h t n
same_possibly v w p h t n IsPossiblyReached.at_first = IsPossiblyReached.at_first
same_possibly v w p h t n (IsPossiblyReached.possible x) =
    IsPossiblyReached.possible (record { in_chain = x.in_chain; job = x.job; of_job = x.of_job; other = x.other; not_after = λ b. x.not_after (same_before w v p h x.job _ b) })

same_made : (v w : ℕ) (p : Plan) (e f : ℕ) → IsMadeWith (plan_of_version v p) e f → IsMadeWith (plan_of_version w p) e f
same_made v w p e f IsMadeWith.itself = IsMadeWith.itself
same_made v w p e f (IsMadeWith.signaled_earlier a b l) = IsMadeWith.signaled_earlier a b l
same_made v w p e f (IsMadeWith.sure {j = j} a s) = IsMadeWith.sure a (same_sure v w p f j _ s)

-- What answers show

same_shows : (v w : ℕ) (p : Plan) (told : Answered) (e : ℕ) (q : Question) (a : Answer) → ShowsBy (plan_of_version v p) told e q a → ShowsBy (plan_of_version w p) told e q a
same_shows v w p told e Silent Reached s = (s.0, s.1, record { above = s.2.above; resolves = s.2.resolves })
same_shows v w p told e AsksReached Reached s = (s.0, s.1, record { above = s.2.above; resolves = s.2.resolves })
same_shows v w p told e PollAll Reached s = (s.0, s.1, record { above = s.2.above; resolves = s.2.resolves })
same_shows v w p told e PollAny Reached s = (s.0, s.1, record { above = s.2.above; resolves = s.2.resolves })
same_shows v w p told e Fence Reached s = (s.0, s.1, record { above = s.2.above; resolves = s.2.resolves })
same_shows v w p told e (AsksValue t) Reached s = (s.0, s.1, record { above = s.2.above; resolves = s.2.resolves })
same_shows v w p told e (AsksValue t) (Value n) s = s
same_shows v w p told e Silent (Value n) s = absurd s
same_shows v w p told e AsksReached (Value n) s = absurd s
same_shows v w p told e PollAll (Value n) s = absurd s
same_shows v w p told e PollAny (Value n) s = absurd s
same_shows v w p told e Fence (Value n) s = absurd s
same_shows v w p told e q Timeout s = absurd s
same_shows v w p told e q NotReady s = absurd s

same_shown : (v w : ℕ) (p : Plan) (before : List Answered) (h t n : ℕ) → IsShownReached (plan_of_version v p) before h t n → IsShownReached (plan_of_version w p) before h t n
same_shown v w p before h t n (from_floor s) = from_floor (same_surely v w p h t n s)
same_shown v w p before h t n (carried {f = f} told e i s m c) =
    carried told e i (same_shows v w p told e (question p told.job) told.answer s) (same_made v w p e f m) c

-- What may be answered

same_ceiling : (v w : ℕ) (p : Plan) (h : ℕ) (n : Need) → AtMostCeiling (plan_of_version v p) h n → AtMostCeiling (plan_of_version w p) h n
same_ceiling v w p h n c = (c.0, same_possibly v w p h n.chain c.0 c.1, c.2)

same_above : (v w : ℕ) (p : Plan) (before : List Answered) (h : ℕ) (n : Need) → IsAboveLow (plan_of_version v p) before h n → IsAboveLow (plan_of_version w p) before h n
same_above v w p before h n a m s = a m (same_shown w v p before h n.chain m s)

same_read : (v w : ℕ) (p : Plan) (before : List Answered) (h t n : ℕ) → MayRead (plan_of_version v p) before h t n → MayRead (plan_of_version w p) before h t n
same_read v w p before h t n r =
    record {
      known = r.known;
      low = λ m s. r.low m (same_shown w v p before h t m s);
      high = (r.high.0, same_possibly v w p h t r.high.0 r.high.1, r.high.2);
    }

same_pick : (v w : ℕ) (p : Plan) (told : Answered) (ns : List Need) → MayPick (plan_of_version v p) told ns → MayPick (plan_of_version w p) told ns
same_pick v w p told ns m = (m.0, m.1, m.2, same_ceiling v w p told.job m.0 m.3)

same_allowed : (v w : ℕ) (p : Plan) (before : List Answered) (told : Answered) (q : Question) (a : Answer) → AllowedBy (plan_of_version v p) before told q a → AllowedBy (plan_of_version w p) before told q a
same_allowed v w p before told AsksReached Reached m = λ any. same_pick v w p told (needs p told.job) (m any)
same_allowed v w p before told PollAll Reached m = λ n i. same_ceiling v w p told.job n (m n i)
same_allowed v w p before told PollAny Reached m = same_pick v w p told (asked p told.job) m
same_allowed v w p before told Fence Reached m = λ n i. same_ceiling v w p told.job n (m n i)
same_allowed v w p before told PollAll Timeout m = (m.0, m.1, same_above v w p before told.job m.0 m.2)
same_allowed v w p before told PollAny Timeout m = λ n i. same_above v w p before told.job n (m n i)
same_allowed v w p before told Fence NotReady m = (m.0, m.1, same_above v w p before told.job m.0 m.2)
same_allowed v w p before told (AsksValue t) (Value n) m = same_read v w p before told.job t n m
same_allowed v w p before told Silent Reached m = absurd m
same_allowed v w p before told Silent Timeout m = absurd m
same_allowed v w p before told Silent NotReady m = absurd m
same_allowed v w p before told Silent (Value n) m = absurd m
same_allowed v w p before told AsksReached Timeout m = absurd m
same_allowed v w p before told AsksReached NotReady m = absurd m
same_allowed v w p before told AsksReached (Value n) m = absurd m
same_allowed v w p before told PollAll NotReady m = absurd m
same_allowed v w p before told PollAll (Value n) m = absurd m
same_allowed v w p before told PollAny NotReady m = absurd m
same_allowed v w p before told PollAny (Value n) m = absurd m
same_allowed v w p before told Fence Timeout m = absurd m
same_allowed v w p before told Fence (Value n) m = absurd m
same_allowed v w p before told (AsksValue t) Reached m = absurd m
same_allowed v w p before told (AsksValue t) Timeout m = absurd m
same_allowed v w p before told (AsksValue t) NotReady m = absurd m

same_all : (v w : ℕ) (p : Plan) (before tolds : List Answered) → AllAllowed (plan_of_version v p) before tolds → AllAllowed (plan_of_version w p) before tolds
same_all v w p before [] m = m
same_all v w p before (told ∷ tolds) m = (
  same_allowed v w p before told (question p told.job) told.answer m.0,
  same_all v w p (before ++ told ∷ []) tolds m.1,
)

-- Outputs

pub same_output : (v w : ℕ) (p : Plan) (text : List ℕ) → IsOutput (plan_of_version v p) text → IsOutput (plan_of_version w p) text
same_output v w p text o =
    record {
      answers = o.answers;
      in_order = o.in_order;
      allowed = same_all v w p [] o.answers o.allowed;
      spelled = subst (λ (order : List ℕ). text ≡ answer_text (answer_lines p o.answers)
          ++ buffers_text p.script.buffers (bytes_after p (flat_map (commands_of p) order))) (same_slow v w p) o.spelled;
    }
