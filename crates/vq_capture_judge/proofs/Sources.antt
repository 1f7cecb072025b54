-- The verdict on all that a source had, along its reading.
use Rattle.std.proofs.Common.{◌≡◌, ◌++◌, ◌∙◌, ℕ, List, [], Option, Some, None, refl, sym, ap, subst, Bor, append_assoc, append-nil, Bool, true, false}
use Rattle.vq_port.specs.Reading.{Takes, IsAtEnd}
use Rattle.vq_port.specs.Writing.{Stays}
use Rattle.std.proofs.lemmas.Bool.{false≢true}
use Rattle.vq_capture.specs.declared.capture.Verdict.{Verdict}
use Rattle.vq_capture.specs.declared.capture.Verdict.TheVariants.{Ordered, Race, Faulty}
use Rattle.vq_capture.specs.Reading.{ended_lines}
use Rattle.vq_capture_judge.specs.Judging.{Judging, judged, start_judging}
use Rattle.vq_capture_judge.specs.Feeding.{GoesOn, SaysOf, CameBehind, FedBy}
use Rattle.vq_capture_judge.specs.declared.feed.Fed.{Fed}
use Rattle.vq_capture_judge.specs.declared.feed.Fed.TheVariants.{Says, Left}
use Rattle.vq_capture_judge.specs.declared.status.JudgeStatus.{JudgeStatus}
use Rattle.vq_capture_judge.specs.Endings.{Moment, JudgesAs, Says as SaysAll, said_all, said_part, said_nothing}

pub begins : (x : Option (List ℕ)) → GoesOn start_judging [] x x
begins None = tt
begins (Some all) = refl

pub reads_on : (j : Judging) (p b : List ℕ) (x y z : Option (List ℕ)) → GoesOn j p x y → Takes b y z → GoesOn j (p ++ b) x z
reads_on j p b None y z g t = tt
reads_on j p b (Some all) None z g t = absurd g
reads_on j p b (Some all) (Some left) None g t = absurd t
reads_on j p b (Some all) (Some left) (Some rest) g t =
    ap (λ (w : List ℕ). judged j (ended_lines w)) (append_assoc p b rest ∙ ap (λ (w : List ℕ). p ++ w) (sym t)) ∙ g

pub fed_on : (j k : Judging) (p r : List ℕ) (x y : Option (List ℕ)) → GoesOn j p x y → ((more : List ℕ) → judged j (ended_lines (p ++ more)) ≡ judged k (ended_lines (r ++ more))) → GoesOn k r x y
fed_on j k p r None y g f = tt
fed_on j k p r (Some all) None g f = absurd g
fed_on j k p r (Some all) (Some left) g f = sym (f left) ∙ g

pub says : (j : Judging) (p : List ℕ) (v : Verdict) (x y : Option (List ℕ)) → GoesOn j p x y → ((more : List ℕ) → judged j (ended_lines (p ++ more)) ≡ v) → SaysOf x v
says j p v None y g f = tt
says j p v (Some all) None g f = absurd g
says j p v (Some all) (Some left) g f = sym g ∙ f left

pub says_ordered : (j : Judging) (p : List ℕ) (x y : Option (List ℕ)) → GoesOn j p x y → IsAtEnd y → ended_lines p ≡ [] → SaysOf x Ordered
says_ordered j p None y g e n = tt
says_ordered j p (Some all) None g e n = absurd g
says_ordered j p (Some all) (Some left) g e n =
    sym g ∙ ap (λ (ls : List (List ℕ)). judged j ls) (ap (λ (w : List ℕ). ended_lines w) (ap (λ (w : List ℕ). p ++ w) e ∙ append-nil p) ∙ n)

-- one read more
pub came_on : (j : Judging) (p q : List ℕ) (x y z : Option (List ℕ)) → GoesOn j p x y → CameBehind true p q y z → GoesOn j q x z
came_on j p q x y z g c = subst (λ (w : List ℕ). GoesOn j w x z) (sym c.1) (reads_on j p c.0 x y z g c.2)

-- the last read, which gave nothing
pub came_last : (j : Judging) (p q : List ℕ) (x y z : Option (List ℕ)) → GoesOn j p x y → ended_lines p ≡ [] → CameBehind false p q y z → SaysOf x Ordered
came_last j p q x y z g n c =
    says_ordered j (p ++ []) x z (reads_on j p [] x y z g c.1) c.2
    (ap (λ (w : List ℕ). ended_lines w) (append-nil p) ∙ n)

pub stays : (x : Option (List ℕ)) → Stays x x
stays None = tt
stays (Some all) = refl

pub judges : (v : Verdict) (s : JudgeStatus) (before now : Moment) → SaysOf before.left v → SaysAll v before.written before.write_faults now.written now.write_faults s → JudgesAs s before now
judges Ordered s b n w (said_all a) = (Ordered, w, refl, a)
judges (Race i k) s b n w (said_all a) = (Race i k, w, refl, a)
judges (Faulty f) s b n w (said_all a) = (Faulty f, w, refl, a)
judges v s b n w (said_part r a) = (r, (v, w, a))
judges v s b n w (said_nothing a) = a

-- a verdict on what was read
pub says_fed : (j k : Judging) (p q text : List ℕ) (x y z : Option (List ℕ)) (f : Fed) (v : Verdict) (b : Bool) → GoesOn j p x y → CameBehind b p q y z → b ≡ true → text ≡ q → FedBy j text k f → f ≡ Says v → SaysOf x v
says_fed j k p q text x y z f v true g c b t d e =
    says j q v x z (came_on j p q x y z g c)
    (λ more. ap (λ (w : List ℕ). judged j (ended_lines (w ++ more))) (sym t)
    ∙ subst (λ (u : Fed). FedBy j text k u) e d more)
says_fed j k p q text x y z f v false g c b t d e = absurd (false≢true b)

-- what is left of what was read, where no verdict was found
pub goes_fed : (j k : Judging) (p q text left : List ℕ) (x y z : Option (List ℕ)) (f : Fed) (rest : Bor (List ℕ)) (b : Bool) → GoesOn j p x y → CameBehind b p q y z → b ≡ true → text ≡ q → FedBy j text k f → f ≡ Left rest → left ≡ rest.now → GoesOn k left x z × (ended_lines left ≡ [])
goes_fed j k p q text left x y z f rest true g c b t d e l =
    let fed = subst (λ (u : Fed). FedBy j text k u) e d in
    subst (λ (w : List ℕ). GoesOn k w x z × (ended_lines w ≡ [])) (sym l) (
      fed_on j k q rest.now x z (came_on j p q x y z g c)
          (λ more. ap (λ (w : List ℕ). judged j (ended_lines (w ++ more))) (sym t) ∙ fed.1 more),
      fed.0,
    )
goes_fed j k p q text left x y z f rest false g c b t d e l = absurd (false≢true b)
