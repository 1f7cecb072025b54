-- The canonical lines of jobs are those of their statements, one after another.
use Rattle.std.proofs.Common.{◌≡◌, Bool, false, List, [], ◌∷◌, Option, None, refl, ◌∙◌, ℕ, true, sym, ◌++◌, ap, append_assoc, append-nil, map, Some, subst}
use Rattle.std.specs.List.{filter_map, list_any, cons_option, flat_map, list_all}
use Rattle.std.proofs.lemmas.Bool.{or_parts, false≢true}
use Rattle.vq_model.specs.declared.statement.Statement.{Statement}
use Rattle.std.specs.Prelude.{nat_lt, codes}
use Rattle.vq_model.specs.declared.statement.Statement.TheVariants.{AddCommand, AddSignal, AddFence, AddWait, EndBatch}
use Rattle.vq_canonical_laws.proofs.ScriptParts.{ToldStep, ToldBatch, ToldJob, command_in, signal_in, fence_in, Parts, after, Told, parts, wait_in, a_job, MayItem}
use Rattle.vq_model.specs.Context.{is_batch_fence}
use Rattle.vq_canonical_laws.proofs.LineWords.{words_at, declared_script}
use Rattle.vq_canonical_laws.proofs.CanonicalOrder.{Leads, job_statements, declarations}
use Rattle.std.proofs.lemmas.List.{map-append}
use Rattle.std.proofs.lemmas.List.Elements.{filter_map-append}
use Rattle.vq_model.specs.declared.script.Script.{Script}
use Rattle.vq_model.specs.declared.script.Buffer.{Buffer}
use Rattle.vq_model.specs.declared.script.Semaphore.{Semaphore}
use Rattle.vq_model.specs.declared.script.Queue.{Queue}
use Rattle.vq_model.specs.declared.script.Mark.{Mark}
use Rattle.vq_model.specs.declared.script.CommandLine.{CommandLine}
use Rattle.vq_model.specs.declared.script.Command.{Command}
use Rattle.vq_model.specs.declared.script.Pair.{Pair}
use Rattle.vq_model.specs.ScriptOfLines.{mark, first_of_list}
use Rattle.vq_model.specs.Canonical.{job_words, wait_words, command_words, signal_words, fence_words, fence_lines, step_words}
use Rattle.vq_model.specs.Context.{part_of}
use Rattle.vq_model.specs.Naming.{queue_name}
use Rattle.vq_canonical_laws.proofs.BatchItems.{is_item, AllItems}

-- Statements in the order of a batch's parts

-- what no statement adds
pub none_added : {A : Type 0} (part : Statement → Option A) (test : Statement → Bool) →
    ((s : Statement) → test s ≡ false → part s ≡ None) → (told : List Statement) →
    list_any test told ≡ false → filter_map part told ≡ []
none_added part test none [] h = refl
none_added {A} part test none (s ∷ told) h =
    let no = or_parts (test s) (list_any test told) h in
    (λ i. cons_option (none s no.0 i) (filter_map part told)) ∙ none_added part test none told no.1

no_command : (k : ℕ) → nat_lt k 2 ≡ true → (s : Statement) → nat_lt k (part_of s) ≡ false →
    command_in s ≡ None
no_command k l (AddCommand c) h = absurd (false≢true (sym h ∙ l))
no_command k l s h = refl

no_signal : (k : ℕ) → nat_lt k 3 ≡ true → (s : Statement) → nat_lt k (part_of s) ≡ false →
    signal_in s ≡ None
no_signal k l (AddSignal pair) h = absurd (false≢true (sym h ∙ l))
no_signal k l s h = refl

no_fence : (k : ℕ) → nat_lt k 4 ≡ true → (s : Statement) → nat_lt k (part_of s) ≡ false →
    fence_in s ≡ None
no_fence k l (AddFence f) h = absurd (false≢true (sym h ∙ l))
no_fence k l s h = refl

pub no_second_fence : (s : Statement) → is_batch_fence s ≡ false → fence_in s ≡ None
no_second_fence (AddFence f) h = absurd (false≢true (sym h))
no_second_fence s h = refl

-- Statements' canonical words, one after another.
abbrev pub words_along : Parts → List Statement → List (List (List ℕ))
words_along p [] = []
words_along p (s ∷ statements) = words_at p s ∷ words_along (after p s) statements

-- statements after others
pub words_append : (p q : Parts) (first second : List Statement) → Leads p first q →
    words_along p (first ++ second) ≡ words_along p first ++ words_along q second
words_append p q [] second l = ap (λ (x : Parts). words_along x second) l
words_append p q (s ∷ first) second l =
    ap (λ (ws : List (List (List ℕ))). words_at p s ∷ ws)
    (words_append (after p s) q first second l.1)

-- a chain, cut in two
pub leads_split : (p r : Parts) (first second : List Statement) → Leads p (first ++ second) r →
    (q : Parts) × Leads p first q × Leads q second r
leads_split p r [] second l = (p, refl, l)
leads_split p r (s ∷ first) second l =
    let rest = leads_split (after p s) r first second l.1 in (rest.0, (l.0, rest.1), rest.2)

module _ (v : ℕ) (bs : List Buffer) (ss : List Semaphore) (qs : List Queue) where
  -- the script whose names are written
  abbrev pub whole : Script
  whole = declared_script (declarations v bs ss qs)

  -- lines
  abbrev pub Lines : Type 0
  Lines = List (List (List ℕ))

  -- the lines of waits, commands, signals and a fence
  abbrev pub lines_of : List Mark → List CommandLine → List Mark → List Mark → Lines
  lines_of ws cs ms fs =
      map (wait_words whole) ws
      ++ map (λ c. command_words whole c.command) cs
      ++ map (signal_words whole) ms
      ++ fence_lines whole (first_of_list fs)

  -- the canonical lines of statements
  abbrev pub item_lines : List Statement → Lines
  item_lines told =
      lines_of (filter_map wait_in told) (filter_map command_in told) (filter_map signal_in told)
      (filter_map fence_in told)

  -- one more item of a list behind lines
  grow : {A : Type 0} (front : Lines) (f : A → List (List ℕ)) (xs : List A) (x : A) →
      front ++ map f (xs ++ x ∷ []) ≡ (front ++ map f xs) ++ f x ∷ []
  grow front f xs x =
      ap (λ (ls : Lines). front ++ ls) (map-append f xs (x ∷ []))
      ∙ sym (append_assoc front (map f xs) (f x ∷ []))

  -- lines and nothing
  two_more : (ls : Lines) → (ls ++ []) ++ [] ≡ ls
  two_more ls = append-nil (ls ++ []) ∙ append-nil ls

  three_more : (ls : Lines) → ((ls ++ []) ++ []) ++ [] ≡ ls
  three_more ls = append-nil ((ls ++ []) ++ []) ∙ two_more ls

  -- one line more
  abbrev with_last : List (List ℕ) → Lines → Lines
  with_last l ls = ls ++ l ∷ []

  module _ (told : List Statement) where
    -- what statements add, one statement more
    lists_push : (s : Statement) → item_lines (told ++ s ∷ [])
        ≡ lines_of (filter_map wait_in told ++ filter_map wait_in (s ∷ []))
        (filter_map command_in told ++ filter_map command_in (s ∷ []))
        (filter_map signal_in told ++ filter_map signal_in (s ∷ []))
        (filter_map fence_in told ++ filter_map fence_in (s ∷ []))
    lists_push s = λ i.
        lines_of (filter_map-append wait_in told (s ∷ []) i)
        (filter_map-append command_in told (s ∷ []) i)
        (filter_map-append signal_in told (s ∷ []) i)
        (filter_map-append fence_in told (s ∷ []) i)

    -- the items so far
    abbrev told_waits : List Mark
    told_waits = filter_map wait_in told

    abbrev told_commands : List CommandLine
    told_commands = filter_map command_in told

    abbrev told_signals : List Mark
    told_signals = filter_map signal_in told

    -- no command, no signal, no fence
    commands_none : (k : ℕ) → nat_lt k 2 ≡ true →
        list_any (λ x. nat_lt k (part_of x)) told ≡ false → told_commands ≡ []
    commands_none k l h =
        none_added command_in (λ x. nat_lt k (part_of x)) (no_command k l) told h

    signals_none : (k : ℕ) → nat_lt k 3 ≡ true →
        list_any (λ x. nat_lt k (part_of x)) told ≡ false → told_signals ≡ []
    signals_none k l h =
        none_added signal_in (λ x. nat_lt k (part_of x)) (no_signal k l) told h

    fences_none : (k : ℕ) → nat_lt k 4 ≡ true →
        list_any (λ x. nat_lt k (part_of x)) told ≡ false → filter_map fence_in told ≡ []
    fences_none k l h = none_added fence_in (λ x. nat_lt k (part_of x)) (no_fence k l) told h

    -- the lines of waits, of waits and commands, of these and signals
    abbrev wait_lines : Lines
    wait_lines = map (wait_words whole) told_waits

    abbrev command_lines : Lines
    command_lines = wait_lines ++ map (λ y. command_words whole y.command) told_commands

    abbrev signal_lines : Lines
    signal_lines = command_lines ++ map (signal_words whole) told_signals

    -- one more wait
    wait_push : (pair : Pair) (from : ℕ) → list_any (λ x. nat_lt 1 (part_of x)) told ≡ false →
        item_lines (told ++ AddWait pair from ∷ [])
        ≡ item_lines told ++ wait_words whole (mark 0 pair from) ∷ []
    wait_push pair from h =
        let nc = commands_none 1 refl h in
        let ns = signals_none 1 refl h in
        let nf = fences_none 1 refl h in
        let m = mark 0 pair from in
        lists_push (AddWait pair from)
        ∙ ((λ i. lines_of (told_waits ++ m ∷ []) (nc i ++ []) (ns i ++ []) (nf i ++ []))
        ∙ (three_more (map (wait_words whole) (told_waits ++ m ∷ []))
        ∙ (grow [] (wait_words whole) told_waits m
        ∙ ap (with_last (wait_words whole m))
        (sym ((λ i. lines_of told_waits (nc i) (ns i) (nf i)) ∙ three_more wait_lines)))))

    -- one more command
    command_push : (c : Command) → list_any (λ x. nat_lt 2 (part_of x)) told ≡ false →
        item_lines (told ++ AddCommand c ∷ []) ≡ item_lines told ++ command_words whole c ∷ []
    command_push c h =
        let ns = signals_none 2 refl h in
        let nf = fences_none 2 refl h in
        let x : CommandLine = record { line = 0; command = c } in
        lists_push (AddCommand c)
        ∙ ((λ i. lines_of (append-nil told_waits i) (told_commands ++ x ∷ []) (ns i ++ [])
        (nf i ++ []))
        ∙ (two_more (wait_lines
        ++ map (λ y. command_words whole y.command) (told_commands ++ x ∷ []))
        ∙ (grow wait_lines (λ y. command_words whole y.command) told_commands x
        ∙ ap (with_last (command_words whole c))
        (sym ((λ i. lines_of told_waits told_commands (ns i) (nf i))
        ∙ two_more command_lines)))))

    -- one more signal
    signal_push : (pair : Pair) → list_any (λ x. nat_lt 3 (part_of x)) told ≡ false →
        item_lines (told ++ AddSignal pair ∷ [])
        ≡ item_lines told ++ signal_words whole (mark 0 pair 1) ∷ []
    signal_push pair h =
        let nf = fences_none 3 refl h in
        let m = mark 0 pair 1 in
        lists_push (AddSignal pair)
        ∙ ((λ i. lines_of (append-nil told_waits i) (append-nil told_commands i)
        (told_signals ++ m ∷ []) (nf i ++ []))
        ∙ (append-nil (command_lines ++ map (signal_words whole) (told_signals ++ m ∷ []))
        ∙ (grow command_lines (signal_words whole) told_signals m
        ∙ ap (with_last (signal_words whole m))
        (sym ((λ i. lines_of told_waits told_commands told_signals (nf i))
        ∙ append-nil signal_lines)))))

    -- the fence
    fence_push : (f : ℕ) → list_any is_batch_fence told ≡ false →
        item_lines (told ++ AddFence f ∷ [])
        ≡ item_lines told
        ++ fence_words whole (mark 0 (record { semaphore = f; value = 0 }) 1) ∷ []
    fence_push f h =
        let nf = none_added fence_in is_batch_fence no_second_fence told h in
        let m = mark 0 (record { semaphore = f; value = 0 }) 1 in
        lists_push (AddFence f)
        ∙ ((λ i. lines_of (append-nil told_waits i) (append-nil told_commands i)
        (append-nil told_signals i) (nf i ++ m ∷ []))
        ∙ ap (with_last (fence_words whole m))
        (sym ((λ i. lines_of told_waits told_commands told_signals (nf i))
        ∙ append-nil signal_lines)))

  -- the line after a batch's items
  abbrev pub end_line : Lines
  end_line = (codes "end" ∷ []) ∷ []

  -- The rest of a batch leads out of it, and its lines are the canonical ones.
  pub record IsAlong (jobs : List ToldJob) (q : ℕ) (told rest : List Statement) (r : Parts)
      : Type 0 where
    pub more : List ToldJob
    pub ends : r ≡ parts v bs ss qs more None
    pub lines : item_lines (told ++ rest) ++ end_line
        ≡ item_lines told
        ++ words_along (parts v bs ss qs jobs (Some (q, told))) (rest ++ EndBatch ∷ [])

  -- one line of it
  along_step : (jobs : List ToldJob) (q : ℕ) (told rest : List Statement) (s : Statement)
      (w : List (List ℕ)) (r : Parts) → IsAlong jobs q (told ++ s ∷ []) rest r →
      item_lines (told ++ s ∷ []) ≡ item_lines told ++ w ∷ [] →
      words_along (parts v bs ss qs jobs (Some (q, told))) (s ∷ rest ++ EndBatch ∷ [])
      ≡ w ∷ words_along (parts v bs ss qs jobs (Some (q, told ++ s ∷ []))) (rest ++ EndBatch ∷ []) →
      IsAlong jobs q told (s ∷ rest) r
  along_step jobs q told rest s w r a e f =
      let ws = words_along (parts v bs ss qs jobs (Some (q, told ++ s ∷ []))) (rest ++ EndBatch ∷ []) in
      record {
        more = a.more;
        ends = a.ends;
        lines =
            ap (λ (xs : List Statement). item_lines xs ++ end_line)
            (sym (append_assoc told (s ∷ []) rest))
            ∙ (a.lines
            ∙ (ap (λ (ls : Lines). ls ++ ws) e
            ∙ (append_assoc (item_lines told) (w ∷ []) ws
            ∙ ap (λ (ls : Lines). item_lines told ++ ls) (sym f))));
      }

  -- what an item finds told
  told_is : (jobs : List ToldJob) (q : ℕ) (told : List Statement) (s : Statement)
      (m : MayItem (parts v bs ss qs jobs (Some (q, told))) s) → m.told ≡ (q, told)
  told_is jobs q told s m = same_told m.told (q, told) (sym m.inside)
    where
      same_told : (a b : Told) → Some a ≡ Some b → a ≡ b
      same_told a b e = cc

  -- the rest of a batch
  pub items_along : (jobs : List ToldJob) (q : ℕ) (told rest : List Statement) (r : Parts) →
      list_all is_item rest ≡ true →
      Leads (parts v bs ss qs jobs (Some (q, told))) (rest ++ EndBatch ∷ []) r →
      IsAlong jobs q told rest r
  items_along jobs q told [] r a l =
      record {
        more = jobs ++ ToldBatch (q, told) ∷ [];
        ends = sym l.1;
        lines = ap (λ (xs : List Statement). item_lines xs ++ end_line) (append-nil told);
      }
  items_along jobs q told (AddWait pair from ∷ rest) r a l =
      let h = subst (λ (t : Told). list_any (λ x. nat_lt 1 (part_of x)) t.1 ≡ false)
      (told_is jobs q told (AddWait pair from) l.0) l.0.in_order in
      along_step jobs q told rest (AddWait pair from) (wait_words whole (mark 0 pair from)) r
      (items_along jobs q (told ++ AddWait pair from ∷ []) rest r a l.1)
      (wait_push told pair from h) refl
  items_along jobs q told (AddCommand c ∷ rest) r a l =
      let h = subst (λ (t : Told). list_any (λ x. nat_lt 2 (part_of x)) t.1 ≡ false)
      (told_is jobs q told (AddCommand c) l.0) l.0.in_order in
      along_step jobs q told rest (AddCommand c) (command_words whole c) r
      (items_along jobs q (told ++ AddCommand c ∷ []) rest r a l.1) (command_push told c h) refl
  items_along jobs q told (AddSignal pair ∷ rest) r a l =
      let h = subst (λ (t : Told). list_any (λ x. nat_lt 3 (part_of x)) t.1 ≡ false)
      (told_is jobs q told (AddSignal pair) l.0) l.0.in_order in
      along_step jobs q told rest (AddSignal pair) (signal_words whole (mark 0 pair 1)) r
      (items_along jobs q (told ++ AddSignal pair ∷ []) rest r a l.1)
      (signal_push told pair h) refl
  items_along jobs q told (AddFence f ∷ rest) r a l =
      let h = subst (λ (t : Told). list_any is_batch_fence t.1 ≡ false)
      (told_is jobs q told (AddFence f) l.0) l.0.fits.only in
      along_step jobs q told rest (AddFence f)
      (fence_words whole (mark 0 (record { semaphore = f; value = 0 }) 1)) r
      (items_along jobs q (told ++ AddFence f ∷ []) rest r a l.1) (fence_push told f h) refl
  items_along jobs q told (s ∷ rest) r a l = absurd (false≢true a)

  -- Jobs in the canonical order are written in the canonical lines.
  pub jobs_along : (before jobs : List ToldJob) (r : Parts) → AllItems jobs →
      Leads (parts v bs ss qs before None) (flat_map job_statements jobs) r →
      words_along (parts v bs ss qs before None) (flat_map job_statements jobs)
      ≡ flat_map (job_words whole) (map a_job jobs)
  jobs_along before [] r a l = refl
  jobs_along before (ToldStep step ∷ jobs) r a l =
      ap (λ (ls : Lines). (codes "host" ∷ step_words whole step) ∷ ls)
      (jobs_along (before ++ ToldStep step ∷ []) jobs r a l.1)
  jobs_along before (ToldBatch t ∷ jobs) r a l =
      let cut =
      leads_split (parts v bs ss qs before None) r (job_statements (ToldBatch t))
      (flat_map job_statements jobs)
      l in
      let along = items_along before t.0 [] t.1 cut.0 a.0 cut.1.1 in
      words_append (parts v bs ss qs before None) cut.0 (job_statements (ToldBatch t))
      (flat_map job_statements jobs) cut.1
      ∙ (λ i.
      ap (λ (ls : Lines). (codes "submit" ∷ queue_name whole t.0 ∷ []) ∷ ls) (sym along.lines) i
      ++ (ap (λ (x : Parts). words_along x (flat_map job_statements jobs)) along.ends
      ∙ jobs_along along.more jobs r a.1
      (subst (λ (x : Parts). Leads x (flat_map job_statements jobs) r) along.ends cut.2)) i)
