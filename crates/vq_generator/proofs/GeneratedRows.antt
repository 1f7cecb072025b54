-- The generated script of one round, line by line.
use Rattle.std.proofs.Common.{◌≡◌, ℕ, List, [], ◌∷◌, ◌++◌, map, refl, codes}
use Rattle.std.specs.Fmt.{decimal}
use Rattle.vq_model.specs.Canonical.{canonical_lines}
use Rattle.vq_generator.specs.Generated.{generated_script}

-- the lines of a first round
abbrev Words : Type 0
Words = List (List ℕ)

abbrev buffer : List ℕ → Words
buffer name = codes "buffer" ∷ name ∷ decimal 64 ∷ []

abbrev timeline : List ℕ → Words
timeline name = codes "timeline" ∷ name ∷ decimal 0 ∷ []

abbrev queue : List ℕ → Words
queue name = codes "queue" ∷ name ∷ codes "threaded" ∷ []

abbrev wait : List ℕ → Words
wait name = codes "wait" ∷ name ∷ decimal 0 ∷ []

abbrev copy : List ℕ → List ℕ → Words
copy source target = codes "copy" ∷ source ∷ decimal 0 ∷ target ∷ decimal 0 ∷ decimal 64 ∷ []

abbrev fill : List ℕ → List ℕ → Words
fill target word = codes "fill" ∷ target ∷ decimal 4 ∷ decimal 4 ∷ word ∷ []

abbrev signal : List ℕ → Words
signal name = codes "signal" ∷ name ∷ decimal 1 ∷ []

abbrev submit : List ℕ → Words
submit name = codes "submit" ∷ name ∷ []

abbrev end : Words
end = codes "end" ∷ []

-- The lines of the script of one round.
one_round : canonical_lines (generated_script 1)
    ≡ map buffer
    (codes "B00" ∷ codes "B01" ∷ codes "B10" ∷ codes "B11"
    ∷ codes "B20" ∷ codes "B21" ∷ codes "B30" ∷ codes "B31" ∷ [])
    ++ map timeline (codes "T0" ∷ codes "T1" ∷ codes "T2" ∷ codes "T3" ∷ [])
    ++ map queue (codes "Q0" ∷ codes "Q1" ∷ codes "Q2" ∷ codes "Q3" ∷ [])
    ++ submit (codes "Q0") ∷ wait (codes "T1") ∷ wait (codes "T2") ∷ wait (codes "T3")
    ∷ copy (codes "B10") (codes "B01") ∷ fill (codes "B01") (codes "0x00000004")
    ∷ signal (codes "T0") ∷ end
    ∷ submit (codes "Q1") ∷ wait (codes "T0") ∷ wait (codes "T2") ∷ wait (codes "T3")
    ∷ copy (codes "B20") (codes "B11") ∷ fill (codes "B11") (codes "0x00000005")
    ∷ signal (codes "T1") ∷ end
    ∷ submit (codes "Q2") ∷ wait (codes "T0") ∷ wait (codes "T1") ∷ wait (codes "T3")
    ∷ copy (codes "B30") (codes "B21") ∷ fill (codes "B21") (codes "0x00000006")
    ∷ signal (codes "T2") ∷ end
    ∷ submit (codes "Q3") ∷ wait (codes "T0") ∷ wait (codes "T1") ∷ wait (codes "T2")
    ∷ copy (codes "B00") (codes "B31") ∷ fill (codes "B31") (codes "0x00000007")
    ∷ signal (codes "T3") ∷ end ∷ []
one_round = refl
