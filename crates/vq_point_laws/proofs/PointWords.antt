-- The word of a point, packed and unpacked.
use Rattle.std.proofs.Common.{◌≡◌, ℕ, ◌+◌, ◌*◌, ◌%◌, ◌^◌, ◌<◌, arith, ◌/◌, true, Bool, false, refl, zero, suc, ◌∙◌, ap, Some, None, cond, sym, subst}
use Rattle.std.specs.Prelude.{nat_lt, ◌==◌, ◌&&◌, ◌||◌}
use Rattle.std.proofs.lemmas.Bool.{eqb-true, or_left}
use Rattle.vq_ground.proofs.Tests.{below_of_test, below_test}
use Rattle.vq_point_laws.specs.PointWord.{bit, PointWord, IsPointWord, pack, parts, unpack}

-- the parts of a packed word, bit by bit
packed_op : (o r s h : ℕ) → o < 2 ^ 32 → r < 2 ^ 16 → s < 2 → h < 2 → (o + 2 ^ 32 * r + 2 ^ 48 * s + 2 ^ 49 * h) % 2 ^ 32 ≡ o
packed_op o r s h a b c d = omega arith

packed_refs : (o r s h : ℕ) → o < 2 ^ 32 → r < 2 ^ 16 → s < 2 → h < 2 → (o + 2 ^ 32 * r + 2 ^ 48 * s + 2 ^ 49 * h) / 2 ^ 32 % 2 ^ 16 ≡ r
packed_refs o r s h a b c d = omega arith

packed_signaled : (o r s h : ℕ) → o < 2 ^ 32 → r < 2 ^ 16 → s < 2 → h < 2 → (o + 2 ^ 32 * r + 2 ^ 48 * s + 2 ^ 49 * h) / 2 ^ 48 % 2 ≡ s
packed_signaled o r s h a b c d = omega arith

packed_held : (o r s h : ℕ) → o < 2 ^ 32 → r < 2 ^ 16 → s < 2 → h < 2 → (o + 2 ^ 32 * r + 2 ^ 48 * s + 2 ^ 49 * h) / 2 ^ 49 % 2 ≡ h
packed_held o r s h a b c d = omega arith

packed_small : (o r s h : ℕ) → o < 2 ^ 32 → r < 2 ^ 16 → s < 2 → h < 2 → o + 2 ^ 32 * r + 2 ^ 48 * s + 2 ^ 49 * h < 2 ^ 50
packed_small o r s h a b c d = omega arith

-- a word below 2 ^ 50 is the sum of its parts
sum_of_parts : (w : ℕ) → w < 2 ^ 50 → w ≡ w % 2 ^ 32 + 2 ^ 32 * (w / 2 ^ 32 % 2 ^ 16) + 2 ^ 48 * (w / 2 ^ 48 % 2) + 2 ^ 49 * (w / 2 ^ 49 % 2)
sum_of_parts w h = omega arith

bit_test : (b : Bool) → (bit b == 1) ≡ b
bit_test true = refl
bit_test false = refl

pub bit_small : (b : Bool) → bit b < 2
bit_small true = omega arith
bit_small false = omega arith

bit_of : (x : ℕ) → x < 2 → bit (x == 1) ≡ x
bit_of zero h = refl
bit_of (suc zero) h = refl
bit_of (suc (suc x)) h = absurd (omega arith)

-- the parts of a packed word are the word's
parts_packed : (w : PointWord) → IsPointWord w → parts (pack w) ≡ w
parts_packed w k = λ i.
    record {
      op = packed_op w.op w.refs (bit w.signaled) (bit w.held) k.op k.refs (bit_small w.signaled) (bit_small w.held) i;
      refs = packed_refs w.op w.refs (bit w.signaled) (bit w.held) k.op k.refs (bit_small w.signaled) (bit_small w.held) i;
      signaled = (ap (λ (x : ℕ). x == 1) (packed_signaled w.op w.refs (bit w.signaled) (bit w.held) k.op k.refs (bit_small w.signaled) (bit_small w.held)) ∙ bit_test w.signaled) i;
      held = (ap (λ (x : ℕ). x == 1) (packed_held w.op w.refs (bit w.signaled) (bit w.held) k.op k.refs (bit_small w.signaled) (bit_small w.held)) ∙ bit_test w.held) i;
    }

-- a word that passes unpacking's test
unpacked : (word : ℕ) → nat_lt word (2 ^ 50) ≡ true → ((word / 2 ^ 49 % 2 == 1) || (word == 0)) ≡ true → unpack word ≡ Some (parts word)
unpacked word small held = ap (λ (b : Bool). cond (b && ((word / 2 ^ 49 % 2 == 1) || (word == 0))) (Some (parts word)) None) small ∙ ap (λ (b : Bool). cond b (Some (parts word)) None) held

-- Unpacking undoes packing.
pub unpack_pack : (w : PointWord) → IsPointWord w → unpack (pack w) ≡ Some w
unpack_pack w k = by_held w.held refl
  where
    by_held : (b : Bool) → w.held ≡ b → unpack (pack w) ≡ Some w
    by_held true e =
        unpacked (pack w) (below_test (pack w) (2 ^ 50) (packed_small w.op w.refs (bit w.signaled) (bit w.held) k.op k.refs (bit_small w.signaled) (bit_small w.held)))
        (or_left (pack w / 2 ^ 49 % 2 == 1) (pack w == 0) (ap (λ (x : PointWord). x.held) (parts_packed w k) ∙ e))
        ∙ ap (λ (x : PointWord). Some x) (parts_packed w k)
    by_held false e =
        subst (λ (x : PointWord). unpack (pack x) ≡ Some x) (sym (k.unheld e)) refl

-- what unpacking's test says
test_parts : (word : ℕ) → (b c : Bool) → (w : PointWord) → cond (b && c) (Some (parts word)) None ≡ Some w → (b ≡ true) × (c ≡ true) × (parts word ≡ w)
test_parts word true true w h = (refl, refl, cc)
test_parts word true false w h = absurd (cc)
test_parts word false c w h = absurd (cc)

or_second : (a b : Bool) → (a || b) ≡ true → a ≡ false → b ≡ true
or_second true b h e = absurd (cc)
or_second false b h e = h

-- Packing undoes unpacking.
pub pack_unpack : (word : ℕ) (w : PointWord) → unpack word ≡ Some w → (pack w ≡ word) × IsPointWord w
pack_unpack word w h = subst (λ (x : PointWord). (pack x ≡ word) × IsPointWord x) same (packs, fits)
  where
    tests : (nat_lt word (2 ^ 50) ≡ true) × (((word / 2 ^ 49 % 2 == 1) || (word == 0)) ≡ true) × (parts word ≡ w)
    tests = test_parts word (nat_lt word (2 ^ 50)) ((word / 2 ^ 49 % 2 == 1) || (word == 0)) w h

    same : parts word ≡ w
    same = tests.2

    small : word < 2 ^ 50
    small = below_of_test word (2 ^ 50) tests.0

    packs : pack (parts word) ≡ word
    packs =
        ap (λ (x : ℕ). word % 2 ^ 32 + 2 ^ 32 * (word / 2 ^ 32 % 2 ^ 16) + 2 ^ 48 * x + 2 ^ 49 * bit (word / 2 ^ 49 % 2 == 1)) (bit_of (word / 2 ^ 48 % 2) (omega arith))
        ∙ ap (λ (x : ℕ). word % 2 ^ 32 + 2 ^ 32 * (word / 2 ^ 32 % 2 ^ 16) + 2 ^ 48 * (word / 2 ^ 48 % 2) + 2 ^ 49 * x) (bit_of (word / 2 ^ 49 % 2) (omega arith))
        ∙ sym (sum_of_parts word small)

    fits : IsPointWord (parts word)
    fits =
        record {
          op = omega arith;
          refs = omega arith;
          unheld = λ e. ap parts (eqb-true word 0 (or_second (word / 2 ^ 49 % 2 == 1) (word == 0) tests.1 e));
        }
