-- Chains as lists of operations behind their values.
use Rattle.std.specs.Prelude.{ℕ, List, ◌≡◌, ◌<◌, ◌^◌, ◌==◌, ◌&&◌, ◌||◌, nat_lt}
use Rattle.std.specs.Prelude.{if◌then◌else◌, Option, Some, None, Bool}
use Rattle.std.specs.Prelude.{map, length, filter_map}
use Rattle.std.specs.List.{enumerate_from, slice_get, prefix_len}
use Rattle.std.specs.List.Sorted.{IsPermutation, IsSorted}
use Rattle.std.specs.Option.{option_map, option_map_or}
use Rattle.std.specs.Ordering.{ordering_then, nat_cmp}
use Rattle.std.specs.declared.cmp.Ordering.{Ordering}
use Rattle.vq_model.specs.declared.plan.Op.{Op}
use Rattle.vq_model.specs.declared.script.Script.{Script}
use Rattle.vq_model.specs.Lowering.{plan_of}
use Rattle.vq_model.specs.SameScript.{IsRead}
use Rattle.vq_model.specs.Signals.{value_at, chain_ops}
use Rattle.vq_spec.specs.declared.chains.Chain.{Chain}

-- an operation behind its value, if it is one of the chain
abbrev pub member : ℕ → ℕ × Op → Option (ℕ × ℕ)
member t (e, o) = if o.chain == t then Some (o.value, e) else None

-- the operations of a chain behind their values, in the order of the script
abbrev pub members : List Op → ℕ → List (ℕ × ℕ)
members ops t = filter_map (member t) (enumerate_from 0 ops)

-- by value, and then by number
abbrev pub pair_cmp : ℕ × ℕ → ℕ × ℕ → Ordering
pair_cmp a b = ordering_then (nat_cmp a.0 b.0) (nat_cmp a.1 b.1)

-- a pair is less than another
abbrev pub is_before : ℕ × ℕ → ℕ → ℕ → Bool
is_before pair value op = nat_lt pair.0 value || ((pair.0 == value) && nat_lt pair.1 op)

-- This is the chain of these pairs.
pub record Sorts (pairs : List (ℕ × ℕ)) (c : Chain) : Type 0 where
  pub permutation : IsPermutation pairs c.pairs.items
  pub sorted : IsSorted pair_cmp c.pairs.items
  pub ops : c.ops ≡ map (λ p. p.1) c.pairs.items

-- These are the chains of so many semaphores, sorted.
pub record AreSorted (ops : List Op) (count : ℕ) (chains : List Chain) : Type 0 where
  pub number : length chains ≡ count
  pub each : (t : ℕ) (c : Chain) → slice_get chains t ≡ Some c → Sorts (members ops t) c

-- an operation behind its value
abbrev pub valued : Script → ℕ → ℕ × ℕ
valued s e = (value_at s e, e)

-- the first operation of a chain with at least this value
abbrev pub first_with : List (ℕ × ℕ) → ℕ → Option ℕ
first_with pairs value =
    option_map (λ p. p.1) (slice_get pairs (prefix_len (λ p. nat_lt p.0 value) pairs))

-- the place of an operation in its chain
abbrev pub place_in : List (ℕ × ℕ) → ℕ → ℕ → ℕ
place_in pairs value op = prefix_len (λ p. is_before p value op) pairs

-- A chain can be searched, and its places have 32 bits.
pub record IsSearchable (c : Chain) : Type 0 where
  pub sorted : IsSorted pair_cmp c.pairs.items
  pub few : length c.pairs.items < 2 ^ 32

-- an operation with its place in its chain
abbrev pub placed : List Chain → ℕ × Op → Op
placed chains (e, o) =
    record o {
      index =
          option_map_or (λ c. place_in c.pairs.items o.value e) (slice_get chains o.chain) 0;
    }

-- These are the chains of the plan of a script.
pub record AreChains (s : Script) (chains : List Chain) : Type 0 where
  pub number : length chains ≡ length s.semaphores
  pub ops : (t : ℕ) (c : Chain) → slice_get chains t ≡ Some c → c.ops ≡ chain_ops s t
  pub pairs : (t : ℕ) (c : Chain) → slice_get chains t ≡ Some c →
      c.pairs.items ≡ map (valued s) (chain_ops s t)
  pub sorted : (t : ℕ) (c : Chain) → slice_get chains t ≡ Some c →
      IsSorted pair_cmp c.pairs.items

-- These are the operations and the chains of the plan of a script that was read.
pub record AreParts (s : Script) (lowered : List Op) (sorted : List Chain) : Type 0 where
  pub read : IsRead s
  pub ops : lowered ≡ (plan_of s).ops
  pub chains : AreChains s sorted
