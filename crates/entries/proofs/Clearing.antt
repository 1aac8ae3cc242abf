-- The brackets that are left open, cleared one after the other.
use Prim.Native.Nat.{ℕ, suc, ◌+◌, ◌≤◌, ◌<◌}
use mathlib.Core.Path.{◌≡◌, ◌∙◌}
use mathlib.Core.List.{List}
use native.Mathlib.Omega.{arith}
use native.Mathlib.Numerals.{add-one}
use Rattle.records.specs.Record.{after_close, with_close}
use Rattle.stores.proofs.Stores.{close_other}
use Rattle.entries.specs.Open.{Chain, clear_all}
use Rattle.entries.proofs.Matching.{chain-top, chain-none, chain-kept, Popped, popped}

pub record Clearing (J st K : List ℕ) (top last : ℕ) : Type 0 where
  pub stack : List ℕ
  pub chain : Chain (after_close K) top stack top
  pub words : clear_all stack K ≡ clear_all st J
  pub low : top ≤ last

pub chain-narrow : {c : ℕ → ℕ} {b top : ℕ} {st : List ℕ} → Chain c b st top → Chain c top st top
chain-narrow Chain.none = Chain.none
chain-narrow (Chain.more {s = s} l p) = let k : s < suc s = omega arith in Chain.more k p

module _ {J st K : List ℕ} {top last : ℕ} (q : Clearing J st K top last) where
  pub clearing_done : top ≡ 0 → K ≡ clear_all st J
  clearing_done t = rw (chain-none (rw t at q.chain)) at q.words

  module _ (o : ℕ) (t : top ≡ o + 1) where
    last-open : Popped (after_close K) (suc o) o q.stack
    last-open = popped (rw (t ∙ add-one o) at q.chain)

    pub clearing_low : after_close K o ≤ o
    clearing_low = chain-top last-open.chain

    pub clearing_next : Clearing J st (with_close K o 0) (after_close K o) last
    clearing_next =
        record {
          stack = last-open.rest;
          chain = chain-kept (λ i l. close_other K o 0 i (λ z. omega (arith, clearing_low))) (chain-narrow last-open.chain);
          words = rw last-open.whole at q.words;
          low = omega (arith, clearing_low, q.low);
        }
