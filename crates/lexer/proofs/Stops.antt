-- The reads from a place on that begin before another: how many are enough.
use mathlib.Core.Path.{◌≡◌, refl, sym, ap, ◌∙◌}
use mathlib.Core.List.{List, []}
use mathlib.Core.Option.{Option}
use Prim.Native.Nat.{ℕ, zero, suc, ◌+◌, ◌≤◌, ◌<◌}
use native.Mathlib.Omega.{arith}
use lib.ListN.{length}
use borrow.Author.Tests.{lt-ltb, le-ltb}
use Rattle.lexing.specs.Rules.{byte_at, read_at, token_row_at}
use Rattle.lexer.specs.Listing.{behind, reads_of, reads_to}
use Rattle.tokens.proofs.Cases.{by_lt}
use Rattle.lexing.proofs.Moves.{read-moves, byte_at_sound}

module _ (stop : ℕ) (text : List ℕ) where
  pub reads_on : (f : ℕ) (row : Option ℕ) (at : ℕ) → at < stop
      → reads_of stop (suc f) text row at ≡ behind (read_at byte_at text at) (reads_of stop f text (token_row_at text at) (read_at byte_at text at).next)
  unfolding reads_of
  reads_on f row at h = rw (lt-ltb at stop h, reads_of)

  pub reads_end : (f : ℕ) (row : Option ℕ) (at : ℕ) → stop ≤ at → reads_of stop f text row at ≡ record { list = []; next = at; row = row }
  unfolding reads_of
  reads_end zero row at h = refl
  reads_end (suc f) row at h = rw (le-ltb at stop h, reads_of)

  pub stopped : (row : Option ℕ) (at : ℕ) → stop ≤ at → reads_to stop text row at ≡ record { list = []; next = at; row = row }
  unfolding reads_to
  stopped row at h = reads_end (length text) row at h

  module _ (l : stop ≤ length text) where
    fuel : (f g : ℕ) (row : Option ℕ) (at : ℕ) → stop ≤ at + f → stop ≤ at + g → reads_of stop f text row at ≡ reads_of stop g text row at
    fuel zero g row at h k = reads_end zero row at (omega arith) ∙ sym (reads_end g row at (omega arith))
    fuel (suc f) zero row at h k = reads_end (suc f) row at (omega arith) ∙ sym (reads_end zero row at (omega arith))
    fuel (suc f) (suc g) row at h k =
        by_lt at stop
        (λ e.
        let m = (read-moves byte_at_sound text at (omega arith)).on in
        reads_on f row at e ∙ ap (behind (read_at byte_at text at)) (fuel f g (token_row_at text at) (read_at byte_at text at).next (omega arith) (omega arith))
        ∙ sym (reads_on g row at e))
        (λ e. reads_end (suc f) row at e ∙ sym (reads_end (suc g) row at e))

    pub step : (row : Option ℕ) (at : ℕ) → at < stop
        → reads_to stop text row at ≡ behind (read_at byte_at text at) (reads_to stop text (token_row_at text at) (read_at byte_at text at).next)
    unfolding reads_to
    step row at h = fuel (length text) (suc (length text)) row at (omega arith) (omega arith) ∙ reads_on (length text) row at h
