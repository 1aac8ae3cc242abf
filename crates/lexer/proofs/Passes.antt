-- Read by read: the tokens of the reads before the place are added, and the reads from it on are left.
use mathlib.Core.Path.{◌≡◌, refl, sym, ap, ◌∙◌, subst}
use mathlib.Core.List.{List, [], ◌∷◌, ◌++◌, append_assoc, append-nil}
use mathlib.Core.Option.{none}
use Prim.Native.Nat.{ℕ, ◌-◌, ◌≤◌, ◌<◌}
use native.Mathlib.Omega.{arith}
use lib.ListN.{length}
use Rattle.lexer.specs.declared.Listing as code
use Rattle.lexer.specs.declared.table.Listed.{Listed}
use Rattle.tokens.specs.Lexeme.{Lexeme}
use Rattle.tokens.specs.Table.{count_others}
use Rattle.lexing.specs.Rules.{byte_at, read_at, token_row_at}
use Rattle.lexer.specs.Lookup.{token_row}
use Rattle.lexer.specs.Listing.{Reads, behind, reads_to, listing, listed_to}
use Rattle.lexer.specs.Coded.{listed, with_found, row_in, Placed, Added, AddedRead}
use Rattle.lexing.proofs.Moves.{read-moves, byte_at_sound}
use Rattle.lexer.proofs.Adding.{added_none, added-found, added_more}
use Rattle.lexer.proofs.Stops.{stopped, step}

-- reads with other tokens in front
abbrev after : List Lexeme → Reads → Reads
after ts q = record { list = ts ++ q.list; next = q.next; row = q.row }

module _ (stop : ℕ) (text : List ℕ) (from : ℕ) (before : List ℕ) where
  -- what stands when a place is reached
  pub record Listing (p : Listed) (table : List ℕ) : Type 0 where
    pub done : List Lexeme
    pub reads-are : reads_to stop text none from ≡ after done (reads_to stop text (row_in p.found) p.next)
    pub added : Added done p.next (listed 0 0 from p.found) before p table
    pub size : length table ≡ length before
    pub fewer : p.all ≤ p.next
    pub few : p.spaces ≤ p.all

  pub listing_start : Listing (listed 0 0 from 0) before
  unfolding row_in
  listing_start =
      record {
        done = [];
        reads-are = refl;
        added = added_none (listed 0 0 from 0) before;
        size = refl;
        fewer = omega arith;
        few = omega arith;
      }

  module _ (p : Listed) (table : List ℕ) (w : Listing p table) where
    pub listing_end : stop ≤ p.next
        → ◌≡◌ {A = code.Listing × List ℕ} (listing p.all (p.all - p.spaces) p.next (token_row (row_in p.found)), table) (listed_to stop text from before)
    unfolding listed_to
    listing_end h =
        let row = row_in p.found in
        let e : reads_to stop text none from ≡ record { list = w.done; next = p.next; row = row } =
        w.reads-are ∙ ap (after w.done) (stopped stop text row p.next h) ∙ ap (λ (ts : List Lexeme). record { list = ts; next = p.next; row = row }) (append-nil w.done) in
        let m : p.all ≡ length w.done = omega (arith, w.added.all_are) in
        let n : p.all - p.spaces ≡ count_others w.done = omega (arith, w.added.all_are, w.added.spaces-are) in
        rw (n, m, w.added.words_are) (sym (rw (e, listed_to)))

    module _ (short : length text ≤ 4096) (l : stop ≤ length text) (h : p.next < stop) where
      pub listing_placed : Placed text p
      listing_placed = record { short = short; inside = omega arith; fewer = w.fewer; few = w.few }

      module _ (r : Listed) (table' : List ℕ) (a : AddedRead (read_at byte_at text p.next) (with_found p r.found) table r table') where
        pub listing_on : p.next < r.next
        listing_on = omega (arith, a.next-is, (read-moves byte_at_sound text p.next (omega arith)).on)

        pub listing_next : row_in r.found ≡ token_row_at text p.next → length table' ≡ length table → Listing r table'
        listing_next f z =
            let q = read_at byte_at text p.next in
            let ts = q.first ∷ q.waiting in
            let m = read-moves byte_at_sound text p.next (omega arith) in
            let rest = reads_to stop text (row_in r.found) r.next in
            let e : reads_to stop text (row_in p.found) p.next ≡ behind q rest =
            step stop text l (row_in p.found) p.next h ∙ (λ i. behind q (reads_to stop text (sym f i) (sym a.next-is i))) in
            record {
              done = w.done ++ ts;
              reads-are = w.reads-are ∙ ap (after w.done) e
                  ∙ ap (λ (us : List Lexeme). record { list = us; next = rest.next; row = rest.row }) (sym (append_assoc w.done ts rest.list));
              added = subst (λ (k : ℕ). Added (w.done ++ ts) k (listed 0 0 from r.found) before r table') (sym a.next-is)
                  (added_more (added-found r.found w.added) a);
              size = z ∙ w.size;
              fewer = omega (arith, a.all_are, a.next-is, m.fewer, w.fewer);
              few = omega (arith, a.all_are, a.spaces-are, w.few);
            }
