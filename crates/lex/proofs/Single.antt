-- A single read, listed into twelve words: they are those of its tokens, and zeros.
use mathlib.Core.Path.{◌≡◌, ap, ◌∙◌}
use mathlib.Core.List.{List, [], ◌∷◌, append-nil}
use mathlib.Core.Option.{Option, none, some}
use Prim.Native.Nat.{ℕ, suc, ◌+◌, ◌-◌, ◌≤◌, ◌<◌, min}
use native.Mathlib.Omega.{arith}
use lib.ListN.{length}
use Rattle.tokens.specs.Lexeme.{Lexeme}
use Rattle.tokens.specs.Table.{table_words, count_others}
use Rattle.tokens.proofs.Cases.{by_option, apart}
use Rattle.tokens.proofs.Numbers.{token-of_number}
use Rattle.lexing.specs.Rules.{Read, byte_at, read_at, token_row_at}
use Rattle.lexing.proofs.Moves.{read-moves, byte_at_sound}
use Rattle.lexer.specs.declared.Listing.{Listing}
use Rattle.std.specs.Prelude.{Result, Ok, Err, Some}
use Rattle.std.specs.Prelude as code
use Rattle.refusals.specs.declared.refusal.Refusal.{Refusal}
use Rattle.refusals.specs.Refusal.{refusal_number, numbered}
use Rattle.lexer.specs.Lookup.{token_row}
use Rattle.lexer.specs.Listing.{behind, reads_to, listing, list_into, listed_to, place_refusal, listed_reads}
use Rattle.lexer.proofs.Into.{into_whole}
use Rattle.lexer.proofs.Stops.{stopped, step}
use Rattle.lex.specs.declared.Lexing.{Lexing}
use Rattle.lex.specs.Lex.{spanned_at, queue_at, lexing_of, lexing, lexed_at}
use Rattle.lex.proofs.Answers.{lex_refused, lex_read}

abbrev pub zeros : List ℕ
zeros = 0 ∷ 0 ∷ 0 ∷ 0 ∷ 0 ∷ 0 ∷ 0 ∷ 0 ∷ 0 ∷ 0 ∷ 0 ∷ 0 ∷ []

-- the answer that the words give
abbrev pub lexing_at : List ℕ → ℕ → ℕ → code.Option ℕ → Lexing
lexing_at words count next row = lexing_of (spanned_at words 0) (queue_at words count) next row

-- the answer of `list_reads` for the tokens of a read
abbrev of_read : Read → Option ℕ → Result Listing ℕ × List ℕ
of_read q row =
    (Ok (listing (suc (length q.waiting)) (count_others (q.first ∷ q.waiting)) q.next (token_row row)), list_into 0 zeros (q.first ∷ q.waiting))

lexing-is : (q : Read) (row : Option ℕ) → length q.waiting ≤ 3
    → lexing_at (list_into 0 zeros (q.first ∷ q.waiting)) (length q.waiting) q.next (token_row row) ≡ lexing q row
unfolding table_words
lexing-is q row h = of q.waiting h
  where
    of : (ts : List Lexeme) → length ts ≤ 3
        → lexing_at (list_into 0 zeros (q.first ∷ ts)) (length ts) q.next (token_row row) ≡ lexing (record { first = q.first; waiting = ts; next = q.next }) row
    of [] l = rw (into_whole zeros (q.first ∷ []) (omega arith)) (simp token-of_number)
    of (t ∷ []) l = rw (into_whole zeros (q.first ∷ t ∷ []) (omega arith)) (simp token-of_number)
    of (t ∷ (u ∷ [])) l = rw (into_whole zeros (q.first ∷ t ∷ u ∷ []) (omega arith)) (simp token-of_number)
    of (t ∷ (u ∷ (v ∷ []))) l = rw (into_whole zeros (q.first ∷ t ∷ u ∷ v ∷ []) (omega arith)) (simp token-of_number)
    of (t ∷ (u ∷ (v ∷ (w ∷ ts)))) l = absurd (omega arith)

single : (text : List ℕ) (at : ℕ) → at < length text
    → reads_to (at + 1) text none at
    ≡ record { list = (read_at byte_at text at).first ∷ (read_at byte_at text at).waiting; next = (read_at byte_at text at).next; row = token_row_at text at }
single text at h =
    let r = read_at byte_at text at in
    let m = (read-moves byte_at_sound text at h).on in
    step (at + 1) text (omega arith) none at (omega arith)
    ∙ ap (behind r) (stopped (at + 1) text (token_row_at text at) r.next (omega arith))
    ∙ ap (λ (ts : List Lexeme). record { list = r.first ∷ ts; next = r.next; row = token_row_at text at }) (append-nil r.waiting)

-- the answer of `list_reads` over one read: the refusal, or the read's tokens
module _ (text : List ℕ) (at stop : ℕ) (r : Result Listing Refusal) (words : List ℕ)
    (e : ◌≡◌ {A = Result Listing ℕ × List ℕ} (numbered r, words) (listed_reads text at stop zeros)) where
  refused-by : (k : ℕ) → place_refusal text at ≡ some k → numbered r ≡ Err k
  unfolding listed_reads
  refused-by k o = ap (λ (q : Result Listing ℕ × List ℕ). q.0) (rw (o, listed_reads) at e)

  pub answer-refused : (k : Refusal) → r ≡ Err k → Err (refusal_number k) ≡ lexed_at text at
  unfolding listed_reads listed_to
  answer-refused k f =
      let z = ap (numbered {T = Listing}) f in
      by_option (place_refusal text at)
      (λ o. let g = ap (λ (q : Result Listing ℕ × List ℕ). q.0) (rw (o, listed_reads) at e) in apart cc)
      (λ j o. let g = refused-by j o in let n : refusal_number k ≡ j = cc in rw n (lex_refused text at j o))

  module _ (l : Listing) (f : r ≡ Ok l) where
    pub accepted : place_refusal text at ≡ none
    accepted =
        let z = ap (numbered {T = Listing}) f in
        by_option (place_refusal text at) (λ o. o) (λ j o. let g = refused-by j o in apart cc)

    module _ (s : stop ≡ at + 1) (h : at < length text) where
      listed : ◌≡◌ {A = Result Listing ℕ × List ℕ} (numbered r, words) (of_read (read_at byte_at text at) (token_row_at text at))
      unfolding listed_reads listed_to
      listed =
          let n : min stop (length text) ≡ at + 1 = omega arith in
          e ∙ rw (accepted, listed_reads) (rw (n, single text at h))

      is_token : l ≡ (let q = read_at byte_at text at in listing (suc (length q.waiting)) (count_others (q.first ∷ q.waiting)) q.next (token_row (token_row_at text at)))
      is_token =
          let z = ap (numbered {T = Listing}) f in
          let g = ap (λ (q : Result Listing ℕ × List ℕ). q.0) listed in
          cc

      count-is : l.all ≡ suc (length (read_at byte_at text at).waiting)
      count-is = ap (λ (k : Listing). k.all) is_token

      pub some-listed : 1 ≤ l.all
      some-listed = omega (arith, count-is)

      pub single-is : Ok (Some (lexing_at words (l.all - 1) l.next l.row)) ≡ lexed_at text at
      single-is =
          let q = read_at byte_at text at in
          let m = (read-moves byte_at_sound text at h).three in
          let w : words ≡ list_into 0 zeros (q.first ∷ q.waiting) = ap (λ (q : Result Listing ℕ × List ℕ). q.1) listed in
          let n : l.all - 1 ≡ length q.waiting = omega (arith, count-is) in
          let k : l.next ≡ q.next = ap (λ (j : Listing). j.next) is_token in
          let t : l.row ≡ token_row (token_row_at text at) = ap (λ (j : Listing). j.row) is_token in
          rw (w, n, k, t) (ap (λ (a : Lexing). Ok (Some a)) (lexing-is q (token_row_at text at) m)) ∙ lex_read text at accepted h
