-- The theorems about the tokenizer, each in the words of the definitions alone.
use mathlib.Core.Path.{◌≡◌, refl, sym, ◌∙◌, subst}
use mathlib.Core.Bool.{true, false}
use mathlib.Core.List.{List, [], ◌∷◌, ◌++◌}
use mathlib.Core.Option.{none, some}
use Prim.Native.Nat.{ℕ, ◌+◌, ◌≤◌, ◌<◌}
use native.Mathlib.Omega.{arith}
use lib.ListN.{length, get_or, drop}
use Rattle.tokens.specs.declared.token.Token.{Token}
use Rattle.tokens.specs.declared.token.Token.TheVariants.{Space}
use Rattle.tokens.specs.Kinds.{number_of, token_of}
use Rattle.tokens.specs.Lexeme.{Lexeme}
use Rattle.lexing.specs.Spellings.{Row, rows}
use Rattle.lexing.specs.Order.{before, sorted_from}
use Rattle.lexing.specs.Longest.{Numbered, begins, longest_at, number_in, IsRow}
use Rattle.lexing.specs.Rules.{Read, read_at, token_row_at, byte_at, tokens_from, tokens_by, tokens}
use Rattle.tokens.specs.Table.{table_words, token_list}
use Rattle.tokens.specs.Refusals.{text_refusal, list_refusal}
use Rattle.tokens.proofs.Cases.{by_option, clash}
use Rattle.lexing.proofs.Begins.{Found, Answered, answered, begins-self, begins-length}
use Rattle.lexing.proofs.Rows.{rows-length}
use Rattle.lexing.proofs.Order.{sorted, sorted-pair, before-strict, same_place}
use Rattle.lexing.proofs.Moves.{read-moves, byte_at_sound}
use Rattle.lexing.proofs.Tokens.{fuel, count-bound, inside-by, in_order_by}
use Rattle.lexing.proofs.Spaces.{apart_by}
use Rattle.tokens.proofs.Numbers.{number-of_token, token-of_number}
use Rattle.lexing.proofs.Accepted.{accepted-by}
use Rattle.lexing.proofs.Spelled.{is_row, row-looked_up, read-is_row}

-- One read moves on and stays in the text.
pub moves-on : (text : List ℕ) (at : ℕ) → at < length text
    → (at < (read_at byte_at text at).next) × ((read_at byte_at text at).next ≤ length text)
moves-on text at h = let m = read-moves byte_at_sound text at h in (m.on, m.inside)

-- At most three tokens wait.
pub three-wait : (text : List ℕ) (at : ℕ) → at < length text → length (read_at byte_at text at).waiting ≤ 3
three-wait text at h = (read-moves byte_at_sound text at h).three

-- As many reads as bytes are enough: more give the same tokens.
pub reads-enough : (text : List ℕ) (reads : ℕ) → length text ≤ reads → tokens_from byte_at reads text 0 ≡ tokens text
unfolding tokens_by
reads-enough text reads h = fuel byte_at_sound text reads (length text) 0 (omega arith) (omega arith)

-- There are never more tokens than bytes.
pub never-outnumber : (text : List ℕ) → length (tokens text) ≤ length text
never-outnumber text = count-bound byte_at_sound text

module _ (text : List ℕ) (front back : List Lexeme) where
  -- Each token's span lies in the text.
  pub spans-inside : (t : Lexeme) → tokens text ≡ front ++ (t ∷ back) → t.span.start + t.span.len ≤ length text
  spans-inside = inside-by byte_at_sound text front back

  -- Each token starts no earlier than the one before it ends.
  pub in_order : (s t : Lexeme) → tokens text ≡ front ++ (s ∷ t ∷ back) → s.span.start + s.span.len ≤ t.span.start
  in_order = in_order_by byte_at_sound text front back

  -- No Space directly follows a Space.
  pub no_double_space : (s t : Lexeme) → tokens text ≡ front ++ (s ∷ t ∷ back) → s.token ≡ Space → t.token ≡ Space → ⊥
  no_double_space = apart_by byte_at_sound text front back

-- The numbers from 0 to 23 and the tokens are inverse to each other.
pub kinds-inverse : ((n : ℕ) → n < 24 → number_of (token_of n) ≡ n) × ((t : Token) → token_of (number_of t) ≡ t)
kinds-inverse = (number-of_token, token-of_number)

-- The words of a token list give it back, whatever words follow.
pub list-of_words : (ts : List Lexeme) (rest : List ℕ) → token_list (length ts) (table_words ts ++ rest) ≡ ts
unfolding token_list table_words
list-of_words [] rest = refl
list-of_words (t ∷ ts) rest = rw (token-of_number t.token, list-of_words ts rest)

-- The token list of an accepted text is accepted, whatever words follow.
pub accepted-list : (text rest : List ℕ) → text_refusal text ≡ none
    → list_refusal text (length (tokens text)) (table_words (tokens text) ++ rest) ≡ none
accepted-list text rest h = accepted-by byte_at_sound text rest h

-- The whole table is sorted, by one computed test.
pub table-sorted : sorted_from [] rows ≡ true
table-sorted = sorted

-- What the test says of each two of the 429 rows. `d` is any row: it would stand past the table's end.
module _ (d : Row) where
  pub spellings_sorted : (i j : ℕ) → i < j → j < 429 → before (get_or rows i d).spelling (get_or rows j d).spelling ≡ true
  spellings_sorted i j h l = sorted-pair d [] rows sorted i j h (omega (arith, rows-length))

  pub spellings_distinct : (i j : ℕ) → i < j → j < 429 → (get_or rows i d).spelling ≡ (get_or rows j d).spelling → ⊥
  spellings_distinct i j h l e = before-strict (get_or rows j d).spelling (rw e at (spellings_sorted i j h l))

module _ (text : List ℕ) (at : ℕ) where
  -- Where no spelling is found, no row begins the text at the place.
  pub none-begins : longest_at text at ≡ none → (d : Row) (k : ℕ) → k < 429
      → begins (get_or rows k d).spelling (drop at text) ≡ false
  unfolding longest_at
  none-begins e d k h =
      subst (Answered rows 0 (drop at text)) e (answered rows 0 (drop at text)) d k (omega (arith, rows-length))

  module _ (f : Numbered) (e : longest_at text at ≡ some f) where
    found : Found rows 0 (drop at text) f
    unfolding longest_at
    found = subst (Answered rows 0 (drop at text)) e (answered rows 0 (drop at text))

    -- What is found is a row of the table, and begins the text at the place.
    pub longest-begins : (d : Row)
        → (f.number < 429) × (get_or rows f.number d ≡ f.row) × (begins f.row.spelling (drop at text) ≡ true)
    longest-begins d =
        let n : f.number ≡ found.place = omega (arith, found.number_is) in
        (omega (arith, found.inside, rows-length), rw n (found.row_is d), found.fits)

    -- Any row that begins the text there is no longer.
    pub longest-is_longest : (d : Row) (k : ℕ) → k < 429 → begins (get_or rows k d).spelling (drop at text) ≡ true
        → length (get_or rows k d).spelling ≤ length f.row.spelling
    longest-is_longest d k h b = found.longest d k (omega (arith, rows-length)) b

-- Each row is found for its own spelling.
pub own_row : (d : Row) (k : ℕ) → k < 429
    → longest_at (get_or rows k d).spelling 0 ≡ some (record { number = k; row = get_or rows k d })
own_row d k h =
    let s = (get_or rows k d).spelling in
    by_option (longest_at s 0) (λ e. clash (begins s s) (begins-self s) (none-begins s 0 e d k h))
    (λ f e.
    let b = longest-begins s 0 f e d in
    let l = longest-is_longest s 0 f e d k h (begins-self s) in
    let r : get_or rows f.number d ≡ f.row = b.1 in
    let m : length f.row.spelling ≡ length s = omega (arith, begins-length f.row.spelling s b.2) in
    let n : f.number ≡ k =
    same_place d rows sorted s f.number k (omega (arith, rows-length)) (omega (arith, rows-length)) (rw r b.2)
    (begins-self s) (rw r m) in
    e ∙ (λ i. some (record { number = n i; row = sym (rw n at r) i })))

-- The row that is found is the matched text, and its token the row's.
pub found-is_row : (text : List ℕ) (at : ℕ) (f : Numbered) → longest_at text at ≡ some f
    → IsRow text at (length f.row.spelling) f.row.token f.number
found-is_row = is_row

-- The row by which the first token at a place is read is the lookup's there: no spelling begins with a blank, so that the first rule
-- hides none.
pub row-of_read : (text : List ℕ) (at : ℕ) → token_row_at text at ≡ number_in (longest_at text at)
row-of_read = row-looked_up

-- Whatever the fifth rule is, a token that is read by a row starts at the place, and is that row's.
pub read-by_row : (rule5 : List ℕ → ℕ → Read) (text : List ℕ) (at k : ℕ) → token_row_at text at ≡ some k
    → let t = (read_at rule5 text at).first in (t.span.start ≡ at) × IsRow text at t.span.len t.token k
read-by_row rule5 text at k e = read-is_row text at k e rule5
