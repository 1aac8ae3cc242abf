-- "Two words a token, 2 × (n + 1) in all, must do for what four did." "For a text or token list that both accept, tree and takes are
-- those of the four-word reader." The calls' definitions (specs/Call.antt) take the words an entry has and use them in refusal 8
-- alone: the reading itself (crates/reading) does not know the work words. With 4 they are the calls of before.
use Prim.Native.Nat.{ℕ, ◌*◌, ◌≤◌}
use mathlib.Core.Path.{◌≡◌, refl, sym, ◌∙◌}
use mathlib.Core.List.{List}
use mathlib.Core.Option.{none}
use native.Mathlib.Omega.{arith}
use lib.ListN.{length}
use Rattle.tokens.specs.Table.{token_list, count_others}
use Rattle.tokens.specs.Refusals.{text_refusal, list_refusal, entry_words, room_refusal, room_refusal_by}
use Rattle.tokens.proofs.Accepted.{met}
use Rattle.tokens.proofs.Cases.{by_option}
use Rattle.lexing.specs.Rules.{tokens}
use Rattle.room.proofs.Lengths.{has_room_lem, room-enough}
use Rattle.parse.specs.Call.{parse_refusal, parse_refusal_by, parse_tokens_refusal, parse_tokens_refusal_by, parsed_text, parsed_text_by, parsed_tokens, parsed_tokens_by}
use Rattle.parse.proofs.Calls.{list-met, list-room, list-taken, text-refused, table-long, none-short, text-read}

-- half the words have room for what four an entry had
room-half : (n work₄ work tree : ℕ) → work₄ ≤ 2 * work → room_refusal_by 4 n work₄ tree ≡ none → room_refusal n work tree ≡ none
room-half n work₄ work tree h p =
    let r = has_room_lem 4 n work₄ tree p in
    room-enough entry_words n work tree (omega (arith, r.0)) r.1

-- The call on a token list.
module _ (text table : List ℕ) (count : ℕ) where
  -- Where both accept, the answer, with takes, and the tree are the same.
  pub half_as_four : (work₄ work tree : List ℕ)
      → parse_tokens_refusal_by 4 text table count (length work₄) (length tree) ≡ none
      → parse_tokens_refusal text table count (length work) (length tree) ≡ none
      → ((parsed_tokens_by 4 text table count work₄ tree).0 ≡ (parsed_tokens text table count work tree).0)
      × ((parsed_tokens_by 4 text table count work₄ tree).2 ≡ (parsed_tokens text table count work tree).2)
  half_as_four work₄ work tree a b =
      rw (list-taken 4 text table count work₄ tree a, list-taken entry_words text table count work tree b) (refl, refl)

  -- What four words an entry accept, half of the buffer accepts, and so the same buffer.
  pub half_accepts : (work₄ work tree : ℕ) → work₄ ≤ 2 * work
      → parse_tokens_refusal_by 4 text table count work₄ tree ≡ none → parse_tokens_refusal text table count work tree ≡ none
  half_accepts work₄ work tree h p =
      by_option (list_refusal text count table)
      (λ ok.
      list-room entry_words text table count work tree ok
      ∙ room-half (count_others (token_list count table)) work₄ work tree h (sym (list-room 4 text table count work₄ tree ok) ∙ p))
      (λ k e. met p (list-met 4 text table count work₄ tree k e))

-- The call on a text.
module _ (text : List ℕ) where
  -- Where both accept, the answer, with takes, the table and the tree are the same.
  pub half_as_four_text : (table work₄ work tree : List ℕ)
      → parse_refusal_by 4 text (length table) (length work₄) (length tree) ≡ none
      → parse_refusal text (length table) (length work) (length tree) ≡ none
      → ((parsed_text_by 4 text table work₄ tree).0 ≡ (parsed_text text table work tree).0)
      × ((parsed_text_by 4 text table work₄ tree).1 ≡ (parsed_text text table work tree).1)
      × ((parsed_text_by 4 text table work₄ tree).3 ≡ (parsed_text text table work tree).3)
  half_as_four_text table work₄ work tree a b =
      rw (text-read 4 text table work₄ tree a, text-read entry_words text table work tree b) (refl, refl, refl)

  pub half_accepts_text : (table work₄ work tree : ℕ) → work₄ ≤ 2 * work
      → parse_refusal_by 4 text table work₄ tree ≡ none → parse_refusal text table work tree ≡ none
  half_accepts_text table work₄ work tree h p =
      by_option (text_refusal text)
      (λ ok.
      let s = none-short 4 text table work₄ tree ok p in
      table-long entry_words text table work tree ok s.0 ∙ room-half (count_others (tokens text)) work₄ work tree h s.1)
      (λ k e. met p (text-refused 4 text table work₄ tree k e))
