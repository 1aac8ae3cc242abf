-- Parser::new over lent words: the records of a list's entries, and what the call answers.
use Rattle.std.specs.Prelude.{ℕ, zero, suc, ◌+◌, ◌*◌, ◌/◌, true, false, cond, List, [], ◌∷◌, ◌++◌, eqb, ltb, length, drop, Result, Ok, Err}
use Rattle.std.proofs.Math.Option.{none, some}
use Rattle.tokens.specs.declared.token.Token.TheVariants as token
use Rattle.tokens.specs.Kinds.{number_of}
use Rattle.tokens.specs.Lexeme.{Lexeme}
use Rattle.tokens.specs.Table.{token_list, count_others}
use Rattle.tree.specs.Tree.{nowhere}
use Rattle.reading.specs.Entries.{Entry, is, entries, close_after, has_sep}
use Rattle.records.specs.Record.{record_words, record_of}

-- the tokens of a list that has the words of tokens alone
abbrev pub all_tokens : List ℕ → List Lexeme
all_tokens words = token_list (length words / 3) words

-- the numbers of the tokens other than Space; i is that of the first token
unfoldable pub places : ℕ → List Lexeme → List ℕ
places i [] = []
places i (t ∷ ts) =
    elim (eqb (number_of t.token) (number_of token.Space)) [ true ↦ places (suc i) ts | false ↦ i ∷ places (suc i) ts ]

-- the entry behind the CloseBracket that closes a bracket before es, `depth` others being closed before it, or 0; i is the
-- number of the first of es
unfoldable pub close_from : ℕ → ℕ → List Entry → ℕ
close_from depth i es = elim (close_after depth es) [ none ↦ 0 | some k ↦ suc (i + k) ]

-- what only an OpenBracket has
unfoldable pub of_bracket : Entry → ℕ → ℕ
of_bracket e w = cond (is token.OpenBracket e) w 0

-- the records of the entries from number i on, at these places
unfoldable pub records : ℕ → List ℕ → List Entry → List ℕ
records i [] es = []
records i (p ∷ ps) [] = []
records i (p ∷ ps) (e ∷ es) =
    record_of p (of_bracket e (close_from zero (suc i) es)) (of_bracket e (cond (has_sep zero es) 1 0)) (records (suc i) ps es)

unfoldable pub work_words : List Lexeme → List ℕ
work_words ts = records zero (places zero ts) (entries nowhere ts)

-- "3 more than 4,096 tokens claimed, or a table with fewer than three words for each"; "8 work too short": "Two words a
-- token, 2 × (n + 1) in all". A refusal changes nothing; words past the records are unchanged.
unfoldable pub prepared : List ℕ → ℕ → List ℕ → Result ℕ ℕ × List ℕ
prepared table count work =
    elim (ltb 4096 count) [
      | true ↦ (Err 3, work)
      | false ↦
          elim (ltb (length table) (3 * count)) [
            | true ↦ (Err 3, work)
            | false ↦
                let ts = token_list count table in
                elim (ltb (length work) (record_words (count_others ts + 1))) [
                  | true ↦ (Err 8, work)
                  | false ↦ (Ok (count_others ts), work_words ts ++ drop (record_words (count_others ts)) work)
                ]
          ]
    ]
