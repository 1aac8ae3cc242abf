-- The stepped tokenizer. Document 01: "the tokenizer is offered as a state lent by &mut and stepped, one token a step, holding
-- its place and at most three waiting tokens."
use Rattle.std.specs.Prelude.{Bool, true, false, ◌&&◌, List, [], ◌∷◌, ℕ, zero, suc, ◌+◌, leb, ltb, length, take, Result, Ok, Err, Some, None}
use Rattle.std.specs.Prelude as code
use Rattle.std.proofs.Math.Option.{Option, none, some}
use Rattle.lex.specs.declared.Spanned.{Spanned}
use Rattle.lex.specs.declared.Queue.{Queue}
use Rattle.tokens.specs.Kinds.{number_of}
use Rattle.tokens.specs.Lexeme.{Lexeme, lexeme}
use Rattle.lexing.specs.Rules.{byte_at, read_at}
use Rattle.tokens.specs.Refusals.{text_refusal}
use Rattle.lex.specs.Lex.{queue_of}
use Rattle.stepper.specs.declared.Tokenizer.{Tokenizer}
use Rattle.refusals.specs.declared.refusal.Refusal.{Refusal}
use Rattle.refusals.specs.Refusal.{refusal_number}

-- An answer in the words of document 01: a token by its start, its length and the number of its kind; End; or the number of
-- a refusal.
pub data StepAnswer : Type 0 where
  token : ℕ → ℕ → ℕ → StepAnswer
  end : StepAnswer
  refused : ℕ → StepAnswer

abbrev pub answer_of : Result (code.Option Spanned) Refusal → StepAnswer
answer_of (Ok (Some t)) = token t.start t.len (number_of t.token)
answer_of (Ok None) = end
answer_of (Err r) = refused (refusal_number r)

abbrev pub token_answer : Lexeme → StepAnswer
token_answer t = token t.span.start t.span.len (number_of t.token)

-- a token of the code's struct as a value of the definitions
abbrev pub lexeme_of : Spanned → Lexeme
lexeme_of t = lexeme t.start t.len t.token

-- the tokens that are said to wait; places behind them are not looked at
unfoldable pub waiting : Queue → List Lexeme
waiting q = take q.count (lexeme_of q.first ∷ lexeme_of q.second ∷ lexeme_of q.third ∷ [])

-- the state with a place and tokens that wait, at most three; where none waits, one fixed empty value stands (`no_lexeme`)
abbrev pub state : ℕ → List Lexeme → Tokenizer
state at ts = record { place = at; queued = queue_of ts }

-- at a text's start, with no token waiting
abbrev pub fresh : Tokenizer
fresh = state 0 []

-- the spans lie in a text of `size` bytes
unfoldable pub inside : ℕ → List Lexeme → Bool
inside size [] = true
inside size (t ∷ ts) = leb (t.span.start + t.span.len) size && inside size ts

-- the place and the waiting tokens, at most three, lie in a text of `size` bytes
unfoldable pub fits : ℕ → Tokenizer → Bool
fits size s = leb s.place size && (leb s.queued.count 3 && inside size (waiting s.queued))

-- "For a step: 1, 2, then 5 if the place or a waiting token passes the text or more than three tokens are said to wait."
unfoldable pub step_refusal : List ℕ → Tokenizer → Option ℕ
step_refusal text s =
    elim (text_refusal text) [
      | some k ↦ some k
      | none ↦
          elim (fits (length text) s) [ true ↦ none | false ↦ some 5 ]
    ]

-- One step: the answer, and the state after it. "A refusal carries its number only and changes nothing"; a waiting token is
-- answered as it stands; with none waiting, the first token read at the place is answered, and those behind it wait; "At the
-- text's end, with no token waiting, a step answers End and changes nothing."
unfoldable pub stepped : List ℕ → Tokenizer → StepAnswer × Tokenizer
stepped text s =
    elim (step_refusal text s) [
      | some k ↦ (refused k, s)
      | none ↦
          elim (waiting s.queued) [
            | t ∷ ts ↦ (token_answer t, state s.place ts)
            | [] ↦
                elim (ltb s.place (length text)) [
                  | true ↦
                      let r = read_at byte_at text s.place in
                      (token_answer r.first, state r.next r.waiting)
                  | false ↦ (end, s)
                ]
          ]
    ]

-- the answers of k steps from a state on
unfoldable pub answers : ℕ → List ℕ → Tokenizer → List StepAnswer
unfolding stepped
answers zero text s = []
answers (suc k) text s = (stepped text s).0 ∷ answers k text (stepped text s).1

-- the state after k steps
unfoldable pub after : ℕ → List ℕ → Tokenizer → Tokenizer
unfolding stepped
after zero text s = s
after (suc k) text s = after k text (stepped text s).1

-- the first k of a list's tokens, and End for ever
unfoldable pub then_end : ℕ → List Lexeme → List StepAnswer
then_end zero ts = []
then_end (suc k) [] = end ∷ then_end k []
then_end (suc k) (t ∷ ts) = token_answer t ∷ then_end k ts
