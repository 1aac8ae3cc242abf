-- The open brackets while they are matched: the close field of each holds the number behind the open bracket around it, or 0.
use Rattle.std.specs.Prelude.{ℕ, zero, suc, ◌+◌, ◌<◌, ◌≡◌, List, [], ◌∷◌, ◌++◌, drop}
use Rattle.tokens.specs.Lexeme.{Lexeme}
use Rattle.tokens.specs.Table.{count_others}
use Rattle.records.specs.Record.{record_words, after_close, with_close, with_sep}
use Rattle.entries.specs.Prepared.{work_words}

-- the open brackets below number b, last first, by the close fields c; and the number behind the last, or 0
pub data Chain (c : ℕ → ℕ) : ℕ → List ℕ → ℕ → Type 0 where
  none : {b : ℕ} → Chain c b [] zero
  more : {b s : ℕ} {st : List ℕ} → s < b → Chain c s st (c s) → Chain c b (s ∷ st) (suc s)

-- the close fields of the open brackets cleared
abbrev pub clear_all : List ℕ → List ℕ → List ℕ
clear_all [] K = K
clear_all (s ∷ st) K = clear_all st (with_close K s 0)

-- One entry more, i, of this kind: the work words K become L, and the number behind the last open bracket becomes r.
pub data Link (i kind top : ℕ) (K L : List ℕ) (r : ℕ) : Type 0 where
  opens : kind ≡ 20 → L ≡ with_close K i top → r ≡ i + 1 → Link i kind top K L r
  closes : (o : ℕ) → kind ≡ 21 → top ≡ o + 1 → L ≡ with_close K o (i + 1) → r ≡ after_close K o → Link i kind top K L r
  parts : (o : ℕ) → kind ≡ 3 → top ≡ o + 1 → L ≡ with_sep K o 1 → r ≡ top → Link i kind top K L r
  alone : (kind ≡ 20 → ⊥) → top ≡ 0 → L ≡ K → r ≡ top → Link i kind top K L r
  passes : (kind ≡ 20 → ⊥) → (kind ≡ 21 → ⊥) → (kind ≡ 3 → ⊥) → L ≡ K → r ≡ top → Link i kind top K L r

-- some brackets are open, the last of them before number `top`
pub record Opened (K : List ℕ) (top : ℕ) : Type 0 where
  pub stack : List ℕ
  pub chain : Chain (after_close K) top stack top

-- the records of a list's entries, but for the brackets that are still open; J are the work words before
pub record Filled (ts : List Lexeme) (J K : List ℕ) (top : ℕ) : Type 0 where
  pub stack : List ℕ
  pub chain : Chain (after_close K) (count_others ts) stack top
  pub words : clear_all stack K ≡ work_words ts ++ drop (record_words (count_others ts)) J
