-- The tokens of a derived list: where they stand among the entries, what they begin with, and that none is a Sep.
use Prim.Native.Nat.{ℕ, zero, suc, ◌≤◌, ◌<◌}
use mathlib.Core.Path.{◌≡◌, refl, sym, ap, ◌∙◌, subst}
use mathlib.Core.List.{List, [], ◌∷◌, ◌++◌, map}
use mathlib.Core.Option.{Option, none, some}
use mathlib.Core.Bool.{Bool, true, false, and-false}
use native.Mathlib.Omega.{arith}
use lib.ListN.{length, drop, get_elem?}
use Rattle.tokens.specs.declared.token.SymbolClass.TheVariants as class
use Rattle.tokens.specs.declared.token.Token.{Token}
use Rattle.tokens.specs.declared.token.Token.TheVariants as token
use Rattle.tokens.specs.Lexeme.{Span, Lexeme}
use Rattle.tree.specs.Tree.{nowhere, Atom}
use Rattle.reading.specs.Stop.{Stop}
use Rattle.reading.specs.Entries.{Entry, is, entries, has_sep}
use Rattle.grammar.specs.Grammar.{Constant, tok, of_kind, others, S, const, bracketed, unary, binary}
use Rattle.grammar.specs.Grammar.{I, bare, sub, super, subsuper, E, more, fraction, alone}
use Rattle.reading.specs.Reading.{stops, marks_script, heads, begins, is_at, close_of, closes, could_be_matrix}

-- From lists to positions.
abbrev pub lexeme_of : Entry → Lexeme
lexeme_of e = tok e.token e.span

abbrev pub entry_of : Lexeme → Entry
entry_of t = record { token = t.token; span = t.span; space = nowhere }

pub entries-others : (space : Span) (ts : List Lexeme) → map lexeme_of (entries space ts) ≡ others ts
unfolding entries others of_kind
entries-others space [] = refl
entries-others space (t ∷ ts) = go _ refl (λ sp. entries-others sp ts)
  where
    go : (x : Bool) → of_kind token.Space t ≡ x → ((sp : Span) → map lexeme_of (entries sp ts) ≡ others ts) →
        map lexeme_of (entries space (t ∷ ts)) ≡ others (t ∷ ts)
    go true h l = rw (h, entries, others) (l t.span)
    go false h l = rw (h, entries, others) (ap (λ us. t ∷ us) (l nowhere))

-- The token t stands at i.
pub record Tok (es : List Entry) (i : ℕ) (t : Lexeme) : Type 0 where
  pub entry : Entry
  pub there : get_elem? es i ≡ some entry
  pub kind : entry.token ≡ t.token
  pub place : entry.span ≡ t.span

-- The tokens ts stand from i to j.
pub data Stand (es : List Entry) : ℕ → List Lexeme → ℕ → Type 0 where
  done : {i : ℕ} → Stand es i [] i
  next : {i j : ℕ} {t : Lexeme} {ts : List Lexeme} → Tok es i t → Stand es (suc i) ts j → Stand es i (t ∷ ts) j

module _ {es : List Entry} where
  pub tok-inside : {i : ℕ} {t : Lexeme} → Tok es i t → i < length es
  tok-inside {i} h = go es i h.there
    where
      go : (l : List Entry) (k : ℕ) {e : Entry} → get_elem? l k ≡ some e → k < length l
      go [] k h = let z : ◌≡◌ {A = ℕ} 0 1 = cc in absurd (omega arith)
      go (x ∷ l) zero h = omega arith
      go (x ∷ l) (suc k) h = omega (arith, go l k h)

  pub stand-head : {i j : ℕ} {t : Lexeme} {ts : List Lexeme} → Stand es i (t ∷ ts) j → Tok es i t × Stand es (suc i) ts j
  stand-head (next t h) = (t, h)

  pub stand-end : {i j : ℕ} → Stand es i [] j → i ≡ j
  stand-end done = refl

  pub stand-cut : (ss : List Lexeme) {ts : List Lexeme} {i j : ℕ} → Stand es i (ss ++ ts) j →
      (k : ℕ) × Stand es i ss k × Stand es k ts j
  stand-cut [] {i} h = (i, done, h)
  stand-cut (t ∷ ss) h =
      let u = stand-head h in
      let c = stand-cut ss u.1 in
      (c.0, next u.0 c.1, c.2)

  pub stand-up : {ts : List Lexeme} {i j : ℕ} → Stand es i ts j → i ≤ j
  stand-up done = omega arith
  stand-up (next t h) = omega (arith, stand-up h)

  stand-on : (e : Entry) {ts : List Lexeme} {i j : ℕ} → Stand es i ts j → Stand (e ∷ es) (suc i) ts (suc j)
  stand-on e done = done
  stand-on e (next t h) =
      next (record { entry = t.entry; there = t.there; kind = t.kind; place = t.place }) (stand-on e h)

pub stand-all : (es : List Entry) → Stand es 0 (map lexeme_of es) (length es)
stand-all [] = done
stand-all (e ∷ es) = next (record { entry = e; there = refl; kind = refl; place = refl }) (stand-on e (stand-all es))

-- What the readers ask of an entry that is no mark, no head and no Sep; b: whether it begins a simple expression.
abbrev pub Plain : Bool → Entry → Type 0
Plain b e =
    (marks_script e ≡ false) × (is token.Frac e ≡ false) × ((sg : Bool) → heads sg e ≡ false)
    × (is token.Sep e ≡ false) × (begins Stop.none e ≡ b)

abbrev pub bearing : Token → Entry
bearing k = entry_of (tok k nowhere)

pub plain-as : {b : Bool} {k : Token} (e : Entry) → e.token ≡ k → Plain b (bearing k) → Plain b e
unfolding is marks_script heads begins stops
plain-as {b} e h p = subst (λ x. Plain b (record { token = x; span = e.span; space = e.space })) (sym h) p

pub constant_plain : {k : Token} {a : Atom} → Constant k a → Plain true (bearing k)
unfolding is marks_script heads begins stops
constant_plain Constant.number = (refl, refl, and-false, refl, refl)
constant_plain Constant.text = (refl, refl, and-false, refl, refl)
constant_plain Constant.ident = (refl, refl, and-false, refl, refl)
constant_plain Constant.operator = (refl, refl, and-false, refl, refl)
constant_plain (Constant.symbol class.Glyph) = (refl, refl, and-false, refl, refl)
constant_plain (Constant.symbol class.Name) = (refl, refl, and-false, refl, refl)
constant_plain (Constant.symbol class.Joining) = (refl, refl, and-false, refl, refl)
constant_plain (Constant.symbol class.JoiningName) = (refl, refl, and-false, refl, refl)
constant_plain (Constant.symbol class.Leading) = (refl, refl, and-false, refl, refl)
constant_plain (Constant.symbol class.LeadingName) = (refl, refl, and-false, refl, refl)
constant_plain (Constant.symbol class.Space) = (refl, refl, and-false, refl, refl)
constant_plain (Constant.symbol class.Separator) = (refl, refl, and-false, refl, refl)

pub open_plain : Plain true (bearing token.OpenBracket)
unfolding is marks_script heads begins stops
open_plain = (refl, refl, and-false, refl, refl)

pub close-plain : Plain false (bearing token.CloseBracket)
unfolding is marks_script heads begins stops
close-plain = (refl, refl, and-false, refl, refl)

pub unary-plain : Plain true (bearing token.Unary)
unfolding is marks_script heads begins stops
unary-plain = (refl, refl, and-false, refl, refl)

pub binary-plain : Plain true (bearing token.Binary)
unfolding is marks_script heads begins stops
binary-plain = (refl, refl, and-false, refl, refl)

-- What a derived list begins with.
abbrev pub First : List Lexeme → Type 0
First ts = (t : Lexeme) × (us : List Lexeme) × (ts ≡ t ∷ us) × Plain true (bearing t.token)

first_of : {ts us : List Lexeme} (vs : List Lexeme) → ts ≡ us ++ vs → First us → First ts
first_of vs p f = (f.0, f.1 ++ vs, p ∙ ap (λ l. l ++ vs) f.2, f.3)

pub S-first : {ts : List Lexeme} → S ts → First ts
S-first (const sp c p) = (_, _, p, constant_plain c)
S-first (bracketed l d r p) = (_, _, p, open_plain)
S-first (unary sp d p) = (_, _, p, unary-plain)
S-first (binary sp d e p) = (_, _, p, binary-plain)

pub I-first : {ts : List Lexeme} → I ts → First ts
I-first (bare d) = S-first d
I-first (sub d sp e p) = first_of _ p (S-first d)
I-first (super d sp e p) = first_of _ p (S-first d)
I-first (subsuper d sp e sq f p) = first_of _ p (S-first d)

pub E-first : {ts : List Lexeme} → E ts → First ts
E-first (more d e p) = first_of _ p (I-first d)
E-first (fraction d sp e p) = first_of _ p (I-first d)
E-first (alone d) = I-first d

-- A derived list has no Sep, so that no bracket could be a matrix.
pub data NoSep : List Lexeme → Type 0 where
  nil : NoSep []
  cons : {t : Lexeme} {ts : List Lexeme} → is token.Sep (bearing t.token) ≡ false → NoSep ts → NoSep (t ∷ ts)

sep-append : {ss ts : List Lexeme} → NoSep ss → NoSep ts → NoSep (ss ++ ts)
sep-append nil k = k
sep-append (cons h l) k = cons h (sep-append l k)

mutual
  unfolding is

  S-sep : {ts : List Lexeme} → S ts → NoSep ts
  S-sep (const sp c p) = rw p (cons (constant_plain c).3 nil)
  S-sep (bracketed l d r p) = rw p (cons refl (sep-append (E-sep d) (cons refl nil)))
  S-sep (unary sp d p) = rw p (cons refl (S-sep d))
  S-sep (binary sp d e p) = rw p (cons refl (sep-append (S-sep d) (S-sep e)))

  I-sep : {ts : List Lexeme} → I ts → NoSep ts
  I-sep (bare d) = S-sep d
  I-sep (sub d sp e p) = rw p (sep-append (S-sep d) (cons refl (S-sep e)))
  I-sep (super d sp e p) = rw p (sep-append (S-sep d) (cons refl (S-sep e)))
  I-sep (subsuper d sp e sq f p) =
      rw p (sep-append (S-sep d) (cons refl (sep-append (S-sep e) (cons refl (S-sep f)))))

  pub E-sep : {ts : List Lexeme} → E ts → NoSep ts
  E-sep (more d e p) = rw p (sep-append (I-sep d) (E-sep e))
  E-sep (fraction d sp e p) = rw p (sep-append (I-sep d) (cons refl (I-sep e)))
  E-sep (alone d) = I-sep d

sep-drop : (k : ℕ) (es : List Entry) → NoSep (map lexeme_of es) → NoSep (map lexeme_of (drop k es))
sep-drop zero es h = h
sep-drop (suc k) [] h = h
sep-drop (suc k) (e ∷ es) (cons h l) = sep-drop k es l

sep-at : (text : List ℕ) (es : List Entry) → NoSep (map lexeme_of es) → (i : ℕ) → is_at text es (is token.Sep) i ≡ false
unfolding is_at is
sep-at text [] h i = refl
sep-at text (e ∷ es) (cons h l) zero = h
sep-at text (e ∷ es) (cons h l) (suc i) = sep-at text es l i

sep-none : (es : List Entry) → NoSep (map lexeme_of es) → (depth : ℕ) → has_sep depth es ≡ false
unfolding has_sep is
sep-none [] h depth = refl
sep-none (e ∷ es) (cons h l) depth = go _ _ refl refl depth (sep-none es l)
  where
    go : (x y : Bool) → is token.OpenBracket e ≡ x → is token.CloseBracket e ≡ y → (depth : ℕ) →
        ((k : ℕ) → has_sep k es ≡ false) → has_sep depth (e ∷ es) ≡ false
    go true y a b depth n = rw (a, has_sep) (n (suc depth))
    go false true a b zero n = rw (a, has_sep, b)
    go false true a b (suc d) n = rw (a, has_sep, b) (n d)
    go false false a b depth n = rw (a, has_sep, b, c) (n depth)
      where
        c : is token.Sep e ≡ false
        c = h

pub gate_shut : (text : List ℕ) (es : List Entry) → NoSep (map lexeme_of es) → (o : Entry) (i : ℕ) →
    could_be_matrix text es o i ≡ false
unfolding could_be_matrix
gate_shut text es h o i = go _ _ refl refl
  where
    go : (x : Bool) (y : Option ℕ) → is_at text es (is token.OpenBracket) (suc i) ≡ x → close_of text es (suc i) ≡ y →
        could_be_matrix text es o i ≡ false
    go false y a b = rw (a, could_be_matrix)
    go true none a b = rw (a, could_be_matrix, b)
    go true (some c) a b =
        rw (a, could_be_matrix, b, sep-at text es h (suc c), sep-none _ (sep-drop (suc (suc i)) es h) 0)
        (and-false (closes text es o i (suc c)))
