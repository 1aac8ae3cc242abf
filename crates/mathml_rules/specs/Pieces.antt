-- MATHML.md, section 2: "The output is a list of pieces: `start e`, `end e`, `chars bytes`, with the bytes `<` name attributes `>`,
-- `</` name `>`, and esc of the bytes."
use Rattle.std.specs.Prelude.{true, false, List, [], ◌∷◌, ◌++◌, ℕ, eqb}
use Prim.Native.String.{String}
use Rattle.mathml_rules.specs.Utf8.{utf8}
use Rattle.mathml_rules.specs.Elements.{element_of}

-- `start` has the number of an element and what stands behind the table's attributes: nothing but for mtable (section 6)
pub data Piece : Type 0 where
  start : ℕ → List ℕ → Piece
  end : ℕ → Piece
  chars : List ℕ → Piece

-- "esc goes byte by byte: `<` 60 → `&lt;`, `>` 62 → `&gt;`, `&` 38 → `&amp;`; 9, 10, 13, 32 → C2 A0 (no-break space); any other
-- byte itself."
pub record Escape : Type 0 where
  pub byte : ℕ
  pub instead : List ℕ

abbrev pub escape : ℕ → String → Escape
escape b s = record { byte = b; instead = utf8 s }

unfoldable pub escapes : List Escape
escapes =
    escape 60 "&lt;" ∷
    escape 62 "&gt;" ∷
    escape 38 "&amp;" ∷
    escape 9 "\u{a0}" ∷
    escape 10 "\u{a0}" ∷
    escape 13 "\u{a0}" ∷
    escape 32 "\u{a0}" ∷
    []

unfoldable pub escaped_by : List Escape → ℕ → List ℕ
escaped_by [] c = c ∷ []
escaped_by (r ∷ rs) c = elim (eqb c r.byte) [ true ↦ r.instead | false ↦ escaped_by rs c ]

abbrev pub escaped : ℕ → List ℕ
escaped c = escaped_by escapes c

unfoldable pub esc : List ℕ → List ℕ
esc [] = []
esc (c ∷ s) = escaped c ++ esc s

unfoldable pub bytes_of : Piece → List ℕ
bytes_of (Piece.start e more) = 60 ∷ ((element_of e).name ++ ((element_of e).attributes ++ (more ++ (62 ∷ []))))
bytes_of (Piece.end e) = 60 ∷ 47 ∷ ((element_of e).name ++ (62 ∷ []))
bytes_of (Piece.chars s) = esc s

unfoldable pub written : List Piece → List ℕ
written [] = []
written (p ∷ l) = bytes_of p ++ written l

-- "E e x is `start e`, x, `end e`": here with what stands behind the attributes, and without
unfoldable pub within : ℕ → List ℕ → List Piece → List Piece
within e more x = Piece.start e more ∷ (x ++ (Piece.end e ∷ []))

abbrev pub E : ℕ → List Piece → List Piece
E e x = within e [] x

-- "L e s is E e (chars s)."
abbrev pub L : ℕ → List ℕ → List Piece
L e s = E e (Piece.chars s ∷ [])
