-- MATHML.md, section 7, 4: "`&` begins only one of the three references; the output is UTF-8." Two readers of bytes, each of which is
-- `home` at the start and must be home at the end (Run.antt).
use Rattle.std.specs.Prelude.{Bool, true, false, ◌&&◌, List, [], ◌∷◌, ℕ, eqb, leb, ltb}
use Rattle.mathml_rules.specs.Utf8.{utf8}

-- The reference behind an `&`: what may still come of each of `lt;`, `gt;`, `amp;`.
pub data Reference : Type 0 where
  home wrong : Reference
  -- behind `&`; then the bytes that must come
  begun : Reference
  due : List ℕ → Reference

unfoldable pub due_or : ℕ → List ℕ → Reference
due_or c [] = Reference.wrong
due_or c (b ∷ []) = elim (eqb c b) [ true ↦ Reference.home | false ↦ Reference.wrong ]
due_or c (b ∷ d ∷ s) = elim (eqb c b) [ true ↦ Reference.due (d ∷ s) | false ↦ Reference.wrong ]

unfoldable pub refer : Reference → ℕ → Reference
refer Reference.home c = elim (eqb c 38) [ true ↦ Reference.begun | false ↦ Reference.home ]
refer Reference.wrong c = Reference.wrong
refer Reference.begun c =
    elim (eqb c 108) [
      | true ↦ Reference.due (utf8 "t;")
      | false ↦
          elim (eqb c 103) [
            | true ↦ Reference.due (utf8 "t;")
            | false ↦
                elim (eqb c 97) [ true ↦ Reference.due (utf8 "mp;") | false ↦ Reference.wrong ]
          ]
    ]
refer (Reference.due s) c = due_or c s

-- UTF-8, of characters of one byte to three, below U+D000: what is still due.
pub data Coding : Type 0 where
  home wrong : Coding
  -- one byte more; two, or two of which the first is at least 160 (a shorter form would do for less)
  one two high : Coding

unfoldable pub between : ℕ → ℕ → ℕ → Bool
between a b c = leb a c && leb c b

unfoldable pub coded : Coding → ℕ → Coding
coded Coding.home c =
    elim (ltb c 128) [
      | true ↦ Coding.home
      | false ↦
          elim (between 194 223 c) [
            | true ↦ Coding.one
            | false ↦
                elim (eqb c 224) [
                  | true ↦ Coding.high
                  | false ↦
                      elim (between 225 236 c) [ true ↦ Coding.two | false ↦ Coding.wrong ]
                ]
          ]
    ]
coded Coding.wrong c = Coding.wrong
coded Coding.one c = elim (between 128 191 c) [ true ↦ Coding.home | false ↦ Coding.wrong ]
coded Coding.two c = elim (between 128 191 c) [ true ↦ Coding.one | false ↦ Coding.wrong ]
coded Coding.high c = elim (between 160 191 c) [ true ↦ Coding.one | false ↦ Coding.wrong ]
