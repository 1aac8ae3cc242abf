-- MATHML.md, section 2, the display forms: `unicode` in ASCIIMATH_TOKENS, in the order of the table of spellings. "301 of the 429
-- rows have a form, 806 bytes in all, at most 6 each." Held against tokenizer.rs by tools/check_spellings.py.
use Rattle.std.specs.Prelude.{true, false, List, [], ◌∷◌, ℕ}
use Rattle.std.proofs.Math.Option.{Option, none, some}
use Prim.Native.String.{String}
use Rattle.tokens.specs.Bytes.{bytes, same}
use Rattle.mathml_rules.specs.Utf8.{utf8}

-- a spelling and its display form. None is not empty: `{:` and `:}` have the empty form
pub record Form : Type 0 where
  pub spelling : List ℕ
  pub form : Option (List ℕ)

-- a row without a form, and a row with one
abbrev pub typed : String → Form
typed s = record { spelling = bytes s; form = none }

abbrev pub drawn : String → String → Form
drawn s t = record { spelling = bytes s; form = some (utf8 t) }

unfoldable pub forms : List Form
forms =
    typed "!" ∷
    drawn "!-=" "≢" ∷
    drawn "!=" "≠" ∷
    drawn "!EE" "∄" ∷
    drawn "!in" "∉" ∷
    drawn "!sub" "⊄" ∷
    drawn "!sube" "⊈" ∷
    drawn "!sup" "⊅" ∷
    drawn "!supe" "⊉" ∷
    typed "%" ∷
    drawn "'" "′" ∷
    typed "(" ∷
    drawn "(:" "⟨" ∷
    typed ")" ∷
    drawn "*" "⋅" ∷
    drawn "**" "∗" ∷
    drawn "***" "⋆" ∷
    typed "+" ∷
    drawn "+-" "±" ∷
    typed "," ∷
    typed "-" ∷
    drawn "-+" "∓" ∷
    drawn "-:" "÷" ∷
    drawn "-<" "≺" ∷
    drawn "-<=" "⪯" ∷
    drawn "-=" "≡" ∷
    drawn "->" "→" ∷
    drawn "->>" "↠" ∷
    drawn "-lt" "≺" ∷
    drawn "..." "…" ∷
    typed "/" ∷
    drawn "//" "/" ∷
    drawn "/_" "∠" ∷
    drawn "/_\\" "△" ∷
    drawn ":'" "∵" ∷
    drawn ":)" "⟩" ∷
    drawn ":." "∴" ∷
    typed ":=" ∷
    drawn ":|" "|" ∷
    drawn ":|:" "|" ∷
    drawn ":}" "" ∷
    typed "<" ∷
    drawn "<-" "←" ∷
    drawn "<->" "↔" ∷
    drawn "<<" "⟨" ∷
    drawn "<=" "≤" ∷
    drawn "<==" "⇐" ∷
    drawn "<==>" "⇔" ∷
    drawn "<=>" "⇔" ∷
    typed "=" ∷
    drawn "==>" "⇒" ∷
    drawn "=>" "⇒" ∷
    typed ">" ∷
    drawn ">-" "≻" ∷
    drawn ">-=" "⪰" ∷
    drawn ">->" "↣" ∷
    drawn ">->>" "⤖" ∷
    drawn "><|" "⋊" ∷
    drawn ">=" "≥" ∷
    drawn ">>" "⟩" ∷
    drawn "@" "∘" ∷
    drawn "AA" "∀" ∷
    typed "Abs" ∷
    drawn "Alpha" "Α" ∷
    typed "Arccos" ∷
    typed "Arcsin" ∷
    typed "Arctan" ∷
    drawn "Beta" "Β" ∷
    drawn "CC" "ℂ" ∷
    drawn "Chi" "Χ" ∷
    typed "Cos" ∷
    typed "Cosh" ∷
    typed "Cot" ∷
    typed "Csc" ∷
    drawn "Delta" "Δ" ∷
    drawn "Downarrow" "⇓" ∷
    drawn "EE" "∃" ∷
    drawn "Epsi" "Ε" ∷
    drawn "Epsilon" "Ε" ∷
    drawn "Eta" "Η" ∷
    drawn "Gamma" "Γ" ∷
    drawn "Iota" "Ι" ∷
    drawn "Kappa" "Κ" ∷
    drawn "Lambda" "Λ" ∷
    drawn "Lamda" "Λ" ∷
    drawn "Leftarrow" "⇐" ∷
    drawn "Leftrightarrow" "⇔" ∷
    typed "Lim" ∷
    typed "Ln" ∷
    typed "Log" ∷
    drawn "Mu" "Μ" ∷
    drawn "NN" "ℕ" ∷
    drawn "Nu" "Ν" ∷
    drawn "O/" "∅" ∷
    drawn "Omega" "Ω" ∷
    drawn "Phi" "Φ" ∷
    drawn "Pi" "Π" ∷
    drawn "Psi" "Ψ" ∷
    drawn "QQ" "ℚ" ∷
    drawn "RR" "ℝ" ∷
    drawn "Rho" "Ρ" ∷
    drawn "Rightarrow" "⇒" ∷
    typed "Sec" ∷
    drawn "Sigma" "Σ" ∷
    typed "Sin" ∷
    typed "Sinh" ∷
    drawn "TT" "⊤" ∷
    typed "Tan" ∷
    typed "Tanh" ∷
    drawn "Tau" "Τ" ∷
    drawn "Theta" "Θ" ∷
    drawn "Uparrow" "⇑" ∷
    drawn "Upsilon" "Υ" ∷
    drawn "Vartheta" "ϴ" ∷
    drawn "Xi" "Ξ" ∷
    drawn "ZZ" "ℤ" ∷
    drawn "Zeta" "Ζ" ∷
    typed "[" ∷
    typed "\\" ∷
    drawn "\\ " " " ∷
    drawn "\\\\" "\\" ∷
    typed "]" ∷
    typed "^" ∷
    drawn "^^" "∧" ∷
    drawn "^^^" "⋀" ∷
    typed "_" ∷
    drawn "__|" "⌋" ∷
    drawn "_|_" "⊥" ∷
    typed "abs" ∷
    drawn "aleph" "ℵ" ∷
    drawn "alpha" "α" ∷
    typed "and" ∷
    drawn "angle" "∠" ∷
    drawn "approx" "≈" ∷
    typed "arccos" ∷
    typed "arccot" ∷
    typed "arccsc" ∷
    typed "arcsec" ∷
    typed "arcsin" ∷
    typed "arctan" ∷
    drawn "ast" "∗" ∷
    drawn "backslash" "\\" ∷
    typed "bar" ∷
    typed "bb" ∷
    typed "bbb" ∷
    typed "bbcc" ∷
    typed "bbfr" ∷
    typed "bbit" ∷
    typed "bbsf" ∷
    typed "bbsfit" ∷
    drawn "because" "∵" ∷
    drawn "beta" "β" ∷
    drawn "bigcap" "⋂" ∷
    drawn "bigcup" "⋃" ∷
    drawn "bigvee" "⋁" ∷
    drawn "bigwedge" "⋀" ∷
    drawn "bot" "⊥" ∷
    drawn "bowtie" "⋈" ∷
    typed "cancel" ∷
    drawn "cap" "∩" ∷
    typed "cc" ∷
    drawn "cdot" "⋅" ∷
    drawn "cdots" "⋯" ∷
    typed "ceil" ∷
    drawn "chi" "χ" ∷
    drawn "circ" "∘" ∷
    typed "class" ∷
    typed "color" ∷
    drawn "cong" "≅" ∷
    typed "cos" ∷
    typed "cosh" ∷
    typed "cot" ∷
    typed "coth" ∷
    typed "csc" ∷
    typed "csch" ∷
    drawn "cup" "∪" ∷
    drawn "dArr" "⇓" ∷
    drawn "dag" "†" ∷
    drawn "dagger" "†" ∷
    drawn "darr" "↓" ∷
    drawn "ddag" "‡" ∷
    drawn "ddagger" "‡" ∷
    typed "ddot" ∷
    drawn "ddots" "⋱" ∷
    drawn "del" "∂" ∷
    drawn "delta" "δ" ∷
    typed "det" ∷
    drawn "diamond" "⋄" ∷
    typed "dim" ∷
    drawn "div" "÷" ∷
    drawn "divide" "÷" ∷
    typed "dot" ∷
    drawn "downarrow" "↓" ∷
    typed "dt" ∷
    typed "dx" ∷
    typed "dy" ∷
    typed "dz" ∷
    drawn "ell" "ℓ" ∷
    drawn "emptyset" "∅" ∷
    drawn "enspace" "\u{2002}" ∷
    drawn "epsi" "ε" ∷
    drawn "epsilon" "ε" ∷
    drawn "equiv" "≡" ∷
    drawn "eta" "η" ∷
    drawn "exists" "∃" ∷
    typed "exp" ∷
    typed "f" ∷
    typed "floor" ∷
    drawn "forall" "∀" ∷
    typed "fr" ∷
    typed "frac" ∷
    drawn "frown" "⌢" ∷
    typed "g" ∷
    drawn "gamma" "γ" ∷
    typed "gcd" ∷
    drawn "ge" "≥" ∷
    drawn "geq" "≥" ∷
    drawn "gg" "≫" ∷
    typed "glb" ∷
    drawn "grad" "∇" ∷
    drawn "gt" ">" ∷
    drawn "gt=" "≥" ∷
    drawn "hArr" "⇔" ∷
    drawn "harr" "↔" ∷
    typed "hat" ∷
    drawn "hbar" "ℏ" ∷
    typed "id" ∷
    typed "if" ∷
    drawn "iff" "⇔" ∷
    drawn "iiint" "∭" ∷
    drawn "iint" "∬" ∷
    drawn "implies" "⇒" ∷
    drawn "in" "∈" ∷
    drawn "infty" "∞" ∷
    drawn "int" "∫" ∷
    drawn "iota" "ι" ∷
    typed "it" ∷
    drawn "kappa" "κ" ∷
    drawn "lArr" "⇐" ∷
    drawn "lambda" "λ" ∷
    drawn "lamda" "λ" ∷
    drawn "land" "∧" ∷
    drawn "langle" "⟨" ∷
    drawn "larr" "←" ∷
    drawn "lceiling" "⌈" ∷
    typed "lcm" ∷
    drawn "ldots" "…" ∷
    drawn "le" "≤" ∷
    drawn "left(" "(" ∷
    drawn "left[" "[" ∷
    drawn "leftarrow" "←" ∷
    drawn "leftrightarrow" "↔" ∷
    drawn "leq" "≤" ∷
    drawn "lfloor" "⌊" ∷
    typed "lim" ∷
    drawn "ll" "≪" ∷
    typed "ln" ∷
    typed "log" ∷
    drawn "lor" "∨" ∷
    drawn "lt" "<" ∷
    drawn "lt=" "≤" ∷
    drawn "ltimes" "⋉" ∷
    typed "lub" ∷
    drawn "mapsto" "↦" ∷
    typed "mathbb" ∷
    typed "mathbf" ∷
    typed "mathcal" ∷
    typed "mathfrak" ∷
    typed "mathit" ∷
    typed "mathsf" ∷
    typed "mathtt" ∷
    typed "max" ∷
    typed "mbox" ∷
    drawn "mgt" "≫" ∷
    typed "min" ∷
    drawn "mlt" "≪" ∷
    typed "mod" ∷
    drawn "models" "⊨" ∷
    drawn "mp" "∓" ∷
    drawn "mu" "μ" ∷
    drawn "nabla" "∇" ∷
    drawn "ne" "≠" ∷
    drawn "neg" "¬" ∷
    drawn "nn" "∩" ∷
    drawn "nnn" "⋂" ∷
    typed "norm" ∷
    drawn "not" "¬" ∷
    drawn "notequiv" "≢" ∷
    drawn "notexists" "∄" ∷
    drawn "notin" "∉" ∷
    drawn "notsubset" "⊄" ∷
    drawn "notsubseteq" "⊈" ∷
    drawn "notsupset" "⊅" ∷
    drawn "notsupseteq" "⊉" ∷
    drawn "nsub" "⊄" ∷
    drawn "nsubseteq" "⊈" ∷
    drawn "nsup" "⊅" ∷
    drawn "nsupseteq" "⊉" ∷
    drawn "nu" "ν" ∷
    drawn "o+" "⊕" ∷
    drawn "o-" "⊖" ∷
    drawn "o." "⊙" ∷
    typed "obrace" ∷
    drawn "odot" "⊙" ∷
    drawn "oiiint" "∰" ∷
    drawn "oiint" "∯" ∷
    drawn "oint" "∮" ∷
    drawn "omega" "ω" ∷
    drawn "ominus" "⊖" ∷
    drawn "oo" "∞" ∷
    drawn "oplus" "⊕" ∷
    typed "or" ∷
    drawn "oslash" "⊘" ∷
    drawn "otimes" "⊗" ∷
    typed "overarc" ∷
    typed "overbrace" ∷
    typed "overline" ∷
    typed "overparen" ∷
    typed "overset" ∷
    drawn "ox" "⊗" ∷
    drawn "partial" "∂" ∷
    drawn "phi" "φ" ∷
    drawn "pi" "π" ∷
    drawn "pm" "±" ∷
    drawn "prec" "≺" ∷
    drawn "preceq" "⪯" ∷
    drawn "prime" "′" ∷
    drawn "prod" "∏" ∷
    drawn "prop" "∝" ∷
    drawn "propto" "∝" ∷
    drawn "psi" "ψ" ∷
    drawn "qquad" "\u{2003}\u{2003}" ∷
    drawn "quad" "\u{2003}" ∷
    drawn "rArr" "⇒" ∷
    drawn "rangle" "⟩" ∷
    drawn "rarr" "→" ∷
    drawn "rceiling" "⌉" ∷
    drawn "rfloor" "⌋" ∷
    drawn "rho" "ρ" ∷
    drawn "right)" ")" ∷
    drawn "right]" "]" ∷
    drawn "rightarrow" "→" ∷
    drawn "rightarrowtail" "↣" ∷
    drawn "rightleftharpoons" "⇌" ∷
    typed "root" ∷
    drawn "rtimes" "⋊" ∷
    typed "sec" ∷
    typed "sech" ∷
    drawn "setminus" "\\" ∷
    typed "sf" ∷
    typed "sfit" ∷
    drawn "sigma" "σ" ∷
    drawn "sim" "∼" ∷
    typed "sin" ∷
    typed "sinh" ∷
    typed "sqrt" ∷
    drawn "square" "□" ∷
    typed "stackrel" ∷
    drawn "star" "⋆" ∷
    drawn "sub" "⊂" ∷
    drawn "sube" "⊆" ∷
    drawn "subset" "⊂" ∷
    drawn "subseteq" "⊆" ∷
    drawn "succ" "≻" ∷
    drawn "succeq" "⪰" ∷
    drawn "sum" "∑" ∷
    drawn "sup" "⊃" ∷
    drawn "supe" "⊇" ∷
    drawn "supset" "⊃" ∷
    drawn "supseteq" "⊇" ∷
    typed "tan" ∷
    typed "tanh" ∷
    drawn "tau" "τ" ∷
    typed "text" ∷
    drawn "therefore" "∴" ∷
    drawn "theta" "θ" ∷
    drawn "thinspace" "\u{2009}" ∷
    typed "tilde" ∷
    drawn "times" "×" ∷
    drawn "to" "→" ∷
    drawn "top" "⊤" ∷
    drawn "triangle" "△" ∷
    typed "tt" ∷
    drawn "twoheadrightarrow" "↠" ∷
    drawn "twoheadrightarrowtail" "⤖" ∷
    drawn "uArr" "⇑" ∷
    drawn "uarr" "↑" ∷
    typed "ubrace" ∷
    typed "ul" ∷
    typed "underbrace" ∷
    typed "underline" ∷
    typed "underset" ∷
    drawn "uparrow" "↑" ∷
    drawn "upsilon" "υ" ∷
    drawn "uu" "∪" ∷
    drawn "uuu" "⋃" ∷
    drawn "varepsilon" "ϵ" ∷
    drawn "varkappa" "ϰ" ∷
    drawn "varphi" "ϕ" ∷
    drawn "varpi" "ϖ" ∷
    drawn "varrho" "ϱ" ∷
    drawn "vartheta" "ϑ" ∷
    drawn "vdash" "⊢" ∷
    drawn "vdots" "⋮" ∷
    typed "vec" ∷
    drawn "vee" "∨" ∷
    drawn "vv" "∨" ∷
    drawn "vvv" "⋁" ∷
    drawn "wedge" "∧" ∷
    drawn "xi" "ξ" ∷
    drawn "xx" "×" ∷
    drawn "zeta" "ζ" ∷
    typed "{" ∷
    drawn "{:" "" ∷
    typed "|" ∷
    drawn "|--" "⊢" ∷
    drawn "|->" "↦" ∷
    drawn "|:" "|" ∷
    drawn "|==" "⊨" ∷
    drawn "|><" "⋉" ∷
    drawn "|><|" "⋈" ∷
    drawn "|__" "⌊" ∷
    typed "||" ∷
    drawn "|~" "⌈" ∷
    typed "}" ∷
    drawn "~" "∼" ∷
    drawn "~=" "≅" ∷
    drawn "~|" "⌉" ∷
    drawn "~~" "≈" ∷
    []

-- "shown s: the display form of the row whose spelling is s, if it has one (it may be empty); else s."
abbrev pub form_or : List ℕ → Option (List ℕ) → List ℕ
form_or s none = s
form_or s (some t) = t

unfoldable pub shown_by : List Form → List ℕ → List ℕ
shown_by [] s = s
shown_by (r ∷ rs) s = elim (same r.spelling s) [ true ↦ form_or s r.form | false ↦ shown_by rs s ]

unfoldable pub shown : List ℕ → List ℕ
shown s = shown_by forms s
