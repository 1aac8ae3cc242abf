-- The spelling table, document 01, src/tokenizer.rs: "Spellings are the ASCII ones of asciimath_spellings: ASCIIMATH_TOKENS
-- without the true minus sign, and `\` alone, Symbol(Joining)". Sorted by bytes; tools/check_spellings.py compares it with
-- tokenizer.rs.
use Rattle.std.specs.Prelude.{List, [], ◌∷◌, ℕ}
use Prim.Native.String.{String}
use Rattle.tokens.specs.Bytes.{bytes}
use Rattle.tokens.specs.declared.token.SymbolClass.TheVariants.{Glyph, Name, Joining, JoiningName, Leading, LeadingName, Space}
use Rattle.tokens.specs.declared.token.Token.{Token}
use Rattle.tokens.specs.declared.token.Token.TheVariants.{Frac, Super, Sub, Sep, Symbol, Sign, Function, Unary, Binary, OpenBracket, CloseBracket, OpenCloseBracket}

-- a row of the table: a spelling's bytes and its token
pub record Row : Type 0 where
  pub spelling : List ℕ
  pub token : Token

abbrev pub row : String → Token → Row
row s t = record { spelling = bytes s; token = t }

unfoldable pub rows : List Row
rows =
    row "!" (Symbol Glyph) ∷
    row "!-=" (Symbol Joining) ∷
    row "!=" (Symbol Joining) ∷
    row "!EE" (Symbol Leading) ∷
    row "!in" (Symbol Joining) ∷
    row "!sub" (Symbol Joining) ∷
    row "!sube" (Symbol Joining) ∷
    row "!sup" (Symbol Joining) ∷
    row "!supe" (Symbol Joining) ∷
    row "%" (Symbol Glyph) ∷
    row "'" (Symbol Glyph) ∷
    row "(" OpenBracket ∷
    row "(:" OpenBracket ∷
    row ")" CloseBracket ∷
    row "*" (Symbol Joining) ∷
    row "**" (Symbol Joining) ∷
    row "***" (Symbol Joining) ∷
    row "+" Sign ∷
    row "+-" Sign ∷
    row "," Sep ∷
    row "-" Sign ∷
    row "-+" Sign ∷
    row "-:" (Symbol Joining) ∷
    row "-<" (Symbol Joining) ∷
    row "-<=" (Symbol Joining) ∷
    row "-=" (Symbol Joining) ∷
    row "->" (Symbol Joining) ∷
    row "->>" (Symbol Joining) ∷
    row "-lt" (Symbol Joining) ∷
    row "..." (Symbol Glyph) ∷
    row "/" Frac ∷
    row "//" (Symbol Joining) ∷
    row "/_" (Symbol Glyph) ∷
    row "/_\\" (Symbol Glyph) ∷
    row ":'" (Symbol Joining) ∷
    row ":)" CloseBracket ∷
    row ":." (Symbol Joining) ∷
    row ":=" (Symbol Joining) ∷
    row ":|" CloseBracket ∷
    row ":|:" (Symbol Joining) ∷
    row ":}" CloseBracket ∷
    row "<" (Symbol Joining) ∷
    row "<-" (Symbol Joining) ∷
    row "<->" (Symbol Joining) ∷
    row "<<" OpenBracket ∷
    row "<=" (Symbol Joining) ∷
    row "<==" (Symbol Joining) ∷
    row "<==>" (Symbol Joining) ∷
    row "<=>" (Symbol Joining) ∷
    row "=" (Symbol Joining) ∷
    row "==>" (Symbol Joining) ∷
    row "=>" (Symbol Joining) ∷
    row ">" (Symbol Joining) ∷
    row ">-" (Symbol Joining) ∷
    row ">-=" (Symbol Joining) ∷
    row ">->" (Symbol Joining) ∷
    row ">->>" (Symbol Joining) ∷
    row "><|" (Symbol Joining) ∷
    row ">=" (Symbol Joining) ∷
    row ">>" CloseBracket ∷
    row "@" (Symbol Joining) ∷
    row "AA" (Symbol Leading) ∷
    row "Abs" Unary ∷
    row "Alpha" (Symbol Glyph) ∷
    row "Arccos" Function ∷
    row "Arcsin" Function ∷
    row "Arctan" Function ∷
    row "Beta" (Symbol Glyph) ∷
    row "CC" (Symbol Glyph) ∷
    row "Chi" (Symbol Glyph) ∷
    row "Cos" Function ∷
    row "Cosh" Function ∷
    row "Cot" Function ∷
    row "Csc" Function ∷
    row "Delta" (Symbol Glyph) ∷
    row "Downarrow" (Symbol Joining) ∷
    row "EE" (Symbol Leading) ∷
    row "Epsi" (Symbol Glyph) ∷
    row "Epsilon" (Symbol Glyph) ∷
    row "Eta" (Symbol Glyph) ∷
    row "Gamma" (Symbol Glyph) ∷
    row "Iota" (Symbol Glyph) ∷
    row "Kappa" (Symbol Glyph) ∷
    row "Lambda" (Symbol Glyph) ∷
    row "Lamda" (Symbol Glyph) ∷
    row "Leftarrow" (Symbol Joining) ∷
    row "Leftrightarrow" (Symbol Joining) ∷
    row "Lim" (Symbol LeadingName) ∷
    row "Ln" Function ∷
    row "Log" Function ∷
    row "Mu" (Symbol Glyph) ∷
    row "NN" (Symbol Glyph) ∷
    row "Nu" (Symbol Glyph) ∷
    row "O/" (Symbol Glyph) ∷
    row "Omega" (Symbol Glyph) ∷
    row "Phi" (Symbol Glyph) ∷
    row "Pi" (Symbol Glyph) ∷
    row "Psi" (Symbol Glyph) ∷
    row "QQ" (Symbol Glyph) ∷
    row "RR" (Symbol Glyph) ∷
    row "Rho" (Symbol Glyph) ∷
    row "Rightarrow" (Symbol Joining) ∷
    row "Sec" Function ∷
    row "Sigma" (Symbol Glyph) ∷
    row "Sin" Function ∷
    row "Sinh" Function ∷
    row "TT" (Symbol Glyph) ∷
    row "Tan" Function ∷
    row "Tanh" Function ∷
    row "Tau" (Symbol Glyph) ∷
    row "Theta" (Symbol Glyph) ∷
    row "Uparrow" (Symbol Joining) ∷
    row "Upsilon" (Symbol Glyph) ∷
    row "Vartheta" (Symbol Glyph) ∷
    row "Xi" (Symbol Glyph) ∷
    row "ZZ" (Symbol Glyph) ∷
    row "Zeta" (Symbol Glyph) ∷
    row "[" OpenBracket ∷
    row "\\" (Symbol Joining) ∷
    row "\\ " (Symbol Space) ∷
    row "\\\\" (Symbol Joining) ∷
    row "]" CloseBracket ∷
    row "^" Super ∷
    row "^^" (Symbol Joining) ∷
    row "^^^" (Symbol Leading) ∷
    row "_" Sub ∷
    row "__|" CloseBracket ∷
    row "_|_" (Symbol Glyph) ∷
    row "abs" Unary ∷
    row "aleph" (Symbol Glyph) ∷
    row "alpha" (Symbol Glyph) ∷
    row "and" (Symbol JoiningName) ∷
    row "angle" (Symbol Glyph) ∷
    row "approx" (Symbol Joining) ∷
    row "arccos" Function ∷
    row "arccot" Function ∷
    row "arccsc" Function ∷
    row "arcsec" Function ∷
    row "arcsin" Function ∷
    row "arctan" Function ∷
    row "ast" (Symbol Joining) ∷
    row "backslash" (Symbol Joining) ∷
    row "bar" Unary ∷
    row "bb" Unary ∷
    row "bbb" Unary ∷
    row "bbcc" Unary ∷
    row "bbfr" Unary ∷
    row "bbit" Unary ∷
    row "bbsf" Unary ∷
    row "bbsfit" Unary ∷
    row "because" (Symbol Joining) ∷
    row "beta" (Symbol Glyph) ∷
    row "bigcap" (Symbol Leading) ∷
    row "bigcup" (Symbol Leading) ∷
    row "bigvee" (Symbol Leading) ∷
    row "bigwedge" (Symbol Leading) ∷
    row "bot" (Symbol Glyph) ∷
    row "bowtie" (Symbol Joining) ∷
    row "cancel" Unary ∷
    row "cap" (Symbol Joining) ∷
    row "cc" Unary ∷
    row "cdot" (Symbol Joining) ∷
    row "cdots" (Symbol Glyph) ∷
    row "ceil" Unary ∷
    row "chi" (Symbol Glyph) ∷
    row "circ" (Symbol Joining) ∷
    row "class" Binary ∷
    row "color" Binary ∷
    row "cong" (Symbol Joining) ∷
    row "cos" Function ∷
    row "cosh" Function ∷
    row "cot" Function ∷
    row "coth" Function ∷
    row "csc" Function ∷
    row "csch" Function ∷
    row "cup" (Symbol Joining) ∷
    row "dArr" (Symbol Joining) ∷
    row "dag" (Symbol Glyph) ∷
    row "dagger" (Symbol Glyph) ∷
    row "darr" (Symbol Joining) ∷
    row "ddag" (Symbol Glyph) ∷
    row "ddagger" (Symbol Glyph) ∷
    row "ddot" Unary ∷
    row "ddots" (Symbol Glyph) ∷
    row "del" (Symbol Glyph) ∷
    row "delta" (Symbol Glyph) ∷
    row "det" Function ∷
    row "diamond" (Symbol Joining) ∷
    row "dim" (Symbol LeadingName) ∷
    row "div" (Symbol Joining) ∷
    row "divide" (Symbol Joining) ∷
    row "dot" Unary ∷
    row "downarrow" (Symbol Joining) ∷
    row "dt" (Symbol Name) ∷
    row "dx" (Symbol Name) ∷
    row "dy" (Symbol Name) ∷
    row "dz" (Symbol Name) ∷
    row "ell" (Symbol Glyph) ∷
    row "emptyset" (Symbol Glyph) ∷
    row "enspace" (Symbol Space) ∷
    row "epsi" (Symbol Glyph) ∷
    row "epsilon" (Symbol Glyph) ∷
    row "equiv" (Symbol Joining) ∷
    row "eta" (Symbol Glyph) ∷
    row "exists" (Symbol Leading) ∷
    row "exp" Function ∷
    row "f" Function ∷
    row "floor" Unary ∷
    row "forall" (Symbol Leading) ∷
    row "fr" Unary ∷
    row "frac" Binary ∷
    row "frown" (Symbol Joining) ∷
    row "g" Function ∷
    row "gamma" (Symbol Glyph) ∷
    row "gcd" Function ∷
    row "ge" (Symbol Joining) ∷
    row "geq" (Symbol Joining) ∷
    row "gg" (Symbol Joining) ∷
    row "glb" (Symbol LeadingName) ∷
    row "grad" (Symbol Glyph) ∷
    row "gt" (Symbol Joining) ∷
    row "gt=" (Symbol Joining) ∷
    row "hArr" (Symbol Joining) ∷
    row "harr" (Symbol Joining) ∷
    row "hat" Unary ∷
    row "hbar" (Symbol Glyph) ∷
    row "id" Binary ∷
    row "if" (Symbol JoiningName) ∷
    row "iff" (Symbol Joining) ∷
    row "iiint" (Symbol Leading) ∷
    row "iint" (Symbol Leading) ∷
    row "implies" (Symbol Joining) ∷
    row "in" (Symbol Joining) ∷
    row "infty" (Symbol Glyph) ∷
    row "int" (Symbol Leading) ∷
    row "iota" (Symbol Glyph) ∷
    row "it" Unary ∷
    row "kappa" (Symbol Glyph) ∷
    row "lArr" (Symbol Joining) ∷
    row "lambda" (Symbol Glyph) ∷
    row "lamda" (Symbol Glyph) ∷
    row "land" (Symbol Joining) ∷
    row "langle" OpenBracket ∷
    row "larr" (Symbol Joining) ∷
    row "lceiling" OpenBracket ∷
    row "lcm" Function ∷
    row "ldots" (Symbol Glyph) ∷
    row "le" (Symbol Joining) ∷
    row "left(" OpenBracket ∷
    row "left[" OpenBracket ∷
    row "leftarrow" (Symbol Joining) ∷
    row "leftrightarrow" (Symbol Joining) ∷
    row "leq" (Symbol Joining) ∷
    row "lfloor" OpenBracket ∷
    row "lim" (Symbol LeadingName) ∷
    row "ll" (Symbol Joining) ∷
    row "ln" Function ∷
    row "log" Function ∷
    row "lor" (Symbol Joining) ∷
    row "lt" (Symbol Joining) ∷
    row "lt=" (Symbol Joining) ∷
    row "ltimes" (Symbol Joining) ∷
    row "lub" (Symbol LeadingName) ∷
    row "mapsto" (Symbol Joining) ∷
    row "mathbb" Unary ∷
    row "mathbf" Unary ∷
    row "mathcal" Unary ∷
    row "mathfrak" Unary ∷
    row "mathit" Unary ∷
    row "mathsf" Unary ∷
    row "mathtt" Unary ∷
    row "max" (Symbol LeadingName) ∷
    row "mbox" Unary ∷
    row "mgt" (Symbol Joining) ∷
    row "min" (Symbol LeadingName) ∷
    row "mlt" (Symbol Joining) ∷
    row "mod" (Symbol JoiningName) ∷
    row "models" (Symbol Joining) ∷
    row "mp" Sign ∷
    row "mu" (Symbol Glyph) ∷
    row "nabla" (Symbol Glyph) ∷
    row "ne" (Symbol Joining) ∷
    row "neg" (Symbol Leading) ∷
    row "nn" (Symbol Joining) ∷
    row "nnn" (Symbol Leading) ∷
    row "norm" Unary ∷
    row "not" (Symbol Leading) ∷
    row "notequiv" (Symbol Joining) ∷
    row "notexists" (Symbol Leading) ∷
    row "notin" (Symbol Joining) ∷
    row "notsubset" (Symbol Joining) ∷
    row "notsubseteq" (Symbol Joining) ∷
    row "notsupset" (Symbol Joining) ∷
    row "notsupseteq" (Symbol Joining) ∷
    row "nsub" (Symbol Joining) ∷
    row "nsubseteq" (Symbol Joining) ∷
    row "nsup" (Symbol Joining) ∷
    row "nsupseteq" (Symbol Joining) ∷
    row "nu" (Symbol Glyph) ∷
    row "o+" (Symbol Joining) ∷
    row "o-" (Symbol Joining) ∷
    row "o." (Symbol Joining) ∷
    row "obrace" Unary ∷
    row "odot" (Symbol Joining) ∷
    row "oiiint" (Symbol Leading) ∷
    row "oiint" (Symbol Leading) ∷
    row "oint" (Symbol Leading) ∷
    row "omega" (Symbol Glyph) ∷
    row "ominus" (Symbol Joining) ∷
    row "oo" (Symbol Glyph) ∷
    row "oplus" (Symbol Joining) ∷
    row "or" (Symbol JoiningName) ∷
    row "oslash" (Symbol Joining) ∷
    row "otimes" (Symbol Joining) ∷
    row "overarc" Unary ∷
    row "overbrace" Unary ∷
    row "overline" Unary ∷
    row "overparen" Unary ∷
    row "overset" Binary ∷
    row "ox" (Symbol Joining) ∷
    row "partial" (Symbol Glyph) ∷
    row "phi" (Symbol Glyph) ∷
    row "pi" (Symbol Glyph) ∷
    row "pm" Sign ∷
    row "prec" (Symbol Joining) ∷
    row "preceq" (Symbol Joining) ∷
    row "prime" (Symbol Glyph) ∷
    row "prod" (Symbol Leading) ∷
    row "prop" (Symbol Joining) ∷
    row "propto" (Symbol Joining) ∷
    row "psi" (Symbol Glyph) ∷
    row "qquad" (Symbol Space) ∷
    row "quad" (Symbol Space) ∷
    row "rArr" (Symbol Joining) ∷
    row "rangle" CloseBracket ∷
    row "rarr" (Symbol Joining) ∷
    row "rceiling" CloseBracket ∷
    row "rfloor" CloseBracket ∷
    row "rho" (Symbol Glyph) ∷
    row "right)" CloseBracket ∷
    row "right]" CloseBracket ∷
    row "rightarrow" (Symbol Joining) ∷
    row "rightarrowtail" (Symbol Joining) ∷
    row "rightleftharpoons" (Symbol Joining) ∷
    row "root" Binary ∷
    row "rtimes" (Symbol Joining) ∷
    row "sec" Function ∷
    row "sech" Function ∷
    row "setminus" (Symbol Joining) ∷
    row "sf" Unary ∷
    row "sfit" Unary ∷
    row "sigma" (Symbol Glyph) ∷
    row "sim" (Symbol Joining) ∷
    row "sin" Function ∷
    row "sinh" Function ∷
    row "sqrt" Unary ∷
    row "square" (Symbol Glyph) ∷
    row "stackrel" Binary ∷
    row "star" (Symbol Joining) ∷
    row "sub" (Symbol Joining) ∷
    row "sube" (Symbol Joining) ∷
    row "subset" (Symbol Joining) ∷
    row "subseteq" (Symbol Joining) ∷
    row "succ" (Symbol Joining) ∷
    row "succeq" (Symbol Joining) ∷
    row "sum" (Symbol Leading) ∷
    row "sup" (Symbol Joining) ∷
    row "supe" (Symbol Joining) ∷
    row "supset" (Symbol Joining) ∷
    row "supseteq" (Symbol Joining) ∷
    row "tan" Function ∷
    row "tanh" Function ∷
    row "tau" (Symbol Glyph) ∷
    row "text" Unary ∷
    row "therefore" (Symbol Joining) ∷
    row "theta" (Symbol Glyph) ∷
    row "thinspace" (Symbol Space) ∷
    row "tilde" Unary ∷
    row "times" (Symbol Joining) ∷
    row "to" (Symbol Joining) ∷
    row "top" (Symbol Glyph) ∷
    row "triangle" (Symbol Glyph) ∷
    row "tt" Unary ∷
    row "twoheadrightarrow" (Symbol Joining) ∷
    row "twoheadrightarrowtail" (Symbol Joining) ∷
    row "uArr" (Symbol Joining) ∷
    row "uarr" (Symbol Joining) ∷
    row "ubrace" Unary ∷
    row "ul" Unary ∷
    row "underbrace" Unary ∷
    row "underline" Unary ∷
    row "underset" Binary ∷
    row "uparrow" (Symbol Joining) ∷
    row "upsilon" (Symbol Glyph) ∷
    row "uu" (Symbol Joining) ∷
    row "uuu" (Symbol Leading) ∷
    row "varepsilon" (Symbol Glyph) ∷
    row "varkappa" (Symbol Glyph) ∷
    row "varphi" (Symbol Glyph) ∷
    row "varpi" (Symbol Glyph) ∷
    row "varrho" (Symbol Glyph) ∷
    row "vartheta" (Symbol Glyph) ∷
    row "vdash" (Symbol Joining) ∷
    row "vdots" (Symbol Glyph) ∷
    row "vec" Unary ∷
    row "vee" (Symbol Joining) ∷
    row "vv" (Symbol Joining) ∷
    row "vvv" (Symbol Leading) ∷
    row "wedge" (Symbol Joining) ∷
    row "xi" (Symbol Glyph) ∷
    row "xx" (Symbol Joining) ∷
    row "zeta" (Symbol Glyph) ∷
    row "{" OpenBracket ∷
    row "{:" OpenBracket ∷
    row "|" OpenCloseBracket ∷
    row "|--" (Symbol Joining) ∷
    row "|->" (Symbol Joining) ∷
    row "|:" OpenBracket ∷
    row "|==" (Symbol Joining) ∷
    row "|><" (Symbol Joining) ∷
    row "|><|" (Symbol Joining) ∷
    row "|__" OpenBracket ∷
    row "||" OpenCloseBracket ∷
    row "|~" OpenBracket ∷
    row "}" CloseBracket ∷
    row "~" (Symbol Joining) ∷
    row "~=" (Symbol Joining) ∷
    row "~|" CloseBracket ∷
    row "~~" (Symbol Joining) ∷
    []
