-- The numbers of the token kinds, document 01, 'Buffers and counts': "Kinds in Token's order from 0, Symbol taking 8 to 15
-- in SymbolClass's order; Sign is 16, Space 23."
use Rattle.std.specs.Prelude.{List, [], ◌∷◌, ℕ, ◌+◌, get_or}
use Rattle.tokens.specs.declared.token.SymbolClass.{SymbolClass}
use Rattle.tokens.specs.declared.token.SymbolClass.TheVariants as class
use Rattle.tokens.specs.declared.token.Token.{Token}
use Rattle.tokens.specs.declared.token.Token.TheVariants.{Frac, Super, Sub, Sep, Number, Text, Ident, Operator, Symbol, Sign, Function, Unary, Binary, OpenBracket, CloseBracket, OpenCloseBracket, Space}

-- the number of a symbol's class: the field `class` of the printed tree
abbrev pub class_number : SymbolClass → ℕ
class_number class.Glyph = 0
class_number class.Name = 1
class_number class.Joining = 2
class_number class.JoiningName = 3
class_number class.Leading = 4
class_number class.LeadingName = 5
class_number class.Space = 6
class_number class.Separator = 7

-- the number of a token
abbrev pub number_of : Token → ℕ
number_of Frac = 0
number_of Super = 1
number_of Sub = 2
number_of Sep = 3
number_of Number = 4
number_of Text = 5
number_of Ident = 6
number_of Operator = 7
number_of (Symbol c) = 8 + class_number c
number_of Sign = 16
number_of Function = 17
number_of Unary = 18
number_of Binary = 19
number_of OpenBracket = 20
number_of CloseBracket = 21
number_of OpenCloseBracket = 22
number_of Space = 23

-- the tokens in the order of their numbers
abbrev pub kinds : List Token
kinds =
    Frac ∷ Super ∷ Sub ∷ Sep ∷ Number ∷ Text ∷ Ident ∷ Operator ∷ Symbol class.Glyph ∷ Symbol class.Name ∷
    Symbol class.Joining ∷ Symbol class.JoiningName ∷ Symbol class.Leading ∷ Symbol class.LeadingName ∷
    Symbol class.Space ∷ Symbol class.Separator ∷ Sign ∷ Function ∷ Unary ∷ Binary ∷ OpenBracket ∷
    CloseBracket ∷ OpenCloseBracket ∷ Space ∷ []

-- the token of a number; above 23, where a list is refused (4), Space
abbrev pub token_of : ℕ → Token
token_of n = get_or kinds n Space
