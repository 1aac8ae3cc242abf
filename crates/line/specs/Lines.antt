-- The line of a node from its words: what Print.antt says of a head, by the node's kind and the numbers in its words.
use Rattle.std.specs.Prelude.{cond, ℕ, ◌+◌, List, [], ◌++◌, get_or, eqb}
use Rattle.tokens.specs.Bytes.{bytes}
use Rattle.tree.specs.declared.walk.Opened.{Opened}
use Rattle.tree.specs.Walk.{lines_of}
use Rattle.writer.specs.Decimal.{decimal}
use Rattle.line.specs.Print.{name_of, field, number, commas, newline}

-- depth and name
unfoldable pub start_of : ℕ → ℕ → List ℕ
start_of depth kind = bytes "depth=" ++ (decimal depth ++ field "node" (name_of kind))

-- at and len; missing, simple, cell and frac stand for no token
unfoldable pub left_of : ℕ → ℕ → ℕ → List ℕ
left_of kind start len =
    cond (eqb kind 0) []
    (cond (eqb kind 13) []
    (cond (eqb kind 17) [] (cond (eqb kind 18) [] (number "at" start ++ number "len" len))))

-- a script by its number (docs/LAYOUT.md)
unfoldable pub script_of : ℕ → List ℕ
script_of script =
    field "script"
    (cond (eqb script 0) (bytes "none")
    (cond (eqb script 1) (bytes "sub") (cond (eqb script 2) (bytes "super") (bytes "subsuper"))))

-- the right bracket; what a group adds, and a matrix
unfoldable pub right_of : ℕ → ℕ → List ℕ
right_of start len = number "rat" start ++ number "rlen" len

unfoldable pub group_of : ℕ → ℕ → ℕ → List ℕ
group_of start len items = right_of start len ++ number "items" items

unfoldable pub matrix_of : ℕ → ℕ → ℕ → ℕ → List ℕ → List ℕ
matrix_of start len cols cells lines =
    right_of start len ++ (number "cols" cols ++ (number "cells" cells ++ field "lines" (commas lines)))

-- what the kind adds: symbol, simple, func, group, matrix, cell. `held` is the node's word 3.
unfoldable pub added_by : ℕ → ℕ → ℕ → ℕ → ℕ → ℕ → List ℕ → List ℕ
added_by kind held start len cols count lines =
    cond (eqb kind 7) (number "class" held)
    (cond (eqb kind 13) (script_of held)
    (cond (eqb kind 14) (script_of held)
    (cond (eqb kind 15) (group_of start len count)
    (cond (eqb kind 16) (matrix_of start len cols count lines)
    (cond (eqb kind 17) (number "items" count) [])))))

-- a node's word i
abbrev pub word_of : List ℕ → Opened → ℕ → ℕ
word_of words o i = get_or words (o.head + i) 0

-- what the opened node adds, and its whole line
unfoldable pub added_of : List ℕ → Opened → List ℕ
added_of words o =
    added_by o.kind (word_of words o 3) (word_of words o 4) (word_of words o 5) (word_of words o 6) o.count (lines_of words o)

unfoldable pub line_of : List ℕ → Opened → ℕ → List ℕ
line_of words o depth =
    start_of depth o.kind ++
    (left_of o.kind (word_of words o 1) (word_of words o 2) ++ (added_of words o ++ newline))
