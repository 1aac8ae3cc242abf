-- The cursor's moves.
use Rattle.std.specs.Prelude.{ℕ, ◌+◌, ◌%◌, ◌^◌, cond, ltb}
use Rattle.reading_cursor.specs.declared.Cursor.{Cursor}
use Rattle.lookahead.specs.Takes.{taken, looked}

-- past the next token
abbrev pub onward : Cursor → Cursor
onward c = record { pos = c.pos + 1; depth = c.depth; takes = taken c.takes }

-- a look at it
abbrev pub seen : ℕ → Cursor → Cursor
seen n c = record { pos = c.pos; depth = c.depth; takes = looked n c.pos c.takes }

-- past it, if it is there
unfoldable pub passing : ℕ → Cursor → Cursor
passing n c = cond (ltb c.pos n) (onward c) c

-- in the reader within
abbrev pub inner : Cursor → Cursor
inner c = record { pos = c.pos; depth = c.depth + 1; takes = c.takes }

-- in the reader of the depth d
abbrev pub at_depth : ℕ → Cursor → Cursor
at_depth d c = record { pos = c.pos; depth = d; takes = c.takes }

-- back at the position p
abbrev pub rewound : ℕ → Cursor → Cursor
rewound p c = record { pos = p; depth = c.depth; takes = c.takes }

-- The same for any cursor: 16 bits hold a position and a depth, and behind the last comes 0. Within a list these are `onward` and `inner`.
abbrev pub round_on : Cursor → Cursor
round_on c = record { pos = (c.pos + 1) % 2 ^ 16; depth = c.depth; takes = taken c.takes }

abbrev pub round_in : Cursor → Cursor
round_in c = record { pos = c.pos; depth = (c.depth + 1) % 2 ^ 16; takes = c.takes }
