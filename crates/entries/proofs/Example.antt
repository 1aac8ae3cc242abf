-- The work words of `(a, b)`, from the words of its token table (docs/LAYOUT.md): the bracket at place 0 is closed by entry 4, so its
-- close is 5, and a Sep stands directly inside; the Space has no record, so the last two places are 4 and 5.
use mathlib.Core.Path.{◌≡◌, refl}
use mathlib.Core.List.{[], ◌∷◌}
use Rattle.tokens.specs.Table.{token_list}
use Rattle.records.specs.Record.{record_of}
use Rattle.reading.specs.Entries.{is, entries, close_after, has_sep}
use Rattle.entries.specs.Prepared.{places, close_from, of_bracket, records, work_words}

pub example :
    work_words (token_list 6 (0 ∷ 1 ∷ 20 ∷ 1 ∷ 1 ∷ 6 ∷ 2 ∷ 1 ∷ 3 ∷ 3 ∷ 1 ∷ 23 ∷ 4 ∷ 1 ∷ 6 ∷ 5 ∷ 1 ∷ 21 ∷ []))
    ≡ 327680 ∷ 1 ∷ 1 ∷ 0 ∷ 2 ∷ 0 ∷ 4 ∷ 0 ∷ 5 ∷ 0 ∷ []
unfolding token_list work_words records places close_from of_bracket record_of entries close_after has_sep is
example = refl
