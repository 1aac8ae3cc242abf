-- The calls' tests and answers: what each says of the refusals, and what is left when none is met.
use Prim.Native.Nat.{ℕ, suc, ◌+◌, ◌*◌, ◌≤◌, ◌<◌}
use mathlib.Core.Path.{◌≡◌, refl, sym, ap, ◌∙◌, subst}
use mathlib.Core.Bool.{Bool, false}
use mathlib.Core.List.{List, [], ◌∷◌, ◌++◌}
use mathlib.Core.Option.{none, some}
use native.Mathlib.Omega.{arith}
use lib.Dec.{eqb}
use lib.ListN.{length, drop, replicate}
use borrow.Author.Tests.{lt-ltb, le-ltb, ne_eqb}
use Rattle.tokenizer.specs.declared.TokenizedUnder.{TokenizedUnder}
use Rattle.tokenizer.specs.declared.TokenizedUnder.TheVariants as under
use Rattle.tokens.specs.Lexeme.{Lexeme}
use Rattle.lexing.specs.Rules.{tokens}
use Rattle.tokens.specs.Table.{table_words, token_list, count_others}
use Rattle.tokens.specs.Refusals.{Answer, accepted, refused, text_refusal, list_refusal, entry_words, room_refusal, room_refusal_by, bit}
use Rattle.room.specs.Room.{room_for, lacking_for}
use Rattle.room.proofs.Lengths.{has_room_lem, one-short, room-enough}
use Rattle.tokenizer.specs.Call.{tokenized_under}
use Rattle.tokenizer.proofs.Under as listed
use Rattle.tokenizer.proofs.Under.{by_answer}
use Rattle.tokens.proofs.Cases.{by_lt, apart}
use Rattle.tokens.proofs.TokenList.{others-few}
use Rattle.lexing.proofs.Theorems.{list-of_words, accepted-list}
use Rattle.tree.specs.Tree.{nowhere, Nodes, end, ◌▸◌, count}
use Rattle.reading.specs.Entries.{entries}
use Rattle.reading.specs.Reading.{reading_by, parse_entries, blank}
use Rattle.tokens.proofs.Accepted as lists
use Rattle.tokens.proofs.Accepted.{met}
use Rattle.records.specs.Record.{record_words}
use Rattle.parse.specs.declared.ParsedTokens.{ParsedTokens}
use Rattle.std.specs.Prelude.{Result, Ok, Err}
use Rattle.refusals.specs.declared.refusal.Refusal.{Refusal}
use Rattle.refusals.specs.Refusal.{refusal_number, numbered}
use Rattle.parse.specs.declared.top.Reading.{Reading}
use Rattle.parse.specs.Top.{TopReady, Reads}
use Rattle.parse.specs.Call.{list_values, list_answer_of, parse_refusal, parse_refusal_by, parse_tokens_refusal, parse_tokens_refusal_by, values, work_after, tree_after, parsed_text, parsed_text_by, parsed_tokens, parsed_tokens_by}
use Rattle.bounds.proofs.Theorems.{entries-count}
use Rattle.closers_pass.specs.declared.top.Pass.{Pass}
use Rattle.closers_pass.specs.declared.top.Pass.TheVariants as pass
use Rattle.closers_pass.specs.Call.{read_to, paired_list}
use Rattle.closers_pass.proofs.Answers as passed
use Rattle.reading_words.specs.Meet.{Input, Given, Marks}
use Rattle.reading_words.proofs.Kit.{safe-kept}
use Rattle.reading_words.proofs.Records.{input_of, small-takes}
use Rattle.parse.proofs.Ready.{top_ready}
use Rattle.parse.proofs.Second.{both_read}

-- what the bracket pass over an accepted list answers, and what the second part needs of the records that it leaves
module _ (text table : List ℕ) (count : ℕ) (work tree : List ℕ) (ok : list_refusal text count table ≡ none)
    (fit : room_refusal (count_others (token_list count table)) (length work) (length tree) ≡ none)
    (r : Result Pass Refusal) (L : List ℕ) (c : (numbered r, L) ≡ paired_list text table count false work) where
  abbrev ts : List Lexeme
  ts = token_list count table

  room : (record_words (count_others ts + 1) ≤ length work) × (32 * (count_others ts + 1) ≤ length tree)
  room = has_room_lem entry_words (count_others ts) (length work) (length tree) fit

  pub not_refused : {A : Type 0} (k : Refusal) → r ≡ Err k → A
  not_refused = passed.not_refused text table count ok work room.0 false r L c

  -- the records as `prepare` makes them
  made-ready : TopReady (count_others ts) text table (passed.made-words text table count ok work room.0) tree
  made-ready = top_ready text table count ok _ _ refl (passed.fit text table count ok work room.0) tree room.1

  pub few-here : length (entries nowhere ts) ≤ 4096
  few-here = omega (arith, passed.few text table count ok, entries-count nowhere ts)

  module _ (n : ℕ) (q : r ≡ Ok (pass.Plain n)) where
    is : (n ≡ count_others ts) × (L ≡ passed.made-words text table count ok work room.0)
    is = passed.plain-is text table count ok work room.0 false r L c n q

    pub plain-number : n ≡ count_others ts
    plain-number = is.0

    pub plain_ready : TopReady n text table L tree
    plain_ready = rw (is.0, is.1) made-ready

    pub plain-reads : {len : ℕ} {y : List ℕ} {g : Reading}
        → ((I : Input) → Given text table n L I → (m : List Bool) → Marks n L m → Reads I m len y g)
        → Reads (input_of text ts) (replicate (3 * n) false) len y g
    plain-reads h =
        h (input_of text ts) (rw (is.0, is.1) (passed.made-given text table count ok work room.0)) (replicate (3 * n) false)
        (rw (is.0, is.1) (passed.made-blank text table count ok work room.0))

  module _ (n takes : ℕ) (q : r ≡ Ok (pass.Read n takes)) where
    are : (n ≡ count_others ts) × (takes ≡ (read_to text ts).takes) × (L ≡ passed.read-words text table count ok work room.0)
    are = passed.read_is text table count ok work room.0 false r L c n takes q

    pub read_number : n ≡ count_others ts
    read_number = are.0

    pub read-ready : TopReady n text table L tree
    read-ready =
        rw (are.0, are.2)
        (record {
          safe = safe-kept (passed.read_kept text table count ok work room.0) made-ready.safe;
          input = input_of text ts;
          given = passed.read-given text table count ok work room.0;
          marked = (read_to text ts).marks;
          marks = passed.read-marks text table count ok work room.0;
          room = room.1;
        })

    pub read-reads : {len : ℕ} {y : List ℕ} {g : Reading}
        → ((I : Input) → Given text table n L I → (m : List Bool) → Marks n L m → Reads I m len y g)
        → Reads (input_of text ts) (replicate (3 * n) false) len y (record { takes = takes; end = g.end; items = g.items })
    read-reads {len} {y} {g} h =
        both_read (input_of text ts) n takes len y g (entries-count nowhere ts ∙ sym are.0)
        (are.1 ∙ sym (small-takes text (entries nowhere ts) few-here))
        (h (input_of text ts) (rw (are.0, are.2) (passed.read-given text table count ok work room.0)) (read_to text ts).marks
        (rw (are.0, are.2) (passed.read-marks text table count ok work room.0)))

-- no items: the root is blank
blank-count : (text : List ℕ) (l : Nodes) → eqb (count l) 0 ≡ blank text l
unfolding blank
blank-count text end = refl
blank-count text (x ▸ l) = ne_eqb (suc (count l)) 0 (λ e. omega arith)

-- the call on a list, by the words an entry has
module _ (words : ℕ) (text table : List ℕ) (count : ℕ) where
  module _ (work tree : ℕ) where
    pub list-met : (k : ℕ) → list_refusal text count table ≡ some k → parse_tokens_refusal_by words text table count work tree ≡ some k
    unfolding parse_tokens_refusal_by
    list-met k e = rw (e, parse_tokens_refusal_by)

    pub list-room : list_refusal text count table ≡ none
        → parse_tokens_refusal_by words text table count work tree ≡ room_refusal_by words (count_others (token_list count table)) work tree
    unfolding parse_tokens_refusal_by
    list-room e = rw (e, parse_tokens_refusal_by)

  module _ (work tree : List ℕ) where
    pub list-when_refused : (k : ℕ) → parse_tokens_refusal_by words text table count (length work) (length tree) ≡ some k
        → ◌≡◌ {A = Answer × List ℕ × List ℕ} (refused k, work, tree) (parsed_tokens_by words text table count work tree)
    unfolding parsed_tokens_by
    list-when_refused k e = sym (rw (e, parsed_tokens_by))

    pub list-taken : parse_tokens_refusal_by words text table count (length work) (length tree) ≡ none
        → parsed_tokens_by words text table count work tree
        ≡ (accepted (values text (token_list count table)), work_after (length work), tree_after text (token_list count table) (length tree))
    unfolding parsed_tokens_by
    list-taken e = rw (e, parsed_tokens_by)

module _ (text table : List ℕ) (count : ℕ) (work tree : List ℕ) where
  pub list-refused : (k : ℕ) → list_refusal text count table ≡ some k
      → ◌≡◌ {A = Answer × List ℕ × List ℕ} (refused k, work, tree) (parsed_tokens text table count work tree)
  list-refused k e = list-when_refused entry_words text table count work tree k (list-met entry_words text table count (length work) (length tree) k e)

  module _ (ok : list_refusal text count table ≡ none) where
    room-decides : parse_tokens_refusal text table count (length work) (length tree) ≡ room_refusal (count_others (token_list count table)) (length work) (length tree)
    room-decides = list-room entry_words text table count (length work) (length tree) ok

    pub room-refused : (k : ℕ) → room_refusal (count_others (token_list count table)) (length work) (length tree) ≡ some k
        → ◌≡◌ {A = Answer × List ℕ × List ℕ} (refused k, work, tree) (parsed_tokens text table count work tree)
    room-refused k e = list-when_refused entry_words text table count work tree k (room-decides ∙ e)

    pub list_read : room_refusal (count_others (token_list count table)) (length work) (length tree) ≡ none
        → parsed_tokens text table count work tree
        ≡ (accepted (values text (token_list count table)), work_after (length work), tree_after text (token_list count table) (length tree))
    list_read e = list-taken entry_words text table count work tree (room-decides ∙ e)

    pub reads-list : room_refusal (count_others (token_list count table)) (length work) (length tree) ≡ none
        → (r : Reading) (L y : List ℕ) → length (entries nowhere (token_list count table)) ≤ 4096 → (n : ℕ) → n ≡ count_others (token_list count table)
        → Reads (input_of text (token_list count table)) (replicate (3 * n) false) (length tree) y r → L ≡ replicate (length work) 0
        → ◌≡◌ {A = Answer × List ℕ × List ℕ} (accepted (r.takes ∷ r.items ∷ bit (eqb r.items 0) ∷ []), L, y)
        (parsed_tokens text table count work tree)
    unfolding values work_after tree_after reading_by parse_entries
    reads-list fit r L y few n e q z =
        let d =
        subst (λ (k : ℕ). Reads (input_of text (token_list count table)) (replicate (3 * k) false) (length tree) y r)
        (e ∙ sym (entries-count nowhere (token_list count table))) q in
        rw (list_read fit, d.takes ∙ small-takes text (entries nowhere (token_list count table)) few, d.items, d.tree, d.end, z, blank-count text _)

-- a list has no more tokens other than Space than tokens
pub others-within : (ts : List Lexeme) → count_others ts ≤ length ts
others-within ts = subst (λ (us : List Lexeme). count_others us ≤ length ts) (list-of_words ts []) (others-few (length ts) (table_words ts ++ []))

pub text-length : (text : List ℕ) → text_refusal text ≡ none → length text ≤ 4096
text-length text ok = (lists.accepted text _ _ (accepted-list text [] ok)).short

-- the refusals of a text, by the words an entry has
module _ (words : ℕ) (text : List ℕ) (table work tree : ℕ) where
  pub text-refused : (k : ℕ) → text_refusal text ≡ some k → parse_refusal_by words text table work tree ≡ some k
  unfolding parse_refusal_by
  text-refused k e = rw (e, parse_refusal_by)

  module _ (ok : text_refusal text ≡ none) where
    pub table-short : table < 3 * length (tokens text) → parse_refusal_by words text table work tree ≡ some 7
    unfolding parse_refusal_by
    table-short h = rw (ok, parse_refusal_by) (rw (lt-ltb table (3 * length (tokens text)) h))

    pub table-long : 3 * length (tokens text) ≤ table → parse_refusal_by words text table work tree ≡ room_refusal_by words (count_others (tokens text)) work tree
    unfolding parse_refusal_by
    table-long h = rw (ok, parse_refusal_by) (rw (le-ltb table (3 * length (tokens text)) h))

    pub none-short : parse_refusal_by words text table work tree ≡ none → (3 * length (tokens text) ≤ table) × (room_refusal_by words (count_others (tokens text)) work tree ≡ none)
    none-short p =
        by_lt table (3 * length (tokens text))
        (λ l. met p (table-short l))
        (λ l. (l, sym (table-long l) ∙ p))

-- the call on a text, by the words an entry has
module _ (words : ℕ) (text table work tree : List ℕ) where
  pub text-when_refused : (k : ℕ) → parse_refusal_by words text (length table) (length work) (length tree) ≡ some k
      → ◌≡◌ {A = Answer × List ℕ × List ℕ × List ℕ} (refused k, table, work, tree) (parsed_text_by words text table work tree)
  unfolding parsed_text_by
  text-when_refused k e = sym (rw (e, parsed_text_by))

  pub text-read : parse_refusal_by words text (length table) (length work) (length tree) ≡ none
      → parsed_text_by words text table work tree
      ≡ (accepted (length (tokens text) ∷ values text (tokens text)), table_words (tokens text) ++ drop (3 * length (tokens text)) table, work_after (length work), tree_after text (tokens text) (length tree))
  unfolding parsed_text_by
  text-read e = rw (e, parsed_text_by)

-- what the tokenizer has answered; the buffers have room for fewer than `room` tokens other than Space
module _ (text table work tree : List ℕ) where
  module _ (room : ℕ) (r : Result TokenizedUnder Refusal) (next : List ℕ) (c : (numbered r, next) ≡ tokenized_under text table room) where
    by_number : {x : Result TokenizedUnder Refusal} → r ≡ x → numbered r ≡ numbered x
    by_number = ap numbered

    pub tokens-refused : (k : Refusal) → r ≡ Err k
        → ◌≡◌ {A = Answer × List ℕ × List ℕ × List ℕ} (refused (refusal_number k), next, work, tree) (parsed_text text table work tree)
    tokens-refused k q =
        let f = by_number q in
        by_answer text table room r next c
        (λ j e p n.
        let j-is : j ≡ refusal_number k = cc in
        rw n (text-when_refused entry_words text table work tree (refusal_number k) (text-refused entry_words text _ _ _ (refusal_number k) (e ∙ ap some j-is))))
        (λ ok h p n.
        let k_is : 7 ≡ refusal_number k = cc in
        rw (n, ← k_is) (text-when_refused entry_words text table work tree 7 (table-short entry_words text _ _ _ ok h)))
        (λ ok h l p n. apart cc)
        (λ ok h l p n. apart cc)

    pub tokens-many : (m k : ℕ) → r ≡ Ok (under.Many m)
        → room ≡ room_for (length work) (length tree) → k ≡ lacking_for m (length work)
        → ◌≡◌ {A = Answer × List ℕ × List ℕ × List ℕ} (refused k, next, work, tree) (parsed_text text table work tree)
    tokens-many m k q b lacks =
        let f = by_number q in
        by_answer text table room r next c
        (λ j e p n. apart cc)
        (λ ok h p n. apart cc)
        (λ ok h l p n.
        let m_is : m ≡ count_others (tokens text) = cc in
        rw (n, lacks, m_is)
        (text-when_refused entry_words text table work tree _
        (table-long entry_words text _ _ _ ok h ∙ one-short (count_others (tokens text)) (length work) (length tree) (omega (arith, b, l)))))
        (λ ok h l p n. apart cc)

    module _ (m others : ℕ) (q : r ≡ Ok (under.Tokens m others))
        (b : room ≡ room_for (length work) (length tree)) where
      abbrev facts : listed.Listed text table room r next c m others q
      facts = listed.facts text table room r next c m others q

      list-is : token_list m next ≡ tokens text
      list-is = listed.list-is text table room r next c m others q

      fits : room_refusal (count_others (tokens text)) (length work) (length tree) ≡ none
      fits = room-enough entry_words (count_others (tokens text)) (length work) (length tree) (omega (arith, b, facts.few)) (omega (arith, b, facts.few))

      enough : parse_refusal text (length table) (length work) (length tree) ≡ none
      enough = table-long entry_words text (length table) (length work) (length tree) facts.ok facts.long ∙ fits

      pub list-accepted : list_refusal text m next ≡ none
      list-accepted = listed.list-accepted text table room r next c m others q

      pub list-fits : room_refusal (count_others (token_list m next)) (length work) (length tree) ≡ none
      list-fits = rw list-is fits

      module _ (a : Result ParsedTokens Refusal) (L y : List ℕ) (d : (list_answer_of a, L, y) ≡ parsed_tokens text next m work tree) where
        read_is : ◌≡◌ {A = Answer × List ℕ × List ℕ} (list_answer_of a, L, y) (accepted (values text (tokens text)), work_after (length work), tree_after text (tokens text) (length tree))
        read_is = rw list-is at (d ∙ list_read text next m work tree list-accepted list-fits)

        answer-is : list_answer_of a ≡ accepted (values text (tokens text))
        answer-is = ap (λ (x : Answer × List ℕ × List ℕ). x.0) read_is

        pub list-not_refused : {A : Type 0} (k : Refusal) → a ≡ Err k → A
        list-not_refused k e = let p = rw e at answer-is in apart cc

        pub list-was_read : (p : ParsedTokens) → a ≡ Ok p
            → ◌≡◌ {A = Answer × List ℕ × List ℕ × List ℕ} (accepted (m ∷ list_values p), next, L, y) (parsed_text text table work tree)
        list-was_read p e =
            let z = rw e at answer-is in
            let v : list_values p ≡ values text (tokens text) = cc in
            let l : L ≡ work_after (length work) = ap (λ (x : Answer × List ℕ × List ℕ). x.1) read_is in
            let t : y ≡ tree_after text (tokens text) (length tree) = ap (λ (x : Answer × List ℕ × List ℕ). x.2) read_is in
            rw (text-read entry_words text table work tree enough, facts.all-is, v, facts.next-is, l, t)
