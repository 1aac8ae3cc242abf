-- The records of the first entries, with the brackets among them that are still open: one token after the other.
use Prim.Native.Nat.{ℕ, zero, suc, ◌+◌, ◌*◌, ◌-◌, ◌≤◌, ◌<◌}
use mathlib.Core.Path.{◌≡◌, refl, sym, ap, ◌∙◌}
use mathlib.Core.Bool.{Bool, true, false, cond}
use mathlib.Core.List.{List, [], ◌∷◌, ◌++◌}
use native.Mathlib.Omega.{arith}
use native.Mathlib.Nat.{add-zero}
use native.Mathlib.Numerals.{add-one}
use lib.Dec.{eqb}
use lib.ListN.{length, get_or, drop, length-append, length-drop, get_or-append}
use lib.Seq.{get_or-drop, drop-drop, get_or-append-add, ext_get_or}
use borrow.Author.Tests.{eq-eqb, ne_eqb}
use Rattle.tokens.specs.declared.token.Token.{Token}
use Rattle.tokens.specs.declared.token.Token.TheVariants as token
use Rattle.tokens.specs.Kinds.{number_of, token_of}
use Rattle.tokens.specs.Lexeme.{Span, Lexeme}
use Rattle.tokens.specs.Table.{token_list, count_others}
use Rattle.tokens.proofs.Cases.{by_eq, by_lt}
use Rattle.tokens.proofs.Numbers.{number-of_token}
use Rattle.tokens.proofs.TokenList.{kind-space, kind-other, count-space, count-other, token_at, tokens_from, tokens-all, tokens_none, tokens-next, others_same, others-more}
use Rattle.tree.specs.Tree.{nowhere}
use Rattle.reading.specs.Entries.{Entry, is, entries, close_after, has_sep}
use Rattle.records.specs.Record.{record_words, InHalf, place_of, after_close, sep_of, marks_of, closer_of, record_of, Whole, with_record}
use Rattle.records.proofs.Same.{Same, words_same, same_drop, length-record, drop-record, first-place, first-close, first-sep, first_marks, first-closer}
use Rattle.stores.proofs.Stores.{record-length, record-other, record-beyond, record-place, record-close, record-sep, record-marks, record-closer}
use Rattle.entries.specs.Prepared.{places, close_from, of_bracket, records, work_words}
use Rattle.entries.specs.Open.{Link, Filled, clear_all}
use Rattle.entries.proofs.Words.{Stored, stored-close, stored-sep, unstored, close-stored, close-kept, sep-kept, sep-stored, sep-beside, close-beside, length-clear, clear-place, clear_sep, clear-marks, clear-closer, clear-beyond, clear-close}
use Rattle.entries.proofs.Matching.{comes, comes-same, closing, parting, pick_same, up_to, chain-top, Matching, matching-none, matching-kept, opened, alone, closed, parted, passed}

-- one token more of the definition
module _ (i : ℕ) (g : Span) (t : Lexeme) (ts : List Lexeme) where
  module _ (z : number_of t.token ≡ 23) where
    pub places-space : places i (t ∷ ts) ≡ places (suc i) ts
    unfolding places
    places-space = rw (places, z)

    pub entries-space : entries g (t ∷ ts) ≡ entries t.span ts
    unfolding entries
    entries-space = rw (entries, z)

  module _ (z : number_of t.token ≡ 23 → ⊥) where
    pub places-other : places i (t ∷ ts) ≡ i ∷ places (suc i) ts
    unfolding places
    places-other = rw (places, ne_eqb (number_of t.token) 23 z)

    pub entries-other : entries g (t ∷ ts) ≡ record { token = t.token; span = t.span; space = g } ∷ entries nowhere ts
    unfolding entries
    entries-other = rw (entries, ne_eqb (number_of t.token) 23 z)

-- the Sep field is 1 or 0
pub sep-small : (e : Entry) (b : Bool) → InHalf (of_bracket e (cond b 1 0))
unfolding of_bracket
sep-small e b = go (is token.OpenBracket e) b
  where
    go : (a b : Bool) → InHalf (cond a (cond b 1 0) 0)
    go true true = omega arith
    go true false = omega arith
    go false b = omega arith

-- n records are made of the first i tokens; J are the work words at first, K those now
pub record Filling (count : ℕ) (table J K : List ℕ) (n top i : ℕ) : Type 0 where
  pub within : i ≤ count
  pub few : n ≤ i
  pub long : length K ≡ length J
  pub counted : count_others (token_list count table) ≡ n + count_others (tokens_from count table i)
  pub space : Span
  pub rest : drop (record_words n) (work_words (token_list count table)) ≡ records n (places i (tokens_from count table i)) (entries space (tokens_from count table i))
  pub matching :
      Matching (after_close (work_words (token_list count table))) (sep_of (work_words (token_list count table))) (after_close K) (sep_of K) n top
      (entries space (tokens_from count table i))
  pub place : (j : ℕ) → j < n → place_of (work_words (token_list count table)) j ≡ place_of K j
  pub marks : (j : ℕ) → j < n → marks_of (work_words (token_list count table)) j ≡ marks_of K j
  pub closer : (j : ℕ) → j < n → closer_of (work_words (token_list count table)) j ≡ closer_of K j
  pub beyond : (x : ℕ) → record_words n ≤ x → get_or K x 0 ≡ get_or J x 0

module _ (count : ℕ) (table J : List ℕ) where
  pub filling_none : Filling count table J J 0 0 0
  unfolding work_words
  filling_none =
      record {
        within = omega arith;
        few = omega arith;
        long = refl;
        counted = omega (arith, ap count_others (tokens-all count table));
        space = nowhere;
        rest = ap (λ (ts : List Lexeme). records 0 (places 0 ts) (entries nowhere ts)) (tokens-all count table);
        matching = matching-none _ _ _ _ _;
        place = λ j l. absurd (omega arith);
        marks = λ j l. absurd (omega arith);
        closer = λ j l. absurd (omega arith);
        beyond = λ x l. refl;
      }

  module _ {K : List ℕ} {n top i : ℕ} (f : Filling count table J K n top i) (h : i < count) where
    pub filling_space : 23 ≤ get_or table (3 * i + 2) 0 → Filling count table J K n top (i + 1)
    filling_space k =
        let t = token_at table i in
        let ts = tokens_from count table (i + 1) in
        let z = kind-space (get_or table (3 * i + 2) 0) k in
        let e : entries f.space (tokens_from count table i) ≡ entries t.span ts = ap (entries f.space) (tokens-next count table i h) ∙ entries-space i f.space t ts z in
        let p : places i (tokens_from count table i) ≡ places (i + 1) ts = ap (places i) (tokens-next count table i h) ∙ places-space i f.space t ts z ∙ ap (λ (j : ℕ). places j ts) (sym (add-one i)) in
        record {
          within = omega arith;
          few = omega (arith, f.few);
          long = f.long;
          counted = omega (arith, f.counted, others_same count table i h k);
          space = t.span;
          rest = f.rest ∙ rw (p, e);
          matching = rw e at f.matching;
          place = f.place;
          marks = f.marks;
          closer = f.closer;
          beyond = f.beyond;
        }

    -- a token other than Space: its record K₁, matched to L
    module _ {K₁ L : List ℕ} {r : ℕ} (most : count ≤ 4096) (k : get_or table (3 * i + 2) 0 < 23) (room : record_words (count_others (token_list count table)) ≤ length J)
        (made : K₁ ≡ with_record K n i) (q : Link n (get_or table (3 * i + 2) 0) top K₁ L r)
      where
        abbrev words : List ℕ
        words = work_words (token_list count table)

        abbrev behind : List Lexeme
        behind = tokens_from count table (i + 1)

        abbrev later : List Entry
        later = entries nowhere behind

        abbrev entry : Entry
        entry = record { token = token_of (get_or table (3 * i + 2) 0); span = (token_at table i).span; space = f.space }

        number : number_of entry.token ≡ get_or table (3 * i + 2) 0
        number = number-of_token (get_or table (3 * i + 2) 0) (omega arith)

        entries-now : entries f.space (tokens_from count table i) ≡ entry ∷ later
        entries-now = ap (entries f.space) (tokens-next count table i h) ∙ entries-other i f.space (token_at table i) behind (kind-other (get_or table (3 * i + 2) 0) k)

        places-now : places i (tokens_from count table i) ≡ i ∷ places (i + 1) behind
        places-now =
            ap (places i) (tokens-next count table i h)
            ∙ places-other i f.space (token_at table i) behind (kind-other (get_or table (3 * i + 2) 0) k)
            ∙ ap (λ (j : ℕ). i ∷ places j behind) (sym (add-one i))

        row : drop (record_words n) words ≡ record_of i (of_bracket entry (close_from zero (suc n) later)) (of_bracket entry (cond (has_sep zero later) 1 0)) (records (suc n) (places (i + 1) behind) later)
        unfolding records
        row = f.rest ∙ rw (places-now, entries-now)

        first : Same (record_of i (of_bracket entry (close_from zero (suc n) later)) (of_bracket entry (cond (has_sep zero later) 1 0)) (records (suc n) (places (i + 1) behind) later)) 0 words n
        first = rw (row, add-zero n) at (same_drop words n 0)

        place_is : place_of words n ≡ i
        place_is = sym first.place ∙ first-place i _ _ _ (omega arith)

        close-is : after_close words n ≡ of_bracket entry (close_from zero (suc n) later)
        close-is = sym first.close ∙ first-close i _ _ _ (omega arith)

        sep-is : sep_of words n ≡ of_bracket entry (cond (has_sep zero later) 1 0)
        sep-is = sym first.sep ∙ first-sep i _ _ _ (sep-small entry (has_sep zero later))

        marks-are : marks_of words n ≡ 0
        marks-are = sym first.marks ∙ first_marks i _ _ _ (sep-small entry (has_sep zero later))

        closer-is : closer_of words n ≡ 0
        closer-is = sym first.closer ∙ first-closer i _ _ _ (sep-small entry (has_sep zero later))

        fits : Whole K n
        fits = omega (arith, f.counted, f.long, others-more count table i h k)

        before : (j : ℕ) → j < n → Same K₁ j K j
        before j l = rw made (record-other K n i j (λ z. omega arith))

        put-length : length K₁ ≡ length K
        put-length = rw made (record-length K n i)

        place-new : place_of K₁ n ≡ i
        place-new = rw made (record-place K n i fits (omega arith))

        close-new : after_close K₁ n ≡ 0
        close-new = rw made (record-close K n i fits)

        sep-new : sep_of K₁ n ≡ 0
        sep-new = rw made (record-sep K n i fits)

        marks-new : marks_of K₁ n ≡ 0
        marks-new = rw made (record-marks K n i fits)

        closer-new : closer_of K₁ n ≡ 0
        closer-new = rw made (record-closer K n i fits)

        matching-now : Matching (after_close words) (sep_of words) (after_close K₁) (sep_of K₁) n top (entry ∷ later)
        matching-now =
            matching-kept _ _ _ _ _ _ n (λ j l. (before j l).close) (λ j l. (before j l).sep)
            (rw entries-now at f.matching)

        is_kind_lem : (t : Token) → get_or table (3 * i + 2) 0 ≡ number_of t → is t entry ≡ true
        unfolding is
        is_kind_lem t a = eq-eqb (number_of t) (number_of entry.token) (sym (number ∙ a))

        is_other : (t : Token) → (get_or table (3 * i + 2) 0 ≡ number_of t → ⊥) → is t entry ≡ false
        unfolding is
        is_other t a = ne_eqb (number_of t) (number_of entry.token) (λ z. a (sym (z ∙ number)))

        low : top ≤ n
        low = chain-top f.matching.chain

        abbrev Linked : Type 0
        Linked = Matching (after_close words) (sep_of words) (after_close L) (sep_of L) (n + 1) r later × Stored n K₁ L

        there : (j : ℕ) → j ≤ n → Whole K₁ j
        there j l = omega (arith, fits, put-length)

        linked : Link n (get_or table (3 * i + 2) 0) top K₁ L r → Linked
        linked (Link.opens a l b) = (
          rw (b, add-one n)
              (matching-kept _ _ _ _ _ _ (suc n) (λ j _. refl) (λ j _. sep-kept K₁ L n top l j)
              (opened _ _ _ _ n top entry later matching-now close-is sep-is close-new sep-new (after_close L) (is_kind_lem token.OpenBracket a)
              (λ j m. close-kept K₁ L n top l j (λ z. omega arith)) (close-stored K₁ L n top l (there n (omega arith)) (omega (arith, low, f.few))))),
          stored-close n top (omega arith) l,
        )
        linked (Link.closes o a t l b) = (
          rw (b, add-one n)
              (matching-kept _ _ _ _ _ _ (suc n) (λ j _. refl) (λ j _. sep-kept K₁ L o (n + 1) l j)
              (closed _ _ _ _ n top entry later matching-now close-is sep-is close-new sep-new (is_other token.OpenBracket (λ z. omega arith)) (after_close L) o
              (is_kind_lem token.CloseBracket a) (t ∙ add-one o) (close-stored K₁ L o (n + 1) l (there o (omega (arith, low))) (omega (arith, f.few)) ∙ add-one n)
              (λ j _ d. close-kept K₁ L o (n + 1) l j d))),
          stored-close o (n + 1) (omega (arith, low)) l,
        )
        linked (Link.parts o a t l b) = (
          rw (b, add-one n)
              (matching-kept _ _ _ _ _ _ (suc n) (λ j _. close-beside K₁ L o 1 l j) (λ j _. refl)
              (parted _ _ _ _ n top entry later matching-now close-is sep-is close-new sep-new (is_other token.OpenBracket (λ z. omega arith))
              (is_other token.CloseBracket (λ z. omega arith)) (sep_of L) o (is_kind_lem token.Sep a) (t ∙ add-one o) (sep-stored K₁ L o 1 l (there o (omega (arith, low))) (omega arith))
              (λ j _ d. sep-beside K₁ L o 1 l j d))),
          stored-sep o 1 (omega (arith, low)) l,
        )
        linked (Link.alone a t l b) = (
          rw (b, t, l, add-one n)
              (alone _ _ _ _ n top entry later matching-now close-is sep-is close-new sep-new (is_other token.OpenBracket a) t),
          unstored l,
        )
        linked (Link.passes a c p l b) = (
          rw (b, l, add-one n)
              (passed _ _ _ _ n top entry later matching-now close-is sep-is close-new sep-new (is_other token.OpenBracket a) (is_other token.CloseBracket c)
              (is_other token.Sep p)),
          unstored l,
        )

        more : record_words (n + 1) ≡ record_words n + record_words 1
        more = omega arith

        pub filling_entry : Filling count table J L (n + 1) r (i + 1)
        filling_entry =
            let m = linked q in
            record {
              within = omega arith;
              few = omega (arith, f.few);
              long = m.1.long ∙ put-length ∙ f.long;
              counted = omega (arith, f.counted, others-more count table i h k);
              space = nowhere;
              rest = ap (λ (x : ℕ). drop x words) more ∙ sym (drop-drop (record_words 1) (record_words n) words) ∙ ap (drop (record_words 1)) row ∙ drop-record i _ _ _ ∙ rw (add-one n);
              matching = m.0;
              place = λ j l. up_to (λ j. place_of words j ≡ place_of L j) n (λ j b. f.place j b ∙ sym (m.1.place j ∙ (before j b).place)) (place_is ∙ sym (m.1.place n ∙ place-new)) j (omega arith);
              marks = λ j l. up_to (λ j. marks_of words j ≡ marks_of L j) n (λ j b. f.marks j b ∙ sym (m.1.marks j ∙ (before j b).marks)) (marks-are ∙ sym (m.1.marks n ∙ marks-new)) j (omega arith);
              closer = λ j l. up_to (λ j. closer_of words j ≡ closer_of L j) n (λ j b. f.closer j b ∙ sym (m.1.closer j ∙ (before j b).closer)) (closer-is ∙ sym (m.1.closer n ∙ closer-new)) j (omega arith);
              beyond = λ x l. m.1.beyond x (omega arith) ∙ rw made (record-beyond K n i x (omega arith)) ∙ f.beyond x (omega arith);
            }

-- all tokens are passed: once the open brackets are cleared, the words are the definition's
module _ (i j : ℕ) (g : Span) (t : Lexeme) (ts : List Lexeme) where
  records-space : number_of t.token ≡ 23 → records i (places j (t ∷ ts)) (entries g (t ∷ ts)) ≡ records i (places (suc j) ts) (entries t.span ts)
  records-space z = rw (places-space j g t ts z, entries-space j g t ts z)

  records-other : (number_of t.token ≡ 23 → ⊥) → length (records i (places j (t ∷ ts)) (entries g (t ∷ ts))) ≡ record_words 1 + length (records (suc i) (places (suc j) ts) (entries nowhere ts))
  unfolding records
  records-other z = rw (places-other j g t ts z, entries-other j g t ts z) (length-record _ _ _ _)

length-records : (i j : ℕ) (g : Span) (ts : List Lexeme) → length (records i (places j ts) (entries g ts)) ≡ record_words (count_others ts)
unfolding records places entries count_others
length-records i j g [] = refl
length-records i j g (t ∷ ts) =
    by_eq (number_of t.token) 23
    (λ z. ap length (records-space i j g t ts z) ∙ length-records i (suc j) t.span ts ∙ ap record_words (sym (count-space t ts z)))
    (λ z. omega (arith, records-other i j g t ts z, length-records (suc i) (suc j) nowhere ts, count-other t ts z))

pub length-work : (ts : List Lexeme) → length (work_words ts) ≡ record_words (count_others ts)
unfolding work_words
length-work ts = length-records 0 0 nowhere ts

comes-word : (f : ℕ → ℕ → ℕ) (d i w : ℕ) (st : List ℕ) → ((d : ℕ) → f d w ≡ w) → comes f d st i w ≡ w
comes-word f d i w [] h = refl
comes-word f d i w (s ∷ st) h = rw (h d, comes-word f (suc d) i w st h) (pick_same (eqb i s) w)

module _ (count : ℕ) (table J K : List ℕ) (n top i : ℕ) (f : Filling count table J K n top i) (h : count ≤ i) (room : record_words (count_others (token_list count table)) ≤ length J) where
  abbrev whole : List ℕ
  whole = work_words (token_list count table)

  no_entries : entries f.space (tokens_from count table i) ≡ []
  unfolding entries
  no_entries = rw (tokens_none count table i h)

  pub all-counted : count_others (token_list count table) ≡ n
  unfolding count_others
  all-counted = omega (arith, f.counted, ap count_others (tokens_none count table i h))

  work_length : length whole ≡ record_words n
  work_length = length-work (token_list count table) ∙ ap record_words all-counted

  matched : Matching (after_close whole) (sep_of whole) (after_close K) (sep_of K) n top []
  matched = rw no_entries at f.matching

  abbrev cleared : List ℕ
  cleared = clear_all matched.stack K

  fit : record_words n ≤ length K
  fit = omega (arith, room, all-counted, f.long)

  same-record : (j : ℕ) → j < n → Same cleared j whole j
  unfolding close_from close_after has_sep
  same-record j l =
      record {
        place = clear-place j matched.stack K ∙ sym (f.place j l);
        close =
            clear-close K 0 j matched.chain fit
            ∙ comes-same _ (closing n []) j (after_close K j) (λ d. refl) 0 matched.stack
            ∙ sym (matched.close j l);
        sep =
            clear_sep j matched.stack K
            ∙ sym (matched.sep j l ∙ comes-word (parting []) 0 j (sep_of K j) matched.stack (λ d. refl));
        marks = clear-marks j matched.stack K ∙ sym (f.marks j l);
        closer = clear-closer j matched.stack K ∙ sym (f.closer j l);
      }

  same_word : (x : ℕ) → x < length cleared → get_or cleared x 0 ≡ get_or (whole ++ drop (record_words n) J) x 0
  same_word x l =
      by_lt x (record_words n)
      (λ a. words_same cleared whole n same-record x a ∙ sym (get_or-append whole (drop (record_words n) J) 0 x (omega (arith, work_length))))
      (λ a.
      let z : length whole + (x - record_words n) ≡ x = omega (arith, work_length) in
      let y : record_words n + (x - record_words n) ≡ x = omega arith in
      clear-beyond K x matched.chain a
      ∙ f.beyond x a
      ∙ ap (λ (k : ℕ). get_or J k 0) (sym y)
      ∙ sym (get_or-drop (record_words n) J (x - record_words n) 0)
      ∙ sym (get_or-append-add whole (drop (record_words n) J) (x - record_words n) 0)
      ∙ ap (λ (k : ℕ). get_or (whole ++ drop (record_words n) J) k 0) z)

  same_size : length cleared ≡ length (whole ++ drop (record_words n) J)
  same_size = omega (arith, length-clear matched.stack K, length-append whole (drop (record_words n) J), length-drop (record_words n) J, work_length, f.long, fit)

  pub filling_done : Filled (token_list count table) J K top
  filling_done =
      record {
        stack = matched.stack;
        chain = rw all-counted matched.chain;
        words = rw all-counted (ext_get_or 0 cleared (whole ++ drop (record_words n) J) same_size same_word);
      }
