-- What the records say of each entry: its token with the Space before it, what closes it, the Sep in it, and no mark.
use Prim.Native.Nat.{ℕ, zero, suc, ◌+◌, ◌*◌, ◌-◌, ◌≤◌, ◌<◌}
use mathlib.Core.Path.{◌≡◌, refl, sym, ap, ◌∙◌, subst⁻¹}
use mathlib.Core.Bool.{true, false, cond}
use mathlib.Core.List.{List, [], ◌∷◌, ◌++◌, map}
use mathlib.Core.Option.{Option, none, some}
use native.Mathlib.Omega.{arith}
use native.Mathlib.Nat.{add-zero, zero-add}
use native.Mathlib.Numerals.{add-one}
use lib.ListN.{length, get_or, drop, get_elem?, length-append, length-map}
use Rattle.tokens.specs.declared.token.Token.TheVariants as token
use Rattle.tokens.specs.Kinds.{number_of}
use Rattle.tokens.specs.Lexeme.{Span, Lexeme}
use Rattle.tokens.specs.Table.{token_list, count_others}
use Rattle.tokens.proofs.Cases.{by_eq, by_lt, by_option}
use Rattle.tokens.proofs.Numbers.{number-of_token}
use Rattle.tokens.proofs.TokenList.{kind-space, kind-other, count-space, count-other, token_at, tokens_from, tokens-all, tokens_none, tokens-next}
use Rattle.tree.specs.Tree.{nowhere}
use Rattle.reading.specs.Entries.{Entry, is, entries, close_after, has_sep}
use Rattle.reading.specs.Reading.{close_of}
use Rattle.records.specs.Record.{InHalf, place_of, after_close, sep_of, marks_of, closer_of, is_placed, kind_of, start_of, len_of, space_word, space_start, space_len}
use Rattle.entries.specs.Prepared.{places, close_from, of_bracket, records, work_words}
use Rattle.records.proofs.Same.{Same, same-append, next-record, first-place, first-close, first-sep, first_marks, first-closer}
use Rattle.records.proofs.Places.{is_placed_lem, space-first, space-there, space-absent}
use Rattle.entries.proofs.Filling.{places-space, entries-space, places-other, entries-other, sep-small, length-work}

-- the fields of the record i
record Fields (L : List ℕ) (i j : ℕ) (ps : List ℕ) (es : List Entry) : Type 0 where
  entry : Entry
  there : get_elem? es i ≡ some entry
  place : place_of L i ≡ get_or ps i 0
  close : after_close L i ≡ of_bracket entry (close_from zero (suc (j + i)) (drop (suc i) es))
  sep : sep_of L i ≡ of_bracket entry (cond (has_sep zero (drop (suc i) es)) 1 0)
  marks : marks_of L i ≡ 0
  closer : closer_of L i ≡ 0

fields : (j i : ℕ) (ps : List ℕ) (es : List Entry) → ((k : ℕ) → k < length ps → InHalf (get_or ps k 0)) → i < length ps → i < length es → Fields (records j ps es) i j ps es
unfolding records
fields j i [] es s h l = absurd (omega arith)
fields j i (p ∷ ps) [] s h l = absurd (omega arith)
fields j zero (p ∷ ps) (e ∷ es) s h l =
    record {
      entry = e;
      there = refl;
      place = first-place p _ _ _ (s 0 h);
      close = first-close p _ _ _ (s 0 h) ∙ rw (add-zero j);
      sep = first-sep p _ _ _ (sep-small e (has_sep zero es));
      marks = first_marks p _ _ _ (sep-small e (has_sep zero es));
      closer = first-closer p _ _ _ (sep-small e (has_sep zero es));
    }
fields j (suc i) (p ∷ ps) (e ∷ es) s h l =
    let f = fields (suc j) i ps es (λ k b. s (suc k) (omega arith)) (omega arith) (omega arith) in
    let r = next-record p (of_bracket e (close_from zero (suc j) es)) (of_bracket e (cond (has_sep zero es) 1 0)) (records (suc j) ps es) i in
    let k : suc (j + suc i) ≡ suc (suc j + i) = omega arith in
    record { entry = f.entry; there = f.there; place = r.place ∙ f.place; close = r.close ∙ rw k f.close; sep = r.sep ∙ f.sep; marks = r.marks ∙ f.marks; closer = r.closer ∙ f.closer }

length-places : (j : ℕ) (ts : List Lexeme) → length (places j ts) ≡ count_others ts
unfolding places count_others
length-places j [] = refl
length-places j (t ∷ ts) =
    by_eq (number_of t.token) 23
    (λ z. ap length (places-space j nowhere t ts z) ∙ length-places (suc j) ts ∙ sym (count-space t ts z))
    (λ z. ap length (places-other j nowhere t ts z) ∙ ap suc (length-places (suc j) ts) ∙ sym (count-other t ts z))

get_map : {A B : Type 0} (f : A → B) (l : List A) (i : ℕ) (d : A) → i < length l → get_elem? (map f l) i ≡ some (f (get_or l i d))
get_map f [] i d h = absurd (omega arith)
get_map f (x ∷ l) zero d h = refl
get_map f (x ∷ l) (suc i) d h = get_map f l i d (omega arith)

-- the Space before token j, and the entry that token j makes
abbrev pub space_at : List ℕ → ℕ → Span
space_at table j = record { start = space_word table j 0; len = space_word table j 1 }

abbrev pub entry_at : List ℕ → ℕ → Entry
entry_at table j = record { token = (token_at table j).token; span = (token_at table j).span; space = space_at table j }

module _ (table : List ℕ) (j : ℕ) where
  back : j + 1 - 1 ≡ j
  back = omega arith

  after-space : 23 ≤ get_or table (3 * j + 2) 0 → (token_at table j).span ≡ space_at table (j + 1)
  after-space z =
      let w : (k : ℕ) → space_word table (j + 1) k ≡ get_or table (3 * j + k) 0 = λ k. space-there table (j + 1) k (λ e. omega arith) (rw back z) ∙ rw back in
      rw (w 0, w 1, add-zero (3 * j))

  after-other : get_or table (3 * j + 2) 0 < 23 → nowhere ≡ space_at table (j + 1)
  after-other z =
      let w : (k : ℕ) → space_word table (j + 1) k ≡ 0 = λ k. space-absent table (j + 1) k (λ e. omega arith) (rw back z) in
      rw (w 0, w 1)

-- the number behind, or 0
abbrev pub behind : Option ℕ → ℕ
behind none = 0
behind (some k) = suc k

close_of_lem : (text : List ℕ) (es : List Entry) (i : ℕ) → close_from zero (suc i) (drop (suc i) es) ≡ behind (close_of text es i)
unfolding close_from close_of
close_of_lem text es i = by_option (close_after zero (drop (suc i) es)) (λ e. rw (close_from, close_of, e)) (λ k e. rw (close_from, close_of, e) (omega arith))

-- the record of the entry i is the definition's
pub record Recorded (count : ℕ) (table K : List ℕ) (es : List Entry) (i : ℕ) : Type 0 where
  pub entry : Entry
  pub there : get_elem? es i ≡ some entry
  pub inside : place_of K i < count
  pub kind : kind_of table K i ≡ number_of entry.token
  pub start : start_of table K i ≡ entry.span.start
  pub len : len_of table K i ≡ entry.span.len
  pub space : space_start table K i ≡ entry.space.start
  pub space_size : space_len table K i ≡ entry.space.len
  pub close : (text : List ℕ) → is token.OpenBracket entry ≡ true → after_close K i ≡ behind (close_of text es i)
  pub sep : is token.OpenBracket entry ≡ true → sep_of K i ≡ cond (has_sep zero (drop (suc i) es)) 1 0
  pub other : is token.OpenBracket entry ≡ false → (after_close K i ≡ 0) × (sep_of K i ≡ 0)
  pub marks : marks_of K i ≡ 0
  pub closer : closer_of K i ≡ 0

-- the entries are those of the tokens at these places, which are in the table and no Spaces
record Placed (count : ℕ) (table ps : List ℕ) (es : List Entry) : Type 0 where
  made : es ≡ map (entry_at table) ps
  inside : (i : ℕ) → i < length ps → get_or ps i 0 < count
  other : (i : ℕ) → i < length ps → get_or table (3 * get_or ps i 0 + 2) 0 < 23

placed-more : (count : ℕ) (table : List ℕ) (j : ℕ) {ps : List ℕ} {es : List Entry} → j < count → get_or table (3 * j + 2) 0 < 23 → Placed count table ps es
    → Placed count table (j ∷ ps) (entry_at table j ∷ es)
placed-more count table j {ps} h o q = record { made = ap (λ (l : List Entry). entry_at table j ∷ l) q.made; inside = at; other = kind }
  where
    at : (i : ℕ) → i < suc (length ps) → get_or (j ∷ ps) i 0 < count
    at zero l = h
    at (suc i) l = q.inside i (omega arith)

    kind : (i : ℕ) → i < suc (length ps) → get_or table (3 * get_or (j ∷ ps) i 0 + 2) 0 < 23
    kind zero l = o
    kind (suc i) l = q.other i (omega arith)

module _ (count : ℕ) (table : List ℕ) where
  placed : (m j : ℕ) → count ≡ j + m → Placed count table (places j (tokens_from count table j)) (entries (space_at table j) (tokens_from count table j))
  unfolding places entries
  placed zero j e = rw (tokens_none count table j (omega arith)) record { made = refl; inside = λ i l. absurd (omega arith); other = λ i l. absurd (omega arith) }
  placed (suc m) j e =
      let h : j < count = omega arith in
      let t = token_at table j in
      let ts = tokens_from count table (j + 1) in
      let next = tokens-next count table j h in
      let q = placed m (j + 1) (omega arith) in
      let k = get_or table (3 * j + 2) 0 in
      by_lt k 23
      (λ l.
      let z = kind-other k l in
      let p = ap (places j) next ∙ places-other j nowhere t ts z ∙ ap (λ (i : ℕ). j ∷ places i ts) (sym (add-one j)) in
      let r = ap (entries (space_at table j)) next ∙ entries-other j (space_at table j) t ts z ∙ ap (λ (g : Span). entry_at table j ∷ entries g ts) (after-other table j l) in
      subst⁻¹ (λ (ps : List ℕ). Placed count table ps (entries (space_at table j) (tokens_from count table j))) p
      (subst⁻¹ (λ (es : List Entry). Placed count table (j ∷ places (j + 1) ts) es) r (placed-more count table j h l q)))
      (λ l.
      let z = kind-space k l in
      let p = ap (places j) next ∙ places-space j nowhere t ts z ∙ ap (λ (i : ℕ). places i ts) (sym (add-one j)) in
      let r = ap (entries (space_at table j)) next ∙ entries-space j (space_at table j) t ts z ∙ ap (λ (g : Span). entries g ts) (after-space table j l) in
      subst⁻¹ (λ (ps : List ℕ). Placed count table ps (entries (space_at table j) (tokens_from count table j))) p
      (subst⁻¹ (λ (es : List Entry). Placed count table (places (j + 1) ts) es) r q))

  all_placed : Placed count table (places 0 (token_list count table)) (entries nowhere (token_list count table))
  all_placed =
      let w : (k : ℕ) → space_word table 0 k ≡ 0 = λ k. space-first table 0 k refl in
      let q = placed count 0 (omega arith) in
      rw (tokens-all count table) (rw (w 0, w 1) at q)

  module _ (few : count ≤ 4096) (words : 3 * count ≤ length table) (K rest : List ℕ) (work : K ≡ work_words (token_list count table) ++ rest) (i : ℕ) (h : i < count_others (token_list count table)) where
    same : Same K i (work_words (token_list count table)) i
    same = rw work (same-append (work_words (token_list count table)) rest i (omega (arith, length-work (token_list count table))))

    row : Fields (work_words (token_list count table)) i 0 (places 0 (token_list count table)) (entries nowhere (token_list count table))
    unfolding work_words
    row =
        let a = length-places 0 (token_list count table) in
        let b = ap length all_placed.made ∙ length-map (places 0 (token_list count table)) (entry_at table) in
        fields 0 i (places 0 (token_list count table)) (entries nowhere (token_list count table)) (λ k l. omega (arith, all_placed.inside k l)) (omega arith) (omega arith)

    place_is : place_of K i ≡ get_or (places 0 (token_list count table)) i 0
    place_is = same.place ∙ row.place

    listed : i < length (places 0 (token_list count table))
    listed = omega (arith, length-places 0 (token_list count table))

    kind-is : get_or table (3 * place_of K i + 2) 0 < 23
    kind-is = rw place_is (all_placed.other i listed)

    there-is : get_elem? (entries nowhere (token_list count table)) i ≡ some (entry_at table (place_of K i))
    there-is = rw (all_placed.made, place_is) (get_map (entry_at table) (places 0 (token_list count table)) i 0 listed)

    entry-is : row.entry ≡ entry_at table (place_of K i)
    entry-is = let p = row.there in let q = there-is in cc

    close-is : after_close K i ≡ of_bracket (entry_at table (place_of K i)) (close_from zero (suc i) (drop (suc i) (entries nowhere (token_list count table))))
    close-is = same.close ∙ row.close ∙ rw (entry-is, zero-add i)

    sep-is : sep_of K i ≡ of_bracket (entry_at table (place_of K i)) (cond (has_sep zero (drop (suc i) (entries nowhere (token_list count table)))) 1 0)
    sep-is = same.sep ∙ row.sep ∙ rw entry-is

    pub recorded : Recorded count table K (entries nowhere (token_list count table)) i
    unfolding kind_of start_of len_of space_start space_len of_bracket
    recorded =
        let l : place_of K i < count = rw place_is (all_placed.inside i listed) in
        let p : is_placed table K i ≡ true = is_placed_lem table K i (omega (arith, ap length work, length-append (work_words (token_list count table)) rest, length-work (token_list count table))) (omega arith) in
        record {
          entry = entry_at table (place_of K i);
          there = there-is;
          inside = l;
          kind = rw p (sym (number-of_token (get_or table (3 * place_of K i + 2) 0) (omega (arith, kind-is))));
          start = rw p;
          len = rw p;
          space = rw p;
          space_size = rw p;
          close = λ text o. close-is ∙ rw o (close_of_lem text (entries nowhere (token_list count table)) i);
          sep = λ o. sep-is ∙ rw o;
          other = λ o. (close-is ∙ rw o, sep-is ∙ rw o);
          marks = same.marks ∙ row.marks;
          closer = same.closer ∙ row.closer;
        }
