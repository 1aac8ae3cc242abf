-- Records in which marks and closers are noted: each field, and the words behind them.
use Prim.Native.Nat.{ℕ, zero, suc, ◌+◌, ◌*◌, ◌-◌, ◌≤◌, ◌<◌}
use mathlib.Core.Path.{◌≡◌, refl, sym, ◌∙◌}
use mathlib.Core.Bool.{Bool, false}
use mathlib.Core.List.{List}
use native.Mathlib.Omega.{arith}
use lib.ListN.{length, get_or}
use lib.Seq.{ext_get_or}
use Rattle.tokens.proofs.Cases.{by_lt, by_eq}
use Rattle.records.specs.Record.{record_words, closer_size, place_of, after_close, sep_of, marks_of, closer_of, Kept}
use Rattle.records.proofs.Same.{Same, words_same}
use Rattle.stores.proofs.Stores.{kept_refl, kept_trans, marks-kept, marks-same, marks-other, marks-length, marks-beyond, closer-kept, closer-same, closer-other, closer-beyond, closer-of_marks, marks-of_closer}
use Rattle.reading_words.specs.Entry.{marks_word}
use Rattle.reading_words.proofs.Attempts.{marks-small}
use Rattle.closers_pass.specs.Call.{noted}

module _ (n : ℕ) (m : List Bool) (c K : List ℕ) where
  abbrev pub marks_at : ℕ → ℕ
  marks_at i = marks_word (get_or m (3 * i) false) (get_or m (3 * i + 1) false) (get_or m (3 * i + 2) false)

  pub noted-kept : (k : ℕ) → Kept K (noted k n m c K)
  unfolding noted
  noted-kept zero = kept_refl K
  noted-kept (suc k) = kept_trans (noted-kept k) (kept_trans (marks-kept _ k _) (closer-kept _ k _))

  pub noted-marks : (k i : ℕ) → i < k → record_words k ≤ length K → marks_of (noted k n m c K) i ≡ marks_at i
  unfolding noted
  noted-marks zero i h w = absurd (omega arith)
  noted-marks (suc k) i h w =
      marks-of_closer _ k _ i
      ∙ by_eq i k
      (λ e. rw e (marks-same (noted k n m c K) k (marks_at k) (omega (arith, (noted-kept k).long)) (marks-small (get_or m (3 * k) false) (get_or m (3 * k + 1) false) (get_or m (3 * k + 2) false))))
      (λ d. marks-other (noted k n m c K) k (marks_at k) i d ∙ noted-marks k i (omega (arith, d)) (omega arith))

  pub noted-closer : (k i : ℕ) → i < k → record_words k ≤ length K → n < closer_size → closer_of (noted k n m c K) i ≡ n - get_or c i n
  unfolding noted
  noted-closer zero i h w s = absurd (omega arith)
  noted-closer (suc k) i h w s =
      by_eq i k
      (λ e. rw e (closer-same _ k (n - get_or c k n) (omega (arith, marks-length (noted k n m c K) k (marks_at k), (noted-kept k).long)) (omega arith)))
      (λ d. closer-other _ k _ i d ∙ closer-of_marks (noted k n m c K) k (marks_at k) i ∙ noted-closer k i (omega (arith, d)) (omega arith) s)

  pub noted-beyond : (k x : ℕ) → record_words k ≤ x → get_or (noted k n m c K) x 0 ≡ get_or K x 0
  unfolding noted
  noted-beyond zero x h = refl
  noted-beyond (suc k) x h = closer-beyond _ k _ x (omega arith) ∙ marks-beyond (noted k n m c K) k (marks_at k) x (omega arith) ∙ noted-beyond k x (omega arith)

  -- the words with these fields are these
  pub noted-is : (L : List ℕ) → record_words n ≤ length K → n < closer_size → length L ≡ length K
      → ((i : ℕ) → i < n → (place_of L i ≡ place_of K i) × (after_close L i ≡ after_close K i) × (sep_of L i ≡ sep_of K i))
      → ((i : ℕ) → i < n → (marks_of L i ≡ marks_at i) × (closer_of L i ≡ n - get_or c i n))
      → ((x : ℕ) → record_words n ≤ x → get_or L x 0 ≡ get_or K x 0)
      → L ≡ noted n n m c K
  noted-is L w s l old new behind =
      ext_get_or 0 L (noted n n m c K) (l ∙ sym (noted-kept n).long)
      (λ x h. by_lt x (record_words n) (words_same L (noted n n m c K) n same x) (λ b. behind x b ∙ sym (noted-beyond n x b)))
    where
      same : (i : ℕ) → i < n → Same L i (noted n n m c K) i
      same i h =
          let a = old i h in
          let b = new i h in
          let k = noted-kept n in
          record {
            place = a.0 ∙ sym (k.place i);
            close = a.1 ∙ sym (k.close i);
            sep = a.2 ∙ sym (k.sep i);
            marks = b.0 ∙ sym (noted-marks n i h w);
            closer = b.1 ∙ sym (noted-closer n i h w s);
          }
