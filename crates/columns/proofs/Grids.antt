-- Rows of cells, cell by cell: after all of them the columns of lines and the cells that are kept are the definition's.
use mathlib.Core.Path.{◌≡◌, refl, ap, sym, ◌∙◌}
use mathlib.Core.List.{List, [], ◌∷◌, ◌++◌, append_assoc}
use mathlib.Core.Bool.{Bool, true, false, ◌&&◌, cond}
use Prim.Native.Nat.{ℕ, zero, suc, ◌+◌, ◌<◌}
use native.Mathlib.Omega.{arith}
use native.Mathlib.Numerals.{add-one}
use lib.ListN.{length, drop, get_or, set, replicate, length-append, length-replicate}
use lib.Seq.{set_at, drop-cons}
use Rattle.tree.specs.Tree.{Node, Nodes, end, ◌▸◌, ◌⧺◌, count}
use Rattle.reading.specs.Entries.{Entry}
use Rattle.reading.specs.Reading.{is_column_line, both_lines, line_cells, line_cols, keep_cells, join_rows}
use Rattle.columns.specs.Columns.{next}
use Rattle.columns.specs.Rows.{Cells, none, cell, Grid, row, joined}
use Rattle.columns.proofs.Cells.{next_last, next_more}

pub cells_count : {n : ℕ} {l : Nodes} → Cells n l → count l ≡ n
cells_count none = refl
cells_count (cell r) = ap suc (cells_count r)

both-assoc : (a b c : List Bool) → both_lines (both_lines a b) c ≡ both_lines a (both_lines b c)
unfolding both_lines
both-assoc [] b c = refl
both-assoc (x ∷ a) [] c = refl
both-assoc (x ∷ a) (y ∷ b) [] = refl
both-assoc (true ∷ a) (y ∷ b) (z ∷ c) = ap (λ (r : List Bool). (y && z) ∷ r) (both-assoc a b c)
both-assoc (false ∷ a) (y ∷ b) (z ∷ c) = ap (λ (r : List Bool). false ∷ r) (both-assoc a b c)

both-ones : (n : ℕ) (m : List Bool) → length m ≡ n → both_lines (replicate n true) m ≡ m
unfolding both_lines
both-ones zero [] e = refl
both-ones zero (b ∷ m) e = absurd (omega arith)
both-ones (suc n) [] e = refl
both-ones (suc n) (b ∷ m) e = ap (λ (r : List Bool). b ∷ r) (both-ones n m (omega arith))

both_long : (n : ℕ) (a b : List Bool) → length a ≡ n → length b ≡ n → length (both_lines a b) ≡ n
unfolding both_lines
both_long n [] b e f = e
both_long n (x ∷ a) [] e f = absurd (omega arith)
both_long zero (x ∷ a) (y ∷ b) e f = absurd (omega arith)
both_long (suc n) (x ∷ a) (y ∷ b) e f = ap suc (both_long n a b (omega arith) (omega arith))

mark-one : (p : List Bool) (j : ℕ) (b c : Bool) (r : List Bool) → length p ≡ j
    → cond c (p ++ (b ∷ r)) (set (p ++ (b ∷ r)) j false) ≡ p ++ ((b && c) ∷ r)
mark-one p j true true r e = refl
mark-one p j false true r e = refl
mark-one p j true false r e = set_at p true r false j e
mark-one p j false false r e = set_at p false r false j e

module _ (X : List ℕ) (es : List Entry) where
  abbrev line : Node → Bool
  line x = is_column_line X es x

  -- the mask after the cells l, of which the first is in the column j
  unfoldable pub marks : ℕ → List Bool → ℕ → Nodes → List Bool
  marks cols m j end = m
  marks cols m j (x ▸ l) = marks cols (cond (line x) m (set m j false)) (next cols j) l

  marks-row : (cols j : ℕ) (p q : List Bool) (x : Node) (r rest : Nodes) → length p ≡ j → length q ≡ count (x ▸ r) → j + count (x ▸ r) ≡ cols
      → marks cols (p ++ q) j ((x ▸ r) ⧺ rest) ≡ marks cols (p ++ both_lines q (line_cells X es (x ▸ r))) 0 rest
  unfolding marks both_lines line_cells
  marks-row cols j p [] x r rest e f g = absurd (omega arith)
  marks-row cols j p (b ∷ (c ∷ q)) x end rest e f g = absurd (omega arith)
  marks-row cols j p (b ∷ []) x end rest e f g =
      ap (λ (k : ℕ). marks cols (cond (line x) (p ++ (b ∷ [])) (set (p ++ (b ∷ [])) j false)) k rest) (next_last cols j (omega arith))
      ∙ ap (λ (m : List Bool). marks cols m 0 rest) (mark-one p j b (line x) [] e)
  marks-row cols j p (b ∷ q) x (y ▸ r) rest e f g =
      let s : List Bool = (b && line x) ∷ [] in
      ap (λ (k : ℕ). marks cols (cond (line x) (p ++ (b ∷ q)) (set (p ++ (b ∷ q)) j false)) k ((y ▸ r) ⧺ rest)) (next_more cols j (λ z. omega arith))
      ∙ ap (λ (m : List Bool). marks cols m (j + 1) ((y ▸ r) ⧺ rest)) (mark-one p j b (line x) q e ∙ sym (append_assoc p s q))
      ∙ marks-row cols (j + 1) (p ++ s) q y r rest (length-append p s ∙ ap (λ (k : ℕ). k + 1) e) (omega arith) (omega arith)
      ∙ ap (λ (m : List Bool). marks cols m 0 rest) (append_assoc p s (both_lines q (line_cells X es (y ▸ r))))

  whole_row : (cols : ℕ) (m : List Bool) (r rest : Nodes) → 0 < cols → length m ≡ cols → count r ≡ cols
      → marks cols m 0 (r ⧺ rest) ≡ marks cols (both_lines m (line_cells X es r)) 0 rest
  whole_row cols m end rest z e f = absurd (omega arith)
  whole_row cols m (x ▸ r) rest z e f = marks-row cols 0 [] m x r rest refl (omega arith) (omega arith)

  cells-long : (r : Nodes) → length (line_cells X es r) ≡ count r
  unfolding line_cells
  cells-long end = refl
  cells-long (x ▸ r) = ap suc (cells-long r)

  pub cols_long : {cols : ℕ} (r : Nodes) (rs : List Nodes) → Grid cols (r ∷ rs) → length (line_cols X es r rs) ≡ cols
  unfolding line_cols
  cols_long r [] (row c none) = cells-long r ∙ cells_count c
  cols_long {cols} r (s ∷ rs) (row c g) = both_long cols (line_cells X es r) (line_cols X es s rs) (cells-long r ∙ cells_count c) (cols_long s rs g)

  marks-rows : {cols : ℕ} (m : List Bool) (r : Nodes) (rs : List Nodes) → 0 < cols → length m ≡ cols → Grid cols (r ∷ rs)
      → marks cols m 0 (joined (r ∷ rs)) ≡ both_lines m (line_cols X es r rs)
  unfolding join_rows line_cols marks
  marks-rows {cols} m r [] z e (row c none) = whole_row cols m r end z e (cells_count c)
  marks-rows {cols} m r (s ∷ rs) z e (row c g) =
      whole_row cols m r (joined (s ∷ rs)) z e (cells_count c)
      ∙ marks-rows (both_lines m (line_cells X es r)) s rs z (both_long cols m (line_cells X es r) e (cells-long r ∙ cells_count c)) g
      ∙ both-assoc m (line_cells X es r) (line_cols X es s rs)

  pub marks-all : {cols : ℕ} (r : Nodes) (rs : List Nodes) → 0 < cols → Grid cols (r ∷ rs)
      → marks cols (replicate cols true) 0 (joined (r ∷ rs)) ≡ line_cols X es r rs
  marks-all {cols} r rs z g =
      marks-rows (replicate cols true) r rs z (length-replicate cols true) g ∙ both-ones cols (line_cols X es r rs) (cols_long r rs g)

-- the cells kept of l, of which the first is in the column j
unfoldable pub keep : ℕ → List Bool → ℕ → Nodes → Nodes
keep cols m j end = end
keep cols m j (x ▸ l) = cond (get_or m j false) (keep cols m (next cols j) l) (x ▸ keep cols m (next cols j) l)

cells-cons : (b : Bool) (q : List Bool) (x : Node) (l : Nodes) → keep_cells (b ∷ q) (x ▸ l) ≡ cond b (keep_cells q l) (x ▸ keep_cells q l)
unfolding keep_cells
cells-cons true q x l = refl
cells-cons false q x l = refl

cells-none : (q : List Bool) → keep_cells q end ≡ end
unfolding keep_cells
cells-none [] = refl
cells-none (b ∷ q) = refl

pick_join : (b : Bool) (x : Node) (l r : Nodes) → cond b (l ⧺ r) (x ▸ (l ⧺ r)) ≡ cond b l (x ▸ l) ⧺ r
pick_join true x l r = refl
pick_join false x l r = refl

module _ (cols : ℕ) (m : List Bool) (long : length m ≡ cols) (rest : Nodes) where
  abbrev Tail : ℕ → Nodes → Type 0
  Tail j r = keep cols m (next cols j) (r ⧺ rest) ≡ keep_cells (drop (suc j) m) r ⧺ keep cols m 0 rest

  keep_one : (j : ℕ) (x : Node) (r : Nodes) → j < cols → Tail j r
      → keep cols m j ((x ▸ r) ⧺ rest) ≡ keep_cells (drop j m) (x ▸ r) ⧺ keep cols m 0 rest
  unfolding keep
  keep_one j x r h t =
      let l : Nodes = keep_cells (drop (suc j) m) r in
      ap (λ (k : Nodes). cond (get_or m j false) k (x ▸ k)) t
      ∙ pick_join (get_or m j false) x l (keep cols m 0 rest)
      ∙ ap (λ (k : Nodes). k ⧺ keep cols m 0 rest) (sym (ap (λ (q : List Bool). keep_cells q (x ▸ r)) (drop-cons m j false (omega arith)) ∙ cells-cons (get_or m j false) (drop (suc j) m) x r))

  keep-tail : (j : ℕ) (r : Nodes) → j + 1 + count r ≡ cols → Tail j r
  keep-tail j end e =
      ap (λ (k : ℕ). keep cols m k rest) (next_last cols j (omega arith)) ∙ ap (λ (k : Nodes). k ⧺ keep cols m 0 rest) (sym (cells-none (drop (suc j) m)))
  keep-tail j (y ▸ r) e =
      ap (λ (k : ℕ). keep cols m k ((y ▸ r) ⧺ rest)) (next_more cols j (λ z. omega arith))
      ∙ rw add-one (keep_one (suc j) y r (omega arith) (keep-tail (suc j) r (omega arith)))

  keep_row : (r : Nodes) → count r ≡ cols → 0 < cols → keep cols m 0 (r ⧺ rest) ≡ keep_cells m r ⧺ keep cols m 0 rest
  keep_row end e z = absurd (omega arith)
  keep_row (x ▸ r) e z = keep_one 0 x r z (keep-tail 0 r (omega arith))

pub keep-rows : {cols : ℕ} (m : List Bool) {rs : List Nodes} → 0 < cols → length m ≡ cols → Grid cols rs → keep cols m 0 (joined rs) ≡ join_rows (keep_cells m) rs
unfolding join_rows keep
keep-rows m z e none = refl
keep-rows {cols} m z e (row {r} {rs} c g) =
    keep_row cols m e (joined rs) r (cells_count c) z ∙ ap (λ (k : Nodes). keep_cells m r ⧺ k) (keep-rows m z e g)
