-- The records of a list have no mark and no closer.
use Prim.Native.Nat.{ℕ, ◌-◌, ◌*◌, ◌≤◌}
use mathlib.Core.Path.{◌≡◌, sym, ◌∙◌, subst}
use mathlib.Core.Bool.{false}
use mathlib.Core.List.{List, ◌++◌}
use native.Mathlib.Omega.{arith}
use lib.ListN.{length, replicate, get_or-replicate}
use Rattle.tokens.specs.Table.{token_list, count_others}
use Rattle.tree.specs.Tree.{nowhere}
use Rattle.bounds.proofs.Theorems.{entries-count}
use Rattle.entries.specs.Prepared.{work_words}
use Rattle.reading_words.specs.Meet.{Marks}
use Rattle.reading_words.proofs.Records as records
use Rattle.closers_pass.specs.Top.{Blank}

pub blank-records : (text table : List ℕ) (count : ℕ) (few : count ≤ 4096) (words : 3 * count ≤ length table) (K rest : List ℕ)
    → K ≡ work_words (token_list count table) ++ rest → Blank (count_others (token_list count table)) K
blank-records text table count few words K rest work =
    let n = count_others (token_list count table) in
    let z : n - n ≡ 0 = omega arith in
    record {
      marks =
          subst (λ (m : ℕ). Marks n K (replicate (3 * m) false)) (entries-count nowhere (token_list count table))
          (records.blank text table count few words K rest work);
      noted = record { words = λ i h. records.no_closer text table count few words K rest work i h ∙ sym (rw (get_or-replicate n i n n h) z) };
    }
