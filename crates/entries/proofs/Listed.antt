-- The tokens of the words of tokens alone.
use Rattle.std.proofs.Common.{◌≡◌, ℕ, zero, suc, ◌+◌, ◌*◌, ◌/◌, ◌≤◌, List, length, take, drop, get_or, refl, ap, ◌∙◌, arith}
use Rattle.std.proofs.lemmas.List.{get_or-take, drop-take, length-take-le}
use Rattle.tokens.specs.Table.{token_list}
use Rattle.entries.specs.Prepared.{all_tokens}

token_list-take : (count : ℕ) (table : List ℕ) → token_list count (take (3 * count) table) ≡ token_list count table
unfolding token_list
token_list-take zero table = refl
token_list-take (suc count) table =
    let n : 3 * suc count ≡ 3 + 3 * count = omega arith in
    let at = λ (k : ℕ). get_or-take (3 * suc count) table k 0 in
    let a : get_or (take (3 * suc count) table) 0 0 ≡ get_or table 0 0 = at 0 (omega arith) in
    let b : get_or (take (3 * suc count) table) 1 0 ≡ get_or table 1 0 = at 1 (omega arith) in
    let c : get_or (take (3 * suc count) table) 2 0 ≡ get_or table 2 0 = at 2 (omega arith) in
    let d : drop 3 (take (3 * suc count) table) ≡ take (3 * count) (drop 3 table) = ap (λ m. drop 3 (take m table)) n ∙ drop-take 3 (3 * count) table in
    rw (a, b, c, d, token_list-take count (drop 3 table))

pub listed : (count : ℕ) (table : List ℕ) → 3 * count ≤ length table → all_tokens (take (3 * count) table) ≡ token_list count table
listed count table h =
    let n : length (take (3 * count) table) / 3 ≡ count = omega (arith, length-take-le (3 * count) table h) in
    ap (λ k. token_list k (take (3 * count) table)) n ∙ token_list-take count table
