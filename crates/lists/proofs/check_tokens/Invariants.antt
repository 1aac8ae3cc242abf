-- `check_tokens`: what is refused, and what is counted, from token i on.
use Prim.Native.Nat.{◌≤◌, ◌+◌}
use mathlib.Core.Path.{◌≡◌}
use mathlib.Core.Bool.{false}
use Rattle.tokens.specs.Refusals.{tokens_refusal}
use Rattle.tokens.specs.Table.{token_list, count_others}
use Rattle.tokens.proofs.TokenList.{tokens_from}
use Rattle.tokens.proofs.Tokens.{refusal_from}
use Rattle.lists.proofs.check_tokens.Given as goal

abbrev pub invariant-loop-i : goal.invariant-loop-i
invariant-loop-i l = (l.others ≤ l.i) × (tokens_refusal l.size false l.count l.table ≡ refusal_from l.size l.count l.table l.after l.i) × (count_others (token_list l.count l.table) ≡ l.others + count_others (tokens_from l.count l.table l.i))
