-- `count_entries`: the tokens before i are counted.
use Rattle.std.proofs.Common.{◌+◌, ◌/◌, ◌≤◌, ◌≡◌, length}
use Rattle.tokens.specs.Table.{count_others}
use Rattle.tokens.proofs.TokenList.{tokens_from}
use Rattle.entries.specs.Prepared.{all_tokens}
use Rattle.entries.proofs.count_entries.Given as goal

abbrev pub invariant-loop-i : goal.invariant-loop-i
invariant-loop-i l = (l.n ≤ l.i) × (count_others (all_tokens l.tokens) ≡ l.n + count_others (tokens_from (length l.tokens / 3) l.tokens l.i))
