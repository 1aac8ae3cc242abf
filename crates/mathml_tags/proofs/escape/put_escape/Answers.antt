-- A blank.
use Rattle.std.proofs.Common.{arith}
use Rattle.writer.proofs.Puts.{put_as}
use Rattle.mathml_tags.proofs.Escaping.{blank}
use Rattle.mathml_tags.proofs.escape.put_escape.Goals as goal

pub returns-in-9 : goal.returns-in-9
returns-in-9 c = put_as (blank _ (λ a b d e. grind arith)) c.put_bytes-in-9.ensures
