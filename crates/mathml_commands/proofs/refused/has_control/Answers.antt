-- The bytes are looked through.
use Rattle.std.proofs.Common.{◌∙◌, rules, tests}
use Rattle.std.proofs.lemmas.Iterator.{YieldsList-from_slice}
use Rattle.std.proofs.lemmas.Iterator.Search.{any_from_yields_List}
use Rattle.mathml_rules.specs.Refusal.{control}
use Rattle.mathml_commands.proofs.Compared.{any-control}
use Rattle.mathml_commands.proofs.refused.has_control.Goals as goal

pub returns : goal.returns
returns c = any_from_yields_List control _ _ _ c.any.ensures.ran (YieldsList-from_slice c.args.s.now cc) (λ x b q k. search (rules, tests)) ∙ any-control _
