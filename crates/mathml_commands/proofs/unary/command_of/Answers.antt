-- A spelling of ten bytes, the key of another one, or none.
use mathlib.Core.Path.{refl, ap, sym, ◌∙◌}
use mathlib.Core.Logic.{inl, inr, ⊎_elim}
use native.Mathlib.Omega.{arith}
use Rattle.tokens.specs.Bytes.{bytes, same}
use Rattle.lexing.proofs.Moves.{same-is}
use Rattle.mathml_forms.specs.Keys.{key, ascii, key_of}
use Rattle.mathml_commands.specs.Spelled.{command_of, command_in, rows}
use Rattle.mathml_commands.proofs.Compared.{same-turned}
use Rattle.mathml_commands.proofs.Keyed.{spelled, other_key}
use Rattle.mathml_commands.proofs.Spellings.{no_command}
use Rattle.mathml_commands.proofs.unary.command_of.Goals as goal

pub returns-then-same_bytes : goal.returns-then-same_bytes
unfolding command_of command_in rows same
returns-then-same_bytes c = ap command_of (sym (same-is c.args.s.now (bytes "underbrace") (sym c.same_bytes.ensures ∙ c.if-same_bytes.true)))

pub returns-in-513587443 : goal.returns-in-513587443
unfolding command_of command_in rows same key_of key ascii
returns-in-513587443 c = ap command_of (spelled c.args.s.now (bytes "sqrt") _ 513587443 c.key_of.ensures c.in-513587443.is refl (omega arith))

pub returns-in-8136219668707 : goal.returns-in-8136219668707
unfolding command_of command_in rows same key_of key ascii
returns-in-8136219668707 c = ap command_of (spelled c.args.s.now (bytes "cancel") _ 8136219668707 c.key_of.ensures c.in-8136219668707.is refl (omega arith))

pub returns-in-3993953 : goal.returns-in-3993953
unfolding command_of command_in rows same key_of key ascii
returns-in-3993953 c = ⊎_elim (λ k. ap command_of (spelled c.args.s.now (bytes "Abs") _ 3993921 c.key_of.ensures k refl (omega arith))) (λ k. ap command_of (spelled c.args.s.now (bytes "abs") _ 3993953 c.key_of.ensures k refl (omega arith))) c.in-3993953.is

pub returns-in-498907118 : goal.returns-in-498907118
unfolding command_of command_in rows same key_of key ascii
returns-in-498907118 c = ap command_of (spelled c.args.s.now (bytes "norm") _ 498907118 c.key_of.ensures c.in-498907118.is refl (omega arith))

pub returns-in-65195996774 : goal.returns-in-65195996774
unfolding command_of command_in rows same key_of key ascii
returns-in-65195996774 c = ap command_of (spelled c.args.s.now (bytes "floor") _ 65195996774 c.key_of.ensures c.in-65195996774.is refl (omega arith))

pub returns-in-496661219 : goal.returns-in-496661219
unfolding command_of command_in rows same key_of key ascii
returns-in-496661219 c = ap command_of (spelled c.args.s.now (bytes "ceil") _ 496661219 c.key_of.ensures c.in-496661219.is refl (omega arith))

pub returns-in-4010216 : goal.returns-in-4010216
unfolding command_of command_in rows same key_of key ascii
returns-in-4010216 c = ap command_of (spelled c.args.s.now (bytes "hat") _ 4010216 c.key_of.ensures c.in-4010216.is refl (omega arith))

pub returns-in-3977442 : goal.returns-in-3977442
unfolding command_of command_in rows same key_of key ascii
returns-in-3977442 c = ⊎_elim (λ k. ap command_of (spelled c.args.s.now (bytes "bar") _ 3977442 c.key_of.ensures k refl (omega arith))) (λ k. ap command_of (spelled c.args.s.now (bytes "overline") _ 129402961454005103 c.key_of.ensures k refl (omega arith))) c.in-3977442.is

pub returns-in-3732214 : goal.returns-in-3732214
unfolding command_of command_in rows same key_of key ascii
returns-in-3732214 c = ap command_of (spelled c.args.s.now (bytes "vec") _ 3732214 c.key_of.ensures c.in-3732214.is refl (omega arith))

pub returns-in-4012004 : goal.returns-in-4012004
unfolding command_of command_in rows same key_of key ascii
returns-in-4012004 c = ap command_of (spelled c.args.s.now (bytes "dot") _ 4012004 c.key_of.ensures c.in-4012004.is refl (omega arith))

pub returns-in-513536612 : goal.returns-in-513536612
unfolding command_of command_in rows same key_of key ascii
returns-in-513536612 c = ap command_of (spelled c.args.s.now (bytes "ddot") _ 513536612 c.key_of.ensures c.in-513536612.is refl (omega arith))

pub returns-in-61683217652 : goal.returns-in-61683217652
unfolding command_of command_in rows same key_of key ascii
returns-in-61683217652 c = ap command_of (spelled c.args.s.now (bytes "tilde") _ 61683217652 c.key_of.ensures c.in-61683217652.is refl (omega arith))

pub returns-in-1002299847179119 : goal.returns-in-1002299847179119
unfolding command_of command_in rows same key_of key ascii
returns-in-1002299847179119 c = ⊎_elim (λ k. ap command_of (spelled c.args.s.now (bytes "overarc") _ 1002299847179119 c.key_of.ensures k refl (omega arith))) (λ k. ap command_of (spelled c.args.s.now (bytes "overparen") _ 17207070066824805231 c.key_of.ensures k refl (omega arith))) c.in-1002299847179119.is

pub returns-in-30325 : goal.returns-in-30325
unfolding command_of command_in rows same key_of key ascii
returns-in-30325 c = ⊎_elim (λ k. ap command_of (spelled c.args.s.now (bytes "ul") _ 30325 c.key_of.ensures k refl (omega arith))) (λ k. ap command_of (spelled c.args.s.now (bytes "underline") _ 16563579066112358261 c.key_of.ensures k refl (omega arith))) c.in-30325.is

pub returns-in-7895160500597 : goal.returns-in-7895160500597
unfolding command_of command_in rows same key_of key ascii
returns-in-7895160500597 c = ap command_of (spelled c.args.s.now (bytes "ubrace") _ 7895160500597 c.key_of.ensures c.in-7895160500597.is refl (omega arith))

pub returns-in-7895160500591 : goal.returns-in-7895160500591
unfolding command_of command_in rows same key_of key ascii
returns-in-7895160500591 c = ⊎_elim (λ k. ap command_of (spelled c.args.s.now (bytes "obrace") _ 7895160500591 c.key_of.ensures k refl (omega arith))) (λ k. ap command_of (spelled c.args.s.now (bytes "overbrace") _ 16557351634143378287 c.key_of.ensures k refl (omega arith))) c.in-7895160500591.is

pub returns-in_default : goal.returns-in_default
unfolding command_of rows key_of key ascii
returns-in_default c =
    let s = c.args.s.now in
    let r = c.in_default.in_default-own.rest in
    no_command s rows (
      other_key s (bytes "sqrt") _ 513587443 c.key_of.ensures r.0.0.0.0.0.0.0.0.0.0.0.0.0.0.0.1 refl,
      (
        other_key s (bytes "cancel") _ 8136219668707 c.key_of.ensures r.0.0.0.0.0.0.0.0.0.0.0.0.0.0.1 refl,
        (
          other_key s (bytes "abs") _ 3993953 c.key_of.ensures (λ k. r.0.0.0.0.0.0.0.0.0.0.0.0.0.1 (inr k)) refl,
          (
            other_key s (bytes "Abs") _ 3993921 c.key_of.ensures (λ k. r.0.0.0.0.0.0.0.0.0.0.0.0.0.1 (inl k)) refl,
            (
              other_key s (bytes "norm") _ 498907118 c.key_of.ensures r.0.0.0.0.0.0.0.0.0.0.0.0.1 refl,
              (
                other_key s (bytes "floor") _ 65195996774 c.key_of.ensures r.0.0.0.0.0.0.0.0.0.0.0.1 refl,
                (
                  other_key s (bytes "ceil") _ 496661219 c.key_of.ensures r.0.0.0.0.0.0.0.0.0.0.1 refl,
                  (
                    other_key s (bytes "hat") _ 4010216 c.key_of.ensures r.0.0.0.0.0.0.0.0.0.1 refl,
                    (
                      other_key s (bytes "bar") _ 3977442 c.key_of.ensures (λ k. r.0.0.0.0.0.0.0.0.1 (inl k)) refl,
                      (
                        other_key s (bytes "overline") _ 129402961454005103 c.key_of.ensures (λ k. r.0.0.0.0.0.0.0.0.1 (inr k)) refl,
                        (
                          other_key s (bytes "vec") _ 3732214 c.key_of.ensures r.0.0.0.0.0.0.0.1 refl,
                          (
                            other_key s (bytes "dot") _ 4012004 c.key_of.ensures r.0.0.0.0.0.0.1 refl,
                            (
                              other_key s (bytes "ddot") _ 513536612 c.key_of.ensures r.0.0.0.0.0.1 refl,
                              (
                                other_key s (bytes "tilde") _ 61683217652 c.key_of.ensures r.0.0.0.0.1 refl,
                                (
                                  other_key s (bytes "overarc") _ 1002299847179119 c.key_of.ensures (λ k. r.0.0.0.1 (inl k)) refl,
                                  (
                                    other_key s (bytes "overparen") _ 17207070066824805231 c.key_of.ensures (λ k. r.0.0.0.1 (inr k)) refl,
                                    (
                                      other_key s (bytes "ul") _ 30325 c.key_of.ensures (λ k. r.0.0.1 (inl k)) refl,
                                      (
                                        other_key s (bytes "underline") _ 16563579066112358261 c.key_of.ensures (λ k. r.0.0.1 (inr k)) refl,
                                        (
                                          other_key s (bytes "ubrace") _ 7895160500597 c.key_of.ensures r.0.1 refl,
                                          (
                                            same-turned (bytes "underbrace") s ∙ sym c.same_bytes.ensures ∙ c.if-same_bytes.false,
                                            (
                                              other_key s (bytes "obrace") _ 7895160500591 c.key_of.ensures (λ k. r.1 (inl k)) refl,
                                              (
                                                other_key s (bytes "overbrace") _ 16557351634143378287 c.key_of.ensures (λ k. r.1 (inr k)) refl,
                                                tt,
                                              ),
                                            ),
                                          ),
                                        ),
                                      ),
                                    ),
                                  ),
                                ),
                              ),
                            ),
                          ),
                        ),
                      ),
                    ),
                  ),
                ),
              ),
            ),
          ),
        ),
      ),
    )
