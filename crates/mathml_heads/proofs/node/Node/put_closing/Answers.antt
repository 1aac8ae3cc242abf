-- What closes a node, by its kind.
use native.Mathlib.Omega.{arith}
use Rattle.mathml_rules.specs.Pieces.{Piece}
use Rattle.writer.proofs.Puts.{none, put_as}
use Rattle.mathml_heads.proofs.Runs.{one}
use Rattle.mathml_heads.proofs.Closings.{close-signed, close-ssigned, close-unary, close-sfunc, close-binary, close-simple, close-func, close-group, close-matrix, close-cell, close-frac, close-leaf}
use Rattle.mathml_heads.proofs.node.Node.put_closing.Goals as goal

pub returns-in-8 : goal.returns-in-8
returns-in-8 c = put_as (close-signed _ _ _ _ _ c.left_text-s.ensures c.in-8.is) (one (Piece.end 8) c.put_end.ensures)

pub returns-in-9 : goal.returns-in-9
returns-in-9 c = put_as (close-ssigned _ _ _ _ _ c.left_text-s.ensures c.in-9.is) (one (Piece.end 9) c.put_end-in-9.ensures)

pub returns-in-10 : goal.returns-in-10
returns-in-10 c = put_as (close-unary _ _ _ _ _ c.left_text-s.ensures c.in-10.is) c.put_finish_unary.ensures

pub returns-in-11 : goal.returns-in-11
returns-in-11 c = put_as (close-sfunc _ _ _ _ _ c.left_text-s.ensures c.in-11.is) (one (Piece.end 11) c.put_end-in-11.ensures)

pub returns-in-12 : goal.returns-in-12
returns-in-12 c = put_as (close-binary _ _ _ _ _ c.left_text-s.ensures c.binary_element.ensures c.in-12.is) (one (Piece.end _) c.put_end-in-12.ensures)

pub returns-in-13 : goal.returns-in-13
returns-in-13 c = put_as (close-simple _ _ _ _ _ c.left_text-s.ensures c.word.ensures c.in-13.is) c.put_finish_script.ensures

pub returns-in-14 : goal.returns-in-14
returns-in-14 c = put_as (close-func _ _ _ _ _ c.left_text-s.ensures c.in-14.is) (one (Piece.end 14) c.put_end-in-14.ensures)

pub returns-in-15 : goal.returns-in-15
returns-in-15 c = put_as (close-group _ _ _ _ _ c.left_text-s.ensures c.right_text.ensures c.in-15.is) c.put_group.ensures

pub returns-in-16 : goal.returns-in-16
returns-in-16 c = put_as (close-matrix _ _ _ _ _ c.left_text-s.ensures c.right_text-in-16.ensures c.in-16.is) c.put_matrix.ensures

pub returns-in-17 : goal.returns-in-17
returns-in-17 c = put_as (close-cell _ _ _ _ _ c.left_text-s.ensures c.in-17.is) (one (Piece.end 17) c.put_end-in-17.ensures)

pub returns-in-18 : goal.returns-in-18
returns-in-18 c = put_as (close-frac _ _ _ _ _ c.left_text-s.ensures c.in-18.is) (one (Piece.end 18) c.put_end-in-18.ensures)

pub returns-in_default : goal.returns-in_default
returns-in_default c = let r = c.in_default.in_default-own.rest in put_as (close-leaf _ _ _ _ _ c.left_text-s.ensures r.0.0.0.0.0.0.0.0.0.0.1 r.0.0.0.0.0.0.0.0.0.1 r.0.0.0.0.0.0.0.0.1 r.0.0.0.0.0.0.0.1 r.0.0.0.0.0.0.1 r.0.0.0.0.0.1 r.0.0.0.0.1 r.0.0.0.1 r.0.0.1 r.0.1 r.1) (none _ _ (omega arith) (omega arith))
