-- What opens a node, by its kind.
use mathlib.Core.List.{[]}
use Rattle.mathml_rules.specs.Pieces.{Piece}
use Rattle.writer.proofs.Puts.{put_as}
use Rattle.mathml_heads.proofs.Runs.{one}
use Rattle.mathml_heads.proofs.Openings.{open_number, open_text, open_ident, open_operator, open_sign, open_space, open_symbol, open_signed, open_ssigned, open_unary, open_sfunc, open_binary, open_simple, open_func, open_group, open_matrix, open_cell, open_frac, open_missing}
use Rattle.mathml_heads.proofs.node.Node.put_opening.Goals as goal

pub returns-in-1 : goal.returns-in-1
returns-in-1 c = put_as (open_number _ _ _ _ _ c.left_text-s.ensures c.in-1.is) c.put_leaf.ensures

pub returns-in-2 : goal.returns-in-2
returns-in-2 c = put_as (open_text _ _ _ _ _ c.left_text-s.ensures c.in-2.is) c.put_leaf-in-2.ensures

pub returns-in-3 : goal.returns-in-3
returns-in-3 c = put_as (open_ident _ _ _ _ _ c.left_text-s.ensures c.in-3.is) c.put_leaf-in-3.ensures

pub returns-in-4 : goal.returns-in-4
returns-in-4 c = put_as (open_operator _ _ _ _ _ c.left_text-s.ensures c.in-4.is) c.put_leaf-in-4.ensures

pub returns-in-5 : goal.returns-in-5
returns-in-5 c = put_as (open_sign _ _ _ _ _ c.left_text-s.ensures c.in-5.is) c.put_drawn.ensures

pub returns-in-6 : goal.returns-in-6
returns-in-6 c = put_as (open_space _ _ _ _ _ c.left_text-s.ensures c.in-6.is) c.put_empty.ensures

pub returns-in-7 : goal.returns-in-7
returns-in-7 c = put_as (open_symbol _ _ _ _ _ c.left_text-s.ensures c.word-held.ensures c.in-7.is) c.put_symbol.ensures

pub returns-in-8 : goal.returns-in-8
returns-in-8 c = put_as (open_signed _ _ _ _ _ c.left_text-s.ensures c.in-8.is) c.put_signed.ensures

pub returns-in-9 : goal.returns-in-9
returns-in-9 c = put_as (open_ssigned _ _ _ _ _ c.left_text-s.ensures c.in-9.is) c.put_signed-in-9.ensures

pub returns-in-10 : goal.returns-in-10
returns-in-10 c = put_as (open_unary _ _ _ _ _ c.left_text-s.ensures c.in-10.is) c.put_begin_unary.ensures

pub returns-in-11 : goal.returns-in-11
returns-in-11 c = put_as (open_sfunc _ _ _ _ _ c.left_text-s.ensures c.in-11.is) c.put_sfunc.ensures

pub returns-in-12 : goal.returns-in-12
returns-in-12 c = put_as (open_binary _ _ _ _ _ c.left_text-s.ensures c.binary_element.ensures c.in-12.is) (one (Piece.start _ []) c.put_start.ensures)

pub returns-in-13 : goal.returns-in-13
returns-in-13 c = put_as (open_simple _ _ _ _ _ c.left_text-s.ensures c.word-held.ensures c.in-13.is) c.put_begin_script.ensures

pub returns-in-14 : goal.returns-in-14
returns-in-14 c = put_as (open_func _ _ _ _ _ c.left_text-s.ensures c.word-held.ensures c.in-14.is) c.put_func.ensures

pub returns-in-15 : goal.returns-in-15
returns-in-15 c = put_as (open_group _ _ _ _ _ c.left_text-s.ensures c.right_text.ensures c.in-15.is) c.put_group.ensures

pub returns-in-16 : goal.returns-in-16
returns-in-16 c = put_as (open_matrix _ _ _ _ _ c.left_text-s.ensures c.word.ensures c.lines_at.ensures c.in-16.is) c.put_matrix.ensures

pub returns-in-17 : goal.returns-in-17
returns-in-17 c = put_as (open_cell _ _ _ _ _ c.left_text-s.ensures c.in-17.is) (one (Piece.start 17 []) c.put_start-in-17.ensures)

pub returns-in-18 : goal.returns-in-18
returns-in-18 c = put_as (open_frac _ _ _ _ _ c.left_text-s.ensures c.in-18.is) (one (Piece.start 18 []) c.put_start-in-18.ensures)

pub returns-in_default : goal.returns-in_default
returns-in_default c = let r = c.in_default.in_default-own.rest in put_as (open_missing _ _ _ _ _ c.left_text-s.ensures r.0.0.0.0.0.0.0.0.0.0.0.0.0.0.0.0.0.1 r.0.0.0.0.0.0.0.0.0.0.0.0.0.0.0.0.1 r.0.0.0.0.0.0.0.0.0.0.0.0.0.0.0.1 r.0.0.0.0.0.0.0.0.0.0.0.0.0.0.1 r.0.0.0.0.0.0.0.0.0.0.0.0.0.1 r.0.0.0.0.0.0.0.0.0.0.0.0.1 r.0.0.0.0.0.0.0.0.0.0.0.1 r.0.0.0.0.0.0.0.0.0.0.1 r.0.0.0.0.0.0.0.0.0.1 r.0.0.0.0.0.0.0.0.1 r.0.0.0.0.0.0.0.1 r.0.0.0.0.0.0.1 r.0.0.0.0.0.1 r.0.0.0.0.1 r.0.0.0.1 r.0.0.1 r.0.1 r.1) c.put_empty-in_default.ensures
