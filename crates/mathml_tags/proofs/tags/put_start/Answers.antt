-- The long start tags.
use Rattle.mathml_rules.specs.Elements.{elements, element_of}
use Rattle.mathml_rules.specs.Pieces.{bytes_of}
use Rattle.mathml_tags.proofs.tags.put_start.Goals as goal

pub returns-in-Mspace : goal.returns-in-Mspace
unfolding bytes_of element_of elements
returns-in-Mspace c = rw c.in-Mspace.is c.put_bytes-in-Mspace.ensures

pub returns-in-MoTight : goal.returns-in-MoTight
unfolding bytes_of element_of elements
returns-in-MoTight c = rw c.in-MoTight.is c.put_bytes-in-MoTight.ensures

pub returns-in-MoSpaced : goal.returns-in-MoSpaced
unfolding bytes_of element_of elements
returns-in-MoSpaced c = rw c.in-MoSpaced.is c.put_bytes-in-MoSpaced.ensures

pub returns-in-Menclose : goal.returns-in-Menclose
unfolding bytes_of element_of elements
returns-in-Menclose c = rw c.in-Menclose.is c.put_bytes-in-Menclose.ensures
