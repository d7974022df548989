-- `writer::record_writer`'s `put_field` meets its contract: a field's bytes are none or those of its value, as the test says.
use native.Mathlib.Omega.{arith}
use mathlib.Core.Path.{◌∙◌}
use borrow.Author.Tests.{ne_eqb}
use Rattle.scan.specs.Bytes.{length-bytes}
use Rattle.writer.proofs.number.Pen.put_field.Goals as goal

pub put_bytes-requires : goal.put_bytes-requires
put_bytes-requires c = omega (arith, simp (ne_eqb _ _ c.if-value-absent.true, length-bytes) at c.requires)

pub returns-then-value-absent-clause-next : goal.returns-then-value-absent-clause-next
returns-then-value-absent-clause-next c = c.put_bytes.ensures.next ∙ simp (ne_eqb _ _ c.if-value-absent.true, length-bytes)
