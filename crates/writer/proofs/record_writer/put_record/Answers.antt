-- `writer::record_writer::put_record` meets its contract. After each field, what is left to store are the fields that follow; the bit map comes last.
use Prim.Native.Nat.{ℕ}
use borrow.Author.Rules.{rules}
use mathlib.Core.List.{List}
use native.Mathlib.Omega.{arith}
use lib.ListN.{drop}
use Rattle.mesh.specs.declared.Link.{Link}
use Rattle.scan.specs.Storing.{Storing}
use Rattle.fields.specs.declared.Fields.{Fields}
use Rattle.fields.specs.Field.{fields_bytes}
use Rattle.fields.specs.Record.{fields_of}
use Rattle.writer.specs.declared.number.Pen.{Pen}
use Rattle.writer.specs.Laws.Writing.{fields-start, field_room, field_next, fields-end, record_stored}
use Rattle.writer.proofs.record_writer.put_record.Goals as goal
use Rattle.writer.proofs.record_writer.put_record.Goals.{After-put_field, After-put_field-2, After-put_field-3, After-put_field-4, After-put_field-5}

-- the fields from n on are left to store with the pen
abbrev Left : List ℕ → Link → Fields → ℕ → Pen → Type 0
Left out₀ p f n pen =
    let fs = fields_of p f in
    Storing out₀ 1 (fields_bytes fs) pen.out.now pen.at (fields_bytes (drop n fs))

-- each field is stored after the one before it
left-1 : (c : After-put_field) → Left c.args.out.now c.args.prev c.args.f 1 c.put_field.new.self
left-1 c =
    let a = c.args in
    field_next _ _ (fields-start a.out.now a.prev a.f c.requires).1 c.put_field.ensures.stored c.put_field.ensures.next

left-2 : (c : After-put_field-2) → Left c.args.out.now c.args.prev c.args.f 2 c.put_field-2.new.self
left-2 c = field_next _ _ (left-1 (goal.at.After-put_field-2 c).After-put_field) c.put_field-2.ensures.stored c.put_field-2.ensures.next

left-3 : (c : After-put_field-3) → Left c.args.out.now c.args.prev c.args.f 3 c.put_field-3.new.self
left-3 c = field_next _ _ (left-2 (goal.at.After-put_field-3 c).After-put_field-2) c.put_field-3.ensures.stored c.put_field-3.ensures.next

left-4 : (c : After-put_field-4) → Left c.args.out.now c.args.prev c.args.f 4 c.put_field-4.new.self
left-4 c = field_next _ _ (left-3 (goal.at.After-put_field-4 c).After-put_field-3) c.put_field-4.ensures.stored c.put_field-4.ensures.next

left-5 : (c : After-put_field-5) → Left c.args.out.now c.args.prev c.args.f 5 c.put_field-5.new.self
left-5 c = field_next _ _ (left-4 (goal.at.After-put_field-5 c).After-put_field-4) c.put_field-5.ensures.stored c.put_field-5.ensures.next

pub put_field-requires : goal.put_field-requires
put_field-requires c = let a = c.args in field_room _ _ (fields-start a.out.now a.prev a.f c.requires).1

pub put_field-requires-2 : goal.put_field-requires-2
put_field-requires-2 c = field_room _ _ (left-1 (goal.at.put_field-requires-2 c).After-put_field)

pub put_field-requires-3 : goal.put_field-requires-3
put_field-requires-3 c = field_room _ _ (left-2 (goal.at.put_field-requires-3 c).After-put_field-2)

pub put_field-requires-4 : goal.put_field-requires-4
put_field-requires-4 c = field_room _ _ (left-3 (goal.at.put_field-requires-4 c).After-put_field-3)

pub put_field-requires-5 : goal.put_field-requires-5
put_field-requires-5 c = field_room _ _ (left-4 (goal.at.put_field-requires-5 c).After-put_field-4)

pub bounds-pen-0 : goal.bounds-pen-0
bounds-pen-0 c =
    let a = c.args in
    omega (arith, (left-5 (goal.at.bounds-pen-0 c).After-put_field-5).same, (fields-start a.out.now a.prev a.f c.requires).0)

pub returns-clause-next : goal.returns-clause-next
returns-clause-next c = let a = c.args in fields-end a.prev a.f (left-5 (goal.at.returns-clause-next c).After-put_field-5)

pub returns-clause-stored : goal.returns-clause-stored
returns-clause-stored c =
    let a = c.args in
    let stored = record_stored a.prev a.f (left-5 (goal.at.returns-clause-stored c).After-put_field-5) c.bit_map.ensures in search (rules, stored)
