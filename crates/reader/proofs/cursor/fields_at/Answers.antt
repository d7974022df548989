-- `reader::cursor::fields_at` meets its contract. Before each field the cursor is the one that `Next` says, so the field lies within the record,
-- and its value is the one that `fields_at` names.
use Rattle.std.proofs.Common.{ℕ, List, Bor, refl}
use lib.ListN.{get_or}
use Rattle.fields.specs.Record.{fields_at}
use Rattle.reader.specs.Laws.Cursor.{Next, next-first, next_value, next-after, next_within}
use Rattle.reader.proofs.cursor.fields_at.Goals as goal
use Rattle.reader.proofs.cursor.fields_at.Goals.{After-next-low, After-next-high, After-next-length, After-next-pair}

-- the cursor before each field
before-low : (s : Bor (List ℕ)) → Next s.now 0 (record { s = s; bits = get_or s.now 0 0; at = 1 })
before-low s = next-first refl refl

before-high : (c : After-next-low) → Next c.args.s.now 1 c.next-low.new.self
before-high c = let e = c.next-low.ensures in next-after (before-low c.args.s) e.s e.bits e.at

before-length : (c : After-next-high) → Next c.args.s.now 2 c.next-high.new.self
before-length c = let e = c.next-high.ensures in next-after (before-high (goal.at.After-next-high c).After-next-low) e.s e.bits e.at

before-pair : (c : After-next-length) → Next c.args.s.now 3 c.next-length.new.self
before-pair c = let e = c.next-length.ensures in next-after (before-length (goal.at.After-next-length c).After-next-high) e.s e.bits e.at

before-duct : (c : After-next-pair) → Next c.args.s.now 4 c.next-pair.new.self
before-duct c = let e = c.next-pair.ensures in next-after (before-pair (goal.at.After-next-pair c).After-next-length) e.s e.bits e.at

pub next-low-requires-clause-w_in_bounds : goal.next-low-requires-clause-w_in_bounds
next-low-requires-clause-w_in_bounds c = next_within (before-low c.args.s) c.requires.s_value c.requires.s_in_bounds

pub next-high-requires-clause-w_in_bounds : goal.next-high-requires-clause-w_in_bounds
next-high-requires-clause-w_in_bounds c = next_within (before-high (goal.at.next-high-requires-clause-w_in_bounds c).After-next-low) c.requires.s_value c.requires.s_in_bounds

pub next-length-requires-clause-w_in_bounds : goal.next-length-requires-clause-w_in_bounds
next-length-requires-clause-w_in_bounds c = next_within (before-length (goal.at.next-length-requires-clause-w_in_bounds c).After-next-high) c.requires.s_value c.requires.s_in_bounds

pub next-pair-requires-clause-w_in_bounds : goal.next-pair-requires-clause-w_in_bounds
next-pair-requires-clause-w_in_bounds c = next_within (before-pair (goal.at.next-pair-requires-clause-w_in_bounds c).After-next-length) c.requires.s_value c.requires.s_in_bounds

pub next-duct-requires-clause-w_in_bounds : goal.next-duct-requires-clause-w_in_bounds
next-duct-requires-clause-w_in_bounds c = next_within (before-duct (goal.at.next-duct-requires-clause-w_in_bounds c).After-next-pair) c.requires.s_value c.requires.s_in_bounds

pub returns : goal.returns
unfolding fields_at
returns c =
    let g = goal.at.returns c in
    simp (
      next_value (before-low c.args.s) _ c.next-low.ensures.value,
      next_value (before-high g.After-next-low) _ c.next-high.ensures.value,
      next_value (before-length g.After-next-high) _ c.next-length.ensures.value,
      next_value (before-pair g.After-next-length) _ c.next-pair.ensures.value,
      next_value (before-duct g.After-next-pair) _ c.next-duct.ensures.value,
    )
