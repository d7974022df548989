-- `writer::record_writer::length_of` meets its contract: the length of a record is that which its bit map says.
use Rattle.fields.specs.Laws.Record.{length_record}
use Rattle.writer.proofs.record_writer.length_of.Goals as goal

pub returns : goal.returns
returns c =
    record {
      value = rw (length_record, ← c.bit_map.ensures) c.record_length.ensures.value;
      within = c.record_length.ensures.within;
    }
