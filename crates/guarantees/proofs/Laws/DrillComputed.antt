-- The drills' books and inputs, computed. Serves `drill_bench` of Main. Assumes nothing.
use Rattle.std.specs.Prelude.{refl}
use Rattle.scan.specs.Lowest.{lowest, lowest_from, any}
use Rattle.scan.specs.Total.{count, total}
use Rattle.fields.specs.Field.{bit_map, fields_bytes}
use Rattle.fields.specs.Record.{record_of}
use Rattle.fields.specs.Entries.{joined}
use Rattle.codec.specs.Book.{records_of, book_of}
use Rattle.heaviest.specs.Drill.{spans_below}
use Rattle.heaviest.specs.Input.{value_of, asked}
use Rattle.history.specs.Rules.{cut_rule, offered_rule, refused_rule, turn_rule, run_turns, turns_rule, rule_next}
use Rattle.history.specs.Offered.{offered_along, offered_next, offered}
use Rattle.guarantees.specs.DrillBench.{Holds}

pub computed : Holds
unfolding asked value_of spans_below book_of records_of joined record_of bit_map fields_bytes
    offered offered_next offered_along rule_next turn_rule cut_rule offered_rule refused_rule run_turns turns_rule lowest lowest_from any count total
computed = record {
  inputs = refl;
  one_middle = refl;
  two_middles = refl;
  just_cut = refl;
  lowest-first = refl;
  both_at_once = refl;
  one_reached = refl;
  in_a-run = (refl, refl);
  unchanged = refl;
  mended = refl;
  cut_again = refl;
}
