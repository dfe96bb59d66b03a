-- Every example is shown by computing it.
use Rattle.std.proofs.Common.{refl}
use Rattle.std.specs.Fmt.{digits}
use Rattle.language.specs.Fields.{fields_of, formed, children}
use Rattle.language.specs.Meaning.{meaning, eval_e, eval_c, eval_d}
use Rattle.language.specs.Names.{names_e, names_c, names_d}
use Rattle.language.specs.Reading.{form_e, form_c, form_d, grown_e, grown_c, grown_d, tree_e, tree_c, tree_d}
use Rattle.language.specs.Table.{nodes_in, children_in}
use Rattle.language.specs.Verdicts.{upward}
use Rattle.machine.specs.Machine.{taken}
use Rattle.worked.specs.Examples.{Examples}
use Rattle.worked.specs.Refused.{RefusedExamples}

pub examples : Examples
unfolding digits fields_of formed children meaning eval_e eval_c eval_d names_e names_c names_d form_e form_c form_d grown_e grown_c grown_d tree_e tree_c tree_d nodes_in children_in upward taken
examples = record {
  one_output_is = record { accepted = refl; means = refl; runs = refl; counts = refl };
  one_output-code = refl;
  one_output-size = refl;
  one-output-sheet = refl;
  one-output-half = refl;
  count_down = record { accepted = refl; means = refl; runs = refl; counts = refl };
  count_down_code = refl;
  toward_zero = record { accepted = refl; means = refl; runs = refl; counts = refl };
  largest_quotient = record { accepted = refl; means = refl; runs = refl; counts = refl };
  by_zero = record { accepted = refl; means = refl; runs = refl; counts = refl };
  largest_sum = record { accepted = refl; means = refl; runs = refl; counts = refl };
  no_location = record { accepted = refl; means = refl; runs = refl; counts = refl };
  empty_feed = record { accepted = refl; means = refl; runs = refl; counts = refl };
  one_byte = record { accepted = refl; means = refl; runs = refl; counts = refl };
  two_bytes = record { accepted = refl; means = refl; runs = refl; counts = refl };
  by_location = record { accepted = refl; means = refl; runs = refl; counts = refl };
}

pub refused : RefusedExamples
unfolding fields_of formed children names_e names_c names_d form_e form_c form_d grown_e grown_c grown_d tree_e tree_c tree_d nodes_in children_in upward
refused = record {
  seven_bytes = refl;
  no_bytes = refl;
  many_nodes = refl;
  unknown_kind = refl;
  own_child = refl;
  output_of_output = refl;
  orphan = refl;
  no_command = refl;
  undeclared = refl;
  procedure_as_value = refl;
  nothing_loaded = refl;
  one_byte_short = refl;
  just_enough = refl;
  overwritten = refl;
  as_begun = refl;
  fifteen_bytes = refl;
  other_operand = refl;
  as_written = refl;
  ramp_too_high = refl;
}
