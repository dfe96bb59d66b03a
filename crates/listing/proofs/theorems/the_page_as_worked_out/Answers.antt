use Rattle.std.proofs.Common.{refl}
use Rattle.std.specs.Fmt.{digits}
use Rattle.language.specs.Fields.{fields_of, children}
use Rattle.language.specs.Reading.{form_e, form_c}
use Rattle.language.specs.Words.{words_of}
use Rattle.listing.specs.Page.{tree_part, code_part}
use Rattle.listing.specs.Rows.{walked}
use Rattle.listing.proofs.theorems.the_page_as_worked_out.Goals as goal

pub returns : goal.returns
unfolding digits fields_of children form_e form_c words_of tree_part code_part walked
returns c = refl
