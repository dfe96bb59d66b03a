-- What a listing answers.
use Rattle.std.specs.Prelude.{◌≡◌, List, Ok, Err, string_bytes, Result, String}
use Rattle.std.specs.declared.alloc.Global.{Global}
use Rattle.vocabulary.specs.declared.code.Word.{Word}
use Rattle.vocabulary.specs.declared.node.Node.{Node}
use Rattle.language.specs.Verdicts.{tree_verdict}
use Rattle.listing.specs.declared.error.ListingError.{ListingError}
use Rattle.listing.specs.declared.error.ListingError.TheVariants.{NoTree, Memory}
use Rattle.listing.specs.Page.{page}

-- the page where there is a tree and memory for it; every other answer says why there is none
abbrev pub Listed : List Node → List Word → Result (String Global) ListingError → Type 0
Listed nodes code (Ok text) = (tree_verdict nodes ≡ Ok tt) × (string_bytes text ≡ page nodes code)
Listed nodes code (Err (NoTree refusal)) = tree_verdict nodes ≡ Err refusal
Listed nodes code (Err Memory) = tree_verdict nodes ≡ Ok tt
