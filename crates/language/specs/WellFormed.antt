-- What makes a table well formed, as plain rules; the order in which faults are answered is another page's.
use Rattle.std.specs.Prelude.{◌≡◌, ℕ, ◌%◌, ◌<◌, ◌≤◌, true, List, [], length}
use Rattle.language.specs.declared.kind.Sort.TheVariants.{Command}
use Rattle.language.specs.Fields.{formed, children, is_of}
use Rattle.language.specs.Names.{NamedC}
use Rattle.language.specs.Reading.{tree_of}
use Rattle.language.specs.Table.{nodes_of, at, lower, fitting, times, children_in, root_of}

pub record WellFormed (table : List ℕ) : Type 0 where
  -- there is a node, nodes have 8 bytes, and there are at most 512
  pub some : 0 < length table
  pub eights : length table % 8 ≡ 0
  pub most : length table ≤ 4096
  -- each node is of a known kind and keeps the rules of its fields
  pub fields : (n : ℕ) → n < length (nodes_of table) → formed (at (nodes_of table) n) ≡ true
  -- a child has a lower number than its parent, and is of the sort that is wanted
  pub below : (n : ℕ) → n < length (nodes_of table) → lower n (children (at (nodes_of table) n)) ≡ true
  pub sorts : (n : ℕ) → n < length (nodes_of table) → fitting (nodes_of table) (children (at (nodes_of table) n)) ≡ true
  -- each node but the last is a child exactly once
  pub once : (n : ℕ) → n < root_of (nodes_of table) → times n (children_in (nodes_of table) (length (nodes_of table))) ≡ 1
  -- the last node is a command
  pub root : is_of Command (at (nodes_of table) (root_of (nodes_of table))).kind ≡ true
  -- every name is visible, and stands for what is wanted
  pub names : NamedC (tree_of (nodes_of table)) []
