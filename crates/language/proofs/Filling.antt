-- Nodes read one after another into places of a list.
use Rattle.std.proofs.Common.{◌≡◌, ℕ, zero, suc, ◌+◌, ◌*◌, ◌/◌, ◌%◌, ◌<◌, ◌≤◌, true, List, [], ◌∷◌, ◌++◌, length, take, drop, get_or, mul-zero, sym, refl, ap, ◌∙◌, add-one, arith, length-append}
use Rattle.std.specs.Simd.{first_chunks}
use Rattle.std.proofs.lemmas.List.{get_or-take, get_or-drop, drop-drop}
use Rattle.std.proofs.lemmas.Bool.{and_parts, ltb-true, leb-true, eqb-true}
use Rattle.vocabulary.specs.declared.node.Node.{Node}
use Rattle.language.specs.Table.{node_at, nodes_in, nodes_of, fits}

pub length-nodes : (bytes : List ℕ) (n : ℕ) → length (nodes_in bytes n) ≡ n
unfolding nodes_in
length-nodes bytes zero = refl
length-nodes bytes (suc n) = length-append (nodes_in bytes n) (node_at bytes (8 * n) ∷ []) ∙ (let h = length-nodes bytes n in omega arith)

-- a table cut into eights has its nodes' bytes in them
chunk_at : (m k i : ℕ) (xs : List ℕ) → i < k → get_or (first_chunks m k xs) i [] ≡ take m (drop (m * i) xs)
chunk_at m zero i xs l = absurd (omega arith)
chunk_at m (suc k) zero xs l = rw mul-zero refl
chunk_at m (suc k) (suc i) xs l =
    chunk_at m k i (drop m xs) (omega arith) ∙ ap (take m) (drop-drop (m * i) m xs ∙ ap (λ (n : ℕ). drop n xs) (omega arith))

node_there : (xs : List ℕ) (k : ℕ) → node_at (take 8 (drop k xs)) 0 ≡ node_at xs k
node_there xs k =
    let e0 = byte 0 k (omega arith) (omega arith) in
    let e1 = byte 1 (k + 1) (omega arith) (omega arith) in
    let e2 = byte 2 (k + 2) (omega arith) (omega arith) in
    let e3 = byte 3 (k + 2 + 1) (omega arith) (omega arith) in
    let e4 = byte 4 (k + 4) (omega arith) (omega arith) in
    let e5 = byte 5 (k + 4 + 1) (omega arith) (omega arith) in
    let e6 = byte 6 (k + 6) (omega arith) (omega arith) in
    let e7 = byte 7 (k + 6 + 1) (omega arith) (omega arith) in
    cc
  where
    byte : (j m : ℕ) → j < 8 → k + j ≡ m → get_or (take 8 (drop k xs)) j 0 ≡ get_or xs m 0
    byte j m l e = get_or-take 8 (drop k xs) j 0 l ∙ get_or-drop k xs j 0 ∙ ap (λ (n : ℕ). get_or xs n 0) e

pub nodes_none : (bytes : List ℕ) → nodes_in bytes 0 ≡ []
unfolding nodes_in
nodes_none bytes = refl

pub nodes_more : (bytes : List ℕ) (k i : ℕ) (nodes : List Node) → i < k → nodes ≡ nodes_in bytes i
    → nodes ++ node_at (get_or (first_chunks 8 k bytes) i []) 0 ∷ [] ≡ nodes_in bytes (i + 1)
unfolding nodes_in
nodes_more bytes k i nodes l e =
    let f : node_at (get_or (first_chunks 8 k bytes) i []) 0 ≡ node_at bytes (8 * i) = ap (λ (b : List ℕ). node_at b 0) (chunk_at 8 k i bytes l) ∙ node_there bytes (8 * i) in
    ap (λ (xs : List Node). xs ++ node_at (get_or (first_chunks 8 k bytes) i []) 0 ∷ []) e ∙ ap (λ (d : Node). nodes_in bytes i ++ d ∷ []) f ∙ sym (ap (nodes_in bytes) (add-one i))

-- a table of a length that fits has 1 to 512 nodes
pub fitting-count : (table : List ℕ) → fits (length table) ≡ true → (0 < length (nodes_of table)) × (length (nodes_of table) ≤ 512)
fitting-count table e =
    let p = and_parts _ _ e in
    let q = and_parts _ _ p.0 in
    let some = ltb-true 0 (length table) q.0 in
    let eights = eqb-true (length table % 8) 0 q.1 in
    let most = leb-true (length table) 4096 p.1 in
    let n = length-nodes table (length table / 8) in
    (omega arith, omega arith)
