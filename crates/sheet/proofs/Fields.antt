-- Bytes and the 16-bit fields read from them: a field of bytes is written as the same bytes.
use Rattle.std.proofs.Common.{◌≡◌, ℕ, zero, suc, ◌+◌, ◌*◌, ◌/◌, ◌%◌, ◌<◌, ◌≤◌, List, [], ◌∷◌, ◌++◌, length, get_or, take, drop, sym, refl, ap, ◌∙◌, inl, inr, add_assoc, add-one, arith, drop-cons, drop-drop, take-add}
use Rattle.std.proofs.ByRecursion.{All-get_or}
use Rattle.std.proofs.lemmas.List.{take_all, get_or_past}
use Rattle.std.proofs.lemmas.Bool.{cases_lt}
use Rattle.language.specs.Table.{field, node_at, nodes_in, nodes_of}
use Rattle.sheet.specs.Layout.{two, node_bytes, table_bytes}
use Rattle.sheet.specs.Faithful.{Bytes}
use Rattle.sheet.proofs.Entries.{encoded_append}

-- a number below 2 ^ 16 is read as it was written
pub field_of_two : (n : ℕ) → n < 65536 → n % 256 + n / 256 % 256 * 256 ≡ n
field_of_two n h = omega arith

-- the fields from k on, one after the other, as they are written
abbrev pub fields_from : List ℕ → ℕ → ℕ → List ℕ
fields_from b k zero = []
fields_from b k (suc count) = two (field b k) ++ fields_from b (k + 2) count

take-pair : (b : List ℕ) (k : ℕ) → k + 2 ≤ length b → take 2 (drop k b) ≡ get_or b k 0 ∷ get_or b (k + 1) 0 ∷ []
take-pair b k h =
    let e : drop k b ≡ get_or b k 0 ∷ drop (suc k) b = drop-cons b k 0 (omega arith) in
    let f : drop (suc k) b ≡ get_or b (suc k) 0 ∷ drop (suc (suc k)) b = drop-cons b (suc k) 0 (omega arith) in
    rw (e, f, add-one)

module _ (b : List ℕ) (bytes : Bytes b) where
  byte_at : (k : ℕ) → get_or b k 0 < 256
  byte_at k = elim (cases_lt k (length b)) [ inl h ↦ All-get_or (λ x. x < 256) b k 0 h bytes | inr h ↦ (let e = get_or_past b k 0 h in omega arith) ]

  pub field-bytes : (k : ℕ) → k + 2 ≤ length b → two (field b k) ≡ take 2 (drop k b)
  field-bytes k h =
      let x = get_or b k 0 in
      let y = get_or b (k + 1) 0 in
      let p : x < 256 = byte_at k in
      let q : y < 256 = byte_at (k + 1) in
      let u : (x + y * 256) % 256 ≡ x = omega arith in
      let w : (x + y * 256) / 256 ≡ y = omega arith in
      let v : (x + y * 256) / 256 % 256 ≡ y = ap (λ (n : ℕ). n % 256) w ∙ omega arith in
      rw (u, v) (sym (take-pair b k h))

  pub fields-bytes : (count k : ℕ) → k + 2 * count ≤ length b → fields_from b k count ≡ take (2 * count) (drop k b)
  fields-bytes zero k h = refl
  fields-bytes (suc count) k h =
      let e = take-add 2 (2 * count) (drop k b) in
      let f : take (2 * suc count) (drop k b) ≡ take (2 + 2 * count) (drop k b) = ap (λ (n : ℕ). take n (drop k b)) {x = 2 * suc count} {y = 2 + 2 * count} (omega arith) in
      let g = drop-drop 2 k b in
      rw (f, e, g) (ap (λ (z : List ℕ). z ++ fields_from b (k + 2) count) (field-bytes k (omega arith)) ∙ ap (λ (z : List ℕ). take 2 (drop k b) ++ z) (fields-bytes count (k + 2) (omega arith)))

  node-bytes : (k : ℕ) → k + 8 ≤ length b → node_bytes (node_at b k) ≡ take 8 (drop k b)
  node-bytes k h =
      let e : fields_from b (k + 2) 3 ≡ take 6 (drop (k + 2) b) = fields-bytes 3 (k + 2) (omega arith) in
      let g = drop-drop 2 k b in
      let f : fields_from b (k + 2) 3 ≡ two (field b (k + 2)) ++ (two (field b (k + 4)) ++ two (field b (k + 6))) = simp add_assoc in
      let a : take 8 (drop k b) ≡ take 2 (drop k b) ++ take 6 (drop 2 (drop k b)) = take-add 2 6 (drop k b) in
      sym (a ∙ (rw (g, ← e, f, take-pair b k (omega arith))))

  table-front : (n : ℕ) → 8 * n ≤ length b → table_bytes (nodes_in b n) ≡ take (8 * n) b
  unfolding nodes_in
  table-front zero h = refl
  table-front (suc n) h =
      let d = node_at b (8 * n) in
      let e : take (8 * suc n) b ≡ take (8 * n) b ++ take 8 (drop (8 * n) b) = ap (λ (m : ℕ). take m b) {x = 8 * suc n} {y = 8 * n + 8} (omega arith) ∙ take-add (8 * n) 8 b in
      encoded_append node_bytes (nodes_in b n) (d ∷ []) ∙ (ap (λ (z : List ℕ). z ++ node_bytes d) (table-front n (omega arith))
      ∙ (ap (λ (z : List ℕ). take (8 * n) b ++ z) (node-bytes (8 * n) (omega arith)) ∙ sym e))

  -- the nodes of a table are written as the table
  pub table-bytes : length b % 8 ≡ 0 → table_bytes (nodes_of b) ≡ b
  table-bytes h = table-front (length b / 8) (omega arith) ∙ take_all (8 * (length b / 8)) b (omega arith)
