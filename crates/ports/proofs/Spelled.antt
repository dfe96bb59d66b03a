-- The digits of a number, written from the last to the first, and the sign and the end about them.
use Rattle.std.proofs.Common.{◌≡◌, ℕ, ◌+◌, ◌-◌, ◌/◌, ◌%◌, ◌^◌, ◌<◌, ◌≤◌, true, false, List, [], ◌∷◌, ◌++◌, length, take, drop, set, ℤ, pos, negsuc, nat_abs, decimal, sym, refl, ap, ◌∙◌, arith}
use lib.Signed.{lt_z}
use Rattle.std.proofs.lemmas.Bool.Decides.{nat_tests}
use Rattle.std.specs.Fmt.{signed_decimal}
use Rattle.std.proofs.lemmas.Fmt.{decimal_nonempty, decimal_digit, decimal_step, length-decimal-le}
use Rattle.std.proofs.lemmas.List.{drop-set, length_push, drop_all, take_all, length-drop, length-append, drop-append-le, length-set, length-take-le}

below_64 : (n : ℕ) → n < 2 ^ 32 → n < 2 ^ 64
below_64 n h = omega arith

pub digits_some : (n : ℕ) → n < 2 ^ 32 → 0 < length (decimal n)
digits_some n h = decimal_nonempty n (below_64 n h)

pub digits_less : (n to : ℕ) → n < 2 ^ 32 → 10 ≤ n → length (decimal n) ≤ to → length (decimal (n / 10)) ≤ to - 1
digits_less n to h ten l =
    let e = ap length (decimal_step n ten (below_64 n h)) ∙ length_push (decimal (n / 10)) (48 + n % 10) in
    omega arith

drop_digit : (buffer : List ℕ) (to d : ℕ) → 0 < to → to ≤ length buffer → drop (to - 1) (set buffer (to - 1) d) ≡ d ∷ drop to buffer
drop_digit buffer to d some room =
    let e : (to - 1) + 1 ≡ to = omega arith in
    drop-set buffer (to - 1) d (omega arith) ∙ ap (λ k. d ∷ drop k buffer) e

-- what lies before the place that was written
pub front_long : (buffer : List ℕ) (k d : ℕ) → k ≤ length buffer → length (take k (set buffer k d)) ≡ k
front_long buffer k d h = let s = length-set buffer k d in length-take-le k (set buffer k d) (omega arith)

-- the last place of a buffer is behind all others
last_digit : (buffer : List ℕ) (d : ℕ) → 0 < length buffer → drop (length buffer - 1) (set buffer (length buffer - 1) d) ≡ d ∷ []
last_digit buffer d some = drop_digit buffer (length buffer) d some (omega arith) ∙ ap (λ bs. d ∷ bs) (drop_all (length buffer) buffer (omega arith))

pub digits_one : (buffer : List ℕ) (n : ℕ) → n < 10 → 0 < length buffer → drop (length buffer - 1) (set buffer (length buffer - 1) (48 + n % 10)) ≡ decimal n
digits_one buffer n h some =
    let e : 48 + n % 10 ≡ 48 + n = omega arith in
    last_digit buffer (48 + n % 10) some ∙ ap (λ d. d ∷ []) e ∙ sym (decimal_digit n h)

pub digits_more : (buffer front : List ℕ) (n r : ℕ) → n < 2 ^ 32 → 10 ≤ n → 0 < length buffer → r ≤ length front → drop r front ≡ decimal (n / 10) →
    drop r (front ++ drop (length buffer - 1) (set buffer (length buffer - 1) (48 + n % 10))) ≡ decimal n
digits_more buffer front n r h ten some room e =
    ap (λ bs. drop r (front ++ bs)) (last_digit buffer (48 + n % 10) some) ∙ drop-append-le r front ((48 + n % 10) ∷ []) room
    ∙ ap (λ ds. ds ++ ((48 + n % 10) ∷ [])) e
    ∙ sym (decimal_step n ten (below_64 n h))

pub digits_length : (n : ℕ) → n < 2 ^ 32 → 10 ≤ n → length (decimal n) ≡ length (decimal (n / 10)) + 1
digits_length n h ten = ap length (decimal_step n ten (below_64 n h)) ∙ length_push (decimal (n / 10)) (48 + n % 10)

pub ten_digits : (n : ℕ) → n < 2 ^ 32 → length (decimal n) ≤ 10
ten_digits n h = length-decimal-le 10 n (omega arith) (omega arith) (below_64 n h)

minus_signed : (z : ℤ) → lt_z z (pos 0) ≡ true → signed_decimal z ≡ 45 ∷ decimal (nat_abs z)
minus_signed (pos n) h = grind (arith, nat_tests)
minus_signed (negsuc n) h = refl

plus_signed : (z : ℤ) → lt_z z (pos 0) ≡ false → signed_decimal z ≡ decimal (nat_abs z)
plus_signed (pos n) h = refl
plus_signed (negsuc n) h = grind (arith, nat_tests)

ended : (buffer : List ℕ) → length buffer ≡ 12 → drop 11 (set buffer 11 10) ≡ 10 ∷ []
ended buffer l = drop-set buffer 11 10 (omega arith) ∙ ap (λ bs. 10 ∷ bs) (drop_all 12 buffer (omega arith))

-- the digits and the end of the line behind them
closed : (n r : ℕ) (buffer front : List ℕ) → length buffer ≡ 12 → r ≤ length front → drop r front ≡ decimal n → drop r (front ++ drop 11 (set buffer 11 10)) ≡ decimal n ++ (10 ∷ [])
closed n r buffer front l room h = ap (λ bs. drop r (front ++ bs)) (ended buffer l) ∙ drop-append-le r front (10 ∷ []) room ∙ ap (λ ds. ds ++ (10 ∷ [])) h

pub line_plus : (z : ℤ) (n r : ℕ) (buffer front : List ℕ) → lt_z z (pos 0) ≡ false → n ≡ nat_abs z → length buffer ≡ 12 → r ≤ length front → drop r front ≡ decimal n →
    drop r (front ++ drop 11 (set buffer 11 10)) ≡ signed_decimal z ++ (10 ∷ [])
line_plus z n r buffer front sign e l room h =
    closed n r buffer front l room h ∙ ap (λ k. decimal k ++ (10 ∷ [])) e ∙ sym (ap (λ bs. bs ++ (10 ∷ [])) (plus_signed z sign))

pub line_minus : (z : ℤ) (n r : ℕ) (buffer front : List ℕ) → lt_z z (pos 0) ≡ true → n ≡ nat_abs z → length buffer ≡ 12 → 0 < r → r ≤ length front → drop r front ≡ decimal n →
    drop (r - 1) (set (front ++ drop 11 (set buffer 11 10)) (r - 1) 45) ≡ signed_decimal z ++ (10 ∷ [])
line_minus z n r buffer front sign e l some room h =
    let long = length-append front (drop 11 (set buffer 11 10)) in
    drop_digit (front ++ drop 11 (set buffer 11 10)) r 45 some (omega arith)
    ∙ ap (λ bs. 45 ∷ bs) (closed n r buffer front l room h ∙ ap (λ k. decimal k ++ (10 ∷ [])) e)
    ∙ sym (ap (λ bs. bs ++ (10 ∷ [])) (minus_signed z sign))

-- a line that ends where its buffer ends is all of the buffer from its start
pub lent_line : (buffer line : List ℕ) (r : ℕ) → length buffer ≡ 12 → drop r buffer ≡ line → take (12 - r) (drop r buffer) ≡ line
lent_line buffer line r l e = let d = length-drop r buffer in take_all (12 - r) (drop r buffer) (omega arith) ∙ e
