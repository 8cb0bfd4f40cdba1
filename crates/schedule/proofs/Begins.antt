-- What a text begins with: a number, or a line.
use Rattle.std.proofs.Common.{◌≡◌, ℕ, ◌+◌, ◌-◌, ◌*◌, ◌/◌, ◌%◌, ◌^◌, ◌<◌, ◌≤◌, ◌==◌, false, List, [], ◌∷◌, ◌++◌, length, get_or, take, drop, sym, refl, ap, ◌∙◌, append_assoc, arith}
use Rattle.std.specs.List.{All}
use Rattle.std.specs.Fmt.{decimal}
use Rattle.std.proofs.lemmas.Fmt.{decimal_digit, decimal_step, digits_decimal}
use Rattle.std.proofs.lemmas.List.{take_all}
use Rattle.std.proofs.lemmas.List.Elements.{All-cons, All-append}
use Rattle.schedule.specs.Number.{BeginsWithNumber}
use Rattle.schedule.specs.Line.{BeginsWithLine}
use Rattle.schedule.specs.declared.line.Line.TheVariants.{Step}
use Rattle.schedule.proofs.Numbers.{own}
use Rattle.schedule.proofs.Lines.{none_below_digits}
use Rattle.schedule.proofs.Spelled.{steps}

-- what a slice pattern leaves after the first byte
abbrev pub behind_first : List ℕ → List ℕ
behind_first text = take (length text - 1) (drop 1 text)

at_first : (text : List ℕ) → 0 < length text → text ≡ get_or text 0 0 ∷ behind_first text
at_first [] some = absurd (omega arith)
at_first (first ∷ rest) some = ap (λ t. first ∷ t) (sym (take_all (length (first ∷ rest) - 1) rest (omega arith)))

-- and after the first two
abbrev pub behind_two : List ℕ → List ℕ
behind_two text = take (length text - 2) (drop 2 text)

at_two : (text : List ℕ) → 2 ≤ length text → text ≡ get_or text 0 0 ∷ get_or text 1 0 ∷ behind_two text
at_two [] two = absurd (omega arith)
at_two (first ∷ []) two = absurd (omega arith)
at_two (first ∷ second ∷ rest) two =
    ap (λ t. first ∷ second ∷ t) (sym (take_all (length (first ∷ second ∷ rest) - 2) rest (omega arith)))

-- one digit is a number
pub one_digit : (text : List ℕ) (n : ℕ) → 0 < length text → get_or text 0 0 ≡ 48 + n → n < 10
    → BeginsWithNumber text n (behind_first text)
one_digit text n some is low =
    record {
      fits = omega arith;
      written =
          at_first text some ∙ ap (λ d. d ∷ behind_first text) is
          ∙ sym (ap (λ ds. ds ++ behind_first text) (decimal_digit n low));
    }

-- a number other than 0, and one digit more
written_on : (n digit more : ℕ) → 0 < n → digit < 10 → more ≡ n * 10 + digit → more < 2 ^ 64
    → decimal more ≡ decimal n ++ (48 + digit) ∷ []
written_on n digit more some low is fits =
    let front : more / 10 ≡ n = omega arith in
    let last : more % 10 ≡ digit = omega arith in
    decimal_step more (omega arith) fits ∙ ap (λ m. decimal m ++ (48 + more % 10) ∷ []) front
    ∙ ap (λ d. decimal n ++ (48 + d) ∷ []) last

pub one_more : (text rest : List ℕ) (n digit more : ℕ) → BeginsWithNumber text n rest → 0 < length rest → 0 < n
    → get_or rest 0 0 ≡ 48 + digit → digit < 10 → more ≡ n * 10 + digit → more < 2 ^ 64
    → BeginsWithNumber text more (behind_first rest)
one_more text rest n digit more begins there some is low value fits =
    record {
      fits = fits;
      written =
          begins.written ∙ ap (λ r. decimal n ++ r) (at_first rest there ∙ ap (λ d. d ∷ behind_first rest) is)
          ∙ sym (append_assoc (decimal n) ((48 + digit) ∷ []) (behind_first rest))
          ∙ sym (ap (λ ds. ds ++ behind_first rest) (written_on n digit more some low value fits));
    }

abbrev IsNoEnd : ℕ → Type 0
IsNoEnd byte = (byte == 10) ≡ false

-- a line that says a step, without its end
abbrev step_line : ℕ → ℕ → List ℕ
step_line core count = 115 ∷ 32 ∷ (decimal core ++ 32 ∷ decimal count)

no_end : (n : ℕ) → n < 2 ^ 64 → All IsNoEnd (decimal n)
no_end n low = none_below_digits 10 (decimal n) (omega arith) (digits_decimal own n low)

one_line : (core count : ℕ) → core < 2 ^ 64 → count < 2 ^ 64 → All IsNoEnd (step_line core count)
one_line core count low high =
    All-cons IsNoEnd 115 (32 ∷ (decimal core ++ 32 ∷ decimal count)) refl
    (All-cons IsNoEnd 32 (decimal core ++ 32 ∷ decimal count) refl
    (All-append IsNoEnd (decimal core) (32 ∷ decimal count) (no_end core low)
    (All-cons IsNoEnd 32 (decimal count) refl (no_end count high))))

-- a step's line and its end
whole_step : (text behind : List ℕ) (core count : ℕ) → core < 2 ^ 64 → count < 2 ^ 64
    → text ≡ step_line core count ++ 10 ∷ behind → BeginsWithLine text (Step core count) behind
whole_step text behind core count low high is =
    record {
      line = step_line core count;
      cut = record { joined = is; first = one_line core count low high };
      says =
          sym
          ((steps (step_line core count) core count).1 (record { core_fits = low; count_fits = high; spelled = refl }));
    }

-- a step, piece by piece
pub step_by_pieces : (text second fourth : List ℕ) (core count : ℕ) → 2 ≤ length text → get_or text 0 0 ≡ 115 → get_or text 1 0 ≡ 32
    → BeginsWithNumber (behind_two text) core second → 0 < length second → get_or second 0 0 ≡ 32
    → BeginsWithNumber (behind_first second) count fourth → 0 < length fourth → get_or fourth 0 0 ≡ 10
    → BeginsWithLine text (Step core count) (behind_first fourth)
step_by_pieces text second fourth core count two kind blank one some gap other more end =
    let behind = behind_first fourth in
    let last : fourth ≡ 10 ∷ behind = at_first fourth more ∙ ap (λ b. b ∷ behind) end in
    let numbers : second ≡ 32 ∷ (decimal count ++ 10 ∷ behind) =
    at_first second some ∙ ap (λ b. b ∷ behind_first second) gap
    ∙ ap (λ t. 32 ∷ t) (other.written ∙ ap (λ t. decimal count ++ t) last) in
    let front : text ≡ 115 ∷ 32 ∷ behind_two text =
    at_two text two ∙ ap (λ b. b ∷ get_or text 1 0 ∷ behind_two text) kind ∙ ap (λ b. 115 ∷ b ∷ behind_two text) blank in
    whole_step text behind core count one.fits other.fits
    (front ∙ ap (λ t. 115 ∷ 32 ∷ t) (one.written ∙ ap (λ t. decimal core ++ t) numbers)
    ∙ sym (ap (λ t. 115 ∷ 32 ∷ t) (append_assoc (decimal core) (32 ∷ decimal count) (10 ∷ behind))))
