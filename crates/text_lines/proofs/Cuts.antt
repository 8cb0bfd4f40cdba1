-- A text, cut where a byte first stands in it.
use Rattle.std.proofs.Common.{◌≡◌, ℕ, ◌+◌, ◌<◌, ◌==◌, false, List, ◌∷◌, ◌++◌, get_or, length, take, drop, subst, sym, ap, ◌∙◌, arith, get_or-take, length-take, length-append}
use Rattle.std.specs.List.{position_or_len}
use Rattle.std.proofs.lemmas.Bool.{eqb-true}
use Rattle.std.proofs.lemmas.List.Sums.{fails_before_first, passes_at_first, split_at_first}
use Rattle.std.proofs.lemmas.List.Elements.{All-from_get_or}
use Rattle.text_lines.specs.Cut.{IsWhole, IsCut}

-- no such byte stands before the first one
none_before : (byte : ℕ) (text : List ℕ) (at : ℕ) → position_or_len (λ other. other == byte) text ≡ at → at < length text
    → IsWhole byte (take at text)
none_before byte text at found low =
    All-from_get_or (λ other. (other == byte) ≡ false) (take at text) 0
    (λ i less.
    let here : i < at = omega (arith, less, length-take at text) in
    ap (λ other. other == byte) (get_or-take at text i 0 here)
    ∙ fails_before_first (λ other. other == byte) text i 0 (omega (arith, here, found)))

-- at the first such byte
pub cut_first : (byte : ℕ) (text front after : List ℕ) (at : ℕ) → position_or_len (λ other. other == byte) text ≡ at
    → at < length text → front ≡ take at text → after ≡ drop (at + 1) text → IsCut byte text front after
cut_first byte text front after at found low here there =
    let p : ℕ → _ = λ other. other == byte in
    let inside : position_or_len p text < length text = omega (arith, found, low) in
    let this : get_or text at 0 ≡ byte =
    eqb-true (get_or text at 0) byte (ap (λ n. p (get_or text n 0)) (sym found) ∙ passes_at_first p text 0 inside) in
    record {
      joined =
          split_at_first p text 0 inside
          ∙ ap (λ n. take n text ++ get_or text n 0 ∷ drop (n + 1) text) found
          ∙ ap (λ b. take at text ++ b ∷ drop (at + 1) text) this
          ∙ ap (λ f. f ++ byte ∷ drop (at + 1) text) (sym here)
          ∙ ap (λ a. front ++ byte ∷ a) (sym there);
      first = subst (λ f. IsWhole byte f) (sym here) (none_before byte text at found low);
    }

-- where there is none
pub whole : (byte : ℕ) (text : List ℕ) → position_or_len (λ other. other == byte) text ≡ length text → IsWhole byte text
whole byte text none =
    All-from_get_or (λ other. (other == byte) ≡ false) text 0
    (λ i less. fails_before_first (λ other. other == byte) text i 0 (omega (arith, none, less)))

-- for this crate's callers: what stands after the byte is shorter
pub fewer : (byte : ℕ) (text front after : List ℕ) → IsCut byte text front after → length after < length text
fewer byte text front after cut = omega (arith, ap length cut.joined, length-append front (byte ∷ after))
