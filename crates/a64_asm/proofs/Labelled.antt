-- The labels, line by line.
use Rattle.std.proofs.Common.{◌≡◌, ℕ, ◌+◌, ◌<◌, ◌≤◌, Bool, true, false, cond, List, [], ◌∷◌, length, refl, sym, ap, subst, ◌∙◌, arith, rules}
use Rattle.std.specs.Prelude.{Option, Some, None, if◌then◌else◌}
use Rattle.std.specs.Option.{option_or}
use Rattle.std.specs.Str.{bytes_eq}
use Rattle.std.specs.Cmp.Lexicographic.{slice_cmp}
use Rattle.std.specs.Ordering.{nat_cmp}
use Rattle.std.specs.BTreeMap.{BTreeMap, UpdatesBy, IsEmpty}
use Rattle.std.proofs.lemmas.Slice.Eq.{bytes_eq-Decides}
use Rattle.std.proofs.lemmas.Map.Text.{btree_map_updates_str}
use denote.Ref.{Bor}
use Rattle.a64_asm.specs.Text.{Whole, Parts, cut_of}
use Rattle.a64_asm.specs.Labels.{looked_up}
use Rattle.a64_asm.specs.Source.{label_of, is_word, definition_at, next_of, found_from, beginning, lines_of, definitions}
use Rattle.a64_asm.specs.declared.label.Definition.{Definition}
use Rattle.a64_asm.proofs.Lines.{first_line, no_line, some_part}

or_none : (found : Option Definition) → found ≡ option_or found None
or_none None = refl
or_none (Some first) = refl

pub or_or : (a b c : Option Definition) → option_or a (option_or b c) ≡ option_or (option_or a b) c
or_or None b c = refl
or_or (Some a) b c = refl

-- a label that wasn't there was added
pub added : (old new : BTreeMap (Bor (List ℕ)) Definition) (label name : List ℕ) (here : Definition) → looked_up old label ≡ None
    → UpdatesBy (λ x y. slice_cmp nat_cmp x.now y.now) (λ key. slice_cmp nat_cmp label key.now) old new (Some here)
    → looked_up new name ≡ option_or (looked_up old name) (definition_at here (Some label) name)
added old new label name here absent updates =
    btree_map_updates_str label old new (Some here) updates name ∙ by_same (bytes_eq label name) refl
  where
    by_same : (b : Bool) → bytes_eq label name ≡ b
        → cond b (Some here) (looked_up old name) ≡ option_or (looked_up old name) (if b then Some here else None)
    by_same true e =
        let same : looked_up old name ≡ None = subst (λ n. looked_up old n ≡ None) ((bytes_eq-Decides label name).0 e) absent in
        rw same refl
    by_same false e = or_none (looked_up old name)

-- a label that was there stays
pub kept : (old : BTreeMap (Bor (List ℕ)) Definition) (label name : List ℕ) (here first : Definition) → looked_up old label ≡ Some first
    → looked_up old name ≡ option_or (looked_up old name) (definition_at here (Some label) name)
kept old label name here first present = by_same (bytes_eq label name) refl
  where
    by_same : (b : Bool) → bytes_eq label name ≡ b
        → looked_up old name ≡ option_or (looked_up old name) (if b then Some here else None)
    by_same true e =
        let same : looked_up old name ≡ Some first = subst (λ n. looked_up old n ≡ Some first) ((bytes_eq-Decides label name).0 e) present in
        rw same refl
    by_same false e = or_none (looked_up old name)

-- so far the lines before the rest were read; their labels are in the map, and the rest has the others
pub record IsCollecting (text : List ℕ) (labels : BTreeMap (Bor (List ℕ)) Definition) (here : Definition) (rest : List ℕ) : Type 0 where
  pub found : (name : List ℕ) → definitions text name ≡ option_or (looked_up labels name) (found_from here (lines_of rest) name)
  pub lines : here.line + length rest ≤ length text
  pub place : here.place ≤ here.line

pub begins : (text : List ℕ) (labels : BTreeMap (Bor (List ℕ)) Definition) → IsEmpty labels → IsCollecting text labels beginning text
begins text labels empty = record { found = λ name. search rules; lines = omega arith; place = omega arith }

-- the first line decides, where something stands after it
next_line : (here : Definition) (line : List ℕ) (more : List (List ℕ)) (name : List ℕ) → 0 < length more
    → found_from here (line ∷ more) name ≡ option_or (definition_at here (label_of line) name) (found_from (next_of here line) more name)
unfolding found_from
next_line here line [] name some = absurd (omega arith)
next_line here line (next ∷ others) name some = refl

place_below : (here : Definition) (line : List ℕ) → (next_of here line).place ≤ here.place + 1
place_below here line = by_word (is_word line)
  where
    by_word : (b : Bool) → (if b then here.place + 1 else here.place) ≤ here.place + 1
    by_word true = omega arith
    by_word false = omega arith

pub goes_on : (text : List ℕ) (old new : BTreeMap (Bor (List ℕ)) Definition) (here : Definition) (rest line others : List ℕ)
    → IsCollecting text old here rest → cut_of 10 rest ≡ Parts line others
    → ((name : List ℕ) → looked_up new name ≡ option_or (looked_up old name) (definition_at here (label_of line) name))
    → IsCollecting text new (next_of here line) others
goes_on text old new here rest line others collecting cut noted =
    let one = first_line rest line others cut in
    record {
      found = λ name.
          collecting.found name
          ∙ ap (λ ls. option_or (looked_up old name) (found_from here ls name)) one.split
          ∙ ap (option_or (looked_up old name)) (next_line here line (lines_of others) name (some_part others))
          ∙ or_or (looked_up old name) (definition_at here (label_of line) name) (found_from (next_of here line) (lines_of others) name)
          ∙ ap (λ o. option_or o (found_from (next_of here line) (lines_of others) name)) (sym (noted name));
      lines = omega (arith, collecting.lines, one.fewer);
      place = omega (arith, collecting.place, place_below here line);
    }

pub ended : (text : List ℕ) (labels : BTreeMap (Bor (List ℕ)) Definition) (here : Definition) (rest : List ℕ)
    → IsCollecting text labels here rest → cut_of 10 rest ≡ Whole → (name : List ℕ) → looked_up labels name ≡ definitions text name
unfolding found_from
ended text labels here rest collecting whole name =
    or_none (looked_up labels name)
    ∙ ap (λ ls. option_or (looked_up labels name) (found_from here ls name)) (sym (no_line rest whole))
    ∙ sym (collecting.found name)
