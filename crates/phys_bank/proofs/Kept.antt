-- The bytes of the banks are those of the pages that are there.
use Rattle.std.proofs.Common.{◌≡◌, ◌≢◌, ℕ, zero, suc, ◌+◌, ◌-◌, ◌*◌, ◌%◌, ◌^◌, ◌<◌, ◌≤◌, ◌⊎◌, inl, inr, true, List, [], ◌∷◌, ◌++◌, Option, Some, None, length, length-append, take, drop, set, slice_index, slice_range, subst, refl, sym, ap, ◌∙◌, arith, drop-cons}
use Rattle.std.specs.Prelude.{IfSome, is_some}
use Rattle.std.proofs.Math.Nat.{mod-add-mod}
use Rattle.std.proofs.lemmas.Bool.{cases_eq}
use Rattle.std.proofs.lemmas.List.{get_or-set_same, get_or-set_other, get_or_append_left, get_or-append_right}
use Rattle.bao_types.specs.ByteRange.{address_space_end}
use Rattle.bao_types.specs.Bytes.{bytes_from, little_endian, next_address}
use Rattle.phys_memory.proofs.Runs.{length-put, slice_index-put_before, slice_index-put_inside, slice_index-put_behind}
use Rattle.phys_bank.specs.declared.bank_place.BankPlace.{BankPlace}
use Rattle.phys_bank.specs.declared.place.Spot.{Spot}
use Rattle.phys_bank.specs.Banks.{BanksData, page_byte, byte_in, byte_at, has_page, is_kept, IsWritten}
use Rattle.phys_bank.specs.Directory.{page_at}
use Rattle.phys_bank.specs.Places.{page_size, spot_of, ranges_of, AreApart, AreLaid}
use Rattle.phys_bank.proofs.Spots.{spot-below, same-page, spot-follows}

-- each page that is there has all its bytes
abbrev pub AreWhole : List (Option (List ℕ)) → Type 0
AreWhole pages = (entry : ℕ) → IfSome (page_at pages entry) (λ bytes. length bytes ≡ page_size)

pub whole-at : (pages : List (Option (List ℕ))) (entry : ℕ) (bytes : List ℕ) → AreWhole pages → page_at pages entry ≡ Some bytes → length bytes ≡ page_size
whole-at pages entry bytes whole there = let P : Option (List ℕ) → Type 0 = λ page. IfSome page (λ b. length b ≡ page_size) in subst P there (whole entry)

-- a place that has a page has some bytes
pub there : (page : Option (List ℕ)) → is_some page ≡ true → (bytes : List ℕ) × (page ≡ Some bytes)
there None e = cc
there (Some bytes) e = (bytes, refl)

-- a byte that is kept is below the end of the address space
pub kept-below : (banks : BanksData) (at : ℕ) → is_kept banks at ≡ true → at < address_space_end
kept-below banks at kept = below (spot_of banks.places at) refl kept
  where
    below : (s : Option Spot) → spot_of banks.places at ≡ s → has_page banks.pages s ≡ true → at < address_space_end
    below None is kept = cc
    below (Some s) is kept = spot-below banks.places at s is

-- one page is replaced
module _ (pages : List (Option (List ℕ))) (entry : ℕ) (bytes page : List ℕ) (lt : entry < length pages) (was : page_at pages entry ≡ Some bytes) where
  abbrev after : List (Option (List ℕ))
  after = set pages entry (Some page)

  page-here : page_at after entry ≡ Some page
  page-here = get_or-set_same pages entry (Some page) None lt

  page-else : (other : ℕ) → other ≢ entry → page_at after other ≡ page_at pages other
  page-else other ne = get_or-set_other pages entry other (Some page) None ne

  pub whole-after : AreWhole pages → length page ≡ page_size → AreWhole after
  whole-after whole long other = let P : Option (List ℕ) → Type 0 = λ p. IfSome p (λ b. length b ≡ page_size) in elim (cases_eq other entry) [
    | inl e ↦ subst P (sym (ap (page_at after) e ∙ page-here)) long
    | inr ne ↦ subst P (sym (page-else other ne)) (whole other)
  ]

  pub kept-after : (s : Option Spot) → has_page after s ≡ has_page pages s
  kept-after None = refl
  kept-after (Some s) = elim (cases_eq s.entry entry) [
    | inl e ↦ ap is_some (ap (page_at after) e ∙ page-here) ∙ sym (ap is_some (ap (page_at pages) e ∙ was))
    | inr ne ↦ ap is_some (page-else s.entry ne)
  ]

-- bytes that a spot has room for are put into its page
module _ (places : List BankPlace) (pages : List (Option (List ℕ))) (at n : ℕ) (s : Spot) (bytes ys : List ℕ)
    (laid : AreLaid 0 places) (apart : AreApart (ranges_of places)) (is : spot_of places at ≡ Some s) (room : n ≤ s.room)
    (within : s.offset + n ≤ length bytes) (lt : s.entry < length pages) (was : page_at pages s.entry ≡ Some bytes) (long : length ys ≡ n) where
  abbrev put : List ℕ
  put = take s.offset bytes ++ ys ++ drop (s.offset + n) bytes

  abbrev new : List (Option (List ℕ))
  new = set pages s.entry (Some put)

  byte-of : (t : Spot) → t.entry ≡ s.entry → byte_in new (Some t) ≡ slice_index put t.offset
  byte-of t same = ap (λ page. page_byte page t.offset) (ap (page_at new) same ∙ get_or-set_same pages s.entry (Some put) None lt)

  here : (k : ℕ) → k < length ys → byte_in new (spot_of places (at + k)) ≡ slice_index ys k
  here k less =
      let f = spot-follows places at k s apart is (omega (arith, less, long, room)) in let back : (s.offset + k) - s.offset ≡ k = omega arith in
      ap (byte_in new) f.1 ∙ byte-of f.0 f.2 ∙ ap (slice_index put) f.3
      ∙ slice_index-put_inside bytes ys s.offset n long within (s.offset + k) (omega arith) (omega (arith, less, long)) ∙ ap (slice_index ys) back

  others : (x : ℕ) → (x < at) ⊎ (at + length ys ≤ x) → (o : Option Spot) → spot_of places x ≡ o → byte_in new o ≡ byte_in pages o
  others x out None e = refl
  others x out (Some t) e = elim (cases_eq t.entry s.entry) [
    | inl same ↦ (
        let far = same-page places 0 x at t s laid e is same in let old : byte_in pages (Some t) ≡ slice_index bytes t.offset = ap (λ page. page_byte page t.offset) (ap (page_at pages) same ∙ was) in
        byte-of t same ∙ (elim out [
          | inl before ↦ slice_index-put_before bytes ys s.offset n long within t.offset (omega (arith, far, before))
          | inr behind ↦ slice_index-put_behind bytes ys s.offset n long within t.offset (omega (arith, far, behind, long))
        ]) ∙ sym old)
    | inr ne ↦ ap (λ page. page_byte page t.offset) (get_or-set_other pages s.entry t.entry (Some put) None ne)
  ]

  pub is-written : IsWritten (record { places = places; pages = pages }) (record { places = places; pages = new }) at ys
  is-written = record {
    here = here;
    others = λ x out. others x out (spot_of places x) refl;
    kept = λ i x. kept-after pages s.entry bytes put lt was (spot_of places x) i;
  }

  pub length-new_page : length put ≡ length bytes
  length-new_page = length-put bytes ys s.offset n long within

-- the bytes that a spot has room for, as a number
run : (f : ℕ → ℕ) (xs : List ℕ) (n a o : ℕ) → o + n ≤ length xs → a + n ≤ address_space_end → ((k : ℕ) → k < n → f (a + k) ≡ slice_index xs (o + k))
    → bytes_from f a n ≡ take n (drop o xs)
run f xs zero a o within low same = refl
run f xs (suc n) a o within low same =
    let first : f a ≡ slice_index xs o = (let p : a ≡ a + 0 = omega arith in let q : o + 0 ≡ o = omega arith in ap f p ∙ same 0 (omega arith) ∙ ap (slice_index xs) q) in
    let next : next_address a ≡ a + 1 = omega (arith, low) in
    let rest = run f xs n (a + 1) (suc o) (omega (arith, within)) (omega (arith, low)) (λ k lt. let p : (a + 1) + k ≡ a + suc k = omega arith in let q : o + suc k ≡ suc o + k = omega arith in ap f p ∙ same (suc k) (omega (arith, lt)) ∙ ap (slice_index xs) q) in
    ap (λ b. b ∷ bytes_from f (next_address a) n) first ∙ ap (λ x. slice_index xs o ∷ bytes_from f x n) next ∙ ap (λ bs. slice_index xs o ∷ bs) rest
    ∙ sym (ap (take (suc n)) (drop-cons xs o 0 (omega (arith, within))))

nothing : (f : ℕ → ℕ) (n a : ℕ) → a + n ≤ address_space_end → ((k : ℕ) → k < n → f (a + k) ≡ 0) → little_endian (bytes_from f a n) ≡ 0
nothing f zero a low same = refl
nothing f (suc n) a low same =
    let first : f a ≡ 0 = (let p : a ≡ a + 0 = omega arith in ap f p ∙ same 0 (omega arith)) in
    let next : next_address a ≡ a + 1 = omega (arith, low) in
    let rest = ap (λ x. little_endian (bytes_from f x n)) next ∙ nothing f n (a + 1) (omega (arith, low)) (λ k lt. let p : (a + 1) + k ≡ a + suc k = omega arith in ap f p ∙ same (suc k) (omega (arith, lt))) in omega (arith, first, rest)

module _ (banks : BanksData) (at n : ℕ) (s : Spot) (apart : AreApart (ranges_of banks.places)) (is : spot_of banks.places at ≡ Some s) (room : n ≤ s.room) where
  byte-near : (k : ℕ) → k < n → byte_at banks (at + k) ≡ page_byte (page_at banks.pages s.entry) (s.offset + k)
  byte-near k lt = let f = spot-follows banks.places at k s apart is (omega (arith, lt, room)) in
      ap (byte_in banks.pages) f.1 ∙ ap (λ e. page_byte (page_at banks.pages e) f.0.offset) f.2 ∙ ap (page_byte (page_at banks.pages s.entry)) f.3

  -- they end in the address space
  room-below : (m : ℕ) → m ≤ s.room → at + m ≤ address_space_end
  room-below zero le = let low = spot-below banks.places at s is in omega (arith, low)
  room-below (suc m) le = let f = spot-follows banks.places at m s apart is (omega (arith, le)) in let low = spot-below banks.places (at + m) f.0 f.1 in omega (arith, low)

  pub number-in_page : (bytes : List ℕ) → page_at banks.pages s.entry ≡ Some bytes → s.offset + n ≤ length bytes
      → little_endian (slice_range bytes s.offset (s.offset + n)) ≡ little_endian (bytes_from (byte_at banks) at n)
  number-in_page bytes page within = let width : (s.offset + n) - s.offset ≡ n = omega arith in
      ap (λ m. little_endian (take m (drop s.offset bytes))) width
      ∙ sym (ap little_endian (run (byte_at banks) bytes n at s.offset within (room-below n room) (λ k lt. byte-near k lt ∙ ap (λ p. page_byte p (s.offset + k)) page)))

  pub number-of_none : page_at banks.pages s.entry ≡ None → 0 ≡ little_endian (bytes_from (byte_at banks) at n)
  number-of_none page = sym (nothing (byte_at banks) n at (room-below n room) (λ k lt. byte-near k lt ∙ ap (λ p. page_byte p (s.offset + k)) page))

-- the address after one that was counted on
next_of : (at k : ℕ) → next_address ((at + k) % 2 ^ 64) ≡ (at + (k + 1)) % 2 ^ 64
next_of at k = mod-add-mod (at + k) (2 ^ 64) 1 ∙ ap (λ n. n % 2 ^ 64) (omega arith)

-- a number is read from its last byte down: one byte more in front
module _ (f : ℕ → ℕ) (at k n v byte : ℕ) (some : 0 < k) (up : k ≤ n) where
  one_more : n - (k - 1) ≡ suc (n - k)
  one_more = omega arith

  behind : next_address ((at + (k - 1)) % 2 ^ 64) ≡ (at + k) % 2 ^ 64
  behind = next_of at (k - 1) ∙ ap (λ m. (at + m) % 2 ^ 64) (omega arith)

  pub number-more : byte ≡ f ((at + (k - 1)) % 2 ^ 64) → v ≡ little_endian (bytes_from f ((at + k) % 2 ^ 64) (n - k))
      → v * 256 + byte ≡ little_endian (bytes_from f ((at + (k - 1)) % 2 ^ 64) (n - (k - 1)))
  number-more first rest =
      let e : little_endian (bytes_from f ((at + (k - 1)) % 2 ^ 64) (n - (k - 1)))
      ≡ f ((at + (k - 1)) % 2 ^ 64) + 256 * little_endian (bytes_from f ((at + k) % 2 ^ 64) (n - k)) =
      ap (λ m. little_endian (bytes_from f ((at + (k - 1)) % 2 ^ 64) m)) one_more
      ∙ ap (λ a. f ((at + (k - 1)) % 2 ^ 64) + 256 * little_endian (bytes_from f a (n - k))) behind in
      omega (arith, e, first, rest)

pub nothing-written : (banks : BanksData) (at : ℕ) → IsWritten banks banks at []
nothing-written banks at = record { here = λ k lt. absurd (omega (arith, lt)); others = λ x out. refl; kept = refl }

-- and one byte more after those that are written
pub written-more : (old mid new : BanksData) (at n byte : ℕ) (ys zs : List ℕ) → length ys ≡ n → zs ≡ ys ++ byte ∷ [] → IsWritten old mid at ys → IsWritten mid new (at + n) (byte ∷ []) → IsWritten old new at zs
written-more old mid new at n byte ys zs long more first last = subst (IsWritten old new at) (sym more) (record {
  here = λ k lt. here k (omega (arith, lt, longer));
  others = λ x out. last.others x (later x out) ∙ first.others x (earlier x out);
  kept = last.kept ∙ first.kept;
})
  where
    longer : length (ys ++ byte ∷ []) ≡ n + 1
    longer = omega (arith, length-append ys (byte ∷ []), long)

    here : (k : ℕ) → k < n + 1 → byte_at new (at + k) ≡ slice_index (ys ++ byte ∷ []) k
    here k lt = elim (cases_eq k n) [
      | inl e ↦ (
          let same : at + k ≡ (at + n) + 0 = omega (arith, e) in let place : k - n ≡ 0 = omega (arith, e) in
          ap (byte_at new) same ∙ last.here 0 (omega arith) ∙ sym (get_or-append_right ys (byte ∷ []) n k 0 long (omega (arith, e)) ∙ ap (slice_index (byte ∷ [])) place))
      | inr ne ↦ (let less : k < n = omega (arith, lt, ne) in
          last.others (at + k) (inl (omega (arith, less))) ∙ first.here k (omega (arith, less, long)) ∙ sym (get_or_append_left ys (byte ∷ []) 0 k (omega (arith, less, long))))
    ]

    later : (x : ℕ) → (x < at) ⊎ (at + length (ys ++ byte ∷ []) ≤ x) → (x < at + n) ⊎ ((at + n) + 1 ≤ x)
    later x (inl b) = inl (omega (arith, b))
    later x (inr b) = inr (omega (arith, b, longer))

    earlier : (x : ℕ) → (x < at) ⊎ (at + length (ys ++ byte ∷ []) ≤ x) → (x < at) ⊎ (at + length ys ≤ x)
    earlier x (inl b) = inl b
    earlier x (inr b) = inr (omega (arith, b, longer, long))
